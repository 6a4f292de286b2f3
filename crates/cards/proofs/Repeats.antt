-- No repeat by places is no repeat by counts: cards of which no two places hold the same are each there at most once, and the
-- other way round. The repeats of a list are those of its first cards, and those from there on.
-- Assumes nothing.
use Prim.Native.Nat.{ℕ, zero, suc, ◌+◌, ◌-◌, ◌≤◌, ◌<◌}
use mathlib.Core.Path.{◌≡◌, refl, ap, sym, ◌∙◌}
use mathlib.Core.Bool.{Bool, true, false, ◌||◌}
use mathlib.Core.List.{List, [], ◌∷◌}
use native.Mathlib.Omega.{arith}
use lib.Dec.{eqb, ltb}
use lib.ListN.{length, get_or, take, length-take}
use lib.Seq.{get_or-take}
use borrow.Author.Tests.{eqb-true, eqb-false, eq-eqb, ne_eqb, ltb-true, ltb-false}
use Rattle.counting.specs.Choose.{one}
use Rattle.counting.specs.Count.{count}
use Rattle.counting.proofs.Tests.{or_false, same_test}
use Rattle.counting.proofs.Ranges.{below_suc, none_at, none_of, some_here}
use Rattle.cards.specs.Deck.{same_at, repeated_at, repeats, repeats_from}

-- ---- by places

pub places_differ : (cs : List ℕ) → repeats cs ≡ false → (i : ℕ) → i < length cs → (j : ℕ) → j < i → get_or cs i 0 ≡ get_or cs j 0 → ⊥
unfolding repeats repeated_at
places_differ cs e i h j l = eqb-false _ _ (none_at (same_at cs i) i (none_at (repeated_at cs) (length cs) e i h) j l)

pub differ_places : (cs : List ℕ) → ((i : ℕ) → i < length cs → (j : ℕ) → j < i → get_or cs i 0 ≡ get_or cs j 0 → ⊥) → repeats cs ≡ false
unfolding repeats repeated_at
differ_places cs d = none_of (repeated_at cs) (length cs) (λ i h. none_of (same_at cs i) i (λ j l. ne_eqb _ _ (d i h j l)))

-- ---- from a place on

-- none of the places from n to below i holds a card of an earlier place
abbrev pub NewTo : ℕ → List ℕ → ℕ → Type 0
NewTo n cs i = (k : ℕ) → n ≤ k → k < i → repeated_at cs k ≡ false

module _ (n : ℕ) (cs : List ℕ) where
  pub new_more : (i : ℕ) → NewTo n cs i → repeated_at cs i ≡ false → NewTo n cs (i + 1)
  new_more i new e k p q = below_suc (λ m. n ≤ m → repeated_at cs m ≡ false) i k (omega arith) (λ h. e) (λ l h. new k h l) p

  pub all_new : (i : ℕ) → length cs ≤ i → NewTo n cs i → repeats_from n cs ≡ false
  unfolding repeats_from
  all_new i h new = none_of (λ k. repeated_at cs (n + k)) (length cs - n) (λ k l. new (n + k) (omega arith) (omega arith))

  at_place_lem : (i : ℕ) → n ≤ i → repeated_at cs (n + (i - n)) ≡ repeated_at cs i
  at_place_lem i p = let e : n + (i - n) ≡ i = omega arith in ap (repeated_at cs) e

  pub repeat_here : (i : ℕ) → n ≤ i → i < length cs → repeated_at cs i ≡ true → repeats_from n cs ≡ true
  unfolding repeats_from
  repeat_here i p q e = some_here (λ k. repeated_at cs (n + k)) (length cs - n) (i - n) (omega arith) (at_place_lem i p ∙ e)

  new_all : repeats_from n cs ≡ false → NewTo n cs (length cs)
  unfolding repeats_from
  new_all e i p q = sym (at_place_lem i p) ∙ none_at (λ k. repeated_at cs (n + k)) (length cs - n) e (i - n) (omega arith)

-- the repeats of a list are those of its first n cards, and those from there on
module _ (n : ℕ) (cs : List ℕ) where
  first_differ : repeats cs ≡ false → repeats (take n cs) ≡ false
  first_differ e = differ_places (take n cs) λ i h j l same.
      let low : (i < n) × (i < length cs) = omega (arith, length-take n cs) in
      places_differ cs e i low.1 j l (sym (get_or-take n cs i 0 low.0) ∙ same ∙ get_or-take n cs j 0 (omega arith))

  rest_new : repeats cs ≡ false → repeats_from n cs ≡ false
  unfolding repeats
  rest_new e = all_new n cs (length cs) (omega arith) (λ k p q. none_at (repeated_at cs) (length cs) e k q)

  joined : repeats (take n cs) ≡ false → repeats_from n cs ≡ false → repeats cs ≡ false
  unfolding repeated_at
  joined first rest = differ_places cs (λ i h j l same. go i h j l same (ltb i n) refl)
    where
      go : (i : ℕ) → i < length cs → (j : ℕ) → j < i → get_or cs i 0 ≡ get_or cs j 0 → (t : Bool) → ltb i n ≡ t → ⊥
      go i h j l same true t =
          let low : i < n = ltb-true i n t in
          places_differ (take n cs) first i (omega (arith, length-take n cs)) j l
          (get_or-take n cs i 0 low ∙ same ∙ sym (get_or-take n cs j 0 (omega arith)))
      go i h j l same false t = eqb-false _ _ (none_at (same_at cs i) i (new_all n cs rest i (ltb-false i n t) h) j l) same

  pub repeats_split : repeats cs ≡ (repeats (take n cs) || repeats_from n cs)
  repeats_split =
      same_test (repeats cs) (repeats (take n cs) || repeats_from n cs) (λ e. simp (first_differ e, rest_new e))
      (λ e. let t = or_false (repeats (take n cs)) (repeats_from n cs) e in joined t.0 t.1)

-- ---- by counts: how often the card c is there

abbrev pub copies : ℕ → List ℕ → ℕ
copies c cs = count (λ d. eqb d c) cs

absent : (c : ℕ) (cs : List ℕ) → ((k : ℕ) → k < length cs → get_or cs k 0 ≡ c → ⊥) → copies c cs ≡ 0
unfolding count
absent c [] h = refl
absent c (x ∷ xs) h = omega (arith, ap one (ne_eqb x c (h 0 (omega arith))), absent c xs (λ k p. h (suc k) (omega arith)))

present : (c : ℕ) (cs : List ℕ) (k : ℕ) → k < length cs → get_or cs k 0 ≡ c → 1 ≤ copies c cs
unfolding count
present c [] k h e = absurd (omega arith)
present c (x ∷ xs) zero h e = omega (arith, ap one (eq-eqb x c e))
present c (x ∷ xs) (suc k) h e = omega (arith, present c xs k (omega arith) e)

at_most_once : (cs : List ℕ) → ((i : ℕ) → i < length cs → (j : ℕ) → j < i → get_or cs i 0 ≡ get_or cs j 0 → ⊥) → (c : ℕ) → copies c cs ≤ 1
unfolding count
at_most_once [] d c = omega arith
at_most_once (x ∷ xs) d c = go (eqb x c) refl (at_most_once xs (λ i h j l. d (suc i) (omega arith) (suc j) (omega arith)) c)
  where
    go : (t : Bool) → eqb x c ≡ t → copies c xs ≤ 1 → one (eqb x c) + copies c xs ≤ 1
    go true e r =
        omega (arith, ap one e, absent c xs (λ k p q. d (suc k) (omega arith) 0 (omega arith) (q ∙ sym (eqb-true x c e))))
    go false e r = omega (arith, ap one e)

twice : (c : ℕ) (cs : List ℕ) (i j : ℕ) → i < length cs → j < i → get_or cs i 0 ≡ c → get_or cs j 0 ≡ c → 2 ≤ copies c cs
unfolding count
twice c [] i j h l p q = absurd (omega arith)
twice c (x ∷ xs) zero j h l p q = absurd (omega arith)
twice c (x ∷ xs) (suc i) zero h l p q = omega (arith, ap one (eq-eqb x c q), present c xs i (omega arith) p)
twice c (x ∷ xs) (suc i) (suc j) h l p q = omega (arith, twice c xs i j (omega arith) (omega arith) p q)

-- ---- the two forms joined

pub once_each : (cs : List ℕ) → repeats cs ≡ false → (c : ℕ) → copies c cs ≤ 1
once_each cs e = at_most_once cs (places_differ cs e)

pub each_once : (cs : List ℕ) → ((c : ℕ) → copies c cs ≤ 1) → repeats cs ≡ false
each_once cs o = differ_places cs (λ i h j l e. let two = twice (get_or cs j 0) cs i j h l e refl in let most = o (get_or cs j 0) in omega arith)
