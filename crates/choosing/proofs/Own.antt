-- The choices of a play, written again one by one, by street and then by rising seat, lead to it.
-- Assumes nothing.
use Prim.Native.Nat.{ℕ, ◌+◌, ◌-◌, ◌*◌, ◌≤◌, ◌<◌}
use mathlib.Core.Path.{◌≡◌, refl, sym, ap, ap₂, ◌∙◌}
use mathlib.Core.Bool.{Bool, true, false, not, ◌||◌}
use mathlib.Core.List.{List}
use native.Mathlib.Omega.{arith}
use lib.Dec.{eqb}
use lib.ListN.{get_or}
use borrow.Author.Tests.{eqb-true, eqb-false, eq-eqb, ne_eqb, lt-ltb, not-false}
use Rattle.counting.specs.Count.{every_of}
use Rattle.counting.proofs.Tests.{or_false}
use Rattle.counting.proofs.Firsts.{firsts, firsts_in, firsts_out, firsts_more, firsts_skip, firsts_all, firsts_none}
use Rattle.records.specs.Bytes.{zero_from, are_bytes}
use Rattle.records.specs.Seats.{place}
use Rattle.choosing.specs.declared.Play.{Play}
use Rattle.choosing.specs.Streets.{raise_on, fold_of, has_chosen, streets_over, no_play}
use Rattle.choosing.specs.Choice.{choice_refusal, chosen, with_choice, choice_record}
use Rattle.choosing.specs.Slots.{play_fits}
use Rattle.choosing.proofs.Slot.{Slot, slots_out}
use Rattle.choosing.proofs.Street.{street_over, street_is, open_at, closed_of, closed_raised}
use Rattle.choosing.proofs.Allowed.{Sized, choice_allowed}
use Rattle.choosing.proofs.Folds.{first_folds, folds_in, folds_out, folds_skip, folds_more, folds_all, folds_none}

-- the choices of the first i slots, street by street: slot s * 7 + k is street s and place k
unfoldable pub first_choices : ℕ → Play → Play
first_choices i p = record { raises = firsts i p.raises; folds = first_folds i p.folds }

abbrev play : List ℕ → List ℕ → Play
play x f = record { raises = x; folds = f }

pub choices_none : (p : Play) → Sized p → first_choices 0 p ≡ no_play
unfolding first_choices
choices_none p z = ap₂ play (firsts_none 21 p.raises z.raises) (folds_none p.folds z.folds)

pub choices_all : (antes : List ℕ) (p : Play) (o : ℕ) → Sized p → play_fits antes p o ≡ true → first_choices 21 p ≡ p
unfolding first_choices
choices_all antes p o z h =
    ap₂ play (firsts_all 21 p.raises z.raises) (folds_all p.folds z.folds (λ k l. (slots_out antes p o h 0 k (omega arith) l).fold3))

-- ---- a slot where the seat has not chosen

pub slot_empty : (p : Play) (s k : ℕ) → Sized p → k < 7 → has_chosen p s k ≡ false
    → first_choices (s * 7 + k + 1) p ≡ first_choices (s * 7 + k) p
unfolding first_choices has_chosen
slot_empty p s k z h e =
    let n = or_false (not (eqb (raise_on p s k) 0)) (eqb (fold_of p k) (s + 1)) e in
    ap₂ play
    (firsts_skip (s * 7 + k) p.raises (eqb-true (raise_on p s k) 0 (not-false _ n.0)))
    (folds_skip s k p.folds h z.folds (eqb-false (fold_of p k) (s + 1) n.1))

-- ---- a seat that has chosen, in numbers: it raised, or folded on that street

has : (s f x : ℕ) (t : Bool) → eqb x 0 ≡ t → (not t || eqb f (s + 1)) ≡ true → 1 ≤ x + (1 - ((f - (s + 1)) + (s + 1 - f)))
has s f x true e h =
    let g = eqb-true f (s + 1) h in
    omega arith
has s f x false e h =
    let n : (x ≡ 0 → ⊥) = eqb-false x 0 e in
    omega arith

chosen_has : (p : Play) (s k : ℕ) → has_chosen p s k ≡ true → 1 ≤ raise_on p s k + (1 - ((fold_of p k - (s + 1)) + (s + 1 - fold_of p k)))
unfolding has_chosen
chosen_has p s k h = has s (fold_of p k) (raise_on p s k) _ refl h

-- and did not fold before
no_earlier : (s f x : ℕ) → x ≤ 3 * ((f + 4 * (1 - f)) - (s + 1)) → 1 ≤ x + (1 - ((f - (s + 1)) + (s + 1 - f))) → 0 < f → s + 1 ≤ f
no_earlier s f x e h n = omega arith

pub chosen-opened : (antes : List ℕ) (p : Play) (o s k : ℕ) → s < 3 → k < 7 → play_fits antes p o ≡ true → has_chosen p s k ≡ true → s < o
chosen-opened antes p o s k l h fits c =
    let v = slots_out antes p o fits s k l h in
    omega (arith, chosen_has p s k c)

pub own_bytes : (antes : List ℕ) (p : Play) (o s k : ℕ) → s < 3 → k < 7 → play_fits antes p o ≡ true → are_bytes (choice_record k (raise_on p s k)) ≡ true
unfolding are_bytes every_of choice_record
own_bytes antes p o s k l h fits =
    let v = slots_out antes p o fits s k l h in
    simp (lt-ltb (k + 1) 256 (omega arith), lt-ltb (raise_on p s k) 256 (omega arith))

-- ---- a slot where the seat has chosen: the choice is made on its street, is accepted, and adds the slot

module _ (antes : List ℕ) (p : Play) (s k : ℕ) (long : Sized p) (ls : s < 3) (lk : k < 7) (fits : play_fits antes p (streets_over antes p + 1) ≡ true)
    (Has-chosen : has_chosen p s k ≡ true) where
  slot : Slot (streets_over antes p + 1) s (get_or antes k 0) (fold_of p k) (raise_on p s k)
  slot = slots_out antes p (streets_over antes p + 1) fits s k ls lk

  in_play : 0 < get_or antes k 0
  in_play = omega (arith, slot, chosen_has p s k Has-chosen)

  stays : fold_of (first_choices (s * 7 + k) p) k ≡ 0
  unfolding first_choices
  stays = go _ refl
    where
      go : (t : Bool) → eqb (fold_of p k) 0 ≡ t → get_or (first_folds (s * 7 + k) p.folds) k 0 ≡ 0
      go true e =
          let z = eqb-true (fold_of p k) 0 e in
          folds_in (s * 7 + k) p.folds k (omega arith) ∙ z
      go false e =
          let n : (fold_of p k ≡ 0 → ⊥) = eqb-false (fold_of p k) 0 e in
          let m = no_earlier s (fold_of p k) (raise_on p s k) slot.early (chosen_has p s k Has-chosen) (omega arith) in
          folds_out (s * 7 + k) p.folds k (omega arith)

  free : raise_on (first_choices (s * 7 + k) p) s k ≡ 0
  unfolding first_choices
  free = firsts_out (s * 7 + k) p.raises (s * 7 + k) (omega arith)

  -- on the streets before, each seat still in has raised
  earlier : (i : ℕ) → i < s → (j : ℕ) → j < 7 → 0 < get_or antes j 0
      → fold_of (first_choices (s * 7 + k) p) j ≡ 0 → raise_on (first_choices (s * 7 + k) p) i j ≡ 0 → ⊥
  unfolding first_choices
  earlier i h j g a f x =
      let o = chosen-opened antes p (streets_over antes p + 1) s k ls lk fits Has-chosen in
      let v = slots_out antes p (streets_over antes p + 1) fits i j (omega arith) g in
      let x0 = firsts_in (s * 7 + k) p.raises (i * 7 + j) (omega arith) in
      let f0 = folds_in (s * 7 + k) p.folds j (omega arith) in
      let m = closed_raised antes p i j (street_over antes p i (omega arith) (omega arith)) g a (sym f0 ∙ f) in
      omega arith

  pub own_street : streets_over antes (first_choices (s * 7 + k) p) ≡ s
  own_street =
      street_is antes (first_choices (s * 7 + k) p) s ls
      (λ i h. closed_of antes (first_choices (s * 7 + k) p) i (earlier i h))
      (open_at antes (first_choices (s * 7 + k) p) s k lk in_play stays free)

  seat_at : place (k + 1) ≡ k
  seat_at = omega arith

  slot_at : streets_over antes (first_choices (s * 7 + k) p) * 7 + place (k + 1) ≡ s * 7 + k
  slot_at = omega (arith, own_street)

  pub own_choice : choice_refusal antes (first_choices (s * 7 + k) p) (choice_record k (raise_on p s k)) ≡ 0
  unfolding zero_from every_of choice_record
  own_choice =
      choice_allowed antes (first_choices (s * 7 + k) p) (choice_record k (raise_on p s k)) (record {
        zeros = refl;
        low = omega arith;
        high = omega arith;
        choice = slot.top;
        plays = rw seat_at in_play;
        stays = ap (fold_of (first_choices (s * 7 + k) p)) seat_at ∙ stays;
        free = ap (λ (i : ℕ). get_or (first_choices (s * 7 + k) p).raises i 0) slot_at ∙ free;
      })

  -- the next play, by a raise and by a fold
  raise_next : (raise_on p s k ≡ 0 → ⊥) → chosen (first_choices (s * 7 + k) p) s k (raise_on p s k) ≡ first_choices (s * 7 + k + 1) p
  unfolding chosen first_choices
  raise_next n =
      let v = slot in
      simp (ne_eqb (raise_on p s k) 0 n)
      (ap₂ play (sym (firsts_more (s * 7 + k) p.raises)) (sym (folds_skip s k p.folds lk long.folds (λ f. omega arith))))

  fold_next : raise_on p s k ≡ 0 → chosen (first_choices (s * 7 + k) p) s k (raise_on p s k) ≡ first_choices (s * 7 + k + 1) p
  unfolding chosen first_choices
  fold_next e =
      let f : fold_of p k ≡ s + 1 = omega (arith, chosen_has p s k Has-chosen) in
      simp (eq-eqb (raise_on p s k) 0 e)
      (ap₂ play (sym (firsts_skip (s * 7 + k) p.raises e)) (sym (folds_more s k p.folds lk long.folds f)))

  pub own_next : with_choice antes (first_choices (s * 7 + k) p) (choice_record k (raise_on p s k)) ≡ first_choices (s * 7 + k + 1) p
  unfolding choice_record
  own_next = ap₂ (λ (i j : ℕ). chosen (first_choices (s * 7 + k) p) i j (raise_on p s k)) own_street seat_at ∙ go _ refl
    where
      go : (t : Bool) → eqb (raise_on p s k) 0 ≡ t → chosen (first_choices (s * 7 + k) p) s k (raise_on p s k) ≡ first_choices (s * 7 + k + 1) p
      go true e = fold_next (eqb-true (raise_on p s k) 0 e)
      go false e = raise_next (eqb-false (raise_on p s k) 0 e)
