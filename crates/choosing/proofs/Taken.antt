-- An accepted choice is one more: its seat had not chosen on the street, now has, and nothing else changes.
-- Assumes nothing.
use Prim.Native.Nat.{ℕ, zero, suc, ◌+◌, ◌*◌, ◌≤◌, ◌<◌}
use mathlib.Core.Path.{◌≡◌, refl, sym, ap, ◌∙◌}
use mathlib.Core.Bool.{Bool, true, false, not}
use mathlib.Core.List.{List}
use native.Mathlib.Omega.{arith}
use lib.Dec.{eqb}
use lib.Seq.{get_or-set_same, get_or-set_other}
use borrow.Author.Tests.{eqb-true, eqb-false, eq-eqb, ne_eqb}
use Rattle.counting.specs.Count.{tally, sum_below}
use Rattle.counting.proofs.Tests.{second_holds}
use Rattle.counting.proofs.Ranges.{tally_le, tally_same, tally_one_more}
use Rattle.records.specs.Bytes.{byte}
use Rattle.records.specs.Seats.{place}
use Rattle.choosing.specs.declared.Play.{Play}
use Rattle.choosing.specs.Streets.{raise_on, fold_of, has_chosen, streets_over, choices_taken, no_play}
use Rattle.choosing.specs.Choice.{choice_refusal, with_choice}
use Rattle.choosing.proofs.Allowed.{Sized, choice_accepted, with_fold, with_raise, by_choice}

pub none_taken : choices_taken no_play ≡ 0
unfolding choices_taken sum_below tally has_chosen
none_taken = refl

pub choices_le : (p : Play) → choices_taken p ≤ 21
unfolding choices_taken sum_below
choices_le p = omega (arith, tally_le 7 (has_chosen p 0), tally_le 7 (has_chosen p 1), tally_le 7 (has_chosen p 2))

-- one more on one of three streets
sum_more : (f g : ℕ → ℕ) (s : ℕ) → s < 3 → g s ≡ f s + 1 → ((i : ℕ) → i < 3 → (i ≡ s → ⊥) → g i ≡ f i) → sum_below 3 g ≡ sum_below 3 f + 1
unfolding sum_below
sum_more f g zero l e h = omega (arith, h 1 (omega arith) (λ z. omega arith), h 2 (omega arith) (λ z. omega arith))
sum_more f g (suc zero) l e h = omega (arith, h 0 (omega arith) (λ z. omega arith), h 2 (omega arith) (λ z. omega arith))
sum_more f g (suc (suc zero)) l e h = omega (arith, h 0 (omega arith) (λ z. omega arith), h 1 (omega arith) (λ z. omega arith))
sum_more f g (suc (suc (suc s))) l e h = absurd (omega arith)

-- q is p with one choice more: c, by the seat at place k on street s
pub record OneMore (p : Play) (s k c : ℕ) (q : Play) : Type 0 where
  pub not_yet : has_chosen p s k ≡ false
  pub now : has_chosen q s k ≡ true
  pub raise : raise_on q s k ≡ c
  pub others : (i j : ℕ) → (i * 7 + j ≡ s * 7 + k → ⊥) → (has_chosen p i j ≡ has_chosen q i j) × (raise_on p i j ≡ raise_on q i j)

-- the seat at place k, which had not chosen, chooses c on street s
module _ (p : Play) (s k c : ℕ) (long : Sized p) (ls : s < 3) (lk : k < 7) (stays : fold_of p k ≡ 0) (free : raise_on p s k ≡ 0) where
  not_before : has_chosen p s k ≡ false
  unfolding has_chosen
  not_before =
      let n : (0 ≡ s + 1 → ⊥) = λ e. omega arith in
      simp (stays, free, ne_eqb 0 (s + 1) n)

  fold_others : (i j : ℕ) → (i * 7 + j ≡ s * 7 + k → ⊥) → (t : Bool) → eqb j k ≡ t → has_chosen p i j ≡ has_chosen (with_fold p s k) i j
  unfolding has_chosen
  fold_others i j n true e =
      let jk = eqb-true j k e in
      let f = ap (fold_of p) jk ∙ stays in
      let g = ap (fold_of (with_fold p s k)) jk ∙ get_or-set_same p.folds k (s + 1) 0 (omega (arith, long.folds)) in
      let f_no : (fold_of p j ≡ i + 1 → ⊥) = λ z. omega arith in
      let g_no : (fold_of (with_fold p s k) j ≡ i + 1 → ⊥) = λ z. n (omega arith) in
      simp (ne_eqb (fold_of p j) (i + 1) f_no, ne_eqb (fold_of (with_fold p s k) j) (i + 1) g_no)
  fold_others i j n false e = simp (get_or-set_other p.folds k j (s + 1) 0 (eqb-false j k e))

  fold_more : eqb c 0 ≡ true → OneMore p s k c (with_fold p s k)
  unfolding has_chosen
  fold_more e =
      record {
        not_yet = not_before;
        now = second_holds (not (eqb (raise_on p s k) 0)) (eqb (fold_of (with_fold p s k) k) (s + 1))
            (eq-eqb (fold_of (with_fold p s k) k) (s + 1) (get_or-set_same p.folds k (s + 1) 0 (omega (arith, long.folds))));
        raise = free ∙ sym (eqb-true c 0 e);
        others = λ i j n. (fold_others i j n (eqb j k) refl, refl);
      }

  raise_more : eqb c 0 ≡ false → OneMore p s k c (with_raise p s k c)
  unfolding has_chosen
  raise_more e =
      let new = get_or-set_same p.raises (s * 7 + k) c 0 (omega (arith, long.raises)) in
      record {
        not_yet = not_before;
        now = simp (new, e);
        raise = new;
        others = λ i j n. let old = get_or-set_other p.raises (s * 7 + k) (i * 7 + j) c 0 n in (simp old, sym old);
      }

-- an accepted choice makes such a play, on the street that is open
pub choice_more : (antes : List ℕ) (p : Play) (b : List ℕ) → Sized p → streets_over antes p < 3 → choice_refusal antes p b ≡ 0
    → OneMore p (streets_over antes p) (place (byte b 1)) (byte b 2) (with_choice antes p b)
choice_more antes p b long here e =
    let v = choice_accepted antes p b e in
    let s = streets_over antes p in
    let k = place (byte b 1) in
    let lk : k < 7 = omega (arith, v.low, v.high) in
    by_choice (OneMore p s k (byte b 2)) p s k (byte b 2) (fold_more p s k (byte b 2) long here lk v.stays v.free)
    (raise_more p s k (byte b 2) long here lk v.stays v.free)

-- and so there is one more
one_more : (p q : Play) (s k c : ℕ) → s < 3 → k < 7 → OneMore p s k c q → choices_taken q ≡ choices_taken p + 1
unfolding choices_taken
one_more p q s k c ls lk m =
    sum_more (λ i. tally 7 (has_chosen p i)) (λ i. tally 7 (has_chosen q i)) s ls
    (tally_one_more 7 k (has_chosen p s) (has_chosen q s) lk m.not_yet m.now (λ j n. (m.others s j (λ e. n (omega arith))).0))
    (λ i l n. sym (tally_same 7 (has_chosen p i) (has_chosen q i) (λ j h. (m.others i j (λ e. n (omega arith))).0)))

pub choice_taken : (antes : List ℕ) (p : Play) (b : List ℕ) → Sized p → streets_over antes p < 3 → choice_refusal antes p b ≡ 0
    → choices_taken (with_choice antes p b) ≡ choices_taken p + 1
choice_taken antes p b long here e =
    let v = choice_accepted antes p b e in
    one_more p (with_choice antes p b) (streets_over antes p) (place (byte b 1)) (byte b 2) here (omega (arith, v.low, v.high)) (choice_more antes p b long here e)
