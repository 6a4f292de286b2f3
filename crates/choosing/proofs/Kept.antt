-- An accepted choice keeps what the test says of each seat on each street.
-- Assumes nothing.
use Prim.Native.Nat.{ℕ, ◌+◌, ◌*◌, ◌≤◌, ◌<◌}
use mathlib.Core.Path.{◌≡◌, refl, ap, ◌∙◌}
use mathlib.Core.Bool.{Bool, true, false}
use mathlib.Core.List.{List}
use native.Mathlib.Omega.{arith}
use lib.Dec.{eqb, ltb}
use lib.ListN.{get_or}
use lib.Seq.{get_or-set_same, get_or-set_other}
use borrow.Author.Tests.{eqb-true, eqb-false, ltb-true, ltb-false}
use Rattle.records.specs.Bytes.{byte}
use Rattle.records.specs.Seats.{place}
use Rattle.choosing.specs.declared.Play.{Play}
use Rattle.choosing.specs.Streets.{raise_on, fold_of, streets_over}
use Rattle.choosing.specs.Choice.{choice_refusal, chosen, with_choice}
use Rattle.choosing.specs.Slots.{play_fits}
use Rattle.choosing.proofs.Slot.{Slot, Slots, slots_out, slots_in}
use Rattle.choosing.proofs.Street.{street_over, streets_grow, closed_raised, Fills, filled_closes, set_fills}
use Rattle.choosing.proofs.Allowed.{Sized, with_fold, with_raise, choice_accepted, fold_or_raise}

-- a choice only fills in zeros
raise_fills : (p : Play) (s k c : ℕ) → raise_on p s k ≡ 0 → Fills p (with_raise p s k c)
raise_fills p s k c x = record { folds = λ j. omega arith; raises = set_fills p.raises (s * 7 + k) c x }

fold_fills : (p : Play) (s k : ℕ) → fold_of p k ≡ 0 → Fills p (with_fold p s k)
fold_fills p s k f = record { folds = set_fills p.folds k (s + 1) f; raises = λ j. omega arith }

pub chosen_fills : (p : Play) (s k c : ℕ) → fold_of p k ≡ 0 → raise_on p s k ≡ 0 → Fills p (chosen p s k c)
chosen_fills p s k c f x = fold_or_raise (Fills p) p s k c (fold_fills p s k f) (raise_fills p s k c x)

-- the seat at place k, which has still to choose, chooses c on the street that is open: its raise, and its fold
module _ (antes : List ℕ) (p : Play) (k c : ℕ) (long : Sized p) (w : Slots antes p (streets_over antes p + 1)) (here : streets_over antes p < 3)
    (seat : k < 7) (in_play : 0 < get_or antes k 0) (stays : fold_of p k ≡ 0) (free : raise_on p (streets_over antes p) k ≡ 0) (top : c ≤ 3) where
  abbrev now : ℕ
  now = streets_over antes p

  abbrev up : Play
  up = with_raise p now k c

  abbrev out : Play
  out = with_fold p now k

  -- it has raised on the streets before, and not since
  before : (s : ℕ) → s < now → 1 ≤ raise_on p s k
  before s h = closed_raised antes p s k (street_over antes p s (omega arith) h) seat in_play stays

  after : (s : ℕ) → s < 3 → now ≤ s → (t : Bool) → eqb s now ≡ t → raise_on p s k ≡ 0
  after s l h true e = ap (λ (i : ℕ). raise_on p i k) (eqb-true s now e) ∙ free
  after s l h false e =
      let n : (s ≡ now → ⊥) = eqb-false s now e in
      omega (arith, (w s k l seat).unlocked)

  up_later : now ≤ streets_over antes up
  up_later = streets_grow antes p up (filled_closes antes p up (raise_fills p now k c free))

  out_later : now ≤ streets_over antes out
  out_later = streets_grow antes p out (filled_closes antes p out (fold_fills p now k stays))

  -- each slot after the raise
  slot_up : (s j : ℕ) → s < 3 → j < 7 → (t : Bool) → eqb (s * 7 + j) (now * 7 + k) ≡ t
      → Slot (streets_over antes up + 1) s (get_or antes j 0) (fold_of p j) (raise_on up s j)
  slot_up s j l h true e =
      let i : s * 7 + j ≡ now * 7 + k = eqb-true (s * 7 + j) (now * 7 + k) e in
      let jk : j ≡ k = omega arith in
      let f = ap (fold_of p) jk ∙ stays in
      let a = ap (λ (n : ℕ). get_or antes n 0) jk in
      let x = ap (λ (n : ℕ). get_or up.raises n 0) i ∙ get_or-set_same p.raises (now * 7 + k) c 0 (omega (arith, long.raises)) in
      let g = up_later in
      omega arith
  slot_up s j l h false e =
      let x = get_or-set_other p.raises (now * 7 + k) (s * 7 + j) c 0 (eqb-false (s * 7 + j) (now * 7 + k) e) in
      let g = up_later in
      let v = w s j l h in
      omega arith

  -- after the fold: of the seat that folds, and of each
  slot_gone : (s : ℕ) → s < 3 → (t : Bool) → ltb s now ≡ t → Slot (streets_over antes out + 1) s (get_or antes k 0) (now + 1) (raise_on p s k)
  slot_gone s l true e =
      let m = ltb-true s now e in
      let x = before s m in
      let v = w s k l seat in
      let g = out_later in
      omega arith
  slot_gone s l false e =
      let m = ltb-false s now e in
      let x = after s l m _ refl in
      let v = w s k l seat in
      let g = out_later in
      omega arith

  slot_left : (s j : ℕ) → s < 3 → j < 7 → (t : Bool) → eqb j k ≡ t
      → Slot (streets_over antes out + 1) s (get_or antes j 0) (fold_of out j) (raise_on p s j)
  slot_left s j l h true e =
      let jk : j ≡ k = eqb-true j k e in
      let a = ap (λ (n : ℕ). get_or antes n 0) jk in
      let x = ap (raise_on p s) jk in
      let f = ap (fold_of out) jk ∙ get_or-set_same p.folds k (now + 1) 0 (omega (arith, long.folds)) in
      let v = slot_gone s l (ltb s now) refl in
      omega arith
  slot_left s j l h false e =
      let f = get_or-set_other p.folds k j (now + 1) 0 (eqb-false j k e) in
      let g = out_later in
      let v = w s j l h in
      omega arith

  slots_chosen : Slots antes (chosen p now k c) (streets_over antes (chosen p now k c) + 1)
  slots_chosen =
      fold_or_raise (λ q. Slots antes q (streets_over antes q + 1)) p now k c
      (λ s j l h. slot_left s j l h _ refl)
      (λ s j l h. slot_up s j l h _ refl)

pub play_kept : (antes : List ℕ) (p : Play) (b : List ℕ) → Sized p → streets_over antes p < 3 → play_fits antes p (streets_over antes p + 1) ≡ true
    → choice_refusal antes p b ≡ 0 → play_fits antes (with_choice antes p b) (streets_over antes (with_choice antes p b) + 1) ≡ true
play_kept antes p b z here h e =
    let v = choice_accepted antes p b e in
    let w = slots_out antes p (streets_over antes p + 1) h in
    let q : Play = with_choice antes p b in
    slots_in antes q (streets_over antes q + 1)
    (slots_chosen antes p (place (byte b 1)) (byte b 2) z w here (omega (arith, v.low, v.high)) v.plays v.stays v.free v.choice)
