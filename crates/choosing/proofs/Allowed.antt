-- What an accepted choice says; and a play before its first street has opened, which has no choice.
-- Assumes nothing.
use Prim.Native.Nat.{ℕ, ◌+◌, ◌*◌, ◌/◌, ◌%◌, ◌≤◌, ◌<◌}
use mathlib.Core.Path.{◌≡◌, refl, ap, ap₂, ◌∙◌}
use mathlib.Core.Bool.{Bool, true, false, not}
use mathlib.Core.List.{List}
use native.Mathlib.Omega.{arith}
use lib.Dec.{eqb, leb}
use lib.ListN.{get_or, set, length, length-set, replicate}
use lib.Seq.{ext_get_or}
use borrow.Author.Tests.{eqb-true, leb-true, eq-eqb, le-leb}
use Rattle.std.specs.Prelude.{if◌then◌else◌}
use Rattle.counting.proofs.Tests.{and_true, positive, not_zero}
use Rattle.counting.proofs.Firsts.{zeros_at}
use Rattle.records.specs.Bytes.{byte, zero_from, between}
use Rattle.records.specs.Seats.{place, plays}
use Rattle.choosing.specs.declared.Play.{Play}
use Rattle.choosing.specs.Streets.{raise_on, fold_of, streets_over, no_play}
use Rattle.choosing.specs.Choice.{choice_refusal, chosen, with_choice}
use Rattle.choosing.specs.Slots.{play_fits}
use Rattle.choosing.proofs.Slot.{slots_out, slots_in}

-- seven seats, on three streets
pub record Sized (p : Play) : Type 0 where
  pub raises : length p.raises ≡ 21
  pub folds : length p.folds ≡ 7

-- ---- an accepted choice

pub record AllowedChoice (antes : List ℕ) (p : Play) (b : List ℕ) : Type 0 where
  pub zeros : zero_from 3 b ≡ true
  pub low : 1 ≤ byte b 1
  pub high : byte b 1 ≤ 7
  pub choice : byte b 2 ≤ 3
  pub plays : 0 < get_or antes (place (byte b 1)) 0
  pub stays : fold_of p (place (byte b 1)) ≡ 0
  pub free : raise_on p (streets_over antes p) (place (byte b 1)) ≡ 0

-- the number of the first test that fails; where it is 0, all hold
abbrev first_failed : (t4 t7 t12 t13 t14 t15 : Bool) → ℕ
first_failed t4 t7 t12 t13 t14 t15 =
    if not t4 then 4
    else if not t7 then 7
    else if not t12 then 12
    else if not t13 then 13
    else if not t14 then 14
    else if not t15 then 15
    else 0

all_hold : (t4 t7 t12 t13 t14 t15 : Bool) → first_failed t4 t7 t12 t13 t14 t15 ≡ 0
    → (t4 ≡ true) × (t7 ≡ true) × (t12 ≡ true) × (t13 ≡ true) × (t14 ≡ true) × (t15 ≡ true)
all_hold true true true true true true e = (refl, refl, refl, refl, refl, refl)
all_hold true true true true true false e = absurd (omega arith)
all_hold true true true true false t15 e = absurd (omega arith)
all_hold true true true false t14 t15 e = absurd (omega arith)
all_hold true true false t13 t14 t15 e = absurd (omega arith)
all_hold true false t12 t13 t14 t15 e = absurd (omega arith)
all_hold false t7 t12 t13 t14 t15 e = absurd (omega arith)

pub choice_accepted : (antes : List ℕ) (p : Play) (b : List ℕ) → choice_refusal antes p b ≡ 0 → AllowedChoice antes p b
unfolding choice_refusal
choice_accepted antes p b e =
    let k : ℕ = place (byte b 1) in
    let x : ℕ = raise_on p (streets_over antes p) k in
    let t = all_hold (zero_from 3 b) (between 1 7 (byte b 1)) (leb (byte b 2) 3) (plays antes k) (eqb (fold_of p k) 0) (eqb x 0) e in
    let seat = and_true (leb 1 (byte b 1)) (leb (byte b 1) 7) t.1 in
    record {
      zeros = t.0;
      low = leb-true 1 (byte b 1) seat.0;
      high = leb-true (byte b 1) 7 seat.1;
      choice = leb-true (byte b 2) 3 t.2;
      plays = positive (get_or antes k 0) t.3;
      stays = eqb-true (fold_of p k) 0 t.4;
      free = eqb-true x 0 t.5;
    }

pub choice_allowed : (antes : List ℕ) (p : Play) (b : List ℕ) → AllowedChoice antes p b → choice_refusal antes p b ≡ 0
unfolding choice_refusal
choice_allowed antes p b v =
    let k : ℕ = place (byte b 1) in
    simp (
      v.zeros,
      le-leb 1 (byte b 1) v.low,
      le-leb (byte b 1) 7 v.high,
      le-leb (byte b 2) 3 v.choice,
      not_zero (get_or antes k 0) v.plays,
      eq-eqb (fold_of p k) 0 v.stays,
      eq-eqb (raise_on p (streets_over antes p) k) 0 v.free,
    )

-- ---- the play after a choice by the seat at place k on street s: it folds, or raises by c

abbrev pub with_fold : Play → ℕ → ℕ → Play
with_fold p s k = record { raises = p.raises; folds = set p.folds k (s + 1) }

abbrev pub with_raise : Play → ℕ → ℕ → ℕ → Play
with_raise p s k c = record { raises = set p.raises (s * 7 + k) c; folds = p.folds }

-- what holds after the fold where c is a fold, and after the raise where it is none, holds after the choice
pub by_choice : (P : Play → Type 0) (p : Play) (s k c : ℕ) → (eqb c 0 ≡ true → P (with_fold p s k)) → (eqb c 0 ≡ false → P (with_raise p s k c))
    → P (chosen p s k c)
unfolding chosen
by_choice P p s k c f r = go (eqb c 0) refl
  where
    go : (t : Bool) → eqb c 0 ≡ t → P (if t then with_fold p s k else with_raise p s k c)
    go true = f
    go false = r

-- and so does what holds after both
pub fold_or_raise : (P : Play → Type 0) (p : Play) (s k c : ℕ) → P (with_fold p s k) → P (with_raise p s k c) → P (chosen p s k c)
fold_or_raise P p s k c f r = by_choice P p s k c (λ e. f) (λ e. r)

pub choice_sized : (antes : List ℕ) (p : Play) (b : List ℕ) → Sized p → Sized (with_choice antes p b)
choice_sized antes p b z =
    let s : ℕ = streets_over antes p in
    let k : ℕ = place (byte b 1) in
    fold_or_raise Sized p s k (byte b 2)
    (record { raises = z.raises; folds = length-set p.folds k (s + 1) ∙ z.folds })
    (record { raises = length-set p.raises (s * 7 + k) (byte b 2) ∙ z.raises; folds = z.folds })

-- ---- no choice

pub play_unopened : (antes : List ℕ) (p : Play) → play_fits antes p 0 ≡ true → (antes' : List ℕ) (o : ℕ) → play_fits antes' p o ≡ true
play_unopened antes p h antes' o =
    slots_in antes' p o λ s k l g.
    let v = slots_out antes p 0 h s k l g in
    omega arith

pub play_fresh : (antes : List ℕ) (o : ℕ) → play_fits antes no_play o ≡ true
play_fresh antes o =
    slots_in antes no_play o λ s k l g.
    let f = zeros_at 7 k in
    let x = zeros_at 21 (s * 7 + k) in
    omega arith

pub no_choices_lem : (antes : List ℕ) (p : Play) → Sized p → play_fits antes p 0 ≡ true → p ≡ no_play
no_choices_lem antes p z h = ap₂ (λ (x f : List ℕ). record { raises = x; folds = f }) raises folds
  where
    raises : p.raises ≡ replicate 21 0
    raises =
        ext_get_or 0 p.raises (replicate 21 0) z.raises λ i l.
        let s : i / 7 < 3 = omega (arith, z.raises) in
        let v = slots_out antes p 0 h (i / 7) (i % 7) s (omega arith) in
        let e : i / 7 * 7 + i % 7 ≡ i = omega arith in
        let x = ap (λ (j : ℕ). get_or p.raises j 0) e in
        omega (arith, zeros_at 21 i)

    folds : p.folds ≡ replicate 7 0
    folds =
        ext_get_or 0 p.folds (replicate 7 0) z.folds λ k l.
        let v = slots_out antes p 0 h 0 k (omega arith) (omega (arith, z.folds)) in
        omega (arith, zeros_at 7 k)
