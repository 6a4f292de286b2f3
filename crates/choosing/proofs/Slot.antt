-- What the test of one seat on one street says, as orders between numbers; and so the test of all seats on all streets.
-- Assumes nothing.
use Prim.Native.Nat.{ℕ, ◌+◌, ◌-◌, ◌*◌, ◌≤◌, ◌<◌}
use mathlib.Core.Path.{◌≡◌, refl}
use mathlib.Core.Bool.{Bool, true, false, not, ◌&&◌, ◌||◌}
use mathlib.Core.List.{List}
use native.Mathlib.Omega.{arith}
use lib.Dec.{eqb, leb, ltb}
use lib.ListN.{get_or}
use borrow.Author.Tests.{eqb-true, eqb-false, leb-true, ltb-true, le-leb, lt-ltb}
use Rattle.std.specs.Prelude.{if◌then◌else◌}
use Rattle.counting.proofs.Tests.{and_true, both, positive, not_zero}
use Rattle.counting.proofs.Ranges.{every_at, every_of_lem}
use Rattle.choosing.specs.declared.Play.{Play}
use Rattle.choosing.specs.Streets.{raise_on, fold_of}
use Rattle.choosing.specs.Slots.{fold_fits, raise_fits, slot_fits, street_fits, play_fits}

-- o streets have opened, s is the street; a the ante, f the fold and x the raise. Each fact is linear, so that omega reads them all.
pub record Slot (o s a f x : ℕ) : Type 0 where
  -- a fold is on one of three streets, that has opened, by a seat that plays
  pub fold3 : f ≤ 3
  pub foldo : f ≤ o
  pub folda : f ≤ 3 * a
  -- a raise is by at most three antes; without one there is no later fold
  pub top : x ≤ 3
  pub late : f ≤ s + 1 + 3 * x
  -- with one the street has opened, the seat plays, and has not folded by then (no fold counts as one after the last street)
  pub unlocked : x ≤ 3 * (o - s)
  pub plays : x ≤ 3 * a
  pub early : x ≤ 3 * ((f + 4 * (1 - f)) - (s + 1))

-- ---- from the test

fold_out : (o a f : ℕ) (t : Bool) → eqb f 0 ≡ t → (t || (not (eqb a 0) && (leb f 3 && leb f o))) ≡ true → (f ≤ 3) × (f ≤ o) × (f ≤ 3 * a)
fold_out o a f true e h =
    let z = eqb-true f 0 e in
    omega arith
fold_out o a f false e h =
    let p = and_true (not (eqb a 0)) (leb f 3 && leb f o) h in
    let q = and_true (leb f 3) (leb f o) p.1 in
    omega (arith, leb-true f 3 q.0, leb-true f o q.1, positive a p.0)

raise_out : (o s a f x : ℕ) (t u : Bool) → s < 3 → f ≤ 3 → eqb x 0 ≡ t → eqb f 0 ≡ u
    → (if t then leb f (s + 1) else (leb x 3 && ltb s o) && (not (eqb a 0) && (u || ltb (s + 1) f))) ≡ true
    → (x ≤ 3) × (f ≤ s + 1 + 3 * x) × (x ≤ 3 * (o - s)) × (x ≤ 3 * a) × (x ≤ 3 * ((f + 4 * (1 - f)) - (s + 1)))
raise_out o s a f x true u l m e g h =
    let z = eqb-true x 0 e in
    omega (arith, leb-true f (s + 1) h)
raise_out o s a f x false true l m e g h =
    let n : (x ≡ 0 → ⊥) = eqb-false x 0 e in
    let z = eqb-true f 0 g in
    let p = and_true (leb x 3 && ltb s o) (not (eqb a 0) && true) h in
    let q = and_true (leb x 3) (ltb s o) p.0 in
    let v = and_true (not (eqb a 0)) true p.1 in
    omega (arith, leb-true x 3 q.0, ltb-true s o q.1, positive a v.0)
raise_out o s a f x false false l m e g h =
    let n : (x ≡ 0 → ⊥) = eqb-false x 0 e in
    let p = and_true (leb x 3 && ltb s o) (not (eqb a 0) && ltb (s + 1) f) h in
    let q = and_true (leb x 3) (ltb s o) p.0 in
    let v = and_true (not (eqb a 0)) (ltb (s + 1) f) p.1 in
    omega (arith, leb-true x 3 q.0, ltb-true s o q.1, positive a v.0, ltb-true (s + 1) f v.1)

pub slot_out : (o s a f x : ℕ) → s < 3 → slot_fits o s a f x ≡ true → Slot o s a f x
unfolding slot_fits
slot_out o s a f x l h =
    let p = and_true (fold_fits o a f) (raise_fits o s a f x) h in
    let q = fold_out o a f _ refl p.0 in
    let v = raise_out o s a f x _ _ l q.0 refl refl p.1 in
    record { fold3 = q.0; foldo = q.1; folda = q.2; top = v.0; late = v.1; unlocked = v.2; plays = v.3; early = v.4 }

-- ---- to the test

fold_in : (o a f : ℕ) (t : Bool) → eqb f 0 ≡ t → f ≤ 3 → f ≤ o → f ≤ 3 * a → (t || (not (eqb a 0) && (leb f 3 && leb f o))) ≡ true
fold_in o a f true e h g l = refl
fold_in o a f false e h g l =
    let n : (f ≡ 0 → ⊥) = eqb-false f 0 e in
    simp (le-leb f 3 h, le-leb f o g, not_zero a (omega arith))

raise_in : (o s a f x : ℕ) (t u : Bool) → s < 3 → Slot o s a f x → eqb x 0 ≡ t → eqb f 0 ≡ u
    → (if t then leb f (s + 1) else (leb x 3 && ltb s o) && (not (eqb a 0) && (u || ltb (s + 1) f))) ≡ true
raise_in o s a f x true u l w e g =
    let z = eqb-true x 0 e in
    le-leb f (s + 1) (omega arith)
raise_in o s a f x false true l w e g =
    let n : (x ≡ 0 → ⊥) = eqb-false x 0 e in
    simp (le-leb x 3 w.top, lt-ltb s o (omega arith), not_zero a (omega arith))
raise_in o s a f x false false l w e g =
    let n : (x ≡ 0 → ⊥) = eqb-false x 0 e in
    let m : (f ≡ 0 → ⊥) = eqb-false f 0 g in
    simp (le-leb x 3 w.top, lt-ltb s o (omega arith), lt-ltb (s + 1) f (omega arith), not_zero a (omega arith))

pub slot_in : (o s a f x : ℕ) → s < 3 → Slot o s a f x → slot_fits o s a f x ≡ true
unfolding slot_fits
slot_in o s a f x l w =
    both (fold_fits o a f) (raise_fits o s a f x) (fold_in o a f _ refl w.fold3 w.foldo w.folda) (raise_in o s a f x _ _ l w refl refl)

-- ---- all seats and streets of a play

abbrev pub Slots : List ℕ → Play → ℕ → Type 0
Slots antes p o = (s k : ℕ) → s < 3 → k < 7 → Slot o s (get_or antes k 0) (fold_of p k) (raise_on p s k)

pub slots_out : (antes : List ℕ) (p : Play) (o : ℕ) → play_fits antes p o ≡ true → Slots antes p o
unfolding street_fits play_fits
slots_out antes p o h s k l g =
    slot_out o s (get_or antes k 0) (fold_of p k) (raise_on p s k) l
    (every_at (λ i. slot_fits o s (get_or antes i 0) (fold_of p i) (raise_on p s i)) 7 (every_at (street_fits antes p o) 3 h s l) k g)

pub slots_in : (antes : List ℕ) (p : Play) (o : ℕ) → Slots antes p o → play_fits antes p o ≡ true
unfolding street_fits play_fits
slots_in antes p o w =
    every_of_lem (street_fits antes p o) 3 λ s l.
    every_of_lem (λ i. slot_fits o s (get_or antes i 0) (fold_of p i) (raise_on p s i)) 7 λ k g.
    slot_in o s (get_or antes k 0) (fold_of p k) (raise_on p s k) l (w s k l g)
