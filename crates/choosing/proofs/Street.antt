-- The street that is open: what closes a street, and that choices only close streets.
-- Assumes nothing.
use Prim.Native.Nat.{ℕ, zero, suc, ◌+◌, ◌*◌, ◌≤◌, ◌<◌}
use mathlib.Core.Path.{◌≡◌, refl, ap}
use mathlib.Core.Bool.{Bool, true, false}
use mathlib.Core.List.{List}
use native.Mathlib.Omega.{arith}
use lib.Dec.{eqb}
use lib.ListN.{get_or, set}
use lib.Seq.{get_or-set_other}
use borrow.Author.Tests.{eqb-true, eqb-false}
use Rattle.std.specs.Prelude.{Some, None, cond, if◌then◌else◌}
use Rattle.std.specs.Option.{unwrap_or}
use Rattle.counting.proofs.Tests.{clash, and_true, is_false, positive, not_zero}
use Rattle.counting.proofs.Ranges.{none_at, none_of, some_here, some_where}
use Rattle.counting.proofs.Firsts.{zeros_at}
use Rattle.records.specs.Seats.{plays, any_plays}
use Rattle.choosing.specs.declared.Play.{Play}
use Rattle.choosing.specs.Streets.{raise_on, fold_of, still_in, has_to_choose, is_open, streets_over, no_play}

-- ---- three tests, the first that holds

most : (t u v : Bool) → (if t then 0 else if u then 1 else if v then 2 else 3) ≤ 3
most true u v = omega arith
most false true v = omega arith
most false false true = omega arith
most false false false = omega arith

-- what a search over the three finds, 3 where there is none
pub first_found : (t u v : Bool) → ◌≡◌ {A = ℕ} (unwrap_or (cond t (Some 0) (cond u (Some 1) (cond v (Some 2) None))) 3) (if t then 0 else if u then 1 else if v then 2 else 3)
first_found true u v = refl
first_found false true v = refl
first_found false false true = refl
first_found false false false = refl

past0 : (t u v : Bool) → 0 < (if t then 0 else if u then 1 else if v then 2 else 3) → t ≡ false
past0 true u v h = absurd (omega arith)
past0 false u v h = refl

past1 : (t u v : Bool) → 1 < (if t then 0 else if u then 1 else if v then 2 else 3) → u ≡ false
past1 true u v h = absurd (omega arith)
past1 false true v h = absurd (omega arith)
past1 false false v h = refl

past2 : (t u v : Bool) → 2 < (if t then 0 else if u then 1 else if v then 2 else 3) → v ≡ false
past2 true u v h = absurd (omega arith)
past2 false true v h = absurd (omega arith)
past2 false false true h = absurd (omega arith)
past2 false false false h = refl

-- it is no earlier where fewer hold
later : (t u v t' u' v' : Bool) → (t ≡ false → t' ≡ false) → (u ≡ false → u' ≡ false) → (v ≡ false → v' ≡ false)
    → (if t then 0 else if u then 1 else if v then 2 else 3) ≤ (if t' then 0 else if u' then 1 else if v' then 2 else 3)
later true u v t' u' v' f g h = omega arith
later false true v t' u' v' f g h = simp (f refl) (from1 u' v')
  where
    from1 : (u' v' : Bool) → 1 ≤ (if u' then 1 else if v' then 2 else 3)
    from1 true v' = omega arith
    from1 false true = omega arith
    from1 false false = omega arith
later false false true t' u' v' f g h = simp (f refl, g refl) (from2 v')
  where
    from2 : (v' : Bool) → 2 ≤ (if v' then 2 else 3)
    from2 true = omega arith
    from2 false = omega arith
later false false false t' u' v' f g h = simp (f refl, g refl, h refl) (omega arith)

-- ---- the streets that are over

pub streets_le : (antes : List ℕ) (p : Play) → streets_over antes p ≤ 3
unfolding streets_over
streets_le antes p = most (is_open antes p 0) (is_open antes p 1) (is_open antes p 2)

pub street_over : (antes : List ℕ) (p : Play) (s : ℕ) → s < 3 → s < streets_over antes p → is_open antes p s ≡ false
unfolding streets_over
street_over antes p zero l h = past0 (is_open antes p 0) (is_open antes p 1) (is_open antes p 2) h
street_over antes p (suc zero) l h = past1 (is_open antes p 0) (is_open antes p 1) (is_open antes p 2) h
street_over antes p (suc (suc zero)) l h = past2 (is_open antes p 0) (is_open antes p 1) (is_open antes p 2) h
street_over antes p (suc (suc (suc s))) l h = absurd (omega arith)

pub street_is : (antes : List ℕ) (p : Play) (s : ℕ) → s < 3 → ((i : ℕ) → i < s → is_open antes p i ≡ false) → is_open antes p s ≡ true
    → streets_over antes p ≡ s
unfolding streets_over
street_is antes p zero l h e = simp e
street_is antes p (suc zero) l h e = simp (h 0 (omega arith), e)
street_is antes p (suc (suc zero)) l h e = simp (h 0 (omega arith), h 1 (omega arith), e)
street_is antes p (suc (suc (suc s))) l h e = absurd (omega arith)

pub streets_grow : (antes : List ℕ) (p q : Play) → ((s : ℕ) → is_open antes p s ≡ false → is_open antes q s ≡ false)
    → streets_over antes p ≤ streets_over antes q
unfolding streets_over
streets_grow antes p q h =
    later (is_open antes p 0) (is_open antes p 1) (is_open antes p 2) (is_open antes q 0) (is_open antes q 1) (is_open antes q 2) (h 0) (h 1) (h 2)

-- ---- a seat that has still to choose, in numbers

pub must_out : (antes : List ℕ) (p : Play) (s k : ℕ) → has_to_choose antes p s k ≡ true
    → (0 < get_or antes k 0) × (fold_of p k ≡ 0) × (raise_on p s k ≡ 0)
must_out antes p s k h =
    let g = and_true (still_in antes p k) (eqb (raise_on p s k) 0) h in
    let l = and_true (plays antes k) (eqb (fold_of p k) 0) g.0 in
    (positive (get_or antes k 0) l.0, eqb-true (fold_of p k) 0 l.1, eqb-true (raise_on p s k) 0 g.1)

pub must_in : (antes : List ℕ) (p : Play) (s k : ℕ) → 0 < get_or antes k 0 → fold_of p k ≡ 0 → raise_on p s k ≡ 0 → has_to_choose antes p s k ≡ true
must_in antes p s k a f x = simp (not_zero (get_or antes k 0) a, f, x)

-- a street is open where some seat has still to choose
pub open_at : (antes : List ℕ) (p : Play) (s k : ℕ) → k < 7 → 0 < get_or antes k 0 → fold_of p k ≡ 0 → raise_on p s k ≡ 0 → is_open antes p s ≡ true
unfolding is_open
open_at antes p s k h a f x = some_here (has_to_choose antes p s) 7 k h (must_in antes p s k a f x)

-- it is over where none has
pub closed_of : (antes : List ℕ) (p : Play) (s : ℕ)
    → ((k : ℕ) → k < 7 → 0 < get_or antes k 0 → fold_of p k ≡ 0 → raise_on p s k ≡ 0 → ⊥) → is_open antes p s ≡ false
unfolding is_open
closed_of antes p s n =
    none_of (has_to_choose antes p s) 7 λ k h. is_false (has_to_choose antes p s k) λ e.
    let m = must_out antes p s k e in
    n k h m.0 m.1 m.2

-- on a street that is over, each seat that is still in has raised
pub closed_raised : (antes : List ℕ) (p : Play) (s k : ℕ) → is_open antes p s ≡ false → k < 7 → 0 < get_or antes k 0 → fold_of p k ≡ 0 → 1 ≤ raise_on p s k
unfolding is_open
closed_raised antes p s k e h a f = go (raise_on p s k) refl
  where
    go : (x : ℕ) → raise_on p s k ≡ x → 1 ≤ x
    go zero z = clash (has_to_choose antes p s k) (must_in antes p s k a f z) (none_at (has_to_choose antes p s) 7 e k h)
    go (suc x) z = omega arith

-- ---- nobody, and anybody, still in

pub nobody_in : (antes : List ℕ) (p : Play) → ((k : ℕ) → k < 7 → still_in antes p k ≡ false) → streets_over antes p ≡ 3
unfolding streets_over
nobody_in antes p n = simp (closed 0, closed 1, closed 2)
  where
    closed : (s : ℕ) → is_open antes p s ≡ false
    closed s = closed_of antes p s λ k h a f x. clash (still_in antes p k) (simp (not_zero (get_or antes k 0) a, f)) (n k h)

pub someone_in : (antes : List ℕ) → any_plays antes ≡ true → streets_over antes no_play ≡ 0
unfolding any_plays
someone_in antes h =
    let k = some_where (plays antes) 7 h in
    street_is antes no_play 0 (omega arith) (λ i l. absurd (omega arith))
    (open_at antes no_play 0 k.0 k.1 (positive (get_or antes k.0 0) k.2) (zeros_at 7 k.0) (zeros_at 21 (0 * 7 + k.0)))

-- ---- where folds and raises are only filled in, streets only close

pub record Fills (p q : Play) : Type 0 where
  pub folds : (k : ℕ) → fold_of p k ≤ fold_of q k
  pub raises : (i : ℕ) → get_or p.raises i 0 ≤ get_or q.raises i 0

pub filled_closes : (antes : List ℕ) (p q : Play) → Fills p q → (s : ℕ) → is_open antes p s ≡ false → is_open antes q s ≡ false
filled_closes antes p q w s e =
    closed_of antes q s λ k h a f x.
    let f0 : fold_of p k ≡ 0 = omega (arith, w.folds k) in
    let x0 : raise_on p s k ≡ 0 = omega (arith, w.raises (s * 7 + k)) in
    let m = closed_raised antes p s k e h a f0 in
    absurd (omega arith)

-- a place that held 0
pub set_fills : (l : List ℕ) (i v : ℕ) → get_or l i 0 ≡ 0 → (j : ℕ) → get_or l j 0 ≤ get_or (set l i v) j 0
set_fills l i v e j = go (eqb j i) refl
  where
    go : (t : Bool) → eqb j i ≡ t → get_or l j 0 ≤ get_or (set l i v) j 0
    go true q = omega (arith, ap (λ (k : ℕ). get_or l k 0) (eqb-true j i q))
    go false q = omega (arith, get_or-set_other l i j v 0 (eqb-false j i q))
