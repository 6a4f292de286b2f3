-- A line of a table, read at a pay table.
-- Assumes nothing.
use Prim.Native.Nat.{ℕ, ◌-◌, ◌≤◌}
use mathlib.Core.Path.{◌≡◌, refl}
use mathlib.Core.Bool.{Bool, true, false}
use mathlib.Core.List.{List, []}
use native.Mathlib.Omega.{arith}
use lib.Dec.{leb}
use lib.ListN.{length, get_or}
use Rattle.std.proofs.lemmas.List.{get_or_default, get_or_past}
use borrow.Author.Tests.{le-leb, lt-leb, leb-true, leb-false}
use Rattle.pays.specs.declared.Pay.{Pay}
use Rattle.pays.specs.declared.Pay.TheVariants.{Loss, NoTable}
use Rattle.odds.specs.Pays.{pay_in, pay_at}

pub no_table : (line : List Pay) (t : ℕ) → t ≡ 0 → NoTable ≡ pay_in line t
unfolding pay_in
no_table line t e = simp e

pub read_at : (line : List Pay) (t : ℕ) → 1 ≤ t → get_or line (t - 1) NoTable ≡ pay_in line t
unfolding pay_in
read_at line t a = go (leb t (length line)) refl
  where
    go : (there : Bool) → leb t (length line) ≡ there → get_or line (t - 1) NoTable ≡ pay_in line t
    go true e = simp (le-leb 1 t a, e) (get_or_default line (t - 1) NoTable Loss (omega (arith, leb-true _ _ e)))
    go false e = simp (le-leb 1 t a, e) (get_or_past line (t - 1) NoTable (omega (arith, leb-false _ _ e)))

pub no_line : (lines : List (List Pay)) (t place : ℕ) → length lines ≤ place → NoTable ≡ pay_at lines t place
unfolding pay_in
no_line lines t place h = rw (get_or_past lines place [] h) (go (leb 1 t) refl)
  where
    go : (some : Bool) → leb 1 t ≡ some → NoTable ≡ pay_in [] t
    go true e = simp (e, lt-leb t 0 (leb-true _ _ e))
    go false e = simp e
