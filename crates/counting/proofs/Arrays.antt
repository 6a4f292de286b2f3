-- An array of n numbers past its end: it reads as 0, and a write changes nothing.
-- Assumes nothing.
use Prim.Native.Nat.{ℕ, ◌≤◌}
use mathlib.Core.Path.{◌≡◌, sym}
use mathlib.Core.List.{List}
use native.Mathlib.Omega.{arith}
use lib.ListN.{length, get_or, set, get_or-eq_default}
use lib.Seq.{set_out}

module _ (l : List ℕ) (n i : ℕ) (long : length l ≡ n) (past : n ≤ i) where
  pub read_past : 0 ≡ get_or l i 0
  read_past = let h : length l ≤ i = omega arith in sym (get_or-eq_default l 0 h)

  pub write_past : (v : ℕ) → l ≡ set l i v
  write_past v = sym (set_out l i v (omega arith))
