-- A word of at most two or three cards is one of at most five.
-- Assumes nothing.
use Prim.Native.Nat.{ℕ}
use native.Mathlib.Omega.{arith}
use Rattle.words.specs.Word.{Has}

pub two_in_five : (w : ℕ) (h : ℕ → ℕ) → Has 2 w h → Has 5 w h
two_in_five w h has = (has.0, omega (arith, has.1))

pub three_in_five : (w : ℕ) (h : ℕ → ℕ) → Has 3 w h → Has 5 w h
three_in_five w h has = (has.0, omega (arith, has.1))
