-- The highest rank that occurs, looked for from the top.
-- Assumes nothing.
use Prim.Native.Nat.{ℕ, zero, suc, ◌+◌, ◌<◌}
use mathlib.Core.Path.{◌≡◌, refl}
use mathlib.Core.Bool.{Bool, true, false, cond}
use native.Mathlib.Omega.{arith}
use lib.Dec.{ltb}
use borrow.Author.Tests.{lt-ltb, le-ltb}
use Rattle.std.specs.Prelude.{Some, unwrap_or, if◌then◌else◌}
use Rattle.std.specs.List.{find}
use Rattle.counting.proofs.Library.{down}
use Rattle.counting.proofs.Ranges.{below_suc}
use Rattle.hands.specs.Hand.{highest}

-- the first that occurs of the ranks from n down
pub highest-find : (n : ℕ) (h : ℕ → ℕ) → unwrap_or (find (λ r. ltb 0 (h r)) (down 0 n)) 0 ≡ highest n h
unfolding highest
highest-find zero h = refl
highest-find (suc n) h = let e : 0 + n ≡ n = omega arith in rw e (go (ltb 0 (h n)) (highest-find n h))
  where
    go : (b : Bool) → unwrap_or (find (λ r. ltb 0 (h r)) (down 0 n)) 0 ≡ highest n h → unwrap_or (cond b (Some n) (find (λ r. ltb 0 (h r)) (down 0 n))) 0 ≡ (if b then n else highest n h)
    go true below = refl
    go false below = below

-- a rank that occurs, and none above it does
pub highest_is : (n r : ℕ) (h : ℕ → ℕ) → r < n → 0 < h r → ((k : ℕ) → r < k → k < n → h k ≡ 0) → highest n h ≡ r
unfolding highest
highest_is zero r h l here none = absurd (omega arith)
highest_is (suc n) r h l here none =
    below_suc (λ k. 0 < h k → ((j : ℕ) → k < j → j < suc n → h j ≡ 0) → highest (suc n) h ≡ k) n r l
    (λ p q. simp (lt-ltb 0 (h n) p))
    (λ m p q. simp (le-ltb 0 (h n) (omega (arith, q n m (omega arith)))) (highest_is n r h m p (λ k a b. q k a (omega arith)))) here none
