-- Tests taken apart and put together.
-- Assumes nothing.
use Prim.Native.Nat.{ℕ, suc, ◌≤◌, ◌<◌}
use mathlib.Core.Path.{◌≡◌, refl, sym}
use mathlib.Core.Bool.{Bool, true, false, not, ◌&&◌, ◌||◌, or-true}
use native.Mathlib.Omega.{arith}
use lib.Dec.{eqb}
use borrow.Author.Tests.{eqb-false, ne_eqb, not-true, not-false}
use Rattle.std.specs.Prelude.{if◌then◌else◌}
use Rattle.counting.specs.Choose.{one}

-- no test holds and fails
pub clash : {A : Type 0} (b : Bool) → b ≡ true → b ≡ false → A
clash b p q = let z : ◌≡◌ {A = ℕ} 0 1 = cc in absurd (omega arith)

pub and_true : (a b : Bool) → (a && b) ≡ true → (a ≡ true) × (b ≡ true)
and_true true b e = (refl, e)
and_true false b e = clash false e refl

pub or_false : (a b : Bool) → (a || b) ≡ false → (a ≡ false) × (b ≡ false)
or_false true b e = clash true refl e
or_false false b e = (refl, e)

-- two tests that fail on the same grounds are the same test
pub same_test : (a b : Bool) → (a ≡ false → b ≡ false) → (b ≡ false → a ≡ false) → a ≡ b
same_test true true f g = refl
same_test true false f g = clash true refl (g refl)
same_test false true f g = clash true refl (f refl)
same_test false false f g = refl

-- and so are two that hold on the same grounds
pub same_true : (a b : Bool) → (a ≡ true → b ≡ true) → (b ≡ true → a ≡ true) → a ≡ b
same_true true b f g = sym (f refl)
same_true false true f g = g refl
same_true false false f g = refl

pub one_le : (b : Bool) → one b ≤ 1
one_le true = omega arith
one_le false = omega arith

pub one_true : (b : Bool) → one b ≡ 1 → b ≡ true
one_true true e = refl
one_true false e = absurd (omega arith)

-- the number that two tests choose is 0 only where both fail
pub neither : (a b : ℕ) (first second : Bool) → 0 < a → 0 < b → ◌≡◌ {A = ℕ} (if first then a else if second then b else 0) 0
    → (first ≡ false) × (second ≡ false)
neither a b true second p q e = absurd (omega arith)
neither a b false true p q e = absurd (omega arith)
neither a b false false p q e = (refl, refl)

-- ---- put together

pub both : (a b : Bool) → a ≡ true → b ≡ true → (a && b) ≡ true
both a b p q = simp (p, q)

pub first_holds : (a b : Bool) → a ≡ true → (a || b) ≡ true
first_holds a b p = simp p

pub second_holds : (a b : Bool) → b ≡ true → (a || b) ≡ true
second_holds a b q = simp (q, or-true)

pub other_holds : (a b : Bool) → (a || b) ≡ true → a ≡ false → b ≡ true
other_holds true b e f = clash true refl f
other_holds false b e f = e

pub is_false : (t : Bool) → (t ≡ true → ⊥) → t ≡ false
is_false true h = absurd (h refl)
is_false false h = refl

-- ---- a number that is not 0

pub positive : (a : ℕ) → not (eqb a 0) ≡ true → 0 < a
positive a e = let n : (a ≡ 0 → ⊥) = eqb-false a 0 (not-true _ e) in omega arith

pub not_zero : (a : ℕ) → 0 < a → not (eqb a 0) ≡ true
not_zero a h = let n : (a ≡ 0 → ⊥) = λ z. omega arith in simp (ne_eqb a 0 n)

-- ---- refusals in order: there is none exactly where each test on the way passes

pub unchosen : (t : Bool) (n rest : ℕ) → ◌≡◌ {A = ℕ} (if t then suc n else rest) 0 → (t ≡ false) × (rest ≡ 0)
unchosen true n rest e = absurd (omega arith)
unchosen false n rest e = (refl, e)

pub passed : (t : Bool) (n rest : ℕ) → ◌≡◌ {A = ℕ} (if not t then suc n else rest) 0 → (t ≡ true) × (rest ≡ 0)
passed t n rest e = let none = unchosen (not t) n rest e in (not-false t none.0, none.1)

pub pass : (t : Bool) (n rest : ℕ) → t ≡ true → rest ≡ 0 → ◌≡◌ {A = ℕ} (if not t then n else rest) 0
pass t n rest p q = simp (p, q)
