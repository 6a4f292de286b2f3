-- Choosing by a test.
-- Assumes nothing.
use Rattle.std.specs.Prelude.{ℕ, Bool, true, false, List, [], eqb, if◌then◌else◌}

-- a test as a number
abbrev pub one : Bool → ℕ
one true = 1
one false = 0

-- what an answer gives besides the number n of its refusal: nothing where it is refused, these values where n is 0
unfoldable pub unless_refused : ℕ → List ℕ → List ℕ
unless_refused n values = if eqb n 0 then values else []
