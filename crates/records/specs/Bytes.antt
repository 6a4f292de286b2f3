-- What is read from a record. Past its end a record reads as zeros.
-- Assumes nothing.
use Rattle.std.specs.Prelude.{ℕ, ◌+◌, ◌*◌, Bool, ◌&&◌, List, eqb, leb, ltb, drop, get_or}
use Rattle.counting.specs.Count.{every_of}

abbrev pub byte : List ℕ → ℕ → ℕ
byte b n = get_or b n 0

-- Two-byte numbers are low byte first.
abbrev pub word : List ℕ → ℕ → ℕ
word b n = byte b n + 256 * byte b (n + 1)

-- Bytes not named are zero: each from place n on is.
unfoldable pub zero_from : ℕ → List ℕ → Bool
zero_from n b = every_of (λ x. eqb x 0) (drop n b)

-- a record is bytes: numbers below 256
unfoldable pub are_bytes : List ℕ → Bool
are_bytes b = every_of (λ x. ltb x 256) b

-- from low to high, ends included
abbrev pub between : ℕ → ℕ → ℕ → Bool
between low high n = leb low n && leb n high
