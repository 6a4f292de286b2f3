-- Text in a room: what stands in it once bytes are written from a place on, and the digits of numbers.
-- Assumes nothing.
use Rattle.std.specs.Prelude.{ℕ, zero, suc, ◌+◌, ◌-◌, ◌/◌, ◌%◌, min, List, [], ◌∷◌, ◌++◌, eqb, ltb, length, if◌then◌else◌}
use Rattle.std.proofs.lemmas.List.Edits.{sets}

-- The room once bytes are stored in it, one after the other, from a place on; those that would lie past its end are left out.
unfoldable pub written : List ℕ → ℕ → List ℕ → List ℕ
written room at bytes = sets room at bytes

-- The place behind those that were stored.
unfoldable pub behind : List ℕ → ℕ → List ℕ → ℕ
behind room at bytes = at + min (length bytes) (length room - at)

-- A number's decimal digits in front of other characters: none for 0, else the last one, and in front of it those of the rest; at most k.
unfoldable pub digits_then : ℕ → ℕ → List ℕ → List ℕ
digits_then zero n cs = cs
digits_then (suc k) n cs = if eqb n 0 then cs else digits_then k (n / 10) ((48 + n % 10) ∷ cs)

-- A number in decimal: its last digit, 0 too, and in front of it the digits of the rest. The 20 digits of the largest u64 are the most.
unfoldable pub decimal : ℕ → List ℕ
decimal n = digits_then 19 (n / 10) ((48 + n % 10) ∷ [])

-- Numbers in decimal, each after a blank.
unfoldable pub listed : List ℕ → List ℕ
listed [] = []
listed (n ∷ ns) = (32 ∷ decimal n) ++ listed ns

-- Words and numbers, and a newline behind them.
abbrev pub line_of : List ℕ → List ℕ → List ℕ
line_of words numbers = (words ++ listed numbers) ++ (10 ∷ [])

-- A hexadecimal digit: 0 to 9, a to f.
unfoldable pub hex_digit : ℕ → ℕ
hex_digit d = if ltb d 10 then 48 + d else 87 + d

-- A byte as two hexadecimal digits.
abbrev pub hex_of : ℕ → List ℕ
hex_of byte = hex_digit (byte / 16) ∷ hex_digit (byte % 16) ∷ []
