-- Numbers in columns of four characters, and where lines of text end.
-- Assumes nothing.
use Rattle.std.specs.Prelude.{ℕ, ◌+◌, ◌-◌, ◌*◌, ◌%◌, List, [], ◌∷◌, eqb, drop, if◌then◌else◌}
use Rattle.records.specs.Bytes.{byte, between}

-- The digit at a place of a line, 0 where there is none.
unfoldable pub digit_at : List ℕ → ℕ → ℕ
digit_at line place = if between 48 57 (byte line place) then byte line place - 48 else 0

-- The number in column k is what its last three characters are as digits, modulo 256.
unfoldable pub number_at : List ℕ → ℕ → ℕ
number_at line k = (100 * digit_at line (4 * k + 1) + 10 * digit_at line (4 * k + 2) + digit_at line (4 * k + 3)) % 256

-- How many characters come before the first newline.
unfoldable pub before_newline : List ℕ → ℕ
before_newline [] = 0
before_newline (c ∷ cs) = if eqb c 10 then 0 else 1 + before_newline cs

-- The line that begins at `from` ends at the first newline from there on, else with the text; past the text it ends where it begins.
abbrev pub line_end : List ℕ → ℕ → ℕ
line_end text from = from + before_newline (drop from text)
