-- Records as hexadecimal digits.
-- Assumes nothing.
use Rattle.std.specs.Prelude.{ℕ, List, [], ◌∷◌, ◌++◌, if◌then◌else◌}
use Rattle.records.specs.Bytes.{zero_from}
use Rattle.text.specs.Text.{hex_of}

-- Bytes as hexadecimal digits.
unfoldable pub hexes : List ℕ → List ℕ
hexes [] = []
hexes (x ∷ xs) = hex_of x ++ hexes xs

-- A list without the zeros at its end.
unfoldable pub trimmed : List ℕ → List ℕ
trimmed [] = []
trimmed (x ∷ xs) = if zero_from 0 (x ∷ xs) then [] else x ∷ trimmed xs

-- A record after a blank, without the zero bytes at its end.
abbrev pub spelled_one : List ℕ → List ℕ
spelled_one b = 32 ∷ hexes (trimmed b)

-- Records, one after the other.
unfoldable pub spelled : List (List ℕ) → List ℕ
spelled [] = []
spelled (b ∷ bs) = spelled_one b ++ spelled bs
