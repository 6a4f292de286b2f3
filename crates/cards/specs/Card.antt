-- Card c is 0 to 51. Its rank is c ÷ 4 rounded down (0 is a two, 12 an ace); its suit is the remainder (0 clubs, 1 diamonds,
-- 2 hearts, 3 spades).
-- Assumes nothing.
use Rattle.std.specs.Prelude.{ℕ, ◌/◌, ◌%◌, Bool, leb}

abbrev pub is_card : ℕ → Bool
is_card c = leb c 51

abbrev pub rank : ℕ → ℕ
rank c = c / 4

abbrev pub suit : ℕ → ℕ
suit c = c % 4

-- the ranks that document 01 names
abbrev pub two : ℕ
two = 0

abbrev pub six : ℕ
six = 4

abbrev pub jack : ℕ
jack = 9

abbrev pub ace : ℕ
ace = 12
