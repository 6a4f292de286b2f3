-- What a pay table, chosen by number, says of a name.
-- Assumes nothing.
use Rattle.std.specs.Prelude.{ℕ, ◌+◌, ◌-◌, ◌&&◌, List, [], leb, ltb, length, get_or, if◌then◌else◌}
use Rattle.names.specs.declared.FiveName.{FiveName}
use Rattle.names.specs.declared.BoardName.{BoardName}
use Rattle.names.specs.declared.PocketName.{PocketName}
use Rattle.names.specs.declared.LoName.{LoName}
use Rattle.names.specs.declared.LoName.TheVariants.{High, Nothing}
use Rattle.allsix.specs.declared.SixName.{SixName}
use Rattle.allsix.specs.declared.SixName.TheVariants.{RoyalOfDiamonds, Royal, Five}
use Rattle.names.specs.Five.{five_place}
use Rattle.names.specs.Board.{board_place}
use Rattle.names.specs.Pocket.{pocket_place}
use Rattle.pays.specs.declared.Pay.{Pay}
use Rattle.pays.specs.declared.Pay.TheVariants.{Loss, NoTable}
use Rattle.odds.specs.Tables.{base_lines, lo_lines, board_lines, pocket_lines, six_lines}

-- What pay table t, numbered from 1, says in a line of a table. What a pay table doesn't list loses.
unfoldable pub pay_in : List Pay → ℕ → Pay
pay_in line t = if leb 1 t && leb t (length line) then get_or line (t - 1) Loss else NoTable

abbrev pub pay_at : List (List Pay) → ℕ → ℕ → Pay
pay_at table t place = pay_in (get_or table place []) t

-- the Lo Ball lines are 7 high, a rank of 5, to queen high, a rank of 10; the last is for every other name
abbrev pub lo_place : LoName → ℕ
lo_place (High rank) = if leb 5 rank && leb rank 10 then rank - 5 else 6
lo_place Nothing = 6

-- the All-Six lines are the six-card royals, then the names of five cards to three of a kind; the last is for every other name
abbrev pub six_line : SixName → ℕ
six_line RoyalOfDiamonds = 0
six_line Royal = 1
six_line (Five name) = if ltb (five_place name) 7 then five_place name + 2 else 9

unfoldable pub base_pay : ℕ → FiveName → Pay
base_pay t name = pay_at base_lines t (five_place name)

unfoldable pub lo_pay : ℕ → LoName → Pay
lo_pay t name = pay_at lo_lines t (lo_place name)

unfoldable pub board_pay : ℕ → BoardName → Pay
board_pay t name = pay_at board_lines t (board_place name)

unfoldable pub pocket_pay : ℕ → PocketName → Pay
pocket_pay t name = pay_at pocket_lines t (pocket_place name)

unfoldable pub six_pay : ℕ → SixName → Pay
six_pay t name = pay_at six_lines t (six_line name)
