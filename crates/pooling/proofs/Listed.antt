-- A posted table's pay tables are there: each says something of every name, that of All-Six where it is offered.
-- Assumes nothing.
use Prim.Native.Nat.{ℕ, ◌+◌, ◌-◌, ◌≤◌, ◌<◌}
use mathlib.Core.Path.{◌≡◌, refl, ap}
use mathlib.Core.Bool.{Bool, true, false}
use mathlib.Core.List.{List}
use native.Mathlib.Omega.{arith}
use Rattle.counting.specs.Count.{every_below}
use Rattle.counting.proofs.Tests.{clash}
use Rattle.counting.proofs.Ranges.{every_at}
use Rattle.names.specs.declared.FiveName.{FiveName}
use Rattle.names.specs.declared.BoardName.{BoardName}
use Rattle.names.specs.declared.PocketName.{PocketName}
use Rattle.names.specs.declared.LoName.{LoName}
use Rattle.allsix.specs.declared.SixName.{SixName}
use Rattle.names.specs.Five.{five_place}
use Rattle.names.specs.Board.{board_place}
use Rattle.names.specs.Pocket.{pocket_place}
use Rattle.pays.specs.declared.Pay.{Pay}
use Rattle.pays.specs.declared.Pay.TheVariants.{To, ThreeToTwo, To200000, Push, Loss, NoTable}
use Rattle.odds.specs.Tables.{base_lines, lo_lines, board_lines, pocket_lines, six_lines}
use Rattle.odds.specs.Pays.{pay_in, pay_at, lo_place, six_line, base_pay, lo_pay, board_pay, pocket_pay, six_pay}
use Rattle.names.proofs.Places.{five_below}
use Rattle.odds.proofs.Places.{board_below, pocket_below, lo_below, six_below}
use Rattle.seating.specs.declared.Table.{Table}
use Rattle.seating.proofs.Tables.{Posted}

-- some pay table said it
is_said : Pay → Bool
is_said (To odds) = true
is_said ThreeToTwo = true
is_said To200000 = true
is_said Push = true
is_said Loss = true
is_said NoTable = false

-- the tables 1 to n say something in each of the lines
abbrev all_say : List (List Pay) → ℕ → ℕ → Bool
all_say table n lines = every_below n (λ t. every_below lines (λ place. is_said (pay_at table (t + 1) place)))

listed : (table : List (List Pay)) (n lines : ℕ) → all_say table n lines ≡ true → (t place : ℕ) → 1 ≤ t → t ≤ n → place < lines
    → pay_at table t place ≡ NoTable → ⊥
unfolding is_said
listed table n lines all t place a b h e =
    let number : t - 1 + 1 ≡ t = omega arith in
    let row = every_at (λ s. every_below lines (λ p. is_said (pay_at table (s + 1) p))) n all (t - 1) (omega arith) in
    let said : is_said (pay_at table t place) ≡ true = rw number at (every_at (λ p. is_said (pay_at table (t - 1 + 1) p)) lines row place h) in
    clash (is_said (pay_at table t place)) said (ap is_said e)

all_base : all_say base_lines 5 11 ≡ true
unfolding every_below is_said pay_in base_lines
all_base = refl

all_lo : all_say lo_lines 2 7 ≡ true
unfolding every_below is_said pay_in lo_lines
all_lo = refl

all_board : all_say board_lines 4 7 ≡ true
unfolding every_below is_said pay_in board_lines
all_board = refl

all_pocket : all_say pocket_lines 3 5 ≡ true
unfolding every_below is_said pay_in pocket_lines
all_pocket = refl

all_six : all_say six_lines 5 10 ≡ true
unfolding every_below is_said pay_in six_lines
all_six = refl

module _ (t : Table) (posted : Posted t) where
  pub base-listed : (name : FiveName) → base_pay t.base name ≡ NoTable → ⊥
  unfolding base_pay
  base-listed name = listed base_lines 5 11 all_base t.base (five_place name) posted.base_low posted.base_high (five_below name)

  pub lo-listed : (name : LoName) → lo_pay t.lo name ≡ NoTable → ⊥
  unfolding lo_pay
  lo-listed name = listed lo_lines 2 7 all_lo t.lo (lo_place name) posted.lo_low posted.lo_high_lem (lo_below name)

  pub board-listed : (name : BoardName) → board_pay t.board name ≡ NoTable → ⊥
  unfolding board_pay
  board-listed name = listed board_lines 4 7 all_board t.board (board_place name) posted.board_low posted.board_high (board_below name)

  pub pocket-listed : (name : PocketName) → pocket_pay t.pocket name ≡ NoTable → ⊥
  unfolding pocket_pay
  pocket-listed name = listed pocket_lines 3 5 all_pocket t.pocket (pocket_place name) posted.pocket_low posted.pocket_high (pocket_below name)

  pub six-listed : 1 ≤ t.six → (name : SixName) → six_pay t.six name ≡ NoTable → ⊥
  unfolding six_pay
  six-listed offered name = listed six_lines 5 10 all_six t.six (six_line name) offered posted.six_high (six_below name)
