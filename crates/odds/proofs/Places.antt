-- Every name has a line in its table.
-- Assumes nothing.
use Prim.Native.Nat.{ℕ, ◌+◌, ◌-◌, ◌<◌}
use mathlib.Core.Path.{◌≡◌, refl}
use mathlib.Core.Bool.{Bool, true, false, ◌&&◌}
use native.Mathlib.Omega.{arith}
use lib.Dec.{leb, ltb}
use borrow.Author.Tests.{leb-true, ltb-true}
use Rattle.std.specs.Prelude.{if◌then◌else◌}
use Rattle.counting.proofs.Tests.{and_true}
use Rattle.names.specs.declared.BoardName.{BoardName}
use Rattle.names.specs.declared.PocketName.{PocketName}
use Rattle.names.specs.declared.LoName.{LoName}
use Rattle.names.specs.Five.{five_place}
use Rattle.names.specs.Board.{board_place}
use Rattle.names.specs.Pocket.{pocket_place}
use Rattle.allsix.specs.declared.SixName.{SixName}
use Rattle.odds.specs.Pays.{lo_place, six_line}

pub board_below : (name : BoardName) → board_place name < 7
board_below BoardName.Royal = omega arith
board_below BoardName.StraightFlush = omega arith
board_below BoardName.ThreeOfAKind = omega arith
board_below BoardName.Straight = omega arith
board_below BoardName.Flush = omega arith
board_below BoardName.Pair = omega arith
board_below BoardName.Other = omega arith

pub pocket_below : (name : PocketName) → pocket_place name < 5
pocket_below PocketName.Aces = omega arith
pocket_below PocketName.AceFaceSuited = omega arith
pocket_below PocketName.AceFace = omega arith
pocket_below PocketName.OtherPair = omega arith
pocket_below PocketName.Nothing = omega arith

line_below : (rank : ℕ) → (if leb 5 rank && leb rank 10 then rank - 5 else 6) < 7
line_below rank = go (leb 5 rank && leb rank 10) refl
  where
    go : (b : Bool) → (leb 5 rank && leb rank 10) ≡ b → (if b then rank - 5 else 6) < 7
    go true e = let both = and_true (leb 5 rank) (leb rank 10) e in omega (arith, leb-true rank 10 both.1)
    go false e = omega arith

pub lo_below : (name : LoName) → lo_place name < 7
lo_below (LoName.High rank) = line_below rank
lo_below LoName.Nothing = omega arith

best_below : (place : ℕ) → (if ltb place 7 then place + 2 else 9) < 10
best_below place = go (ltb place 7) refl
  where
    go : (b : Bool) → ltb place 7 ≡ b → (if b then place + 2 else 9) < 10
    go true e = omega (arith, ltb-true place 7 e)
    go false e = omega arith

pub six_below : (name : SixName) → six_line name < 10
six_below SixName.RoyalOfDiamonds = omega arith
six_below SixName.Royal = omega arith
six_below (SixName.Five name) = best_below (five_place name)
