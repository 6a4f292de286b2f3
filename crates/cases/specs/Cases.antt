-- The cases P1 to P14 of document 01.
-- Assumes nothing.
use Rattle.std.specs.Prelude.{ℕ, ◌≡◌, List, [], ◌∷◌, Result, Ok, Err}
use Rattle.causes.specs.declared.Refusal.{Refusal}
use Rattle.names.specs.declared.FiveName.{FiveName}
use Rattle.names.specs.declared.BoardName.{BoardName}
use Rattle.names.specs.declared.PocketName.{PocketName}
use Rattle.names.specs.declared.LoName.{LoName}
use Rattle.names.specs.Five.{answer_five}
use Rattle.names.specs.Board.{answer_board}
use Rattle.names.specs.Pocket.{answer_pocket}
use Rattle.names.specs.Lo.{answer_lo}
use Rattle.pays.specs.declared.Pay.{Pay}
use Rattle.pays.specs.declared.Pay.TheVariants.{To, Push, Loss, NoTable}
use Rattle.odds.specs.Pays.{base_pay, pocket_pay, lo_pay}
use Rattle.pool.specs.Pool.{share_list}

-- what a pay table says of an answer, where `pay` is what the tables say of a name; of a refusal it says nothing
abbrev pub pays : {Name : Type 0} → (ℕ → Name → Pay) → ℕ → Result Name Refusal → Pay
pays pay table (Ok name) = pay table name
pays pay table (Err refusal) = NoTable

-- What a case gives, and what must come of it: cards and their name; a pay table's number and cards, and what it says of them;
-- wins and a maximum, and each win's share.
pub data Case : Type 0 where
  five : List ℕ → FiveName → Case
  board : List ℕ → BoardName → Case
  pocket : List ℕ → PocketName → Case
  lo : List ℕ → LoName → Case
  base : ℕ → List ℕ → Pay → Case
  pocket_bonus : ℕ → List ℕ → Pay → Case
  lo_ball : ℕ → List ℕ → Pay → Case
  shares : List ℕ → ℕ → List ℕ → Case

abbrev pub Right : Case → Type 0
Right (five cards name) = answer_five cards ≡ Ok name
Right (board cards name) = answer_board cards ≡ Ok name
Right (pocket cards name) = answer_pocket cards ≡ Ok name
Right (lo cards name) = answer_lo cards ≡ Ok name
Right (base table cards pay) = pays base_pay table (answer_five cards) ≡ pay
Right (pocket_bonus table cards pay) = pays pocket_pay table (answer_pocket cards) ≡ pay
Right (lo_ball table cards pay) = pays lo_pay table (answer_lo cards) ≡ pay
Right (shares wins maximum paid) = share_list wins maximum wins ≡ paid

-- every case of a list is right
infixr 5 ◌and◌
pub data AllRight : List Case → Type 0 where
  done : AllRight []
  ◌and◌ : {c : Case} {cs : List Case} → Right c → AllRight cs → AllRight (c ∷ cs)

-- Card 4 × rank + suit: rank 0 is a two, 8 a ten, 12 an ace; suit 0 clubs, 1 diamonds, 2 hearts, 3 spades.
abbrev pub cases : List Case
cases =
    -- P1: A-2-3-4-5 mixed, straight
    five (48 ∷ 1 ∷ 6 ∷ 11 ∷ 12 ∷ []) FiveName.Straight
    -- P2: the same suited, straight flush
    ∷ five (48 ∷ 0 ∷ 4 ∷ 8 ∷ 12 ∷ []) FiveName.StraightFlush
    -- P3: Q-K-A-2-3 mixed, other
    ∷ five (40 ∷ 45 ∷ 50 ∷ 3 ∷ 4 ∷ []) FiveName.Other
    -- P4: pair of fives, other
    ∷ five (12 ∷ 13 ∷ 20 ∷ 31 ∷ 50 ∷ []) FiveName.Other
    -- P5: pair of tens, push, on each base table
    ∷ base 1 (32 ∷ 33 ∷ 20 ∷ 4 ∷ 50 ∷ []) Push
    ∷ base 2 (32 ∷ 33 ∷ 20 ∷ 4 ∷ 50 ∷ []) Push
    ∷ base 3 (32 ∷ 33 ∷ 20 ∷ 4 ∷ 50 ∷ []) Push
    ∷ base 4 (32 ∷ 33 ∷ 20 ∷ 4 ∷ 50 ∷ []) Push
    ∷ base 5 (32 ∷ 33 ∷ 20 ∷ 4 ∷ 50 ∷ []) Push
    -- P6: twos and threes, two pair
    ∷ five (0 ∷ 1 ∷ 4 ∷ 6 ∷ 50 ∷ []) FiveName.TwoPair
    -- P7: Q-K-A suited, royal
    ∷ board (40 ∷ 44 ∷ 48 ∷ []) BoardName.Royal
    -- P8: K-A-2 mixed, other
    ∷ board (44 ∷ 49 ∷ 2 ∷ []) BoardName.Other
    -- P9: A-J unsuited, 10, on each Pocket table
    ∷ pocket_bonus 1 (48 ∷ 37 ∷ []) (To 10)
    ∷ pocket_bonus 2 (48 ∷ 37 ∷ []) (To 10)
    ∷ pocket_bonus 3 (48 ∷ 37 ∷ []) (To 10)
    -- P10: A-10, nothing, suited and not
    ∷ pocket (48 ∷ 32 ∷ []) PocketName.Nothing
    ∷ pocket (48 ∷ 33 ∷ []) PocketName.Nothing
    -- P11: 2-3-4-5-7 mixed, 7 high
    ∷ lo (0 ∷ 5 ∷ 10 ∷ 15 ∷ 20 ∷ []) (LoName.High 5)
    -- P12: 2-4-5-6-7 hearts, nothing
    ∷ lo (2 ∷ 10 ∷ 14 ∷ 18 ∷ 22 ∷ []) LoName.Nothing
    -- P13: queen high, loss on table 1 and push on 2
    ∷ lo (0 ∷ 5 ∷ 10 ∷ 15 ∷ 40 ∷ []) (LoName.High 10)
    ∷ lo_ball 1 (0 ∷ 5 ∷ 10 ∷ 15 ∷ 40 ∷ []) Loss
    ∷ lo_ball 2 (0 ∷ 5 ∷ 10 ∷ 15 ∷ 40 ∷ []) Push
    -- P14: the three shares of the house example
    ∷ shares (20000 ∷ 10000 ∷ 500 ∷ []) 25000 (16393 ∷ 8197 ∷ 410 ∷ [])
    ∷ []
