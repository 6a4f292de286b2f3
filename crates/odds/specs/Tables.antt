-- The odds, all "to 1", as document 01 and the Appendices A to E of source document 002 print them: a line for each name, from the
-- top, and in it a pay table's odds at the place of its number.
-- Assumes nothing.
use Rattle.std.specs.Prelude.{List, [], ◌∷◌}
use Rattle.pays.specs.declared.Pay.{Pay}
use Rattle.pays.specs.declared.Pay.TheVariants.{To, ThreeToTwo, To200000, Push, Loss}

unfoldable pub base_lines : List (List Pay)
base_lines =
    (To 500 ∷ To 500 ∷ To 500 ∷ To 500 ∷ To 500 ∷ [])  -- royal flush
    ∷ (To 100 ∷ To 100 ∷ To 100 ∷ To 100 ∷ To 100 ∷ [])  -- straight flush
    ∷ (To 40 ∷ To 40 ∷ To 40 ∷ To 40 ∷ To 40 ∷ [])  -- four
    ∷ (To 10 ∷ To 10 ∷ To 11 ∷ To 11 ∷ To 10 ∷ [])  -- full house
    ∷ (To 6 ∷ To 6 ∷ To 7 ∷ To 7 ∷ To 8 ∷ [])  -- flush
    ∷ (To 4 ∷ To 4 ∷ To 4 ∷ To 5 ∷ To 4 ∷ [])  -- straight
    ∷ (To 3 ∷ To 3 ∷ To 3 ∷ To 3 ∷ To 3 ∷ [])  -- three
    ∷ (ThreeToTwo ∷ To 2 ∷ ThreeToTwo ∷ ThreeToTwo ∷ ThreeToTwo ∷ [])  -- two pair
    ∷ (To 1 ∷ To 1 ∷ To 1 ∷ To 1 ∷ To 1 ∷ [])  -- jacks to aces
    ∷ (Push ∷ Push ∷ Push ∷ Push ∷ Push ∷ [])  -- sixes to tens
    ∷ (Loss ∷ Loss ∷ Loss ∷ Loss ∷ Loss ∷ [])  -- other
    ∷ []

unfoldable pub lo_lines : List (List Pay)
lo_lines =
    (To 100 ∷ To 100 ∷ [])  -- 7 high
    ∷ (To 50 ∷ To 50 ∷ [])  -- 8 high
    ∷ (To 15 ∷ To 10 ∷ [])  -- 9 high
    ∷ (To 5 ∷ To 5 ∷ [])  -- 10 high
    ∷ (To 1 ∷ To 1 ∷ [])  -- jack high
    ∷ (Loss ∷ Push ∷ [])  -- queen high
    ∷ (Loss ∷ Loss ∷ [])  -- other
    ∷ []

unfoldable pub board_lines : List (List Pay)
board_lines =
    (To 50 ∷ To 50 ∷ To 40 ∷ To 50 ∷ [])  -- royal
    ∷ (To 40 ∷ To 40 ∷ To 40 ∷ To 40 ∷ [])  -- straight flush
    ∷ (To 30 ∷ To 30 ∷ To 30 ∷ To 30 ∷ [])  -- three of a kind
    ∷ (To 6 ∷ To 5 ∷ To 5 ∷ To 6 ∷ [])  -- straight
    ∷ (To 3 ∷ To 4 ∷ To 4 ∷ To 4 ∷ [])  -- flush
    ∷ (To 1 ∷ To 1 ∷ To 1 ∷ To 1 ∷ [])  -- pair
    ∷ (Loss ∷ Loss ∷ Loss ∷ Loss ∷ [])  -- other
    ∷ []

unfoldable pub pocket_lines : List (List Pay)
pocket_lines =
    (To 25 ∷ To 30 ∷ To 30 ∷ [])  -- pair of aces
    ∷ (To 20 ∷ To 20 ∷ To 20 ∷ [])  -- ace with K, Q or J suited
    ∷ (To 10 ∷ To 10 ∷ To 10 ∷ [])  -- the same unsuited
    ∷ (To 5 ∷ To 5 ∷ To 4 ∷ [])  -- other pair
    ∷ (Loss ∷ Loss ∷ Loss ∷ [])  -- nothing
    ∷ []

unfoldable pub six_lines : List (List Pay)
six_lines =
    (To 1000 ∷ To 1000 ∷ To 1000 ∷ To 1000 ∷ To200000 ∷ [])  -- six-card royal in diamonds
    ∷ (To 1000 ∷ To 1000 ∷ To 1000 ∷ To 1000 ∷ To 20000 ∷ [])  -- in another suit
    ∷ (To 1000 ∷ To 1000 ∷ To 1000 ∷ To 1000 ∷ To 1000 ∷ [])  -- royal flush
    ∷ (To 200 ∷ To 200 ∷ To 200 ∷ To 200 ∷ To 200 ∷ [])  -- straight flush
    ∷ (To 50 ∷ To 50 ∷ To 100 ∷ To 100 ∷ To 50 ∷ [])  -- four
    ∷ (To 25 ∷ To 25 ∷ To 20 ∷ To 20 ∷ To 20 ∷ [])  -- full house
    ∷ (To 20 ∷ To 15 ∷ To 15 ∷ To 15 ∷ To 15 ∷ [])  -- flush
    ∷ (To 10 ∷ To 10 ∷ To 9 ∷ To 10 ∷ To 10 ∷ [])  -- straight
    ∷ (To 5 ∷ To 5 ∷ To 8 ∷ To 7 ∷ To 5 ∷ [])  -- three
    ∷ (Loss ∷ Loss ∷ Loss ∷ Loss ∷ Loss ∷ [])  -- other
    ∷ []
