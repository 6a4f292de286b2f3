-- The deal and the amounts as they were before All-Six, and what a file was answered.
-- Assumes nothing.
use Rattle.std.specs.Prelude.{Result, Ok, Err, ℕ, ◌+◌, ◌*◌, Bool, not, ◌&&◌, List, [], ◌∷◌, ◌++◌, eqb, get_or, if◌then◌else◌}
use Rattle.counting.specs.Count.{gather, each}
use Rattle.round.specs.declared.Round.{Round}
use Rattle.round.specs.Order.{is_finished}
use Rattle.holding.specs.Deal.{playing_before}
use Rattle.names.specs.Five.{name_five}
use Rattle.names.specs.Board.{name_board}
use Rattle.names.specs.Pocket.{name_pocket}
use Rattle.names.specs.Lo.{name_lo}
use Rattle.pays.specs.declared.Pay.{Pay}
use Rattle.pays.specs.Amounts.{handed_back, above_fifty, win_at}
use Rattle.odds.specs.Pays.{base_pay, board_pay, pocket_pay, lo_pay}
use Rattle.pool.specs.declared.Pool.{Pool}
use Rattle.pool.specs.Pool.{pool_of}
use Rattle.amounts.specs.Base.{base_wager, stays_in}
use Rattle.results.specs.Results.{maximum}
use Rattle.reading.specs.declared.Reading.{Reading}
use Rattle.settlement.specs.declared.Paid.{Paid}
use Rattle.settlement.specs.declared.Faulty.{Faulty}
use Rattle.settlement.specs.Settle.{faulty_at}
use Rattle.older.specs.Records.{old_read_file}

-- ---- From the top of the deck each playing seat, lowest first, takes two cards together; the next three are the community cards.

unfoldable pub old_hole : Round → ℕ → List ℕ
old_hole r k =
    get_or r.deck.cards (2 * playing_before r.wagers.antes k) 0
    ∷ get_or r.deck.cards (2 * playing_before r.wagers.antes k + 1) 0 ∷ []

unfoldable pub old_community : Round → List ℕ
old_community r =
    get_or r.deck.cards (2 * playing_before r.wagers.antes 7) 0
    ∷ get_or r.deck.cards (2 * playing_before r.wagers.antes 7 + 1) 0
    ∷ get_or r.deck.cards (2 * playing_before r.wagers.antes 7 + 2) 0 ∷ []

abbrev pub old_five : Round → ℕ → List ℕ
old_five r k = old_community r ++ old_hole r k

-- ---- the base wager

unfoldable pub old_base_pay : Round → ℕ → Pay
old_base_pay r k = base_pay r.table.base (name_five (old_five r k))

unfoldable pub old_pooled : Round → ℕ → Bool
old_pooled r k = stays_in r k && above_fifty (old_base_pay r k)

unfoldable pub old_win : Round → ℕ → ℕ
old_win r k = if old_pooled r k then win_at (old_base_pay r k) (base_wager r k) else 0

unfoldable pub old_kept : Round → ℕ → ℕ
old_kept r k =
    if old_pooled r k then 100 * base_wager r k
    else if stays_in r k then handed_back (old_base_pay r k) (base_wager r k)
    else 0

-- shared as every pool is
unfoldable pub old_pool : Round → Pool
old_pool r = pool_of (each 7 (old_win r)) (maximum r.table)

-- ---- the results list of 28 numbers: four a seat, seats 1 to 7, in the order base, Board, Pocket, Lo Ball

unfoldable pub old_amounts : Round → ℕ → List ℕ
old_amounts r k =
    (old_kept r k + 100 * get_or (old_pool r).shares k 0)
    ∷ handed_back (board_pay r.table.board (name_board (old_community r))) (get_or r.wagers.board k 0)
    ∷ handed_back (pocket_pay r.table.pocket (name_pocket (old_hole r k))) (get_or r.wagers.pocket k 0)
    ∷ handed_back (lo_pay r.table.lo (name_lo (old_five r k))) (get_or r.wagers.lo k 0)
    ∷ []

unfoldable pub old_results : Round → List ℕ
old_results r = gather 7 (old_amounts r)

-- the same with a 0 after each seat's four
unfoldable pub widened : List ℕ → List ℕ
widened (base ∷ board ∷ pocket ∷ lo ∷ rest) = base ∷ board ∷ pocket ∷ lo ∷ 0 ∷ widened rest
widened [] = []
widened (base ∷ []) = []
widened (base ∷ board ∷ []) = []
widened (base ∷ board ∷ pocket ∷ []) = []

-- ---- what a file was answered, with a results list as long as it must be

-- the pool in dollars, full and as paid
abbrev pub old_paid : Round → Paid
old_paid r = record { full = (old_pool r).full; paid = (old_pool r).paid }

unfoldable pub old_answer : Reading → Result Paid Faulty
old_answer w =
    if not (eqb w.number 0) then Err (faulty_at w.number w.place)
    else if not (is_finished w.round) then Err (faulty_at 16 w.place)
    else Ok (old_paid w.round)

abbrev pub old_file_answer : List ℕ → Result Paid Faulty
old_file_answer l = old_answer (old_read_file l)

abbrev pub old_file_results : List ℕ → List ℕ
old_file_results l = old_results (old_read_file l).round
