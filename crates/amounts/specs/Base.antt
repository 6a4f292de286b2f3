-- The base wager of a seat: its stake, its hand, its odds, and whether its win goes into the pool. Wagers and wins are dollars, amounts
-- are cents. A seat is told by its place, 0 to 6.
-- Assumes nothing.
use Rattle.std.specs.Prelude.{ℕ, ◌+◌, ◌*◌, Bool, ◌&&◌, List, get_or, if◌then◌else◌}
use Rattle.counting.specs.Count.{each}
use Rattle.choosing.specs.Streets.{raise_on, still_in}
use Rattle.round.specs.declared.Round.{Round}
use Rattle.holding.specs.declared.Deal.{Deal}
use Rattle.holding.specs.Deal.{five}
use Rattle.names.specs.declared.FiveName.{FiveName}
use Rattle.names.specs.Five.{name_five}
use Rattle.pays.specs.declared.Pay.{Pay}
use Rattle.odds.specs.Pays.{base_pay}
use Rattle.pays.specs.Amounts.{handed_back, above_fifty, win_at}
use Rattle.amounts.specs.declared.Base.{Base}
use Rattle.amounts.specs.declared.Bases.{Bases}

-- by how many antes the seat raised, on the three streets together
abbrev pub raised_by : Round → ℕ → ℕ
raised_by r k = raise_on r.play 0 k + raise_on r.play 1 k + raise_on r.play 2 k

-- The base wager is ante plus raises as one sum.
unfoldable pub base_wager : Round → ℕ → ℕ
base_wager r k = get_or r.wagers.antes k 0 + raised_by r k * get_or r.wagers.antes k 0

-- the seat is still in: it plays and has not folded
abbrev pub stays_in : Round → ℕ → Bool
stays_in r k = still_in r.wagers.antes r.play k

-- what its five cards are called
unfoldable pub hand_of : Round → ℕ → FiveName
hand_of r k = name_five (five r.table.six r.wagers.antes r.deck.cards k)

-- what the table's base pay table says of that
unfoldable pub base_pay_of : Round → ℕ → Pay
base_pay_of r k = base_pay r.table.base (hand_of r k)

-- Base wins (without the wager) at odds above 50 go into the pool; nothing else does.
unfoldable pub pooled : Round → ℕ → Bool
pooled r k = stays_in r k && above_fifty (base_pay_of r k)

-- the seat's full win in the pool, 0 where it has none there
unfoldable pub win : Round → ℕ → ℕ
win r k = if pooled r k then win_at (base_pay_of r k) (base_wager r k) else 0

-- What the base wager hands back besides a share of the pool: in the pool the wager, else what the pay table says; a folded seat gets 0
-- for it.
unfoldable pub kept : Round → ℕ → ℕ
kept r k =
    if pooled r k then 100 * base_wager r k
    else if stays_in r k then handed_back (base_pay_of r k) (base_wager r k)
    else 0

-- both, of a seat that is still in, by what its pay table says,
abbrev pub base_at : Pay → ℕ → Base
base_at pay wager =
    record {
      win = if above_fifty pay then win_at pay wager else 0;
      kept = if above_fifty pay then 100 * wager else handed_back pay wager;
    }

-- of any seat, and of the seven
abbrev pub base_of : Round → ℕ → Base
base_of r k = record { win = win r k; kept = kept r k }

unfoldable pub wins : Round → List ℕ
wins r = each 7 (win r)

abbrev pub bases_of : Round → Bases
bases_of r = record { wins = wins r; kept = each 7 (kept r) }
