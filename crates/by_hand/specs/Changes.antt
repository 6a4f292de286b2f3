-- The round that a letter and up to three numbers make of another.
-- Assumes nothing.
use Rattle.std.specs.Prelude.{ℕ, eqb, ltb, set, if◌then◌else◌}
use Rattle.seating.specs.declared.Table.{Table}
use Rattle.seating.specs.declared.Wagers.{Wagers}
use Rattle.round.specs.declared.Round.{Round}
use Rattle.round.specs.Order.{fresh_round}
use Rattle.round.specs.Feed.{with_table, with_wagers, with_deck, with_play}

-- The table's seven numbers, by place: smallest and largest ante, base, Lo Ball, Board, Pocket and, from place 6 on, All-Six table.
abbrev pub table_with : Table → ℕ → ℕ → Table
table_with t place n =
    record {
      smallest = if eqb place 0 then n else t.smallest;
      largest = if eqb place 1 then n else t.largest;
      base = if eqb place 2 then n else t.base;
      lo = if eqb place 3 then n else t.lo;
      board = if eqb place 4 then n else t.board;
      pocket = if eqb place 5 then n else t.pocket;
      six = if ltb 5 place then n else t.six;
    }

-- The lists of wagers, by number: antes, Board, Pocket, Lo Ball and, from number 4 on, All-Six.
unfoldable pub wagers_with : Wagers → ℕ → ℕ → ℕ → Wagers
wagers_with w list place dollars =
    if eqb list 0 then record { antes = set w.antes place dollars; board = w.board; pocket = w.pocket; lo = w.lo; six = w.six }
    else if eqb list 1 then record { antes = w.antes; board = set w.board place dollars; pocket = w.pocket; lo = w.lo; six = w.six }
    else if eqb list 2 then record { antes = w.antes; board = w.board; pocket = set w.pocket place dollars; lo = w.lo; six = w.six }
    else if eqb list 3 then record { antes = w.antes; board = w.board; pocket = w.pocket; lo = set w.lo place dollars; six = w.six }
    else record { antes = w.antes; board = w.board; pocket = w.pocket; lo = w.lo; six = set w.six place dollars }

-- The round with another number in its table.
abbrev pub with_number : Round → ℕ → ℕ → Round
with_number r place n = with_table r (table_with r.table place n)

-- The round with another wager.
abbrev pub with_wager : Round → ℕ → ℕ → ℕ → Round
with_wager r list place dollars = with_wagers r (wagers_with r.wagers list place dollars)

-- The round with another card.
abbrev pub with_card : Round → ℕ → ℕ → Round
with_card r place card = with_deck r (record { cards = set r.deck.cards place card; parts = r.deck.parts })

-- The round with another number of deck parts read.
abbrev pub with_parts : Round → ℕ → Round
with_parts r parts = with_deck r (record { cards = r.deck.cards; parts = parts })

-- The round with another raise, at a place of the 21, street by street.
abbrev pub with_raise : Round → ℕ → ℕ → Round
with_raise r place raise = with_play r (record { raises = set r.play.raises place raise; folds = r.play.folds })

-- The round with another fold.
abbrev pub with_fold : Round → ℕ → ℕ → Round
with_fold r place street = with_play r (record { raises = r.play.raises; folds = set r.play.folds place street })

-- The letters: c a card, f the fresh round, h a fold, p the parts, r a raise, t the table, w a wager; any other changes nothing.
unfoldable pub changed : Round → ℕ → ℕ → ℕ → ℕ → Round
changed r letter a b c =
    if eqb letter 99 then with_card r a b
    else if eqb letter 102 then fresh_round
    else if eqb letter 104 then with_fold r a b
    else if eqb letter 112 then with_parts r a
    else if eqb letter 114 then with_raise r a b
    else if eqb letter 116 then with_number r a b
    else if eqb letter 119 then with_wager r a b c
    else r
