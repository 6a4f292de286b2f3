-- The table: its limits and its pay tables.
-- Assumes nothing.
use Rattle.std.specs.Prelude.{ℕ, Bool, not, ◌&&◌, ◌||◌, List, [], ◌∷◌, eqb, leb, if◌then◌else◌}
use Rattle.records.specs.Bytes.{byte, zero_from, between}
use Rattle.seating.specs.declared.Table.{Table}

-- Smallest ante 5 to 15, largest 25 to 100.
unfoldable pub limits_fit : Table → Bool
limits_fit t = between 5 15 t.smallest && between 25 100 t.largest

-- There are pay tables 1 to 5 for the base, 1 and 2 for Lo Ball, 1 to 4 for the Board, 1 to 3 for the Pocket. All-Six isn't
-- offered, 0, or has a pay table of 1 to 5.
unfoldable pub tables_fit : Table → Bool
tables_fit t = (between 1 5 t.base && between 1 2 t.lo) && ((between 1 4 t.board && between 1 3 t.pocket) && leb t.six 5)

-- 1, table: bytes 1, 2 smallest and largest ante; 3 to 6 the numbers of the base, Lo Ball, Board and Pocket tables; 7 that of
-- All-Six, 0 where it isn't offered.
abbrev pub table_of : List ℕ → Table
table_of b = record { smallest = byte b 1; largest = byte b 2; base = byte b 3; lo = byte b 4; board = byte b 5; pocket = byte b 6; six = byte b 7 }

-- The number of the refusal of what a table record says, 0 where there is none. 4: a byte that must be zero isn't. 5: an ante limit
-- is out of range. 6: no such pay table.
unfoldable pub table_refusal : List ℕ → ℕ
table_refusal b =
    if not (zero_from 8 b) then 4
    else if not (limits_fit (table_of b)) then 5
    else if not (tables_fit (table_of b)) then 6
    else 0

-- before the table record; parts not yet filled are zero
abbrev pub no_table : Table
no_table = record { smallest = 0; largest = 0; base = 0; lo = 0; board = 0; pocket = 0; six = 0 }

-- the table record was read
abbrev pub has_table : Table → Bool
has_table t = not (eqb t.smallest 0)

-- nothing is filled
unfoldable pub is_blank : Table → Bool
is_blank t =
    ((eqb t.smallest 0 && eqb t.largest 0) && (eqb t.base 0 && eqb t.lo 0)) && ((eqb t.board 0 && eqb t.pocket 0) && eqb t.six 0)

-- the table of a round that accepted records lead to: none yet, or one that no refusal is for
unfoldable pub table_fits : Table → Bool
table_fits t = is_blank t || (limits_fit t && tables_fit t)

-- the record of a table
unfoldable pub table_record : Table → List ℕ
table_record t =
    1 ∷ t.smallest ∷ t.largest ∷ t.base ∷ t.lo ∷ t.board ∷ t.pocket ∷ t.six ∷ 0 ∷ 0 ∷ 0 ∷ 0 ∷ 0 ∷ 0 ∷ 0 ∷ 0 ∷ []
