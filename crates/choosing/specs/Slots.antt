-- What the choices of a round that accepted records lead to may be: a test of each seat on each street.
-- Assumes nothing.
use Rattle.std.specs.Prelude.{ℕ, ◌+◌, Bool, not, ◌&&◌, ◌||◌, List, eqb, leb, ltb, get_or, if◌then◌else◌}
use Rattle.counting.specs.Count.{every_below}
use Rattle.choosing.specs.declared.Play.{Play}
use Rattle.choosing.specs.Streets.{raise_on, fold_of}

-- of a seat with this ante and this fold, where that many streets have opened: it has not folded, or it plays and folded on a
-- street that has opened
abbrev pub fold_fits : ℕ → ℕ → ℕ → Bool
fold_fits opened ante fold = eqb fold 0 || (not (eqb ante 0) && (leb fold 3 && leb fold opened))

-- of its raise on street s: none, and it has not folded on a later street; or it raised by 1 to 3 antes, plays, the street has opened,
-- and it has not folded by then
abbrev pub raise_fits : ℕ → ℕ → ℕ → ℕ → ℕ → Bool
raise_fits opened s ante fold raise =
    if eqb raise 0 then leb fold (s + 1)
    else (leb raise 3 && ltb s opened) && (not (eqb ante 0) && (eqb fold 0 || ltb (s + 1) fold))

unfoldable pub slot_fits : ℕ → ℕ → ℕ → ℕ → ℕ → Bool
slot_fits opened s ante fold raise = fold_fits opened ante fold && raise_fits opened s ante fold raise

-- the seat at place k on street s
abbrev pub slot_at : List ℕ → Play → ℕ → ℕ → ℕ → Bool
slot_at antes p opened s k = slot_fits opened s (get_or antes k 0) (fold_of p k) (raise_on p s k)

-- each seat on street s
unfoldable pub street_fits : List ℕ → Play → ℕ → ℕ → Bool
street_fits antes p opened s = every_below 7 (slot_at antes p opened s)

-- each seat on each street
unfoldable pub play_fits : List ℕ → Play → ℕ → Bool
play_fits antes p opened = every_below 3 (street_fits antes p opened)
