-- A royal flush or a straight flush: the names that odds above 50 are paid on.
-- Assumes nothing.
use Rattle.std.specs.Prelude.{Bool, eqb, ltb}
use Rattle.names.specs.declared.FiveName.{FiveName}
use Rattle.names.specs.Five.{five_place}

abbrev pub is_royal : FiveName → Bool
is_royal name = eqb (five_place name) 0

abbrev pub is_top : FiveName → Bool
is_top name = ltb (five_place name) 2
