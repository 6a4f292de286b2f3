-- A name of five cards by its place: there are eleven, and no two names have the same.
-- Assumes nothing.
use Prim.Native.Nat.{ℕ, ◌<◌}
use mathlib.Core.Path.{◌≡◌, refl, sym, ap, ◌∙◌}
use mathlib.Core.List.{List, [], ◌∷◌}
use native.Mathlib.Omega.{arith}
use lib.ListN.{get_or}
use Rattle.names.specs.Five.{five_place}
use Rattle.names.specs.declared.FiveName.{FiveName}
use Rattle.names.specs.declared.FiveName.TheVariants.{RoyalFlush, StraightFlush, FourOfAKind, FullHouse, Flush, Straight, ThreeOfAKind, TwoPair, JacksToAces, SixesToTens, Other}

names : List FiveName
names = RoyalFlush ∷ StraightFlush ∷ FourOfAKind ∷ FullHouse ∷ Flush ∷ Straight ∷ ThreeOfAKind ∷ TwoPair ∷ JacksToAces ∷ SixesToTens ∷ Other ∷ []

at_place_lem : (name : FiveName) → (five_place name < 11) × (get_or names (five_place name) Other ≡ name)
unfolding names
at_place_lem RoyalFlush = (omega arith, refl)
at_place_lem StraightFlush = (omega arith, refl)
at_place_lem FourOfAKind = (omega arith, refl)
at_place_lem FullHouse = (omega arith, refl)
at_place_lem Flush = (omega arith, refl)
at_place_lem Straight = (omega arith, refl)
at_place_lem ThreeOfAKind = (omega arith, refl)
at_place_lem TwoPair = (omega arith, refl)
at_place_lem JacksToAces = (omega arith, refl)
at_place_lem SixesToTens = (omega arith, refl)
at_place_lem Other = (omega arith, refl)

pub five_below : (name : FiveName) → five_place name < 11
five_below name = (at_place_lem name).0

pub same_place : (a b : FiveName) → five_place a ≡ five_place b → a ≡ b
same_place a b e = sym (at_place_lem a).1 ∙ ap (λ (n : ℕ). get_or names n Other) e ∙ (at_place_lem b).1
