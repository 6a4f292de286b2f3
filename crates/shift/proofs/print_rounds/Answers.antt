use Rattle.std.proofs.Common.{◌≡◌, ℕ, ◌≤◌, List, length, Bool, true, false, refl, arith}
use lib.Dec.{leb}
use lib.ListN.{length-take}
use borrow.Author.Tests.{leb-true, leb-false}
use Rattle.cutting.specs.Rounds.{first_round}
use Rattle.cutting.proofs.Cuts.{first-cut, none_first}
use Rattle.shift.proofs.print_rounds.Goals as goal

-- the first round lies within the file, also where there is none
first_within : (l : List ℕ) (n : ℕ) → n ≡ length (first_round l) → n ≤ length l
first_within l n e = go _ refl
  where
    go : (t : Bool) → leb 16 (length l) ≡ t → n ≤ length l
    go true h = (first-cut l n e (leb-true _ _ h)).1
    go false h = omega (arith, e, none_first l (leb-false _ _ h))

pub slice_bounds-print_round-end : goal.slice_bounds-print_round-end
slice_bounds-print_round-end g c =
    let k = first_within _ _ c.first_round-end.ensures in
    simp length-take (omega arith)

pub slice_bounds-rest-start : goal.slice_bounds-rest-start
slice_bounds-rest-start g c = first_within _ _ c.first_round-end.ensures

pub slice_bounds-rest-count : goal.slice_bounds-rest-count
slice_bounds-rest-count g c = first_within _ _ c.first_round-end.ensures
