use mathlib.Core.Path.{refl}
use Rattle.words.specs.Word.{digits}
use Rattle.lights.proofs.ranks_of.Goals as goal

pub returns-in-All : goal.returns-in-All
unfolding digits
returns-in-All c = λ h has. rw c.in-All.is refl

pub returns-in-Fours : goal.returns-in-Fours
returns-in-Fours c = λ h has. rw c.in-Fours.is (c.fours.ensures h has)

pub returns-in-Threes : goal.returns-in-Threes
returns-in-Threes c = λ h has. rw c.in-Threes.is (c.threes.ensures h has)

pub returns-in-Pairs : goal.returns-in-Pairs
returns-in-Pairs c = λ h has. rw c.in-Pairs.is (c.twos.ensures h has)

pub returns-in-High : goal.returns-in-High
returns-in-High c = λ h has. rw c.in-High.is c.word_of.ensures

pub returns-in-Dark : goal.returns-in-Dark
unfolding digits
returns-in-Dark c = λ h has. rw c.in-Dark.is refl
