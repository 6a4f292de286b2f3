use native.Mathlib.Omega.{arith}
use Rattle.lights.proofs.Ranks.{adds, adds_none}
use Rattle.lights.proofs.added.Goals as goal

pub returns-then-ranks-word1-ne0 : goal.returns-then-ranks-word1-ne0
returns-then-ranks-word1-ne0 c = let a = c.args in record {
  most = omega arith;
  sum = λ f these. adds f a.card a.ranks _ a.counts these c.word1.ensures c.if-ranks-word1-ne0.true;
}

pub returns : goal.returns
returns c = let a = c.args in record {
  most = omega arith;
  sum = λ f these. adds_none f a.card a.ranks _ a.counts these c.word1.ensures c.if-ranks-word1-ne0.false;
}
