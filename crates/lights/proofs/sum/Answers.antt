use Rattle.std.proofs.Common.{◌≡◌, ◌≤◌, ◌*◌, ◌^◌, ◌+◌, ◌∙◌, ◌&&◌, ℕ, length, get_or, take, add-one, arith, ap, ltb}
use Rattle.std.proofs.Math.Nat.{pow-suc}
use Rattle.std.proofs.Math.Pow.{pow_mono}
use Rattle.std.proofs.lemmas.List.{length-take}
use Rattle.counting.specs.Choose.{one}
use Rattle.cards.specs.Card.{rank}
use Rattle.lights.specs.Lit.{places}
use Rattle.lights.proofs.Sums.{lit_step, lit_end, lit_few}
use Rattle.lights.proofs.sum.Goals as goal

pub loop-card-preserved : goal.loop-card-preserved
loop-card-preserved c =
    let l = c.loop-card in
    let six = take c.min.result c.args.cards.now in
    let i = l.card-index in
    let twice : 2 ^ (i + 1) ≡ 2 ^ i * 2 = rw add-one (pow-suc 2 i) in
    record {
      place = omega (arith, twice, l.invariant.place);
      below = omega (arith, l.invariant.below, c.added-sum.ensures.most);
      lit = λ f these.
          let g = λ (x : ℕ). ltb (rank x) 13 && f (rank x) in
          let own = c.added-sum.ensures.sum f these ∙ ap (λ (k : ℕ). k * one (g (get_or six i 0))) l.invariant.place in
          omega (arith, own, l.invariant.lit f these, lit_step g six i c.loop-card-test.true (omega (arith, c.loop-card-test.true, length-take c.min.result c.args.cards.now, c.min.ensures)));
    }

pub returns-clause-most : goal.returns-clause-most
returns-clause-most c =
    let l = c.loop-card in
    let few : l.card-index ≤ length c.args.cards.now = omega (arith, l.auto.card-index-end, length-take c.min.result c.args.cards.now, c.min.ensures) in
    omega (arith, l.invariant.below, l.invariant.place, pow_mono few)

pub returns-clause-sum : goal.returns-clause-sum
returns-clause-sum c = λ f these.
    let l = c.loop-card in
    let cards = c.args.cards.now in
    let six = take c.min.result cards in
    let g = λ (x : ℕ). ltb (rank x) 13 && f (rank x) in
    omega (arith, l.invariant.lit f these, lit_end g six l.card-index c.loop-card-test.false, lit_few g cards places c.min.result c.min.ensures)
