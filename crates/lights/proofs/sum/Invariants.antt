use Rattle.std.proofs.Common.{◌≡◌, ◌<◌, ◌^◌, ◌+◌, ◌&&◌, ℕ, Bool, drop, ltb}
use Rattle.counting.specs.Choose.{one}
use Rattle.cards.specs.Card.{rank}
use Rattle.words.specs.Word.{word}
use Rattle.lights.specs.Lit.{lit_sum, places}
use Rattle.lights.proofs.sum.Given as goal

abbrev pub invariant-loop-card : goal.invariant-loop-card
invariant-loop-card l = record {
  place : l.place ≡ 2 ^ l.card-index;
  below : l.sum < l.place;
  lit : (f : ℕ → Bool) → l.ranks ≡ word (λ k. one (f k))
      → l.sum + lit_sum (λ x. ltb (rank x) 13 && f (rank x)) (drop l.card-index places) (drop l.card-index l.six)
      ≡ lit_sum (λ x. ltb (rank x) 13 && f (rank x)) places l.six;
}
