-- A record to the public entry: a refusal hands back the same round, and a held round is fed.
-- Assumes nothing.
use Prim.Native.Nat.{ℕ}
use mathlib.Core.Path.{◌≡◌, refl}
use mathlib.Core.Bool.{Bool, true, false, not}
use mathlib.Core.List.{List}
use lib.Dec.{eqb}
use Rattle.std.specs.Prelude.{if◌then◌else◌}
use Rattle.round.specs.declared.Round.{Round}
use Rattle.round.specs.Order.{is_finished}
use Rattle.round.specs.Feed.{refusal, next, refused, accepted, feed, number_of}
use Rattle.round.proofs.Numbers.{on_or_finished}
use Rattle.led.specs.Held.{is_held}
use Rattle.held.specs.Take.{takes}

pub take_feeds : (r : Round) (b : List ℕ) → is_held r ≡ true → takes r b ≡ feed r b
unfolding takes
take_feeds r b h = simp h

feed_left : (r : Round) (b : List ℕ) → (number_of (feed r b).answer ≡ 0 → ⊥) → (feed r b).round ≡ r
unfolding feed
feed_left r b = go (eqb (refusal r b) 0)
  where
    go : (none : Bool) → (number_of (if not none then refused (refusal r b) r else accepted (next r b)).answer ≡ 0 → ⊥)
        → (if not none then refused (refusal r b) r else accepted (next r b)).round ≡ r
    go false n = refl
    go true n = absurd (n (on_or_finished (is_finished (next r b))))

pub take_left : (r : Round) (b : List ℕ) → (number_of (takes r b).answer ≡ 0 → ⊥) → (takes r b).round ≡ r
unfolding takes
take_left r b = go (is_held r)
  where
    go : (held : Bool) → (number_of (if not held then refused 17 r else feed r b).answer ≡ 0 → ⊥) → (if not held then refused 17 r else feed r b).round ≡ r
    go false n = refl
    go true n = feed_left r b n
