-- The order of the cards plays no part in their faults.
-- Assumes nothing.
use Prim.Native.Nat.{ℕ}
use mathlib.Core.Path.{◌≡◌}
use mathlib.Core.Bool.{false}
use mathlib.Core.List.{List}
use lib.Dec.{eqb}
use Rattle.counting.specs.Order.{Reordered}
use Rattle.counting.proofs.Orders.{back, reordered_count, reordered_every}
use Rattle.counting.proofs.Tests.{same_test}
use Rattle.cards.specs.Card.{is_card}
use Rattle.cards.specs.Deck.{repeats, faulty}
use Rattle.cards.proofs.Repeats.{once_each, each_once}

-- by counts, which the order leaves
reordered_once : {xs ys : List ℕ} → Reordered xs ys → repeats xs ≡ false → repeats ys ≡ false
reordered_once {xs} {ys} p e = each_once ys (λ c. rw (← reordered_count (λ d. eqb d c) p) (once_each xs e c))

pub reordered_repeats : {xs ys : List ℕ} → Reordered xs ys → repeats xs ≡ repeats ys
reordered_repeats {xs} {ys} p = same_test (repeats xs) (repeats ys) (reordered_once p) (reordered_once (back p))

pub reordered_faulty : {xs ys : List ℕ} → Reordered xs ys → faulty xs ≡ faulty ys
unfolding faulty
reordered_faulty p = rw (reordered_every is_card p, reordered_repeats p)
