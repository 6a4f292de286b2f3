-- What a whole deck deals: no three playing seats a royal or a straight flush, and no two a royal flush.
-- Assumes nothing.
use Prim.Native.Nat.{ℕ, ◌+◌, ◌*◌, ◌≤◌, ◌<◌}
use mathlib.Core.Path.{◌≡◌}
use mathlib.Core.Bool.{Bool, true, false}
use mathlib.Core.List.{List}
use native.Mathlib.Omega.{arith}
use lib.Dec.{eqb}
use lib.ListN.{get_or}
use Rattle.std.specs.Prelude.{if◌then◌else◌}
use Rattle.counting.specs.Count.{tally}
use Rattle.counting.proofs.Ranges.{tally_le}
use Rattle.cards.specs.Deck.{whole_deck}
use Rattle.cards.proofs.Decks.{whole_length, whole_sound, no_repeat, below_52}
use Rattle.cards.proofs.Repeats.{places_differ}
use Rattle.records.specs.Seats.{plays}
use Rattle.names.specs.Five.{name_five}
use Rattle.names.specs.Top.{is_royal, is_top}
use Rattle.tops.specs.Run.{Apart}
use Rattle.tops.proofs.Seats.{no_three_tops, no_two_royals}
use Rattle.holding.specs.Deal.{playing_before, dealers_first, hole_at, community_at, hole, community, five}
use Rattle.counting.proofs.Tallies.{tally_lt}

-- where cards lie, offered or not: the dealer's first are at most four, and the community cards lie within the first 14 and 3
pub first_le : (offer : ℕ) → dealers_first offer ≤ 4
unfolding dealers_first
first_le offer = go (eqb offer 0)
  where
    go : (b : Bool) → (if b then 0 else 4) ≤ 4
    go true = omega arith
    go false = omega arith

pub community_le : (offer : ℕ) (antes : List ℕ) → community_at offer antes ≤ 14
unfolding community_at playing_before
community_le offer antes = go (eqb offer 0)
  where
    go : (b : Bool) → (if b then 2 * tally 7 (plays antes) else 0) ≤ 14
    go true = omega (arith, tally_le 7 (plays antes))
    go false = omega arith

module _ (offer : ℕ) (antes cards : List ℕ) (whole : whole_deck cards ≡ true) where
  abbrev card : ℕ → ℕ
  card i = get_or cards i 0

  pub different : (i j : ℕ) → j < i → i < 52 → card i ≡ card j → ⊥
  different i j h m = places_differ cards (no_repeat cards (whole_sound cards whole)) i (omega (arith, whole_length cards whole)) j h

  -- a playing seat's two cards lie before those of each later seat, and all within the deck
  apart : (i j : ℕ) → j < i → i < 7 → plays antes j ≡ true
      → Apart (card (hole_at offer antes i)) (card (hole_at offer antes i + 1)) (card (hole_at offer antes j)) (card (hole_at offer antes j + 1))
  unfolding playing_before
  apart i j h m p =
      let a = hole_at offer antes i in
      let b = hole_at offer antes j in
      let before : b + 2 ≤ a = omega (arith, tally_lt (plays antes) i j h p) in
      let within : a + 2 ≤ 52 = omega (arith, first_le offer, tally_le i (plays antes)) in (
        (different a b (omega arith) (omega arith), different a (b + 1) (omega arith) (omega arith)),
        (different (a + 1) b (omega arith) (omega arith), different (a + 1) (b + 1) (omega arith) (omega arith)),
      )

  below : (i : ℕ) → i < community_at offer antes + 3 → card i < 52
  below i h = below_52 cards (whole_sound cards whole) i (omega (arith, whole_length cards whole, community_le offer antes))

  pub no_three : (i j k : ℕ) → k < j → j < i → i < 7 → plays antes j ≡ true → plays antes k ≡ true
      → is_top (name_five (five offer antes cards i)) ≡ true → is_top (name_five (five offer antes cards j)) ≡ true → is_top (name_five (five offer antes cards k)) ≡ true → ⊥
  unfolding five community hole
  no_three i j k b a h p q x y z =
      let c = community_at offer antes in
      no_three_tops (card c) (card (c + 1)) (card (c + 2)) (below c (omega arith)) (below (c + 1) (omega arith)) (below (c + 2) (omega arith))
      _ _ _ _ _ _ x y z (apart i j a h p) (apart i k (omega arith) h q) (apart j k b (omega arith) q)

  pub no_two : (i j : ℕ) → j < i → i < 7 → plays antes j ≡ true
      → is_royal (name_five (five offer antes cards i)) ≡ true → is_royal (name_five (five offer antes cards j)) ≡ true → ⊥
  unfolding five community hole
  no_two i j a h p x y =
      let c = community_at offer antes in
      no_two_royals (card c) (card (c + 1)) (card (c + 2)) (below c (omega arith)) (below (c + 1) (omega arith)) (below (c + 2) (omega arith))
      _ _ _ _ x y (apart i j a h p)
