-- The six cards of a playing seat's All-Six hand are cards, and none is there twice, in either deal: they would not be refused.
-- Assumes nothing.
use Prim.Native.Nat.{ℕ, zero, suc, ◌+◌, ◌-◌, ◌*◌, ◌<◌}
use mathlib.Core.Path.{◌≡◌, refl, sym, ◌∙◌}
use mathlib.Core.Bool.{Bool, true, false}
use mathlib.Core.List.{List}
use native.Mathlib.Omega.{arith}
use lib.Dec.{eqb, ltb}
use lib.ListN.{get_or}
use borrow.Author.Tests.{ltb-true, ltb-false, le-leb}
use Rattle.std.specs.Prelude.{if◌then◌else◌}
use Rattle.counting.specs.Count.{tally, every_of}
use Rattle.counting.proofs.Lists.{at_every_of}
use Rattle.counting.proofs.Ranges.{tally_le}
use Rattle.counting.proofs.Tallies.{tally_lt}
use Rattle.cards.specs.Card.{is_card}
use Rattle.cards.specs.Deck.{repeats, faulty, whole_deck}
use Rattle.cards.proofs.Repeats.{differ_places}
use Rattle.cards.proofs.Decks.{below_52, whole_length, whole_sound}
use Rattle.records.specs.Seats.{plays}
use Rattle.hands.specs.Hand.{hand_refusal}
use Rattle.hands.proofs.Refusals.{sound_hand}
use Rattle.holding.specs.Deal.{playing_before, dealers_first, hole_at, community_at, hole, community, six_card, six_hand}
use Rattle.std.specs.Prelude.{Ok}
use Rattle.causes.specs.Refusal.{answered}
use Rattle.allsix.specs.Six.{name_six, answer_six}
use Rattle.round.specs.declared.Round.{Round}
use Rattle.round.specs.Order.{is_finished}
use Rattle.led.specs.Led.{Led}
use Rattle.led.proofs.Facts.{finished_dealt, led_deck}
use Rattle.pooling.proofs.Dealt.{different, first_le, community_le}

module _ (offer : ℕ) (antes cards : List ℕ) (whole : whole_deck cards ≡ true) (k : ℕ) (seat : k < 7) (play : plays antes k ≡ true) where
  abbrev c : ℕ
  c = community_at offer antes

  abbrev a : ℕ
  a = hole_at offer antes k

  -- the dealer's four and the seat's two don't meet
  clear : (x y : ℕ) → x < 4 → y < 2 → c + x ≡ a + y → ⊥
  unfolding community_at dealers_first playing_before
  clear x y l m = go (eqb offer 0)
    where
      go : (b : Bool) → (if b then 2 * tally 7 (plays antes) else 0) + x ≡ (if b then 0 else 4) + 2 * tally k (plays antes) + y → ⊥
      go true e = omega (arith, tally_lt (plays antes) 7 k seat play)
      go false e = omega arith

  -- where in the deck the card at place i of the six lies
  abbrev at : ℕ → ℕ
  at i = if ltb i 4 then c + i else a + (i - 4)

  at_below : (i : ℕ) → i < 6 → at i < 52
  unfolding playing_before
  at_below i l = go (ltb i 4) refl
    where
      go : (b : Bool) → ltb i 4 ≡ b → (if b then c + i else a + (i - 4)) < 52
      go true e = omega (arith, ltb-true i 4 e, community_le offer antes)
      go false e = omega (arith, first_le offer, tally_le k (plays antes))

  at_differ : (i j : ℕ) → j < i → i < 6 → at i ≡ at j → ⊥
  at_differ i j h l = go (ltb i 4) refl (ltb j 4) refl
    where
      go : (b : Bool) → ltb i 4 ≡ b → (d : Bool) → ltb j 4 ≡ d → (if b then c + i else a + (i - 4)) ≡ (if d then c + j else a + (j - 4)) → ⊥
      go true e true f z = omega arith
      go true e false f z = omega (arith, ltb-true i 4 e, ltb-false j 4 f)
      go false e true f z = clear j (i - 4) (ltb-true j 4 f) (omega arith) (sym z)
      go false e false f z = omega (arith, ltb-false i 4 e, ltb-false j 4 f)

  six_at : (i : ℕ) → i < 6 → get_or (six_hand offer antes cards k) i 0 ≡ get_or cards (at i) 0
  unfolding six_hand six_card community hole
  six_at zero l = let e : c + 0 ≡ c = omega arith in rw e
  six_at (suc zero) l = refl
  six_at (suc (suc zero)) l = refl
  six_at (suc (suc (suc zero))) l = refl
  six_at (suc (suc (suc (suc zero)))) l = let e : a + 0 ≡ a = omega arith in rw e
  six_at (suc (suc (suc (suc (suc zero))))) l = refl
  six_at (suc (suc (suc (suc (suc (suc i)))))) l = absurd (omega arith)

  apart : (i j : ℕ) → i < 52 → j < 52 → (i ≡ j → ⊥) → get_or cards i 0 ≡ get_or cards j 0 → ⊥
  apart i j l m n e = go (ltb j i) refl
    where
      go : (b : Bool) → ltb j i ≡ b → ⊥
      go true f = different offer antes cards whole i j (ltb-true j i f) l e
      go false f = different offer antes cards whole j i (let p = ltb-false j i f in omega (arith, n, p)) m (sym e)

  six_once : repeats (six_hand offer antes cards k) ≡ false
  unfolding six_hand six_card community hole
  six_once =
      differ_places (six_hand offer antes cards k)
      (λ i l j h e.
      apart (at i) (at j) (at_below i l) (at_below j (omega arith)) (at_differ i j h l) (sym (six_at i l) ∙ e ∙ six_at j (omega arith)))

  six_cards : every_of is_card (six_hand offer antes cards k) ≡ true
  unfolding six_hand six_card community hole
  six_cards =
      at_every_of is_card (six_hand offer antes cards k)
      (λ i l. let low = below_52 cards (whole_sound cards whole) (at i) (omega (arith, at_below i l, whole_length cards whole)) in le-leb (get_or (six_hand offer antes cards k) i 0) 51 (omega (arith, low, six_at i l)))

  pub six_sound : hand_refusal 6 (six_hand offer antes cards k) ≡ 0
  unfolding six_hand six_card community hole faulty
  six_sound = sound_hand 6 (six_hand offer antes cards k) refl (simp (six_cards, six_once))

-- so in a finished round that accepted records lead to name_six answers the name that a playing seat's wager is settled by
pub six_answered : (r : Round) → Led r → is_finished r ≡ true → (k : ℕ) → k < 7 → plays r.wagers.antes k ≡ true
    → answer_six (six_hand r.table.six r.wagers.antes r.deck.cards k) ≡ Ok (name_six (six_hand r.table.six r.wagers.antes r.deck.cards k))
unfolding answer_six answered
six_answered r l e k h p = simp (six_sound r.table.six r.wagers.antes r.deck.cards (led_deck r l (finished_dealt r e)) k h p)
