-- Who has a win in the pool, and how large it is. In a finished round that accepted records lead to at most two seats do, each with a
-- royal flush or a straight flush, and at most one with a royal flush.
-- Assumes nothing.
use Prim.Native.Nat.{ℕ, ◌*◌, ◌≤◌, ◌<◌}
use mathlib.Core.Path.{◌≡◌, refl, sym, ◌∙◌}
use mathlib.Core.Bool.{Bool, true, false}
use mathlib.Core.Logic.{◌⊎◌, inl, inr}
use native.Mathlib.Nat.{mul-le-mul}
use native.Mathlib.Omega.{arith}
use lib.Dec.{eqb, ltb, leb}
use lib.ListN.{get_or}
use borrow.Author.Tests.{ltb-true, ltb-false, le-leb}
use Rattle.std.specs.Prelude.{if◌then◌else◌}
use Rattle.counting.specs.Count.{tally}
use Rattle.counting.proofs.Tests.{clash, and_true, is_false}
use Rattle.cards.specs.Deck.{whole_deck}
use Rattle.records.specs.Seats.{plays}
use Rattle.names.specs.declared.FiveName.{FiveName}
use Rattle.names.specs.declared.FiveName.TheVariants.{RoyalFlush, StraightFlush, FourOfAKind, FullHouse, Flush, Straight, ThreeOfAKind, TwoPair, JacksToAces, SixesToTens, Other}
use Rattle.names.specs.Top.{is_royal, is_top}
use Rattle.odds.specs.Pays.{base_pay}
use Rattle.pays.specs.Amounts.{above_fifty, win_at}
use Rattle.odds.proofs.Above.{above_fifty_lem, royal_pays, straight_flush_pays}
use Rattle.pool.specs.Pool.{wins_fit}
use Rattle.seating.proofs.Tables.{table_high}
use Rattle.choosing.specs.Streets.{fold_of}
use Rattle.round.specs.declared.Round.{Round}
use Rattle.round.specs.Order.{is_finished}
use Rattle.led.specs.Led.{Led}
use Rattle.led.proofs.Facts.{finished_dealt, led_deck, led_wagers, led_table, led_nine}
use Rattle.led.proofs.Kept.{led_fits}
use Rattle.amounts.specs.Base.{raised_by, base_wager, stays_in, hand_of, base_pay_of, pooled, win, wins}
use Rattle.counting.proofs.Tallies.{tally_more, every_each}
use Rattle.results.proofs.Places.{win-none}
use Rattle.pooling.proofs.Dealt.{no_three, no_two}

-- ---- the two names

pub is_royal_or : (name : FiveName) → is_top name ≡ true → (name ≡ RoyalFlush) ⊎ (name ≡ StraightFlush)
is_royal_or RoyalFlush t = inl refl
is_royal_or StraightFlush t = inr refl
is_royal_or FourOfAKind t = clash false t refl
is_royal_or FullHouse t = clash false t refl
is_royal_or Flush t = clash false t refl
is_royal_or Straight t = clash false t refl
is_royal_or ThreeOfAKind t = clash false t refl
is_royal_or TwoPair t = clash false t refl
is_royal_or JacksToAces t = clash false t refl
is_royal_or SixesToTens t = clash false t refl
is_royal_or Other t = clash false t refl

-- 500 to 1 for a royal flush, 100 to 1 for a straight flush
top-win : (t : ℕ) (name : FiveName) (wager : ℕ) → 1 ≤ t → t ≤ 5 → is_top name ≡ true
    → win_at (base_pay t name) wager ≡ (if is_royal name then 500 * wager else 100 * wager)
top-win t name wager a b top = go (is_royal_or name top)
  where
    go : (name ≡ RoyalFlush) ⊎ (name ≡ StraightFlush) → win_at (base_pay t name) wager ≡ (if is_royal name then 500 * wager else 100 * wager)
    go (inl e) = rw (e, royal_pays t a b)
    go (inr e) = rw (e, straight_flush_pays t a b)

-- ---- a seat

module _ (r : Round) where
  in_pool : (k : ℕ) → pooled r k ≡ true → (stays_in r k ≡ true) × (above_fifty (base_pay_of r k) ≡ true)
  unfolding pooled
  in_pool k p = and_true (stays_in r k) (above_fifty (base_pay_of r k)) p

  pub pooled-plays : (k : ℕ) → pooled r k ≡ true → plays r.wagers.antes k ≡ true
  pooled-plays k p = (and_true (plays r.wagers.antes k) (eqb (fold_of r.play k) 0) (in_pool k p).0).0

module _ (r : Round) (l : Led r) where
  pub pooled-top : (k : ℕ) → k < 7 → pooled r k ≡ true → is_top (hand_of r k) ≡ true
  unfolding base_pay_of
  pooled-top k h p =
      let t = led_table r l k h (pooled-plays r k p) in
      sym (above_fifty_lem r.table.base (hand_of r k) t.base_low t.base_high) ∙ (in_pool r k p).1

  pub win-top : (k : ℕ) → k < 7 → pooled r k ≡ true → win r k ≡ (if is_royal (hand_of r k) then 500 * base_wager r k else 100 * base_wager r k)
  unfolding win base_pay_of
  win-top k h p =
      let t = led_table r l k h (pooled-plays r k p) in
      rw p (top-win r.table.base (hand_of r k) (base_wager r k) t.base_low t.base_high (pooled-top k h p))

  -- ante and raises are at most ten times the largest ante
  pub wager_most : (k : ℕ) → k < 7 → plays r.wagers.antes k ≡ true → base_wager r k ≤ 10 * r.table.largest
  unfolding base_wager
  wager_most k h p =
      let ante : get_or r.wagers.antes k 0 ≤ r.table.largest = (led_wagers r l k h p).ante_high in
      let raises : raised_by r k * get_or r.wagers.antes k 0 ≤ 9 * r.table.largest = mul-le-mul (led_nine r l k h) ante in
      omega arith

  -- a win is at most 5,000 times the largest ante, and 1,000 times without a royal flush
  pub win-most : (k : ℕ) → k < 7 → win r k ≤ (if is_royal (hand_of r k) then 5000 * r.table.largest else 1000 * r.table.largest)
  win-most k h = go (pooled r k) (is_royal (hand_of r k)) refl refl
    where
      go : (p royal : Bool) → pooled r k ≡ p → is_royal (hand_of r k) ≡ royal → win r k ≤ (if royal then 5000 * r.table.largest else 1000 * r.table.largest)
      go true true p e = omega (arith, rw e at (win-top k h p), wager_most k h (pooled-plays r k p))
      go true false p e = omega (arith, rw e at (win-top k h p), wager_most k h (pooled-plays r k p))
      go false true p e = omega (arith, win-none r k p)
      go false false p e = omega (arith, win-none r k p)

  -- no win is above 500,000
  pub wins_fit_lem : wins_fit (wins r) ≡ true
  unfolding wins_fit wins
  wins_fit_lem = every_each (λ w. leb w 500000) (win r) 7 (λ k h. le-leb (win r k) 500000 (go k (is_royal (hand_of r k)) (win-most k h)))
    where
      go : (k : ℕ) (royal : Bool) → win r k ≤ (if royal then 5000 * r.table.largest else 1000 * r.table.largest) → win r k ≤ 500000
      go k true m = omega (arith, (table_high r.table (led_fits r l).table).1)
      go k false m = omega (arith, (table_high r.table (led_fits r l).table).1)

-- ---- the seats together

module _ (r : Round) (l : Led r) (e : is_finished r ≡ true) where
  deck : whole_deck r.deck.cards ≡ true
  deck = led_deck r l (finished_dealt r e)

  three : (i j k : ℕ) → k < j → j < i → i < 7 → pooled r i ≡ true → pooled r j ≡ true → pooled r k ≡ true → ⊥
  unfolding hand_of
  three i j k b a h p q s =
      no_three r.table.six r.wagers.antes r.deck.cards deck i j k b a h (pooled-plays r j q) (pooled-plays r k s)
      (pooled-top r l i h p) (pooled-top r l j (omega arith) q) (pooled-top r l k (omega arith) s)

  -- at most two seats are in the pool
  pub few : tally 7 (pooled r) ≤ 2
  few = go (ltb 2 (tally 7 (pooled r))) refl
    where
      go : (more : Bool) → ltb 2 (tally 7 (pooled r)) ≡ more → tally 7 (pooled r) ≤ 2
      go true m =
          let i = tally_more (pooled r) 7 2 (ltb-true 2 (tally 7 (pooled r)) m) in
          let j = tally_more (pooled r) i.0 1 i.3 in
          let k = tally_more (pooled r) j.0 0 j.3 in
          absurd (three i.0 j.0 k.0 k.1 j.1 i.1 i.2 j.2 k.2)
      go false m = ltb-false 2 (tally 7 (pooled r)) m

  -- at most one of them with a royal flush
  pub one_royal : (i j : ℕ) → (i ≡ j → ⊥) → i < 7 → j < 7 → pooled r i ≡ true → pooled r j ≡ true
      → is_royal (hand_of r i) ≡ true → is_royal (hand_of r j) ≡ false
  unfolding hand_of
  one_royal i j other h m p q s = is_false (is_royal (hand_of r j)) (λ t. go t (ltb j i) refl)
    where
      go : is_royal (hand_of r j) ≡ true → (b : Bool) → ltb j i ≡ b → ⊥
      go t true a = no_two r.table.six r.wagers.antes r.deck.cards deck i j (ltb-true j i a) h (pooled-plays r j q) s t
      go t false a =
          let above : i ≤ j = ltb-false j i a in
          no_two r.table.six r.wagers.antes r.deck.cards deck j i (omega arith) m (pooled-plays r i p) t s
