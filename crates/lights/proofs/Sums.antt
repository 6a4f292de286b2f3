-- The sum of what lit cards count, card by card; and where one place of six is left out.
-- Assumes nothing.
use Prim.Native.Nat.{ℕ, zero, suc, ◌+◌, ◌-◌, ◌*◌, ◌%◌, ◌^◌, ◌≤◌, ◌<◌, min}
use mathlib.Core.Path.{◌≡◌, refl, ap, ◌∙◌}
use mathlib.Core.Bool.{Bool, ◌&&◌}
use mathlib.Core.List.{List, [], ◌∷◌}
use native.Mathlib.Omega.{arith}
use lib.Dec.{ltb}
use lib.ListN.{length, get_or, take, drop, drop_of_length-le}
use lib.Seq.{drop-cons}
use Rattle.counting.specs.Choose.{one}
use Rattle.counting.proofs.Tests.{one_le}
use Rattle.cards.specs.Card.{rank}
use Rattle.hands.specs.Hand.{of_rank}
use Rattle.words.specs.Word.{word, Says}
use Rattle.words.proofs.Cards.{few_cards}
use Rattle.lights.specs.declared.Light.{Light}
use Rattle.lights.specs.Lit.{makes, lit, lit_sum, lit_of, places, without}

module _ (f : ℕ → Bool) where
  -- the card at place i counts 2^i
  pub lit_step : (cs : List ℕ) (i : ℕ) → i < length cs → i < 6
      → lit_sum f (drop i places) (drop i cs) ≡ 2 ^ i * one (f (get_or cs i 0)) + lit_sum f (drop (i + 1) places) (drop (i + 1) cs)
  unfolding lit_sum
  lit_step cs zero h l = ap (lit_sum f (drop 0 places)) (drop-cons cs 0 0 h)
  lit_step cs (suc zero) h l = ap (lit_sum f (drop 1 places)) (drop-cons cs 1 0 h)
  lit_step cs (suc (suc zero)) h l = ap (lit_sum f (drop 2 places)) (drop-cons cs 2 0 h)
  lit_step cs (suc (suc (suc zero))) h l = ap (lit_sum f (drop 3 places)) (drop-cons cs 3 0 h)
  lit_step cs (suc (suc (suc (suc zero)))) h l = ap (lit_sum f (drop 4 places)) (drop-cons cs 4 0 h)
  lit_step cs (suc (suc (suc (suc (suc zero))))) h l = ap (lit_sum f (drop 5 places)) (drop-cons cs 5 0 h)
  lit_step cs (suc (suc (suc (suc (suc (suc k)))))) h l = absurd (omega arith)

  lit_none : (ws : List ℕ) → lit_sum f ws [] ≡ 0
  unfolding lit_sum
  lit_none [] = refl
  lit_none (w ∷ ws) = refl

  pub lit_end : (cs : List ℕ) (i : ℕ) → length cs ≤ i → lit_sum f (drop i places) (drop i cs) ≡ 0
  unfolding lit_sum
  lit_end cs i h = let none : drop i cs ≡ [] = rw drop_of_length-le in ap (lit_sum f (drop i places)) none ∙ lit_none (drop i places)

  -- as many cards count as there are places
  pub lit_few : (cs ws : List ℕ) (n : ℕ) → n ≡ min (length cs) (length ws) → lit_sum f ws (take n cs) ≡ lit_sum f ws cs
  unfolding lit_sum
  lit_few [] ws zero h = refl
  lit_few [] ws (suc n) h = refl
  lit_few (c ∷ cs) [] zero h = refl
  lit_few (c ∷ cs) [] (suc n) h = refl
  lit_few (c ∷ cs) (w ∷ ws) zero h = absurd (omega arith)
  lit_few (c ∷ cs) (w ∷ ws) (suc n) h = rw (lit_few cs ws n (omega arith))

  -- five cards at the places of six but for the one at out
  module _ (a b c d e own : ℕ) (sum : own ≡ lit_sum f places (a ∷ b ∷ c ∷ d ∷ e ∷ [])) where
    whole : own % 32 ≡ own
    unfolding lit_sum
    whole = omega (arith, sum, one_le (f a), one_le (f b), one_le (f c), one_le (f d), one_le (f e))

    pub spread_out : (out : ℕ) → out ≤ 4 → 2 * (own % 32) - own % 32 % (1 * 2 ^ out % 256) ≡ lit_sum f (without out places) (a ∷ b ∷ c ∷ d ∷ e ∷ [])
    unfolding lit_sum without
    spread_out zero h = rw whole (omega (arith, sum, one_le (f a), one_le (f b), one_le (f c), one_le (f d), one_le (f e)))
    spread_out (suc zero) h = rw whole (omega (arith, sum, one_le (f a), one_le (f b), one_le (f c), one_le (f d), one_le (f e)))
    spread_out (suc (suc zero)) h = rw whole (omega (arith, sum, one_le (f a), one_le (f b), one_le (f c), one_le (f d), one_le (f e)))
    spread_out (suc (suc (suc zero))) h = rw whole (omega (arith, sum, one_le (f a), one_le (f b), one_le (f c), one_le (f d), one_le (f e)))
    spread_out (suc (suc (suc (suc zero)))) h = rw whole (omega (arith, sum, one_le (f a), one_le (f b), one_le (f c), one_le (f d), one_le (f e)))
    spread_out (suc (suc (suc (suc (suc out))))) h = absurd (omega arith)

    -- the sixth place counts nothing for five cards
    pub spread_none : (out : ℕ) → 5 ≤ out → own % 32 ≡ lit_sum f (without out places) (a ∷ b ∷ c ∷ d ∷ e ∷ [])
    unfolding lit_sum without
    spread_none zero h = absurd (omega arith)
    spread_none (suc zero) h = absurd (omega arith)
    spread_none (suc (suc zero)) h = absurd (omega arith)
    spread_none (suc (suc (suc zero))) h = absurd (omega arith)
    spread_none (suc (suc (suc (suc zero)))) h = absurd (omega arith)
    spread_none (suc (suc (suc (suc (suc out))))) h = omega (arith, sum, one_le (f a), one_le (f b), one_le (f c), one_le (f d), one_le (f e))

-- 2, 4, .. for a place up to the fifth
pub power : (out : ℕ) → out ≤ 4 → 0 < 1 * 2 ^ out % 256
power zero h = omega arith
power (suc zero) h = omega arith
power (suc (suc zero)) h = omega arith
power (suc (suc (suc zero))) h = omega arith
power (suc (suc (suc (suc zero)))) h = omega arith
power (suc (suc (suc (suc (suc out))))) h = absurd (omega arith)

-- A hand's lit cards, from its word: the ranks that make the name, and those of its cards that have one of them.
pub lit_by : (light : Light) (cs : List ℕ) {w ranks r : ℕ} → length cs ≤ 5 → w ≡ word (of_rank cs) → Says 5 w (λ h. word (λ k. one (makes light h k))) ranks
    → ((f : ℕ → Bool) → ranks ≡ word (λ k. one (f k)) → r ≡ lit_sum (λ x. ltb (rank x) 13 && f (rank x)) places cs) → r ≡ lit_of light places cs
unfolding lit lit_of
lit_by light cs few mine says sum = sum (makes light (of_rank cs)) (says (of_rank cs) (mine, omega (arith, few_cards cs)))

-- and of five at their places among six
pub spread_by : (light : Light) (out a b c d e : ℕ) {own r : ℕ} → own ≡ lit_of light places (a ∷ b ∷ c ∷ d ∷ e ∷ [])
    → ((f : ℕ → Bool) (u v w x y : ℕ) → own ≡ lit_sum f places (u ∷ v ∷ w ∷ x ∷ y ∷ []) → r ≡ lit_sum f (without out places) (u ∷ v ∷ w ∷ x ∷ y ∷ []))
    → r ≡ lit_of light (without out places) (a ∷ b ∷ c ∷ d ∷ e ∷ [])
unfolding lit_of
spread_by light out a b c d e mine spread = spread (lit light (of_rank (a ∷ b ∷ c ∷ d ∷ e ∷ []))) a b c d e mine

-- A seat's two cards, at the fifth and sixth place, count sixteen times as much as alone.
pub hole-places : (light : Light) (a b : ℕ) → lit_of light (16 ∷ 32 ∷ []) (a ∷ b ∷ []) ≡ 16 * lit_of light places (a ∷ b ∷ [])
unfolding lit_of lit_sum
hole-places light a b = omega arith
