-- Which cards of a hand are lit: those that make its name.
-- Assumes nothing.
use Rattle.std.specs.Prelude.{ℕ, zero, suc, ◌+◌, ◌*◌, Bool, true, false, ◌&&◌, List, [], ◌∷◌, eqb, ltb}
use Rattle.counting.specs.Choose.{one}
use Rattle.cards.specs.Card.{rank}
use Rattle.hands.specs.Hand.{of_rank}
use Rattle.lights.specs.declared.Light.{Light}
use Rattle.lights.specs.declared.Light.TheVariants.{All, Fours, Threes, Pairs, High, Dark}

-- Whether the rank r makes the name: all of them do; the four, three or two equal ones do, both pairs where there are two; the high card does; none does. (h: how often each
-- rank occurs in the hand.)
abbrev pub makes : Light → (ℕ → ℕ) → ℕ → Bool
makes All h r = true
makes Fours h r = eqb (h r) 4
makes Threes h r = eqb (h r) 3
makes Pairs h r = eqb (h r) 2
makes (High top) h r = eqb top r
makes Dark h r = false

-- a card is lit where its rank is one of the thirteen and makes the name
unfoldable pub lit : Light → (ℕ → ℕ) → ℕ → Bool
lit light h c = ltb (rank c) 13 && makes light h (rank c)

-- the sum of what the cards count that pass a test: the first number for the first card, and so on
unfoldable pub lit_sum : (ℕ → Bool) → List ℕ → List ℕ → ℕ
lit_sum f ws [] = 0
lit_sum f [] (c ∷ cs) = 0
lit_sum f (w ∷ ws) (c ∷ cs) = w * one (f c) + lit_sum f ws cs

-- the lit cards of a hand as one number, by what each of its places counts
unfoldable pub lit_of : Light → List ℕ → List ℕ → ℕ
lit_of light ws hand = lit_sum (lit light (of_rank hand)) ws hand

-- 1, 2, 4, .. for the first, second, third card
abbrev pub places : List ℕ
places = 1 ∷ 2 ∷ 4 ∷ 8 ∷ 16 ∷ 32 ∷ []

-- a list but for what stands at place k
unfoldable pub without : ℕ → List ℕ → List ℕ
without k [] = []
without zero (c ∷ cs) = cs
without (suc k) (c ∷ cs) = c ∷ without k cs
