-- What follows where cards have no fault, and that a whole deck holds each of the 52 cards exactly once.
-- Assumes nothing.
use Prim.Native.Nat.{ℕ, zero, suc, ◌≤◌, ◌<◌}
use mathlib.Core.Path.{◌≡◌, refl, sym, ap, ◌∙◌}
use mathlib.Core.Bool.{Bool, true, false, not, ◌&&◌, ◌||◌, or-true, and_assoc}
use mathlib.Core.List.{List, [], ◌∷◌}
use native.Mathlib.Omega.{arith}
use lib.Dec.{eqb}
use lib.ListN.{length, get_or, take, drop}
use borrow.Author.Tests.{leb-true, eqb-true, not-true, not-false}
use Rattle.counting.specs.Count.{every_of, some_below, sum_below}
use Rattle.counting.proofs.Tests.{and_true, or_false}
use Rattle.counting.proofs.Lists.{every_of_at}
use Rattle.counting.proofs.Sums.{heaps_whole, squeezed}
use Rattle.cards.specs.Card.{is_card}
use Rattle.cards.specs.Deck.{repeats, repeats_from, faulty, faulty_from, whole_deck}
use Rattle.cards.proofs.Repeats.{repeats_split, copies, once_each}

module _ (cs : List ℕ) (sound : faulty cs ≡ false) where
  parts : (not (every_of is_card cs) ≡ false) × (repeats cs ≡ false)
  unfolding faulty
  parts = or_false (not (every_of is_card cs)) (repeats cs) sound

  pub are_cards : every_of is_card cs ≡ true
  are_cards = not-false _ parts.0

  pub no_repeat : repeats cs ≡ false
  no_repeat = parts.1

  pub below_52 : (k : ℕ) → k < length cs → get_or cs k 0 < 52
  below_52 k h = let most : get_or cs k 0 ≤ 51 = leb-true _ _ (every_of_at is_card cs are_cards k h) in omega arith

pub whole_length : (cs : List ℕ) → whole_deck cs ≡ true → length cs ≡ 52
unfolding whole_deck
whole_length cs w = eqb-true _ _ (and_true (eqb (length cs) 52) (not (faulty cs)) w).0

pub whole_sound : (cs : List ℕ) → whole_deck cs ≡ true → faulty cs ≡ false
unfolding whole_deck
whole_sound cs w = not-true _ (and_true (eqb (length cs) 52) (not (faulty cs)) w).1

ones : (n : ℕ) → sum_below n (λ c. 1) ≡ n
unfolding sum_below
ones zero = refl
ones (suc n) = omega (arith, ones n)

-- 52 cards, none above 51 and none twice: each is there
pub whole_deck_lem : (cs : List ℕ) → whole_deck cs ≡ true → (c : ℕ) → c < 52 → copies c cs ≡ 1
whole_deck_lem cs w =
    squeezed 52 (λ c. copies c cs) (λ c. 1) (λ c h. once_each cs (no_repeat cs (whole_sound cs w)) c)
    (omega (arith, ones 52, heaps_whole (λ c. c) 52 cs (below_52 cs (whole_sound cs w)), whole_length cs w))

-- ---- the faults of a list are those of its first n cards, and those from there on

regrouped : (a b c d : Bool) → (not (a && b) || (c || d)) ≡ ((not a || c) || (not b || d))
regrouped true true c d = refl
regrouped true false c d = sym (or-true c)
regrouped false b c d = refl

cards_split : (n : ℕ) (cs : List ℕ) → every_of is_card cs ≡ (every_of is_card (take n cs) && every_of is_card (drop n cs))
unfolding every_of
cards_split zero cs = refl
cards_split (suc n) [] = refl
cards_split (suc n) (x ∷ xs) =
    ap (λ t. is_card x && t) (cards_split n xs) ∙ sym (and_assoc (is_card x) (every_of is_card (take n xs)) (every_of is_card (drop n xs)))

pub faulty_split : (n : ℕ) (cs : List ℕ) → faulty cs ≡ (faulty (take n cs) || faulty_from n cs)
unfolding faulty faulty_from
faulty_split n cs =
    rw (cards_split n cs, repeats_split n cs)
    (regrouped (every_of is_card (take n cs)) (every_of is_card (drop n cs)) (repeats (take n cs)) (repeats_from n cs))

pub faulty_whole : (cs : List ℕ) → faulty cs ≡ faulty_from 0 cs
unfolding faulty repeats some_below every_of
faulty_whole cs = faulty_split 0 cs

-- so cards without fault have none among the first n, and none from there on
pub sound_split : (n : ℕ) (cs : List ℕ) → faulty cs ≡ false → (faulty (take n cs) ≡ false) × (faulty_from n cs ≡ false)
sound_split n cs e = or_false (faulty (take n cs)) (faulty_from n cs) (sym (faulty_split n cs) ∙ e)
