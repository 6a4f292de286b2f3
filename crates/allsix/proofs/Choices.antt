-- The words of six cards' ranks and suits, and what is left of them where a card is left out.
-- Assumes nothing.
use Prim.Native.Nat.{ℕ, ◌+◌, ◌-◌, ◌^◌, ◌≤◌, ◌<◌}
use mathlib.Core.Path.{◌≡◌}
use mathlib.Core.Bool.{Bool}
use mathlib.Core.List.{List, [], ◌∷◌, ◌++◌}
use native.Mathlib.Omega.{arith}
use lib.ListN.{length}
use Rattle.counting.specs.Count.{sum_below}
use Rattle.hands.specs.Hand.{of_rank, of_suit, flush}
use Rattle.words.specs.Word.{digits, word, Has}
use Rattle.words.proofs.Cards.{word_both, word-most, few_cards}
use Rattle.names.specs.declared.FiveName.{FiveName}
use Rattle.names.specs.Five.{five_by, name_five}
use Rattle.allsix.proofs.Suits.{suits_both, suits-most, few_suits}

-- a card's own word
abbrev pub own : ℕ → ℕ
own c = word (of_rank (c ∷ []))

-- six cards' own words make the word of the six, which is below 2^64
pub six_words : (a b c d e f : ℕ) {p q r s t u : ℕ} → p ≡ own a → q ≡ own b → r ≡ own c → s ≡ own d → t ≡ own e → u ≡ own f
    → (p + q + r + s + t + u ≡ word (of_rank (a ∷ b ∷ c ∷ d ∷ e ∷ f ∷ []))) × (p + q + r + s + t + u < 2 ^ 64)
six_words a b c d e f {p} {q} {r} {s} {t} {u} pa qb rc sd te uf =
    let all : p + q + r + s + t + u ≡ word (of_rank (a ∷ b ∷ c ∷ d ∷ e ∷ f ∷ [])) =
    omega (
      arith,
      word_both (a ∷ []) (b ∷ c ∷ d ∷ e ∷ f ∷ []),
      word_both (b ∷ []) (c ∷ d ∷ e ∷ f ∷ []),
      word_both (c ∷ []) (d ∷ e ∷ f ∷ []),
      word_both (d ∷ []) (e ∷ f ∷ []),
      word_both (e ∷ []) (f ∷ []),
    ) in
    (all, omega (arith, word-most (a ∷ b ∷ c ∷ d ∷ e ∷ f ∷ [])))

-- a card's own suit
abbrev pub own_suit : ℕ → ℕ
own_suit c = digits 4 (of_suit (c ∷ []))

-- six cards' own suits make the suits of the six, in a number below 2^16
pub six_suits : (a b c d e f : ℕ) {p q r s t u : ℕ} → p ≡ own_suit a → q ≡ own_suit b → r ≡ own_suit c → s ≡ own_suit d → t ≡ own_suit e → u ≡ own_suit f
    → (p + q + r + s + t + u ≡ digits 4 (of_suit (a ∷ b ∷ c ∷ d ∷ e ∷ f ∷ []))) × (p + q + r + s + t + u < 2 ^ 16)
six_suits a b c d e f {p} {q} {r} {s} {t} {u} pa qb rc sd te uf =
    let all : p + q + r + s + t + u ≡ digits 4 (of_suit (a ∷ b ∷ c ∷ d ∷ e ∷ f ∷ [])) =
    omega (
      arith,
      suits_both (a ∷ []) (b ∷ c ∷ d ∷ e ∷ f ∷ []),
      suits_both (b ∷ []) (c ∷ d ∷ e ∷ f ∷ []),
      suits_both (c ∷ []) (d ∷ e ∷ f ∷ []),
      suits_both (d ∷ []) (e ∷ f ∷ []),
      suits_both (e ∷ []) (f ∷ []),
    ) in
    (all, omega (arith, suits-most (a ∷ b ∷ c ∷ d ∷ e ∷ f ∷ [])))

-- with its own word taken away, a card is left out
left_out_lem : (cs : List ℕ) (c : ℕ) (ds : List ℕ) → word (of_rank (cs ++ (c ∷ ds))) - own c ≡ word (of_rank (cs ++ ds))
left_out_lem cs c ds = omega (arith, word_both cs (c ∷ ds), word_both (c ∷ []) ds, word_both cs ds)

suit_out_lem : (cs : List ℕ) (c : ℕ) (ds : List ℕ) → digits 4 (of_suit (cs ++ (c ∷ ds))) - own_suit c ≡ digits 4 (of_suit (cs ++ ds))
suit_out_lem cs c ds = omega (arith, suits_both cs (c ∷ ds), suits_both (c ∷ []) ds, suits_both cs ds)

-- r, which five_of_word gives, is the name of the others
pub others_named : (cs : List ℕ) (c : ℕ) (ds : List ℕ) → length (cs ++ ds) ≡ 5 → {w v : ℕ} {suited : Bool} {r : FiveName}
    → ((h t : ℕ → ℕ) → Has 5 (w - v) h → suited ≡ flush 5 t → r ≡ five_by h t)
    → w ≡ word (of_rank (cs ++ (c ∷ ds))) → v ≡ own c → suited ≡ flush 5 (of_suit (cs ++ ds)) → r ≡ name_five (cs ++ ds)
unfolding name_five
others_named cs c ds five by all mine same =
    by (of_rank (cs ++ ds)) (of_suit (cs ++ ds)) (omega (arith, left_out_lem cs c ds), omega (arith, few_cards (cs ++ ds))) same

-- and so is what name_without gives
pub others_without : (cs : List ℕ) (c : ℕ) (ds : List ℕ) → length (cs ++ ds) ≡ 5 → {w x : ℕ} {r : FiveName}
    → ((h t : ℕ → ℕ) → Has 5 (w - own c) h → x - own_suit c ≡ digits 4 t → sum_below 4 t ≤ 5 → r ≡ five_by h t)
    → w ≡ word (of_rank (cs ++ (c ∷ ds))) → x ≡ digits 4 (of_suit (cs ++ (c ∷ ds))) → r ≡ name_five (cs ++ ds)
unfolding name_five
others_without cs c ds five by all suits =
    by (of_rank (cs ++ ds)) (of_suit (cs ++ ds)) (omega (arith, left_out_lem cs c ds), omega (arith, few_cards (cs ++ ds)))
    (omega (arith, suit_out_lem cs c ds)) (omega (arith, few_suits (cs ++ ds)))
