-- The word of some cards, card by card; whether they are of one suit; the highest rank among them.
-- Assumes nothing.
use Prim.Native.Nat.{ℕ, suc, ◌+◌, ◌*◌, ◌%◌, ◌^◌, ◌≤◌, ◌<◌, max}
use mathlib.Core.Path.{◌≡◌, refl, sym, ap, subst, ◌∙◌}
use mathlib.Core.Bool.{Bool, true, false, ◌&&◌}
use mathlib.Core.List.{List, [], ◌∷◌, ◌++◌}
use native.Mathlib.Omega.{arith}
use lib.Dec.{eqb, ltb}
use lib.ListN.{length, get_or, take, drop, drop_of_length-le}
use lib.Seq.{drop-cons}
use native.Mathlib.Numerals.{add-one}
use Rattle.std.proofs.lemmas.List.{take_more}
use borrow.Author.Tests.{eqb-true, eq-eqb, ne_eqb, lt-ltb, ltb-true, ltb-false}
use Rattle.counting.specs.Choose.{one}
use Rattle.counting.specs.Count.{count, every_of, every_below, some_below, sum_below}
use Rattle.counting.proofs.Lists.{count_both, count_most, count_all, all_count, every_of_at}
use Rattle.counting.proofs.Ranges.{every_at, some_where, some_here}
use Rattle.counting.proofs.Sums.{heaps_within, heaps_whole, heaps_full, sum_le}
use Rattle.counting.proofs.Tests.{and_true, both, same_true, one_le, one_true}
use Rattle.cards.specs.Card.{rank, suit}
use Rattle.hands.specs.Hand.{of_rank, of_suit, of_a_kind, flush, highest}
use Rattle.hands.proofs.Highest.{highest_is}
use Rattle.words.specs.Word.{digits, word, apart, largest}
use Rattle.words.proofs.Digits.{digits_same, digits_le, digits_add, digits-none}
use Rattle.words.proofs.Planes.{kinds-sum}
use Rattle.words.proofs.Apart.{once_le, five-apart}

-- ---- words

-- one rank is a power of 16: a test over the thirteen
each-rank : every_below 13 (λ k. eqb (1 * 2 ^ (4 * k) % 18446744073709551616) (word (λ r. one (eqb k r)))) ≡ true
unfolding every_below digits
each-rank = refl

pub power_of : (k : ℕ) → k < 13 → 1 * 2 ^ (4 * k) % 18446744073709551616 ≡ word (λ r. one (eqb k r))
power_of k l = eqb-true _ _ (every_at (λ k. eqb (1 * 2 ^ (4 * k) % 18446744073709551616) (word (λ r. one (eqb k r)))) 13 each-rank k l)

pub no_power : (k : ℕ) → 13 ≤ k → 0 ≡ word (λ r. one (eqb k r))
no_power k past = sym (digits-none 13 (λ r. one (eqb k r)) (λ r l. ap one (ne_eqb k r (λ z. omega arith))))

-- and a card is its rank
pub alone : (c : ℕ) → word (λ r. one (eqb (rank c) r)) ≡ word (of_rank (c ∷ []))
unfolding of_rank count
alone c = digits_same 13 (λ r. one (eqb (rank c) r)) (of_rank (c ∷ [])) (λ r l. omega arith)

pub rank-word : (c : ℕ) → rank c < 13 → 1 * 2 ^ (4 * rank c) % 18446744073709551616 ≡ word (of_rank (c ∷ []))
rank-word c l = power_of (rank c) l ∙ alone c

pub no_rank_word : (c : ℕ) → 13 ≤ rank c → 0 ≡ word (of_rank (c ∷ []))
no_rank_word c past = no_power (rank c) past ∙ alone c

-- the word of some cards and others
pub word_both : (cs ds : List ℕ) → word (of_rank (cs ++ ds)) ≡ word (of_rank cs) + word (of_rank ds)
unfolding of_rank
word_both cs ds =
    digits_same 13 (of_rank (cs ++ ds)) (λ r. of_rank cs r + of_rank ds r) (λ r l. count_both (λ c. eqb (rank c) r) cs ds) ∙ digits_add 13 (of_rank cs) (of_rank ds)

pub few_cards : (cs : List ℕ) → sum_below 13 (of_rank cs) ≤ length cs
unfolding of_rank
few_cards cs = heaps_within rank 13 cs

-- no digit of the word of n cards is above n
pub word-most : (cs : List ℕ) → word (of_rank cs) ≤ length cs * 0x1111111111111
unfolding digits of_rank
word-most cs = omega (arith, digits_le 13 (of_rank cs) (λ r. length cs) (λ r. count_most (λ c. eqb (rank c) r) cs))

-- a word by its cards, one after the other
pub word_next : (cs : List ℕ) (i : ℕ) → i < length cs → word (of_rank (take (i + 1) cs)) ≡ word (of_rank (take i cs)) + word (of_rank (get_or cs i 0 ∷ []))
word_next cs i h = ap (λ l. word (of_rank l)) (take_more cs i 0 h) ∙ word_both (take i cs) (get_or cs i 0 ∷ [])

-- ---- one suit

-- cards are of one suit where each is of the first one's
pub one-suit : (c : ℕ) (cs : List ℕ) → flush (suc (length cs)) (of_suit (c ∷ cs)) ≡ every_of (λ x. eqb (suit x) (suit c)) cs
unfolding flush of_suit count
one-suit c cs =
    same_true (flush (suc (length cs)) (of_suit (c ∷ cs))) (every_of (λ x. eqb (suit x) (suit c)) cs)
    (λ e.
    let s = some_where (λ s. eqb (of_suit (c ∷ cs) s) (suc (length cs))) 4 e in
    let whole : one (eqb (suit c) s.0) + count (λ x. eqb (suit x) s.0) cs ≡ suc (length cs) = eqb-true _ _ s.2 in
    let m = one_le (eqb (suit c) s.0) in
    let n = count_most (λ x. eqb (suit x) s.0) cs in
    let first : suit c ≡ s.0 = eqb-true (suit c) s.0 (one_true _ (omega arith)) in
    rw first (count_all (λ x. eqb (suit x) s.0) cs (omega arith)))
    (λ e.
    let n = all_count (λ x. eqb (suit x) (suit c)) cs e in
    some_here (λ s. eqb (of_suit (c ∷ cs) s) (suc (length cs))) 4 (suit c) (omega arith)
    (eq-eqb (of_suit (c ∷ cs) (suit c)) (suc (length cs)) (omega (arith, n, ap one (eq-eqb (suit c) (suit c) refl)))))

pub and_end : (t : Bool) → (t && true) ≡ t
and_end true = refl
and_end false = refl

pub and_next : (a b c : Bool) → ((a && b) && c) ≡ (a && (b && c))
and_next true b c = refl
and_next false b c = refl

-- no cards are of each suit
pub no-suit : (cs : List ℕ) → length cs ≡ 0 → flush (length cs) (of_suit cs) ≡ true
unfolding flush of_suit count some_below
no-suit [] e = refl
no-suit (c ∷ cs) e = absurd (omega arith)

-- so cards are of one suit where each is of the suit of the first, if there is one
pub one_suit_of : (cs : List ℕ) → every_of (λ x. eqb (suit x) (suit (get_or cs 0 0))) cs ≡ flush (length cs) (of_suit cs)
unfolding every_of
one_suit_of [] = sym (no-suit [] refl)
one_suit_of (c ∷ cs) = rw (eq-eqb (suit c) (suit c) refl) (sym (one-suit c cs))

-- ---- the highest rank

pub largest_step : (cs : List ℕ) (i : ℕ) → i < length cs → largest (drop i cs) ≡ max (get_or cs i 0) (largest (drop (i + 1) cs))
unfolding largest
largest_step cs i h = rw (add-one, drop-cons cs i 0)

pub largest_end : (cs : List ℕ) (i : ℕ) → length cs ≤ i → largest (drop i cs) ≡ 0
unfolding largest
largest_end cs i h = rw drop_of_length-le

alone_max : (c : ℕ) → max c 0 ≡ c
alone_max c = omega arith

either : (P : ℕ → Type 0) (a b : ℕ) → P a → P b → P (max a b)
either P a b p q = go (ltb a b) refl
  where
    go : (t : Bool) → ltb a b ≡ t → P (max a b)
    go true e = let l = ltb-true a b e in let m : b ≡ max a b = omega arith in subst P m q
    go false e = let l = ltb-false a b e in let m : a ≡ max a b = omega arith in subst P m p

-- a test that each card passes
of_largest : (f : ℕ → Bool) (c : ℕ) (cs : List ℕ) → every_of f (c ∷ cs) ≡ true → f (largest (c ∷ cs)) ≡ true
unfolding largest every_of
of_largest f c [] e = rw (alone_max c) ((and_true (f c) true e).0)
of_largest f c (d ∷ cs) e =
    let p = and_true (f c) (every_of f (d ∷ cs)) e in
    either (λ x. f x ≡ true) c (largest (d ∷ cs)) p.0 (of_largest f d cs p.1)

-- its rank occurs, and none above it
there : (c : ℕ) (cs : List ℕ) → 0 < of_rank (c ∷ cs) (rank (largest (c ∷ cs)))
unfolding largest of_rank count
there c [] = rw (alone_max c) (omega (arith, ap one (eq-eqb (rank c) (rank c) refl)))
there c (d ∷ cs) =
    either (λ x. 0 < of_rank (c ∷ d ∷ cs) (rank x)) c (largest (d ∷ cs))
    (omega (arith, ap one (eq-eqb (rank c) (rank c) refl))) (omega (arith, there d cs))

none_above : (c : ℕ) (cs : List ℕ) (r : ℕ) → rank (largest (c ∷ cs)) < r → of_rank (c ∷ cs) r ≡ 0
unfolding largest of_rank count
none_above c [] r l =
    let m = rw (alone_max c) at l in
    omega (arith, ap one (ne_eqb (rank c) r (λ e. omega arith)))
none_above c (d ∷ cs) r l = omega (arith, ap one (ne_eqb (rank c) r (λ e. omega (arith, l))), none_above d cs r (omega (arith, l)))

-- each counts as a rank exactly where the largest is a card
each_below : (n c : ℕ) (cs : List ℕ) → largest (c ∷ cs) < n → every_of (λ x. ltb x n) (c ∷ cs) ≡ true
unfolding largest every_of
each_below n c [] l = both (ltb c n) true (lt-ltb c n (omega (arith, l))) refl
each_below n c (d ∷ cs) l = both (ltb c n) (every_of (λ x. ltb x n) (d ∷ cs)) (lt-ltb c n (omega (arith, l))) (each_below n d cs (omega (arith, l)))

all_below : (c : ℕ) (cs : List ℕ) → sum_below 13 (of_rank (c ∷ cs)) ≡ length (c ∷ cs) → rank (largest (c ∷ cs)) < 13
unfolding of_rank
all_below c cs e = ltb-true (rank (largest (c ∷ cs))) 13 (of_largest (λ x. ltb (rank x) 13) c cs (heaps_full rank 13 (c ∷ cs) e))

all_counted : (c : ℕ) (cs : List ℕ) → eqb (sum_below 13 (of_rank (c ∷ cs))) (length (c ∷ cs)) ≡ ltb (largest (c ∷ cs)) 52
unfolding of_rank
all_counted c cs =
    same_true (eqb (sum_below 13 (of_rank (c ∷ cs))) (length (c ∷ cs))) (ltb (largest (c ∷ cs)) 52)
    (λ t. lt-ltb (largest (c ∷ cs)) 52 (omega (arith, all_below c cs (eqb-true _ _ t))))
    (λ t.
    let low = every_of_at (λ x. ltb x 52) (c ∷ cs) (each_below 52 c cs (ltb-true (largest (c ∷ cs)) 52 t)) in
    eq-eqb _ _ (heaps_whole rank 13 (c ∷ cs) (λ k h. omega (arith, ltb-true (get_or (c ∷ cs) k 0) 52 (low k h)))))

pub five_ranks : (cs : List ℕ) → length cs ≡ 5 → (apart (of_rank cs) && ltb (largest cs) 52) ≡ eqb (of_a_kind 1 (of_rank cs)) 5
five_ranks [] e = absurd (omega arith)
five_ranks (c ∷ cs) e =
    let all = c ∷ cs in
    ap (λ (t : Bool). apart (of_rank all) && t) (sym (all_counted c cs) ∙ ap (λ n. eqb (sum_below 13 (of_rank all)) n) e)
    ∙ five-apart (of_rank all) (omega (arith, few_cards all))

-- where each counts, the largest has the highest rank
highest_card : (c : ℕ) (cs : List ℕ) → sum_below 13 (of_rank (c ∷ cs)) ≡ length (c ∷ cs) → rank (largest (c ∷ cs)) ≡ highest 13 (of_rank (c ∷ cs))
highest_card c cs e = sym (highest_is 13 (rank (largest (c ∷ cs))) (of_rank (c ∷ cs)) (all_below c cs e) (there c cs) (λ r l m. none_above c cs r l))

-- where five ranks differ, the rank of the largest card
pub five-highest : (cs : List ℕ) → length cs ≡ 5 → of_a_kind 1 (of_rank cs) ≡ 5 → rank (largest cs) ≡ highest 13 (of_rank cs)
five-highest [] e five = absurd (omega arith)
five-highest (c ∷ cs) e five =
    let all = c ∷ cs in
    highest_card c cs
    (omega (arith, e, few_cards all, five, kinds-sum (of_rank all) 1, sum_le 13 (λ r. one (eqb (of_rank all r) 1)) (of_rank all) (λ r l. once_le (of_rank all r))))
