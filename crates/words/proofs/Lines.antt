-- Runs in a word: the line A 2 3 .. Q K A has the ace's digit at both ends, and `&` with its own neighbours leaves a 1 where a run begins.
-- Assumes nothing.
use Prim.Native.Nat.{ℕ, zero, suc, ◌+◌, ◌-◌, ◌*◌, ◌%◌, ◌/◌, ◌^◌, ◌≤◌, ◌<◌}
use mathlib.Core.Path.{◌≡◌, refl, sym, ap, ap₂, ◌∙◌}
use mathlib.Core.Bool.{Bool, true, false, not}
use native.Mathlib.Omega.{arith}
use lib.Bits.{bit_and, and_le_l, and_le_r}
use lib.Dec.{eqb, leb, ltb}
use borrow.Author.Tests.{lt-ltb, le-ltb, le-leb, ltb-true, ltb-false, ne_eqb}
use Rattle.counting.specs.Choose.{one}
use Rattle.counting.specs.Count.{sum_below}
use Rattle.counting.proofs.Ranges.{below_suc, every_of_lem, some_where, some_here}
use Rattle.counting.proofs.Sums.{sum_at}
use Rattle.counting.proofs.Tests.{clash, one_le}
use Rattle.hands.specs.Hand.{rank_on, run, straight}
use Rattle.hands.proofs.Runs.{on_run, on_the_line, run_ranks, run_once}
use Rattle.words.specs.Word.{digits, word, on_line, starts, apart, Has}
use Rattle.words.proofs.Digits.{digits_same, digits_and, digits_from, digits_below, digits_short, some_digit}
use Rattle.words.proofs.Planes.{small}
use Rattle.words.proofs.Apart.{at_apart}

-- ---- a number and its neighbours

-- the number and what it is one, two, .. k places further on, all `&`
unfoldable pub meet : ℕ → ℕ → ℕ
meet zero x = x
meet (suc k) x = bit_and (meet k x) (x / 2 ^ (4 * suc k))

-- the same of one digit
unfoldable pub meet_at : ℕ → (ℕ → ℕ) → ℕ → ℕ
meet_at zero g i = g i
meet_at (suc k) g i = bit_and (meet_at k g i) (g (suc k + i))

module _ (g : ℕ → ℕ) where
  -- it is nowhere above a digit that it was made of
  meet_le : (k i j : ℕ) → j ≤ k → meet_at k g i ≤ g (j + i)
  unfolding meet_at
  meet_le zero i j h = let e : j + i ≡ i = omega arith in rw e (omega arith)
  meet_le (suc k) i j h =
      below_suc (λ j. bit_and (meet_at k g i) (g (suc k + i)) ≤ g (j + i)) (suc k) j (omega arith)
      (and_le_r (meet_at k g i) (g (suc k + i)))
      (λ l. omega (arith, and_le_l (meet_at k g i) (g (suc k + i)), meet_le k i j (omega arith)))

  meet_ones : (k i : ℕ) → ((j : ℕ) → j ≤ k → g (j + i) ≡ 1) → meet_at k g i ≡ 1
  unfolding meet_at
  meet_ones zero i e = let z : 0 + i ≡ i = omega arith in rw z at (e 0 (omega arith))
  meet_ones (suc k) i e = rw (meet_ones k i (λ j l. e j (omega arith)), e (suc k) (omega arith))

module _ (g : ℕ → ℕ) (small : (i : ℕ) → g i < 16) (past : (i : ℕ) → 14 ≤ i → g i ≡ 0) where
  further : (k m : ℕ) → k + m ≡ 14 → digits 14 g / 2 ^ (4 * k) ≡ digits 14 (λ i. g (k + i))
  further k m e =
      let turn : m + k ≡ 14 = omega arith in
      let from = digits_from k m g (λ r h. small r) in
      let all = digits_short m k (λ i. g (k + i)) (λ i h. past (k + i) (omega arith)) in
      rw e at from ∙ sym (rw turn at all)

  met : (k m : ℕ) → k + m ≡ 14 → meet k (digits 14 g) ≡ digits 14 (meet_at k g)
  unfolding meet meet_at
  met zero m e = refl
  met (suc k) m e =
      ap₂ bit_and (met k (suc m) (omega arith)) (further (suc k) m e)
      ∙ digits_and 14 (meet_at k g) (λ i. g (suc k + i)) (λ r h. let z : 0 + r ≡ r = omega arith in omega (arith, meet_le g k r 0 (omega arith), ap g z, small r)) (λ r h. small (suc k + r))

-- ---- the line

low_ace : rank_on 1 ≡ 12
unfolding rank_on
low_ace = refl

above-ace : (r : ℕ) → rank_on (suc r + 1) ≡ r
unfolding rank_on
above-ace r = let other : (suc r + 1 ≡ 1 → ⊥) = λ z. omega arith in simp (ne_eqb (suc r + 1) 1 other) (omega arith)

module _ (h : ℕ → ℕ) where
  line_at : (i : ℕ) → i < 14 → on_line h i ≡ h (rank_on (i + 1))
  unfolding on_line
  line_at i l = simp (lt-ltb i 14 l)

  line_past : (i : ℕ) → 14 ≤ i → on_line h i ≡ 0
  unfolding on_line
  line_past i l = simp (le-ltb i 14 l)

  line_small : sum_below 13 h ≤ 5 → (i : ℕ) → on_line h i < 16
  line_small few i = go (ltb i 14) refl
    where
      go : (b : Bool) → ltb i 14 ≡ b → on_line h i < 16
      go true e =
          let l = ltb-true i 14 e in
          omega (arith, line_at i l, sum_at 13 h (rank_on (i + 1)) (on_the_line (i + 1) (omega arith) (omega arith)))
      go false e = omega (arith, line_past i (ltb-false i 14 e))

module _ (w : ℕ) (h : ℕ → ℕ) (has : Has 5 w h) where
  -- the ace's digit is the highest
  pub aces : w / 0x1000000000000 ≡ h 12
  unfolding digits
  aces = rw has.0 (digits_from 12 1 h (λ r l. small w h has r (omega arith)) ∙ omega arith)

  -- the line has the word's digits, and the ace's once more below the two's
  pub line : w % 0x10000000000000 * 16 + w / 0x1000000000000 % 16 ≡ digits 14 (on_line h)
  unfolding digits
  line =
      let whole : w % 0x10000000000000 ≡ w = rw has.0 (digits_below 13 0 h (small w h has)) in
      let upper : digits 13 (λ r. on_line h (suc r)) ≡ word h = digits_same 13 (λ r. on_line h (suc r)) h (λ r l. line_at h (suc r) (omega arith) ∙ ap h (above-ace r)) in
      omega (arith, whole, aces, small w h has 12 (omega arith), upper, has.0, line_at h 0 (omega arith), ap h low_ace)

-- ---- runs

module _ (k m : ℕ) (turn : m + k ≡ 14) (few : k ≤ 4) (h : ℕ → ℕ) (cards : sum_below 13 h ≤ suc k) where
  all_occur : (i : ℕ) → ((j : ℕ) → j ≤ k → 1 ≤ h (rank_on (i + 1 + j))) → run (suc k) (i + 1) h ≡ true
  unfolding run
  all_occur i f = every_of_lem (λ j. leb 1 (h (rank_on (i + 1 + j)))) (suc k) (λ j p. le-leb 1 (h (rank_on (i + 1 + j))) (f j (omega arith)))

  run_at : (i : ℕ) → i < m → meet_at k (on_line h) i ≡ one (run (suc k) (i + 1) h)
  run_at i l = go (run (suc k) (i + 1) h) refl (meet_at k (on_line h) i) refl
    where
      at : (j : ℕ) → j ≤ k → on_line h (j + i) ≡ h (rank_on (i + 1 + j))
      at j p = let e : j + i + 1 ≡ i + 1 + j = omega arith in line_at h (j + i) (omega arith) ∙ ap (λ (q : ℕ). h (rank_on q)) e

      go : (b : Bool) → run (suc k) (i + 1) h ≡ b → (v : ℕ) → meet_at k (on_line h) i ≡ v → v ≡ one b
      go true e v z = sym z ∙ meet_ones (on_line h) k i (λ j p. at j p ∙ run_once (suc k) (i + 1) (omega arith) (omega arith) (omega arith) h cards e j (omega arith))
      go false e zero z = refl
      go false e (suc v) z = clash (run (suc k) (i + 1) h) (all_occur i (λ j p. omega (arith, z, meet_le (on_line h) k i j p, at j p))) e

  -- what is left of the line and its neighbours is where runs begin
  pub runs_begin : sum_below 13 h ≤ 5 → meet k (digits 14 (on_line h)) ≡ digits m (λ i. one (run (suc k) (i + 1) h))
  runs_begin five =
      met (on_line h) (line_small h five) (line_past h) k m (omega arith)
      ∙ (rw turn at (digits_short m k (meet_at k (on_line h)) beyond))
      ∙ digits_same m (meet_at k (on_line h)) (λ i. one (run (suc k) (i + 1) h)) run_at
    where
      beyond : (i : ℕ) → m ≤ i → meet_at k (on_line h) i ≡ 0
      beyond i l = omega (arith, meet_le (on_line h) k i k (omega arith), line_past h (k + i) (omega arith))

-- the line and its next i - 1 neighbours, and one more
pub meet_more : (i x r : ℕ) → 1 ≤ i → r ≡ meet (i - 1) x → bit_and r (x / 2 ^ (4 * i)) ≡ meet (i + 1 - 1) x
unfolding meet
meet_more zero x r p e = absurd (omega arith)
meet_more (suc j) x r p e =
    let before : suc j - 1 ≡ j = omega arith in
    let after : suc j + 1 - 1 ≡ suc j = omega arith in
    ap (λ y. bit_and y (x / 2 ^ (4 * suc j))) (e ∙ ap (λ k. meet k x) before) ∙ sym (ap (λ k. meet k x) after)

-- of up to five cards
pub runs_in : (n i x : ℕ) (h : ℕ → ℕ) → 0 < n → n ≤ 5 → n ≤ i → i ≤ n → sum_below 13 h ≤ n → x ≡ digits 14 (on_line h)
    → (r : ℕ) → r ≡ meet (i - 1) x → r ≡ starts n h
runs_in zero i x h p q a b few line r e = absurd (omega arith)
runs_in (suc k) i x h p q a b few line r e =
    let at : i - 1 ≡ k = omega arith in
    let room : 14 - k ≡ 15 - suc k = omega arith in
    e ∙ ap (λ j. meet j x) at ∙ ap (meet k) line ∙ runs_begin k (14 - k) (omega arith) (omega arith) h few (omega arith)
    ∙ ap (λ m. digits m (λ i. one (run (suc k) (i + 1) h))) room

-- ---- straights

pub straight_begins : (n : ℕ) (h : ℕ → ℕ) → not (eqb (starts n h) 0) ≡ straight n h
unfolding straight
straight_begins n h = some_digit (15 - n) (λ i. run n (i + 1) h)

-- the highest run that there is, of n from number m + 1 of the line on, has the highest digit
pub top_begins : (n m : ℕ) → 15 - n ≡ m + 1 → (h : ℕ → ℕ) → not (eqb (starts n h / 2 ^ (4 * m)) 0) ≡ run n (m + 1) h
unfolding digits
top_begins n m top h =
    let g : ℕ → ℕ = λ i. one (run n (i + 1) h) in
    let last = digits_from m 1 g (λ r l. omega (arith, one_le (run n (r + 1) h))) in
    let e : m + 0 ≡ m = omega arith in
    rw (top, last, e) (is_one (run n (m + 1) h))
  where
    is_one : (b : Bool) → not (eqb (0 * 16 + one b) 0) ≡ b
    is_one true = refl
    is_one false = refl

-- the ranks of a straight of five all differ
pub straight-apart : (h : ℕ → ℕ) → sum_below 13 h ≤ 5 → straight 5 h ≡ true → apart h ≡ true
unfolding straight
straight-apart h few t =
    let s = some_where (λ i. run 5 (i + 1) h) 10 t in
    let once = run_ranks 5 (s.0 + 1) (omega arith) (omega arith) (omega arith) h few s.2 in
    at_apart h (λ r l. let e = once r l in let m = one_le (on_run 5 (s.0 + 1) r) in omega (arith, e, m))

pub royal_straight : (h : ℕ → ℕ) → run 5 10 h ≡ true → straight 5 h ≡ true
unfolding straight
royal_straight h t = some_here (λ i. run 5 (i + 1) h) 10 9 (omega arith) t
