-- What a caller may know of a pool that is shared, and which pools are shared.
-- Assumes nothing.
use Prim.Native.Nat.{ℕ, ◌+◌, ◌≤◌, ◌<◌}
use mathlib.Core.Path.{◌≡◌, refl, ap, sym, ◌∙◌}
use mathlib.Core.Bool.{Bool, true, false, not, ◌&&◌, ◌||◌}
use mathlib.Core.List.{List, [], ◌∷◌, map}
use native.Mathlib.Omega.{arith}
use lib.Dec.{eqb, leb, ltb}
use lib.ListN.{length, get_or, length-map, get_or-eq_default}
use borrow.Author.Tests.{le-leb, lt-leb, leb-true, leb-false, lt-ltb, le-ltb, ltb-true, ltb-false, eq-eqb, ne_eqb, eqb-true, eqb-false, not-false}
use Rattle.std.specs.Prelude.{Result, Ok, Err, if◌then◌else◌}
use Rattle.causes.specs.declared.Refusal.{Refusal}
use Rattle.causes.specs.Refusal.{number, cause, number_of, answered}
use Rattle.counting.specs.Choose.{one}
use Rattle.counting.specs.Count.{tally, total}
use Rattle.counting.proofs.Tests.{clash, and_true, both, one_le, or_false, neither}
use Rattle.counting.proofs.Ranges.{tally_le}
use Rattle.counting.proofs.Gathers.{gather_same, each-length, each_at, each_of}
use Rattle.counting.proofs.Sums.{sum_add, sum_same, tally-sum}
use Rattle.counting.proofs.Tallies.{total-sum}
use Rattle.counting.proofs.Ranks.{tally_weaker, rank_less, first_many}
use Rattle.pool.specs.declared.Shared.{Shared}
use Rattle.pool.specs.declared.Shared.TheVariants.{Full, Cut}
use Rattle.pool.specs.Pool.{rounded_down, fraction_at, dollars_left, stands_before, ahead, gets_one, share_of, shares_of, wins_fit, share_refusal, share_answer, share_list}
use Rattle.pool.specs.Shares.{rounded_at, Shares}
use Rattle.pool.proofs.Rounded.{rounded_most, rounded_below, rounded_at_lem, no_fraction, rounded_within, few_left}
use Rattle.pool.proofs.Standing.{first, larger_first, earlier-first, never, onwards, either}

-- ---- the share at each place

module _ (maximum : ℕ) (wins : List ℕ) where
  shares-long : length (shares_of maximum wins) ≡ length wins
  unfolding shares_of
  shares-long = each-length (share_of maximum wins) (length wins)

  all_full : total wins ≤ maximum → shares_of maximum wins ≡ wins
  unfolding shares_of share_of
  all_full h =
      let full = le-leb (total wins) maximum h in
      gather_same (length wins) (λ k. share_of maximum wins k ∷ []) (λ k. get_or wins k 0 ∷ []) (λ k l. simp full) ∙ sym (each_of wins (length wins) refl)

  -- ---- where the pool exceeds the maximum
  module _ (over : maximum < total wins) where
    -- whether the win at any place gets a dollar: past the end there is none
    abbrev gets : ℕ → Bool
    gets k = ltb k (length wins) && gets_one maximum wins k

    share_in : (k : ℕ) → k < length wins → get_or (shares_of maximum wins) k 0 ≡ rounded_at maximum wins k + one (gets_one maximum wins k)
    unfolding shares_of share_of
    share_in k h = each_at (share_of maximum wins) (length wins) k h ∙ simp (lt-leb _ _ over)

    -- past the end
    no_win : (k : ℕ) → length wins ≤ k → get_or wins k 0 ≡ 0
    no_win k h = get_or-eq_default wins 0 h

    share_at : (k : ℕ) → get_or (shares_of maximum wins) k 0 ≡ rounded_at maximum wins k + one (gets k)
    share_at k = go (ltb k (length wins)) refl
      where
        go : (here : Bool) → ltb k (length wins) ≡ here → get_or (shares_of maximum wins) k 0 ≡ rounded_at maximum wins k + one (here && gets_one maximum wins k)
        go true e = share_in k (ltb-true _ _ e)
        go false e =
            let past = ltb-false k (length wins) e in
            let none : rounded_at maximum wins k ≡ 0 = omega (arith, rounded_most maximum (total wins) (get_or wins k 0) over, no_win k past) in
            get_or-eq_default (shares_of maximum wins) 0 (omega (arith, shares-long)) ∙ omega (arith, none)

    -- ---- who gets a dollar

    order : (j k : ℕ) → j < length wins → stands_before maximum wins j k ≡ true → ahead maximum wins j < ahead maximum wins k
    unfolding ahead
    order j k h b =
        let f = fraction_at maximum wins in
        rank_less (length wins) (first f) (never f) (onwards f) (either f) j k h b

    -- as many as there are dollars left
    many : tally (length wins) (gets_one maximum wins) ≡ dollars_left maximum wins
    unfolding gets_one ahead
    many =
        let f = fraction_at maximum wins in
        let d = dollars_left maximum wins in
        let most = few_left maximum wins over in
        first_many (length wins) (first f) (never f) (onwards f) (either f) d (omega (arith, most, tally_le (length wins) (λ k. ltb 0 (f k))))

    getting : (k : ℕ) → gets k ≡ true → (k < length wins) × (ahead maximum wins k < dollars_left maximum wins)
    unfolding gets_one
    getting k e =
        let two = and_true (ltb k (length wins)) (gets_one maximum wins k) e in
        (ltb-true _ _ two.0, ltb-true _ _ two.1)

    to_get : (k : ℕ) → k < length wins → ahead maximum wins k < dollars_left maximum wins → gets k ≡ true
    unfolding gets_one
    to_get k h l = both _ _ (lt-ltb _ _ h) (lt-ltb _ _ l)

    -- only a win with a fraction
    pub of_some : (k : ℕ) → gets_one maximum wins k ≡ true → 0 < fraction_at maximum wins k
    unfolding gets_one ahead
    of_some k e = go (ltb 0 (fraction_at maximum wins k)) refl
      where
        go : (some : Bool) → ltb 0 (fraction_at maximum wins k) ≡ some → 0 < fraction_at maximum wins k
        go true p = ltb-true _ _ p
        go false p =
            let f = fraction_at maximum wins in
            let none : f k ≤ 0 = ltb-false 0 (f k) p in
            let before = tally_weaker (length wins) (λ j. ltb 0 (f j)) (λ j. stands_before maximum wins j k)
            (λ j h q. let some = ltb-true 0 (f j) q in larger_first f j k (omega arith)) in
            absurd (omega (arith, before, ltb-true (ahead maximum wins k) (dollars_left maximum wins) e, few_left maximum wins over))

    -- a share above its rounded part has a dollar, one that isn't has none
    dollar : (k : ℕ) → rounded_at maximum wins k < get_or (shares_of maximum wins) k 0 → gets k ≡ true
    dollar k h = go (gets k) refl
      where
        go : (b : Bool) → gets k ≡ b → gets k ≡ true
        go true e = e
        go false e = absurd (omega (arith, share_at k, ap one e))

    no_dollar : (k : ℕ) → get_or (shares_of maximum wins) k 0 ≤ rounded_at maximum wins k → gets k ≡ false
    no_dollar k h = go (gets k) refl
      where
        go : (b : Bool) → gets k ≡ b → gets k ≡ false
        go true e = absurd (omega (arith, share_at k, ap one e))
        go false e = e

    -- ---- the laws

    no_more : (k : ℕ) → get_or (shares_of maximum wins) k 0 ≤ get_or wins k 0
    no_more k = go (gets k) refl
      where
        go : (b : Bool) → gets k ≡ b → get_or (shares_of maximum wins) k 0 ≤ get_or wins k 0
        go true e = omega (arith, share_at k, ap one e, rounded_below maximum (total wins) (get_or wins k 0) over (of_some k (and_true (ltb k (length wins)) (gets_one maximum wins k) e).1))
        go false e = omega (arith, share_at k, ap one e, rounded_most maximum (total wins) (get_or wins k 0) over)

    whole : total (shares_of maximum wins) ≡ maximum
    whole =
        let n = length wins in
        let rounded = map (rounded_down maximum (total wins)) wins in
        let each-share = total-sum (shares_of maximum wins) n shares-long
        ∙ sum_same n (λ k. get_or (shares_of maximum wins) k 0) (λ k. get_or rounded k 0 + one (gets_one maximum wins k))
        (λ k h. rw (rounded_at_lem maximum (total wins) wins k over) (share_in k h))
        ∙ sum_add n (λ k. get_or rounded k 0) (λ k. one (gets_one maximum wins k)) in
        omega (
          arith,
          each-share,
          total-sum rounded n (length-map wins (rounded_down maximum (total wins))),
          tally-sum n (gets_one maximum wins),
          many,
          rounded_within maximum wins over,
        )

    by_fraction : (j k : ℕ) → rounded_at maximum wins j < get_or (shares_of maximum wins) j 0 → get_or (shares_of maximum wins) k 0 ≤ rounded_at maximum wins k
        → fraction_at maximum wins k ≤ fraction_at maximum wins j
    by_fraction j k p q = go (leb (fraction_at maximum wins k) (fraction_at maximum wins j)) (ltb k (length wins)) refl refl
      where
        go : (a b : Bool) → leb (fraction_at maximum wins k) (fraction_at maximum wins j) ≡ a → ltb k (length wins) ≡ b → fraction_at maximum wins k ≤ fraction_at maximum wins j
        go true b e h = leb-true _ _ e
        go false true e h =
            let here = ltb-true _ _ h in
            let own = getting j (dollar j p) in
            let before = order k j here (larger_first (fraction_at maximum wins) k j (leb-false _ _ e)) in
            clash (gets k) (to_get k here (omega arith)) (no_dollar k q)
        go false false e h = rw (no_win k (ltb-false _ _ h), no_fraction maximum (total wins)) (omega arith)

    by_place : (j k : ℕ) → j < k → fraction_at maximum wins j ≡ fraction_at maximum wins k
        → rounded_at maximum wins k < get_or (shares_of maximum wins) k 0 → rounded_at maximum wins j < get_or (shares_of maximum wins) j 0
    by_place j k l e p =
        let own = getting k (dollar k p) in
        let here : j < length wins = omega arith in
        let before = order j k here (earlier-first (fraction_at maximum wins) j k (sym e) l) in
        omega (arith, share_at j, ap one (to_get j here (omega arith)))

  at_most_lem : (k : ℕ) → get_or (shares_of maximum wins) k 0 ≤ get_or wins k 0
  at_most_lem k = go (leb (total wins) maximum) refl
    where
      go : (full : Bool) → leb (total wins) maximum ≡ full → get_or (shares_of maximum wins) k 0 ≤ get_or wins k 0
      go true e = rw (all_full (leb-true _ _ e)) (omega arith)
      go false e = no_more (leb-false _ _ e) k

  pub shares_law : Shares maximum wins (shares_of maximum wins)
  shares_law =
      record {
        long = shares-long;
        at_most = at_most_lem;
        in_full = all_full;
        exactly = whole;
        least = λ over k. omega (arith, share_at over k);
        most = λ over k. omega (arith, share_at over k, one_le (gets over k));
        largest = by_fraction;
        earlier = by_place;
      }

-- ---- an answer that goes by the number n of a refusal

module _ {A : Type 0} (n : ℕ) (x : A) where
  pub unrefused : (given : A) → Ok given ≡ answered n x → n ≡ 0
  unfolding answered
  unrefused given h = go (eqb n 0) refl h
    where
      go : (none : Bool) → eqb n 0 ≡ none → Ok given ≡ (if none then Ok x else Err (cause n)) → n ≡ 0
      go true e h = eqb-true _ _ e
      go false e h = let z : ◌≡◌ {A = ℕ} 0 1 = cc in absurd (omega arith)

  pub refused_as : (refusal : Refusal) → Err refusal ≡ answered n x → (n ≡ 0 → ⊥) × (cause n ≡ refusal)
  unfolding answered
  refused_as refusal h = go (eqb n 0) refl h
    where
      go : (none : Bool) → eqb n 0 ≡ none → Err refusal ≡ (if none then Ok x else Err (cause n)) → (n ≡ 0 → ⊥) × (cause n ≡ refusal)
      go true e h = let z : ◌≡◌ {A = ℕ} 0 1 = cc in absurd (omega arith)
      go false e h = (eqb-false _ _ e, cc)

-- ---- which pools are shared

module _ (wins : List ℕ) (maximum room : ℕ) where
  -- no refusal: every limit is kept
  pub kept : share_refusal wins maximum room ≡ 0 → (length wins ≡ room) × (length wins ≤ 7) × (wins_fit wins ≡ true) × (maximum ≤ 75000)
  unfolding share_refusal
  kept e =
      let none = neither 19 20 (not (eqb (length wins) room) || ltb 7 (length wins)) (not (wins_fit wins) || ltb 75000 maximum) (omega arith) (omega arith) e in
      let lengths = or_false (not (eqb (length wins) room)) (ltb 7 (length wins)) none.0 in
      let limits = or_false (not (wins_fit wins)) (ltb 75000 maximum) none.1 in
      (eqb-true _ _ (not-false _ lengths.0), ltb-false _ _ lengths.1, not-false _ limits.0, ltb-false _ _ limits.1)

  pub fits : length wins ≤ 7 → length wins ≡ room → wins_fit wins ≡ true → maximum ≤ 75000 → share_refusal wins maximum room ≡ 0
  unfolding share_refusal
  fits h e s m = simp (eq-eqb _ _ e, le-ltb _ _ h, s, le-ltb _ _ m)

  -- ---- the answer

  pub answer-refused : (share_refusal wins maximum room ≡ 0 → ⊥) → share_answer wins maximum room ≡ Err (cause (share_refusal wins maximum room))
  unfolding share_answer answered
  answer-refused h = simp (ne_eqb _ _ h)

  pub answer_full : share_refusal wins maximum room ≡ 0 → total wins ≤ maximum → share_answer wins maximum room ≡ Ok Full
  unfolding share_answer answered
  answer_full e h = simp (e, le-leb _ _ h)

  pub answer-cut : share_refusal wins maximum room ≡ 0 → maximum < total wins → share_answer wins maximum room ≡ Ok Cut
  unfolding share_answer answered
  answer-cut e h = simp (e, lt-leb _ _ h)

  pub answer_number : number_of (share_answer wins maximum room) ≡ share_refusal wins maximum room
  unfolding share_answer share_refusal answered
  answer_number = go (not (eqb (length wins) room) || ltb 7 (length wins)) (not (wins_fit wins) || ltb 75000 maximum)
    where
      go : (lists limits : Bool)
          → number_of (answered (if lists then 19 else if limits then 20 else 0) (if leb (total wins) maximum then Full else Cut)) ≡ (if lists then 19 else if limits then 20 else 0)
      go true limits = refl
      go false true = refl
      go false false = refl

  pub refused_number : (share_refusal wins maximum room ≡ 0 → ⊥) → number (cause (share_refusal wins maximum room)) ≡ share_refusal wins maximum room
  refused_number h = ap number_of (sym (answer-refused h)) ∙ answer_number

-- ---- the lent list

module _ (wins : List ℕ) (maximum : ℕ) (lent : List ℕ) where
  pub accepted : share_refusal wins maximum (length lent) ≡ 0 → share_list wins maximum lent ≡ shares_of maximum wins
  unfolding share_list
  accepted e = simp e

  pub refused : (share_refusal wins maximum (length lent) ≡ 0 → ⊥) → share_list wins maximum lent ≡ lent
  unfolding share_list
  refused h = simp (ne_eqb _ _ h)

  -- what is promised of an answer and of the list at the end
  pub promised : (r : Result Shared Refusal) (new : List ℕ) → r ≡ share_answer wins maximum (length lent) → new ≡ share_list wins maximum lent
      → record {
        answer : r ≡ share_answer wins maximum (length lent);
        number : number_of r ≡ share_refusal wins maximum (length lent);
        list : new ≡ share_list wins maximum lent;
      }
  promised r new e q = record { answer = e; number = ap number_of e ∙ answer_number wins maximum (length lent); list = q }
