-- What the library's words for lists say in the words of specs/: a chain of iterators is answered in the library's words, and our definitions are read in
-- ours.
-- Assumes nothing.
use Rattle.std.proofs.Common.{◌≡◌, ℕ, zero, suc, ◌+◌, ◌-◌, ◌≤◌, Bool, true, false, cond, ◌&&◌, ◌||◌, List, [], ◌∷◌, ◌++◌, length, get_or, take, refl, ap, sym, ◌∙◌, add-one, arith, sum, count_by}
use Rattle.std.specs.List.{list_any, list_all, filter, range_with_len}
use Rattle.std.proofs.lemmas.List.Folds.{list_any_more, list_all_more, list_any-append, list_all-append}
use Rattle.std.proofs.Math.Seq.{take-suc}
use Rattle.std.proofs.lemmas.List.{take_all}
use Rattle.std.proofs.Math.Nat.{add-zero}
use Rattle.std.proofs.lemmas.List.Sums.{sum_by-cons, length-filter}
use Rattle.std.specs.Prelude.{Option}
use Rattle.std.specs.declared.ops.Range.{Range}
use Rattle.std.specs.declared.iter.Rev.{Rev}
use Rattle.std.specs.Range.{range_steps_back}
use Rattle.std.specs.Iterator.Adapters.{rev_source, rev_steps}
use Rattle.std.proofs.lemmas.Iterator.{YieldsList}
use Rattle.std.proofs.lemmas.Iterator.Consumers.{YieldsList-from_shown}
use denote.Param.Members.{Mut}
use Rattle.std.specs.declared.ops.Range.{Range}
use Rattle.std.specs.Iterator.{YieldsThen}
use Rattle.std.specs.List.{FoldsTo}
use Rattle.std.specs.Fn.{Called}
use Rattle.std.specs.Option.{MatchOption}
use Rattle.std.proofs.iter.Yields.{nat_range_steps}
use Rattle.std.specs.Prelude.{Option}
use Rattle.std.proofs.lemmas.Iterator.{YieldsList-from_range}
use Rattle.std.proofs.lemmas.Iterator.Search.{all_from_yields_List, any_from_yields_List}
use Rattle.counting.specs.Choose.{one}
use Rattle.counting.specs.Count.{tally, every_below, some_below, count, every_of, total}
use Rattle.counting.proofs.Lists.{count_both}
use Rattle.counting.proofs.Tallies.{tally_front}

one_cond : (b : Bool) → one b ≡ cond b 1 0
one_cond true = refl
one_cond false = refl

or_swap : (a b : Bool) → (a || b) ≡ (b || a)
or_swap true true = refl
or_swap true false = refl
or_swap false true = refl
or_swap false false = refl

and_swap : (a b : Bool) → (a && b) ≡ (b && a)
and_swap true true = refl
and_swap true false = refl
and_swap false true = refl
and_swap false false = refl

-- ---- along a list

pub every_of-list_all : (f : ℕ → Bool) (xs : List ℕ) → every_of f xs ≡ list_all f xs
unfolding every_of
every_of-list_all f [] = refl
every_of-list_all f (x ∷ xs) = rw (every_of-list_all f xs)

pub count-count_by : (f : ℕ → Bool) (xs : List ℕ) → count f xs ≡ count_by f xs
unfolding count
count-count_by f [] = refl
count-count_by f (x ∷ xs) =
    ap (λ n. one (f x) + n) (count-count_by f xs)
    ∙ ap (λ n. n + count_by f xs) (one_cond (f x))
    ∙ sym (sum_by-cons (λ y. cond (f y) 1 0) x xs)

pub total-sum : (xs : List ℕ) → total xs ≡ sum xs
unfolding total
total-sum [] = refl
total-sum (x ∷ xs) = ap (λ n. x + n) (total-sum xs) ∙ sym (sum_by-cons (λ y. y) x xs)

-- ---- at the places of a list

some_taken : (f : ℕ → Bool) (xs : List ℕ) (n : ℕ) → n ≤ length xs → some_below n (λ k. f (get_or xs k 0)) ≡ list_any f (take n xs)
unfolding some_below
some_taken f xs zero h = refl
some_taken f xs (suc n) h =
    ap (λ b. f (get_or xs n 0) || b) (some_taken f xs n (omega arith))
    ∙ or_swap (f (get_or xs n 0)) (list_any f (take n xs))
    ∙ sym (ap (λ k. list_any f (take k xs)) (sym (add-one n)) ∙ list_any_more f xs n 0 (omega arith))

every_taken : (f : ℕ → Bool) (xs : List ℕ) (n : ℕ) → n ≤ length xs → every_below n (λ k. f (get_or xs k 0)) ≡ list_all f (take n xs)
unfolding every_below
every_taken f xs zero h = refl
every_taken f xs (suc n) h =
    ap (λ b. f (get_or xs n 0) && b) (every_taken f xs n (omega arith))
    ∙ and_swap (f (get_or xs n 0)) (list_all f (take n xs))
    ∙ sym (ap (λ k. list_all f (take k xs)) (sym (add-one n)) ∙ list_all_more f xs n 0 (omega arith))

tally_taken : (f : ℕ → Bool) (xs : List ℕ) (n : ℕ) → n ≤ length xs → tally n (λ k. f (get_or xs k 0)) ≡ count f (take n xs)
unfolding tally count
tally_taken f xs zero h = refl
tally_taken f xs (suc n) h =
    let e = tally_taken f xs n (omega arith) in
    let s : count f (take (suc n) xs) ≡ count f (take n xs) + (one (f (get_or xs n 0)) + 0) = rw (take-suc xs n 0) (count_both f (take n xs) (get_or xs n 0 ∷ [])) in
    omega (arith, e, s)

pub some_at : (f : ℕ → Bool) (xs : List ℕ) (n : ℕ) → length xs ≡ n → some_below n (λ k. f (get_or xs k 0)) ≡ list_any f xs
some_at f xs n e = some_taken f xs n (omega arith) ∙ ap (list_any f) (take_all n xs (omega arith))

pub every_at_places : (f : ℕ → Bool) (xs : List ℕ) (n : ℕ) → length xs ≡ n → every_below n (λ k. f (get_or xs k 0)) ≡ list_all f xs
every_at_places f xs n e = every_taken f xs n (omega arith) ∙ ap (list_all f) (take_all n xs (omega arith))

pub tally_at : (f : ℕ → Bool) (xs : List ℕ) (n : ℕ) → length xs ≡ n → tally n (λ k. f (get_or xs k 0)) ≡ count_by f xs
tally_at f xs n e = tally_taken f xs n (omega arith) ∙ ap (count f) (take_all n xs (omega arith)) ∙ count-count_by f xs

-- of the first n places
pub tally_first : (f : ℕ → Bool) (xs : List ℕ) (n : ℕ) → n ≤ length xs → tally n (λ k. f (get_or xs k 0)) ≡ count_by f (take n xs)
tally_first f xs n h = tally_taken f xs n h ∙ count-count_by f (take n xs)

-- ---- over the numbers from 0 to below n

range_more : (a n : ℕ) → range_with_len a (suc n) ≡ range_with_len a n ++ (a + n) ∷ []
range_more a zero = rw add-zero
range_more a (suc n) =
    let e : a + 1 + n ≡ a + suc n = omega arith in
    ap (λ l. a ∷ l) (range_more (a + 1) n) ∙ ap (λ k. a ∷ (range_with_len (a + 1) n ++ k ∷ [])) e

numbers_more : (n : ℕ) → range_with_len 0 (suc n) ≡ range_with_len 0 n ++ n ∷ []
numbers_more n = let e : 0 + n ≡ n = omega arith in range_more 0 n ∙ ap (λ k. range_with_len 0 n ++ k ∷ []) e

pub some_range : (f : ℕ → Bool) (n : ℕ) → some_below n f ≡ list_any f (range_with_len 0 n)
unfolding some_below
some_range f zero = refl
some_range f (suc n) =
    let all = range_with_len 0 n in
    ap (λ b. f n || b) (some_range f n)
    ∙ or_swap (f n) (list_any f all)
    ∙ ap (λ b. list_any f all || b) (or_swap false (f n))
    ∙ sym (ap (list_any f) (numbers_more n) ∙ list_any-append f all (n ∷ []))

pub every_range : (f : ℕ → Bool) (n : ℕ) → every_below n f ≡ list_all f (range_with_len 0 n)
unfolding every_below
every_range f zero = refl
every_range f (suc n) =
    let all = range_with_len 0 n in
    ap (λ b. f n && b) (every_range f n)
    ∙ and_swap (f n) (list_all f all)
    ∙ ap (λ b. list_all f all && b) (and_swap true (f n))
    ∙ sym (ap (list_all f) (numbers_more n) ∙ list_all-append f all (n ∷ []))

tally_count : (f : ℕ → Bool) (n : ℕ) → tally n f ≡ count f (range_with_len 0 n)
unfolding tally count
tally_count f zero = refl
tally_count f (suc n) =
    let s : count f (range_with_len 0 (suc n)) ≡ count f (range_with_len 0 n) + (one (f n) + 0) = ap (count f) (numbers_more n) ∙ count_both f (range_with_len 0 n) (n ∷ []) in
    omega (arith, tally_count f n, s)

pub tally_range : (f : ℕ → Bool) (n : ℕ) → tally n f ≡ count_by f (range_with_len 0 n)
tally_range f n = tally_count f n ∙ count-count_by f (range_with_len 0 n)

-- ---- how many are left where only those that pass the test are kept

pub kept_count : (f : ℕ → Bool) (xs : List ℕ) → length (filter f xs) ≡ count f xs
kept_count f xs = length-filter f xs ∙ sym (count-count_by f xs)

pub kept_tally : (f : ℕ → Bool) (n : ℕ) → length (filter f (range_with_len 0 n)) ≡ tally n f
kept_tally f n = length-filter f (range_with_len 0 n) ∙ sym (tally_range f n)

-- ---- the numbers from below a + n down to a, as `(a..b).rev()` gives them

abbrev pub down : ℕ → ℕ → List ℕ
down a zero = []
down a (suc n) = (a + n) ∷ down a n

abbrev pub down_steps : Range ℕ → Option ℕ → Range ℕ → Type 0
down_steps = range_steps_back (λ x y. y - x) (λ x y. y ≡ x + 1)

pub YieldsList-from_down : {s : Rev (Range ℕ)} (a b n : ℕ) → rev_source s ≡ record { start = a; end = b } → b - a ≡ n → YieldsList (rev_steps down_steps) (λ x. x) s (down a n)
YieldsList-from_down {s} a b n e f =
    let shown : Rev (Range ℕ) → List ℕ = λ u. down (rev_source u).start ((rev_source u).end - (rev_source u).start) in
    let all : down a n ≡ shown s = rw (e, f) refl in
    rw all
    (YieldsList-from_shown (rev_steps down_steps) (λ x. x) shown
    (λ u t p. rw p.1.0 refl)
    (λ u x t p.
    let q = p in
    let more : (rev_source u).end - (rev_source u).start ≡ suc ((rev_source t).end - (rev_source t).start) = omega (arith, q.0, q.1.0, q.1.2) in
    let top : (rev_source u).start + ((rev_source t).end - (rev_source t).start) ≡ x = omega (arith, q.0, q.1.0, q.1.1, q.1.2) in
    rw (more, top, q.0) refl)
    s)

-- ---- of those at the first n places, where past the end none passes

none_past : (f : ℕ → Bool) (n : ℕ) → f 0 ≡ false → tally n (λ k. f (get_or [] k 0)) ≡ 0
unfolding tally
none_past f zero e = refl
none_past f (suc n) e = omega (arith, ap one e, none_past f n e)

tally_past : (f : ℕ → Bool) (xs : List ℕ) (n : ℕ) → f 0 ≡ false → tally n (λ k. f (get_or xs k 0)) ≡ count f (take n xs)
unfolding tally count
tally_past f xs zero e = refl
tally_past f [] (suc n) e = none_past f (suc n) e
tally_past f (x ∷ xs) (suc n) e = tally_front n (λ k. f (get_or (x ∷ xs) k 0)) ∙ ap (λ k. one (f x) + k) (tally_past f xs n e)

pub kept_places : (f : ℕ → Bool) (xs : List ℕ) (n : ℕ) → f 0 ≡ false → length (filter f (take n xs)) ≡ tally n (λ k. f (get_or xs k 0))
kept_places f xs n e = kept_count f (take n xs) ∙ sym (tally_past f xs n e)

-- ---- what `all` and `any` answer over the numbers from 0 to below n

module _ {F : Type 0} {g : Mut F (ℕ × Unit {0}) Bool} {s u : Range ℕ} {f : F} {r : Bool} (test : ℕ → Bool) (n : ℕ) where
  pub all_below : (xs : List ℕ) × (o : Option ℕ) × (j : F) × YieldsThen nat_range_steps s xs o u × FoldsTo (λ p x q. Called g p (x, tt) true q) f xs j × MatchOption o (r ≡ true) (λ x. (r ≡ false) × ((h : F) × Called g j (x, tt) false h))
      → s ≡ record { start = 0; end = n } → ((x : ℕ) (b : Bool) (q : F) → Called g f (x, tt) b q → (q ≡ f) × (b ≡ test x)) → r ≡ every_below n test
  all_below ran e k = rw every_range (all_from_yields_List test u f r ran (YieldsList-from_range 0 n n e (omega arith)) k)

  pub any_below : (xs : List ℕ) × (o : Option ℕ) × (j : F) × YieldsThen nat_range_steps s xs o u × FoldsTo (λ p x q. Called g p (x, tt) false q) f xs j × MatchOption o (r ≡ false) (λ x. (r ≡ true) × ((h : F) × Called g j (x, tt) true h))
      → s ≡ record { start = 0; end = n } → ((x : ℕ) (b : Bool) (q : F) → Called g f (x, tt) b q → (q ≡ f) × (b ≡ test x)) → r ≡ some_below n test
  any_below ran e k = rw some_range (any_from_yields_List test u f r ran (YieldsList-from_range 0 n n e (omega arith)) k)
