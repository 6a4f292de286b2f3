-- The laws of the shares leave no second list; and the order of the wins plays no part in them but for ties.
-- Assumes nothing.
use Prim.Native.Nat.{ℕ, ◌+◌, ◌-◌, ◌≤◌, ◌<◌}
use mathlib.Core.Path.{◌≡◌, refl, ap, sym, ◌∙◌}
use mathlib.Core.Bool.{Bool, true, false, ◌&&◌, ◌||◌}
use mathlib.Core.List.{List}
use native.Mathlib.Omega.{arith}
use lib.Dec.{eqb, leb, ltb}
use lib.ListN.{length, get_or}
use lib.Seq.{ext_get_or}
use borrow.Author.Tests.{leb-true, leb-false, lt-ltb, le-ltb, ltb-true, ltb-false, ne_eqb}
use Rattle.counting.specs.Choose.{one}
use Rattle.counting.specs.Count.{sum_below, count, some_below, total}
use Rattle.counting.specs.Order.{Reordered}
use Rattle.counting.proofs.Ranges.{some_where, none_at, tally_same}
use Rattle.counting.proofs.Orders.{reordered_count, reordered_total, reordered_map}
use Rattle.counting.proofs.Gathers.{each_at}
use Rattle.counting.proofs.Sums.{squeezed}
use Rattle.counting.proofs.Tallies.{total-sum, tally-count, tally-cut}
use Rattle.counting.proofs.Ranks.{tally_parts}
use Rattle.pool.specs.Pool.{rounded_down, fraction, fraction_at, dollars_left, stands_before, ahead, gets_one, share_of, shares_of}
use Rattle.pool.specs.Shares.{ties_before, Shares}
use Rattle.pool.proofs.Shares.{shares_law}

-- ---- no second list

module _ (maximum : ℕ) (wins : List ℕ) where
  -- where one list gives a win less than another, it gives some win more
  elsewhere : (a b : List ℕ) → Shares maximum wins a → Shares maximum wins b → maximum < total wins → (k : ℕ) → k < length wins → get_or b k 0 < get_or a k 0
      → (l : ℕ) × (get_or a l 0 < get_or b l 0)
  elsewhere a b s t over k h less = go (some_below (length wins) (λ l. ltb (get_or a l 0) (get_or b l 0))) refl
    where
      go : (some : Bool) → some_below (length wins) (λ l. ltb (get_or a l 0) (get_or b l 0)) ≡ some → (l : ℕ) × (get_or a l 0 < get_or b l 0)
      go true e = let w = some_where (λ l. ltb (get_or a l 0) (get_or b l 0)) (length wins) e in (w.0, ltb-true _ _ w.2)
      go false e =
          let at_least : (l : ℕ) → l < length wins → get_or b l 0 ≤ get_or a l 0 =
          λ l q. ltb-false _ _ (none_at (λ i. ltb (get_or a i 0) (get_or b i 0)) (length wins) e l q) in
          let as_much : sum_below (length wins) (λ l. get_or a l 0) ≤ sum_below (length wins) (λ l. get_or b l 0) = omega (arith, total-sum a (length wins) s.long, total-sum b (length wins) t.long, s.exactly over, t.exactly over) in
          absurd (omega (arith, squeezed (length wins) (λ l. get_or b l 0) (λ l. get_or a l 0) at_least as_much k h))

  no_less : (a b : List ℕ) → Shares maximum wins a → Shares maximum wins b → maximum < total wins → (k : ℕ) → k < length wins → get_or a k 0 ≤ get_or b k 0
  no_less a b s t over k h = go (leb (get_or a k 0) (get_or b k 0)) refl
    where
      -- the dollar of one list is k's, and of the other l's
      two : (l : ℕ) → get_or b k 0 < get_or a k 0 → get_or a l 0 < get_or b l 0 → (x y : Bool) → ltb k l ≡ x → ltb l k ≡ y → ⊥
      two l p q x y c d =
          let ak = s.most over k in
          let bk = t.least over k in
          let bl = t.most over l in
          let al = s.least over l in
          let one_way = s.largest over k l (omega arith) (omega arith) in
          let other_way = t.largest over l k (omega arith) (omega arith) in
          by x y c d (omega arith)
        where
          by : (x y : Bool) → ltb k l ≡ x → ltb l k ≡ y → fraction_at maximum wins k ≡ fraction_at maximum wins l → ⊥
          by true y c d e =
              let got = t.earlier over k l (ltb-true _ _ c) e (omega (arith, s.least over l)) in
              omega (arith, s.most over k)
          by false true c d e =
              let got = s.earlier over l k (ltb-true _ _ d) (sym e) (omega (arith, t.least over k)) in
              omega (arith, t.most over l)
          by false false c d e =
              let same : k ≡ l = omega (arith, ltb-false k l c, ltb-false l k d) in
              omega (arith, ap (λ (i : ℕ). get_or a i 0) same, ap (λ (i : ℕ). get_or b i 0) same)

      go : (b' : Bool) → leb (get_or a k 0) (get_or b k 0) ≡ b' → get_or a k 0 ≤ get_or b k 0
      go true e = leb-true _ _ e
      go false e =
          let less = leb-false (get_or a k 0) (get_or b k 0) e in
          let w = elsewhere a b s t over k h less in
          absurd (two w.0 less w.1 _ _ refl refl)

  pub one_sharing : (a b : List ℕ) → Shares maximum wins a → Shares maximum wins b → a ≡ b
  one_sharing a b s t = go (leb (total wins) maximum) refl
    where
      go : (full : Bool) → leb (total wins) maximum ≡ full → a ≡ b
      go true e = let f = leb-true (total wins) maximum e in s.in_full f ∙ sym (t.in_full f)
      go false e =
          let over = leb-false (total wins) maximum e in
          ext_get_or 0 a b (s.long ∙ sym t.long) λ k h.
          let here : k < length wins = omega (arith, s.long) in
          omega (arith, no_less a b s t over k here, no_less b a t s over k here)

-- ---- any order

apart : (a b : ℕ) (c : Bool) → one (ltb b a || (eqb b a && c)) ≡ one (ltb b a) + one (eqb b a && c)
apart a b c = go (ltb b a) refl
  where
    go : (x : Bool) → ltb b a ≡ x → one (x || (eqb b a && c)) ≡ one x + one (eqb b a && c)
    go true e = let d : (b ≡ a → ⊥) = λ z. omega (arith, ltb-true b a e) in simp (ne_eqb b a d)
    go false e = omega arith

module _ (maximum : ℕ) (wins : List ℕ) where
  -- those with a larger fraction stand before a win, and its earlier ties
  ahead_parts : (k : ℕ) → k < length wins
      → ahead maximum wins k ≡ count (λ win. ltb (fraction_at maximum wins k) (fraction maximum (total wins) win)) wins + ties_before maximum wins k
  unfolding ahead ties_before
  ahead_parts k h =
      let f = fraction_at maximum wins in
      let n = length wins in
      let rest : (n - k) + k ≡ n = omega arith in
      let tied : ℕ → Bool = λ j. eqb (f k) (f j) && ltb j k in
      let late : (j : ℕ) → k ≤ j → j < (n - k) + k → tied j ≡ false = λ j p q. never_late (eqb (f k) (f j)) (ltb j k) (le-ltb j k p) in
      let earlier = rw rest at (tally-cut k (n - k) tied late) in
      tally_parts n (λ j. stands_before maximum wins j k) (λ j. ltb (f k) (f j)) tied (λ j l. apart (f j) (f k) (ltb j k))
      ∙ omega (
        arith,
        tally-count (λ win. ltb (f k) (fraction maximum (total wins) win)) wins,
        earlier,
        tally_same k tied (λ j. eqb (f k) (f j)) (λ j l. early (eqb (f k) (f j)) (ltb j k) (lt-ltb j k l)),
      )
    where
      never_late : (a b : Bool) → b ≡ false → (a && b) ≡ false
      never_late true b e = e
      never_late false b e = refl

      early : (a b : Bool) → b ≡ true → (a && b) ≡ a
      early true b e = e
      early false b e = refl

-- The same wins in another order: a win's share is the same, where as many of its ties come before it.
module _ (maximum : ℕ) (wins others : List ℕ) (same : Reordered wins others) where
  one_share : (k l : ℕ) → k < length wins → l < length others → get_or wins k 0 ≡ get_or others l 0 → ties_before maximum wins k ≡ ties_before maximum others l
      → share_of maximum wins k ≡ share_of maximum others l
  unfolding share_of gets_one dollars_left
  one_share k l h m e ties =
      let pool : total wins ≡ total others = reordered_total same in
      let left = reordered_total (reordered_map (rounded_down maximum (total others)) same) in
      let larger = reordered_count (λ win. ltb (fraction_at maximum others l) (fraction maximum (total others) win)) same in
      let before = rw (pool, e, larger, ties) at (ahead_parts maximum wins k h) in
      rw (before, ahead_parts maximum others l m, pool, left, e)

  pub any_order : (a b : List ℕ) → Shares maximum wins a → Shares maximum others b → (k l : ℕ) → k < length wins → l < length others
      → get_or wins k 0 ≡ get_or others l 0 → ties_before maximum wins k ≡ ties_before maximum others l → get_or a k 0 ≡ get_or b l 0
  unfolding shares_of
  any_order a b s t k l h m e ties =
      rw (one_sharing maximum wins a (shares_of maximum wins) s (shares_law maximum wins), one_sharing maximum others b (shares_of maximum others) t (shares_law maximum others))
      (each_at (share_of maximum wins) (length wins) k h ∙ one_share k l h m e ties ∙ sym (each_at (share_of maximum others) (length others) l m))
