-- Wagers that fit a table: what an accepted seat record says, that it keeps them so and takes a seat, and what they are at each seat.
-- Assumes nothing.
use Prim.Native.Nat.{ℕ, ◌+◌, ◌≤◌, ◌<◌}
use mathlib.Core.Path.{◌≡◌, refl, sym, ap, subst, ◌∙◌}
use mathlib.Core.Bool.{Bool, true, false, not, ◌&&◌}
use mathlib.Core.List.{List}
use native.Mathlib.Omega.{arith}
use lib.Dec.{eqb, leb}
use lib.ListN.{get_or, set, length, length-set}
use lib.Seq.{get_or-set_same, get_or-set_other}
use borrow.Author.Tests.{eqb-true, eqb-false, leb-true, le-leb, not-true, not-false}
use Rattle.std.specs.Prelude.{if◌then◌else◌}
use Rattle.counting.specs.Count.{tally}
use Rattle.records.specs.Bytes.{byte, word, zero_from, between}
use Rattle.records.specs.Seats.{place, plays, any_plays}
use Rattle.counting.proofs.Tests.{clash, and_true, both, first_holds, second_holds, other_holds, is_false, positive, not_zero, passed}
use Rattle.counting.proofs.Ranges.{every_at, every_of_lem, some_where, tally_one_more}
use Rattle.counting.proofs.Firsts.{zeros_at}
use Rattle.seating.specs.declared.Table.{Table}
use Rattle.seating.specs.declared.Wagers.{Wagers}
use Rattle.seating.specs.Table.{has_table}
use Rattle.seating.specs.Seat.{ante_fits, most_six, sides_fit, is_lower, is_above, seat_refusal, with_seat, no_wagers, no_wager, wagers_fit, seat_fits, seats_fit}
use Rattle.records.proofs.Betweens.{between_true, is_between}

-- ---- seven of each

pub record Seven (w : Wagers) : Type 0 where
  pub antes : length w.antes ≡ 7
  pub board : length w.board ≡ 7
  pub pocket : length w.pocket ≡ 7
  pub lo : length w.lo ≡ 7
  pub six : length w.six ≡ 7

pub seat_seven : (w : Wagers) (b : List ℕ) → Seven w → Seven (with_seat w b)
seat_seven w b s =
    let p = place (byte b 1) in
    record {
      antes = length-set w.antes p (word b 2) ∙ s.antes;
      board = length-set w.board p (word b 4) ∙ s.board;
      pocket = length-set w.pocket p (word b 6) ∙ s.pocket;
      lo = length-set w.lo p (word b 8) ∙ s.lo;
      six = length-set w.six p (word b 10) ∙ s.six;
    }

-- ---- the test of one seat, in numbers

pub absent_zero : (w : Wagers) (k : ℕ) → no_wager w k ≡ true
    → (get_or w.antes k 0 ≡ 0) × (get_or w.board k 0 ≡ 0) × (get_or w.pocket k 0 ≡ 0) × (get_or w.lo k 0 ≡ 0) × (get_or w.six k 0 ≡ 0)
unfolding no_wager
absent_zero w k e =
    let a = get_or w.antes k 0 in
    let b = get_or w.board k 0 in
    let p = get_or w.pocket k 0 in
    let l = get_or w.lo k 0 in
    let s = get_or w.six k 0 in
    let all = and_true (eqb a 0 && eqb b 0) ((eqb p 0 && eqb l 0) && eqb s 0) e in
    let rest = and_true (eqb p 0 && eqb l 0) (eqb s 0) all.1 in
    let first = and_true (eqb a 0) (eqb b 0) all.0 in
    let second = and_true (eqb p 0) (eqb l 0) rest.0 in
    (eqb-true a 0 first.0, eqb-true b 0 first.1, eqb-true p 0 second.0, eqb-true l 0 second.1, eqb-true s 0 rest.1)

sides_true : (t : Table) (x y z s : ℕ) → sides_fit t x y z s ≡ true → (x ≤ t.largest) × (y ≤ t.largest) × (z ≤ t.largest) × (s ≤ most_six t)
sides_true t x y z s e =
    let all = and_true (leb x t.largest && leb y t.largest) (leb z t.largest && leb s (most_six t)) e in
    let p = and_true (leb x t.largest) (leb y t.largest) all.0 in
    let q = and_true (leb z t.largest) (leb s (most_six t)) all.1 in
    (leb-true x t.largest p.0, leb-true y t.largest p.1, leb-true z t.largest q.0, leb-true s (most_six t) q.1)

pub sides_fit_lem : (t : Table) (x y z s : ℕ) → x ≤ t.largest → y ≤ t.largest → z ≤ t.largest → s ≤ most_six t → sides_fit t x y z s ≡ true
sides_fit_lem t x y z s p q r u = simp (le-leb x t.largest p, le-leb y t.largest q, le-leb z t.largest r, le-leb s (most_six t) u)

-- an All-Six wager is within the largest ante too
pub most-six : (t : Table) → most_six t ≤ t.largest
unfolding most_six
most-six t = go (eqb t.six 0)
  where
    go : (none : Bool) → (if none then 0 else t.largest) ≤ t.largest
    go true = omega arith
    go false = omega arith

pub record Wagered (t : Table) (w : Wagers) (k : ℕ) : Type 0 where
  pub table : has_table t ≡ true
  pub ante_low : t.smallest ≤ get_or w.antes k 0
  pub ante_high : get_or w.antes k 0 ≤ t.largest
  pub board : get_or w.board k 0 ≤ t.largest
  pub pocket : get_or w.pocket k 0 ≤ t.largest
  pub lo : get_or w.lo k 0 ≤ t.largest
  pub six : get_or w.six k 0 ≤ most_six t

to_wagered : (t : Table) (w : Wagers) (k : ℕ) → (has_table t && wagers_fit t w k) ≡ true → Wagered t w k
unfolding wagers_fit
to_wagered t w k e =
    let a = get_or w.antes k 0 in
    let b = get_or w.board k 0 in
    let p = get_or w.pocket k 0 in
    let l = get_or w.lo k 0 in
    let s = get_or w.six k 0 in
    let all = and_true (has_table t) (ante_fits t a && sides_fit t b p l s) e in
    let fit = and_true (ante_fits t a) (sides_fit t b p l s) all.1 in
    let ante = between_true t.smallest t.largest a fit.0 in
    let sides = sides_true t b p l s fit.1 in
    record { table = all.0; ante_low = ante.0; ante_high = ante.1; board = sides.0; pocket = sides.1; lo = sides.2; six = sides.3 }

of_wagered : (t : Table) (w : Wagers) (k : ℕ) → Wagered t w k → (has_table t && wagers_fit t w k) ≡ true
unfolding wagers_fit
of_wagered t w k g =
    let a = get_or w.antes k 0 in
    let b = get_or w.board k 0 in
    let p = get_or w.pocket k 0 in
    let l = get_or w.lo k 0 in
    let s = get_or w.six k 0 in
    both (has_table t) (ante_fits t a && sides_fit t b p l s) g.table
    (both (ante_fits t a) (sides_fit t b p l s) (is_between t.smallest t.largest a g.ante_low g.ante_high)
    (sides_fit_lem t b p l s g.board g.pocket g.lo g.six))

-- ---- the test of all seats, at each of them

seat_of_lem : (t : Table) (w : Wagers) → seats_fit t w ≡ true → (k : ℕ) → k < 7 → seat_fits t w k ≡ true
unfolding seats_fit
seat_of_lem t w e k h = every_at (seat_fits t w) 7 e k h

seats_of : (t : Table) (w : Wagers) → ((k : ℕ) → k < 7 → seat_fits t w k ≡ true) → seats_fit t w ≡ true
unfolding seats_fit
seats_of t w h = every_of_lem (seat_fits t w) 7 h

fits_none : (t : Table) (w : Wagers) (k : ℕ) → no_wager w k ≡ true → seat_fits t w k ≡ true
fits_none t w k e = first_holds (no_wager w k) (has_table t && wagers_fit t w k) e

fits_wagered : (t : Table) (w : Wagers) (k : ℕ) → Wagered t w k → seat_fits t w k ≡ true
fits_wagered t w k g = second_holds (no_wager w k) (has_table t && wagers_fit t w k) (of_wagered t w k g)

-- a seat that fits has wagered nothing, or within the limits
either : (A : Type 0) (t : Table) (w : Wagers) (k : ℕ) → k < 7 → seats_fit t w ≡ true → (no_wager w k ≡ true → A) → (Wagered t w k → A) → A
either A t w k h e none some = go (no_wager w k) refl
  where
    go : (b : Bool) → no_wager w k ≡ b → A
    go true q = none q
    go false q = some (to_wagered t w k (other_holds (no_wager w k) (has_table t && wagers_fit t w k) (seat_of_lem t w e k h) q))

pub wagered : (t : Table) (w : Wagers) (k : ℕ) → k < 7 → seats_fit t w ≡ true → plays w.antes k ≡ true → Wagered t w k
wagered t w k h e p =
    either (Wagered t w k) t w k h e
    (λ z. absurd (omega (arith, positive (get_or w.antes k 0) p, (absent_zero w k z).0)))
    (λ g. g)

-- a seat with no ante has no wager
pub absent : (t : Table) (w : Wagers) (k : ℕ) → k < 7 → seats_fit t w ≡ true → plays w.antes k ≡ false → no_wager w k ≡ true
absent t w k h e p =
    let zero : get_or w.antes k 0 ≡ 0 = eqb-true (get_or w.antes k 0) 0 (not-false (eqb (get_or w.antes k 0) 0) p) in
    either (no_wager w k ≡ true) t w k h e (λ z. z)
    (λ g. absurd (omega (arith, positive t.smallest g.table, g.ante_low)))

-- whether a seat plays or not, no wager is above the largest ante
pub wagers_most : (t : Table) (w : Wagers) (k : ℕ) → k < 7 → seats_fit t w ≡ true
    → (get_or w.antes k 0 ≤ t.largest) × (get_or w.board k 0 ≤ t.largest) × (get_or w.pocket k 0 ≤ t.largest) × (get_or w.lo k 0 ≤ t.largest) × (get_or w.six k 0 ≤ t.largest)
wagers_most t w k h e =
    either _ t w k h e
    (λ z. let n = absent_zero w k z in (omega (arith, n.0), omega (arith, n.1), omega (arith, n.2), omega (arith, n.3), omega (arith, n.4)))
    (λ g. (g.ante_high, g.board, g.pocket, g.lo, omega (arith, g.six, most-six t)))

pub seats_need_table : (t : Table) (w : Wagers) → seats_fit t w ≡ true → any_plays w.antes ≡ true → has_table t ≡ true
unfolding any_plays
seats_need_table t w e p =
    let s = some_where (plays w.antes) 7 p in
    (wagered t w s.0 s.1 e s.2).table

-- before the table nobody has wagered, which suits every table
pub seats_before_table : (t u : Table) (w : Wagers) → has_table t ≡ false → seats_fit t w ≡ true → seats_fit u w ≡ true
seats_before_table t u w n e =
    seats_of u w λ k h.
    either (seat_fits u w k ≡ true) t w k h e (fits_none u w k) (λ g. clash (has_table t) g.table n)

pub seats_fresh : (t : Table) → seats_fit t no_wagers ≡ true
unfolding no_wager
seats_fresh t = seats_of t no_wagers (λ k h. fits_none t no_wagers k (simp (zeros_at 7 k)))

-- ---- an accepted seat record

pub record AllowedSeat (t : Table) (w : Wagers) (b : List ℕ) : Type 0 where
  pub zeros : zero_from 12 b ≡ true
  pub low : 1 ≤ byte b 1
  pub high : byte b 1 ≤ 7
  pub above : is_above w.antes (byte b 1) ≡ true
  pub ante_low : t.smallest ≤ word b 2
  pub ante_high : word b 2 ≤ t.largest
  pub board : word b 4 ≤ t.largest
  pub pocket : word b 6 ≤ t.largest
  pub lo : word b 8 ≤ t.largest
  pub six : word b 10 ≤ most_six t

pub seat_accepted : (t : Table) (w : Wagers) (b : List ℕ) → seat_refusal t w b ≡ 0 → AllowedSeat t w b
unfolding seat_refusal
seat_accepted t w b e =
    let n4 = passed (zero_from 12 b) _ _ e in
    let n7 = passed (between 1 7 (byte b 1) && is_above w.antes (byte b 1)) _ _ n4.1 in
    let n8 = passed (ante_fits t (word b 2)) _ _ n7.1 in
    let n9 = passed (sides_fit t (word b 4) (word b 6) (word b 8) (word b 10)) _ _ n8.1 in
    let seat = and_true (between 1 7 (byte b 1)) (is_above w.antes (byte b 1)) n7.0 in
    let number = between_true 1 7 (byte b 1) seat.0 in
    let ante = between_true t.smallest t.largest (word b 2) n8.0 in
    let sides = sides_true t (word b 4) (word b 6) (word b 8) (word b 10) n9.0 in
    record {
      zeros = n4.0;
      low = number.0;
      high = number.1;
      above = seat.1;
      ante_low = ante.0;
      ante_high = ante.1;
      board = sides.0;
      pocket = sides.1;
      lo = sides.2;
      six = sides.3;
    }

module _ (t : Table) (w : Wagers) (b : List ℕ) (e : seat_refusal t w b ≡ 0) where
  pub seat_here : place (byte b 1) < 7
  seat_here = let f = seat_accepted t w b e in omega arith

  -- from its place on nobody has an ante, since its number is above that of each seat with one
  pub seat_free : (k : ℕ) → place (byte b 1) ≤ k → k < 7 → plays w.antes k ≡ false
  unfolding is_above
  seat_free k h m =
      let f = seat_accepted t w b e in
      let l = le-leb (byte b 1) (k + 1) (omega (arith, f.low)) in
      let n = not-true _ (every_at (is_lower w.antes (byte b 1)) 7 f.above k m) in
      is_false (plays w.antes k) λ q.
      clash (plays w.antes k && leb (byte b 1) (k + 1)) (both (plays w.antes k) (leb (byte b 1) (k + 1)) q l) n

  pub seat_put : (l : List ℕ) (v : ℕ) → length l ≡ 7 → get_or (set l (place (byte b 1)) v) (place (byte b 1)) 0 ≡ v
  seat_put l v h = get_or-set_same l (place (byte b 1)) v 0 (omega (arith, seat_here))

module _ (t : Table) (w : Wagers) (b : List ℕ) (seven : Seven w) (table : has_table t ≡ true) (e : seat_refusal t w b ≡ 0) where
  at_seat : Wagered t (with_seat w b) (place (byte b 1))
  at_seat =
      let f = seat_accepted t w b e in
      let a = seat_put t w b e w.antes (word b 2) seven.antes in
      let d = seat_put t w b e w.board (word b 4) seven.board in
      let p = seat_put t w b e w.pocket (word b 6) seven.pocket in
      let l = seat_put t w b e w.lo (word b 8) seven.lo in
      let s = seat_put t w b e w.six (word b 10) seven.six in
      record { table = table; ante_low = omega arith; ante_high = omega arith; board = omega arith; pocket = omega arith; lo = omega arith; six = omega arith }

  elsewhere : (k : ℕ) → (k ≡ place (byte b 1) → ⊥) → seat_fits t w k ≡ true → seat_fits t (with_seat w b) k ≡ true
  unfolding no_wager wagers_fit
  elsewhere k n f =
      let p = place (byte b 1) in
      simp (
        get_or-set_other w.antes p k (word b 2) 0 n,
        get_or-set_other w.board p k (word b 4) 0 n,
        get_or-set_other w.pocket p k (word b 6) 0 n,
        get_or-set_other w.lo p k (word b 8) 0 n,
        get_or-set_other w.six p k (word b 10) 0 n,
      ) f

  pub seat_plays : plays (with_seat w b).antes (place (byte b 1)) ≡ true
  seat_plays =
      let g = at_seat in
      not_zero (get_or (with_seat w b).antes (place (byte b 1)) 0) (omega (arith, positive t.smallest table))

  pub seat_taken : tally 7 (plays (with_seat w b).antes) ≡ tally 7 (plays w.antes) + 1
  seat_taken =
      let p = place (byte b 1) in
      let h = seat_here t w b e in
      tally_one_more 7 p (plays w.antes) (plays (with_seat w b).antes) h (seat_free t w b e p (omega arith) h) seat_plays
      λ k n. ap (λ (x : ℕ). not (eqb x 0)) (sym (get_or-set_other w.antes p k (word b 2) 0 n))

  kept : seats_fit t w ≡ true → seats_fit t (with_seat w b) ≡ true
  kept fit = seats_of t (with_seat w b) (λ k h. go k h (eqb k (place (byte b 1))) refl)
    where
      go : (k : ℕ) → k < 7 → (same : Bool) → eqb k (place (byte b 1)) ≡ same → seat_fits t (with_seat w b) k ≡ true
      go k h true q =
          subst (λ (j : ℕ). seat_fits t (with_seat w b) j ≡ true) (sym (eqb-true k (place (byte b 1)) q))
          (fits_wagered t (with_seat w b) (place (byte b 1)) at_seat)
      go k h false q = elsewhere k (eqb-false k (place (byte b 1)) q) (seat_of_lem t w fit k h)

-- each accepted record keeps the wagers fit
pub seat_kept : (t : Table) (w : Wagers) (b : List ℕ) → Seven w → has_table t ≡ true → seats_fit t w ≡ true → seat_refusal t w b ≡ 0
    → seats_fit t (with_seat w b) ≡ true
seat_kept t w b seven table fit e = kept t w b seven table e fit

pub none_seated : tally 7 (plays no_wagers.antes) ≡ 0
unfolding tally
none_seated = refl
