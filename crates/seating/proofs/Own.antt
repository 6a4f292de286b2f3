-- The seats of a round, written again one by one, lead to them: the record of each seat that plays is accepted after those before it.
-- Assumes nothing.
use Prim.Native.Nat.{ℕ, ◌+◌, ◌*◌, ◌-◌, ◌<◌}
use mathlib.Core.Path.{◌≡◌, refl, sym}
use mathlib.Core.Bool.{Bool, true, false, not, ◌&&◌, and-false}
use mathlib.Core.List.{List}
use native.Mathlib.Omega.{arith}
use lib.Dec.{leb, ltb}
use lib.ListN.{get_or, set}
use borrow.Author.Tests.{lt-ltb, lt-leb, ltb-true, ltb-false}
use Rattle.counting.specs.Count.{every_of}
use Rattle.records.specs.Bytes.{word, zero_from, are_bytes, between}
use Rattle.records.specs.Seats.{place, plays}
use Rattle.counting.proofs.Tests.{both, pass}
use Rattle.counting.proofs.Ranges.{every_of_lem}
use Rattle.counting.proofs.Firsts.{firsts, firsts_out, firsts_more, firsts_skip, firsts_all, firsts_none}
use Rattle.seating.specs.declared.Table.{Table}
use Rattle.seating.specs.declared.Wagers.{Wagers}
use Rattle.seating.specs.Table.{table_fits}
use Rattle.seating.specs.Seat.{ante_fits, sides_fit, is_above, seat_refusal, with_seat, no_wagers, seats_fit, seat_record}
use Rattle.records.proofs.Betweens.{is_between}
use Rattle.seating.proofs.Tables.{table_high}
use Rattle.seating.proofs.Seats.{Seven, wagered, absent, absent_zero, sides_fit_lem, most-six}

-- the wagers of the first n places, zeros from there
unfoldable pub first_seats : ℕ → Wagers → Wagers
first_seats n w = record { antes = firsts n w.antes; board = firsts n w.board; pocket = firsts n w.pocket; lo = firsts n w.lo; six = firsts n w.six }

same_wagers : {a b p l s c d q m u : List ℕ} → a ≡ c → b ≡ d → p ≡ q → l ≡ m → s ≡ u
    → ◌≡◌ {A = Wagers} (record { antes = a; board = b; pocket = p; lo = l; six = s }) (record { antes = c; board = d; pocket = q; lo = m; six = u })
same_wagers e f g h j i = record { antes = e i; board = f i; pocket = g i; lo = h i; six = j i }

pub seats_none : (w : Wagers) → Seven w → first_seats 0 w ≡ no_wagers
unfolding first_seats
seats_none w s =
    same_wagers (firsts_none 7 w.antes s.antes) (firsts_none 7 w.board s.board) (firsts_none 7 w.pocket s.pocket)
    (firsts_none 7 w.lo s.lo) (firsts_none 7 w.six s.six)

pub seats_all : (w : Wagers) → Seven w → first_seats 7 w ≡ w
unfolding first_seats
seats_all w s =
    same_wagers (firsts_all 7 w.antes s.antes) (firsts_all 7 w.board s.board) (firsts_all 7 w.pocket s.pocket)
    (firsts_all 7 w.lo s.lo) (firsts_all 7 w.six s.six)

-- a place without a wager changes nothing
pub own_absent : (t : Table) (w : Wagers) (n : ℕ) → n < 7 → seats_fit t w ≡ true → plays w.antes n ≡ false
    → first_seats (n + 1) w ≡ first_seats n w
unfolding first_seats
own_absent t w n h e p =
    let z = absent_zero w n (absent t w n h e p) in
    same_wagers (firsts_skip n w.antes z.0) (firsts_skip n w.board z.1) (firsts_skip n w.pocket z.2) (firsts_skip n w.lo z.3)
    (firsts_skip n w.six z.4)

-- ---- the record of a seat, among the seats before it

-- the seat's number is above theirs
own_above : (antes : List ℕ) (n : ℕ) → is_above (firsts n antes) (n + 1) ≡ true
unfolding is_above
own_above antes n = every_of_lem (λ k. not (plays (firsts n antes) k && leb (n + 1) (k + 1))) 7 (λ k h. go k (ltb k n) refl)
  where
    go : (k : ℕ) (t : Bool) → ltb k n ≡ t → not (plays (firsts n antes) k && leb (n + 1) (k + 1)) ≡ true
    go k true q = let l = ltb-true k n q in simp (lt-leb (n + 1) (k + 1) (omega arith), and-false)
    go k false q = simp (firsts_out n antes k (ltb-false k n q))

-- a two-byte number whose high byte is zero
low_byte : (x : ℕ) → x + 256 * 0 ≡ x
low_byte x = omega arith

pub own_seat : (t : Table) (w : Wagers) (n : ℕ) → n < 7 → seats_fit t w ≡ true → plays w.antes n ≡ true
    → seat_refusal t (first_seats n w) (seat_record w n) ≡ 0
unfolding seat_refusal seat_record first_seats zero_from every_of
own_seat t w n h e p =
    let g = wagered t w n h e p in
    let b = seat_record w n in
    let within = is_between 1 7 (n + 1) (omega arith) (omega arith) in
    let number = both (between 1 7 (n + 1)) (is_above (firsts n w.antes) (n + 1)) within (own_above w.antes n) in
    let ante = is_between t.smallest t.largest (word b 2) (omega arith) (omega arith) in
    let sides = sides_fit_lem t (word b 4) (word b 6) (word b 8) (word b 10) (omega arith) (omega arith) (omega arith) (omega arith) in
    pass (between 1 7 (n + 1) && is_above (firsts n w.antes) (n + 1)) _ _ number
    (pass (ante_fits t (word b 2)) _ _ ante (pass (sides_fit t (word b 4) (word b 6) (word b 8) (word b 10)) _ _ sides refl))

put : (l : List ℕ) (n : ℕ) → set (firsts n l) (place (n + 1)) (get_or l n 0 + 256 * 0) ≡ firsts (n + 1) l
put l n =
    let q : (n + 1) - 1 ≡ n = omega arith in
    rw (q, low_byte (get_or l n 0)) (sym (firsts_more n l))

pub own_seat_next : (w : Wagers) (n : ℕ) → n < 7 → with_seat (first_seats n w) (seat_record w n) ≡ first_seats (n + 1) w
unfolding seat_record first_seats
own_seat_next w n h = same_wagers (put w.antes n) (put w.board n) (put w.pocket n) (put w.lo n) (put w.six n)

pub own_seat_bytes : (t : Table) (w : Wagers) (n : ℕ) → n < 7 → table_fits t ≡ true → seats_fit t w ≡ true → plays w.antes n ≡ true
    → are_bytes (seat_record w n) ≡ true
unfolding are_bytes seat_record every_of
own_seat_bytes t w n h f e p =
    let g = wagered t w n h e p in
    let m = (table_high t f).1 in
    simp (
      lt-ltb (n + 1) 256 (omega arith),
      lt-ltb (get_or w.antes n 0) 256 (omega arith),
      lt-ltb (get_or w.board n 0) 256 (omega arith),
      lt-ltb (get_or w.pocket n 0) 256 (omega arith),
      lt-ltb (get_or w.lo n 0) 256 (omega arith),
      lt-ltb (get_or w.six n 0) 256 (omega (arith, most-six t)),
    )
