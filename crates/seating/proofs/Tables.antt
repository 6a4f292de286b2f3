-- A table that fits, in numbers: what an accepted table record leaves, and the record of a table that fits, which is accepted
-- and says that table.
-- Assumes nothing.
use Prim.Native.Nat.{ℕ, ◌≤◌, ◌<◌}
use mathlib.Core.Path.{◌≡◌, refl}
use mathlib.Core.Bool.{Bool, true, false, ◌&&◌}
use mathlib.Core.List.{List}
use native.Mathlib.Omega.{arith}
use lib.Dec.{eqb, leb}
use borrow.Author.Tests.{eqb-true, leb-true, lt-ltb, not-false}
use Rattle.counting.specs.Count.{every_of}
use Rattle.records.specs.Bytes.{byte, zero_from, are_bytes, between}
use Rattle.counting.proofs.Tests.{and_true, both, second_holds, other_holds, positive, not_zero, passed, pass}
use Rattle.seating.specs.declared.Table.{Table}
use Rattle.seating.specs.Table.{limits_fit, tables_fit, table_of, table_refusal, no_table, has_table, is_blank, table_fits, table_record}
use Rattle.records.proofs.Betweens.{between_true}

-- ---- the numbers of a table

pub record Posted (t : Table) : Type 0 where
  pub smallest_low : 5 ≤ t.smallest
  pub smallest_high : t.smallest ≤ 15
  pub largest_low : 25 ≤ t.largest
  pub largest_high : t.largest ≤ 100
  pub base_low : 1 ≤ t.base
  pub base_high : t.base ≤ 5
  pub lo_low : 1 ≤ t.lo
  pub lo_high_lem : t.lo ≤ 2
  pub board_low : 1 ≤ t.board
  pub board_high : t.board ≤ 4
  pub pocket_low : 1 ≤ t.pocket
  pub pocket_high : t.pocket ≤ 3
  pub six_high : t.six ≤ 5

fit_posted : (t : Table) → limits_fit t ≡ true → tables_fit t ≡ true → Posted t
unfolding limits_fit tables_fit
fit_posted t e f =
    let limits = and_true (between 5 15 t.smallest) (between 25 100 t.largest) e in
    let tables = and_true (between 1 5 t.base && between 1 2 t.lo) ((between 1 4 t.board && between 1 3 t.pocket) && leb t.six 5) f in
    let last = and_true (between 1 4 t.board && between 1 3 t.pocket) (leb t.six 5) tables.1 in
    let first = and_true (between 1 5 t.base) (between 1 2 t.lo) tables.0 in
    let second = and_true (between 1 4 t.board) (between 1 3 t.pocket) last.0 in
    let six = leb-true t.six 5 last.1 in
    let smallest = between_true 5 15 t.smallest limits.0 in
    let largest = between_true 25 100 t.largest limits.1 in
    let base = between_true 1 5 t.base first.0 in
    let lo = between_true 1 2 t.lo first.1 in
    let board = between_true 1 4 t.board second.0 in
    let pocket = between_true 1 3 t.pocket second.1 in
    omega arith

-- no number is filled
record Blank (t : Table) : Type 0 where
  smallest : t.smallest ≡ 0
  largest : t.largest ≡ 0
  base : t.base ≡ 0
  lo : t.lo ≡ 0
  board : t.board ≡ 0
  pocket : t.pocket ≡ 0
  six : t.six ≡ 0

is_blank_lem : (t : Table) → is_blank t ≡ true → Blank t
unfolding is_blank
is_blank_lem t e =
    let limits = eqb t.smallest 0 && eqb t.largest 0 in
    let first = eqb t.base 0 && eqb t.lo 0 in
    let second = eqb t.board 0 && eqb t.pocket 0 in
    let p = and_true (limits && first) (second && eqb t.six 0) e in
    let r = and_true second (eqb t.six 0) p.1 in
    let q = and_true limits first p.0 in
    let a = and_true (eqb t.smallest 0) (eqb t.largest 0) q.0 in
    let b = and_true (eqb t.base 0) (eqb t.lo 0) q.1 in
    let c = and_true (eqb t.board 0) (eqb t.pocket 0) r.0 in
    record {
      smallest = eqb-true t.smallest 0 a.0;
      largest = eqb-true t.largest 0 a.1;
      base = eqb-true t.base 0 b.0;
      lo = eqb-true t.lo 0 b.1;
      board = eqb-true t.board 0 c.0;
      pocket = eqb-true t.pocket 0 c.1;
      six = eqb-true t.six 0 r.1;
    }

-- what holds of a blank table and of a posted one holds of a table that fits
either : (P : Table → Type 0) (t : Table) → table_fits t ≡ true → (Blank t → P t) → (limits_fit t ≡ true → tables_fit t ≡ true → P t) → P t
unfolding table_fits
either P t e blank fit = go (is_blank t) refl
  where
    go : (b : Bool) → is_blank t ≡ b → P t
    go true q = blank (is_blank_lem t q)
    go false q = let p = and_true (limits_fit t) (tables_fit t) (other_holds (is_blank t) (limits_fit t && tables_fit t) e q) in fit p.0 p.1

pub posted : (t : Table) → table_fits t ≡ true → has_table t ≡ true → Posted t
posted t e h = either Posted t e (λ b. let z : t.smallest ≡ 0 = b.smallest in absurd (omega (arith, positive t.smallest h))) (fit_posted t)

pub no_table_lem : (t : Table) → table_fits t ≡ true → has_table t ≡ false → t ≡ no_table
no_table_lem t e h =
    either (λ (u : Table). u ≡ no_table) t e
    (λ b i. record { smallest = b.smallest i; largest = b.largest i; base = b.base i; lo = b.lo i; board = b.board i; pocket = b.pocket i; six = b.six i })
    (λ l f. absurd (omega (arith, fit_posted t l f, eqb-true t.smallest 0 (not-false (eqb t.smallest 0) h))))

pub table_high : (t : Table) → table_fits t ≡ true → (t.smallest ≤ 15) × (t.largest ≤ 100)
table_high t e =
    either (λ (u : Table). (u.smallest ≤ 15) × (u.largest ≤ 100)) t e
    (λ b. (omega arith, omega arith))
    (λ l f. let p = fit_posted t l f in (p.smallest_high, p.largest_high))

pub table_fresh : table_fits no_table ≡ true
unfolding table_fits is_blank
table_fresh = refl

-- ---- an accepted table record

record Accepted (b : List ℕ) : Type 0 where
  zeros : zero_from 8 b ≡ true
  limits : limits_fit (table_of b) ≡ true
  tables : tables_fit (table_of b) ≡ true

accepted : (b : List ℕ) → table_refusal b ≡ 0 → Accepted b
unfolding table_refusal
accepted b e =
    let n4 = passed (zero_from 8 b) _ _ e in
    let n5 = passed (limits_fit (table_of b)) _ _ n4.1 in
    let n6 = passed (tables_fit (table_of b)) _ _ n5.1 in
    record { zeros = n4.0; limits = n5.0; tables = n6.0 }

pub table_accepted : (b : List ℕ) → table_refusal b ≡ 0 → (zero_from 8 b ≡ true) × Posted (table_of b)
table_accepted b e = let a = accepted b e in (a.zeros, fit_posted (table_of b) a.limits a.tables)

pub table_kept : (b : List ℕ) → table_refusal b ≡ 0 → table_fits (table_of b) ≡ true
unfolding table_fits
table_kept b e =
    let a = accepted b e in
    let t = table_of b in
    second_holds (is_blank t) (limits_fit t && tables_fit t) (both (limits_fit t) (tables_fit t) a.limits a.tables)

pub table_read : (b : List ℕ) → table_refusal b ≡ 0 → has_table (table_of b) ≡ true
table_read b e = not_zero (byte b 1) (omega (arith, (table_accepted b e).1))

-- ---- the record of a table

pub own_table_is : (t : Table) → table_of (table_record t) ≡ t
unfolding table_record
own_table_is t = refl

pub own_table : (t : Table) → table_fits t ≡ true → has_table t ≡ true → table_refusal (table_record t) ≡ 0
unfolding table_refusal table_record zero_from every_of
own_table t e h =
    either (λ (u : Table). table_refusal (table_record u) ≡ 0) t e
    (λ b. let z : t.smallest ≡ 0 = b.smallest in absurd (omega (arith, positive t.smallest h)))
    (λ l f. pass (limits_fit t) _ _ l (pass (tables_fit t) _ _ f refl))

-- each number fits in a byte
record Small (t : Table) : Type 0 where
  smallest : t.smallest < 256
  largest : t.largest < 256
  base : t.base < 256
  lo : t.lo < 256
  board : t.board < 256
  pocket : t.pocket < 256
  six : t.six < 256

small : (t : Table) → table_fits t ≡ true → Small t
small t e = either Small t e (λ b. omega arith) (λ l f. let p = fit_posted t l f in omega arith)

pub own_table_bytes : (t : Table) → table_fits t ≡ true → are_bytes (table_record t) ≡ true
unfolding are_bytes table_record every_of
own_table_bytes t e =
    let m = small t e in
    simp (
      lt-ltb t.smallest 256 (omega arith),
      lt-ltb t.largest 256 (omega arith),
      lt-ltb t.base 256 (omega arith),
      lt-ltb t.lo 256 (omega arith),
      lt-ltb t.board 256 (omega arith),
      lt-ltb t.pocket 256 (omega arith),
      lt-ltb t.six 256 (omega arith),
    )
