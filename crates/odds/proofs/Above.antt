-- Odds above 50, over the whole base table: a royal flush and a straight flush have them, and nothing else does.
-- Assumes nothing.
use Prim.Native.Nat.{ℕ, ◌+◌, ◌-◌, ◌≤◌}
use mathlib.Core.Path.{◌≡◌, refl}
use mathlib.Core.Bool.{Bool, true, false, beq}
use native.Mathlib.Omega.{arith}
use mathlib.Core.List.{[]}
use lib.Dec.{ltb}
use lib.ListN.{get_or, replicate, get_or-replicate}
use borrow.Author.Tests.{le-leb}
use Rattle.counting.specs.Count.{every_below}
use Rattle.counting.proofs.Ranges.{every_at}
use Rattle.counting.proofs.Tests.{clash}
use Rattle.names.specs.declared.FiveName.{FiveName}
use Rattle.names.specs.declared.FiveName.TheVariants.{RoyalFlush, StraightFlush}
use Rattle.names.specs.Five.{five_place}
use Rattle.names.specs.Top.{is_top}
use Rattle.pays.specs.declared.Pay.{Pay}
use Rattle.pays.specs.declared.Pay.TheVariants.{To, Loss}
use Rattle.odds.specs.Tables.{base_lines}
use Rattle.odds.specs.Pays.{pay_in, pay_at, base_pay}
use Rattle.pays.specs.Amounts.{above_fifty}
use Rattle.names.proofs.Places.{five_below}

same : (a b : Bool) → beq a b ≡ true → a ≡ b
same true true e = refl
same true false e = clash false e refl
same false true e = clash false e refl
same false false e = refl

-- at table t + 1 and a line: above 50 just where the line is one of the first two
agrees : ℕ → ℕ → Bool
agrees t line = beq (above_fifty (pay_at base_lines (t + 1) line)) (ltb line 2)

all_agree : every_below 5 (λ t. every_below 11 (agrees t)) ≡ true
unfolding every_below agrees pay_in base_lines
all_agree = refl

-- of a base table there is, the odds are above 50 just for a royal flush and a straight flush
pub above_fifty_lem : (t : ℕ) (name : FiveName) → 1 ≤ t → t ≤ 5 → above_fifty (base_pay t name) ≡ is_top name
unfolding base_pay agrees
above_fifty_lem t name a b =
    let e : t - 1 + 1 ≡ t = omega arith in
    let row = every_at (λ s. every_below 11 (agrees s)) 5 all_agree (t - 1) (omega arith) in
    let test : agrees (t - 1) (five_place name) ≡ true = every_at (agrees (t - 1)) 11 row (five_place name) (five_below name) in
    rw e at (same (above_fifty (pay_at base_lines (t - 1 + 1) (five_place name))) (is_top name) test)

-- a line of equal odds pays these on every base table
level : (pay : Pay) (line t : ℕ) → get_or base_lines line [] ≡ replicate 5 pay → 1 ≤ t → t ≤ 5 → pay_at base_lines t line ≡ pay
unfolding pay_in
level pay line t e a b = simp (le-leb 1 t a, le-leb t 5 b, e) (get_or-replicate 5 (t - 1) pay Loss (omega arith))

pub royal_pays : (t : ℕ) → 1 ≤ t → t ≤ 5 → base_pay t RoyalFlush ≡ To 500
unfolding base_pay base_lines
royal_pays t = level (To 500) 0 t refl

pub straight_flush_pays : (t : ℕ) → 1 ≤ t → t ≤ 5 → base_pay t StraightFlush ≡ To 100
unfolding base_pay base_lines
straight_flush_pays t = level (To 100) 1 t refl
