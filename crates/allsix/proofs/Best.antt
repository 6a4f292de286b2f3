-- The best name of the six choices: none is higher, and it is one of them.
-- Assumes nothing.
use Prim.Native.Nat.{ℕ, zero, suc, ◌≤◌, ◌<◌}
use mathlib.Core.Path.{◌≡◌, refl}
use mathlib.Core.Bool.{Bool, true, false}
use mathlib.Core.List.{List}
use native.Mathlib.Omega.{arith}
use lib.Dec.{leb}
use borrow.Author.Tests.{leb-true, leb-false}
use Rattle.std.specs.Prelude.{if◌then◌else◌}
use Rattle.counting.proofs.Ranges.{below_suc}
use Rattle.names.specs.declared.FiveName.{FiveName}
use Rattle.names.specs.Five.{name_five, five_place}
use Rattle.allsix.specs.Six.{without, higher, best_up_to, best_of_six}

-- a name that is the best where a card up to place n is left out
record Best (n : ℕ) (cs : List ℕ) (best : FiveName) : Type 0 where
  out : ℕ
  within : out ≤ n
  chosen : best ≡ name_five (without out cs)
  highest : (k : ℕ) → k ≤ n → five_place best ≤ five_place (name_five (without k cs))

best_up_to_lem : (n : ℕ) (cs : List ℕ) → Best n cs (best_up_to n cs)
unfolding best_up_to higher
best_up_to_lem zero cs =
    record {
      out = 0;
      within = omega arith;
      chosen = refl;
      highest = λ k h. let e : k ≡ 0 = omega arith in rw e (omega arith);
    }
best_up_to_lem (suc n) cs = go (leb (five_place (name_five (without (suc n) cs))) (five_place (best_up_to n cs))) refl (best_up_to_lem n cs)
  where
    next : FiveName
    next = name_five (without (suc n) cs)

    go : (b : Bool) → leb (five_place next) (five_place (best_up_to n cs)) ≡ b → Best n cs (best_up_to n cs) → Best (suc n) cs (if b then next else best_up_to n cs)
    go true e r =
        let high : five_place next ≤ five_place (best_up_to n cs) = leb-true _ _ e in
        record {
          out = suc n;
          within = omega arith;
          chosen = refl;
          highest = λ k h. below_suc (λ i. five_place next ≤ five_place (name_five (without i cs))) (suc n) k (omega arith) (omega arith) (λ l. let m = r.highest k (omega arith) in omega arith);
        }
    go false e r =
        let low : five_place (best_up_to n cs) < five_place next = leb-false _ _ e in
        record {
          out = r.out;
          within = let m = r.within in omega arith;
          chosen = r.chosen;
          highest = λ k h. below_suc (λ i. five_place (best_up_to n cs) ≤ five_place (name_five (without i cs))) (suc n) k (omega arith) (omega arith) (λ l. r.highest k (omega arith));
        }

module _ (cs : List ℕ) where
  -- no five of the six have a higher name
  pub best_is_best : (k : ℕ) → k < 6 → five_place (best_of_six cs) ≤ five_place (name_five (without k cs))
  best_is_best k h = (best_up_to_lem 5 cs).highest k (omega arith)

  -- and some have this one
  pub best_is_one : (k : ℕ) × (k < 6) × (best_of_six cs ≡ name_five (without k cs))
  best_is_one = let b = best_up_to_lem 5 cs in let w = b.within in (b.out, omega arith, b.chosen)
