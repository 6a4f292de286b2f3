-- What the entries promise of an answer, by the number of the hand's refusal: it is refused where that is not 0, and named where it is.
-- Assumes nothing.
use Prim.Native.Nat.{ℕ}
use mathlib.Core.Path.{◌≡◌, refl, sym, ap, ◌∙◌}
use mathlib.Core.Bool.{Bool, true, false}
use mathlib.Core.List.{List, [], ◌∷◌}
use native.Mathlib.Omega.{arith}
use lib.Dec.{eqb}
use lib.ListN.{length, get_or}
use borrow.Author.Tests.{eqb-true, eq-eqb, ne_eqb}
use Rattle.std.specs.Prelude.{Result, Ok, Err, IsErrAnd, if◌then◌else◌}
use Rattle.std.proofs.lemmas.Result.{err_from_is_err_and}
use Rattle.causes.specs.declared.Refusal.{Refusal}
use Rattle.causes.specs.Refusal.{number, cause, number_of, answered}
use Rattle.causes.proofs.Numbers.{cause-number}
use Rattle.counting.specs.Choose.{unless_refused}
use Rattle.counting.specs.Count.{each}
use Rattle.counting.proofs.Gathers.{each_of}
use Rattle.hands.specs.Hand.{hand_refusal}
use Rattle.names.specs.Answer.{values_of}

-- no refusal has the number 0: the refusal of 0 has another
some_number : (refusal : Refusal) → number refusal ≡ 0 → ⊥
some_number refusal e = let same : number (cause 0) ≡ 0 = ap (λ n. number (cause n)) (sym e) ∙ ap number (cause-number refusal) ∙ e in omega arith

-- which answer r is, its number and its values, for cards that have this name
abbrev pub Promised : {Name : Type 0} → (Name → ℕ) → ℕ → Name → Result Name Refusal → Type 0
Promised place n name r = record { answer : r ≡ answered n name; number : number_of r ≡ n; values : values_of place r ≡ unless_refused n (place name ∷ []) }

module _ {Name : Type 0} (place : Name → ℕ) where
  pub refused : (n : ℕ) (name : Name) (r : Result Name Refusal) (refusal : Refusal) → IsErrAnd r (λ x. x ≡ refusal) → number refusal ≡ n → Promised place n name r
  unfolding answered unless_refused
  refused n name r refusal is e =
      let p = err_from_is_err_and r is in
      let some : (n ≡ 0 → ⊥) = λ z. some_number refusal (e ∙ z) in
      let same : cause n ≡ refusal = ap cause (sym e) ∙ cause-number refusal in
      rw (p.1, p.2) (record { answer = simp (ne_eqb n 0 some, same); number = e; values = simp (ne_eqb n 0 some) })

  -- named as what it is
  pub named_whole : (name : List ℕ → Name) (n : ℕ) (cs : List ℕ) → 0 ≡ hand_refusal n cs → (given : Name) → given ≡ name cs
      → Promised place (hand_refusal n cs) (name cs) (Ok given)
  unfolding answered unless_refused
  named_whole name n cs sound given same =
      let none = eq-eqb (hand_refusal n cs) 0 (sym sound) in
      record { answer = simp (none, same); number = sound; values = simp (none, same) }

  -- named by its numbers: a list of n is the n numbers in it
  pub named : (name : List ℕ → Name) (n : ℕ) (cs : List ℕ) → 0 ≡ hand_refusal n cs → length cs ≡ n → (given : Name) → given ≡ name (each n (λ k. get_or cs k 0))
      → Promised place (hand_refusal n cs) (name cs) (Ok given)
  named name n cs sound long given same = named_whole name n cs sound given (same ∙ ap name (sym (each_of cs n long)))

-- one answer to cards of one name, and to cards that are refused, whatever their name
pub answered_same : {Name : Type 0} {x y : Name} (n : ℕ) → (n ≡ 0 → x ≡ y) → answered n x ≡ answered n y
unfolding answered
answered_same {Name} {x} {y} n same = go (eqb n 0) refl
  where
    go : (b : Bool) → eqb n 0 ≡ b → (if b then Ok x else Err (cause n)) ≡ (if b then Ok y else Err (cause n))
    go true e = ap Ok (same (eqb-true n 0 e))
    go false e = refl
