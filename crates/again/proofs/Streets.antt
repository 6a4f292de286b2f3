-- What accepted records are: those that are no choices, then the choices street by street, and these are the own records of the round they lead to,
-- each street's choices in another order. So two files of one round differ only in that order.
-- Assumes nothing.
use Prim.Native.Nat.{ℕ, zero, suc, ◌+◌, ◌*◌, ◌<◌}
use mathlib.Core.Path.{◌≡◌, refl, ap, sym, ◌∙◌}
use mathlib.Core.Bool.{false}
use mathlib.Core.List.{List, [], ◌∷◌, ◌++◌, append_assoc, append-nil}
use native.Mathlib.Omega.{arith}
use lib.Dec.{eqb}
use borrow.Author.Tests.{ne_eqb}
use Rattle.counting.specs.Count.{gather}
use Rattle.counting.specs.Order.{Reordered}
use Rattle.counting.specs.Order.Reordered.{then}
use Rattle.counting.proofs.Firsts.{zeros_at}
use Rattle.counting.proofs.Gathers.{gather_same, gather_none}
use Rattle.counting.proofs.Orders.{equal, back, behind}
use Rattle.choosing.specs.Streets.{has_chosen, no_play}
use Rattle.round.specs.declared.Round.{Round}
use Rattle.round.specs.Order.{fresh_round}
use Rattle.round.specs.Feed.{feed}
use Rattle.led.specs.Led.{Leads}
use Rattle.led.specs.Led.Leads.{done, then as accepts}
use Rattle.led.specs.Records.{only, choice_in, street_records, street_of}
use Rattle.led.proofs.Kept.{Long, Fits, fresh_long, fresh_fits, taken_fits}
use Rattle.again.specs.Again.{no_choices, choices_from, choices_on, by_street, SameButOrder}
use Rattle.again.proofs.Grows.{others_of, Grew, grows}
use Rattle.again.proofs.Grows.Grew.{other, choice}

-- accepted records l that lead from q to r
record Told (q : Round) (l : List (List ℕ)) (r : Round) : Type 0 where
  -- they are the own records of r that q has not yet:
  others : others_of q ++ no_choices l ≡ others_of r
  streets : (s : ℕ) → Reordered (street_records q s ++ choices_from q l s) (street_records r s)
  -- they go street by street;
  ordered : no_choices l ++ gather 3 (choices_from q l) ≡ l
  -- and from a whole deck on there are only choices, none of them on a street before the one that is open
  later : q.deck.parts ≡ 4 → (no_choices l ≡ []) × ((s : ℕ) → s < street_of q → choices_from q l s ≡ [])

-- one more in front, on a street that none is before
in_front : (f : ℕ → List (List ℕ)) (b : List ℕ) (t : ℕ) → t < 3 → ((s : ℕ) → s < t → f s ≡ []) → gather 3 (λ s. only (eqb t s) b ++ f s) ≡ b ∷ gather 3 f
unfolding gather
in_front f b zero h none = refl
in_front f b (suc zero) h none = rw (none 0 (omega arith))
in_front f b (suc (suc zero)) h none = rw (none 0 (omega arith), none 1 (omega arith))
in_front f b (suc (suc (suc t))) h none = absurd (omega arith)

tells_more : (q r : Round) (b : List ℕ) (l : List (List ℕ)) → Grew q b (feed q b).round → Told (feed q b).round l r → Told q (b ∷ l) r
unfolding no_choices choices_from
tells_more q r b l (other c d o p) m =
    record {
      others = rw c (sym (append_assoc (others_of q) (b ∷ []) (no_choices l)) ∙ ap (λ (x : List (List ℕ)). x ++ no_choices l) (sym o) ∙ m.others);
      streets = λ s. rw (c, ← (p s)) (m.streets s);
      ordered = rw (c, gather_same 3 (choices_from q (b ∷ l)) (choices_from (feed q b).round l) (λ s h. rw c))
          (ap (λ (x : List (List ℕ)). b ∷ x) m.ordered);
      later = λ w. absurd (omega arith);
    }
tells_more q r b l (choice c d o same more) m =
    let rest = choices_from (feed q b).round l in
    let n = m.later d.1 in
    let none : (s : ℕ) → s < street_of q → rest s ≡ [] = λ s h. n.1 s (omega arith) in
    record {
      others = rw (c, ← same) m.others;
      streets = λ s.
          rw c
          (then (equal (sym (append_assoc (street_records q s) (only (eqb (street_of q) s) b) (rest s)))) (then (behind (rest s) (more s)) (m.streets s)));
      ordered = rw (c, n.0)
          (gather_same 3 (choices_from q (b ∷ l)) (λ s. only (eqb (street_of q) s) b ++ rest s) (λ s h. rw c)
          ∙ in_front rest b (street_of q) o.0 none
          ∙ ap (λ (x : List (List ℕ)). b ∷ x) (rw n.0 at m.ordered));
      later = λ w. (rw c n.0, λ s h. let off : (street_of q ≡ s → ⊥) = λ z. omega arith in rw (c, ne_eqb (street_of q) s off) (none s h));
    }

tells : {q r : Round} {l : List (List ℕ)} → Leads q l r → Long q → Fits q → Told q l r
unfolding no_choices choices_from gather
tells (done {r}) long fits =
    record { others = append-nil (others_of r); streets = λ s. equal (append-nil (street_records r s)); ordered = refl; later = λ w. (refl, λ s h. refl) }
tells (accepts {r} {s} {l} b h a k) long fits =
    let next = taken_fits r b long fits a in
    tells_more r s b l (grows r b long fits a) (tells k next.0 next.1)

-- ---- from the fresh round, which has no records

no_others : others_of fresh_round ≡ []
unfolding others_of gather
no_others = refl

none-chosen : (s k : ℕ) → has_chosen no_play s k ≡ false
unfolding has_chosen
none-chosen s k = let n : (0 ≡ s + 1 → ⊥) = λ e. omega arith in simp (zeros_at 21 (s * 7 + k), zeros_at 7 k, ne_eqb 0 (s + 1) n)

no_street : (s : ℕ) → street_records fresh_round s ≡ []
no_street s = gather_none 7 (choice_in no_play s) (λ k l. rw (none-chosen s k))

module _ {r : Round} {l : List (List ℕ)} (k : Leads fresh_round l r) where
  told : Told fresh_round l r
  told = tells k fresh_long fresh_fits

  others_of_lem : no_choices l ≡ others_of r
  others_of_lem = rw no_others at told.others

  street_of_lem : (s : ℕ) → Reordered (choices_on l s) (street_records r s)
  street_of_lem s = rw (no_street s) at (told.streets s)

  ordered_of : by_street l ≡ l
  unfolding by_street
  ordered_of = told.ordered

pub same_round : {r : Round} {l m : List (List ℕ)} → Leads fresh_round l r → Leads fresh_round m r → SameButOrder l m
same_round j k =
    record {
      first = ordered_of j;
      second = ordered_of k;
      others = others_of_lem j ∙ sym (others_of_lem k);
      streets = λ s h. then (street_of_lem j s) (back (street_of_lem k s));
    }
