-- Two neighbouring choices of different seats on one street, swapped, lead to the same round.
-- Assumes nothing.
use Prim.Native.Nat.{ℕ, ◌<◌}
use mathlib.Core.Path.{◌≡◌, refl, ap, sym, subst, ◌∙◌}
use mathlib.Core.Bool.{true}
use mathlib.Core.List.{List, ◌∷◌}
use native.Mathlib.Omega.{arith}
use lib.ListN.{length}
use Rattle.records.specs.Bytes.{byte}
use Rattle.choosing.specs.Streets.{streets_over}
use Rattle.choosing.specs.Choice.{choice_refusal, with_choice}
use Rattle.choosing.proofs.Swap.{swap-first, swap_street, swap-second, swap_play}
use Rattle.round.specs.declared.Round.{Round}
use Rattle.round.specs.Feed.{feed, with_play}
use Rattle.led.specs.Led.{is_taken, Leads}
use Rattle.led.specs.Led.Leads.{then}
use Rattle.led.specs.Records.{street_of}
use Rattle.led.proofs.Took.{Took, took, choice_none, choice_next}
use Rattle.led.proofs.Took.Took.{table, seat, part, choice}
use Rattle.led.proofs.Leading.{join, one}

-- what an accepted choice has passed, and the round with it
record Chose (r : Round) (b : List ℕ) (s : Round) : Type 0 where
  long : length b ≡ 16
  dealt : r.deck.parts ≡ 4
  street : street_of r < 3
  none : choice_refusal r.wagers.antes r.play b ≡ 0
  round : s ≡ with_play r (with_choice r.wagers.antes r.play b)

of_kind : (r : Round) (b : List ℕ) (s : Round) → length b ≡ 16 → byte b 0 ≡ 4 → Took r b s → Chose r b s
of_kind r b s l four (table k h e) = absurd (omega arith)
of_kind r b s l four (seat k h z e) = absurd (omega arith)
of_kind r b s l four (part k p h e) = absurd (omega arith)
of_kind r b s l four (choice k d o e) = record { long = l; dealt = d; street = o; none = e; round = refl }

chose : (r : Round) (b : List ℕ) → byte b 0 ≡ 4 → is_taken (feed r b).answer ≡ true → Chose r b (feed r b).round
chose r b four a = let t = took r b a in of_kind r b (feed r b).round t.0 four t.1

pub swap_neighbours : {r s : Round} {l : List (List ℕ)} (b c : List ℕ) → byte b 0 ≡ 4 → byte c 0 ≡ 4 → (byte b 1 ≡ byte c 1 → ⊥)
    → street_of (feed r b).round ≡ street_of r → Leads r (b ∷ c ∷ l) s → Leads r (c ∷ b ∷ l) s
swap_neighbours {r} {s} {l} b c kb kc differ same (then _ hb ab (then _ hc ac rest)) =
    let antes = r.wagers.antes in
    let p = r.play in
    let first = chose r b kb ab in
    let q = with_play r (with_choice antes p b) in
    let second = chose q c kc (subst (λ (x : Round). is_taken (feed x c).answer ≡ true) first.round ac) in
    let on : streets_over antes (with_choice antes p b) ≡ streets_over antes p = ap street_of (sym first.round) ∙ same in
    let none = swap-first antes p b c first.none first.street on second.none differ in
    let street = swap_street antes p b c first.none first.street on second.none differ in
    let other = swap-second antes p b c first.none first.street on second.none differ in
    let play = swap_play antes p b c first.none first.street on second.none differ in
    let middle = with_play r (with_choice antes p c) in
    let after = with_play r (with_choice antes (with_choice antes p b) c) in
    let end : (feed (feed r b).round c).round ≡ after = ap (λ (x : Round). (feed x c).round) first.round ∙ second.round in
    let open' : streets_over antes (with_choice antes p c) < 3 = omega (arith, street, first.street) in
    join
    (one r middle c hc (choice_none r c second.long kc first.dealt first.street none) (choice_next r c second.long kc))
    (join
    (one middle after b hb (choice_none middle b first.long kb first.dealt open' other) (choice_next middle b first.long kb ∙ ap (with_play r) play))
    (subst (λ (x : Round). Leads x l s) end rest))
