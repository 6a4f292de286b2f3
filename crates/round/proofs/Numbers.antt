-- What feeding answers, by the record's refusal: the answer's number is the refusal's, and with none the round is the next one. No record's
-- refusal is above 15.
-- Assumes nothing.
use Prim.Native.Nat.{ℕ, ◌≤◌}
use mathlib.Core.Path.{◌≡◌, refl, ap, ◌∙◌}
use mathlib.Core.Bool.{Bool, true, false, not}
use mathlib.Core.List.{List}
use lib.Dec.{leb}
use borrow.Author.Tests.{eq-eqb, leb-true}
use Rattle.std.specs.Prelude.{if◌then◌else◌}
use Rattle.counting.proofs.Answers.{by_number}
use Rattle.seating.specs.Table.{table_refusal}
use Rattle.seating.specs.Seat.{seat_refusal}
use Rattle.dealing.specs.Part.{part_refusal}
use Rattle.choosing.specs.Choice.{choice_refusal}
use Rattle.round.specs.declared.Round.{Round}
use Rattle.round.specs.declared.Step.{Step}
use Rattle.round.specs.declared.Answer.TheVariants.{Next, Finished}
use Rattle.round.specs.Order.{is_finished}
use Rattle.round.specs.Feed.{kind_refusal, refusal, next, refused, accepted, feed, number_of}

pub on_or_finished : (t : Bool) → ◌≡◌ {A = ℕ} (number_of (if t then Finished else Next)) 0
on_or_finished true = refl
on_or_finished false = refl

pub feed_number : (r : Round) (b : List ℕ) → number_of (feed r b).answer ≡ refusal r b
unfolding feed
feed_number r b =
    by_number (refusal r b) (λ none. if not none then refused (refusal r b) r else accepted (next r b)) (λ s. number_of s.answer) (on_or_finished (is_finished (next r b))) refl

-- what is promised of an answer
pub promised : (r : Round) (b : List ℕ) (s : Step) → s ≡ feed r b → record { answer : s ≡ feed r b; number : number_of s.answer ≡ refusal r b }
promised r b s e = record { answer = e; number = ap (λ s. number_of s.answer) e ∙ feed_number r b }

pub feed-next : (r : Round) (b : List ℕ) → refusal r b ≡ 0 → (feed r b).round ≡ next r b
unfolding feed
feed-next r b e = simp (eq-eqb (refusal r b) 0 e)

-- ---- the numbers of a record's refusals

-- each number that a test chooses is at most 15, and so is the one chosen
either : (t : Bool) (a b : ℕ) → leb a 15 ≡ true → leb b 15 ≡ true → leb (if t then a else b) 15 ≡ true
either true a b p q = p
either false a b p q = q

-- a record is never refused by more than 15
pub refusal-most : (r : Round) (b : List ℕ) → refusal r b ≤ 15
unfolding refusal kind_refusal table_refusal seat_refusal part_refusal choice_refusal
refusal-most r b = leb-true (refusal r b) 15 (search either depth 12)
