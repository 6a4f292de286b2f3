-- An answer that is the test's decides which rounds are held; and the two answers to a record, with their number.
-- Assumes nothing.
use mathlib.Core.Path.{◌≡◌, refl, sym, ap, subst, ◌∙◌}
use mathlib.Core.Bool.{Bool, true, false, not}
use mathlib.Core.List.{List}
use Prim.Native.Nat.{ℕ}
use Rattle.std.specs.Prelude.{if◌then◌else◌}
use Rattle.counting.proofs.Tests.{clash}
use Rattle.round.specs.declared.Round.{Round}
use Rattle.round.specs.declared.Step.{Step}
use Rattle.round.specs.Feed.{refusal, refused, feed, number_of}
use Rattle.round.proofs.Numbers.{feed_number}
use Rattle.led.specs.Held.{is_held}
use Rattle.led.proofs.Kept.{Long, led-held}
use Rattle.led.proofs.Exact.{held-led}
use Rattle.held.specs.Take.{Decides, take_refusal, takes, Taken}

pub decides : (r : Round) (t : Bool) → Long r → t ≡ is_held r → Decides r t
decides r t long e = record { test = e; led = λ h. held-led r long (sym e ∙ h); held = λ l. e ∙ led-held r l }

-- so the test itself does
pub decided : (r : Round) (t : Bool) → Decides r t → Decides r (is_held r)
decided r t d = subst (Decides r) d.test d

pub taken_not : (r : Round) (b : List ℕ) (t : Bool) (s : Step) → Decides r t → t ≡ false → s ≡ refused 17 r → Taken r b s
unfolding takes
taken_not r b t s d e a = record { answer = simp (sym d.test ∙ e) a; led = λ l. clash t (d.held l) e; unled = λ n. a }

pub taken : (r : Round) (b : List ℕ) (t : Bool) (s : Step) → Decides r t → t ≡ true → s ≡ feed r b → Taken r b s
unfolding takes
taken r b t s d e a = record { answer = simp (sym d.test ∙ e) a; led = λ l. a; unled = λ n. absurd (n (d.led e)) }

pub take_number : (r : Round) (b : List ℕ) → number_of (takes r b).answer ≡ take_refusal r b
unfolding takes take_refusal
take_number r b = go (is_held r)
  where
    go : (t : Bool) → number_of (if not t then refused 17 r else feed r b).answer ≡ (if not t then 17 else refusal r b)
    go true = feed_number r b
    go false = refl

-- what is promised of an answer
pub promised : (r : Round) (b : List ℕ) (s : Step) → Taken r b s → record { taken : Taken r b s; number : number_of s.answer ≡ take_refusal r b }
promised r b s t = record { taken = t; number = ap (λ s. number_of s.answer) t.answer ∙ take_number r b }
