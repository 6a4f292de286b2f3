-- No second answer: what is promised by an equation is met by one answer only.
-- Assumes nothing.
use mathlib.Core.Path.{◌≡◌, sym, ◌∙◌}

pub one_answer : {A : Type 0} (promised r s : A) → r ≡ promised → s ≡ promised → r ≡ s
one_answer promised r s p q = p ∙ sym q
