use mathlib.Core.Path.{refl, ap₂, ◌∙◌}
use mathlib.Core.List.{[], ◌∷◌}
use native.Mathlib.Omega.{arith}
use Rattle.allsix.specs.Six.{without, higher, best_up_to}
use Rattle.allsix.proofs.Choices.{six_words, six_suits, others_without}
use Rattle.allsix.proofs.best_of_six.Goals as goal

-- the sums of all six are within bounds, and so are those on the way to them
pub overflow_add-all-5 : goal.overflow_add-all-5
overflow_add-all-5 c =
    let v = c.args in
    record { fits = omega (arith, (six_words v.a v.b v.c v.d v.e v.f c.word1-wa.ensures c.word1-wb.ensures c.word1-wc.ensures c.word1-wd.ensures c.word1-we.ensures c.word1-wf.ensures).1) }

pub overflow_add-all : goal.overflow_add-all
overflow_add-all c = let all = (overflow_add-all-5 c).fits in record { fits = omega (arith, all) }

pub overflow_add-all-2 : goal.overflow_add-all-2
overflow_add-all-2 c = let all = (overflow_add-all-5 c).fits in record { fits = omega (arith, all) }

pub overflow_add-all-3 : goal.overflow_add-all-3
overflow_add-all-3 c = let all = (overflow_add-all-5 c).fits in record { fits = omega (arith, all) }

pub overflow_add-all-4 : goal.overflow_add-all-4
overflow_add-all-4 c = let all = (overflow_add-all-5 c).fits in record { fits = omega (arith, all) }

pub overflow_add-suits-5 : goal.overflow_add-suits-5
overflow_add-suits-5 c =
    let v = c.args in
    record { fits = omega (arith, (six_suits v.a v.b v.c v.d v.e v.f c.suit_word-sa.ensures c.suit_word-sb.ensures c.suit_word-sc.ensures c.suit_word-sd.ensures c.suit_word-se.ensures c.suit_word-sf.ensures).1) }

pub overflow_add-suits : goal.overflow_add-suits
overflow_add-suits c = let all = (overflow_add-suits-5 c).fits in record { fits = omega (arith, all) }

pub overflow_add-suits-2 : goal.overflow_add-suits-2
overflow_add-suits-2 c = let all = (overflow_add-suits-5 c).fits in record { fits = omega (arith, all) }

pub overflow_add-suits-3 : goal.overflow_add-suits-3
overflow_add-suits-3 c = let all = (overflow_add-suits-5 c).fits in record { fits = omega (arith, all) }

pub overflow_add-suits-4 : goal.overflow_add-suits-4
overflow_add-suits-4 c = let all = (overflow_add-suits-5 c).fits in record { fits = omega (arith, all) }

pub returns : goal.returns
unfolding best_up_to without
returns c =
    let v = c.args in
    let all = (six_words v.a v.b v.c v.d v.e v.f c.word1-wa.ensures c.word1-wb.ensures c.word1-wc.ensures c.word1-wd.ensures c.word1-we.ensures c.word1-wf.ensures).0 in
    let suits = (six_suits v.a v.b v.c v.d v.e v.f c.suit_word-sa.ensures c.suit_word-sb.ensures c.suit_word-sc.ensures c.suit_word-sd.ensures c.suit_word-se.ensures c.suit_word-sf.ensures).0 in
    let no-a = others_without [] v.a (v.b ∷ v.c ∷ v.d ∷ v.e ∷ v.f ∷ []) refl c.name_without-first.ensures all suits in
    let no-b = others_without (v.a ∷ []) v.b (v.c ∷ v.d ∷ v.e ∷ v.f ∷ []) refl c.name_without.ensures all suits in
    let no-c = others_without (v.a ∷ v.b ∷ []) v.c (v.d ∷ v.e ∷ v.f ∷ []) refl c.name_without-2.ensures all suits in
    let no-d = others_without (v.a ∷ v.b ∷ v.c ∷ []) v.d (v.e ∷ v.f ∷ []) refl c.name_without-3.ensures all suits in
    let no-e = others_without (v.a ∷ v.b ∷ v.c ∷ v.d ∷ []) v.e (v.f ∷ []) refl c.name_without-4.ensures all suits in
    let no-f = others_without (v.a ∷ v.b ∷ v.c ∷ v.d ∷ v.e ∷ []) v.f [] refl c.name_without-5.ensures all suits in
    c.higher_of.ensures ∙ ap₂ higher no-f (c.higher_of-fifth.ensures ∙ ap₂ higher no-e (c.higher_of-fourth.ensures ∙ ap₂ higher no-d (c.higher_of-third.ensures ∙ ap₂ higher no-c (c.higher_of-second.ensures ∙ ap₂ higher no-b no-a))))
