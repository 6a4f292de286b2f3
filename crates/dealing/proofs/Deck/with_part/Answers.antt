use Rattle.std.proofs.Common.{rules, ◌≡◌, ◌+◌, ◌-◌, ◌≤◌, length, refl, arith, lt-ltb}
use Rattle.std.proofs.lemmas.List.{drop-drop, append_assoc}
use Rattle.std.proofs.lemmas.List.Edits.{sets-eq}
use Rattle.dealing.specs.Part.{with_part}
use Rattle.dealing.proofs.Deck.with_part.Goals as goal

pub returns-then-self-lt4 : goal.returns-then-self-lt4
unfolding with_part
returns-then-self-lt4 c =
    let cards = c.args.self.cards in
    let from = c.cards_read-from.result in
    let said = c.thirteen_of-cards.result.now in
    let long : length cards ≡ 52 = search rules in
    let fits : from + length said ≤ length cards = omega (arith, c.cards_read-from.ensures, c.thirteen_of-cards.ensures.most, c.if-self-lt4.true, long) in
    let count : from + length said - from ≡ length said = omega arith in
    rw (lt-ltb _ _ c.if-self-lt4.true, ← c.thirteen_of-cards.ensures.cards, ← c.cards_read-from.ensures, sets-eq said cards from fits, c.copy_from_slice.ensures.after, count, drop-drop, append_assoc) refl
