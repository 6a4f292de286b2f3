use Rattle.names.specs.Five.{name_five, answer_five, five_place}
use Rattle.names.proofs.Answers.{refused, named_whole}
use Rattle.names.proofs.name_five.Goals as goal

pub returns-in_err-hand_refusal : goal.returns-in_err-hand_refusal
unfolding answer_five
returns-in_err-hand_refusal c = refused five_place _ _ _ _ c.from_residual.ensures.1 c.in_err-hand_refusal.ensures.number

pub returns : goal.returns
unfolding answer_five
returns c =
    let ok = c.in_ok-hand_refusal.ensures in
    named_whole five_place name_five 5 _ ok.number _ c.five_in.ensures
