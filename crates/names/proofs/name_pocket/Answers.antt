use Rattle.names.specs.Pocket.{name_pocket, answer_pocket, pocket_place}
use Rattle.names.proofs.Answers.{refused, named_whole}
use Rattle.names.proofs.name_pocket.Goals as goal

pub returns-in_err-hand_refusal : goal.returns-in_err-hand_refusal
unfolding answer_pocket
returns-in_err-hand_refusal c = refused pocket_place _ _ _ _ c.from_residual.ensures.1 c.in_err-hand_refusal.ensures.number

pub returns : goal.returns
unfolding answer_pocket
returns c =
    let ok = c.in_ok-hand_refusal.ensures in
    named_whole pocket_place name_pocket 2 _ ok.number _ c.pocket_in.ensures
