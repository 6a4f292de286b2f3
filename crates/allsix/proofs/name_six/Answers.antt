use Rattle.names.proofs.Answers.{refused, named_whole}
use Rattle.allsix.specs.Six.{name_six, answer_six, six_place}
use Rattle.allsix.proofs.name_six.Goals as goal

pub returns-in_err-hand_refusal : goal.returns-in_err-hand_refusal
unfolding answer_six
returns-in_err-hand_refusal c = refused six_place _ _ _ _ c.from_residual.ensures.1 c.in_err-hand_refusal.ensures.number

pub returns : goal.returns
unfolding answer_six
returns c =
    let ok = c.in_ok-hand_refusal.ensures in named_whole six_place name_six 6 _ ok.number _ c.six_in.ensures
