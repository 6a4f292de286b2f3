use Rattle.names.specs.Board.{name_board, answer_board, board_place}
use Rattle.names.proofs.Answers.{refused, named_whole}
use Rattle.names.proofs.name_board.Goals as goal

pub returns-in_err-hand_refusal : goal.returns-in_err-hand_refusal
unfolding answer_board
returns-in_err-hand_refusal c = refused board_place _ _ _ _ c.from_residual.ensures.1 c.in_err-hand_refusal.ensures.number

pub returns : goal.returns
unfolding answer_board
returns c =
    let ok = c.in_ok-hand_refusal.ensures in
    named_whole board_place name_board 3 _ ok.number _ c.board_in.ensures
