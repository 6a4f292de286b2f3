use Rattle.words.proofs.Pockets.{face}
use Rattle.words.proofs.has_face.Goals as goal

pub returns : goal.returns
returns c = λ h has. face c.args.w h has
