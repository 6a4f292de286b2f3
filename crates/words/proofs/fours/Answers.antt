use Rattle.words.proofs.Planes as planes
use Rattle.words.proofs.fours.Goals as goal

pub returns : goal.returns
returns c = λ h has. planes.fours c.args.w h has
