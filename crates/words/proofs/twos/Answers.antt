use Rattle.words.proofs.Planes as planes
use Rattle.words.proofs.twos.Goals as goal

pub returns : goal.returns
returns c = λ h has. planes.twos c.args.w h has
