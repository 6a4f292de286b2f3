use Rattle.words.proofs.Planes as planes
use Rattle.words.proofs.threes.Goals as goal

pub returns : goal.returns
returns c = λ h has. planes.threes c.args.w h has
