use Rattle.words.proofs.Apart as apart
use Rattle.words.proofs.is_apart.Goals as goal

pub returns : goal.returns
returns c = λ h has. apart.is_apart c.args.w h has
