use Rattle.recovery.proofs.Image.{taken}
use Rattle.recovery.proofs.law.taken_images.Goals as goal

pub returns : goal.returns
returns c = taken
