use Rattle.screen.proofs.laws.samples_stand.Goals as goal
use Rattle.screen.proofs.MergeSampled.{samples_hold}

pub returns : goal.returns
returns c = samples_hold
