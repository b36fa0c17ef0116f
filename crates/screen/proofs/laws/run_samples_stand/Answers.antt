use Rattle.screen.proofs.laws.run_samples_stand.Goals as goal
use Rattle.screen.proofs.RunSampled.{run_samples_hold}

pub returns : goal.returns
returns c = run_samples_hold
