use Rattle.screen.proofs.laws.flattened_stand.Goals as goal
use Rattle.screen.proofs.MergeFlats.{flattened_exactly}

pub returns : goal.returns
returns c = flattened_exactly
