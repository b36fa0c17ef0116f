use Rattle.screen.proofs.laws.targets_stand.Goals as goal
use Rattle.screen.proofs.MergeNeighbours.{targets_used}

pub returns : goal.returns
returns c = targets_used
