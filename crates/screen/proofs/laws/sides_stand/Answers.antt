use Rattle.screen.proofs.laws.sides_stand.Goals as goal
use Rattle.screen.proofs.MergeNeighbours.{never_both}

pub returns : goal.returns
returns c = never_both
