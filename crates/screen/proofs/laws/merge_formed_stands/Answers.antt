use Rattle.screen.proofs.laws.merge_formed_stands.Goals as goal
use Rattle.screen.proofs.MergeFormed.{formed_after}

pub returns : goal.returns
returns c = formed_after
