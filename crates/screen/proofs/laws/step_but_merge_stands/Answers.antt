use Rattle.screen.proofs.laws.step_but_merge_stands.Goals as goal
use Rattle.screen.proofs.RunBuilt.{step_but_merge}

pub returns : goal.returns
returns c = step_but_merge
