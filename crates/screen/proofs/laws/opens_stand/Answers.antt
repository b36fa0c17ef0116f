use Rattle.screen.proofs.laws.opens_stand.Goals as goal
use Rattle.screen.proofs.RunCounting.{opens_always_add_up}

pub returns : goal.returns
returns c = opens_always_add_up
