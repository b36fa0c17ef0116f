use Rattle.screen.proofs.laws.counts_stand.Goals as goal
use Rattle.screen.proofs.Fates.{counts_add_up}

pub returns : goal.returns
returns c = counts_add_up
