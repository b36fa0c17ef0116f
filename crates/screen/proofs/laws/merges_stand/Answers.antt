use Rattle.screen.proofs.laws.merges_stand.Goals as goal
use Rattle.screen.proofs.RunForming.{merges_always_lawful}

pub returns : goal.returns
returns c = merges_always_lawful
