use Rattle.screen.proofs.laws.always_formed_stands.Goals as goal
use Rattle.screen.proofs.RunForming.{always_formed}

pub returns : goal.returns
returns c = always_formed
