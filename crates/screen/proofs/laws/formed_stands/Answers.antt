use Rattle.screen.proofs.laws.formed_stands.Goals as goal
use Rattle.screen.proofs.Forming.{formed_new, formed_step}

pub returns : goal.returns
returns c = (formed_new, formed_step)
