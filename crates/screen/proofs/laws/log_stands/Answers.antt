use Rattle.screen.proofs.laws.log_stands.Goals as goal
use Rattle.screen.proofs.RunLogs.{always_read_as_log}

pub returns : goal.returns
returns c = always_read_as_log
