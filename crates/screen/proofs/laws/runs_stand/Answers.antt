use Rattle.screen.proofs.laws.runs_stand.Goals as goal
use Rattle.screen.proofs.RunForming.{always_formed, merges_always_lawful}
use Rattle.screen.proofs.RunCounting.{opens_always_add_up}
use Rattle.screen.proofs.RunLogs.{always_read_as_log}

pub returns : goal.returns
returns c h = record { formed = always_formed h; reads = always_read_as_log h; opens = opens_always_add_up h; merges = merges_always_lawful h }
