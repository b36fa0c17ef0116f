use Rattle.std.proofs.Common.{◌∙◌}
use Rattle.rules.specs.Named.{dep_in}
use Rattle.rules.proofs.Repeats.{repeat_seen_turned}
use Rattle.rules.proofs.shown.list_rule_sees_it_turned.Goals as goal

pub returns : goal.returns
returns c = record { stands = repeat_seen_turned; value = c.same.ensures ∙ repeat_seen_turned (dep_in c.args.entries c.args.x) (dep_in c.args.entries c.args.y) }
