use Rattle.std.proofs.Common.{◌∙◌}
use Rattle.rules.specs.Named.{dep_in}
use Rattle.rules.proofs.Repeats.{repeat_passes}
use Rattle.rules.proofs.shown.repeat_fools_the_list_rule.Goals as goal

pub returns : goal.returns
returns c = record { stands = repeat_passes; value = c.repeat_passes.ensures ∙ repeat_passes (dep_in c.args.entries c.args.x) (dep_in c.args.entries c.args.y) }
