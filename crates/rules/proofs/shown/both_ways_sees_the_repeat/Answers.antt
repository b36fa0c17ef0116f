use Rattle.std.proofs.Common.{◌∙◌}
use Rattle.rules.specs.Named.{dep_in}
use Rattle.rules.proofs.Repeats.{repeat_seen}
use Rattle.rules.proofs.shown.both_ways_sees_the_repeat.Goals as goal

pub returns : goal.returns
returns c = record { stands = repeat_seen; value = c.repeat_passes.ensures ∙ repeat_seen (dep_in c.args.entries c.args.x) (dep_in c.args.entries c.args.y) }
