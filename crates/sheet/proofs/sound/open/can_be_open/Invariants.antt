use Rattle.sheet.proofs.OpenPath.{Rises, Climbs}
use Rattle.sheet.proofs.sound.open.can_be_open.Given as goal

-- the nodes passed are open below `at`, and of each tree that is open down to `node` the rest is above it
abbrev pub invariant-loop-step : goal.invariant-loop-step
invariant-loop-step l = Rises l.nodes l.node l._step l.at × Climbs l.nodes l.node l._step l.at
