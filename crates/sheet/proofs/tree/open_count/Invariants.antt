use Rattle.std.proofs.Common.{ℕ, ◌-◌, List}
use Rattle.screen.specs.declared.scope.Status.{Status}
use Rattle.screen.specs.Forest.{Forest}
use Rattle.sheet.specs.Planted.{Planted}
use Rattle.sheet.proofs.Climbing.{Climbed, Low}
use Rattle.sheet.proofs.tree.open_count.Given as goal

abbrev pub invariant-loop-at : goal.invariant-loop-at
invariant-loop-at l =
    Low l.nodes l.n l.at
    × ((ss : List Status) (f : Forest) (o : ℕ) → Planted l.nodes ss l.fn.innermost f o → Climbed l.nodes ss f o l.n l.at)

abbrev pub decreases-loop-at : goal.decreases-loop-at
decreases-loop-at l = 64 - l.n
