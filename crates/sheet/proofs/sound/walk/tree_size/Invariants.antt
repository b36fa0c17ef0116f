use Rattle.std.proofs.Common.{◌+◌, ◌*◌, ◌<◌, ◌≤◌, ◌≢◌, length}
use Rattle.screen.specs.Forest.{Forest}
use Rattle.sheet.proofs.TreeWalk.{Seen, Coming, Grown}
use Rattle.sheet.proofs.sound.walk.tree_size.Given as goal

-- what was seen is a part of a tree, and of each tree that the rows hold the rest is to come; the numbers keep their bounds
abbrev pub invariant-loop-at : goal.invariant-loop-at
invariant-loop-at l =
    Seen l.nodes l.at
    × ((f : Forest) → Grown l.nodes f → Coming l.nodes l.at)
    × (l.at.node < length l.nodes)
    × (l.at.node ≢ 0 → 0 < l.at.level)
    × (l.at.level + l.at.left ≤ 1024)

abbrev pub decreases-loop-at : goal.decreases-loop-at
decreases-loop-at l = 2 * l.at.left + l.at.level
