use Rattle.std.proofs.Common.{◌+◌, ◌-◌, ◌*◌, length}
use Rattle.screen.specs.Forest.{Forest}
use Rattle.sheet.specs.Listed.{ends_of}
use Rattle.sheet.proofs.Listing.{Rooted, Went, Safe}
use Rattle.sheet.proofs.list.list.Given as goal

abbrev pub invariant-loop-child : goal.invariant-loop-child
invariant-loop-child l =
    Safe l.nodes (length l.scopes) l.node l.child l.level l.n
    × ((f : Forest) → Rooted l.nodes (length l.scopes) f
    → Went l.nodes (ends_of l.scopes) (length l.scopes) l.initial.lines l.lines f l.node l.child l.level l.n)

-- a line takes one turn down and one up
abbrev pub decreases-loop-child : goal.decreases-loop-child
decreases-loop-child l = 2 * (1024 - l.n) + l.level
