use Rattle.std.proofs.Common.{◌^◌, ◌<◌, length}
use Rattle.sheet.specs.Walks.{link_at}
use Rattle.sheet.proofs.Walking.{unmarked, Resumes}
use Rattle.sheet.proofs.sound.scopes.walk_list.Given as goal

abbrev pub invariant-loop-at : goal.invariant-loop-at
invariant-loop-at g l = (l.at < 2 ^ 32) × Resumes (link_at g.R.Linked.link g.R.Linked.blank l.rows) (length l.rows) l.first l.initial.marks l.at l.marks

-- each turn marks one row more
abbrev pub decreases-loop-at : goal.decreases-loop-at
decreases-loop-at g l = unmarked l.marks
