use Rattle.std.proofs.Common.{length, drop}
use Rattle.sheet.specs.Walks.{link_at}
use Rattle.sheet.proofs.Walking.{ResumesAll}
use Rattle.sheet.proofs.sound.scopes.walk_lists.Given as goal

abbrev pub invariant-loop-scope : goal.invariant-loop-scope
invariant-loop-scope g l = ResumesAll (link_at g.R.Linked.link g.R.Linked.blank l.rows) g.R.Linked.head (length l.rows) l.scopes l.initial.marks (drop l.scope-index l.scopes) l.marks
