use Rattle.sheet.specs.Planted.{statuses_of}
use Rattle.sheet.specs.Fitting.{Marked}
use Rattle.sheet.proofs.sound.nodes.TreeRows.mark_all.Given as goal

abbrev pub invariant-loop-row : goal.invariant-loop-row
invariant-loop-row l = Marked l.self.nodes.now (statuses_of l.self.scopes.now) l.row-index l.marks
