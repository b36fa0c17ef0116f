use Rattle.std.proofs.Common.{sym}
use Rattle.sheet.specs.Planted.{statuses_of}
use Rattle.sheet.specs.Fitting.{may_open}
use Rattle.sheet.proofs.Openings.{named_there, marked_not}
use Rattle.sheet.proofs.sound.nodes.TreeRows.mark_all.Goals as goal

pub returns-then-not-mark-clause-no : goal.returns-then-not-mark-clause-no
returns-then-not-mark-clause-no c =
    let rows = c.args.self.nodes.now in
    let ss = statuses_of c.args.self.scopes.now in
    let i = c.loop-row.row-index in
    let j = c.in-Scope.scope in
    let is = sym c.in-Scope.ensures in
    let there = named_there rows c.args.self.scopes.now i j c.args.self.named c.loop-row-test.true is in
    let refused = sym {b = may_open ss j c.loop-row.marks} c.if-not-mark.ensures.may in
    λ h. absurd (marked_not rows ss c.loop-row.marks i c.loop-row.invariant j c.loop-row-test.true is there refused h)
