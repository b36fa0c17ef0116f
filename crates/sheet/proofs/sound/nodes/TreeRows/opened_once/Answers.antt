use Rattle.std.proofs.Common.{arith}
use Rattle.sheet.specs.Planted.{statuses_of}
use Rattle.sheet.proofs.Openings.{as_long, marked_first, marked_all, all_marked}
use Rattle.sheet.proofs.sound.nodes.TreeRows.opened_once.Goals as goal

pub mark_all-requires-clause-clear : goal.mark_all-requires-clause-clear
mark_all-requires-clause-clear c =
    let scopes = c.args.self.scopes.now in
    marked_first c.args.self.nodes.now (statuses_of scopes) 256 (omega (arith, as_long scopes, c.requires))

pub returns-then-mark_all : goal.returns-then-mark_all
returns-then-mark_all c =
    let rows = c.args.self.nodes.now in
    let ss = statuses_of c.args.self.scopes.now in
    let long = as_long c.args.self.scopes.now in
    let marks = c.mark_all.new.marks in
    let marked = c.mark_all.ensures.yes c.if-mark_all.true in (
      λ e. marked_all rows ss marks marked (λ j l. c.all_marked.ensures.0 e j (omega (arith, long, l))),
      λ h. c.all_marked.ensures.1 (λ j l. all_marked rows ss marks marked h j (omega (arith, long, l))),
    )
