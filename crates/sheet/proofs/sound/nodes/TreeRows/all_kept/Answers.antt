use Rattle.std.proofs.Common.{length, rules, arith}
use borrow.Author.Tests.{tests}
use Rattle.std.proofs.lemmas.Iterator.{cases_from_all, YieldsList-from_range}
use Rattle.sheet.specs.Planted.{statuses_of}
use Rattle.sheet.specs.Fitting.{Kept}
use Rattle.sheet.proofs.Passing.{decides_below}
use Rattle.sheet.proofs.sound.nodes.TreeRows.all_kept.Goals as goal

pub returns : goal.returns
returns c =
    let rows = c.args.self.nodes.now in
    let kept = Kept rows (statuses_of c.args.self.scopes.now) in
    decides_below kept _ _ (cases_from_all _ _ _ kept (λ k. kept k → ⊥) c.all.ensures.ran (YieldsList-from_range 0 (length rows) (length rows) (cc) (omega arith)) (λ x q k. search (rules, tests)) (λ x q k. search (rules, tests)))
