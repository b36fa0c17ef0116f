use Rattle.std.proofs.Common.{[], take, sym, ◌∙◌, rules}
use borrow.Author.Tests.{tests}
use Rattle.std.proofs.lemmas.Iterator.{YieldsList-from_slice}
use Rattle.std.proofs.lemmas.Iterator.Consumers.{YieldsList-from_enumerate}
use Rattle.std.proofs.lemmas.Iterator.Search.{all_from_yields_List}
use Rattle.screen.specs.WellFormed.{value_kept}
use Rattle.sheet.proofs.Passing.{values_listed}
use Rattle.sheet.proofs.named.Named.values_kept.Goals as goal

pub returns : goal.returns
returns c =
    let is = c.args.self.identifiers.now in
    let rs = c.args.self.reads.now in
    let vs = c.args.self.values.now in
    all_from_yields_List (λ t. value_kept is rs (take t.0 vs) t.1) _ _ _ c.all.ensures.ran (YieldsList-from_enumerate (YieldsList-from_slice vs cc) cc) (λ x b q h. search (rules, tests))
    ∙ sym (values_listed is rs [] vs)
