use Rattle.std.proofs.Common.{◌≡◌, rules}
use borrow.Author.Tests.{tests}
use Rattle.std.proofs.lemmas.Iterator.{YieldsList-from_slice}
use Rattle.std.proofs.lemmas.Iterator.Search.{all_from_yields_List}
use Rattle.sheet.specs.Links.{no_record}
use Rattle.sheet.specs.Planted.{statuses_of}
use Rattle.sheet.specs.NodeRows.{node_row_kept}
use Rattle.sheet.proofs.NodeRowing.{kept_from}
use Rattle.sheet.proofs.named.Named.nodes_kept.Goals as goal

pub returns-then-eq : goal.returns-then-eq
returns-then-eq c =
    let is = c.args.self.identifiers.now in
    let vs = c.args.self.values.now in
    let ss = statuses_of c.args.self.scopes.now in
    let blank : c.in-Some.body.now.made ≡ no_record = search (rules, tests) in
    kept_from is vs ss c.args.nodes.now c.in-Some.body.now c.in-Some.others.now c.all.result c.in-Some.ensures.cases.0 blank
    (all_from_yields_List (node_row_kept is vs ss) _ _ _ c.all.ensures.ran (YieldsList-from_slice c.in-Some.others.now cc) (λ x b q h. search (rules, tests)))
