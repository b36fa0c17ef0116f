use Rattle.std.proofs.Common.{not, eqb, ◌∙◌, rules}
use borrow.Author.Tests.{tests}
use Rattle.std.proofs.lemmas.Iterator.{YieldsList-from_slice}
use Rattle.std.proofs.lemmas.Iterator.Consumers.{YieldsList-from_filter, count_from_yields_List}
use Rattle.screen.specs.Entries.{node_of}
use Rattle.screen.specs.Standing.{reached}
use Rattle.sheet.specs.Planted.{statuses_of}
use Rattle.sheet.proofs.TreeSound.{counted}
use Rattle.sheet.proofs.sound.nodes.TreeRows.expected_size.Goals as goal

pub returns : goal.returns
returns c =
    let rows = c.args.self.nodes.now in
    let ss = statuses_of c.args.self.scopes.now in
    count_from_yields_List c.filter.result _ c.count.ensures.ran
    (YieldsList-from_filter _ (λ r. not (eqb (reached ss (node_of r.made)) 0)) (YieldsList-from_slice rows cc) c.filter.ensures.closure (λ x r q k. search (rules, tests))) ∙ counted ss rows
