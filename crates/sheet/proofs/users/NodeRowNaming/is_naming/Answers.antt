use Rattle.std.proofs.Common.{◌≡◌, false, eqb, sym, ◌∙◌}
use Rattle.std.proofs.lemmas.Bool.{ne_eqb}
use Rattle.screen.specs.Entries.{node_of}
use Rattle.screen.specs.Lists.{member}
use Rattle.screen.specs.Users.{names_in}
use Rattle.sheet.proofs.Naming.{node_absent}
use Rattle.sheet.proofs.users.NodeRowNaming.is_naming.Goals as goal

pub returns-else-self-from : goal.returns-else-self-from
returns-else-self-from c =
    let made = c.args.self.now.made in
    let k = c.args.k in
    let apart : eqb made.s c.from.result ≡ false = ne_eqb _ _ c.if-self-from.false in
    let none : member k (names_in (node_of made)) ≡ false = node_absent made k c.from.result c.from.ensures apart in
    apart ∙ sym none
