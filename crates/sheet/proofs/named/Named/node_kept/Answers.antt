use Rattle.std.proofs.Common.{◌≡◌, ◌&&◌, Some, sym, ap, ◌∙◌, arith}
use Rattle.screen.specs.Entries.{entry_of, node_by}
use Rattle.screen.specs.Named.{node_named}
use Rattle.screen.specs.WellFormed.{is_listed, node_listed}
use Rattle.screen.specs.declared.entry.Entry.TheVariants as entry
use Rattle.screen.proofs.Entered.{entered}
use Rattle.sheet.specs.Planted.{statuses_of}
use Rattle.sheet.proofs.named.Named.node_kept.Goals as goal

pub returns-in-Ok-Node : goal.returns-in-Ok-Node
returns-in-Ok-Node c =
    let n = c.in-Ok-Node.node in
    let made = c.args.row.now.made in
    let named = node_named c.args.self.identifiers.now c.args.self.values.now (statuses_of c.args.self.scopes.now) in
    let e : entry_of made ≡ Some (entry.Node n) = grind arith in
    c.node_named.ensures ∙ sym (ap (λ o. is_listed o && (node_listed (node_by o) && named (node_by o))) e ∙ ap (λ b. b && named n) (entered made (entry.Node n) e))
