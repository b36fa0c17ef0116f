use Rattle.std.proofs.Common.{◌||◌, sym, ap, ◌∙◌}
use Rattle.std.proofs.lemmas.List.Folds.{flat_map-map}
use Rattle.screen.specs.Entries.{node_of}
use Rattle.screen.specs.Lists.{member, gathered}
use Rattle.screen.specs.Users.{names_of, names_in}
use Rattle.screen.proofs.Members.{member_append}
use Rattle.sheet.specs.Planted.{nodes_of}
use Rattle.sheet.proofs.users.Users.has_user.Goals as goal

pub returns-else-is_named : goal.returns-else-is_named
returns-else-is_named c =
    let k = c.args.k in
    let ns = c.args.self.nodes.now in
    let a = gathered names_of c.args.self.values.now in
    let b = gathered names_in (nodes_of ns) in
    c.is_named-else-is_named.ensures ∙ ap (member k) (sym (flat_map-map names_in (λ n. node_of n.made) ns))
    ∙ sym (member_append k a b ∙ ap (λ t. t || member k b) (sym c.is_named.ensures ∙ c.if-is_named.false))
