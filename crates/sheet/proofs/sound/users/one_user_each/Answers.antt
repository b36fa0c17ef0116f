use Rattle.std.proofs.Common.{false, length, replicate, sym, refl, ap, ◌∙◌}
use Rattle.std.proofs.lemmas.List.Folds.{flat_map-map}
use Rattle.screen.specs.Entries.{node_of}
use Rattle.screen.specs.Lists.{gathered}
use Rattle.screen.specs.Users.{names_of, names_in, namings}
use Rattle.sheet.specs.Planted.{nodes_of}
use Rattle.sheet.proofs.Fresh.{part_stops, part_goes}
use Rattle.sheet.specs.Walks.{fresh}
use Rattle.sheet.proofs.sound.users.one_user_each.Goals as goal

pub returns-then-mark_rows : goal.returns-then-mark_rows
returns-then-mark_rows c =
    let vs = c.args.values.now in
    let xs = nodes_of c.args.nodes.now in
    let none = replicate 1024 false in
    c.mark_rows-then-mark_rows.ensures.value ∙ ap (fresh (length vs) c.mark_rows.new.marks) (sym (flat_map-map names_in (λ n. node_of n.made) c.args.nodes.now))
    ∙ sym (part_goes (length vs) none none c.mark_rows.new.marks (namings vs xs) (gathered names_of vs) (gathered names_in xs) refl
    (sym c.mark_rows.ensures.value ∙ c.if-mark_rows.true) (c.mark_rows.ensures.after c.if-mark_rows.true))

pub returns-else-mark_rows : goal.returns-else-mark_rows
returns-else-mark_rows c =
    let vs = c.args.values.now in
    let xs = nodes_of c.args.nodes.now in
    let none = replicate 1024 false in
    c.if-mark_rows.false
    ∙ sym (part_stops (length vs) none none (namings vs xs) (gathered names_of vs) (gathered names_in xs) refl (sym c.mark_rows.ensures.value ∙ c.if-mark_rows.false))
