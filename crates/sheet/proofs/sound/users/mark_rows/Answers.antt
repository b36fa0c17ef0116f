use Rattle.std.proofs.Common.{◌+◌, get_or, drop, sym, ap, ◌∙◌, arith}
use Rattle.std.proofs.lemmas.List.{at_drop_more, get_or_read}
use Rattle.screen.specs.Lists.{gathered}
use Rattle.sheet.specs.Walks.{fresh, marked}
use Rattle.sheet.proofs.Fresh.{part_stops, part_goes, part_marks}
use Rattle.sheet.proofs.sound.users.mark_rows.Goals as goal

pub returns-then-not-mark_names-clause-value : goal.returns-then-not-mark_names-clause-value
returns-then-not-mark_names-clause-value g c =
    let n = c.args.limit in
    let ms = c.loop-row.marks in
    let xs = c.args.rows.now in
    let i = c.loop-row.row-index in
    let row = get_or xs i c.row-item.result in
    let names = c.names.ensures ∙ ap g.R.Naming.names (get_or_read xs i c.row-item.result c.loop-row-test.true c.row-item.is c.row-item.result) in
    sym (part_stops n c.args.marks.now ms (gathered g.R.Naming.names xs) (g.R.Naming.names row) (gathered g.R.Naming.names (drop (i + 1) xs))
    (c.loop-row.invariant.1 ∙ at_drop_more (λ l. fresh n ms (gathered g.R.Naming.names l)) xs i c.row-item.result c.loop-row-test.true)
    (ap (fresh n ms) (sym names) ∙ sym c.mark_names.ensures.value ∙ c.if-not-mark_names.true))

pub loop-row-preserved : goal.loop-row-preserved
loop-row-preserved g c =
    let n = c.args.limit in
    let ms = c.loop-row.marks in
    let xs = c.args.rows.now in
    let i = c.loop-row.row-index in
    let row = get_or xs i c.row-item.result in
    let names = c.names.ensures ∙ ap g.R.Naming.names (get_or_read xs i c.row-item.result c.loop-row-test.true c.row-item.is c.row-item.result) in
    let then = c.mark_names.ensures.after c.if-not-mark_names.false ∙ ap (marked ms) names in (
      omega arith,
      part_goes n c.args.marks.now ms c.mark_names.new.marks (gathered g.R.Naming.names xs) (g.R.Naming.names row) (gathered g.R.Naming.names (drop (i + 1) xs))
          (c.loop-row.invariant.1 ∙ at_drop_more (λ l. fresh n ms (gathered g.R.Naming.names l)) xs i c.row-item.result c.loop-row-test.true)
          (ap (fresh n ms) (sym names) ∙ sym c.mark_names.ensures.value ∙ c.if-not-mark_names.false)
          then,
      part_marks c.args.marks.now ms c.mark_names.new.marks (gathered g.R.Naming.names xs) (g.R.Naming.names row) (gathered g.R.Naming.names (drop (i + 1) xs))
          (c.loop-row.invariant.2 ∙ at_drop_more (λ l. marked ms (gathered g.R.Naming.names l)) xs i c.row-item.result c.loop-row-test.true)
          then,
    )
