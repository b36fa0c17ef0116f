use Rattle.std.proofs.Common.{sym, ap, ◌∙◌}
use Rattle.screen.specs.Lists.{every}
use Rattle.screen.specs.Records.{declaration_record}
use Rattle.screen.specs.State.{Declaration}
use Rattle.screen.specs.WellFormed.{kept}
use Rattle.screen.proofs.Members.{every_map}
use Rattle.sheet.specs.Tables.{items, memory}
use Rattle.sheet.specs.Planted.{statuses_of}
use Rattle.sheet.specs.Holds.{declaration_of, rows_of}
use Rattle.sheet.specs.declared.rows.DeclarationRow.{DeclarationRow}
use Rattle.sheet.proofs.sheet.Sheet.declarations_kept.Goals as goal

pub returns : goal.returns
returns c =
    let m = memory c.args.self.now in
    let k = kept (rows_of m) (statuses_of (items m.scopes)) in
    c.rows_kept.ensures ∙ ap (every (λ (d : DeclarationRow). k (declaration_record d.key d.declared))) c.put.ensures
    ∙ sym (every_map (λ (d : Declaration). k (declaration_record d.key d.declared)) declaration_of (items m.declarations))
