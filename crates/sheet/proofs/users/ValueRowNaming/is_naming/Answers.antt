use Rattle.std.proofs.Common.{sym, ◌∙◌}
use Rattle.sheet.proofs.Naming.{value_absent}
use Rattle.sheet.proofs.users.ValueRowNaming.is_naming.Goals as goal

pub returns-else-has_field : goal.returns-else-has_field
returns-else-has_field c = c.if-has_field.false ∙ sym (value_absent c.args.self.now c.args.k (sym c.has_field.ensures ∙ c.if-has_field.false))
