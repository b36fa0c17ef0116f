use Rattle.std.proofs.Common.{◌∙◌, eqb}
use Rattle.std.proofs.Math.Bool.{and-true}
use Rattle.sheet.proofs.Naming.{member_present}
use Rattle.sheet.proofs.users.among.Goals as goal

-- the numbers of rows are compared with their tables, which are the same
pub returns : goal.returns
returns c = c.contains.ensures.value ∙ member_present _ c.args.k (λ n. and-true (eqb n c.args.k)) c.args.names.now
