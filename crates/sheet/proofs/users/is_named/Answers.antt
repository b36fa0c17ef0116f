use Rattle.std.proofs.Common.{rules, tests, sym, ◌∙◌}
use Rattle.std.proofs.lemmas.Iterator.{YieldsList-from_slice}
use Rattle.std.proofs.lemmas.Iterator.Search.{any_from_yields_List}
use Rattle.screen.specs.Lists.{member}
use Rattle.sheet.proofs.Naming.{member_gathered}
use Rattle.sheet.proofs.users.is_named.Goals as goal

pub returns : goal.returns
returns g c =
    let rows = c.args.rows.now in
    any_from_yields_List (λ r. member c.args.k (g.R.Naming.names r)) _ _ _ c.any.ensures.ran (YieldsList-from_slice rows cc) (λ x b q h. search (rules, tests)) ∙ sym (member_gathered c.args.k g.R.Naming.names rows)
