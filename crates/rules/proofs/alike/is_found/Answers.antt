use Rattle.std.proofs.Common.{sym, ◌∙◌, rules, tests}
use Rattle.std.proofs.lemmas.Iterator.{YieldsList-from_slice}
use Rattle.std.proofs.lemmas.Iterator.Search.{any_from_yields_List}
use Rattle.screen.specs.Alike.{alike}
use Rattle.rules.specs.Named.{dep_in}
use Rattle.rules.proofs.Likes.{any_map}
use Rattle.rules.proofs.alike.is_found.Goals as goal

pub returns : goal.returns
returns g c =
    let is_this = alike (g.R.Alike.like c.args.rule.now) (dep_in c.args.entries c.args.x.now) in
    let dep = dep_in c.args.entries in
    let ys = c.args.list.now in
    any_from_yields_List (λ y. is_this (dep y)) _ _ _ c.any.ensures.ran (YieldsList-from_slice ys cc) (λ y b q h. search (rules, tests)) ∙ sym (any_map is_this dep ys)
