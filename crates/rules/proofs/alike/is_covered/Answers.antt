use Rattle.std.proofs.Common.{sym, ◌∙◌, rules, tests}
use Rattle.std.proofs.lemmas.Iterator.{YieldsList-from_slice}
use Rattle.std.proofs.lemmas.Iterator.Search.{all_from_yields_List}
use Rattle.std.proofs.lemmas.List.Folds.{list_all-map}
use Rattle.screen.specs.Rules.{Dep}
use Rattle.screen.specs.Alike.{found}
use Rattle.rules.specs.Named.{dep_in, deps_in}
use Rattle.rules.proofs.alike.is_covered.Goals as goal

pub returns : goal.returns
returns g c =
    let is_there = λ (x : Dep). found (g.R.Alike.like c.args.rule.now) x (deps_in c.args.entries c.args.b.now) in
    let dep = dep_in c.args.entries in
    let xs = c.args.a.now in
    all_from_yields_List (λ x. is_there (dep x)) _ _ _ c.all.ensures.ran (YieldsList-from_slice xs cc) (λ x b q h. search (rules, tests)) ∙ sym (list_all-map is_there dep xs)
