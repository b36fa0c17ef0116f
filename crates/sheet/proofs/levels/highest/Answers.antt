use Rattle.std.proofs.Common.{[], ◌∷◌, max, rules, tests, arith}
use Rattle.std.proofs.lemmas.Iterator.{YieldsList-from_slice}
use Rattle.std.proofs.lemmas.Iterator.Consumers.{fold_from_yields_List}
use Rattle.screen.specs.Lists.{present}
use Rattle.screen.specs.Levels.{highest}
use Rattle.sheet.proofs.Highest.{highest_folds}
use Rattle.sheet.proofs.levels.highest.Goals as goal

pub returns : goal.returns
returns c =
    let ls = c.args.levels.now in
    let os = c.args.names.now in
    let folds = highest_folds ls 0 os in
    omega (arith, folds, fold_from_yields_List _ (λ a o. max a (highest ls (present (o ∷ [])))) 0 _ c.fold.ensures.ran (YieldsList-from_slice os cc) (λ a x b q h. search (rules, tests)))
