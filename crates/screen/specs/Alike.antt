-- When two entries are alike. `like` is what a rule says of two path entries, so that the rest is said once for all rules.
use Rattle.std.specs.Prelude.{Bool, true, false, ◌&&◌, List, [], ◌∷◌, ◌==◌}
use Rattle.std.specs.List.{list_any}
use Rattle.screen.specs.Lists.{every}
use Rattle.screen.specs.Rules.{Dep}
use Rattle.screen.specs.declared.rows.PathRow.{PathRow}

-- two path entries that agree in kind, in all 64 bits and in the optional mark
abbrev pub bits_alike : PathRow → PathRow → Bool
bits_alike p q = p.kind == q.kind && (p.low == q.low && (p.high == q.high && p.optional == q.optional))

-- paths of one length, entry for entry
abbrev pub paths_alike : (PathRow → PathRow → Bool) → List PathRow → List PathRow → Bool
paths_alike like [] [] = true
paths_alike like [] (q ∷ qs) = false
paths_alike like (p ∷ ps) [] = false
paths_alike like (p ∷ ps) (q ∷ qs) = like p q && paths_alike like ps qs

-- one declaration, and alike paths
abbrev pub alike : (PathRow → PathRow → Bool) → Dep → Dep → Bool
alike like x y = x.declaration == y.declaration && paths_alike like x.path y.path

-- x is alike to one of these
abbrev pub found : (PathRow → PathRow → Bool) → Dep → List Dep → Bool
found like x ys = list_any (alike like x) ys

-- each of the first is alike to one of the second
abbrev pub covered : (PathRow → PathRow → Bool) → List Dep → List Dep → Bool
covered like xs ys = every (λ x. found like x ys) xs
