-- What a scan of paths and of lists answers, whatever a rule says of two path entries.
use Rattle.std.proofs.Common.{◌≡◌, Bool, true, false, ◌&&◌, ◌||◌, List, [], ◌∷◌, length, map, zip, ◌==◌, sym, refl, ap}
use Rattle.std.proofs.Math.Dec.{eqb-zero-suc, eqb-suc-zero, eqb-suc-suc}
use Rattle.std.specs.List.{list_all, list_any}
use Rattle.screen.specs.declared.rows.PathRow.{PathRow}
use Rattle.screen.specs.Alike.{paths_alike}

and_moved : (a b c : Bool) → (a && (b && c)) ≡ (b && (a && c))
and_moved true true c = refl
and_moved true false c = refl
and_moved false true c = refl
and_moved false false c = refl

-- paths are alike that are of one length and whose entries are alike in turn
pub paths_zip : (like : PathRow → PathRow → Bool) (ps qs : List PathRow) → paths_alike like ps qs ≡ (length ps == length qs && list_all (λ t. like t.0 t.1) (zip ps qs))
paths_zip like [] [] = refl
paths_zip like [] (q ∷ qs) = sym (ap (λ b. b && true) (eqb-zero-suc (length qs)))
paths_zip like (p ∷ ps) [] = sym (ap (λ b. b && true) (eqb-suc-zero (length ps)))
paths_zip like (p ∷ ps) (q ∷ qs) = rw (paths_zip like ps qs, eqb-suc-suc (length ps) (length qs)) (and_moved (like p q) (length ps == length qs) _)

-- what rows stand for is looked for among the rows themselves
pub any_map : {X Y : Type 0} (p : X → Bool) (h : Y → X) (ys : List Y) → list_any p (map h ys) ≡ list_any (λ y. p (h y)) ys
any_map p h [] = refl
any_map p h (y ∷ ys) = ap (λ b. p (h y) || b) (any_map p h ys)
