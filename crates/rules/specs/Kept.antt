-- The host's own shapes that a layer keeps.
use Rattle.std.specs.Prelude.{ℕ, List, map, take}
use Rattle.screen.specs.declared.rows.ShapeRow.{ShapeRow}
use Rattle.rules.specs.declared.shapes.Shapes.{Shapes}

-- the shapes that are kept, in order
abbrev pub kept_in : Shapes → List ℕ
kept_in s = take s.count s.kept

-- the shapes of the first sixteen rows; a sheet has no more
abbrev pub shapes_of : List ShapeRow → List ℕ
shapes_of rows = map (λ r. r.shape) (take 16 rows)
