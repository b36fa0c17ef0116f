-- The open nodes, from one up to the body.
use Rattle.std.specs.Prelude.{◌≡◌, ℕ, ◌<◌, true, not, List, length}
use Rattle.screen.specs.Forest.{is_add}
use Rattle.sheet.specs.declared.rows.NodeRow.{NodeRow}
use Rattle.sheet.specs.Links.{row}
use Rattle.sheet.specs.Fitting.{node_at}

-- Add did not make the node, and it is the last child of its parent
pub record Rung (rows : List NodeRow) (n : ℕ) : Type 0 where
  pub within : n < length rows
  pub above : (row rows n).parent < length rows
  pub last_is : (row rows (row rows n).parent).last ≡ n
  pub opened : not (is_add (node_at rows n)) ≡ true
