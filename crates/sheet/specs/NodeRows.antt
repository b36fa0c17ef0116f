-- What is true of each node row by itself.
use Rattle.std.specs.Prelude.{◌≡◌, Bool, true, ◌&&◌, List}
use Rattle.screen.specs.Entries.{entry_of, node_of}
use Rattle.screen.specs.Named.{node_named}
use Rattle.screen.specs.WellFormed.{is_listed, node_listed, nodes_kept}
use Rattle.screen.specs.declared.rows.IdentifierRow.{IdentifierRow}
use Rattle.screen.specs.declared.rows.ValueRow.{ValueRow}
use Rattle.screen.specs.declared.scope.Status.{Status}
use Rattle.sheet.specs.declared.rows.NodeRow.{NodeRow}
use Rattle.sheet.specs.Planted.{nodes_of}
use Rattle.sheet.specs.Holds.{RecordsListed}

-- its record made a node, whose fields keep their list and name put rows
abbrev pub node_row_kept : List IdentifierRow → List ValueRow → List Status → NodeRow → Bool
node_row_kept is vs ss r = is_listed (entry_of r.made) && (node_listed (node_of r.made) && node_named is vs ss (node_of r.made))

-- the same of each row but the body's
pub record NodesKept (is : List IdentifierRow) (vs : List ValueRow) (ss : List Status) (rows : List NodeRow) : Type 0 where
  pub records : RecordsListed rows
  pub nodes : nodes_kept is vs ss (nodes_of rows) ≡ true
