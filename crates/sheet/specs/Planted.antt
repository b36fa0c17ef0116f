-- A tree in the node rows, and where it is open.
use Rattle.std.specs.Prelude.{◌≡◌, ℕ, ◌<◌, List, map, length}
use Rattle.screen.specs.declared.node.Node.{Node}
use Rattle.screen.specs.declared.node.Node.TheVariants.{Body}
use Rattle.screen.specs.declared.scope.Status.{Status}
use Rattle.screen.specs.Entries.{node_of}
use Rattle.screen.specs.Statuses.{status_of}
use Rattle.screen.specs.Forest.{Forest, body, cnt}
use Rattle.screen.specs.Open.{Spot, innermost}
use Rattle.screen.specs.Standing.{Standing}
use Rattle.sheet.specs.declared.rows.NodeRow.{NodeRow}
use Rattle.sheet.specs.declared.rows.ScopeRow.{ScopeRow}
use Rattle.sheet.specs.Links.{Links, Idle}

-- what the nodes are, and how the Scopes stand, by their rows
abbrev pub nodes_of : List NodeRow → List Node
nodes_of rows = map (λ r. node_of r.made) rows

abbrev pub statuses_of : List ScopeRow → List Status
statuses_of rows = map (λ r. status_of r.status) rows

-- the body as the holder of the tree
abbrev pub root : Spot
root = record { number = 0; node = Body }

-- the node rows hold the tree f below the body; o nodes are open, and `at` is the innermost open node
pub record Planted (rows : List NodeRow) (ss : List Status) (at : ℕ) (f : Forest) (o : ℕ) : Type 0 where
  pub links : Links rows 4294967295 (body f)
  -- a node that is not in the tree has no links
  pub idle : (k : ℕ) → k < length rows → cnt k (body f) ≡ 0 → Idle rows k
  pub standing : Standing (nodes_of rows) ss f o
  pub innermost_is : (innermost root o f).number ≡ at
