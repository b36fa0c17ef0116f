-- What a sheet holds.
use Rattle.std.specs.Prelude.{ℕ, Bool, List, [], ◌∷◌}
use Rattle.screen.specs.Forest.{Forest, bare}
use Rattle.screen.specs.declared.node.Node.{Node}
use Rattle.screen.specs.declared.node.Node.TheVariants.{Body}
use Rattle.screen.specs.declared.rows.TypeRow.{TypeRow}
use Rattle.screen.specs.declared.rows.IdentifierRow.{IdentifierRow}
use Rattle.screen.specs.declared.rows.PathRow.{PathRow}
use Rattle.screen.specs.declared.rows.DependencyRow.{DependencyRow}
use Rattle.screen.specs.declared.rows.ReadRow.{ReadRow}
use Rattle.screen.specs.declared.rows.ValueRow.{ValueRow}
use Rattle.screen.specs.declared.rows.ShapeRow.{ShapeRow}
use Rattle.screen.specs.declared.scope.Status.{Status}

-- a declaration: its key and what it declares, two identifiers
pub record Declaration : Type 0 where
  pub key : ℕ
  pub declared : ℕ

-- a Scope: its range, how it stands, whether it reassigns, where its dependencies begin (they end where the next Scope's begin, or at the last),
-- the rows of its declarations in order, and the Scopes joined into it in order
pub record Scope : Type 0 where
  pub start : ℕ
  pub end : ℕ
  pub status : Status
  pub reassigns : Bool
  pub begin : ℕ
  pub declares : List ℕ
  pub merged : List ℕ

-- the rows that are put, in number order
pub record Rows : Type 0 where
  pub types : List TypeRow
  pub identifiers : List IdentifierRow
  pub paths : List PathRow
  pub dependencies : List DependencyRow
  pub declarations : List Declaration
  pub reads : List ReadRow
  pub values : List ValueRow
  pub shapes : List ShapeRow
  pub nodes : List Node

-- the rows, the Scopes, the body's children, and how many nodes below the body are open: the last children, from the body down
pub record State : Type 0 where
  pub rows : Rows
  pub scopes : List Scope
  pub tree : Forest
  pub opened : ℕ

-- a new sheet: no row, and the body alone
abbrev pub new_rows : Rows
new_rows =
    record {
      types = [];
      identifiers = [];
      paths = [];
      dependencies = [];
      declarations = [];
      reads = [];
      values = [];
      shapes = [];
      nodes = Body ∷ [];
    }

abbrev pub new : State
new = record { rows = new_rows; scopes = []; tree = bare; opened = 0 }
