-- What the lent memory holds, as plain lists.
use Rattle.std.specs.Prelude.{ℕ, ◌≤◌, List, length, take}
use Rattle.screen.specs.declared.rows.TypeRow.{TypeRow}
use Rattle.screen.specs.declared.rows.IdentifierRow.{IdentifierRow}
use Rattle.screen.specs.declared.rows.PathRow.{PathRow}
use Rattle.screen.specs.declared.rows.DependencyRow.{DependencyRow}
use Rattle.screen.specs.declared.rows.ReadRow.{ReadRow}
use Rattle.screen.specs.declared.rows.ValueRow.{ValueRow}
use Rattle.screen.specs.declared.rows.ShapeRow.{ShapeRow}
use Rattle.sheet.specs.declared.rows.ScopeRow.{ScopeRow}
use Rattle.sheet.specs.declared.rows.DeclarationRow.{DeclarationRow}
use Rattle.sheet.specs.declared.rows.NodeRow.{NodeRow}
use Rattle.sheet.specs.declared.table.Table.{Table}
use Rattle.screen.specs.declared.answer.Line.{Line}
use Rattle.sheet.specs.declared.sheet.Sheet.{Sheet}
use Rattle.sheet.specs.declared.sheet.Work.{Work}

-- a table's rows, and how many of them are put
pub record Stored (T : Type 0) : Type 0 where
  pub rows : List T
  pub count : ℕ

-- the rows that are put
abbrev pub items : {T : Type 0} → Stored T → List T
items t = take t.count t.rows

-- the count does not pass the rows
abbrev pub CountWithin : {T : Type 0} → Stored T → Type 0
CountWithin t = t.count ≤ length t.rows

-- a table in lent memory
abbrev pub stored : {T : Type 0} → Table T → Stored T
stored t = record { rows = t.rows.now; count = t.count }

-- the memory of a sheet
pub record Memory : Type 0 where
  pub types : Stored TypeRow
  pub identifiers : Stored IdentifierRow
  pub paths : Stored PathRow
  pub scopes : Stored ScopeRow
  pub dependencies : Stored DependencyRow
  pub declarations : Stored DeclarationRow
  pub reads : Stored ReadRow
  pub values : Stored ValueRow
  pub shapes : Stored ShapeRow
  pub nodes : Stored NodeRow
  pub innermost : ℕ

abbrev pub memory : Sheet → Memory
memory s =
    record {
      types = stored s.types;
      identifiers = stored s.identifiers;
      paths = stored s.paths;
      scopes = stored s.scopes;
      dependencies = stored s.dependencies;
      declarations = stored s.declarations;
      reads = stored s.reads;
      values = stored s.values;
      shapes = stored s.shapes;
      nodes = stored s.nodes;
      innermost = s.innermost;
    }

-- the memory of the work tables
pub record WorkMemory : Type 0 where
  pub lines : List Line
  pub uses : List ℕ
  pub sources : List ℕ
  pub targets : List ℕ
  pub scratch : List DependencyRow

abbrev pub work_memory : Work → WorkMemory
work_memory w = record { lines = w.lines.now; uses = w.uses.now; sources = w.sources.now; targets = w.targets.now; scratch = w.scratch.now }
