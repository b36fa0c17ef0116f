-- What an examination of the tables finds, part by part.
use Rattle.std.specs.Prelude.{ℕ, ◌≤◌, Bool, ◌&&◌, List, length}
use Rattle.screen.specs.Lists.{every}
use Rattle.screen.specs.Records.{type_record, identifier_record, path_record, dependency_record, declaration_record, read_record, shape_record}
use Rattle.screen.specs.State.{Rows, Scope}
use Rattle.screen.specs.Forest.{Forest}
use Rattle.screen.specs.WellFormed.{kept, RowsKept, ScopesKept}
use Rattle.screen.specs.declared.scope.Status.{Status}
use Rattle.sheet.specs.Tables.{Memory, items}
use Rattle.sheet.specs.Chains.{Chained}
use Rattle.sheet.specs.Planted.{Planted, statuses_of}
use Rattle.sheet.specs.Holds.{rows_of, RecordsListed}

-- no table counts more rows than its limit
pub record Fitted (m : Memory) : Type 0 where
  pub types : m.types.count ≤ 256
  pub identifiers : m.identifiers.count ≤ 1024
  pub paths : m.paths.count ≤ 1024
  pub scopes : m.scopes.count ≤ 256
  pub dependencies : m.dependencies.count ≤ 1024
  pub declarations : m.declarations.count ≤ 1024
  pub reads : m.reads.count ≤ 1024
  pub values : m.values.count ≤ 1024
  pub shapes : m.shapes.count ≤ 16
  pub nodes : m.nodes.count ≤ 1024

-- the types, identifiers and path entries keep their records' lists and name put rows
abbrev pub front_kept : Rows → List Status → Bool
front_kept w ss =
    every (λ t. kept w ss (type_record t)) w.types && every (λ i. kept w ss (identifier_record i)) w.identifiers && every (λ p. kept w ss (path_record p)) w.paths

-- the same of dependencies, declarations and reads
abbrev pub middle_kept : Rows → List Status → Bool
middle_kept w ss =
    every (λ d. kept w ss (dependency_record d)) w.dependencies && every (λ d. kept w ss (declaration_record d.key d.declared)) w.declarations
    && every (λ r. kept w ss (read_record r)) w.reads

-- the same of own shapes
abbrev pub shapes_kept : Rows → List Status → Bool
shapes_kept w ss = every (λ s. kept w ss (shape_record s)) w.shapes

-- every row by itself, and who uses the values
pub record RowsSound (m : Memory) : Type 0 where
  pub kept : RowsKept (rows_of m) (statuses_of (items m.scopes))
  pub records : RecordsListed (items m.nodes)

-- the rows of Scopes and declarations hold some Scopes that are as they should be
abbrev pub ScopesSound : Memory → Type 0
ScopesSound m = (ss : List Scope) × Chained (items m.scopes) (items m.declarations) ss × ScopesKept ss m.dependencies.count (length (items m.declarations))

-- the node rows hold some tree that is as it should be
abbrev pub TreeSound : Memory → Type 0
TreeSound m = (f : Forest) × (o : ℕ) × Planted (items m.nodes) (statuses_of (items m.scopes)) m.innermost f o
