-- Room for one row more, and what else a write asks of the memory.
use Rattle.std.specs.Prelude.{ℕ, ◌<◌, length, ◌≢◌}
use Rattle.screen.specs.declared.entry.Put.{Put}
use Rattle.screen.specs.declared.entry.Put.TheVariants as put
use Rattle.screen.specs.declared.entry.Part.{Part}
use Rattle.screen.specs.declared.entry.Part.TheVariants as part
use Rattle.screen.specs.declared.node.Node.{Node}
use Rattle.screen.specs.declared.node.Node.TheVariants as node
use Rattle.screen.specs.declared.entry.Entry.{Entry}
use Rattle.screen.specs.declared.entry.Entry.TheVariants as entry
use Rattle.sheet.specs.Tables.{Stored, Memory, items, CountWithin}
use Rattle.sheet.specs.Links.{row}
use Rattle.sheet.specs.Written.{first_declared}

-- a table has room: a row is left, and its limit is not reached
pub record Room {T : Type 0} (t : Stored T) : Type 0 where
  pub left : t.count < length t.rows
  pub few : t.count < 1024

abbrev pub PutRoom : Memory → Put → Type 0
PutRoom m (put.Type k s) = Room m.types
PutRoom m (put.Identifier i) = Room m.identifiers
PutRoom m (put.Path l h k o) = Room m.paths
PutRoom m (put.Scope a z) = Room m.scopes
PutRoom m (put.Read r) = Room m.reads
PutRoom m (put.Shape s) = Room m.shapes

-- there is a Scope put last
pub record LastRoom (m : Memory) : Type 0 where
  pub some : 0 < m.scopes.count
  pub within : CountWithin m.scopes

-- its list, if there is one, begins at a row that is put
pub record DeclarationRoom (m : Memory) : Type 0 where
  pub last : LastRoom m
  pub room : Room m.declarations
  pub first : (first_declared m ≢ 4294967295) → first_declared m < m.declarations.count

abbrev pub PartRoom : Memory → Part → Type 0
PartRoom m (part.Dependency d) = Room m.dependencies
PartRoom m (part.Declaration k d) = DeclarationRoom m
PartRoom m (part.Reassignment i) = LastRoom m

-- room for a new last child of the innermost open node
pub record ChildRoom (m : Memory) : Type 0 where
  pub room : Room m.nodes
  pub within : m.innermost < m.nodes.count
  pub last : ((row (items m.nodes) m.innermost).last ≢ 4294967295) → (row (items m.nodes) m.innermost).last < m.nodes.count

-- Scope k is put
pub record ScopeRoom (m : Memory) (k : ℕ) : Type 0 where
  pub put : k < m.scopes.count
  pub within : CountWithin m.scopes

-- a Scope to be opened is put
abbrev pub OpenRoom : Memory → Node → Type 0
OpenRoom m node.Body = Unit {0}
OpenRoom m (node.Add o v t) = Unit {0}
OpenRoom m (node.Terminal k o v) = Unit {0}
OpenRoom m node.Arm = Unit {0}
OpenRoom m (node.Scope k) = ScopeRoom m k
OpenRoom m (node.Pruned k) = Unit {0}

pub record NodeRoom (m : Memory) (x : Node) : Type 0 where
  pub child : ChildRoom m
  pub opens : OpenRoom m x

abbrev pub EntryRoom : Memory → Entry → Type 0
EntryRoom m (entry.Put p) = PutRoom m p
EntryRoom m (entry.Part p) = PartRoom m p
EntryRoom m (entry.Value v) = Room m.values
EntryRoom m (entry.Node x) = NodeRoom m x
EntryRoom m entry.Close = m.innermost < length m.nodes.rows
EntryRoom m entry.List = Unit {0}
