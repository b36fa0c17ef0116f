-- What an accepted entry writes into the memory.
use Rattle.std.specs.Prelude.{◌≡◌, ℕ, ◌+◌, ◌-◌, cond, length, get_or, drop, ◌==◌, slice_index_or, slice_set}
use Rattle.block.specs.declared.record.Record.{Record}
use Rattle.screen.specs.Records.{type_row, path_row}
use Rattle.screen.specs.declared.rows.TypeRow.{TypeRow}
use Rattle.screen.specs.declared.rows.IdentifierRow.{IdentifierRow}
use Rattle.screen.specs.declared.rows.PathRow.{PathRow}
use Rattle.sheet.specs.declared.rows.ScopeRow.{ScopeRow}
use Rattle.screen.specs.declared.rows.DependencyRow.{DependencyRow}
use Rattle.sheet.specs.declared.rows.DeclarationRow.{DeclarationRow}
use Rattle.screen.specs.declared.rows.ReadRow.{ReadRow}
use Rattle.screen.specs.declared.rows.ValueRow.{ValueRow}
use Rattle.screen.specs.declared.rows.ShapeRow.{ShapeRow}
use Rattle.sheet.specs.declared.rows.NodeRow.{NodeRow}
use Rattle.screen.specs.declared.entry.Put.{Put}
use Rattle.screen.specs.declared.entry.Put.TheVariants as put
use Rattle.screen.specs.declared.entry.Part.{Part}
use Rattle.screen.specs.declared.entry.Part.TheVariants as part
use Rattle.screen.specs.declared.node.Node.{Node}
use Rattle.screen.specs.declared.node.Node.TheVariants as node
use Rattle.screen.specs.declared.entry.Entry.{Entry}
use Rattle.screen.specs.declared.entry.Entry.TheVariants as entry
use Rattle.sheet.specs.Tables.{Stored, Memory, items}
use Rattle.sheet.specs.Links.{no_record}
use Rattle.sheet.specs.Chains.{no_scope, no_declaration}
use Rattle.sheet.specs.Links.{row}
use Rattle.sheet.specs.Appended.{appended}
use Rattle.sheet.specs.Ends.{end_of}

-- one row more
abbrev pub pushed : {T : Type 0} → Stored T → T → Stored T
pushed t row = record { rows = slice_set t.rows t.count row; count = t.count + 1 }

-- row k changed
abbrev pub changed : {T : Type 0} → Stored T → ℕ → T → Stored T
changed t k row = record { rows = slice_set t.rows k row; count = t.count }

-- the memory with another table
abbrev pub with_types : Memory → Stored TypeRow → Memory
with_types m x = record { types = x; identifiers = m.identifiers; paths = m.paths; scopes = m.scopes; dependencies = m.dependencies; declarations = m.declarations; reads = m.reads; values = m.values; shapes = m.shapes; nodes = m.nodes; innermost = m.innermost }

abbrev pub with_identifiers : Memory → Stored IdentifierRow → Memory
with_identifiers m x = record { types = m.types; identifiers = x; paths = m.paths; scopes = m.scopes; dependencies = m.dependencies; declarations = m.declarations; reads = m.reads; values = m.values; shapes = m.shapes; nodes = m.nodes; innermost = m.innermost }

abbrev pub with_paths : Memory → Stored PathRow → Memory
with_paths m x = record { types = m.types; identifiers = m.identifiers; paths = x; scopes = m.scopes; dependencies = m.dependencies; declarations = m.declarations; reads = m.reads; values = m.values; shapes = m.shapes; nodes = m.nodes; innermost = m.innermost }

abbrev pub with_scopes : Memory → Stored ScopeRow → Memory
with_scopes m x = record { types = m.types; identifiers = m.identifiers; paths = m.paths; scopes = x; dependencies = m.dependencies; declarations = m.declarations; reads = m.reads; values = m.values; shapes = m.shapes; nodes = m.nodes; innermost = m.innermost }

abbrev pub with_dependencies : Memory → Stored DependencyRow → Memory
with_dependencies m x = record { types = m.types; identifiers = m.identifiers; paths = m.paths; scopes = m.scopes; dependencies = x; declarations = m.declarations; reads = m.reads; values = m.values; shapes = m.shapes; nodes = m.nodes; innermost = m.innermost }

abbrev pub with_declarations : Memory → Stored DeclarationRow → Memory
with_declarations m x = record { types = m.types; identifiers = m.identifiers; paths = m.paths; scopes = m.scopes; dependencies = m.dependencies; declarations = x; reads = m.reads; values = m.values; shapes = m.shapes; nodes = m.nodes; innermost = m.innermost }

abbrev pub with_reads : Memory → Stored ReadRow → Memory
with_reads m x = record { types = m.types; identifiers = m.identifiers; paths = m.paths; scopes = m.scopes; dependencies = m.dependencies; declarations = m.declarations; reads = x; values = m.values; shapes = m.shapes; nodes = m.nodes; innermost = m.innermost }

abbrev pub with_values : Memory → Stored ValueRow → Memory
with_values m x = record { types = m.types; identifiers = m.identifiers; paths = m.paths; scopes = m.scopes; dependencies = m.dependencies; declarations = m.declarations; reads = m.reads; values = x; shapes = m.shapes; nodes = m.nodes; innermost = m.innermost }

abbrev pub with_shapes : Memory → Stored ShapeRow → Memory
with_shapes m x = record { types = m.types; identifiers = m.identifiers; paths = m.paths; scopes = m.scopes; dependencies = m.dependencies; declarations = m.declarations; reads = m.reads; values = m.values; shapes = x; nodes = m.nodes; innermost = m.innermost }

abbrev pub with_nodes : Memory → Stored NodeRow → Memory
with_nodes m x = record { types = m.types; identifiers = m.identifiers; paths = m.paths; scopes = m.scopes; dependencies = m.dependencies; declarations = m.declarations; reads = m.reads; values = m.values; shapes = m.shapes; nodes = x; innermost = m.innermost }

abbrev pub with_innermost : Memory → ℕ → Memory
with_innermost m n = record { types = m.types; identifiers = m.identifiers; paths = m.paths; scopes = m.scopes; dependencies = m.dependencies; declarations = m.declarations; reads = m.reads; values = m.values; shapes = m.shapes; nodes = m.nodes; innermost = n }

-- a new Scope's row: unused, with no list, its dependencies to begin after those that are put
abbrev pub new_scope : ℕ → ℕ → ℕ → ScopeRow
new_scope a z begin = record { start = a; end = z; begin = begin; first = 4294967295; merged = 4294967295; next = 4294967295; status = 0; reassigns = 0 }

-- a new row
abbrev pub put_in : Memory → Put → Memory
put_in m (put.Type k s) = with_types m (pushed m.types (type_row k s))
put_in m (put.Identifier i) = with_identifiers m (pushed m.identifiers i)
put_in m (put.Path l h k o) = with_paths m (pushed m.paths (path_row l h k o))
put_in m (put.Scope a z) = with_scopes m (pushed m.scopes (new_scope a z m.dependencies.count))
put_in m (put.Read r) = with_reads m (pushed m.reads r)
put_in m (put.Shape s) = with_shapes m (pushed m.shapes s)

-- Scope k's row with its first declaration, its status or its reassigning changed
abbrev pub starting_at : ℕ → ScopeRow → ScopeRow
starting_at n r = record { start = r.start; end = r.end; begin = r.begin; first = n; merged = r.merged; next = r.next; status = r.status; reassigns = r.reassigns }

abbrev pub standing : ScopeRow → ScopeRow
standing r = record { start = r.start; end = r.end; begin = r.begin; first = r.first; merged = r.merged; next = r.next; status = 1; reassigns = r.reassigns }

abbrev pub reassigning : ScopeRow → ScopeRow
reassigning r = record { start = r.start; end = r.end; begin = r.begin; first = r.first; merged = r.merged; next = r.next; status = r.status; reassigns = 1 }

abbrev pub change_scope : Stored ScopeRow → ℕ → (ScopeRow → ScopeRow) → Stored ScopeRow
change_scope t k f = changed t k (f (slice_index_or t.rows k no_scope))

-- a declaration's row with another next
abbrev pub followed_by : ℕ → DeclarationRow → DeclarationRow
followed_by n d = record { key = d.key; declared = d.declared; next = n }

abbrev pub change_declaration : Stored DeclarationRow → ℕ → (DeclarationRow → DeclarationRow) → Stored DeclarationRow
change_declaration t k f = changed t k (f (slice_index_or t.rows k no_declaration))

-- a new declaration's row, the last of its list
abbrev pub new_declaration : ℕ → ℕ → DeclarationRow
new_declaration k d = record { key = k; declared = d; next = 4294967295 }

-- the number of the Scope put last, and the first row of its declarations
abbrev pub last_scope : Memory → ℕ
last_scope m = m.scopes.count - 1

abbrev pub first_declared : Memory → ℕ
first_declared m = (get_or m.scopes.rows (last_scope m) no_scope).first

-- a new declaration is the first of the Scope put last, or follows the last one there
abbrev pub declared_first : Memory → ℕ → ℕ → Memory
declared_first m k d = with_scopes (with_declarations m (pushed m.declarations (new_declaration k d))) (change_scope m.scopes (last_scope m) (starting_at m.declarations.count))

abbrev pub declared_next : Memory → ℕ → ℕ → Memory
declared_next m k d = with_declarations m (change_declaration (pushed m.declarations (new_declaration k d)) (end_of (items m.declarations) (first_declared m)) (followed_by m.declarations.count))

-- a part of the Scope put last
abbrev pub part_in : Memory → Part → Memory
part_in m (part.Dependency d) = with_dependencies m (pushed m.dependencies d)
part_in m (part.Declaration k d) = cond (first_declared m == 4294967295) (declared_first m k d) (declared_next m k d)
part_in m (part.Reassignment i) = with_scopes m (change_scope m.scopes (last_scope m) reassigning)

-- a new value
abbrev pub value_in : Memory → ValueRow → Memory
value_in m v = with_values m (pushed m.values v)

-- the node rows with a new last child of p
pub record NodePut (old : Stored NodeRow) (p : ℕ) (made : Record) (new : Stored NodeRow) : Type 0 where
  pub rows : items new ≡ appended (items old) p made
  pub count : new.count ≡ old.count + 1
  pub rest : drop (old.count + 1) new.rows ≡ drop (old.count + 1) old.rows
  pub long : length new.rows ≡ length old.rows

-- a new node is the innermost unless Add made it, and a Scope that is opened stands
abbrev pub node_in : Memory → Stored NodeRow → Node → Memory
node_in m ns node.Body = with_innermost (with_nodes m ns) m.nodes.count
node_in m ns (node.Add o v t) = with_nodes m ns
node_in m ns (node.Terminal k o v) = with_innermost (with_nodes m ns) m.nodes.count
node_in m ns node.Arm = with_innermost (with_nodes m ns) m.nodes.count
node_in m ns (node.Scope k) = with_innermost (with_scopes (with_nodes m ns) (change_scope m.scopes k standing)) m.nodes.count
node_in m ns (node.Pruned k) = with_innermost (with_nodes m ns) m.nodes.count

pub record NodeIn (m : Memory) (made : Record) (x : Node) (after : Memory) : Type 0 where
  pub put : NodePut m.nodes m.innermost made after.nodes
  pub is : after ≡ node_in m after.nodes x

-- the innermost open node closed
abbrev pub closed_in : Memory → Memory
closed_in m = with_innermost m (row m.nodes.rows m.innermost).parent

-- the memory before and after an entry's write
abbrev pub Wrote : Memory → Record → Entry → Memory → Type 0
Wrote m made (entry.Put p) after = after ≡ put_in m p
Wrote m made (entry.Part p) after = after ≡ part_in m p
Wrote m made (entry.Value v) after = after ≡ value_in m v
Wrote m made (entry.Node x) after = NodeIn m made x after
Wrote m made entry.Close after = after ≡ closed_in m
Wrote m made entry.List after = after ≡ m

-- a table with no row put
abbrev pub emptied : {T : Type 0} → Stored T → Stored T
emptied t = record { rows = t.rows; count = 0 }

-- the body's row in a new sheet
abbrev pub body_row : NodeRow
body_row = record { made = no_record; parent = 4294967295; first = 4294967295; last = 4294967295; next = 4294967295 }

-- the memory of a new sheet: no row, and the body alone
abbrev pub cleared : Memory → Memory
cleared m =
    record {
      types = emptied m.types;
      identifiers = emptied m.identifiers;
      paths = emptied m.paths;
      scopes = emptied m.scopes;
      dependencies = emptied m.dependencies;
      declarations = emptied m.declarations;
      reads = emptied m.reads;
      values = emptied m.values;
      shapes = emptied m.shapes;
      nodes = record { rows = slice_set m.nodes.rows 0 body_row; count = 1 };
      innermost = 0;
    }
