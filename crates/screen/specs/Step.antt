-- One record's step: the answer, and the sheet afterwards.
use Rattle.std.specs.Prelude.{ℕ, ◌+◌, ◌-◌, true, false, cond, List, [], ◌∷◌, ◌++◌, map, length, Some, None, Ok, Err, Option, Result, slice_index_or, slice_set}
use Rattle.block.specs.declared.record.Record.{Record}
use Rattle.screen.specs.Entries.{entry_of}
use Rattle.screen.specs.Forest.{Forest, is_add}
use Rattle.screen.specs.Open.{grow}
use Rattle.screen.specs.State.{State, Rows, Scope, Declaration}
use Rattle.screen.specs.Lines.{lines_of}
use Rattle.screen.specs.Refused.{refused_of}
use Rattle.screen.specs.Records.{type_row, path_row}
use Rattle.screen.specs.declared.node.Node.{Node}
use Rattle.screen.specs.declared.node.Node.TheVariants as node
use Rattle.screen.specs.declared.scope.Status.TheVariants.{Unused, Standing}
use Rattle.screen.specs.declared.rows.TypeRow.{TypeRow}
use Rattle.screen.specs.declared.rows.IdentifierRow.{IdentifierRow}
use Rattle.screen.specs.declared.rows.PathRow.{PathRow}
use Rattle.screen.specs.declared.rows.DependencyRow.{DependencyRow}
use Rattle.screen.specs.declared.rows.ReadRow.{ReadRow}
use Rattle.screen.specs.declared.rows.ValueRow.{ValueRow}
use Rattle.screen.specs.declared.rows.ShapeRow.{ShapeRow}
use Rattle.screen.specs.declared.entry.Entry.{Entry}
use Rattle.screen.specs.declared.entry.Entry.TheVariants as entry
use Rattle.screen.specs.declared.entry.Put.{Put}
use Rattle.screen.specs.declared.entry.Put.TheVariants as put
use Rattle.screen.specs.declared.entry.Part.{Part}
use Rattle.screen.specs.declared.entry.Part.TheVariants as part
use Rattle.screen.specs.declared.answer.Answer.{Answer}
use Rattle.screen.specs.declared.answer.Answer.TheVariants as answer
use Rattle.screen.specs.declared.answer.Line.{Line}
use Rattle.screen.specs.declared.answer.Refusal.{Refusal}
use Rattle.screen.specs.declared.answer.Refusal.TheVariants as refusal

-- one more at the end
abbrev pub also : {A : Type 0} → List A → A → List A
also xs x = xs ++ x ∷ []

-- a Scope that was just put: unused, its dependencies to begin here
abbrev pub fresh : ℕ → ℕ → ℕ → Scope
fresh a z begin = record { start = a; end = z; status = Unused; reassigns = false; begin = begin; declares = []; merged = [] }

-- a Scope that stands, reassigns, or declares one row more
abbrev pub stood : Scope → Scope
stood k = record { start = k.start; end = k.end; status = Standing; reassigns = k.reassigns; begin = k.begin; declares = k.declares; merged = k.merged }

abbrev pub reassigned : Scope → Scope
reassigned k = record { start = k.start; end = k.end; status = k.status; reassigns = true; begin = k.begin; declares = k.declares; merged = k.merged }

abbrev pub declaring : ℕ → Scope → Scope
declaring n k = record { start = k.start; end = k.end; status = k.status; reassigns = k.reassigns; begin = k.begin; declares = also k.declares n; merged = k.merged }

-- Scope k changed
abbrev pub altered : List Scope → ℕ → (Scope → Scope) → List Scope
altered ss k f = slice_set ss k (f (slice_index_or ss k (fresh 0 0 0)))

-- the Scope put last changed
abbrev pub altered_last : List Scope → (Scope → Scope) → List Scope
altered_last ss f = altered ss (length ss - 1) f

-- the rows with another list for one table
abbrev pub with_types : Rows → List TypeRow → Rows
with_types w xs = record { types = xs; identifiers = w.identifiers; paths = w.paths; dependencies = w.dependencies; declarations = w.declarations; reads = w.reads; values = w.values; shapes = w.shapes; nodes = w.nodes }

abbrev pub with_identifiers : Rows → List IdentifierRow → Rows
with_identifiers w xs = record { types = w.types; identifiers = xs; paths = w.paths; dependencies = w.dependencies; declarations = w.declarations; reads = w.reads; values = w.values; shapes = w.shapes; nodes = w.nodes }

abbrev pub with_paths : Rows → List PathRow → Rows
with_paths w xs = record { types = w.types; identifiers = w.identifiers; paths = xs; dependencies = w.dependencies; declarations = w.declarations; reads = w.reads; values = w.values; shapes = w.shapes; nodes = w.nodes }

abbrev pub with_dependencies : Rows → List DependencyRow → Rows
with_dependencies w xs = record { types = w.types; identifiers = w.identifiers; paths = w.paths; dependencies = xs; declarations = w.declarations; reads = w.reads; values = w.values; shapes = w.shapes; nodes = w.nodes }

abbrev pub with_declarations : Rows → List Declaration → Rows
with_declarations w xs = record { types = w.types; identifiers = w.identifiers; paths = w.paths; dependencies = w.dependencies; declarations = xs; reads = w.reads; values = w.values; shapes = w.shapes; nodes = w.nodes }

abbrev pub with_reads : Rows → List ReadRow → Rows
with_reads w xs = record { types = w.types; identifiers = w.identifiers; paths = w.paths; dependencies = w.dependencies; declarations = w.declarations; reads = xs; values = w.values; shapes = w.shapes; nodes = w.nodes }

abbrev pub with_values : Rows → List ValueRow → Rows
with_values w xs = record { types = w.types; identifiers = w.identifiers; paths = w.paths; dependencies = w.dependencies; declarations = w.declarations; reads = w.reads; values = xs; shapes = w.shapes; nodes = w.nodes }

abbrev pub with_shapes : Rows → List ShapeRow → Rows
with_shapes w xs = record { types = w.types; identifiers = w.identifiers; paths = w.paths; dependencies = w.dependencies; declarations = w.declarations; reads = w.reads; values = w.values; shapes = xs; nodes = w.nodes }

abbrev pub with_nodes : Rows → List Node → Rows
with_nodes w xs = record { types = w.types; identifiers = w.identifiers; paths = w.paths; dependencies = w.dependencies; declarations = w.declarations; reads = w.reads; values = w.values; shapes = w.shapes; nodes = xs }

-- the rows after a new row
abbrev pub rows_put : Rows → Put → Rows
rows_put w (put.Type k s) = with_types w (also w.types (type_row k s))
rows_put w (put.Identifier i) = with_identifiers w (also w.identifiers i)
rows_put w (put.Path l h k o) = with_paths w (also w.paths (path_row l h k o))
rows_put w (put.Scope a z) = w
rows_put w (put.Read r) = with_reads w (also w.reads r)
rows_put w (put.Shape s) = with_shapes w (also w.shapes s)

abbrev pub rows_part : Rows → Part → Rows
rows_part w (part.Dependency d) = with_dependencies w (also w.dependencies d)
rows_part w (part.Declaration k d) = with_declarations w (also w.declarations (record { key = k; declared = d }))
rows_part w (part.Reassignment i) = w

-- the rows after an accepted entry
abbrev pub rows_after : Rows → Entry → Rows
rows_after w (entry.Put p) = rows_put w p
rows_after w (entry.Part p) = rows_part w p
rows_after w (entry.Value v) = with_values w (also w.values v)
rows_after w (entry.Node x) = with_nodes w (also w.nodes x)
rows_after w entry.Close = w
rows_after w entry.List = w

-- a node opened with p 2 makes its Scope stand
abbrev pub opened : List Scope → Node → List Scope
opened ss node.Body = ss
opened ss (node.Add o v t) = ss
opened ss (node.Terminal k o v) = ss
opened ss node.Arm = ss
opened ss (node.Scope k) = altered ss k stood
opened ss (node.Pruned k) = ss

-- a new Scope's dependencies begin after those that are put
abbrev pub scopes_put : List Scope → ℕ → Put → List Scope
scopes_put ss n (put.Type k s) = ss
scopes_put ss n (put.Identifier i) = ss
scopes_put ss n (put.Path l h k o) = ss
scopes_put ss n (put.Scope a z) = also ss (fresh a z n)
scopes_put ss n (put.Read r) = ss
scopes_put ss n (put.Shape s) = ss

-- a part goes to the Scope put last; a declaration by its row, n
abbrev pub scopes_part : List Scope → ℕ → Part → List Scope
scopes_part ss n (part.Dependency d) = ss
scopes_part ss n (part.Declaration k d) = altered_last ss (declaring n)
scopes_part ss n (part.Reassignment i) = altered_last ss reassigned

-- the Scopes after an accepted entry
abbrev pub scopes_after : Rows → List Scope → Entry → List Scope
scopes_after w ss (entry.Put p) = scopes_put ss (length w.dependencies) p
scopes_after w ss (entry.Part p) = scopes_part ss (length w.declarations) p
scopes_after w ss (entry.Value v) = ss
scopes_after w ss (entry.Node x) = opened ss x
scopes_after w ss entry.Close = ss
scopes_after w ss entry.List = ss

-- a node, n, goes last into the innermost open node
abbrev pub tree_after : ℕ → ℕ → Forest → Entry → Forest
tree_after o n f (entry.Put p) = f
tree_after o n f (entry.Part p) = f
tree_after o n f (entry.Value v) = f
tree_after o n f (entry.Node x) = grow o n x f
tree_after o n f entry.Close = f
tree_after o n f entry.List = f

-- Open opens one node more, Close closes the innermost
abbrev pub opened_after : ℕ → Entry → ℕ
opened_after o (entry.Put p) = o
opened_after o (entry.Part p) = o
opened_after o (entry.Value v) = o
opened_after o (entry.Node x) = cond (is_add x) o (o + 1)
opened_after o entry.Close = o - 1
opened_after o entry.List = o

-- the sheet after an accepted entry
abbrev pub after : State → Entry → State
after σ e = record { rows = rows_after σ.rows e; scopes = scopes_after σ.rows σ.scopes e; tree = tree_after σ.opened (length σ.rows.nodes) σ.tree e; opened = opened_after σ.opened e }

-- the lines that List writes of a sheet
abbrev pub listing : State → List Line
listing σ = lines_of (map (λ k. k.end) σ.scopes) 1 σ.tree

-- what an accepted entry answers
abbrev pub answer_to : State → Entry → Answer
answer_to σ (entry.Put p) = answer.Accepted
answer_to σ (entry.Part p) = answer.Accepted
answer_to σ (entry.Value v) = answer.Accepted
answer_to σ (entry.Node x) = answer.Accepted
answer_to σ entry.Close = answer.Accepted
answer_to σ entry.List = answer.Listed (length (listing σ))

-- an answer, and the sheet afterwards
pub record Outcome : Type 0 where
  pub answer : Result Answer Refusal
  pub sheet : State

-- a refusal changes nothing
abbrev pub refusing : State → Refusal → Outcome
refusing σ r = record { answer = Err r; sheet = σ }

abbrev pub taking : State → Entry → Option Refusal → Outcome
taking σ e None = record { answer = Ok (answer_to σ e); sheet = after σ e }
taking σ e (Some r) = refusing σ r

abbrev pub asked : State → Option Entry → Outcome
asked σ None = refusing σ refusal.Field
asked σ (Some e) = taking σ e (refused_of σ e)

-- one record on a sheet
abbrev pub step : State → Record → Outcome
step σ x = asked σ (entry_of x)
