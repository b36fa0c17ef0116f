-- When an entry is refused, each reason by itself; the first that fits is the answer.
use Rattle.std.specs.Prelude.{ℕ, ◌-◌, Bool, false, cond, not, ◌&&◌, List, [], ◌∷◌, map, length, Some, None, Option, ◌==◌, nat_le, nat_lt, slice_index_or}
use Rattle.screen.specs.Forest.{can_hold, is_add}
use Rattle.screen.specs.Open.{innermost}
use Rattle.screen.specs.State.{State, Rows, Scope}
use Rattle.screen.specs.Statuses.{is_unused}
use Rattle.screen.specs.Named.{named}
use Rattle.screen.specs.Lists.{present}
use Rattle.screen.specs.Users.{names_of, namings, taken}
use Rattle.screen.specs.Levels.{level_after, levels_of}
use Rattle.screen.specs.declared.node.Node.{Node}
use Rattle.screen.specs.declared.node.Node.TheVariants as node
use Rattle.screen.specs.declared.scope.Status.{Status}
use Rattle.screen.specs.declared.scope.Status.TheVariants.{Unused}
use Rattle.screen.specs.declared.entry.Entry.{Entry}
use Rattle.screen.specs.declared.entry.Entry.TheVariants as entry
use Rattle.screen.specs.declared.entry.Put.{Put}
use Rattle.screen.specs.declared.entry.Put.TheVariants as put
use Rattle.screen.specs.declared.entry.Part.{Part}
use Rattle.screen.specs.declared.entry.Part.TheVariants as part
use Rattle.screen.specs.declared.answer.Refusal.{Refusal}
use Rattle.screen.specs.declared.answer.Refusal.TheVariants as refusal

-- how the Scopes stand
abbrev pub statuses : List Scope → List Status
statuses ss = map (λ k. k.status) ss

-- Scope k is not unused
abbrev pub in_use : List Status → ℕ → Bool
in_use ss k = not (is_unused (slice_index_or ss k Unused))

-- a value that a node names has a user, or its Scope is not unused
abbrev pub node_used : List ℕ → List Status → Node → Bool
node_used names ss node.Body = false
node_used names ss (node.Add o v t) = taken names (v ∷ [])
node_used names ss (node.Terminal k o v) = taken names (present (v ∷ []))
node_used names ss node.Arm = false
node_used names ss (node.Scope k) = in_use ss k
node_used names ss (node.Pruned k) = false

-- a value that is named has a user or is named twice, or a Scope is not unused: the one to be opened, or the one put last
abbrev pub used : Rows → List Status → Entry → Bool
used rows ss (entry.Put p) = false
used rows ss (entry.Part p) = in_use ss (length ss - 1)
used rows ss (entry.Value v) = taken (namings rows.values rows.nodes) (names_of v)
used rows ss (entry.Node x) = node_used (namings rows.values rows.nodes) ss x
used rows ss entry.Close = false
used rows ss entry.List = false

-- a value's level would pass 64
abbrev pub deep : Rows → Entry → Bool
deep rows (entry.Put p) = false
deep rows (entry.Part p) = false
deep rows (entry.Value v) = nat_lt 64 (level_after (levels_of rows.values) v)
deep rows (entry.Node x) = false
deep rows entry.Close = false
deep rows entry.List = false

-- a table that may hold `limit` rows has no room
abbrev pub full : {A : Type 0} → ℕ → List A → Bool
full limit rows = nat_le limit (length rows)

abbrev pub put_full : Rows → List Status → Put → Bool
put_full rows ss (put.Type k s) = full 256 rows.types
put_full rows ss (put.Identifier i) = full 1024 rows.identifiers
put_full rows ss (put.Path l h k o) = full 1024 rows.paths
put_full rows ss (put.Scope a z) = full 256 ss
put_full rows ss (put.Read r) = full 1024 rows.reads
put_full rows ss (put.Shape s) = full 16 rows.shapes

abbrev pub part_full : Rows → Part → Bool
part_full rows (part.Dependency d) = full 1024 rows.dependencies
part_full rows (part.Declaration k d) = full 1024 rows.declarations
part_full rows (part.Reassignment i) = false

-- the entry's table is at its limit
abbrev pub no_room : Rows → List Status → Entry → Bool
no_room rows ss (entry.Put p) = put_full rows ss p
no_room rows ss (entry.Part p) = part_full rows p
no_room rows ss (entry.Value v) = full 1024 rows.values
no_room rows ss (entry.Node x) = full 1024 rows.nodes
no_room rows ss entry.Close = false
no_room rows ss entry.List = false

-- the innermost open node, `top`, cannot hold this child, or Close finds only the body, of `o` open nodes below it
abbrev pub misplaced : Node → ℕ → Entry → Bool
misplaced top o (entry.Put p) = false
misplaced top o (entry.Part p) = false
misplaced top o (entry.Value v) = false
misplaced top o (entry.Node x) = not (can_hold top x)
misplaced top o entry.Close = o == 0
misplaced top o entry.List = false

-- Open finds 64 nodes open, the body counted
abbrev pub crowded : ℕ → Entry → Bool
crowded o (entry.Put p) = false
crowded o (entry.Part p) = false
crowded o (entry.Value v) = false
crowded o (entry.Node x) = not (is_add x) && nat_le 63 o
crowded o entry.Close = false
crowded o entry.List = false

-- the first reason that fits, by what it is asked of
abbrev pub refused_by : Rows → List Status → Node → ℕ → Entry → Option Refusal
refused_by rows ss top o e =
    cond (not (named rows ss e)) (Some refusal.Row)
    (cond (used rows ss e) (Some refusal.Used)
    (cond (deep rows e) (Some refusal.Deep)
    (cond (no_room rows ss e) (Some refusal.Full)
    (cond (misplaced top o e) (Some refusal.Place)
    (cond (crowded o e) (Some refusal.Open) None)))))

-- the innermost open node of a sheet
abbrev pub top_of : State → Node
top_of σ = (innermost (record { number = 0; node = node.Body }) σ.opened σ.tree).node

-- why a sheet refuses an entry, if it does
abbrev pub refused_of : State → Entry → Option Refusal
refused_of σ e = refused_by σ.rows (statuses σ.scopes) (top_of σ) σ.opened e
