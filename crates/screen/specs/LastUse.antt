-- The last use of a declaration: the largest order with which a read of it is visited.
use Rattle.std.specs.Prelude.{ℕ, zero, suc, max, cond, List, [], ◌∷◌, ◌++◌, map, take, drop, Some, None, Option, ◌==◌, slice_index_or}
use Rattle.screen.specs.Forest.{Forest, bare, tree}
use Rattle.screen.specs.Values.{value_of}
use Rattle.screen.specs.Named.{no_value}
use Rattle.screen.specs.Rules.{declaration_of}
use Rattle.screen.specs.State.{Rows, State}
use Rattle.screen.specs.declared.node.Node.{Node}
use Rattle.screen.specs.declared.node.Node.TheVariants.{Body, Add, Terminal, Arm, Scope, Pruned}
use Rattle.screen.specs.declared.rows.ReadRow.{ReadRow}
use Rattle.screen.specs.declared.value.Reads.{Reads}
use Rattle.screen.specs.declared.value.Value.{Value}
use Rattle.screen.specs.declared.value.Value.TheVariants as value

-- a read that is visited: with which order, and whose
pub record Visit : Type 0 where
  pub order : ℕ
  pub declaration : ℕ

-- a read's visit
abbrev pub visit_of : Rows → ℕ → ReadRow → Visit
visit_of w o r = record { order = o; declaration = declaration_of w.identifiers r.identifier }

-- an instruction visits each of its reads
abbrev pub reads_visited : Rows → ℕ → Reads → List Visit
reads_visited w o r = map (visit_of w o) (take r.count (drop r.first w.reads))

-- what is visited from a value that may be none
abbrev pub visits_at : (ℕ → List Visit) → Option ℕ → List Visit
visits_at go None = []
visits_at go (Some v) = go v

-- what is visited from a value with an order: children inherit it, but a sequence has its own for its value, and an inner instruction its own
abbrev pub visits_by : (ℕ → ℕ → List Visit) → Rows → ℕ → Value → List Visit
visits_by go w o (value.Other r) = reads_visited w o r
visits_by go w o (value.Simple r) = reads_visited w o r
visits_by go w o (value.LoadLocal r) = reads_visited w o r
visits_by go w o (value.StoreConst r s) = reads_visited w o r
visits_by go w o (value.StoreLocal r s) = reads_visited w o r
visits_by go w o (value.Logical a b) = go o a ++ go o b
visits_by go w o (value.Conditional a b c) = go o a ++ (go o b ++ go o c)
visits_by go w o (value.Sequence q v f) = visits_at (go o) f ++ go q v
visits_by go w o (value.Optional v) = go o v
visits_by go w o (value.Inner q v n) = go q v ++ visits_at (go o) n

-- the same down to a level; 64 reach every value of a sheet, since no value nests deeper
abbrev pub visits : ℕ → Rows → ℕ → ℕ → List Visit
visits zero w o v = []
visits (suc d) w o v = visits_by (visits d w) w o (value_of (slice_index_or w.values v no_value))

-- an instruction or a terminal visits its value with its own order
abbrev pub node_visits : Rows → Node → List Visit
node_visits w Body = []
node_visits w (Add o v t) = visits 64 w o v
node_visits w (Terminal k o v) = visits_at (visits 64 w o) v
node_visits w Arm = []
node_visits w (Scope k) = []
node_visits w (Pruned k) = []

-- all that a forest visits
abbrev pub visits_in : Rows → Forest → List Visit
visits_in w bare = []
visits_in w (tree n x cs ss) = node_visits w x ++ (visits_in w cs ++ visits_in w ss)

-- the larger of an order and one that may be none
abbrev pub later : ℕ → Option ℕ → Option ℕ
later o None = Some o
later o (Some p) = Some (max o p)

-- the largest order among a declaration's visits, or none
abbrev pub latest : ℕ → List Visit → Option ℕ
latest d [] = None
latest d (v ∷ vs) = cond (v.declaration == d) (later v.order (latest d vs)) (latest d vs)

-- the last use of a declaration in a sheet
abbrev pub last_use : State → ℕ → Option ℕ
last_use σ d = latest d (visits_in σ.rows σ.tree)
