-- One record's step with Merge, a run of records from a new sheet, and the log of a run.
use Rattle.std.specs.Prelude.{ℕ, zero, suc, ◌+◌, Bool, true, false, cond, ◌&&◌, List, [], ◌∷◌, ◌++◌, Some, None, Ok, Err, Option, Result, ◌==◌, nat_le}
use Rattle.block.specs.declared.record.Record.{Record}
use Rattle.screen.specs.Entries.{entry_of, blank}
use Rattle.screen.specs.Forest.{Forest, bare, tree, is_add}
use Rattle.screen.specs.Reading.{Item, entered, close, wrapped, reading}
use Rattle.screen.specs.Rules.{Meaning}
use Rattle.screen.specs.State.{State, new}
use Rattle.screen.specs.Step.{step}
use Rattle.screen.specs.Merge.{merge_of}
use Rattle.screen.specs.declared.node.Node.{Node}
use Rattle.screen.specs.declared.node.Node.TheVariants as node
use Rattle.screen.specs.declared.entry.Entry.{Entry}
use Rattle.screen.specs.declared.entry.Entry.TheVariants as entry
use Rattle.screen.specs.declared.answer.Answer.{Answer}
use Rattle.screen.specs.declared.answer.Refusal.{Refusal}

-- what a record is told
pub data Reply : Type 0 where
  -- any record but a Merge
  answered : Result Answer Refusal → Reply
  -- a Merge: how many Scopes it joined and flattened
  merged : ℕ → ℕ → Reply
  -- refusal 14: a Merge finds more than the body open
  more_open : Reply

-- the reply, and the sheet afterwards
pub record Stepped : Type 0 where
  pub reply : Reply
  pub sheet : State

-- a Merge whose fields keep their list
abbrev pub is_merge : Record → Bool
is_merge x = x.tag == 13 && nat_le x.p 1 && blank x.q && blank x.r && blank x.s && blank x.t

-- the rule that a Merge chooses: p 0 the first, 1 the second
abbrev pub chosen : Meaning → Meaning → Record → Meaning
chosen first second x = cond (x.p == 0) first second

-- a Merge that finds so many nodes open below the body; a refusal changes nothing
abbrev pub merge_at : Meaning → State → ℕ → Stepped
merge_at m σ zero = record { reply = merged (merge_of m σ).joined (merge_of m σ).flattened; sheet = (merge_of m σ).sheet }
merge_at m σ (suc o) = record { reply = more_open; sheet = σ }

abbrev pub step_if : Bool → Meaning → State → Record → Stepped
step_if true m σ x = merge_at m σ σ.opened
step_if false m σ x = record { reply = answered (step σ x).answer; sheet = (step σ x).sheet }

-- one record on a sheet, Merge among them, with two rules to choose from
abbrev pub step_by : Meaning → Meaning → State → Record → Stepped
step_by first second σ x = step_if (is_merge x) (chosen first second x) σ x

-- one step of a run: a record, and the two rules that it may choose from
pub record Asked : Type 0 where
  pub asks : Record
  pub first : Meaning
  pub second : Meaning

abbrev pub rule_of : Asked → Meaning
rule_of a = chosen a.first a.second a.asks

abbrev pub step_of : State → Asked → Stepped
step_of σ a = step_by a.first a.second σ a.asks

-- the sheet after these steps, from a sheet on
abbrev pub after_from : State → List Asked → State
after_from σ [] = σ
after_from σ (a ∷ h) = after_from (step_of σ a).sheet h

-- the sheet after a run from a new sheet
abbrev pub after_run : List Asked → State
after_run h = after_from new h

-- a record with what it was told
pub record Heard : Type 0 where
  pub asks : Record
  pub reply : Reply

abbrev pub heard_from : State → List Asked → List Heard
heard_from σ [] = []
heard_from σ (a ∷ h) = record { asks = a.asks; reply = (step_of σ a).reply } ∷ heard_from (step_of σ a).sheet h

-- the records of a run with their replies, in order
abbrev pub heard_in : List Asked → List Heard
heard_in h = heard_from new h

-- what the log holds: its items, and the nodes that were opened and not closed, the last one first
pub record Log : Type 0 where
  pub items : List Item
  pub held : List Node

abbrev pub new_log : Log
new_log = record { items = []; held = [] }

-- what a node puts into the log as it is made: a Scope leaves no trace
abbrev pub shown : Node → List Item
shown node.Body = entered node.Body ∷ []
shown (node.Add o v t) = entered (node.Add o v t) ∷ []
shown (node.Terminal k o v) = entered (node.Terminal k o v) ∷ []
shown node.Arm = entered node.Arm ∷ []
shown (node.Scope k) = []
shown (node.Pruned k) = entered (node.Pruned k) ∷ []

-- what a node puts there as it is closed; an Add's is never open
abbrev pub ended : Node → List Item
ended node.Body = close ∷ []
ended (node.Add o v t) = []
ended (node.Terminal k o v) = close ∷ []
ended node.Arm = close ∷ []
ended (node.Scope k) = []
ended (node.Pruned k) = close ∷ []

-- Open's node is held, Add's is not
abbrev pub holding : Bool → Node → List Node → List Node
holding true x xs = xs
holding false x xs = x ∷ xs

-- the one held last is let go
abbrev pub let_go : List Item → List Node → Log
let_go l [] = record { items = l; held = [] }
let_go l (x ∷ xs) = record { items = l ++ ended x; held = xs }

-- an accepted entry
abbrev pub logged_entry : Log → Entry → Log
logged_entry l (entry.Put p) = l
logged_entry l (entry.Part p) = l
logged_entry l (entry.Value v) = l
logged_entry l (entry.Node x) = record { items = l.items ++ shown x; held = holding (is_add x) x l.held }
logged_entry l entry.Close = let_go l.items l.held
logged_entry l entry.List = l

abbrev pub logged_by : Log → Option Entry → Log
logged_by l None = l
logged_by l (Some e) = logged_entry l e

-- the log is fed a record and its reply; what is refused changes nothing, nor does a Merge
abbrev pub fed : Log → Record → Reply → Log
fed l x (answered (Ok a)) = logged_by l (entry_of x)
fed l x (answered (Err r)) = l
fed l x (merged j f) = l
fed l x more_open = l

abbrev pub log_from : Log → List Heard → Log
log_from l [] = l
log_from l (e ∷ es) = log_from (fed l e.asks e.reply) es

-- the log of a run
abbrev pub log_of : List Asked → Log
log_of h = log_from new_log (heard_in h)

-- a tree read while nodes are open: the last children from the body down, so many of them, have no `close` yet
abbrev pub reading_open : ℕ → Forest → List Item
reading_open zero f = reading f
reading_open (suc d) bare = []
reading_open (suc d) (tree m y cs bare) = shown y ++ reading_open d cs
reading_open (suc d) (tree m y cs (tree k z ds ts)) = wrapped y (reading cs) ++ reading_open (suc d) (tree k z ds ts)

-- 1 where an entry opens a Scope
abbrev pub opens_node : Node → ℕ
opens_node node.Body = 0
opens_node (node.Add o v t) = 0
opens_node (node.Terminal k o v) = 0
opens_node node.Arm = 0
opens_node (node.Scope k) = 1
opens_node (node.Pruned k) = 0

abbrev pub opens_entry : Entry → ℕ
opens_entry (entry.Put p) = 0
opens_entry (entry.Part p) = 0
opens_entry (entry.Value v) = 0
opens_entry (entry.Node x) = opens_node x
opens_entry entry.Close = 0
opens_entry entry.List = 0

abbrev pub opens_by : Option Entry → ℕ
opens_by None = 0
opens_by (Some e) = opens_entry e

-- 1 for an accepted record that opens a Scope
abbrev pub opens_scope : Record → Reply → ℕ
opens_scope x (answered (Ok a)) = opens_by (entry_of x)
opens_scope x (answered (Err r)) = 0
opens_scope x (merged j f) = 0
opens_scope x more_open = 0

-- a Merge's two numbers; nothing for any other record
abbrev pub joined_by : Reply → ℕ
joined_by (answered a) = 0
joined_by (merged j f) = j
joined_by more_open = 0

abbrev pub flattened_by : Reply → ℕ
flattened_by (answered a) = 0
flattened_by (merged j f) = f
flattened_by more_open = 0

-- how many Scopes were opened, and the sums of the Merges' numbers
abbrev pub scope_opens : List Heard → ℕ
scope_opens [] = 0
scope_opens (e ∷ es) = opens_scope e.asks e.reply + scope_opens es

abbrev pub sum_joined : List Heard → ℕ
sum_joined [] = 0
sum_joined (e ∷ es) = joined_by e.reply + sum_joined es

abbrev pub sum_flattened : List Heard → ℕ
sum_flattened [] = 0
sum_flattened (e ∷ es) = flattened_by e.reply + sum_flattened es
