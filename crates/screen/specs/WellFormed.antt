-- What is true of every sheet that records build: the clauses of soundness that speak of no link.
use Rattle.std.specs.Prelude.{◌≡◌, ℕ, ◌<◌, Bool, true, false, ◌&&◌, leb, List, [], ◌∷◌, ◌++◌, map, length, Some, None, Option, ◌==◌, nat_le, nat_lt, slice_index_or}
use Rattle.block.specs.declared.record.Record.{Record}
use Rattle.screen.specs.Lists.{every, member, distinct, gathered}
use Rattle.screen.specs.Values.{value_of}
use Rattle.screen.specs.Entries.{entry_of, order}
use Rattle.screen.specs.Records.{type_record, identifier_record, path_record, dependency_record, declaration_record, read_record, value_record, shape_record}
use Rattle.screen.specs.State.{State, Rows, Scope}
use Rattle.screen.specs.Statuses.{is_joined}
use Rattle.screen.specs.Named.{named, value_named, node_named}
use Rattle.screen.specs.Users.{namings}
use Rattle.screen.specs.Levels.{levels_of}
use Rattle.screen.specs.Refused.{statuses}
use Rattle.screen.specs.Standing.{Standing}
use Rattle.screen.specs.declared.node.Node.{Node}
use Rattle.screen.specs.declared.node.Node.TheVariants.{Body, Add, Terminal, Arm, Pruned}
use Rattle.screen.specs.declared.node.Node.TheVariants as node
use Rattle.screen.specs.declared.scope.Status.{Status}
use Rattle.screen.specs.declared.scope.Status.TheVariants.{Unused}
use Rattle.screen.specs.declared.rows.IdentifierRow.{IdentifierRow}
use Rattle.screen.specs.declared.rows.ReadRow.{ReadRow}
use Rattle.screen.specs.declared.rows.ValueRow.{ValueRow}
use Rattle.screen.specs.declared.entry.Entry.{Entry}

abbrev pub kept_by : Rows → List Status → Option Entry → Bool
kept_by w ss None = false
kept_by w ss (Some e) = named w ss e

-- a record's fields keep their list, and the rows that it names are put
abbrev pub kept : Rows → List Status → Record → Bool
kept w ss x = kept_by w ss (entry_of x)

abbrev pub is_listed : Option Entry → Bool
is_listed None = false
is_listed (Some e) = true

-- the same of a value's row, whose children are among the values before it
abbrev pub value_kept : List IdentifierRow → List ReadRow → List ValueRow → ValueRow → Bool
value_kept is rs before v = is_listed (entry_of (value_record v)) && value_named is rs before (value_of v)

abbrev pub values_kept : List IdentifierRow → List ReadRow → List ValueRow → List ValueRow → Bool
values_kept is rs before [] = true
values_kept is rs before (v ∷ vs) = value_kept is rs before v && values_kept is rs (before ++ v ∷ []) vs

-- a node's order keeps its list; the body is node 0 alone
abbrev pub node_listed : Node → Bool
node_listed Body = false
node_listed (Add o v t) = order o
node_listed (Terminal k o v) = order o
node_listed Arm = true
node_listed (node.Scope k) = true
node_listed (Pruned k) = true

abbrev pub nodes_kept : List IdentifierRow → List ValueRow → List Status → List Node → Bool
nodes_kept is vs ss [] = false
nodes_kept is vs ss (Body ∷ xs) = every (λ x. node_listed x && node_named is vs ss x) xs
nodes_kept is vs ss (Add o v t ∷ xs) = false
nodes_kept is vs ss (Terminal k o v ∷ xs) = false
nodes_kept is vs ss (Arm ∷ xs) = false
nodes_kept is vs ss (node.Scope k ∷ xs) = false
nodes_kept is vs ss (Pruned k ∷ xs) = false

-- no table has more rows than its limit
abbrev pub fits : Rows → List Status → Bool
fits w ss =
    nat_le (length w.types) 256 && nat_le (length w.identifiers) 1024 && nat_le (length w.paths) 1024 && nat_le (length ss) 256 && nat_le (length w.dependencies) 1024
    && nat_le (length w.declarations) 1024 && nat_le (length w.reads) 1024 && nat_le (length w.values) 1024 && nat_le (length w.shapes) 16 && nat_le (length w.nodes) 1024

-- each row keeps its record's list and names put rows
pub record RowsKept (w : Rows) (ss : List Status) : Type 0 where
  pub fitting : fits w ss ≡ true
  pub types : every (λ t. kept w ss (type_record t)) w.types ≡ true
  pub identifiers : every (λ i. kept w ss (identifier_record i)) w.identifiers ≡ true
  pub paths : every (λ p. kept w ss (path_record p)) w.paths ≡ true
  pub dependencies : every (λ d. kept w ss (dependency_record d)) w.dependencies ≡ true
  pub declarations : every (λ d. kept w ss (declaration_record d.key d.declared)) w.declarations ≡ true
  pub reads : every (λ r. kept w ss (read_record r)) w.reads ≡ true
  -- a value's children have lower numbers
  pub values : values_kept w.identifiers w.reads [] w.values ≡ true
  pub levels : every (λ n. leb n 64) (levels_of w.values) ≡ true
  pub shapes : every (λ s. kept w ss (shape_record s)) w.shapes ≡ true
  pub nodes : nodes_kept w.identifiers w.values ss w.nodes ≡ true
  -- each value has one user at most
  pub users : distinct (namings w.values w.nodes) ≡ true

-- the Scopes' dependencies lie one Scope's after the other's, from 0 on, up to the last
abbrev pub rises_to : ℕ → List ℕ → ℕ → Bool
rises_to low [] total = nat_le low total
rises_to low (b ∷ bs) total = nat_le low b && rises_to b bs total

abbrev pub spans_to : List ℕ → ℕ → Bool
spans_to [] total = total == 0
spans_to (b ∷ bs) total = b == 0 && rises_to b bs total

pub record ScopesKept (ss : List Scope) (dependencies declarations : ℕ) : Type 0 where
  -- the ends of a range are orders
  pub ranges : every (λ k. order k.start && order k.end) ss ≡ true
  pub spans : spans_to (map (λ k. k.begin) ss) dependencies ≡ true
  -- a declaration is in at most one Scope's list, once
  pub declared : distinct (gathered (λ k. k.declares) ss) ≡ true
  pub declarations_put : every (λ n. nat_lt n declarations) (gathered (λ k. k.declares) ss) ≡ true
  -- each joined Scope is in one merged list, and no other Scope in any
  pub merged : distinct (gathered (λ k. k.merged) ss) ≡ true
  pub merged_put : every (λ n. nat_lt n (length ss)) (gathered (λ k. k.merged) ss) ≡ true
  pub joined : (k : ℕ) → k < length ss → member k (gathered (λ j. j.merged) ss) ≡ is_joined (slice_index_or (statuses ss) k Unused)

-- a sheet as records build it
pub record WellFormed (σ : State) : Type 0 where
  pub rows : RowsKept σ.rows (statuses σ.scopes)
  pub scopes : ScopesKept σ.scopes (length σ.rows.dependencies) (length σ.rows.declarations)
  pub tree : Standing σ.rows.nodes (statuses σ.scopes) σ.tree σ.opened
