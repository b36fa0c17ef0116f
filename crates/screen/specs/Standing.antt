-- What is true of a sheet's tree, beside its nodes and how its Scopes stand.
use Rattle.std.specs.Prelude.{◌≡◌, ℕ, ◌+◌, ◌<◌, ◌≤◌, true, cond, List, length, slice_index_or}
use Rattle.screen.specs.Forest.{Forest, bare, tree, body, cnt, same, held, shallow}
use Rattle.screen.specs.Open.{opens}
use Rattle.screen.specs.Statuses.{is_gone, is_standing}
use Rattle.screen.specs.declared.node.Node.{Node}
use Rattle.screen.specs.declared.node.Node.TheVariants.{Body, Add, Terminal, Arm, Scope, Pruned}
use Rattle.screen.specs.declared.scope.Status.{Status}
use Rattle.screen.specs.declared.scope.Status.TheVariants.{Unused}

-- how often a node should be in the tree: once, but never where it opened a Scope that is joined or flattened
abbrev pub reached : List Status → Node → ℕ
reached ss Body = 1
reached ss (Add o v t) = 1
reached ss (Terminal k o v) = 1
reached ss Arm = 1
reached ss (Scope k) = cond (is_gone (slice_index_or ss k Unused)) 0 1
reached ss (Pruned k) = 1

-- 1 where this node opened Scope k
abbrev pub opening : ℕ → Node → ℕ
opening k Body = 0
opening k (Add o v t) = 0
opening k (Terminal j o v) = 0
opening k Arm = 0
opening k (Scope j) = same k j
opening k (Pruned j) = 0

-- how many nodes of the forest opened Scope k
abbrev pub openings : ℕ → Forest → ℕ
openings k bare = 0
openings k (tree n x cs ss) = opening k x + openings k cs + openings k ss

-- each node of the forest is the one of that number
abbrev pub Labelled : List Node → Forest → Type 0
Labelled nodes bare = Unit {0}
Labelled nodes (tree n x cs ss) = (n < length nodes) × (slice_index_or nodes n Body ≡ x) × Labelled nodes cs × Labelled nodes ss

-- the tree f below the body, of which o nodes are open
pub record Standing (nodes : List Node) (ss : List Status) (f : Forest) (o : ℕ) : Type 0 where
  -- its nodes are those of the sheet
  pub labelled : Labelled nodes (body f)
  -- each node is reached once, but one that opened a joined or flattened Scope never
  pub once : (k : ℕ) → k < length nodes → cnt k (body f) ≡ reached ss (slice_index_or nodes k Body)
  -- a Scope stands exactly when one node of the tree opened it
  pub stands : (k : ℕ) → k < length ss → openings k f ≡ cond (is_standing (slice_index_or ss k Unused)) 1 0
  -- a node holds only children that it can hold
  pub holds : held Body f ≡ true
  -- a node but an Add's lies at most 63 levels below the body
  pub levels : shallow 63 f ≡ true
  -- the open nodes are last children from the body down, at most 64 with it
  pub last : opens o f ≡ true
  pub few : o ≤ 63
