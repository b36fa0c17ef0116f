-- Trees of numbered nodes: the nodes of a forest are siblings, each with its children.
use Rattle.std.specs.Prelude.{ℕ, zero, suc, ◌+◌, Bool, true, false, cond, not, ◌&&◌, ◌==◌}
use Rattle.screen.specs.declared.node.Node.{Node}
use Rattle.screen.specs.declared.node.Node.TheVariants.{Body, Add, Terminal, Arm, Scope, Pruned}

pub data Forest : Type 0 where
  bare : Forest
  -- a node's number, what it is, its children, and its later siblings
  tree : ℕ → Node → Forest → Forest → Forest

-- one forest after the other
infixr 40 ◌⊕◌
abbrev pub ◌⊕◌ : Forest → Forest → Forest
bare ⊕ g = g
(tree n x cs ss) ⊕ g = tree n x cs (ss ⊕ g)

-- 1 where the two are the same, else 0
abbrev pub same : ℕ → ℕ → ℕ
same k n = cond (k == n) 1 0

-- how often node k is there
abbrev pub cnt : ℕ → Forest → ℕ
cnt k bare = 0
cnt k (tree n x cs ss) = same k n + cnt k cs + cnt k ss

-- how many nodes there are
abbrev pub size : Forest → ℕ
size bare = 0
size (tree n x cs ss) = 1 + size cs + size ss

-- whether Add made it, so that it is closed at once and holds nothing
abbrev pub is_add : Node → Bool
is_add Body = false
is_add (Add o v t) = true
is_add (Terminal k o v) = false
is_add Arm = false
is_add (Scope k) = false
is_add (Pruned k) = false

abbrev pub is_arm : Node → Bool
is_arm Body = false
is_arm (Add o v t) = false
is_arm (Terminal k o v) = false
is_arm Arm = true
is_arm (Scope k) = false
is_arm (Pruned k) = false

-- whether the first can hold the second: a Terminal holds Arms, the body, an Arm, a Scope and a PrunedScope all but Arms
abbrev pub can_hold : Node → Node → Bool
can_hold Body x = not (is_arm x)
can_hold (Add o v t) x = false
can_hold (Terminal k o v) x = is_arm x
can_hold Arm x = not (is_arm x)
can_hold (Scope k) x = not (is_arm x)
can_hold (Pruned k) x = not (is_arm x)

-- each node can hold its children; p is the holder of the siblings
abbrev pub held : Node → Forest → Bool
held p bare = true
held p (tree n x cs ss) = can_hold p x && held x cs && held p ss

-- no node but an Add's lies over `room` levels down
abbrev pub shallow : ℕ → Forest → Bool
shallow room bare = true
shallow zero (tree n x cs ss) = is_add x && shallow zero cs && shallow zero ss
shallow (suc room) (tree n x cs ss) = shallow room cs && shallow (suc room) ss

-- the body, node 0, and its children
abbrev pub body : Forest → Forest
body f = tree 0 Body f bare
