-- The open nodes: the last children from the body down, so many of them.
use Rattle.std.specs.Prelude.{ℕ, zero, suc, Bool, true, false, not, ◌&&◌}
use Rattle.screen.specs.Forest.{Forest, bare, tree, is_add, ◌⊕◌}
use Rattle.screen.specs.declared.node.Node.{Node}

-- so many nodes are there to be open, and Open made each
abbrev pub opens : ℕ → Forest → Bool
opens zero f = true
opens (suc d) bare = false
opens (suc d) (tree m y cs bare) = not (is_add y) && opens d cs
opens (suc d) (tree m y cs (tree k z ds ts)) = opens (suc d) (tree k z ds ts)

-- a node's number and what it is
pub record Spot : Type 0 where
  pub number : ℕ
  pub node : Node

-- the innermost open node, where `at` holds the forest
abbrev pub innermost : Spot → ℕ → Forest → Spot
innermost at zero f = at
innermost at (suc d) bare = at
innermost at (suc d) (tree m y cs bare) = innermost (record { number = m; node = y }) d cs
innermost at (suc d) (tree m y cs (tree k z ds ts)) = innermost at (suc d) (tree k z ds ts)

-- a new node goes last into the innermost open node
abbrev pub grow : ℕ → ℕ → Node → Forest → Forest
grow zero n x f = f ⊕ tree n x bare bare
grow (suc d) n x bare = bare
grow (suc d) n x (tree m y cs bare) = tree m y (grow d n x cs) bare
grow (suc d) n x (tree m y cs (tree k z ds ts)) = tree m y cs (grow (suc d) n x (tree k z ds ts))
