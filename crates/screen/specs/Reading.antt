-- A tree read from its first node on, its Scopes left out but not their content.
use Rattle.std.specs.Prelude.{List, [], ◌∷◌, ◌++◌}
use Rattle.screen.specs.Forest.{Forest, bare, tree}
use Rattle.screen.specs.declared.node.Node.{Node}
use Rattle.screen.specs.declared.node.Node.TheVariants.{Body, Add, Terminal, Arm, Scope, Pruned}

-- a node's record, or `close`
pub data Item : Type 0 where
  entered : Node → Item
  close : Item

-- a node and its content: `close` follows unless Add made it, and a Scope leaves no trace
abbrev pub wrapped : Node → List Item → List Item
wrapped Body l = entered Body ∷ (l ++ close ∷ [])
wrapped (Add o v t) l = entered (Add o v t) ∷ l
wrapped (Terminal k o v) l = entered (Terminal k o v) ∷ (l ++ close ∷ [])
wrapped Arm l = entered Arm ∷ (l ++ close ∷ [])
wrapped (Scope k) l = l
wrapped (Pruned k) l = entered (Pruned k) ∷ (l ++ close ∷ [])

-- siblings in order, none of them open
abbrev pub reading : Forest → List Item
reading bare = []
reading (tree n x cs ss) = wrapped x (reading cs) ++ reading ss
