-- The lines that List writes: each node but the body, a node before its children, siblings in order.
use Rattle.std.specs.Prelude.{ℕ, ◌+◌, List, [], ◌∷◌, ◌++◌, slice_index, cond, codes, decimal, encode_utf8, ◌==◌}
use Rattle.screen.specs.Forest.{Forest, bare, tree}
use Rattle.screen.specs.declared.node.Node.{Node}
use Rattle.screen.specs.declared.node.Node.TheVariants.{Body, Add, Terminal, Arm, Scope, Pruned}
use Rattle.screen.specs.declared.answer.Line.{Line}

-- a line with no Scope
abbrev pub plain : ℕ → ℕ → ℕ → Line
plain level n letter = record { level = level; node = n; scope = 4294967295; end = 4294967295; letter = letter }

-- a node's line: I, T, A, S or P, and for S its Scope and where that ends
abbrev pub line_of : List ℕ → ℕ → ℕ → Node → Line
line_of ends level n Body = plain level n 66
line_of ends level n (Add o v t) = plain level n 73
line_of ends level n (Terminal k o v) = plain level n 84
line_of ends level n Arm = plain level n 65
line_of ends level n (Scope k) = record { level = level; node = n; scope = k; end = slice_index ends k; letter = 83 }
line_of ends level n (Pruned k) = plain level n 80

-- the lines of a forest at a level, by where each Scope ends
abbrev pub lines_of : List ℕ → ℕ → Forest → List Line
lines_of ends level bare = []
lines_of ends level (tree n x cs ss) = line_of ends level n x ∷ (lines_of ends (level + 1) cs ++ lines_of ends level ss)

-- a line as text: its level, letter and node, and for S also its Scope and where that ends
abbrev pub line_text : Line → List ℕ
line_text l = decimal l.level ++ codes " " ++ encode_utf8 l.letter ++ codes " " ++ decimal l.node ++ cond (l.letter == 83) (codes " " ++ decimal l.scope ++ codes " " ++ decimal l.end) []
