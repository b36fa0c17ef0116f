-- A forest in rows that are linked by number. None is 4294967295.
use Rattle.std.specs.Prelude.{◌≡◌, ℕ, ◌<◌, List, length, slice_index_or}
use Rattle.block.specs.declared.record.Record.{Record}
use Rattle.screen.specs.declared.node.Node.{Node}
use Rattle.screen.specs.Entries.{node_of}
use Rattle.screen.specs.Forest.{Forest, bare, tree}
use Rattle.sheet.specs.declared.rows.NodeRow.{NodeRow}

-- a row of zeros, which stands for what is not there
abbrev pub no_record : Record
no_record = record { tag = 0; p = 0; q = 0; r = 0; s = 0; t = 0 }

abbrev pub no_node : NodeRow
no_node = record { made = no_record; parent = 0; first = 0; last = 0; next = 0 }

abbrev pub row : List NodeRow → ℕ → NodeRow
row rows n = slice_index_or rows n no_node

-- the number of the first node, or none
abbrev pub head_of : Forest → ℕ
head_of bare = 4294967295
head_of (tree n x cs ss) = n

-- the number of the last node, or z where there is none
abbrev pub last_from : ℕ → Forest → ℕ
last_from z bare = z
last_from z (tree n x cs ss) = last_from n ss

abbrev pub last_of : Forest → ℕ
last_of f = last_from 4294967295 f

-- node n's row: what made it, and its parent, first and last child and next sibling
pub record At (rows : List NodeRow) (n : ℕ) (x : Node) (p a z e : ℕ) : Type 0 where
  pub within : n < length rows
  pub made_is : node_of (row rows n).made ≡ x
  pub parent_is : (row rows n).parent ≡ p
  pub first_is : (row rows n).first ≡ a
  pub last_is : (row rows n).last ≡ z
  pub next_is : (row rows n).next ≡ e

-- the rows hold a forest as a chain of siblings under p
abbrev pub Links : List NodeRow → ℕ → Forest → Type 0
Links rows p bare = Unit {0}
Links rows p (tree n x cs ss) = At rows n x p (head_of cs) (last_of cs) (head_of ss) × Links rows n cs × Links rows p ss

-- a row with no link
pub record Idle (rows : List NodeRow) (n : ℕ) : Type 0 where
  pub parent_is : (row rows n).parent ≡ 4294967295
  pub first_is : (row rows n).first ≡ 4294967295
  pub last_is : (row rows n).last ≡ 4294967295
  pub next_is : (row rows n).next ≡ 4294967295
