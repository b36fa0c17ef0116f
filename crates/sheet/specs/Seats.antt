-- A walk over the node rows that tests the links on its way.
use Rattle.std.specs.Prelude.{◌≡◌, ℕ, ◌+◌, ◌-◌, ◌<◌, Bool, true, ◌||◌, List, length, ◌≢◌, nat_lt}
use Rattle.screen.specs.declared.node.Node.{Node}
use Rattle.screen.specs.Entries.{node_of}
use Rattle.screen.specs.Forest.{is_add}
use Rattle.sheet.specs.declared.rows.NodeRow.{NodeRow}
use Rattle.sheet.specs.declared.sound.walk.Seat.{Seat}
use Rattle.sheet.specs.Links.{row}

-- whether a node of this level may hold the other
abbrev pub roomy : ℕ → Node → Bool
roomy level x = nat_lt level 63 || is_add x

-- the child is a row that names this node as its parent, with room for it
pub record Enters (rows : List NodeRow) (a : Seat) : Type 0 where
  pub within : a.child < length rows
  pub parent_is : (row rows a.child).parent ≡ a.node
  pub room : roomy a.level (node_of (row rows a.child).made) ≡ true
  pub left : 0 < a.left

-- the links at a place are right: there is no child left and the last one is the one before, or the child can be entered
pub record Fit (rows : List NodeRow) (a : Seat) : Type 0 where
  pub enters : (a.child ≢ 4294967295) → Enters rows a
  pub last_is : a.child ≡ 4294967295 → (row rows a.node).last ≡ a.prev

-- the place in the child
abbrev pub entered : List NodeRow → Seat → Seat
entered rows a =
    record { node = a.child; child = (row rows a.child).first; prev = 4294967295; level = a.level + 1; left = a.left - 1 }

-- the place after the node
abbrev pub returned : List NodeRow → Seat → Seat
returned rows a =
    record { node = (row rows a.node).parent; child = (row rows a.node).next; prev = a.node; level = a.level - 1; left = a.left }
