-- Node rows with a chain of siblings, or one new node, after the last child of a node.
use Rattle.std.specs.Prelude.{ℕ, cond, List, [], ◌∷◌, ◌++◌, length, ◌==◌, slice_set}
use Rattle.block.specs.declared.record.Record.{Record}
use Rattle.sheet.specs.declared.rows.NodeRow.{NodeRow}
use Rattle.sheet.specs.Links.{row}

-- the row of a node with its first and its last child
abbrev pub with_ends : ℕ → ℕ → NodeRow → NodeRow
with_ends a z r = record { made = r.made; parent = r.parent; first = a; last = z; next = r.next }

-- the row of a node with its last child
abbrev pub with_last : ℕ → NodeRow → NodeRow
with_last z r = record { made = r.made; parent = r.parent; first = r.first; last = z; next = r.next }

-- the row of a node with its next sibling
abbrev pub with_next : ℕ → NodeRow → NodeRow
with_next a r = record { made = r.made; parent = r.parent; first = r.first; last = r.last; next = a }

-- the siblings from a to z go after the last child of p
abbrev pub attached : List NodeRow → ℕ → ℕ → ℕ → List NodeRow
attached rows p a z =
    cond ((row rows p).last == 4294967295)
    (slice_set rows p (with_ends a z (row rows p)))
    (slice_set (slice_set rows (row rows p).last (with_next a (row rows (row rows p).last))) p (with_last z (row rows p)))

-- the row of a new node: no child, no sibling
abbrev pub fresh : Record → ℕ → NodeRow
fresh made p = record { made = made; parent = p; first = 4294967295; last = 4294967295; next = 4294967295 }

-- one more row at the end, for the new last child of p
abbrev pub appended : List NodeRow → ℕ → Record → List NodeRow
appended rows p made = attached (rows ++ fresh made p ∷ []) p (length rows) (length rows)
