-- Whether the rows that an entry names are put, and of the right kind.
use Rattle.std.specs.Prelude.{ℕ, Bool, true, not, ◌&&◌, List, Some, None, Option, ◌==◌, slice_index_or}
use Rattle.screen.specs.Lists.{is_put, span}
use Rattle.screen.specs.Values.{value_of}
use Rattle.screen.specs.State.{Rows}
use Rattle.screen.specs.declared.rows.IdentifierRow.{IdentifierRow}
use Rattle.screen.specs.declared.rows.ReadRow.{ReadRow}
use Rattle.screen.specs.declared.rows.ValueRow.{ValueRow}
use Rattle.screen.specs.declared.value.Value.{Value}
use Rattle.screen.specs.declared.value.Value.TheVariants as value
use Rattle.screen.specs.declared.node.Node.{Node}
use Rattle.screen.specs.declared.node.Node.TheVariants as node
use Rattle.screen.specs.declared.scope.Status.{Status}
use Rattle.screen.specs.declared.entry.Entry.{Entry}
use Rattle.screen.specs.declared.entry.Entry.TheVariants as entry
use Rattle.screen.specs.declared.entry.Put.{Put}
use Rattle.screen.specs.declared.entry.Put.TheVariants as put
use Rattle.screen.specs.declared.entry.Part.{Part}
use Rattle.screen.specs.declared.entry.Part.TheVariants as part

-- a row of zeros, which stands for what is not there
abbrev pub no_value : ValueRow
no_value = record { r = 0; s = 0; t = 0; q = 0; kind = 0 }

-- a row that may be none
abbrev pub optional_put : {A : Type 0} → List A → Option ℕ → Bool
optional_put rows None = true
optional_put rows (Some k) = is_put rows k

-- value k is put, and is no inner instruction
abbrev pub operand : List ValueRow → ℕ → Bool
operand vs k = is_put vs k && not ((slice_index_or vs k no_value).kind == 16)

-- the same of a value that may be none
abbrev pub optional_operand : List ValueRow → Option ℕ → Bool
optional_operand vs None = true
optional_operand vs (Some k) = operand vs k

-- value k, which may be none, is put, and is an inner instruction
abbrev pub inner : List ValueRow → Option ℕ → Bool
inner vs None = true
inner vs (Some k) = is_put vs k && (slice_index_or vs k no_value).kind == 16

-- a value's reads, its stored identifier and its children
abbrev pub value_named : List IdentifierRow → List ReadRow → List ValueRow → Value → Bool
value_named is rs vs (value.Other r) = span rs r.first r.count
value_named is rs vs (value.Simple r) = span rs r.first r.count
value_named is rs vs (value.LoadLocal r) = span rs r.first r.count
value_named is rs vs (value.StoreConst r s) = span rs r.first r.count && is_put is s
value_named is rs vs (value.StoreLocal r s) = span rs r.first r.count && is_put is s
value_named is rs vs (value.Logical l r) = operand vs l && operand vs r
value_named is rs vs (value.Conditional t c a) = operand vs t && operand vs c && operand vs a
value_named is rs vs (value.Sequence o v f) = operand vs v && inner vs f
value_named is rs vs (value.Optional v) = operand vs v
value_named is rs vs (value.Inner o v n) = operand vs v && inner vs n

-- a node's value, target or Scope
abbrev pub node_named : List IdentifierRow → List ValueRow → List Status → Node → Bool
node_named is vs ss node.Body = true
node_named is vs ss (node.Add o v t) = operand vs v && optional_put is t
node_named is vs ss (node.Terminal k o v) = optional_operand vs v
node_named is vs ss node.Arm = true
node_named is vs ss (node.Scope k) = is_put ss k
node_named is vs ss (node.Pruned k) = is_put ss k

-- the row that a new row names
abbrev pub put_named : Rows → Put → Bool
put_named rows (put.Type k s) = true
put_named rows (put.Identifier i) = is_put rows.types i.typ
put_named rows (put.Path l h k o) = true
put_named rows (put.Scope a z) = true
put_named rows (put.Read r) = is_put rows.identifiers r.identifier
put_named rows (put.Shape s) = true

-- what a part of a Scope names
abbrev pub part_named : Rows → Part → Bool
part_named rows (part.Dependency d) = is_put rows.identifiers d.identifier && span rows.paths d.first d.length
part_named rows (part.Declaration k d) = is_put rows.identifiers k && is_put rows.identifiers d
part_named rows (part.Reassignment i) = is_put rows.identifiers i

-- what an entry names; a part belongs to the Scope put last, so there must be one
abbrev pub named : Rows → List Status → Entry → Bool
named rows ss (entry.Put p) = put_named rows p
named rows ss (entry.Part p) = is_put ss 0 && part_named rows p
named rows ss (entry.Value v) = value_named rows.identifiers rows.reads rows.values (value_of v)
named rows ss (entry.Node x) = node_named rows.identifiers rows.values ss x
named rows ss entry.Close = true
named rows ss entry.List = true
