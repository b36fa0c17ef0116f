-- The record that would put a row as it stands: its fields must keep that record's list.
use Rattle.std.specs.Prelude.{ℕ, Bool, cond}
use Rattle.screen.specs.Kinds.{type_number, path_number}
use Rattle.screen.specs.declared.kinds.TypeKind.{TypeKind}
use Rattle.screen.specs.declared.kinds.PathKind.{PathKind}
use Rattle.block.specs.declared.record.Record.{Record}
use Rattle.screen.specs.declared.rows.TypeRow.{TypeRow}
use Rattle.screen.specs.declared.rows.IdentifierRow.{IdentifierRow}
use Rattle.screen.specs.declared.rows.PathRow.{PathRow}
use Rattle.screen.specs.declared.rows.DependencyRow.{DependencyRow}
use Rattle.screen.specs.declared.rows.ReadRow.{ReadRow}
use Rattle.screen.specs.declared.rows.ValueRow.{ValueRow}
use Rattle.screen.specs.declared.rows.ShapeRow.{ShapeRow}

-- the rows of a type and of a path entry, which keep their kinds as numbers
abbrev pub type_row : TypeKind → ℕ → TypeRow
type_row k s = record { shape = s; kind = type_number k }

abbrev pub path_row : ℕ → ℕ → PathKind → Bool → PathRow
path_row l h k o = record { low = l; high = h; kind = path_number k; optional = cond o 1 0 }

abbrev pub type_record : TypeRow → Record
type_record t = record { tag = 1; p = t.kind; q = 0; r = t.shape; s = 0; t = 0 }

abbrev pub identifier_record : IdentifierRow → Record
identifier_record i = record { tag = 2; p = 0; q = 0; r = i.declaration; s = i.typ; t = 0 }

abbrev pub path_record : PathRow → Record
path_record e = record { tag = 3; p = e.optional; q = e.kind; r = e.low; s = e.high; t = 0 }

abbrev pub scope_record : ℕ → ℕ → Record
scope_record a z = record { tag = 4; p = 0; q = 0; r = a; s = z; t = 0 }

abbrev pub dependency_record : DependencyRow → Record
dependency_record d = record { tag = 5; p = 0; q = d.length; r = d.identifier; s = d.first; t = 0 }

abbrev pub declaration_record : ℕ → ℕ → Record
declaration_record k d = record { tag = 6; p = 0; q = 0; r = k; s = d; t = 0 }

abbrev pub read_record : ReadRow → Record
read_record x = record { tag = 8; p = 0; q = 0; r = x.identifier; s = 0; t = 0 }

abbrev pub value_record : ValueRow → Record
value_record v = record { tag = 9; p = v.kind; q = v.q; r = v.r; s = v.s; t = v.t }

abbrev pub shape_record : ShapeRow → Record
shape_record x = record { tag = 15; p = 0; q = 0; r = x.shape; s = 0; t = 0 }
