-- The fields of a record of sixteen bytes: tag in byte 0, p in byte 1, q in bytes 2 and 3, then r, s and t of four bytes each.
use Rattle.std.specs.Prelude.{◌≡◌, ℕ, ◌<◌, List, All, length, slice_index}
use Rattle.block.specs.Bytes.{u16_at, u32_at}
use Rattle.block.specs.declared.record.Record.{Record}

abbrev pub fields_of : List ℕ → Record
fields_of bytes = record { tag = slice_index bytes 0; p = slice_index bytes 1; q = u16_at bytes 2; r = u32_at bytes 4; s = u32_at bytes 8; t = u32_at bytes 12 }

-- the sixteen bytes whose fields these are: there are no others
pub record Joins (x : Record) (bytes : List ℕ) : Type 0 where
  pub split : fields_of bytes ≡ x
  pub only : (other : List ℕ) → length other ≡ 16 → All (λ b. b < 256) other → fields_of other ≡ x → other ≡ bytes
