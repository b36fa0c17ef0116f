-- What a checked block and a cursor hold.
use Rattle.std.specs.Prelude.{◌≡◌, ℕ, ◌-◌, min, List, take}
use Rattle.block.specs.Block.{records_from, records_of}
use Rattle.block.specs.declared.check.Checked.{Checked}
use Rattle.block.specs.declared.cursor.Cursor.{Cursor}

-- the records that a cursor has still to hand out
abbrev pub left : Cursor → List (List ℕ)
left c = records_from c.bytes.now c.at (min 31 c.count - c.at)

-- the records of a checked block
abbrev pub records_in : Checked → List (List ℕ)
records_in b = records_from b.bytes.now 0 (min 31 b.count)

-- a checked block as the check makes it of good bytes: with the records and the number that stand in them
pub record Sealed (bytes : List ℕ) (place : ℕ) (b : Checked) : Type 0 where
  pub holds : b.bytes.now ≡ take 512 bytes
  pub numbered : b.number ≡ place
  pub records : records_in b ≡ records_of (take 512 bytes)
