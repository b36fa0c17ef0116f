-- A block as it is written from its records: every byte of it.
use Rattle.std.specs.Prelude.{◌≡◌, ℕ, ◌-◌, ◌*◌, List, ◌++◌, All, length, replicate}
use Rattle.std.specs.List.{flat_map}
use Rattle.block.specs.Block.{weighed}
use Rattle.block.specs.Bytes.{two_bytes, four_bytes}

-- each record has sixteen bytes
abbrev pub Sixteens : List (List ℕ) → Type 0
Sixteens records = All (λ r. length r ≡ 16) records

-- the bytes of the records, one record after the other
abbrev pub in_row : List (List ℕ) → List ℕ
in_row records = flat_map (λ r. r) records

-- the bytes at places 0 to 507: the records, zeros up to place 496, the number, the count, and six zeros
unfoldable pub summed_of : ℕ → List (List ℕ) → List ℕ
summed_of number records =
    in_row records ++ replicate (496 - 16 * length records) 0 ++ four_bytes number ++ two_bytes (length records) ++ replicate 6 0

-- the whole block: those, and their check
unfoldable pub block_of : ℕ → List (List ℕ) → List ℕ
block_of number records = summed_of number records ++ four_bytes (weighed 0 (summed_of number records))
