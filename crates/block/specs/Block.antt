-- A block of 512 bytes: 31 records of 16 bytes, the block's number at 496, the count of its records at 500, and its check at 508.
use Rattle.std.specs.Prelude.{ℕ, zero, suc, ◌+◌, ◌*◌, cond, not, List, [], ◌∷◌, length, take, drop, Some, None, Option, ◌==◌, nat_lt}
use Rattle.block.specs.Bytes.{u16_at, u32_at}
use Rattle.block.specs.declared.check.Fault.{Fault}
use Rattle.block.specs.declared.check.Fault.TheVariants.{Short, Check, Number, Count}

-- each byte times its place and one more, summed; the first byte is at place k
abbrev pub weighed : ℕ → List ℕ → ℕ
weighed k [] = 0
weighed k (b ∷ bs) = (k + 1) * b + weighed (k + 1) bs

-- the check that a block should have: over the bytes at places 0 to 507
unfoldable pub check_of : List ℕ → ℕ
check_of bytes = weighed 0 (take 508 bytes)

-- what stands in a block
abbrev pub number_in : List ℕ → ℕ
number_in bytes = u32_at bytes 496

abbrev pub count_in : List ℕ → ℕ
count_in bytes = u16_at bytes 500

abbrev pub check_in : List ℕ → ℕ
check_in bytes = u32_at bytes 508

-- the numbers of the faults
abbrev pub fault_number : Fault → ℕ
fault_number Short = 1
fault_number Check = 2
fault_number Number = 3
fault_number Count = 4

-- what is wrong with a whole block at a place: the first of three faults, or none
abbrev pub fault_in : List ℕ → ℕ → Option Fault
fault_in block place =
    cond (not (check_in block == check_of block)) (Some Check)
    (cond (not (number_in block == place)) (Some Number)
    (cond (nat_lt 31 (count_in block)) (Some Count) None))

-- the same of the bytes that are left where a block should begin; they may end too early, or go on after it
abbrev pub fault_of : List ℕ → ℕ → Option Fault
fault_of bytes place = cond (nat_lt (length bytes) 512) (Some Short) (fault_in (take 512 bytes) place)

-- a record's sixteen bytes
abbrev pub record_at : List ℕ → ℕ → List ℕ
record_at bytes i = take 16 (drop (16 * i) bytes)

-- n records, from the i-th on
abbrev pub records_from : List ℕ → ℕ → ℕ → List (List ℕ)
records_from bytes i zero = []
records_from bytes i (suc n) = record_at bytes i ∷ records_from bytes (i + 1) n

-- the records of a good block, in order
abbrev pub records_of : List ℕ → List (List ℕ)
records_of bytes = records_from bytes 0 (count_in bytes)
