-- The blocks of any number of records, 31 to a block, and the records in any number of blocks.
use Rattle.std.specs.Prelude.{◌≡◌, ℕ, zero, suc, ◌+◌, ◌*◌, ◌/◌, ◌<◌, List, [], ◌++◌, length, take, drop, None}
use Rattle.block.specs.Block.{fault_of, records_of}
use Rattle.encode.specs.Filled.{block_of}
use Rattle.encode.specs.declared.blocks.Refusal.{Refusal}
use Rattle.encode.specs.declared.blocks.Refusal.TheVariants.{Memory, TooMany}

-- how many blocks the records fill, the last one perhaps in part
abbrev pub block_count : List (List ℕ) → ℕ
block_count records = (length records + 30) / 31

-- the records of block n
abbrev pub portion : List (List ℕ) → ℕ → List (List ℕ)
portion records n = take 31 (drop (31 * n) records)

-- the bytes of the first n blocks, in order
abbrev pub blocks_of : List (List ℕ) → ℕ → List ℕ
blocks_of records zero = []
blocks_of records (suc n) = blocks_of records n ++ block_of n (portion records n)

-- the records in the first n blocks of some bytes, in order
abbrev pub records_up_to : List ℕ → ℕ → List (List ℕ)
records_up_to bytes zero = []
records_up_to bytes (suc n) = records_up_to bytes n ++ records_of (take 512 (drop (512 * n) bytes))

-- bytes that hold the records: so many whole blocks, each one good at its place, and taking their records out in order gives the records
pub record Holds (records : List (List ℕ)) (bytes : List ℕ) : Type 0 where
  pub exact : bytes ≡ blocks_of records (block_count records)
  pub whole : length bytes ≡ 512 * block_count records
  pub good : (n : ℕ) → n < block_count records → fault_of (drop (512 * n) bytes) n ≡ None
  pub same : records_up_to bytes (block_count records) ≡ records

-- why records are refused: they need more blocks than there are numbers of four bytes, or memory ran out, which no record tells
abbrev pub Refuses : List (List ℕ) → Refusal → Type 0
Refuses records Memory = Unit {0}
Refuses records TooMany = 31 * 4294967296 < length records
