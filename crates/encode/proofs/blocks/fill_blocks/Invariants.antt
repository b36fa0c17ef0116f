use Rattle.std.proofs.Common.{◌≡◌, ℕ, ◌*◌, ◌<◌, ◌≤◌, drop, None, vec_items}
use Rattle.std.specs.Iterator.Adapters.{enumerate_source, enumerate_count}
use Rattle.std.specs.Slice.Iter.{chunks_rest, chunks_size}
use Rattle.block.specs.Block.{fault_of}
use Rattle.encode.specs.Filled.{block_of}
use Rattle.encode.specs.Files.{block_count, blocks_of, portion}
use Rattle.encode.proofs.blocks.fill_blocks.Given as goal

-- as many records are left as the blocks so far did not take, and each of these blocks is good
abbrev pub invariant-loop-number : goal.invariant-loop-number
invariant-loop-number l =
    let count = enumerate_count l.number-iterator in
    goal.iterator-loop-number.can_next l.number-iterator
    × goal.iterator-loop-number.is_finite l.number-iterator
    × (chunks_size (enumerate_source l.number-iterator) ≡ 31)
    × (chunks_rest (enumerate_source l.number-iterator) ≡ drop (31 * count) l.records)
    × (count ≤ block_count l.records)
    × (vec_items l.bytes ≡ blocks_of l.records count)
    × ((n : ℕ) → n < count → fault_of (block_of n (portion l.records n)) n ≡ None)
