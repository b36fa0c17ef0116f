use Rattle.std.proofs.Common.{rules, ◌≡◌, suc, ◌+◌, ◌*◌, ◌<◌, min, [], ◌++◌, length, take, drop, None, vec_items, sym, ap, ◌∙◌, arith, below_more, length-drop}
use Rattle.std.specs.Iterator.Adapters.{enumerate_source, enumerate_count}
use Rattle.std.specs.Slice.Iter.{chunks_rest}
use Rattle.std.proofs.lemmas.List.{drop-drop, take_all}
use Rattle.std.proofs.lemmas.List.Elements.{All-from_get_or}
use Rattle.std.proofs.lemmas.Slice.{pushed}
use Rattle.block.specs.Block.{fault_of}
use Rattle.encode.specs.Filled.{block_of}
use Rattle.encode.specs.Files.{blocks_of, block_count, portion}
use Rattle.encode.proofs.Rows.{next_portion}
use Rattle.encode.proofs.Sequences.{holds}
use Rattle.encode.proofs.blocks.fill_blocks.Goals as goal

pub loop-number-preserved : goal.loop-number-preserved
loop-number-preserved c =
    let xs = c.args.records.now in
    let n = enumerate_count c.loop-number.number-iterator in
    let left = chunks_rest (enumerate_source c.loop-number.number-iterator) in
    let after = chunks_rest (enumerate_source c.next.new.self) in
    let steps = c.in-Some.ensures.steps in
    let some : 31 * n < length xs = omega (arith, steps.0.1.2, ap length c.loop-number.invariant.3, length-drop (31 * n) xs) in
    let part = c.in-Some.portion.now in
    let size : length part ≡ min 31 (length left) = rw c.loop-number.invariant.2 at steps.0.1.1 in
    let cut = next_portion left part after steps.0.1.0 size in
    let number : c.in-Some.number ≡ n = steps.1 in
    let whole : take 31 part ≡ portion xs n = take_all 31 part (omega (arith, size)) ∙ cut.0 ∙ ap (take 31) c.loop-number.invariant.3 in
    let got : c.fill_block.new.bytes ≡ block_of n (portion xs n) =
    c.fill_block.ensures.exact ∙ ap (λ k. block_of k (take 31 part)) number ∙ ap (block_of n) whole in
    let good : fault_of (block_of n (portion xs n)) n ≡ None =
    ap (λ b. fault_of b n) (sym got) ∙ ap (fault_of c.fill_block.new.bytes) (sym number) ∙ c.fill_block.ensures.good in
    let longer : vec_items c.extend_from_slice.new.self ≡ blocks_of xs n ++ c.fill_block.new.bytes =
    pushed c.fill_block.new.bytes c.loop-number.invariant.5 c.in_ok-extend_from_slice.was c.extend_from_slice.ensures.items in (
      search rules,
      tt,
      steps.0.0 ∙ c.loop-number.invariant.2,
      cut.1 ∙ ap (drop 31) c.loop-number.invariant.3 ∙ drop-drop 31 (31 * n) xs
          ∙ ap (λ k. drop k xs) (let e : 31 * n + 31 ≡ 31 * enumerate_count c.next.new.self = omega (arith, steps.2) in e),
      omega (arith, steps.2),
      longer ∙ ap (λ z. blocks_of xs n ++ z) got ∙ ap (blocks_of xs) (let e : suc n ≡ enumerate_count c.next.new.self = omega (arith, steps.2) in e),
      λ k less. below_more (λ m. fault_of (block_of m (portion xs m)) m ≡ None) n c.loop-number.invariant.6 good k (omega (arith, steps.2, less)),
    )

pub returns : goal.returns
returns c =
    let xs = c.args.records.now in
    let n = enumerate_count c.loop-number.number-iterator in
    let steps = c.in-None.ensures.steps in
    let last : n ≡ block_count xs = omega (arith, steps.0.1.0, ap length c.loop-number.invariant.3, length-drop (31 * n) xs, c.loop-number.invariant.4) in
    holds xs (vec_items c.loop-number.bytes) (All-from_get_or (λ r. length r ≡ 16) xs [] c.told-records)
    (c.loop-number.invariant.5 ∙ ap (blocks_of xs) last) (λ m less. c.loop-number.invariant.6 m (omega arith))
