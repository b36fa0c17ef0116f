use Rattle.std.proofs.Common.{◌≡◌, ◌+◌, ◌-◌, ◌*◌, ◌≤◌, [], ◌++◌, length, take, drop, replicate, sym, ap, ◌∙◌, arith, length-take}
use Rattle.block.specs.Block.{fault_of, records_of, weighed, check_of}
use Rattle.block.specs.Bytes.{two_bytes, four_bytes}
use Rattle.encode.specs.Filled.{Sixteens, in_row, summed_of, block_of}
use Rattle.std.proofs.lemmas.List.Elements.{All-from_get_or, All-take}
use Rattle.encode.proofs.Filling.{body, put_number, put_count, put_check, good_block, records_in_lem, check_before}
use Rattle.encode.proofs.fill.fill_block.Goals as goal

pub returns : goal.returns
returns c =
    let rs = take 31 c.args.records.now in
    let number = c.args.number in
    let count = c.put_records-count.result in
    let check = c.check_of-check.result in
    let h : Sixteens rs = All-take (λ r. length r ≡ 16) 31 c.args.records.now (All-from_get_or (λ r. length r ≡ 16) c.args.records.now [] c.told-records) in
    let n : count ≡ length rs = c.put_records-count.ensures.taken ∙ sym (length-take 31 c.args.records.now) in
    let few : length rs ≤ 31 = omega (arith, length-take 31 c.args.records.now) in
    let b0 : c.put_records-count.new.bytes ≡ in_row rs ++ replicate (512 - 16 * length rs) 0 =
    c.put_records-count.ensures.exact ∙ ap (λ k. in_row rs ++ replicate (512 - 16 * k) 0) n in
    let b1 : c.put.new.bytes ≡ body rs ++ four_bytes number ++ replicate 12 0 =
    c.put.ensures ∙ ap (λ p. take 496 c.put_records-count.new.bytes ++ (p ++ drop (496 + length p) c.put_records-count.new.bytes)) c.to_le_bytes.ensures
    ∙ put_number rs number c.put_records-count.new.bytes h few b0 in
    let b2 : c.put-2.new.bytes ≡ summed_of number rs ++ replicate 4 0 =
    c.put-2.ensures ∙ ap (λ p. take 500 c.put.new.bytes ++ (p ++ drop (500 + length p) c.put.new.bytes)) (c.to_le_bytes-2.ensures ∙ ap two_bytes n)
    ∙ put_count rs number c.put.new.bytes h few b1 in
    let b3 : c.put-3.new.bytes ≡ block_of number rs =
    c.put-3.ensures ∙ ap (λ p. take 508 c.put-2.new.bytes ++ (p ++ drop (508 + length p) c.put-2.new.bytes)) c.to_le_bytes-3.ensures
    ∙ put_check rs number check c.put-2.new.bytes h few b2 c.check_of-check.ensures in
    let sum : check ≡ weighed 0 (summed_of number rs) = c.check_of-check.ensures ∙ ap check_of b2 ∙ check_before number rs (replicate 4 0) h few in
    record {
      taken = c.put_records-count.ensures.taken;
      exact = b3;
      good = ap (λ b. fault_of b number) b3 ∙ good_block number rs h few (omega arith) (omega (arith, sum));
      same = ap records_of b3 ∙ records_in_lem number rs h few;
    }
