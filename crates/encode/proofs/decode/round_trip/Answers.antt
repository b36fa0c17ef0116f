use Rattle.std.proofs.Common.{◌≡◌, ◌≤◌, min, length, take, ap, ◌∙◌, arith}
use Rattle.std.proofs.lemmas.List.{take_all}
use Rattle.block.specs.Left.{records_in}
use Rattle.encode.proofs.Filling.{records_count}
use Rattle.encode.proofs.decode.round_trip.Goals as goal

pub returns : goal.returns
returns c =
    let rs = records_in c.args.block.now in
    let whole : c.as_slice.result.now ≡ rs = c.as_slice.ensures.value ∙ c.in_ok-records.ensures in
    let few : length rs ≤ 31 = omega (arith, records_count c.args.block.now.bytes.now 0 (min 31 c.args.block.now.count)) in
    (c.fill_block.ensures.good, c.fill_block.ensures.same ∙ ap (take 31) whole ∙ take_all 31 rs few)
