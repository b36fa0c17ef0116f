use Rattle.std.proofs.Common.{sym, ap, ◌∙◌, arith}
use Rattle.block.specs.Fields.{fields_of}
use Rattle.block.proofs.Fields.{sixteen, from_parts, split_joined, join_split}
use Rattle.block.proofs.record.ArrayU8RECORDFromRecord.from.Goals as goal

pub returns : goal.returns
returns c =
    let x = c.args.x in
    let e = from_parts x _ _ _ _ c.to_le_bytes.ensures c.to_le_bytes-2.ensures c.to_le_bytes-3.ensures c.to_le_bytes-4.ensures in
    record {
      split = ap fields_of e ∙ split_joined x (omega arith) (omega arith) (omega arith) (omega arith);
      only = λ other long small fields. join_split other long small ∙ ap sixteen fields ∙ sym e;
    }
