use Rattle.std.proofs.Common.{◌≡◌, min, Some, None, ap, ◌∙◌, arith, rules}
use Rattle.block.specs.Block.{fault_in, fault_of, records_from, records_of, count_in}
use Rattle.block.proofs.Blocks.{fault_whole, good_number, good_count}
use Rattle.block.proofs.check.Unchecked.check.Goals as goal

pub returns-in_err-fault_in : goal.returns-in_err-fault_in
returns-in_err-fault_in c =
    let first = c.in-Some.ensures.cases in
    let told : fault_of c.args.self.bytes.now c.args.self.place ≡ Some c.in_err-fault_in.field-0.0 =
    fault_whole _ _ _ first.enough first.same ∙ c.in_err-fault_in.ensures in
    search rules

pub returns : goal.returns
returns c =
    let first = c.in-Some.ensures.cases in
    let b = c.in-Some.bytes.now in
    let good : fault_in b c.args.self.place ≡ None = c.in_ok-fault_in.ensures in
    let few : min 31 c.from.result ≡ count_in b = omega (arith, c.from.ensures, c.u16_at.ensures, good_count b c.args.self.place good) in (
      fault_whole _ _ _ first.enough first.same ∙ good,
      record {
        holds = first.same;
        numbered = c.u32_at.ensures ∙ good_number b c.args.self.place good;
        records = ap (records_from b 0) few ∙ ap records_of first.same;
      },
    )
