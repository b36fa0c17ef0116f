use Rattle.std.proofs.Common.{length, sym, ◌∙◌, arith}
use Rattle.sheet.proofs.Ending.{end_next}
use Rattle.sheet.proofs.write.last_row.Goals as goal

pub loop-step-preserved : goal.loop-step-preserved
loop-step-preserved c =
    let rows = c.args.rows.now in
    (omega arith, sym (end_next (length rows) c.loop-step._step rows c.loop-step.at (omega arith) (omega arith)) ∙ c.loop-step.invariant.1)
