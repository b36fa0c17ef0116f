use Rattle.std.proofs.Common.{ℕ, ◌+◌, ◌*◌, List, take, ap, ◌∙◌, arith}
use Rattle.std.proofs.lemmas.List.{take_all}
use Rattle.block.specs.Block.{weighed, check_of}
use Rattle.block.proofs.Sums.{weighed_more, summand}
use Rattle.block.proofs.check.check_of.Goals as goal

pub overflow_add-sum-in-loop-i : goal.overflow_add-sum-in-loop-i
overflow_add-sum-in-loop-i c = omega (arith, summand c.loop-i.i c.from.result (omega arith) (omega arith))

pub loop-i-preserved : goal.loop-i-preserved
loop-i-preserved c = (
  omega (arith, weighed_more (take 508 c.args.bytes.now) c.loop-i.i (omega arith), ap (λ b. (c.loop-i.i + 1) * b) c.from.ensures),
  omega (arith, summand c.loop-i.i c.from.result (omega arith) (omega arith)),
)

pub returns : goal.returns
unfolding check_of
returns c =
    let summed : List ℕ = take 508 c.args.bytes.now in
    c.loop-i.invariant.0 ∙ ap (weighed 0) (take_all c.loop-i.i summed (omega arith))
