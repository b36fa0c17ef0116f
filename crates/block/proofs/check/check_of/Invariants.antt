use Rattle.std.proofs.Common.{◌≡◌, ◌*◌, ◌≤◌, take}
use Rattle.block.specs.Block.{weighed}
use Rattle.block.proofs.check.check_of.Given as goal

-- the sum so far, and that it is small
abbrev pub invariant-loop-i : goal.invariant-loop-i
invariant-loop-i l = (l.sum ≡ weighed 0 (take l.i (take 508 l.bytes))) × (l.sum ≤ 129540 * l.i)
