use Rattle.std.proofs.Common.{◌≤◌, ◌-◌, length}
use Rattle.programs.proofs.blocks.fill.Given as goal

-- no more than the buffer holds
abbrev pub invariant-loop-n : goal.invariant-loop-n
invariant-loop-n g l = l.n ≤ length l.buffer

abbrev pub decreases-loop-n : goal.decreases-loop-n
decreases-loop-n g l = length l.initial.buffer - l.n
