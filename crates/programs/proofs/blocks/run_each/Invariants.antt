use Rattle.std.proofs.Common.{◌≡◌, length}
use Rattle.sheet.specs.Tables.{memory, work_memory}
use Rattle.sheet.specs.Kept.{Ready}
use Rattle.programs.proofs.blocks.run_each.Given as goal

-- the tables hold a sheet
abbrev pub invariant-loop-turn : goal.invariant-loop-turn
invariant-loop-turn g l = goal.F-IsAlwaysCallable g l.each × Ready (memory l.sheet) (work_memory l.work) × (length l.buffer ≡ 512)
