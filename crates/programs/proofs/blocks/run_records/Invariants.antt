use Rattle.sheet.specs.Tables.{memory, work_memory}
use Rattle.sheet.specs.Kept.{Ready}
use Rattle.programs.proofs.blocks.run_records.Given as goal

-- the tables hold a sheet
abbrev pub invariant-loop-record : goal.invariant-loop-record
invariant-loop-record g l = goal.F-IsAlwaysCallable g l.each × Ready (memory l.sheet) (work_memory l.work)
