-- What one record does to the memory.
use Rattle.std.specs.Prelude.{◌≡◌, false, List, ◌++◌, drop, is_ok, Ok, Err, Result}
use Rattle.block.specs.declared.record.Record.{Record}
use Rattle.screen.specs.State.{State}
use Rattle.screen.specs.Step.{step, listing}
use Rattle.screen.specs.declared.answer.Answer.{Answer}
use Rattle.screen.specs.declared.answer.Answer.TheVariants.{Accepted, Listed}
use Rattle.screen.specs.declared.answer.Refusal.{Refusal}
use Rattle.screen.specs.declared.answer.Line.{Line}
use Rattle.sheet.specs.Tables.{Memory, WorkMemory}
use Rattle.sheet.specs.Holds.{Holds}
use Rattle.sheet.specs.Kept.{RestKept}

-- the work tables with other lines
abbrev pub with_lines : WorkMemory → List Line → WorkMemory
with_lines w ls = record { lines = ls; uses = w.uses; sources = w.sources; targets = w.targets; scratch = w.scratch }

-- the work tables afterwards: a list fills the lines from the front
abbrev pub work_after : State → WorkMemory → Result Answer Refusal → WorkMemory
work_after σ w (Ok Accepted) = w
work_after σ w (Ok (Listed n)) = with_lines w (listing σ ++ drop n w.lines)
work_after σ w (Err r) = w

-- a record x on tables that hold σ: the answer, the sheet that they hold afterwards, and the work tables
-- `step` is a run's step, Merge excepted: it refuses that with 7 until Merge is built here too (`StepButMerge`)
pub record Takes (σ : State) (x : Record) (new : Memory) (work work' : WorkMemory) (r : Result Answer Refusal) : Type 0 where
  pub answer : r ≡ (step σ x).answer
  pub holds : Holds new (step σ x).sheet
  pub lines : work' ≡ work_after σ work r

-- what a call keeps, whatever it answers: the rows past those that are put, and after a refusal everything
pub record Keeps (old new : Memory) (work work' : WorkMemory) (r : Result Answer Refusal) : Type 0 where
  pub rest : RestKept old new
  pub refused : is_ok r ≡ false → (new ≡ old) × (work' ≡ work)
