use Rattle.std.proofs.Common.{◌≡◌, ◌-◌, ◌<◌, length}
use Rattle.sheet.specs.Ends.{end_from, end_of}
use Rattle.sheet.proofs.write.last_row.Given as goal

-- what is left of the list ends where all of it does
abbrev pub invariant-loop-step : goal.invariant-loop-step
invariant-loop-step l = (l.at < length l.rows) × (end_from (length l.rows - l._step) l.rows l.at ≡ end_of l.rows l.first)
