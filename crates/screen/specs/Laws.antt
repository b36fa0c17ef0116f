-- What every sheet has, whatever records built it.
use Rattle.block.specs.declared.record.Record.{Record}
use Rattle.screen.specs.State.{State, new}
use Rattle.screen.specs.Step.{step}
use Rattle.screen.specs.WellFormed.{WellFormed}

-- a new sheet is well-formed
abbrev pub NewFormed : Type 0
NewFormed = WellFormed new

-- a record keeps it so, whether it is taken or refused
abbrev pub KeptBySteps : Type 0
KeptBySteps = (σ : State) (x : Record) → WellFormed σ → WellFormed (step σ x).sheet
