use Rattle.std.proofs.Common.{◌<◌, length, sym, refl, subst, arith}
use Rattle.screen.specs.State.{new}
use Rattle.sheet.specs.Tables.{Memory, memory, work_memory}
use Rattle.sheet.specs.Holds.{Holds}
use Rattle.sheet.specs.Kept.{RestKept, Ready}
use Rattle.sheet.specs.Written.{cleared}
use Rattle.sheet.proofs.Taking.{long_rest}
use Rattle.sheet.proofs.Starting.{holds_new, rest_new}
use Rattle.sheet.proofs.sheet.Sheet.start.Goals as goal

pub returns-clause-new : goal.returns-clause-new
returns-clause-new c = λ _.
    let m = memory c.args.self.now in
    let some : 0 < length m.nodes.rows = omega (arith, c.in_ok-lent_enough.ensures.sheet.nodes) in
    (refl, subst (λ (x : Memory). Holds x new) (sym c.clear.ensures) (holds_new m some), subst (λ (x : Memory). RestKept m x) (sym c.clear.ensures) (rest_new m some))

pub returns-clause-ready : goal.returns-clause-ready
returns-clause-ready c = λ _.
    let m = memory c.args.self.now in
    let long = c.in_ok-lent_enough.ensures in
    let some : 0 < length m.nodes.rows = omega (arith, long.sheet.nodes) in
    subst (λ (x : Memory). Ready x (work_memory c.args.work.now)) (sym c.clear.ensures)
    (record { sound = (new, holds_new m some); long = record { sheet = long_rest m (cleared m) (rest_new m some) long.sheet; work = long.work } })
