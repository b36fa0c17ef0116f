use Rattle.std.proofs.Common.{◌<◌, length, sym, ◌∙◌, arith}
use Rattle.std.proofs.lemmas.Bool.Decides.{nat_tests}
use Rattle.sheet.proofs.Rising.{spans, spans_ordered}
use Rattle.sheet.proofs.sound.scopes.begins_rise.Goals as goal
use Rattle.sheet.proofs.sound.scopes.begins_rise.Goals.{then-scopes-eq0, else-scopes-eq0}

pub returns-then-scopes-dependencies : goal.returns-then-scopes-dependencies
returns-then-scopes-dependencies c =
    let S = c.args.scopes.now in
    let some : 0 < length S = grind (arith, nat_tests) in
    elim c.if-scopes-eq0.branch [
      | then-scopes-eq0 w ↦ c.in_order.ensures ∙ sym (spans_ordered S c.args.dependencies some w.if-scopes-eq0.true (sym w.value-is ∙ c.if-scopes-dependencies.true))
      | else-scopes-eq0 w ↦ let first = w.if-scopes-eq0.false in let no = w.value-is in let t = c.if-scopes-dependencies.true in grind (arith, nat_tests)
    ]

pub returns-else-scopes-dependencies : goal.returns-else-scopes-dependencies
returns-else-scopes-dependencies c =
    let some : 0 < length c.args.scopes.now = grind (arith, nat_tests) in
    let e = spans c.args.scopes.now c.args.dependencies some in
    let t = c.if-scopes-dependencies.false in
    elim c.if-scopes-eq0.branch [
      | then-scopes-eq0 w ↦ let first = w.if-scopes-eq0.true in let last = w.value-is in grind (arith, nat_tests)
      | else-scopes-eq0 w ↦ let first = w.if-scopes-eq0.false in let last = w.value-is in grind (arith, nat_tests)
    ]
