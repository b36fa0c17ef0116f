use Rattle.std.proofs.Common.{◌≡◌, ◌+◌, ◌-◌, leb, get_or, take, sym, ap, ◌∙◌, arith}
use Rattle.screen.specs.Lists.{every, present}
use Rattle.screen.specs.Values.{children_of}
use Rattle.screen.specs.Levels.{highest, level_after}
use Rattle.screen.specs.Named.{no_value}
use Rattle.screen.proofs.Levelling.{levels_too_deep}
use Rattle.sheet.proofs.levels.fill_levels.Goals as goal

pub returns-then-below-ge-MOST-clause-value : goal.returns-then-below-ge-MOST-clause-value
returns-then-below-ge-MOST-clause-value c =
    let vs = c.args.values.now in
    let ls = c.loop-i.levels in
    let i = c.loop-i.i in
    let start : i - 0 ≡ i = omega arith in
    let is : c.highest-below.result + 1 ≡ level_after (take i ls) (get_or vs i no_value) =
    omega (arith, c.highest-below.ensures ∙ ap (λ n. highest (take n ls) (present c.children.result)) start ∙ ap (λ l. highest (take i ls) (present l)) (c.children.ensures ∙ ap children_of c.from.ensures)) in
    sym (ap (every (λ n. leb n 64)) c.loop-i.invariant.1 ∙ levels_too_deep vs (take i ls) i c.loop-i-test.true (omega arith))
