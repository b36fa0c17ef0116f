use borrow.Author.Tests.{clash}
use Rattle.std.proofs.Common.{ℕ, ◌+◌, ◌≤◌, length, sym, subst, arith}
use Rattle.sheet.proofs.OpenPath.{Rises, Climbs, rises_more, climbs_rung, climbs_more}
use Rattle.sheet.proofs.sound.open.can_be_open.Goals as goal

pub returns-in_default : goal.returns-in_default
returns-in_default c =
    let rows = c.args.nodes.now in
    let few : length rows ≤ 1024 = omega arith in
    λ f h. (
      λ e. absurd (clash e),
      λ o. absurd (c.in_default.ensures (climbs_rung rows few c.args.node c.loop-step._step c.loop-step.at c.if-at-eq0.false f o.0 h (c.loop-step.invariant.1 f o.0 h o.1 o.2 o.3))),
    )

pub loop-step-preserved : goal.loop-step-preserved
loop-step-preserved c =
    let rows = c.args.nodes.now in
    let few : length rows ≤ 1024 = omega arith in (
      subst (λ (i : ℕ). Rises rows c.args.node (c.loop-step._step + 1) i) (sym c.in-Some.ensures.1) (rises_more rows few c.args.node c.loop-step._step c.loop-step.at c.in-Some.ensures.0 c.loop-step.invariant.0),
      subst (λ (i : ℕ). Climbs rows c.args.node (c.loop-step._step + 1) i) (sym c.in-Some.ensures.1) (λ f o h p l e. climbs_more rows few c.args.node c.loop-step._step c.loop-step.at c.if-at-eq0.false f o h (c.loop-step.invariant.1 f o h p l e)),
    )
