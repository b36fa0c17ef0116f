use Rattle.std.proofs.Common.{ℕ, ◌+◌, List, sym, subst}
use Rattle.screen.specs.declared.scope.Status.{Status}
use Rattle.screen.specs.Forest.{Forest}
use Rattle.sheet.specs.Planted.{Planted}
use Rattle.sheet.specs.Links.{row}
use Rattle.sheet.proofs.Climbing.{Climbed, climb_start, climb_up, climb_end, climb_low}
use Rattle.sheet.proofs.tree.open_count.Goals as goal

pub loop-at-init : goal.loop-at-init
loop-at-init c =
    let rows = c.args.nodes.now in
    let p = c.requires in
    let at = c.from-at.result in
    let start : (ss : List Status) (f : Forest) (o : ℕ) → Planted rows ss c.args.innermost f o → Climbed rows ss f o 0 at =
    λ ss f o h. subst (λ (k : ℕ). Climbed rows ss f o 0 k) (sym c.from-at.ensures) (climb_start rows ss f o c.args.innermost h) in
    (climb_low rows p.0 p.1 p.2 0 at (start p.0 p.1 p.2 p.3) p.3.standing.few, start)

pub loop-at-preserved : goal.loop-at-preserved
loop-at-preserved c =
    let rows = c.args.nodes.now in
    let p = c.requires in
    let n = c.loop-at.n in
    let at = c.loop-at.at in
    let up : (ss : List Status) (f : Forest) (o : ℕ) → Planted rows ss c.args.innermost f o → Climbed rows ss f o (n + 1) (row rows at).parent =
    λ ss f o h. climb_up rows ss f o n at (c.loop-at.invariant.1 ss f o h) c.loop-at-test.true in (
      climb_low rows p.0 p.1 p.2 (n + 1) (row rows at).parent (up p.0 p.1 p.2 p.3) p.3.standing.few,
      up,
    )

pub returns : goal.returns
returns c = λ ss f o h. climb_end c.args.nodes.now ss f o c.loop-at.n c.loop-at.at (c.loop-at.invariant.1 ss f o h) c.loop-at-test.false
