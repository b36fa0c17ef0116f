use Rattle.std.proofs.Common.{◌≡◌, ◌+◌, ◌<◌, ◌≤◌, ◌≢◌, List, length, sym, refl, subst, arith}
use Rattle.std.proofs.lemmas.Bool.{both_ways}
use Rattle.screen.specs.Forest.{Forest}
use Rattle.sheet.specs.declared.rows.NodeRow.{NodeRow}
use Rattle.sheet.specs.declared.sound.walk.Seat.{Seat}
use Rattle.sheet.proofs.TreeWalk.{Seen, Coming, Grown, seen_first, seen_in, seen_out, seen_all, seen_within, coming_first, coming_fits, coming_in, coming_out}
use Rattle.sheet.proofs.sound.walk.tree_size.Goals as goal
use Rattle.sheet.proofs.sound.walk.tree_size.Goals.{else-at-via-then-at+else-at-eq0, else-at-via-else-at}

-- the numbers' bounds follow from what was seen
whole : (rows : List NodeRow) → length rows ≤ 1024 → (a b : Seat) → a ≡ b → Seen rows b → ((f : Forest) → Grown rows f → Coming rows b)
    → Seen rows a × ((f : Forest) → Grown rows f → Coming rows a) × (a.node < length rows) × (a.node ≢ 0 → 0 < a.level) × (a.level + a.left ≤ 1024)
whole rows few a b e s c =
    let t = subst (λ (x : Seat). Seen rows x) (sym e) s in
    let w = seen_within rows few a t in
    (t, (λ f h. subst (λ (x : Seat). Coming rows x) (sym e) (c f h)), w.0, w.1, w.2)

pub loop-at-init : goal.loop-at-init
loop-at-init c =
    let rows = c.args.nodes.now in
    let few : length rows ≤ 1024 = omega arith in
    whole rows few _ _ refl
    (seen_first rows few _ (omega arith) (omega arith) c.requires.body c.if-body.false c.if-body-2.false)
    (λ f h. coming_first rows few _ f h (omega arith))

pub returns-then-at-eq0 : goal.returns-then-at-eq0
returns-then-at-eq0 c =
    let rows = c.args.nodes.now in
    let few : length rows ≤ 1024 = omega arith in
    let all = seen_all rows few c.loop-at.at c.loop-at.invariant.0 (c.fits.ensures.0 c.loop-at-test.true) c.if-at.true c.if-at-eq0.true in
    (all.0, all.1.0, all.1.1, omega (arith, all.2))

pub loop-at-preserved : goal.loop-at-preserved
loop-at-preserved c =
    let rows = c.args.nodes.now in
    let few : length rows ≤ 1024 = omega arith in
    let a = c.loop-at.at in
    let fit = c.fits.ensures.0 c.loop-at-test.true in
    elim c.else-at.branch [
      | else-at-via-then-at+else-at-eq0 w ↦
          whole rows few _ _ (c.on-at.ensures.up w.if-at.true)
          (seen_out rows few a c.loop-at.invariant.0 fit w.if-at.true w.if-at-eq0.false)
          (λ f h. coming_out rows few a (c.loop-at.invariant.1 f h) w.if-at.true w.if-at-eq0.false)
      | else-at-via-else-at w ↦
          whole rows few _ _ (c.on-at.ensures.down w.if-at.false)
          (seen_in rows few a c.loop-at.invariant.0 fit w.if-at.false)
          (λ f h. coming_in rows few a (c.loop-at.invariant.1 f h) w.if-at.false)
    ]

pub returns : goal.returns
returns c =
    let rows = c.args.nodes.now in
    let few : length rows ≤ 1024 = omega arith in
    λ f h t. both_ways c.fits.result c.loop-at-test.false (c.fits.ensures.1 (coming_fits rows few c.loop-at.at (c.loop-at.invariant.1 f (h, t))))
