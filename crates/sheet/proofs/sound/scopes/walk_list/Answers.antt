use Rattle.std.proofs.Common.{◌≡◌, ℕ, true, length, set, sym, refl, ap, ◌∙◌, subst, arith}
use Rattle.std.proofs.lemmas.List.{get_or_read}
use Rattle.std.proofs.lemmas.Bool.{both_ways}
use Rattle.sheet.specs.Walks.{Walked, link_at}
use Rattle.sheet.proofs.Walking.{unmarked_falls, walked_on, walked_end, walked_back}
use Rattle.sheet.proofs.sound.scopes.walk_list.Goals as goal
use Rattle.sheet.proofs.sound.scopes.walk_list.Goals.{then-k-rows-via-then-k-rows, then-k-rows-via-else-k-rows+then-marks-k}

-- a link that leads out, or to a marked row, is on no walk
pub returns-then-k-rows-clause-no : goal.returns-then-k-rows-clause-no
returns-then-k-rows-clause-no g c =
    λ left h.
    let back = walked_back _ _ c.loop-at.at c.loop-at.marks left c.loop-at-test.true (c.loop-at.invariant.1.rest left h) in
    absurd (elim c.then-k-rows.branch [
      | then-k-rows-via-then-k-rows w ↦ omega (arith, back.0, w.if-k-rows.true)
      | then-k-rows-via-else-k-rows+then-marks-k w ↦ both_ways _ back.1 w.if-marks-k.true
    ])

pub loop-at-smaller : goal.loop-at-smaller
loop-at-smaller g c = unmarked_falls c.loop-at.marks c.loop-at.at (omega arith) c.if-marks-k.false

pub loop-at-preserved : goal.loop-at-preserved
loop-at-preserved g c =
    let next = link_at g.R.Linked.link g.R.Linked.blank c.args.rows.now in
    let e : c.next-at.result ≡ next c.loop-at.at =
    c.next-at.ensures ∙ ap g.R.Linked.link (get_or_read c.args.rows.now c.loop-at.at c.index-rows-k.result c.if-k-rows.false c.index-rows-k.is g.R.Linked.blank) in (
      c.next-at.type_inv,
      record {
        whole = λ left h. c.loop-at.invariant.1.whole left (walked_on next _ c.loop-at.at c.next-at.result c.loop-at.marks left c.if-k-rows.false c.if-marks-k.false e h);
        rest = λ left h.
            subst (λ (x : ℕ). Walked next (length c.args.rows.now) x (set c.loop-at.marks c.loop-at.at true) left) (sym e)
            (walked_back next _ c.loop-at.at c.loop-at.marks left c.loop-at-test.true (c.loop-at.invariant.1.rest left h)).2;
      },
    )

pub returns-clause-no : goal.returns-clause-no
returns-clause-no g c = λ left h. (refl, walked_end _ _ c.loop-at.at c.loop-at.marks left c.requires.few c.loop-at-test.false (c.loop-at.invariant.1.rest left h))
