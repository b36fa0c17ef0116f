use Rattle.std.proofs.Common.{◌≡◌, ◌≤◌, true, false, length, sym, ◌∙◌, arith}
use Rattle.std.proofs.lemmas.Bool.{both_ways, eqb-true}
use Rattle.sheet.specs.Planted.{statuses_of}
use Rattle.sheet.proofs.Passing.{refused}
use Rattle.sheet.proofs.TreeSound.{one_size, planted, expected_of, kept_of, opened_of}
use Rattle.sheet.proofs.sound.nodes.TreeRows.tree_sound.Goals as goal
use Rattle.sheet.proofs.sound.nodes.TreeRows.tree_sound.Goals.{then-size-expected_size, else-size-expected_size, then-all_kept, else-all_kept}

pub returns-then-opened_once : goal.returns-then-opened_once
returns-then-opened_once c =
    let rows = c.args.self.nodes.now in
    let ss = statuses_of c.args.self.scopes.now in
    let few : length rows ≤ 1024 = omega arith in
    let all = c.in-Some.ensures in
    elim c.if-all_kept.branch [
      | then-all_kept w ↦
          elim c.if-size-expected_size.branch [
            | then-size-expected_size v ↦
                let kept : v.all_kept.result ≡ true = cc in
                let once : w.opened_once.result ≡ true = cc in (
                  λ e.
                      let up = (c.can_be_open.ensures all.0 all.1).0 e in (
                        all.0,
                        up.0,
                        planted rows few ss all.0 all.1 c.args.innermost up.0 all.2 (omega (arith, all.3, v.if-size-expected_size.true, c.expected_size.ensures))
                            (v.all_kept.ensures.0 kept) (w.opened_once.ensures.0 once) up.1 up.2 up.3,
                      ),
                  λ h. (c.can_be_open.ensures h.0 h.2.links).1 (h.1, h.2.standing.last, h.2.standing.few, h.2.innermost_is),
                )
            | else-size-expected_size v ↦ absurd (v.if-size-expected_size.false (eqb-true _ _ (sym v.value-is ∙ w.if-all_kept.true)))
          ]
      | else-all_kept w ↦ absurd (both_ways _ w.if-all_kept.false (sym w.value-is ∙ c.if-opened_once.true))
    ]

-- no tree that the rows hold fails a test
pub returns-else-opened_once : goal.returns-else-opened_once
returns-else-opened_once c =
    let rows = c.args.self.nodes.now in
    let ss = statuses_of c.args.self.scopes.now in
    let few : length rows ≤ 1024 = omega arith in
    let all = c.in-Some.ensures in
    refused c.if-all_kept.value c.if-opened_once.false (λ h.
    elim c.if-all_kept.branch [
      | then-all_kept w ↦
          let not_once : w.opened_once.result ≡ false = cc in
          both_ways _ not_once (w.opened_once.ensures.1 (opened_of rows few ss h.0 h.2.links c.args.innermost h.1 h.2))
      | else-all_kept w ↦
          elim c.if-size-expected_size.branch [
            | then-size-expected_size v ↦
                let not_kept : v.all_kept.result ≡ false = cc in
                both_ways _ not_kept (v.all_kept.ensures.1 (kept_of rows few ss h.0 h.2.links c.args.innermost h.1 h.2))
            | else-size-expected_size v ↦
                v.if-size-expected_size.false
                (omega (arith, c.expected_size.ensures, expected_of rows few ss h.0 h.2.links c.args.innermost h.1 h.2, one_size rows few h.0 all.0 h.2.links all.1, all.3))
          ]
    ])
