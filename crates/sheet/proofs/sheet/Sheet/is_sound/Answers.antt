use Rattle.std.proofs.Common.{◌≡◌, true, ◌∙◌, rules}
use borrow.Author.Tests.{tests}
use Rattle.std.proofs.lemmas.Bool.{both_ways}
use Rattle.sheet.specs.Tables.{memory}
use Rattle.sheet.specs.Examined.{Fitted, RowsSound, ScopesSound}
use Rattle.sheet.proofs.Passing.{refused}
use Rattle.sheet.proofs.Sounding.{within_long, holds_fitted, holds_rows, holds_scopes, holds_tree, rows_sound_from, rows_sound_front, rows_sound_middle, rows_sound_users, sound_from}
use Rattle.sheet.proofs.sheet.Sheet.is_sound.Goals as goal
use Rattle.sheet.proofs.sheet.Sheet.is_sound.Goals.{then-counts_fit, else-counts_fit}
use Rattle.sheet.proofs.sheet.Sheet.is_sound.Goals.{then-front_rows_kept, else-front_rows_kept}
use Rattle.sheet.proofs.sheet.Sheet.is_sound.Goals.{then-scopes_hold, else-scopes_hold}
use Rattle.sheet.proofs.sheet.Sheet.is_sound.Goals.{then-middle_rows_kept, else-middle_rows_kept}
use Rattle.sheet.proofs.sheet.Sheet.is_sound.Goals.{then-value_rows_kept, else-value_rows_kept}
use Rattle.sheet.proofs.sheet.Sheet.is_sound.Goals.{then-levels_fit, else-levels_fit}
use Rattle.sheet.proofs.sheet.Sheet.is_sound.Goals.{then-shapes_kept, else-shapes_kept}
use Rattle.sheet.proofs.sheet.Sheet.is_sound.Goals.{then-node_rows_kept, else-node_rows_kept}

pub tree_holds-requires-clause-rows : goal.tree_holds-requires-clause-rows
tree_holds-requires-clause-rows c =
    let m = memory c.args.self.now in
    let f : Fitted m = search (rules, tests) in
    rows_sound_from m (within_long m c.requires f) f (search (rules, tests)) (search (rules, tests)) (search (rules, tests)) (search (rules, tests)) (search (rules, tests)) (search (rules, tests)) (search (rules, tests))

pub returns-then-users_apart : goal.returns-then-users_apart
returns-then-users_apart c =
    let m = memory c.args.self.now in
    let f : Fitted m = search (rules, tests) in
    let in' = within_long m c.requires f in
    let rows : RowsSound m = rows_sound_from m in' f (search (rules, tests)) (search (rules, tests)) (search (rules, tests)) (search (rules, tests)) (search (rules, tests)) (search (rules, tests)) (search (rules, tests)) in
    let scopes : ScopesSound m = search (rules, tests) in
    (λ e. sound_from m in' rows scopes (c.tree_holds.ensures.0 e), λ s. c.tree_holds.ensures.1 (holds_tree m s.0 s.1))

-- a sheet that the tables hold fails no test
pub returns-else-users_apart : goal.returns-else-users_apart
returns-else-users_apart c =
    refused _ c.if-users_apart.false (λ s.
    let m = memory c.args.self.now in
    let r = holds_rows m s.0 s.1 in
    let v0 : c.counts_fit.result ≡ true = c.counts_fit.ensures.1 (holds_fitted m s.0 s.1) in
    let v1 : c.if-counts_fit.value ≡ true =
    elim c.if-counts_fit.branch [
      | then-counts_fit w ↦ w.value-is ∙ w.front_rows_kept.ensures ∙ rows_sound_front m s.1.counts r
      | else-counts_fit w ↦ absurd (both_ways _ w.if-counts_fit.false v0)
    ] in
    let v2 : c.if-front_rows_kept.value ≡ true =
    elim c.if-front_rows_kept.branch [
      | then-front_rows_kept w ↦ w.value-is ∙ w.scopes_hold.ensures.1 (holds_scopes m s.0 s.1)
      | else-front_rows_kept w ↦ absurd (both_ways _ w.if-front_rows_kept.false v1)
    ] in
    let v3 : c.if-scopes_hold.value ≡ true =
    elim c.if-scopes_hold.branch [
      | then-scopes_hold w ↦ w.value-is ∙ w.middle_rows_kept.ensures ∙ rows_sound_middle m s.1.counts r
      | else-scopes_hold w ↦ absurd (both_ways _ w.if-scopes_hold.false v2)
    ] in
    let v4 : c.if-middle_rows_kept.value ≡ true =
    elim c.if-middle_rows_kept.branch [
      | then-middle_rows_kept w ↦ w.value-is ∙ w.value_rows_kept.ensures ∙ r.kept.values
      | else-middle_rows_kept w ↦ absurd (both_ways _ w.if-middle_rows_kept.false v3)
    ] in
    let v5 : c.if-value_rows_kept.value ≡ true =
    elim c.if-value_rows_kept.branch [
      | then-value_rows_kept w ↦ w.value-is ∙ w.levels_fit.ensures ∙ r.kept.levels
      | else-value_rows_kept w ↦ absurd (both_ways _ w.if-value_rows_kept.false v4)
    ] in
    let v6 : c.if-levels_fit.value ≡ true =
    elim c.if-levels_fit.branch [
      | then-levels_fit w ↦ w.value-is ∙ w.shapes_kept.ensures ∙ r.kept.shapes
      | else-levels_fit w ↦ absurd (both_ways _ w.if-levels_fit.false v5)
    ] in
    let v7 : c.if-shapes_kept.value ≡ true =
    elim c.if-shapes_kept.branch [
      | then-shapes_kept w ↦ w.value-is ∙ w.node_rows_kept.ensures.1 (record { records = r.records; nodes = r.kept.nodes })
      | else-shapes_kept w ↦ absurd (both_ways _ w.if-shapes_kept.false v6)
    ] in
    let v8 : c.if-node_rows_kept.value ≡ true =
    elim c.if-node_rows_kept.branch [
      | then-node_rows_kept w ↦ w.value-is ∙ w.users_apart.ensures ∙ rows_sound_users m s.1.counts (holds_fitted m s.0 s.1) r
      | else-node_rows_kept w ↦ absurd (both_ways _ w.if-node_rows_kept.false v7)
    ] in
    both_ways _ c.if-users_apart.false v8)
