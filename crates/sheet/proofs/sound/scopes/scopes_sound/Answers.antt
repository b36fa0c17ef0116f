use Rattle.std.proofs.Common.{ℕ, ◌≤◌, Bool, false, List, length, replicate, sym, refl, ◌∙◌, subst}
use Rattle.std.proofs.lemmas.Bool.{both_ways}
use Rattle.screen.specs.Lists.{gathered}
use Rattle.screen.specs.State.{Scope}
use Rattle.screen.specs.WellFormed.{ScopesKept}
use Rattle.sheet.specs.declared.rows.ScopeRow.{ScopeRow}
use Rattle.sheet.specs.declared.rows.DeclarationRow.{DeclarationRow}
use Rattle.sheet.specs.Chains.{next_declaration, next_merged, Chained}
use Rattle.sheet.specs.Walks.{marked, Loose, JoinedMarked}
use Rattle.sheet.proofs.Passing.{refused}
use Rattle.sheet.proofs.Examining.{Examined, unmarked_rows, examined_holds, holds_examined}
use Rattle.sheet.proofs.sound.scopes.scopes_sound.Goals as goal
use Rattle.sheet.proofs.sound.scopes.scopes_sound.Goals.{then-not-rows_listed-via-then-not-rows_listed, then-not-rows_listed-via-else-not-rows_listed+then-not-begins_rise}
use Rattle.sheet.proofs.sound.scopes.scopes_sound.Goals.{then-not-walk_lists-via-then-not-walk_lists, then-not-walk_lists-via-else-not-walk_lists+then-not-loose_end}
use Rattle.sheet.proofs.sound.scopes.scopes_sound.Goals.{then-not-walk_lists-2-via-then-not-walk_lists-2, then-not-walk_lists-2-via-else-not-walk_lists-2+then-not-loose_end-2}

-- the marks that rows which hold Scopes leave
declared : List Scope → List Bool
declared ss = marked (replicate 1024 false) (gathered (λ k. k.declares) ss)

merged : List Scope → List Bool
merged ss = marked (replicate 256 false) (gathered (λ k. k.merged) ss)

examined : (S : List ScopeRow) (D : List DeclarationRow) (n : ℕ) → (length S ≤ 256) × (length D ≤ 1024) → (s : (ss : List Scope) × Chained S D ss × ScopesKept ss n (length D))
    → Examined S D n (replicate 1024 false) (replicate 256 false) (declared s.0) (merged s.0)
unfolding declared merged
examined S D n few s = holds_examined S D n (replicate 1024 false) (replicate 256 false) (unmarked_rows (length D) 1024 few.1) (unmarked_rows (length S) 256 few.0) s.0 s.1 s.2

pub returns-then-not-rows_listed : goal.returns-then-not-rows_listed
returns-then-not-rows_listed c =
    refused _ refl (λ s.
    let x = examined c.args.scopes.now c.args.declarations.now c.args.dependencies c.requires s in
    elim c.then-not-rows_listed.branch [
      | then-not-rows_listed-via-then-not-rows_listed w ↦ both_ways c.rows_listed.result w.if-not-rows_listed.true (c.rows_listed.ensures ∙ x.listed)
      | then-not-rows_listed-via-else-not-rows_listed+then-not-begins_rise w ↦ both_ways w.begins_rise.result w.if-not-begins_rise.true (w.begins_rise.ensures ∙ x.rising)
    ])

pub returns-then-not-walk_lists : goal.returns-then-not-walk_lists
returns-then-not-walk_lists c =
    refused _ refl (λ s.
    let D = c.args.declarations.now in
    let x = examined c.args.scopes.now D c.args.dependencies c.requires s in
    let d = c.walk_lists.ensures.no (declared s.0) x.declares in
    elim c.then-not-walk_lists.branch [
      | then-not-walk_lists-via-then-not-walk_lists w ↦ both_ways c.walk_lists.result w.if-not-walk_lists.true d.0
      | then-not-walk_lists-via-else-not-walk_lists+then-not-loose_end w ↦
          both_ways w.loose_end.result w.if-not-loose_end.true (w.loose_end.ensures.1 (subst (λ (m : List Bool). Loose (next_declaration D) (length D) m) d.1 x.loose))
    ])

pub returns-then-not-walk_lists-2 : goal.returns-then-not-walk_lists-2
returns-then-not-walk_lists-2 c =
    refused _ refl (λ s.
    let S = c.args.scopes.now in
    let x = examined S c.args.declarations.now c.args.dependencies c.requires s in
    let m = c.walk_lists-2.ensures.no (merged s.0) x.merges in
    elim c.then-not-walk_lists-2.branch [
      | then-not-walk_lists-2-via-then-not-walk_lists-2 w ↦ both_ways c.walk_lists-2.result w.if-not-walk_lists-2.true m.0
      | then-not-walk_lists-2-via-else-not-walk_lists-2+then-not-loose_end-2 w ↦
          both_ways w.loose_end-else-not-walk_lists-2.result w.if-not-loose_end-2.true (w.loose_end-else-not-walk_lists-2.ensures.1 (subst (λ (m : List Bool). Loose (next_merged S) (length S) m) m.1 x.loose_merged))
    ])

pub returns : goal.returns
returns c =
    let S = c.args.scopes.now in
    let D = c.args.declarations.now in (
      λ e.
          examined_holds S D c.args.dependencies (replicate 1024 false) (replicate 256 false) (unmarked_rows (length D) 1024 c.requires.1) (unmarked_rows (length S) 256 c.requires.0)
          c.walk_lists.new.marks c.walk_lists-2.new.marks
          (record {
            listed = sym c.rows_listed.ensures ∙ c.if-not-rows_listed.false;
            rising = sym c.begins_rise.ensures ∙ c.if-not-begins_rise.false;
            declares = c.walk_lists.ensures.yes c.if-not-walk_lists.false;
            merges = c.walk_lists-2.ensures.yes c.if-not-walk_lists-2.false;
            loose = c.loose_end.ensures.0 c.if-not-loose_end.false;
            loose_merged = c.loose_end-else-not-walk_lists-2.ensures.0 c.if-not-loose_end-2.false;
            joined = c.joined_marked.ensures.0 e;
          }),
      λ s.
          let x = examined S D c.args.dependencies c.requires s in
          c.joined_marked.ensures.1 (subst (λ (m : List Bool). JoinedMarked S m) (c.walk_lists-2.ensures.no (merged s.0) x.merges).1 x.joined),
    )
