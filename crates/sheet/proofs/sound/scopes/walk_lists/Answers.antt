use Rattle.std.proofs.Common.{◌+◌, Bool, List, length, get_or, drop, refl, subst}
use Rattle.std.proofs.lemmas.List.{drop_more, drop_all}
use Rattle.std.proofs.lemmas.Bool.{both_ways}
use Rattle.sheet.specs.Chains.{no_scope}
use Rattle.sheet.specs.Walks.{WalkedAll, link_at}
use Rattle.sheet.proofs.Walking.{all_end, all_on, all_back}
use Rattle.sheet.proofs.sound.scopes.walk_lists.Goals as goal

pub returns-then-not-walk_list-clause-no : goal.returns-then-not-walk_list-clause-no
returns-then-not-walk_list-clause-no g c =
    λ left h.
    let S = c.args.scopes.now in
    let i = c.loop-scope.scope-index in
    let back = all_back _ _ _ (drop i S) (get_or S i no_scope) (drop (i + 1) S) c.first.result c.loop-scope.marks left (drop_more S i no_scope c.loop-scope-test.true) c.first.ensures (c.loop-scope.invariant.rest left h) in
    absurd (both_ways c.walk_list.result c.if-not-walk_list.true (c.walk_list.ensures.no back.0 back.1).0)

pub loop-scope-preserved : goal.loop-scope-preserved
loop-scope-preserved g c =
    let S = c.args.scopes.now in
    let i = c.loop-scope.scope-index in
    let next = link_at g.R.Linked.link g.R.Linked.blank c.args.rows.now in
    let n = length c.args.rows.now in
    let more = drop_more S i no_scope c.loop-scope-test.true in
    record {
      whole = λ left h.
          c.loop-scope.invariant.whole left
          (all_on next _ n (drop i S) (get_or S i no_scope) (drop (i + 1) S) c.first.result c.loop-scope.marks c.walk_list.new.marks left more c.first.ensures (c.walk_list.ensures.yes c.if-not-walk_list.false) h);
      rest = λ left h.
          let back = all_back next g.R.Linked.head n (drop i S) (get_or S i no_scope) (drop (i + 1) S) c.first.result c.loop-scope.marks left more c.first.ensures (c.loop-scope.invariant.rest left h) in
          subst (λ (m : List Bool). WalkedAll next g.R.Linked.head n (drop (i + 1) S) m left) (c.walk_list.ensures.no back.0 back.1).1 back.2;
    }

pub returns-clause-no : goal.returns-clause-no
returns-clause-no g c =
    λ left h. (
      refl,
      all_end _ _ _ (drop c.loop-scope.scope-index c.args.scopes.now) c.loop-scope.marks left (drop_all c.loop-scope.scope-index c.args.scopes.now c.loop-scope-test.false) (c.loop-scope.invariant.rest left h),
    )
