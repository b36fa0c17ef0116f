use Rattle.std.proofs.Common.{◌≡◌, ℕ, List, length, sym, ap, subst, arith}
use Rattle.sheet.specs.declared.rows.NodeRow.{NodeRow}
use Rattle.sheet.specs.Tables.{items, memory}
use Rattle.sheet.specs.Listed.{ScopeBelow}
use Rattle.sheet.specs.Fitting.{node_at}
use Rattle.sheet.proofs.Sounding.{node_scopes}
use Rattle.sheet.proofs.sheet.Sheet.tree_holds.Goals as goal

pub invariant_of-tree : goal.invariant_of-tree
invariant_of-tree c =
    let m = memory c.args.self.now in
    let nodes : length c.put.result.now ≡ length (items m.nodes) = ap length c.put.ensures in
    let scopes : length c.put-2.result.now ≡ length (items m.scopes) = ap length c.put-2.ensures in
    record {
      named = λ k h.
          subst (λ (n : ℕ). ScopeBelow n (node_at c.put.result.now k)) (sym scopes)
          (subst (λ (xs : List NodeRow). ScopeBelow (length (items m.scopes)) (node_at xs k)) (sym c.put.ensures) (node_scopes m c.requires.within c.requires.rows k (omega (arith, nodes))));
    }
