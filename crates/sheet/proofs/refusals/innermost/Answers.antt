use Rattle.std.proofs.Common.{◌≡◌, ℕ, List, length, sym, ap, ◌∙◌, subst, arith}
use Rattle.sheet.specs.declared.rows.NodeRow.{NodeRow}
use Rattle.sheet.specs.Planted.{Planted}
use Rattle.screen.specs.Entries.{node_of}
use Rattle.screen.specs.Refused.{statuses}
use Rattle.sheet.specs.Links.{row}
use Rattle.sheet.specs.Tables.{items, memory}
use Rattle.sheet.proofs.Climbing.{innermost_within, innermost_node}
use Rattle.sheet.proofs.refusals.innermost.Goals as goal

pub bounds-nodes-at : goal.bounds-nodes-at
bounds-nodes-at c =
    let h = c.requires.1.planted in
    let l : length c.put-nodes.result.now ≡ length (items (memory c.args.s.now).nodes) = ap length c.put-nodes.ensures in
    omega (arith, innermost_within _ _ _ _ _ h, l)

pub returns : goal.returns
returns c σ h =
    let ns = items (memory c.args.s.now).nodes in (
      c.open_count.ensures _ σ.tree σ.opened
          (subst (λ (k : ℕ). Planted c.put-nodes.result.now (statuses σ.scopes) k σ.tree σ.opened) (sym c.from-2.ensures)
          (subst (λ (xs : List NodeRow). Planted xs (statuses σ.scopes) c.args.s.now.innermost σ.tree σ.opened) (sym c.put-nodes.ensures) h.planted)),
      c.from.ensures ∙ ap (λ xs. node_of (row xs c.args.s.now.innermost).made) c.put-nodes.ensures ∙ innermost_node ns (statuses σ.scopes) c.args.s.now.innermost σ.tree σ.opened h.planted,
    )
