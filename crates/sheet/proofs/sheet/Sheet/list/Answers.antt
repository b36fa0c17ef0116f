use Rattle.std.proofs.Common.{◌≡◌, ℕ, List, ◌++◌, length, drop, sym, ap, ◌∙◌, subst}
use Rattle.screen.specs.Forest.{body}
use Rattle.screen.specs.Lines.{lines_of}
use Rattle.screen.specs.Step.{listing}
use Rattle.sheet.specs.declared.rows.NodeRow.{NodeRow}
use Rattle.sheet.specs.Tables.{items, memory, work_memory}
use Rattle.sheet.specs.Links.{Links}
use Rattle.sheet.specs.Listed.{ends_of}
use Rattle.sheet.specs.Takes.{with_lines}
use Rattle.sheet.proofs.Taking.{Listable, listable, held_once, lines_held}
use Rattle.sheet.proofs.sheet.Sheet.list.Goals as goal

pub list-requires-clause-tree : goal.list-requires-clause-tree
list-requires-clause-tree c =
    let m = memory c.args.self.now in
    subst (λ (n : ℕ). Listable c.put.result.now n) (ap length (sym c.put-2.ensures))
    (subst (λ (xs : List NodeRow). Listable xs (length (items m.scopes))) (sym c.put.ensures) (listable m c.requires.sound.0 c.requires.sound.1))

pub returns-clause-lines : goal.returns-clause-lines
returns-clause-lines c = λ σ h.
    let m = memory c.args.self.now in
    let links : Links c.put.result.now 4294967295 (body σ.tree) = subst (λ (xs : List NodeRow). Links xs 4294967295 (body σ.tree)) (sym c.put.ensures) h.planted.links in
    let made = c.list.ensures σ.tree links (held_once m σ h) in
    let lines : lines_of (ends_of c.put-2.result.now) 1 σ.tree ≡ listing σ = ap (λ rs. lines_of (ends_of rs) 1 σ.tree) c.put-2.ensures ∙ lines_held m σ h in
    (made.0 ∙ ap length lines, ap (with_lines (work_memory c.args.work.now)) (made.1 ∙ ap (λ ls. ls ++ drop c.list.result c.args.work.now.lines.now) lines))
