use Rattle.std.proofs.Common.{◌≡◌, ◌+◌, take, drop, set, ap, ◌∙◌}
use Rattle.sheet.specs.Appended.{attached, fresh}
use Rattle.sheet.proofs.Appending.{append_rows, append_rest}
use Rattle.sheet.proofs.tree.append.Goals as goal

pub returns-clause-rows : goal.returns-clause-rows
returns-clause-rows c =
    let rows = c.args.nodes.now.rows.now in
    let n = c.args.nodes.now.count in
    let p = c.args.parent in
    let wide = c.push.new.self.rows.now in
    let wrote : wide ≡ set rows n (fresh c.args.made p) = c.push.ensures.rows ∙ ap (set rows n) (c.new.ensures ∙ ap (fresh c.args.made) c.from.ensures) in
    let linked : c.attach.new.nodes ≡ attached wide p n n = c.attach.ensures ∙ ap (λ k. attached wide p k k) c.from-n.ensures in
    ap (λ m. take m c.attach.new.nodes) c.push.ensures.count ∙ ap (λ r. take (n + 1) r) linked
    ∙ append_rows rows n p c.args.made c.requires.room c.requires.within c.requires.last wide wrote

pub returns-clause-rest : goal.returns-clause-rest
returns-clause-rest c =
    let rows = c.args.nodes.now.rows.now in
    let n = c.args.nodes.now.count in
    let p = c.args.parent in
    let wide = c.push.new.self.rows.now in
    let wrote : wide ≡ set rows n (fresh c.args.made p) = c.push.ensures.rows ∙ ap (set rows n) (c.new.ensures ∙ ap (fresh c.args.made) c.from.ensures) in
    let linked : c.attach.new.nodes ≡ attached wide p n n = c.attach.ensures ∙ ap (λ k. attached wide p k k) c.from-n.ensures in
    ap (λ r. drop (n + 1) r) linked ∙ append_rest rows n p c.args.made c.requires.room c.requires.within c.requires.last wide wrote
