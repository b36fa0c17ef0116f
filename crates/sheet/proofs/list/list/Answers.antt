use Rattle.std.proofs.Common.{◌≡◌, ◌+◌, ◌-◌, ◌≢◌, length, set, sym, subst}
use Rattle.screen.specs.declared.answer.Line.{Line}
use Rattle.screen.specs.Entries.{node_of}
use Rattle.screen.specs.Forest.{Forest}
use Rattle.screen.specs.Lines.{line_of}
use Rattle.sheet.specs.Links.{row}
use Rattle.sheet.specs.Listed.{ends_of}
use Rattle.sheet.proofs.Listing.{Rooted, Went, starts, enters, climbs, finishes, safe, rooted_any}
use Rattle.sheet.proofs.list.list.Goals as goal
use Rattle.sheet.proofs.list.list.Goals.{then-child, else-child+then-node-ne0}

pub loop-child-init : goal.loop-child-init
loop-child-init c =
    let rows = c.args.nodes.now in
    let ends = ends_of c.args.scopes.now in
    let m = length c.args.scopes.now in
    let old = c.args.lines.now in
    let t = c.requires.tree in
    let all : (f : Forest) → Rooted rows m f → Went rows ends m old old f 0 (row rows 0).first 0 0 = λ f h. starts rows ends m old f c.requires.room h in
    (safe rows ends m old old t.0 0 (row rows 0).first 0 0 (all t.0 (record { few = c.requires.few; links = t.1; once = t.2; named = t.3 })), all)

pub loop-child-preserved-then-child-2 : goal.loop-child-preserved-then-child-2
loop-child-preserved-then-child-2 c =
    let rows = c.args.nodes.now in
    let ends = ends_of c.args.scopes.now in
    let m = length c.args.scopes.now in
    let old = c.args.lines.now in
    let lines = c.loop-child.lines in
    let child = c.loop-child.child in
    let level = c.loop-child.level in
    let n = c.loop-child.n in
    let t = c.requires.tree in
    let written : c.line.result ≡ line_of ends (level + 1) child (node_of (row rows child).made) = cc in
    let all : (f : Forest) → Rooted rows m f → Went rows ends m old (set lines n c.line.result) f child (row rows child).first (level + 1) (n + 1) =
    λ f h. subst (λ (x : Line). Went rows ends m old (set lines n x) f child (row rows child).first (level + 1) (n + 1)) (sym written)
    (enters rows ends m old lines f c.loop-child.node child level n (c.loop-child.invariant.1 f h) c.if-child-2.true) in
    (safe rows ends m old (set lines n c.line.result) t.0 child (row rows child).first (level + 1) (n + 1) (all t.0 (record { few = c.requires.few; links = t.1; once = t.2; named = t.3 })), all)

pub loop-child-preserved : goal.loop-child-preserved
loop-child-preserved c =
    let rows = c.args.nodes.now in
    let ends = ends_of c.args.scopes.now in
    let m = length c.args.scopes.now in
    let old = c.args.lines.now in
    let lines = c.loop-child.lines in
    let node = c.loop-child.node in
    let level = c.loop-child.level in
    let n = c.loop-child.n in
    let t = c.requires.tree in
    let ne : node ≢ 0 = λ z. elim c.if-child.branch [ then-child w ↦ w.if-child.true c.if-child-2.false | else-child+then-node-ne0 w ↦ w.if-node-ne0.true z ] in
    let all : (f : Forest) → Rooted rows m f → Went rows ends m old lines f (row rows node).parent (row rows node).next (level - 1) n =
    λ f h. climbs rows ends m old lines f node c.loop-child.child level n (c.loop-child.invariant.1 f h) c.if-child-2.false ne in
    (safe rows ends m old lines t.0 (row rows node).parent (row rows node).next (level - 1) n (all t.0 (record { few = c.requires.few; links = t.1; once = t.2; named = t.3 })), all)

pub returns : goal.returns
returns c = λ f l d.
    let rows = c.args.nodes.now in
    let m = length c.args.scopes.now in
    let t = c.requires.tree in
    let h : Rooted rows m f = rooted_any rows m t.0 f (record { few = c.requires.few; links = t.1; once = t.2; named = t.3 }) l in
    finishes rows (ends_of c.args.scopes.now) m c.args.lines.now c.loop-child.lines f c.loop-child.node c.loop-child.child c.loop-child.level c.loop-child.n (c.loop-child.invariant.1 f h) c.if-child.false c.if-node-ne0.false
