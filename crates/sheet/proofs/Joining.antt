-- A chain of siblings after the last child of a node.
use Rattle.std.proofs.Common.{◌≡◌, ℕ, ◌+◌, ◌<◌, ◌≤◌, false, eqb, ◌≢◌, List, length, set, sym, refl, ap, ◌∙◌, subst, arith, length-set, get_or-set_other, get_or-set_same}
use Rattle.std.proofs.lemmas.Bool.Decides.{nat_tests}
use Rattle.screen.specs.declared.node.Node.{Node}
use Rattle.screen.specs.Entries.{node_of}
use Rattle.screen.specs.Forest.{Forest, bare, tree, ◌⊕◌, same, cnt}
use Rattle.sheet.specs.declared.rows.NodeRow.{NodeRow}
use Rattle.sheet.specs.Links.{row, no_node, head_of, last_from, last_of, At, Links}
use Rattle.sheet.specs.Appended.{with_ends, with_last, with_next, attached}
use Rattle.screen.proofs.Counts.{same_self, cnt_join}
use Rattle.sheet.proofs.Frames.{at_agree, links_set}

pub last_in_lem : (d n : ℕ) (x : Node) (cs ss : Forest) → 1 ≤ cnt (last_from d (tree n x cs ss)) (tree n x cs ss)
last_in_lem d n x cs bare = omega (arith, same_self n)
last_in_lem d n x cs (tree m y ds ts) = omega (arith, last_in_lem n m y ds ts)

pub last_within : (rows : List NodeRow) (p n : ℕ) (x : Node) (cs ss : Forest) → Links rows p (tree n x cs ss) → last_from n ss < length rows
last_within rows p n x cs bare h = h.0.within
last_within rows p n x cs (tree m y ds ts) h = last_within rows p m y ds ts h.2

pub last_join : (d : ℕ) (f : Forest) (n : ℕ) (x : Node) (cs ss : Forest) → last_from d (f ⊕ tree n x cs ss) ≡ last_from n ss
last_join d bare n x cs ss = refl
last_join d (tree m y ds ts) n x cs ss = last_join m ts n x cs ss

-- the last of a chain is led on to another chain
pub joined : (rows : List NodeRow) (p n : ℕ) (x : Node) (cs ss f : Forest) → Links rows p (tree n x cs ss) → Links rows p f → ((k : ℕ) → cnt k (tree n x cs ss) + cnt k f ≤ 1)
    → Links (set rows (last_from n ss) (with_next (head_of f) (row rows (last_from n ss)))) p (tree n x cs (ss ⊕ f))
joined rows p n x cs bare f h i d =
    let new : NodeRow = with_next (head_of f) (row rows n) in
    let here = get_or-set_same rows n new no_node h.0.within in (
      record {
        within = omega (arith, h.0.within, length-set rows n new);
        made_is = ap (λ r. node_of r.made) here ∙ h.0.made_is;
        parent_is = ap (λ r. r.parent) here ∙ h.0.parent_is;
        first_is = ap (λ r. r.first) here ∙ h.0.first_is;
        last_is = ap (λ r. r.last) here ∙ h.0.last_is;
        next_is = ap (λ r. r.next) here;
      },
      links_set rows n cs n new (omega (arith, d n, same_self n)) h.1,
      links_set rows p f n new (omega (arith, d n, same_self n)) i,
    )
joined rows p n x cs (tree m y ds ts) f h i d =
    let z : ℕ = last_from m ts in
    let new : NodeRow = with_next (head_of f) (row rows z) in
    let there : 1 ≤ cnt z (tree m y ds ts) = last_in_lem n m y ds ts in
    let other : n ≢ z = λ e. omega (arith, d n, same_self n, subst (λ (w : ℕ). 1 ≤ cnt w (tree m y ds ts)) (sym e) there) in (
      at_agree rows (set rows z new) n x p (head_of cs) (last_of cs) m (omega (arith, length-set rows z new)) (get_or-set_other rows z n new no_node other) h.0,
      links_set rows n cs z new (omega (arith, d z, there)) h.1,
      joined rows p m y ds ts f h.2 i (λ k. omega (arith, d k)),
    )

-- what the rows are once the chain g follows the children f of p
pub record Attached (rows rows' : List NodeRow) (p : ℕ) (x : Node) (q e : ℕ) (f g : Forest) : Type 0 where
  pub long : length rows' ≡ length rows
  pub here : At rows' p x q (head_of (f ⊕ g)) (last_of (f ⊕ g)) e
  pub kids : Links rows' p (f ⊕ g)
  pub others : (k : ℕ) → k ≢ p → cnt k f ≡ 0 → row rows' k ≡ row rows k

attach_none : (rows : List NodeRow) (p : ℕ) (x : Node) (q e : ℕ) (g : Forest) → At rows p x q 4294967295 4294967295 e → Links rows p g → ((k : ℕ) → same k p + cnt k g ≤ 1)
    → Attached rows (set rows p (with_ends (head_of g) (last_of g) (row rows p))) p x q e bare g
attach_none rows p x q e g h i d =
    let new : NodeRow = with_ends (head_of g) (last_of g) (row rows p) in
    let s = get_or-set_same rows p new no_node h.within in
    record {
      long = length-set rows p new;
      here = record {
        within = omega (arith, h.within, length-set rows p new);
        made_is = ap (λ r. node_of r.made) s ∙ h.made_is;
        parent_is = ap (λ r. r.parent) s ∙ h.parent_is;
        first_is = ap (λ r. r.first) s;
        last_is = ap (λ r. r.last) s;
        next_is = ap (λ r. r.next) s ∙ h.next_is;
      };
      kids = links_set rows p g p new (omega (arith, d p, same_self p)) i;
      others = λ k ne _. get_or-set_other rows p k new no_node ne;
    }

attach_some : (rows : List NodeRow) (p : ℕ) (x : Node) (q e n : ℕ) (y : Node) (cs ss : Forest) (m : ℕ) (w : Node) (ds ts : Forest) → At rows p x q n (last_from n ss) e → Links rows p (tree n y cs ss) → Links rows p (tree m w ds ts)
    → ((k : ℕ) → same k p + cnt k (tree n y cs ss) + cnt k (tree m w ds ts) ≤ 1)
    → Attached rows (set (set rows (last_from n ss) (with_next m (row rows (last_from n ss)))) p (with_last (last_from m ts) (row rows p))) p x q e (tree n y cs ss) (tree m w ds ts)
attach_some rows p x q e n y cs ss m w ds ts h l i d =
    let o : ℕ = last_from n ss in
    let new1 : NodeRow = with_next m (row rows o) in
    let new2 : NodeRow = with_last (last_from m ts) (row rows p) in
    let r1 = set rows o new1 in
    let l1 = length-set rows o new1 in
    let l2 = length-set r1 p new2 in
    let there : 1 ≤ cnt o (tree n y cs ss) = last_in_lem n n y cs ss in
    let s = get_or-set_same r1 p new2 no_node (omega (arith, h.within)) in
    let led = joined rows p n y cs ss (tree m w ds ts) l i (λ k. omega (arith, d k)) in
    record {
      long = l2 ∙ l1;
      here = record {
        within = omega (arith, h.within);
        made_is = ap (λ r. node_of r.made) s ∙ h.made_is;
        parent_is = ap (λ r. r.parent) s ∙ h.parent_is;
        first_is = ap (λ r. r.first) s ∙ h.first_is;
        last_is = ap (λ r. r.last) s ∙ sym (last_join n ss m w ds ts);
        next_is = ap (λ r. r.next) s ∙ h.next_is;
      };
      kids = links_set r1 p (tree n y cs (ss ⊕ tree m w ds ts)) p new2 (omega (arith, d p, same_self p, cnt_join p ss (tree m w ds ts))) led;
      others = λ k ne z. get_or-set_other r1 p k new2 no_node ne ∙ get_or-set_other rows o k new1 no_node (λ e. omega (arith, z, subst (λ (v : ℕ). 1 ≤ cnt v (tree n y cs ss)) (sym e) there));
    }

not_none : (x : ℕ) → x < 4294967295 → eqb x 4294967295 ≡ false
not_none x h = grind (arith, nat_tests)

pub attach : (rows : List NodeRow) (p : ℕ) (x : Node) (q e : ℕ) (f : Forest) (m : ℕ) (w : Node) (ds ts : Forest) → length rows ≤ 1024 → At rows p x q (head_of f) (last_of f) e → Links rows p f → Links rows p (tree m w ds ts)
    → ((k : ℕ) → same k p + cnt k f + cnt k (tree m w ds ts) ≤ 1)
    → Attached rows (attached rows p m (last_from m ts)) p x q e f (tree m w ds ts)
attach rows p x q e bare m w ds ts b h l i d =
    rw h.last_is (attach_none rows p x q e (tree m w ds ts) h i (λ k. omega (arith, d k)))
attach rows p x q e (tree n y cs ss) m w ds ts b h l i d =
    rw (h.last_is, not_none (last_from n ss) (omega (arith, b, last_within rows p n y cs ss l))) (attach_some rows p x q e n y cs ss m w ds ts h l i d)
