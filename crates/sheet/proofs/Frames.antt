-- What a write to a row leaves of a forest, and that the rows hold one forest at most.
use Rattle.std.proofs.Common.{◌≡◌, ℕ, ◌<◌, ◌≤◌, List, length, set, sym, refl, ap, ◌∙◌, subst, arith, length-set, get_or-set_other}
use Rattle.screen.proofs.Counts.{same_self}
use Rattle.screen.specs.declared.node.Node.{Node}
use Rattle.screen.specs.Entries.{node_of}
use Rattle.screen.specs.Forest.{Forest, bare, tree, cnt}
use Rattle.sheet.specs.declared.rows.NodeRow.{NodeRow}
use Rattle.sheet.specs.Links.{row, no_node, head_of, last_of, At, Links}

-- the first node of a forest is there
pub head_in : (n : ℕ) (x : Node) (cs ss : Forest) → 1 ≤ cnt n (tree n x cs ss)
head_in n x cs ss = omega (arith, same_self n)

-- rows that agree where a count is positive
abbrev pub Agree : List NodeRow → List NodeRow → (ℕ → ℕ) → Type 0
Agree rows rows' count = (k : ℕ) → 0 < count k → row rows' k ≡ row rows k

pub at_agree : (rows rows' : List NodeRow) (n : ℕ) (x : Node) (p a z e : ℕ) → length rows ≤ length rows' → row rows' n ≡ row rows n → At rows n x p a z e → At rows' n x p a z e
at_agree rows rows' n x p a z e l g h =
    record {
      within = omega (arith, h.within);
      made_is = ap (λ r. node_of r.made) g ∙ h.made_is;
      parent_is = ap (λ r. r.parent) g ∙ h.parent_is;
      first_is = ap (λ r. r.first) g ∙ h.first_is;
      last_is = ap (λ r. r.last) g ∙ h.last_is;
      next_is = ap (λ r. r.next) g ∙ h.next_is;
    }

pub links_agree : (rows rows' : List NodeRow) (p : ℕ) (f : Forest) → length rows ≤ length rows' → Agree rows rows' (λ k. cnt k f) → Links rows p f → Links rows' p f
links_agree rows rows' p bare l g h = tt
links_agree rows rows' p (tree n x cs ss) l g h = (
  at_agree rows rows' n x p (head_of cs) (last_of cs) (head_of ss) l (g n (head_in n x cs ss)) h.0,
  links_agree rows rows' n cs l (λ k m. g k (omega arith)) h.1,
  links_agree rows rows' p ss l (λ k m. g k (omega arith)) h.2,
)

pub set_agree : (rows : List NodeRow) (i : ℕ) (r : NodeRow) (count : ℕ → ℕ) → count i ≡ 0 → Agree rows (set rows i r) count
set_agree rows i r count z k l = get_or-set_other rows i k r no_node (λ e. omega (arith, ap count e))

pub links_set : (rows : List NodeRow) (p : ℕ) (f : Forest) (i : ℕ) (r : NodeRow) → cnt i f ≡ 0 → Links rows p f → Links (set rows i r) p f
links_set rows p f i r z h = links_agree rows (set rows i r) p f (omega (arith, length-set rows i r)) (set_agree rows i r (λ k. cnt k f) z) h

-- at most one forest is held
pub determined : (rows : List NodeRow) (p : ℕ) (f g : Forest) → length rows ≤ 1024 → Links rows p f → Links rows p g → head_of f ≡ head_of g → f ≡ g
determined rows p bare bare l h k e = refl
determined rows p bare (tree m y ds ts) l h k e = absurd (omega (arith, k.0.within))
determined rows p (tree n x cs ss) bare l h k e = absurd (omega (arith, h.0.within))
determined rows p (tree n x cs ss) (tree m y ds ts) l h k e =
    let label : x ≡ y = sym h.0.made_is ∙ ap (λ i. node_of (row rows i).made) e ∙ k.0.made_is in
    let first : head_of cs ≡ head_of ds = sym h.0.first_is ∙ ap (λ i. (row rows i).first) e ∙ k.0.first_is in
    let next : head_of ss ≡ head_of ts = sym h.0.next_is ∙ ap (λ i. (row rows i).next) e ∙ k.0.next_is in
    let under : Links rows n ds = subst (λ (i : ℕ). Links rows i ds) (sym e) k.1 in
    let c : cs ≡ ds = determined rows n cs ds l h.1 under first in
    let s : ss ≡ ts = determined rows p ss ts l h.2 k.2 next in
    cc
