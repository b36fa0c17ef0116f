-- What is true of a sheet's tree is true of it after a Merge.
use Rattle.std.proofs.Common.{◌≡◌, ℕ, ◌+◌, ◌<◌, ◌≤◌, Bool, true, false, cond, eqb, List, length, get_or, sym, refl, ap, ◌∙◌, subst, inl, inr, arith}
use Rattle.std.proofs.lemmas.List.{get_or-map, length-map, get_or_past}
use Rattle.std.proofs.lemmas.Bool.{eqb-true, cases_lt, cases_eq}
use Rattle.screen.specs.Forest.{Forest, bare, tree, same, cnt, body}
use Rattle.screen.specs.Open.{opens}
use Rattle.screen.specs.Rules.{Meaning}
use Rattle.screen.specs.State.{State}
use Rattle.screen.specs.Statuses.{is_standing, is_gone}
use Rattle.screen.specs.Standing.{Standing, Labelled, opening, openings, reached}
use Rattle.screen.specs.Refused.{statuses}
use Rattle.screen.specs.WellFormed.{WellFormed}
use Rattle.screen.specs.Found.{no_scope, scope_at}
use Rattle.screen.specs.Course.{status_after, scopes_from}
use Rattle.screen.specs.declared.node.Node.{Node}
use Rattle.screen.specs.declared.node.Node.TheVariants as node
use Rattle.screen.specs.declared.scope.Status.{Status}
use Rattle.screen.specs.declared.scope.Status.TheVariants as status
use Rattle.screen.proofs.Counts.{same_self, same_other}
use Rattle.screen.proofs.StandingGrown.{is_scope, plain_reached}
use Rattle.screen.proofs.Weights.{weigh, turns_less, turns_same}
use Rattle.screen.proofs.Placed.{Placed, placed_from, placed_labelled, placed_held, placed_shallow, turns_placed}
use Rattle.screen.proofs.Fates.{Fate, as_it_was, joined, flattened, out, turned, none_past, status_at, fate_of, scope_after_lem, length_after}

-- node k, where it is no Scope's
abbrev plain_at : ℕ → ℕ → Node → ℕ
plain_at k n x = cond (is_scope x) 0 (same k n)

-- node k where it opened Scope j, and other nodes that opened it
abbrev open_at : ℕ → ℕ → ℕ → Node → ℕ
open_at k j n x = cond (eqb k n) (opening j x) 0

abbrev open_else : ℕ → ℕ → ℕ → Node → ℕ
open_else k j n x = cond (eqb k n) 0 (opening j x)

split_node : (k j n : ℕ) (x : Node) → opening j x ≡ open_at k j n x + open_else k j n x
split_node k j n x = go (eqb k n)
  where
    go : (b : Bool) → opening j x ≡ cond b (opening j x) 0 + cond b 0 (opening j x)
    go true = omega arith
    go false = omega arith

openings_split : (k j : ℕ) (f : Forest) → openings j f ≡ weigh (open_at k j) f + weigh (open_else k j) f
openings_split k j bare = refl
openings_split k j (tree n x cs ss) = omega (arith, split_node k j n x, openings_split k j cs, openings_split k j ss)

module _ (nodes : List Node) (k : ℕ) where
  plain_node : is_scope (get_or nodes k node.Body) ≡ false → (n : ℕ) (x : Node) → get_or nodes n node.Body ≡ x → same k n ≡ plain_at k n x
  plain_node p n x e =
      elim (cases_eq k n) [
        | inl q ↦ rw (ap is_scope (sym e ∙ ap (λ i. get_or nodes i node.Body) (sym q)) ∙ p) refl
        | inr q ↦ rw (same_other k n q) (go (is_scope x))
      ]
    where
      go : (b : Bool) → ◌≡◌ {A = ℕ} 0 (cond b 0 0)
      go true = refl
      go false = refl

  plain_cnt : is_scope (get_or nodes k node.Body) ≡ false → (f : Forest) → Labelled nodes f → cnt k f ≡ weigh (plain_at k) f
  plain_cnt p bare l = refl
  plain_cnt p (tree n x cs ss) l = omega (arith, plain_node p n x l.1, plain_cnt p cs l.2, plain_cnt p ss l.3)

  open_node : (j : ℕ) → get_or nodes k node.Body ≡ node.Scope j → (n : ℕ) (x : Node) → get_or nodes n node.Body ≡ x → same k n ≡ open_at k j n x
  open_node j p n x e = go (eqb k n) refl
    where
      go : (b : Bool) → eqb k n ≡ b → cond b 1 0 ≡ cond b (opening j x) 0
      go true q = omega (arith, ap (opening j) (sym e ∙ ap (λ i. get_or nodes i node.Body) (sym (eqb-true k n q)) ∙ p), same_self j)
      go false q = refl

  open_cnt : (j : ℕ) → get_or nodes k node.Body ≡ node.Scope j → (f : Forest) → Labelled nodes f → cnt k f ≡ weigh (open_at k j) f
  open_cnt j p bare l = refl
  open_cnt j p (tree n x cs ss) l = omega (arith, open_node j p n x l.1, open_cnt j p cs l.2, open_cnt j p ss l.3)

-- how often a Scope's node is reached: before, B times where the Scope was opened by B + R nodes; afterwards B' of B' + R'
fate_reached : {J G O : ℕ} {s t : Status} (B R B' R' : ℕ) → Fate J G O s t → O ≡ B' + R' → B + R ≡ cond (is_standing s) 1 0 → B' ≤ B → R' ≤ R → B ≡ cond (is_gone s) 0 1 → B' ≡ cond (is_gone t) 0 1
fate_reached B R B' R' (as_it_was a b c) e f g h i = omega arith
fate_reached B R B' R' (joined a b c) e f g h i = omega arith
fate_reached B R B' R' (flattened a b c) e f g h i = omega arith

fate_stands : {J G O : ℕ} {s t : Status} → Fate J G O s t → O ≡ cond (is_standing t) 1 0
fate_stands (as_it_was a b c) = c
fate_stands (joined a b c) = c
fate_stands (flattened a b c) = c

module _ (m : Meaning) (σ : State) (h : WellFormed σ) where
  abbrev nodes : List Node
  nodes = σ.rows.nodes

  abbrev after : List Status
  after = statuses (scopes_from (out m σ h).st 0 σ.scopes)

  pub length_statuses : length after ≡ length σ.scopes
  length_statuses = omega (arith, length-map (scopes_from (out m σ h).st 0 σ.scopes) (λ s. s.status), length_after (out m σ h).st 0 σ.scopes)

  pub status_after_lem : (k : ℕ) → k < length σ.scopes → get_or after k status.Unused ≡ status_after (out m σ h).st k (scope_at σ k).status
  status_after_lem k l =
      get_or-map (λ s. s.status) (scopes_from (out m σ h).st 0 σ.scopes) k no_scope status.Unused (omega (arith, length_after (out m σ h).st 0 σ.scopes))
      ∙ ap (λ s. s.status) (scope_after_lem m σ h k l)

  placed : Placed nodes node.Body 63 (out m σ h).forest
  placed =
      turns_placed nodes node.Body 63 (turned m σ h)
      (placed_from nodes node.Body 63 σ.tree h.tree.labelled.2 h.tree.holds h.tree.levels)

  labelled : Labelled nodes (out m σ h).forest
  labelled = placed_labelled nodes node.Body 63 (out m σ h).forest placed

  plain_once : (k : ℕ) → k < length nodes → is_scope (get_or nodes k node.Body) ≡ false → cnt k (body (out m σ h).forest) ≡ reached after (get_or nodes k node.Body)
  plain_once k l p =
      omega (
        arith,
        plain_cnt nodes k p (out m σ h).forest labelled,
        plain_cnt nodes k p σ.tree h.tree.labelled.2,
        turns_same (plain_at k) (λ n j. refl) (turned m σ h),
        h.tree.once k l,
        plain_reached (statuses σ.scopes) (get_or nodes k node.Body) p,
        plain_reached after (get_or nodes k node.Body) p,
      )

  scope_once : (k j : ℕ) → k < length nodes → get_or nodes k node.Body ≡ node.Scope j → cnt k (body (out m σ h).forest) ≡ cond (is_gone (get_or after j status.Unused)) 0 1
  scope_once k j l p =
      let ss : List Status = statuses σ.scopes in
      let o = h.tree.once k l ∙ ap (reached ss) p in
      let z : same k 0 ≡ 0 = same_other k 0 (λ e. let y : ◌≡◌ {A = ℕ} 0 1 = cc h.tree.labelled.1 in omega arith) in
      let B = open_cnt nodes k j p σ.tree h.tree.labelled.2 in
      let S = openings_split k j σ.tree in
      elim (cases_lt j (length σ.scopes)) [
        | inl i ↦
            let b = open_cnt nodes k j p (out m σ h).forest labelled in
            let s = openings_split k j (out m σ h).forest in
            let st = h.tree.stands j (omega (arith, length-map σ.scopes (λ s. s.status))) ∙ ap (λ t. cond {A = ℕ} (is_standing t) 1 0) (status_at m σ h j i) in
            let og = o ∙ ap (λ t. cond {A = ℕ} (is_gone t) 0 1) (status_at m σ h j i) in
            let r = fate_reached (weigh (open_at k j) σ.tree) (weigh (open_else k j) σ.tree) (weigh (open_at k j) (out m σ h).forest) (weigh (open_else k j) (out m σ h).forest)
            (fate_of m σ h j i) s (omega arith) (turns_less (open_at k j) (turned m σ h)) (turns_less (open_else k j) (turned m σ h)) (omega arith) in
            omega (arith, ap (λ t. cond {A = ℕ} (is_gone t) 0 1) (status_after_lem j i))
        | inr i ↦
            let q = ap (λ t. cond {A = ℕ} (is_gone t) 0 1) (get_or_past ss j status.Unused (omega (arith, length-map σ.scopes (λ s. s.status)))) in
            absurd (omega (arith, none_past m σ h j i))
      ]

  once_after : (k : ℕ) → k < length nodes → cnt k (body (out m σ h).forest) ≡ reached after (get_or nodes k node.Body)
  once_after k l = go (get_or nodes k node.Body) refl
    where
      go : (x : Node) → get_or nodes k node.Body ≡ x → cnt k (body (out m σ h).forest) ≡ reached after x
      go node.Body e = plain_once k l (ap is_scope e) ∙ ap (reached after) e
      go (node.Add o v t) e = plain_once k l (ap is_scope e) ∙ ap (reached after) e
      go (node.Terminal j o v) e = plain_once k l (ap is_scope e) ∙ ap (reached after) e
      go node.Arm e = plain_once k l (ap is_scope e) ∙ ap (reached after) e
      go (node.Scope j) e = scope_once k j l e
      go (node.Pruned j) e = plain_once k l (ap is_scope e) ∙ ap (reached after) e

  pub standing_after : σ.opened ≡ 0 → Standing nodes after (out m σ h).forest σ.opened
  standing_after e =
      record {
        labelled = (h.tree.labelled.0, h.tree.labelled.1, labelled, tt);
        once = once_after;
        stands = λ k l. let i : k < length σ.scopes = omega (arith, length_statuses) in fate_stands (fate_of m σ h k i) ∙ sym (ap (λ t. cond {A = ℕ} (is_standing t) 1 0) (status_after_lem k i));
        holds = placed_held nodes node.Body 63 (out m σ h).forest placed;
        levels = placed_shallow nodes node.Body 63 (out m σ h).forest placed;
        last = subst (λ (n : ℕ). opens n (out m σ h).forest ≡ true) (sym e) refl;
        few = h.tree.few;
      }
