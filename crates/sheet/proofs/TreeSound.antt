-- A linked tree of the right size in rows that are right one by one is planted, and of a planted tree the rows are right.
use Rattle.std.proofs.Common.{◌≡◌, ℕ, ◌+◌, ◌*◌, ◌<◌, ◌≤◌, Bool, true, false, cond, not, ◌&&◌, eqb, ◌≢◌, ◌⊎◌, List, [], ◌∷◌, length, filter, get_or, sym, refl, ap, ◌∙◌, subst, inl, inr, one-mul, mul-zero, zero-mul, arith}
use native.Mathlib.Decide.{dec_lt}
use Rattle.std.proofs.lemmas.List.{get_or-map, length-map}
use Rattle.std.proofs.lemmas.Bool.{and_from, and_parts, cases_eq}
use Rattle.screen.specs.declared.node.Node.{Node}
use Rattle.screen.specs.declared.node.Node.TheVariants.{Body, Add, Terminal, Arm, Scope, Pruned}
use Rattle.screen.specs.declared.scope.Status.{Status}
use Rattle.screen.specs.declared.scope.Status.TheVariants.{Unused, Standing, Joined, Flattened}
use Rattle.screen.specs.Entries.{node_of}
use Rattle.screen.specs.Forest.{Forest, bare, tree, body, same, cnt, size, can_hold, held, shallow}
use Rattle.screen.specs.Open.{innermost, opens}
use Rattle.screen.specs.Standing.{Labelled, opening, openings, reached}
use Rattle.screen.specs.Statuses.{is_gone, is_standing}
use Rattle.sheet.specs.declared.rows.NodeRow.{NodeRow}
use Rattle.sheet.specs.Links.{row, no_node, Links, Idle}
use Rattle.sheet.specs.Planted.{Planted, nodes_of, root}
use Rattle.sheet.specs.Fitting.{sum_below, node_at, status_at, Kept, expected, openers, one, OpenedOnce}
use Rattle.screen.proofs.Counts.{same_self, same_other}
use Rattle.sheet.proofs.Frames.{head_in, determined}
use Rattle.sheet.proofs.Apart.{same_node, in_rows, distinct}
use Rattle.sheet.proofs.Sums.{sum_front, sum_like, sum_zero, sum_tight, sum_size, sum_total, total_of}

-- a node should be in the tree once or never
reached_bit : (ss : List Status) (x : Node) → (reached ss x ≡ 0) ⊎ (reached ss x ≡ 1)
reached_bit ss Body = inr refl
reached_bit ss (Add o v t) = inr refl
reached_bit ss (Terminal k o v) = inr refl
reached_bit ss Arm = inr refl
reached_bit ss (Scope j) = go (is_gone (status_at ss j))
  where
    go : (b : Bool) → (◌≡◌ {A = ℕ} (cond b 0 1) 0) ⊎ (◌≡◌ {A = ℕ} (cond b 0 1) 1)
    go true = inl refl
    go false = inr refl
reached_bit ss (Pruned k) = inr refl

-- how many nodes should be in the tree, as a filter counts them
pub counted : (ss : List Status) (rows : List NodeRow) → length (filter (λ r. not (eqb (reached ss (node_of r.made)) 0)) rows) ≡ expected rows ss (length rows)
counted ss [] = refl
counted ss (r ∷ rs) = omega (arith, go (reached ss (node_of r.made)) (reached_bit ss (node_of r.made)), counted ss rs, sum_front (length rs) (λ k. reached ss (node_at (r ∷ rs) k)))
  where
    go : (n : ℕ) → (n ≡ 0) ⊎ (n ≡ 1) → length (cond (not (eqb n 0)) (r ∷ filter (λ q. not (eqb (reached ss (node_of q.made)) 0)) rs) (filter (λ q. not (eqb (reached ss (node_of q.made)) 0)) rs)) ≡ n + length (filter (λ q. not (eqb (reached ss (node_of q.made)) 0)) rs)
    go n (inl e) = rw e (omega arith)
    go n (inr e) = rw e (omega arith)

nothing : (b : Bool) → ◌≡◌ {A = ℕ} 0 (cond b 0 0)
nothing true = refl
nothing false = refl

-- the nodes in the tree that opened a Scope are all that did, and none where the Scope is gone
reached_opening : (ss : List Status) (j : ℕ) (x : Node) → reached ss x * opening j x ≡ cond (is_gone (status_at ss j)) 0 (opening j x)
reached_opening ss j Body = nothing (is_gone (status_at ss j))
reached_opening ss j (Add o v t) = nothing (is_gone (status_at ss j))
reached_opening ss j (Terminal k o v) = nothing (is_gone (status_at ss j))
reached_opening ss j Arm = nothing (is_gone (status_at ss j))
reached_opening ss j (Scope i) = elim (cases_eq j i) [ inl e ↦ here e | inr ne ↦ there ne ]
  where
    by : (b : Bool) → cond b 0 1 * same j i ≡ cond b 0 (same j i)
    by true = zero-mul (same j i)
    by false = one-mul (same j i)

    here : j ≡ i → cond (is_gone (status_at ss i)) 0 1 * same j i ≡ cond (is_gone (status_at ss j)) 0 (same j i)
    here e = by (is_gone (status_at ss i)) ∙ ap (λ k. cond (is_gone (status_at ss k)) 0 (same j i)) (sym e)

    there : j ≢ i → cond (is_gone (status_at ss i)) 0 1 * same j i ≡ cond (is_gone (status_at ss j)) 0 (same j i)
    there ne =
        let z = same_other j i ne in
        ap (λ n. cond (is_gone (status_at ss i)) 0 1 * n) z ∙ mul-zero (cond (is_gone (status_at ss i)) 0 1) ∙ nothing (is_gone (status_at ss j)) ∙ ap (λ n. cond (is_gone (status_at ss j)) 0 n) (sym z)
reached_opening ss j (Pruned k) = nothing (is_gone (status_at ss j))

module _ (rows : List NodeRow) (few : length rows ≤ 1024) where
  node_is : (k : ℕ) → k < length rows → get_or (nodes_of rows) k Body ≡ node_at rows k
  node_is k l = get_or-map (λ r. node_of r.made) rows k no_node Body l

  long : length (nodes_of rows) ≡ length rows
  long = length-map rows (λ r. node_of r.made)

  labels : (p : ℕ) (g : Forest) → Links rows p g → Labelled (nodes_of rows) g
  labels p bare h = tt
  labels p (tree n x cs ss) h =
      (omega (arith, long, h.0.within), node_is n h.0.within ∙ h.0.made_is, labels n cs h.1, labels p ss h.2)

  -- the rows hold one tree, so two that they hold are of one size
  pub one_size : (f g : Forest) → Links rows 4294967295 (body f) → Links rows 4294967295 (body g) → size (body f) ≡ size (body g)
  one_size f g h k = ap size (determined rows 4294967295 (body f) (body g) few h k refl)

  -- a node below p names a row as its parent
  parent_in : (p k : ℕ) (g : Forest) → p < length rows → Links rows p g → 0 < cnt k g → (row rows k).parent < length rows
  parent_in p k bare w h l = absurd (omega arith)
  parent_in p k (tree n x cs ss) w h l =
      go (dec_lt 0 (same k n)) (dec_lt 0 (cnt k cs)) (parent_in n k cs h.0.within h.1) (parent_in p k ss w h.2)
    where
      go : Dec (0 < same k n) → Dec (0 < cnt k cs) → (0 < cnt k cs → (row rows k).parent < length rows) → (0 < cnt k ss → (row rows k).parent < length rows) → (row rows k).parent < length rows
      go (yes i) d c s = omega (arith, w, h.0.parent_is, ap (λ y. (row rows y).parent) (same_node k n i))
      go (no i) (yes d) c s = c d
      go (no i) (no d) c s = s (omega arith)

  -- its parent can hold the node
  abbrev Fits : ℕ → Type 0
  Fits k = can_hold (node_at rows (row rows k).parent) (node_at rows k) ≡ true

  held_from : (p : ℕ) (x : Node) (g : Forest) → node_at rows p ≡ x → Links rows p g → ((k : ℕ) → 0 < cnt k g → Fits k) → held x g ≡ true
  held_from p x bare e h all = refl
  held_from p x (tree n y cs ss) e h all =
      let top : can_hold x y ≡ true =
      ap (λ z. can_hold z y) (sym (ap (λ k. node_at rows k) h.0.parent_is ∙ e)) ∙ ap (can_hold (node_at rows (row rows n).parent)) (sym h.0.made_is) ∙ all n (head_in n y cs ss) in
      and_from _ _ (and_from _ _ top (held_from n y cs h.0.made_is h.1 (λ k l. all k (omega arith)))) (held_from p x ss e h.2 (λ k l. all k (omega arith)))

  held_at : (p k : ℕ) (x : Node) (g : Forest) → node_at rows p ≡ x → Links rows p g → held x g ≡ true → 0 < cnt k g → Fits k
  held_at p k x bare e h t l = absurd (omega arith)
  held_at p k x (tree n y cs ss) e h t l =
      let a = and_parts (can_hold x y && held y cs) (held x ss) t in
      let b = and_parts (can_hold x y) (held y cs) a.0 in
      go b.0 (dec_lt 0 (same k n)) (dec_lt 0 (cnt k cs)) (held_at n k y cs h.0.made_is h.1 b.1) (held_at p k x ss e h.2 a.1)
    where
      go : can_hold x y ≡ true → Dec (0 < same k n) → Dec (0 < cnt k cs) → (0 < cnt k cs → Fits k) → (0 < cnt k ss → Fits k) → Fits k
      go t (yes i) d c s =
          let here : Fits n = ap (λ z. can_hold z (node_at rows n)) (ap (λ k. node_at rows k) h.0.parent_is ∙ e) ∙ ap (can_hold x) h.0.made_is ∙ t in
          subst (λ (m : ℕ). Fits m) (same_node k n i) here
      go t (no i) (yes d) c s = c d
      go t (no i) (no d) c s = s (omega arith)

  openings_total : (j p : ℕ) (g : Forest) → Links rows p g → openings j g ≡ total_of (λ k. opening j (node_at rows k)) g
  openings_total j p bare h = refl
  openings_total j p (tree n x cs ss) h =
      omega (arith, ap (λ y. opening j y) h.0.made_is, openings_total j n cs h.1, openings_total j p ss h.2)

  module _ (ss : List Status) (f : Forest) (links : Links rows 4294967295 (body f)) where
    -- the tree has the nodes that it should have
    abbrev pub Full : Type 0
    Full = (k : ℕ) → k < length rows → cnt k (body f) ≡ reached ss (node_at rows k)

    openings_is : Full → (j : ℕ) → openings j f ≡ cond (is_gone (status_at ss j)) 0 (openers rows (length rows) j)
    openings_is full j =
        let w : ℕ → ℕ = λ k. opening j (node_at rows k) in
        let sum : sum_below (length rows) (λ k. cnt k (body f) * w k) ≡ openings j f =
        omega (arith, sum_total rows w 4294967295 (body f) links, openings_total j 4294967295 (body f) links) in
        let terms : sum_below (length rows) (λ k. cnt k (body f) * w k) ≡ sum_below (length rows) (λ k. cond (is_gone (status_at ss j)) 0 (w k)) =
        sum_like (length rows) (λ k. cnt k (body f) * w k) (λ k. cond (is_gone (status_at ss j)) 0 (w k)) (λ k l. ap (λ n. n * w k) (full k l) ∙ reached_opening ss j (node_at rows k)) in
        sym sum ∙ terms ∙ by (is_gone (status_at ss j))
      where
        by : (b : Bool) → sum_below (length rows) (λ k. cond b 0 (opening j (node_at rows k))) ≡ cond b 0 (openers rows (length rows) j)
        by true = sum_zero (length rows)
        by false = refl

    -- a node that should not be in the tree is not
    absent : (k : ℕ) → Idle rows k → reached ss (node_at rows k) ≡ 0 → cnt k (body f) ≡ 0
    absent k i z = go (dec_lt 0 (same k 0)) (dec_lt 0 (cnt k f))
      where
        go : Dec (0 < same k 0) → Dec (0 < cnt k f) → cnt k (body f) ≡ 0
        go (yes e) d =
            let is : 0 ≡ k = same_node k 0 e in
            absurd (omega (arith, z, ap (λ n. reached ss (node_at rows n)) is, ap (reached ss) links.0.made_is))
        go (no e) (yes d) = absurd (omega (arith, i.parent_is, parent_in 0 k f links.0.within links.1 d))
        go (no e) (no d) = omega arith

    full_from : ((k : ℕ) → k < length rows → Kept rows ss k) → size (body f) ≡ expected rows ss (length rows) → Full
    full_from kept count =
        sum_tight (length rows) (λ k. cnt k (body f)) (λ k. reached ss (node_at rows k)) each (sum_size rows 4294967295 (body f) links ∙ count)
      where
        each : (k : ℕ) → k < length rows → cnt k (body f) ≤ reached ss (node_at rows k)
        each k l = elim (reached_bit ss (node_at rows k)) [
          | inl z ↦ omega (arith, absent k ((kept k l).idle z) z)
          | inr z ↦ omega (arith, z, distinct rows few f links k)
        ]

    stands_from : Full → OpenedOnce rows ss → (j : ℕ) → j < length ss → openings j f ≡ cond (is_standing (status_at ss j)) 1 0
    stands_from full once j l = openings_is full j ∙ go (status_at ss j) (once j l)
      where
        go : (t : Status) → (is_gone t ≡ false → openers rows (length rows) j ≡ one (is_standing t)) → cond (is_gone t) 0 (openers rows (length rows) j) ≡ cond (is_standing t) 1 0
        go Unused h = h refl
        go Standing h = h refl
        go Joined h = refl
        go Flattened h = refl

    holds_from : Full → ((k : ℕ) → k < length rows → Kept rows ss k) → held Body f ≡ true
    holds_from full kept = held_from 0 Body f links.0.made_is links.1 each
      where
        each : (k : ℕ) → 0 < cnt k f → Fits k
        each k l =
            let once_there = distinct rows few f links k in
            let w = in_rows rows few 0 k f links.1 l in
            let off : k ≢ 0 = λ e. absurd (omega (arith, ap (λ n. same n 0) e, same_self 0)) in
            (kept k w).holds (omega (arith, off)) (omega (arith, full k w))

    pub planted : (at o : ℕ) → shallow 63 f ≡ true → size (body f) ≡ expected rows ss (length rows) → ((k : ℕ) → k < length rows → Kept rows ss k) → OpenedOnce rows ss
        → opens o f ≡ true → o ≤ 63 → (innermost root o f).number ≡ at → Planted rows ss at f o
    planted at o low count kept once opened bound is =
        let full = full_from kept count in
        record {
          links = links;
          idle = λ k l z. (kept k l).idle (sym (full k l) ∙ z);
          standing = record {
            labelled = labels 4294967295 (body f) links;
            once = λ k l. let w : k < length rows = omega (arith, long, l) in full k w ∙ ap (reached ss) (sym (node_is k w));
            stands = stands_from full once;
            holds = holds_from full kept;
            levels = low;
            last = opened;
            few = bound;
          };
          innermost_is = is;
        }

    module _ (at o : ℕ) (h : Planted rows ss at f o) where
      full_of : Full
      full_of k l = h.standing.once k (omega (arith, long, l)) ∙ ap (reached ss) (node_is k l)

      pub expected_of : size (body f) ≡ expected rows ss (length rows)
      expected_of = sym (sum_size rows 4294967295 (body f) links) ∙ sum_like (length rows) (λ k. cnt k (body f)) (λ k. reached ss (node_at rows k)) full_of

      pub kept_of : (k : ℕ) → k < length rows → Kept rows ss k
      kept_of k l =
          record {
            idle = λ z. h.idle k l (full_of k l ∙ z);
            within = λ p r. parent_in 0 k f links.0.within links.1 (below p r);
            holds = λ p r. held_at 0 k Body f links.0.made_is links.1 h.standing.holds (below p r);
          }
        where
          below : 0 < k → reached ss (node_at rows k) ≡ 1 → 0 < cnt k f
          below p r = omega (arith, full_of k l, same_other k 0 (omega arith))

      pub opened_of : OpenedOnce rows ss
      opened_of j l g =
          let s = h.standing.stands j l in
          sym (openings_is full_of j ∙ ap (λ b. cond b 0 (openers rows (length rows) j)) g) ∙ s
