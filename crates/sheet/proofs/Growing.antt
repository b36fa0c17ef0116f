-- The rows of a tree with a new node in its innermost open node.
use Rattle.std.proofs.Common.{◌≡◌, ℕ, zero, suc, ◌+◌, ◌<◌, ◌≤◌, true, ◌⊎◌, List, [], ◌∷◌, ◌++◌, length, sym, refl, ap, ◌∙◌, subst, inl, inr, arith}
use Rattle.std.proofs.lemmas.List.{get_or_append_left, get_or_push, length_push}
use Rattle.std.proofs.lemmas.Bool.{false≢true, cases_eq, cases_lt}
use Rattle.block.specs.declared.record.Record.{Record}
use Rattle.screen.specs.declared.node.Node.{Node}
use Rattle.screen.specs.Entries.{node_of}
use Rattle.screen.specs.Forest.{Forest, bare, tree, ◌⊕◌, same, cnt, body}
use Rattle.screen.specs.Open.{opens, Spot, innermost, grow}
use Rattle.sheet.specs.declared.rows.NodeRow.{NodeRow}
use Rattle.sheet.specs.Links.{row, no_node, head_of, last_from, last_of, Links}
use Rattle.sheet.specs.Planted.{root}
use Rattle.sheet.specs.Appended.{attached, fresh, appended}
use Rattle.screen.proofs.Counts.{same_self, same_other, apart}
use Rattle.screen.proofs.Grown.{inside}
use Rattle.sheet.proofs.Frames.{at_agree, links_agree}
use Rattle.sheet.proofs.Appending.{attached_length}
use Rattle.sheet.proofs.Joining.{attach}

-- the rows hold g in place of f under q, and only rows of f changed
pub record Grafted (rows rows' : List NodeRow) (q : ℕ) (f g : Forest) : Type 0 where
  pub links : Links rows' q g
  pub others : (k : ℕ) → cnt k f ≡ 0 → row rows' k ≡ row rows k
  pub head : head_of g ≡ head_of f
  pub last : (z : ℕ) → last_from z g ≡ last_from z f

-- n has its row, as a child of p, and is not yet in the tree
module _ (rows : List NodeRow) (p n : ℕ) (x : Node) (few : length rows ≤ 1024) (new : Links rows p (tree n x bare bare)) where
  here : (q : ℕ) (y : Node) (cs ss : Forest) → Links rows q (tree p y cs ss) → cnt n (tree p y cs ss) ≡ 0 → ((k : ℕ) → cnt k (tree p y cs ss) ≤ 1)
      → Grafted rows (attached rows p n n) q (tree p y cs ss) (tree p y (cs ⊕ tree n x bare bare) ss)
  here q y cs ss h z d =
      let a = attach rows p y q (head_of ss) cs n x bare bare few h.0 h.1 new (λ k. fits k (cases_eq k n)) in
      record {
        links = (a.here, a.kids, links_agree rows (attached rows p n n) q ss (omega (arith, a.long)) (λ k l. a.others k (apart k p (omega (arith, d k))) (omega (arith, d k))) h.2);
        others = λ k y. a.others k (apart k p (omega arith)) (omega arith);
        head = refl;
        last = λ w. refl;
      }
    where
      fits : (k : ℕ) → (k ≡ n) ⊎ (k ≡ n → ⊥) → same k p + cnt k cs + (same k n + 0 + 0) ≤ 1
      fits k (inl e) = omega (arith, z, same_self n, ap (λ i. same i n) e, ap (λ i. same i p) e, ap (λ i. cnt i cs) e)
      fits k (inr e) = omega (arith, d k, same_other k n e)

  long : length rows ≤ length (attached rows p n n)
  long = omega (arith, attached_length rows p n n)

  pub grafts : (at : Spot) (d q : ℕ) (f : Forest) → Links rows q f → cnt n f ≡ 0 → ((k : ℕ) → cnt k f ≤ 1) → opens (suc d) f ≡ true → (innermost at (suc d) f).number ≡ p
      → Grafted rows (attached rows p n n) q f (grow (suc d) n x f)
  grafts at d q bare h z u o e = absurd (false≢true o)
  grafts at zero q (tree m y cs bare) h z u o e =
      subst (λ (i : ℕ). Grafted rows (attached rows p n n) q (tree i y cs bare) (tree i y (cs ⊕ tree n x bare bare) bare)) (sym e)
      (here q y cs bare (subst (λ (i : ℕ). Links rows q (tree i y cs bare)) e h) (subst (λ (i : ℕ). cnt n (tree i y cs bare) ≡ 0) e z) (subst (λ (i : ℕ). (k : ℕ) → cnt k (tree i y cs bare) ≤ 1) e u))
  grafts at (suc d) q (tree m y cs bare) h z u o e =
      let c = grafts (record { number = m; node = y }) d m cs h.1 (omega arith) (λ k. omega (arith, u k)) (inside (suc d) m y cs o) e in
      let a = at_agree rows (attached rows p n n) m y q (head_of cs) (last_of cs) 4294967295 long (c.others m (omega (arith, u m, same_self m))) h.0 in
      record {
        links = (
          rw (c.head, c.last 4294967295) a,
          c.links,
          tt,
        );
        others = λ k w. c.others k (omega arith);
        head = refl;
        last = λ w. refl;
      }
  grafts at d q (tree m y cs (tree j w ds ts)) h z u o e =
      let c = grafts at d q (tree j w ds ts) h.2 (omega arith) (λ k. omega (arith, u k)) o e in
      record {
        links = (
          rw c.head (at_agree rows (attached rows p n n) m y q (head_of cs) (last_of cs) j long (c.others m (omega (arith, u m, same_self m))) h.0),
          links_agree rows (attached rows p n n) m cs long (λ k l. c.others k (omega (arith, u k))) h.1,
          c.links,
        );
        others = λ k v. c.others k (omega arith);
        head = refl;
        last = λ v. c.last m;
      }

-- the numbers of a forest are those of rows
pub within_rows : (rows : List NodeRow) (p : ℕ) (f : Forest) (k : ℕ) → Links rows p f → length rows ≤ k → cnt k f ≡ 0
within_rows rows p bare k h l = refl
within_rows rows p (tree n x cs ss) k h l =
    omega (arith, same_other k n (λ e. omega (arith, h.0.within)), within_rows rows n cs k h.1 l, within_rows rows p ss k h.2 l)

module _ (rows : List NodeRow) (made : Record) (x : Node) (f : Forest) (o : ℕ) (room : length rows < 1024) (is : node_of made ≡ x)
    (links : Links rows 4294967295 (body f)) (once : (k : ℕ) → cnt k (body f) ≤ 1) (opened : opens o f ≡ true) where
  grown : Grafted (rows ++ fresh made (innermost root o f).number ∷ []) (appended rows (innermost root o f).number made) 4294967295 (body f) (body (grow o (length rows) x f))
  grown =
      let p : ℕ = (innermost root o f).number in
      let n : ℕ = length rows in
      let wide : List NodeRow = rows ++ fresh made p ∷ [] in
      let l : length wide ≡ n + 1 = length_push rows (fresh made p) in
      let s : row wide n ≡ fresh made p = get_or_push rows (fresh made p) no_node n refl in
      let new : Links wide p (tree n x bare bare) = (
        record {
          within = omega arith;
          made_is = ap (λ r. node_of r.made) s ∙ is;
          parent_is = ap (λ r. r.parent) s;
          first_is = ap (λ r. r.first) s;
          last_is = ap (λ r. r.last) s;
          next_is = ap (λ r. r.next) s;
        },
        tt,
        tt,
      ) in
      let kept : Links wide 4294967295 (body f) =
      links_agree rows wide 4294967295 (body f) (omega arith) (λ k m. get_or_append_left rows (fresh made p ∷ []) no_node k (low k m (cases_lt k (length rows)))) links in
      grafts wide p n x (omega arith) new root o 4294967295 (body f) kept (within_rows rows 4294967295 (body f) n links (omega arith)) once opened refl
    where
      low : (k : ℕ) → 0 < cnt k (body f) → (k < length rows) ⊎ (length rows ≤ k) → k < length rows
      low k m (inl l) = l
      low k m (inr l) = absurd (omega (arith, within_rows rows 4294967295 (body f) k links l))

  -- the rows hold the tree with the new node
  pub grown_links : Links (appended rows (innermost root o f).number made) 4294967295 (body (grow o (length rows) x f))
  grown_links = grown.links

  -- a row that is not in the tree stays as it is
  pub grown_others : (k : ℕ) → k < length rows → cnt k (body f) ≡ 0 → row (appended rows (innermost root o f).number made) k ≡ row rows k
  grown_others k l z = grown.others k z ∙ get_or_append_left rows (fresh made (innermost root o f).number ∷ []) no_node k l
