-- A tree that links read has no node twice: each node has one parent, and a chain that came to a node again would not end.
use Rattle.std.proofs.Common.{◌≡◌, ℕ, ◌+◌, ◌-◌, ◌<◌, ◌≤◌, List, length, sym, ap, ◌∙◌, subst, arith}
use native.Mathlib.Decide.{dec_lt}
use Rattle.std.proofs.lemmas.Bool.Decides.{nat_tests}
use Rattle.screen.specs.declared.node.Node.{Node}
use Rattle.screen.specs.Forest.{Forest, bare, tree, same, cnt, size, body}
use Rattle.sheet.specs.declared.rows.NodeRow.{NodeRow}
use Rattle.sheet.specs.Links.{row, head_of, Links}
use Rattle.screen.proofs.Counts.{same_self}
use Rattle.sheet.proofs.Frames.{determined}

pub same_node : (k n : ℕ) → 0 < same k n → n ≡ k
same_node k n h = grind (arith, nat_tests)

-- how often k stands among the siblings themselves
abbrev tops : ℕ → Forest → ℕ
tops k bare = 0
tops k (tree n x cs ss) = same k n + tops k ss

-- the siblings from n on
record Tail (rows : List NodeRow) (p n : ℕ) (f : Forest) : Type 0 where
  rest : Forest
  links : Links rows p rest
  head : head_of rest ≡ n
  small : size rest ≤ size f

module _ (rows : List NodeRow) (few : length rows ≤ 1024) where
  tail : (p n : ℕ) (f : Forest) → Links rows p f → 0 < tops n f → Tail rows p n f
  tail p n bare h l = absurd (omega arith)
  tail p n (tree m x cs ss) h l = go (dec_lt 0 (same n m)) (λ i. tail p n ss h.2 i)
    where
      go : Dec (0 < same n m) → (0 < tops n ss → Tail rows p n ss) → Tail rows p n (tree m x cs ss)
      go (yes i) t = record { rest = tree m x cs ss; links = h; head = same_node n m i; small = omega arith }
      go (no i) t =
          let r = t (omega arith) in
          record { rest = r.rest; links = r.links; head = r.head; small = omega (arith, r.small) }

  -- a chain of siblings comes to a node once
  once : (p n : ℕ) (x : Node) (cs ss : Forest) → Links rows p (tree n x cs ss) → tops n ss ≡ 0
  once p n x cs ss h = go (dec_lt 0 (tops n ss))
    where
      go : Dec (0 < tops n ss) → tops n ss ≡ 0
      go (yes i) =
          let t = tail p n ss h.2 i in
          absurd (omega (arith, t.small, ap size (determined rows p (tree n x cs ss) t.rest few h t.links (sym t.head))))
      go (no i) = omega arith

  tops_once : (p k : ℕ) (f : Forest) → Links rows p f → tops k f ≤ 1
  tops_once p k bare h = omega arith
  tops_once p k (tree n x cs ss) h = go (dec_lt 0 (same k n)) (tops_once p k ss h.2)
    where
      go : Dec (0 < same k n) → tops k ss ≤ 1 → tops k (tree n x cs ss) ≤ 1
      go (yes i) ih =
          subst (λ (y : ℕ). tops y (tree n x cs ss) ≤ 1) (same_node k n i) (omega (arith, once p n x cs ss h, same_self n))
      go (no i) ih = omega arith

  -- a node stands no oftener than its parent, but for those at the top
  by_parent : (q k p t : ℕ) (f : Forest) → (row rows k).parent ≡ p → Links rows q f → (q ≡ p → tops k f ≤ t) → cnt k f ≤ t + cnt p f
  by_parent q k p t bare e h l = omega arith
  by_parent q k p t (tree n x cs ss) e h l =
      let c : cnt k cs ≤ same p n + cnt p cs = by_parent n k p (same p n) cs e h.1
      (λ i. omega (arith, tops_once n k cs h.1, ap (λ y. same p y) i, same_self p)) in
      go (dec_lt 0 (same k n)) c (λ m. by_parent q k p (t - same k n) ss e h.2 m)
    where
      go : Dec (0 < same k n) → cnt k cs ≤ same p n + cnt p cs → ((q ≡ p → tops k ss ≤ t - same k n) → cnt k ss ≤ t - same k n + cnt p ss) → cnt k (tree n x cs ss) ≤ t + cnt p (tree n x cs ss)
      go (yes i) c s =
          let qp : q ≡ p = sym h.0.parent_is ∙ ap (λ y. (row rows y).parent) (same_node k n i) ∙ e in
          omega (arith, l qp, s (λ j. omega (arith, l j)))
      go (no i) c s = omega (arith, s (λ j. omega (arith, l j)))

  -- every node of a forest is a row
  pub in_rows : (q k : ℕ) (f : Forest) → Links rows q f → 0 < cnt k f → k < length rows
  in_rows q k bare h l = absurd (omega arith)
  in_rows q k (tree n x cs ss) h l = go (dec_lt 0 (same k n)) (dec_lt 0 (cnt k cs)) (in_rows n k cs h.1) (in_rows q k ss h.2)
    where
      go : Dec (0 < same k n) → Dec (0 < cnt k cs) → (0 < cnt k cs → k < length rows) → (0 < cnt k ss → k < length rows) → k < length rows
      go (yes i) d c s = subst (λ (y : ℕ). y < length rows) (same_node k n i) h.0.within
      go (no i) (yes d) c s = c d
      go (no i) (no d) c s = s (omega arith)

  module _ (f : Forest) (h : Links rows 4294967295 (body f)) where
    -- at most one stands of a node whose parent stands once
    under_one : (q k : ℕ) → (row rows k).parent ≡ q → (q < 4294967295 → cnt q (body f) ≤ 1) → q ≤ 4294967295 → cnt k (body f) ≤ 1
    under_one q k e d l = go (dec_lt q 4294967295)
      where
        go : Dec (q < 4294967295) → cnt k (body f) ≤ 1
        go (yes i) = omega (arith, d i, by_parent 4294967295 k q 0 (body f) e h (λ j. absurd (omega arith)))
        go (no i) =
            let is : q ≡ 4294967295 = omega arith in
            let top : cnt 4294967295 (body f) ≤ 0 = none_there (dec_lt 0 (cnt 4294967295 (body f))) in
            omega (arith, top, tops_once 4294967295 k (body f) h, by_parent 4294967295 k 4294967295 (tops k (body f)) (body f) (e ∙ is) h (λ j. omega arith))
          where
            none_there : Dec (0 < cnt 4294967295 (body f)) → cnt 4294967295 (body f) ≤ 0
            none_there (yes j) = absurd (omega (arith, in_rows 4294967295 4294967295 (body f) h j))
            none_there (no j) = omega arith

    each_once : (q k : ℕ) (g : Forest) → Links rows q g → (q < 4294967295 → cnt q (body f) ≤ 1) → q ≤ 4294967295 → 0 < cnt k g → cnt k (body f) ≤ 1
    each_once q k bare i d l o = absurd (omega arith)
    each_once q k (tree n x cs ss) i d l o =
        let one = under_one q n i.0.parent_is d l in
        go one (dec_lt 0 (same k n)) (dec_lt 0 (cnt k cs)) (λ j. each_once n k cs i.1 (λ _. one) (omega (arith, i.0.within)) j) (λ j. each_once q k ss i.2 d l j)
      where
        go : cnt n (body f) ≤ 1 → Dec (0 < same k n) → Dec (0 < cnt k cs) → (0 < cnt k cs → cnt k (body f) ≤ 1) → (0 < cnt k ss → cnt k (body f) ≤ 1) → cnt k (body f) ≤ 1
        go one (yes j) y c s = subst (λ (z : ℕ). cnt z (body f) ≤ 1) (same_node k n j) one
        go one (no j) (yes y) c s = c y
        go one (no j) (no y) c s = s (omega arith)

    -- no node stands twice
    pub distinct : (k : ℕ) → cnt k (body f) ≤ 1
    distinct k = go (dec_lt 0 (cnt k (body f)))
      where
        go : Dec (0 < cnt k (body f)) → cnt k (body f) ≤ 1
        go (yes i) = each_once 4294967295 k (body f) h (λ j. absurd (omega arith)) (omega arith) i
        go (no i) = omega arith
