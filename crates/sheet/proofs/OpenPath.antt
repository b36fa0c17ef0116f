-- A climb from a node to the body over last children: the nodes on its way are the open ones.
use Rattle.std.proofs.Common.{◌≡◌, ℕ, zero, suc, ◌+◌, ◌<◌, ◌≤◌, true, not, ◌≢◌, List, length, sym, refl, ap, ◌∙◌, subst, add-one, arith}
use borrow.Author.Tests.{clash}
use Rattle.std.proofs.lemmas.Bool.{and_parts, and_from}
use Rattle.screen.specs.declared.node.Node.{Node}
use Rattle.screen.specs.Forest.{Forest, bare, tree, body, is_add}
use Rattle.screen.specs.Open.{Spot, opens, innermost}
use Rattle.sheet.specs.declared.rows.NodeRow.{NodeRow}
use Rattle.sheet.specs.Links.{row, last_of, Links}
use Rattle.sheet.specs.Planted.{root}
use Rattle.sheet.specs.Fitting.{node_at}
use Rattle.sheet.specs.Ladders.{Rung}

abbrev spot : ℕ → Node → Spot
spot n x = record { number = n; node = x }

-- whatever node `at` holds, so many open nodes down from it is `node`
abbrev pub Rises : List NodeRow → ℕ → ℕ → ℕ → Type 0
Rises rows node count at =
    (g : Forest) (x : Node) → Links rows at g → (row rows at).last ≡ last_of g → (opens count g ≡ true) × ((innermost (spot at x) count g).number ≡ node)

-- of each tree that is open down to `node`, so many steps up is `at`
pub record Rest (node steps at : ℕ) (f : Forest) (o : ℕ) : Type 0 where
  pub left : ℕ
  pub sum : steps + left ≡ o
  pub opened : opens left f ≡ true
  pub here : (innermost root left f).number ≡ at

abbrev pub Climbs : List NodeRow → ℕ → ℕ → ℕ → Type 0
Climbs rows node steps at =
    (f : Forest) (o : ℕ) → Links rows 4294967295 (body f) → opens o f ≡ true → o ≤ 63 → (innermost root o f).number ≡ node → Rest node steps at f o

opens_less : (d : ℕ) (g : Forest) → opens (suc d) g ≡ true → opens d g ≡ true
opens_less zero g h = refl
opens_less (suc d) bare h = h
opens_less (suc d) (tree m y cs bare) h =
    let a = and_parts (not (is_add y)) (opens (suc d) cs) h in
    and_from (not (is_add y)) (opens d cs) a.0 (opens_less d cs a.1)
opens_less (suc d) (tree m y cs (tree k z ds ts)) h = opens_less (suc d) (tree k z ds ts) h

module _ (rows : List NodeRow) (few : length rows ≤ 1024) where
  pub rises_more : (node count at : ℕ) → Rung rows at → Rises rows node count at → Rises rows node (count + 1) (row rows at).parent
  rises_more node count at r up g x h l =
      subst (λ (d : ℕ). (opens d g ≡ true) × ((innermost (spot p x) d g).number ≡ node)) (sym (add-one count)) (go g h (sym r.last_is ∙ l))
    where
      p : ℕ
      p = (row rows at).parent

      go : (g : Forest) → Links rows (row rows at).parent g → at ≡ last_of g → (opens (suc count) g ≡ true) × ((innermost (spot (row rows at).parent x) (suc count) g).number ≡ node)
      go bare h e = absurd (omega (arith, r.within, e))
      go (tree m y cs bare) h e =
          let made : node_at rows at ≡ y = ap (λ i. node_at rows i) e ∙ h.0.made_is in
          let under : Links rows at cs = subst (λ (i : ℕ). Links rows i cs) (sym e) h.1 in
          let u = up cs y under (ap (λ i. (row rows i).last) e ∙ h.0.last_is) in (
            and_from (not (is_add y)) (opens count cs) (subst (λ (z : Node). not (is_add z) ≡ true) made r.opened) u.0,
            subst (λ (i : ℕ). (innermost (spot i y) count cs).number ≡ node) e u.1,
          )
      go (tree m y cs (tree k z ds ts)) h e = go (tree k z ds ts) h.2 e

  climb : (s : Spot) (d : ℕ) (g : Forest) → s.number < length rows → Links rows s.number g → (row rows s.number).last ≡ last_of g → opens (suc d) g ≡ true
      → Rung rows (innermost s (suc d) g).number × ((row rows (innermost s (suc d) g).number).parent ≡ (innermost s d g).number)
  climb s zero bare w h l e = absurd (clash e)
  climb s (suc d) bare w h l e = absurd (clash e)
  climb s zero (tree m y cs bare) w h l e =
      let r = h.0 in (
        record {
          within = r.within;
          above = omega (arith, w, r.parent_is);
          last_is = ap (λ i. (row rows i).last) r.parent_is ∙ l;
          opened = ap (λ z. not (is_add z)) r.made_is ∙ (and_parts (not (is_add y)) true e).0;
        },
        r.parent_is,
      )
  climb s (suc d) (tree m y cs bare) w h l e =
      climb (spot m y) d cs h.0.within h.1 h.0.last_is (and_parts (not (is_add y)) (opens (suc d) cs) e).1
  climb s zero (tree m y cs (tree k z ds ts)) w h l e = climb s zero (tree k z ds ts) w h.2 l e
  climb s (suc d) (tree m y cs (tree k z ds ts)) w h l e = climb s (suc d) (tree k z ds ts) w h.2 l e

  module _ (node steps at : ℕ) (off : at ≢ 0) (f : Forest) (o : ℕ) (h : Links rows 4294967295 (body f)) where
    -- a node on the way is a last child
    pub climbs_rung : Rest node steps at f o → Rung rows at
    climbs_rung r = go r.left r.opened r.here
      where
        go : (d : ℕ) → opens d f ≡ true → (innermost root d f).number ≡ at → Rung rows at
        go zero p e = absurd (off (sym e))
        go (suc d) p e = subst (λ (i : ℕ). Rung rows i) e (climb root d f h.0.within h.1 h.0.last_is p).0

    pub climbs_more : Rest node steps at f o → Rest node (steps + 1) (row rows at).parent f o
    climbs_more r = go r.left r.sum r.opened r.here
      where
        go : (d : ℕ) → steps + d ≡ o → opens d f ≡ true → (innermost root d f).number ≡ at → Rest node (steps + 1) (row rows at).parent f o
        go zero s p e = absurd (off (sym e))
        go (suc d) s p e =
            record {
              left = d;
              sum = omega arith;
              opened = opens_less d f p;
              here = sym (climb root d f h.0.within h.1 h.0.last_is p).1 ∙ ap (λ i. (row rows i).parent) e;
            }
