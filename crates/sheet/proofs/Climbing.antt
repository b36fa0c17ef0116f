-- The innermost open node, and the way up from it.
use Rattle.std.proofs.Common.{◌≡◌, ℕ, zero, suc, ◌+◌, ◌-◌, ◌<◌, ◌≤◌, true, ◌≢◌, List, length, sym, refl, ap, ◌∙◌, subst, sub-one, arith}
use Rattle.std.proofs.lemmas.Bool.{false≢true}
use Rattle.screen.specs.declared.node.Node.TheVariants.{Body}
use Rattle.screen.specs.declared.scope.Status.{Status}
use Rattle.screen.specs.Entries.{node_of}
use Rattle.screen.specs.Forest.{Forest, bare, tree, cnt, body}
use Rattle.screen.specs.Open.{opens, Spot, innermost}
use Rattle.sheet.specs.declared.rows.NodeRow.{NodeRow}
use Rattle.sheet.specs.Links.{row, last_of, Links}
use Rattle.sheet.specs.Planted.{root, nodes_of, Planted}
use Rattle.screen.proofs.Counts.{same_self}
use Rattle.screen.proofs.Grown.{inside}
use Rattle.screen.proofs.StandingGrown.{standing_less}
use Rattle.sheet.proofs.Appending.{Below}
use Rattle.sheet.proofs.Joining.{last_within}
use Rattle.sheet.proofs.Planting.{planted_once}

-- a node of f that is open, and the open node that holds it
pub record Tip (rows : List NodeRow) (f : Forest) (here up : Spot) : Type 0 where
  pub within : here.number < length rows
  pub made_is : node_of (row rows here.number).made ≡ here.node
  pub parent_is : (row rows here.number).parent ≡ up.number
  pub last_below : Below (length rows) (row rows here.number).last
  pub counted : 1 ≤ cnt here.number f

pub tip : (rows : List NodeRow) (at : Spot) (d : ℕ) (f : Forest) → Links rows at.number f → opens (suc d) f ≡ true → Tip rows f (innermost at (suc d) f) (innermost at d f)
tip rows at d bare h o = absurd (false≢true o)
tip rows at zero (tree m y cs bare) h o =
    record {
      within = h.0.within;
      made_is = h.0.made_is;
      parent_is = h.0.parent_is;
      last_below = rw h.0.last_is (below cs h.1);
      counted = omega (arith, same_self m);
    }
  where
    below : (cs : Forest) → Links rows m cs → Below (length rows) (last_of cs)
    below bare h = λ ne. absurd (ne refl)
    below (tree n x ds ss) h = λ _. last_within rows m n x ds ss h
tip rows at (suc d) (tree m y cs bare) h o =
    let t = tip rows (record { number = m; node = y }) d cs h.1 (inside (suc d) m y cs o) in
    record { within = t.within; made_is = t.made_is; parent_is = t.parent_is; last_below = t.last_below; counted = omega (arith, t.counted) }
tip rows at zero (tree m y cs (tree j z ds ts)) h o =
    let t = tip rows at zero (tree j z ds ts) h.2 o in
    record { within = t.within; made_is = t.made_is; parent_is = t.parent_is; last_below = t.last_below; counted = omega (arith, t.counted) }
tip rows at (suc d) (tree m y cs (tree j z ds ts)) h o =
    let t = tip rows at (suc d) (tree j z ds ts) h.2 o in
    record { within = t.within; made_is = t.made_is; parent_is = t.parent_is; last_below = t.last_below; counted = omega (arith, t.counted) }

module _ (rows : List NodeRow) (ss : List Status) (at : ℕ) (f : Forest) (o : ℕ) (planted : Planted rows ss at f o) where
  tip_body : Tip rows (body f) (innermost root o f) (innermost (record { number = 4294967295; node = Body }) o (body f))
  tip_body = tip rows (record { number = 4294967295; node = Body }) o (body f) planted.links planted.standing.last

  -- the innermost open node has a row
  pub innermost_within : at < length rows
  innermost_within = omega (arith, planted.innermost_is, tip_body.within)

  -- its row says what it is
  pub innermost_node : node_of (row rows at).made ≡ (innermost root o f).node
  innermost_node = ap (λ n. node_of (row rows n).made) (sym planted.innermost_is) ∙ tip_body.made_is

  -- its last child, if any, has a row
  pub innermost_last : Below (length rows) (row rows at).last
  innermost_last = subst (λ (n : ℕ). Below (length rows) (row rows n).last) planted.innermost_is tip_body.last_below

-- only the body is open where it is the innermost
pub innermost_body : (rows : List NodeRow) (ss : List Status) (at : ℕ) (f : Forest) (o : ℕ) → Planted rows ss at f o → o ≡ 0 → at ≡ 0
innermost_body rows ss at f o h e = sym h.innermost_is ∙ ap (λ d. (innermost root d f).number) e

pub only_body : (rows : List NodeRow) (ss : List Status) (at : ℕ) (f : Forest) (o : ℕ) → Planted rows ss at f o → at ≡ 0 → o ≡ 0
only_body rows ss at f zero h e = refl
only_body rows ss at f (suc o) h e =
    let t = tip rows root o f h.links.1 h.standing.last in
    let z : 1 ≤ cnt 0 f = subst (λ (n : ℕ). 1 ≤ cnt n f) (h.innermost_is ∙ e) t.counted in
    absurd (omega (arith, planted_once rows ss at f (suc o) h 0))

-- closing it, its parent is the innermost open node
pub planted_up : (rows : List NodeRow) (ss : List Status) (at : ℕ) (f : Forest) (o : ℕ) → Planted rows ss at f (suc o) → Planted rows ss (row rows at).parent f o
planted_up rows ss at f o h =
    let s = h.standing in
    let t = tip rows root o f h.links.1 s.last in
    record {
      links = h.links;
      idle = h.idle;
      standing = standing_less (nodes_of rows) ss f o s;
      innermost_is = sym t.parent_is ∙ ap (λ n. (row rows n).parent) h.innermost_is;
    }

pub planted_close : (rows : List NodeRow) (ss : List Status) (at : ℕ) (f : Forest) (o : ℕ) → Planted rows ss at f o → at ≢ 0 → Planted rows ss (row rows at).parent f (o - 1)
planted_close rows ss at f zero h ne = absurd (ne (innermost_body rows ss at f zero h refl))
planted_close rows ss at f (suc o) h ne = rw sub-one (planted_up rows ss at f o h)

-- n nodes up from the innermost of o open nodes
pub record Climbed (rows : List NodeRow) (ss : List Status) (f : Forest) (o n at : ℕ) : Type 0 where
  pub left : ℕ
  pub adds : n + left ≡ o
  pub planted : Planted rows ss at f left

pub climb_start : (rows : List NodeRow) (ss : List Status) (f : Forest) (o at : ℕ) → Planted rows ss at f o → Climbed rows ss f o 0 at
climb_start rows ss f o at h = record { left = o; adds = omega arith; planted = h }

pub climb_up : (rows : List NodeRow) (ss : List Status) (f : Forest) (o n at : ℕ) → Climbed rows ss f o n at → at ≢ 0 → Climbed rows ss f o (n + 1) (row rows at).parent
climb_up rows ss f o n at h ne =
    let some : h.left ≢ 0 = λ e. ne (innermost_body rows ss at f h.left h.planted e) in
    record { left = h.left - 1; adds = omega (arith, h.adds); planted = planted_close rows ss at f h.left h.planted ne }

pub climb_end : (rows : List NodeRow) (ss : List Status) (f : Forest) (o n at : ℕ) → Climbed rows ss f o n at → at ≡ 0 → n ≡ o
climb_end rows ss f o n at h e = omega (arith, h.adds, only_body rows ss at f h.left h.planted e)

-- what keeps a turn safe
pub record Low (rows : List NodeRow) (n at : ℕ) : Type 0 where
  pub within : at < length rows
  pub few : n ≤ 63

pub climb_low : (rows : List NodeRow) (ss : List Status) (f : Forest) (o n at : ℕ) → Climbed rows ss f o n at → o ≤ 63 → Low rows n at
climb_low rows ss f o n at h l = record { within = innermost_within rows ss at f h.left h.planted; few = omega (arith, h.adds) }
