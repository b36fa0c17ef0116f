-- A planted tree with a new node is planted.
use Rattle.std.proofs.Common.{◌≡◌, ℕ, zero, suc, ◌+◌, ◌<◌, ◌≤◌, Bool, true, false, cond, eqb, ◌≢◌, List, [], ◌∷◌, ◌++◌, length, get_or, set, sym, refl, ap, ◌∙◌, subst, add-one, arith}
use mathlib.Core.List.{map-append}
use lib.ListN.{length-map}
use Rattle.std.proofs.lemmas.List.{length_push}
use Rattle.block.specs.declared.record.Record.{Record}
use Rattle.screen.specs.declared.node.Node.{Node}
use Rattle.screen.specs.declared.node.Node.TheVariants.{Scope}
use Rattle.screen.specs.declared.scope.Status.{Status}
use Rattle.screen.specs.declared.scope.Status.TheVariants.{Unused, Standing as Stood}
use Rattle.screen.specs.Entries.{node_of}
use Rattle.screen.specs.Forest.{Forest, same, cnt, body, is_add, can_hold}
use Rattle.screen.specs.Open.{opens, Spot, innermost, grow}
use Rattle.screen.specs.Standing.{Standing}
use Rattle.sheet.specs.declared.rows.NodeRow.{NodeRow}
use Rattle.sheet.specs.Links.{row, Links, Idle}
use Rattle.sheet.specs.Planted.{root, nodes_of, Planted}
use Rattle.sheet.specs.Appended.{with_ends, with_last, with_next, attached, fresh, appended}
use Rattle.screen.proofs.Counts.{same_self}
use Rattle.sheet.proofs.Appending.{attached_length}
use Rattle.sheet.proofs.Growing.{grown_links, grown_others}
use Rattle.screen.proofs.Grown.{grow_cnt, grow_innermost, grow_innermost_more}
use Rattle.screen.proofs.StandingGrown.{is_scope, standing_once, standing_add, standing_open, standing_scope}

-- a write that keeps what made a row keeps what the nodes are
pub set_made : (rows : List NodeRow) (i : ℕ) (r : NodeRow) (k : ℕ) → r.made ≡ (row rows i).made → (row (set rows i r) k).made ≡ (row rows k).made
set_made [] i r k e = refl
set_made (x ∷ xs) zero r zero e = e
set_made (x ∷ xs) zero r (suc k) e = refl
set_made (x ∷ xs) (suc i) r zero e = refl
set_made (x ∷ xs) (suc i) r (suc k) e = set_made xs i r k e

pub set_nodes : (rows : List NodeRow) (i : ℕ) (r : NodeRow) → r.made ≡ (row rows i).made → nodes_of (set rows i r) ≡ nodes_of rows
set_nodes [] i r e = refl
set_nodes (x ∷ xs) zero r e = ap (λ m. node_of m ∷ nodes_of xs) e
set_nodes (x ∷ xs) (suc i) r e = ap (λ t. node_of x.made ∷ t) (set_nodes xs i r e)

pub attached_nodes : (rows : List NodeRow) (p a z : ℕ) → nodes_of (attached rows p a z) ≡ nodes_of rows
attached_nodes rows p a z = go (eqb (row rows p).last 4294967295)
  where
    go : (b : Bool) → nodes_of (cond b (set rows p (with_ends a z (row rows p))) (set (set rows (row rows p).last (with_next a (row rows (row rows p).last))) p (with_last z (row rows p)))) ≡ nodes_of rows
    go true = set_nodes rows p (with_ends a z (row rows p)) refl
    go false =
        let new : NodeRow = with_next a (row rows (row rows p).last) in
        set_nodes (set rows (row rows p).last new) p (with_last z (row rows p)) (sym (set_made rows (row rows p).last new p refl)) ∙ set_nodes rows (row rows p).last new refl

pub appended_nodes : (rows : List NodeRow) (p : ℕ) (made : Record) → nodes_of (appended rows p made) ≡ nodes_of rows ++ node_of made ∷ []
appended_nodes rows p made =
    attached_nodes (rows ++ fresh made p ∷ []) p (length rows) (length rows) ∙ map-append (λ r. node_of r.made) rows (fresh made p ∷ [])

pub appended_length : (rows : List NodeRow) (p : ℕ) (made : Record) → length (appended rows p made) ≡ length rows + 1
appended_length rows p made = attached_length (rows ++ fresh made p ∷ []) p (length rows) (length rows) ∙ length_push rows (fresh made p)

-- each node is in the tree once at most
pub planted_once : (rows : List NodeRow) (ss : List Status) (at : ℕ) (f : Forest) (o : ℕ) → Planted rows ss at f o → (k : ℕ) → cnt k (body f) ≤ 1
planted_once rows ss at f o h = standing_once (nodes_of rows) ss f o h.standing

-- a new node x in a planted tree
module _ (rows : List NodeRow) (ss : List Status) (at : ℕ) (f : Forest) (o : ℕ) (planted : Planted rows ss at f o)
    (made : Record) (x : Node) (room : length rows < 1024) (is : node_of made ≡ x) (holds : can_hold (innermost root o f).node x ≡ true) where
  grown_labels : nodes_of (appended rows at made) ≡ nodes_of rows ++ x ∷ []
  grown_labels = appended_nodes rows at made ∙ ap (λ y. nodes_of rows ++ y ∷ []) is

  nodes_many : length (nodes_of rows) ≡ length rows
  nodes_many = length-map rows (λ r. node_of r.made)

  grown_cnt : (k : ℕ) → cnt k (body (grow o (length rows) x f)) ≡ same k (length rows) + cnt k (body f)
  grown_cnt k = grow_cnt k (suc o) (length rows) x (body f) planted.standing.last

  -- the rows hold it
  grown_planted : (ss' : List Status) (at' o' : ℕ) → Standing (nodes_of rows ++ x ∷ []) ss' (grow o (length rows) x f) o' → (innermost root o' (grow o (length rows) x f)).number ≡ at'
      → Planted (appended rows at made) ss' at' (grow o (length rows) x f) o'
  grown_planted ss' at' o' standing innermost_is =
      record {
        links = subst (λ (p : ℕ). Links (appended rows p made) 4294967295 (body (grow o (length rows) x f))) planted.innermost_is
            (grown_links rows made x f o room is planted.links (planted_once rows ss at f o planted) planted.standing.last);
        idle = λ k l z. idle k z (same_as k l z);
        standing = subst (λ (ns : List Node). Standing ns ss' (grow o (length rows) x f) o') (sym grown_labels) standing;
        innermost_is = innermost_is;
      }
    where
      not_new : (k : ℕ) → cnt k (body (grow o (length rows) x f)) ≡ 0 → k ≢ length rows
      not_new k z e = omega (arith, z, grown_cnt k, ap (λ i. same i (length rows)) e, same_self (length rows))

      same_as : (k : ℕ) → k < length (appended rows at made) → cnt k (body (grow o (length rows) x f)) ≡ 0 → (k < length rows) × (row (appended rows at made) k ≡ row rows k)
      same_as k l z =
          let ne : k ≢ length rows = not_new k z in
          let low : k < length rows = omega (arith, appended_length rows at made) in (
            low,
            subst (λ (p : ℕ). row (appended rows p made) k ≡ row rows k) planted.innermost_is
                (grown_others rows made x f o room is planted.links (planted_once rows ss at f o planted) planted.standing.last k low (omega (arith, z, grown_cnt k))),
          )

      idle : (k : ℕ) → cnt k (body (grow o (length rows) x f)) ≡ 0 → (k < length rows) × (row (appended rows at made) k ≡ row rows k) → Idle (appended rows at made) k
      idle k z h =
          let i = planted.idle k h.0 (omega (arith, z, grown_cnt k)) in
          record {
            parent_is = ap (λ r. r.parent) h.1 ∙ i.parent_is;
            first_is = ap (λ r. r.first) h.1 ∙ i.first_is;
            last_is = ap (λ r. r.last) h.1 ∙ i.last_is;
            next_is = ap (λ r. r.next) h.1 ∙ i.next_is;
          }

-- an Add's node is closed at once
pub planted_add : (rows : List NodeRow) (ss : List Status) (at : ℕ) (f : Forest) (o : ℕ) → Planted rows ss at f o
    → (made : Record) (x : Node) → length rows < 1024 → node_of made ≡ x → can_hold (innermost root o f).node x ≡ true → is_add x ≡ true
    → Planted (appended rows at made) ss at (grow o (length rows) x f) o
planted_add rows ss at f o h made x room is holds add =
    let s = h.standing in
    grown_planted rows ss at f o h made x room is holds ss at o
    (standing_add (nodes_of rows) ss f o s (length rows) x (nodes_many rows ss at f o h made x room is holds) holds add)
    (ap (λ (p : Spot). p.number) (grow_innermost root o (length rows) x f s.last) ∙ h.innermost_is)

-- the node is the innermost open one then
innermost_new : (o : ℕ) (n : ℕ) (x : Node) (f : Forest) → opens o f ≡ true → (innermost root (o + 1) (grow o n x f)).number ≡ n
innermost_new o n x f h = rw add-one (ap (λ (p : Spot). p.number) (grow_innermost_more root o n x f h))

-- a Terminal, an Arm or a PrunedScope stays open
pub planted_open : (rows : List NodeRow) (ss : List Status) (at : ℕ) (f : Forest) (o : ℕ) → Planted rows ss at f o
    → (made : Record) (x : Node) → length rows < 1024 → node_of made ≡ x → can_hold (innermost root o f).node x ≡ true → is_add x ≡ false → is_scope x ≡ false → o < 63
    → Planted (appended rows at made) ss (length rows) (grow o (length rows) x f) (o + 1)
planted_open rows ss at f o h made x room is holds other plain few =
    let s = h.standing in
    grown_planted rows ss at f o h made x room is holds ss (length rows) (o + 1)
    (standing_open (nodes_of rows) ss f o s (length rows) x (nodes_many rows ss at f o h made x room is holds) holds other plain few)
    (innermost_new o (length rows) x f s.last)

-- so does an unused Scope, which stands then
pub planted_scope : (rows : List NodeRow) (ss : List Status) (at : ℕ) (f : Forest) (o : ℕ) → Planted rows ss at f o
    → (made : Record) (k : ℕ) → length rows < 1024 → node_of made ≡ Scope k → can_hold (innermost root o f).node (Scope k) ≡ true → k < length ss → get_or ss k Unused ≡ Unused → o < 63
    → Planted (appended rows at made) (set ss k Stood) (length rows) (grow o (length rows) (Scope k) f) (o + 1)
planted_scope rows ss at f o h made k room is holds l unused few =
    let s = h.standing in
    grown_planted rows ss at f o h made (Scope k) room is holds (set ss k Stood) (length rows) (o + 1)
    (standing_scope (nodes_of rows) ss f o s (length rows) k (nodes_many rows ss at f o h made (Scope k) room is holds) holds l unused few)
    (innermost_new o (length rows) (Scope k) f s.last)
