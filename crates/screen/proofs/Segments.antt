-- How a worked sibling list stands to the list found: each Scope of it stands for itself and what it took since, up to a Scope that joined it.
-- Here G says of a Scope that joins in the end, with the targets since the Scope before, what is known of it, and R what is known of a Scope that has taken nothing.
use Rattle.std.proofs.Common.{◌≡◌, ℕ, ◌<◌, List, [], None, refl, ap, arith}
use Rattle.screen.specs.Forest.{Forest, bare, tree, ◌⊕◌}
use Rattle.screen.specs.Standing.{opening, openings}
use Rattle.screen.specs.Found.{Found}
use Rattle.screen.specs.Scan.{lone, Run, idle, open_run, close}
use Rattle.screen.specs.Neighbours.{scope_in, added}
use Rattle.screen.specs.declared.node.Node.{Node}
use Rattle.screen.specs.declared.node.Node.TheVariants.{Scope}
use Rattle.screen.proofs.Counts.{same_self}

-- a stretch that ends with a Scope that joins, and each of whose Scopes does; behind the targets since the Scope before
pub data Tail (E : Found) (G : List ℕ → ℕ → Type 0) : List ℕ → Forest → Forest → Type 0 where
  tail_end : {ts : List ℕ} {n : ℕ} {x : Node} {c t : Forest} (b : ℕ) → x ≡ Scope b → G ts b → Tail E G ts (tree n x c t) t
  tail_scope : {ts : List ℕ} {n : ℕ} {x : Node} {c t u : Forest} (b : ℕ) → x ≡ Scope b → G ts b → Tail E G [] t u → Tail E G ts (tree n x c t) u
  tail_plain : {ts : List ℕ} {n : ℕ} {x : Node} {c t u : Forest} → scope_in x ≡ None → Tail E G (added E x ts) t u → Tail E G ts (tree n x c t) u

-- a Scope's own stretch, behind it
pub data Head (E : Found) (G : List ℕ → ℕ → Type 0) (R : ℕ → Type 0) (a : ℕ) : Forest → Forest → Type 0 where
  alone : {t : Forest} → R a → Head E G R a t t
  led : {t u : Forest} → Tail E G [] t u → Head E G R a t u

-- the list found and the list worked
pub data Seg (E : Found) (G : List ℕ → ℕ → Type 0) (R : ℕ → Type 0) : Forest → Forest → Type 0 where
  seg_end : Seg E G R bare bare
  seg_plain : {n : ℕ} {x : Node} {c d t l : Forest} → scope_in x ≡ None → Seg E G R t l → Seg E G R (tree n x c t) (tree n x d l)
  seg_scope : {n : ℕ} {x : Node} {c d t u l : Forest} (a : ℕ) → x ≡ Scope a → Head E G R a t u → Seg E G R u l → Seg E G R (tree n x c t) (tree n x d l)

-- what waits in a run, and how the targets grow over it
pub data Pend (E : Found) : List ℕ → List ℕ → Forest → Forest → Forest → Type 0 where
  pend_end : {ts : List ℕ} {t : Forest} → Pend E ts ts t t bare
  pend_more : {ts ts' : List ℕ} {n : ℕ} {x : Node} {c d w t p : Forest} → scope_in x ≡ None → Pend E (added E x ts) ts' w t p → Pend E ts ts' (tree n x c w) t (tree n x d p)

-- what a run stands for, before t
pub data Held (E : Found) (G : List ℕ → ℕ → Type 0) (R : ℕ → Type 0) : Run → Forest → Forest → Type 0 where
  held_idle : {t : Forest} → Held E G R idle t t
  held_open : {n k : ℕ} {c p c0 v w t : Forest} {ts : List ℕ} → Head E G R k v w → Pend E [] ts w t p → Held E G R (open_run n k c p ts) (tree n (Scope k) c0 v) t

-- Scope a is in the forest
abbrev pub Stands : Forest → ℕ → Type 0
Stands f a = 0 < openings a f

pub stands_here : (n : ℕ) (x : Node) (a : ℕ) (c s : Forest) → x ≡ Scope a → Stands (tree n x c s) a
stands_here n x a c s e = omega (arith, ap (opening a) e, same_self a)

tail_trans : {E : Found} {G : List ℕ → ℕ → Type 0} {ts : List ℕ} {t u v : Forest} → Tail E G ts t u → Tail E G [] u v → Tail E G ts t v
tail_trans (tail_end b e j) z = tail_scope b e j z
tail_trans (tail_scope b e j y) z = tail_scope b e j (tail_trans y z)
tail_trans (tail_plain e y) z = tail_plain e (tail_trans y z)

tail_⊕ : {E : Found} {G : List ℕ → ℕ → Type 0} {ts : List ℕ} {t u : Forest} (z : Forest) → Tail E G ts t u → Tail E G ts (t ⊕ z) (u ⊕ z)
tail_⊕ z (tail_end b e j) = tail_end b e j
tail_⊕ z (tail_scope b e j y) = tail_scope b e j (tail_⊕ z y)
tail_⊕ z (tail_plain e y) = tail_plain e (tail_⊕ z y)

head_⊕ : {E : Found} {G : List ℕ → ℕ → Type 0} {R : ℕ → Type 0} {a : ℕ} {t u : Forest} (z : Forest) → Head E G R a t u → Head E G R a (t ⊕ z) (u ⊕ z)
head_⊕ z (alone r) = alone r
head_⊕ z (led y) = led (tail_⊕ z y)

pub seg_⊕ : {E : Found} {G : List ℕ → ℕ → Type 0} {R : ℕ → Type 0} {t u x y : Forest} → Seg E G R t x → Seg E G R u y → Seg E G R (t ⊕ u) (x ⊕ y)
seg_⊕ seg_end z = z
seg_⊕ (seg_plain e y) z = seg_plain e (seg_⊕ y z)
seg_⊕ {u} (seg_scope a e h y) z = seg_scope a e (head_⊕ u h) (seg_⊕ y z)

pub head_map : {E : Found} {G : List ℕ → ℕ → Type 0} {R S : ℕ → Type 0} {a : ℕ} {t u : Forest} → (R a → S a) → Head E G R a t u → Head E G S a t u
head_map f (alone r) = alone (f r)
head_map f (led y) = led y

pub seg_map : {E : Found} {G : List ℕ → ℕ → Type 0} {R S : ℕ → Type 0} {t l : Forest} → ((a : ℕ) → Stands l a → R a → S a) → Seg E G R t l → Seg E G S t l
seg_map f seg_end = seg_end
seg_map f (seg_plain e y) = seg_plain e (seg_map (λ a h. f a (omega arith)) y)
seg_map f (seg_scope {n} {x} {d} {l} a e h y) =
    seg_scope a e (head_map (f a (stands_here n x a d l e)) h) (seg_map (λ b g. f b (omega arith)) y)

pub pend_seg : {E : Found} {G : List ℕ → ℕ → Type 0} {R : ℕ → Type 0} {ts ts' : List ℕ} {w t p y : Forest} → Pend E ts ts' w t p → Seg E G R t y → Seg E G R w (p ⊕ y)
pend_seg pend_end z = z
pend_seg (pend_more e q) z = seg_plain e (pend_seg q z)

pub pend_snoc : {E : Found} {ts ts' : List ℕ} {w t p : Forest} {m : ℕ} {x : Node} {c : Forest} (d : Forest) → scope_in x ≡ None → Pend E ts ts' w (tree m x c t) p → Pend E ts (added E x ts') w t (p ⊕ lone m x d)
pend_snoc d e pend_end = pend_more e pend_end
pend_snoc d e (pend_more g q) = pend_more g (pend_snoc d e q)

pub held_seg : {E : Found} {G : List ℕ → ℕ → Type 0} {R : ℕ → Type 0} {r : Run} {u t y : Forest} → Held E G R r u t → Seg E G R t y → Seg E G R u (close r y)
held_seg held_idle z = z
held_seg (held_open {k} h q) z = seg_scope k refl h (pend_seg q z)

-- a Scope that joins behind what waits
pub pend_tail : {E : Found} {G : List ℕ → ℕ → Type 0} {ts ts' : List ℕ} {w t p : Forest} {m : ℕ} {x : Node} {c : Forest} (b : ℕ) → x ≡ Scope b → G ts' b → Pend E ts ts' w (tree m x c t) p → Tail E G ts w t
pend_tail b e j pend_end = tail_end b e j
pend_tail b e j (pend_more g q) = tail_plain g (pend_tail b e j q)

pub head_tail : {E : Found} {G : List ℕ → ℕ → Type 0} {R : ℕ → Type 0} {a : ℕ} {t u v : Forest} → Head E G R a t u → Tail E G [] u v → Tail E G [] t v
head_tail (alone r) z = z
head_tail (led y) z = tail_trans y z

pub tail_head : {E : Found} {G : List ℕ → ℕ → Type 0} {R : ℕ → Type 0} {a : ℕ} {ts : List ℕ} {t u v : Forest} → Tail E G ts t u → Head E G R a u v → Tail E G ts t v
tail_head z (alone r) = z
tail_head z (led y) = tail_trans z y
