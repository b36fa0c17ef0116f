-- A tree with a new node in its innermost open node.
use Rattle.std.proofs.Common.{◌≡◌, ℕ, zero, suc, ◌+◌, ◌<◌, ◌≤◌, Bool, true, false, not, ◌&&◌, ◌⊎◌, List, [], ◌∷◌, ◌++◌, length, refl, ap, ◌∙◌, inl, inr, arith}
use Rattle.std.proofs.lemmas.List.{get_or_append_left, get_or_push, length_push}
use Rattle.std.proofs.lemmas.Bool.{false≢true, and_parts, and_from}
use Rattle.screen.specs.declared.node.Node.{Node}
use Rattle.screen.specs.declared.node.Node.TheVariants.{Body}
use Rattle.screen.specs.Forest.{Forest, bare, tree, ◌⊕◌, same, cnt, is_add, can_hold, held, shallow}
use Rattle.screen.specs.Open.{opens, Spot, innermost, grow}
use Rattle.screen.specs.Standing.{opening, openings, Labelled}
use Rattle.screen.proofs.Counts.{cnt_join}

-- what is open inside the last sibling
pub inside : (d m : ℕ) (y : Node) (cs : Forest) → opens (suc d) (tree m y cs bare) ≡ true → opens d cs ≡ true
inside d m y cs h = (and_parts (not (is_add y)) (opens d cs) h).1

pub grow_cnt : (k d n : ℕ) (x : Node) (f : Forest) → opens d f ≡ true → cnt k (grow d n x f) ≡ same k n + cnt k f
grow_cnt k zero n x f h = omega (arith, cnt_join k f (tree n x bare bare))
grow_cnt k (suc d) n x bare h = absurd (false≢true h)
grow_cnt k (suc d) n x (tree m y cs bare) h = omega (arith, grow_cnt k d n x cs (inside d m y cs h))
grow_cnt k (suc d) n x (tree m y cs (tree j z ds ts)) h = omega (arith, grow_cnt k (suc d) n x (tree j z ds ts) h)

pub openings_join : (k : ℕ) (f g : Forest) → openings k (f ⊕ g) ≡ openings k f + openings k g
openings_join k bare g = omega arith
openings_join k (tree n x cs ss) g = omega (arith, openings_join k ss g)

pub grow_openings : (k d n : ℕ) (x : Node) (f : Forest) → opens d f ≡ true → openings k (grow d n x f) ≡ opening k x + openings k f
grow_openings k zero n x f h = omega (arith, openings_join k f (tree n x bare bare))
grow_openings k (suc d) n x bare h = absurd (false≢true h)
grow_openings k (suc d) n x (tree m y cs bare) h = omega (arith, grow_openings k d n x cs (inside d m y cs h))
grow_openings k (suc d) n x (tree m y cs (tree j z ds ts)) h = omega (arith, grow_openings k (suc d) n x (tree j z ds ts) h)

-- three tests that hold
all_three : (a b c : Bool) → a ≡ true → b ≡ true → c ≡ true → a && b && c ≡ true
all_three a b c h k l = and_from (a && b) c (and_from a b h k) l

-- each node holds its children still, where the innermost open node can hold the new one
pub grow_held : (at : Spot) (d n : ℕ) (x : Node) (f : Forest) → opens d f ≡ true → can_hold (innermost at d f).node x ≡ true → held at.node f ≡ true → held at.node (grow d n x f) ≡ true
grow_held at zero n x bare o c h = grind arith
grow_held at zero n x (tree m y cs ss) o c h =
    let k = and_parts (can_hold at.node y && held y cs) (held at.node ss) h in
    and_from (can_hold at.node y && held y cs) (held at.node (ss ⊕ tree n x bare bare)) k.0 (grow_held at zero n x ss refl c k.1)
grow_held at (suc d) n x bare o c h = absurd (false≢true o)
grow_held at (suc d) n x (tree m y cs bare) o c h =
    let k = and_parts (can_hold at.node y && held y cs) true h in
    let l = and_parts (can_hold at.node y) (held y cs) k.0 in
    all_three (can_hold at.node y) (held y (grow d n x cs)) true l.0 (grow_held (record { number = m; node = y }) d n x cs (inside d m y cs o) c l.1) refl
grow_held at (suc d) n x (tree m y cs (tree j z ds ts)) o c h =
    let k = and_parts (can_hold at.node y && held y cs) (held at.node (tree j z ds ts)) h in
    and_from (can_hold at.node y && held y cs) (held at.node (grow (suc d) n x (tree j z ds ts))) k.0 (grow_held at (suc d) n x (tree j z ds ts) o c k.1)

-- no node lies too deep, where an Add's new node lies at most one level below the deepest, and another none
pub grow_shallow : (r d n : ℕ) (x : Node) (f : Forest) → opens d f ≡ true → d ≤ r → (is_add x ≡ true) ⊎ (d < r) → shallow r f ≡ true → shallow r (grow d n x f) ≡ true
grow_shallow zero zero n x bare o l (inl a) h = all_three (is_add x) true true a refl refl
grow_shallow zero zero n x bare o l (inr a) h = absurd (omega arith)
grow_shallow (suc r) zero n x bare o l a h = refl
grow_shallow zero zero n x (tree m y cs ss) o l a h =
    let k = and_parts (is_add y && shallow zero cs) (shallow zero ss) h in
    and_from (is_add y && shallow zero cs) (shallow zero (ss ⊕ tree n x bare bare)) k.0 (grow_shallow zero zero n x ss refl l a k.1)
grow_shallow (suc r) zero n x (tree m y cs ss) o l a h =
    let k = and_parts (shallow r cs) (shallow (suc r) ss) h in
    and_from (shallow r cs) (shallow (suc r) (ss ⊕ tree n x bare bare)) k.0 (grow_shallow (suc r) zero n x ss refl l a k.1)
grow_shallow r (suc d) n x bare o l a h = absurd (false≢true o)
grow_shallow zero (suc d) n x (tree m y cs ss) o l a h = absurd (omega arith)
grow_shallow (suc r) (suc d) n x (tree m y cs bare) o l a h =
    let k = and_parts (shallow r cs) true h in
    and_from (shallow r (grow d n x cs)) true (grow_shallow r d n x cs (inside d m y cs o) (omega arith) (less a) k.0) refl
  where
    less : (is_add x ≡ true) ⊎ (suc d < suc r) → (is_add x ≡ true) ⊎ (d < r)
    less (inl e) = inl e
    less (inr e) = inr (omega arith)
grow_shallow (suc r) (suc d) n x (tree m y cs (tree j z ds ts)) o l a h =
    let k = and_parts (shallow r cs) (shallow (suc r) (tree j z ds ts)) h in
    and_from (shallow r cs) (shallow (suc r) (grow (suc d) n x (tree j z ds ts))) k.0 (grow_shallow (suc r) (suc d) n x (tree j z ds ts) o l a k.1)

-- a node with a later sibling is not open
opens_next : (e d n : ℕ) (x : Node) (m : ℕ) (y : Node) (cs : Forest) (j : ℕ) (z : Node) (ds ts : Forest)
    → opens (suc e) (tree m y cs (grow (suc d) n x (tree j z ds ts))) ≡ opens (suc e) (grow (suc d) n x (tree j z ds ts))
opens_next e d n x m y cs j z ds bare = refl
opens_next e d n x m y cs j z ds (tree i w es us) = refl

innermost_next : (at : Spot) (e d n : ℕ) (x : Node) (m : ℕ) (y : Node) (cs : Forest) (j : ℕ) (z : Node) (ds ts : Forest)
    → innermost at (suc e) (tree m y cs (grow (suc d) n x (tree j z ds ts))) ≡ innermost at (suc e) (grow (suc d) n x (tree j z ds ts))
innermost_next at e d n x m y cs j z ds bare = refl
innermost_next at e d n x m y cs j z ds (tree i w es us) = refl

-- what was open is open still
pub grow_opens : (d n : ℕ) (x : Node) (f : Forest) → opens d f ≡ true → opens d (grow d n x f) ≡ true
grow_opens zero n x f h = refl
grow_opens (suc d) n x bare h = absurd (false≢true h)
grow_opens (suc d) n x (tree m y cs bare) h =
    let k = and_parts (not (is_add y)) (opens d cs) h in
    and_from (not (is_add y)) (opens d (grow d n x cs)) k.0 (grow_opens d n x cs k.1)
grow_opens (suc d) n x (tree m y cs (tree j z ds ts)) h = opens_next d d n x m y cs j z ds ts ∙ grow_opens (suc d) n x (tree j z ds ts) h

pub grow_innermost : (at : Spot) (d n : ℕ) (x : Node) (f : Forest) → opens d f ≡ true → innermost at d (grow d n x f) ≡ innermost at d f
grow_innermost at zero n x f h = refl
grow_innermost at (suc d) n x bare h = absurd (false≢true h)
grow_innermost at (suc d) n x (tree m y cs bare) h = grow_innermost (record { number = m; node = y }) d n x cs (inside d m y cs h)
grow_innermost at (suc d) n x (tree m y cs (tree j z ds ts)) h = innermost_next at d d n x m y cs j z ds ts ∙ grow_innermost at (suc d) n x (tree j z ds ts) h

-- the new node can be open too, and is the innermost then
pub grow_opens_more : (d n : ℕ) (x : Node) (f : Forest) → is_add x ≡ false → opens d f ≡ true → opens (suc d) (grow d n x f) ≡ true
grow_opens_more zero n x bare a h = and_from (not (is_add x)) true (ap not a) refl
grow_opens_more zero n x (tree m y cs bare) a h = and_from (not (is_add x)) true (ap not a) refl
grow_opens_more zero n x (tree m y cs (tree j z ds ts)) a h = grow_opens_more zero n x (tree j z ds ts) a h
grow_opens_more (suc d) n x bare a h = absurd (false≢true h)
grow_opens_more (suc d) n x (tree m y cs bare) a h =
    let k = and_parts (not (is_add y)) (opens d cs) h in
    and_from (not (is_add y)) (opens (suc d) (grow d n x cs)) k.0 (grow_opens_more d n x cs a k.1)
grow_opens_more (suc d) n x (tree m y cs (tree j z ds ts)) a h = opens_next (suc d) d n x m y cs j z ds ts ∙ grow_opens_more (suc d) n x (tree j z ds ts) a h

pub grow_innermost_more : (at : Spot) (d n : ℕ) (x : Node) (f : Forest) → opens d f ≡ true → innermost at (suc d) (grow d n x f) ≡ record { number = n; node = x }
grow_innermost_more at zero n x bare h = refl
grow_innermost_more at zero n x (tree m y cs bare) h = refl
grow_innermost_more at zero n x (tree m y cs (tree j z ds ts)) h = grow_innermost_more at zero n x (tree j z ds ts) h
grow_innermost_more at (suc d) n x bare h = absurd (false≢true h)
grow_innermost_more at (suc d) n x (tree m y cs bare) h = grow_innermost_more (record { number = m; node = y }) d n x cs (inside d m y cs h)
grow_innermost_more at (suc d) n x (tree m y cs (tree j z ds ts)) h = innermost_next at (suc d) d n x m y cs j z ds ts ∙ grow_innermost_more at (suc d) n x (tree j z ds ts) h

-- a forest's nodes are those of their numbers still, after one node more
pub labelled_more : (nodes : List Node) (x : Node) (f : Forest) → Labelled nodes f → Labelled (nodes ++ x ∷ []) f
labelled_more nodes x bare h = tt
labelled_more nodes x (tree n y cs ss) h =
    (omega (arith, h.0, length_push nodes x), get_or_append_left nodes (x ∷ []) Body n h.0 ∙ h.1, labelled_more nodes x cs h.2, labelled_more nodes x ss h.3)

labelled_join : (nodes : List Node) (f g : Forest) → Labelled nodes f → Labelled nodes g → Labelled nodes (f ⊕ g)
labelled_join nodes bare g h k = k
labelled_join nodes (tree n y cs ss) g h k = (h.0, h.1, h.2, labelled_join nodes ss g h.3 k)

pub grow_labelled : (nodes : List Node) (d n : ℕ) (x : Node) (f : Forest) → length nodes ≡ n → Labelled nodes f → Labelled (nodes ++ x ∷ []) (grow d n x f)
grow_labelled nodes zero n x f e h =
    labelled_join (nodes ++ x ∷ []) f (tree n x bare bare) (labelled_more nodes x f h) (omega (arith, length_push nodes x), get_or_push nodes x Body n e, tt, tt)
grow_labelled nodes (suc d) n x bare e h = tt
grow_labelled nodes (suc d) n x (tree m y cs bare) e h =
    let l = labelled_more nodes x (tree m y cs bare) h in
    (l.0, l.1, grow_labelled nodes d n x cs e h.2, tt)
grow_labelled nodes (suc d) n x (tree m y cs (tree j z ds ts)) e h =
    let l = labelled_more nodes x (tree m y cs (tree j z ds ts)) h in
    (l.0, l.1, l.2, grow_labelled nodes (suc d) n x (tree j z ds ts) e h.3)

-- one node less is open
pub opens_less : (d : ℕ) (f : Forest) → opens (suc d) f ≡ true → opens d f ≡ true
opens_less zero f h = refl
opens_less (suc d) bare h = h
opens_less (suc d) (tree m y cs bare) h =
    let k = and_parts (not (is_add y)) (opens (suc d) cs) h in
    and_from (not (is_add y)) (opens d cs) k.0 (opens_less d cs k.1)
opens_less (suc d) (tree m y cs (tree j z ds ts)) h = opens_less (suc d) (tree j z ds ts) h
