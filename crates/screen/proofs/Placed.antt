-- Each node of a forest is the sheet's, has a holder that can hold it, and lies not too deep; turns of a Merge keep it so.
use Rattle.std.proofs.Common.{◌≡◌, ℕ, zero, suc, ◌<◌, true, ◌&&◌, List, length, get_or, refl}
use Rattle.std.proofs.lemmas.Bool.{false≢true, and_parts, and_from}
use Rattle.screen.specs.Forest.{Forest, bare, tree, ◌⊕◌, is_add, can_hold, held, shallow}
use Rattle.screen.specs.Standing.{Labelled}
use Rattle.screen.specs.Found.{Found}
use Rattle.screen.specs.Course.{Course}
use Rattle.screen.specs.declared.node.Node.{Node}
use Rattle.screen.specs.declared.node.Node.TheVariants.{Body, Add, Terminal, Arm, Scope, Pruned}
use Rattle.screen.proofs.MergeSteps.{Adds}
use Rattle.screen.proofs.MergeTurns.{Turns, none, then, below, behind, flat, takes}

-- with no level left, only an Add's node may stand
abbrev Level : ℕ → Node → Type 0
Level zero x = is_add x ≡ true
Level (suc r) x = Unit {0}

-- one level less
abbrev lower : ℕ → ℕ
lower zero = zero
lower (suc r) = r

-- siblings that p holds, with r levels left
abbrev pub Placed : List Node → Node → ℕ → Forest → Type 0
Placed nodes p r bare = Unit {0}
Placed nodes p r (tree n x cs ss) = (n < length nodes) × (get_or nodes n Body ≡ x) × (can_hold p x ≡ true) × Level r x × Placed nodes x (lower r) cs × Placed nodes p r ss

pub placed_from : (nodes : List Node) (p : Node) (r : ℕ) (f : Forest) → Labelled nodes f → held p f ≡ true → shallow r f ≡ true → Placed nodes p r f
placed_from nodes p r bare l h s = tt
placed_from nodes p zero (tree n x cs ss) l h s =
    let a = and_parts (can_hold p x && held x cs) (held p ss) h in
    let b = and_parts (can_hold p x) (held x cs) a.0 in
    let c = and_parts (is_add x && shallow zero cs) (shallow zero ss) s in
    let d = and_parts (is_add x) (shallow zero cs) c.0 in
    (l.0, l.1, b.0, d.0, placed_from nodes x zero cs l.2 b.1 d.1, placed_from nodes p zero ss l.3 a.1 c.1)
placed_from nodes p (suc r) (tree n x cs ss) l h s =
    let a = and_parts (can_hold p x && held x cs) (held p ss) h in
    let b = and_parts (can_hold p x) (held x cs) a.0 in
    let c = and_parts (shallow r cs) (shallow (suc r) ss) s in
    (l.0, l.1, b.0, tt, placed_from nodes x r cs l.2 b.1 c.0, placed_from nodes p (suc r) ss l.3 a.1 c.1)

pub placed_labelled : (nodes : List Node) (p : Node) (r : ℕ) (f : Forest) → Placed nodes p r f → Labelled nodes f
placed_labelled nodes p r bare h = tt
placed_labelled nodes p r (tree n x cs ss) h = (h.0, h.1, placed_labelled nodes x (lower r) cs h.4, placed_labelled nodes p r ss h.5)

pub placed_held : (nodes : List Node) (p : Node) (r : ℕ) (f : Forest) → Placed nodes p r f → held p f ≡ true
placed_held nodes p r bare h = refl
placed_held nodes p r (tree n x cs ss) h =
    and_from (can_hold p x && held x cs) (held p ss) (and_from (can_hold p x) (held x cs) h.2 (placed_held nodes x (lower r) cs h.4)) (placed_held nodes p r ss h.5)

pub placed_shallow : (nodes : List Node) (p : Node) (r : ℕ) (f : Forest) → Placed nodes p r f → shallow r f ≡ true
placed_shallow nodes p r bare h = refl
placed_shallow nodes p zero (tree n x cs ss) h =
    and_from (is_add x && shallow zero cs) (shallow zero ss) (and_from (is_add x) (shallow zero cs) h.3 (placed_shallow nodes x zero cs h.4)) (placed_shallow nodes p zero ss h.5)
placed_shallow nodes p (suc r) (tree n x cs ss) h =
    and_from (shallow r cs) (shallow (suc r) ss) (placed_shallow nodes x r cs h.4) (placed_shallow nodes p (suc r) ss h.5)

-- another holder that can hold all that this one can
placed_as : (nodes : List Node) (q p : Node) (r : ℕ) (f : Forest) → ((x : Node) → can_hold q x ≡ true → can_hold p x ≡ true) → Placed nodes q r f → Placed nodes p r f
placed_as nodes q p r bare wider h = tt
placed_as nodes q p r (tree n x cs ss) wider h = (h.0, h.1, wider x h.2, h.3, h.4, placed_as nodes q p r ss wider h.5)

level_raised : (r : ℕ) (x : Node) → Level (lower r) x → Level r x
level_raised zero x h = h
level_raised (suc r) x h = tt

level_add : (r : ℕ) (x : Node) → is_add x ≡ true → Level r x
level_add zero x h = h
level_add (suc r) x h = tt

-- a level higher
placed_raised : (nodes : List Node) (p : Node) (r : ℕ) (f : Forest) → Placed nodes p (lower r) f → Placed nodes p r f
placed_raised nodes p r bare h = tt
placed_raised nodes p r (tree n x cs ss) h =
    (h.0, h.1, h.2, level_raised r x h.3, placed_raised nodes x (lower r) cs h.4, placed_raised nodes p r ss h.5)

placed_join : (nodes : List Node) (p : Node) (r : ℕ) (f g : Forest) → Placed nodes p r f → Placed nodes p r g → Placed nodes p r (f ⊕ g)
placed_join nodes p r bare g h k = k
placed_join nodes p r (tree n x cs ss) g h k = (h.0, h.1, h.2, h.3, h.4, placed_join nodes p r ss g h.5 k)

placed_parts : (nodes : List Node) (p : Node) (r : ℕ) (f g : Forest) → Placed nodes p r (f ⊕ g) → Placed nodes p r f × Placed nodes p r g
placed_parts nodes p r bare g h = (tt, h)
placed_parts nodes p r (tree n x cs ss) g h = let k = placed_parts nodes p r ss g h.5 in ((h.0, h.1, h.2, h.3, h.4, k.0), k.1)

-- what can hold a Scope can hold what a Scope can
holds_scope : (p : Node) (k : ℕ) → can_hold p (Scope k) ≡ true → (x : Node) → can_hold (Scope k) x ≡ true → can_hold p x ≡ true
holds_scope Body k h x e = e
holds_scope (Add o v t) k h x e = absurd (false≢true h)
holds_scope (Terminal j o v) k h x e = absurd (false≢true h)
holds_scope Arm k h x e = e
holds_scope (Scope j) k h x e = e
holds_scope (Pruned j) k h x e = e

-- a Scope can hold an instruction, which holds nothing
scope_holds : (x : Node) (k : ℕ) → is_add x ≡ true → can_hold (Scope k) x ≡ true
scope_holds Body k h = refl
scope_holds (Add o v t) k h = refl
scope_holds (Terminal j o v) k h = refl
scope_holds Arm k h = absurd (false≢true h)
scope_holds (Scope j) k h = refl
scope_holds (Pruned j) k h = refl

add_holds : (x y : Node) → is_add x ≡ true → can_hold x y ≡ true → ⊥
add_holds Body y a h = false≢true a
add_holds (Add o v t) y a h = false≢true h
add_holds (Terminal j o v) y a h = false≢true a
add_holds Arm y a h = false≢true a
add_holds (Scope j) y a h = false≢true a
add_holds (Pruned j) y a h = false≢true a

add_empty : (nodes : List Node) (x : Node) (r q : ℕ) (cs : Forest) → is_add x ≡ true → Placed nodes x r cs → Placed nodes x q cs
add_empty nodes x r q bare a h = tt
add_empty nodes x r q (tree n y ds ts) a h = absurd (add_holds x y a h.2)

-- instructions may go a level down, into a Scope
adds_lowered : (nodes : List Node) (p : Node) (r k : ℕ) (f : Forest) → Adds f → Placed nodes p r f → Placed nodes (Scope k) (lower r) f
adds_lowered nodes p r k bare a h = tt
adds_lowered nodes p r k (tree n x cs ss) a h =
    (h.0, h.1, scope_holds x k a.0, level_add (lower r) x a.0, add_empty nodes x (lower r) (lower (lower r)) cs a.0 h.4, adds_lowered nodes p r k ss a.1 h.5)

pub turns_placed : {E : Found} {f g : Forest} {a b : Course} (nodes : List Node) (p : Node) (r : ℕ) → Turns E f a g b → Placed nodes p r f → Placed nodes p r g
turns_placed nodes p r (none e) h = h
turns_placed nodes p r (then t u) h = turns_placed nodes p r u (turns_placed nodes p r t h)
turns_placed nodes p r (below {x} t) h = (h.0, h.1, h.2, h.3, turns_placed nodes x (lower r) t h.4, h.5)
turns_placed nodes p r (behind t) h = (h.0, h.1, h.2, h.3, h.4, turns_placed nodes p r t h.5)
turns_placed nodes p r (flat {k} {c} {s}) h =
    placed_join nodes p r c s (placed_as nodes (Scope k) p r c (holds_scope p k h.2) (placed_raised nodes (Scope k) r c h.4)) h.5
turns_placed nodes p r (takes {k} {c} {s} w m b d a) h =
    let z = placed_parts nodes p r w (tree m (Scope b) d s) h.5 in
    let y = z.1 in (
      h.0,
      h.1,
      h.2,
      h.3,
      placed_join nodes (Scope k) (lower r) c (w ⊕ d) h.4
          (placed_join nodes (Scope k) (lower r) w d (adds_lowered nodes p r k w a z.0) (placed_as nodes (Scope b) (Scope k) (lower r) d (λ x e. e) y.4)),
      y.5,
    )
