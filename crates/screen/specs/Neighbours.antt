-- Which Scopes are neighbours among siblings, and the targets between them.
use Rattle.std.specs.Prelude.{◌≡◌, ℕ, ◌<◌, Bool, true, false, ◌⊎◌, List, [], ◌∷◌, Some, None, Option}
use Rattle.screen.specs.Forest.{Forest, bare, tree, ◌⊕◌}
use Rattle.screen.specs.Found.{Found, Action, Simple, Load, StoreConst, Store, Other}
use Rattle.screen.specs.Scan.{lone, target, target_of}
use Rattle.screen.specs.declared.node.Node.{Node}
use Rattle.screen.specs.declared.node.Node.TheVariants.{Body, Add, Terminal, Arm, Scope, Pruned}

-- the Scope that a node opened
abbrev pub scope_in : Node → Option ℕ
scope_in Body = None
scope_in (Add o v t) = None
scope_in (Terminal k o v) = None
scope_in Arm = None
scope_in (Scope k) = Some k
scope_in (Pruned k) = None

-- it opened one of these Scopes
abbrev pub opens_one : (ℕ → Bool) → Node → Bool
opens_one q Body = false
opens_one q (Add o v t) = false
opens_one q (Terminal k o v) = false
opens_one q Arm = false
opens_one q (Scope k) = q k
opens_one q (Pruned k) = false

-- a node, or its children in its place
abbrev pub unwrap : Bool → ℕ → Node → Forest → Forest
unwrap true n x c = c
unwrap false n x c = lone n x c

-- the forest with each of these Scopes replaced by its children throughout
abbrev pub without : (ℕ → Bool) → Forest → Forest
without q bare = bare
without q (tree n x c s) = unwrap (opens_one q x) n x (without q c) ⊕ without q s

-- the first of these siblings opened Scope b
abbrev pub First : ℕ → Forest → Type 0
First b bare = ⊥
First b (tree n x c s) = x ≡ Scope b

-- somewhere in the forest Scope b stands right behind its sibling Scope a
abbrev pub Beside : ℕ → ℕ → Forest → Type 0
Beside a b bare = ⊥
Beside a b (tree n x c s) = ((x ≡ Scope a) × First b s) ⊎ (Beside a b c ⊎ Beside a b s)

-- the store of an instruction, before these targets
abbrev pub stored : Action → List ℕ → List ℕ
stored Simple ts = ts
stored (Load r) ts = ts
stored (StoreConst r w) ts = w ∷ ts
stored (Store w) ts = w ∷ ts
stored Other ts = ts

-- the target and the store of an instruction, before these targets
abbrev pub added : Found → Node → List ℕ → List ℕ
added E Body ts = ts
added E (Add o v t) ts = stored (E.action v) (target (target_of E t) ts)
added E (Terminal k o v) ts = ts
added E Arm ts = ts
added E (Scope k) ts = ts
added E (Pruned k) ts = ts

-- the nearest Scope among these siblings is b, with us the targets so far and ts those up to it
abbrev pub Next : Found → ℕ → List ℕ → List ℕ → Forest → Type 0
Next E b ts us bare = ⊥
Next E b ts us (tree n x c s) = ((x ≡ Scope b) × (us ≡ ts)) ⊎ ((scope_in x ≡ None) × Next E b ts (added E x us) s)

-- somewhere in the forest Scope b has a sibling Scope before it, with the targets ts between
abbrev pub Behind : Found → ℕ → List ℕ → Forest → Type 0
Behind E b ts bare = ⊥
Behind E b ts (tree n x c s) = (((a : ℕ) × (x ≡ Scope a)) × Next E b ts [] s) ⊎ (Behind E b ts c ⊎ Behind E b ts s)

-- each of these declarations is last used before e, or never
abbrev pub UsedBefore : (ℕ → Option ℕ) → ℕ → List ℕ → Type 0
UsedBefore last e [] = Unit {0}
UsedBefore last e (t ∷ ts) = ((u : ℕ) → last t ≡ Some u → u < e) × UsedBefore last e ts
