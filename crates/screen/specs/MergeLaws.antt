-- The laws of one Merge.
use Rattle.std.specs.Prelude.{◌≡◌, ℕ, ◌+◌, ◌<◌, Bool, true, false, cond, ◌⊎◌, List, [], ◌∷◌, length, Some, None, Option, ◌≢◌}
use Rattle.screen.specs.Forest.{Forest, bare, tree}
use Rattle.screen.specs.Reading.{reading}
use Rattle.screen.specs.Rules.{Meaning}
use Rattle.screen.specs.State.{State, Scope}
use Rattle.screen.specs.Statuses.{is_standing, is_joined}
use Rattle.screen.specs.Lists.{member}
use Rattle.screen.specs.LastUse.{last_use}
use Rattle.screen.specs.Found.{scope_at, entries_of, found_of}
use Rattle.screen.specs.Course.{start}
use Rattle.screen.specs.Joining.{eligible}
use Rattle.screen.specs.Neighbours.{without, Beside, Behind, UsedBefore}
use Rattle.screen.specs.Merge.{Merged, merge_of, under}
use Rattle.screen.specs.WellFormed.{WellFormed}
use Rattle.screen.specs.declared.node.Node.TheVariants as node
use Rattle.screen.specs.declared.scope.Status.{Status}
use Rattle.screen.specs.declared.scope.Status.TheVariants as status

-- the tree without its Scopes reads the same before and after
abbrev pub ReadsSame : Type 0
ReadsSame = (m : Meaning) (σ : State) → reading (merge_of m σ).sheet.tree ≡ reading σ.tree

-- a Merge put its content in its place
abbrev pub is_flattened : Status → Bool
is_flattened status.Unused = false
is_flattened status.Standing = false
is_flattened status.Joined = false
is_flattened status.Flattened = true

-- how many Scopes stand so
abbrev pub how_many : (Status → Bool) → List Scope → ℕ
how_many q [] = 0
how_many q (s ∷ ss) = cond (q s.status) 1 0 + how_many q ss

-- how a Merge may change a Scope's status
pub data Changes : Status → Status → Type 0 where
  stays : {s : Status} → Changes s s
  joins : Changes status.Standing status.Joined
  flattens : Changes status.Standing status.Flattened

-- the answer's two numbers are the Scopes that a Merge made joined and flattened; all others stay as they were
pub record Counted (σ : State) (o : Merged) : Type 0 where
  pub standing : how_many is_standing σ.scopes ≡ how_many is_standing o.sheet.scopes + o.joined + o.flattened
  pub joined : how_many is_joined o.sheet.scopes ≡ how_many is_joined σ.scopes + o.joined
  pub flattened : how_many is_flattened o.sheet.scopes ≡ how_many is_flattened σ.scopes + o.flattened
  pub scopes : length o.sheet.scopes ≡ length σ.scopes
  pub changes : (k : ℕ) → k < length σ.scopes → Changes (scope_at σ k).status (scope_at o.sheet k).status

-- the counts add up
abbrev pub CountsAddUp : Type 0
CountsAddUp = (m : Meaning) (σ : State) → WellFormed σ → Counted σ (merge_of m σ)

-- in a forest below the Scope p, if any, a node opened Scope k, and the nearest Scope above that is q
abbrev pub Nearest : ℕ → ℕ → Option ℕ → Forest → Type 0
Nearest q k p bare = ⊥
Nearest q k p (tree n x cs ss) = ((p ≡ Some q) × (x ≡ node.Scope k)) ⊎ (Nearest q k (under x p) cs ⊎ Nearest q k p ss)

-- this Merge flattened Scope k: it stood
abbrev pub FlattenedBy : Meaning → State → ℕ → Type 0
FlattenedBy m σ k = ((scope_at σ k).status ≡ status.Standing) × ((scope_at (merge_of m σ).sheet k).status ≡ status.Flattened)

-- the tree found has a Scope above it, and the rule calls the nearest one's dependency list and its own the same
abbrev pub SameAsAbove : Meaning → State → ℕ → Type 0
SameAsAbove m σ k = (q : ℕ) × Nearest q k None σ.tree × (m.same (entries_of σ q) (entries_of σ k) ≡ true)

-- a Merge flattens a Scope exactly then
abbrev pub FlattenedExactly : Type 0
FlattenedExactly =
    (m : Meaning) (σ : State) (k : ℕ) → WellFormed σ → k < length σ.scopes →
    (FlattenedBy m σ k → SameAsAbove m σ k) × (SameAsAbove m σ k → FlattenedBy m σ k)

-- the sheet after a Merge that found only the body open is well-formed
abbrev pub FormedAfter : Type 0
FormedAfter = (m : Meaning) (σ : State) → WellFormed σ → σ.opened ≡ 0 → WellFormed (merge_of m σ).sheet

-- the tree found, with each Scope that the Merge flattened replaced by its children throughout
abbrev pub found_without : Meaning → State → Forest
found_without m σ = without (λ k. is_flattened (scope_at (merge_of m σ).sheet k).status) σ.tree

-- this Merge joined Scope k: it stood
abbrev pub JoinedBy : Meaning → State → ℕ → Type 0
JoinedBy m σ k = ((scope_at σ k).status ≡ status.Standing) × ((scope_at (merge_of m σ).sheet k).status ≡ status.Joined)

-- the targets and stores between a joined Scope and the Scope before it are last used before its end as the Merge left it, and before its keeper's, or never
abbrev pub TargetsUsed : Type 0
TargetsUsed =
    (m : Meaning) (σ : State) (b : ℕ) (ts : List ℕ) → WellFormed σ → Behind (found_of m σ) b ts (found_without m σ) → JoinedBy m σ b →
    UsedBefore (last_use σ) (scope_at (merge_of m σ).sheet b).end ts
    × ((k : ℕ) → member b (scope_at (merge_of m σ).sheet k).merged ≡ true → UsedBefore (last_use σ) (scope_at (merge_of m σ).sheet k).end ts)

-- two Scopes side by side, with the same entries in their dependency lists, no reassignments and the first eligible as found, do not both stand afterwards
abbrev pub NeverBoth : Type 0
NeverBoth =
    (m : Meaning) (σ : State) (a b : ℕ) → WellFormed σ → Beside a b (found_without m σ) → entries_of σ a ≡ entries_of σ b →
    (scope_at σ a).reassigns ≡ false → (scope_at σ b).reassigns ≡ false → eligible (found_of m σ) (start σ) a ≡ true →
    (scope_at (merge_of m σ).sheet a).status ≡ status.Standing → (scope_at (merge_of m σ).sheet b).status ≢ status.Standing
