-- What each node row and each Scope has to be, row by row.
use Rattle.std.specs.Prelude.{◌≡◌, ℕ, zero, suc, ◌+◌, ◌<◌, Bool, true, false, cond, not, List, length, slice_index_or, slice_set}
use Rattle.std.specs.Coded.{Π_prop, →_prop}
use Rattle.screen.specs.declared.node.Node.{Node}
use Rattle.screen.specs.declared.scope.Status.{Status}
use Rattle.screen.specs.declared.scope.Status.TheVariants.{Unused}
use Rattle.screen.specs.Entries.{node_of}
use Rattle.screen.specs.Forest.{can_hold}
use Rattle.screen.specs.Standing.{opening, reached}
use Rattle.screen.specs.Statuses.{is_gone, is_standing}
use Rattle.sheet.specs.declared.rows.NodeRow.{NodeRow}
use Rattle.sheet.specs.Links.{Idle, row}
use Rattle.sheet.specs.Listed.{ScopeBelow, ScopeBelow-prop}

-- the sum of g over the numbers below n
abbrev pub sum_below : ℕ → (ℕ → ℕ) → ℕ
sum_below zero g = 0
sum_below (suc n) g = g n + sum_below n g

-- what node k is, by its row
abbrev pub node_at : List NodeRow → ℕ → Node
node_at rows k = node_of (row rows k).made

-- how Scope j stands
abbrev pub status_at : List Status → ℕ → Status
status_at ss j = slice_index_or ss j Unused

-- each node that opened a Scope names one of the m that are there
abbrev pub ScopesNamed : List NodeRow → ℕ → Type 0
ScopesNamed rows m = (k : ℕ) → k < length rows → ScopeBelow m (node_at rows k)

pub ScopesNamed-prop : (rows : List NodeRow) (m : ℕ) → IsProp (ScopesNamed rows m)
ScopesNamed-prop rows m = Π_prop (λ k. →_prop (ScopeBelow-prop m (node_at rows k)))

-- a node that should be in the tree is the body or names a parent that can hold it, and one that should not has no links
pub record Kept (rows : List NodeRow) (ss : List Status) (k : ℕ) : Type 0 where
  pub idle : reached ss (node_at rows k) ≡ 0 → Idle rows k
  pub within : 0 < k → reached ss (node_at rows k) ≡ 1 → (row rows k).parent < length rows
  pub holds : 0 < k → reached ss (node_at rows k) ≡ 1 → can_hold (node_at rows (row rows k).parent) (node_at rows k) ≡ true

-- how many nodes should be in the tree
abbrev pub expected : List NodeRow → List Status → ℕ → ℕ
expected rows ss n = sum_below n (λ k. reached ss (node_at rows k))

-- how many of the first n nodes opened Scope j
abbrev pub openers : List NodeRow → ℕ → ℕ → ℕ
openers rows n j = sum_below n (λ k. opening j (node_at rows k))

-- 1 where it is so
abbrev pub one : Bool → ℕ
one b = cond b 1 0

-- each Scope that is not gone was opened by one node where it stands, and else by none
abbrev pub OpenedOnce : List NodeRow → List Status → Type 0
OpenedOnce rows ss = (j : ℕ) → j < length ss → is_gone (status_at ss j) ≡ false → openers rows (length rows) j ≡ one (is_standing (status_at ss j))

-- the marks after a node that opened Scope j, and whether it may have
abbrev pub marked_by : List Status → ℕ → List Bool → List Bool
marked_by ss j marks = cond (is_standing (status_at ss j)) (slice_set marks j true) marks

abbrev pub may_open : List Status → ℕ → List Bool → Bool
may_open ss j marks = cond (is_standing (status_at ss j)) (not (slice_index_or marks j false)) (is_gone (status_at ss j))

-- the marks say which standing Scopes the first n nodes opened, and no other Scope was opened unless it is gone
abbrev pub Marked : List NodeRow → List Status → ℕ → List Bool → Type 0
Marked rows ss n marks =
    (j : ℕ) → j < length ss → is_gone (status_at ss j) ≡ false → openers rows n j ≡ cond (is_standing (status_at ss j)) (one (slice_index_or marks j false)) 0
