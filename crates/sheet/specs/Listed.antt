-- What a list reads of the Scope rows.
use Rattle.std.specs.Prelude.{ℕ, ◌<◌, List, map}
use Rattle.std.specs.Coded.{Unit-prop, le_prop}
use Rattle.screen.specs.declared.node.Node.{Node}
use Rattle.screen.specs.declared.node.Node.TheVariants.{Body, Add, Terminal, Arm, Scope, Pruned}
use Rattle.sheet.specs.declared.rows.ScopeRow.{ScopeRow}

-- where each Scope ends
abbrev pub ends_of : List ScopeRow → List ℕ
ends_of rows = map (λ r. r.end) rows

-- the Scope that a node opened, if any, is one of m
abbrev pub ScopeBelow : ℕ → Node → Type 0
ScopeBelow m Body = Unit {0}
ScopeBelow m (Add o v t) = Unit {0}
ScopeBelow m (Terminal k o v) = Unit {0}
ScopeBelow m Arm = Unit {0}
ScopeBelow m (Scope k) = k < m
ScopeBelow m (Pruned k) = Unit {0}

pub ScopeBelow-prop : (m : ℕ) (x : Node) → IsProp (ScopeBelow m x)
ScopeBelow-prop m Body = Unit-prop
ScopeBelow-prop m (Add o v t) = Unit-prop
ScopeBelow-prop m (Terminal k o v) = Unit-prop
ScopeBelow-prop m Arm = Unit-prop
ScopeBelow-prop m (Scope k) = le_prop
ScopeBelow-prop m (Pruned k) = Unit-prop
