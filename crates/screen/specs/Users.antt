-- Who uses a value: a value or a node that names it. Each value has one user at most.
use Rattle.std.specs.Prelude.{ℕ, Bool, false, ◌||◌, List, [], ◌∷◌, ◌++◌, Some, None, Option}
use Rattle.screen.specs.Lists.{member, gathered, present}
use Rattle.screen.specs.Values.{value_of, children_of}
use Rattle.screen.specs.declared.rows.ValueRow.{ValueRow}
use Rattle.screen.specs.declared.node.Node.{Node}
use Rattle.screen.specs.declared.node.Node.TheVariants.{Body, Add, Terminal, Arm, Scope, Pruned}

-- the values that a value's row names
abbrev pub names_of : ValueRow → List ℕ
names_of v = present (children_of (value_of v))

-- the value that a node names
abbrev pub value_in : Node → Option ℕ
value_in Body = None
value_in (Add o v t) = Some v
value_in (Terminal k o v) = v
value_in Arm = None
value_in (Scope k) = None
value_in (Pruned k) = None

abbrev pub names_in : Node → List ℕ
names_in x = present (value_in x ∷ [])

-- every value that is named, once for each time
abbrev pub namings : List ValueRow → List Node → List ℕ
namings vs xs = gathered names_of vs ++ gathered names_in xs

-- one of these values has a user, or stands twice among them
abbrev pub taken : List ℕ → List ℕ → Bool
taken used [] = false
taken used (k ∷ ks) = member k used || member k ks || taken used ks
