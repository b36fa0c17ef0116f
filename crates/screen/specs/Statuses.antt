-- How a Scope stands, by the number in its row.
use Rattle.std.specs.Prelude.{ℕ, Bool, true, false, cond, ◌==◌}
use Rattle.screen.specs.declared.scope.Status.{Status}
use Rattle.screen.specs.declared.scope.Status.TheVariants.{Unused, Standing, Joined, Flattened}

abbrev pub status_of : ℕ → Status
status_of n = cond (n == 0) Unused (cond (n == 1) Standing (cond (n == 2) Joined Flattened))

abbrev pub is_unused : Status → Bool
is_unused Unused = true
is_unused Standing = false
is_unused Joined = false
is_unused Flattened = false

abbrev pub is_standing : Status → Bool
is_standing Unused = false
is_standing Standing = true
is_standing Joined = false
is_standing Flattened = false

abbrev pub is_joined : Status → Bool
is_joined Unused = false
is_joined Standing = false
is_joined Joined = true
is_joined Flattened = false

-- a joined or flattened Scope's node is in the tree no more
abbrev pub is_gone : Status → Bool
is_gone Unused = false
is_gone Standing = false
is_gone Joined = true
is_gone Flattened = true
