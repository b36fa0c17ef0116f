-- How deep values nest: a value's level is 1 without children, else one more than their highest.
use Rattle.std.specs.Prelude.{ℕ, ◌+◌, max, List, [], ◌∷◌, ◌++◌, slice_index}
use Rattle.screen.specs.Users.{names_of}
use Rattle.screen.specs.declared.rows.ValueRow.{ValueRow}

-- the highest of these values' levels, where `levels` has the level of each value
abbrev pub highest : List ℕ → List ℕ → ℕ
highest levels [] = 0
highest levels (k ∷ ks) = max (slice_index levels k) (highest levels ks)

-- a value's level, by those of the values before it
abbrev pub level_after : List ℕ → ValueRow → ℕ
level_after levels v = 1 + highest levels (names_of v)

-- the levels of values whose children have lower numbers, after those of the values before them
abbrev pub levels_from : List ℕ → List ValueRow → List ℕ
levels_from levels [] = levels
levels_from levels (v ∷ vs) = levels_from (levels ++ (level_after levels v ∷ [])) vs

abbrev pub levels_of : List ValueRow → List ℕ
levels_of vs = levels_from [] vs
