-- Which types are lasting: a value of such a type changes whenever what it is made of does.
use Rattle.std.specs.Prelude.{ℕ, Bool, ◌&&◌, ◌||◌, List, ◌==◌, nat_le}
use Rattle.screen.specs.Lists.{member}

-- the four built-in shapes
abbrev pub built_in : ℕ → Bool
built_in shape = nat_le 1 shape && nat_le shape 4

-- a Function (kind 1), or an Object (kind 2) of a built-in shape
abbrev pub lasting_built_in : ℕ → ℕ → Bool
lasting_built_in kind shape = kind == 1 || (kind == 2 && built_in shape)

-- an Object of one of these shapes
abbrev pub own_object : List ℕ → ℕ → ℕ → Bool
own_object shapes kind shape = kind == 2 && member shape shapes
