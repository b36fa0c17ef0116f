-- Tests over lists, which compute.
use Rattle.std.specs.Prelude.{ℕ, ◌+◌, Bool, true, not, ◌&&◌, List, [], ◌∷◌, length, Option, ◌==◌, nat_le, nat_lt}
use Rattle.std.specs.List.{list_all, list_any, flat_map, filter_map}

-- each element passes
abbrev pub every : {A : Type 0} → (A → Bool) → List A → Bool
every p xs = list_all p xs

-- k is among them
abbrev pub member : ℕ → List ℕ → Bool
member k xs = list_any (λ x. x == k) xs

-- no number stands twice
abbrev pub distinct : List ℕ → Bool
distinct [] = true
distinct (x ∷ xs) = not (member x xs) && distinct xs

-- what a function makes of each, one after the other
abbrev pub gathered : {A : Type 0} → (A → List ℕ) → List A → List ℕ
gathered f xs = flat_map f xs

-- the numbers that are there
abbrev pub present : List (Option ℕ) → List ℕ
present os = filter_map (λ o. o) os

-- row n is put
abbrev pub is_put : {A : Type 0} → List A → ℕ → Bool
is_put rows n = nat_lt n (length rows)

-- `count` rows from `first` on are put
abbrev pub span : {A : Type 0} → List A → ℕ → ℕ → Bool
span rows first count = nat_le (first + count) (length rows)
