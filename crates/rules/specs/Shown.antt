-- What is shown of the rules.
use Rattle.std.specs.Prelude.{◌≡◌, true, false, List, [], ◌∷◌}
use Rattle.screen.specs.Rules.{Dep}
use Rattle.screen.specs.Alike.{bits_alike, alike}
use Rattle.screen.specs.Same.{list_same, both_ways_same}

-- x twice passes for x and any y under the list rule
abbrev pub RepeatPasses : Type 0
RepeatPasses = (x y : Dep) → list_same (x ∷ x ∷ []) (x ∷ y ∷ []) ≡ true

-- it does not both ways, unless y is alike to x
abbrev pub RepeatSeen : Type 0
RepeatSeen = (x y : Dep) → both_ways_same (x ∷ x ∷ []) (x ∷ y ∷ []) ≡ alike bits_alike y x

-- nor under the list rule the other way round
abbrev pub RepeatSeenTurned : Type 0
RepeatSeenTurned = (x y : Dep) → list_same (x ∷ y ∷ []) (x ∷ x ∷ []) ≡ alike bits_alike y x

-- both ways, it does not matter which list comes first
abbrev pub Symmetric : Type 0
Symmetric = (xs ys : List Dep) → both_ways_same xs ys ≡ both_ways_same ys xs

-- under the list rule it does
abbrev pub NotSymmetric : Type 0
NotSymmetric = (xs : List Dep) × (ys : List Dep) × (list_same xs ys ≡ true) × (list_same ys xs ≡ false)
