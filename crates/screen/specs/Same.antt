-- When two dependency lists are the same, under each rule.
use Rattle.std.specs.Prelude.{Bool, ◌&&◌, List, length, ◌==◌}
use Rattle.screen.specs.Rules.{Dep}
use Rattle.screen.specs.Alike.{bits_alike, covered}

-- the list rule: equal lengths, and each entry of the first is alike to one of the second
abbrev pub list_same : List Dep → List Dep → Bool
list_same xs ys = length xs == length ys && covered bits_alike xs ys

-- the both-ways rule: each entry of either is alike to one of the other
abbrev pub both_ways_same : List Dep → List Dep → Bool
both_ways_same xs ys = covered bits_alike xs ys && covered bits_alike ys xs
