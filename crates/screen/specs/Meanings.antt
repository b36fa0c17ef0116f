-- What each rule means, apart from the code.
use Rattle.std.specs.Prelude.{ℕ, ◌||◌, List}
use Rattle.screen.specs.Rules.{Meaning}
use Rattle.screen.specs.Same.{list_same, both_ways_same}
use Rattle.screen.specs.Lasting.{lasting_built_in, own_object}
use Rattle.screen.specs.Reflexive.{list_reflexive, both_ways_reflexive}

abbrev pub list_meaning : Meaning
list_meaning = record { same = list_same; lasting = lasting_built_in; reflexive = list_reflexive }

abbrev pub both_ways_meaning : Meaning
both_ways_meaning = record { same = both_ways_same; lasting = lasting_built_in; reflexive = both_ways_reflexive }

-- these shapes over the rule below: an Object of one of them is lasting too
abbrev pub own_meaning : List ℕ → Meaning → Meaning
own_meaning shapes below =
    record { same = below.same; lasting = λ kind shape. own_object shapes kind shape || below.lasting kind shape; reflexive = below.reflexive }
