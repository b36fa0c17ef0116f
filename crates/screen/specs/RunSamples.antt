-- Runs with Merge among their records, whose replies, log and counts are known.
use Rattle.std.specs.Prelude.{◌≡◌, ℕ, ◌+◌, ◌*◌, Bool, true, ◌&&◌, List, [], ◌∷◌, ◌++◌, map, Ok, Err, ◌==◌}
use Rattle.block.specs.declared.record.Record.{Record}
use Rattle.screen.specs.Numbers.{number_of}
use Rattle.screen.specs.Reading.{Item, entered, close}
use Rattle.screen.specs.Meanings.{list_meaning, both_ways_meaning}
use Rattle.screen.specs.Statuses.{is_standing}
use Rattle.screen.specs.MergeLaws.{how_many}
use Rattle.screen.specs.MergeSamples.{made, scope, enter, leave, terminal, arm, two, names, dependency, numbers}
use Rattle.screen.specs.Runs.{Reply, answered, merged, more_open, Asked, after_run, Heard, heard_in, log_of, reading_open, scope_opens, sum_joined, sum_flattened}
use Rattle.screen.specs.declared.node.Node.{Node}
use Rattle.screen.specs.declared.node.Node.TheVariants as node

-- records, each with the list rule first and the both-ways rule second
abbrev pub asking : List Record → List Asked
asking [] = []
asking (x ∷ xs) = record { asks = x; first = list_meaning; second = both_ways_meaning } ∷ asking xs

-- a Merge by the first rule, 0, or the second, 1
abbrev pub merge : ℕ → Record
merge p = made 13 p 0 0 0 0

-- a reply as a number: 0 taken, a refusal's own number, and of a Merge 100 and its two numbers
abbrev pub told : Reply → ℕ
told (answered (Ok a)) = 0
told (answered (Err r)) = number_of r
told (merged j f) = 100 + 10 * j + f
told more_open = 14

abbrev pub told_in : List Heard → List ℕ
told_in [] = []
told_in (e ∷ es) = told e.reply ∷ told_in es

-- an item as a number: 0 close, 1 an instruction, 2 a Terminal, 3 an Arm, 4 a PrunedScope
abbrev pub node_number : Node → ℕ
node_number node.Body = 9
node_number (node.Add o v t) = 1
node_number (node.Terminal k o v) = 2
node_number node.Arm = 3
node_number (node.Scope k) = 9
node_number (node.Pruned k) = 4

abbrev pub item_number : Item → ℕ
item_number (entered x) = node_number x
item_number close = 0

-- two Scopes that end at 3 and 5 are joined; the second Merge finds nothing to do, and one whose p is 2 is no Merge
abbrev pub joining : List Asked
joining = asking (two ++ (merge 0 ∷ merge 0 ∷ merge 2 ∷ []))

abbrev pub joining_pass : Bool
joining_pass = numbers (told_in (heard_in joining)) (0 ∷ 0 ∷ 0 ∷ 0 ∷ 0 ∷ 0 ∷ 110 ∷ 100 ∷ 7 ∷ [])

-- [x, y] in [x, x]: no Merge while a Scope is open, nor a Close of the body; the second rule keeps the inner one, the first flattens it
abbrev pub choosing : List Asked
choosing =
    asking (scope 1 5 ∷ dependency 0 ∷ dependency 0 ∷ scope 2 4 ∷ dependency 0 ∷ dependency 1
    ∷ enter 0 ∷ enter 1 ∷ leave ∷ merge 0 ∷ leave ∷ leave ∷ merge 1 ∷ merge 0 ∷ [])

abbrev pub choosing_pass : Bool
choosing_pass =
    let h = asking names ++ choosing in
    numbers (told_in (heard_in h)) (map (λ x. 0) names ++ (0 ∷ 0 ∷ 0 ∷ 0 ∷ 0 ∷ 0 ∷ 0 ∷ 0 ∷ 0 ∷ 14 ∷ 0 ∷ 12 ∷ 100 ∷ 101 ∷ []))
    && scope_opens (heard_in h) == 2 && how_many is_standing (after_run h).scopes == 1 && sum_joined (heard_in h) == 0 && sum_flattened (heard_in h) == 1

-- a Terminal and an Arm that stay open, and in them a Scope around a Terminal: the Scope leaves no trace, and what is open has no `close`
abbrev pub logging : List Asked
logging = asking (scope 1 5 ∷ terminal ∷ arm ∷ enter 0 ∷ terminal ∷ leave ∷ leave ∷ made 11 3 0 0 0 0 ∷ [])

abbrev pub logging_pass : Bool
logging_pass =
    numbers (map item_number (log_of logging).items) (2 ∷ 3 ∷ 2 ∷ 0 ∷ 4 ∷ [])
    && numbers (map item_number (reading_open (after_run logging).opened (after_run logging).tree)) (2 ∷ 3 ∷ 2 ∷ 0 ∷ 4 ∷ [])

abbrev pub RunSamplesHold : Type 0
RunSamplesHold = (joining_pass && choosing_pass && logging_pass) ≡ true
