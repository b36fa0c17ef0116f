-- Threads of records whose Merge is known, each named by what it shows.
use Rattle.std.specs.Prelude.{◌≡◌, ℕ, Bool, true, false, not, ◌&&◌, List, [], ◌∷◌, ◌++◌, Ok, Err, Result, ◌==◌}
use Rattle.block.specs.declared.record.Record.{Record}
use Rattle.screen.specs.State.{State, new}
use Rattle.screen.specs.Lists.{every}
use Rattle.screen.specs.Statuses.{is_joined, is_gone}
use Rattle.screen.specs.Rules.{Dep, Meaning}
use Rattle.screen.specs.Found.{scope_at}
use Rattle.screen.specs.Meanings.{list_meaning, both_ways_meaning}
use Rattle.screen.specs.Step.{step, listing}
use Rattle.screen.specs.Merge.{merge_of}
use Rattle.screen.specs.declared.answer.Answer.{Answer}
use Rattle.screen.specs.declared.answer.Refusal.{Refusal}
use Rattle.screen.specs.declared.answer.Line.{Line}

-- no row
abbrev pub none : ℕ
none = 4294967295

-- a record by its fields
abbrev pub made : ℕ → ℕ → ℕ → ℕ → ℕ → ℕ → Record
made tag p q r s t = record { tag = tag; p = p; q = q; r = r; s = s; t = t }

-- a type of a kind and a shape
abbrev pub type : ℕ → ℕ → Record
type kind shape = made 1 kind 0 shape 0 0

-- an identifier of a declaration and a type
abbrev pub identifier : ℕ → ℕ → Record
identifier declaration typ = made 2 0 0 declaration typ 0

-- a Scope of a range
abbrev pub scope : ℕ → ℕ → Record
scope start end = made 4 0 0 start end 0

-- a dependency with no path
abbrev pub dependency : ℕ → Record
dependency i = made 5 0 0 i 0 0

-- an identifier declared under its own key
abbrev pub declaration : ℕ → Record
declaration i = made 6 0 0 i i 0

-- a read of an identifier
abbrev pub read : ℕ → Record
read i = made 8 0 0 i 0 0

-- a LoadLocal of a read
abbrev pub load_local : ℕ → Record
load_local k = made 9 5 1 k none 0

-- a StoreLocal of kind Const: its read, and what it stores to
abbrev pub store_const : ℕ → ℕ → Record
store_const k i = made 9 10 1 k i 0

-- a sequence of an order and a value, with no inner instruction
abbrev pub sequence : ℕ → ℕ → Record
sequence order value = made 9 14 0 order value none

-- an instruction: order, value and target
abbrev pub add : ℕ → ℕ → ℕ → Record
add order value target = made 10 0 0 order value target

-- a Scope is opened
abbrev pub enter : ℕ → Record
enter k = made 11 2 0 k 0 0

-- a terminal with no value
abbrev pub terminal : Record
terminal = made 11 0 0 1 none 0

-- a terminal's block
abbrev pub arm : Record
arm = made 11 1 0 0 0 0

-- the innermost node is closed
abbrev pub leave : Record
leave = made 12 0 0 0 0 0

-- a host's shape
abbrev pub own_shape : ℕ → Record
own_shape s = made 15 0 0 s 0 0

-- a Scope with nothing in it
abbrev pub empty : ℕ → List Record
empty k = enter k ∷ leave ∷ []

-- types 0 Primitive, 1 an array, 2 an Object of a host's shape; identifiers 0 x, 1 y and 2 z are plain, 3, 4 and 5 lasting, 6 plain, 7 of the host's shape
abbrev pub names : List Record
names =
    type 0 0 ∷ type 2 1 ∷ type 2 9 ∷ identifier 0 0 ∷ identifier 1 0 ∷ identifier 2 0 ∷ identifier 3 1 ∷ identifier 4 1 ∷ identifier 5 1 ∷ identifier 6 0 ∷ identifier 7 2 ∷ []

-- a Scope, an instruction that loads x into 6, and a Scope with an instruction that uses 6 at this order; ends of the Scopes first
abbrev pub loaded : ℕ → ℕ → ℕ → List Record
loaded first second order =
    names ++ (scope 1 first ∷ scope 6 second ∷ read 0 ∷ read 6 ∷ load_local 0 ∷ load_local 1 ∷ enter 0 ∷ leave ∷ add 5 0 6 ∷ enter 1 ∷ add order 1 none ∷ leave ∷ [])

-- the same, but the use is the value of a sequence of this order
abbrev pub sequenced : ℕ → List Record
sequenced order =
    names ++ (scope 1 5 ∷ scope 6 9 ∷ read 0 ∷ read 6 ∷ load_local 0 ∷ load_local 1 ∷ sequence order 1 ∷ enter 0 ∷ leave ∷ add 5 0 6 ∷ enter 1 ∷ add 7 2 none ∷ leave ∷ [])

-- the same, but the use is in an inner instruction of this order
abbrev pub innermost : ℕ → List Record
innermost order =
    names ++ (scope 1 5 ∷ scope 6 9 ∷ read 0 ∷ read 6 ∷ read 0 ∷ load_local 0 ∷ load_local 1 ∷ made 9 16 0 order 1 none ∷ load_local 2 ∷ made 9 14 0 7 3 2
    ∷ enter 0 ∷ leave ∷ add 5 0 6 ∷ enter 1 ∷ add 7 4 none ∷ leave ∷ [])

-- a Scope [x] that declares i and j, and a Scope [i]
abbrev pub feeding : ℕ → ℕ → List Record
feeding i j = names ++ ((scope 1 5 ∷ dependency 0 ∷ declaration i ∷ declaration j ∷ scope 5 9 ∷ dependency i ∷ []) ++ (empty 0 ++ empty 1))

-- a Scope [x] that declares 3, instructions, and a Scope [i]
abbrev pub sourced : ℕ → List Record → List Record
sourced i middle =
    names ++ ((scope 1 5 ∷ dependency 0 ∷ declaration 3 ∷ scope 6 9 ∷ dependency i ∷ read 3 ∷ read 4 ∷ load_local 0 ∷ store_const 1 5 ∷ []) ++ (empty 0 ++ (middle ++ empty 1)))

-- three Scopes [x]: the first and the last declare a lasting type, the second has these parts
abbrev pub three : List Record → List Record
three parts =
    names ++ ((scope 1 5 ∷ dependency 0 ∷ declaration 3 ∷ scope 5 9 ∷ dependency 0 ∷ parts)
    ++ ((scope 9 12 ∷ dependency 0 ∷ declaration 5 ∷ []) ++ (empty 0 ++ (empty 1 ++ empty 2))))

-- a Scope [x, x] with one of [x, y] in it
abbrev pub repeating : List Record
repeating = names ++ (scope 1 5 ∷ dependency 0 ∷ dependency 0 ∷ scope 2 4 ∷ dependency 0 ∷ dependency 1 ∷ enter 0 ∷ enter 1 ∷ leave ∷ leave ∷ [])

-- [x, z] in [x, y] in [x, x]
abbrev pub nested : List Record
nested =
    names ++ (scope 1 9 ∷ dependency 0 ∷ dependency 0 ∷ scope 2 8 ∷ dependency 0 ∷ dependency 1 ∷ scope 3 7 ∷ dependency 0 ∷ dependency 2
    ∷ enter 0 ∷ enter 1 ∷ enter 2 ∷ leave ∷ leave ∷ leave ∷ [])

-- records, a rule, and what its Merge of the sheet that they build answers
pub record Sample : Type 0 where
  pub rule : Meaning
  pub joined : ℕ
  pub flattened : ℕ
  pub records : List Record

-- a sample: the rule, joined, flattened and the records
abbrev pub sample : Meaning → ℕ → ℕ → List Record → Sample
sample m j f rs = record { rule = m; joined = j; flattened = f; records = rs }

-- what each shows stands before it
abbrev pub samples : List Sample
samples =
    -- the target is used at 8, before the second Scope's end at 9
    sample list_meaning 1 0 (loaded 5 9 8)
    -- and not before its end at 8
    ∷ sample list_meaning 0 0 (loaded 5 8 8)
    -- the first Scope ends at 9, but the test asks the second Scope's own end, 7
    ∷ sample list_meaning 0 0 (loaded 9 7 8)
    -- a sequence's value is visited with the sequence's order, 8 or 9, not with its instruction's, 7
    ∷ sample list_meaning 1 0 (sequenced 8)
    ∷ sample list_meaning 0 0 (sequenced 9)
    -- an inner instruction visits its value with its own order
    ∷ sample list_meaning 1 0 (innermost 8)
    ∷ sample list_meaning 0 0 (innermost 9)
    -- fed by a declaration of lasting type
    ∷ sample list_meaning 1 0 (feeding 3 4)
    -- fed by a plain one, though another is lasting
    ∷ sample list_meaning 0 0 (feeding 6 4)
    -- an Object of a host's shape is lasting once that shape is put
    ∷ sample list_meaning 0 0 (feeding 7 4)
    ∷ sample list_meaning 1 0 (own_shape 9 ∷ feeding 7 4)
    -- fed through a load's source, and through a store's, but not by what no instruction loaded
    ∷ sample list_meaning 1 0 (sourced 4 (add 5 0 4 ∷ []))
    ∷ sample list_meaning 1 0 (sourced 5 (add 5 0 4 ∷ add 6 1 none ∷ []))
    ∷ sample list_meaning 0 0 (sourced 4 [])
    -- a source noted in a terminal's block serves behind it
    ∷ sample list_meaning 1 0
    (names ++ ((scope 1 2 ∷ scope 4 6 ∷ dependency 0 ∷ declaration 3 ∷ scope 6 9 ∷ dependency 4 ∷ read 3 ∷ load_local 0
    ∷ terminal ∷ arm ∷ enter 0 ∷ leave ∷ add 2 0 4 ∷ leave ∷ leave ∷ []) ++ (empty 1 ++ empty 2)))
    -- the second declares nothing, so it joins and ends the run
    ∷ sample list_meaning 1 0 (three [])
    -- the second declares a lasting type: it is asked before its declarations move, and the run goes on
    ∷ sample list_meaning 2 0 (three (declaration 4 ∷ []))
    -- [x, z] in [x, y] in [x, x]: the middle one goes, and the inner one is compared with it as found
    ∷ sample list_meaning 0 1 nested
    -- the list rule takes [x, x] and [x, y] for the same, the both-ways rule does not
    ∷ sample list_meaning 0 1 repeating
    ∷ sample both_ways_meaning 0 0 repeating
    ∷ []

-- the record was taken
abbrev pub is_accepted : Result Answer Refusal → Bool
is_accepted (Ok a) = true
is_accepted (Err r) = false

-- each record is taken
abbrev pub all_taken : State → List Record → Bool
all_taken σ [] = true
all_taken σ (x ∷ xs) = let y = step σ x in is_accepted y.answer && all_taken y.sheet xs

-- the sheet that records build
abbrev pub built : State → List Record → State
built σ [] = σ
built σ (x ∷ xs) = built (step σ x).sheet xs

-- its records are taken, and its Merge answers the two numbers
abbrev pub passes : Sample → Bool
passes x =
    let o = merge_of x.rule (built new x.records) in
    all_taken new x.records && o.joined == x.joined && o.flattened == x.flattened

-- entries with no path: x, y
abbrev pub entry : ℕ → Dep
entry d = record { declaration = d; path = [] }

-- [x, x] with [x, y] and [x, y] with [x, x], by the list rule and both ways
abbrev pub lists_pass : Bool
lists_pass =
    let xx = entry 0 ∷ entry 0 ∷ [] in
    let xy = entry 0 ∷ entry 1 ∷ [] in
    list_meaning.same xx xy && not (both_ways_meaning.same xx xy) && not (list_meaning.same xy xx)

-- two Scopes that end at 3 and 5 become one that ends at 5
abbrev pub two : List Record
two = scope 1 3 ∷ scope 3 5 ∷ (empty 0 ++ empty 1)

-- a lone line: level, letter, node, Scope and end
abbrev pub only : ℕ → ℕ → ℕ → ℕ → ℕ → List Line → Bool
only l c n k e [] = false
only l c n k e (x ∷ []) = x.level == l && x.letter == c && x.node == n && x.scope == k && x.end == e
only l c n k e (x ∷ y ∷ ys) = false

-- its Merge answers 1 0, and List then writes one line
abbrev pub two_pass : Bool
two_pass =
    let o = merge_of list_meaning (built new two) in
    all_taken new two && o.joined == 1 && o.flattened == 0 && only 1 83 1 0 5 (listing o.sheet)

-- two Scopes [x]: the first declares 3 and 4, the second 5 under the key 4, and 6; 3 is last used at 7, before the new end at 9
abbrev pub moving : List Record
moving =
    names ++ ((scope 1 5 ∷ dependency 0 ∷ declaration 3 ∷ declaration 4 ∷ scope 5 9 ∷ dependency 0 ∷ made 6 0 0 4 5 0 ∷ declaration 6 ∷ read 3 ∷ load_local 0 ∷ [])
    ++ (empty 0 ++ (enter 1 ∷ add 7 0 none ∷ leave ∷ [])))

-- two lists with the same numbers
abbrev pub numbers : List ℕ → List ℕ → Bool
numbers [] [] = true
numbers [] (y ∷ ys) = false
numbers (x ∷ xs) [] = false
numbers (x ∷ xs) (y ∷ ys) = x == y && numbers xs ys

-- row 2 overwrites row 1, row 3 is appended and row 0 dropped; the second Scope keeps none, and is in the first one's merged list
abbrev pub moving_pass : Bool
moving_pass =
    let o = merge_of list_meaning (built new moving) in
    let first = scope_at o.sheet 0 in
    let second = scope_at o.sheet 1 in
    all_taken new moving && numbers first.declares (2 ∷ 3 ∷ []) && numbers second.declares [] && numbers first.merged (1 ∷ []) && is_joined second.status && first.end == 9

-- of the three inside each other it is the middle one that goes
abbrev pub nested_pass : Bool
nested_pass = is_gone (scope_at (merge_of list_meaning (built new nested)).sheet 1).status

-- every sample answers as it should
abbrev pub SamplesHold : Type 0
SamplesHold = (every passes samples && lists_pass && two_pass && moving_pass && nested_pass) ≡ true
