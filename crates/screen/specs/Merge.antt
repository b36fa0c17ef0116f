-- What a Merge makes of a sheet.
use Rattle.std.specs.Prelude.{ℕ, Bool, true, false, List, ◌∷◌, length, Some, None, Option}
use Rattle.screen.specs.Forest.{Forest, bare, tree}
use Rattle.screen.specs.Rules.{Meaning}
use Rattle.screen.specs.State.{State}
use Rattle.screen.specs.Found.{Found, found_of}
use Rattle.screen.specs.Course.{Course, start, scopes_from}
use Rattle.screen.specs.Scan.{Out, idle, lone, before, scan}
use Rattle.screen.specs.declared.node.Node.{Node}
use Rattle.screen.specs.declared.node.Node.TheVariants.{Body, Add, Terminal, Arm, Scope, Pruned}

-- the nearest Scope above a node's children: all other nodes are looked through
abbrev pub under : Node → Option ℕ → Option ℕ
under Body p = p
under (Add o v t) p = p
under (Terminal k o v) p = p
under Arm p = p
under (Scope s) p = Some s
under (Pruned s) p = p

-- it opened a Scope, and the rule calls the nearest Scope above, as found, and this one the same
abbrev pub flattens : Found → Node → Option ℕ → Bool
flattens E Body p = false
flattens E (Add o v t) p = false
flattens E (Terminal k o v) p = false
flattens E Arm p = false
flattens E (Scope s) None = false
flattens E (Scope s) (Some q) = E.rule.same (E.entries q) (E.entries s)
flattens E (Pruned s) p = false

-- the Scope that a node opened is noted as flattened
abbrev pub noted : Node → List ℕ → List ℕ
noted Body gs = gs
noted (Add o v t) gs = gs
noted (Terminal k o v) gs = gs
noted Arm gs = gs
noted (Scope s) gs = s ∷ gs
noted (Pruned s) gs = gs

-- the course with that noted
abbrev pub flattened : Node → Course → Course
flattened x st = record { ends = st.ends; declares = st.declares; sources = st.sources; joins = st.joins; flats = noted x st.flats }

-- a node whose children are worked: it holds them, or they take its place
abbrev pub settle : Bool → Node → ℕ → Out → Out
settle true x n o = record { forest = o.forest; st = flattened x o.st }
settle false x n o = record { forest = lone n x o.forest; st = o.st }

-- siblings below the nearest Scope p, first to last: a node's children are worked and scanned before it is settled
unfoldable pub work : Found → Option ℕ → Forest → Course → Out
unfolding scan
work E p bare st = record { forest = bare; st = st }
work E p (tree n x c s) st =
    let a = work E (under x p) c st in
    let b = settle (flattens E x p) x n (scan E idle a.forest a.st) in
    before b.forest (work E p s b.st)

-- the body's children are worked, then scanned
unfoldable pub merge : Found → Forest → Course → Out
unfolding scan work
merge E f st =
    let a = work E None f st in
    scan E idle a.forest a.st

-- a Merge's answer: how many Scopes it joined and flattened, and the sheet afterwards
pub record Merged : Type 0 where
  pub joined : ℕ
  pub flattened : ℕ
  pub sheet : State

-- the answer, and the sheet with the Scopes and the tree that come out; all else is as it was
abbrev pub merged_of : State → Out → Merged
merged_of σ o =
    record {
      joined = length o.st.joins;
      flattened = length o.st.flats;
      sheet = record { rows = σ.rows; scopes = scopes_from o.st 0 σ.scopes; tree = o.forest; opened = σ.opened };
    }

-- a Merge of a sheet by a rule
abbrev pub merge_of : Meaning → State → Merged
merge_of m σ = merged_of σ (merge (found_of m σ) σ.tree (start σ))
