-- The scan of a holder's statements: runs of Scopes that join their keeper.
use Rattle.std.specs.Prelude.{ℕ, Bool, true, false, List, [], ◌∷◌, Some, None, Option}
use Rattle.screen.specs.Forest.{Forest, bare, tree, ◌⊕◌}
use Rattle.screen.specs.Found.{Found, Action, Simple, Load, StoreConst, Store, Other}
use Rattle.screen.specs.Course.{Course, put}
use Rattle.screen.specs.Joining.{eligible, joins_to, join}
use Rattle.screen.specs.declared.node.Node.{Node}
use Rattle.screen.specs.declared.node.Node.TheVariants.{Body, Add, Terminal, Arm, Scope, Pruned}

-- a node without siblings
abbrev pub lone : ℕ → Node → Forest → Forest
lone n x c = tree n x c bare

-- a run: its keeper's node and Scope, the content so far, what stands after the last Scope that joined, and the targets there
pub data Run : Type 0 where
  idle : Run
  open_run : ℕ → ℕ → Forest → Forest → List ℕ → Run

-- a run given up, before what follows
abbrev pub close : Run → Forest → Forest
close idle y = y
close (open_run n k c p ts) y = tree n (Scope k) c (p ⊕ y)

-- what one statement leaves: nodes that are done, the run, and the course
pub record Step : Type 0 where
  pub out : Forest
  pub run : Run
  pub st : Course

-- what an instruction does in a run: it goes on with these targets and sources, or ends
pub data Effect : Type 0 where
  goes : List ℕ → (ℕ → Option ℕ) → Effect
  stops : Effect

-- a target, if there is one, before these
abbrev pub target : Option ℕ → List ℕ → List ℕ
target None ts = ts
target (Some t) ts = t ∷ ts

-- a load's target has what it reads as its source
abbrev pub load_source : Option ℕ → ℕ → (ℕ → Option ℕ) → ℕ → Option ℕ
load_source None r f = f
load_source (Some t) r f = put f t (Some r)

-- a source, or what is read itself
abbrev pub source_or : Option ℕ → ℕ → ℕ
source_or None r = r
source_or (Some x) r = x

-- what an instruction with this target does to a run's targets and sources
abbrev pub effect : Action → Option ℕ → List ℕ → (ℕ → Option ℕ) → Effect
effect Simple t ts f = goes (target t ts) f
effect (Load r) t ts f = goes (target t ts) (load_source t r f)
effect (StoreConst r w) t ts f = goes (w ∷ target t ts) (put f w (Some (source_or (f r) r)))
effect (Store w) t ts f = stops
effect Other t ts f = stops

-- the declaration of a target
abbrev pub target_of : Found → Option ℕ → Option ℕ
target_of E None = None
target_of E (Some i) = Some (E.declaration i)

-- the course with other sources
abbrev pub with_sources : Course → (ℕ → Option ℕ) → Course
with_sources st f = record { ends = st.ends; declares = st.declares; sources = f; joins = st.joins; flats = st.flats }

-- a node that stays where it is
abbrev pub stay : ℕ → Node → Forest → Course → Step
stay m x d st = record { out = lone m x d; run = idle; st = st }

-- a Scope outside of a run, after what is done: it begins one if eligible
abbrev pub begin : Bool → Forest → ℕ → ℕ → Forest → Course → Step
begin true o m b d st = record { out = o; run = open_run m b d bare []; st = st }
begin false o m b d st = record { out = o ⊕ lone m (Scope b) d; run = idle; st = st }

-- a Scope that joined: the run goes on if it was eligible
abbrev pub more : Bool → ℕ → ℕ → Forest → Course → Step
more true n k c st = record { out = bare; run = open_run n k c bare []; st = st }
more false n k c st = record { out = lone n (Scope k) c; run = idle; st = st }

-- a Scope in a run, by whether it joins and whether it is eligible, both asked before anything moves
abbrev pub meet : Bool → Bool → Found → ℕ → ℕ → Forest → Forest → ℕ → ℕ → Forest → Course → Step
meet true e E n k c p m b d st = more e n k (c ⊕ (p ⊕ d)) (join E k b st)
meet false e E n k c p m b d st = begin e (tree n (Scope k) c p) m b d st

-- another node in a run
abbrev pub act : Effect → ℕ → ℕ → Forest → Forest → ℕ → Node → Forest → Course → Step
act (goes ts f) n k c p m x d st = record { out = bare; run = open_run n k c (p ⊕ lone m x d) ts; st = with_sources st f }
act stops n k c p m x d st = record { out = tree n (Scope k) c (p ⊕ lone m x d); run = idle; st = st }

-- a statement outside of a run
abbrev pub step_idle : Found → Node → ℕ → Forest → Course → Step
step_idle E Body m d st = stay m Body d st
step_idle E (Add o v t) m d st = stay m (Add o v t) d st
step_idle E (Terminal k o v) m d st = stay m (Terminal k o v) d st
step_idle E Arm m d st = stay m Arm d st
step_idle E (Scope b) m d st = begin (eligible E st b) bare m b d st
step_idle E (Pruned s) m d st = stay m (Pruned s) d st

-- a statement in a run
abbrev pub step_open : Found → Node → ℕ → ℕ → Forest → Forest → List ℕ → ℕ → Forest → Course → Step
step_open E Body n k c p ts m d st = act stops n k c p m Body d st
step_open E (Add o v t) n k c p ts m d st = act (effect (E.action v) (target_of E t) ts st.sources) n k c p m (Add o v t) d st
step_open E (Terminal j o v) n k c p ts m d st = act stops n k c p m (Terminal j o v) d st
step_open E Arm n k c p ts m d st = act stops n k c p m Arm d st
step_open E (Scope b) n k c p ts m d st = meet (joins_to E st k ts b) (eligible E st b) E n k c p m b d st
step_open E (Pruned s) n k c p ts m d st = act stops n k c p m (Pruned s) d st

-- one statement
abbrev pub step : Found → Run → ℕ → Node → Forest → Course → Step
step E idle m x d st = step_idle E x m d st
step E (open_run n k c p ts) m x d st = step_open E x n k c p ts m d st

-- a forest as it comes out, and the course
pub record Out : Type 0 where
  pub forest : Forest
  pub st : Course

-- what is done goes before what comes out of the rest
abbrev pub before : Forest → Out → Out
before o r = record { forest = o ⊕ r.forest; st = r.st }

-- all statements of a holder
unfoldable pub scan : Found → Run → Forest → Course → Out
scan E r bare st = record { forest = close r bare; st = st }
scan E r (tree m x d s) st =
    let y = step E r m x d st in
    before y.out (scan E y.run s y.st)
