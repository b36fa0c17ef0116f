-- What one statement of a scan does: it is passed on, or the keeper takes a Scope.
use Rattle.std.proofs.Common.{◌≡◌, ℕ, Bool, true, false, ◌⊎◌, List, refl, ap, inl, inr}
use Rattle.screen.specs.Forest.{Forest, bare, tree, ◌⊕◌, is_add}
use Rattle.screen.specs.Found.{Found}
use Rattle.screen.specs.Course.{Course}
use Rattle.screen.specs.Joining.{eligible, joins_to, join}
use Rattle.screen.specs.Scan.{lone, Run, idle, open_run, close, Step, step, Effect, goes, stops, act, meet, begin, more, effect, target_of}
use Rattle.screen.specs.declared.node.Node.{Node}
use Rattle.screen.specs.declared.node.Node.TheVariants.{Body, Add, Terminal, Arm, Scope, Pruned}

pub ⊕_assoc : (x y z : Forest) → (x ⊕ y) ⊕ z ≡ x ⊕ (y ⊕ z)
⊕_assoc bare y z = refl
⊕_assoc (tree n l c s) y z = ap (tree n l c) (⊕_assoc s y z)

-- what is done, and the run given up before what follows
abbrev pub flush : Step → Forest → Forest
flush y l = y.out ⊕ close y.run l

-- all but the sources
pub record Alike (a b : Course) : Type 0 where
  pub ends : b.ends ≡ a.ends
  pub declares : b.declares ≡ a.declares
  pub joins : b.joins ≡ a.joins
  pub flats : b.flats ≡ a.flats

pub alike_refl : (a : Course) → Alike a a
alike_refl a = record { ends = refl; declares = refl; joins = refl; flats = refl }

pub record Passed (r : Run) (m : ℕ) (x : Node) (d : Forest) (st : Course) (y : Step) : Type 0 where
  pub same : (l : Forest) → flush y l ≡ close r (tree m x d l)
  pub alike : Alike st y.st

pub record Took (E : Found) (n k : ℕ) (c p : Forest) (ts : List ℕ) (m : ℕ) (x : Node) (d : Forest) (st : Course) (y : Step) : Type 0 where
  pub b : ℕ
  pub kind : x ≡ Scope b
  pub joins : joins_to E st k ts b ≡ true
  pub same : (l : Forest) → flush y l ≡ tree n (Scope k) (c ⊕ (p ⊕ d)) l
  pub state : y.st ≡ join E k b st

begin_same : (e : Bool) (o : Forest) (m b : ℕ) (d : Forest) (st : Course) (l : Forest) → flush (begin e o m b d st) l ≡ o ⊕ tree m (Scope b) d l
begin_same true o m b d st l = refl
begin_same false o m b d st l = ⊕_assoc o (lone m (Scope b) d) l

begin_st : (e : Bool) (o : Forest) (m b : ℕ) (d : Forest) (st : Course) → Alike st (begin e o m b d st).st
begin_st true o m b d st = alike_refl st
begin_st false o m b d st = alike_refl st

pub view_idle : (E : Found) (m : ℕ) (x : Node) (d : Forest) (st : Course) → Passed idle m x d st (step E idle m x d st)
view_idle E m Body d st = record { same = λ l. refl; alike = alike_refl st }
view_idle E m (Add o v t) d st = record { same = λ l. refl; alike = alike_refl st }
view_idle E m (Terminal k o v) d st = record { same = λ l. refl; alike = alike_refl st }
view_idle E m Arm d st = record { same = λ l. refl; alike = alike_refl st }
view_idle E m (Pruned s) d st = record { same = λ l. refl; alike = alike_refl st }
view_idle E m (Scope b) d st =
    record { same = λ l. begin_same (eligible E st b) bare m b d st l; alike = begin_st (eligible E st b) bare m b d st }

act_view : (f : Effect) (n k : ℕ) (c p : Forest) (ts : List ℕ) (m : ℕ) (x : Node) (d : Forest) (st : Course) → Passed (open_run n k c p ts) m x d st (act f n k c p m x d st)
act_view (goes ts' f) n k c p ts m x d st =
    record { same = λ l. ap (tree n (Scope k) c) (⊕_assoc p (lone m x d) l); alike = record { ends = refl; declares = refl; joins = refl; flats = refl } }
act_view stops n k c p ts m x d st =
    record { same = λ l. ap (tree n (Scope k) c) (⊕_assoc p (lone m x d) l); alike = alike_refl st }

more_same : (e : Bool) (n k : ℕ) (c : Forest) (st : Course) (l : Forest) → flush (more e n k c st) l ≡ tree n (Scope k) c l
more_same true n k c st l = refl
more_same false n k c st l = refl

pub more_st : (e : Bool) (n k : ℕ) (c : Forest) (st : Course) → (more e n k c st).st ≡ st
more_st true n k c st = refl
more_st false n k c st = refl

abbrev pub View : Found → ℕ → ℕ → Forest → Forest → List ℕ → ℕ → Node → Forest → Course → Step → Type 0
View E n k c p ts m x d st y = Passed (open_run n k c p ts) m x d st y ⊎ Took E n k c p ts m x d st y

meet_view : (E : Found) (n k : ℕ) (c p : Forest) (ts : List ℕ) (m b : ℕ) (d : Forest) (st : Course) (j e : Bool) → joins_to E st k ts b ≡ j → View E n k c p ts m (Scope b) d st (meet j e E n k c p m b d st)
meet_view E n k c p ts m b d st true e h =
    inr record {
      b = b;
      kind = refl;
      joins = h;
      same = λ l. more_same e n k (c ⊕ (p ⊕ d)) (join E k b st) l;
      state = more_st e n k (c ⊕ (p ⊕ d)) (join E k b st);
    }
meet_view E n k c p ts m b d st false e h =
    inl record { same = λ l. begin_same e (tree n (Scope k) c p) m b d st l; alike = begin_st e (tree n (Scope k) c p) m b d st }

pub view_open : (E : Found) (n k : ℕ) (c p : Forest) (ts : List ℕ) (m : ℕ) (x : Node) (d : Forest) (st : Course) → View E n k c p ts m x d st (step E (open_run n k c p ts) m x d st)
view_open E n k c p ts m Body d st = inl (act_view stops n k c p ts m Body d st)
view_open E n k c p ts m (Add o v t) d st = inl (act_view (effect (E.action v) (target_of E t) ts st.sources) n k c p ts m (Add o v t) d st)
view_open E n k c p ts m (Terminal j o v) d st = inl (act_view stops n k c p ts m (Terminal j o v) d st)
view_open E n k c p ts m Arm d st = inl (act_view stops n k c p ts m Arm d st)
view_open E n k c p ts m (Pruned s) d st = inl (act_view stops n k c p ts m (Pruned s) d st)
view_open E n k c p ts m (Scope b) d st = meet_view E n k c p ts m b d st (joins_to E st k ts b) (eligible E st b) refl

-- these siblings are instructions
abbrev pub Adds : Forest → Type 0
Adds bare = Unit {0}
Adds (tree n x c s) = (is_add x ≡ true) × Adds s

-- only instructions wait in a run
abbrev pub Waits : Run → Type 0
Waits idle = Unit {0}
Waits (open_run n k c p ts) = Adds p

adds_more : (p : Forest) (m : ℕ) (x : Node) (d : Forest) → is_add x ≡ true → Adds p → Adds (p ⊕ lone m x d)
adds_more bare m x d e h = (e, tt)
adds_more (tree n y c s) m x d e h = (h.0, adds_more s m x d e h.1)

begin_waits : (e : Bool) (o : Forest) (m b : ℕ) (d : Forest) (st : Course) → Waits (begin e o m b d st).run
begin_waits true o m b d st = tt
begin_waits false o m b d st = tt

meet_waits : (j e : Bool) (E : Found) (n k : ℕ) (c p : Forest) (m b : ℕ) (d : Forest) (st : Course) → Waits (meet j e E n k c p m b d st).run
meet_waits true true E n k c p m b d st = tt
meet_waits true false E n k c p m b d st = tt
meet_waits false e E n k c p m b d st = begin_waits e (tree n (Scope k) c p) m b d st

act_waits : (f : Effect) (n k : ℕ) (c p : Forest) (m : ℕ) (x : Node) (d : Forest) (st : Course) → is_add x ≡ true → Adds p → Waits (act f n k c p m x d st).run
act_waits (goes ts f) n k c p m x d st e h = adds_more p m x d e h
act_waits stops n k c p m x d st e h = tt

pub step_waits : (E : Found) (r : Run) (m : ℕ) (x : Node) (d : Forest) (st : Course) → Waits r → Waits (step E r m x d st).run
step_waits E idle m Body d st h = tt
step_waits E idle m (Add o v t) d st h = tt
step_waits E idle m (Terminal k o v) d st h = tt
step_waits E idle m Arm d st h = tt
step_waits E idle m (Scope b) d st h = begin_waits (eligible E st b) bare m b d st
step_waits E idle m (Pruned s) d st h = tt
step_waits E (open_run n k c p ts) m Body d st h = tt
step_waits E (open_run n k c p ts) m (Add o v t) d st h = act_waits (effect (E.action v) (target_of E t) ts st.sources) n k c p m (Add o v t) d st refl h
step_waits E (open_run n k c p ts) m (Terminal j o v) d st h = tt
step_waits E (open_run n k c p ts) m Arm d st h = tt
step_waits E (open_run n k c p ts) m (Scope b) d st h = meet_waits (joins_to E st k ts b) (eligible E st b) E n k c p m b d st
step_waits E (open_run n k c p ts) m (Pruned s) d st h = tt
