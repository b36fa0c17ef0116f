-- What a Merge does to a forest, one turn after another: a Scope is flattened, or a keeper takes the Scope behind it and the instructions between.
use Rattle.std.proofs.Common.{◌≡◌, ℕ, Bool, true, false, None, Option, sym, subst, inl, inr}
use Rattle.screen.specs.Forest.{Forest, bare, tree, ◌⊕◌}
use Rattle.screen.specs.Found.{Found}
use Rattle.screen.specs.Course.{Course}
use Rattle.screen.specs.Joining.{join}
use Rattle.screen.specs.Scan.{Run, idle, open_run, close, Step, step, Out, scan}
use Rattle.screen.specs.Merge.{under, flattens, flattened, settle, work, merge}
use Rattle.screen.specs.declared.node.Node.{Node}
use Rattle.screen.specs.declared.node.Node.TheVariants.{Body, Add, Terminal, Arm, Scope, Pruned}
use Rattle.screen.proofs.MergeSteps.{flush, Alike, alike_refl, view_idle, view_open, Adds, Waits, step_waits}

-- from a forest and a course to those afterwards
pub data Turns (E : Found) : Forest → Course → Forest → Course → Type 0 where
  none : {f : Forest} {a b : Course} → Alike a b → Turns E f a f b
  then : {f g h : Forest} {a b c : Course} → Turns E f a g b → Turns E g b h c → Turns E f a h c
  below : {n : ℕ} {x : Node} {c c' s : Forest} {a b : Course} → Turns E c a c' b → Turns E (tree n x c s) a (tree n x c' s) b
  behind : {n : ℕ} {x : Node} {c s s' : Forest} {a b : Course} → Turns E s a s' b → Turns E (tree n x c s) a (tree n x c s') b
  flat : {n k : ℕ} {c s : Forest} {a : Course} → Turns E (tree n (Scope k) c s) a (c ⊕ s) (flattened (Scope k) a)
  takes : {n k : ℕ} {c s : Forest} {a : Course} (p : Forest) (m b : ℕ) (d : Forest) → Adds p → Turns E (tree n (Scope k) c (p ⊕ tree m (Scope b) d s)) a (tree n (Scope k) (c ⊕ (p ⊕ d)) s) (join E k b a)

pub turns_after : {E : Found} (o : Forest) {f g : Forest} {a b : Course} → Turns E f a g b → Turns E (o ⊕ f) a (o ⊕ g) b
turns_after bare t = t
turns_after (tree n x c s) t = behind (turns_after s t)

alike_turns : (E : Found) (f g : Forest) (a b : Course) → f ≡ g → Alike a b → Turns E f a g b
alike_turns E f g a b e h = subst (λ (z : Forest). Turns E f a z b) e (none h)

pub step_turns : (E : Found) (r : Run) (m : ℕ) (x : Node) (d : Forest) (st : Course) (l : Forest) → Waits r → Turns E (close r (tree m x d l)) st (flush (step E r m x d st) l) (step E r m x d st).st
step_turns E idle m x d st l h =
    let v = view_idle E m x d st in
    alike_turns E (tree m x d l) (flush (step E idle m x d st) l) st (step E idle m x d st).st (sym (v.same l)) v.alike
step_turns E (open_run n k c p ts) m x d st l h =
    let y : Step = step E (open_run n k c p ts) m x d st in
    elim (view_open E n k c p ts m x d st) [
      | inl v ↦ alike_turns E (tree n (Scope k) c (p ⊕ tree m x d l)) (flush y l) st y.st (sym (v.same l)) v.alike
      | inr v ↦ rw (v.same l, v.state, v.kind) (takes p m v.b d h)
    ]

pub scan_turns : (E : Found) (r : Run) (l : Forest) (st : Course) → Waits r → Turns E (close r l) st (scan E r l st).forest (scan E r l st).st
unfolding scan
scan_turns E r bare st h = none (alike_refl _)
scan_turns E r (tree m x d s) st h =
    let y : Step = step E r m x d st in
    then (step_turns E r m x d st s h) (turns_after y.out (scan_turns E y.run s y.st (step_waits E r m x d st h)))

settle_turns : (E : Found) (p : Option ℕ) (x : Node) (n : ℕ) (o : Out) (s : Forest) → Turns E (tree n x o.forest s) o.st ((settle (flattens E x p) x n o).forest ⊕ s) (settle (flattens E x p) x n o).st
settle_turns E p Body n o s = none (alike_refl _)
settle_turns E p (Add a v t) n o s = none (alike_refl _)
settle_turns E p (Terminal k a v) n o s = none (alike_refl _)
settle_turns E p Arm n o s = none (alike_refl _)
settle_turns E p (Pruned k) n o s = none (alike_refl _)
settle_turns E p (Scope k) n o s = either (flattens E (Scope k) p)
  where
    either : (b : Bool) → Turns E (tree n (Scope k) o.forest s) o.st ((settle b (Scope k) n o).forest ⊕ s) (settle b (Scope k) n o).st
    either true = flat
    either false = none (alike_refl _)

pub work_turns : (E : Found) (p : Option ℕ) (f : Forest) (st : Course) → Turns E f st (work E p f st).forest (work E p f st).st
unfolding work
work_turns E p bare st = none (alike_refl _)
work_turns E p (tree n x c s) st =
    let a : Out = work E (under x p) c st in
    let o : Out = scan E idle a.forest a.st in
    let b : Out = settle (flattens E x p) x n o in
    then (below (work_turns E (under x p) c st))
    (then (below (scan_turns E idle a.forest a.st tt))
    (then (settle_turns E p x n o s) (turns_after b.forest (work_turns E p s b.st))))

pub merge_turns : (E : Found) (f : Forest) (st : Course) → Turns E f st (merge E f st).forest (merge E f st).st
unfolding merge
merge_turns E f st =
    let a : Out = work E None f st in
    then (work_turns E None f st) (scan_turns E idle a.forest a.st tt)
