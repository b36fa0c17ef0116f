-- What turns of a Merge leave alone, and what only grows.
use Rattle.std.proofs.Common.{◌≡◌, ℕ, ◌+◌, ◌≤◌, max, eqb, ◌⊎◌, List, [], ◌∷◌, refl, ap, ◌∙◌, inl, inr, arith}
use Rattle.std.proofs.lemmas.Bool.{eqb-true, ne_eqb, cond_both}
use Rattle.screen.specs.Forest.{Forest, bare, tree, ◌⊕◌}
use Rattle.screen.specs.Standing.{openings}
use Rattle.screen.specs.Found.{Found}
use Rattle.screen.specs.Course.{Course, Join}
use Rattle.screen.specs.Joining.{join}
use Rattle.screen.specs.Scan.{Run, idle, open_run, close, step, scan}
use Rattle.screen.specs.declared.node.Node.{Node}
use Rattle.screen.specs.declared.node.Node.TheVariants.{Scope}
use Rattle.screen.proofs.Counts.{apart}
use Rattle.screen.proofs.Grown.{openings_join}
use Rattle.screen.proofs.Weights.{turns_gone, turns_kept}
use Rattle.screen.proofs.MergeSteps.{flush, view_idle, view_open, Waits}
use Rattle.screen.proofs.MergeTurns.{Turns, none, then, below, behind, flat, takes, step_turns}

-- b joined the keeper k
abbrev pub By : ℕ → ℕ → List Join → Type 0
By k b [] = ⊥
By k b (j ∷ js) = ((j.keeper ≡ k) × (j.joined ≡ b)) ⊎ By k b js

-- no Scope comes to be there
pub turns_fewer : {E : Found} {f g : Forest} {a b : Course} (k : ℕ) → Turns E f a g b → openings k g ≤ openings k f
turns_fewer k t = omega (arith, turns_gone k t, turns_kept k t)

-- a later course: joins stay, and ends only grow
pub record Later (s f : Course) : Type 0 where
  pub joins : (k b : ℕ) → By k b s.joins → By k b f.joins
  pub ends : (a : ℕ) → s.ends a ≤ f.ends a

pub later_refl : (s : Course) → Later s s
later_refl s = record { joins = λ k b h. h; ends = λ a. omega arith }

pub later_trans : (s t f : Course) → Later s t → Later t f → Later s f
later_trans s t f h g = record { joins = λ k b j. g.joins k b (h.joins k b j); ends = λ a. omega (arith, h.ends a, g.ends a) }

pub join_later : (E : Found) (k n : ℕ) (st : Course) → Later st (join E k n st)
join_later E k n st =
    record {
      joins = λ q b j. inr j;
      ends = λ a. cond_both (eqb a k) (max (st.ends k) (st.ends n)) (st.ends a) (λ e. st.ends a ≤ e) (λ e. omega (arith, ap st.ends (eqb-true a k e))) (λ e. omega arith);
    }

pub turns_later : {E : Found} {f g : Forest} {a b : Course} → Turns E f a g b → Later a b
turns_later (none e) = record { joins = λ k b h. rw e.joins h; ends = λ k. omega (arith, ap (λ r. r k) e.ends) }
turns_later (then {a} {b} {c} t u) = later_trans a b c (turns_later t) (turns_later u)
turns_later (below t) = turns_later t
turns_later (behind t) = turns_later t
turns_later flat = record { joins = λ k b h. h; ends = λ k. omega arith }
turns_later {E} (takes {k} {a} p m b d w) = join_later E k b a

-- the declarations of a Scope that is not there
pub turns_else : {E : Found} {f g : Forest} {a b : Course} (s : ℕ) → Turns E f a g b → openings s f ≡ 0 → b.declares s ≡ a.declares s
turns_else s (none e) h = ap (λ r. r s) e.declares
turns_else s (then t u) h = turns_else s u (omega (arith, turns_fewer s t)) ∙ turns_else s t h
turns_else s (below t) h = turns_else s t (omega arith)
turns_else s (behind t) h = turns_else s t (omega arith)
turns_else s flat h = refl
turns_else s (takes {k} {s = l} p m b d w) h =
    let o = openings_join s p (tree m (Scope b) d l) in
    rw (ne_eqb s b (apart s b (omega arith)), ne_eqb s k (apart s k (omega arith))) refl

-- a Scope is once in what follows a run, so it was not in the run
pub close_openings : (k : ℕ) (r : Run) (y : Forest) → openings k (close r y) ≡ openings k (close r bare) + openings k y
close_openings k idle y = omega arith
close_openings k (open_run n j c p ts) y = omega (arith, openings_join k p y, openings_join k p bare)

-- what a run and the rest have after a step
pub step_fewer : (E : Found) (k : ℕ) (r : Run) (m : ℕ) (x : Node) (d s : Forest) (st : Course) → Waits r → openings k (step E r m x d st).out + openings k (close (step E r m x d st).run s) ≤ openings k (close r (tree m x d s))
step_fewer E k r m x d s st w =
    let y = step E r m x d st in
    omega (arith, turns_fewer k (step_turns E r m x d st s w), openings_join k y.out (close y.run s))

pub step_else : (E : Found) (r : Run) (m : ℕ) (x : Node) (d : Forest) (st : Course) (a : ℕ) → Waits r → openings a (close r (tree m x d bare)) ≡ 0 → (step E r m x d st).st.declares a ≡ st.declares a
step_else E r m x d st a w h = turns_else a (step_turns E r m x d st bare w) h

-- how often a Scope lies below these siblings: what lies there stays there
abbrev pub inner : ℕ → Forest → ℕ
inner k bare = 0
inner k (tree n x c s) = openings k c + inner k s

pub inner_join : (k : ℕ) (f g : Forest) → inner k (f ⊕ g) ≡ inner k f + inner k g
inner_join k bare g = omega arith
inner_join k (tree n x c s) g = omega (arith, inner_join k s g)

pub inner_fewer : (k : ℕ) (f : Forest) → inner k f ≤ openings k f
inner_fewer k bare = omega arith
inner_fewer k (tree n x c s) = omega (arith, inner_fewer k s)

step_inner : (E : Found) (a : ℕ) (r : Run) (m : ℕ) (x : Node) (d : Forest) (st : Course) (l : Forest) → inner a (close r (tree m x d l)) ≤ inner a (flush (step E r m x d st) l)
step_inner E a idle m x d st l = rw ((view_idle E m x d st).same l) (omega arith)
step_inner E a (open_run n k c p ts) m x d st l =
    elim (view_open E n k c p ts m x d st) [
      | inl v ↦ rw (v.same l) (omega arith)
      | inr v ↦ rw (v.same l) (omega (arith, inner_join a p (tree m x d l), openings_join a c (p ⊕ d), openings_join a p d, inner_fewer a p))
    ]

pub scan_inner : (E : Found) (a : ℕ) (r : Run) (l : Forest) (st : Course) → inner a (close r l) ≤ inner a (scan E r l st).forest
unfolding scan
scan_inner E a r bare st = omega arith
scan_inner E a r (tree m x d s) st =
    let y = step E r m x d st in
    let z = scan E y.run s y.st in
    omega (arith, step_inner E a r m x d st s, scan_inner E a y.run s y.st, inner_join a y.out (close y.run s), inner_join a y.out z.forest)
