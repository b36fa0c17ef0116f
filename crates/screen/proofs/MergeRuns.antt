-- A scan keeps the relation between the list found and the list worked.
use Rattle.std.proofs.Common.{◌≡◌, ℕ, ◌≤◌, max, Bool, true, false, not, ◌&&◌, List, [], ◌∷◌, None, Option, sym, refl, ◌∙◌, subst, inl, arith}
use Rattle.std.proofs.lemmas.Bool.{eq-eqb, ltb-true, and_parts, false≢true}
use Rattle.screen.specs.Forest.{Forest, bare, tree, ◌⊕◌}
use Rattle.screen.specs.Standing.{openings}
use Rattle.screen.specs.Found.{Found, Action, Simple, Load, StoreConst, Store, Other}
use Rattle.screen.specs.Course.{Course, put}
use Rattle.screen.specs.Joining.{eligible, before_or, all_before, alike, joins_to, join}
use Rattle.screen.specs.Scan.{lone, Run, idle, open_run, close, Step, step, step_idle, step_open, Effect, goes, stops, effect, target, target_of, act, meet, begin, more, scan}
use Rattle.screen.specs.Neighbours.{scope_in, stored, added, UsedBefore}
use Rattle.screen.specs.declared.node.Node.{Node}
use Rattle.screen.specs.declared.node.Node.TheVariants.{Body, Add, Terminal, Arm, Scope, Pruned}
use Rattle.screen.proofs.Grown.{openings_join}
use Rattle.screen.proofs.MergeSteps.{⊕_assoc, more_st, Waits, step_waits}
use Rattle.screen.proofs.MergeTurns.{scan_turns}
use Rattle.screen.proofs.MergeFrames.{By, Later, later_trans, join_later, turns_later, turns_else, close_openings, step_fewer, step_else}
use Rattle.screen.proofs.Segments.{Tail, Head, Seg, seg_plain, seg_scope, Pend, pend_end, Held, held_idle, held_open, led, Stands, stands_here, head_map, seg_map, pend_seg, pend_snoc, held_seg, pend_tail, head_tail, tail_head}

-- no Scope is there twice
abbrev pub Once : Forest → Type 0
Once f = (a : ℕ) → openings a f ≤ 1

-- the declarations are as found
abbrev pub Kept : Course → Course → ℕ → Type 0
Kept st₀ st a = st.declares a ≡ st₀.declares a

abbrev pub Carry : Course → Course → Course → Forest → Type 0
Carry st₀ st fin o = (a : ℕ) → Stands o a → Kept st₀ st a → Kept st₀ fin a

-- the relation after a step, and how it goes on to the end
record Onward (E : Found) (G : List ℕ → ℕ → Type 0) (st₀ fin : Course) (u s : Forest) (y : Step) : Type 0 where
  pub u' : Forest
  pub t' : Forest
  pub held : Held E G (Kept st₀ y.st) y.run u' t'
  pub seg : Seg E G (Kept st₀ y.st) t' s
  pub around : Carry st₀ y.st fin y.out → (l : Forest) → Seg E G (Kept st₀ fin) u' l → Seg E G (Kept st₀ fin) u (y.out ⊕ l)

begin_on : (E : Found) (G : List ℕ → ℕ → Type 0) (st₀ fin : Course) (e : Bool) (o : Forest) (m a : ℕ) (d : Forest) (st : Course) (c u t0 t s : Forest) → Head E G (Kept st₀ st) a t0 t → Seg E G (Kept st₀ st) t s
    → (Carry st₀ st fin o → (l : Forest) → Seg E G (Kept st₀ fin) (tree m (Scope a) c t0) l → Seg E G (Kept st₀ fin) u (o ⊕ l)) → Onward E G st₀ fin u s (begin e o m a d st)
begin_on E G st₀ fin true o m a d st c u t0 t s h sg wo =
    record { u' = tree m (Scope a) c t0; t' = t; held = held_open h pend_end; seg = sg; around = wo }
begin_on E G st₀ fin false o m a d st c u t0 t s h sg wo =
    record {
      u' = t;
      t' = t;
      held = held_idle;
      seg = sg;
      around = λ keep l z.
          rw (⊕_assoc o (lone m (Scope a) d) l)
          (wo (λ b g. keep b (omega (arith, openings_join b o (lone m (Scope a) d)))) (tree m (Scope a) d l)
          (seg_scope a refl (head_map (keep a (omega (arith, openings_join a o (lone m (Scope a) d), stands_here m (Scope a) a d bare refl))) h) z));
    }

more_on : (E : Found) (G : List ℕ → ℕ → Type 0) (st₀ fin : Course) (e : Bool) (n k : ℕ) (c : Forest) (st : Course) (c0 v t s : Forest) → Tail E G [] v t → Seg E G (Kept st₀ st) t s → Onward E G st₀ fin (tree n (Scope k) c0 v) s (more e n k c st)
more_on E G st₀ fin true n k c st c0 v t s h sg =
    record { u' = tree n (Scope k) c0 v; t' = t; held = held_open (led h) pend_end; seg = sg; around = λ keep l z. z }
more_on E G st₀ fin false n k c st c0 v t s h sg =
    record { u' = t; t' = t; held = held_idle; seg = sg; around = λ keep l z. seg_scope k refl (led h) z }

stay_on : (E : Found) (G : List ℕ → ℕ → Type 0) (st₀ fin : Course) (x : Node) (m : ℕ) (d : Forest) (st : Course) (c t s : Forest) → scope_in x ≡ None → Seg E G (Kept st₀ st) t s → Onward E G st₀ fin (tree m x c t) s (step_idle E x m d st)
stay_on E G st₀ fin Body m d st c t s e sg = record { u' = t; t' = t; held = held_idle; seg = sg; around = λ keep l z. seg_plain refl z }
stay_on E G st₀ fin (Add o v r) m d st c t s e sg = record { u' = t; t' = t; held = held_idle; seg = sg; around = λ keep l z. seg_plain refl z }
stay_on E G st₀ fin (Terminal k o v) m d st c t s e sg = record { u' = t; t' = t; held = held_idle; seg = sg; around = λ keep l z. seg_plain refl z }
stay_on E G st₀ fin Arm m d st c t s e sg = record { u' = t; t' = t; held = held_idle; seg = sg; around = λ keep l z. seg_plain refl z }
stay_on E G st₀ fin (Pruned x) m d st c t s e sg = record { u' = t; t' = t; held = held_idle; seg = sg; around = λ keep l z. seg_plain refl z }
stay_on E G st₀ fin (Scope x) m d st c t s e sg = absurd (let z : ◌≡◌ {A = ℕ} 0 1 = cc in omega arith)

-- the targets that an instruction adds to a run are its targets and stores
abbrev Fits : Effect → List ℕ → Type 0
Fits (goes ts f) us = ts ≡ us
Fits stops us = Unit {0}

effect_fits : (a : Action) (t : Option ℕ) (ts : List ℕ) (f : ℕ → Option ℕ) → Fits (effect a t ts f) (stored a (target t ts))
effect_fits Simple t ts f = refl
effect_fits (Load r) t ts f = refl
effect_fits (StoreConst r w) t ts f = refl
effect_fits (Store w) t ts f = tt
effect_fits Other t ts f = tt

act_on : (E : Found) (G : List ℕ → ℕ → Type 0) (st₀ fin : Course) (f : Effect) (n k : ℕ) (c p : Forest) (ts : List ℕ) (m : ℕ) (x : Node) (d : Forest) (st : Course) (c0 v w c1 t s : Forest) → Fits f (added E x ts) → scope_in x ≡ None
    → Head E G (Kept st₀ st) k v w → Pend E [] ts w (tree m x c1 t) p → Seg E G (Kept st₀ st) t s → Onward E G st₀ fin (tree n (Scope k) c0 v) s (act f n k c p m x d st)
act_on E G st₀ fin (goes us f) n k c p ts m x d st c0 v w c1 t s fits e h pe sg =
    record { u' = tree n (Scope k) c0 v; t' = t; held = held_open h (subst (λ (z : List ℕ). Pend E [] z w t (p ⊕ lone m x d)) (sym fits) (pend_snoc d e pe)); seg = sg; around = λ keep l z. z }
act_on E G st₀ fin stops n k c p ts m x d st c0 v w c1 t s fits e h pe sg =
    record {
      u' = t;
      t' = t;
      held = held_idle;
      seg = sg;
      around = λ keep l z. seg_scope k refl (head_map (keep k (stands_here n (Scope k) k c (p ⊕ lone m x d) refl)) h) (pend_seg (pend_snoc d e pe) z);
    }

open_on : (E : Found) (G : List ℕ → ℕ → Type 0) (st₀ fin : Course) (x : Node) (n k : ℕ) (c p : Forest) (ts : List ℕ) (m : ℕ) (d : Forest) (st : Course) (c0 v w c1 t s : Forest) → scope_in x ≡ None
    → Head E G (Kept st₀ st) k v w → Pend E [] ts w (tree m x c1 t) p → Seg E G (Kept st₀ st) t s → Onward E G st₀ fin (tree n (Scope k) c0 v) s (step_open E x n k c p ts m d st)
open_on E G st₀ fin Body n k c p ts m d st c0 v w c1 t s e h pe sg = act_on E G st₀ fin stops n k c p ts m Body d st c0 v w c1 t s tt refl h pe sg
open_on E G st₀ fin (Add o a r) n k c p ts m d st c0 v w c1 t s e h pe sg =
    act_on E G st₀ fin (effect (E.action a) (target_of E r) ts st.sources) n k c p ts m (Add o a r) d st c0 v w c1 t s (effect_fits (E.action a) (target_of E r) ts st.sources) refl h pe sg
open_on E G st₀ fin (Terminal j o a) n k c p ts m d st c0 v w c1 t s e h pe sg = act_on E G st₀ fin stops n k c p ts m (Terminal j o a) d st c0 v w c1 t s tt refl h pe sg
open_on E G st₀ fin Arm n k c p ts m d st c0 v w c1 t s e h pe sg = act_on E G st₀ fin stops n k c p ts m Arm d st c0 v w c1 t s tt refl h pe sg
open_on E G st₀ fin (Pruned a) n k c p ts m d st c0 v w c1 t s e h pe sg = act_on E G st₀ fin stops n k c p ts m (Pruned a) d st c0 v w c1 t s tt refl h pe sg
open_on E G st₀ fin (Scope a) n k c p ts m d st c0 v w c1 t s e h pe sg = absurd (let z : ◌≡◌ {A = ℕ} 0 1 = cc in omega arith)

meet_on : (E : Found) (G : List ℕ → ℕ → Type 0) (st₀ fin : Course) (j e : Bool) (n k : ℕ) (c p : Forest) (ts : List ℕ) (m b : ℕ) (d : Forest) (st : Course) (c0 v w c1 t0 t s : Forest)
    → Head E G (Kept st₀ st) k v w → Pend E [] ts w (tree m (Scope b) c1 t0) p → Head E G (Kept st₀ st) b t0 t → Seg E G (Kept st₀ st) t s
    → (j ≡ true → G ts b) → Carry st₀ st (meet j e E n k c p m b d st).st s
    → Onward E G st₀ fin (tree n (Scope k) c0 v) s (meet j e E n k c p m b d st)
meet_on E G st₀ fin true e n k c p ts m b d st c0 v w c1 t0 t s h pe hb sg gb move =
    more_on E G st₀ fin e n k (c ⊕ (p ⊕ d)) (join E k b st) c0 v t s (head_tail h (tail_head (pend_tail b refl (gb refl) pe) hb))
    (seg_map (λ a g r. subst (λ (z : Course). Kept st₀ z a) (more_st e n k (c ⊕ (p ⊕ d)) (join E k b st)) (move a g r)) sg)
meet_on E G st₀ fin false e n k c p ts m b d st c0 v w c1 t0 t s h pe hb sg gb move =
    begin_on E G st₀ fin e (tree n (Scope k) c p) m b d st c1 (tree n (Scope k) c0 v) t0 t s hb sg
    (λ keep l z. seg_scope k refl (head_map (keep k (stands_here n (Scope k) k c p refl)) h) (pend_seg pe z))

-- what is known of a Scope that a run takes
abbrev Takes : Found → (List ℕ → ℕ → Type 0) → Run → Node → Course → Type 0
Takes E G idle x st = Unit {0}
Takes E G (open_run n k c p ts) x st = (b : ℕ) → x ≡ Scope b → joins_to E st k ts b ≡ true → G ts b

step_seg : (E : Found) (G : List ℕ → ℕ → Type 0) (st₀ fin : Course) (r : Run) (m : ℕ) (x : Node) (d s : Forest) (st : Course) {u t : Forest}
    → Carry st₀ st (step E r m x d st).st s → Takes E G r x st
    → Held E G (Kept st₀ st) r u t → Seg E G (Kept st₀ st) t (tree m x d s) → Onward E G st₀ fin u s (step E r m x d st)
step_seg E G st₀ fin idle m x d s st move takes held_idle (seg_plain {c = c1} {t = t} e sg) = stay_on E G st₀ fin x m d st c1 t s e sg
step_seg E G st₀ fin idle m x d s st move takes held_idle (seg_scope {c = c1} {t = t0} {u = t} a e h sg) =
    subst (λ (z : Node). Onward E G st₀ fin (tree m z c1 t0) s (step_idle E z m d st)) (sym e)
    (begin_on E G st₀ fin (eligible E st a) bare m a d st c1 (tree m (Scope a) c1 t0) t0 t s h sg (λ keep l z. z))
step_seg E G st₀ fin (open_run n k c p ts) m x d s st move takes (held_open {c0 = c0} {v = v} {w = w} h pe) (seg_plain {c = c1} {t = t} e sg) =
    open_on E G st₀ fin x n k c p ts m d st c0 v w c1 t s e h pe sg
step_seg E G st₀ fin (open_run n k c p ts) m x d s st move takes (held_open {c0 = c0} {v = v} {w = w} h pe) (seg_scope {c = c1} {t = t0} {u = t} b e hb sg) =
    let P : Node → Type 0 = λ z. Pend E [] ts w (tree m z c1 t0) p → Carry st₀ st (step_open E z n k c p ts m d st).st s → Onward E G st₀ fin (tree n (Scope k) c0 v) s (step_open E z n k c p ts m d st) in
    subst P (sym e) (λ q mv. meet_on E G st₀ fin (joins_to E st k ts b) (eligible E st b) n k c p ts m b d st c0 v w c1 t0 t s h q hb sg (takes b e) mv) pe move

-- a Scope that joined: its keeper, and its targets against both ends in the last course
abbrev pub Gap : Found → Course → List ℕ → ℕ → Type 0
Gap E F ts b = (k : ℕ) × By k b F.joins × UsedBefore E.last_use (F.ends b) ts × UsedBefore E.last_use (F.ends k) ts

used_before_lem : (E : Found) (e f : ℕ) (ts : List ℕ) → all_before E e ts ≡ true → e ≤ f → UsedBefore E.last_use f ts
used_before_lem E e f [] h le = tt
used_before_lem E e f (t ∷ ts) h le =
    let both = and_parts (before_or (E.last_use t) e) (all_before E e ts) h in
    (λ u q. omega (arith, ltb-true u e (subst (λ (o : Option ℕ). before_or o e ≡ true) q both.0)), used_before_lem E e f ts both.1 le)

put_same : (f : ℕ → ℕ) (k v : ℕ) → put f k v k ≡ v
put_same f k v = rw (eq-eqb k k refl)

take_gap : (E : Found) (F : Course) (k : ℕ) (ts : List ℕ) (b : ℕ) (st : Course) → joins_to E st k ts b ≡ true → Later (join E k b st) F → Gap E F ts b
take_gap E F k ts b st h l =
    let p1 = (and_parts (not (E.reassigns k)) (not (E.reassigns b) && (all_before E (st.ends b) ts && alike E st k b)) h).1 in
    let p2 = (and_parts (not (E.reassigns b)) (all_before E (st.ends b) ts && alike E st k b) p1).1 in
    let p3 : all_before E (st.ends b) ts ≡ true = (and_parts (all_before E (st.ends b) ts) (alike E st k b) p2).0 in
    let own : st.ends b ≤ F.ends b = omega (arith, (join_later E k b st).ends b, l.ends b) in
    let keeper : st.ends b ≤ F.ends k = omega (arith, l.ends k, put_same st.ends k (max (st.ends k) (st.ends b))) in
    (k, l.joins k b (inl (refl, refl)), used_before_lem E (st.ends b) (F.ends b) ts p3 own, used_before_lem E (st.ends b) (F.ends k) ts p3 keeper)

meet_takes : (E : Found) (F : Course) (j e : Bool) (n k : ℕ) (c p : Forest) (m b : ℕ) (d : Forest) (st : Course) → j ≡ true → Later (meet j e E n k c p m b d st).st F → Later (join E k b st) F
meet_takes E F true e n k c p m b d st q l = subst (λ (z : Course). Later z F) (more_st e n k (c ⊕ (p ⊕ d)) (join E k b st)) l
meet_takes E F false e n k c p m b d st q l = absurd (false≢true q)

step_takes : (E : Found) (F : Course) (r : Run) (m : ℕ) (x : Node) (d : Forest) (st : Course) → Later (step E r m x d st).st F → Takes E (Gap E F) r x st
step_takes E F idle m x d st l = tt
step_takes E F (open_run n k c p ts) m x d st l =
    λ b e q. take_gap E F k ts b st q
    (meet_takes E F (joins_to E st k ts b) (eligible E st b) n k c p m b d st q (subst (λ (z : Node). Later (step_open E z n k c p ts m d st).st F) e l))

-- what follows a run keeps its declarations over a step
pub step_move : (E : Found) (st₀ : Course) (r : Run) (m : ℕ) (x : Node) (d s : Forest) (st : Course) → Waits r → Once (close r (tree m x d s)) → Carry st₀ st (step E r m x d st).st s
step_move E st₀ r m x d s st w di a h k =
    step_else E r m x d st a w (omega (arith, di a, close_openings a r (tree m x d s), close_openings a r (tree m x d bare))) ∙ k

pub step_once : (E : Found) (r : Run) (m : ℕ) (x : Node) (d s : Forest) (st : Course) → Waits r → Once (close r (tree m x d s)) → Once (close (step E r m x d st).run s)
step_once E r m x d s st w di a = omega (arith, di a, step_fewer E a r m x d s st w)

pub scan_seg : (E : Found) (F st₀ : Course) (r : Run) (l : Forest) (st : Course) {u t : Forest} → Waits r → Once (close r l) → Later (scan E r l st).st F
    → Held E (Gap E F) (Kept st₀ st) r u t → Seg E (Gap E F) (Kept st₀ st) t l → Seg E (Gap E F) (Kept st₀ (scan E r l st).st) u (scan E r l st).forest
unfolding scan
scan_seg E F st₀ r bare st w di la h sg = held_seg h sg
scan_seg E F st₀ r (tree m x d s) st w di la h sg =
    let y : Step = step E r m x d st in
    let fin : Course = (scan E y.run s y.st).st in
    let w' : Waits y.run = step_waits E r m x d st w in
    let nx : Onward E (Gap E F) st₀ fin _ s y =
    step_seg E (Gap E F) st₀ fin r m x d s st (step_move E st₀ r m x d s st w di) (step_takes E F r m x d st (later_trans y.st fin F (turns_later (scan_turns E y.run s y.st w')) la)) h sg
    in
    nx.around
    (λ a g k. turns_else a (scan_turns E y.run s y.st w') (omega (arith, di a, step_fewer E a r m x d s st w)) ∙ k)
    (scan E y.run s y.st).forest
    (scan_seg E F st₀ y.run s y.st w' (step_once E r m x d s st w di) la nx.held nx.seg)
