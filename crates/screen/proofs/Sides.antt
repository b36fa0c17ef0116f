-- Neighbours in the tree found, with the flattened Scopes replaced by their children: of two that should join one does, and the targets before a joined Scope end in time.
use Rattle.std.proofs.Common.{◌≡◌, ℕ, ◌+◌, ◌<◌, ◌≤◌, Bool, true, false, ◌||◌, ◌⊎◌, List, [], ◌∷◌, Some, None, Option, sym, refl, ap, ◌∙◌, subst, inl, inr, arith}
use Rattle.std.proofs.lemmas.Bool.{true≢false, both_ways}
use Rattle.screen.specs.Forest.{Forest, bare, tree, ◌⊕◌, same}
use Rattle.screen.specs.Standing.{opening, openings}
use Rattle.screen.specs.Found.{Found}
use Rattle.screen.specs.Course.{Course, Join, joined_in}
use Rattle.screen.specs.Joining.{is_nil, any_lasts, eligible, joins_to, join}
use Rattle.screen.specs.Scan.{lone, Run, idle, open_run, close, Step, step, step_open, begin, more, meet, Out, scan}
use Rattle.screen.specs.Merge.{under, flattens, settle, work, merge}
use Rattle.screen.specs.Neighbours.{scope_in, unwrap, added, UsedBefore}
use Rattle.screen.specs.declared.node.Node.{Node}
use Rattle.screen.specs.declared.node.Node.TheVariants.{Body, Add, Terminal, Arm, Scope, Pruned}
use Rattle.screen.proofs.Counts.{same_self}
use Rattle.screen.proofs.Times.{times, In, in_times}
use Rattle.screen.proofs.Weights.{gone, turns_gone}
use Rattle.screen.proofs.MergeSteps.{more_st, Waits, step_waits}
use Rattle.screen.proofs.MergeTurns.{scan_turns, work_turns, merge_turns}
use Rattle.screen.proofs.MergeFrames.{By, Later, later_refl, later_trans, turns_later, turns_else, turns_fewer, inner, inner_join, inner_fewer, scan_inner}
use Rattle.screen.proofs.Segments.{Tail, tail_end, tail_scope, tail_plain, Head, alone, led, Seg, seg_end, seg_plain, seg_scope, held_idle, Stands, stands_here, seg_map, seg_⊕}
use Rattle.screen.proofs.MergeRuns.{Once, Kept, Gap, step_move, step_once, scan_seg}

-- Scope b was joined
abbrev pub JoinedIn : ℕ → List Join → Type 0
JoinedIn b js = In b (joined_in js)

pub by_joined : (k b : ℕ) (js : List Join) → By k b js → JoinedIn b js
by_joined k b [] h = absurd h
by_joined k b (j ∷ js) (inl h) = inl h.1
by_joined k b (j ∷ js) (inr h) = inr (by_joined k b js h)

pub joined_by_lem : (b : ℕ) (js : List Join) → JoinedIn b js → (k : ℕ) × By k b js
joined_by_lem b [] h = absurd h
joined_by_lem b (j ∷ js) (inl h) = (j.keeper, inl (refl, h))
joined_by_lem b (j ∷ js) (inr h) = let z = joined_by_lem b js h in (z.0, inr z.1)

abbrev Into : Course → ℕ → Type 0
Into F b = JoinedIn b F.joins

later_joined : (s F : Course) (b : ℕ) → Later s F → JoinedIn b s.joins → Into F b
later_joined s F b l h = let z = joined_by_lem b s.joins h in by_joined z.0 b F.joins (l.joins z.0 b z.1)

gap_joined : (E : Found) (F : Course) (ts : List ℕ) (b : ℕ) → Gap E F ts b → Into F b
gap_joined E F ts b g = by_joined g.0 b F.joins g.1

-- the same entries, no reassignments, an eligible first
pub record Good (E : Found) (st : Course) (a b : ℕ) : Type 0 where
  pub lists : E.entries a ≡ E.entries b
  pub first : E.reassigns a ≡ false
  pub second : E.reassigns b ≡ false
  pub starts : eligible E st a ≡ true

-- of two Scopes side by side one joins
abbrev Q : Found → (ℕ → Type 0) → Course → ℕ → ℕ → Type 0
Q E J st₀ a b = Good E st₀ a b → J a ⊎ J b

-- no pair with this one first is left
abbrev Safe : Found → (ℕ → Type 0) → Course → Option ℕ → Type 0
Safe E J st₀ None = Unit {0}
Safe E J st₀ (Some a) = J a ⊎ (eligible E st₀ a ≡ false)

abbrev Ready : Found → (ℕ → Type 0) → Course → Run → Option ℕ → Type 0
Ready E J st₀ idle prev = Safe E J st₀ prev
Ready E J st₀ (open_run n k c p ts) prev = Safe E J st₀ prev ⊎ ((prev ≡ Some k) × (ts ≡ []))

ready_safe : (E : Found) (J : ℕ → Type 0) (st₀ : Course) (r : Run) (prev : Option ℕ) → Safe E J st₀ prev → Ready E J st₀ r prev
ready_safe E J st₀ idle prev h = h
ready_safe E J st₀ (open_run n k c p ts) prev h = inl h

-- P holds of two neighbours, if both are Scopes
abbrev pub Meets : (ℕ → ℕ → Type 0) → Option ℕ → Option ℕ → Type 0
Meets P None None = Unit {0}
Meets P None (Some b) = Unit {0}
Meets P (Some a) None = Unit {0}
Meets P (Some a) (Some b) = P a b

-- and of any two in a forest that follows `prev`
abbrev pub Pairs : (ℕ → ℕ → Type 0) → Option ℕ → Forest → Type 0
Pairs P prev bare = Unit {0}
Pairs P prev (tree n x c s) = Meets P prev (scope_in x) × Pairs P None c × Pairs P (scope_in x) s

meets_none : (P : ℕ → ℕ → Type 0) (prev : Option ℕ) → Meets P prev None
meets_none P None = tt
meets_none P (Some a) = tt

meets_safe : (E : Found) (J : ℕ → Type 0) (st₀ : Course) (prev : Option ℕ) (b : ℕ) → Safe E J st₀ prev → Meets (Q E J st₀) prev (Some b)
meets_safe E J st₀ None b h = tt
meets_safe E J st₀ (Some a) b (inl j) = λ g. inl j
meets_safe E J st₀ (Some a) b (inr e) = λ g. absurd (both_ways (eligible E st₀ a) e g.starts)

meets_second : (E : Found) (J : ℕ → Type 0) (st₀ : Course) (prev : Option ℕ) (b : ℕ) → J b → Meets (Q E J st₀) prev (Some b)
meets_second E J st₀ None b j = tt
meets_second E J st₀ (Some a) b j = λ g. inr j

-- one sibling list
abbrev Level : (ℕ → ℕ → Type 0) → Option ℕ → Forest → Type 0
Level P prev bare = Unit {0}
Level P prev (tree n x c s) = Meets P prev (scope_in x) × Level P (scope_in x) s

-- good neighbours with no targets between join
good_joins : (E : Found) (st₀ st : Course) (k b : ℕ) → Good E st₀ k b → joins_to E st k [] b ≡ true
good_joins E st₀ st k b g = rw (g.first, g.second, g.lists, E.rule.reflexive (E.entries b)) refl

elig_kept : (E : Found) (st₀ st : Course) (a : ℕ) → Kept st₀ st a → eligible E st a ≡ eligible E st₀ a
elig_kept E st₀ st a h = ap (λ (l : List ℕ). is_nil (E.entries a) || any_lasts E l) h

-- the pair that a step decides
meet_meets : (E : Found) (J : ℕ → Type 0) (st₀ : Course) (j e : Bool) (n k : ℕ) (c p : Forest) (ts : List ℕ) (m b : ℕ) (d : Forest) (st : Course) (prev : Option ℕ) → joins_to E st k ts b ≡ j
    → (JoinedIn b (meet j e E n k c p m b d st).st.joins → J b) → Ready E J st₀ (open_run n k c p ts) prev → Meets (Q E J st₀) prev (Some b)
meet_meets E J st₀ true e n k c p ts m b d st prev eq jn h =
    meets_second E J st₀ prev b (jn (rw (more_st e n k (c ⊕ (p ⊕ d)) (join E k b st)) (inl refl)))
meet_meets E J st₀ false e n k c p ts m b d st prev eq jn (inl h) = meets_safe E J st₀ prev b h
meet_meets E J st₀ false e n k c p ts m b d st prev eq jn (inr h) =
    rw h.0 (λ g. absurd (both_ways (joins_to E st k [] b) (subst (λ (z : List ℕ). joins_to E st k z b ≡ false) h.1 eq) (good_joins E st₀ st k b g)))

scope_meets : (E : Found) (J : ℕ → Type 0) (st₀ : Course) (r : Run) (m : ℕ) (x : Node) (b : ℕ) (d : Forest) (st : Course) (prev : Option ℕ) → x ≡ Scope b
    → ((a : ℕ) → JoinedIn a (step E r m x d st).st.joins → J a) → Ready E J st₀ r prev → Meets (Q E J st₀) prev (Some b)
scope_meets E J st₀ idle m x b d st prev e jn h = meets_safe E J st₀ prev b h
scope_meets E J st₀ (open_run n k c p ts) m x b d st prev e jn h =
    let P : Node → Type 0 = λ z. (JoinedIn b (step_open E z n k c p ts m d st).st.joins → J b) → Meets (Q E J st₀) prev (Some b) in
    subst P (sym e) (λ g. meet_meets E J st₀ (joins_to E st k ts b) (eligible E st b) n k c p ts m b d st prev refl g h) (jn b)

-- behind a Scope that has taken nothing
begin_ready : (E : Found) (J : ℕ → Type 0) (st₀ : Course) (e : Bool) (o : Forest) (m b : ℕ) (d : Forest) (st : Course) → eligible E st₀ b ≡ e → Ready E J st₀ (begin e o m b d st).run (Some b)
begin_ready E J st₀ true o m b d st h = inr (refl, refl)
begin_ready E J st₀ false o m b d st h = inr h

meet_ready : (E : Found) (J : ℕ → Type 0) (st₀ : Course) (j e : Bool) (n k : ℕ) (c p : Forest) (m b : ℕ) (d : Forest) (st : Course) → (JoinedIn b (meet j e E n k c p m b d st).st.joins → J b)
    → eligible E st₀ b ≡ e → Ready E J st₀ (meet j e E n k c p m b d st).run (Some b)
meet_ready E J st₀ true e n k c p m b d st jn h =
    ready_safe E J st₀ (more e n k (c ⊕ (p ⊕ d)) (join E k b st)).run (Some b) (inl (jn (rw (more_st e n k (c ⊕ (p ⊕ d)) (join E k b st)) (inl refl))))
meet_ready E J st₀ false e n k c p m b d st jn h = begin_ready E J st₀ e (tree n (Scope k) c p) m b d st h

alone_ready : (E : Found) (J : ℕ → Type 0) (st₀ : Course) (r : Run) (m : ℕ) (x : Node) (b : ℕ) (d : Forest) (st : Course) → x ≡ Scope b → ((a : ℕ) → JoinedIn a (step E r m x d st).st.joins → J a)
    → Kept st₀ st b → Ready E J st₀ (step E r m x d st).run (Some b)
alone_ready E J st₀ idle m x b d st e jn h = rw e (begin_ready E J st₀ (eligible E st b) bare m b d st (sym (elig_kept E st₀ st b h)))
alone_ready E J st₀ (open_run n k c p ts) m x b d st e jn h =
    let P : Node → Type 0 = λ z. (JoinedIn b (step_open E z n k c p ts m d st).st.joins → J b) → Ready E J st₀ (step_open E z n k c p ts m d st).run (Some b) in
    subst P (sym e) (λ g. meet_ready E J st₀ (joins_to E st k ts b) (eligible E st b) n k c p m b d st g (sym (elig_kept E st₀ st b h))) (jn b)

-- over a stretch that a keeper has taken
tail_level : (E : Found) (F st₀ : Course) (prev : Option ℕ) {ts : List ℕ} {t u : Forest} → Tail E (Gap E F) ts t u → ((last : Option ℕ) → Safe E (Into F) st₀ last → Level (Q E (Into F) st₀) last u) → Level (Q E (Into F) st₀) prev t
tail_level E F st₀ prev (tail_end {ts} b e j) go = rw e (meets_second E (Into F) st₀ prev b (gap_joined E F ts b j), go (Some b) (inl (gap_joined E F ts b j)))
tail_level E F st₀ prev (tail_scope {ts} b e j y) go = rw e (meets_second E (Into F) st₀ prev b (gap_joined E F ts b j), tail_level E F st₀ (Some b) y go)
tail_level E F st₀ prev (tail_plain e y) go = rw e (meets_none (Q E (Into F) st₀) prev, tail_level E F st₀ None y go)

head_level : (E : Found) (R : ℕ → Type 0) (F st₀ : Course) (a : ℕ) {t u : Forest} → Head E (Gap E F) R a t u → (R a → Level (Q E (Into F) st₀) (Some a) u)
    → ((last : Option ℕ) → Safe E (Into F) st₀ last → Level (Q E (Into F) st₀) last u) → Level (Q E (Into F) st₀) (Some a) t
head_level E R F st₀ a (alone r) f go = f r
head_level E R F st₀ a (led y) f go = tail_level E F st₀ (Some a) y go

scan_pairs : (E : Found) (F st₀ : Course) (r : Run) (l : Forest) (st : Course) {t : Forest} (prev : Option ℕ) → Waits r → Once (close r l) → Later (scan E r l st).st F
    → Ready E (Into F) st₀ r prev → Seg E (Gap E F) (Kept st₀ st) t l → Level (Q E (Into F) st₀) prev t
unfolding scan
scan_pairs E F st₀ r bare st prev w di la rd seg_end = tt
scan_pairs E F st₀ r (tree m x d s) st prev w di la rd (seg_plain {t = t} e sg) =
    let y : Step = step E r m x d st in
    rw e (
      meets_none (Q E (Into F) st₀) prev,
      scan_pairs E F st₀ y.run s y.st None (step_waits E r m x d st w) (step_once E r m x d s st w di) la
          (ready_safe E (Into F) st₀ y.run None tt) (seg_map (step_move E st₀ r m x d s st w di) sg),
    )
scan_pairs E F st₀ r (tree m x d s) st prev w di la rd (seg_scope {t = t} {u = u} a e h sg) =
    let y : Step = step E r m x d st in
    let w' : Waits y.run = step_waits E r m x d st w in
    let jx : (b : ℕ) → JoinedIn b y.st.joins → Into F b =
    λ b g. later_joined y.st F b (later_trans y.st (scan E y.run s y.st).st F (turns_later (scan_turns E y.run s y.st w')) la) g
    in
    let go : (last : Option ℕ) → Ready E (Into F) st₀ y.run last → Level (Q E (Into F) st₀) last u =
    λ last q. scan_pairs E F st₀ y.run s y.st last w' (step_once E r m x d s st w di) la q (seg_map (step_move E st₀ r m x d s st w di) sg)
    in
    let here : Meets (Q E (Into F) st₀) prev (Some a) = scope_meets E (Into F) st₀ r m x a d st prev e jx rd in
    let rest : Level (Q E (Into F) st₀) (Some a) t =
    head_level E (Kept st₀ st) F st₀ a h (λ k. go (Some a) (alone_ready E (Into F) st₀ r m x a d st e jx k)) (λ last q. go last (ready_safe E (Into F) st₀ y.run last q))
    in
    subst (λ (z : Node). Meets (Q E (Into F) st₀) prev (scope_in z) × Level (Q E (Into F) st₀) (scope_in z) t) (sym e) (here, rest)

-- what lies between the Scope before, if there is one, and the next sibling
abbrev pub since : Found → Option ℕ → Node → Option (List ℕ) → Option (List ℕ)
since E (Some b) x o = Some []
since E None x None = None
since E None x (Some ts) = Some (added E x ts)

abbrev pub GapAt : (List ℕ → ℕ → Type 0) → Option (List ℕ) → Option ℕ → Type 0
GapAt P None None = Unit {0}
GapAt P None (Some b) = Unit {0}
GapAt P (Some ts) None = Unit {0}
GapAt P (Some ts) (Some b) = P ts b

-- P holds of any Scope that has a Scope before it, and the targets between
abbrev pub Gaps : Found → (List ℕ → ℕ → Type 0) → Option (List ℕ) → Forest → Type 0
Gaps E P o bare = Unit {0}
Gaps E P o (tree n x c s) = GapAt P o (scope_in x) × Gaps E P None c × Gaps E P (since E (scope_in x) x o) s

-- one sibling list, for the targets between
abbrev RowOf : Found → (List ℕ → ℕ → Type 0) → Option (List ℕ) → Forest → Type 0
RowOf E P o bare = Unit {0}
RowOf E P o (tree n x c s) = GapAt P o (scope_in x) × RowOf E P (since E (scope_in x) x o) s

gap_none : (P : List ℕ → ℕ → Type 0) (o : Option (List ℕ)) → GapAt P o None
gap_none P None = tt
gap_none P (Some ts) = tt

gap_all : (P : List ℕ → ℕ → Type 0) (o : Option (List ℕ)) (b : ℕ) → ((ts : List ℕ) → P ts b) → GapAt P o (Some b)
gap_all P None b h = tt
gap_all P (Some ts) b h = h ts

tail_row : (E : Found) (G P : List ℕ → ℕ → Type 0) → ((ts : List ℕ) (b : ℕ) → G ts b → P ts b) → {ts : List ℕ} {t u : Forest} → Tail E G ts t u → RowOf E P (Some []) u → RowOf E P (Some ts) t
tail_row E G P f (tail_end {ts} b e j) z = rw e (f ts b j, z)
tail_row E G P f (tail_scope {ts} b e j y) z = rw e (f ts b j, tail_row E G P f y z)
tail_row E G P f (tail_plain e y) z = rw e (tt, tail_row E G P f y z)

head_row : (E : Found) (G P : List ℕ → ℕ → Type 0) (R : ℕ → Type 0) → ((ts : List ℕ) (b : ℕ) → G ts b → P ts b) → (a : ℕ) {t u : Forest} → Head E G R a t u → RowOf E P (Some []) u → RowOf E P (Some []) t
head_row E G P R f a (alone r) z = z
head_row E G P R f a (led y) z = tail_row E G P f y z

-- a worked list whose Scopes all stand in the end
seg_row : (E : Found) (G P : List ℕ → ℕ → Type 0) (R : ℕ → Type 0) → ((ts : List ℕ) (b : ℕ) → G ts b → P ts b) → (o : Option (List ℕ)) {t l : Forest} → ((b : ℕ) → Stands l b → (ts : List ℕ) → P ts b) → Seg E G R t l → RowOf E P o t
seg_row E G P R f o calm seg_end = tt
seg_row E G P R f o calm (seg_plain {x} e y) = (rw e (gap_none P o), seg_row E G P R f (since E (scope_in x) x o) (λ b g. calm b (omega arith)) y)
seg_row E G P R f o calm (seg_scope {n} {x} {d} {t} {l} a e h y) =
    subst (λ (z : Node). GapAt P o (scope_in z) × RowOf E P (since E (scope_in z) z o) t) (sym e) (
      gap_all P o a (calm a (stands_here n x a d l e)),
      head_row E G P R f a h (seg_row E G P R f (Some []) (λ b g. calm b (omega arith)) y),
    )

-- every sibling list below a forest
abbrev Deep : (ℕ → ℕ → Type 0) → Forest → Type 0
Deep P bare = Unit {0}
Deep P (tree n x c s) = Level P None c × Deep P c × Deep P s

deep_⊕ : (P : ℕ → ℕ → Type 0) (f g : Forest) → Deep P f → Deep P g → Deep P (f ⊕ g)
deep_⊕ P bare g h k = k
deep_⊕ P (tree n x c s) g h k = (h.0, h.1, deep_⊕ P s g h.2 k)

pairs : (P : ℕ → ℕ → Type 0) (prev : Option ℕ) (t : Forest) → Level P prev t → Deep P t → Pairs P prev t
pairs P prev bare h g = tt
pairs P prev (tree n x c s) h g = (h.0, pairs P None c g.0 g.1, pairs P (scope_in x) s h.1 g.2)

abbrev Rows : Found → (List ℕ → ℕ → Type 0) → Forest → Type 0
Rows E P bare = Unit {0}
Rows E P (tree n x c s) = RowOf E P None c × Rows E P c × Rows E P s

rows_⊕ : (E : Found) (P : List ℕ → ℕ → Type 0) (f g : Forest) → Rows E P f → Rows E P g → Rows E P (f ⊕ g)
rows_⊕ E P bare g h k = k
rows_⊕ E P (tree n x c s) g h k = (h.0, h.1, rows_⊕ E P s g h.2 k)

gaps : (E : Found) (P : List ℕ → ℕ → Type 0) (o : Option (List ℕ)) (t : Forest) → RowOf E P o t → Rows E P t → Gaps E P o t
gaps E P o bare h g = tt
gaps E P o (tree n x c s) h g = (h.0, gaps E P None c g.0 g.1, gaps E P (since E (scope_in x) x o) s h.1 g.2)

-- the tree found below the Scope p, with each Scope that is flattened replaced by its children throughout
abbrev pub spliced : Found → Option ℕ → Forest → Forest
spliced E p bare = bare
spliced E p (tree n x c s) = unwrap (flattens E x p) n x (spliced E (under x p) c) ⊕ spliced E p s

lone_seg : (E : Found) (G : List ℕ → ℕ → Type 0) (R : ℕ → Type 0) (x : Node) (n : ℕ) (c d : Forest) → ((a : ℕ) → x ≡ Scope a → R a) → Seg E G R (lone n x c) (lone n x d)
lone_seg E G R Body n c d h = seg_plain refl seg_end
lone_seg E G R (Add o v t) n c d h = seg_plain refl seg_end
lone_seg E G R (Terminal k o v) n c d h = seg_plain refl seg_end
lone_seg E G R Arm n c d h = seg_plain refl seg_end
lone_seg E G R (Pruned s) n c d h = seg_plain refl seg_end
lone_seg E G R (Scope s) n c d h = seg_scope s refl (alone (h s refl)) seg_end

settle_seg : (E : Found) (G : List ℕ → ℕ → Type 0) (R : ℕ → Type 0) (b : Bool) (n : ℕ) (x : Node) (c : Forest) (o : Out) → ((a : ℕ) → x ≡ Scope a → R a) → Seg E G R c o.forest → Seg E G R (unwrap b n x c) (settle b x n o).forest
settle_seg E G R true n x c o h sg = sg
settle_seg E G R false n x c o h sg = lone_seg E G R x n c o.forest h

unwrap_deep : (P : ℕ → ℕ → Type 0) (b : Bool) (n : ℕ) (x : Node) (c : Forest) → Level P None c → Deep P c → Deep P (unwrap b n x c)
unwrap_deep P true n x c l h = h
unwrap_deep P false n x c l h = (l, h, tt)

unwrap_rows : (E : Found) (P : List ℕ → ℕ → Type 0) (b : Bool) (n : ℕ) (x : Node) (c : Forest) → (b ≡ false → RowOf E P None c) → Rows E P c → Rows E P (unwrap b n x c)
unwrap_rows E P true n x c l h = h
unwrap_rows E P false n x c l h = (l refl, h, tt)

-- what a settled node has
settle_fewer : (k : ℕ) (b : Bool) (x : Node) (n : ℕ) (o : Out) → openings k (settle b x n o).forest ≤ opening k x + openings k o.forest
settle_fewer k true x n o = omega arith
settle_fewer k false x n o = omega arith

settle_later : (b : Bool) (x : Node) (n : ℕ) (o : Out) → Later o.st (settle b x n o).st
settle_later true x n o = record { joins = λ k b h. h; ends = λ a. omega arith }
settle_later false x n o = later_refl o.st

settle_declares : (b : Bool) (x : Node) (n : ℕ) (o : Out) → (settle b x n o).st.declares ≡ o.st.declares
settle_declares true x n o = refl
settle_declares false x n o = refl

settle_inner : (k : ℕ) (b : Bool) (x : Node) (n : ℕ) (o : Out) → inner k o.forest ≤ inner k (settle b x n o).forest
settle_inner k true x n o = omega arith
settle_inner k false x n o = omega (arith, inner_fewer k o.forest)

kept_inner : (k : ℕ) (b : Bool) (x : Node) (n : ℕ) (o : Out) → b ≡ false → openings k o.forest ≤ inner k (settle b x n o).forest
kept_inner k true x n o h = absurd (true≢false h)
kept_inner k false x n o h = omega arith

-- the targets before a Scope that joined are last used before its end, and before the keeper's
abbrev pub Law : Found → Course → List ℕ → ℕ → Type 0
Law E F ts b = (k : ℕ) → By k b F.joins → UsedBefore E.last_use (F.ends b) ts × UsedBefore E.last_use (F.ends k) ts

record Worked (E : Found) (F st₀ : Course) (t : Forest) (o : Out) : Type 0 where
  pub seg : Seg E (Gap E F) (Kept st₀ o.st) t o.forest
  pub deep : Deep (Q E (Into F) st₀) t
  pub rows : Rows E (Law E F) t

works : (E : Found) (F st₀ : Course) → ((ts : List ℕ) (b : ℕ) → Gap E F ts b → Law E F ts b) → (p : Option ℕ) (f : Forest) (st : Course) → Once f → ((a : ℕ) → Stands f a → Kept st₀ st a)
    → Later (work E p f st).st F → ((b : ℕ) → 0 < inner b (work E p f st).forest → (ts : List ℕ) → Law E F ts b) → Worked E F st₀ (spliced E p f) (work E p f st)
unfolding work
works E F st₀ lift p bare st di kp la calm = record { seg = seg_end; deep = tt; rows = tt }
works E F st₀ lift p (tree n x c s) st di kp la calm =
    let P : Option ℕ = under x p in
    let w : Out = work E P c st in
    let o : Out = scan E idle w.forest w.st in
    let q : Bool = flattens E x p in
    let z : Out = settle q x n o in
    let y : Out = work E p s z.st in
    let tw = work_turns E P c st in
    let to = scan_turns E idle w.forest w.st tt in
    let ty = work_turns E p s z.st in
    let lz : Later z.st F = later_trans z.st y.st F (turns_later ty) la in
    let lo : Later o.st F = later_trans o.st z.st F (settle_later q x n o) lz in
    let lx : Later w.st F = later_trans w.st o.st F (turns_later to) lo in
    let cz : (b : ℕ) → 0 < inner b z.forest → (ts : List ℕ) → Law E F ts b = λ b g. calm b (omega (arith, inner_join b z.forest y.forest)) in
    let cx : (b : ℕ) → 0 < inner b w.forest → (ts : List ℕ) → Law E F ts b =
    λ b g. cz b (omega (arith, settle_inner b q x n o, scan_inner E b idle w.forest w.st))
    in
    let inw : Worked E F st₀ (spliced E P c) w = works E F st₀ lift P c st (λ a. omega (arith, di a)) (λ a g. kp a (omega arith)) lx cx in
    let dx : Once w.forest = λ a. omega (arith, di a, turns_fewer a tw) in
    let lev : Level (Q E (Into F) st₀) None (spliced E P c) = scan_pairs E F st₀ idle w.forest w.st None tt dx lo tt inw.seg in
    let so : Seg E (Gap E F) (Kept st₀ o.st) (spliced E P c) o.forest = scan_seg E F st₀ idle w.forest w.st tt dx lo held_idle inw.seg in
    let row : q ≡ false → RowOf E (Law E F) None (spliced E P c) =
    λ e. seg_row E (Gap E F) (Law E F) (Kept st₀ o.st) lift None (λ b g. cz b (omega (arith, kept_inner b q x n o e))) so
    in
    let still : (a : ℕ) → openings a c ≡ 0 → o.st.declares a ≡ st.declares a =
    λ a g. turns_else a to (omega (arith, turns_fewer a tw)) ∙ turns_else a tw g
    in
    let here : (a : ℕ) → x ≡ Scope a → Kept st₀ o.st a =
    λ a e. let k : Stands (tree n x c s) a = stands_here n x a c s e in
    still a (omega (arith, di a, ap (opening a) e, same_self a)) ∙ kp a k
    in
    let sz : Seg E (Gap E F) (Kept st₀ o.st) (unwrap q n x (spliced E P c)) z.forest = settle_seg E (Gap E F) (Kept st₀ o.st) q n x (spliced E P c) o here so in
    let rz = settle_declares q x n o in
    let rest : Worked E F st₀ (spliced E p s) y =
    works E F st₀ lift p s z.st (λ a. omega (arith, di a))
    (λ a g. ap (λ r. r a) rz ∙ (still a (omega (arith, di a)) ∙ kp a (omega arith))) la
    (λ b g. calm b (omega (arith, inner_join b z.forest y.forest)))
    in
    record {
      seg = seg_⊕ (seg_map (λ a g k. turns_else a ty (omega (arith, di a, settle_fewer a q x n o, turns_fewer a to, turns_fewer a tw)) ∙ (ap (λ r. r a) rz ∙ k)) sz) rest.seg;
      deep = deep_⊕ (Q E (Into F) st₀) (unwrap q n x (spliced E P c)) (spliced E p s) (unwrap_deep (Q E (Into F) st₀) q n x (spliced E P c) lev inw.deep) rest.deep;
      rows = rows_⊕ E (Law E F) (unwrap q n x (spliced E P c)) (spliced E p s) (unwrap_rows E (Law E F) q n x (spliced E P c) row inw.rows) rest.rows;
    }

-- a Scope joins once
one_keeper : (k q b : ℕ) (js : List Join) → times b (joined_in js) ≤ 1 → By k b js → By q b js → k ≡ q
one_keeper k q b [] h x y = absurd x
one_keeper k q b (j ∷ js) h (inl x) (inl y) = sym x.0 ∙ y.0
one_keeper k q b (j ∷ js) h (inl x) (inr y) = absurd (omega (arith, ap (same b) x.1, same_self b, in_times b (joined_in js) (by_joined q b js y)))
one_keeper k q b (j ∷ js) h (inr x) (inl y) = absurd (omega (arith, ap (same b) y.1, same_self b, in_times b (joined_in js) (by_joined k b js x)))
one_keeper k q b (j ∷ js) h (inr x) (inr y) = one_keeper k q b js (omega arith) x y

-- a start at which nothing is joined or flattened
module _ (E : Found) (f : Forest) (st : Course) (once : Once f) (new : (a : ℕ) → gone a st ≡ 0) where
  abbrev fin : Course
  fin = (merge E f st).st

  goes_once : (b : ℕ) → openings b (merge E f st).forest + gone b fin ≤ 1
  goes_once b = omega (arith, once b, new b, turns_gone b (merge_turns E f st))

  -- a joined Scope stands no more
  outlasts_not : (b : ℕ) → JoinedIn b fin.joins → Stands (merge E f st).forest b → ⊥
  outlasts_not b j h = omega (arith, goes_once b, in_times b (joined_in fin.joins) j)

  lifts : (ts : List ℕ) (b : ℕ) → Gap E fin ts b → Law E fin ts b
  lifts ts b g k h =
      let e : g.0 ≡ k = one_keeper g.0 k b fin.joins (omega (arith, goes_once b)) g.1 h in
      (g.2, subst (λ (i : ℕ). UsedBefore E.last_use (fin.ends i) ts) e g.3)

  calms : (b : ℕ) → Stands (merge E f st).forest b → (ts : List ℕ) → Law E fin ts b
  calms b h ts k g = absurd (outlasts_not b (by_joined k b fin.joins g) h)

  whole : Pairs (Q E (Into fin) st) None (spliced E None f) × Gaps E (Law E fin) None (spliced E None f)
  unfolding merge
  whole =
      let F : Course = (merge E f st).st in
      let x : Out = work E None f st in
      let to = scan_turns E idle x.forest x.st tt in
      let w : Worked E F st (spliced E None f) x =
      works E F st lifts None f st once (λ a g. refl) (turns_later to)
      (λ b g. calms b (omega (arith, scan_inner E b idle x.forest x.st, inner_fewer b (merge E f st).forest)))
      in
      let dx : Once x.forest = λ a. omega (arith, once a, turns_fewer a (work_turns E None f st)) in
      let lev : Level (Q E (Into F) st) None (spliced E None f) = scan_pairs E F st idle x.forest x.st None tt dx (later_refl F) tt w.seg in
      let sg : Seg E (Gap E F) (Kept st F) (spliced E None f) (merge E f st).forest = scan_seg E F st idle x.forest x.st tt dx (later_refl F) held_idle w.seg in
      let row : RowOf E (Law E F) None (spliced E None f) = seg_row E (Gap E F) (Law E F) (Kept st F) lifts None calms sg in
      (pairs (Q E (Into F) st) None (spliced E None f) lev w.deep, gaps E (Law E F) None (spliced E None f) row w.rows)

  -- of good neighbours one was joined
  pub sides : Pairs (λ a b. Good E st a b → JoinedIn a fin.joins ⊎ JoinedIn b fin.joins) None (spliced E None f)
  sides = whole.0

  -- the law of the targets holds of every Scope that has a Scope before it
  pub targets : Gaps E (Law E fin) None (spliced E None f)
  targets = whole.1
