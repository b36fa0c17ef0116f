-- A Merge flattens a Scope exactly when the rule calls the nearest Scope above and it the same, as found.
use Rattle.std.proofs.Common.{◌≡◌, ℕ, ◌<◌, Bool, true, false, ◌⊎◌, List, [], Some, None, Option, sym, refl, ap, ◌∙◌, subst, inl, inr, arith}
use Rattle.std.proofs.lemmas.Bool.{false≢true}
use Rattle.screen.specs.Forest.{Forest, bare, tree}
use Rattle.screen.specs.Found.{Found, found_of}
use Rattle.screen.specs.Course.{Course, start}
use Rattle.screen.specs.Scan.{Run, idle, open_run, step, Out, scan}
use Rattle.screen.specs.Merge.{under, flattens, settle, work, merge}
use Rattle.screen.specs.MergeLaws.{Nearest, FlattenedExactly}
use Rattle.screen.specs.declared.node.Node.{Node}
use Rattle.screen.specs.declared.node.Node.TheVariants.{Body, Add, Terminal, Arm, Scope, Pruned}
use Rattle.screen.specs.declared.scope.Status.{Status}
use Rattle.screen.specs.declared.scope.Status.TheVariants as status
use Rattle.screen.proofs.Times.{In, in_times, times_in}
use Rattle.screen.proofs.Fates.{Fate, as_it_was, joined, flattened, out, fate_of, scope_after_lem}
use Rattle.screen.proofs.MergeSteps.{view_idle, view_open}

-- this node opened Scope s, and the rule calls the nearest Scope above and s the same
abbrev pub FlatHere : Found → Option ℕ → ℕ → Node → Type 0
FlatHere E p s Body = ⊥
FlatHere E p s (Add o v t) = ⊥
FlatHere E p s (Terminal k o v) = ⊥
FlatHere E p s Arm = ⊥
FlatHere E p s (Pruned a) = ⊥
FlatHere E None s (Scope a) = ⊥
FlatHere E (Some q) s (Scope a) = (a ≡ s) × (E.rule.same (E.entries q) (E.entries a) ≡ true)

-- somewhere in a forest found below the Scope p, if any
abbrev pub FlatAt : Found → Option ℕ → ℕ → Forest → Type 0
FlatAt E p s bare = ⊥
FlatAt E p s (tree n x c t) = FlatHere E p s x ⊎ (FlatAt E (under x p) s c ⊎ FlatAt E p s t)

step_flats : (E : Found) (r : Run) (m : ℕ) (x : Node) (d : Forest) (st : Course) → (step E r m x d st).st.flats ≡ st.flats
step_flats E idle m x d st = (view_idle E m x d st).alike.flats
step_flats E (open_run n k c p ts) m x d st =
    elim (view_open E n k c p ts m x d st) [ inl v ↦ v.alike.flats | inr v ↦ ap (λ (z : Course). z.flats) v.state ]

scan_flats : (E : Found) (r : Run) (l : Forest) (st : Course) → (scan E r l st).st.flats ≡ st.flats
unfolding scan
scan_flats E r bare st = refl
scan_flats E r (tree m x d s) st =
    let y = step E r m x d st in
    scan_flats E y.run s y.st ∙ step_flats E r m x d st

settle_in : (E : Found) (p : Option ℕ) (x : Node) (n : ℕ) (o : Out) (s : ℕ) → In s (settle (flattens E x p) x n o).st.flats → FlatHere E p s x ⊎ In s o.st.flats
settle_in E p Body n o s h = inr h
settle_in E p (Add a v t) n o s h = inr h
settle_in E p (Terminal k a v) n o s h = inr h
settle_in E p Arm n o s h = inr h
settle_in E p (Pruned a) n o s h = inr h
settle_in E None (Scope a) n o s h = inr h
settle_in E (Some q) (Scope a) n o s h = go (flattens E (Scope a) (Some q)) refl h
  where
    go : (b : Bool) → flattens E (Scope a) (Some q) ≡ b → In s (settle b (Scope a) n o).st.flats → FlatHere E (Some q) s (Scope a) ⊎ In s o.st.flats
    go true e (inl z) = inl (z, e)
    go true e (inr z) = inr z
    go false e z = inr z

settle_has : (E : Found) (p : Option ℕ) (x : Node) (n : ℕ) (o : Out) (s : ℕ) → FlatHere E p s x ⊎ In s o.st.flats → In s (settle (flattens E x p) x n o).st.flats
settle_has E p Body n o s (inl h) = absurd h
settle_has E p Body n o s (inr h) = h
settle_has E p (Add a v t) n o s (inl h) = absurd h
settle_has E p (Add a v t) n o s (inr h) = h
settle_has E p (Terminal k a v) n o s (inl h) = absurd h
settle_has E p (Terminal k a v) n o s (inr h) = h
settle_has E p Arm n o s (inl h) = absurd h
settle_has E p Arm n o s (inr h) = h
settle_has E p (Pruned a) n o s (inl h) = absurd h
settle_has E p (Pruned a) n o s (inr h) = h
settle_has E None (Scope a) n o s (inl h) = absurd h
settle_has E None (Scope a) n o s (inr h) = h
settle_has E (Some q) (Scope a) n o s h = go (flattens E (Scope a) (Some q)) refl h
  where
    go : (b : Bool) → flattens E (Scope a) (Some q) ≡ b → FlatHere E (Some q) s (Scope a) ⊎ In s o.st.flats → In s (settle b (Scope a) n o).st.flats
    go true e (inl z) = inl z.0
    go true e (inr z) = inr z
    go false e (inl z) = absurd (false≢true (sym e ∙ z.1))
    go false e (inr z) = z

work_in : (E : Found) (p : Option ℕ) (f : Forest) (st : Course) (s : ℕ) → In s (work E p f st).st.flats → FlatAt E p s f ⊎ In s st.flats
unfolding work
work_in E p bare st s h = inr h
work_in E p (tree n x c t) st s h =
    let P : Option ℕ = under x p in
    let w : Out = work E P c st in
    let o : Out = scan E idle w.forest w.st in
    let z : Out = settle (flattens E x p) x n o in
    let R : Type 0 = FlatAt E p s (tree n x c t) ⊎ In s st.flats in
    let third : In s w.st.flats → R = λ g. elim (work_in E P c st s g) [ inl a ↦ inl (inr (inl a)) | inr a ↦ inr a ] in
    let second : In s z.st.flats → R = λ g. elim (settle_in E p x n o s g) [ inl a ↦ inl (inl a) | inr a ↦ third (rw (scan_flats E idle w.forest w.st) at a) ] in
    elim (work_in E p t z.st s h) [ inl a ↦ inl (inr (inr a)) | inr a ↦ second a ]

work_has : (E : Found) (p : Option ℕ) (f : Forest) (st : Course) (s : ℕ) → FlatAt E p s f ⊎ In s st.flats → In s (work E p f st).st.flats
unfolding work
work_has E p bare st s (inl h) = absurd h
work_has E p bare st s (inr h) = h
work_has E p (tree n x c t) st s h =
    let P : Option ℕ = under x p in
    let w : Out = work E P c st in
    let o : Out = scan E idle w.forest w.st in
    let z : Out = settle (flattens E x p) x n o in
    let up : FlatAt E P s c ⊎ In s st.flats → In s o.st.flats = λ g. rw (scan_flats E idle w.forest w.st) (work_has E P c st s g) in
    let on : FlatHere E p s x ⊎ In s o.st.flats → In s z.st.flats = λ g. settle_has E p x n o s g in
    elim h [
      | inl g ↦ elim g [ inl a ↦ work_has E p t z.st s (inr (on (inl a))) | inr q ↦ elim q [ inl a ↦ work_has E p t z.st s (inr (on (inr (up (inl a))))) | inr a ↦ work_has E p t z.st s (inl a) ] ]
      | inr g ↦ work_has E p t z.st s (inr (on (inr (up (inr g)))))
    ]

-- the Scopes flattened, from a start with none
pub flats_in : (E : Found) (f : Forest) (st : Course) (s : ℕ) → st.flats ≡ [] → In s (merge E f st).st.flats → FlatAt E None s f
unfolding merge
flats_in E f st s e h =
    let w : Out = work E None f st in
    elim (work_in E None f st s (rw (scan_flats E idle w.forest w.st) at h)) [ inl a ↦ a | inr a ↦ absurd (subst (λ (l : List ℕ). In s l) e a) ]

pub flats_have : (E : Found) (f : Forest) (st : Course) (s : ℕ) → FlatAt E None s f → In s (merge E f st).st.flats
unfolding merge
flats_have E f st s h =
    let w : Out = work E None f st in
    rw (scan_flats E idle w.forest w.st) (work_has E None f st s (inl h))

-- the same with the nearest Scope above named
abbrev Above : Found → ℕ → Option ℕ → Forest → Type 0
Above E s p f = (q : ℕ) × Nearest q s p f × (E.rule.same (E.entries q) (E.entries s) ≡ true)

here_above : (E : Found) (p : Option ℕ) (s n : ℕ) (x : Node) (c t : Forest) → FlatHere E p s x → Above E s p (tree n x c t)
here_above E p s n Body c t h = absurd h
here_above E p s n (Add o v u) c t h = absurd h
here_above E p s n (Terminal k o v) c t h = absurd h
here_above E p s n Arm c t h = absurd h
here_above E p s n (Pruned a) c t h = absurd h
here_above E None s n (Scope a) c t h = absurd h
here_above E (Some q) s n (Scope a) c t h =
    (q, inl (refl, ap Scope h.0), subst (λ (b : ℕ). E.rule.same (E.entries q) (E.entries b) ≡ true) h.0 h.1)

flat_above : (E : Found) (p : Option ℕ) (s : ℕ) (f : Forest) → FlatAt E p s f → Above E s p f
flat_above E p s bare h = absurd h
flat_above E p s (tree n x c t) (inl h) = here_above E p s n x c t h
flat_above E p s (tree n x c t) (inr (inl h)) = let z = flat_above E (under x p) s c h in (z.0, inr (inl z.1), z.2)
flat_above E p s (tree n x c t) (inr (inr h)) = let z = flat_above E p s t h in (z.0, inr (inr z.1), z.2)

nearest_flat : (E : Found) (q s : ℕ) (p : Option ℕ) (f : Forest) → E.rule.same (E.entries q) (E.entries s) ≡ true → Nearest q s p f → FlatAt E p s f
nearest_flat E q s p bare e h = absurd h
nearest_flat E q s p (tree n x c t) e (inl h) = inl (rw (h.0, h.1) (refl, e))
nearest_flat E q s p (tree n x c t) e (inr (inl h)) = inr (inl (nearest_flat E q s (under x p) c e h))
nearest_flat E q s p (tree n x c t) e (inr (inr h)) = inr (inr (nearest_flat E q s p t e h))

fate_flat : {J G O : ℕ} {s t : Status} → Fate J G O s t → s ≡ status.Standing → t ≡ status.Flattened → 0 < G
fate_flat (as_it_was a b c) e f = absurd (let z : ◌≡◌ {A = ℕ} 0 1 = cc in omega arith)
fate_flat (joined a b c) e f = absurd (let z : ◌≡◌ {A = ℕ} 0 1 = cc in omega arith)
fate_flat (flattened a b c) e f = omega arith

pub flat_fate : {J G O : ℕ} {s t : Status} → Fate J G O s t → 0 < G → (s ≡ status.Standing) × (t ≡ status.Flattened)
flat_fate (as_it_was a b c) h = absurd (omega arith)
flat_fate (joined a b c) h = absurd (omega arith)
flat_fate (flattened a b c) h = (refl, refl)

pub flattened_exactly : FlattenedExactly
flattened_exactly m σ k h l =
    let E : Found = found_of m σ in
    let same = ap (λ s. s.status) (scope_after_lem m σ h k l) in (
      λ f. flat_above E None k σ.tree (flats_in E σ.tree (start σ) k refl (times_in k (out m σ h).st.flats (fate_flat (fate_of m σ h k l) f.0 (sym same ∙ f.1)))),
      λ a. let z = flat_fate (fate_of m σ h k l) (in_times k (out m σ h).st.flats (flats_have E σ.tree (start σ) k (nearest_flat E a.0 k None σ.tree a.2 a.1))) in
          (z.0, same ∙ z.1),
    )
