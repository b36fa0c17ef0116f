-- The laws of neighbours, of a well-formed sheet.
use Rattle.std.proofs.Common.{◌≡◌, ℕ, zero, suc, ◌<◌, ◌≤◌, Bool, true, false, cond, ◌||◌, eqb, ◌⊎◌, List, [], ◌∷◌, length, get_or, Some, None, Option, sym, refl, ap, ◌∙◌, subst, inl, inr, arith}
use Rattle.std.proofs.lemmas.List.{get_or_past, length-map}
use Rattle.std.proofs.lemmas.Bool.{cases_lt, false≢true, both_ways, or_cases, or_left, or_right, eqb-true}
use Rattle.screen.specs.Forest.{Forest, bare, tree, ◌⊕◌}
use Rattle.screen.specs.Lists.{member, gathered}
use Rattle.screen.specs.LastUse.{last_use}
use Rattle.screen.specs.Rules.{Meaning}
use Rattle.screen.specs.State.{State, Scope}
use Rattle.screen.specs.Statuses.{is_standing, is_joined}
use Rattle.screen.specs.Standing.{opening}
use Rattle.screen.specs.WellFormed.{WellFormed}
use Rattle.screen.specs.Found.{Found, found_of, no_scope, scope_at}
use Rattle.screen.specs.Course.{Course, Join, start, joined_in, merged_into, scopes_from}
use Rattle.screen.specs.Merge.{under, flattens, merge_of}
use Rattle.screen.specs.Neighbours.{scope_in, opens_one, unwrap, without, Beside, added, Next, Behind, UsedBefore}
use Rattle.screen.specs.MergeLaws.{is_flattened, found_without, JoinedBy, TargetsUsed, NeverBoth}
use Rattle.screen.specs.declared.node.Node.{Node}
use Rattle.screen.specs.declared.node.Node.TheVariants as node
use Rattle.screen.specs.declared.scope.Status.{Status}
use Rattle.screen.specs.declared.scope.Status.TheVariants as status
use Rattle.screen.proofs.Counts.{same_self}
use Rattle.screen.proofs.Members.{member_append}
use Rattle.screen.proofs.Times.{in_times, times_in}
use Rattle.screen.proofs.Fates.{Fate, as_it_was, joined, flattened, out, fate_of, scope_after_lem, length_after, none_past, status_at}
use Rattle.screen.proofs.MergeFlats.{FlatHere, FlatAt, flats_in, flats_have, flat_fate}
use Rattle.screen.proofs.MergeFrames.{By}
use Rattle.screen.proofs.MergeScopes.{sound}
use Rattle.screen.proofs.Segments.{Stands, stands_here}
use Rattle.screen.proofs.MergeRuns.{Once}
use Rattle.screen.proofs.Sides.{JoinedIn, joined_by_lem, Good, Meets, Pairs, since, GapAt, Gaps, spliced, Law, sides, targets}

-- what holds of all pairs holds of these two
beside_pair : (P : ℕ → ℕ → Type 0) (prev : Option ℕ) (a b : ℕ) (f : Forest) → Pairs P prev f → Beside a b f → P a b
beside_pair P prev a b bare h g = absurd g
beside_pair P prev a b (tree n x c bare) h (inl g) = absurd g.1
beside_pair P prev a b (tree n x c (tree k y d s)) h (inl g) =
    subst (λ (z : Node). Meets P (Some a) (scope_in z)) g.1 (subst (λ (z : Node). Meets P (scope_in z) (scope_in y)) g.0 h.2.0)
beside_pair P prev a b (tree n x c s) h (inr (inl g)) = beside_pair P None a b c h.1 g
beside_pair P prev a b (tree n x c s) h (inr (inr g)) = beside_pair P (scope_in x) a b s h.2 g

-- what holds of all gaps holds of this one
next_gap : (E : Found) (P : List ℕ → ℕ → Type 0) (b : ℕ) (ts us : List ℕ) (f : Forest) → Gaps E P (Some us) f → Next E b ts us f → P ts b
next_gap E P b ts us bare h g = absurd g
next_gap E P b ts us (tree n x c s) h (inl g) =
    subst (λ (l : List ℕ). P l b) g.1 (subst (λ (z : Node). GapAt P (Some us) (scope_in z)) g.0 h.0)
next_gap E P b ts us (tree n x c s) h (inr g) =
    next_gap E P b ts (added E x us) s (subst (λ (o : Option ℕ). Gaps E P (since E o x (Some us)) s) g.0 h.2) g.1

behind_gap : (E : Found) (P : List ℕ → ℕ → Type 0) (o : Option (List ℕ)) (b : ℕ) (ts : List ℕ) (f : Forest) → Gaps E P o f → Behind E b ts f → P ts b
behind_gap E P o b ts bare h g = absurd g
behind_gap E P o b ts (tree n x c s) h (inl g) =
    next_gap E P b ts [] s (subst (λ (z : Node). Gaps E P (since E (scope_in z) z o) s) g.0.1 h.2) g.1
behind_gap E P o b ts (tree n x c s) h (inr (inl g)) = behind_gap E P None b ts c h.1 g
behind_gap E P o b ts (tree n x c s) h (inr (inr g)) = behind_gap E P (since E (scope_in x) x o) b ts s h.2 g

-- a Scope that is to be flattened is there
here_stands : (E : Found) (p : Option ℕ) (s : ℕ) (x : Node) → FlatHere E p s x → x ≡ node.Scope s
here_stands E p s node.Body h = absurd h
here_stands E p s (node.Add o v u) h = absurd h
here_stands E p s (node.Terminal k o v) h = absurd h
here_stands E p s node.Arm h = absurd h
here_stands E p s (node.Pruned a) h = absurd h
here_stands E None s (node.Scope a) h = absurd h
here_stands E (Some q) s (node.Scope a) h = ap node.Scope h.0

flat_stands : (E : Found) (p : Option ℕ) (s : ℕ) (f : Forest) → FlatAt E p s f → Stands f s
flat_stands E p s bare h = absurd h
flat_stands E p s (tree n x c t) (inl h) = stands_here n x s c t (here_stands E p s x h)
flat_stands E p s (tree n x c t) (inr (inl h)) = let z = flat_stands E (under x p) s c h in omega arith
flat_stands E p s (tree n x c t) (inr (inr h)) = let z = flat_stands E p s t h in omega arith

-- a Scope opened here is in neither part
module _ (E : Found) (q : ℕ → Bool) (p : Option ℕ) (n : ℕ) (x : Node) (c t : Forest) (once : Once (tree n x c t))
    (has : (s : ℕ) → FlatAt E p s (tree n x c t) → q s ≡ true) (only : (s : ℕ) → Stands (tree n x c t) s → q s ≡ true → FlatAt E p s (tree n x c t)) where
  flat_here : (s : ℕ) → x ≡ node.Scope s → q s ≡ true → FlatHere E p s x
  flat_here s e h =
      let o : opening s x ≡ 1 = ap (opening s) e ∙ same_self s in
      elim (only s (stands_here n x s c t e) h) [
        | inl a ↦ a
        | inr a ↦ elim a [
          | inl b ↦ absurd (omega (arith, once s, flat_stands E (under x p) s c b))
          | inr b ↦ absurd (omega (arith, once s, flat_stands E p s t b))
        ]
      ]

  only_below : (s : ℕ) → Stands c s → q s ≡ true → FlatAt E (under x p) s c
  only_below s g h =
      elim (only s (omega arith) h) [
        | inl a ↦ absurd (let o : opening s x ≡ 1 = ap (opening s) (here_stands E p s x a) ∙ same_self s in omega (arith, once s))
        | inr a ↦ elim a [ inl b ↦ b | inr b ↦ absurd (omega (arith, once s, flat_stands E p s t b)) ]
      ]

  only_behind : (s : ℕ) → Stands t s → q s ≡ true → FlatAt E p s t
  only_behind s g h =
      elim (only s (omega arith) h) [
        | inl a ↦ absurd (let o : opening s x ≡ 1 = ap (opening s) (here_stands E p s x a) ∙ same_self s in omega (arith, once s))
        | inr a ↦ elim a [ inl b ↦ absurd (omega (arith, once s, flat_stands E (under x p) s c b)) | inr b ↦ b ]
      ]

-- a node is left out where the rule says so
node_same : (E : Found) (q : ℕ → Bool) (p : Option ℕ) (x : Node) → ((s : ℕ) → FlatHere E p s x → q s ≡ true) → ((s : ℕ) → x ≡ node.Scope s → q s ≡ true → FlatHere E p s x) → opens_one q x ≡ flattens E x p
node_same E q p node.Body has only = refl
node_same E q p (node.Add o v t) has only = refl
node_same E q p (node.Terminal k o v) has only = refl
node_same E q p node.Arm has only = refl
node_same E q p (node.Pruned k) has only = refl
node_same E q None (node.Scope k) has only = go (q k) refl
  where
    go : (b : Bool) → q k ≡ b → b ≡ false
    go true e = absurd (only k refl e)
    go false e = refl
node_same E q (Some r) (node.Scope k) has only = go (q k) refl (E.rule.same (E.entries r) (E.entries k)) refl
  where
    go : (b : Bool) → q k ≡ b → (d : Bool) → E.rule.same (E.entries r) (E.entries k) ≡ d → b ≡ d
    go true e true f = refl
    go true e false f = absurd (both_ways (E.rule.same (E.entries r) (E.entries k)) f (only k refl e).1)
    go false e true f = absurd (both_ways (q k) e (has k (refl, f)))
    go false e false f = refl

splice_same : (E : Found) (q : ℕ → Bool) (p : Option ℕ) (f : Forest) → Once f → ((s : ℕ) → FlatAt E p s f → q s ≡ true) → ((s : ℕ) → Stands f s → q s ≡ true → FlatAt E p s f) → without q f ≡ spliced E p f
splice_same E q p bare once has only = refl
splice_same E q p (tree n x c t) once has only =
    let here = node_same E q p x (λ s h. has s (inl h)) (flat_here E q p n x c t once has only) in
    let in' = splice_same E q (under x p) c (λ s. omega (arith, once s)) (λ s h. has s (inr (inl h))) (only_below E q p n x c t once has only) in
    let on = splice_same E q p t (λ s. omega (arith, once s)) (λ s h. has s (inr (inr h))) (only_behind E q p n x c t once has only) in
    ap (λ b. unwrap b n x (without q c) ⊕ without q t) here ∙ ap (λ g. unwrap (flattens E x p) n x g ⊕ without q t) in' ∙ ap (λ g. unwrap (flattens E x p) n x (spliced E (under x p) c) ⊕ g) on

-- a Scope that stood and is flattened was flattened
fate_gone : {J G O : ℕ} {s t : Status} → Fate J G O s t → 0 < cond (is_standing s) 1 0 → is_flattened t ≡ true → 0 < G
fate_gone (as_it_was {s = status.Unused} a b c) h e = absurd (omega arith)
fate_gone (as_it_was {s = status.Standing} a b c) h e = absurd (false≢true e)
fate_gone (as_it_was {s = status.Joined} a b c) h e = absurd (omega arith)
fate_gone (as_it_was {s = status.Flattened} a b c) h e = absurd (omega arith)
fate_gone (joined a b c) h e = absurd (false≢true e)
fate_gone (flattened a b c) h e = omega arith

joined_fate : {J G O : ℕ} {s t : Status} → Fate J G O s t → 0 < J → (s ≡ status.Standing) × (t ≡ status.Joined)
joined_fate (as_it_was a b c) h = absurd (omega arith)
joined_fate (joined a b c) h = (refl, refl)
joined_fate (flattened a b c) h = absurd (omega arith)

fate_joins : {J G O : ℕ} {s t : Status} → Fate J G O s t → s ≡ status.Standing → t ≡ status.Joined → 0 < J
fate_joins (as_it_was a b c) e f = absurd (let z : ◌≡◌ {A = ℕ} 0 1 = cc in omega arith)
fate_joins (joined a b c) e f = omega arith
fate_joins (flattened a b c) e f = absurd (let z : ◌≡◌ {A = ℕ} 0 1 = cc in omega arith)

-- who is in the list of those that joined k was joined by k
into_by : (k b : ℕ) (js : List Join) → member b (merged_into k js) ≡ true → By k b js
into_by k b [] h = absurd (false≢true h)
into_by k b (j ∷ js) h =
    elim (or_cases (member b (merged_into k js)) (member b (cond (eqb k j.keeper) (j.joined ∷ []) [])) (sym (member_append b (merged_into k js) (cond (eqb k j.keeper) (j.joined ∷ []) [])) ∙ h)) [
      | inl g ↦ inr (into_by k b js g)
      | inr g ↦ inl (last (eqb k j.keeper) refl g)
    ]
  where
    one : (t : Bool) → eqb j.joined b ≡ t → (t || false) ≡ true → j.joined ≡ b
    one true e g = eqb-true j.joined b e
    one false e g = absurd (false≢true g)

    last : (t : Bool) → eqb k j.keeper ≡ t → member b (cond t (j.joined ∷ []) []) ≡ true → (j.keeper ≡ k) × (j.joined ≡ b)
    last true e g = (sym (eqb-true k j.keeper e), one (eqb j.joined b) refl g)
    last false e g = absurd (false≢true g)

-- one of the lists gathered
among_gathered : (q : Scope → List ℕ) (b : ℕ) (ss : List Scope) (k : ℕ) → k < length ss → member b (q (get_or ss k no_scope)) ≡ true → member b (gathered q ss) ≡ true
among_gathered q b [] k l h = absurd (omega arith)
among_gathered q b (s ∷ ss) zero l h = member_append b (q s) (gathered q ss) ∙ or_left (member b (q s)) (member b (gathered q ss)) h
among_gathered q b (s ∷ ss) (suc k) l h = member_append b (q s) (gathered q ss) ∙ or_right (member b (q s)) (member b (gathered q ss)) (among_gathered q b ss k (omega arith) h)

module _ (m : Meaning) (σ : State) (h : WellFormed σ) where
  abbrev E : Found
  E = found_of m σ

  abbrev F : Course
  F = (out m σ h).st

  there : (k : ℕ) → Stands σ.tree k → k < length σ.scopes
  there k g = elim (cases_lt k (length σ.scopes)) [ inl l ↦ l | inr l ↦ absurd (omega (arith, none_past m σ h k l)) ]

  -- a Scope that is not put stands nowhere
  put_before : (k : ℕ) (s : Status) → (scope_at σ k).status ≡ s → (s ≡ status.Unused → ⊥) → k < length σ.scopes
  put_before k s e ne = elim (cases_lt k (length σ.scopes)) [ inl l ↦ l | inr l ↦ absurd (ne (sym e ∙ ap (λ t. t.status) (get_or_past σ.scopes k no_scope l))) ]

  past_after : (k : ℕ) → length σ.scopes ≤ k → scope_at (merge_of m σ).sheet k ≡ no_scope
  past_after k l = get_or_past (scopes_from F 0 σ.scopes) k no_scope (omega (arith, length_after F 0 σ.scopes))

  put_after : (k : ℕ) (s : Status) → (scope_at (merge_of m σ).sheet k).status ≡ s → (s ≡ status.Unused → ⊥) → k < length σ.scopes
  put_after k s e ne = elim (cases_lt k (length σ.scopes)) [ inl l ↦ l | inr l ↦ absurd (ne (sym e ∙ ap (λ t. t.status) (past_after k l))) ]

  stood : (k : ℕ) (l : k < length σ.scopes) → Stands σ.tree k → 0 < cond (is_standing (scope_at σ k).status) 1 0
  stood k l g =
      omega (arith, h.tree.stands k (omega (arith, length-map σ.scopes (λ s. s.status))), ap (λ s. cond {A = ℕ} (is_standing s) 1 0) (status_at m σ h k l))

  -- the tree found without the Scopes that are flattened afterwards is that without those that the rule says
  same_splice : found_without m σ ≡ spliced E None σ.tree
  same_splice =
      splice_same E (λ k. is_flattened (scope_at (merge_of m σ).sheet k).status) None σ.tree (sound m σ h).once
      (λ s g. let l = there s (flat_stands E None s σ.tree g) in
      ap (λ t. is_flattened t.status) (scope_after_lem m σ h s l) ∙ ap is_flattened (flat_fate (fate_of m σ h s l) (in_times s F.flats (flats_have E σ.tree (start σ) s g))).1)
      (λ s g e. let l = there s g in
      flats_in E σ.tree (start σ) s refl (times_in s F.flats (fate_gone (fate_of m σ h s l) (stood s l g) (sym (ap (λ t. is_flattened t.status) (scope_after_lem m σ h s l)) ∙ e))))

  joined_no_more : (b : ℕ) → JoinedIn b F.joins → (scope_at (merge_of m σ).sheet b).status ≡ status.Standing → ⊥
  joined_no_more b j e =
      let l = put_after b status.Standing e (λ q. let z : ◌≡◌ {A = ℕ} 0 1 = cc in omega arith) in
      let z = (joined_fate (fate_of m σ h b l) (in_times b (joined_in F.joins) j)).1 in
      let y : status.Joined ≡ status.Standing = sym z ∙ sym (ap (λ t. t.status) (scope_after_lem m σ h b l)) ∙ e in
      let w : ◌≡◌ {A = ℕ} 0 1 = cc in omega arith

  beside_joined : (a b : ℕ) → Beside a b (found_without m σ) → Good E (start σ) a b → JoinedIn a F.joins ⊎ JoinedIn b F.joins
  beside_joined a b g =
      beside_pair (λ a b. Good E (start σ) a b → JoinedIn a F.joins ⊎ JoinedIn b F.joins) None a b (spliced E None σ.tree)
      (sides E σ.tree (start σ) (sound m σ h).once (λ k. refl)) (subst (λ (f : Forest). Beside a b f) same_splice g)

  not_both : (a b : ℕ) → Beside a b (found_without m σ) → Good E (start σ) a b → (scope_at (merge_of m σ).sheet a).status ≡ status.Standing → (scope_at (merge_of m σ).sheet b).status ≡ status.Standing → ⊥
  not_both a b g good sa sb = elim (beside_joined a b g good) [ inl j ↦ joined_no_more a j sa | inr j ↦ joined_no_more b j sb ]

  law : (b : ℕ) (ts : List ℕ) → Behind E b ts (found_without m σ) → Law E F ts b
  law b ts g =
      behind_gap E (Law E F) None b ts (spliced E None σ.tree) (targets E σ.tree (start σ) (sound m σ h).once (λ k. refl)) (subst (λ (f : Forest). Behind E b ts f) same_splice g)

  -- a Scope that the Merge joined was in no merged list before
  new_in : (b k : ℕ) → (scope_at σ b).status ≡ status.Standing → k < length σ.scopes → member b (scope_at σ k).merged ≡ true → ⊥
  new_in b k e l g =
      let i = put_before b status.Standing e (λ q. let z : ◌≡◌ {A = ℕ} 0 1 = cc in omega arith) in
      both_ways (member b (gathered (λ s. s.merged) σ.scopes))
      (h.scopes.joined b i ∙ ap is_joined (status_at m σ h b i ∙ e)) (among_gathered (λ s. s.merged) b σ.scopes k l g)

  keeper_by : (b k : ℕ) → (scope_at σ b).status ≡ status.Standing → k < length σ.scopes → member b (scope_at (merge_of m σ).sheet k).merged ≡ true → By k b F.joins
  keeper_by b k e l g =
      elim (or_cases (member b (scope_at σ k).merged) (member b (merged_into k F.joins))
      (sym (member_append b (scope_at σ k).merged (merged_into k F.joins)) ∙ sym (ap (λ s. member b s.merged) (scope_after_lem m σ h k l)) ∙ g)) [
        | inl a ↦ absurd (new_in b k e l a)
        | inr a ↦ into_by k b F.joins a
      ]

  used : (b : ℕ) (ts : List ℕ) → Behind E b ts (found_without m σ) → JoinedBy m σ b
      → UsedBefore (last_use σ) (scope_at (merge_of m σ).sheet b).end ts
      × ((k : ℕ) → member b (scope_at (merge_of m σ).sheet k).merged ≡ true → UsedBefore (last_use σ) (scope_at (merge_of m σ).sheet k).end ts)
  used b ts g j =
      let l = put_before b status.Standing j.0 (λ q. let z : ◌≡◌ {A = ℕ} 0 1 = cc in omega arith) in
      let z = joined_by_lem b F.joins (times_in b (joined_in F.joins) (fate_joins (fate_of m σ h b l) j.0 (sym (ap (λ s. s.status) (scope_after_lem m σ h b l)) ∙ j.1))) in (
        subst (λ (s : Scope). UsedBefore (last_use σ) s.end ts) (sym (scope_after_lem m σ h b l)) (law b ts g z.0 z.1).0,
        λ k a. elim (cases_lt k (length σ.scopes)) [
          | inl i ↦ subst (λ (s : Scope). UsedBefore (last_use σ) s.end ts) (sym (scope_after_lem m σ h k i)) (law b ts g k (keeper_by b k j.0 i a)).1
          | inr i ↦ absurd (both_ways (member b (scope_at (merge_of m σ).sheet k).merged) (ap (λ s. member b s.merged) (past_after k i)) a)
        ],
      )

pub targets_used : TargetsUsed
targets_used m σ b ts h g j = used m σ h b ts g j

pub never_both : NeverBoth
never_both m σ a b h g lists first second starts sa sb = not_both m σ h a b g (record { lists = lists; first = first; second = second; starts = starts }) sa sb
