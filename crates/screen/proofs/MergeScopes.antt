-- What is true of a sheet's Scopes is true of them after a Merge.
use Rattle.std.proofs.Common.{◌≡◌, ℕ, zero, suc, ◌+◌, ◌<◌, ◌≤◌, max, Bool, true, false, cond, ◌&&◌, eqb, List, [], ◌∷◌, map, length, get_or, sym, refl, ap, ◌∙◌, subst, inl, inr, arith}
use Rattle.std.proofs.lemmas.List.{length-map}
use Rattle.std.proofs.lemmas.Bool.{eqb-true, eq-eqb, ne_eqb, ltb-true, lt-ltb, cases_lt, and_parts, and_from, cond_both}
use Rattle.screen.specs.Forest.{Forest, tree, ◌⊕◌, same}
use Rattle.screen.specs.Lists.{every, member, distinct, gathered}
use Rattle.screen.specs.Entries.{order}
use Rattle.screen.specs.Rules.{Meaning}
use Rattle.screen.specs.State.{State, Scope}
use Rattle.screen.specs.Statuses.{is_standing, is_joined}
use Rattle.screen.specs.Standing.{openings}
use Rattle.screen.specs.Refused.{statuses}
use Rattle.screen.specs.WellFormed.{WellFormed, ScopesKept, spans_to}
use Rattle.screen.specs.Found.{Found, no_scope, scope_at}
use Rattle.screen.specs.Course.{Course, Join, put, start, joined_in, merged_into, scopes_from}
use Rattle.screen.specs.Joining.{used_before, set_row, set_rows, unless, join}
use Rattle.screen.specs.declared.node.Node.{Node}
use Rattle.screen.specs.declared.node.Node.TheVariants as node
use Rattle.screen.specs.declared.scope.Status.TheVariants as status
use Rattle.screen.proofs.Counts.{same_self}
use Rattle.screen.proofs.Grown.{openings_join}
use Rattle.screen.proofs.Times.{times, times_append, times_none, member_times, member_is, distinct_times, times_distinct, below_times, times_below, total, total_plus, total_zero, total_one}
use Rattle.screen.proofs.Weights.{turns_gone, turns_kept}
use Rattle.screen.proofs.MergeTurns.{Turns, none, then, below, behind, flat, takes}
use Rattle.screen.proofs.Fates.{fate_of, fate_joined, out, turned, none_past, joined_past, status_at, scopes_at, scope_after_lem, length_after}
use Rattle.screen.proofs.MergeStanding.{status_after_lem}

-- the larger of two orders is one
order_max : (a b : ℕ) → order a ≡ true → order b ≡ true → order (max a b) ≡ true
order_max a b h k = lt-ltb (max a b) 4294967295 (omega (arith, ltb-true a 4294967295 h, ltb-true b 4294967295 k))

turns_ends : {E : Found} {f g : Forest} {a b : Course} → Turns E f a g b → ((k : ℕ) → order (a.ends k) ≡ true) → (k : ℕ) → order (b.ends k) ≡ true
turns_ends (none e) h k = subst (λ (r : ℕ → ℕ). order (r k) ≡ true) (sym e.ends) (h k)
turns_ends (then t u) h k = turns_ends u (turns_ends t h) k
turns_ends (below t) h k = turns_ends t h k
turns_ends (behind t) h k = turns_ends t h k
turns_ends flat h k = h k
turns_ends (takes {k = n} {a} p m b d w) h k =
    cond_both (eqb k n) (max (a.ends n) (a.ends b)) (a.ends k) (λ x. order x ≡ true) (λ e. order_max (a.ends n) (a.ends b) (h n) (h b)) (λ e. h k)

every_at : {A : Type 0} (p : A → Bool) (xs : List A) (d : A) → p d ≡ true → every p xs ≡ true → (k : ℕ) → p (get_or xs k d) ≡ true
every_at p [] d z h k = z
every_at p (x ∷ xs) d z h zero = (and_parts (p x) (every p xs) h).0
every_at p (x ∷ xs) d z h (suc k) = every_at p xs d z (and_parts (p x) (every p xs) h).1 k

ranges_after : (c : Course) (i : ℕ) (ss : List Scope) → ((k : ℕ) → order (c.ends k) ≡ true) → every (λ k. order k.start && order k.end) ss ≡ true → every (λ k. order k.start && order k.end) (scopes_from c i ss) ≡ true
ranges_after c i [] e h = refl
ranges_after c i (s ∷ ss) e h =
    let t = and_parts (order s.start && order s.end) (every (λ k. order k.start && order k.end) ss) h in
    and_from (order s.start && order (c.ends i)) (every (λ k. order k.start && order k.end) (scopes_from c (i + 1) ss))
    (and_from (order s.start) (order (c.ends i)) (and_parts (order s.start) (order s.end) t.0).0 (e i))
    (ranges_after c (i + 1) ss e t.1)

begins_after : (c : Course) (i : ℕ) (ss : List Scope) → map (λ k. k.begin) (scopes_from c i ss) ≡ map (λ k. k.begin) ss
begins_after c i [] = refl
begins_after c i (s ∷ ss) = ap (λ l. s.begin ∷ l) (begins_after c (i + 1) ss)

-- lists gathered from Scopes, counted one by one
gathered_total : (q : Scope → List ℕ) (r : ℕ) (h : ℕ → ℕ) (i : ℕ) (ss : List Scope) → ((k : ℕ) → k < length ss → h (i + k) ≡ times r (q (get_or ss k no_scope))) → times r (gathered q ss) ≡ total h i (length ss)
gathered_total q r h i [] e = refl
gathered_total q r h i (s ∷ ss) e =
    omega (
      arith,
      times_append r (q s) (gathered q ss),
      e 0 (omega arith),
      ap h (let z : i + 0 ≡ i = omega arith in z),
      gathered_total q r h (i + 1) ss (λ k l. ap h (let z : (i + 1) + k ≡ i + suc k = omega arith in z) ∙ e (suc k) (omega arith)),
    )

-- moving declarations doubles none
set_row_times : (E : Found) (r : ℕ) (qs : List ℕ) (x : ℕ) → times r (set_row E qs x) ≤ times r qs + same r x
set_row_times E r [] x = omega arith
set_row_times E r (q ∷ qs) x =
    cond_both (eqb (E.declared q).key (E.declared x).key) (x ∷ qs) (q ∷ set_row E qs x) (λ l. times r l ≤ times r (q ∷ qs) + same r x) (λ e. omega arith) (λ e. omega (arith, set_row_times E r qs x))

set_rows_times : (E : Found) (r : ℕ) (qs xs : List ℕ) → times r (set_rows E qs xs) ≤ times r qs + times r xs
set_rows_times E r qs [] = omega arith
set_rows_times E r qs (x ∷ xs) = omega (arith, set_rows_times E r (set_row E qs x) xs, set_row_times E r qs x)

unless_times : (E : Found) (r e : ℕ) (xs : List ℕ) → times r (unless E e xs) ≤ times r xs
unless_times E r e [] = omega arith
unless_times E r e (x ∷ xs) =
    cond_both (used_before (E.last_use (E.declared x).declaration) e) (unless E e xs) (x ∷ unless E e xs) (λ l. times r l ≤ times r (x ∷ xs)) (λ q. omega (arith, unless_times E r e xs)) (λ q. omega (arith, unless_times E r e xs))

-- a list put at k and none at b, where both had one
put_times : (r k b N : ℕ) (f : ℕ → List ℕ) (l : List ℕ) → k < N → b < N → (k ≡ b → ⊥) → times r l ≤ times r (f k) + times r (f b)
    → total (λ j. times r (put (put f k l) b [] j)) 0 N ≤ total (λ j. times r (f j)) 0 N
put_times r k b N f l kN bN ne le =
    let h : ℕ → ℕ = λ j. times r (f j) in
    let h' : ℕ → ℕ = λ j. times r (put (put f k l) b [] j) in
    let eb : ℕ → ℕ = λ j. cond (eqb j b) (h b) 0 in
    let ek : ℕ → ℕ = λ j. cond (eqb j k) (h k) 0 in
    let el : ℕ → ℕ = λ j. cond (eqb j k) (times r l) 0 in
    omega (
      arith,
      total_plus h' (λ j. eb j + ek j) (λ j. h' j + (eb j + ek j)) 0 N (λ j. refl),
      total_plus eb ek (λ j. eb j + ek j) 0 N (λ j. refl),
      total_plus h el (λ j. h' j + (eb j + ek j)) 0 N (λ j. each j (eqb j b) refl (eqb j k) refl),
      total_one eb b 0 N (omega arith) (omega arith) (λ j q. ap (λ t. cond {A = ℕ} t (h b) 0) (ne_eqb j b q)),
      total_one ek k 0 N (omega arith) (omega arith) (λ j q. ap (λ t. cond {A = ℕ} t (h k) 0) (ne_eqb j k q)),
      total_one el k 0 N (omega arith) (omega arith) (λ j q. ap (λ t. cond {A = ℕ} t (times r l) 0) (ne_eqb j k q)),
      ap (λ t. cond {A = ℕ} t (h b) 0) (eq-eqb b b refl),
      ap (λ t. cond {A = ℕ} t (h k) 0) (eq-eqb k k refl),
      ap (λ t. cond {A = ℕ} t (times r l) 0) (eq-eqb k k refl),
    )
  where
    each : (j : ℕ) (x : Bool) → eqb j b ≡ x → (y : Bool) → eqb j k ≡ y → times r (cond x [] (cond y l (f j))) + (cond x (times r (f b)) 0 + cond y (times r (f k)) 0) ≡ times r (f j) + cond y (times r l) 0
    each j true p true q = absurd (ne (sym (eqb-true j k q) ∙ eqb-true j b p))
    each j true p false q = omega (arith, ap (λ i. times r (f i)) (eqb-true j b p))
    each j false p true q = omega (arith, ap (λ i. times r (f i)) (eqb-true j k q))
    each j false p false q = omega arith

-- no Scope from N on is there, and none twice
pub record Sound (N : ℕ) (f : Forest) : Type 0 where
  pub past : (k : ℕ) → N ≤ k → openings k f ≡ 0
  pub once : (k : ℕ) → openings k f ≤ 1

turns_sound : {E : Found} {f g : Forest} {a b : Course} (N : ℕ) → Turns E f a g b → Sound N f → Sound N g
turns_sound N t h = record { past = λ k l. omega (arith, turns_gone k t, turns_kept k t, h.past k l); once = λ k. omega (arith, turns_gone k t, turns_kept k t, h.once k) }

sound_below : (N n : ℕ) (x : Node) (c s : Forest) → Sound N (tree n x c s) → Sound N c
sound_below N n x c s h = record { past = λ k l. omega (arith, h.past k l); once = λ k. omega (arith, h.once k) }

sound_behind : (N n : ℕ) (x : Node) (c s : Forest) → Sound N (tree n x c s) → Sound N s
sound_behind N n x c s h = record { past = λ k l. omega (arith, h.past k l); once = λ k. omega (arith, h.once k) }

there : (N k : ℕ) (f : Forest) → Sound N f → 0 < openings k f → k < N
there N k f h l = elim (cases_lt k N) [ inl m ↦ m | inr m ↦ absurd (omega (arith, h.past k m)) ]

pub turns_declares : {E : Found} {f g : Forest} {a b : Course} (N r : ℕ) → Turns E f a g b → Sound N f → total (λ k. times r (b.declares k)) 0 N ≤ total (λ k. times r (a.declares k)) 0 N
turns_declares N r (none {a} {b} e) h = subst (λ (d : ℕ → List ℕ). total (λ k. times r (d k)) 0 N ≤ total (λ k. times r (a.declares k)) 0 N) (sym e.declares) (omega arith)
turns_declares N r (then t u) h = omega (arith, turns_declares N r t h, turns_declares N r u (turns_sound N t h))
turns_declares N r (below {n} {x} {c} {s} t) h = turns_declares N r t (sound_below N n x c s h)
turns_declares N r (behind {n} {x} {c} {s} t) h = turns_declares N r t (sound_behind N n x c s h)
turns_declares N r flat h = omega arith
turns_declares {E} N r (takes {n} {k} {c} {s} {a} p m b d w) h =
    let f : Forest = tree n (node.Scope k) c (p ⊕ tree m (node.Scope b) d s) in
    let ok = openings_join k p (tree m (node.Scope b) d s) in
    let ob = openings_join b p (tree m (node.Scope b) d s) in
    let e : ℕ = max (a.ends k) (a.ends b) in
    put_times r k b N a.declares (unless E e (set_rows E (a.declares k) (a.declares b)))
    (there N k f h (omega (arith, same_self k)))
    (there N b f h (omega (arith, same_self b)))
    (λ q. omega (arith, h.once b, same_self b, ap (same b) q))
    (omega (arith, unless_times E r e (set_rows E (a.declares k) (a.declares b)), set_rows_times E r (a.declares k) (a.declares b)))

-- each join is in its keeper's merged list
turns_merged : {E : Found} {f g : Forest} {a b : Course} (N r : ℕ) → Turns E f a g b → Sound N f
    → total (λ k. times r (merged_into k b.joins)) 0 N + times r (joined_in a.joins) ≡ total (λ k. times r (merged_into k a.joins)) 0 N + times r (joined_in b.joins)
turns_merged N r (none {a} {b} e) h =
    subst (λ (js : List Join). total (λ k. times r (merged_into k js)) 0 N + times r (joined_in a.joins) ≡ total (λ k. times r (merged_into k a.joins)) 0 N + times r (joined_in js)) (sym e.joins) refl
turns_merged N r (then t u) h = omega (arith, turns_merged N r t h, turns_merged N r u (turns_sound N t h))
turns_merged N r (below {n} {x} {c} {s} t) h = turns_merged N r t (sound_below N n x c s h)
turns_merged N r (behind {n} {x} {c} {s} t) h = turns_merged N r t (sound_behind N n x c s h)
turns_merged N r flat h = refl
turns_merged {E} N r (takes {n} {k} {c} {s} {a} p m b d w) h =
    let f : Forest = tree n (node.Scope k) c (p ⊕ tree m (node.Scope b) d s) in
    let here : ℕ → List ℕ = λ j. cond (eqb j k) (b ∷ []) [] in
    omega (
      arith,
      total_plus (λ j. times r (merged_into j a.joins)) (λ j. times r (here j)) (λ j. times r (merged_into j (join E k b a).joins)) 0 N (λ j. times_append r (merged_into j a.joins) (here j)),
      total_one (λ j. times r (here j)) k 0 N (omega arith) (omega (arith, there N k f h (omega (arith, same_self k)))) (λ j q. ap (λ t. times r (cond t (b ∷ []) [])) (ne_eqb j k q)),
      ap (λ t. times r (cond t (b ∷ []) [])) (eq-eqb k k refl),
    )

-- a list in which none stands twice, by its test
times_is : (k : ℕ) (xs : List ℕ) (b : Bool) → distinct xs ≡ true → member k xs ≡ b → times k xs ≡ cond b 1 0
times_is k xs true d e = omega (arith, distinct_times xs d k, member_times k xs e)
times_is k xs false d e = times_none k xs e

most : (b : Bool) → cond b 1 0 ≤ 1
most true = omega arith
most false = omega arith

module _ (m : Meaning) (σ : State) (h : WellFormed σ) where
  abbrev n : ℕ
  n = length σ.scopes

  abbrev after : List Scope
  after = scopes_from (out m σ h).st 0 σ.scopes

  pub sound : Sound n σ.tree
  sound = record { past = none_past m σ h; once = λ k. elim (cases_lt k n) [ inl l ↦ stood k l | inr l ↦ omega (arith, none_past m σ h k l) ] }
    where
      stood : (k : ℕ) → k < n → openings k σ.tree ≤ 1
      stood k l = omega (arith, h.tree.stands k (omega (arith, length-map σ.scopes (λ s. s.status))), most (is_standing (get_or (statuses σ.scopes) k status.Unused)))

  -- each declaration's row is in as many lists as before, or fewer
  declares_less : (r : ℕ) → times r (gathered (λ k. k.declares) after) ≤ times r (gathered (λ k. k.declares) σ.scopes)
  declares_less r =
      omega (
        arith,
        gathered_total (λ k. k.declares) r (λ k. times r ((out m σ h).st.declares k)) 0 after
            (λ k l. let i : k < n = omega (arith, length_after (out m σ h).st 0 σ.scopes) in
            sym (ap (λ s. times r s.declares) (scopes_at (out m σ h).st 0 σ.scopes k i))),
        length_after (out m σ h).st 0 σ.scopes,
        ap (λ c. total (λ k. times r ((out m σ h).st.declares k)) 0 c) (length_after (out m σ h).st 0 σ.scopes),
        gathered_total (λ k. k.declares) r (λ k. times r ((start σ).declares k)) 0 σ.scopes
            (λ k l. ap (λ i. times r (scope_at σ i).declares) (let z : 0 + k ≡ k = omega arith in z)),
        turns_declares n r (turned m σ h) sound,
      )

  -- the merged lists have what they had, and the Scopes that joined
  merged_times : (r : ℕ) → times r (gathered (λ k. k.merged) after) ≡ times r (gathered (λ k. k.merged) σ.scopes) + times r (joined_in (out m σ h).st.joins)
  merged_times r =
      let old : ℕ → ℕ = λ k. times r (scope_at σ k).merged in
      let add : ℕ → ℕ = λ k. times r (merged_into k (out m σ h).st.joins) in
      omega (
        arith,
        gathered_total (λ k. k.merged) r (λ k. old k + add k) 0 after
            (λ k l. let i : k < n = omega (arith, length_after (out m σ h).st 0 σ.scopes) in
            let z : 0 + k ≡ k = omega arith in
            ap (λ j. old j + add j) z ∙ sym (times_append r (scope_at σ k).merged (merged_into k (out m σ h).st.joins)) ∙ sym (ap (λ s. times r s.merged) (scope_after_lem m σ h k i))),
        ap (λ c. total (λ k. old k + add k) 0 c) (length_after (out m σ h).st 0 σ.scopes),
        total_plus old add (λ k. old k + add k) 0 n (λ k. refl),
        gathered_total (λ k. k.merged) r old 0 σ.scopes (λ k l. ap old (let z : 0 + k ≡ k = omega arith in z)),
        turns_merged n r (turned m σ h) sound,
        nothing r,
      )
    where
      nothing : (r : ℕ) → total (λ k. times r (merged_into k [])) 0 n ≡ 0
      nothing r = total_zero (λ k. 0) 0 n (λ k l. refl)

  -- how often a Scope is in a merged list
  merged_by_status : (k : ℕ) → k < n → times k (gathered (λ j. j.merged) after) ≡ cond (is_joined (get_or (statuses after) k status.Unused)) 1 0
  merged_by_status k l =
      let was = times_is k (gathered (λ j. j.merged) σ.scopes) (is_joined (get_or (statuses σ.scopes) k status.Unused)) h.scopes.merged (h.scopes.joined k l) in
      omega (
        arith,
        merged_times k,
        was,
        ap (λ s. cond {A = ℕ} (is_joined s) 1 0) (status_at m σ h k l),
        fate_joined (fate_of m σ h k l),
        ap (λ s. cond {A = ℕ} (is_joined s) 1 0) (status_after_lem m σ h k l),
      )

  merged_past : (k : ℕ) → n ≤ k → times k (gathered (λ j. j.merged) after) ≡ 0
  merged_past k l = omega (arith, merged_times k, joined_past m σ h k l, below_times n (gathered (λ j. j.merged) σ.scopes) h.scopes.merged_put k l)

  pub scopes_after_lem : ScopesKept after (length σ.rows.dependencies) (length σ.rows.declarations)
  scopes_after_lem =
      let len = length_after (out m σ h).st 0 σ.scopes in
      record {
        ranges = ranges_after (out m σ h).st 0 σ.scopes (turns_ends (turned m σ h) (λ k. (and_parts (order (scope_at σ k).start) (order (scope_at σ k).end) (every_at (λ s. order s.start && order s.end) σ.scopes no_scope refl h.scopes.ranges k)).1)) h.scopes.ranges;
        spans = ap (λ bs. spans_to bs (length σ.rows.dependencies)) (begins_after (out m σ h).st 0 σ.scopes) ∙ h.scopes.spans;
        declared = times_distinct (gathered (λ k. k.declares) after) (λ r. omega (arith, declares_less r, distinct_times (gathered (λ k. k.declares) σ.scopes) h.scopes.declared r));
        declarations_put = times_below (length σ.rows.declarations) (gathered (λ k. k.declares) after)
            (λ r l. omega (arith, declares_less r, below_times (length σ.rows.declarations) (gathered (λ k. k.declares) σ.scopes) h.scopes.declarations_put r l));
        merged = times_distinct (gathered (λ k. k.merged) after) (λ r. elim (cases_lt r n) [ inl l ↦ omega (arith, merged_by_status r l, most (is_joined (get_or (statuses after) r status.Unused))) | inr l ↦ omega (arith, merged_past r l) ]);
        merged_put = times_below (length after) (gathered (λ k. k.merged) after) (λ r l. merged_past r (omega arith));
        joined = λ k l. member_is k (gathered (λ j. j.merged) after) (is_joined (get_or (statuses after) k status.Unused)) (merged_by_status k (omega arith));
      }
