-- The Scopes' lists after a new Scope, and after a change of one.
use Rattle.std.proofs.Common.{◌≡◌, ℕ, zero, suc, ◌+◌, ◌-◌, ◌<◌, ◌≤◌, Bool, true, ◌&&◌, eqb, ltb, leb, ◌⊎◌, List, [], ◌∷◌, ◌++◌, map, length, get_or, set, sym, refl, ap, ◌∙◌, inl, inr, arith, length-set}
use lib.ListN.{length-map}
use Rattle.std.proofs.lemmas.List.{append_assoc, append-nil, map-append, map-set, get_or_append_left, get_or_push, length_push}
use Rattle.std.proofs.lemmas.Bool.{cases_lt, and_parts, and_from, ltb-true, lt-ltb, leb-true, le-leb}
use Rattle.screen.specs.Lists.{every, member, distinct, gathered, is_put}
use Rattle.screen.specs.Entries.{order}
use Rattle.screen.specs.State.{Scope}
use Rattle.screen.specs.Statuses.{is_joined}
use Rattle.screen.specs.Refused.{statuses}
use Rattle.screen.specs.Step.{also, fresh, stood, reassigned, declaring, altered, altered_last}
use Rattle.screen.specs.WellFormed.{rises_to, spans_to, ScopesKept}
use Rattle.screen.specs.declared.scope.Status.TheVariants.{Unused, Standing as Stood}
use Rattle.screen.proofs.Levelling.{every_push}
use Rattle.screen.proofs.Staying.{every_weaker}
use Rattle.screen.proofs.Distinct.{gathered_more, distinct_next, not_among}
use Rattle.screen.proofs.StandingGrown.{stood_alike}

-- numbers below a limit are below a higher one
below_more : (n m : ℕ) → n ≤ m → (xs : List ℕ) → every (λ k. ltb k n) xs ≡ true → every (λ k. ltb k m) xs ≡ true
below_more n m l xs h = every_weaker (λ k. ltb k n) (λ k. ltb k m) (λ k e. lt-ltb k m (omega (arith, ltb-true k n e))) xs h

-- a change of one Scope keeps what it keeps of each
altered_map : {A : Type 0} (g : Scope → A) (f : Scope → Scope) → ((s : Scope) → g (f s) ≡ g s) → (ss : List Scope) (k : ℕ) → map g (altered ss k f) ≡ map g ss
altered_map g f e [] k = refl
altered_map g f e (s ∷ ss) zero = ap (λ t. t ∷ map g ss) (e s)
altered_map g f e (s ∷ ss) (suc k) = ap (λ t. g s ∷ t) (altered_map g f e ss k)

altered_gathered : (g : Scope → List ℕ) (f : Scope → Scope) → ((s : Scope) → g (f s) ≡ g s) → (ss : List Scope) (k : ℕ) → gathered g (altered ss k f) ≡ gathered g ss
altered_gathered g f e [] k = refl
altered_gathered g f e (s ∷ ss) zero = ap (λ t. t ++ gathered g ss) (e s)
altered_gathered g f e (s ∷ ss) (suc k) = ap (λ t. g s ++ t) (altered_gathered g f e ss k)

altered_every : (p : Scope → Bool) (f : Scope → Scope) → ((s : Scope) → p (f s) ≡ p s) → (ss : List Scope) (k : ℕ) → every p (altered ss k f) ≡ every p ss
altered_every p f e [] k = refl
altered_every p f e (s ∷ ss) zero = ap (λ t. t && every p ss) (e s)
altered_every p f e (s ∷ ss) (suc k) = ap (λ t. p s && t) (altered_every p f e ss k)

-- one Scope's range, begin and merged list as they were; what it declares and how it stands is shown apart
scopes_altered : (ss : List Scope) (k deps decls : ℕ) (f : Scope → Scope)
    → ((s : Scope) → ((order (f s).start && order (f s).end) ≡ (order s.start && order s.end)) × ((f s).begin ≡ s.begin) × ((f s).merged ≡ s.merged))
    → ScopesKept ss deps decls → (decls' : ℕ) → distinct (gathered (λ j. j.declares) (altered ss k f)) ≡ true → every (λ n. ltb n decls') (gathered (λ j. j.declares) (altered ss k f)) ≡ true
    → ((j : ℕ) → is_joined (get_or (statuses (altered ss k f)) j Unused) ≡ is_joined (get_or (statuses ss) j Unused))
    → ScopesKept (altered ss k f) deps decls'
scopes_altered ss k deps decls f alike h decls' declared put joined =
    let many : length (altered ss k f) ≡ length ss = length-set ss k (f (get_or ss k (fresh 0 0 0))) in
    let merged : gathered (λ j. j.merged) (altered ss k f) ≡ gathered (λ j. j.merged) ss = altered_gathered (λ j. j.merged) f (λ s. (alike s).2) ss k in
    record {
      ranges = altered_every (λ j. order j.start && order j.end) f (λ s. (alike s).0) ss k ∙ h.ranges;
      spans = ap (λ bs. spans_to bs deps) (altered_map (λ j. j.begin) f (λ s. (alike s).1) ss k) ∙ h.spans;
      declared = declared;
      declarations_put = put;
      merged = ap distinct merged ∙ h.merged;
      merged_put = ap (every (λ n. ltb n (length (altered ss k f)))) merged ∙ below_more (length ss) (length (altered ss k f)) (omega arith) (gathered (λ j. j.merged) ss) h.merged_put;
      joined = λ j l. ap (member j) merged ∙ h.joined j (omega arith) ∙ sym (joined j);
    }

-- what the last Scope declares is the last that is declared
declares_last : (n : ℕ) (ss : List Scope) (k : ℕ) → suc k ≡ length ss → gathered (λ j. j.declares) (altered ss k (declaring n)) ≡ gathered (λ j. j.declares) ss ++ n ∷ []
declares_last n [] k e = absurd (omega arith)
declares_last n (s ∷ []) zero e = append-nil (s.declares ++ n ∷ []) ∙ ap (λ t. t ++ n ∷ []) (sym (append-nil s.declares))
declares_last n (s ∷ []) (suc k) e = absurd (omega arith)
declares_last n (s ∷ t ∷ ss) zero e = absurd (omega arith)
declares_last n (s ∷ t ∷ ss) (suc k) e =
    ap (λ us. s.declares ++ us) (declares_last n (t ∷ ss) k (omega arith)) ∙ sym (append_assoc s.declares (gathered (λ j. j.declares) (t ∷ ss)) (n ∷ []))

pub statuses_kept : (f : Scope → Scope) → ((s : Scope) → (f s).status ≡ s.status) → (ss : List Scope) (k : ℕ) → statuses (altered ss k f) ≡ statuses ss
statuses_kept f e ss k = altered_map (λ j. j.status) f e ss k

pub statuses_stood : (ss : List Scope) (k : ℕ) → statuses (altered ss k stood) ≡ set (statuses ss) k Stood
statuses_stood ss k = map-set (λ j. j.status) ss k (stood (get_or ss k (fresh 0 0 0)))

pub statuses_fresh : (ss : List Scope) (a z n : ℕ) → statuses (also ss (fresh a z n)) ≡ statuses ss ++ Unused ∷ []
statuses_fresh ss a z n = map-append (λ j. j.status) ss (fresh a z n ∷ [])

-- a declaration more, of the last Scope
pub scopes_declaring : (ss : List Scope) (deps decls : ℕ) → is_put (statuses ss) 0 ≡ true → ScopesKept ss deps decls → ScopesKept (altered_last ss (declaring decls)) deps (decls + 1)
scopes_declaring ss deps decls some h =
    let last : suc (length ss - 1) ≡ length ss = omega (arith, ltb-true 0 (length (statuses ss)) some, length-map ss (λ j. j.status)) in
    let e = declares_last decls ss (length ss - 1) last in
    scopes_altered ss (length ss - 1) deps decls (declaring decls) (λ s. (refl, refl, refl)) h (decls + 1)
    (ap distinct e ∙ distinct_next (gathered (λ j. j.declares) ss) decls h.declared h.declarations_put)
    (ap (every (λ n. ltb n (decls + 1))) e
    ∙ every_push (λ n. ltb n (decls + 1)) (gathered (λ j. j.declares) ss) decls (below_more decls (decls + 1) (omega arith) (gathered (λ j. j.declares) ss) h.declarations_put) (lt-ltb decls (decls + 1) (omega arith)))
    (λ j. ap (λ t. is_joined (get_or t j Unused)) (statuses_kept (declaring decls) (λ s. refl) ss (length ss - 1)))

-- a reassignment, of the last Scope
pub scopes_reassigned : (ss : List Scope) (deps decls : ℕ) → ScopesKept ss deps decls → ScopesKept (altered_last ss reassigned) deps decls
scopes_reassigned ss deps decls h =
    let e : gathered (λ j. j.declares) (altered_last ss reassigned) ≡ gathered (λ j. j.declares) ss = altered_gathered (λ j. j.declares) reassigned (λ s. refl) ss (length ss - 1) in
    scopes_altered ss (length ss - 1) deps decls reassigned (λ s. (refl, refl, refl)) h decls
    (ap distinct e ∙ h.declared) (ap (every (λ n. ltb n decls)) e ∙ h.declarations_put)
    (λ j. ap (λ t. is_joined (get_or t j Unused)) (statuses_kept reassigned (λ s. refl) ss (length ss - 1)))

-- an unused Scope comes to stand
pub scopes_stood : (ss : List Scope) (k deps decls : ℕ) → k < length (statuses ss) → get_or (statuses ss) k Unused ≡ Unused → ScopesKept ss deps decls → ScopesKept (altered ss k stood) deps decls
scopes_stood ss k deps decls l unused h =
    let e : gathered (λ j. j.declares) (altered ss k stood) ≡ gathered (λ j. j.declares) ss = altered_gathered (λ j. j.declares) stood (λ s. refl) ss k in
    scopes_altered ss k deps decls stood (λ s. (refl, refl, refl)) h decls
    (ap distinct e ∙ h.declared) (ap (every (λ n. ltb n decls)) e ∙ h.declarations_put)
    (λ j. ap (λ t. is_joined (get_or t j Unused)) (statuses_stood ss k) ∙ stood_alike is_joined (statuses ss) k j refl l unused)

-- dependencies that reach further, and a Scope whose own begin where all others end
rises_more : (low : ℕ) (bs : List ℕ) (n m : ℕ) → n ≤ m → rises_to low bs n ≡ true → rises_to low bs m ≡ true
rises_more low [] n m l h = le-leb low m (omega (arith, leb-true low n h))
rises_more low (b ∷ bs) n m l h =
    let a = and_parts (leb low b) (rises_to b bs n) h in
    and_from (leb low b) (rises_to b bs m) a.0 (rises_more b bs n m l a.1)

rises_end : (low : ℕ) (bs : List ℕ) (n : ℕ) → rises_to low bs n ≡ true → rises_to low (bs ++ n ∷ []) n ≡ true
rises_end low [] n h = and_from (leb low n) (leb n n) h (le-leb n n (omega arith))
rises_end low (b ∷ bs) n h =
    let a = and_parts (leb low b) (rises_to b bs n) h in
    and_from (leb low b) (rises_to b (bs ++ n ∷ []) n) a.0 (rises_end b bs n a.1)

spans_more : (ss : List Scope) (n m : ℕ) → is_put (statuses ss) 0 ≡ true → n ≤ m → spans_to (map (λ j. j.begin) ss) n ≡ true → spans_to (map (λ j. j.begin) ss) m ≡ true
spans_more [] n m some l h = absurd (omega (arith, ltb-true 0 0 some))
spans_more (s ∷ ss) n m some l h =
    let a = and_parts (eqb s.begin 0) (rises_to s.begin (map (λ j. j.begin) ss) n) h in
    and_from (eqb s.begin 0) (rises_to s.begin (map (λ j. j.begin) ss) m) a.0 (rises_more s.begin (map (λ j. j.begin) ss) n m l a.1)

spans_end : (bs : List ℕ) (n : ℕ) → spans_to bs n ≡ true → spans_to (bs ++ n ∷ []) n ≡ true
spans_end [] n h = and_from (eqb n 0) (leb n n) h (le-leb n n (omega arith))
spans_end (b ∷ bs) n h =
    let a = and_parts (eqb b 0) (rises_to b bs n) h in
    and_from (eqb b 0) (rises_to b (bs ++ n ∷ []) n) a.0 (rises_end b bs n a.1)

-- a dependency more, of the last Scope
pub scopes_dependency : (ss : List Scope) (deps decls : ℕ) → is_put (statuses ss) 0 ≡ true → ScopesKept ss deps decls → ScopesKept ss (deps + 1) decls
scopes_dependency ss deps decls some h =
    record {
      ranges = h.ranges;
      spans = spans_more ss deps (deps + 1) some (omega arith) h.spans;
      declared = h.declared;
      declarations_put = h.declarations_put;
      merged = h.merged;
      merged_put = h.merged_put;
      joined = h.joined;
    }

-- a new Scope
pub scopes_fresh : (ss : List Scope) (deps decls a z : ℕ) → (order a && order z) ≡ true → ScopesKept ss deps decls → ScopesKept (also ss (fresh a z deps)) deps decls
scopes_fresh ss deps decls a z ok h =
    let s : Scope = fresh a z deps in
    let declared : gathered (λ j. j.declares) (also ss s) ≡ gathered (λ j. j.declares) ss = gathered_more (λ j. j.declares) ss s ∙ append-nil (gathered (λ j. j.declares) ss) in
    record {
      ranges = every_push (λ j. order j.start && order j.end) ss s h.ranges ok;
      spans = ap (λ bs. spans_to bs deps) (map-append (λ j. j.begin) ss (s ∷ [])) ∙ spans_end (map (λ j. j.begin) ss) deps h.spans;
      declared = ap distinct declared ∙ h.declared;
      declarations_put = ap (every (λ n. ltb n decls)) declared ∙ h.declarations_put;
      merged = ap distinct merged ∙ h.merged;
      merged_put = ap (every (λ n. ltb n (length (also ss s)))) merged ∙ below_more (length ss) (length (also ss s)) (omega (arith, length_push ss s)) (gathered (λ j. j.merged) ss) h.merged_put;
      joined = λ k l. ap (member k) merged ∙ joined k l (cases_lt k (length ss)) ∙ sym (ap (λ t. is_joined (get_or t k Unused)) (statuses_fresh ss a z deps));
    }
  where
    merged : gathered (λ j. j.merged) (also ss (fresh a z deps)) ≡ gathered (λ j. j.merged) ss
    merged = gathered_more (λ j. j.merged) ss (fresh a z deps) ∙ append-nil (gathered (λ j. j.merged) ss)

    many : length (statuses ss) ≡ length ss
    many = length-map ss (λ j. j.status)

    joined : (k : ℕ) → k < length (also ss (fresh a z deps)) → (k < length ss) ⊎ (length ss ≤ k) → member k (gathered (λ j. j.merged) ss) ≡ is_joined (get_or (statuses ss ++ Unused ∷ []) k Unused)
    joined k l (inl m) = h.joined k m ∙ sym (ap is_joined (get_or_append_left (statuses ss) (Unused ∷ []) Unused k (omega (arith, many))))
    joined k l (inr m) =
        let e : length ss ≡ k = omega (arith, length_push ss (fresh a z deps)) in
        ap (λ n. member n (gathered (λ j. j.merged) ss)) (sym e) ∙ not_among (gathered (λ j. j.merged) ss) (length ss) h.merged_put
        ∙ sym (ap is_joined (get_or_push (statuses ss) Unused Unused k (many ∙ e)))
