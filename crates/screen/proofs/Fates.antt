-- What becomes of each Scope in a Merge.
use Rattle.std.proofs.Common.{◌≡◌, ℕ, zero, suc, ◌+◌, ◌<◌, ◌≤◌, Bool, true, false, cond, List, [], ◌∷◌, length, get_or, sym, refl, ap, ◌∙◌, subst, arith}
use Rattle.std.proofs.lemmas.List.{get_or-map, length-map}
use Rattle.screen.specs.Forest.{body}
use Rattle.screen.specs.Lists.{member}
use Rattle.screen.specs.Rules.{Meaning}
use Rattle.screen.specs.State.{State, Scope}
use Rattle.screen.specs.Statuses.{is_standing, is_joined}
use Rattle.screen.specs.Standing.{openings}
use Rattle.screen.specs.Refused.{statuses}
use Rattle.screen.specs.WellFormed.{WellFormed}
use Rattle.screen.specs.Found.{found_of, no_scope, scope_at}
use Rattle.screen.specs.Course.{Course, start, joined_in, status_after, scope_after, scopes_from}
use Rattle.screen.specs.Scan.{Out}
use Rattle.screen.specs.Merge.{merge, merge_of}
use Rattle.screen.specs.MergeLaws.{is_flattened, how_many, Changes, stays, joins, flattens, Counted, CountsAddUp}
use Rattle.screen.specs.declared.scope.Status.{Status}
use Rattle.screen.specs.declared.scope.Status.TheVariants as status
use Rattle.screen.proofs.Forming.{kept_openings}
use Rattle.screen.proofs.MergeTurns.{Turns, merge_turns}
use Rattle.screen.proofs.Times.{times, member_times, times_none, total, total_times}
use Rattle.screen.proofs.Weights.{gone, turns_gone}

-- by how often it was joined, flattened, and is in the tree afterwards: how it stood and how it stands
pub data Fate (J G O : ℕ) : Status → Status → Type 0 where
  as_it_was : {s : Status} → J ≡ 0 → G ≡ 0 → O ≡ cond (is_standing s) 1 0 → Fate J G O s s
  joined : J ≡ 1 → G ≡ 0 → O ≡ 0 → Fate J G O status.Standing status.Joined
  flattened : J ≡ 0 → G ≡ 1 → O ≡ 0 → Fate J G O status.Standing status.Flattened

pub fate : (k : ℕ) (st : Course) (s : Status) (O : ℕ) → O + gone k st ≡ cond (is_standing s) 1 0 → Fate (times k (joined_in st.joins)) (times k st.flats) O s (status_after st k s)
fate k st s O h = go (member k (joined_in st.joins)) refl (member k st.flats) refl s h
  where
    go : (b : Bool) → member k (joined_in st.joins) ≡ b → (c : Bool) → member k st.flats ≡ c → (s : Status) → O + gone k st ≡ cond (is_standing s) 1 0
        → Fate (times k (joined_in st.joins)) (times k st.flats) O s (cond b status.Joined (cond c status.Flattened s))
    go true e c f status.Standing g = let p = member_times k (joined_in st.joins) e in joined (omega arith) (omega arith) (omega arith)
    go true e c f status.Unused g = absurd (omega (arith, member_times k (joined_in st.joins) e))
    go true e c f status.Joined g = absurd (omega (arith, member_times k (joined_in st.joins) e))
    go true e c f status.Flattened g = absurd (omega (arith, member_times k (joined_in st.joins) e))
    go false e true f status.Standing g =
        let p = member_times k st.flats f in
        let q = times_none k (joined_in st.joins) e in
        flattened (omega arith) (omega arith) (omega arith)
    go false e true f status.Unused g = absurd (omega (arith, member_times k st.flats f))
    go false e true f status.Joined g = absurd (omega (arith, member_times k st.flats f))
    go false e true f status.Flattened g = absurd (omega (arith, member_times k st.flats f))
    go false e false f s g =
        let p = times_none k st.flats f in
        let q = times_none k (joined_in st.joins) e in
        as_it_was (omega arith) (omega arith) (omega arith)

pub fate_changes : {J G O : ℕ} {s t : Status} → Fate J G O s t → Changes s t
fate_changes (as_it_was a b c) = stays
fate_changes (joined a b c) = joins
fate_changes (flattened a b c) = flattens

fate_standing : {J G O : ℕ} {s t : Status} → Fate J G O s t → cond (is_standing s) 1 0 ≡ cond (is_standing t) 1 0 + J + G
fate_standing (as_it_was a b c) = omega arith
fate_standing (joined a b c) = omega arith
fate_standing (flattened a b c) = omega arith

pub fate_joined : {J G O : ℕ} {s t : Status} → Fate J G O s t → cond (is_joined t) 1 0 ≡ cond (is_joined s) 1 0 + J
fate_joined (as_it_was a b c) = omega arith
fate_joined (joined a b c) = omega arith
fate_joined (flattened a b c) = omega arith

fate_flattened : {J G O : ℕ} {s t : Status} → Fate J G O s t → cond (is_flattened t) 1 0 ≡ cond (is_flattened s) 1 0 + G
fate_flattened (as_it_was a b c) = omega arith
fate_flattened (joined a b c) = omega arith
fate_flattened (flattened a b c) = omega arith

pub length_after : (c : Course) (i : ℕ) (ss : List Scope) → length (scopes_from c i ss) ≡ length ss
length_after c i [] = refl
length_after c i (s ∷ ss) = omega (arith, length_after c (i + 1) ss)

pub scopes_at : (c : Course) (i : ℕ) (ss : List Scope) (k : ℕ) → k < length ss → get_or (scopes_from c i ss) k no_scope ≡ scope_after c (i + k) (get_or ss k no_scope)
scopes_at c i [] k l = absurd (omega arith)
scopes_at c i (s ∷ ss) zero l = ap (λ n. scope_after c n s) (omega arith)
scopes_at c i (s ∷ ss) (suc k) l = scopes_at c (i + 1) ss k (omega arith) ∙ ap (λ n. scope_after c n (get_or ss k no_scope)) (omega arith)

-- the fate of Scope k, which stood as s, where O says how often each Scope is in the tree afterwards
abbrev pub FateAt : Course → (ℕ → ℕ) → ℕ → Status → Type 0
FateAt c O k s = Fate (times k (joined_in c.joins)) (times k c.flats) (O k) s (status_after c k s)

-- the fates of the Scopes from number i on
abbrev Fates : Course → (ℕ → ℕ) → ℕ → List Scope → Type 0
Fates c O i [] = Unit {0}
Fates c O i (s ∷ ss) = FateAt c O i s.status × Fates c O (i + 1) ss

fates_from : (c : Course) (O : ℕ → ℕ) (i : ℕ) (ss : List Scope) → ((k : ℕ) → k < length ss → FateAt c O (i + k) (get_or ss k no_scope).status) → Fates c O i ss
fates_from c O i [] h = tt
fates_from c O i (s ∷ ss) h = (
  subst (λ (n : ℕ). FateAt c O n s.status) (omega arith) (h 0 (omega arith)),
  fates_from c O (i + 1) ss (λ k l. subst (λ (n : ℕ). FateAt c O n (get_or ss k no_scope).status) (omega arith) (h (suc k) (omega arith))),
)

count_standing : (c : Course) (O : ℕ → ℕ) (i : ℕ) (ss : List Scope) → Fates c O i ss
    → how_many is_standing ss ≡ how_many is_standing (scopes_from c i ss) + total (λ k. times k (joined_in c.joins)) i (length ss) + total (λ k. times k c.flats) i (length ss)
count_standing c O i [] h = refl
count_standing c O i (s ∷ ss) h = omega (arith, fate_standing h.0, count_standing c O (i + 1) ss h.1)

count_joined : (c : Course) (O : ℕ → ℕ) (i : ℕ) (ss : List Scope) → Fates c O i ss → how_many is_joined (scopes_from c i ss) ≡ how_many is_joined ss + total (λ k. times k (joined_in c.joins)) i (length ss)
count_joined c O i [] h = refl
count_joined c O i (s ∷ ss) h = omega (arith, fate_joined h.0, count_joined c O (i + 1) ss h.1)

count_flattened : (c : Course) (O : ℕ → ℕ) (i : ℕ) (ss : List Scope) → Fates c O i ss → how_many is_flattened (scopes_from c i ss) ≡ how_many is_flattened ss + total (λ k. times k c.flats) i (length ss)
count_flattened c O i [] h = refl
count_flattened c O i (s ∷ ss) h = omega (arith, fate_flattened h.0, count_flattened c O (i + 1) ss h.1)

-- a Merge of a well-formed sheet
module _ (m : Meaning) (σ : State) (h : WellFormed σ) where
  abbrev pub out : Out
  out = merge (found_of m σ) σ.tree (start σ)

  pub turned : Turns (found_of m σ) σ.tree (start σ) out.forest out.st
  turned = merge_turns (found_of m σ) σ.tree (start σ)

  pub gone_once : (k : ℕ) → openings k out.forest + gone k out.st ≡ openings k σ.tree
  gone_once k = omega (arith, turns_gone k turned)

  -- no node opened a Scope that is not put
  pub none_past : (k : ℕ) → length σ.scopes ≤ k → openings k σ.tree ≡ 0
  none_past k l =
      omega (arith, kept_openings σ.rows.identifiers σ.rows.values (statuses σ.scopes) k (omega (arith, length-map σ.scopes (λ s. s.status))) σ.rows.nodes h.rows.nodes (body σ.tree) h.tree.labelled)

  pub status_at : (k : ℕ) → k < length σ.scopes → get_or (statuses σ.scopes) k status.Unused ≡ (scope_at σ k).status
  status_at k l = get_or-map (λ s. s.status) σ.scopes k no_scope status.Unused l

  pub fate_of : (k : ℕ) → k < length σ.scopes → FateAt out.st (λ j. openings j out.forest) k (scope_at σ k).status
  fate_of k l =
      fate k out.st (scope_at σ k).status (openings k out.forest)
      (gone_once k ∙ h.tree.stands k (omega (arith, length-map σ.scopes (λ s. s.status))) ∙ ap (λ s. cond {A = ℕ} (is_standing s) 1 0) (status_at k l))

  pub scope_after_lem : (k : ℕ) → k < length σ.scopes → scope_at (merge_of m σ).sheet k ≡ scope_after out.st k (scope_at σ k)
  scope_after_lem k l = scopes_at out.st 0 σ.scopes k l ∙ ap (λ n. scope_after out.st n (scope_at σ k)) (omega arith)

  pub joined_past : (k : ℕ) → length σ.scopes ≤ k → times k (joined_in out.st.joins) ≡ 0
  joined_past k l = omega (arith, gone_once k, none_past k l)

  flats_past : (k : ℕ) → length σ.scopes ≤ k → times k out.st.flats ≡ 0
  flats_past k l = omega (arith, gone_once k, none_past k l)

  counted : Counted σ (merge_of m σ)
  counted =
      let c : Course = out.st in
      let O : ℕ → ℕ = λ k. openings k out.forest in
      let f : Fates c O 0 σ.scopes = fates_from c O 0 σ.scopes (λ k l. subst (λ (n : ℕ). FateAt c O n (scope_at σ k).status) (omega arith) (fate_of k l)) in
      let j = total_times (length σ.scopes) (joined_in c.joins) joined_past in
      let g = total_times (length σ.scopes) c.flats flats_past in
      let n = length-map c.joins (λ j. j.joined) in
      record {
        standing = omega (arith, count_standing c O 0 σ.scopes f, j, g, n);
        joined = omega (arith, count_joined c O 0 σ.scopes f, j, n);
        flattened = omega (arith, count_flattened c O 0 σ.scopes f, g);
        scopes = length_after c 0 σ.scopes;
        changes = λ k l. subst (λ (t : Scope). Changes (scope_at σ k).status t.status) (sym (scope_after_lem k l)) (fate_changes (fate_of k l));
      }

pub counts_add_up : CountsAddUp
counts_add_up m σ h = counted m σ h
