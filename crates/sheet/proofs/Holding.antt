-- The Scopes in their rows by number, with one Scope more, or with one row changed.
use Rattle.std.proofs.Common.{◌≡◌, ℕ, zero, suc, ◌<◌, ◌≤◌, true, false, eqb, ltb, ◌⊎◌, List, [], ◌∷◌, ◌++◌, length, get_or, set, sym, refl, ap, ◌∙◌, subst, inl, inr, arith, length-set}
use Rattle.std.proofs.lemmas.List.{get_or_append_left, get_or_push, length_push, get_or-set_same, get_or-set_other}
use Rattle.std.proofs.lemmas.Bool.{cases_eq, cases_lt, or_right, ltb-true}
use Rattle.screen.specs.Lists.{every, member, gathered}
use Rattle.screen.specs.State.{Scope}
use Rattle.screen.specs.Step.{fresh, altered}
use Rattle.screen.proofs.Members.{member_here}
use Rattle.sheet.specs.declared.rows.ScopeRow.{ScopeRow}
use Rattle.sheet.specs.declared.rows.DeclarationRow.{DeclarationRow}
use Rattle.sheet.specs.Chains.{no_scope, next_declaration, next_merged, Chain, ScopeHeld, ScopesHeld, Chained}
use Rattle.sheet.specs.Written.{new_scope}
use Rattle.sheet.proofs.Gathering.{told}
use Rattle.sheet.proofs.Parting.{every_member, in_gathered, in_none}

-- the Scope that stands for what is not there
abbrev pub blank : Scope
blank = fresh 0 0 0

module _ (S : List ScopeRow) (D : List DeclarationRow) where
  -- each Scope in its row, and back
  pub held_at : (rs : List ScopeRow) (ss : List Scope) → ScopesHeld S D rs ss → (i : ℕ) → i < length rs → ScopeHeld S D (get_or rs i no_scope) (get_or ss i blank)
  held_at [] ss h i l = absurd (omega arith)
  held_at (r ∷ rs) [] h i l = absurd h
  held_at (r ∷ rs) (k ∷ ks) h zero l = h.0
  held_at (r ∷ rs) (k ∷ ks) h (suc i) l = held_at rs ks h.1 i (omega arith)

  pub held_from : (rs : List ScopeRow) (ss : List Scope) → length ss ≡ length rs → ((i : ℕ) → i < length rs → ScopeHeld S D (get_or rs i no_scope) (get_or ss i blank)) → ScopesHeld S D rs ss
  held_from [] [] e h = tt
  held_from [] (k ∷ ks) e h = absurd (omega arith)
  held_from (r ∷ rs) [] e h = absurd (omega arith)
  held_from (r ∷ rs) (k ∷ ks) e h = (h 0 (omega arith), held_from rs ks (omega arith) (λ i l. h (suc i) (omega arith)))

  pub held_for : (r r' : ScopeRow) (k k' : Scope) → r' ≡ r → k' ≡ k → ScopeHeld S D r k → ScopeHeld S D r' k'
  held_for r r' k k' e f h = subst (λ (x : ScopeRow). ScopeHeld S D x k') (sym e) (subst (λ (x : Scope). ScopeHeld S D r x) (sym f) h)

-- links that are the same along a list
chain_like : (next next' : ℕ → ℕ) (a : ℕ) (ks : List ℕ) → ((k : ℕ) → member k ks ≡ true → next' k ≡ next k) → Chain next a ks → Chain next' a ks
chain_like next next' a [] e c = c
chain_like next next' a (k ∷ ks) e c =
    (c.0, subst (λ (x : ℕ). Chain next' x ks) (sym (e k (member_here k k ks refl))) (chain_like next next' (next k) ks (λ j h. e j (or_right (eqb k j) (member j ks) h)) c.1))

-- a Scope whose lists keep their links
pub held_moved : (S S' : List ScopeRow) (D D' : List DeclarationRow) (r : ScopeRow) (k : Scope)
    → ((n : ℕ) → member n k.declares ≡ true → next_declaration D' n ≡ next_declaration D n)
    → ((n : ℕ) → member n k.merged ≡ true → next_merged S' n ≡ next_merged S n)
    → ScopeHeld S D r k → ScopeHeld S' D' r k
held_moved S S' D D' r k d m h =
    record {
      start_is = h.start_is;
      end_is = h.end_is;
      status_is = h.status_is;
      status_small = h.status_small;
      reassigns_is = h.reassigns_is;
      begin_is = h.begin_is;
      declares = chain_like (next_declaration D) (next_declaration D') r.first k.declares d h.declares;
      merged = chain_like (next_merged S) (next_merged S') r.merged k.merged m h.merged;
    }

-- a Scope more, whose merged lists lead to Scopes that are put
module _ (S : List ScopeRow) (D : List DeclarationRow) (ss : List Scope) (chained : Chained S D ss) (put : every (λ n. ltb n (length ss)) (gathered (λ k. k.merged) ss) ≡ true) (a z b : ℕ) where
  new_many : length ss ≡ length S
  new_many = (told S D S ss chained.held).count

  new_link : (n : ℕ) → n < length S → next_merged (S ++ new_scope a z b ∷ []) n ≡ next_merged S n
  new_link n l = ap (λ r. r.next) (get_or_append_left S (new_scope a z b ∷ []) no_scope n l)

  new_held : (i : ℕ) → i < length (S ++ new_scope a z b ∷ []) → (i < length S) ⊎ (length S ≤ i)
      → ScopeHeld (S ++ new_scope a z b ∷ []) D (get_or (S ++ new_scope a z b ∷ []) i no_scope) (get_or (ss ++ fresh a z b ∷ []) i blank)
  new_held i l (inl h) =
      held_for (S ++ new_scope a z b ∷ []) D (get_or S i no_scope) _ (get_or ss i blank) _
      (get_or_append_left S (new_scope a z b ∷ []) no_scope i h) (get_or_append_left ss (fresh a z b ∷ []) blank i (omega (arith, new_many)))
      (held_moved S (S ++ new_scope a z b ∷ []) D D (get_or S i no_scope) (get_or ss i blank) (λ n m. refl)
      (λ n m. new_link n (omega (arith, new_many, ltb-true n (length ss) (every_member (λ n. ltb n (length ss)) (gathered (λ k. k.merged) ss) n put (in_gathered (λ k. k.merged) blank ss i n (omega (arith, new_many)) m)))))
      (held_at S D S ss chained.held i h))
  new_held i l (inr h) =
      let e : length S ≡ i = omega (arith, length_push S (new_scope a z b)) in
      held_for (S ++ new_scope a z b ∷ []) D (new_scope a z b) _ (fresh a z b) _ (get_or_push S (new_scope a z b) no_scope i e) (get_or_push ss (fresh a z b) blank i (new_many ∙ e))
      (record { start_is = refl; end_is = refl; status_is = refl; status_small = omega arith; reassigns_is = refl; begin_is = refl; declares = refl; merged = refl })

  -- what was in a list is still
  new_member : (f : Scope → List ℕ) (n i : ℕ) → i < length ss → member n (f (get_or ss i blank)) ≡ true → (i < length (ss ++ fresh a z b ∷ [])) × (member n (f (get_or (ss ++ fresh a z b ∷ []) i blank)) ≡ true)
  new_member f n i l h = (omega (arith, length_push ss (fresh a z b)), ap (λ k. member n (f k)) (get_or_append_left ss (fresh a z b ∷ []) blank i l) ∙ h)

  pub chained_new : Chained (S ++ new_scope a z b ∷ []) D (ss ++ fresh a z b ∷ [])
  chained_new =
      record {
        held = held_from (S ++ new_scope a z b ∷ []) D (S ++ new_scope a z b ∷ []) (ss ++ fresh a z b ∷ []) (omega (arith, length_push S (new_scope a z b), length_push ss (fresh a z b), new_many)) (λ i l. new_held i l (cases_lt i (length S)));
        loose = λ n l out. chained.loose n l (in_none (λ k. k.declares) blank ss (ss ++ fresh a z b ∷ []) n (new_member (λ k. k.declares) n) out);
        loose_merged = λ n l out. merged n l (in_none (λ k. k.merged) blank ss (ss ++ fresh a z b ∷ []) n (new_member (λ k. k.merged) n) out) (cases_lt n (length S));
      }
    where
      merged : (n : ℕ) → n < length (S ++ new_scope a z b ∷ []) → member n (gathered (λ k. k.merged) ss) ≡ false → (n < length S) ⊎ (length S ≤ n) → next_merged (S ++ new_scope a z b ∷ []) n ≡ 4294967295
      merged n l out (inl h) = new_link n h ∙ chained.loose_merged n h out
      merged n l out (inr h) =
          let e : length S ≡ n = omega (arith, length_push S (new_scope a z b)) in
          ap (λ r. r.next) (get_or_push S (new_scope a z b) no_scope n e)

-- a row with its link kept
pub set_link : (S : List ScopeRow) (k : ℕ) (r : ScopeRow) (n : ℕ) → r.next ≡ (get_or S k no_scope).next → next_merged (set S k r) n ≡ next_merged S n
set_link [] k r n e = refl
set_link (x ∷ xs) zero r zero e = e
set_link (x ∷ xs) zero r (suc n) e = refl
set_link (x ∷ xs) (suc k) r zero e = refl
set_link (x ∷ xs) (suc k) r (suc n) e = set_link xs k r n e

-- what was in a list is still, where a Scope's lists lose nothing
pub altered_member : (ss : List Scope) (k : ℕ) (g : Scope → Scope) (f : Scope → List ℕ) (n : ℕ) → (member n (f (get_or ss k blank)) ≡ true → member n (f (g (get_or ss k blank))) ≡ true)
    → (i : ℕ) → i < length ss → member n (f (get_or ss i blank)) ≡ true → (i < length (altered ss k g)) × (member n (f (get_or (altered ss k g) i blank)) ≡ true)
altered_member ss k g f n more i l h = (omega (arith, length-set ss k (g (get_or ss k blank))), go (cases_eq i k))
  where
    go : (i ≡ k) ⊎ (i ≡ k → ⊥) → member n (f (get_or (altered ss k g) i blank)) ≡ true
    go (inl e) =
        ap (λ j. member n (f (get_or (altered ss k g) j blank))) e
        ∙ ap (λ s. member n (f s)) (get_or-set_same ss k (g (get_or ss k blank)) blank (omega arith))
        ∙ more (ap (λ j. member n (f (get_or ss j blank))) (sym e) ∙ h)
    go (inr e) = ap (λ s. member n (f s)) (get_or-set_other ss k i (g (get_or ss k blank)) blank e) ∙ h

-- Scope k and its row changed, but no link and no list
module _ (S : List ScopeRow) (D : List DeclarationRow) (ss : List Scope) (chained : Chained S D ss) (k : ℕ) (within : k < length S) (f : ScopeRow → ScopeRow) (g : Scope → Scope)
    (link : (r : ScopeRow) → (f r).next ≡ r.next) (declares : (s : Scope) → (g s).declares ≡ s.declares) (merged : (s : Scope) → (g s).merged ≡ s.merged)
    (holds : (T : List ScopeRow) (r : ScopeRow) (s : Scope) → ScopeHeld T D r s → ScopeHeld T D (f r) (g s)) where
  changed_link : (n : ℕ) → next_merged (set S k (f (get_or S k no_scope))) n ≡ next_merged S n
  changed_link n = set_link S k (f (get_or S k no_scope)) n (link (get_or S k no_scope))

  changed_many : length ss ≡ length S
  changed_many = (told S D S ss chained.held).count

  changed_held : (i : ℕ) → i < length S → (i ≡ k) ⊎ (i ≡ k → ⊥) → ScopeHeld (set S k (f (get_or S k no_scope))) D (get_or (set S k (f (get_or S k no_scope))) i no_scope) (get_or (altered ss k g) i blank)
  changed_held i l (inl e) =
      held_for (set S k (f (get_or S k no_scope))) D (f (get_or S k no_scope)) _ (g (get_or ss k blank)) _
      (ap (λ j. get_or (set S k (f (get_or S k no_scope))) j no_scope) e ∙ get_or-set_same S k (f (get_or S k no_scope)) no_scope within)
      (ap (λ j. get_or (altered ss k g) j blank) e ∙ get_or-set_same ss k (g (get_or ss k blank)) blank (omega (arith, changed_many)))
      (holds (set S k (f (get_or S k no_scope))) (get_or S k no_scope) (get_or ss k blank)
      (held_moved S (set S k (f (get_or S k no_scope))) D D (get_or S k no_scope) (get_or ss k blank) (λ n m. refl) (λ n m. changed_link n) (held_at S D S ss chained.held k within)))
  changed_held i l (inr e) =
      held_for (set S k (f (get_or S k no_scope))) D (get_or S i no_scope) _ (get_or ss i blank) _
      (get_or-set_other S k i (f (get_or S k no_scope)) no_scope e)
      (get_or-set_other ss k i (g (get_or ss k blank)) blank e)
      (held_moved S (set S k (f (get_or S k no_scope))) D D (get_or S i no_scope) (get_or ss i blank) (λ n m. refl) (λ n m. changed_link n) (held_at S D S ss chained.held i l))

  pub chained_changed : Chained (set S k (f (get_or S k no_scope))) D (altered ss k g)
  chained_changed =
      let many : length (set S k (f (get_or S k no_scope))) ≡ length S = length-set S k (f (get_or S k no_scope)) in
      record {
        held = held_from (set S k (f (get_or S k no_scope))) D (set S k (f (get_or S k no_scope))) (altered ss k g) (length-set ss k (g (get_or ss k blank)) ∙ changed_many ∙ sym many) (λ i l. changed_held i (omega arith) (cases_eq i k));
        loose = λ n l out.
            chained.loose n l (in_none (λ s. s.declares) blank ss (altered ss k g) n
            (altered_member ss k g (λ s. s.declares) n (λ h. ap (λ ks. member n ks) (declares (get_or ss k blank)) ∙ h)) out);
        loose_merged = λ n l out.
            changed_link n ∙ chained.loose_merged n (omega arith) (in_none (λ s. s.merged) blank ss (altered ss k g) n
            (altered_member ss k g (λ s. s.merged) n (λ h. ap (λ ks. member n ks) (merged (get_or ss k blank)) ∙ h)) out);
      }
