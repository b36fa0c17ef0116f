-- The Scopes that rows hold, from the lists that the walks pass, and back.
use Rattle.std.proofs.Common.{◌≡◌, ℕ, zero, suc, ◌≤◌, Bool, true, false, cond, ◌&&◌, eqb, List, [], ◌∷◌, ◌++◌, map, length, get_or, drop, sym, refl, ap, ◌∙◌, arith}
use Rattle.std.proofs.lemmas.Bool.Decides.{nat_tests}
use Rattle.std.proofs.lemmas.Bool.{and_parts}
use Rattle.screen.specs.Entries.{order}
use Rattle.screen.specs.Lists.{every, gathered}
use Rattle.screen.specs.State.{Scope}
use Rattle.screen.specs.Statuses.{status_of}
use Rattle.screen.specs.Refused.{statuses}
use Rattle.screen.specs.declared.scope.Status.TheVariants.{Unused}
use Rattle.sheet.specs.declared.rows.ScopeRow.{ScopeRow}
use Rattle.sheet.specs.declared.rows.DeclarationRow.{DeclarationRow}
use Rattle.sheet.specs.Chains.{no_scope, next_declaration, next_merged, Chain, ScopeHeld, ScopesHeld}
use Rattle.sheet.specs.Walks.{Chains, row_listed, begins}

-- The Scopes of rows, with a list of declarations and a merged list for each.

abbrev pub scope_of : ScopeRow → List ℕ → List ℕ → Scope
scope_of r ds ms = record { start = r.start; end = r.end; status = status_of r.status; reassigns = eqb r.reassigns 1; begin = r.begin; declares = ds; merged = ms }

abbrev pub scopes_of : List ScopeRow → List (List ℕ) → List (List ℕ) → List Scope
scopes_of [] dss mss = []
scopes_of (r ∷ rs) dss mss = scope_of r (get_or dss 0 []) (get_or mss 0 []) ∷ scopes_of rs (drop 1 dss) (drop 1 mss)

pub chains_end : (next : ℕ → ℕ) (first : ScopeRow → ℕ) (kss : List (List ℕ)) → Chains next first [] kss → kss ≡ []
chains_end next first [] c = refl
chains_end next first (ks ∷ kss) c = absurd c

pub chains_parts : (next : ℕ → ℕ) (first : ScopeRow → ℕ) (r : ScopeRow) (rs : List ScopeRow) (kss : List (List ℕ)) → Chains next first (r ∷ rs) kss
    → Chain next (first r) (get_or kss 0 []) × Chains next first rs (drop 1 kss) × (kss ≡ get_or kss 0 [] ∷ drop 1 kss)
chains_parts next first r rs [] c = absurd c
chains_parts next first r rs (ks ∷ kss) c = (c.0, c.1, refl)

pub declares_of : (next : ℕ → ℕ) (first : ScopeRow → ℕ) (rs : List ScopeRow) (dss mss : List (List ℕ)) → Chains next first rs dss → map (λ k. k.declares) (scopes_of rs dss mss) ≡ dss
declares_of next first [] dss mss c = sym (chains_end next first dss c)
declares_of next first (r ∷ rs) dss mss c =
    let p = chains_parts next first r rs dss c in
    ap (λ x. get_or dss 0 [] ∷ x) (declares_of next first rs (drop 1 dss) (drop 1 mss) p.1) ∙ sym p.2

pub merged_of_lem : (next : ℕ → ℕ) (first : ScopeRow → ℕ) (rs : List ScopeRow) (dss mss : List (List ℕ)) → Chains next first rs mss → map (λ k. k.merged) (scopes_of rs dss mss) ≡ mss
merged_of_lem next first [] dss mss c = sym (chains_end next first mss c)
merged_of_lem next first (r ∷ rs) dss mss c =
    let p = chains_parts next first r rs mss c in
    ap (λ x. get_or mss 0 [] ∷ x) (merged_of_lem next first rs (drop 1 dss) (drop 1 mss) p.1) ∙ sym p.2

pub gathered_map : (f : Scope → List ℕ) (ss : List Scope) → gathered f ss ≡ gathered (λ ks. ks) (map f ss)
gathered_map f [] = refl
gathered_map f (k ∷ ks) = ap (λ x. f k ++ x) (gathered_map f ks)

module _ (S : List ScopeRow) (D : List DeclarationRow) where
  pub scope_held : (r : ScopeRow) (ds ms : List ℕ) → row_listed r ≡ true → Chain (next_declaration D) r.first ds → Chain (next_merged S) r.merged ms → ScopeHeld S D r (scope_of r ds ms)
  scope_held r ds ms l d m =
      record {
        start_is = refl;
        end_is = refl;
        status_is = refl;
        status_small = grind (arith, nat_tests);
        reassigns_is = grind (arith, nat_tests);
        begin_is = refl;
        declares = d;
        merged = m;
      }

  pub held_of : (rs : List ScopeRow) (dss mss : List (List ℕ)) → every row_listed rs ≡ true → Chains (next_declaration D) (λ r. r.first) rs dss → Chains (next_merged S) (λ r. r.merged) rs mss → ScopesHeld S D rs (scopes_of rs dss mss)
  held_of [] dss mss l d m = tt
  held_of (r ∷ rs) dss mss l d m =
      let a = and_parts (row_listed r) (every row_listed rs) l in
      let p = chains_parts (next_declaration D) (λ r. r.first) r rs dss d in
      let q = chains_parts (next_merged S) (λ r. r.merged) r rs mss m in
      (scope_held r (get_or dss 0 []) (get_or mss 0 []) a.0 p.0 q.0, held_of rs (drop 1 dss) (drop 1 mss) a.1 p.1 q.1)

-- What rows say of the Scopes that they hold.

abbrev pub in_range : Scope → Bool
in_range k = order k.start && order k.end

pub record Told (S : List ScopeRow) (D : List DeclarationRow) (rs : List ScopeRow) (ss : List Scope) : Type 0 where
  pub count : length ss ≡ length rs
  pub begins_are : map (λ k. k.begin) ss ≡ begins rs
  pub listed_is : every row_listed rs ≡ every in_range ss
  pub status_at : (n : ℕ) → get_or (statuses ss) n Unused ≡ status_of (get_or rs n no_scope).status
  pub declares : Chains (next_declaration D) (λ r. r.first) rs (map (λ k. k.declares) ss)
  pub merges : Chains (next_merged S) (λ r. r.merged) rs (map (λ k. k.merged) ss)

pub row_in_range : (S : List ScopeRow) (D : List DeclarationRow) (r : ScopeRow) (k : Scope) → ScopeHeld S D r k → row_listed r ≡ in_range k
row_in_range S D r k h =
    let a : r.reassigns ≤ 1 = go k.reassigns h.reassigns_is in
    grind (arith, nat_tests)
  where
    go : (b : Bool) → r.reassigns ≡ cond b 1 0 → r.reassigns ≤ 1
    go true e = omega arith
    go false e = omega arith

pub told : (S : List ScopeRow) (D : List DeclarationRow) (rs : List ScopeRow) (ss : List Scope) → ScopesHeld S D rs ss → Told S D rs ss
told S D [] [] h = record { count = refl; begins_are = refl; listed_is = refl; status_at = λ n. refl; declares = tt; merges = tt }
told S D [] (k ∷ ks) h = absurd h
told S D (r ∷ rs) [] h = absurd h
told S D (r ∷ rs) (k ∷ ks) h =
    let t = told S D rs ks h.1 in
    let i = row_in_range S D r k h.0 in
    let l = t.listed_is in
    record {
      count = ap suc t.count;
      begins_are = cc (h.0.begin_is, t.begins_are);
      listed_is = cc (i, l);
      status_at = at h.0.status_is t.status_at;
      declares = (h.0.declares, t.declares);
      merges = (h.0.merged, t.merges);
    }
  where
    at : status_of r.status ≡ k.status → ((n : ℕ) → get_or (statuses ks) n Unused ≡ status_of (get_or rs n no_scope).status) → (n : ℕ) → get_or (statuses (k ∷ ks)) n Unused ≡ status_of (get_or (r ∷ rs) n no_scope).status
    at e f zero = sym e
    at e f (suc n) = f n
