-- What an examination of the Scope rows finds true holds exactly where the rows hold Scopes that keep every clause.
use Rattle.std.proofs.Common.{◌≡◌, ℕ, zero, suc, ◌≤◌, Bool, true, false, cond, eqb, ltb, List, map, length, get_or, replicate, sym, refl, ap, ◌∙◌, subst, arith}
use lib.ListN.{length-replicate}
use Rattle.std.proofs.lemmas.Bool.{eqb-true, ne_eqb}
use Rattle.screen.specs.Lists.{every, distinct, gathered}
use Rattle.screen.specs.State.{Scope}
use Rattle.screen.specs.Statuses.{status_of, is_joined}
use Rattle.screen.specs.WellFormed.{ScopesKept, spans_to}
use Rattle.screen.specs.declared.scope.Status.TheVariants.{Unused, Standing, Joined, Flattened}
use Rattle.sheet.specs.declared.rows.ScopeRow.{ScopeRow}
use Rattle.sheet.specs.declared.rows.DeclarationRow.{DeclarationRow}
use Rattle.sheet.specs.Chains.{no_scope, next_declaration, next_merged, Chained}
use Rattle.sheet.specs.Walks.{fresh, marked, Chains, WalkedAll, Loose, JoinedMarked, row_listed, begins}
use Rattle.sheet.proofs.Marking.{plain_fresh, Lists, fresh_lists}
use Rattle.sheet.proofs.Gathering.{scopes_of, held_of, declares_of, merged_of_lem, gathered_map, told}

-- marks for n rows, none of them set
pub record Unmarked (n : ℕ) (marks : List Bool) : Type 0 where
  pub room : n ≤ length marks
  pub none : (j : ℕ) → get_or marks j false ≡ false

pub unmarked_rows : (n c : ℕ) → n ≤ c → Unmarked n (replicate c false)
unmarked_rows n c h = record { room = omega (arith, length-replicate c false); none = none_of c }
  where
    none_of : (c j : ℕ) → get_or (replicate c false) j false ≡ false
    none_of zero j = refl
    none_of (suc c) zero = refl
    none_of (suc c) (suc j) = none_of c j

-- all that is examined, with the marks that the two rounds of walks begin and end with
pub record Examined (S : List ScopeRow) (D : List DeclarationRow) (dependencies : ℕ) (ds₀ ms₀ ds ms : List Bool) : Type 0 where
  pub listed : every row_listed S ≡ true
  pub rising : spans_to (begins S) dependencies ≡ true
  pub declares : WalkedAll (next_declaration D) (λ r. r.first) (length D) S ds₀ ds
  pub merges : WalkedAll (next_merged S) (λ r. r.merged) (length S) S ms₀ ms
  pub loose : Loose (next_declaration D) (length D) ds
  pub loose_merged : Loose (next_merged S) (length S) ms
  pub joined : JoinedMarked S ms

pub joined_is : (n : ℕ) → is_joined (status_of n) ≡ eqb n 2
joined_is n = go (eqb n 0) (eqb n 1) (eqb n 2) (λ e. ne_eqb n 2 (λ f. omega (arith, eqb-true n 0 e))) (λ e. ne_eqb n 2 (λ f. omega (arith, eqb-true n 1 e)))
  where
    go : (x y z : Bool) → (x ≡ true → z ≡ false) → (y ≡ true → z ≡ false) → is_joined (cond x Unused (cond y Standing (cond z Joined Flattened))) ≡ z
    go true y z p q = sym (p refl)
    go false true z p q = sym (q refl)
    go false false true p q = refl
    go false false false p q = refl

-- the numbers that a round of walks passed
pub walked_lists : (next : ℕ → ℕ) (first : ScopeRow → ℕ) (n : ℕ) (S : List ScopeRow) (marks left : List Bool) (f : Scope → List ℕ) (ss : List Scope) → Unmarked n marks → (w : WalkedAll next first n S marks left) → map f ss ≡ w.passed → Lists n left (gathered f ss)
walked_lists next first n S marks left f ss u w e =
    subst (λ (ks : List ℕ). Lists n left ks) (sym (gathered_map f ss ∙ ap (gathered (λ ks. ks)) e))
    (fresh_lists n marks left (gathered (λ ks. ks) w.passed) u.room u.none w.unmarked w.left_is)

-- a round of walks along lists that keep their clauses
pub lists_walked : (next : ℕ → ℕ) (first : ScopeRow → ℕ) (n : ℕ) (S : List ScopeRow) (marks : List Bool) (f : Scope → List ℕ) (ss : List Scope) → Unmarked n marks → Chains next first S (map f ss) → every (λ k. ltb k n) (gathered f ss) ≡ true → distinct (gathered f ss) ≡ true
    → WalkedAll next first n S marks (marked marks (gathered f ss))
lists_walked next first n S marks f ss u c b d =
    record {
      passed = map f ss;
      chains = c;
      unmarked = subst (λ (ks : List ℕ). fresh n marks ks ≡ true) (gathered_map f ss) (plain_fresh n marks (gathered f ss) (record { below = b; once = d; free = λ j _. u.none j }));
      left_is = ap (marked marks) (gathered_map f ss);
    }

module _ (S : List ScopeRow) (D : List DeclarationRow) (dependencies : ℕ) (ds₀ ms₀ : List Bool) (ud : Unmarked (length D) ds₀) (um : Unmarked (length S) ms₀) where
  pub examined_holds : (ds ms : List Bool) → Examined S D dependencies ds₀ ms₀ ds ms → (ss : List Scope) × Chained S D ss × ScopesKept ss dependencies (length D)
  examined_holds ds ms x =
      let dss = x.declares.passed in
      let mss = x.merges.passed in
      let ss = scopes_of S dss mss in
      let held = held_of S D S dss mss x.listed x.declares.chains x.merges.chains in
      let t = told S D S ss held in
      let d = walked_lists (next_declaration D) (λ r. r.first) (length D) S ds₀ ds (λ k. k.declares) ss ud x.declares (declares_of (next_declaration D) (λ r. r.first) S dss mss x.declares.chains) in
      let m = walked_lists (next_merged S) (λ r. r.merged) (length S) S ms₀ ms (λ k. k.merged) ss um x.merges (merged_of_lem (next_merged S) (λ r. r.merged) S dss mss x.merges.chains) in (
        ss,
        record {
          held = held;
          loose = λ n l e. x.loose n l (d.marks n ∙ e);
          loose_merged = λ n l e. x.loose_merged n l (m.marks n ∙ e);
        },
        record {
          ranges = sym t.listed_is ∙ x.listed;
          spans = ap (λ bs. spans_to bs dependencies) t.begins_are ∙ x.rising;
          declared = d.once;
          declarations_put = d.below;
          merged = m.once;
          merged_put = subst (λ (n : ℕ). every (λ k. ltb k n) (gathered (λ k. k.merged) ss) ≡ true) (sym t.count) m.below;
          joined = λ k l. sym (m.marks k) ∙ x.joined k (omega (arith, t.count)) ∙ sym (joined_is (get_or S k no_scope).status) ∙ ap is_joined (sym (t.status_at k));
        },
      )

  pub holds_examined : (ss : List Scope) → Chained S D ss → ScopesKept ss dependencies (length D)
      → Examined S D dependencies ds₀ ms₀ (marked ds₀ (gathered (λ k. k.declares) ss)) (marked ms₀ (gathered (λ k. k.merged) ss))
  unfolding lists_walked
  holds_examined ss c k =
      let t = told S D S ss c.held in
      let put = subst (λ (n : ℕ). every (λ k. ltb k n) (gathered (λ k. k.merged) ss) ≡ true) t.count k.merged_put in
      let wd = lists_walked (next_declaration D) (λ r. r.first) (length D) S ds₀ (λ k. k.declares) ss ud t.declares k.declarations_put k.declared in
      let wm = lists_walked (next_merged S) (λ r. r.merged) (length S) S ms₀ (λ k. k.merged) ss um t.merges put k.merged in
      let d = walked_lists (next_declaration D) (λ r. r.first) (length D) S ds₀ _ (λ k. k.declares) ss ud wd refl in
      let m = walked_lists (next_merged S) (λ r. r.merged) (length S) S ms₀ _ (λ k. k.merged) ss um wm refl in
      record {
        listed = t.listed_is ∙ k.ranges;
        rising = ap (λ bs. spans_to bs dependencies) (sym t.begins_are) ∙ k.spans;
        declares = wd;
        merges = wm;
        loose = λ n l e. c.loose n l (sym (d.marks n) ∙ e);
        loose_merged = λ n l e. c.loose_merged n l (sym (m.marks n) ∙ e);
        joined = λ n l. m.marks n ∙ k.joined n (omega (arith, t.count)) ∙ ap is_joined (t.status_at n) ∙ joined_is (get_or S n no_scope).status;
      }
