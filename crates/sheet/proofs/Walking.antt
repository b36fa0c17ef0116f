-- A walk that marks what it passes: its steps, forth and back, and why it ends.
use Rattle.std.proofs.Common.{◌≡◌, ℕ, zero, suc, ◌+◌, ◌<◌, ◌≤◌, Bool, true, false, not, ◌&&◌, ltb, ◌≢◌, List, [], ◌∷◌, ◌++◌, length, get_or, set, sym, refl, ap, ◌∙◌, subst, arith}
use Rattle.std.proofs.lemmas.Bool.{ltb-true, lt-ltb, not-true, not_from_false, and_parts, and_from}
use Rattle.sheet.specs.Chains.{Chain}
use Rattle.screen.specs.Lists.{gathered}
use Rattle.sheet.specs.declared.rows.ScopeRow.{ScopeRow}
use Rattle.sheet.proofs.Fresh.{fresh_append, marked_append}
use Rattle.sheet.specs.Walks.{fresh, marked, Walked, Chains, WalkedAll}

-- how many rows are unmarked
abbrev pub unmarked : List Bool → ℕ
unmarked [] = 0
unmarked (true ∷ ms) = unmarked ms
unmarked (false ∷ ms) = 1 + unmarked ms

pub unmarked_falls : (ms : List Bool) (k : ℕ) → k < length ms → get_or ms k false ≡ false → unmarked (set ms k true) < unmarked ms
unmarked_falls [] k h e = absurd (omega arith)
unmarked_falls (true ∷ ms) zero h e = absurd (let z : ◌≡◌ {A = ℕ} 0 1 = cc in omega arith)
unmarked_falls (true ∷ ms) (suc k) h e = unmarked_falls ms k (omega arith) e
unmarked_falls (false ∷ ms) zero h e = omega arith
unmarked_falls (false ∷ ms) (suc k) h e = omega (arith, unmarked_falls ms k (omega arith) e)

-- one number more is fresh
pub fresh_cons : (n : ℕ) (marks : List Bool) (k : ℕ) (ks : List ℕ) → k < n → get_or marks k false ≡ false → fresh n (set marks k true) ks ≡ true → fresh n marks (k ∷ ks) ≡ true
fresh_cons n marks k ks h e f = and_from (ltb k n) _ (lt-ltb k n h) (and_from (not (get_or marks k false)) _ (not_from_false (get_or marks k false) e) f)

pub fresh_parts : (n : ℕ) (marks : List Bool) (k : ℕ) (ks : List ℕ) → fresh n marks (k ∷ ks) ≡ true → (k < n) × (get_or marks k false ≡ false) × (fresh n (set marks k true) ks ≡ true)
fresh_parts n marks k ks f =
    let p = and_parts (ltb k n) (not (get_or marks k false) && fresh n (set marks k true) ks) f in
    let q = and_parts (not (get_or marks k false)) (fresh n (set marks k true) ks) p.1 in
    (ltb-true k n p.0, not-true (get_or marks k false) q.0, q.1)

-- a walk, and what is left of it after some steps, leave the same marks
pub record Resumes (next : ℕ → ℕ) (n a : ℕ) (marks : List Bool) (b : ℕ) (marks' : List Bool) : Type 0 where
  pub whole : (left : List Bool) → Walked next n b marks' left → Walked next n a marks left
  pub rest : (left : List Bool) → Walked next n a marks left → Walked next n b marks' left

pub walked_on : (next : ℕ → ℕ) (n a b : ℕ) (marks left : List Bool) → a < n → get_or marks a false ≡ false → b ≡ next a → Walked next n b (set marks a true) left → Walked next n a marks left
walked_on next n a b marks left h e l w =
    record { passed = a ∷ w.passed; chain = (refl, subst (λ (x : ℕ). Chain next x w.passed) l w.chain); unmarked = fresh_cons n marks a w.passed h e w.unmarked; left_is = w.left_is }

-- at none nothing is left to walk
pub walked_end : (next : ℕ → ℕ) (n a : ℕ) (marks left : List Bool) → n ≤ 1024 → a ≡ 4294967295 → Walked next n a marks left → left ≡ marks
walked_end next n a marks left s e w = go w.passed w.chain w.unmarked w.left_is
  where
    go : (ks : List ℕ) → Chain next a ks → fresh n marks ks ≡ true → left ≡ marked marks ks → left ≡ marks
    go [] c f l = l
    go (k ∷ ks) c f l = absurd (omega (arith, (fresh_parts n marks k ks f).0, c.0))

-- elsewhere the row is there, is unmarked, and the rest is to be walked
pub walked_back : (next : ℕ → ℕ) (n a : ℕ) (marks left : List Bool) → a ≢ 4294967295 → Walked next n a marks left → (a < n) × (get_or marks a false ≡ false) × Walked next n (next a) (set marks a true) left
walked_back next n a marks left ne w = go w.passed w.chain w.unmarked w.left_is
  where
    go : (ks : List ℕ) → Chain next a ks → fresh n marks ks ≡ true → left ≡ marked marks ks → (a < n) × (get_or marks a false ≡ false) × Walked next n (next a) (set marks a true) left
    go [] c f l = absurd (ne c)
    go (k ∷ ks) c f l =
        let p = fresh_parts n marks k ks f in
        subst (λ (x : ℕ). (x < n) × (get_or marks x false ≡ false) × Walked next n (next x) (set marks x true) left) (sym c.0)
        (p.0, p.1, record { passed = ks; chain = c.1; unmarked = p.2; left_is = l })

-- The lists of several rows, one walked after the other.

fresh_split : (n : ℕ) (marks : List Bool) (xs ys : List ℕ) → fresh n marks (xs ++ ys) ≡ true → (fresh n marks xs ≡ true) × (fresh n (marked marks xs) ys ≡ true)
fresh_split n marks xs ys p = and_parts (fresh n marks xs) (fresh n (marked marks xs) ys) (sym (fresh_append n marks xs ys) ∙ p)

-- the walks of the lists of these rows, and of those that are left after some, leave the same marks
pub record ResumesAll (next : ℕ → ℕ) (first : ScopeRow → ℕ) (n : ℕ) (rs : List ScopeRow) (marks : List Bool) (rs' : List ScopeRow) (marks' : List Bool) : Type 0 where
  pub whole : (left : List Bool) → WalkedAll next first n rs' marks' left → WalkedAll next first n rs marks left
  pub rest : (left : List Bool) → WalkedAll next first n rs marks left → WalkedAll next first n rs' marks' left

module _ (next : ℕ → ℕ) (first : ScopeRow → ℕ) (n : ℕ) where
  pub all_end : (rs : List ScopeRow) (marks left : List Bool) → rs ≡ [] → WalkedAll next first n rs marks left → left ≡ marks
  all_end rs marks left e w = go w.passed (subst (λ (x : List ScopeRow). Chains next first x w.passed) e w.chains) w.left_is
    where
      go : (kss : List (List ℕ)) → Chains next first [] kss → left ≡ marked marks (gathered (λ ks. ks) kss) → left ≡ marks
      go [] c l = l
      go (ks ∷ kss) c l = absurd c

  pub all_on : (rs : List ScopeRow) (r : ScopeRow) (rs' : List ScopeRow) (a : ℕ) (marks mid left : List Bool) → rs ≡ r ∷ rs' → a ≡ first r → Walked next n a marks mid → WalkedAll next first n rs' mid left → WalkedAll next first n rs marks left
  all_on rs r rs' a marks mid left e i w v =
      let ks = gathered (λ ks. ks) v.passed in
      record {
        passed = w.passed ∷ v.passed;
        chains = subst (λ (x : List ScopeRow). Chains next first x (w.passed ∷ v.passed)) (sym e) (subst (λ (x : ℕ). Chain next x w.passed) i w.chain, v.chains);
        unmarked = fresh_append n marks w.passed ks ∙ and_from (fresh n marks w.passed) (fresh n (marked marks w.passed) ks) w.unmarked (subst (λ (m : List Bool). fresh n m ks ≡ true) w.left_is v.unmarked);
        left_is = v.left_is ∙ ap (λ m. marked m ks) w.left_is ∙ sym (marked_append marks w.passed ks);
      }

  pub all_back : (rs : List ScopeRow) (r : ScopeRow) (rs' : List ScopeRow) (a : ℕ) (marks left : List Bool) → rs ≡ r ∷ rs' → a ≡ first r → WalkedAll next first n rs marks left → (mid : List Bool) × Walked next n a marks mid × WalkedAll next first n rs' mid left
  all_back rs r rs' a marks left e i w = go w.passed (subst (λ (x : List ScopeRow). Chains next first x w.passed) e w.chains) w.unmarked w.left_is
    where
      go : (kss : List (List ℕ)) → Chains next first (r ∷ rs') kss → fresh n marks (gathered (λ ks. ks) kss) ≡ true → left ≡ marked marks (gathered (λ ks. ks) kss)
          → (mid : List Bool) × Walked next n a marks mid × WalkedAll next first n rs' mid left
      go [] c f l = absurd c
      go (ks ∷ kss) c f l =
          let p = fresh_split n marks ks (gathered (λ ks. ks) kss) f in (
            marked marks ks,
            record { passed = ks; chain = subst (λ (x : ℕ). Chain next x ks) (sym i) c.0; unmarked = p.0; left_is = refl },
            record { passed = kss; chains = c.1; unmarked = p.1; left_is = l ∙ marked_append marks ks (gathered (λ ks. ks) kss) },
          )
