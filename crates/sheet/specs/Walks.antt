-- Walks along linked rows, which mark each row that they pass, so that no row is passed twice.
use Rattle.std.specs.Prelude.{◌≡◌, ℕ, ◌<◌, Bool, true, false, not, ◌&&◌, List, [], ◌∷◌, map, length, get_or, ◌==◌, nat_le, nat_lt, slice_index_or, slice_set}
use Rattle.screen.specs.Entries.{order}
use Rattle.screen.specs.Lists.{gathered}
use Rattle.sheet.specs.Chains.{Chain, no_scope}
use Rattle.sheet.specs.declared.rows.ScopeRow.{ScopeRow}

-- the number that row k has as its link
abbrev pub link_at : {R : Type 0} → (R → ℕ) → R → List R → ℕ → ℕ
link_at link blank rows k = link (slice_index_or rows k blank)

-- the numbers are below n, unmarked, and none stands twice
abbrev pub fresh : ℕ → List Bool → List ℕ → Bool
fresh n marks [] = true
fresh n marks (k ∷ ks) = nat_lt k n && (not (slice_index_or marks k false) && fresh n (slice_set marks k true) ks)

-- the marks with those of the numbers
abbrev pub marked : List Bool → List ℕ → List Bool
marked marks [] = marks
marked marks (k ∷ ks) = marked (slice_set marks k true) ks

-- the list from a goes through unmarked rows below n, and with them marked the marks are `left`
pub record Walked (next : ℕ → ℕ) (n a : ℕ) (marks left : List Bool) : Type 0 where
  pub passed : List ℕ
  pub chain : Chain next a passed
  pub unmarked : fresh n marks passed ≡ true
  pub left_is : left ≡ marked marks passed

-- each Scope row's list, one by one
abbrev pub Chains : (ℕ → ℕ) → (ScopeRow → ℕ) → List ScopeRow → List (List ℕ) → Type 0
Chains next first [] [] = Unit {0}
Chains next first [] (ks ∷ kss) = ⊥
Chains next first (r ∷ rs) [] = ⊥
Chains next first (r ∷ rs) (ks ∷ kss) = Chain next (first r) ks × Chains next first rs kss

-- the same of the lists of all Scope rows, one after the other
pub record WalkedAll (next : ℕ → ℕ) (first : ScopeRow → ℕ) (n : ℕ) (rows : List ScopeRow) (marks left : List Bool) : Type 0 where
  pub passed : List (List ℕ)
  pub chains : Chains next first rows passed
  pub unmarked : fresh n marks (gathered (λ ks. ks) passed) ≡ true
  pub left_is : left ≡ marked marks (gathered (λ ks. ks) passed)

-- a row that is not marked has no next
abbrev pub Loose : (ℕ → ℕ) → ℕ → List Bool → Type 0
Loose next n marks = (k : ℕ) → k < n → slice_index_or marks k false ≡ false → next k ≡ 4294967295

-- a Scope is marked exactly when it is joined
abbrev pub JoinedMarked : List ScopeRow → List Bool → Type 0
JoinedMarked rows marks = (k : ℕ) → k < length rows → slice_index_or marks k false ≡ ((get_or rows k no_scope).status == 2)

-- a Scope row's plain fields keep their list
abbrev pub row_listed : ScopeRow → Bool
row_listed r = nat_le r.status 3 && (nat_le r.reassigns 1 && (order r.start && order r.end))

-- where the Scopes' dependencies begin
abbrev pub begins : List ScopeRow → List ℕ
begins rows = map (λ r. r.begin) rows
