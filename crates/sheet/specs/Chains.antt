-- Lists in rows that are linked by number, and the Scope rows with theirs. None is 4294967295.
use Rattle.std.specs.Prelude.{◌≡◌, ℕ, ◌<◌, ◌≤◌, false, cond, List, [], ◌∷◌, length, slice_index_or}
use Rattle.screen.specs.Lists.{member, gathered}
use Rattle.screen.specs.State.{Scope}
use Rattle.screen.specs.Statuses.{status_of}
use Rattle.sheet.specs.declared.rows.ScopeRow.{ScopeRow}
use Rattle.sheet.specs.declared.rows.DeclarationRow.{DeclarationRow}

-- the rows of zeros, which stand for what is not there
abbrev pub no_scope : ScopeRow
no_scope = record { start = 0; end = 0; begin = 0; first = 0; merged = 0; next = 0; status = 0; reassigns = 0 }

abbrev pub no_declaration : DeclarationRow
no_declaration = record { key = 0; declared = 0; next = 0 }

-- the next row in a declaration's list, and in a merged list
abbrev pub next_declaration : List DeclarationRow → ℕ → ℕ
next_declaration rows n = (slice_index_or rows n no_declaration).next

abbrev pub next_merged : List ScopeRow → ℕ → ℕ
next_merged rows n = (slice_index_or rows n no_scope).next

-- the list that begins at row a and goes on by `next`
abbrev pub Chain : (ℕ → ℕ) → ℕ → List ℕ → Type 0
Chain next a [] = a ≡ 4294967295
Chain next a (k ∷ ks) = (a ≡ k) × Chain next (next k) ks

-- a Scope in its row
pub record ScopeHeld (scopes : List ScopeRow) (declarations : List DeclarationRow) (r : ScopeRow) (k : Scope) : Type 0 where
  pub start_is : r.start ≡ k.start
  pub end_is : r.end ≡ k.end
  pub status_is : status_of r.status ≡ k.status
  pub status_small : r.status ≤ 3
  pub reassigns_is : r.reassigns ≡ cond k.reassigns 1 0
  pub begin_is : r.begin ≡ k.begin
  pub declares : Chain (next_declaration declarations) r.first k.declares
  pub merged : Chain (next_merged scopes) r.merged k.merged

-- the Scopes in their rows, one by one
abbrev pub ScopesHeld : List ScopeRow → List DeclarationRow → List ScopeRow → List Scope → Type 0
ScopesHeld scopes declarations [] [] = Unit {0}
ScopesHeld scopes declarations [] (k ∷ ks) = ⊥
ScopesHeld scopes declarations (r ∷ rs) [] = ⊥
ScopesHeld scopes declarations (r ∷ rs) (k ∷ ks) = ScopeHeld scopes declarations r k × ScopesHeld scopes declarations rs ks

-- the rows of Scopes and declarations hold these Scopes; a row that is in no list has no next
pub record Chained (scopes : List ScopeRow) (declarations : List DeclarationRow) (ss : List Scope) : Type 0 where
  pub held : ScopesHeld scopes declarations scopes ss
  pub loose : (n : ℕ) → n < length declarations → member n (gathered (λ k. k.declares) ss) ≡ false → next_declaration declarations n ≡ 4294967295
  pub loose_merged : (n : ℕ) → n < length scopes → member n (gathered (λ k. k.merged) ss) ≡ false → next_merged scopes n ≡ 4294967295
