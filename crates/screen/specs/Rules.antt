-- What an invalidation rule means, apart from any code: two questions about what a sheet holds, and one law.
use Rattle.std.specs.Prelude.{◌≡◌, ℕ, Bool, true, List, map, take, drop, slice_index_or}
use Rattle.screen.specs.declared.rows.IdentifierRow.{IdentifierRow}
use Rattle.screen.specs.declared.rows.PathRow.{PathRow}
use Rattle.screen.specs.declared.rows.DependencyRow.{DependencyRow}

-- an entry of a dependency list: a declaration, and a path from it
pub record Dep : Type 0 where
  pub declaration : ℕ
  pub path : List PathRow

-- what a rule answers of two lists and of a type's kind and shape; each list is the same as itself
pub record Meaning : Type 0 where
  pub same : List Dep → List Dep → Bool
  pub lasting : ℕ → ℕ → Bool
  pub reflexive : (l : List Dep) → same l l ≡ true

-- a row of zeros, which stands for an identifier that is not put
abbrev pub no_identifier : IdentifierRow
no_identifier = record { declaration = 0; typ = 0 }

-- the declaration of identifier k
abbrev pub declaration_of : List IdentifierRow → ℕ → ℕ
declaration_of is k = (slice_index_or is k no_identifier).declaration

-- the path entries from `first` on, `count` of them or as many as are put
abbrev pub path_at : List PathRow → ℕ → ℕ → List PathRow
path_at ps first count = take count (drop first ps)

-- the entry that a dependency row stands for
abbrev pub dep_of : List IdentifierRow → List PathRow → DependencyRow → Dep
dep_of is ps d = record { declaration = declaration_of is d.identifier; path = path_at ps d.first d.length }

-- the list that dependency rows stand for
abbrev pub deps_of : List IdentifierRow → List PathRow → List DependencyRow → List Dep
deps_of is ps ds = map (dep_of is ps) ds
