-- What a Merge asks of the sheet that it found: none of it changes while it works.
use Rattle.std.specs.Prelude.{ℕ, ◌+◌, ◌-◌, Bool, false, List, [], map, length, get_or, take, drop, Option, slice_index_or}
use Rattle.screen.specs.Rules.{Dep, Meaning, deps_of, declaration_of, no_identifier, path_at}
use Rattle.screen.specs.Meanings.{own_meaning}
use Rattle.screen.specs.LastUse.{last_use}
use Rattle.screen.specs.Named.{no_value}
use Rattle.screen.specs.Values.{value_of}
use Rattle.screen.specs.State.{State, Rows, Scope, Declaration}
use Rattle.screen.specs.declared.rows.TypeRow.{TypeRow}
use Rattle.screen.specs.declared.rows.ReadRow.{ReadRow}
use Rattle.screen.specs.declared.rows.DependencyRow.{DependencyRow}
use Rattle.screen.specs.declared.scope.Status.TheVariants.{Unused}
use Rattle.screen.specs.declared.value.Reads.{Reads}
use Rattle.screen.specs.declared.value.Value.{Value}
use Rattle.screen.specs.declared.value.Value.TheVariants as value

-- a dependency: its entry, and whether its type is lasting
pub record Need : Type 0 where
  pub entry : Dep
  pub lasts : Bool

-- a declaration's row: its key, what it declares, and whether that is of lasting type
pub record Declared : Type 0 where
  pub key : ℕ
  pub declaration : ℕ
  pub lasts : Bool

-- what an instruction is to a run
pub data Action : Type 0 where
  -- one that only gives its target a value
  Simple : Action
  -- a LoadLocal, of a declaration
  Load : ℕ → Action
  -- a StoreLocal of kind Const: the declaration read, and the one stored to
  StoreConst : ℕ → ℕ → Action
  -- another StoreLocal, to a declaration
  Store : ℕ → Action
  -- any other
  Other : Action

-- all that a Merge asks
pub record Found : Type 0 where
  pub rule : Meaning
  -- the entries of a Scope's dependency list, and its dependencies with their types
  pub entries : ℕ → List Dep
  pub needs : ℕ → List Need
  pub reassigns : ℕ → Bool
  -- what a declaration's row says
  pub declared : ℕ → Declared
  -- the declaration of an identifier
  pub declaration : ℕ → ℕ
  -- what a value is to a run
  pub action : ℕ → Action
  -- the last use of a declaration
  pub last_use : ℕ → Option ℕ

-- rows of zeros, which stand for what is not put
abbrev pub no_scope : Scope
no_scope = record { start = 0; end = 0; status = Unused; reassigns = false; begin = 0; declares = []; merged = [] }

-- no type
abbrev pub no_type : TypeRow
no_type = record { shape = 0; kind = 0 }

-- no read
abbrev pub no_read : ReadRow
no_read = record { identifier = 0 }

-- no declaration
abbrev pub no_declaration : Declaration
no_declaration = record { key = 0; declared = 0 }

-- a Scope by its number
abbrev pub scope_at : State → ℕ → Scope
scope_at σ k = slice_index_or σ.scopes k no_scope

-- where Scope k's dependencies end: where the next one's begin, or at the last
abbrev pub ends_at : List Scope → ℕ → ℕ → ℕ
ends_at ss total k = slice_index_or (map (λ s. s.begin) ss) (k + 1) total

-- the dependency rows of Scope k
abbrev pub dependencies_of : State → ℕ → List DependencyRow
dependencies_of σ k =
    let first = (scope_at σ k).begin in
    take (ends_at σ.scopes (length σ.rows.dependencies) k - first) (drop first σ.rows.dependencies)

-- the entries of Scope k's dependency list
abbrev pub entries_of : State → ℕ → List Dep
entries_of σ k = deps_of σ.rows.identifiers σ.rows.paths (dependencies_of σ k)

-- an identifier's type is lasting
abbrev pub lasts_at : Meaning → Rows → ℕ → Bool
lasts_at m w i =
    let t = get_or w.types (get_or w.identifiers i no_identifier).typ no_type in
    m.lasting t.kind t.shape

-- what a dependency's row stands for
abbrev pub need_of : Meaning → Rows → DependencyRow → Need
need_of m w d =
    record {
      entry = record { declaration = declaration_of w.identifiers d.identifier; path = path_at w.paths d.first d.length };
      lasts = lasts_at m w d.identifier;
    }

-- what declaration row n says
abbrev pub declared_at : Meaning → Rows → ℕ → Declared
declared_at m w n =
    let d = get_or w.declarations n no_declaration in
    record { key = d.key; declaration = declaration_of w.identifiers d.declared; lasts = lasts_at m w d.declared }

-- the declaration of an instruction's first read
abbrev pub read_of : Rows → Reads → ℕ
read_of w r = declaration_of w.identifiers (get_or w.reads r.first no_read).identifier

-- what a value is to a run
abbrev pub action_by : Rows → Value → Action
action_by w (value.Other r) = Other
action_by w (value.Simple r) = Simple
action_by w (value.LoadLocal r) = Load (read_of w r)
action_by w (value.StoreConst r s) = StoreConst (read_of w r) (declaration_of w.identifiers s)
action_by w (value.StoreLocal r s) = Store (declaration_of w.identifiers s)
action_by w (value.Logical a b) = Other
action_by w (value.Conditional a b c) = Other
action_by w (value.Sequence o v f) = Other
action_by w (value.Optional v) = Other
action_by w (value.Inner o v n) = Other

-- what a Merge by this rule finds on a sheet
abbrev pub found_by : Meaning → State → Found
found_by m σ =
    record {
      rule = m;
      entries = entries_of σ;
      needs = λ k. map (need_of m σ.rows) (dependencies_of σ k);
      reassigns = λ k. (scope_at σ k).reassigns;
      declared = declared_at m σ.rows;
      declaration = declaration_of σ.rows.identifiers;
      action = λ v. action_by σ.rows (value_of (slice_index_or σ.rows.values v no_value));
      last_use = last_use σ;
    }

-- the same through the own-shapes layer, with the shapes put so far
abbrev pub found_of : Meaning → State → Found
found_of m σ = found_by (own_meaning (map (λ s. s.shape) σ.rows.shapes) m) σ
