-- The tables hold a sheet. They are sound when they hold one.
use Rattle.std.specs.Prelude.{◌≡◌, true, List, [], ◌∷◌, map}
use Rattle.screen.specs.Lists.{every}
use Rattle.screen.specs.State.{State, Rows, Declaration}
use Rattle.screen.specs.Refused.{statuses}
use Rattle.screen.specs.WellFormed.{WellFormed, is_listed}
use Rattle.screen.specs.Entries.{entry_of}
use Rattle.sheet.specs.declared.rows.NodeRow.{NodeRow}
use Rattle.sheet.specs.declared.rows.DeclarationRow.{DeclarationRow}
use Rattle.sheet.specs.Tables.{Memory, items, CountWithin}
use Rattle.sheet.specs.Links.{no_record}
use Rattle.sheet.specs.Planted.{nodes_of, Planted}
use Rattle.sheet.specs.Chains.{Chained}

-- a declaration without its link
abbrev pub declaration_of : DeclarationRow → Declaration
declaration_of d = record { key = d.key; declared = d.declared }

-- the rows that the tables hold
abbrev pub rows_of : Memory → Rows
rows_of m =
    record {
      types = items m.types;
      identifiers = items m.identifiers;
      paths = items m.paths;
      dependencies = items m.dependencies;
      declarations = map declaration_of (items m.declarations);
      reads = items m.reads;
      values = items m.values;
      shapes = items m.shapes;
      nodes = nodes_of (items m.nodes);
    }

-- no count passes its table
pub record Within (m : Memory) : Type 0 where
  pub types : CountWithin m.types
  pub identifiers : CountWithin m.identifiers
  pub paths : CountWithin m.paths
  pub scopes : CountWithin m.scopes
  pub dependencies : CountWithin m.dependencies
  pub declarations : CountWithin m.declarations
  pub reads : CountWithin m.reads
  pub values : CountWithin m.values
  pub shapes : CountWithin m.shapes
  pub nodes : CountWithin m.nodes

-- node 0's record is all zeros, and every other one's made a node
abbrev pub RecordsListed : List NodeRow → Type 0
RecordsListed [] = ⊥
RecordsListed (r ∷ rs) = (r.made ≡ no_record) × (every (λ n. is_listed (entry_of n.made)) rs ≡ true)

-- the tables hold the sheet σ
pub record Holds (m : Memory) (σ : State) : Type 0 where
  pub counts : Within m
  pub rows : rows_of m ≡ σ.rows
  pub chained : Chained (items m.scopes) (items m.declarations) σ.scopes
  pub records : RecordsListed (items m.nodes)
  pub planted : Planted (items m.nodes) (statuses σ.scopes) m.innermost σ.tree σ.opened
  pub formed : WellFormed σ

-- the tables are sound
abbrev pub Sound : Memory → Type 0
Sound m = (σ : State) × Holds m σ
