-- What a call keeps of the memory.
use Rattle.std.specs.Prelude.{◌≡◌, ◌≤◌, length, drop}
use Rattle.sheet.specs.Tables.{Stored, Memory, WorkMemory}
use Rattle.sheet.specs.Holds.{Sound}

-- each table is as long as its limit
pub record Long (m : Memory) : Type 0 where
  pub types : 256 ≤ length m.types.rows
  pub identifiers : 1024 ≤ length m.identifiers.rows
  pub paths : 1024 ≤ length m.paths.rows
  pub scopes : 256 ≤ length m.scopes.rows
  pub dependencies : 1024 ≤ length m.dependencies.rows
  pub declarations : 1024 ≤ length m.declarations.rows
  pub reads : 1024 ≤ length m.reads.rows
  pub values : 1024 ≤ length m.values.rows
  pub shapes : 16 ≤ length m.shapes.rows
  pub nodes : 1024 ≤ length m.nodes.rows

-- a table's rows past those that are put now are as they were, and it is as long as it was
pub record Rest {T : Type 0} (old new : Stored T) : Type 0 where
  pub rows : drop new.count new.rows ≡ drop new.count old.rows
  pub length_is : length new.rows ≡ length old.rows

-- the same of every table
pub record RestKept (old new : Memory) : Type 0 where
  pub types : Rest old.types new.types
  pub identifiers : Rest old.identifiers new.identifiers
  pub paths : Rest old.paths new.paths
  pub scopes : Rest old.scopes new.scopes
  pub dependencies : Rest old.dependencies new.dependencies
  pub declarations : Rest old.declarations new.declarations
  pub reads : Rest old.reads new.reads
  pub values : Rest old.values new.values
  pub shapes : Rest old.shapes new.shapes
  pub nodes : Rest old.nodes new.nodes

-- each work table is as long as its limit
pub record WorkLong (w : WorkMemory) : Type 0 where
  pub lines : 1024 ≤ length w.lines
  pub uses : 1024 ≤ length w.uses
  pub sources : 1024 ≤ length w.sources
  pub targets : 1024 ≤ length w.targets
  pub scratch : 1024 ≤ length w.scratch

-- every table is as long as its limit
pub record AllLong (m : Memory) (w : WorkMemory) : Type 0 where
  pub sheet : Long m
  pub work : WorkLong w

-- tables that hold a sheet and are long enough, so that a record can be taken with no examination
pub record Ready (m : Memory) (w : WorkMemory) : Type 0 where
  pub sound : Sound m
  pub long : AllLong m w
