-- What dependency rows stand for, by the identifiers and path entries that they name.
use Rattle.std.specs.Prelude.{List}
use Rattle.screen.specs.Rules.{Dep, dep_of, deps_of}
use Rattle.screen.specs.declared.rows.DependencyRow.{DependencyRow}
use Rattle.rules.specs.declared.read.Entries.{Entries}

-- the entry of a list that a row stands for
abbrev pub dep_in : Entries → DependencyRow → Dep
dep_in entries row = dep_of entries.identifiers.now entries.paths.now row

-- the list that rows stand for
abbrev pub deps_in : Entries → List DependencyRow → List Dep
deps_in entries rows = deps_of entries.identifiers.now entries.paths.now rows
