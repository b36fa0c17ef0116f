-- The rows stay kept with one row more.
use Rattle.std.proofs.Common.{◌≡◌, ℕ, Bool, true, false, ◌||◌, ltb, leb, List, [], ◌∷◌, ◌++◌, length, sym, refl, ap, ◌∙◌, arith}
use Rattle.std.proofs.lemmas.List.{append-nil, length_push}
use Rattle.std.proofs.lemmas.Bool.{and_from, leb-false, le-leb}
use Rattle.screen.specs.Values.{value_of}
use Rattle.screen.specs.Entries.{entry_of, blank, value_listed}
use Rattle.screen.specs.declared.kinds.TypeKind.{TypeKind}
use Rattle.screen.specs.declared.kinds.PathKind.{PathKind}
use Rattle.screen.specs.Records.{type_row, path_row, type_record, identifier_record, path_record, dependency_record, declaration_record, read_record, value_record, shape_record}
use Rattle.screen.specs.Lists.{is_put}
use Rattle.screen.specs.State.{Rows, Declaration}
use Rattle.screen.specs.Named.{value_named, node_named, named}
use Rattle.screen.specs.Users.{names_of, names_in, namings, taken}
use Rattle.screen.specs.Levels.{level_after, levels_of}
use Rattle.screen.specs.Refused.{full}
use Rattle.screen.specs.Step.{also, with_types, with_identifiers, with_paths, with_dependencies, with_declarations, with_reads, with_values, with_shapes, with_nodes}
use Rattle.screen.specs.WellFormed.{is_listed, node_listed, RowsKept}
use Rattle.screen.specs.declared.node.Node.{Node}
use Rattle.screen.specs.declared.scope.Status.{Status}
use Rattle.screen.specs.declared.scope.Status.TheVariants.{Unused}
use Rattle.screen.specs.declared.rows.TypeRow.{TypeRow}
use Rattle.screen.specs.declared.rows.IdentifierRow.{IdentifierRow}
use Rattle.screen.specs.declared.rows.PathRow.{PathRow}
use Rattle.screen.specs.declared.rows.DependencyRow.{DependencyRow}
use Rattle.screen.specs.declared.rows.ReadRow.{ReadRow}
use Rattle.screen.specs.declared.rows.ValueRow.{ValueRow}
use Rattle.screen.specs.declared.rows.ShapeRow.{ShapeRow}
use Rattle.screen.specs.declared.entry.Entry.TheVariants as entry
use Rattle.screen.specs.declared.entry.Put.TheVariants as put
use Rattle.screen.specs.declared.entry.Part.TheVariants as part
use Rattle.screen.proofs.Levelling.{levels_low}
use Rattle.screen.proofs.Distinct.{namings_value, namings_node}
use Rattle.screen.proofs.Entered.{type_entered, identifier_entered, path_entered, dependency_entered, declaration_entered, read_entered, value_entered, shape_entered}
use Rattle.screen.proofs.Staying.{Longer, Stay, rows_stay, every_more, named_stays, values_more, nodes_more}

-- a table that was not full is within its limit still
room : {A : Type 0} (limit : ℕ) (xs : List A) (x : A) → full limit xs ≡ false → leb (length (xs ++ x ∷ [])) limit ≡ leb (length xs) limit
room limit xs x h =
    let l = leb-false limit (length xs) h in
    le-leb (length (xs ++ x ∷ [])) limit (omega (arith, length_push xs x)) ∙ sym (le-leb (length xs) limit (omega arith))

module _ (w : Rows) (ss : List Status) (h : RowsKept w ss) where
  pub type_put : (k : TypeKind) (s : ℕ) → full 256 w.types ≡ false → RowsKept (with_types w (also w.types (type_row k s))) ss
  type_put k n space =
      let t : TypeRow = type_row k n in
      let w' : Rows = with_types w (also w.types t) in
      let l : Longer w ss w' ss = record { types = omega (arith, length_push w.types t); identifiers = omega arith; paths = omega arith; reads = omega arith; statuses = omega arith; more = []; values = append-nil w.values } in
      let s : Stay w w' ss = rows_stay w ss w' ss l h in
      record {
        fitting = rw (room 256 w.types t space) h.fitting;
        types = every_more w ss w' ss l type_record w.types t (entry.Put (put.Type k n)) h.types (type_entered k n) refl;
        identifiers = s.identifiers;
        paths = s.paths;
        dependencies = s.dependencies;
        declarations = s.declarations;
        reads = s.reads;
        values = s.values;
        levels = h.levels;
        shapes = s.shapes;
        nodes = s.nodes;
        users = h.users;
      }

  pub identifier_put : (i : IdentifierRow) → full 1024 w.identifiers ≡ false → leb i.declaration 1023 ≡ true → is_put w.types i.typ ≡ true → RowsKept (with_identifiers w (also w.identifiers i)) ss
  identifier_put i space ok n =
      let w' : Rows = with_identifiers w (also w.identifiers i) in
      let l : Longer w ss w' ss = record { types = omega arith; identifiers = omega (arith, length_push w.identifiers i); paths = omega arith; reads = omega arith; statuses = omega arith; more = []; values = append-nil w.values } in
      let s : Stay w w' ss = rows_stay w ss w' ss l h in
      record {
        fitting = rw (room 1024 w.identifiers i space) h.fitting;
        types = s.types;
        identifiers = every_more w ss w' ss l identifier_record w.identifiers i (entry.Put (put.Identifier i)) h.identifiers (identifier_entered i ok) n;
        paths = s.paths;
        dependencies = s.dependencies;
        declarations = s.declarations;
        reads = s.reads;
        values = s.values;
        levels = h.levels;
        shapes = s.shapes;
        nodes = s.nodes;
        users = h.users;
      }

  pub path_put : (low high : ℕ) (k : PathKind) (o : Bool) → full 1024 w.paths ≡ false → RowsKept (with_paths w (also w.paths (path_row low high k o))) ss
  path_put low high k o space =
      let p : PathRow = path_row low high k o in
      let w' : Rows = with_paths w (also w.paths p) in
      let l : Longer w ss w' ss = record { types = omega arith; identifiers = omega arith; paths = omega (arith, length_push w.paths p); reads = omega arith; statuses = omega arith; more = []; values = append-nil w.values } in
      let s : Stay w w' ss = rows_stay w ss w' ss l h in
      record {
        fitting = rw (room 1024 w.paths p space) h.fitting;
        types = s.types;
        identifiers = s.identifiers;
        paths = every_more w ss w' ss l path_record w.paths p (entry.Put (put.Path low high k o)) h.paths (path_entered low high k o) refl;
        dependencies = s.dependencies;
        declarations = s.declarations;
        reads = s.reads;
        values = s.values;
        levels = h.levels;
        shapes = s.shapes;
        nodes = s.nodes;
        users = h.users;
      }

  pub dependency_put : (d : DependencyRow) → full 1024 w.dependencies ≡ false → (ltb 0 d.length || blank d.first) ≡ true → named w ss (entry.Part (part.Dependency d)) ≡ true → RowsKept (with_dependencies w (also w.dependencies d)) ss
  dependency_put d space ok n =
      let w' : Rows = with_dependencies w (also w.dependencies d) in
      let l : Longer w ss w' ss = record { types = omega arith; identifiers = omega arith; paths = omega arith; reads = omega arith; statuses = omega arith; more = []; values = append-nil w.values } in
      let s : Stay w w' ss = rows_stay w ss w' ss l h in
      record {
        fitting = rw (room 1024 w.dependencies d space) h.fitting;
        types = s.types;
        identifiers = s.identifiers;
        paths = s.paths;
        dependencies = every_more w ss w' ss l dependency_record w.dependencies d (entry.Part (part.Dependency d)) h.dependencies (dependency_entered d ok) n;
        declarations = s.declarations;
        reads = s.reads;
        values = s.values;
        levels = h.levels;
        shapes = s.shapes;
        nodes = s.nodes;
        users = h.users;
      }

  pub declaration_put : (d : Declaration) → full 1024 w.declarations ≡ false → named w ss (entry.Part (part.Declaration d.key d.declared)) ≡ true → RowsKept (with_declarations w (also w.declarations d)) ss
  declaration_put d space n =
      let w' : Rows = with_declarations w (also w.declarations d) in
      let l : Longer w ss w' ss = record { types = omega arith; identifiers = omega arith; paths = omega arith; reads = omega arith; statuses = omega arith; more = []; values = append-nil w.values } in
      let s : Stay w w' ss = rows_stay w ss w' ss l h in
      record {
        fitting = rw (room 1024 w.declarations d space) h.fitting;
        types = s.types;
        identifiers = s.identifiers;
        paths = s.paths;
        dependencies = s.dependencies;
        declarations = every_more w ss w' ss l (λ e. declaration_record e.key e.declared) w.declarations d (entry.Part (part.Declaration d.key d.declared)) h.declarations (declaration_entered d.key d.declared) n;
        reads = s.reads;
        values = s.values;
        levels = h.levels;
        shapes = s.shapes;
        nodes = s.nodes;
        users = h.users;
      }

  pub read_put : (r : ReadRow) → full 1024 w.reads ≡ false → is_put w.identifiers r.identifier ≡ true → RowsKept (with_reads w (also w.reads r)) ss
  read_put r space n =
      let w' : Rows = with_reads w (also w.reads r) in
      let l : Longer w ss w' ss = record { types = omega arith; identifiers = omega arith; paths = omega arith; reads = omega (arith, length_push w.reads r); statuses = omega arith; more = []; values = append-nil w.values } in
      let s : Stay w w' ss = rows_stay w ss w' ss l h in
      record {
        fitting = rw (room 1024 w.reads r space) h.fitting;
        types = s.types;
        identifiers = s.identifiers;
        paths = s.paths;
        dependencies = s.dependencies;
        declarations = s.declarations;
        reads = every_more w ss w' ss l read_record w.reads r (entry.Put (put.Read r)) h.reads (read_entered r) n;
        values = s.values;
        levels = h.levels;
        shapes = s.shapes;
        nodes = s.nodes;
        users = h.users;
      }

  pub shape_put : (x : ShapeRow) → full 16 w.shapes ≡ false → ltb 0 x.shape ≡ true → RowsKept (with_shapes w (also w.shapes x)) ss
  shape_put x space ok =
      let w' : Rows = with_shapes w (also w.shapes x) in
      let l : Longer w ss w' ss = record { types = omega arith; identifiers = omega arith; paths = omega arith; reads = omega arith; statuses = omega arith; more = []; values = append-nil w.values } in
      let s : Stay w w' ss = rows_stay w ss w' ss l h in
      record {
        fitting = rw (room 16 w.shapes x space) h.fitting;
        types = s.types;
        identifiers = s.identifiers;
        paths = s.paths;
        dependencies = s.dependencies;
        declarations = s.declarations;
        reads = s.reads;
        values = s.values;
        levels = h.levels;
        shapes = every_more w ss w' ss l shape_record w.shapes x (entry.Put (put.Shape x)) h.shapes (shape_entered x ok) refl;
        nodes = s.nodes;
        users = h.users;
      }

  -- a value, whose children have no user and are not too deep
  pub value_put : (v : ValueRow) → full 1024 w.values ≡ false → value_listed (value_record v) ≡ true → value_named w.identifiers w.reads w.values (value_of v) ≡ true → taken (namings w.values w.nodes) (names_of v) ≡ false → ltb 64 (level_after (levels_of w.values) v) ≡ false → RowsKept (with_values w (also w.values v)) ss
  value_put v space ok n free low =
      let w' : Rows = with_values w (also w.values v) in
      let l : Longer w ss w' ss = record { types = omega arith; identifiers = omega arith; paths = omega arith; reads = omega arith; statuses = omega arith; more = v ∷ []; values = refl } in
      let s : Stay w w' ss = rows_stay w ss w' ss l h in
      record {
        fitting = rw (room 1024 w.values v space) h.fitting;
        types = s.types;
        identifiers = s.identifiers;
        paths = s.paths;
        dependencies = s.dependencies;
        declarations = s.declarations;
        reads = s.reads;
        values = values_more w.identifiers w.reads [] w.values v h.values (and_from (is_listed (entry_of (value_record v))) (value_named w.identifiers w.reads w.values (value_of v)) (ap is_listed (value_entered v ok)) n);
        levels = levels_low w.values v h.levels low;
        shapes = s.shapes;
        nodes = s.nodes;
        users = namings_value w.values w.nodes v h.users free;
      }

  -- a node, which may change how a Scope stands
  pub node_put : (ss' : List Status) (x : Node) → length ss' ≡ length ss → full 1024 w.nodes ≡ false → node_listed x ≡ true → node_named w.identifiers w.values ss x ≡ true
      → taken (namings w.values w.nodes) (names_in x) ≡ false → RowsKept (with_nodes w (also w.nodes x)) ss'
  node_put ss' x many space ok n free =
      let w' : Rows = with_nodes w (also w.nodes x) in
      let l : Longer w ss w' ss' = record { types = omega arith; identifiers = omega arith; paths = omega arith; reads = omega arith; statuses = omega arith; more = []; values = append-nil w.values } in
      let s : Stay w w' ss' = rows_stay w ss w' ss' l h in
      record {
        fitting = rw (room 1024 w.nodes x space, many) h.fitting;
        types = s.types;
        identifiers = s.identifiers;
        paths = s.paths;
        dependencies = s.dependencies;
        declarations = s.declarations;
        reads = s.reads;
        values = s.values;
        levels = h.levels;
        shapes = s.shapes;
        nodes = nodes_more w.identifiers w.values ss' w.nodes x s.nodes ok (named_stays w ss w' ss' l (entry.Node x) n);
        users = namings_node w.values w.nodes x h.users free;
      }

  -- a Scope, which has its own list
  pub scope_put : full 256 ss ≡ false → RowsKept w (ss ++ Unused ∷ [])
  scope_put space =
      let l : Longer w ss w (ss ++ Unused ∷ []) = record { types = omega arith; identifiers = omega arith; paths = omega arith; reads = omega arith; statuses = omega (arith, length_push ss Unused); more = []; values = append-nil w.values } in
      let s : Stay w w (ss ++ Unused ∷ []) = rows_stay w ss w (ss ++ Unused ∷ []) l h in
      record {
        fitting = rw (room 256 ss Unused space) h.fitting;
        types = s.types;
        identifiers = s.identifiers;
        paths = s.paths;
        dependencies = s.dependencies;
        declarations = s.declarations;
        reads = s.reads;
        values = s.values;
        levels = h.levels;
        shapes = s.shapes;
        nodes = s.nodes;
        users = h.users;
      }
