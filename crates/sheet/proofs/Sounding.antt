-- From the parts of an examination to soundness, and back.
use Rattle.std.proofs.Common.{◌≡◌, ℕ, zero, suc, ◌<◌, ◌≤◌, Bool, true, false, ◌&&◌, leb, List, [], ◌∷◌, map, length, replicate, sym, refl, ap, ◌∙◌, subst, arith}
use lib.ListN.{length-map}
use Rattle.std.proofs.lemmas.Bool.{and_parts, and_from, le-leb, leb-true}
use Rattle.screen.specs.Lists.{every}
use Rattle.screen.specs.State.{State, Rows}
use Rattle.screen.specs.Statuses.{status_of}
use Rattle.screen.specs.Levels.{levels_of}
use Rattle.screen.specs.Users.{namings}
use Rattle.screen.specs.Refused.{statuses}
use Rattle.screen.specs.Entries.{entry_of, node_of}
use Rattle.screen.specs.Named.{node_named}
use Rattle.screen.specs.WellFormed.{is_listed, node_listed, fits, values_kept, RowsKept, ScopesKept}
use Rattle.screen.specs.declared.scope.Status.{Status}
use Rattle.screen.proofs.Below.{namings_below}
use Rattle.sheet.specs.declared.rows.NodeRow.{NodeRow}
use Rattle.screen.specs.declared.node.Node.{Node}
use Rattle.screen.specs.declared.rows.IdentifierRow.{IdentifierRow}
use Rattle.screen.specs.declared.rows.ValueRow.{ValueRow}
use Rattle.sheet.specs.Tables.{Memory, items}
use Rattle.sheet.specs.Planted.{Planted, nodes_of, statuses_of}
use Rattle.sheet.specs.Holds.{declaration_of, rows_of, Within, Holds, Sound}
use Rattle.sheet.specs.Kept.{Long}
use Rattle.sheet.specs.Walks.{fresh}
use Rattle.sheet.specs.NodeRows.{node_row_kept, NodesKept}
use Rattle.sheet.specs.Links.{row}
use Rattle.sheet.specs.Listed.{ScopeBelow}
use Rattle.sheet.specs.Fitting.{node_at, ScopesNamed}
use Rattle.sheet.specs.Examined.{Fitted, front_kept, middle_kept, shapes_kept, RowsSound, ScopesSound, TreeSound}
use Rattle.sheet.proofs.Storing.{items_many}
use Rattle.sheet.proofs.Accepting.{statuses_are}
use Rattle.sheet.proofs.Marking.{plain_fresh, fresh_plain}
use Rattle.sheet.proofs.Examining.{unmarked_rows}
use Rattle.sheet.proofs.Listing.{named_below}
use Rattle.sheet.proofs.NodeRowing.{body_made, kept_rest}

-- tables that are long enough and count no more than their limits
pub within_long : (m : Memory) → Long m → Fitted m → Within m
within_long m l f =
    record {
      types = omega (arith, l.types, f.types);
      identifiers = omega (arith, l.identifiers, f.identifiers);
      paths = omega (arith, l.paths, f.paths);
      scopes = omega (arith, l.scopes, f.scopes);
      dependencies = omega (arith, l.dependencies, f.dependencies);
      declarations = omega (arith, l.declarations, f.declarations);
      reads = omega (arith, l.reads, f.reads);
      values = omega (arith, l.values, f.values);
      shapes = omega (arith, l.shapes, f.shapes);
      nodes = omega (arith, l.nodes, f.nodes);
    }

-- the tests of `fits`, one by one
pub record Fits (w : Rows) (ss : List Status) : Type 0 where
  pub types : length w.types ≤ 256
  pub identifiers : length w.identifiers ≤ 1024
  pub paths : length w.paths ≤ 1024
  pub scopes : length ss ≤ 256
  pub dependencies : length w.dependencies ≤ 1024
  pub declarations : length w.declarations ≤ 1024
  pub reads : length w.reads ≤ 1024
  pub values : length w.values ≤ 1024
  pub shapes : length w.shapes ≤ 16
  pub nodes : length w.nodes ≤ 1024

first : (a b : Bool) → (a && b) ≡ true → a ≡ true
first a b h = (and_parts a b h).0

second : (a b : Bool) → (a && b) ≡ true → b ≡ true
second a b h = (and_parts a b h).1

pub fits_parts : (w : Rows) (ss : List Status) → fits w ss ≡ true → Fits w ss
fits_parts w ss h =
    let h8 = first _ _ h in
    let h7 = first _ _ h8 in
    let h6 = first _ _ h7 in
    let h5 = first _ _ h6 in
    let h4 = first _ _ h5 in
    let h3 = first _ _ h4 in
    let h2 = first _ _ h3 in
    let h1 = first _ _ h2 in
    record {
      types = leb-true _ _ (first _ _ h1);
      identifiers = leb-true _ _ (second _ _ h1);
      paths = leb-true _ _ (second _ _ h2);
      scopes = leb-true _ _ (second _ _ h3);
      dependencies = leb-true _ _ (second _ _ h4);
      declarations = leb-true _ _ (second _ _ h5);
      reads = leb-true _ _ (second _ _ h6);
      values = leb-true _ _ (second _ _ h7);
      shapes = leb-true _ _ (second _ _ h8);
      nodes = leb-true _ _ (second _ _ h);
    }

pub fits_from : (w : Rows) (ss : List Status) → Fits w ss → fits w ss ≡ true
fits_from w ss f =
    and_from _ _
    (and_from _ _
    (and_from _ _
    (and_from _ _
    (and_from _ _
    (and_from _ _
    (and_from _ _
    (and_from _ _
    (and_from _ _ (le-leb (length w.types) 256 f.types) (le-leb (length w.identifiers) 1024 f.identifiers))
    (le-leb (length w.paths) 1024 f.paths))
    (le-leb (length ss) 256 f.scopes))
    (le-leb (length w.dependencies) 1024 f.dependencies))
    (le-leb (length w.declarations) 1024 f.declarations))
    (le-leb (length w.reads) 1024 f.reads))
    (le-leb (length w.values) 1024 f.values))
    (le-leb (length w.shapes) 16 f.shapes))
    (le-leb (length w.nodes) 1024 f.nodes)

-- each node names a Scope that is put, if it opened one
scopes_of_lem : (is : List IdentifierRow) (vs : List ValueRow) (ss : List Status) (rs : List NodeRow) → every (node_row_kept is vs ss) rs ≡ true → (k : ℕ) → k < length rs → ScopeBelow (length ss) (node_of (row rs k).made)
scopes_of_lem is vs ss [] h k l = absurd (omega arith)
scopes_of_lem is vs ss (r ∷ rs) h zero l =
    named_below is vs ss (node_of r.made)
    (second (node_listed (node_of r.made)) (node_named is vs ss (node_of r.made))
    (second (is_listed (entry_of r.made)) (node_listed (node_of r.made) && node_named is vs ss (node_of r.made)) (first (node_row_kept is vs ss r) (every (node_row_kept is vs ss) rs) h)))
scopes_of_lem is vs ss (r ∷ rs) h (suc k) l = scopes_of_lem is vs ss rs (second (node_row_kept is vs ss r) (every (node_row_kept is vs ss) rs) h) k (omega arith)

scopes_below : (is : List IdentifierRow) (vs : List ValueRow) (ss : List Status) (rows : List NodeRow) → NodesKept is vs ss rows → (k : ℕ) → k < length rows → ScopeBelow (length ss) (node_of (row rows k).made)
scopes_below is vs ss [] n k l = absurd (omega arith)
scopes_below is vs ss (r ∷ rs) n zero l = subst (λ (x : Node). ScopeBelow (length ss) x) (sym (ap node_of n.records.0 ∙ body_made)) tt
scopes_below is vs ss (r ∷ rs) n (suc k) l = scopes_of_lem is vs ss rs (kept_rest is vs ss (r ∷ rs) n) k (omega arith)

module _ (m : Memory) (in' : Within m) where
  pub fitted_fits : Fitted m → fits (rows_of m) (statuses_of (items m.scopes)) ≡ true
  fitted_fits f =
      fits_from (rows_of m) (statuses_of (items m.scopes))
      (record {
        types = omega (arith, items_many m.types in'.types, f.types);
        identifiers = omega (arith, items_many m.identifiers in'.identifiers, f.identifiers);
        paths = omega (arith, items_many m.paths in'.paths, f.paths);
        scopes = omega (arith, length-map (items m.scopes) (λ r. status_of r.status), items_many m.scopes in'.scopes, f.scopes);
        dependencies = omega (arith, items_many m.dependencies in'.dependencies, f.dependencies);
        declarations = omega (arith, length-map (items m.declarations) declaration_of, items_many m.declarations in'.declarations, f.declarations);
        reads = omega (arith, items_many m.reads in'.reads, f.reads);
        values = omega (arith, items_many m.values in'.values, f.values);
        shapes = omega (arith, items_many m.shapes in'.shapes, f.shapes);
        nodes = omega (arith, length-map (items m.nodes) (λ r. node_of r.made), items_many m.nodes in'.nodes, f.nodes);
      })

  pub fits_fitted : fits (rows_of m) (statuses_of (items m.scopes)) ≡ true → Fitted m
  fits_fitted h =
      let f = fits_parts (rows_of m) (statuses_of (items m.scopes)) h in
      record {
        types = omega (arith, items_many m.types in'.types, f.types);
        identifiers = omega (arith, items_many m.identifiers in'.identifiers, f.identifiers);
        paths = omega (arith, items_many m.paths in'.paths, f.paths);
        scopes = omega (arith, length-map (items m.scopes) (λ r. status_of r.status), items_many m.scopes in'.scopes, f.scopes);
        dependencies = omega (arith, items_many m.dependencies in'.dependencies, f.dependencies);
        declarations = omega (arith, length-map (items m.declarations) declaration_of, items_many m.declarations in'.declarations, f.declarations);
        reads = omega (arith, items_many m.reads in'.reads, f.reads);
        values = omega (arith, items_many m.values in'.values, f.values);
        shapes = omega (arith, items_many m.shapes in'.shapes, f.shapes);
        nodes = omega (arith, length-map (items m.nodes) (λ r. node_of r.made), items_many m.nodes in'.nodes, f.nodes);
      }

  -- every row by itself
  pub rows_sound_from : Fitted m → front_kept (rows_of m) (statuses_of (items m.scopes)) ≡ true → middle_kept (rows_of m) (statuses_of (items m.scopes)) ≡ true
      → values_kept (items m.identifiers) (items m.reads) [] (items m.values) ≡ true → every (λ n. leb n 64) (levels_of (items m.values)) ≡ true
      → shapes_kept (rows_of m) (statuses_of (items m.scopes)) ≡ true → NodesKept (items m.identifiers) (items m.values) (statuses_of (items m.scopes)) (items m.nodes)
      → fresh (length (items m.values)) (replicate 1024 false) (namings (items m.values) (nodes_of (items m.nodes))) ≡ true → RowsSound m
  rows_sound_from f front middle values levels shapes nodes users =
      let few : length (items m.values) ≤ 1024 = omega (arith, items_many m.values in'.values, f.values) in
      record {
        kept =
            record {
              fitting = fitted_fits f;
              types = first _ _ (first _ _ front);
              identifiers = second _ _ (first _ _ front);
              paths = second _ _ front;
              dependencies = first _ _ (first _ _ middle);
              declarations = second _ _ (first _ _ middle);
              reads = second _ _ middle;
              values = values;
              levels = levels;
              shapes = shapes;
              nodes = nodes.nodes;
              users = (fresh_plain (length (items m.values)) (replicate 1024 false) (namings (items m.values) (nodes_of (items m.nodes))) (unmarked_rows (length (items m.values)) 1024 few).room users).once;
            };
        records = nodes.records;
      }

  pub rows_sound_front : RowsSound m → front_kept (rows_of m) (statuses_of (items m.scopes)) ≡ true
  rows_sound_front r = and_from _ _ (and_from _ _ r.kept.types r.kept.identifiers) r.kept.paths

  pub rows_sound_middle : RowsSound m → middle_kept (rows_of m) (statuses_of (items m.scopes)) ≡ true
  rows_sound_middle r = and_from _ _ (and_from _ _ r.kept.dependencies r.kept.declarations) r.kept.reads

  pub rows_sound_users : Fitted m → RowsSound m → fresh (length (items m.values)) (replicate 1024 false) (namings (items m.values) (nodes_of (items m.nodes))) ≡ true
  rows_sound_users f r =
      let few : length (items m.values) ≤ 1024 = omega (arith, items_many m.values in'.values, f.values) in
      plain_fresh (length (items m.values)) (replicate 1024 false) (namings (items m.values) (nodes_of (items m.nodes)))
      (record {
        below = namings_below (items m.identifiers) (items m.reads) (items m.values) (statuses_of (items m.scopes)) (nodes_of (items m.nodes)) r.kept.values r.kept.nodes;
        once = r.kept.users;
        free = λ j _. (unmarked_rows (length (items m.values)) 1024 few).none j;
      })

  -- what the examination of the tree asks for
  pub node_scopes : RowsSound m → ScopesNamed (items m.nodes) (length (items m.scopes))
  node_scopes r k h =
      subst (λ (n : ℕ). ScopeBelow n (node_at (items m.nodes) k)) (length-map (items m.scopes) (λ x. status_of x.status))
      (scopes_below (items m.identifiers) (items m.values) (statuses_of (items m.scopes)) (items m.nodes) (record { records = r.records; nodes = r.kept.nodes }) k h)

module _ (m : Memory) (σ : State) (h : Holds m σ) where
  pub holds_statuses : statuses_of (items m.scopes) ≡ statuses σ.scopes
  holds_statuses = statuses_are (items m.scopes) (items m.declarations) (items m.scopes) σ.scopes h.chained.held

  pub holds_rows : RowsSound m
  holds_rows =
      record {
        kept = subst (λ (w : Rows). RowsKept w (statuses_of (items m.scopes))) (sym h.rows) (subst (λ (ss : List Status). RowsKept σ.rows ss) (sym holds_statuses) h.formed.rows);
        records = h.records;
      }

  pub holds_fitted : Fitted m
  holds_fitted = fits_fitted m h.counts holds_rows.kept.fitting

  pub holds_scopes : ScopesSound m
  holds_scopes =
      let dependencies : length σ.rows.dependencies ≡ m.dependencies.count = ap (λ (w : Rows). length w.dependencies) (sym h.rows) ∙ items_many m.dependencies h.counts.dependencies in
      let declarations : length σ.rows.declarations ≡ length (items m.declarations) = ap (λ (w : Rows). length w.declarations) (sym h.rows) ∙ length-map (items m.declarations) declaration_of in
      (σ.scopes, h.chained, subst (λ (n : ℕ). ScopesKept σ.scopes n (length (items m.declarations))) dependencies (subst (λ (n : ℕ). ScopesKept σ.scopes (length σ.rows.dependencies) n) declarations h.formed.scopes))

  pub holds_tree : TreeSound m
  holds_tree = (σ.tree, σ.opened, subst (λ (ss : List Status). Planted (items m.nodes) ss m.innermost σ.tree σ.opened) (sym holds_statuses) h.planted)

-- the parts of an examination make the tables sound
pub sound_from : (m : Memory) → Within m → RowsSound m → ScopesSound m → TreeSound m → Sound m
sound_from m in' r s t =
    let ss = s.0 in
    let same : statuses_of (items m.scopes) ≡ statuses ss = statuses_are (items m.scopes) (items m.declarations) (items m.scopes) ss s.1.held in
    let dependencies : m.dependencies.count ≡ length (items m.dependencies) = sym (items_many m.dependencies in'.dependencies) in
    let declarations : length (items m.declarations) ≡ length (map declaration_of (items m.declarations)) = sym (length-map (items m.declarations) declaration_of) in
    let planted : Planted (items m.nodes) (statuses ss) m.innermost t.0 t.1 = subst (λ (x : List Status). Planted (items m.nodes) x m.innermost t.0 t.1) same t.2 in (
      record { rows = rows_of m; scopes = ss; tree = t.0; opened = t.1 },
      record {
        counts = in';
        rows = refl;
        chained = s.1;
        records = r.records;
        planted = planted;
        formed =
            record {
              rows = subst (λ (x : List Status). RowsKept (rows_of m) x) same r.kept;
              scopes = subst (λ (n : ℕ). ScopesKept ss (length (items m.dependencies)) n) declarations (subst (λ (n : ℕ). ScopesKept ss n (length (items m.declarations))) dependencies s.2);
              tree = planted.standing;
            };
      },
    )
