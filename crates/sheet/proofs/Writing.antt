-- The tables hold the sheet after an accepted entry.
use Rattle.std.proofs.Common.{◌≡◌, ℕ, ◌+◌, ◌-◌, ◌<◌, ◌≤◌, Bool, true, false, cond, eqb, ◌≢◌, List, [], ◌∷◌, ◌++◌, map, length, get_or, set, Some, None, sym, refl, ap, ◌∙◌, subst, arith, rules}
use lib.ListN.{length-map}
use Rattle.std.proofs.lemmas.List.{get_or-take, map_push, map-set, set-get_or}
use Rattle.std.proofs.lemmas.Bool.{eqb-true, eqb-false, leb-false, not-false}
use Rattle.block.specs.declared.record.Record.{Record}
use Rattle.screen.specs.declared.entry.Put.{Put}
use Rattle.screen.specs.declared.entry.Put.TheVariants as put
use Rattle.screen.specs.declared.entry.Part.{Part}
use Rattle.screen.specs.declared.entry.Part.TheVariants as part
use Rattle.screen.specs.declared.node.Node.{Node}
use Rattle.screen.specs.declared.node.Node.TheVariants as node
use Rattle.screen.specs.declared.scope.Status.{Status}
use Rattle.screen.specs.declared.scope.Status.TheVariants.{Unused, Standing as Stood}
use Rattle.screen.specs.declared.rows.ValueRow.{ValueRow}
use Rattle.screen.specs.declared.entry.Entry.{Entry}
use Rattle.screen.specs.declared.entry.Entry.TheVariants as entry
use Rattle.screen.specs.Entries.{entry_of, node_of, node_by}
use Rattle.screen.specs.Records.{type_row, path_row}
use Rattle.screen.specs.Forest.{is_add, can_hold}
use Rattle.screen.specs.Open.{grow}
use Rattle.screen.specs.State.{State, Rows, Scope}
use Rattle.screen.specs.Standing.{Standing}
use Rattle.screen.specs.Refused.{statuses, top_of, refused_of}
use Rattle.screen.specs.WellFormed.{WellFormed, is_listed}
use Rattle.screen.specs.Step as step
use Rattle.screen.specs.Step.{also, altered, altered_last, declaring, reassigned, stood, rows_after, after}
use Rattle.sheet.specs.declared.rows.ScopeRow.{ScopeRow}
use Rattle.sheet.specs.declared.rows.DeclarationRow.{DeclarationRow}
use Rattle.sheet.specs.declared.rows.NodeRow.{NodeRow}
use Rattle.sheet.specs.Tables.{Stored, Memory, items, CountWithin}
use Rattle.sheet.specs.Chains.{no_scope, no_declaration, Chained}
use Rattle.sheet.specs.Links.{no_node}
use Rattle.sheet.specs.Ends.{end_of}
use Rattle.sheet.specs.Appended.{appended}
use Rattle.sheet.specs.Planted.{nodes_of, Planted}
use Rattle.sheet.specs.Holds.{declaration_of, rows_of, Within, RecordsListed, Holds}
use Rattle.sheet.specs.Room.{PutRoom, LastRoom, DeclarationRoom, PartRoom, Room, EntryRoom, NodeRoom}
use Rattle.sheet.specs.Written.{pushed, put_in, new_scope, part_in, new_declaration, followed_by, starting_at, reassigning, standing, change_scope, change_declaration, last_scope, first_declared, declared_first, declared_next, value_in, with_nodes, with_scopes, with_innermost, NodePut, node_in, closed_in, Wrote}
use Rattle.sheet.proofs.Storing.{items_many, pushed_items, pushed_within, changed_items, changed_within}
use Rattle.screen.proofs.StandingGrown.{is_scope}
use Rattle.sheet.proofs.Planting.{appended_nodes, planted_add, planted_open, planted_scope}
use Rattle.sheet.proofs.Climbing.{innermost_within, only_body, planted_close}
use Rattle.screen.proofs.Accepting.{Accepted, accepted}
use Rattle.sheet.proofs.Holding.{blank, chained_new, chained_changed}
use Rattle.sheet.proofs.Declaring.{linked, chained_first, chained_next}
use Rattle.sheet.proofs.Ending.{end_low}
use Rattle.sheet.proofs.Rooms.{scopes_many, declarations_many, dependencies_many, nodes_many, declared_put, row_put}
use Rattle.sheet.proofs.Recording.{appended_records}
use Rattle.screen.proofs.Forming.{formed_after, is_unused_lem}

-- the same of rows and Scopes that are equal
chained_for : (S S' : List ScopeRow) (D D' : List DeclarationRow) (ss ss' : List Scope) → S' ≡ S → D' ≡ D → ss' ≡ ss → Chained S D ss → Chained S' D' ss'
chained_for S S' D D' ss ss' e f g c =
    subst (λ (x : List ScopeRow). Chained x D' ss') (sym e) (subst (λ (x : List DeclarationRow). Chained S x ss') (sym f) (subst (λ (x : List Scope). Chained S D x) (sym g) c))

-- a declaration that is linked otherwise is the same
linked_same : (xs : List DeclarationRow) (k n : ℕ) → map declaration_of (set xs k (followed_by n (get_or xs k no_declaration))) ≡ map declaration_of xs
linked_same xs k n =
    map-set declaration_of xs k (followed_by n (get_or xs k no_declaration)) ∙ sym (map-set declaration_of xs k (get_or xs k no_declaration)) ∙ ap (λ l. map declaration_of l) (set-get_or xs k no_declaration)

module _ (m : Memory) (σ : State) (h : Holds m σ) where
  -- the tree among Scopes that may stand otherwise
  planted_among : (ss : List Status) → Standing σ.rows.nodes ss σ.tree σ.opened → Planted (items m.nodes) ss m.innermost σ.tree σ.opened
  planted_among ss s =
      record {
        links = h.planted.links;
        idle = h.planted.idle;
        standing = subst (λ (ns : List Node). Standing ns ss σ.tree σ.opened) (sym (ap (λ w. w.nodes) h.rows)) s;
        innermost_is = h.planted.innermost_is;
      }

  -- a new Scope
  scope_holds : (a z : ℕ) → Room m.scopes → WellFormed (after σ (entry.Put (put.Scope a z))) → Holds (put_in m (put.Scope a z)) (after σ (entry.Put (put.Scope a z)))
  scope_holds a z r w =
      let S = items m.scopes in
      let D = items m.declarations in
      record {
        counts = let c = h.counts in let n = pushed_within m.scopes (new_scope a z m.dependencies.count) r.left in search rules;
        rows = h.rows;
        chained = chained_for (S ++ new_scope a z m.dependencies.count ∷ []) _ D D (σ.scopes ++ step.fresh a z m.dependencies.count ∷ []) _
            (pushed_items m.scopes (new_scope a z m.dependencies.count) r.left) refl (ap (λ n. σ.scopes ++ step.fresh a z n ∷ []) (dependencies_many m σ h))
            (chained_new S D σ.scopes h.chained h.formed.scopes.merged_put a z m.dependencies.count);
        records = h.records;
        planted = planted_among (statuses (also σ.scopes (step.fresh a z (length σ.rows.dependencies)))) w.tree;
        formed = w;
      }

  -- rows that no list and no tree goes through
  plain_holds : (m' : Memory) (w : Rows) → Within m' → rows_of m' ≡ w → m'.scopes ≡ m.scopes → m'.declarations ≡ m.declarations → m'.nodes ≡ m.nodes → m'.innermost ≡ m.innermost
      → WellFormed (record { rows = w; scopes = σ.scopes; tree = σ.tree; opened = σ.opened }) → Holds m' (record { rows = w; scopes = σ.scopes; tree = σ.tree; opened = σ.opened })
  plain_holds m' w c is s d n i f =
      record {
        counts = c;
        rows = is;
        chained = chained_for (items m.scopes) _ (items m.declarations) _ σ.scopes _ (ap items s) (ap items d) refl h.chained;
        records = subst (λ (x : Stored NodeRow). RecordsListed (items x)) (sym n) h.records;
        planted = subst (λ (x : Stored NodeRow). Planted (items x) (statuses σ.scopes) m'.innermost σ.tree σ.opened) (sym n)
            (subst (λ (k : ℕ). Planted (items m.nodes) (statuses σ.scopes) k σ.tree σ.opened) (sym i) h.planted);
        formed = f;
      }

  -- a new row, a value, a part of the Scope put last, a node, and Close
  put_holds : (p : Put) → PutRoom m p → WellFormed (after σ (entry.Put p)) → Holds (put_in m p) (after σ (entry.Put p))
  put_holds (put.Type k s) r w =
      plain_holds (put_in m (put.Type k s)) _ (let c = h.counts in let n = pushed_within m.types (type_row k s) r.left in search rules)
      (ap (λ xs. step.with_types (rows_of m) xs) (pushed_items m.types (type_row k s) r.left) ∙ ap (λ v. rows_after v (entry.Put (put.Type k s))) h.rows) refl refl refl refl w
  put_holds (put.Identifier x) r w =
      plain_holds (put_in m (put.Identifier x)) _ (let c = h.counts in let n = pushed_within m.identifiers x r.left in search rules)
      (ap (λ xs. step.with_identifiers (rows_of m) xs) (pushed_items m.identifiers x r.left) ∙ ap (λ v. rows_after v (entry.Put (put.Identifier x))) h.rows) refl refl refl refl w
  put_holds (put.Path a z k o) r w =
      plain_holds (put_in m (put.Path a z k o)) _ (let c = h.counts in let n = pushed_within m.paths (path_row a z k o) r.left in search rules)
      (ap (λ xs. step.with_paths (rows_of m) xs) (pushed_items m.paths (path_row a z k o) r.left) ∙ ap (λ v. rows_after v (entry.Put (put.Path a z k o))) h.rows) refl refl refl refl w
  put_holds (put.Scope a z) r w = scope_holds a z r w
  put_holds (put.Read x) r w =
      plain_holds (put_in m (put.Read x)) _ (let c = h.counts in let n = pushed_within m.reads x r.left in search rules)
      (ap (λ xs. step.with_reads (rows_of m) xs) (pushed_items m.reads x r.left) ∙ ap (λ v. rows_after v (entry.Put (put.Read x))) h.rows) refl refl refl refl w
  put_holds (put.Shape x) r w =
      plain_holds (put_in m (put.Shape x)) _ (let c = h.counts in let n = pushed_within m.shapes x r.left in search rules)
      (ap (λ xs. step.with_shapes (rows_of m) xs) (pushed_items m.shapes x r.left) ∙ ap (λ v. rows_after v (entry.Put (put.Shape x))) h.rows) refl refl refl refl w

  value_holds : (v : ValueRow) → Room m.values → WellFormed (after σ (entry.Value v)) → Holds (value_in m v) (after σ (entry.Value v))
  value_holds x r w =
      plain_holds (value_in m x) _ (let c = h.counts in let n = pushed_within m.values x r.left in search rules)
      (ap (λ xs. step.with_values (rows_of m) xs) (pushed_items m.values x r.left) ∙ ap (λ v. rows_after v (entry.Value x)) h.rows) refl refl refl refl w

  -- Scope k's row changed, among the rows that are put
  changed_scopes : (k : ℕ) (f : ScopeRow → ScopeRow) → k < m.scopes.count → items (change_scope m.scopes k f) ≡ set (items m.scopes) k (f (get_or (items m.scopes) k no_scope))
  changed_scopes k f l = changed_items m.scopes (f (get_or m.scopes.rows k no_scope)) k ∙ ap (λ r. set (items m.scopes) k (f r)) (sym (row_put m σ h k l))

  -- the Scope put last, by the sheet
  last_is : length σ.scopes - 1 ≡ last_scope m
  last_is = ap (λ n. n - 1) (sym (length-map σ.scopes (λ k. k.status)) ∙ scopes_many m σ h)

  reassignment_holds : (i : ℕ) → LastRoom m → WellFormed (after σ (entry.Part (part.Reassignment i))) → Holds (part_in m (part.Reassignment i)) (after σ (entry.Part (part.Reassignment i)))
  reassignment_holds i r w =
      let S = items m.scopes in
      let D = items m.declarations in
      let l = last_scope m in
      record {
        counts = let c = h.counts in let n = changed_within m.scopes (reassigning (get_or m.scopes.rows l no_scope)) l c.scopes in search rules;
        rows = h.rows;
        chained = chained_for (set S l (reassigning (get_or S l no_scope))) _ D D (altered σ.scopes l reassigned) _
            (changed_scopes l reassigning (omega (arith, r.some))) refl (ap (λ k. altered σ.scopes k reassigned) last_is)
            (chained_changed S D σ.scopes h.chained l (omega (arith, r.some, items_many m.scopes h.counts.scopes)) reassigning reassigned (λ r. refl) (λ s. refl) (λ s. refl)
            (λ T r s k. record { start_is = k.start_is; end_is = k.end_is; status_is = k.status_is; status_small = k.status_small; reassigns_is = refl; begin_is = k.begin_is; declares = k.declares; merged = k.merged }));
        records = h.records;
        planted = planted_among (statuses (altered_last σ.scopes reassigned)) w.tree;
        formed = w;
      }

  module _ (k d : ℕ) (r : DeclarationRoom m) (w : WellFormed (after σ (entry.Part (part.Declaration k d)))) where
    few_put : length (items m.declarations) ≤ 1024
    few_put = omega (arith, r.room.few, items_many m.declarations h.counts.declarations)

    last_in_lem : last_scope m < length (items m.scopes)
    last_in_lem = omega (arith, r.last.some, items_many m.scopes h.counts.scopes)

    first_same : (get_or (items m.scopes) (last_scope m) no_scope).first ≡ first_declared m
    first_same = ap (λ r. r.first) (row_put m σ h (last_scope m) (omega (arith, r.last.some)))

    -- the new row's number, by the rows that are put and by the sheet
    number_is : length (items m.declarations) ≡ m.declarations.count
    number_is = items_many m.declarations h.counts.declarations

    declared_is : altered_last σ.scopes (declaring (length σ.rows.declarations)) ≡ altered σ.scopes (last_scope m) (declaring (length (items m.declarations)))
    declared_is =
        ap (λ n. altered_last σ.scopes (declaring n)) (declarations_many m σ h ∙ sym number_is) ∙ ap (λ l. altered σ.scopes l (declaring (length (items m.declarations)))) last_is

    wide_is : items (pushed m.declarations (new_declaration k d)) ≡ items m.declarations ++ new_declaration k d ∷ []
    wide_is = pushed_items m.declarations (new_declaration k d) r.room.left

    declared_rows : map declaration_of (items m.declarations ++ new_declaration k d ∷ []) ≡ map declaration_of (items m.declarations) ++ record { key = k; declared = d } ∷ []
    declared_rows = map_push declaration_of (items m.declarations) (new_declaration k d)

    first_holds : first_declared m ≡ 4294967295 → Holds (declared_first m k d) (after σ (entry.Part (part.Declaration k d)))
    first_holds none =
        let S = items m.scopes in
        let D = items m.declarations in
        let l = last_scope m in
        record {
          counts =
              let c = h.counts in
              let n = pushed_within m.declarations (new_declaration k d) r.room.left in
              let x = changed_within m.scopes (starting_at m.declarations.count (get_or m.scopes.rows l no_scope)) l c.scopes in
              search rules;
          rows = ap (λ xs. step.with_declarations (rows_of m) xs) (ap (λ xs. map declaration_of xs) wide_is ∙ declared_rows) ∙ ap (λ v. rows_after v (entry.Part (part.Declaration k d))) h.rows;
          chained = chained_for (set S l (starting_at (length D) (get_or S l no_scope))) _ (D ++ new_declaration k d ∷ []) _ (altered σ.scopes l (declaring (length D))) _
              (changed_scopes l (starting_at m.declarations.count) (omega (arith, r.last.some)) ∙ ap (λ n. set S l (starting_at n (get_or S l no_scope))) (sym number_is)) wide_is declared_is
              (chained_first S D σ.scopes h.chained l last_in_lem h.formed.scopes.declared (declared_put m σ h) few_put k d (first_same ∙ none));
          records = h.records;
          planted = planted_among (statuses (altered_last σ.scopes (declaring (length σ.rows.declarations)))) w.tree;
          formed = w;
        }

    module _ (some : first_declared m ≡ 4294967295 → ⊥) where
      end_put : end_of (items m.declarations) (first_declared m) < m.declarations.count
      end_put = omega (arith, number_is, end_low (length (items m.declarations)) (items m.declarations) (first_declared m) (omega (arith, number_is, r.first some)))

      linked_is : items (change_declaration (pushed m.declarations (new_declaration k d)) (end_of (items m.declarations) (first_declared m)) (followed_by m.declarations.count))
          ≡ linked (items m.declarations) k d (first_declared m)
      linked_is =
          let D = items m.declarations in
          let wide : Stored DeclarationRow = pushed m.declarations (new_declaration k d) in
          let at : ℕ = end_of D (first_declared m) in
          changed_items wide (followed_by m.declarations.count (get_or wide.rows at no_declaration)) at
          ∙ ap (λ x. set (items wide) at (followed_by m.declarations.count x)) (sym (get_or-take (m.declarations.count + 1) wide.rows at no_declaration (omega (arith, end_put))))
          ∙ ap (λ x. set x at (followed_by m.declarations.count (get_or x at no_declaration))) wide_is
          ∙ ap (λ n. set (D ++ new_declaration k d ∷ []) at (followed_by n (get_or (D ++ new_declaration k d ∷ []) at no_declaration))) (sym number_is)

      next_holds : Holds (declared_next m k d) (after σ (entry.Part (part.Declaration k d)))
      next_holds =
          let S = items m.scopes in
          let D = items m.declarations in
          let l = last_scope m in
          let wide : Stored DeclarationRow = pushed m.declarations (new_declaration k d) in
          let at : ℕ = end_of D (first_declared m) in
          record {
            counts =
                let c = h.counts in
                let x = changed_within wide (followed_by m.declarations.count (get_or wide.rows at no_declaration)) at (pushed_within m.declarations (new_declaration k d) r.room.left) in
                search rules;
            rows =
                ap (λ xs. step.with_declarations (rows_of m) xs) (ap (λ xs. map declaration_of xs) linked_is ∙ linked_same (D ++ new_declaration k d ∷ []) at (length D) ∙ declared_rows)
                ∙ ap (λ v. rows_after v (entry.Part (part.Declaration k d))) h.rows;
            chained = chained_for S S (linked D k d (get_or S l no_scope).first) _ (altered σ.scopes l (declaring (length D))) _
                refl (linked_is ∙ ap (λ a. linked D k d a) (sym first_same)) declared_is
                (chained_next S D σ.scopes h.chained l last_in_lem h.formed.scopes.declared (declared_put m σ h) few_put k d (λ e. some (sym first_same ∙ e)));
            records = h.records;
            planted = planted_among (statuses (altered_last σ.scopes (declaring (length σ.rows.declarations)))) w.tree;
            formed = w;
          }

  part_holds : (p : Part) → PartRoom m p → WellFormed (after σ (entry.Part p)) → Holds (part_in m p) (after σ (entry.Part p))
  part_holds (part.Dependency x) r w =
      plain_holds (part_in m (part.Dependency x)) _ (let c = h.counts in let n = pushed_within m.dependencies x r.left in search rules)
      (ap (λ xs. step.with_dependencies (rows_of m) xs) (pushed_items m.dependencies x r.left) ∙ ap (λ v. rows_after v (entry.Part (part.Dependency x))) h.rows) refl refl refl refl w
  part_holds (part.Declaration k d) r w = go (eqb (first_declared m) 4294967295) refl
    where
      go : (b : Bool) → eqb (first_declared m) 4294967295 ≡ b → Holds (cond b (declared_first m k d) (declared_next m k d)) (after σ (entry.Part (part.Declaration k d)))
      go true e = first_holds k d r w (eqb-true (first_declared m) 4294967295 e)
      go false e = next_holds k d r w (eqb-false (first_declared m) 4294967295 e)
  part_holds (part.Reassignment i) r w = reassignment_holds i r w

  -- a new node x, whose row is in ns
  module _ (made : Record) (x : Node) (ns : Stored NodeRow) (p : NodePut m.nodes m.innermost made ns) (is : entry_of made ≡ Some (entry.Node x)) (room : Room m.nodes) where
    many_is : length (items m.nodes) ≡ m.nodes.count
    many_is = items_many m.nodes h.counts.nodes

    -- the new node's number, by the rows that are put and by the sheet
    node_number_lem : length (items m.nodes) ≡ length σ.rows.nodes
    node_number_lem = many_is ∙ sym (nodes_many m σ h)

    node_is : node_of made ≡ x
    node_is = ap node_by is

    node_within : CountWithin ns
    node_within = omega (arith, p.count, p.long, room.left)

    node_rows : nodes_of (items ns) ≡ nodes_of (items m.nodes) ++ x ∷ []
    node_rows = ap nodes_of p.rows ∙ appended_nodes (items m.nodes) m.innermost made ∙ ap (λ y. nodes_of (items m.nodes) ++ y ∷ []) node_is

    all_rows : rows_of (with_nodes m ns) ≡ rows_after σ.rows (entry.Node x)
    all_rows = ap (λ xs. step.with_nodes (rows_of m) xs) node_rows ∙ ap (λ v. rows_after v (entry.Node x)) h.rows

    node_records : RecordsListed (items ns)
    node_records = subst (λ (rs : List NodeRow). RecordsListed rs) (sym p.rows) (appended_records (items m.nodes) m.innermost made h.records (ap is_listed is))

    few_nodes : length (items m.nodes) < 1024
    few_nodes = omega (arith, many_is, room.few)

    planted_for : (ss ss' : List Status) (at at' : ℕ) (o : ℕ) → at' ≡ at → ss' ≡ ss
        → Planted (appended (items m.nodes) m.innermost made) ss at (grow σ.opened (length (items m.nodes)) x σ.tree) o
        → Planted (items ns) ss' at' (grow σ.opened (length σ.rows.nodes) x σ.tree) o
    planted_for ss ss' at at' o e f q =
        subst (λ (rs : List NodeRow). Planted rs ss' at' (grow σ.opened (length σ.rows.nodes) x σ.tree) o) (sym p.rows)
        (subst (λ (n : ℕ). Planted (appended (items m.nodes) m.innermost made) ss' at' (grow σ.opened n x σ.tree) o) node_number_lem
        (subst (λ (y : List Status). Planted (appended (items m.nodes) m.innermost made) y at' (grow σ.opened (length (items m.nodes)) x σ.tree) o) (sym f)
        (subst (λ (n : ℕ). Planted (appended (items m.nodes) m.innermost made) ss n (grow σ.opened (length (items m.nodes)) x σ.tree) o) (sym e) q)))

    -- the sheet with the new node, where the Scopes are ss and o nodes are open
    abbrev grown : List Scope → ℕ → State
    grown ss o = record { rows = rows_after σ.rows (entry.Node x); scopes = ss; tree = grow σ.opened (length σ.rows.nodes) x σ.tree; opened = o }

    -- an Add's node is closed at once
    add_holds : can_hold (top_of σ) x ≡ true → is_add x ≡ true → WellFormed (grown σ.scopes σ.opened) → Holds (with_nodes m ns) (grown σ.scopes σ.opened)
    add_holds can add w =
        record {
          counts = let c = h.counts in let n = node_within in search rules;
          rows = all_rows;
          chained = h.chained;
          records = node_records;
          planted = planted_for (statuses σ.scopes) _ m.innermost _ σ.opened refl refl
              (planted_add (items m.nodes) (statuses σ.scopes) m.innermost σ.tree σ.opened h.planted made x few_nodes node_is can add);
          formed = w;
        }

    -- a node that Open made of no Scope is the innermost then
    open_holds : can_hold (top_of σ) x ≡ true → is_add x ≡ false → is_scope x ≡ false → σ.opened < 63 → WellFormed (grown σ.scopes (σ.opened + 1))
        → Holds (with_innermost (with_nodes m ns) m.nodes.count) (grown σ.scopes (σ.opened + 1))
    open_holds can other plain few w =
        record {
          counts = let c = h.counts in let n = node_within in search rules;
          rows = all_rows;
          chained = h.chained;
          records = node_records;
          planted = planted_for (statuses σ.scopes) _ (length (items m.nodes)) _ (σ.opened + 1) (sym many_is) refl
              (planted_open (items m.nodes) (statuses σ.scopes) m.innermost σ.tree σ.opened h.planted made x few_nodes node_is can other plain few);
          formed = w;
        }

    -- so is a Scope's node, and the Scope stands
    stands_holds : (k : ℕ) → x ≡ node.Scope k → can_hold (top_of σ) x ≡ true → k < m.scopes.count → get_or (statuses σ.scopes) k Unused ≡ Unused → σ.opened < 63
        → WellFormed (grown (altered σ.scopes k stood) (σ.opened + 1))
        → Holds (with_innermost (with_scopes (with_nodes m ns) (change_scope m.scopes k standing)) m.nodes.count) (grown (altered σ.scopes k stood) (σ.opened + 1))
    stands_holds k e can low unused few w =
        let S = items m.scopes in
        let D = items m.declarations in
        let q : Planted (appended (items m.nodes) m.innermost made) (set (statuses σ.scopes) k Stood) (length (items m.nodes)) (grow σ.opened (length (items m.nodes)) (node.Scope k) σ.tree) (σ.opened + 1) =
        planted_scope (items m.nodes) (statuses σ.scopes) m.innermost σ.tree σ.opened h.planted made k few_nodes (node_is ∙ e) (ap (λ y. can_hold (top_of σ) y) (sym e) ∙ can)
        (omega (arith, scopes_many m σ h)) unused few in
        record {
          counts =
              let c = h.counts in
              let n = node_within in
              let y = changed_within m.scopes (standing (get_or m.scopes.rows k no_scope)) k c.scopes in
              search rules;
          rows = all_rows;
          chained = chained_for (set S k (standing (get_or S k no_scope))) _ D D (altered σ.scopes k stood) _ (changed_scopes k standing low) refl refl
              (chained_changed S D σ.scopes h.chained k (omega (arith, items_many m.scopes h.counts.scopes)) standing stood (λ r. refl) (λ s. refl) (λ s. refl)
              (λ T r s a. record { start_is = a.start_is; end_is = a.end_is; status_is = refl; status_small = omega arith; reassigns_is = a.reassigns_is; begin_is = a.begin_is; declares = a.declares; merged = a.merged }));
          records = node_records;
          planted = planted_for (set (statuses σ.scopes) k Stood) _ (length (items m.nodes)) _ (σ.opened + 1) (sym many_is)
              (map-set (λ s. s.status) σ.scopes k (stood (get_or σ.scopes k blank)))
              (subst (λ (y : Node). Planted (appended (items m.nodes) m.innermost made) (set (statuses σ.scopes) k Stood) (length (items m.nodes)) (grow σ.opened (length (items m.nodes)) y σ.tree) (σ.opened + 1)) (sym e) q);
          formed = w;
        }

  node_holds : (made : Record) (x : Node) (ns : Stored NodeRow) → NodePut m.nodes m.innermost made ns → entry_of made ≡ Some (entry.Node x) → NodeRoom m x
      → Accepted σ.rows (statuses σ.scopes) (top_of σ) σ.opened (entry.Node x) → WellFormed (after σ (entry.Node x)) → Holds (node_in m ns x) (after σ (entry.Node x))
  node_holds made x ns p is r a w = go x p is r (not-false (can_hold (top_of σ) x) a.placed_is) a w
    where
      go : (x : Node) → NodePut m.nodes m.innermost made ns → entry_of made ≡ Some (entry.Node x) → NodeRoom m x → can_hold (top_of σ) x ≡ true
          → Accepted σ.rows (statuses σ.scopes) (top_of σ) σ.opened (entry.Node x) → WellFormed (after σ (entry.Node x)) → Holds (node_in m ns x) (after σ (entry.Node x))
      go node.Body p is r can a w = open_holds made node.Body ns p is r.child.room can refl refl (leb-false 63 σ.opened a.crowded_is) w
      go (node.Add o v t) p is r can a w = add_holds made (node.Add o v t) ns p is r.child.room can refl w
      go (node.Terminal k o v) p is r can a w = open_holds made (node.Terminal k o v) ns p is r.child.room can refl refl (leb-false 63 σ.opened a.crowded_is) w
      go node.Arm p is r can a w = open_holds made node.Arm ns p is r.child.room can refl refl (leb-false 63 σ.opened a.crowded_is) w
      go (node.Scope k) p is r can a w =
          stands_holds made (node.Scope k) ns p is r.child.room k refl can r.opens.put (is_unused_lem (get_or (statuses σ.scopes) k Unused) a.used_is) (leb-false 63 σ.opened a.crowded_is) w
      go (node.Pruned k) p is r can a w = open_holds made (node.Pruned k) ns p is r.child.room can refl refl (leb-false 63 σ.opened a.crowded_is) w

  close_holds : eqb σ.opened 0 ≡ false → WellFormed (after σ entry.Close) → Holds (closed_in m) (after σ entry.Close)
  close_holds some w =
      let N = items m.nodes in
      let low : m.innermost < m.nodes.count = omega (arith, innermost_within N (statuses σ.scopes) m.innermost σ.tree σ.opened h.planted, items_many m.nodes h.counts.nodes) in
      let ne : m.innermost ≢ 0 = λ e. eqb-false σ.opened 0 some (only_body N (statuses σ.scopes) m.innermost σ.tree σ.opened h.planted e) in
      record {
        counts = let c = h.counts in search rules;
        rows = h.rows;
        chained = h.chained;
        records = h.records;
        planted = subst (λ (r : NodeRow). Planted N (statuses σ.scopes) r.parent σ.tree (σ.opened - 1)) (get_or-take m.nodes.count m.nodes.rows m.innermost no_node low)
            (planted_close N (statuses σ.scopes) m.innermost σ.tree σ.opened h.planted ne);
        formed = w;
      }

  -- any entry, where the sheet afterwards is well formed
  wrote_from : (made : Record) (e : Entry) (m' : Memory) → entry_of made ≡ Some e → EntryRoom m e → Accepted σ.rows (statuses σ.scopes) (top_of σ) σ.opened e → WellFormed (after σ e)
      → Wrote m made e m' → Holds m' (after σ e)
  wrote_from made (entry.Put p) m' is r a w t = subst (λ (y : Memory). Holds y (after σ (entry.Put p))) (sym t) (put_holds p r w)
  wrote_from made (entry.Part p) m' is r a w t = subst (λ (y : Memory). Holds y (after σ (entry.Part p))) (sym t) (part_holds p r w)
  wrote_from made (entry.Value v) m' is r a w t = subst (λ (y : Memory). Holds y (after σ (entry.Value v))) (sym t) (value_holds v r w)
  wrote_from made (entry.Node x) m' is r a w t = subst (λ (y : Memory). Holds y (after σ (entry.Node x))) (sym t.is) (node_holds made x m'.nodes t.put is r a w)
  wrote_from made entry.Close m' is r a w t = subst (λ (y : Memory). Holds y (after σ entry.Close)) (sym t) (close_holds a.placed_is w)
  wrote_from made entry.List m' is r a w t = subst (λ (y : Memory). Holds y (after σ entry.List)) (sym t) h

  -- any entry that is not refused
  pub wrote_holds : (made : Record) (e : Entry) (m' : Memory) → entry_of made ≡ Some e → refused_of σ e ≡ None → EntryRoom m e → Wrote m made e m' → Holds m' (after σ e)
  wrote_holds made e m' is ok r t =
      wrote_from made e m' is r (accepted σ.rows (statuses σ.scopes) (top_of σ) σ.opened e ok) (formed_after σ made e h.formed is ok) t
