-- Tables that hold a sheet have room for what it does not refuse.
use Rattle.std.proofs.Common.{◌≡◌, ℕ, ◌<◌, ◌≤◌, true, false, ltb, leb, length, get_or, None, sym, ap, ◌∙◌, subst, arith}
use lib.ListN.{length-map}
use Rattle.std.proofs.lemmas.List.{get_or-take}
use Rattle.std.proofs.lemmas.Bool.{and_parts, leb-false, ltb-true}
use Rattle.screen.specs.declared.entry.Put.{Put}
use Rattle.screen.specs.declared.entry.Put.TheVariants as put
use Rattle.screen.specs.declared.entry.Part.{Part}
use Rattle.screen.specs.declared.entry.Part.TheVariants as part
use Rattle.screen.specs.declared.node.Node.{Node}
use Rattle.screen.specs.declared.node.Node.TheVariants as node
use Rattle.screen.specs.declared.entry.Entry.{Entry}
use Rattle.screen.specs.declared.entry.Entry.TheVariants as entry
use Rattle.screen.specs.Lists.{every, gathered}
use Rattle.screen.specs.State.{State}
use Rattle.screen.specs.Named.{named, part_named, node_named}
use Rattle.screen.specs.Refused.{statuses, put_full, part_full, full, top_of, refused_of}
use Rattle.sheet.specs.declared.rows.ScopeRow.{ScopeRow}
use Rattle.sheet.specs.Tables.{Stored, Memory, items}
use Rattle.sheet.specs.Chains.{no_scope}
use Rattle.sheet.specs.Holds.{Holds, declaration_of}
use Rattle.screen.specs.Entries.{node_of}
use Rattle.sheet.specs.Written.{last_scope}
use Rattle.sheet.specs.Room.{Room, PutRoom, LastRoom, DeclarationRoom, PartRoom, ChildRoom, OpenRoom, EntryRoom}
use Rattle.sheet.specs.Kept.{Long}
use Rattle.sheet.proofs.Storing.{items_many}
use Rattle.sheet.proofs.Climbing.{innermost_within, innermost_last}
use Rattle.screen.proofs.Accepting.{Accepted, accepted}
use Rattle.sheet.proofs.Gathering.{told}
use Rattle.sheet.proofs.Declaring.{first_within}

-- a table whose limit is not reached
room_from : {T : Type 0} (t : Stored T) (limit n : ℕ) → n ≡ t.count → leb limit n ≡ false → limit ≤ length t.rows → limit ≤ 1024 → Room t
room_from t limit n e f l s = record { left = omega (arith, leb-false limit n f); few = omega (arith, leb-false limit n f) }

module _ (m : Memory) (σ : State) (h : Holds m σ) where
  -- how many rows the tables have
  pub scopes_many : length (statuses σ.scopes) ≡ m.scopes.count
  scopes_many =
      length-map σ.scopes (λ k. k.status) ∙ (told (items m.scopes) (items m.declarations) (items m.scopes) σ.scopes h.chained.held).count ∙ items_many m.scopes h.counts.scopes

  pub declarations_many : length σ.rows.declarations ≡ m.declarations.count
  declarations_many = sym (ap (λ w. length w.declarations) h.rows) ∙ length-map (items m.declarations) declaration_of ∙ items_many m.declarations h.counts.declarations

  pub dependencies_many : length σ.rows.dependencies ≡ m.dependencies.count
  dependencies_many = sym (ap (λ w. length w.dependencies) h.rows) ∙ items_many m.dependencies h.counts.dependencies

  pub nodes_many : length σ.rows.nodes ≡ m.nodes.count
  nodes_many = sym (ap (λ w. length w.nodes) h.rows) ∙ length-map (items m.nodes) (λ r. node_of r.made) ∙ items_many m.nodes h.counts.nodes

  -- what the declarations' lists are in the rows
  pub declared_put : every (λ n. ltb n (length (items m.declarations))) (gathered (λ k. k.declares) σ.scopes) ≡ true
  declared_put =
      subst (λ (n : ℕ). every (λ k. ltb k n) (gathered (λ k. k.declares) σ.scopes) ≡ true) (declarations_many ∙ sym (items_many m.declarations h.counts.declarations)) h.formed.scopes.declarations_put

  -- the row of a Scope that is put
  pub row_put : (k : ℕ) → k < m.scopes.count → get_or (items m.scopes) k no_scope ≡ get_or m.scopes.rows k no_scope
  row_put k l = get_or-take m.scopes.count m.scopes.rows k no_scope l

  module _ (long : Long m) where
    -- room for each kind of entry
    put_room : (p : Put) → put_full σ.rows (statuses σ.scopes) p ≡ false → PutRoom m p
    put_room (put.Type k s) f = room_from m.types 256 _ (sym (ap (λ w. length w.types) h.rows) ∙ items_many m.types h.counts.types) f long.types (omega arith)
    put_room (put.Identifier i) f = room_from m.identifiers 1024 _ (sym (ap (λ w. length w.identifiers) h.rows) ∙ items_many m.identifiers h.counts.identifiers) f long.identifiers (omega arith)
    put_room (put.Path a z k o) f = room_from m.paths 1024 _ (sym (ap (λ w. length w.paths) h.rows) ∙ items_many m.paths h.counts.paths) f long.paths (omega arith)
    put_room (put.Scope a z) f = room_from m.scopes 256 _ scopes_many f long.scopes (omega arith)
    put_room (put.Read r) f = room_from m.reads 1024 _ (sym (ap (λ w. length w.reads) h.rows) ∙ items_many m.reads h.counts.reads) f long.reads (omega arith)
    put_room (put.Shape s) f = room_from m.shapes 16 _ (sym (ap (λ w. length w.shapes) h.rows) ∙ items_many m.shapes h.counts.shapes) f long.shapes (omega arith)

    last_room : ltb 0 (length (statuses σ.scopes)) ≡ true → LastRoom m
    last_room n = record { some = omega (arith, ltb-true 0 (length (statuses σ.scopes)) n, scopes_many); within = h.counts.scopes }

    declaration_room : LastRoom m → full 1024 σ.rows.declarations ≡ false → DeclarationRoom m
    declaration_room last f =
        let D = items m.declarations in
        let S = items m.scopes in
        let room : Room m.declarations = room_from m.declarations 1024 _ declarations_many f long.declarations (omega arith) in
        let is : get_or S (last_scope m) no_scope ≡ get_or m.scopes.rows (last_scope m) no_scope = row_put (last_scope m) (omega (arith, last.some)) in
        let many : length D ≡ m.declarations.count = items_many m.declarations h.counts.declarations in
        let low : ((get_or S (last_scope m) no_scope).first ≡ 4294967295 → ⊥) → (get_or S (last_scope m) no_scope).first < length D =
        first_within S D σ.scopes h.chained (last_scope m) (omega (arith, last.some, items_many m.scopes h.counts.scopes)) h.formed.scopes.declared declared_put (omega (arith, room.few)) in
        record {
          last = last;
          room = room;
          first = λ ne. omega (arith, ap (λ (r : ScopeRow). r.first) is, low (λ e. ne (sym (ap (λ (r : ScopeRow). r.first) is) ∙ e)));
        }

    part_room : (p : Part) → named σ.rows (statuses σ.scopes) (entry.Part p) ≡ true → part_full σ.rows p ≡ false → PartRoom m p
    part_room (part.Dependency d) n f = room_from m.dependencies 1024 _ dependencies_many f long.dependencies (omega arith)
    part_room (part.Declaration k d) n f = declaration_room (last_room (and_parts (ltb 0 (length (statuses σ.scopes))) (part_named σ.rows (part.Declaration k d)) n).0) f
    part_room (part.Reassignment i) n f = last_room (and_parts (ltb 0 (length (statuses σ.scopes))) (part_named σ.rows (part.Reassignment i)) n).0

    open_room : (x : Node) → node_named σ.rows.identifiers σ.rows.values (statuses σ.scopes) x ≡ true → OpenRoom m x
    open_room node.Body n = tt
    open_room (node.Add o v t) n = tt
    open_room (node.Terminal k o v) n = tt
    open_room node.Arm n = tt
    open_room (node.Scope k) n = record { put = omega (arith, ltb-true k (length (statuses σ.scopes)) n, scopes_many); within = h.counts.scopes }
    open_room (node.Pruned k) n = tt

    -- the innermost open node, and its last child, have rows
    child_room : full 1024 σ.rows.nodes ≡ false → ChildRoom m
    child_room f =
        let many : length (items m.nodes) ≡ m.nodes.count = items_many m.nodes h.counts.nodes in
        let at = innermost_within (items m.nodes) (statuses σ.scopes) m.innermost σ.tree σ.opened h.planted in
        record {
          room = room_from m.nodes 1024 _ nodes_many f long.nodes (omega arith);
          within = omega arith;
          last = λ ne. omega (arith, innermost_last (items m.nodes) (statuses σ.scopes) m.innermost σ.tree σ.opened h.planted ne);
        }

    room_for : (top : Node) (o : ℕ) (e : Entry) → Accepted σ.rows (statuses σ.scopes) top o e → EntryRoom m e
    room_for top o (entry.Put p) a = put_room p a.room_is
    room_for top o (entry.Part p) a = part_room p a.named_is a.room_is
    room_for top o (entry.Value v) a = room_from m.values 1024 _ (sym (ap (λ w. length w.values) h.rows) ∙ items_many m.values h.counts.values) a.room_is long.values (omega arith)
    room_for top o (entry.Node x) a = record { child = child_room a.room_is; opens = open_room x a.named_is }
    room_for top o entry.Close a =
        omega (arith, innermost_within (items m.nodes) (statuses σ.scopes) m.innermost σ.tree σ.opened h.planted, items_many m.nodes h.counts.nodes, h.counts.nodes)
    room_for top o entry.List a = tt

    pub entry_room : (e : Entry) → refused_of σ e ≡ None → EntryRoom m e
    entry_room e ok = room_for (top_of σ) σ.opened e (accepted σ.rows (statuses σ.scopes) (top_of σ) σ.opened e ok)
