-- What a write keeps of the memory.
use Rattle.std.proofs.Common.{◌≡◌, ℕ, ◌<◌, Bool, true, false, cond, eqb, length, get_or, drop, sym, refl, ◌∙◌, subst, arith, rules}
use Rattle.std.proofs.lemmas.Bool.{eqb-false}
use Rattle.block.specs.declared.record.Record.{Record}
use Rattle.screen.specs.declared.entry.Put.{Put}
use Rattle.screen.specs.declared.entry.Put.TheVariants as put
use Rattle.screen.specs.declared.entry.Part.{Part}
use Rattle.screen.specs.declared.entry.Part.TheVariants as part
use Rattle.screen.specs.declared.node.Node.{Node}
use Rattle.screen.specs.declared.node.Node.TheVariants as node
use Rattle.screen.specs.declared.entry.Entry.{Entry}
use Rattle.screen.specs.declared.entry.Entry.TheVariants as entry
use Rattle.sheet.specs.declared.rows.NodeRow.{NodeRow}
use Rattle.sheet.specs.Tables.{Stored, Memory, items}
use Rattle.sheet.specs.Chains.{no_scope, no_declaration}
use Rattle.sheet.specs.Ends.{end_of}
use Rattle.sheet.specs.Room.{PartRoom, DeclarationRoom, LastRoom, OpenRoom, EntryRoom}
use Rattle.sheet.specs.Written.{pushed, changed, put_in, part_in, declared_first, declared_next, first_declared, last_scope, new_declaration, followed_by, starting_at, reassigning, standing, NodePut, node_in, Wrote}
use Rattle.sheet.specs.Kept.{Rest, RestKept}
use Rattle.sheet.proofs.Storing.{items_many, same_rest, pushed_rest, changed_rest}
use Rattle.sheet.proofs.Ending.{end_low}

-- what each kind of entry leaves
put_rest : (m : Memory) (p : Put) → RestKept m (put_in m p)
put_rest m (put.Type k s) = search (rules, same_rest, pushed_rest)
put_rest m (put.Identifier i) = search (rules, same_rest, pushed_rest)
put_rest m (put.Path a z k o) = search (rules, same_rest, pushed_rest)
put_rest m (put.Scope a z) = search (rules, same_rest, pushed_rest)
put_rest m (put.Read r) = search (rules, same_rest, pushed_rest)
put_rest m (put.Shape s) = search (rules, same_rest, pushed_rest)

-- the Scope put last is among those that are put
last_below : (m : Memory) → LastRoom m → last_scope m < m.scopes.count
last_below m r = omega (arith, r.some)

first_rest : (m : Memory) (k d : ℕ) → DeclarationRoom m → RestKept m (declared_first m k d)
first_rest m k d r =
    let a = pushed_rest m.declarations (new_declaration k d) in
    let b = changed_rest m.scopes (starting_at m.declarations.count (get_or m.scopes.rows (last_scope m) no_scope)) (last_scope m) (last_below m r.last) in
    search (rules, same_rest)

next_rest : (m : Memory) (k d : ℕ) → DeclarationRoom m → (first_declared m ≡ 4294967295 → ⊥) → RestKept m (declared_next m k d)
next_rest m k d r some =
    let many : length (items m.declarations) ≡ m.declarations.count = items_many m.declarations (omega (arith, r.room.left)) in
    let at : ℕ = end_of (items m.declarations) (first_declared m) in
    let low : at < m.declarations.count = omega (arith, end_low (length (items m.declarations)) (items m.declarations) (first_declared m) (omega (arith, r.first some))) in
    let wide : Stored _ = pushed m.declarations (new_declaration k d) in
    let a = pushed_rest m.declarations (new_declaration k d) in
    let b = changed_rest wide (followed_by m.declarations.count (get_or wide.rows at no_declaration)) at (omega arith) in
    let e : Rest m.declarations (changed wide at (followed_by m.declarations.count (get_or wide.rows at no_declaration))) = record { rows = b.rows ∙ a.rows; length_is = b.length_is ∙ a.length_is } in
    search (rules, same_rest)

part_rest : (m : Memory) (p : Part) → PartRoom m p → RestKept m (part_in m p)
part_rest m (part.Dependency d) r = search (rules, same_rest, pushed_rest)
part_rest m (part.Declaration k d) r = go (eqb (first_declared m) 4294967295) refl
  where
    go : (b : Bool) → eqb (first_declared m) 4294967295 ≡ b → RestKept m (cond b (declared_first m k d) (declared_next m k d))
    go true e = first_rest m k d r
    go false e = next_rest m k d r (eqb-false (first_declared m) 4294967295 e)
part_rest m (part.Reassignment i) r =
    let b = changed_rest m.scopes (reassigning (get_or m.scopes.rows (last_scope m) no_scope)) (last_scope m) (last_below m r) in
    search (rules, same_rest)

node_rest : (m : Memory) (made : Record) (ns : Stored NodeRow) (x : Node) → OpenRoom m x → NodePut m.nodes m.innermost made ns → RestKept m (node_in m ns x)
node_rest m made ns x r p =
    go x r (record { rows = subst (λ (n : ℕ). drop n ns.rows ≡ drop n m.nodes.rows) (sym p.count) p.rest; length_is = p.long })
  where
    go : (x : Node) → OpenRoom m x → Rest m.nodes ns → RestKept m (node_in m ns x)
    go node.Body r n = search (rules, same_rest)
    go (node.Add o v t) r n = search (rules, same_rest)
    go (node.Terminal k o v) r n = search (rules, same_rest)
    go node.Arm r n = search (rules, same_rest)
    go (node.Scope k) r n =
        let b = changed_rest m.scopes (standing (get_or m.scopes.rows k no_scope)) k r.put in
        search (rules, same_rest)
    go (node.Pruned k) r n = search (rules, same_rest)

-- an entry's write leaves the rows past those that are put
pub wrote_rest : (m : Memory) (made : Record) (e : Entry) (after : Memory) → EntryRoom m e → Wrote m made e after → RestKept m after
wrote_rest m made (entry.Put p) after r w = subst (λ (y : Memory). RestKept m y) (sym w) (put_rest m p)
wrote_rest m made (entry.Part p) after r w = subst (λ (y : Memory). RestKept m y) (sym w) (part_rest m p r)
wrote_rest m made (entry.Value v) after r w = subst (λ (y : Memory). RestKept m y) (sym w) (search (rules, same_rest, pushed_rest))
wrote_rest m made (entry.Node x) after r w = subst (λ (y : Memory). RestKept m y) (sym w.is) (node_rest m made after.nodes x r.opens w.put)
wrote_rest m made entry.Close after r w = subst (λ (y : Memory). RestKept m y) (sym w) (search (rules, same_rest))
wrote_rest m made entry.List after r w = subst (λ (y : Memory). RestKept m y) (sym w) (search (rules, same_rest))
