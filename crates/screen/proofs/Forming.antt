-- A sheet that records build is well-formed: a new one is, and each accepted entry keeps it so.
use Rattle.std.proofs.Common.{◌≡◌, ℕ, zero, suc, ◌+◌, ◌-◌, ◌<◌, ◌≤◌, true, false, not, ◌&&◌, List, [], ◌∷◌, length, get_or, set, Some, None, Option, sym, refl, ap, ◌∙◌, subst, arith, length-set}
use Rattle.std.proofs.lemmas.List.{length_push}
use Rattle.std.proofs.lemmas.Bool.{and_parts, not-false, ltb-true, leb-false, false≢true}
use Rattle.block.specs.declared.record.Record.{Record}
use Rattle.screen.specs.Lists.{every, is_put}
use Rattle.screen.specs.Entries.{entry_of}
use Rattle.screen.specs.Forest.{Forest, bare, tree, body, cnt, can_hold}
use Rattle.screen.specs.State.{State, Rows, Scope, new}
use Rattle.screen.specs.Statuses.{is_unused}
use Rattle.screen.specs.Standing.{reached, opening, openings, Labelled, Standing}
use Rattle.screen.specs.Named.{node_named}
use Rattle.screen.specs.Users.{names_in, namings, taken}
use Rattle.screen.specs.Refused.{statuses, top_of, refused_of}
use Rattle.screen.specs.Step.{also, reassigned, declaring, altered_last, after, taking, asked, step}
use Rattle.screen.specs.WellFormed.{node_listed, nodes_kept, RowsKept, ScopesKept, WellFormed}
use Rattle.screen.specs.declared.node.Node.{Node}
use Rattle.screen.specs.declared.node.Node.TheVariants as node
use Rattle.screen.specs.declared.scope.Status.{Status}
use Rattle.screen.specs.declared.scope.Status.TheVariants.{Unused, Standing as Stood, Joined, Flattened}
use Rattle.screen.specs.declared.rows.IdentifierRow.{IdentifierRow}
use Rattle.screen.specs.declared.rows.ValueRow.{ValueRow}
use Rattle.screen.specs.declared.answer.Refusal.{Refusal}
use Rattle.screen.specs.declared.entry.Entry.{Entry}
use Rattle.screen.specs.declared.entry.Entry.TheVariants as entry
use Rattle.screen.specs.declared.entry.Put.{Put}
use Rattle.screen.specs.declared.entry.Put.TheVariants as put
use Rattle.screen.specs.declared.entry.Part.{Part}
use Rattle.screen.specs.declared.entry.Part.TheVariants as part
use Rattle.screen.proofs.Counts.{same_other}
use Rattle.screen.proofs.StandingGrown.{standing_add, standing_open, standing_scope, standing_closed, standing_fresh}
use Rattle.screen.proofs.Entered.{keeps, entered}
use Rattle.screen.proofs.Scoping.{statuses_kept, statuses_stood, statuses_fresh, scopes_declaring, scopes_reassigned, scopes_stood, scopes_dependency, scopes_fresh}
use Rattle.screen.proofs.Accepting.{Accepted, accepted}
use Rattle.screen.proofs.Filling.{type_put, identifier_put, path_put, dependency_put, declaration_put, read_put, shape_put, value_put, node_put, scope_put}

-- a sheet does not refuse the entry
abbrev pub Accepts : State → Entry → Type 0
Accepts σ e = Accepted σ.rows (statuses σ.scopes) (top_of σ) σ.opened e

-- a node that names put rows did not open a Scope that is yet to come
named_opening : (is : List IdentifierRow) (vs : List ValueRow) (ss : List Status) (k : ℕ) → length ss ≤ k → (x : Node) → node_named is vs ss x ≡ true → opening k x ≡ 0
named_opening is vs ss k l node.Body h = refl
named_opening is vs ss k l (node.Add o v t) h = refl
named_opening is vs ss k l (node.Terminal j o v) h = refl
named_opening is vs ss k l node.Arm h = refl
named_opening is vs ss k l (node.Scope j) h = same_other k j (λ e. omega (arith, ltb-true j (length ss) h))
named_opening is vs ss k l (node.Pruned j) h = refl

module _ (is : List IdentifierRow) (vs : List ValueRow) (ss : List Status) (k : ℕ) (l : length ss ≤ k) where
  among_opening : (xs : List Node) (n : ℕ) → n < length xs → every (λ x. node_listed x && node_named is vs ss x) xs ≡ true → opening k (get_or xs n node.Body) ≡ 0
  among_opening [] n m h = absurd (omega arith)
  among_opening (x ∷ xs) zero m h =
      let a = and_parts (node_listed x && node_named is vs ss x) (every (λ x. node_listed x && node_named is vs ss x) xs) h in
      named_opening is vs ss k l x (and_parts (node_listed x) (node_named is vs ss x) a.0).1
  among_opening (x ∷ xs) (suc n) m h =
      among_opening xs n (omega arith) (and_parts (node_listed x && node_named is vs ss x) (every (λ x. node_listed x && node_named is vs ss x) xs) h).1

  kept_opening : (xs : List Node) (n : ℕ) → n < length xs → nodes_kept is vs ss xs ≡ true → opening k (get_or xs n node.Body) ≡ 0
  kept_opening [] n m h = absurd (omega arith)
  kept_opening (node.Body ∷ xs) zero m h = refl
  kept_opening (node.Body ∷ xs) (suc n) m h = among_opening xs n (omega arith) h
  kept_opening (node.Add o v t ∷ xs) n m h = absurd (false≢true h)
  kept_opening (node.Terminal j o v ∷ xs) n m h = absurd (false≢true h)
  kept_opening (node.Arm ∷ xs) n m h = absurd (false≢true h)
  kept_opening (node.Scope j ∷ xs) n m h = absurd (false≢true h)
  kept_opening (node.Pruned j ∷ xs) n m h = absurd (false≢true h)

  -- nor did any node of a tree of such nodes
  pub kept_openings : (xs : List Node) → nodes_kept is vs ss xs ≡ true → (f : Forest) → Labelled xs f → openings k f ≡ 0
  kept_openings xs h bare t = refl
  kept_openings xs h (tree n x cs us) t =
      omega (arith, sym (ap (opening k) t.1) ∙ kept_opening xs n t.0 h, kept_openings xs h cs t.2, kept_openings xs h us t.3)

-- a Scope that is not in use is unused
pub is_unused_lem : (s : Status) → not (is_unused s) ≡ false → s ≡ Unused
is_unused_lem Unused h = refl
is_unused_lem Stood h = absurd (false≢true (sym h))
is_unused_lem Joined h = absurd (false≢true (sym h))
is_unused_lem Flattened h = absurd (false≢true (sym h))

module _ (σ : State) (h : WellFormed σ) where
  formed_put : (p : Put) → keeps (entry.Put p) ≡ true → Accepts σ (entry.Put p) → WellFormed (after σ (entry.Put p))
  formed_put (put.Type k s) _ a = record { rows = type_put σ.rows (statuses σ.scopes) h.rows k s a.room_is; scopes = h.scopes; tree = h.tree }
  formed_put (put.Identifier i) k a = record { rows = identifier_put σ.rows (statuses σ.scopes) h.rows i a.room_is k a.named_is; scopes = h.scopes; tree = h.tree }
  formed_put (put.Path low high k o) _ a = record { rows = path_put σ.rows (statuses σ.scopes) h.rows low high k o a.room_is; scopes = h.scopes; tree = h.tree }
  formed_put (put.Read r) k a = record { rows = read_put σ.rows (statuses σ.scopes) h.rows r a.room_is a.named_is; scopes = h.scopes; tree = h.tree }
  formed_put (put.Shape s) k a = record { rows = shape_put σ.rows (statuses σ.scopes) h.rows s a.room_is k; scopes = h.scopes; tree = h.tree }
  formed_put (put.Scope start end) k a =
      let w : Rows = σ.rows in
      let ss : List Status = statuses σ.scopes in
      let e = statuses_fresh σ.scopes start end (length w.dependencies) in
      let none : openings (length ss) (body σ.tree) ≡ 0 = kept_openings w.identifiers w.values ss (length ss) (omega arith) w.nodes h.rows.nodes (body σ.tree) h.tree.labelled in
      record {
        rows = subst (λ (ts : List Status). RowsKept w ts) (sym e) (scope_put w ss h.rows a.room_is);
        scopes = scopes_fresh σ.scopes (length w.dependencies) (length w.declarations) start end k h.scopes;
        tree = subst (λ (ts : List Status). Standing w.nodes ts σ.tree σ.opened) (sym e) (standing_fresh w.nodes ss σ.tree σ.opened h.tree (omega (arith, none)));
      }

  -- a part needs a Scope to belong to
  some_scope : (p : Part) → Accepts σ (entry.Part p) → is_put (statuses σ.scopes) 0 ≡ true
  some_scope p a = (and_parts (is_put (statuses σ.scopes) 0) _ a.named_is).0

  -- the last Scope changed, but not how it stands
  last_rows : (f : Scope → Scope) → ((s : Scope) → (f s).status ≡ s.status) → (w : Rows) → RowsKept w (statuses σ.scopes) → RowsKept w (statuses (altered_last σ.scopes f))
  last_rows f e w r = subst (λ (ts : List Status). RowsKept w ts) (sym (statuses_kept f e σ.scopes (length σ.scopes - 1))) r

  last_tree : (f : Scope → Scope) → ((s : Scope) → (f s).status ≡ s.status) → Standing σ.rows.nodes (statuses (altered_last σ.scopes f)) σ.tree σ.opened
  last_tree f e = subst (λ (ts : List Status). Standing σ.rows.nodes ts σ.tree σ.opened) (sym (statuses_kept f e σ.scopes (length σ.scopes - 1))) h.tree

  formed_part : (p : Part) → keeps (entry.Part p) ≡ true → Accepts σ (entry.Part p) → WellFormed (after σ (entry.Part p))
  formed_part (part.Dependency d) k a =
      record {
        rows = dependency_put σ.rows (statuses σ.scopes) h.rows d a.room_is k a.named_is;
        scopes = subst (λ (n : ℕ). ScopesKept σ.scopes n (length σ.rows.declarations)) (sym (length_push σ.rows.dependencies d))
            (scopes_dependency σ.scopes (length σ.rows.dependencies) (length σ.rows.declarations) (some_scope (part.Dependency d) a) h.scopes);
        tree = h.tree;
      }
  formed_part (part.Declaration key declared) k a =
      let n : ℕ = length σ.rows.declarations in
      record {
        rows = last_rows (declaring n) (λ s. refl) _ (declaration_put σ.rows (statuses σ.scopes) h.rows (record { key = key; declared = declared }) a.room_is a.named_is);
        scopes = subst (λ (m : ℕ). ScopesKept (altered_last σ.scopes (declaring n)) (length σ.rows.dependencies) m) (sym (length_push σ.rows.declarations (record { key = key; declared = declared })))
            (scopes_declaring σ.scopes (length σ.rows.dependencies) n (some_scope (part.Declaration key declared) a) h.scopes);
        tree = last_tree (declaring n) (λ s. refl);
      }
  formed_part (part.Reassignment i) k a =
      record {
        rows = last_rows reassigned (λ s. refl) σ.rows h.rows;
        scopes = scopes_reassigned σ.scopes (length σ.rows.dependencies) (length σ.rows.declarations) h.scopes;
        tree = last_tree reassigned (λ s. refl);
      }

  -- the innermost open node can hold it
  held : (x : Node) → Accepts σ (entry.Node x) → can_hold (top_of σ) x ≡ true
  held x a = not-false (can_hold (top_of σ) x) a.placed_is

  -- a node that opens no Scope
  plain_rows : (x : Node) → node_listed x ≡ true → taken (namings σ.rows.values σ.rows.nodes) (names_in x) ≡ false → Accepts σ (entry.Node x)
      → RowsKept (after σ (entry.Node x)).rows (statuses σ.scopes)
  plain_rows x k free a = node_put σ.rows (statuses σ.scopes) h.rows (statuses σ.scopes) x refl a.room_is k a.named_is free

  formed_node : (x : Node) → keeps (entry.Node x) ≡ true → Accepts σ (entry.Node x) → WellFormed (after σ (entry.Node x))
  formed_node node.Body k a = absurd (false≢true k)
  formed_node (node.Add o v t) k a =
      record {
        rows = plain_rows (node.Add o v t) k a.used_is a;
        scopes = h.scopes;
        tree = standing_add σ.rows.nodes (statuses σ.scopes) σ.tree σ.opened h.tree (length σ.rows.nodes) (node.Add o v t) refl (held (node.Add o v t) a) refl;
      }
  formed_node (node.Terminal j o v) k a =
      record {
        rows = plain_rows (node.Terminal j o v) k a.used_is a;
        scopes = h.scopes;
        tree = standing_open σ.rows.nodes (statuses σ.scopes) σ.tree σ.opened h.tree (length σ.rows.nodes) (node.Terminal j o v) refl (held (node.Terminal j o v) a) refl refl
            (leb-false 63 σ.opened a.crowded_is);
      }
  formed_node node.Arm k a =
      record {
        rows = plain_rows node.Arm k refl a;
        scopes = h.scopes;
        tree = standing_open σ.rows.nodes (statuses σ.scopes) σ.tree σ.opened h.tree (length σ.rows.nodes) node.Arm refl (held node.Arm a) refl refl (leb-false 63 σ.opened a.crowded_is);
      }
  formed_node (node.Pruned j) k a =
      record {
        rows = plain_rows (node.Pruned j) k refl a;
        scopes = h.scopes;
        tree = standing_open σ.rows.nodes (statuses σ.scopes) σ.tree σ.opened h.tree (length σ.rows.nodes) (node.Pruned j) refl (held (node.Pruned j) a) refl refl
            (leb-false 63 σ.opened a.crowded_is);
      }
  formed_node (node.Scope j) k a =
      let w : Rows = σ.rows in
      let ss : List Status = statuses σ.scopes in
      let within : j < length ss = ltb-true j (length ss) a.named_is in
      let unused : get_or ss j Unused ≡ Unused = is_unused_lem (get_or ss j Unused) a.used_is in
      let e = statuses_stood σ.scopes j in
      record {
        rows = subst (λ (ts : List Status). RowsKept (after σ (entry.Node (node.Scope j))).rows ts) (sym e)
            (node_put w ss h.rows (set ss j Stood) (node.Scope j) (length-set ss j Stood) a.room_is refl a.named_is refl);
        scopes = scopes_stood σ.scopes j (length w.dependencies) (length w.declarations) within unused h.scopes;
        tree = subst (λ (ts : List Status). Standing (also w.nodes (node.Scope j)) ts (after σ (entry.Node (node.Scope j))).tree (σ.opened + 1)) (sym e)
            (standing_scope w.nodes ss σ.tree σ.opened h.tree (length w.nodes) j refl (held (node.Scope j) a) within unused (leb-false 63 σ.opened a.crowded_is));
      }

  formed : (e : Entry) → keeps e ≡ true → Accepts σ e → WellFormed (after σ e)
  formed (entry.Put p) k a = formed_put p k a
  formed (entry.Part p) k a = formed_part p k a
  formed (entry.Value v) k a = record { rows = value_put σ.rows (statuses σ.scopes) h.rows v a.room_is k a.named_is a.used_is a.deep_is; scopes = h.scopes; tree = h.tree }
  formed (entry.Node x) k a = formed_node x k a
  formed entry.Close k a = record { rows = h.rows; scopes = h.scopes; tree = standing_closed σ.rows.nodes (statuses σ.scopes) σ.tree σ.opened h.tree }
  formed entry.List k a = record { rows = h.rows; scopes = h.scopes; tree = h.tree }

-- an accepted entry keeps a sheet well-formed
pub formed_after : (σ : State) (x : Record) (e : Entry) → WellFormed σ → entry_of x ≡ Some e → refused_of σ e ≡ None → WellFormed (after σ e)
formed_after σ x e h is ok = formed σ h e (entered x e is) (accepted σ.rows (statuses σ.scopes) (top_of σ) σ.opened e ok)

-- so does a record, whatever it asks for
pub formed_step : (σ : State) (x : Record) → WellFormed σ → WellFormed (step σ x).sheet
formed_step σ x h = go (entry_of x) refl
  where
    taken_on : (e : Entry) → entry_of x ≡ Some e → (r : Option Refusal) → refused_of σ e ≡ r → WellFormed (taking σ e r).sheet
    taken_on e is None ok = formed_after σ x e h is ok
    taken_on e is (Some r) ok = h

    go : (o : Option Entry) → entry_of x ≡ o → WellFormed (asked σ o).sheet
    go None is = h
    go (Some e) is = taken_on e is (refused_of σ e) refl

-- a new sheet is well-formed
pub formed_new : WellFormed new
formed_new =
    record {
      rows = record {
        fitting = refl;
        types = refl;
        identifiers = refl;
        paths = refl;
        dependencies = refl;
        declarations = refl;
        reads = refl;
        values = refl;
        levels = refl;
        shapes = refl;
        nodes = refl;
        users = refl;
      };
      scopes = record { ranges = refl; spans = refl; declared = refl; declarations_put = refl; merged = refl; merged_put = refl; joined = λ k l. absurd (omega arith) };
      tree = record { labelled = (omega arith, refl, tt, tt); once = once; stands = λ k l. absurd (omega arith); holds = refl; levels = refl; last = refl; few = omega arith };
    }
  where
    once : (k : ℕ) → k < 1 → cnt k (body bare) ≡ reached [] (get_or (node.Body ∷ []) k node.Body)
    once zero l = refl
    once (suc k) l = absurd (omega arith)
