-- Over a run, the tree without its Scopes reads as the log.
use Rattle.std.proofs.Common.{◌≡◌, ℕ, zero, suc, ◌+◌, ◌-◌, Bool, true, false, List, [], ◌∷◌, ◌++◌, length, Some, None, Option, sym, refl, ap, ◌∙◌, subst, add-one, sub-one}
use Rattle.std.proofs.lemmas.List.{append_assoc, append-nil}
use Rattle.std.proofs.lemmas.Bool.{false≢true}
use Rattle.block.specs.declared.record.Record.{Record}
use Rattle.screen.specs.Entries.{entry_of}
use Rattle.screen.specs.Forest.{Forest, bare, tree}
use Rattle.screen.specs.Open.{opens, grow}
use Rattle.screen.specs.Reading.{Item, entered, wrapped, reading}
use Rattle.screen.specs.Refused.{refused_of}
use Rattle.screen.specs.Rules.{Meaning}
use Rattle.screen.specs.State.{State, new}
use Rattle.screen.specs.Step.{after, taking, asked, step}
use Rattle.screen.specs.Merge.{merge_of}
use Rattle.screen.specs.WellFormed.{WellFormed}
use Rattle.screen.specs.Runs.{answered, is_merge, merge_at, step_if, Asked, rule_of, step_of, after_from, heard_from, Log, new_log, shown, ended, let_go, logged_entry, fed, log_from, reading_open}
use Rattle.screen.specs.RunLaws.{AlwaysReadAsLog}
use Rattle.screen.specs.declared.node.Node.{Node}
use Rattle.screen.specs.declared.node.Node.TheVariants as node
use Rattle.screen.specs.declared.entry.Entry.{Entry}
use Rattle.screen.specs.declared.entry.Entry.TheVariants as entry
use Rattle.screen.specs.declared.answer.Refusal.{Refusal}
use Rattle.screen.proofs.Grown.{inside}
use Rattle.screen.proofs.Forming.{formed_new}
use Rattle.screen.proofs.MergeReading.{reading_join, reads_same}
use Rattle.screen.proofs.RunForming.{formed_of}

-- a node's reading: what it shows, its content, and its end
wrapped_parts : (x : Node) (l : List Item) → wrapped x l ≡ shown x ++ (l ++ ended x)
wrapped_parts node.Body l = refl
wrapped_parts (node.Add o v t) l = ap (λ z. entered (node.Add o v t) ∷ z) (sym (append-nil l))
wrapped_parts (node.Terminal k o v) l = refl
wrapped_parts node.Arm l = refl
wrapped_parts (node.Scope k) l = sym (append-nil l)
wrapped_parts (node.Pruned k) l = refl

-- a node with a later sibling is not open
reading_next : (e d n : ℕ) (x : Node) (m : ℕ) (y : Node) (cs : Forest) (j : ℕ) (z : Node) (ds ts : Forest)
    → reading_open (suc e) (tree m y cs (grow (suc d) n x (tree j z ds ts))) ≡ wrapped y (reading cs) ++ reading_open (suc e) (grow (suc d) n x (tree j z ds ts))
reading_next e d n x m y cs j z ds bare = refl
reading_next e d n x m y cs j z ds (tree i w es us) = refl

-- more at the end of what follows
further : (a b c l : List Item) → b ≡ c ++ l → a ++ b ≡ (a ++ c) ++ l
further a b c l e = ap (λ z. a ++ z) e ∙ sym (append_assoc a c l)

-- a new node that is closed at once
grow_shut : (d n : ℕ) (x : Node) (f : Forest) → opens d f ≡ true → reading_open d (grow d n x f) ≡ reading_open d f ++ wrapped x []
grow_shut zero n x f h = reading_join f (tree n x bare bare) ∙ ap (λ l. reading f ++ l) (append-nil (wrapped x []))
grow_shut (suc d) n x bare h = absurd (false≢true h)
grow_shut (suc d) n x (tree m y cs bare) h = further (shown y) (reading_open d (grow d n x cs)) (reading_open d cs) (wrapped x []) (grow_shut d n x cs (inside d m y cs h))
grow_shut (suc d) n x (tree m y cs (tree j z ds ts)) h =
    reading_next d d n x m y cs j z ds ts
    ∙ further (wrapped y (reading cs)) (reading_open (suc d) (grow (suc d) n x (tree j z ds ts))) (reading_open (suc d) (tree j z ds ts)) (wrapped x []) (grow_shut (suc d) n x (tree j z ds ts) h)

-- a new node that is open
grow_open : (d n : ℕ) (x : Node) (f : Forest) → opens d f ≡ true → reading_open (suc d) (grow d n x f) ≡ reading_open d f ++ shown x
grow_open zero n x bare h = append-nil (shown x)
grow_open zero n x (tree m y cs bare) h = further (wrapped y (reading cs)) (shown x ++ []) [] (shown x) (append-nil (shown x))
grow_open zero n x (tree m y cs (tree j z ds ts)) h =
    further (wrapped y (reading cs)) (reading_open 1 (grow zero n x (tree j z ds ts))) (reading (tree j z ds ts)) (shown x) (grow_open zero n x (tree j z ds ts) h)
grow_open (suc d) n x bare h = absurd (false≢true h)
grow_open (suc d) n x (tree m y cs bare) h = further (shown y) (reading_open (suc d) (grow d n x cs)) (reading_open d cs) (shown x) (grow_open d n x cs (inside d m y cs h))
grow_open (suc d) n x (tree m y cs (tree j z ds ts)) h =
    reading_next (suc d) d n x m y cs j z ds ts
    ∙ further (wrapped y (reading cs)) (reading_open (suc (suc d)) (grow (suc d) n x (tree j z ds ts))) (reading_open (suc d) (tree j z ds ts)) (shown x) (grow_open (suc d) n x (tree j z ds ts) h)

-- the open nodes, the innermost first, before those above
abbrev road : ℕ → Forest → List Node → List Node
road zero f above = above
road (suc d) bare above = above
road (suc d) (tree m y cs bare) above = road d cs (y ∷ above)
road (suc d) (tree m y cs (tree k z ds ts)) above = road (suc d) (tree k z ds ts) above

road_next : (e d n : ℕ) (x : Node) (m : ℕ) (y : Node) (cs : Forest) (j : ℕ) (z : Node) (ds ts : Forest) (above : List Node)
    → road (suc e) (tree m y cs (grow (suc d) n x (tree j z ds ts))) above ≡ road (suc e) (grow (suc d) n x (tree j z ds ts)) above
road_next e d n x m y cs j z ds bare above = refl
road_next e d n x m y cs j z ds (tree i w es us) above = refl

road_shut : (d n : ℕ) (x : Node) (f : Forest) (above : List Node) → opens d f ≡ true → road d (grow d n x f) above ≡ road d f above
road_shut zero n x f above h = refl
road_shut (suc d) n x bare above h = absurd (false≢true h)
road_shut (suc d) n x (tree m y cs bare) above h = road_shut d n x cs (y ∷ above) (inside d m y cs h)
road_shut (suc d) n x (tree m y cs (tree j z ds ts)) above h = road_next d d n x m y cs j z ds ts above ∙ road_shut (suc d) n x (tree j z ds ts) above h

road_open : (d n : ℕ) (x : Node) (f : Forest) (above : List Node) → opens d f ≡ true → road (suc d) (grow d n x f) above ≡ x ∷ road d f above
road_open zero n x bare above h = refl
road_open zero n x (tree m y cs bare) above h = refl
road_open zero n x (tree m y cs (tree j z ds ts)) above h = road_open zero n x (tree j z ds ts) above h
road_open (suc d) n x bare above h = absurd (false≢true h)
road_open (suc d) n x (tree m y cs bare) above h = road_open d n x cs (y ∷ above) (inside d m y cs h)
road_open (suc d) n x (tree m y cs (tree j z ds ts)) above h = road_next (suc d) d n x m y cs j z ds ts above ∙ road_open (suc d) n x (tree j z ds ts) above h

-- the innermost open node is closed: it ends the reading
record Closing (d : ℕ) (f : Forest) (above : List Node) : Type 0 where
  last : Node
  rest : road (suc d) f above ≡ last ∷ road d f above
  reads : reading_open d f ≡ reading_open (suc d) f ++ ended last

closing : (d : ℕ) (f : Forest) (above : List Node) → opens (suc d) f ≡ true → Closing d f above
closing d bare above h = absurd (false≢true h)
closing zero (tree m y cs bare) above h =
    record { last = y; rest = refl; reads = append-nil (wrapped y (reading cs)) ∙ (wrapped_parts y (reading cs) ∙ sym (append_assoc (shown y) (reading cs) (ended y))) }
closing zero (tree m y cs (tree j z ds ts)) above h =
    let c = closing zero (tree j z ds ts) above h in
    record { last = c.last; rest = c.rest; reads = further (wrapped y (reading cs)) (reading (tree j z ds ts)) (reading_open 1 (tree j z ds ts)) (ended c.last) c.reads }
closing (suc d) (tree m y cs bare) above h =
    let c = closing d cs (y ∷ above) (inside (suc d) m y cs h) in
    record { last = c.last; rest = c.rest; reads = further (shown y) (reading_open d cs) (reading_open (suc d) cs) (ended c.last) c.reads }
closing (suc d) (tree m y cs (tree j z ds ts)) above h =
    let c = closing (suc d) (tree j z ds ts) above h in
    record { last = c.last; rest = c.rest; reads = further (wrapped y (reading cs)) (reading_open (suc d) (tree j z ds ts)) (reading_open (suc (suc d)) (tree j z ds ts)) (ended c.last) c.reads }

-- the log follows a tree, of which o nodes are open: it reads the same, and the open nodes are those held
record Follows (o : ℕ) (f : Forest) (l : Log) : Type 0 where
  items : reading_open o f ≡ l.items
  held : road o f [] ≡ l.held

abbrev Followed : State → Log → Type 0
Followed σ l = Follows σ.opened σ.tree l

follows_add : (o n : ℕ) (x : Node) (f : Forest) (l : Log) → opens o f ≡ true → wrapped x [] ≡ shown x → Follows o f l → Follows o (grow o n x f) (record { items = l.items ++ shown x; held = l.held })
follows_add o n x f l h e w =
    record {
      items = grow_shut o n x f h ∙ (ap (λ z. reading_open o f ++ z) e ∙ ap (λ z. z ++ shown x) w.items);
      held = road_shut o n x f [] h ∙ w.held;
    }

follows_open : (o n : ℕ) (x : Node) (f : Forest) (l : Log) → opens o f ≡ true → Follows o f l → Follows (o + 1) (grow o n x f) (record { items = l.items ++ shown x; held = x ∷ l.held })
follows_open o n x f l h w =
    rw add-one (record { items = grow_open o n x f h ∙ ap (λ z. z ++ shown x) w.items; held = road_open o n x f [] h ∙ ap (λ z. x ∷ z) w.held })

follows_close : (o : ℕ) (f : Forest) (l : Log) → opens o f ≡ true → Follows o f l → Follows (o - 1) f (let_go l.items l.held)
follows_close zero f l h w = subst (λ (xs : List Node). Follows 0 f (let_go l.items xs)) w.held (record { items = w.items; held = refl })
follows_close (suc o) f l h w =
    let c = closing o f [] h in
    let go : Follows o f (let_go l.items (c.last ∷ road o f [])) = record { items = c.reads ∙ ap (λ z. z ++ ended c.last) w.items; held = refl } in
    rw sub-one (subst (λ (xs : List Node). Follows o f (let_go l.items xs)) (sym c.rest ∙ w.held) go)

followed_node : (σ : State) (l : Log) (x : Node) → WellFormed σ → Followed σ l → Followed (after σ (entry.Node x)) (logged_entry l (entry.Node x))
followed_node σ l node.Body w h = follows_open σ.opened (length σ.rows.nodes) node.Body σ.tree l w.tree.last h
followed_node σ l (node.Add o v t) w h = follows_add σ.opened (length σ.rows.nodes) (node.Add o v t) σ.tree l w.tree.last refl h
followed_node σ l (node.Terminal k o v) w h = follows_open σ.opened (length σ.rows.nodes) (node.Terminal k o v) σ.tree l w.tree.last h
followed_node σ l node.Arm w h = follows_open σ.opened (length σ.rows.nodes) node.Arm σ.tree l w.tree.last h
followed_node σ l (node.Scope k) w h = follows_open σ.opened (length σ.rows.nodes) (node.Scope k) σ.tree l w.tree.last h
followed_node σ l (node.Pruned k) w h = follows_open σ.opened (length σ.rows.nodes) (node.Pruned k) σ.tree l w.tree.last h

followed_entry : (σ : State) (l : Log) (e : Entry) → WellFormed σ → Followed σ l → Followed (after σ e) (logged_entry l e)
followed_entry σ l (entry.Put p) w h = h
followed_entry σ l (entry.Part p) w h = h
followed_entry σ l (entry.Value v) w h = h
followed_entry σ l (entry.Node x) w h = followed_node σ l x w h
followed_entry σ l entry.Close w h = follows_close σ.opened σ.tree l w.tree.last h
followed_entry σ l entry.List w h = h

-- any record but a Merge
followed_step : (σ : State) (l : Log) (x : Record) → WellFormed σ → Followed σ l → Followed (step σ x).sheet (fed l x (answered (step σ x).answer))
followed_step σ l x w h = go (entry_of x) refl
  where
    took : (e : Entry) → entry_of x ≡ Some e → (r : Option Refusal) → Followed (taking σ e r).sheet (fed l x (answered (taking σ e r).answer))
    took e is None = rw is (followed_entry σ l e w h)
    took e is (Some r) = h

    go : (o : Option Entry) → entry_of x ≡ o → Followed (asked σ o).sheet (fed l x (answered (asked σ o).answer))
    go None is = h
    go (Some e) is = took e is (refused_of σ e)

-- a Merge finds only the body open, and the reading stays
followed_merge : (m : Meaning) (σ : State) (l : Log) (x : Record) (o : ℕ) → σ.opened ≡ o → Followed σ l → Followed (merge_at m σ o).sheet (fed l x (merge_at m σ o).reply)
followed_merge m σ l x zero e h =
    let t : Forest = (merge_of m σ).sheet.tree in
    record {
      items = ap (λ o. reading_open o t) e ∙ (reads_same m σ ∙ (sym (ap (λ o. reading_open o σ.tree) e) ∙ h.items));
      held = ap (λ o. road o t []) e ∙ (sym (ap (λ o. road o σ.tree []) e) ∙ h.held);
    }
followed_merge m σ l x (suc o) e h = h

followed_if : (b : Bool) (m : Meaning) (σ : State) (l : Log) (x : Record) → WellFormed σ → Followed σ l → Followed (step_if b m σ x).sheet (fed l x (step_if b m σ x).reply)
followed_if true m σ l x w h = followed_merge m σ l x σ.opened refl h
followed_if false m σ l x w h = followed_step σ l x w h

followed_from : (σ : State) (l : Log) (h : List Asked) → WellFormed σ → Followed σ l → Followed (after_from σ h) (log_from l (heard_from σ h))
followed_from σ l [] w f = f
followed_from σ l (a ∷ h) w f =
    followed_from (step_of σ a).sheet (fed l a.asks (step_of σ a).reply) h (formed_of σ a w) (followed_if (is_merge a.asks) (rule_of a) σ l a.asks w f)

pub always_read_as_log : AlwaysReadAsLog
always_read_as_log h = (followed_from new new_log h formed_new (record { items = refl; held = refl })).items
