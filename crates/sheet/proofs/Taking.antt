-- One record on tables that hold a sheet.
use Rattle.std.proofs.Common.{◌≡◌, ℕ, ◌<◌, ◌≤◌, List, [], ◌∷◌, ◌++◌, map, length, drop, Some, None, Option, Ok, Err, ok_or, sym, refl, ap, ◌∙◌, subst, arith}
use Rattle.screen.specs.State.{State, Scope}
use Rattle.screen.specs.Forest.{Forest, body, cnt}
use Rattle.screen.specs.Standing.{openings}
use Rattle.screen.specs.Lines.{lines_of}
use Rattle.block.specs.declared.record.Record.{Record}
use Rattle.screen.specs.Entries.{entry_of}
use Rattle.screen.specs.Step.{Outcome, after, answer_to, asked, refusing, taking, step, listing}
use Rattle.screen.specs.declared.entry.Entry.{Entry}
use Rattle.screen.specs.declared.entry.Entry.TheVariants as entry
use Rattle.screen.specs.declared.answer.Answer.TheVariants.{Accepted, Listed}
use Rattle.screen.specs.declared.answer.Refusal.{Refusal}
use Rattle.screen.specs.declared.answer.Refusal.TheVariants as refusal
use Rattle.screen.specs.Refused.{statuses, refused_of}
use Rattle.sheet.specs.declared.rows.NodeRow.{NodeRow}
use Rattle.sheet.specs.declared.rows.ScopeRow.{ScopeRow}
use Rattle.sheet.specs.declared.rows.DeclarationRow.{DeclarationRow}
use Rattle.sheet.specs.Tables.{Memory, WorkMemory, items}
use Rattle.sheet.specs.Links.{Links}
use Rattle.sheet.specs.Listed.{ends_of}
use Rattle.sheet.specs.Chains.{ScopesHeld}
use Rattle.sheet.specs.Holds.{Holds}
use Rattle.sheet.specs.Kept.{Long, RestKept}
use Rattle.sheet.specs.Takes.{Takes, with_lines}
use Rattle.sheet.proofs.Planting.{planted_once}
use Rattle.sheet.proofs.Listing.{named_by_rows}
use Rattle.sheet.proofs.Storing.{items_many}
use Rattle.sheet.proofs.Sounding.{holds_rows, holds_fitted, node_scopes}

-- a record that asks for an entry, by what reading it answered
pub entry_is : (o : Option Entry) (e : Entry) → Ok e ≡ ok_or o refusal.Field → o ≡ Some e
entry_is None e h = cc
entry_is (Some x) e h = cc

-- where the Scopes end, by their rows
pub ends_held : (S : List ScopeRow) (D : List DeclarationRow) (rs : List ScopeRow) (ss : List Scope) → ScopesHeld S D rs ss → ends_of rs ≡ map (λ k. k.end) ss
ends_held S D [] [] h = refl
ends_held S D [] (k ∷ ks) h = absurd h
ends_held S D (r ∷ rs) [] h = absurd h
ends_held S D (r ∷ rs) (k ∷ ks) h = ap (λ x. x ∷ ends_of rs) h.0.end_is ∙ ap (λ xs. k.end ∷ xs) (ends_held S D rs ks h.1)

-- a tree that a list can be made of
abbrev pub Listable : List NodeRow → ℕ → Type 0
Listable rows n = (f : Forest) × Links rows 4294967295 (body f) × ((k : ℕ) → cnt k (body f) ≤ 1) × ((k : ℕ) → 0 < openings k f → k < n)

module _ (m : Memory) (σ : State) (h : Holds m σ) where
  pub held_once : (k : ℕ) → cnt k (body σ.tree) ≤ 1
  held_once = planted_once (items m.nodes) (statuses σ.scopes) m.innermost σ.tree σ.opened h.planted

  pub listable : Listable (items m.nodes) (length (items m.scopes))
  listable = (
    σ.tree,
    h.planted.links,
    held_once,
    λ k i. named_by_rows (items m.nodes) 4294967295 (length (items m.scopes)) (body σ.tree) h.planted.links (node_scopes m h.counts (holds_rows m σ h)) k (omega arith),
  )

  pub few_nodes : length (items m.nodes) ≤ 1024
  few_nodes = omega (arith, items_many m.nodes h.counts.nodes, (holds_fitted m σ h).nodes)

  -- the lines that are written are those of the sheet
  pub lines_held : lines_of (ends_of (items m.scopes)) 1 σ.tree ≡ listing σ
  lines_held = ap (λ es. lines_of es 1 σ.tree) (ends_held (items m.scopes) (items m.declarations) (items m.scopes) σ.scopes h.chained.held)

-- an accepted entry's step
pub step_taken : (σ : State) (x : Record) (e : Entry) → entry_of x ≡ Some e → refused_of σ e ≡ None → step σ x ≡ record { answer = Ok (answer_to σ e); sheet = after σ e }
step_taken σ x e h r = ap (asked σ) h ∙ ap (taking σ e) r

pub answer_plain : (σ : State) (e : Entry) → (e ≡ entry.List → ⊥) → answer_to σ e ≡ Accepted
answer_plain σ (entry.Put p) n = refl
answer_plain σ (entry.Part p) n = refl
answer_plain σ (entry.Value v) n = refl
answer_plain σ (entry.Node x) n = refl
answer_plain σ entry.Close n = refl
answer_plain σ entry.List n = absurd (n refl)

-- a record that wrote what it asks for
pub takes_written : (σ : State) (x : Record) (e : Entry) (new : Memory) (w : WorkMemory) → entry_of x ≡ Some e → refused_of σ e ≡ None → (e ≡ entry.List → ⊥) → Holds new (after σ e) → Takes σ x new w w (Ok Accepted)
takes_written σ x e new w h r n k =
    record {
      answer = sym (ap (λ (o : Outcome). o.answer) (step_taken σ x e h r) ∙ ap Ok (answer_plain σ e n));
      holds = subst (λ (o : Outcome). Holds new o.sheet) (sym (step_taken σ x e h r)) k;
      lines = refl;
    }

-- a table that is as long as it was is long enough still
pub long_rest : (old new : Memory) → RestKept old new → Long old → Long new
long_rest old new r l =
    record {
      types = omega (arith, r.types.length_is, l.types);
      identifiers = omega (arith, r.identifiers.length_is, l.identifiers);
      paths = omega (arith, r.paths.length_is, l.paths);
      scopes = omega (arith, r.scopes.length_is, l.scopes);
      dependencies = omega (arith, r.dependencies.length_is, l.dependencies);
      declarations = omega (arith, r.declarations.length_is, l.declarations);
      reads = omega (arith, r.reads.length_is, l.reads);
      values = omega (arith, r.values.length_is, l.values);
      shapes = omega (arith, r.shapes.length_is, l.shapes);
      nodes = omega (arith, r.nodes.length_is, l.nodes);
    }

-- a record that asks for nothing, or whose entry is refused
pub step_unread : (σ : State) (x : Record) (r : Refusal) → Err r ≡ ok_or (entry_of x) refusal.Field → step σ x ≡ refusing σ r
step_unread σ x r h = go (entry_of x) h
  where
    go : (o : Option Entry) → Err r ≡ ok_or o refusal.Field → asked σ o ≡ refusing σ r
    go None e = cc
    go (Some y) e = cc

pub step_refused : (σ : State) (x : Record) (e : Entry) (r : Refusal) → entry_of x ≡ Some e → refused_of σ e ≡ Some r → step σ x ≡ refusing σ r
step_refused σ x e r h t = ap (asked σ) h ∙ ap (taking σ e) t

pub takes_refused : (σ : State) (x : Record) (m : Memory) (w : WorkMemory) (r : Refusal) → step σ x ≡ refusing σ r → Holds m σ → Takes σ x m w w (Err r)
takes_refused σ x m w r s h = record { answer = sym (ap (λ (o : Outcome). o.answer) s); holds = subst (λ (o : Outcome). Holds m o.sheet) (sym s) h; lines = refl }

-- a record that lists the tree
pub takes_listed : (σ : State) (x : Record) (m : Memory) (w w' : WorkMemory) (n : ℕ) → entry_of x ≡ Some entry.List → refused_of σ entry.List ≡ None → Holds m σ
    → (n ≡ length (listing σ)) × (w' ≡ with_lines w (listing σ ++ drop n w.lines)) → Takes σ x m w w' (Ok (Listed n))
takes_listed σ x m w w' n h r k l =
    record {
      answer = ap (λ i. Ok (Listed i)) l.0 ∙ sym (ap (λ (o : Outcome). o.answer) (step_taken σ x entry.List h r));
      holds = subst (λ (o : Outcome). Holds m o.sheet) (sym (step_taken σ x entry.List h r)) k;
      lines = l.1;
    }
