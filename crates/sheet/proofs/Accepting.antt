-- All sheets that the tables hold stand and refuse alike.
use Rattle.std.proofs.Common.{◌≡◌, ℕ, zero, suc, List, [], ◌∷◌, sym, refl, ap, ◌∙◌}
use Rattle.screen.specs.declared.node.Node.{Node}
use Rattle.screen.specs.declared.scope.Status.{Status}
use Rattle.screen.specs.declared.entry.Entry.{Entry}
use Rattle.screen.specs.Forest.{Forest}
use Rattle.screen.specs.State.{State, Rows, Scope}
use Rattle.screen.specs.Refused.{statuses, refused_by, top_of, refused_of}
use Rattle.sheet.specs.declared.rows.ScopeRow.{ScopeRow}
use Rattle.sheet.specs.declared.rows.DeclarationRow.{DeclarationRow}
use Rattle.sheet.specs.declared.rows.NodeRow.{NodeRow}
use Rattle.sheet.specs.Tables.{Memory, items}
use Rattle.sheet.specs.Chains.{ScopesHeld}
use Rattle.sheet.specs.Links.{row}
use Rattle.sheet.specs.Planted.{statuses_of, Planted}
use Rattle.sheet.specs.Holds.{Holds}
use Rattle.sheet.proofs.Climbing.{innermost_node, innermost_body, only_body, planted_up}

-- how the Scopes stand, by their rows
pub statuses_are : (S : List ScopeRow) (D : List DeclarationRow) (rs : List ScopeRow) (ss : List Scope) → ScopesHeld S D rs ss → statuses_of rs ≡ statuses ss
statuses_are S D [] [] h = refl
statuses_are S D [] (k ∷ ks) h = absurd h
statuses_are S D (r ∷ rs) [] h = absurd h
statuses_are S D (r ∷ rs) (k ∷ ks) h = cc (h.0.status_is, statuses_are S D rs ks h.1)

-- the rows say how many nodes are open
pub opened_same : (rows : List NodeRow) (ss tt' : List Status) (at : ℕ) (f g : Forest) (o p : ℕ) → Planted rows ss at f o → Planted rows tt' at g p → o ≡ p
opened_same rows ss ts at f g zero p h k = sym (only_body rows ts at g p k (innermost_body rows ss at f zero h refl))
opened_same rows ss ts at f g (suc o) zero h k = only_body rows ss at f (suc o) h (innermost_body rows ts at g zero k refl)
opened_same rows ss ts at f g (suc o) (suc p) h k = ap suc (opened_same rows ss ts (row rows at).parent f g o p (planted_up rows ss at f o h) (planted_up rows ts at g p k))

-- all sheets that the tables hold refuse the same
pub same_refused : (m : Memory) (σ τ : State) (e : Entry) → Holds m σ → Holds m τ → refused_of σ e ≡ refused_of τ e
same_refused m σ τ e h k =
    let rows : σ.rows ≡ τ.rows = sym h.rows ∙ k.rows in
    let S = items m.scopes in
    let D = items m.declarations in
    let stand : statuses σ.scopes ≡ statuses τ.scopes = sym (statuses_are S D S σ.scopes h.chained.held) ∙ statuses_are S D S τ.scopes k.chained.held in
    let N = items m.nodes in
    let top : top_of σ ≡ top_of τ =
    sym (innermost_node N (statuses σ.scopes) m.innermost σ.tree σ.opened h.planted) ∙ innermost_node N (statuses τ.scopes) m.innermost τ.tree τ.opened k.planted in
    let many : σ.opened ≡ τ.opened = opened_same N (statuses σ.scopes) (statuses τ.scopes) m.innermost σ.tree τ.tree σ.opened τ.opened h.planted k.planted in
    ap (λ (w : Rows). refused_by w (statuses σ.scopes) (top_of σ) σ.opened e) rows
    ∙ ap (λ (ss : List Status). refused_by τ.rows ss (top_of σ) σ.opened e) stand
    ∙ ap (λ (t : Node). refused_by τ.rows (statuses τ.scopes) t σ.opened e) top
    ∙ ap (λ (o : ℕ). refused_by τ.rows (statuses τ.scopes) (top_of τ) o e) many
