-- The first reason that fits, by the tests on the tables.
use Rattle.std.proofs.Common.{◌≡◌, Bool, cond, not, List, Some, None, Option, sym, ap, ◌∙◌}
use Rattle.screen.specs.State.{State, Rows}
use Rattle.screen.specs.Named.{named}
use Rattle.screen.specs.Refused.{used, deep, no_room, misplaced, crowded, refused_by, refused_of, top_of, statuses}
use Rattle.screen.specs.declared.scope.Status.{Status}
use Rattle.screen.specs.declared.entry.Entry.{Entry}
use Rattle.screen.specs.declared.answer.Refusal.{Refusal}
use Rattle.screen.specs.declared.answer.Refusal.TheVariants as refusal
use Rattle.sheet.specs.Tables.{Memory, items}
use Rattle.sheet.specs.Planted.{statuses_of}
use Rattle.sheet.specs.Holds.{rows_of, Holds}
use Rattle.sheet.proofs.Sounding.{holds_statuses}

-- the first of six tests that says no
abbrev first_of : Bool → Bool → Bool → Bool → Bool → Bool → Option Refusal
first_of a b c d e f =
    cond (not a) (Some refusal.Row) (cond b (Some refusal.Used) (cond c (Some refusal.Deep) (cond d (Some refusal.Full) (cond e (Some refusal.Place) (cond f (Some refusal.Open) None)))))

-- the tests on the tables are those on the sheet
pub refused_held : (m : Memory) (σ : State) (e : Entry) → Holds m σ → (a b c d f g : Bool) → named (rows_of m) (statuses_of (items m.scopes)) e ≡ a → used (rows_of m) (statuses_of (items m.scopes)) e ≡ b
    → deep (rows_of m) e ≡ c → no_room (rows_of m) (statuses_of (items m.scopes)) e ≡ d → misplaced (top_of σ) σ.opened e ≡ f → crowded σ.opened e ≡ g → refused_of σ e ≡ first_of a b c d f g
refused_held m σ e h a b c d f g p q r s t u =
    ap (λ (w : Rows). refused_by w (statuses σ.scopes) (top_of σ) σ.opened e) (sym h.rows) ∙ ap (λ (ss : List Status). refused_by (rows_of m) ss (top_of σ) σ.opened e) (sym (holds_statuses m σ h))
    ∙ ap (λ x. first_of x (used W S e) (deep W e) (no_room W S e) (misplaced (top_of σ) σ.opened e) (crowded σ.opened e)) p
    ∙ ap (λ x. first_of a x (deep W e) (no_room W S e) (misplaced (top_of σ) σ.opened e) (crowded σ.opened e)) q
    ∙ ap (λ x. first_of a b x (no_room W S e) (misplaced (top_of σ) σ.opened e) (crowded σ.opened e)) r
    ∙ ap (λ x. first_of a b c x (misplaced (top_of σ) σ.opened e) (crowded σ.opened e)) s
    ∙ ap (λ x. first_of a b c d x (crowded σ.opened e)) t
    ∙ ap (λ x. first_of a b c d f x) u
  where
    W : Rows
    W = rows_of m

    S : List Status
    S = statuses_of (items m.scopes)
