-- What it means that an entry is not refused.
use Rattle.std.proofs.Common.{◌≡◌, ℕ, Bool, true, false, cond, not, List, Some, None, Option, refl, arith}
use Rattle.std.proofs.lemmas.Bool.{not-false}
use Rattle.screen.specs.State.{Rows}
use Rattle.screen.specs.Named.{named}
use Rattle.screen.specs.Refused.{used, deep, no_room, misplaced, crowded, refused_by}
use Rattle.screen.specs.declared.node.Node.{Node}
use Rattle.screen.specs.declared.scope.Status.{Status}
use Rattle.screen.specs.declared.entry.Entry.{Entry}
use Rattle.screen.specs.declared.answer.Refusal.{Refusal}
use Rattle.screen.specs.declared.answer.Refusal.TheVariants as refusal

-- no reason fits
pub record Accepted (w : Rows) (ss : List Status) (top : Node) (o : ℕ) (e : Entry) : Type 0 where
  pub named_is : named w ss e ≡ true
  pub used_is : used w ss e ≡ false
  pub deep_is : deep w e ≡ false
  pub room_is : no_room w ss e ≡ false
  pub placed_is : misplaced top o e ≡ false
  pub crowded_is : crowded o e ≡ false

-- a reason that does not fit leaves the next
passes : (b : Bool) (r : Refusal) (x : Option Refusal) → cond b (Some r) x ≡ None → (b ≡ false) × (x ≡ None)
passes true r x h = absurd (let z : ◌≡◌ {A = ℕ} 0 1 = cc in omega arith)
passes false r x h = (refl, h)

-- what is not refused passes each test by itself
pub accepted : (w : Rows) (ss : List Status) (top : Node) (o : ℕ) (e : Entry) → refused_by w ss top o e ≡ None → Accepted w ss top o e
accepted w ss top o e h =
    let a = passes (not (named w ss e)) refusal.Row _ h in
    let b = passes (used w ss e) refusal.Used _ a.1 in
    let c = passes (deep w e) refusal.Deep _ b.1 in
    let d = passes (no_room w ss e) refusal.Full _ c.1 in
    let p = passes (misplaced top o e) refusal.Place _ d.1 in
    record {
      named_is = not-false (named w ss e) a.0;
      used_is = b.0;
      deep_is = c.0;
      room_is = d.0;
      placed_is = p.0;
      crowded_is = (passes (crowded o e) refusal.Open None p.1).0;
    }
