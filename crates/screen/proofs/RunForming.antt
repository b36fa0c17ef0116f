-- Every sheet that a run reaches is well-formed, and each accepted Merge of a run is lawful.
use Rattle.std.proofs.Common.{◌≡◌, ℕ, zero, suc, Bool, true, false, cond, not, ◌&&◌, List, [], ◌∷◌, Some, None, Err, Option, refl, arith}
use Rattle.std.proofs.lemmas.Bool.{and_parts, false≢true}
use Rattle.block.specs.declared.record.Record.{Record}
use Rattle.screen.specs.Entries.{entry_of}
use Rattle.screen.specs.Forest.{Forest, bare, tree, is_add, can_hold, held, shallow}
use Rattle.screen.specs.Named.{named}
use Rattle.screen.specs.Refused.{statuses, used, deep, no_room, misplaced, crowded, top_of, refused_of}
use Rattle.screen.specs.Rules.{Meaning}
use Rattle.screen.specs.State.{State, new}
use Rattle.screen.specs.Step.{taking, asked, step}
use Rattle.screen.specs.Merge.{merge_of}
use Rattle.screen.specs.WellFormed.{WellFormed}
use Rattle.screen.specs.Runs.{answered, merged, is_merge, merge_at, step_if, Asked, rule_of, step_of, after_from, after_run}
use Rattle.screen.specs.RunLaws.{Within, MergeLawful, AlwaysFormed, MergesAlwaysLawful}
use Rattle.screen.specs.declared.node.Node.{Node}
use Rattle.screen.specs.declared.node.Node.TheVariants as node
use Rattle.screen.specs.declared.scope.Status.{Status}
use Rattle.screen.specs.declared.entry.Entry.{Entry}
use Rattle.screen.specs.declared.answer.Refusal.{Refusal}
use Rattle.screen.specs.declared.answer.Refusal.TheVariants.{Unsound}
use Rattle.screen.proofs.Forming.{formed_new, formed_step}
use Rattle.screen.proofs.MergeFormed.{formed_after}
use Rattle.screen.proofs.MergeFlats.{flattened_exactly}
use Rattle.screen.proofs.MergeNeighbours.{targets_used, never_both}

formed_merge : (m : Meaning) (σ : State) (o : ℕ) → σ.opened ≡ o → WellFormed σ → WellFormed (merge_at m σ o).sheet
formed_merge m σ zero e w = formed_after m σ w e
formed_merge m σ (suc o) e w = w

formed_if : (b : Bool) (m : Meaning) (σ : State) (x : Record) → WellFormed σ → WellFormed (step_if b m σ x).sheet
formed_if true m σ x w = formed_merge m σ σ.opened refl w
formed_if false m σ x w = formed_step σ x w

pub formed_of : (σ : State) (a : Asked) → WellFormed σ → WellFormed (step_of σ a).sheet
formed_of σ a w = formed_if (is_merge a.asks) (rule_of a) σ a.asks w

formed_from : (σ : State) (h : List Asked) → WellFormed σ → WellFormed (after_from σ h)
formed_from σ [] w = w
formed_from σ (a ∷ h) w = formed_from (step_of σ a).sheet h (formed_of σ a w)

pub formed_run : (h : List Asked) → WellFormed (after_run h)
formed_run h = formed_from new h formed_new

-- an Add's node holds nothing
childless : (x : Node) (f : Forest) → is_add x ≡ true → held x f ≡ true → Within 0 f
childless x bare a h = tt
childless node.Body (tree n y cs ss) a h = absurd (false≢true a)
childless (node.Add o v t) (tree n y cs ss) a h = absurd (false≢true h)
childless (node.Terminal k o v) (tree n y cs ss) a h = absurd (false≢true a)
childless node.Arm (tree n y cs ss) a h = absurd (false≢true a)
childless (node.Scope k) (tree n y cs ss) a h = absurd (false≢true a)
childless (node.Pruned k) (tree n y cs ss) a h = absurd (false≢true a)

-- so only its node lies one level below the others
within : (r : ℕ) (p : Node) (f : Forest) → shallow r f ≡ true → held p f ≡ true → Within (suc r) f
within r p bare s h = tt
within zero p (tree n x cs ss) s h =
    let a = and_parts (is_add x && shallow zero cs) (shallow zero ss) s in
    let b = and_parts (can_hold p x && held x cs) (held p ss) h in
    (childless x cs (and_parts (is_add x) (shallow zero cs) a.0).0 (and_parts (can_hold p x) (held x cs) b.0).1, within zero p ss a.1 b.1)
within (suc r) p (tree n x cs ss) s h =
    let a = and_parts (shallow r cs) (shallow (suc r) ss) s in
    let b = and_parts (can_hold p x && held x cs) (held p ss) h in
    (within r x cs a.0 (and_parts (can_hold p x) (held x cs) b.0).1, within (suc r) p ss a.1 b.1)

-- no reason to refuse is that the tables are not sound
next_reason : (b : Bool) (r : Refusal) (rest : Option Refusal) → (r ≡ Unsound → ⊥) → cond b (Some r) rest ≡ Some Unsound → rest ≡ Some Unsound
next_reason true r rest n e = absurd (n cc)
next_reason false r rest n e = e

sound_entry : (σ : State) (e : Entry) → refused_of σ e ≡ Some Unsound → ⊥
sound_entry σ e h =
    let ss : List Status = statuses σ.scopes in
    let a = next_reason (not (named σ.rows ss e)) _ _ (λ q. let z : ◌≡◌ {A = ℕ} 0 1 = cc in omega arith) h in
    let b = next_reason (used σ.rows ss e) _ _ (λ q. let z : ◌≡◌ {A = ℕ} 0 1 = cc in omega arith) a in
    let c = next_reason (deep σ.rows e) _ _ (λ q. let z : ◌≡◌ {A = ℕ} 0 1 = cc in omega arith) b in
    let d = next_reason (no_room σ.rows ss e) _ _ (λ q. let z : ◌≡◌ {A = ℕ} 0 1 = cc in omega arith) c in
    let f = next_reason (misplaced (top_of σ) σ.opened e) _ _ (λ q. let z : ◌≡◌ {A = ℕ} 0 1 = cc in omega arith) d in
    let g : ◌≡◌ {A = Option Refusal} None (Some Unsound) = next_reason (crowded σ.opened e) _ None (λ q. let z : ◌≡◌ {A = ℕ} 0 1 = cc in omega arith) f in
    let z : ◌≡◌ {A = ℕ} 0 1 = cc in
    omega arith

sound_step : (σ : State) (x : Record) → (step σ x).answer ≡ Err Unsound → ⊥
sound_step σ x = go (entry_of x)
  where
    took : (e : Entry) (r : Option Refusal) → refused_of σ e ≡ r → (taking σ e r).answer ≡ Err Unsound → ⊥
    took e None is h = let z : ◌≡◌ {A = ℕ} 0 1 = cc in omega arith
    took e (Some r) is h = sound_entry σ e cc

    go : (o : Option Entry) → (asked σ o).answer ≡ Err Unsound → ⊥
    go None h = let z : ◌≡◌ {A = ℕ} 0 1 = cc in omega arith
    go (Some e) h = took e (refused_of σ e) refl h

sound_merge : (m : Meaning) (σ : State) (o : ℕ) → (merge_at m σ o).reply ≡ answered (Err Unsound) → ⊥
sound_merge m σ zero h = let z : ◌≡◌ {A = ℕ} 0 1 = cc in omega arith
sound_merge m σ (suc o) h = let z : ◌≡◌ {A = ℕ} 0 1 = cc in omega arith

sound_if : (b : Bool) (m : Meaning) (σ : State) (x : Record) → (step_if b m σ x).reply ≡ answered (Err Unsound) → ⊥
sound_if true m σ x h = sound_merge m σ σ.opened h
sound_if false m σ x h = sound_step σ x cc

pub always_formed : AlwaysFormed
always_formed h =
    record {
      formed = λ before later e. formed_run before;
      levels = λ before later e. within 63 node.Body (after_run before).tree (formed_run before).tree.levels (formed_run before).tree.holds;
      sound = λ before a later e. sound_if (is_merge a.asks) (rule_of a) (after_run before) a.asks;
    }

-- what an accepted Merge leaves and answers
record Took (m : Meaning) (σ left : State) (j f : ℕ) : Type 0 where
  sheet : left ≡ (merge_of m σ).sheet
  joins : j ≡ (merge_of m σ).joined
  flattens : f ≡ (merge_of m σ).flattened

took_at : (m : Meaning) (σ : State) (o j f : ℕ) → (merge_at m σ o).reply ≡ merged j f → Took m σ (merge_at m σ o).sheet j f
took_at m σ zero j f e = record { sheet = refl; joins = cc; flattens = cc }
took_at m σ (suc o) j f e = absurd (let z : ◌≡◌ {A = ℕ} 0 1 = cc in omega arith)

took_if : (b : Bool) (m : Meaning) (σ : State) (x : Record) (j f : ℕ) → (step_if b m σ x).reply ≡ merged j f → Took m σ (step_if b m σ x).sheet j f
took_if true m σ x j f e = took_at m σ σ.opened j f e
took_if false m σ x j f e = absurd (let z : ◌≡◌ {A = ℕ} 0 1 = cc in omega arith)

lawful_merge : (m : Meaning) (σ : State) → WellFormed σ → MergeLawful m σ
lawful_merge m σ w =
    record {
      flattened = λ k l. flattened_exactly m σ k w l;
      targets = λ b ts. targets_used m σ b ts w;
      sides = λ a b. never_both m σ a b w;
    }

pub merges_always_lawful : MergesAlwaysLawful
merges_always_lawful h before a later j f e r =
    let t : Took (rule_of a) (after_run before) (step_of (after_run before) a).sheet j f = took_if (is_merge a.asks) (rule_of a) (after_run before) a.asks j f r in
    record { left = t.sheet; joins = t.joins; flattens = t.flattens; lawful = lawful_merge (rule_of a) (after_run before) (formed_run before) }
