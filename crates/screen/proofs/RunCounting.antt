-- Over a run, each Scope that was opened stands, or is joined or flattened.
use Rattle.std.proofs.Common.{◌≡◌, ℕ, zero, suc, ◌+◌, ◌-◌, ◌<◌, Bool, true, false, cond, List, [], ◌∷◌, ◌++◌, length, get_or, set, Some, None, Option, sym, refl, ap, ◌∙◌, arith}
use Rattle.std.proofs.lemmas.Bool.{ltb-true}
use Rattle.block.specs.declared.record.Record.{Record}
use Rattle.screen.specs.Entries.{entry_of}
use Rattle.screen.specs.Rules.{Meaning}
use Rattle.screen.specs.State.{State, Scope, new}
use Rattle.screen.specs.Statuses.{is_standing, is_joined}
use Rattle.screen.specs.Refused.{statuses, top_of, refused_of}
use Rattle.screen.specs.Step.{also, altered, stood, reassigned, declaring, after, taking, asked, step}
use Rattle.screen.specs.WellFormed.{WellFormed}
use Rattle.screen.specs.MergeLaws.{is_flattened, how_many}
use Rattle.screen.specs.Runs.{Reply, answered, is_merge, merge_at, step_if, Asked, rule_of, step_of, after_from, heard_from, opens_entry, opens_scope, joined_by, flattened_by, scope_opens, sum_joined, sum_flattened}
use Rattle.screen.specs.RunLaws.{OpensAlwaysAddUp}
use Rattle.screen.specs.declared.node.Node.TheVariants as node
use Rattle.screen.specs.declared.scope.Status.{Status}
use Rattle.screen.specs.declared.scope.Status.TheVariants.{Unused, Standing}
use Rattle.screen.specs.declared.entry.Entry.{Entry}
use Rattle.screen.specs.declared.entry.Entry.TheVariants as entry
use Rattle.screen.specs.declared.entry.Put.TheVariants as put
use Rattle.screen.specs.declared.entry.Part.TheVariants as part
use Rattle.screen.specs.declared.answer.Refusal.{Refusal}
use Rattle.screen.proofs.Accepting.{accepted}
use Rattle.screen.proofs.Forming.{Accepts, formed_new, is_unused_lem}
use Rattle.screen.proofs.Scoping.{statuses_kept, statuses_stood, statuses_fresh}
use Rattle.screen.proofs.Fates.{counts_add_up}
use Rattle.screen.proofs.RunForming.{formed_of}

-- how many of these statuses pass
abbrev counted : (Status → Bool) → List Status → ℕ
counted q [] = 0
counted q (s ∷ ss) = cond (q s) 1 0 + counted q ss

many_statuses : (q : Status → Bool) (ss : List Scope) → how_many q ss ≡ counted q (statuses ss)
many_statuses q [] = refl
many_statuses q (s ∷ ss) = ap (λ n. cond (q s.status) 1 0 + n) (many_statuses q ss)

counted_push : (q : Status → Bool) (ss : List Status) (s : Status) → counted q (ss ++ s ∷ []) ≡ counted q ss + cond (q s) 1 0
counted_push q [] s = omega arith
counted_push q (t ∷ ss) s = omega (arith, counted_push q ss s)

counted_set : (q : Status → Bool) (ss : List Status) (k : ℕ) (s : Status) → k < length ss → counted q (set ss k s) + cond (q (get_or ss k Unused)) 1 0 ≡ counted q ss + cond (q s) 1 0
counted_set q [] k s l = absurd (omega arith)
counted_set q (t ∷ ss) zero s l = omega arith
counted_set q (t ∷ ss) (suc k) s l = omega (arith, counted_set q ss k s (omega arith))

-- the Scopes before and after: so many were opened, joined and flattened
record Tally (ss ts : List Scope) (o j f : ℕ) : Type 0 where
  standing : how_many is_standing ts + j + f ≡ how_many is_standing ss + o
  joined : how_many is_joined ts ≡ how_many is_joined ss + j
  flattened : how_many is_flattened ts ≡ how_many is_flattened ss + f

tally_none : (ss : List Scope) → Tally ss ss 0 0 0
tally_none ss = record { standing = omega arith; joined = omega arith; flattened = omega arith }

tally_then : {ss ts us : List Scope} {o j f o' j' f' : ℕ} → Tally ss ts o j f → Tally ts us o' j' f' → Tally ss us (o + o') (j + j') (f + f')
tally_then a b =
    record {
      standing = omega (arith, a.standing, b.standing);
      joined = omega (arith, a.joined, b.joined);
      flattened = omega (arith, a.flattened, b.flattened);
    }

-- the same statuses
tally_alike : (ss ts : List Scope) → statuses ts ≡ statuses ss → Tally ss ts 0 0 0
tally_alike ss ts e = record { standing = omega (arith, many is_standing); joined = omega (arith, many is_joined); flattened = omega (arith, many is_flattened) }
  where
    many : (q : Status → Bool) → how_many q ts ≡ how_many q ss
    many q = many_statuses q ts ∙ (ap (counted q) e ∙ sym (many_statuses q ss))

-- one Scope more, unused
tally_fresh : (ss : List Scope) (t : Scope) → statuses (also ss t) ≡ statuses ss ++ Unused ∷ [] → Tally ss (also ss t) 0 0 0
tally_fresh ss t e = record { standing = omega (arith, many is_standing refl); joined = omega (arith, many is_joined refl); flattened = omega (arith, many is_flattened refl) }
  where
    many : (q : Status → Bool) → q Unused ≡ false → how_many q (also ss t) ≡ how_many q ss
    many q u = many_statuses q (also ss t) ∙ (ap (counted q) e ∙ (counted_push q (statuses ss) Unused ∙ (ap (λ b. counted q (statuses ss) + cond b 1 0) u ∙ (omega (arith, many_statuses q ss)))))

-- an unused Scope stands
tally_stood : (ss : List Scope) (k : ℕ) → k < length (statuses ss) → get_or (statuses ss) k Unused ≡ Unused → Tally ss (altered ss k stood) 1 0 0
tally_stood ss k l u =
    record {
      standing = omega (arith, many is_standing);
      joined = omega (arith, many is_joined);
      flattened = omega (arith, many is_flattened);
    }
  where
    many : (q : Status → Bool) → how_many q (altered ss k stood) + cond (q Unused) 1 0 ≡ how_many q ss + cond (q Standing) 1 0
    many q =
        let a : how_many q (altered ss k stood) ≡ counted q (set (statuses ss) k Standing) = many_statuses q (altered ss k stood) ∙ ap (counted q) (statuses_stood ss k) in
        let b : counted q (set (statuses ss) k Standing) + cond (q (get_or (statuses ss) k Unused)) 1 0 ≡ counted q (statuses ss) + cond (q Standing) 1 0 = counted_set q (statuses ss) k Standing l in
        let c : ◌≡◌ {A = ℕ} (cond (q (get_or (statuses ss) k Unused)) 1 0) (cond (q Unused) 1 0) = ap (λ s. cond (q s) 1 0) u in
        omega (arith, a, b, c, many_statuses q ss)

tally_entry : (σ : State) (e : Entry) → Accepts σ e → Tally σ.scopes (after σ e).scopes (opens_entry e) 0 0
tally_entry σ (entry.Put (put.Type k s)) a = tally_none σ.scopes
tally_entry σ (entry.Put (put.Identifier i)) a = tally_none σ.scopes
tally_entry σ (entry.Put (put.Path l h k o)) a = tally_none σ.scopes
tally_entry σ (entry.Put (put.Scope b z)) a = tally_fresh σ.scopes _ (statuses_fresh σ.scopes b z (length σ.rows.dependencies))
tally_entry σ (entry.Put (put.Read r)) a = tally_none σ.scopes
tally_entry σ (entry.Put (put.Shape s)) a = tally_none σ.scopes
tally_entry σ (entry.Part (part.Dependency d)) a = tally_none σ.scopes
tally_entry σ (entry.Part (part.Declaration k d)) a =
    tally_alike σ.scopes _ (statuses_kept (declaring (length σ.rows.declarations)) (λ s. refl) σ.scopes (length σ.scopes - 1))
tally_entry σ (entry.Part (part.Reassignment i)) a = tally_alike σ.scopes _ (statuses_kept reassigned (λ s. refl) σ.scopes (length σ.scopes - 1))
tally_entry σ (entry.Value v) a = tally_none σ.scopes
tally_entry σ (entry.Node node.Body) a = tally_none σ.scopes
tally_entry σ (entry.Node (node.Add o v t)) a = tally_none σ.scopes
tally_entry σ (entry.Node (node.Terminal k o v)) a = tally_none σ.scopes
tally_entry σ (entry.Node node.Arm) a = tally_none σ.scopes
tally_entry σ (entry.Node (node.Scope k)) a =
    tally_stood σ.scopes k (ltb-true k (length (statuses σ.scopes)) a.named_is) (is_unused_lem (get_or (statuses σ.scopes) k Unused) a.used_is)
tally_entry σ (entry.Node (node.Pruned k)) a = tally_none σ.scopes
tally_entry σ entry.Close a = tally_none σ.scopes
tally_entry σ entry.List a = tally_none σ.scopes

-- any record but a Merge
tally_step : (σ : State) (x : Record) → Tally σ.scopes (step σ x).sheet.scopes (opens_scope x (answered (step σ x).answer)) 0 0
tally_step σ x = go (entry_of x) refl
  where
    took : (e : Entry) → entry_of x ≡ Some e → (r : Option Refusal) → refused_of σ e ≡ r → Tally σ.scopes (taking σ e r).sheet.scopes (opens_scope x (answered (taking σ e r).answer)) 0 0
    took e is None ok = rw is (tally_entry σ e (accepted σ.rows (statuses σ.scopes) (top_of σ) σ.opened e ok))
    took e is (Some r) ok = tally_none σ.scopes

    go : (o : Option Entry) → entry_of x ≡ o → Tally σ.scopes (asked σ o).sheet.scopes (opens_scope x (answered (asked σ o).answer)) 0 0
    go None is = tally_none σ.scopes
    go (Some e) is = took e is (refused_of σ e) refl

abbrev Told : State → Record → Reply → State → Type 0
Told σ x r τ = Tally σ.scopes τ.scopes (opens_scope x r) (joined_by r) (flattened_by r)

tally_merge : (m : Meaning) (σ : State) (x : Record) (o : ℕ) → WellFormed σ → Told σ x (merge_at m σ o).reply (merge_at m σ o).sheet
tally_merge m σ x zero w =
    let c = counts_add_up m σ w in
    record { standing = omega (arith, c.standing); joined = c.joined; flattened = c.flattened }
tally_merge m σ x (suc o) w = tally_none σ.scopes

tally_if : (b : Bool) (m : Meaning) (σ : State) (x : Record) → WellFormed σ → Told σ x (step_if b m σ x).reply (step_if b m σ x).sheet
tally_if true m σ x w = tally_merge m σ x σ.opened w
tally_if false m σ x w = tally_step σ x

tally_from : (σ : State) (h : List Asked) → WellFormed σ
    → Tally σ.scopes (after_from σ h).scopes (scope_opens (heard_from σ h)) (sum_joined (heard_from σ h)) (sum_flattened (heard_from σ h))
tally_from σ [] w = tally_none σ.scopes
tally_from σ (a ∷ h) w = tally_then (tally_if (is_merge a.asks) (rule_of a) σ a.asks w) (tally_from (step_of σ a).sheet h (formed_of σ a w))

pub opens_always_add_up : OpensAlwaysAddUp
opens_always_add_up h =
    let t = tally_from new h formed_new in
    record { opens = omega (arith, t.standing); joined = omega (arith, t.joined); flattened = omega (arith, t.flattened) }
