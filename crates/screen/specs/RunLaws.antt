-- The laws over runs: over every list of steps from a new sheet, refused ones among the rest.
use Rattle.std.specs.Prelude.{◌≡◌, ℕ, zero, suc, ◌+◌, ◌<◌, true, false, List, ◌∷◌, ◌++◌, length, Err, ◌≢◌}
use Rattle.screen.specs.Forest.{Forest, bare, tree}
use Rattle.screen.specs.Rules.{Meaning}
use Rattle.screen.specs.State.{State}
use Rattle.screen.specs.Statuses.{is_standing, is_joined}
use Rattle.screen.specs.Lists.{member}
use Rattle.screen.specs.LastUse.{last_use}
use Rattle.screen.specs.Found.{scope_at, entries_of, found_of}
use Rattle.screen.specs.Course.{start}
use Rattle.screen.specs.Joining.{eligible}
use Rattle.screen.specs.Neighbours.{Beside, Behind, UsedBefore}
use Rattle.screen.specs.Merge.{merge_of}
use Rattle.screen.specs.MergeLaws.{is_flattened, how_many, FlattenedBy, SameAsAbove, JoinedBy, found_without}
use Rattle.screen.specs.WellFormed.{WellFormed}
use Rattle.block.specs.declared.record.Record.{Record}
use Rattle.screen.specs.Step.{refusing, step}
use Rattle.screen.specs.Runs.{answered, merged, is_merge, step_by, Asked, rule_of, step_of, after_run, heard_in, log_of, reading_open, scope_opens, sum_joined, sum_flattened}
use Rattle.screen.specs.declared.answer.Refusal.TheVariants.{Unsound, Field}
use Rattle.screen.specs.declared.scope.Status.TheVariants as status

-- no node of a forest lies over so many levels down
abbrev pub Within : ℕ → Forest → Type 0
Within room bare = Unit {0}
Within zero (tree n x cs ss) = ⊥
Within (suc room) (tree n x cs ss) = Within room cs × Within (suc room) ss

-- every sheet that a run reaches, at its end or on its way, is well-formed, with no node over 64 levels below the body.
-- That is what tables have to hold to be sound; and of the steps themselves, none answers that they are not
pub record FormedThroughout (h : List Asked) : Type 0 where
  pub formed : (before later : List Asked) → h ≡ before ++ later → WellFormed (after_run before)
  pub levels : (before later : List Asked) → h ≡ before ++ later → Within 64 (after_run before).tree
  pub sound : (before : List Asked) (a : Asked) (later : List Asked) → h ≡ before ++ a ∷ later → (step_of (after_run before) a).reply ≢ answered (Err Unsound)

-- the tree without its Scopes reads as the log
abbrev pub ReadsAsLog : List Asked → Type 0
ReadsAsLog h = reading_open (after_run h).opened (after_run h).tree ≡ (log_of h).items

-- each Scope that was opened stands, or is joined or flattened; and these are as many as the Merges answered
pub record OpensAddUp (h : List Asked) : Type 0 where
  pub opens : scope_opens (heard_in h) ≡ how_many is_standing (after_run h).scopes + sum_joined (heard_in h) + sum_flattened (heard_in h)
  pub joined : sum_joined (heard_in h) ≡ how_many is_joined (after_run h).scopes
  pub flattened : sum_flattened (heard_in h) ≡ how_many is_flattened (after_run h).scopes

-- a Merge by the rule m, of the sheet σ that it found
pub record MergeLawful (m : Meaning) (σ : State) : Type 0 where
  -- it flattens a Scope exactly when that stood, and the rule calls the nearest Scope above, as found, and it the same
  pub flattened : (k : ℕ) → k < length σ.scopes → (FlattenedBy m σ k → SameAsAbove m σ k) × (SameAsAbove m σ k → FlattenedBy m σ k)
  -- the targets between a joined Scope and the Scope before it are last used before its end, and its keeper's, or never
  pub targets : (b : ℕ) (ts : List ℕ) → Behind (found_of m σ) b ts (found_without m σ) → JoinedBy m σ b →
      UsedBefore (last_use σ) (scope_at (merge_of m σ).sheet b).end ts
      × ((k : ℕ) → member b (scope_at (merge_of m σ).sheet k).merged ≡ true → UsedBefore (last_use σ) (scope_at (merge_of m σ).sheet k).end ts)
  -- Scopes side by side with the same entries, no reassignments and an eligible first do not both outlast it
  pub sides : (a b : ℕ) → Beside a b (found_without m σ) → entries_of σ a ≡ entries_of σ b →
      (scope_at σ a).reassigns ≡ false → (scope_at σ b).reassigns ≡ false → eligible (found_of m σ) (start σ) a ≡ true →
      (scope_at (merge_of m σ).sheet a).status ≡ status.Standing → (scope_at (merge_of m σ).sheet b).status ≢ status.Standing

-- an accepted Merge after these steps: it leaves what a Merge by its rule makes of the sheet found, answers that one's numbers, and is lawful
pub record MergedLawfully (before : List Asked) (a : Asked) (joined flattened : ℕ) : Type 0 where
  pub left : (step_of (after_run before) a).sheet ≡ (merge_of (rule_of a) (after_run before)).sheet
  pub joins : joined ≡ (merge_of (rule_of a) (after_run before)).joined
  pub flattens : flattened ≡ (merge_of (rule_of a) (after_run before)).flattened
  pub lawful : MergeLawful (rule_of a) (after_run before)

-- so it is for each accepted Merge of a run
abbrev pub MergesLawful : List Asked → Type 0
MergesLawful h =
    (before : List Asked) (a : Asked) (later : List Asked) (j f : ℕ) → h ≡ before ++ a ∷ later → (step_of (after_run before) a).reply ≡ merged j f →
    MergedLawfully before a j f

-- all of them, of one run
pub record Lawful (h : List Asked) : Type 0 where
  pub formed : FormedThroughout h
  pub reads : ReadsAsLog h
  pub opens : OpensAddUp h
  pub merges : MergesLawful h

abbrev pub AlwaysFormed : Type 0
AlwaysFormed = (h : List Asked) → FormedThroughout h

abbrev pub AlwaysReadAsLog : Type 0
AlwaysReadAsLog = (h : List Asked) → ReadsAsLog h

abbrev pub OpensAlwaysAddUp : Type 0
OpensAlwaysAddUp = (h : List Asked) → OpensAddUp h

abbrev pub MergesAlwaysLawful : Type 0
MergesAlwaysLawful = (h : List Asked) → MergesLawful h

abbrev pub RunsAreLawful : Type 0
RunsAreLawful = (h : List Asked) → Lawful h

-- what is built on the tables so far: a run's step, but for a Merge, which is refused with 7
pub record StepButMerge : Type 0 where
  pub others : (first second : Meaning) (σ : State) (x : Record) → is_merge x ≡ false → step_by first second σ x ≡ record { reply = answered (step σ x).answer; sheet = (step σ x).sheet }
  pub merges : (σ : State) (x : Record) → is_merge x ≡ true → step σ x ≡ refusing σ Field
