-- The marks of the Scopes that nodes opened, one node further on.
use Rattle.std.proofs.Common.{◌≡◌, ℕ, ◌+◌, ◌<◌, ◌≤◌, Bool, true, false, cond, not, List, length, get_or, replicate, sym, refl, ap, ◌∙◌, subst, arith}
use borrow.Author.Tests.{clash}
use Rattle.std.proofs.lemmas.List.{length-map, get_or-replicate}
use Rattle.std.proofs.lemmas.Bool.{not-false}
use Rattle.screen.specs.declared.node.Node.{Node}
use Rattle.screen.specs.declared.node.Node.TheVariants.{Scope}
use Rattle.screen.specs.declared.scope.Status.{Status}
use Rattle.screen.specs.declared.scope.Status.TheVariants.{Unused, Standing, Joined, Flattened}
use Rattle.screen.specs.Forest.{same}
use Rattle.screen.specs.Standing.{opening}
use Rattle.screen.specs.Statuses.{is_gone, is_standing, status_of}
use Rattle.sheet.specs.declared.rows.NodeRow.{NodeRow}
use Rattle.sheet.specs.declared.rows.ScopeRow.{ScopeRow}
use Rattle.sheet.specs.Planted.{statuses_of}
use Rattle.sheet.specs.Listed.{ScopeBelow}
use Rattle.sheet.specs.Fitting.{ScopesNamed, node_at, status_at, openers, one, OpenedOnce, Marked, may_open}
use Rattle.screen.proofs.Counts.{same_self}
use Rattle.sheet.proofs.Sums.{sum_more, sum_mono}

pub as_long : (scopes : List ScopeRow) → length (statuses_of scopes) ≡ length scopes
as_long scopes = length-map scopes (λ r. status_of r.status)

-- the Scope that a node opened is there
pub named_there : (rows : List NodeRow) (scopes : List ScopeRow) (i j : ℕ) → ScopesNamed rows (length scopes) → i < length rows → node_at rows i ≡ Scope j → j < length (statuses_of scopes)
named_there rows scopes i j h l e =
    let there : j < length scopes = subst (λ (x : Node). ScopeBelow (length scopes) x) e (h i l) in
    omega (arith, there, as_long scopes)

-- before the first node there is no mark
pub marked_first : (rows : List NodeRow) (ss : List Status) (n : ℕ) → length ss ≤ n → Marked rows ss 0 (replicate n false)
marked_first rows ss n few j l g =
    unmarked (is_standing (status_at ss j)) (get_or (replicate n false) j false) (get_or-replicate n j false false (omega arith))
  where
    unmarked : (s m : Bool) → m ≡ false → ◌≡◌ {A = ℕ} 0 (cond s (one m) 0)
    unmarked true m e = sym (ap one e)
    unmarked false m e = refl

module _ (rows : List NodeRow) (ss : List Status) (marks : List Bool) (i : ℕ) (h : Marked rows ss i marks) where
  opened_more : (j k : ℕ) → node_at rows i ≡ Scope j → openers rows (i + 1) k ≡ same k j + openers rows i k
  opened_more j k is =
      let o = ap (λ x. opening k x) is in
      omega (arith, o, sum_more i (λ n. opening k (node_at rows n)))

  -- a node that may not have opened its Scope is one too many
  pub marked_not : (j : ℕ) → i < length rows → node_at rows i ≡ Scope j → j < length ss → may_open ss j marks ≡ false → OpenedOnce rows ss → ⊥
  marked_not j l is m may once = go (status_at ss j) may (h j m) (once j m)
    where
      more : same j j + openers rows i j ≤ openers rows (length rows) j
      more = omega (arith, opened_more j j is, sum_mono (λ n. opening j (node_at rows n)) (i + 1) (length rows) (omega arith))

      go : (t : Status) → cond (is_standing t) (not (get_or marks j false)) (is_gone t) ≡ false
          → (is_gone t ≡ false → openers rows i j ≡ cond (is_standing t) (one (get_or marks j false)) 0)
          → (is_gone t ≡ false → openers rows (length rows) j ≡ one (is_standing t)) → ⊥
      go Unused a b c = omega (arith, more, same_self j, c refl)
      go Standing a b c = omega (arith, more, same_self j, b refl, c refl, ap one (not-false (get_or marks j false) a))
      go Joined a b c = clash (sym a)
      go Flattened a b c = clash (sym a)

-- where all nodes were passed, the marks say whether each Scope that stands was opened
module _ (rows : List NodeRow) (ss : List Status) (marks : List Bool) (h : Marked rows ss (length rows) marks) where
  pub marked_all : ((j : ℕ) → j < length ss → is_standing (status_at ss j) ≡ true → get_or marks j false ≡ true) → OpenedOnce rows ss
  marked_all all j l g = h j l g ∙ go (is_standing (status_at ss j)) (get_or marks j false) (all j l)
    where
      go : (s m : Bool) → (s ≡ true → m ≡ true) → cond s (one m) 0 ≡ one s
      go true m e = ap one (e refl)
      go false m e = refl

  pub all_marked : OpenedOnce rows ss → (j : ℕ) → j < length ss → is_standing (status_at ss j) ≡ true → get_or marks j false ≡ true
  all_marked once j l s = go (status_at ss j) (get_or marks j false) (h j l) (once j l) s
    where
      go : (t : Status) (m : Bool) → (is_gone t ≡ false → openers rows (length rows) j ≡ cond (is_standing t) (one m) 0) → (is_gone t ≡ false → openers rows (length rows) j ≡ one (is_standing t)) → is_standing t ≡ true → m ≡ true
      go Unused m a b e = absurd (clash e)
      go Standing true a b e = refl
      go Standing false a b e = absurd (omega (arith, a refl, b refl))
      go Joined m a b e = absurd (clash e)
      go Flattened m a b e = absurd (clash e)
