-- What a Merge changes on its way.
use Rattle.std.specs.Prelude.{ℕ, ◌+◌, cond, List, [], ◌∷◌, ◌++◌, map, None, Option, ◌==◌}
use Rattle.screen.specs.Found.{scope_at}
use Rattle.screen.specs.Lists.{member}
use Rattle.screen.specs.State.{State, Scope}
use Rattle.screen.specs.declared.scope.Status.{Status}
use Rattle.screen.specs.declared.scope.Status.TheVariants.{Joined, Flattened}

-- a join: the keeper, and the Scope that joined it
pub record Join : Type 0 where
  pub keeper : ℕ
  pub joined : ℕ

-- where each Scope ends and the rows that it declares, the source of each declaration, and what was joined and flattened, the last first
pub record Course : Type 0 where
  pub ends : ℕ → ℕ
  pub declares : ℕ → List ℕ
  pub sources : ℕ → Option ℕ
  pub joins : List Join
  pub flats : List ℕ

-- a function changed at one number
abbrev pub put : {A : Type 0} → (ℕ → A) → ℕ → A → ℕ → A
put f k a n = cond (n == k) a (f n)

-- as found: no sources, nothing joined or flattened
abbrev pub start : State → Course
start σ = record { ends = λ k. (scope_at σ k).end; declares = λ k. (scope_at σ k).declares; sources = λ d. None; joins = []; flats = [] }

-- the Scopes that were joined
abbrev pub joined_in : List Join → List ℕ
joined_in js = map (λ j. j.joined) js

-- the Scopes that joined keeper k, the first first
abbrev pub merged_into : ℕ → List Join → List ℕ
merged_into k [] = []
merged_into k (j ∷ js) = merged_into k js ++ cond (k == j.keeper) (j.joined ∷ []) []

-- how Scope k stands, which stood so before
abbrev pub status_after : Course → ℕ → Status → Status
status_after c k s = cond (member k (joined_in c.joins)) Joined (cond (member k c.flats) Flattened s)

-- Scope k as the Merge leaves it
abbrev pub scope_after : Course → ℕ → Scope → Scope
scope_after c k s =
    record {
      start = s.start;
      end = c.ends k;
      status = status_after c k s.status;
      reassigns = s.reassigns;
      begin = s.begin;
      declares = c.declares k;
      merged = s.merged ++ merged_into k c.joins;
    }

-- the Scopes from number k on
abbrev pub scopes_from : Course → ℕ → List Scope → List Scope
scopes_from c k [] = []
scopes_from c k (s ∷ ss) = scope_after c k s ∷ scopes_from c (k + 1) ss
