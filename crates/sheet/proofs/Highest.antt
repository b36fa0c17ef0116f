-- The highest level, by a fold from the left.
use Rattle.std.proofs.Common.{◌≡◌, ℕ, max, List, [], ◌∷◌, None, Some, Option, fold, slice_index, arith}
use Rattle.screen.specs.Lists.{present}
use Rattle.screen.specs.Levels.{highest}

pub highest_folds : (levels : List ℕ) (m : ℕ) (os : List (Option ℕ)) → fold (λ a o. max a (highest levels (present (o ∷ [])))) m os ≡ max m (highest levels (present os))
highest_folds levels m [] = omega arith
highest_folds levels m (None ∷ os) = omega (arith, highest_folds levels (max m 0) os)
highest_folds levels m (Some k ∷ os) = omega (arith, highest_folds levels (max m (max (slice_index levels k) 0)) os)
