-- A table with one row more, or with one row changed.
use Rattle.std.proofs.Common.{◌≡◌, ℕ, zero, suc, ◌+◌, ◌<◌, List, [], ◌∷◌, ◌++◌, length, take, set, refl, ap, arith, length-set}
use Rattle.std.proofs.lemmas.List.{take_more_set, drop-set-lt, length-take-le}
use Rattle.sheet.specs.Tables.{Stored, items, CountWithin}
use Rattle.sheet.specs.Written.{pushed, changed}
use Rattle.sheet.specs.Kept.{Rest}

pub take_of_set : {T : Type 0} (m : ℕ) (l : List T) (i : ℕ) (r : T) → take m (set l i r) ≡ set (take m l) i r
take_of_set zero l i r = refl
take_of_set (suc m) [] i r = refl
take_of_set (suc m) (x ∷ l) zero r = refl
take_of_set (suc m) (x ∷ l) (suc i) r = ap (λ t. x ∷ t) (take_of_set m l i r)

module _ {T : Type 0} (t : Stored T) where
  pub items_many : CountWithin t → length (items t) ≡ t.count
  items_many h = length-take-le t.count t.rows h

  pub same_rest : Rest t t
  same_rest = record { rows = refl; length_is = refl }

  module _ (r : T) where
    pub pushed_items : t.count < length t.rows → items (pushed t r) ≡ items t ++ r ∷ []
    pushed_items h = take_more_set t.rows t.count r h

    pub pushed_within : t.count < length t.rows → CountWithin (pushed t r)
    pushed_within h = omega (arith, length-set t.rows t.count r)

    pub pushed_rest : Rest t (pushed t r)
    pushed_rest = record { rows = drop-set-lt (t.count + 1) t.rows t.count r (omega arith); length_is = length-set t.rows t.count r }

    pub changed_items : (k : ℕ) → items (changed t k r) ≡ set (items t) k r
    changed_items k = take_of_set t.count t.rows k r

    pub changed_within : (k : ℕ) → CountWithin t → CountWithin (changed t k r)
    changed_within k h = omega (arith, length-set t.rows k r)

    pub changed_rest : (k : ℕ) → k < t.count → Rest t (changed t k r)
    changed_rest k h = record { rows = drop-set-lt t.count t.rows k r h; length_is = length-set t.rows k r }
