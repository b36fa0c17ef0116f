-- What `get` makes of a range that may end past the end of the table.
use Rattle.std.proofs.Common.{◌≡◌, ℕ, ◌-◌, List, [], length, take, drop, Option, Some, None, Bor, sym, ap, ◌∙◌, arith}
use Rattle.std.proofs.lemmas.List.{take_all, drop_all, take_rest}
use Rattle.std.specs.Option.{unwrap_or}
use Rattle.std.specs.Slice.{IsGetRangeResult}

-- from `first` on, and nothing where `first` is past the end
pub rest_read : {A : Type 0} (xs : List A) (first : ℕ) (o : Option (Bor (List A))) (none : Bor (List A)) →
    IsGetRangeResult xs first (length xs) o → none.now ≡ [] → (unwrap_or o none).now ≡ drop first xs
rest_read xs first None none h e = e ∙ sym (drop_all first xs (omega (arith, h.0)))
rest_read xs first (Some r) none h e = h.0.2 ∙ take_rest xs first

-- the first `count`, and all where there are fewer
pub first_read : {A : Type 0} (count : ℕ) (o : Option (Bor (List A))) (whole : Bor (List A)) →
    IsGetRangeResult whole.now 0 count o → (unwrap_or o whole).now ≡ take count whole.now
first_read count None whole h = sym (take_all count whole.now (omega (arith, h.0)))
first_read count (Some r) whole h = let e : count - 0 ≡ count = omega arith in h.0.2 ∙ ap (λ n. take n whole.now) e
