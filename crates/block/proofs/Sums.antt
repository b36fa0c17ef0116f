-- A weighed sum with one more byte.
use Rattle.std.proofs.Common.{◌≡◌, ℕ, ◌+◌, ◌*◌, ◌<◌, ◌≤◌, List, [], ◌∷◌, ◌++◌, length, get_or, take, ap, ◌∙◌, mul-le-mul, arith, length-take}
use Rattle.std.proofs.lemmas.List.{take_more}
use Rattle.block.specs.Block.{weighed}

weighed_push : (k : ℕ) (xs : List ℕ) (b : ℕ) → weighed k (xs ++ b ∷ []) ≡ weighed k xs + (k + length xs + 1) * b
weighed_push k [] b = omega (arith, ap (λ n. n * b) (let e : k + 1 ≡ k + 0 + 1 = omega arith in e))
weighed_push k (x ∷ xs) b =
    omega (arith, weighed_push (k + 1) xs b, ap (λ n. n * b) (let e : k + 1 + length xs + 1 ≡ k + length (x ∷ xs) + 1 = omega arith in e))

-- the sum over the first i + 1 bytes
pub weighed_more : (xs : List ℕ) (i : ℕ) → i < length xs → weighed 0 (take (i + 1) xs) ≡ weighed 0 (take i xs) + (i + 1) * get_or xs i 0
weighed_more xs i h =
    ap (weighed 0) (take_more xs i 0 h) ∙ weighed_push 0 (take i xs) (get_or xs i 0)
    ∙ ap (λ n. weighed 0 (take i xs) + n * get_or xs i 0) (let e : 0 + length (take i xs) + 1 ≡ i + 1 = omega (arith, length-take i xs) in e)

-- one summand is small
pub summand : (i b : ℕ) → i < 508 → b < 256 → (i + 1) * b ≤ 129540
summand i b h k = let m : i + 1 ≤ 508 = omega arith in let n : b ≤ 255 = omega arith in mul-le-mul m n
