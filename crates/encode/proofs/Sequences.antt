-- Blocks one after the other: each where it should stand, and the records out of all of them.
use Rattle.std.proofs.Common.{◌≡◌, ℕ, zero, suc, ◌+◌, ◌*◌, ◌<◌, ◌≤◌, ◌⊎◌, List, ◌++◌, length, take, drop, None, sym, refl, ap, ◌∙◌, inl, inr, arith, length-append, length-drop, length-take, take-add}
use Rattle.std.proofs.lemmas.Bool.{cases_lt}
use Rattle.std.proofs.lemmas.List.{take_all, drop_at, take-append-le, drop-append-le}
use Rattle.std.proofs.lemmas.Bool.Decides.{nat_tests}
use Rattle.std.proofs.lemmas.List.Elements.{All-drop, All-take}
use Rattle.block.specs.Block.{fault_of, records_of}
use Rattle.encode.specs.Filled.{Sixteens, block_of}
use Rattle.encode.specs.Files.{block_count, portion, blocks_of, records_up_to, Holds}
use Rattle.encode.proofs.Filling.{block_length, records_in_lem}

portion_sixteens : (xs : List (List ℕ)) (n : ℕ) → Sixteens xs → Sixteens (portion xs n)
portion_sixteens xs n h = All-take (λ r. length r ≡ 16) 31 (drop (31 * n) xs) (All-drop (λ r. length r ≡ 16) (31 * n) xs h)

portion_few : (xs : List (List ℕ)) (n : ℕ) → length (portion xs n) ≤ 31
portion_few xs n = omega (arith, length-take 31 (drop (31 * n) xs))

block_long : (xs : List (List ℕ)) (n : ℕ) → Sixteens xs → length (block_of n (portion xs n)) ≡ 512
block_long xs n h = block_length n (portion xs n) (portion_sixteens xs n h) (portion_few xs n)

blocks_length : (xs : List (List ℕ)) → Sixteens xs → (n : ℕ) → length (blocks_of xs n) ≡ 512 * n
blocks_length xs h zero = refl
blocks_length xs h (suc n) =
    omega (arith, length-append (blocks_of xs n) (block_of n (portion xs n)), blocks_length xs h n, block_long xs n h)

below_last : (n k : ℕ) → k < suc n → (k < n) ⊎ (k ≡ n)
below_last n k h = elim (cases_lt k n) [ inl a ↦ inl a | inr b ↦ inr (omega arith) ]

-- block k among the first n
block_at : (xs : List (List ℕ)) → Sixteens xs → (n k : ℕ) → k < n → take 512 (drop (512 * k) (blocks_of xs n)) ≡ block_of k (portion xs k)
block_at xs h zero k less = absurd (omega arith)
block_at xs h (suc n) k less =
    let front = blocks_of xs n in
    let last = block_of n (portion xs n) in
    elim (below_last n k less) [
      | inl a ↦
          let long : 512 * k + 512 ≤ length front = omega (arith, blocks_length xs h n) in
          let room : 512 ≤ length (drop (512 * k) front) = omega (arith, length-drop (512 * k) front) in
          ap (take 512) (drop-append-le (512 * k) front last (omega arith)) ∙ take-append-le 512 (drop (512 * k) front) last room ∙ block_at xs h n k a
      | inr e ↦
          let long : length front ≡ 512 * k = omega (arith, blocks_length xs h n) in
          ap (take 512) (drop_at front last (512 * k) long) ∙ take_all 512 last (omega (arith, block_long xs n h)) ∙ ap (λ m. block_of m (portion xs m)) (sym e)
    ]

-- the records in the first k of n blocks
records_to : (xs : List (List ℕ)) → Sixteens xs → (n k : ℕ) → k ≤ n → records_up_to (blocks_of xs n) k ≡ take (31 * k) xs
records_to xs h n zero less = refl
records_to xs h n (suc k) less =
    let got : records_of (take 512 (drop (512 * k) (blocks_of xs n))) ≡ portion xs k =
    ap records_of (block_at xs h n k (omega arith)) ∙ records_in_lem k (portion xs k) (portion_sixteens xs k h) (portion_few xs k) in
    ap (λ z. z ++ records_of (take 512 (drop (512 * k) (blocks_of xs n)))) (records_to xs h n k (omega arith))
    ∙ ap (λ z. take (31 * k) xs ++ z) got
    ∙ sym (take-add (31 * k) 31 xs)
    ∙ ap (λ m. take m xs) (let e : 31 * k + 31 ≡ 31 * suc k = omega arith in e)

-- bytes that begin with a good block
fault_at : (bytes block : List ℕ) (place : ℕ) → 512 ≤ length bytes → take 512 bytes ≡ block → length block ≡ 512 → fault_of block place ≡ None → fault_of bytes place ≡ None
fault_at bytes block place h e long good = let whole : take 512 block ≡ block = take_all 512 block (omega arith) in grind (arith, nat_tests)

pub holds : (xs : List (List ℕ)) (bytes : List ℕ) → Sixteens xs → bytes ≡ blocks_of xs (block_count xs) →
    ((n : ℕ) → n < block_count xs → fault_of (block_of n (portion xs n)) n ≡ None) → Holds xs bytes
holds xs bytes h e good =
    let count = block_count xs in
    let long : length bytes ≡ 512 * count = ap length e ∙ blocks_length xs h count in
    record {
      exact = e;
      whole = long;
      good = λ n less.
          let room : 512 ≤ length (drop (512 * n) bytes) = omega (arith, length-drop (512 * n) bytes) in
          fault_at (drop (512 * n) bytes) (block_of n (portion xs n)) n room (ap (λ b. take 512 (drop (512 * n) b)) e ∙ block_at xs h count n less) (block_long xs n h) (good n less);
      same = ap (λ b. records_up_to b count) e ∙ records_to xs h count count (omega arith) ∙ take_all (31 * count) xs (omega arith);
    }
