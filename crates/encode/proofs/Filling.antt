-- A filled block: its bytes, that it is good, and that its records come out again.
use Rattle.std.proofs.Common.{◌≡◌, ℕ, zero, suc, ◌+◌, ◌-◌, ◌*◌, ◌%◌, ◌<◌, ◌≤◌, List, [], ◌∷◌, ◌++◌, length, get_or, take, drop, replicate, None, sym, refl, ap, ◌∙◌, append_assoc, arith, length-append}
use lib.ListN.{length-replicate}
use Rattle.std.proofs.lemmas.List.{take_at, take_all, drop_at, get_or-append-add, replicate-append-replicate, append-nil}
use Rattle.std.proofs.lemmas.List.Elements.{All-head, All-tail}
use Rattle.std.proofs.lemmas.Bool.Decides.{nat_tests}
use Rattle.block.specs.Bytes.{u16_at, u32_at, two_bytes, four_bytes}
use Rattle.block.specs.Block.{weighed, check_of, check_in, number_in, count_in, fault_of, records_from, records_of}
use Rattle.block.proofs.Numbers.{two_back, four_back}
use Rattle.encode.specs.Filled.{Sixteens, in_row, summed_of, block_of}
use Rattle.encode.proofs.Rows.{put_next, row_length}

-- numbers in their places

get_d_after : (p ys : List ℕ) (at k : ℕ) → length p ≡ at → get_or (p ++ ys) (at + k) 0 ≡ get_or ys k 0
get_d_after p ys at k e = ap (λ n. get_or (p ++ ys) (n + k) 0) (sym e) ∙ get_or-append-add p ys k 0

pub u16_after : (p rest : List ℕ) (at n : ℕ) → length p ≡ at → n < 65536 → u16_at (p ++ (two_bytes n ++ rest)) at ≡ n
u16_after p rest at n e h =
    let ys = two_bytes n ++ rest in
    let a : get_or (p ++ ys) at 0 ≡ n % 256 = ap (λ k. get_or (p ++ ys) k 0) (let z : at ≡ at + 0 = omega arith in z) ∙ get_d_after p ys at 0 e in
    omega (arith, a, get_d_after p ys at 1 e, two_back n h)

pub u32_after : (p rest : List ℕ) (at n : ℕ) → length p ≡ at → n < 4294967296 → u32_at (p ++ (four_bytes n ++ rest)) at ≡ n
u32_after p rest at n e h =
    let ys = four_bytes n ++ rest in
    let a : get_or (p ++ ys) at 0 ≡ n % 256 = ap (λ k. get_or (p ++ ys) k 0) (let z : at ≡ at + 0 = omega arith in z) ∙ get_d_after p ys at 0 e in
    omega (arith, a, get_d_after p ys at 1 e, get_d_after p ys at 2 e, get_d_after p ys at 3 e, four_back n h)

-- the records and the zeros up to place 496
abbrev pub body : List (List ℕ) → List ℕ
body rs = in_row rs ++ replicate (496 - 16 * length rs) 0

body_length : (rs : List (List ℕ)) → Sixteens rs → length rs ≤ 31 → length (body rs) ≡ 496
body_length rs h less =
    omega (arith, length-append (in_row rs) (replicate (496 - 16 * length rs) 0), row_length rs h, length-replicate {A = ℕ} (496 - 16 * length rs) 0)

pub summed_length : (number : ℕ) (rs : List (List ℕ)) → Sixteens rs → length rs ≤ 31 → length (summed_of number rs) ≡ 508
unfolding summed_of
summed_length number rs h less =
    let b = body rs in
    omega (
      arith,
      body_length rs h less,
      length-append b (four_bytes number),
      length-append (b ++ four_bytes number) (two_bytes (length rs)),
      length-append (b ++ four_bytes number ++ two_bytes (length rs)) (replicate 6 0),
    )

pub block_length : (number : ℕ) (rs : List (List ℕ)) → Sixteens rs → length rs ≤ 31 → length (block_of number rs) ≡ 512
unfolding block_of
block_length number rs h less =
    omega (arith, summed_length number rs h less, length-append (summed_of number rs) (four_bytes (weighed 0 (summed_of number rs))))

-- the same bytes, put one part after the other
pub put_number : (rs : List (List ℕ)) (number : ℕ) (bytes : List ℕ) → Sixteens rs → length rs ≤ 31 → bytes ≡ in_row rs ++ replicate (512 - 16 * length rs) 0 →
    take 496 bytes ++ (four_bytes number ++ drop (496 + length (four_bytes number)) bytes) ≡ body rs ++ four_bytes number ++ replicate 12 0
put_number rs number bytes h less e =
    let n : 496 - 16 * length rs + 16 ≡ 512 - 16 * length rs = omega arith in
    let same : bytes ≡ body rs ++ replicate 16 0 =
    e ∙ ap (λ z. in_row rs ++ z) (ap (λ k. replicate k 0) (sym n) ∙ sym (replicate-append-replicate (496 - 16 * length rs) 16 0)) ∙ sym (append_assoc (in_row rs) (replicate (496 - 16 * length rs) 0) (replicate 16 0)) in
    ap (λ b. take 496 b ++ (four_bytes number ++ drop (496 + length (four_bytes number)) b)) same
    ∙ put_next (body rs) (four_bytes number) 496 16 (body_length rs h less)

pub put_count : (rs : List (List ℕ)) (number : ℕ) (bytes : List ℕ) → Sixteens rs → length rs ≤ 31 → bytes ≡ body rs ++ four_bytes number ++ replicate 12 0 →
    take 500 bytes ++ (two_bytes (length rs) ++ drop (500 + length (two_bytes (length rs))) bytes) ≡ summed_of number rs ++ replicate 4 0
unfolding summed_of
put_count rs number bytes h less e =
    let b = body rs ++ four_bytes number in
    let long : length b ≡ 500 = omega (arith, body_length rs h less, length-append (body rs) (four_bytes number)) in
    ap (λ z. take 500 z ++ (two_bytes (length rs) ++ drop (500 + length (two_bytes (length rs))) z)) e
    ∙ put_next b (two_bytes (length rs)) 500 12 long
    ∙ sym (append_assoc (b ++ two_bytes (length rs)) (replicate 6 0) (replicate 4 0))

pub check_before : (number : ℕ) (rs : List (List ℕ)) (more : List ℕ) → Sixteens rs → length rs ≤ 31 → check_of (summed_of number rs ++ more) ≡ weighed 0 (summed_of number rs)
unfolding check_of
check_before number rs more h less = ap (weighed 0) (take_at (summed_of number rs) more 508 (summed_length number rs h less))

pub put_check : (rs : List (List ℕ)) (number check : ℕ) (bytes : List ℕ) → Sixteens rs → length rs ≤ 31 → bytes ≡ summed_of number rs ++ replicate 4 0 → check ≡ check_of bytes →
    take 508 bytes ++ (four_bytes check ++ drop (508 + length (four_bytes check)) bytes) ≡ block_of number rs
unfolding block_of
put_check rs number check bytes h less e same =
    let s = summed_of number rs in
    let sum : check ≡ weighed 0 s = same ∙ ap check_of e ∙ check_before number rs (replicate 4 0) h less in
    ap (λ z. take 508 z ++ (four_bytes check ++ drop (508 + length (four_bytes check)) z)) e
    ∙ put_next s (four_bytes check) 508 4 (summed_length number rs h less)
    ∙ append-nil (s ++ four_bytes check)
    ∙ ap (λ n. s ++ four_bytes n) sum

-- what stands in a filled block

pub count_in_lem : (number : ℕ) (rs : List (List ℕ)) → Sixteens rs → length rs ≤ 31 → count_in (block_of number rs) ≡ length rs
unfolding block_of summed_of
count_in_lem number rs h less =
    let b = body rs ++ four_bytes number in
    let long : length b ≡ 500 = omega (arith, body_length rs h less, length-append (body rs) (four_bytes number)) in
    let rest = four_bytes (weighed 0 (b ++ two_bytes (length rs) ++ replicate 6 0)) in
    ap (λ z. u16_at z 500) (append_assoc (b ++ two_bytes (length rs)) (replicate 6 0) rest ∙ append_assoc b (two_bytes (length rs)) (replicate 6 0 ++ rest))
    ∙ u16_after b (replicate 6 0 ++ rest) 500 (length rs) long (omega arith)

pub number_in_lem : (number : ℕ) (rs : List (List ℕ)) → Sixteens rs → length rs ≤ 31 → number < 4294967296 → number_in (block_of number rs) ≡ number
unfolding block_of summed_of
number_in_lem number rs h less small =
    let b = body rs in
    let c = two_bytes (length rs) in
    let rest = four_bytes (weighed 0 (b ++ four_bytes number ++ c ++ replicate 6 0)) in
    ap (λ z. u32_at z 496)
    (append_assoc (b ++ four_bytes number ++ c) (replicate 6 0) rest ∙ append_assoc (b ++ four_bytes number) c (replicate 6 0 ++ rest)
    ∙ append_assoc b (four_bytes number) (c ++ (replicate 6 0 ++ rest)))
    ∙ u32_after b (c ++ (replicate 6 0 ++ rest)) 496 number (body_length rs h less) small

pub check_in_lem : (number : ℕ) (rs : List (List ℕ)) → Sixteens rs → length rs ≤ 31 → weighed 0 (summed_of number rs) < 4294967296 → check_in (block_of number rs) ≡ check_of (block_of number rs)
unfolding block_of
check_in_lem number rs h less small =
    let s = summed_of number rs in
    let n = weighed 0 s in
    ap (λ z. u32_at (s ++ z) 508) (sym (append-nil (four_bytes n))) ∙ u32_after s [] 508 n (summed_length number rs h less) small
    ∙ sym (check_before number rs (four_bytes n) h less)

-- bytes that begin with a block in which everything is right
pub fault_none : (bytes block : List ℕ) (place : ℕ) → 512 ≤ length bytes → take 512 bytes ≡ block → check_in block ≡ check_of block → number_in block ≡ place → count_in block ≤ 31 → fault_of bytes place ≡ None
fault_none bytes block place h e a b c = grind (arith, nat_tests)

pub good_block : (number : ℕ) (rs : List (List ℕ)) → Sixteens rs → length rs ≤ 31 → number < 4294967296 → weighed 0 (summed_of number rs) < 4294967296 → fault_of (block_of number rs) number ≡ None
good_block number rs h less small sum =
    let b = block_of number rs in
    let long : length b ≡ 512 = block_length number rs h less in
    let count : count_in b ≤ 31 = omega (arith, count_in_lem number rs h less) in
    fault_none b b number (omega arith) (take_all 512 b (omega arith)) (check_in_lem number rs h less sum) (number_in_lem number rs h less small) count

-- the records come out again

records_after : (rs : List (List ℕ)) (p rest : List ℕ) (i : ℕ) → Sixteens rs → length p ≡ 16 * i → records_from (p ++ (in_row rs ++ rest)) i (length rs) ≡ rs
records_after [] p rest i h e = refl
records_after (r ∷ rs) p rest i h e =
    let ys = in_row rs ++ rest in
    let regroup : p ++ (r ++ in_row rs ++ rest) ≡ p ++ (r ++ ys) = ap (λ z. p ++ z) (append_assoc r (in_row rs) rest) in
    let head : length r ≡ 16 = All-head (λ x. length x ≡ 16) r rs h in
    let next : length (p ++ r) ≡ 16 * (i + 1) = omega (arith, length-append p r, head) in
    ap (λ z. records_from z i (suc (length rs))) regroup
    ∙ ap (λ z. z ∷ records_from (p ++ (r ++ ys)) (i + 1) (length rs)) (ap (take 16) (drop_at p (r ++ ys) (16 * i) e) ∙ take_at r ys 16 head)
    ∙ ap (λ z. r ∷ records_from z (i + 1) (length rs)) (sym (append_assoc p r ys))
    ∙ ap (λ z. r ∷ z) (records_after rs (p ++ r) rest (i + 1) (All-tail (λ x. length x ≡ 16) r rs h) next)

pub records_in_lem : (number : ℕ) (rs : List (List ℕ)) → Sixteens rs → length rs ≤ 31 → records_of (block_of number rs) ≡ rs
unfolding block_of summed_of
records_in_lem number rs h less =
    let z = replicate (496 - 16 * length rs) 0 in
    let f = four_bytes number in
    let c = two_bytes (length rs) in
    let rest = four_bytes (weighed 0 (in_row rs ++ z ++ f ++ c ++ replicate 6 0)) in
    let regroup : block_of number rs ≡ in_row rs ++ (z ++ (f ++ (c ++ (replicate 6 0 ++ rest)))) = simp append_assoc in
    ap (λ n. records_from (block_of number rs) 0 n) (count_in_lem number rs h less)
    ∙ ap (λ b. records_from b 0 (length rs)) regroup
    ∙ records_after rs [] (z ++ (f ++ (c ++ (replicate 6 0 ++ rest)))) 0 h refl

pub records_count : (bytes : List ℕ) (i n : ℕ) → length (records_from bytes i n) ≡ n
records_count bytes i zero = refl
records_count bytes i (suc n) = ap suc (records_count bytes (i + 1) n)
