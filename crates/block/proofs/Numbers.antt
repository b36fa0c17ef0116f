-- Numbers and their bytes, the lowest first.
use Rattle.std.proofs.Common.{◌≡◌, ℕ, ◌+◌, ◌*◌, ◌/◌, ◌%◌, ◌<◌, [], ◌∷◌, sym, ap, ◌∙◌, mod-eq_of_lt, arith}
use native.Mathlib.Nat.{div-div-eq-div-mul}
use Rattle.std.proofs.lemmas.Nat.{div-add-mod', div-mul-add, div_below, mod-mul-add}
use Rattle.block.specs.Bytes.{two_bytes, four_bytes}

pub two_back : (n : ℕ) → n < 65536 → n % 256 + n / 256 % 256 * 256 ≡ n
two_back n h = omega arith

four_sum : (n a b c w x y z : ℕ) → a * 256 + w ≡ n → b * 256 + x ≡ a → c * 256 + y ≡ b → z ≡ c → w + x * 256 + y * 65536 + z * 16777216 ≡ n
four_sum n a b c w x y z e f g h = omega arith

pub four_back : (n : ℕ) → n < 4294967296 → n % 256 + n / 256 % 256 * 256 + n / 65536 % 256 * 65536 + n / 16777216 % 256 * 16777216 ≡ n
four_back n h =
    let b : n / 256 / 256 ≡ n / 65536 = div-div-eq-div-mul n 256 256 in
    let c : n / 65536 / 256 ≡ n / 16777216 = div-div-eq-div-mul n 65536 256 in
    let d : n / 16777216 % 256 ≡ n / 16777216 = mod-eq_of_lt (div_below n 16777216 256 (omega arith) h) in
    four_sum n (n / 256) (n / 65536) (n / 16777216) (n % 256) (n / 256 % 256) (n / 65536 % 256) (n / 16777216 % 256)
    (div-add-mod' n 256) (ap (λ k. k * 256 + n / 256 % 256) (sym b) ∙ div-add-mod' (n / 256) 256) (ap (λ k. k * 256 + n / 65536 % 256) (sym c) ∙ div-add-mod' (n / 65536) 256) d

-- bytes out of the numbers that they make

low : (a m : ℕ) → a < 256 → (a + m * 256) % 256 ≡ a
low a m h = ap (λ n. n % 256) (let e : a + m * 256 ≡ m * 256 + a = omega arith in e) ∙ mod-mul-add m 256 a h

high : (a m : ℕ) → a < 256 → (a + m * 256) / 256 ≡ m
high a m h = ap (λ n. n / 256) (let e : a + m * 256 ≡ m * 256 + a = omega arith in e) ∙ div-mul-add m 256 a h

pub two_bytes_lem : (a b : ℕ) → a < 256 → b < 256 → two_bytes (a + b * 256) ≡ a ∷ b ∷ []
two_bytes_lem a b ha hb =
    ap (λ n. n ∷ ((a + b * 256) / 256 % 256) ∷ []) (low a b ha)
    ∙ ap (λ n. a ∷ n ∷ []) (ap (λ n. n % 256) (high a b ha) ∙ mod-eq_of_lt hb)

pub four_bytes_lem : (a b c d : ℕ) → a < 256 → b < 256 → c < 256 → d < 256 → four_bytes (a + b * 256 + c * 65536 + d * 16777216) ≡ a ∷ b ∷ c ∷ d ∷ []
four_bytes_lem a b c d ha hb hc hd =
    let n = a + b * 256 + c * 65536 + d * 16777216 in
    let m = b + (c + d * 256) * 256 in
    let e : n ≡ a + m * 256 = omega arith in
    let n0 : n % 256 ≡ a = ap (λ k. k % 256) e ∙ low a m ha in
    let n1 : n / 256 ≡ m = ap (λ k. k / 256) e ∙ high a m ha in
    let n2 : n / 65536 ≡ c + d * 256 = sym (div-div-eq-div-mul n 256 256) ∙ ap (λ k. k / 256) n1 ∙ high b (c + d * 256) hb in
    let n3 : n / 16777216 ≡ d = sym (div-div-eq-div-mul n 65536 256) ∙ ap (λ k. k / 256) n2 ∙ high c d hc in
    ap (λ k. k ∷ (n / 256 % 256) ∷ (n / 65536 % 256) ∷ (n / 16777216 % 256) ∷ []) n0
    ∙ ap (λ k. a ∷ k ∷ (n / 65536 % 256) ∷ (n / 16777216 % 256) ∷ []) (ap (λ k. k % 256) n1 ∙ low b (c + d * 256) hb)
    ∙ ap (λ k. a ∷ b ∷ k ∷ (n / 16777216 % 256) ∷ []) (ap (λ k. k % 256) n2 ∙ low c d hc)
    ∙ ap (λ k. a ∷ b ∷ c ∷ k ∷ []) (ap (λ k. k % 256) n3 ∙ mod-eq_of_lt hd)
