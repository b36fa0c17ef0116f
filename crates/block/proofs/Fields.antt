-- A record's fields and its sixteen bytes are each other's.
use Rattle.std.proofs.Common.{◌≡◌, ℕ, zero, suc, ◌+◌, ◌*◌, ◌/◌, ◌%◌, ◌<◌, List, [], ◌∷◌, ◌++◌, length, get_or, sym, refl, ap, ◌∙◌, arith}
use Rattle.std.specs.Prelude.{All}
use Rattle.std.proofs.lemmas.List.Elements.{All-get_or}
use Rattle.block.specs.Bytes.{two_bytes, four_bytes}
use Rattle.block.specs.Fields.{fields_of}
use Rattle.block.specs.declared.record.Record.{Record}
use Rattle.block.proofs.Numbers.{two_back, four_back, two_bytes_lem, four_bytes_lem}

-- the sixteen bytes
abbrev pub sixteen : Record → List ℕ
sixteen x = x.tag ∷ x.p ∷ (two_bytes x.q ++ (four_bytes x.r ++ (four_bytes x.s ++ four_bytes x.t)))

pub from_parts : (x : Record) (a b d e : List ℕ) → a ≡ two_bytes x.q → b ≡ four_bytes x.r → d ≡ four_bytes x.s → e ≡ four_bytes x.t →
    x.tag ∷ x.p ∷ get_or a 0 0 ∷ get_or a 1 0 ∷ get_or b 0 0 ∷ get_or b 1 0 ∷ get_or b 2 0 ∷ get_or b 3 0 ∷ get_or d 0 0 ∷ get_or d 1 0 ∷ get_or d 2 0 ∷ get_or d 3 0 ∷ get_or e 0 0 ∷ get_or e 1 0 ∷ get_or e 2 0 ∷ get_or e 3 0 ∷ [] ≡ sixteen x
from_parts x a b d e f g h k =
    let four : List ℕ → List ℕ → List ℕ = λ y z. get_or y 0 0 ∷ get_or y 1 0 ∷ get_or y 2 0 ∷ get_or y 3 0 ∷ z in
    ap (λ y. x.tag ∷ x.p ∷ get_or y 0 0 ∷ get_or y 1 0 ∷ four b (four d (four e []))) f
    ∙ ap (λ y. x.tag ∷ x.p ∷ (two_bytes x.q ++ four y (four d (four e [])))) g
    ∙ ap (λ y. x.tag ∷ x.p ∷ (two_bytes x.q ++ (four_bytes x.r ++ four y (four e [])))) h
    ∙ ap (λ y. x.tag ∷ x.p ∷ (two_bytes x.q ++ (four_bytes x.r ++ (four_bytes x.s ++ four y [])))) k

pub split_joined : (x : Record) → x.q < 65536 → x.r < 4294967296 → x.s < 4294967296 → x.t < 4294967296 → fields_of (sixteen x) ≡ x
split_joined x hq hr hs ht =
    let made : ℕ → ℕ → ℕ → ℕ → Record = λ q r s t. record { tag = x.tag; p = x.p; q = q; r = r; s = s; t = t } in
    let four : ℕ → ℕ = λ n. n % 256 + n / 256 % 256 * 256 + n / 65536 % 256 * 65536 + n / 16777216 % 256 * 16777216 in
    ap (λ n. made n (four x.r) (four x.s) (four x.t)) (two_back x.q hq)
    ∙ ap (λ n. made x.q n (four x.s) (four x.t)) (four_back x.r hr)
    ∙ ap (λ n. made x.q x.r n (four x.t)) (four_back x.s hs)
    ∙ ap (λ n. made x.q x.r x.s n) (four_back x.t ht)

-- a list by its places
by_place : ℕ → (ℕ → ℕ) → List ℕ
by_place zero f = []
by_place (suc n) f = f 0 ∷ by_place n (λ k. f (suc k))

placed : (n : ℕ) (xs : List ℕ) → length xs ≡ n → xs ≡ by_place n (λ k. get_or xs k 0)
unfolding by_place
placed zero [] e = refl
placed zero (x ∷ xs) e = absurd (omega arith)
placed (suc n) [] e = absurd (omega arith)
placed (suc n) (x ∷ xs) e = ap (λ z. x ∷ z) (placed n xs (omega arith))

pub join_split : (bytes : List ℕ) → length bytes ≡ 16 → All (λ b. b < 256) bytes → bytes ≡ sixteen (fields_of bytes)
unfolding by_place
join_split bytes e h =
    let g : ℕ → ℕ = λ k. get_or bytes k 0 in
    let at : (k : ℕ) → k < 16 → g k < 256 = λ k less. All-get_or (λ b. b < 256) bytes k 0 (omega arith) h in
    let rest : List ℕ → List ℕ = λ z. g 0 ∷ g 1 ∷ z in
    let x = fields_of bytes in
    placed 16 bytes e
    ∙ sym (ap (λ z. rest (z ++ (four_bytes x.r ++ (four_bytes x.s ++ four_bytes x.t)))) (two_bytes_lem (g 2) (g 3) (at 2 (omega arith)) (at 3 (omega arith)))
    ∙ ap (λ z. rest (g 2 ∷ g 3 ∷ (z ++ (four_bytes x.s ++ four_bytes x.t)))) (four_bytes_lem (g 4) (g 5) (g 6) (g 7) (at 4 (omega arith)) (at 5 (omega arith)) (at 6 (omega arith)) (at 7 (omega arith)))
    ∙ ap (λ z. rest (g 2 ∷ g 3 ∷ g 4 ∷ g 5 ∷ g 6 ∷ g 7 ∷ (z ++ four_bytes x.t))) (four_bytes_lem (g 8) (g 9) (g 10) (g 11) (at 8 (omega arith)) (at 9 (omega arith)) (at 10 (omega arith)) (at 11 (omega arith)))
    ∙ ap (λ z. rest (g 2 ∷ g 3 ∷ g 4 ∷ g 5 ∷ g 6 ∷ g 7 ∷ g 8 ∷ g 9 ∷ g 10 ∷ g 11 ∷ z)) (four_bytes_lem (g 12) (g 13) (g 14) (g 15) (at 12 (omega arith)) (at 13 (omega arith)) (at 14 (omega arith)) (at 15 (omega arith))))
