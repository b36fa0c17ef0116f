-- Records in a row, and zeros that a part is put over.
use Rattle.std.proofs.Common.{◌≡◌, ℕ, ◌+◌, ◌-◌, ◌*◌, ◌<◌, ◌≤◌, min, List, [], ◌∷◌, ◌++◌, length, get_or, take, drop, replicate, sym, refl, ap, ◌∙◌, append_assoc, inl, inr, arith, length-append, length-drop, length-take}
use Rattle.std.proofs.lemmas.List.{take_all, take_at, drop_at, drop-replicate, drop-drop, append-nil, nil_from_length, take_more}
use Rattle.std.proofs.lemmas.Bool.{cases_lt}
use Rattle.std.proofs.lemmas.List.Elements.{All-head, All-tail, All-take}
use Rattle.encode.specs.Filled.{Sixteens, in_row}

-- a part put after what is written so far, where zeros stand
pub put_next : (p part : List ℕ) (at n : ℕ) → length p ≡ at →
    take at (p ++ replicate n 0) ++ (part ++ drop (at + length part) (p ++ replicate n 0)) ≡ (p ++ part) ++ replicate (n - length part) 0
put_next p part at n e =
    let front : take at (p ++ replicate n 0) ≡ p = take_at p (replicate n 0) at e in
    let back : drop (at + length part) (p ++ replicate n 0) ≡ replicate (n - length part) 0 =
    sym (drop-drop (length part) at (p ++ replicate n 0)) ∙ ap (drop (length part)) (drop_at p (replicate n 0) at e) ∙ drop-replicate (length part) n 0 in
    ap (λ x. x ++ (part ++ drop (at + length part) (p ++ replicate n 0))) front
    ∙ ap (λ x. p ++ (part ++ x)) back
    ∙ sym (append_assoc p part (replicate (n - length part) 0))

row_push : (xs : List (List ℕ)) (x : List ℕ) → in_row (xs ++ x ∷ []) ≡ in_row xs ++ x
row_push [] x = append-nil x
row_push (y ∷ xs) x = ap (λ z. y ++ z) (row_push xs x) ∙ sym (append_assoc y (in_row xs) x)

-- one more record
pub row_more : (xs : List (List ℕ)) (i : ℕ) → i < length xs → in_row (take (i + 1) xs) ≡ in_row (take i xs) ++ get_or xs i []
row_more xs i h = ap in_row (take_more xs i [] h) ∙ row_push (take i xs) (get_or xs i [])

pub row_length : (xs : List (List ℕ)) → Sixteens xs → length (in_row xs) ≡ 16 * length xs
row_length [] h = refl
row_length (x ∷ xs) h = omega (arith, length-append x (in_row xs), row_length xs (All-tail (λ r. length r ≡ 16) x xs h), All-head (λ r. length r ≡ 16) x xs h)

-- the first i records
pub row_below : (xs : List (List ℕ)) → Sixteens xs → (i : ℕ) → i ≤ length xs → length (in_row (take i xs)) ≡ 16 * i
row_below xs h i less = omega (arith, row_length (take i xs) (All-take (λ r. length r ≡ 16) i xs h), length-take i xs)

-- the next 31 off the front of what is left
pub next_portion : (ys part rest : List (List ℕ)) → ys ≡ part ++ rest → length part ≡ min 31 (length ys) → (part ≡ take 31 ys) × (rest ≡ drop 31 ys)
next_portion ys part rest e size =
    let sum : length ys ≡ length part + length rest = ap length e ∙ length-append part rest in
    elim (cases_lt (length ys) 31) [
      | inl short ↦
          let none : rest ≡ [] = nil_from_length rest (omega arith) in (
            sym (take_all 31 ys (omega arith) ∙ e ∙ ap (λ r. part ++ r) none ∙ append-nil part),
            none ∙ sym (nil_from_length (drop 31 ys) (omega (arith, length-drop 31 ys))),
          )
      | inr long ↦
          let whole : length part ≡ 31 = omega arith in
          (sym (ap (take 31) e ∙ take_at part rest 31 whole), sym (ap (drop 31) e ∙ drop_at part rest 31 whole))
    ]
