-- Fresh numbers and their marks, one part after the other.
use Rattle.std.proofs.Common.{◌≡◌, ℕ, Bool, true, false, not, ◌&&◌, ltb, List, [], ◌∷◌, ◌++◌, get_or, set, sym, refl, ap, ◌∙◌}
use Rattle.std.proofs.Math.Bool.{and_assoc}
use Rattle.sheet.specs.Walks.{fresh, marked}

pub fresh_append : (n : ℕ) (marks : List Bool) (xs ys : List ℕ) → fresh n marks (xs ++ ys) ≡ (fresh n marks xs && fresh n (marked marks xs) ys)
fresh_append n marks [] ys = refl
fresh_append n marks (k ∷ xs) ys =
    ap (λ b. ltb k n && (not (get_or marks k false) && b)) (fresh_append n (set marks k true) xs ys)
    ∙ ap (λ b. ltb k n && b) (sym (and_assoc (not (get_or marks k false)) (fresh n (set marks k true) xs) (fresh n (marked (set marks k true) xs) ys)))
    ∙ sym (and_assoc (ltb k n) (not (get_or marks k false) && fresh n (set marks k true) xs) (fresh n (marked (set marks k true) xs) ys))

pub marked_append : (marks : List Bool) (xs ys : List ℕ) → marked marks (xs ++ ys) ≡ marked (marked marks xs) ys
marked_append marks [] ys = refl
marked_append marks (k ∷ xs) ys = marked_append (set marks k true) xs ys

-- a part of the numbers, of which the first marks are `old` and those before this part `now`
pub part_stops : (n : ℕ) (old now : List Bool) (all part rest : List ℕ) → fresh n old all ≡ fresh n now (part ++ rest) → fresh n now part ≡ false → fresh n old all ≡ false
part_stops n old now all part rest e f = e ∙ fresh_append n now part rest ∙ ap (λ b. b && fresh n (marked now part) rest) f

pub part_goes : (n : ℕ) (old now then : List Bool) (all part rest : List ℕ) → fresh n old all ≡ fresh n now (part ++ rest) → fresh n now part ≡ true → then ≡ marked now part → fresh n old all ≡ fresh n then rest
part_goes n old now then all part rest e f m =
    e ∙ fresh_append n now part rest ∙ ap (λ b. b && fresh n (marked now part) rest) f ∙ ap (λ l. fresh n l rest) (sym m)

pub part_marks : (old now then : List Bool) (all part rest : List ℕ) → marked old all ≡ marked now (part ++ rest) → then ≡ marked now part → marked old all ≡ marked then rest
part_marks old now then all part rest e m = e ∙ marked_append now part rest ∙ ap (λ l. marked l rest) (sym m)
