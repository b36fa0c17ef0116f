-- Laws of the tests over lists.
use Rattle.std.proofs.Common.{◌≡◌, ℕ, Bool, true, false, ◌&&◌, ◌||◌, eqb, List, [], ◌∷◌, ◌++◌, map, refl, ap, ◌∙◌, arith}
use Rattle.std.proofs.lemmas.List.Folds.{list_any-append, list_all-append, list_all-map}
use Rattle.std.proofs.lemmas.Bool.Decides.{nat_tests}
use Rattle.screen.specs.Lists.{every, member}

pub member_append : (k : ℕ) (xs ys : List ℕ) → member k (xs ++ ys) ≡ (member k xs || member k ys)
member_append k xs ys = list_any-append (λ x. eqb x k) xs ys

pub every_append : {A : Type 0} (p : A → Bool) (xs ys : List A) → every p (xs ++ ys) ≡ (every p xs && every p ys)
every_append p xs ys = list_all-append p xs ys

pub member_here : (k n : ℕ) (ks : List ℕ) → n ≡ k → member k (n ∷ ks) ≡ true
member_here k n ks e = grind (arith, nat_tests)

pub every_map : {A B : Type 0} (p : B → Bool) (f : A → B) (xs : List A) → every p (map f xs) ≡ every (λ x. p (f x)) xs
every_map p f xs = list_all-map p f xs

-- two tests at once
pub every_both : {A : Type 0} (p q : A → Bool) (xs : List A) → every (λ x. p x && q x) xs ≡ (every p xs && every q xs)
every_both p q [] = refl
every_both p q (x ∷ xs) = ap (λ b. p x && q x && b) (every_both p q xs) ∙ so (p x) (q x) (every p xs) (every q xs)
  where
    so : (a b c d : Bool) → (a && b && (c && d)) ≡ ((a && c) && (b && d))
    so true true c d = refl
    so true false true d = refl
    so true false false d = refl
    so false b c d = refl
