-- Each list is the same as itself, under either rule.
use Rattle.std.specs.Prelude.{◌≡◌, Bool, true, List, [], ◌∷◌, length, ◌==◌, refl}
use Rattle.std.proofs.lemmas.Bool.{and_from, and_parts, or_left, or_right, eq-eqb}
use Rattle.screen.specs.Rules.{Dep}
use Rattle.screen.specs.declared.rows.PathRow.{PathRow}
use Rattle.screen.specs.Alike.{bits_alike, paths_alike, alike, found, covered}
use Rattle.screen.specs.Same.{list_same, both_ways_same}

module _ (like : PathRow → PathRow → Bool) where
  -- one more entry to be alike to does no harm
  covered_more : (y : Dep) (xs ys : List Dep) → covered like xs ys ≡ true → covered like xs (y ∷ ys) ≡ true
  covered_more y [] ys h = refl
  covered_more y (x ∷ xs) ys h =
      let both = and_parts (found like x ys) (covered like xs ys) h in
      and_from (found like x (y ∷ ys)) (covered like xs (y ∷ ys)) (or_right (alike like x y) (found like x ys) both.0) (covered_more y xs ys both.1)

  module _ (self : (p : PathRow) → like p p ≡ true) where
    paths_self : (ps : List PathRow) → paths_alike like ps ps ≡ true
    paths_self [] = refl
    paths_self (p ∷ ps) = and_from (like p p) (paths_alike like ps ps) (self p) (paths_self ps)

    pub alike_self : (x : Dep) → alike like x x ≡ true
    alike_self x = and_from (x.declaration == x.declaration) (paths_alike like x.path x.path) (eq-eqb _ _ refl) (paths_self x.path)

    -- each entry of a list is alike to one of it, itself
    pub covered_self : (xs : List Dep) → covered like xs xs ≡ true
    covered_self [] = refl
    covered_self (x ∷ xs) =
        and_from (found like x (x ∷ xs)) (covered like xs (x ∷ xs))
        (or_left (alike like x x) (found like x xs) (alike_self x))
        (covered_more x xs xs (covered_self xs))

pub bits_self : (p : PathRow) → bits_alike p p ≡ true
bits_self p =
    and_from (p.kind == p.kind) _ (eq-eqb _ _ refl)
    (and_from (p.low == p.low) _ (eq-eqb _ _ refl)
    (and_from (p.high == p.high) (p.optional == p.optional) (eq-eqb _ _ refl) (eq-eqb _ _ refl)))

pub list_reflexive : (l : List Dep) → list_same l l ≡ true
list_reflexive l = and_from (length l == length l) (covered bits_alike l l) (eq-eqb (length l) (length l) refl) (covered_self bits_alike bits_self l)

pub both_ways_reflexive : (l : List Dep) → both_ways_same l l ≡ true
both_ways_reflexive l = let c = covered_self bits_alike bits_self l in and_from (covered bits_alike l l) (covered bits_alike l l) c c
