-- The lists that make up a gathered one: where their numbers are, and that none is in two.
use Rattle.std.proofs.Common.{◌≡◌, ℕ, zero, suc, ◌<◌, ◌≤◌, Bool, true, false, not, eqb, ltb, ◌⊎◌, List, [], ◌∷◌, ◌++◌, length, get_or, set, replicate, sym, refl, ap, ◌∙◌, inl, inr, arith, length-set}
use lib.ListN.{length-replicate}
use Rattle.std.proofs.lemmas.Bool.Decides.{nat_tests}
use Rattle.std.proofs.lemmas.List.{get_or-replicate, get_or_past}
use Rattle.std.proofs.lemmas.Bool.{and_parts, or_parts, or_cases, or_left, or_right, not-true, cases_lt, cases_Bool, both_ways, eqb-true}
use Rattle.screen.specs.Lists.{every, member, distinct, gathered}
use Rattle.screen.proofs.Members.{member_append, every_append}
use Rattle.sheet.specs.Walks.{fresh}
use Rattle.sheet.proofs.Walking.{unmarked, unmarked_falls, fresh_parts}
use Rattle.sheet.proofs.Marking.{plain_fresh}

pub every_member : (p : ℕ → Bool) (ks : List ℕ) (k : ℕ) → every p ks ≡ true → member k ks ≡ true → p k ≡ true
every_member p [] k e h = absurd (both_ways false refl h)
every_member p (x ∷ ks) k e h =
    let a = and_parts (p x) (every p ks) e in
    go (or_cases (eqb x k) (member k ks) h) a.0 (λ i. every_member p ks k a.1 i)
  where
    go : (eqb x k ≡ true) ⊎ (member k ks ≡ true) → p x ≡ true → (member k ks ≡ true → p k ≡ true) → p k ≡ true
    go (inl i) here rest = ap p (sym (eqb-true x k i)) ∙ here
    go (inr i) here rest = rest i

-- no number of the first list is in the second
distinct_parts : (xs ys : List ℕ) → distinct (xs ++ ys) ≡ true → (distinct xs ≡ true) × (distinct ys ≡ true) × ((k : ℕ) → member k xs ≡ true → member k ys ≡ false)
distinct_parts [] ys d = (refl, d, λ k h. absurd (both_ways false refl h))
distinct_parts (x ∷ xs) ys d =
    let a = and_parts (not (member x (xs ++ ys))) (distinct (xs ++ ys)) d in
    let r = distinct_parts xs ys a.1 in
    let out = or_parts (member x xs) (member x ys) (sym (member_append x xs ys) ∙ not-true (member x (xs ++ ys)) a.0) in
    let o = out.0 in
    let s = r.0 in
    (grind (arith, nat_tests), r.1, λ k h. go k (or_cases (eqb x k) (member k xs) h) out.1 r.2)
  where
    go : (k : ℕ) → (eqb x k ≡ true) ⊎ (member k xs ≡ true) → member x ys ≡ false → ((k : ℕ) → member k xs ≡ true → member k ys ≡ false) → member k ys ≡ false
    go k (inl e) o r = ap (λ j. member j ys) (sym (eqb-true x k e)) ∙ o
    go k (inr e) o r = r k e

module _ {A : Type 0} (f : A → List ℕ) (d : A) where
  pub in_gathered : (ss : List A) (i k : ℕ) → i < length ss → member k (f (get_or ss i d)) ≡ true → member k (gathered f ss) ≡ true
  in_gathered [] i k l h = absurd (omega arith)
  in_gathered (s ∷ ss) zero k l h = member_append k (f s) (gathered f ss) ∙ or_left (member k (f s)) (member k (gathered f ss)) h
  in_gathered (s ∷ ss) (suc i) k l h = member_append k (f s) (gathered f ss) ∙ or_right (member k (f s)) (member k (gathered f ss)) (in_gathered ss i k (omega arith) h)

  -- the part that a number is in
  record Place (ss : List A) (k : ℕ) : Type 0 where
    at : ℕ
    within : at < length ss
    here : member k (f (get_or ss at d)) ≡ true

  place : (ss : List A) (k : ℕ) → member k (gathered f ss) ≡ true → Place ss k
  place [] k h = absurd (both_ways false refl h)
  place (s ∷ ss) k h = go (or_cases (member k (f s)) (member k (gathered f ss)) (sym (member_append k (f s) (gathered f ss)) ∙ h)) (λ e. place ss k e)
    where
      go : (member k (f s) ≡ true) ⊎ (member k (gathered f ss) ≡ true) → (member k (gathered f ss) ≡ true → Place ss k) → Place (s ∷ ss) k
      go (inl e) ih = record { at = 0; within = omega arith; here = e }
      go (inr e) ih =
          let p = ih e in
          record { at = suc p.at; within = omega (arith, p.within); here = p.here }

  -- what holds of the whole list holds of each part
  pub every_at : (p : ℕ → Bool) (ss : List A) (i : ℕ) → i < length ss → every p (gathered f ss) ≡ true → every p (f (get_or ss i d)) ≡ true
  every_at p [] i l e = absurd (omega arith)
  every_at p (s ∷ ss) zero l e = (and_parts (every p (f s)) (every p (gathered f ss)) (sym (every_append p (f s) (gathered f ss)) ∙ e)).0
  every_at p (s ∷ ss) (suc i) l e = every_at p ss i (omega arith) (and_parts (every p (f s)) (every p (gathered f ss)) (sym (every_append p (f s) (gathered f ss)) ∙ e)).1

  pub distinct_at : (ss : List A) (i : ℕ) → i < length ss → distinct (gathered f ss) ≡ true → distinct (f (get_or ss i d)) ≡ true
  distinct_at [] i l e = absurd (omega arith)
  distinct_at (s ∷ ss) zero l e = (distinct_parts (f s) (gathered f ss) e).0
  distinct_at (s ∷ ss) (suc i) l e = distinct_at ss i (omega arith) (distinct_parts (f s) (gathered f ss) e).1

  -- a number is in one part only
  pub one_part : (ss : List A) (i j k : ℕ) → distinct (gathered f ss) ≡ true → i < length ss → j < length ss → member k (f (get_or ss i d)) ≡ true → member k (f (get_or ss j d)) ≡ true → i ≡ j
  one_part [] i j k e l m h g = absurd (omega arith)
  one_part (s ∷ ss) zero zero k e l m h g = refl
  one_part (s ∷ ss) zero (suc j) k e l m h g = absurd (both_ways (member k (gathered f ss)) ((distinct_parts (f s) (gathered f ss) e).2 k h) (in_gathered ss j k (omega arith) g))
  one_part (s ∷ ss) (suc i) zero k e l m h g = absurd (both_ways (member k (gathered f ss)) ((distinct_parts (f s) (gathered f ss) e).2 k g) (in_gathered ss i k (omega arith) h))
  one_part (s ∷ ss) (suc i) (suc j) k e l m h g = ap suc (one_part ss i j k (distinct_parts (f s) (gathered f ss) e).1 (omega arith) (omega arith) h g)

  -- a number that is in no part of a list is in no part of one whose parts have less
  pub in_none : (ss ss' : List A) (k : ℕ) → ((i : ℕ) → i < length ss → member k (f (get_or ss i d)) ≡ true → (i < length ss') × (member k (f (get_or ss' i d)) ≡ true)) → member k (gathered f ss') ≡ false → member k (gathered f ss) ≡ false
  in_none ss ss' k more out = go (cases_Bool (member k (gathered f ss)))
    where
      go : (member k (gathered f ss) ≡ true) ⊎ (member k (gathered f ss) ≡ false) → member k (gathered f ss) ≡ false
      go (inl e) =
          let p = place ss k e in
          let q = more p.at p.within p.here in
          absurd (both_ways (member k (gathered f ss')) out (in_gathered ss' p.at k q.0 q.1))
      go (inr e) = e

-- a walk passes at most as many rows as are unmarked
fresh_few : (n : ℕ) (marks : List Bool) (ks : List ℕ) → n ≤ length marks → fresh n marks ks ≡ true → length ks ≤ unmarked marks
fresh_few n marks [] l f = omega arith
fresh_few n marks (k ∷ ks) l f =
    let h = fresh_parts n marks k ks f in
    omega (arith, fresh_few n (set marks k true) ks (omega (arith, length-set marks k true)) h.2, unmarked_falls marks k (omega (arith, h.0)) h.1)

unmarked_none : (n : ℕ) → unmarked (replicate n false) ≡ n
unmarked_none zero = refl
unmarked_none (suc n) = omega (arith, unmarked_none n)

-- distinct numbers below n are at most n
pub few_below : (n : ℕ) (ks : List ℕ) → every (λ k. ltb k n) ks ≡ true → distinct ks ≡ true → length ks ≤ n
few_below n ks b o =
    let f = plain_fresh n (replicate n false) ks (record { below = b; once = o; free = λ j h. free j (cases_lt j n) }) in
    omega (arith, fresh_few n (replicate n false) ks (omega (arith, length-replicate n false)) f, unmarked_none n)
  where
    free : (j : ℕ) → (j < n) ⊎ (n ≤ j) → get_or (replicate n false) j false ≡ false
    free j (inl l) = get_or-replicate n j false false l
    free j (inr l) = get_or_past (replicate n false) j false (omega (arith, length-replicate n false))
