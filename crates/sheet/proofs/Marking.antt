-- Numbers that are fresh to marks are below the limit and distinct, and what is marked then is they.
use Rattle.std.proofs.Common.{◌≡◌, ℕ, ◌<◌, ◌≤◌, Bool, true, false, not, ◌||◌, eqb, ltb, ◌≢◌, ◌⊎◌, List, [], ◌∷◌, length, get_or, set, sym, refl, ap, ◌∙◌, inl, inr, arith, length-set, get_or-set_other, get_or-set_same}
use Rattle.std.proofs.lemmas.Bool.Decides.{nat_tests}
use Rattle.std.proofs.lemmas.Bool.{and_from, and_parts, cases_Bool, cases_eq, lt-ltb, ltb-true, not-true, not_from_false, or_right, both_ways}
use Rattle.screen.specs.Lists.{every, member, distinct}
use Rattle.sheet.specs.Walks.{fresh, marked}
use Rattle.sheet.proofs.Walking.{fresh_cons, fresh_parts}

-- a member is not the number that is none
pub member_other : (j k : ℕ) (ks : List ℕ) → member j ks ≡ true → member k ks ≡ false → j ≢ k
member_other j k ks h l e = both_ways (member k ks) l (ap (λ x. member x ks) (sym e) ∙ h)

pub record Plain (n : ℕ) (marks : List Bool) (ks : List ℕ) : Type 0 where
  pub below : every (λ k. ltb k n) ks ≡ true
  pub once : distinct ks ≡ true
  pub free : (j : ℕ) → member j ks ≡ true → get_or marks j false ≡ false

pub plain_fresh : (n : ℕ) (marks : List Bool) (ks : List ℕ) → Plain n marks ks → fresh n marks ks ≡ true
plain_fresh n marks [] p = refl
plain_fresh n marks (k ∷ ks) p =
    let b = and_parts (ltb k n) (every (λ x. ltb x n) ks) p.below in
    let o = and_parts (not (member k ks)) (distinct ks) p.once in
    let apart : member k ks ≡ false = not-true (member k ks) o.0 in
    let here : get_or marks k false ≡ false = p.free k (grind (arith, nat_tests)) in
    fresh_cons n marks k ks (ltb-true k n b.0) here
    (plain_fresh n (set marks k true) ks
    (record {
      below = b.1;
      once = o.1;
      free = λ j h. get_or-set_other marks k j true false (member_other j k ks h apart) ∙ p.free j (or_right (eqb k j) (member j ks) h);
    }))

pub fresh_plain : (n : ℕ) (marks : List Bool) (ks : List ℕ) → n ≤ length marks → fresh n marks ks ≡ true → Plain n marks ks
fresh_plain n marks [] l f = record { below = refl; once = refl; free = λ j h. absurd (both_ways false refl h) }
fresh_plain n marks (k ∷ ks) l f =
    let h = fresh_parts n marks k ks f in
    let in' : k < length marks = omega arith in
    let p = fresh_plain n (set marks k true) ks (omega (arith, length-set marks k true)) h.2 in
    let apart : member k ks ≡ false = go (cases_Bool (member k ks)) in' p in
    record {
      below = and_from (ltb k n) (every (λ x. ltb x n) ks) (lt-ltb k n h.0) p.below;
      once = and_from (not (member k ks)) (distinct ks) (not_from_false (member k ks) apart) p.once;
      free = λ j m. at j (cases_eq k j) m h.1 apart p;
    }
  where
    go : (member k ks ≡ true) ⊎ (member k ks ≡ false) → k < length marks → Plain n (set marks k true) ks → member k ks ≡ false
    go (inl t) i p = absurd (both_ways (get_or (set marks k true) k false) (p.free k t) (get_or-set_same marks k true false i))
    go (inr e) i p = e

    at : (j : ℕ) → (k ≡ j) ⊎ (k ≡ j → ⊥) → member j (k ∷ ks) ≡ true → get_or marks k false ≡ false → member k ks ≡ false → Plain n (set marks k true) ks → get_or marks j false ≡ false
    at j (inl e) m h a p = ap (λ x. get_or marks x false) (sym e) ∙ h
    at j (inr ne) m h a p =
        let t : member j ks ≡ true = grind (arith, nat_tests) in
        sym (get_or-set_other marks k j true false (λ e. ne (sym e))) ∙ p.free j t

-- what is marked after a walk
pub marked_at : (n : ℕ) (marks : List Bool) (ks : List ℕ) → n ≤ length marks → fresh n marks ks ≡ true → (j : ℕ) → get_or (marked marks ks) j false ≡ (member j ks || get_or marks j false)
marked_at n marks [] l f j = refl
marked_at n marks (k ∷ ks) l f j =
    let h = fresh_parts n marks k ks f in
    marked_at n (set marks k true) ks (omega (arith, length-set marks k true)) h.2 j ∙ go (cases_eq k j) h.0
  where
    go : (k ≡ j) ⊎ (k ≡ j → ⊥) → k < n → (member j ks || get_or (set marks k true) j false) ≡ ((eqb k j || member j ks) || get_or marks j false)
    go (inl e) i =
        let s : get_or (set marks k true) j false ≡ true = ap (λ x. get_or (set marks k true) x false) (sym e) ∙ get_or-set_same marks k true false (omega arith) in
        grind (arith, nat_tests)
    go (inr ne) i =
        let s : get_or (set marks k true) j false ≡ get_or marks j false = get_or-set_other marks k j true false (λ e. ne (sym e)) in
        grind (arith, nat_tests)

-- numbers that were walked with no mark before, and the marks that are left
pub record Lists (n : ℕ) (left : List Bool) (ks : List ℕ) : Type 0 where
  pub below : every (λ k. ltb k n) ks ≡ true
  pub once : distinct ks ≡ true
  pub marks : (j : ℕ) → get_or left j false ≡ member j ks

pub fresh_lists : (n : ℕ) (marks left : List Bool) (ks : List ℕ) → n ≤ length marks → ((j : ℕ) → get_or marks j false ≡ false) → fresh n marks ks ≡ true → left ≡ marked marks ks → Lists n left ks
fresh_lists n marks left ks l none f e =
    let p = fresh_plain n marks ks l f in
    record {
      below = p.below;
      once = p.once;
      marks = λ j.
          let z = none j in
          let m : get_or (marked marks ks) j false ≡ (member j ks || get_or marks j false) = marked_at n marks ks l f j in
          ap (λ m. get_or m j false) e ∙ grind (arith, nat_tests);
    }
