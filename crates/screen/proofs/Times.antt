-- How often a number stands in a list, and sums over a stretch of numbers.
use Rattle.std.proofs.Common.{◌≡◌, ℕ, zero, suc, ◌+◌, ◌<◌, ◌≤◌, Bool, true, false, cond, not, eqb, ltb, ◌⊎◌, List, [], ◌∷◌, ◌++◌, length, sym, refl, ap, inl, inr, arith}
use Rattle.std.proofs.lemmas.Bool.{eqb-true, eqb-false, ltb-true, lt-ltb, or_parts, and_parts, and_from, not-true, not_from_false, cases_eq, cases_lt, or_cases}
use Rattle.screen.specs.Forest.{same}
use Rattle.screen.specs.Lists.{every, member, distinct}
use Rattle.screen.proofs.Counts.{same_self, same_other}

-- how often a number stands in a list
abbrev pub times : ℕ → List ℕ → ℕ
times k [] = 0
times k (x ∷ xs) = same k x + times k xs

pub times_append : (k : ℕ) (xs ys : List ℕ) → times k (xs ++ ys) ≡ times k xs + times k ys
times_append k [] ys = omega arith
times_append k (x ∷ xs) ys = omega (arith, times_append k xs ys)

-- what is among them stands there, and what is not does not
pub member_times : (k : ℕ) (xs : List ℕ) → member k xs ≡ true → 0 < times k xs
member_times k [] h = absurd (let z : ◌≡◌ {A = ℕ} 0 1 = cc in omega arith)
member_times k (x ∷ xs) h =
    elim (or_cases (eqb x k) (member k xs) h) [
      | inl e ↦ omega (arith, ap (same k) (eqb-true x k e), same_self k)
      | inr e ↦ omega (arith, member_times k xs e)
    ]

pub times_none : (k : ℕ) (xs : List ℕ) → member k xs ≡ false → times k xs ≡ 0
times_none k [] h = refl
times_none k (x ∷ xs) h =
    let t = or_parts (eqb x k) (member k xs) h in
    omega (arith, same_other k x (λ e. eqb-false x k t.0 (sym e)), times_none k xs t.1)

-- the test by the count
pub member_is : (k : ℕ) (xs : List ℕ) (b : Bool) → times k xs ≡ cond b 1 0 → member k xs ≡ b
member_is k xs b h = go (member k xs) refl b h
  where
    go : (t : Bool) → member k xs ≡ t → (b : Bool) → times k xs ≡ cond b 1 0 → t ≡ b
    go true e true g = refl
    go true e false g = absurd (omega (arith, member_times k xs e))
    go false e true g = absurd (omega (arith, times_none k xs e))
    go false e false g = refl

-- no number stands twice
pub distinct_times : (xs : List ℕ) → distinct xs ≡ true → (k : ℕ) → times k xs ≤ 1
distinct_times [] h k = omega arith
distinct_times (x ∷ xs) h k =
    let t = and_parts (not (member x xs)) (distinct xs) h in
    elim (cases_eq k x) [
      | inl e ↦ omega (arith, same_self x, ap (λ n. same n x) e, times_none x xs (not-true (member x xs) t.0), ap (λ n. times n xs) e)
      | inr e ↦ omega (arith, same_other k x e, distinct_times xs t.1 k)
    ]

pub times_distinct : (xs : List ℕ) → ((k : ℕ) → times k xs ≤ 1) → distinct xs ≡ true
times_distinct [] h = refl
times_distinct (x ∷ xs) h =
    and_from (not (member x xs)) (distinct xs)
    (not_from_false (member x xs) (member_is x xs false (omega (arith, h x, same_self x))))
    (times_distinct xs (λ k. omega (arith, h k)))

-- each is below n
pub below_times : (n : ℕ) (xs : List ℕ) → every (λ k. ltb k n) xs ≡ true → (k : ℕ) → n ≤ k → times k xs ≡ 0
below_times n [] h k l = refl
below_times n (x ∷ xs) h k l =
    let t = and_parts (ltb x n) (every (λ j. ltb j n) xs) h in
    omega (arith, same_other k x (λ e. omega (arith, ltb-true x n t.0)), below_times n xs t.1 k l)

pub times_below : (n : ℕ) (xs : List ℕ) → ((k : ℕ) → n ≤ k → times k xs ≡ 0) → every (λ k. ltb k n) xs ≡ true
times_below n [] h = refl
times_below n (x ∷ xs) h =
    and_from (ltb x n) (every (λ k. ltb k n) xs)
    (lt-ltb x n (elim (cases_lt x n) [ inl l ↦ l | inr l ↦ absurd (omega (arith, h x l, same_self x)) ]))
    (times_below n xs (λ k l. omega (arith, h k l)))

-- k is one of them
abbrev pub In : ℕ → List ℕ → Type 0
In s [] = ⊥
In s (x ∷ xs) = (x ≡ s) ⊎ In s xs

pub in_times : (k : ℕ) (xs : List ℕ) → In k xs → 0 < times k xs
in_times k [] h = absurd h
in_times k (x ∷ xs) (inl e) = omega (arith, ap (same k) e, same_self k)
in_times k (x ∷ xs) (inr h) = omega (arith, in_times k xs h)

pub times_in : (k : ℕ) (xs : List ℕ) → 0 < times k xs → In k xs
times_in k [] h = absurd (omega arith)
times_in k (x ∷ xs) h =
    elim (cases_eq x k) [
      | inl e ↦ inl e
      | inr e ↦ inr (times_in k xs (omega (arith, same_other k x (λ q. e (sym q)))))
    ]

-- the sum of h over n numbers from i on
abbrev pub total : (ℕ → ℕ) → ℕ → ℕ → ℕ
total h i zero = 0
total h i (suc n) = h i + total h (i + 1) n

pub total_plus : (f g h : ℕ → ℕ) (i n : ℕ) → ((k : ℕ) → h k ≡ f k + g k) → total h i n ≡ total f i n + total g i n
total_plus f g h i zero e = omega arith
total_plus f g h i (suc n) e = omega (arith, e i, total_plus f g h (i + 1) n e)

pub total_zero : (h : ℕ → ℕ) (i n : ℕ) → ((k : ℕ) → i ≤ k → h k ≡ 0) → total h i n ≡ 0
total_zero h i zero z = refl
total_zero h i (suc n) z = omega (arith, z i (omega arith), total_zero h (i + 1) n (λ k l. z k (omega arith)))

-- a sum of what stands at b alone
pub total_one : (h : ℕ → ℕ) (b i n : ℕ) → i ≤ b → b < i + n → ((k : ℕ) → (k ≡ b → ⊥) → h k ≡ 0) → total h i n ≡ h b
total_one h b i zero l m z = absurd (omega arith)
total_one h b i (suc n) l m z =
    elim (cases_eq i b) [
      | inl e ↦ omega (arith, ap h e, total_zero h (i + 1) n (λ k q. z k (λ r. omega arith)))
      | inr e ↦ omega (arith, z i e, total_one h b (i + 1) n (omega arith) (omega arith) z)
    ]

-- the numbers of a list, all below n, counted
pub total_times : (n : ℕ) (xs : List ℕ) → ((k : ℕ) → n ≤ k → times k xs ≡ 0) → total (λ k. times k xs) 0 n ≡ length xs
total_times n [] h = total_zero (λ k. 0) 0 n (λ k l. refl)
total_times n (x ∷ xs) h =
    let m : x < n = elim (cases_lt x n) [ inl l ↦ l | inr l ↦ absurd (omega (arith, h x l, same_self x)) ] in
    omega (
      arith,
      total_plus (λ k. same k x) (λ k. times k xs) (λ k. times k (x ∷ xs)) 0 n (λ k. refl),
      total_one (λ k. same k x) x 0 n (omega arith) (omega arith) (λ k e. same_other k x e),
      same_self x,
      total_times n xs (λ k l. omega (arith, h k l)),
    )
