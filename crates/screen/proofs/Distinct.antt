-- Lists in which no number stands twice, with more numbers in them.
use Rattle.std.proofs.Common.{◌≡◌, ℕ, true, false, not, ◌||◌, eqb, ltb, List, [], ◌∷◌, ◌++◌, sym, refl, ap, ◌∙◌, subst, arith}
use Rattle.std.proofs.lemmas.List.{append_assoc, append-nil}
use Rattle.std.proofs.lemmas.Grind.{flat_map-append}
use Rattle.std.proofs.lemmas.Bool.{and_parts, and_from, or_parts, or_from, not-true, ltb-true, ne_eqb, eqb-false}
use Rattle.screen.specs.Lists.{every, member, distinct, gathered}
use Rattle.screen.specs.Users.{names_of, names_in, namings, taken}
use Rattle.screen.specs.declared.node.Node.{Node}
use Rattle.screen.specs.declared.rows.ValueRow.{ValueRow}
use Rattle.screen.proofs.Members.{member_append}

pub gathered_more : {A : Type 0} (f : A → List ℕ) (xs : List A) (x : A) → gathered f (xs ++ x ∷ []) ≡ gathered f xs ++ f x
gathered_more f xs x = flat_map-append f xs (x ∷ []) ∙ ap (λ t. gathered f xs ++ t) (append-nil (f x))

-- no number of zs is x, or among us
taken_first : (x : ℕ) (us zs : List ℕ) → taken (x ∷ us) zs ≡ false → (member x zs ≡ false) × (taken us zs ≡ false)
taken_first x us [] h = (refl, refl)
taken_first x us (z ∷ zs) h =
    let a = or_parts ((eqb x z || member z us) || member z zs) (taken (x ∷ us) zs) h in
    let b = or_parts (eqb x z || member z us) (member z zs) a.0 in
    let c = or_parts (eqb x z) (member z us) b.0 in
    let i = taken_first x us zs a.1 in (
      or_from (eqb z x) (member x zs) (ne_eqb z x (λ e. eqb-false x z c.0 (sym e))) i.0,
      or_from (member z us || member z zs) (taken us zs) (or_from (member z us) (member z zs) c.1 b.1) i.1,
    )

distinct_front : (zs us : List ℕ) → distinct us ≡ true → taken us zs ≡ false → distinct (zs ++ us) ≡ true
distinct_front [] us h t = h
distinct_front (z ∷ zs) us h t =
    let a = or_parts (member z us || member z zs) (taken us zs) t in
    let b = or_parts (member z us) (member z zs) a.0 in
    and_from (not (member z (zs ++ us))) (distinct (zs ++ us))
    (ap not (member_append z zs us ∙ or_from (member z zs) (member z us) b.1 b.0))
    (distinct_front zs us h a.1)

-- new numbers between those that are there
pub distinct_between : (xs zs ys : List ℕ) → distinct (xs ++ ys) ≡ true → taken (xs ++ ys) zs ≡ false → distinct (xs ++ (zs ++ ys)) ≡ true
distinct_between [] zs ys h t = distinct_front zs ys h t
distinct_between (x ∷ xs) zs ys h t =
    let a = and_parts (not (member x (xs ++ ys))) (distinct (xs ++ ys)) h in
    let b = taken_first x (xs ++ ys) zs t in
    let c = or_parts (member x xs) (member x ys) (sym (member_append x xs ys) ∙ not-true (member x (xs ++ ys)) a.0) in
    and_from (not (member x (xs ++ (zs ++ ys)))) (distinct (xs ++ (zs ++ ys)))
    (ap not (member_append x xs (zs ++ ys) ∙ or_from (member x xs) (member x (zs ++ ys)) c.0 (member_append x zs ys ∙ or_from (member x zs) (member x ys) b.0 c.1)))
    (distinct_between xs zs ys a.1 b.1)

-- new numbers at the end
pub distinct_end : (xs zs : List ℕ) → distinct xs ≡ true → taken xs zs ≡ false → distinct (xs ++ zs) ≡ true
distinct_end xs zs h t =
    subst (λ (us : List ℕ). distinct (xs ++ us) ≡ true) (append-nil zs)
    (distinct_between xs zs [] (subst (λ (us : List ℕ). distinct us ≡ true) (sym (append-nil xs)) h) (subst (λ (us : List ℕ). taken us zs ≡ false) (sym (append-nil xs)) t))

-- a number that all others are below is not among them
pub not_among : (xs : List ℕ) (n : ℕ) → every (λ k. ltb k n) xs ≡ true → member n xs ≡ false
not_among [] n h = refl
not_among (x ∷ xs) n h =
    let a = and_parts (ltb x n) (every (λ k. ltb k n) xs) h in
    or_from (eqb x n) (member n xs) (ne_eqb x n (λ e. omega (arith, ltb-true x n a.0))) (not_among xs n a.1)

pub distinct_next : (xs : List ℕ) (n : ℕ) → distinct xs ≡ true → every (λ k. ltb k n) xs ≡ true → distinct (xs ++ n ∷ []) ≡ true
distinct_next xs n h b = distinct_end xs (n ∷ []) h (or_from (member n xs || false) false (or_from (member n xs) false (not_among xs n b) refl) refl)

-- every value has one user at most still, with a new value or a new node
pub namings_value : (vs : List ValueRow) (xs : List Node) (v : ValueRow) → distinct (namings vs xs) ≡ true → taken (namings vs xs) (names_of v) ≡ false → distinct (namings (vs ++ v ∷ []) xs) ≡ true
namings_value vs xs v h t =
    subst (λ (us : List ℕ). distinct us ≡ true)
    (sym (ap (λ us. us ++ gathered names_in xs) (gathered_more names_of vs v) ∙ append_assoc (gathered names_of vs) (names_of v) (gathered names_in xs)))
    (distinct_between (gathered names_of vs) (names_of v) (gathered names_in xs) h t)

pub namings_node : (vs : List ValueRow) (xs : List Node) (x : Node) → distinct (namings vs xs) ≡ true → taken (namings vs xs) (names_in x) ≡ false → distinct (namings vs (xs ++ x ∷ [])) ≡ true
namings_node vs xs x h t =
    subst (λ (us : List ℕ). distinct us ≡ true)
    (sym (ap (λ us. gathered names_of vs ++ us) (gathered_more names_in xs x) ∙ sym (append_assoc (gathered names_of vs) (gathered names_in xs) (names_in x))))
    (distinct_end (namings vs xs) (names_in x) h t)
