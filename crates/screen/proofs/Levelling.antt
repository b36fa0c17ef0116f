-- The levels of values, one value more.
use Rattle.std.proofs.Common.{◌≡◌, ℕ, ◌+◌, ◌<◌, Bool, true, false, ◌&&◌, ltb, leb, List, [], ◌∷◌, ◌++◌, length, get_or, drop, refl, ap, ◌∙◌}
use Rattle.std.proofs.lemmas.List.{drop_more}
use Rattle.std.proofs.lemmas.Bool.{lt-leb, le-leb, ltb-false}
use Rattle.screen.specs.Lists.{every}
use Rattle.screen.specs.Levels.{level_after, levels_from, levels_of}
use Rattle.screen.specs.Named.{no_value}
use Rattle.screen.specs.declared.rows.ValueRow.{ValueRow}
use Rattle.screen.proofs.Members.{every_append}

pub and_false_right : (a : Bool) → (a && false) ≡ false
and_false_right true = refl
and_false_right false = refl

pub every_push : {A : Type 0} (p : A → Bool) (xs : List A) (x : A) → every p xs ≡ true → p x ≡ true → every p (xs ++ x ∷ []) ≡ true
every_push p xs x h e = every_append p xs (x ∷ []) ∙ ap (λ b. b && (p x && true)) h ∙ ap (λ b. b && true) e

pub every_spoilt : {A : Type 0} (p : A → Bool) (xs : List A) (x : A) → p x ≡ false → every p (xs ++ x ∷ []) ≡ false
every_spoilt p xs x e = every_append p xs (x ∷ []) ∙ ap (λ b. every p xs && (b && true)) e ∙ and_false_right (every p xs)

-- what fails among the first levels fails among all
pub levels_spoilt : (p : ℕ → Bool) (levels : List ℕ) (vs : List ValueRow) → every p levels ≡ false → every p (levels_from levels vs) ≡ false
levels_spoilt p levels [] h = h
levels_spoilt p levels (v ∷ vs) h = levels_spoilt p (levels ++ level_after levels v ∷ []) vs (every_append p levels (level_after levels v ∷ []) ∙ ap (λ b. b && (p (level_after levels v) && true)) h)

pub levels_more : (vs : List ValueRow) (levels : List ℕ) (i : ℕ) → i < length vs
    → levels_from levels (drop i vs) ≡ levels_from (levels ++ level_after levels (get_or vs i no_value) ∷ []) (drop (i + 1) vs)
levels_more vs levels i h = ap (levels_from levels) (drop_more vs i no_value h)

-- a level past 64 spoils them all
pub levels_too_deep : (vs : List ValueRow) (levels : List ℕ) (i : ℕ) → i < length vs → 64 < level_after levels (get_or vs i no_value) → every (λ n. leb n 64) (levels_from levels (drop i vs)) ≡ false
levels_too_deep vs levels i h d =
    ap (every (λ n. leb n 64)) (levels_more vs levels i h)
    ∙ levels_spoilt (λ n. leb n 64) (levels ++ level_after levels (get_or vs i no_value) ∷ []) (drop (i + 1) vs)
    (every_spoilt (λ n. leb n 64) levels (level_after levels (get_or vs i no_value)) (lt-leb (level_after levels (get_or vs i no_value)) 64 d))

-- the level of one value more, behind those before it
levels_end : (vs : List ValueRow) (levels : List ℕ) (v : ValueRow) → levels_from levels (vs ++ v ∷ []) ≡ levels_from levels vs ++ level_after (levels_from levels vs) v ∷ []
levels_end [] levels v = refl
levels_end (u ∷ vs) levels v = levels_end vs (levels ++ level_after levels u ∷ []) v

pub levels_low : (vs : List ValueRow) (v : ValueRow) → every (λ n. leb n 64) (levels_of vs) ≡ true → ltb 64 (level_after (levels_of vs) v) ≡ false → every (λ n. leb n 64) (levels_of (vs ++ v ∷ [])) ≡ true
levels_low vs v h d =
    ap (every (λ n. leb n 64)) (levels_end vs [] v)
    ∙ every_push (λ n. leb n 64) (levels_of vs) (level_after (levels_of vs) v) h (le-leb (level_after (levels_of vs) v) 64 (ltb-false 64 (level_after (levels_of vs) v) d))
