-- What `all` found over numbers, and over values of which each is tested with those before it.
use Rattle.std.proofs.Common.{◌≡◌, ℕ, ◌+◌, ◌<◌, Bool, true, false, ◌&&◌, List, [], ◌∷◌, ◌++◌, length, take, Decides, MatchBool, sym, refl, ap, ◌∙◌, subst, arith}
use borrow.Author.Tests.{clash}
use Rattle.std.specs.List.{AllWithin, HoldsAt, range_with_len, enumerate_from, list_all}
use Rattle.std.proofs.lemmas.List.{append_assoc, length-append}
use Rattle.std.proofs.lemmas.List.FromFn.{length-range_with_len, get_or-range_with_len}
use Rattle.std.proofs.Math.Seq.{take-append_seam}
use Rattle.screen.specs.declared.rows.IdentifierRow.{IdentifierRow}
use Rattle.screen.specs.declared.rows.ReadRow.{ReadRow}
use Rattle.screen.specs.declared.rows.ValueRow.{ValueRow}
use Rattle.screen.specs.WellFormed.{value_kept, values_kept}

pub decides_below : (P : ℕ → Type 0) (b : Bool) (n : ℕ)
    → MatchBool b (AllWithin P (range_with_len 0 n) 0 (length (range_with_len 0 n))) ((k : ℕ) × (k < length (range_with_len 0 n)) × HoldsAt (λ k. P k → ⊥) (range_with_len 0 n) k)
    → Decides b ((k : ℕ) → k < n → P k)
decides_below P true n h = (λ _ k l. subst P (omega (arith, get_or-range_with_len 0 n k 0 l)) (h k 0 (omega arith) (omega (arith, l, length-range_with_len 0 n))), λ _. refl)
decides_below P false n h =
    let there : h.0 < n = omega (arith, h.1, length-range_with_len 0 n) in
    (λ e. absurd (clash e), λ all. absurd (h.2 0 (subst P (omega (arith, get_or-range_with_len 0 n h.0 0 there)) (all h.0 there))))

module _ (is : List IdentifierRow) (rs : List ReadRow) where
  pub values_listed : (before vs : List ValueRow) → values_kept is rs before vs ≡ list_all (λ t. value_kept is rs (take t.0 (before ++ vs)) t.1) (enumerate_from (length before) vs)
  values_listed before [] = refl
  values_listed before (v ∷ vs) =
      let rest = λ (xs : List ValueRow) (n : ℕ). list_all (λ t. value_kept is rs (take t.0 xs) t.1) (enumerate_from n vs) in
      ap (λ b. value_kept is rs before v && b) (values_listed (before ++ v ∷ []) vs ∙ ap (λ xs. rest xs (length (before ++ v ∷ []))) (append_assoc before (v ∷ []) vs) ∙ ap (λ n. rest (before ++ v ∷ vs) n) (length-append before (v ∷ [])))
      ∙ ap (λ bs. value_kept is rs bs v && rest (before ++ v ∷ vs) (length before + 1)) (sym (take-append_seam before (v ∷ vs)))

-- where a test answered false, what it decides does not hold
pub refused : {P : Type 0} (b : Bool) → b ≡ false → (P → ⊥) → Decides b P
refused b e n = (λ t. absurd (clash (sym e ∙ t)), λ p. absurd (n p))
