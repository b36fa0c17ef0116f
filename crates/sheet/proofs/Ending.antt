-- The steps along a list of declarations, and where it ends.
use Rattle.std.proofs.Common.{◌≡◌, ℕ, zero, suc, ◌+◌, ◌-◌, ◌<◌, cond, ltb, List, length, ap, ◌∙◌, arith}
use Rattle.std.proofs.lemmas.Bool.{cond-true, cond_both, lt-ltb, ltb-true}
use Rattle.sheet.specs.declared.rows.DeclarationRow.{DeclarationRow}
use Rattle.sheet.specs.Chains.{next_declaration}
use Rattle.sheet.specs.Ends.{end_from}

-- with steps left, a link to a row is followed, and any other is the end
pub end_step : (n i : ℕ) (rows : List DeclarationRow) (a : ℕ) → i < n → end_from (n - i) rows a ≡ cond (ltb (next_declaration rows a) (length rows)) (end_from (n - (i + 1)) rows (next_declaration rows a)) a
end_step n i rows a h =
    let e : n - i ≡ suc (n - (i + 1)) = omega arith in
    ap (λ m. end_from m rows a) e

pub end_next : (n i : ℕ) (rows : List DeclarationRow) (a : ℕ) → i < n → next_declaration rows a < length rows → end_from (n - i) rows a ≡ end_from (n - (i + 1)) rows (next_declaration rows a)
end_next n i rows a h l = end_step n i rows a h ∙ cond-true (ltb (next_declaration rows a) (length rows)) (end_from (n - (i + 1)) rows (next_declaration rows a)) a (lt-ltb (next_declaration rows a) (length rows) l)

-- the end is a row
pub end_low : (n : ℕ) (rows : List DeclarationRow) (a : ℕ) → a < length rows → end_from n rows a < length rows
end_low zero rows a h = h
end_low (suc n) rows a h =
    cond_both (ltb (next_declaration rows a) (length rows)) (end_from n rows (next_declaration rows a)) a (λ i. i < length rows)
    (λ e. end_low n rows (next_declaration rows a) (ltb-true (next_declaration rows a) (length rows) e)) (λ e. h)
