-- Where the Scopes' dependencies begin: no begin is greater than the next, and the last no greater than the total.
use Rattle.std.proofs.Common.{◌≡◌, ℕ, ◌-◌, ◌<◌, Bool, true, false, ◌&&◌, eqb, leb, List, [], ◌∷◌, length, get_or, take, drop, sym, refl, ap, ◌∙◌, arith}
use Rattle.std.specs.List.{list_all, zip}
use Rattle.std.proofs.Math.Bool.{and-true}
use Rattle.std.proofs.Math.Seq.{take-length}
use Rattle.std.proofs.lemmas.Bool.{eq-eqb}
use Rattle.screen.specs.WellFormed.{rises_to, spans_to}
use Rattle.sheet.specs.Chains.{no_scope}
use Rattle.sheet.specs.Walks.{begins}
use Rattle.sheet.specs.declared.rows.ScopeRow.{ScopeRow}

abbrev begin_at : List ScopeRow → ℕ → ℕ
begin_at S k = (get_or S k no_scope).begin

-- no begin is greater than the next
abbrev pub in_order : List ScopeRow → List ScopeRow → Bool
in_order S T = list_all (λ t. leb t.0.begin t.1.begin) (zip S T)

swap : (a b c : Bool) → (a && (b && c)) ≡ (b && (a && c))
swap true b c = refl
swap false true c = refl
swap false false c = refl

rises : (r : ScopeRow) (rs : List ScopeRow) (d : ℕ) → rises_to r.begin (begins rs) d ≡ (leb (begin_at (r ∷ rs) (length rs)) d && in_order (r ∷ rs) rs)
rises r [] d = sym (and-true (leb r.begin d))
rises r (s ∷ ss) d = ap (λ b. leb r.begin s.begin && b) (rises s ss d) ∙ swap (leb r.begin s.begin) (leb (begin_at (s ∷ ss) (length ss)) d) (in_order (s ∷ ss) ss)

pub spans : (S : List ScopeRow) (d : ℕ) → 0 < length S → spans_to (begins S) d ≡ (eqb (begin_at S 0) 0 && (leb (begin_at S (length S - 1)) d && in_order S (drop 1 S)))
spans [] d h = absurd (omega arith)
spans (r ∷ rs) d h =
    let last : length rs ≡ length (r ∷ rs) - 1 = omega arith in
    ap (λ b. eqb r.begin 0 && b) (rises r rs d ∙ ap (λ n. leb (begin_at (r ∷ rs) n) d && in_order (r ∷ rs) rs) last)

after : (S : List ScopeRow) → 0 < length S → take (length S - 1) (drop 1 S) ≡ drop 1 S
after [] h = absurd (omega arith)
after (r ∷ rs) h =
    let last : length (r ∷ rs) - 1 ≡ length rs = omega arith in
    ap (λ n. take n rs) last ∙ take-length rs

-- where the first begins at 0 and the last not past the total, the order decides
pub spans_ordered : (S : List ScopeRow) (d : ℕ) → 0 < length S → begin_at S 0 ≡ 0 → leb (begin_at S (length S - 1)) d ≡ true
    → spans_to (begins S) d ≡ in_order S (take (length S - 1) (drop 1 S))
spans_ordered S d h first last =
    spans S d h ∙ ap (λ b. b && (leb (begin_at S (length S - 1)) d && in_order S (drop 1 S))) (eq-eqb (begin_at S 0) 0 first) ∙ ap (λ b. b && in_order S (drop 1 S)) last
    ∙ ap (in_order S) (sym (after S h))
