-- How often a number is in a forest.
use Rattle.std.proofs.Common.{◌≡◌, ℕ, ◌+◌, ◌≤◌, ◌≢◌, List, length, refl, ap, arith}
use Rattle.std.proofs.lemmas.Bool.Decides.{nat_tests}
use Rattle.screen.specs.Forest.{Forest, bare, tree, ◌⊕◌, same, cnt}
use Rattle.screen.specs.Standing.{Labelled}
use Rattle.screen.specs.declared.node.Node.{Node}

pub same_self : (n : ℕ) → same n n ≡ 1
same_self n = grind (arith, nat_tests)

pub same_other : (k n : ℕ) → k ≢ n → same k n ≡ 0
same_other k n h = grind (arith, nat_tests)

pub apart : (k n : ℕ) → same k n ≡ 0 → k ≢ n
apart k n h e = omega (arith, ap (λ x. same k x) e, same_self k)

pub cnt_join : (k : ℕ) (f g : Forest) → cnt k (f ⊕ g) ≡ cnt k f + cnt k g
cnt_join k bare g = omega arith
cnt_join k (tree n x cs ss) g = omega (arith, cnt_join k ss g)

-- a number past the nodes is nowhere
pub labelled_past : (nodes : List Node) (f : Forest) (k : ℕ) → Labelled nodes f → length nodes ≤ k → cnt k f ≡ 0
labelled_past nodes bare k h l = refl
labelled_past nodes (tree n x cs ss) k h l =
    omega (arith, same_other k n (λ e. omega (arith, h.0)), labelled_past nodes cs k h.2 l, labelled_past nodes ss k h.3 l)
