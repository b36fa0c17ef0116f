-- A tree reads the same after any turns of a Merge.
use Rattle.std.proofs.Common.{◌≡◌, ◌++◌, sym, refl, ap, ◌∙◌}
use Rattle.std.proofs.lemmas.List.{append_assoc}
use Rattle.screen.specs.Forest.{Forest, bare, tree, ◌⊕◌}
use Rattle.screen.specs.Found.{Found, found_of}
use Rattle.screen.specs.Course.{Course, start}
use Rattle.screen.specs.Reading.{wrapped, reading}
use Rattle.screen.specs.MergeLaws.{ReadsSame}
use Rattle.screen.proofs.MergeTurns.{Turns, none, then, below, behind, flat, takes, merge_turns}

pub reading_join : (f g : Forest) → reading (f ⊕ g) ≡ reading f ++ reading g
reading_join bare g = refl
reading_join (tree n x cs ss) g = ap (λ l. wrapped x (reading cs) ++ l) (reading_join ss g) ∙ sym (append_assoc (wrapped x (reading cs)) (reading ss) (reading g))

turns_read : {E : Found} {f g : Forest} {a b : Course} → Turns E f a g b → reading g ≡ reading f
turns_read (none h) = refl
turns_read (then t u) = turns_read u ∙ turns_read t
turns_read (below {x} {s} t) = ap (λ l. wrapped x l ++ reading s) (turns_read t)
turns_read (behind {x} {c} t) = ap (λ l. wrapped x (reading c) ++ l) (turns_read t)
turns_read (flat {c} {s}) = reading_join c s
turns_read (takes {c} {s} p m b d h) = simp (reading_join, append_assoc)

pub reads_same : ReadsSame
reads_same m σ = turns_read (merge_turns (found_of m σ) σ.tree (start σ))
