-- What nodes weigh together, by any weight of a node and its number, and what turns leave of it.
use Rattle.std.proofs.Common.{◌≡◌, ℕ, ◌+◌, ◌≤◌, refl, arith}
use Rattle.screen.specs.Forest.{Forest, bare, tree, ◌⊕◌}
use Rattle.screen.specs.Standing.{openings}
use Rattle.screen.specs.Found.{Found}
use Rattle.screen.specs.Course.{Course, joined_in}
use Rattle.screen.specs.declared.node.Node.{Node}
use Rattle.screen.specs.declared.node.Node.TheVariants.{Scope}
use Rattle.screen.proofs.Grown.{openings_join}
use Rattle.screen.proofs.Times.{times}
use Rattle.screen.proofs.MergeSteps.{Alike}
use Rattle.screen.proofs.MergeTurns.{Turns, none, then, below, behind, flat, takes}

abbrev pub weigh : (ℕ → Node → ℕ) → Forest → ℕ
weigh w bare = 0
weigh w (tree n x cs ss) = w n x + weigh w cs + weigh w ss

pub weigh_join : (w : ℕ → Node → ℕ) (f g : Forest) → weigh w (f ⊕ g) ≡ weigh w f + weigh w g
weigh_join w bare g = omega arith
weigh_join w (tree n x cs ss) g = omega (arith, weigh_join w ss g)

-- no weight grows
pub turns_less : {E : Found} {f g : Forest} {a b : Course} (w : ℕ → Node → ℕ) → Turns E f a g b → weigh w g ≤ weigh w f
turns_less w (none h) = omega arith
turns_less w (then t u) = omega (arith, turns_less w t, turns_less w u)
turns_less w (below t) = omega (arith, turns_less w t)
turns_less w (behind t) = omega (arith, turns_less w t)
turns_less w (flat {c} {s}) = omega (arith, weigh_join w c s)
turns_less w (takes {c} {s} p m b d h) =
    omega (arith, weigh_join w c (p ⊕ d), weigh_join w p d, weigh_join w p (tree m (Scope b) d s))

-- a weight that Scopes have not stays
pub turns_same : {E : Found} {f g : Forest} {a b : Course} (w : ℕ → Node → ℕ) → ((n k : ℕ) → w n (Scope k) ≡ 0) → Turns E f a g b → weigh w g ≡ weigh w f
turns_same w z (none h) = refl
turns_same w z (then t u) = omega (arith, turns_same w z t, turns_same w z u)
turns_same w z (below t) = omega (arith, turns_same w z t)
turns_same w z (behind t) = omega (arith, turns_same w z t)
turns_same w z (flat {n} {k} {c} {s}) = omega (arith, z n k, weigh_join w c s)
turns_same w z (takes {n} {k} {c} {s} p m b d h) =
    omega (arith, z m b, weigh_join w c (p ⊕ d), weigh_join w p d, weigh_join w p (tree m (Scope b) d s))

-- how often Scope k was joined or flattened
abbrev pub gone : ℕ → Course → ℕ
gone k st = times k (joined_in st.joins) + times k st.flats

pub alike_gone : (k : ℕ) (a b : Course) → Alike a b → gone k b ≡ gone k a
alike_gone k a b h = rw (h.joins, h.flats)

-- a Scope is in the forest, joined or flattened as often as before
pub turns_gone : {E : Found} {f g : Forest} {a b : Course} (k : ℕ) → Turns E f a g b → openings k g + gone k b ≡ openings k f + gone k a
turns_gone {a} {b} k (none h) = omega (arith, alike_gone k a b h)
turns_gone k (then t u) = omega (arith, turns_gone k t, turns_gone k u)
turns_gone k (below t) = omega (arith, turns_gone k t)
turns_gone k (behind t) = omega (arith, turns_gone k t)
turns_gone k (flat {c} {s}) = omega (arith, openings_join k c s)
turns_gone k (takes {c} {s} p m b d h) =
    omega (arith, openings_join k c (p ⊕ d), openings_join k p d, openings_join k p (tree m (Scope b) d s))

-- so it goes once at most, and none goes that is not there
pub turns_kept : {E : Found} {f g : Forest} {a b : Course} (k : ℕ) → Turns E f a g b → gone k a ≤ gone k b
turns_kept {a} {b} k (none h) = omega (arith, alike_gone k a b h)
turns_kept k (then t u) = omega (arith, turns_kept k t, turns_kept k u)
turns_kept k (below t) = turns_kept k t
turns_kept k (behind t) = turns_kept k t
turns_kept k flat = omega arith
turns_kept k (takes p m b d h) = omega arith
