-- A repeated entry under each rule, and the order of the two lists.
use Rattle.std.proofs.Common.{◌≡◌, Bool, true, false, ◌&&◌, ◌||◌, [], ◌∷◌, refl, ap, ◌∙◌}
use Rattle.screen.specs.Rules.{Dep}
use Rattle.screen.specs.Alike.{bits_alike, alike, covered}
use Rattle.screen.specs.Reflexive.{alike_self, bits_self}
use Rattle.rules.specs.Shown.{RepeatPasses, RepeatSeen, RepeatSeenTurned, NotSymmetric}

x_self : (x : Dep) → alike bits_alike x x ≡ true
x_self = alike_self bits_alike bits_self

pub repeat_passes : RepeatPasses
repeat_passes x y = rw (x_self x) refl

-- what is asked of the same entry twice over
twice : (b : Bool) → ((b || (b || false)) && true) ≡ b
twice true = refl
twice false = refl

pub repeat_seen_turned : RepeatSeenTurned
repeat_seen_turned x y = rw (x_self x) (twice (alike bits_alike y x))

pub repeat_seen : RepeatSeen
repeat_seen x y = ap (λ t. t && covered bits_alike (x ∷ y ∷ []) (x ∷ x ∷ [])) (repeat_passes x y) ∙ repeat_seen_turned x y

-- two entries that differ in their declaration
colour : Dep
colour = record { declaration = 1; path = [] }

stitches : Dep
stitches = record { declaration = 2; path = [] }

pub not_symmetric : NotSymmetric
unfolding colour stitches
not_symmetric = (colour ∷ colour ∷ [], colour ∷ stitches ∷ [], refl, refl)
