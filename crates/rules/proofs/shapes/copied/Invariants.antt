use Rattle.std.proofs.Common.{◌≡◌, map, length, take}
use Rattle.rules.proofs.shapes.copied.Given as goal

-- the shapes of the rows passed are kept
abbrev pub invariant-loop-i : goal.invariant-loop-i
invariant-loop-i l = (length l.all ≡ 16) × (take l.i l.all ≡ map (λ r. r.shape) (take l.i l.rows))
