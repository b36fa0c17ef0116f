use Rattle.std.proofs.Common.{◌≡◌, drop}
use Rattle.screen.specs.Lists.{member}
use Rattle.rules.proofs.shapes.has_shape.Given as goal

-- what is left decides
abbrev pub invariant-loop-own : goal.invariant-loop-own
invariant-loop-own l = member l.shape l.shapes ≡ member l.shape (drop l.own-index l.shapes)
