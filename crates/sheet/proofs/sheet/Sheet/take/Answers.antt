use Rattle.std.proofs.lemmas.Bool.{both_ways}
use Rattle.sheet.proofs.sheet.Sheet.take.Goals as goal

-- tables that hold a sheet are found sound
pub returns-then-not-is_sound-clause-takes : goal.returns-then-not-is_sound-clause-takes
returns-then-not-is_sound-clause-takes c = λ _ σ h. absurd (both_ways c.is_sound.result c.if-not-is_sound.true (c.is_sound.ensures.1 (σ, h)))
