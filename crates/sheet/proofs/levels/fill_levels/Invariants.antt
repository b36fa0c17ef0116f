use Rattle.std.proofs.Common.{◌≡◌, true, leb, length, take, drop}
use Rattle.screen.specs.Lists.{every}
use Rattle.screen.specs.Levels.{levels_from, levels_of}
use Rattle.sheet.proofs.levels.fill_levels.Given as goal

-- the levels so far, and those that follow from them
abbrev pub invariant-loop-i : goal.invariant-loop-i
invariant-loop-i l =
    (length l.levels ≡ 1024)
    × (levels_of l.values ≡ levels_from (take l.i l.levels) (drop l.i l.values))
    × (every (λ n. leb n 64) (take l.i l.levels) ≡ true)
