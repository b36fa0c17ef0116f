use Rattle.std.proofs.Common.{◌≡◌, ◌≤◌, length, drop}
use Rattle.screen.specs.Lists.{present}
use Rattle.sheet.specs.Walks.{fresh, marked}
use Rattle.sheet.proofs.sound.users.mark_names.Given as goal

-- what is left decides, with the marks so far
abbrev pub invariant-loop-name : goal.invariant-loop-name
invariant-loop-name l =
    (l.limit ≤ length l.marks)
    × (fresh l.limit l.initial.marks (present l.names) ≡ fresh l.limit l.marks (present (drop l.name-index l.names)))
    × (marked l.initial.marks (present l.names) ≡ marked l.marks (present (drop l.name-index l.names)))
