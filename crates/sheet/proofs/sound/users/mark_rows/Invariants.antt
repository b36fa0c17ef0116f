use Rattle.std.proofs.Common.{◌≡◌, ◌≤◌, length, drop}
use Rattle.screen.specs.Lists.{gathered}
use Rattle.sheet.specs.Walks.{fresh, marked}
use Rattle.sheet.proofs.sound.users.mark_rows.Given as goal

-- what is left decides, with the marks so far
abbrev pub invariant-loop-row : goal.invariant-loop-row
invariant-loop-row g l =
    (l.limit ≤ length l.marks)
    × (fresh l.limit l.initial.marks (gathered g.R.Naming.names l.rows) ≡ fresh l.limit l.marks (gathered g.R.Naming.names (drop l.row-index l.rows)))
    × (marked l.initial.marks (gathered g.R.Naming.names l.rows) ≡ marked l.marks (gathered g.R.Naming.names (drop l.row-index l.rows)))
