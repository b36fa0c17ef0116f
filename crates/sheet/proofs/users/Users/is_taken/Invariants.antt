use Rattle.std.proofs.Common.{◌≡◌, drop}
use Rattle.screen.specs.Lists.{present}
use Rattle.screen.specs.Users.{namings, taken}
use Rattle.sheet.specs.Planted.{nodes_of}
use Rattle.sheet.proofs.users.Users.is_taken.Given as goal

-- what is left decides
abbrev pub invariant-loop-i : goal.invariant-loop-i
invariant-loop-i l =
    taken (namings l.self.values.now (nodes_of l.self.nodes.now)) (present l.names)
    ≡ taken (namings l.self.values.now (nodes_of l.self.nodes.now)) (present (drop l.i l.names))
