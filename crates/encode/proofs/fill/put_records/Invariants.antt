use Rattle.std.proofs.Common.{◌≡◌, ◌-◌, ◌*◌, ◌++◌, take, replicate}
use Rattle.encode.specs.Filled.{in_row}
use Rattle.encode.proofs.fill.put_records.Given as goal

-- the first i records are put, and zeros stand after them
abbrev pub invariant-loop-i : goal.invariant-loop-i
invariant-loop-i l = l.bytes ≡ in_row (take l.i l.records) ++ replicate (512 - 16 * l.i) 0
