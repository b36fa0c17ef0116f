use Rattle.std.proofs.Common.{◌≡◌, ◌++◌, vec_items}
use Rattle.block.specs.Left.{left, records_in}
use Rattle.encode.proofs.decode.records_of.Given as goal

-- what is taken out and what is left are the block's records
abbrev pub invariant-loop-record : goal.invariant-loop-record
invariant-loop-record l = vec_items l.records ++ left l.record-iterator ≡ records_in l.block
