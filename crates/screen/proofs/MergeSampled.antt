-- The samples, by computing them.
use Rattle.std.proofs.Common.{refl}
use Rattle.screen.specs.Entries.{entry_of}
use Rattle.screen.specs.Values.{value_of}
use Rattle.screen.specs.Scan.{scan}
use Rattle.screen.specs.Merge.{work, merge}
use Rattle.screen.specs.MergeSamples.{SamplesHold}

pub samples_hold : SamplesHold
unfolding entry_of value_of scan work merge
samples_hold = refl
