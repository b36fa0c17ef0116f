-- The sample runs, by computing them.
use Rattle.std.proofs.Common.{refl}
use Rattle.screen.specs.Entries.{entry_of}
use Rattle.screen.specs.Values.{value_of}
use Rattle.screen.specs.Scan.{scan}
use Rattle.screen.specs.Merge.{work, merge}
use Rattle.screen.specs.RunSamples.{RunSamplesHold}

pub run_samples_hold : RunSamplesHold
unfolding entry_of value_of scan work merge
run_samples_hold = refl
