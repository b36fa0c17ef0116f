use Rattle.screen.proofs.laws.reading_stands.Goals as goal
use Rattle.screen.proofs.MergeReading.{reads_same}

pub returns : goal.returns
returns c = reads_same
