-- What the programs print.
use Rattle.std.specs.Prelude.{ℕ, List, ◌++◌, codes, decimal}
use Rattle.programs.specs.declared.place.Place.{Place}

-- a record's place: its block's place and its own
abbrev pub place_text : Place → List ℕ
place_text p = decimal p.block ++ codes " " ++ decimal p.record
