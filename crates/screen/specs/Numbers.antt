-- The numbers of the refusals.
use Rattle.std.specs.Prelude.{ℕ}
use Rattle.screen.specs.declared.answer.Refusal.{Refusal}
use Rattle.screen.specs.declared.answer.Refusal.TheVariants.{Short, Unsound, Field, Row, Used, Deep, Full, Place, Open}

abbrev pub number_of : Refusal → ℕ
number_of Short = 5
number_of Unsound = 6
number_of Field = 7
number_of Row = 8
number_of Used = 9
number_of Deep = 10
number_of Full = 11
number_of Place = 12
number_of Open = 13
