-- Which mistakes are of the files, and none of the arguments.
use Rattle.program.specs.declared.mistake.Mistake.{Mistake}
use Rattle.program.specs.declared.mistake.Mistake.TheVariants.{Usage, TooLong, EditionNoNumber, OutNoFile, System}

abbrev pub OfTheFiles : Mistake → Type 0
OfTheFiles (Usage program) = ⊥
OfTheFiles TooLong = ⊥
OfTheFiles EditionNoNumber = ⊥
OfTheFiles OutNoFile = Unit {0}
OfTheFiles (System failed error) = Unit {0}
