-- What is promised of a list of files: the tally of as many outcomes as there are names; or that it ends early.
use Rattle.std.specs.Prelude.{ℕ, Result, Ok, Err}
use Rattle.program.specs.declared.mistake.Failed.{Failed}
use Rattle.program.specs.declared.mistake.Failed.TheVariants.{Open, Read, Write, Sync, Print}
use Rattle.program.specs.declared.mistake.Mistake.{Mistake}
use Rattle.program.specs.declared.mistake.Mistake.TheVariants.{Usage, TooLong, EditionNoNumber, OutNoFile, System}
use Rattle.file_list.specs.declared.tally.Said.{Said}
use Rattle.file_list.specs.declared.tally.Tally.{Tally}
use Rattle.file_list.specs.Tally.{Tallied}

-- a line that cannot be printed ends a list, and no file does: one that cannot be opened or read has its line
abbrev pub EndsPrinting : Failed → Type 0
EndsPrinting Open = ⊥
EndsPrinting Read = ⊥
EndsPrinting Write = ⊥
EndsPrinting Sync = ⊥
EndsPrinting Print = Unit {0}

-- and so does a name that is longer than its room
abbrev pub EndsEarly : Mistake → Type 0
EndsEarly (Usage program) = ⊥
EndsEarly TooLong = Unit {0}
EndsEarly EditionNoNumber = ⊥
EndsEarly OutNoFile = ⊥
EndsEarly (System failed error) = EndsPrinting failed

-- the tally of all, or the mistake that ends the list
abbrev pub Listed : Type 0
Listed = Result Tally Mistake

abbrev pub ListedAll : {A : Type 0} → (A → Said) → (A → Type 0) → ℕ → Listed → Type 0
ListedAll said Allowed count (Ok tally) = Tallied said Allowed count tally
ListedAll said Allowed count (Err mistake) = EndsEarly mistake
