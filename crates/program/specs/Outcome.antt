-- What a program says of its work.
use Rattle.std.specs.Prelude.{ℕ, List, Result, Ok, Err}
use Rattle.files.specs.declared.writing.Standard.{Standard}
use Rattle.files.specs.declared.writing.Standard.TheVariants.{Output, Error}
use Rattle.program.specs.declared.mistake.Mistake.{Mistake}
use Rattle.program.specs.Sentence.{sentence_of}

-- the answer's text, or the mistake's sentence
abbrev pub told_text : {A : Type 0} → (A → List ℕ) → Result A Mistake → List ℕ
told_text text_of (Ok answer) = text_of answer
told_text text_of (Err mistake) = sentence_of mistake

-- an answer goes to standard output, a mistake to standard error
abbrev pub standard_of : {A : Type 0} → Result A Mistake → Standard
standard_of (Ok answer) = Output
standard_of (Err mistake) = Error
