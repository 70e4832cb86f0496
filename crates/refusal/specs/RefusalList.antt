-- "The refusal list": the number that document 01, and behind its rows the requests, give each cause.
use Rattle.std.specs.Prelude.{ℕ, List, [], ◌∷◌, cond, eqb}
use Rattle.refusal.specs.declared.Cause.{Cause}

abbrev pub number_of : Cause → ℕ
number_of Cause.EditionUnknown = 1  -- "edition not 1 (June 2013) or 2 (November 2023)"
number_of Cause.OutputTooShort = 2  -- "output shorter than what is to be written"
number_of Cause.NoLineEnd = 3  -- "no LF in the rest, or the next LF has no CR right before it in the record"
number_of Cause.KindUnknown = 4  -- "record kind unknown"
number_of Cause.KindNotAllowedHere = 5  -- "kind not allowed at this place"
number_of Cause.WrongWidth = 6  -- "record has the wrong width"
number_of Cause.ByteNotAllowed = 7  -- "byte not allowed in its field"
number_of Cause.ValueNotAllowed = 8  -- "field's value not allowed"
number_of Cause.SequenceWrong = 9  -- "sequence number wrong"
number_of Cause.AmountsDisagree = 10  -- "amounts disagree"
number_of Cause.TrailerDisagrees = 11  -- "trailer disagrees"
number_of Cause.EndsTooEarly = 12  -- "file ends too early"
number_of Cause.BytesAfterTheEnd = 13  -- "bytes after the end"
number_of Cause.FieldNotOffered = 14  -- "field not offered"
number_of Cause.NotADaySheet = 15  -- "not a day sheet"
number_of Cause.SheetVersionUnknown = 16  -- "day sheet version unknown"
number_of Cause.SheetNumbersNotAllowed = 17  -- "day sheet's numbers not allowed"
number_of Cause.EditionRetired = 22  -- "edition retired"

-- the causes in the list's order
abbrev pub causes : List Cause
causes =
    Cause.EditionUnknown ∷ Cause.OutputTooShort ∷ Cause.NoLineEnd ∷ Cause.KindUnknown ∷
    Cause.KindNotAllowedHere ∷ Cause.WrongWidth ∷ Cause.ByteNotAllowed ∷ Cause.ValueNotAllowed ∷
    Cause.SequenceWrong ∷ Cause.AmountsDisagree ∷ Cause.TrailerDisagrees ∷ Cause.EndsTooEarly ∷
    Cause.BytesAfterTheEnd ∷ Cause.FieldNotOffered ∷ Cause.NotADaySheet ∷ Cause.SheetVersionUnknown ∷
    Cause.SheetNumbersNotAllowed ∷ Cause.EditionRetired ∷ []

-- the first cause of some that has a number; another where none has
abbrev pub numbered : ℕ → List Cause → Cause → Cause
numbered n [] d = d
numbered n (c ∷ cs) d = cond (eqb (number_of c) n) c (numbered n cs d)

-- the cause that the list has under a number; its first where it has none
abbrev pub cause_numbered : ℕ → Cause
cause_numbered n = numbered n causes Cause.EditionUnknown
