-- Laws of the refusal list: its numbers, in its order; each cause is the one that the list has under its number, so no two causes share one. By computation, a cause at a time.
use Prim.Native.Nat.{◌≤◌}
use mathlib.Core.Path.{◌≡◌, refl, sym, ap, ◌∙◌}
use mathlib.Core.List.{[], ◌∷◌, map}
use lib.Dec.{lit≤}
use Rattle.refusal.specs.declared.Cause.{Cause}
use Rattle.refusal.specs.RefusalList.{number_of, causes, numbered}

-- the list's numbers, in its order; those between are of requests that are to come
pub numbers : map number_of causes ≡ 1 ∷ 2 ∷ 3 ∷ 4 ∷ 5 ∷ 6 ∷ 7 ∷ 8 ∷ 9 ∷ 10 ∷ 11 ∷ 12 ∷ 13 ∷ 14 ∷ 15 ∷ 16 ∷ 17 ∷ 22 ∷ []
numbers = refl

-- what the list says of one cause
row : (c d : Cause) → (numbered (number_of c) causes d ≡ c) × (1 ≤ number_of c)
row Cause.EditionUnknown d = (refl, lit≤ tt)
row Cause.OutputTooShort d = (refl, lit≤ tt)
row Cause.NoLineEnd d = (refl, lit≤ tt)
row Cause.KindUnknown d = (refl, lit≤ tt)
row Cause.KindNotAllowedHere d = (refl, lit≤ tt)
row Cause.WrongWidth d = (refl, lit≤ tt)
row Cause.ByteNotAllowed d = (refl, lit≤ tt)
row Cause.ValueNotAllowed d = (refl, lit≤ tt)
row Cause.SequenceWrong d = (refl, lit≤ tt)
row Cause.AmountsDisagree d = (refl, lit≤ tt)
row Cause.TrailerDisagrees d = (refl, lit≤ tt)
row Cause.EndsTooEarly d = (refl, lit≤ tt)
row Cause.BytesAfterTheEnd d = (refl, lit≤ tt)
row Cause.FieldNotOffered d = (refl, lit≤ tt)
row Cause.NotADaySheet d = (refl, lit≤ tt)
row Cause.SheetVersionUnknown d = (refl, lit≤ tt)
row Cause.SheetNumbersNotAllowed d = (refl, lit≤ tt)
row Cause.EditionRetired d = (refl, lit≤ tt)

-- a cause is the one that the list has under its number
pub listed : (c d : Cause) → numbered (number_of c) causes d ≡ c
listed c d = (row c d).0

pub from_one : (c : Cause) → 1 ≤ number_of c
from_one c = (row c c).1

-- a number names one cause
pub injective : (c d : Cause) → number_of c ≡ number_of d → c ≡ d
injective c d e = sym (listed c c) ∙ ap (λ n. numbered n causes c) e ∙ listed d c
