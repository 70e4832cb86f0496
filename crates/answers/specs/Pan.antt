-- What the contracts of `pan` are held to. Behind a function's name: the wrong programs that are ruled out.
use Rattle.std.specs.Prelude.{ℕ, true, false}
use Rattle.text.specs.Literal.{ascii}
use Rattle.pan.specs.declared.Places.{Places}
use base.Fml.{Lft}
use Rattle.pan.specs.contracts.well_formed as WellFormed
use Rattle.pan.specs.contracts.valid_characters as ValidCharacters
use Rattle.pan.specs.contracts.hidden_places as HiddenPlaces
use Rattle.pan.specs.contracts.mask as Mask
use borrow.Fn.Read.{r_last}
use Rattle.answers.specs.Held.{Claim, fact_of, logic, memory, run, OneAnswer, OnePart, OneOutcome, Tells, TellsOutcome, lent, lent_mut, part, one}

-- what each contract says
abbrev WellFormedSays : Claim WellFormed.ended
WellFormedSays κs a r s = fact_of ((WellFormed.clauses logic memory run κs a).ensures tt r s) (r_last _)

abbrev ValidCharactersSays : Claim ValidCharacters.ended
ValidCharactersSays κs a r s = fact_of ((ValidCharacters.clauses logic memory run κs a).ensures tt r s) (r_last _)

abbrev HiddenPlacesSays : Claim HiddenPlaces.ended
HiddenPlacesSays κs a r s = fact_of ((HiddenPlaces.clauses logic memory run κs a).ensures tt r s) (r_last _)

abbrev MaskSays : Claim Mask.ended
MaskSays κs a r s = fact_of ((Mask.clauses logic memory run κs a).ensures tt r s) (r_last _)

abbrev places : ℕ → ℕ → Places
places from to = record { from = from; to = to }

pub record Pan (κ : Lft) : Type 0 where
  -- `well_formed`: digits alone taken; the bytes not counted
  pub well_formed_lem : OneAnswer WellFormedSays
  pub formed_stars : Tells (WellFormedSays (one κ)) (lent (ascii "000123456****123456"), tt) true false
  pub formed_twenty : Tells (WellFormedSays (one κ)) (lent (ascii "00012345678901234567"), tt) false true
  -- `valid_characters`: all 19 places taken; stars passed over with the zeros in front of them
  pub valid_characters_lem : OnePart ValidCharactersSays
  pub valid_all : Tells (ValidCharactersSays (one κ)) (lent (ascii "0000000123456789012"), tt) (part 7 (ascii "123456789012")) (part 0 (ascii "0000000123456789012"))
  pub valid_stars : Tells (ValidCharactersSays (one κ)) (lent (ascii "000****567890123456"), tt) (part 3 (ascii "****567890123456")) (part 7 (ascii "567890123456"))
  -- `hidden_places`: stars left out of the count of places; all 19 taken as the card's length; a card of 13 shown; five at the end
  pub hidden_places_lem : OneAnswer HiddenPlacesSays
  pub hidden_stars : Tells (HiddenPlacesSays (one κ)) (lent (ascii "000123456****123456"), tt) (places 9 15) (places 19 19)
  pub hidden_padded : Tells (HiddenPlacesSays (one κ)) (lent (ascii "0000000123456789012"), tt) (places 19 19) (places 6 15)
  pub hidden_thirteen : Tells (HiddenPlacesSays (one κ)) (lent (ascii "0000001234567890123"), tt) (places 10 15) (places 19 19)
  pub hidden_five : Tells (HiddenPlacesSays (one κ)) (lent (ascii "0001234567890123456"), tt) (places 9 15) (places 9 14)
  -- `mask`: nothing masked; a card of 16 masked as one of 15
  pub mask : OneOutcome (λ κs s. s.0.now) MaskSays
  pub mask_nothing :
      TellsOutcome (MaskSays (one κ)) (lent_mut (ascii "0001234567890123456"), tt)
      (record { answer = tt; exit = (lent_mut (ascii "000123456******3456"), tt) })
      (record { answer = tt; exit = (lent_mut (ascii "0001234567890123456"), tt) })
  pub mask_sixteen :
      TellsOutcome (MaskSays (one κ)) (lent_mut (ascii "0001234567890123456"), tt)
      (record { answer = tt; exit = (lent_mut (ascii "000123456******3456"), tt) })
      (record { answer = tt; exit = (lent_mut (ascii "0001234********3456"), tt) })
