-- What the contracts of the test programs' library are held to. Behind a function's name: the wrong programs that are ruled out.
use Rattle.std.specs.Prelude.{ℕ, true, false, [], ◌∷◌, replicate, Err, Ok, Some}
use Rattle.text.specs.Literal.{ascii}
use Rattle.refusal.specs.declared.Cause.TheVariants.{SequenceWrong}
use Rattle.cases.specs.declared.cursor.Number.{Number}
use Rattle.cases.specs.declared.cuts.Cuts.{Cuts}
use Rattle.answers.specs.CardRun.{adjusted, numbers_with, refusal, no_sale, one_sale, one_forecast, accepted}
use base.Fml.{Lft}
use Rattle.cases.specs.contracts.cursor.number_at as NumberAt
use Rattle.cases.specs.contracts.cursor.Number.part as Part
use Rattle.cases.specs.contracts.cursor.Number.behind_part as BehindPart
use Rattle.cases.specs.contracts.cuts.Cuts.of as CutsOf
use Rattle.cases.specs.contracts.cuts.Cuts.next as CutsNext
use Rattle.cases.specs.contracts.cuts.Cuts.behind as CutsBehind
use Rattle.cases.specs.contracts.hash.hash as Hash
use Rattle.cases.specs.contracts.output.fill as Fill
use Rattle.cases.specs.contracts.row.card_row as CardRow
use Rattle.cases.specs.contracts.row.same as Same
use borrow.Fn.Read.{r_last}
use Rattle.answers.specs.Held.{Claim, fact_of, logic, memory, run, OneAnswer, OnePart, OneOutcome, Tells, TellsOutcome, lent, lent_mut, part, one, two}

-- what each contract says
abbrev NumberAtSays : Claim NumberAt.ended
NumberAtSays κs a r s = fact_of ((NumberAt.clauses logic memory run κs a).ensures tt r s) (r_last _)

abbrev PartSays : Claim Part.ended
PartSays κs a r s = fact_of ((Part.clauses logic memory run κs a).ensures tt r s) (r_last _)

abbrev BehindPartSays : Claim BehindPart.ended
BehindPartSays κs a r s = fact_of ((BehindPart.clauses logic memory run κs a).ensures tt r s) (r_last _)

abbrev CutsOfSays : Claim CutsOf.ended
CutsOfSays κs a r s = fact_of ((CutsOf.clauses logic memory run κs a).ensures tt r s) (r_last _)

abbrev CutsNextSays : Claim CutsNext.ended
CutsNextSays κs a r s = fact_of ((CutsNext.clauses logic memory run κs a).ensures tt r s) (r_last _)

abbrev CutsBehindSays : Claim CutsBehind.ended
CutsBehindSays κs a r s = fact_of ((CutsBehind.clauses logic memory run κs a).ensures tt r s) (r_last _)

abbrev HashSays : Claim Hash.ended
HashSays κs a r s = fact_of ((Hash.clauses logic memory run κs a).ensures tt r s) (r_last _)

abbrev FillSays : Claim Fill.ended
FillSays κs a r s = fact_of ((Fill.clauses logic memory run κs a).ensures tt r s) (r_last _)

abbrev CardRowSays : Claim CardRow.ended
CardRowSays κs a r s = fact_of ((CardRow.clauses logic memory run κs a).ensures tt r s) (r_last _)

abbrev SameSays : Claim Same.ended
SameSays κs a r s = fact_of ((Same.clauses logic memory run κs a).ensures tt r s) (r_last _)

abbrev pub number_with : ℕ → ℕ → Number
number_with value behind = record { value = value; behind = behind }

abbrev pub cuts_at : ℕ → Cuts
cuts_at state = record { state = state }

pub record Cases (κ : Lft) : Type 0 where
  -- `number_at`: low byte first; the place in front of it
  pub number_at : OneAnswer NumberAtSays
  pub number_low_first : Tells (NumberAtSays (one κ)) (lent (ascii "\u{1}\u{2}"), (0, (2, tt))) (number_with 258 2) (number_with 513 2)
  pub number_in_front : Tells (NumberAtSays (one κ)) (lent (ascii "\u{1}\u{2}"), (0, (2, tt))) (number_with 258 2) (number_with 258 0)
  -- `Number::part`: the bytes in front of it; other bytes with the same content
  pub parts : OnePart PartSays
  pub part_in_front : Tells (PartSays (one κ)) (number_with 2 1, (lent (ascii "xCV1"), tt)) (part 1 (ascii "CV")) (part 0 (ascii "xC"))
  pub part_elsewhere : Tells (PartSays (one κ)) (number_with 2 1, (lent (ascii "00000"), tt)) (part 1 (ascii "00")) (part 3 (ascii "00"))
  -- `Number::behind_part`: the place in front of the part; a sum that wraps
  pub behind_part : OneAnswer BehindPartSays
  pub behind_in_front : Tells (BehindPartSays tt) (number_with 3 4, tt) 7 4
  pub behind_wraps : Tells (BehindPartSays tt) (number_with 18446744073709551615 4, tt) 18446744073709551615 3
  -- `Cuts::of`: the same cuts for all files; the sum of the bytes
  pub cuts_of : OneAnswer CutsOfSays
  pub cuts_alike : Tells (CutsOfSays (one κ)) (lent (ascii "ab"), tt) (cuts_at 3105) (cuts_at 0)
  pub cuts_sum : Tells (CutsOfSays (one κ)) (lent (ascii "ab"), tt) (cuts_at 3105) (cuts_at 195)
  -- `Cuts::next`: a state that stays; one that is not looked at
  pub cuts_next : OneAnswer CutsNextSays
  pub cuts_stay : Tells (CutsNextSays tt) (cuts_at 1, tt) (cuts_at 1015568748) (cuts_at 1)
  pub cuts_not_looked_at : Tells (CutsNextSays tt) (cuts_at 1, tt) (cuts_at 1015568748) (cuts_at 1013904223)
  -- `Cuts::behind`: the size alone; a place past the end
  pub cuts_behind : OneAnswer CutsBehindSays
  pub cuts_size : Tells (CutsBehindSays tt) (cuts_at 50659328, (10, (1000, tt))) 49 39
  pub cuts_past : Tells (CutsBehindSays tt) (cuts_at 50659328, (10, (20, tt))) 20 49
  -- `hash`: another base; the last byte alone
  pub hash : OneAnswer HashSays
  pub hash_base : Tells (HashSays (one κ)) (lent (ascii "ab"), tt) 3105 3299
  pub hash_last : Tells (HashSays (one κ)) (lent (ascii "ab"), tt) 3105 98
  -- `fill`: a pattern from 0; another step
  pub fill : OneOutcome (λ κs s. s.0.now) FillSays
  pub fill_from_zero :
      TellsOutcome (FillSays (one κ)) (lent_mut (ascii "..."), tt)
      (record { answer = tt; exit = (lent_mut (3 ∷ 10 ∷ 17 ∷ []), tt) })
      (record { answer = tt; exit = (lent_mut (0 ∷ 7 ∷ 14 ∷ []), tt) })
  pub fill_step :
      TellsOutcome (FillSays (one κ)) (lent_mut (ascii "..."), tt)
      (record { answer = tt; exit = (lent_mut (3 ∷ 10 ∷ 17 ∷ []), tt) })
      (record { answer = tt; exit = (lent_mut (3 ∷ 12 ∷ 21 ∷ []), tt) })
  -- `card_row`: the discount for the net; the forecasts behind the settled; the credits for the debits; a refusal without its column
  pub card_row : OneAnswer CardRowSays
  pub row_net : Tells (CardRowSays tt) (accepted 5 1 one_sale, tt) (0 ∷ 0 ∷ 0 ∷ 20240229 ∷ 1 ∷ 5 ∷ 1 ∷ 0 ∷ 0 ∷ 0 ∷ 0 ∷ 1 ∷ 10000 ∷ 250 ∷ 9750 ∷ 0 ∷ 0 ∷ 0 ∷ 0 ∷ []) (0 ∷ 0 ∷ 0 ∷ 20240229 ∷ 1 ∷ 5 ∷ 1 ∷ 0 ∷ 0 ∷ 0 ∷ 0 ∷ 1 ∷ 10000 ∷ 250 ∷ 250 ∷ 0 ∷ 0 ∷ 0 ∷ 0 ∷ [])
  pub row_forecast : Tells (CardRowSays tt) (accepted 5 1 one_forecast, tt) (0 ∷ 0 ∷ 0 ∷ 20240229 ∷ 1 ∷ 5 ∷ 1 ∷ 1 ∷ 10000 ∷ 250 ∷ 9750 ∷ 0 ∷ 0 ∷ 0 ∷ 0 ∷ 0 ∷ 0 ∷ 0 ∷ 0 ∷ []) (0 ∷ 0 ∷ 0 ∷ 20240229 ∷ 1 ∷ 5 ∷ 1 ∷ 0 ∷ 0 ∷ 0 ∷ 0 ∷ 1 ∷ 10000 ∷ 250 ∷ 9750 ∷ 0 ∷ 0 ∷ 0 ∷ 0 ∷ [])
  pub row_debits : Tells (CardRowSays tt) (Some (Ok (numbers_with 5 1 no_sale (adjusted 0 0) (adjusted 1 975))), tt) (0 ∷ 0 ∷ 0 ∷ 20240229 ∷ 1 ∷ 5 ∷ 1 ∷ 0 ∷ 0 ∷ 0 ∷ 0 ∷ 0 ∷ 0 ∷ 0 ∷ 0 ∷ 0 ∷ 0 ∷ 1 ∷ 975 ∷ []) (0 ∷ 0 ∷ 0 ∷ 20240229 ∷ 1 ∷ 5 ∷ 1 ∷ 0 ∷ 0 ∷ 0 ∷ 0 ∷ 0 ∷ 0 ∷ 0 ∷ 0 ∷ 1 ∷ 975 ∷ 0 ∷ 0 ∷ [])
  pub row_column : Tells (CardRowSays tt) (Some (Err (refusal SequenceWrong 3 194)), tt) (9 ∷ 3 ∷ 194 ∷ replicate 16 0) (9 ∷ 3 ∷ 0 ∷ replicate 16 0)
  -- `same`: a look at the first numbers alone; a shorter row taken for the same
  pub same : OneAnswer SameSays
  pub same_first : Tells (SameSays (two κ)) (lent (1 ∷ 2 ∷ []), (lent (1 ∷ 3 ∷ []), tt)) false true
  pub same_shorter : Tells (SameSays (two κ)) (lent (1 ∷ []), (lent (1 ∷ 2 ∷ []), tt)) false true
