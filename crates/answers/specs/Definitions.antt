-- What the definitions that the demands cite are held to, on files: a definition that says more, or less, is ruled out.
use Rattle.std.specs.Prelude.{◌≡◌, true, false, [], ◌∷◌}
use Rattle.refusal.specs.Rules.{first_broken}
use Rattle.refusal.specs.declared.Cause.TheVariants.{KindNotAllowedHere, SequenceWrong}
use Rattle.lines.specs.Lines.{joined}
use Rattle.card_run.specs.Running.{no_numbers}
use Rattle.card_run.specs.Answer.{going_on_row, refused_row, card_file_row}
use Rattle.card_run.specs.declared.stage.Stage.TheVariants.{BetweenBatches}
use Rattle.card_kept.specs.Kept.{sale as sale_of, adjustment as adjustment_of, is_forecast, is_settled, Kept}
use Rattle.payroll_kept.specs.Kept as payroll
use Rattle.demands.specs.Feeding.{up_to}
use Rattle.card_kept.specs.FirstFault.{rules_at}
use Rattle.demands.specs.ExampleFile.{a0, l0, l9, a9, file_of, credit_file_of}
use Rattle.demands.specs.HiddenDigits.{hidden_in, TwinFiles}
use Rattle.demands.specs.LentBuffers.{LeftAlone}
use Rattle.demands.specs.MaskTwice.{RecordAndMasked, SameHiddenIn}
use Rattle.answers.specs.CardRun.{state, refusal, no_sale, one_sale, accepted}
use Rattle.refusal.specs.Fault.{at as fault_at}
use Rattle.answers.specs.Samples.{
  at,
  sale,
  credit,
  debit,
  blank_card,
  card_file,
  adjusted_file,
  file_header,
  payment,
  batch_trailer,
  payroll_file,
  payroll_file_of,
  payroll_file_with,
}

pub record Definitions : Type 0 where
  -- `Kept` of a card file: the card's digits judged, a first instalment refused; a sale whose amounts disagree kept, a trailer by the net, a file of edition 1
  pub kept_other_card : Kept 2 (file_of (at 88 "0004929000000000017" sale))
  pub kept_first_instalment : Kept 2 (file_of (at 107 "0102" (at 123 "000000100000000000025000000009750" sale)))
  pub kept_disagreeing : Kept 2 (file_of (at 77 "00000009751" sale)) → ⊥
  pub kept_by_net : Kept 2 (joined (a0 ∷ l0 ∷ sale ∷ at 9 "00000000009750" l9 ∷ a9 ∷ [])) → ⊥
  pub kept_retired : Kept 1 card_file → ⊥
  -- accents refused in the header and in a sale; a name that holds 159 kept
  pub kept_accents : Kept 2 (joined (at 29 "ESTAÇÃO" a0 ∷ l0 ∷ at 3 "LUÍS GAMA" sale ∷ l9 ∷ a9 ∷ []))
  pub kept_159 : Kept 2 (joined (at 29 "ESTA\u{9f}" a0 ∷ l0 ∷ sale ∷ l9 ∷ a9 ∷ [])) → ⊥
  -- with an adjustment: a blank card refused; the absolute value of a sum below zero kept, and one cut off at zero
  pub kept_adjusted : Kept 2 adjusted_file
  pub kept_blank_card : Kept 2 (credit_file_of blank_card)
  pub kept_absolute : Kept 2 (joined (a0 ∷ l0 ∷ debit ∷ at 9 "00000000000975" l9 ∷ a9 ∷ [])) → ⊥
  pub kept_zero : Kept 2 (joined (a0 ∷ l0 ∷ debit ∷ at 9 "00000000000000" l9 ∷ a9 ∷ [])) → ⊥
  -- `is_forecast` and `is_settled`: launch type 2 among the forecasts, a forecast in both or in neither, an adjustment in one
  pub forecast_0 : (is_forecast (sale_of (at 44 "0" sale)) ≡ true) × (is_settled (sale_of (at 44 "0" sale)) ≡ false)
  pub settled_1 : (is_forecast (sale_of sale) ≡ false) × (is_settled (sale_of sale) ≡ true)
  pub settled_2 : (is_forecast (sale_of (at 44 "2" sale)) ≡ false) × (is_settled (sale_of (at 44 "2" sale)) ≡ true)
  pub adjustment_in_neither : (is_forecast (adjustment_of credit) ≡ false) × (is_settled (adjustment_of credit) ≡ false)
  -- `Kept` with a forecast: a trailer by the settled alone
  pub kept_forecast : Kept 2 (file_of (at 44 "0" sale))
  pub kept_settled_alone : Kept 2 (joined (a0 ∷ l0 ∷ at 44 "0" sale ∷ at 3 "00000000000000000000" l9 ∷ a9 ∷ [])) → ⊥
  -- `Kept` of a payroll file: a Z in a file that is no return, an accent in a header, a batch trailer that does not count itself
  pub kept_payroll : payroll.Kept payroll_file
  pub kept_z : payroll.Kept (payroll_file_of (at 14 "Z" payment)) → ⊥
  pub kept_payroll_accent : payroll.Kept (payroll_file_with (at 80 "\u{a0}" file_header) payment batch_trailer) → ⊥
  pub kept_not_itself : payroll.Kept (payroll_file_with file_header payment (at 18 "000002" batch_trailer)) → ⊥
  -- `hidden_in`: places one late, or counted without the LF; `TwinFiles`: an open digit hidden
  pub hidden_from : (hidden_in card_file 192 ≡ false) × (hidden_in card_file 193 ≡ true)
  pub hidden_to : (hidden_in card_file 198 ≡ true) × (hidden_in card_file 199 ≡ false)
  pub twins_open_digit : TwinFiles card_file (file_of (at 88 "0001234567890123457" sale)) → ⊥
  -- the places of an adjustment's card
  pub hidden_adjustment_from : (hidden_in adjusted_file 468 ≡ false) × (hidden_in adjusted_file 469 ≡ true)
  pub hidden_adjustment_to : (hidden_in adjusted_file 474 ≡ true) × (hidden_in adjusted_file 475 ≡ false)
  -- the masked form of a sale and of an adjustment; `SameHiddenIn`: said of a card that is not well formed too
  pub masked_sale_lem : RecordAndMasked sale (at 97 "******" sale)
  pub masked_adjustment : RecordAndMasked credit (at 172 "******" credit)
  pub hidden_in_one : SameHiddenIn card_file (file_of (at 97 "A" sale)) → ⊥
  -- `logic_at`: the place judged behind the width
  pub rules_place_first : first_broken (rules_at (state BetweenBatches 1 no_sale) (at 200 "0" sale)) ≡ fault_at KindNotAllowedHere 0
  -- `up_to`: a refusal that shows a record late, and one that shows before its record
  pub refused_at_once : up_to 3 (refused_row (refusal SequenceWrong 3 194)) ≡ refused_row (refusal SequenceWrong 3 194)
  pub refused_not_before : up_to 2 (refused_row (refusal SequenceWrong 3 194)) ≡ going_on_row
  -- `LeftAlone`: said of an accepted answer too
  pub accepted_not_alone : LeftAlone (card_file ≡ card_file) ((card_file_row (accepted 5 1 one_sale)).numbers ≡ no_numbers) → ⊥
