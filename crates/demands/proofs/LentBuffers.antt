-- A refused answer leaves the lent buffer alone: each contract says what the output holds by the answer, and the answer's row has a number
-- only where it is a refusal.
use Prim.Native.Nat.{ℕ}
use mathlib.Core.Path.{◌≡◌, refl, sym, ◌∙◌, ap}
use mathlib.Core.Logic.{inl, inr}
use mathlib.Core.List.{List}
use mathlib.Core.Bool.{Bool, true, false, cond}
use lib.ListN.{length}
use lib.Dec.{leb}
use Rattle.refusal.specs.declared.Refusal.{Refusal}
use Rattle.refusal.specs.Row.{no_refusal}
use Rattle.card_run.specs.Running.{no_numbers}
use Rattle.card_run.specs.Answer.{card_file_row, CardAnswer}
use Rattle.card_mask.specs.Mask.{masked_into}
use Rattle.card_sheet.specs.SheetOf.{sheet_into}
use Rattle.sheet_numbers.specs.declared.sheet.Sheet.{Sheet}
use Rattle.day_sheet.specs.Reading.{read_of}
use Rattle.day_sheet.specs.Writing.{sheet_width, put_answer, put_result}
use Rattle.sheet_numbers.specs.Converted.{converted}
use Rattle.day_sheet.specs.Conversion.{convert_answer, convert_result}
use Rattle.day_sheet.specs.Answer.{no_sheet, written_row}
use Rattle.day_sheet.specs.Reading.{SheetRead}
use Rattle.day_sheet.specs.Writing.{SheetWritten}
use Rattle.day_sheet.proofs.Writings.{PutOrRefused, put_or_refused}
use Rattle.demands.specs.LentBuffers.{IfRefused, RefusedLeavesAlone}
use Rattle.std.specs.Prelude.{Err, None, Ok, Some}

-- a card file's answer: the output that goes with a refusal is the one lent
card_alone : (into : CardAnswer → List ℕ) (out after : List ℕ) → ((r : Refusal) → into (Some (Err r)) ≡ out) → (answer : CardAnswer) →
    after ≡ into answer → IfRefused (card_file_row answer).refusal (after ≡ out) ((card_file_row answer).numbers ≡ no_numbers)
unfolding card_file_row
card_alone into out after same None e refused = absurd (refused refl)
card_alone into out after same (Some (Ok a)) e refused = absurd (refused refl)
card_alone into out after same (Some (Err r)) e refused =
    record { lent = e ∙ same r; counts = refl }

-- writing answers no numbers
no_sheet_lem : (answer : SheetWritten) → written_row answer ≡ no_sheet (written_row answer).refusal
unfolding written_row
no_sheet_lem (Ok tt) = refl
no_sheet_lem (Err r) = refl

-- where there is no room the output stays
by_room : (wide : Bool) (r : Refusal) (put out : List ℕ) {answer : SheetWritten} → answer ≡ cond wide (Ok tt) (Err r) →
    ((written_row answer).refusal ≡ no_refusal → ⊥) → cond wide put out ≡ out
unfolding written_row
by_room true r put out e refused = absurd (refused (ap (λ a. (written_row a).refusal) e))
by_room false r put out e refused = refl

not_put : (sheet : Sheet) (out : List ℕ) {answer : SheetWritten} → answer ≡ put_answer sheet (length out) → ((written_row answer).refusal ≡ no_refusal → ⊥) →
    put_result sheet out ≡ out
unfolding put_answer put_result
not_put sheet out e refused = by_room (leb (sheet_width sheet) (length out)) _ _ out e refused

-- writing refuses before that too, and converting what cannot be read
not_written_lem : (sheet : Sheet) (out : List ℕ) {answer : SheetWritten} {after : List ℕ} → PutOrRefused sheet out answer after →
    ((written_row answer).refusal ≡ no_refusal → ⊥) → after ≡ out
not_written_lem sheet out (inl p) refused = p.leaves ∙ not_put sheet out p.answers refused
not_written_lem sheet out (inr left) refused = left.2

not_converted : (read : SheetRead) (out : List ℕ) {answer : SheetWritten} → answer ≡ convert_answer read (length out) →
    ((written_row answer).refusal ≡ no_refusal → ⊥) → convert_result read out ≡ out
unfolding convert_answer convert_result
not_converted (Ok sheet) out e refused = not_put (converted sheet) out e refused
not_converted (Err r) out e refused = refl

-- THE THEOREM
pub refused_leaves_alone : RefusedLeavesAlone
unfolding masked_into sheet_into
refused_leaves_alone =
    record {
      masking = λ edition file out answer after m.
          let into : CardAnswer → List ℕ = λ a. masked_into a file out in
          card_alone into out after (λ r. refl) answer (m.leaves ∙ ap into (sym m.answers));
      sheet_of_file = λ edition file out answer after s.
          let into : CardAnswer → List ℕ = λ a. sheet_into edition a out in
          card_alone into out after (λ r. refl) answer (s.leaves ∙ ap into (sym s.answers));
      writing_sheet = λ sheet out answer after w refused.
          record { lent = not_written_lem sheet out (put_or_refused sheet out w) refused; counts = no_sheet_lem answer };
      converting_sheet = λ sheet out answer after c refused.
          record { lent = c.leaves ∙ not_converted (read_of sheet) out c.answers refused; counts = no_sheet_lem answer };
    }
