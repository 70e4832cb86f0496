-- MASK TWICE, LOSE NOTHING: a masked form is its own (card_mask's Again), so a file and its masked form have one masked form and are told alike; and it has the
-- same hidden places, so that two files are starred alike exactly when they agree outside them and have them in common.
use Prim.Native.Nat.{ℕ, ◌≤◌}
use mathlib.Core.Path.{◌≡◌, sym, ◌∙◌, ap, ap₂, subst}
use mathlib.Core.Logic.{◌↔◌}
use mathlib.Core.List.{List, ◌++◌}
use mathlib.Core.Bool.{true}
use native.Mathlib.Omega.{arith}
use lib.ListN.{length, take, drop}
use lib.Seq.{take_at}
use Rattle.pan.specs.AgreeOutside.{AgreeOutside}
use Rattle.pan.proofs.Stars.{own_equal}
use Rattle.card_run.specs.declared.answer.Accepted.{Accepted as Numbers}
use Rattle.card_run.specs.Answer.{card_file_row, CardAnswer}
use Rattle.card_run.proofs.FileRows.{is_accepted_lem}
use Rattle.card_file.proofs.Rooms.{as_checked, right_edition, was_checked}
use Rattle.card_mask.specs.Masked.{masked_record, masked_file}
use Rattle.card_mask.specs.Mask.{Masks, mask_answer, masked_into}
use Rattle.card_mask.proofs.Again.{record_again, file_again}
use Rattle.card_mask.proofs.InChunks.{masked_length}
use Rattle.demands.specs.HiddenDigits.{hidden_in}
use Rattle.demands.specs.MaskTwice.{RecordAndMasked, FileAndMasked, SameHiddenIn, MaskTwice}
use Rattle.demands.proofs.MaskedFiles.{same_check}
use Rattle.demands.proofs.MaskedHidden.{same_hidden}
use Rattle.demands.proofs.MaskedPlaces.{stars_where_hidden}
use Rattle.demands.proofs.ToldAlike.{told_alike}
use Rattle.std.specs.Prelude.{Ok, Some}

-- a file and its masked form have one masked form
records : (r s : List ℕ) → RecordAndMasked r s → masked_record r ≡ masked_record s
records r s e = sym (ap masked_record e ∙ record_again r)

files : (s t : List ℕ) → FileAndMasked s t → masked_file s ≡ masked_file t
files s t e = sym (ap masked_file e ∙ file_again s)

-- what masking an accepted file leaves
leaves_copy : (edition : ℕ) (file out : List ℕ) (a : Numbers) → mask_answer edition file (length out) ≡ Some (Ok a) →
    masked_into (mask_answer edition file (length out)) file out ≡ masked_file file ++ drop (length file) out
unfolding masked_into
leaves_copy edition file out a e = ap (λ answer. masked_into answer file out) e

-- the question, asked again of the copy that it wrote
written_again : (edition : ℕ) (file out other : List ℕ) (answer again : CardAnswer) (after after-again : List ℕ) →
    Masks edition file out answer after → (card_file_row answer).accepted ≡ true → length file ≤ length other →
    Masks edition (take (length file) after) other again after-again →
    (card_file_row again ≡ card_file_row answer) × (after-again ≡ take (length file) after ++ drop (length file) other)
written_again edition file out other answer again after after-again m accepts room n =
    let a = (card_file_row answer).numbers in
    let first : mask_answer edition file (length out) ≡ Some (Ok a) = sym m.answers ∙ is_accepted_lem answer accepts in
    let copy : take (length file) after ≡ masked_file file =
    ap (take (length file)) (m.leaves ∙ leaves_copy edition file out a first) ∙ take_at (masked_file file) (drop (length file) out) (length file) (masked_length file) in
    let wide = masked_length file in
    let n : Masks edition (masked_file file) other again after-again = subst (λ l. Masks edition l other again after-again) copy n in
    let next : mask_answer edition (masked_file file) (length other) ≡ Some (Ok a) =
    as_checked edition (masked_file file) (length (masked_file file)) (length other) (right_edition edition file (length file) (length out) a first) (omega arith) ∙
    same_check edition file ∙
    was_checked edition file (length file) (length out) a first in (
      ap card_file_row (n.answers ∙ next ∙ sym (is_accepted_lem answer accepts)),
      n.leaves ∙ leaves_copy edition (masked_file file) other a next ∙
          ap₂ (λ l m. l ++ drop m other) (file_again file) wide ∙
          ap (λ l. l ++ drop (length file) other) (sym copy),
    )

-- starred where hidden, each file by its own places
equal_copies : (s t : List ℕ) → (masked_file s ≡ masked_file t) ↔ (AgreeOutside (hidden_in s) s t × SameHiddenIn s t)
equal_copies s t =
    let same = own_equal hidden_in (λ file i. ap (λ l. hidden_in l i) (sym (stars_where_hidden file)) ∙ same_hidden file i) s t in (
      λ e. same.0 (sym (stars_where_hidden s) ∙ e ∙ stars_where_hidden t),
      λ h. stars_where_hidden s ∙ same.1 h ∙ sym (stars_where_hidden t),
    )

pub mask_twice : MaskTwice
mask_twice =
    record {
      as_the_file = told_alike RecordAndMasked FileAndMasked records files;
      same_bytes_lem = file_again;
      written_again = written_again;
      equal_copies = equal_copies;
    }
