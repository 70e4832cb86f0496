-- The contracts of many files in one call have one answer, or rule wrong ones out: a tally of one name is that of one outcome.
use mathlib.Core.Path.{◌≡◌, refl, ◌∙◌, ap}
use mathlib.Core.List.{List, [], ◌∷◌, map}
use native.Mathlib.Omega.{arith}
use lib.ListN.{length, get_or}
use base.Fml.{Lft}
use Rattle.text.specs.Alphabet.{allowed, holds_only}
use Rattle.text.specs.Number.{value_from}
use Rattle.wording.specs.Put.{over, over_at}
use Rattle.wording.specs.Number.{digits_within}
use Rattle.wording.specs.Line.{word_of, line_of}
use Rattle.program.specs.declared.mistake.Mistake.TheVariants.{System}
use Rattle.program.specs.declared.mistake.Failed.TheVariants.{Read}
use Rattle.edition.proofs.Editions.{unknown_fault}
use Rattle.card_kept.proofs.FirstFault.{edition_first}
use Rattle.file_list.specs.declared.tally.Said.{Said}
use Rattle.file_list.specs.declared.tally.Tally.{Tally}
use Rattle.file_list.specs.Line.{file_line}
use Rattle.file_list.specs.Tally.{no_file, one_file_more, tally_of, tally_line, Each, Tallied}
use Rattle.card_program.specs.Checked.{Checked}
use Rattle.card_program.specs.Listing.{said_of}
use Rattle.answers.specs.Held.{Runtime}
use Rattle.answers.specs.FileList.{FileList}
use Rattle.answers.proofs.Told.{equal, told}
use Rattle.answers.proofs.Observed.{list_read}
use Rattle.card_program.specs.Outcome.{Outcome}
use Rattle.std.specs.Prelude.{Err, Ok}

-- a tally of one outcome counts one file
one_file_lem : {A : Type 0} (said : A → Said) (Allowed : A → Type 0) {t : Tally} → Tallied said Allowed 1 t → t.files ≡ 1
unfolding one_file_more
one_file_lem {A} said Allowed {t} w = by w.outcomes w.as_many w.counted
  where
    counts : (s : Said) → (one_file_more no_file s).files ≡ 1
    counts Said.Accepted = refl
    counts Said.Refused = refl
    counts Said.Unreadable = refl

    by : (outcomes : List A) → length outcomes ≡ 1 → t ≡ tally_of (map said outcomes) → t.files ≡ 1
    by [] l c = absurd (omega arith)
    by (o ∷ []) l c = ap (λ (u : Tally). u.files) c ∙ counts (said o)
    by (o ∷ p ∷ os) l c = absurd (omega arith)

-- and where the edition is not known it accepts none
none_accepted : {t : Tally} → Tallied said_of (Checked 3) 1 t → t.accepted ≡ 0
unfolding one_file_more Each
none_accepted {t} w = by w.outcomes w.as_many w.each w.counted
  where
    counts : (o : Outcome) → Checked 3 o → (one_file_more no_file (said_of o)).accepted ≡ 0
    counts (Ok answer) (bytes, e) = ap (λ a. (one_file_more no_file (said_of (Ok a))).accepted) (e ∙ edition_first 3 (unknown_fault 3 refl) bytes)
    counts (Err mistake) c = refl

    by : (outcomes : List Outcome) → length outcomes ≡ 1 → Each (Checked 3) outcomes → t ≡ tally_of (map said_of outcomes) → t.accepted ≡ 0
    by [] l e c = absurd (omega arith)
    by (o ∷ []) l e c = ap (λ (u : Tally). u.accepted) c ∙ counts o e.0
    by (o ∷ p ∷ os) l e c = absurd (omega arith)

pub file_list : (κ : Lft) (rt : Runtime) → FileList κ rt
unfolding allowed holds_only value_from over over_at digits_within word_of line_of file_line one_file_more tally_line Each
file_list κ rt =
    record {
      shown_text = λ κs a r r' s s' p q. (equal p.ends q.ends, equal p.leaves q.leaves);
      shown_line_end = (record { ends = refl; leaves = refl }, λ p. told (λ s. get_or s 1 0) refl p.leaves);
      shown_blank = (record { ends = refl; leaves = refl }, λ p. told (λ s. get_or s 1 0) refl p.leaves);
      shown_accent = (record { ends = refl; leaves = refl }, λ p. told (λ s. get_or s 0 0) refl p.leaves);
      word = λ κs a r r' s s' p q. (equal p.ends q.ends, equal p.leaves q.leaves);
      word_no_blank = (record { ends = refl; leaves = refl }, λ p. told (λ n. n) refl p.ends);
      word_line_end = (record { ends = refl; leaves = refl }, λ p. told (λ n. n) refl p.ends);
      line = λ κs a r r' s s' p q. (equal p.ends q.ends, equal p.leaves q.leaves);
      line_of_lines = (record { ends = refl; leaves = refl }, λ p. told (λ s. get_or s 1 0) refl p.leaves);
      line_name_first = (record { ends = refl; leaves = refl }, λ p. told (λ s. get_or s 0 0) refl p.leaves);
      unreadable = λ κs a r r' s s' p q. (equal p.ends q.ends, equal p.leaves q.leaves);
      unreadable_refused = (record { ends = refl; leaves = refl }, λ p. told (λ n. n) refl p.ends);
      unreadable_nothing = (record { ends = refl; leaves = refl }, λ p. told (λ n. n) refl p.ends);
      no_file_lem = λ κs a r r' s s' p q. equal p q;
      no_file_one = (refl, told (λ t. t.files) refl);
      no_file_accepted = (refl, told (λ t. t.accepted) refl);
      with_file = λ κs a r r' s s' p q. equal p q;
      with_unreadable = (refl, told (λ t. t.unreadable) refl);
      with_accepted = (refl, told (λ t. t.files) refl);
      with_top = (refl, told (λ t. t.files) refl);
      tally_line_lem = λ κs a r r' s s' p q. (equal p.ends q.ends, equal p.leaves q.leaves);
      tally_exchanged = (record { ends = refl; leaves = refl }, λ p. told (λ s. get_or s 27 0) refl p.leaves);
      tally_no_files = (record { ends = refl; leaves = refl }, λ p. told (λ n. n) refl p.ends);
      list_passed_over = (
        record { outcomes = Err (System Read 0) ∷ []; as_many = refl; each = (tt, tt); counted = refl },
        λ p. told (λ n. n) refl (one_file_lem _ _ p),
      );
      list_ended = (record { outcomes = Err (System Read 0) ∷ []; as_many = refl; each = (tt, tt); counted = refl }, λ p. p);
      list_edition = (
        record { outcomes = Err (System Read 0) ∷ []; as_many = refl; each = (tt, tt); counted = refl },
        λ p. told (λ n. n) refl (none_accepted p),
      );
      list_word = (refl, told list_read refl);
      list_number = (record { outcomes = Err (System Read 0) ∷ []; as_many = refl; each = (tt, tt); counted = refl }, λ p. p);
      list_payroll_over = (
        record { outcomes = Err (System Read 0) ∷ []; as_many = refl; each = ((Read, 0, refl), tt); counted = refl },
        λ p. told (λ n. n) refl (one_file_lem _ _ p),
      );
      list_payroll_two = (
        record { outcomes = Err (System Read 0) ∷ []; as_many = refl; each = ((Read, 0, refl), tt); counted = refl },
        λ p. told (λ n. n) refl (one_file_lem _ _ p),
      );
      list_payroll_ended = (
        record { outcomes = Err (System Read 0) ∷ []; as_many = refl; each = ((Read, 0, refl), tt); counted = refl },
        λ p. p,
      );
    }
