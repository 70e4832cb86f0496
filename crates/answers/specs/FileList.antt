-- What the contracts of many files in one call are held to. Behind a function's name: the wrong programs that are ruled out.
use Rattle.std.specs.Prelude.{ℕ, Err, Ok}
use base.Fml.{Lft}
use Rattle.text.specs.Literal.{ascii}
use Rattle.program.specs.declared.mistake.Mistake.TheVariants.{EditionNoNumber, System}
use Rattle.program.specs.declared.mistake.Failed.TheVariants.{Open, Read}
use Rattle.file_list.specs.declared.tally.Said.TheVariants.{Accepted, Unreadable}
use Rattle.file_list.specs.declared.tally.Tally.{Tally}
use Rattle.wording.specs.contracts.put.shown as PutShown
use Rattle.wording.specs.contracts.line.word as PutWord
use Rattle.file_list.specs.contracts.line.put_line as PutLine
use Rattle.file_list.specs.contracts.line.put_unreadable as PutUnreadable
use Rattle.file_list.specs.contracts.tally.Tally.none as NoFile
use Rattle.file_list.specs.contracts.tally.Tally.with as WithFile
use Rattle.file_list.specs.contracts.tally.put_tally as PutTally
use Rattle.card_program.specs.contracts.list.list_under as ListCards
use Rattle.payroll_program.specs.contracts.list.list as ListPayrolls
use borrow.Fn.Read.{r_last}
use Rattle.answers.specs.Held.{Claim, fact_of, logic, memory, run, OneAnswer, OneOutcome, Tells, TellsOutcome, Runtime, lent, lent_mut, one, two, three}
use Rattle.answers.specs.Samples.{room}
use Rattle.answers.specs.Texts.{shown}

-- what each contract says
abbrev PutShownSays : Claim PutShown.ended
PutShownSays κs a r s = fact_of ((PutShown.clauses logic memory run κs a).ensures tt r s) (r_last _)

abbrev PutWordSays : Claim PutWord.ended
PutWordSays κs a r s = fact_of ((PutWord.clauses logic memory run κs a).ensures tt r s) (r_last _)

abbrev PutLineSays : Claim PutLine.ended
PutLineSays κs a r s = fact_of ((PutLine.clauses logic memory run κs a).ensures tt r s) (r_last _)

abbrev PutUnreadableSays : Claim PutUnreadable.ended
PutUnreadableSays κs a r s = fact_of ((PutUnreadable.clauses logic memory run κs a).ensures tt r s) (r_last _)

abbrev NoFileSays : Claim NoFile.ended
NoFileSays κs a r s = fact_of ((NoFile.clauses logic memory run κs a).ensures tt r s) (r_last _)

abbrev WithFileSays : Claim WithFile.ended
WithFileSays κs a r s = fact_of ((WithFile.clauses logic memory run κs a).ensures tt r s) (r_last _)

abbrev PutTallySays : Claim PutTally.ended
PutTallySays κs a r s = fact_of ((PutTally.clauses logic memory run κs a).ensures tt r s) (r_last _)

abbrev ListCardsSays : Claim ListCards.ended
ListCardsSays κs a r s = fact_of ((ListCards.clauses logic memory run κs a).ensures tt r s) (r_last _)

abbrev ListPayrollsSays : Claim ListPayrolls.ended
ListPayrollsSays κs a r s = fact_of ((ListPayrolls.clauses logic memory run κs a).ensures tt r s) (r_last _)

-- so many files, and how many of each
abbrev pub tally : ℕ → ℕ → ℕ → ℕ → Tally
tally files accepted refused unreadable = record { files = files; accepted = accepted; refused = refused; unreadable = unreadable }

pub record FileList (κ : Lft) (rt : Runtime) : Type 0 where
  -- `put::shown`: a line end left in a name; a blank shown as a control byte; a letter with an accent shown as one
  pub shown_text : OneOutcome (λ κs s. s.1.1.0.now) PutShownSays
  pub shown_line_end :
      TellsOutcome (PutShownSays (two κ)) (lent (ascii "a\nb"), (63, (lent_mut (room 4), (0, tt))))
      (record { answer = 3; exit = (lent (ascii "a\nb"), (63, (lent_mut (ascii "a?b."), (0, tt)))) })
      (record { answer = 3; exit = (lent (ascii "a\nb"), (63, (lent_mut (ascii "a\nb."), (0, tt)))) })
  pub shown_blank :
      TellsOutcome (PutShownSays (two κ)) (lent (ascii "a b"), (63, (lent_mut (room 4), (0, tt))))
      (record { answer = 3; exit = (lent (ascii "a b"), (63, (lent_mut (ascii "a b."), (0, tt)))) })
      (record { answer = 3; exit = (lent (ascii "a b"), (63, (lent_mut (ascii "a?b."), (0, tt)))) })
  pub shown_accent :
      TellsOutcome (PutShownSays (two κ)) (lent (ascii "é"), (63, (lent_mut (room 2), (0, tt))))
      (record { answer = 1; exit = (lent (ascii "é"), (63, (lent_mut (ascii "é."), (0, tt)))) })
      (record { answer = 1; exit = (lent (ascii "é"), (63, (lent_mut (ascii "?."), (0, tt)))) })
  -- `line::word`: no blank; a line end
  pub word : OneOutcome (λ κs s. s.1.1.0.now) PutWordSays
  pub word_no_blank :
      TellsOutcome (PutWordSays (two κ)) (lent (ascii "FILES"), (4, (lent_mut (room 8), (0, tt))))
      (record { answer = 7; exit = (lent (ascii "FILES"), (4, (lent_mut (ascii "FILES 4."), (0, tt)))) })
      (record { answer = 6; exit = (lent (ascii "FILES"), (4, (lent_mut (ascii "FILES4.."), (0, tt)))) })
  pub word_line_end :
      TellsOutcome (PutWordSays (two κ)) (lent (ascii "FILES"), (4, (lent_mut (room 8), (0, tt))))
      (record { answer = 7; exit = (lent (ascii "FILES"), (4, (lent_mut (ascii "FILES 4."), (0, tt)))) })
      (record { answer = 8; exit = (lent (ascii "FILES"), (4, (lent_mut (ascii "FILES 4\n"), (0, tt)))) })
  -- `file_list::put_line`: the words' own lines; the name first; no line end
  pub line : OneOutcome (λ κs s. s.1.1.0.now) PutLineSays
  pub line_of_lines :
      TellsOutcome (PutLineSays (three κ)) (lent (ascii "A\nB 1\n"), (lent (ascii "f"), (lent_mut (room 9), (0, tt))))
      (record { answer = 8; exit = (lent (ascii "A\nB 1\n"), (lent (ascii "f"), (lent_mut (ascii "A B 1 f\n."), (0, tt)))) })
      (record { answer = 8; exit = (lent (ascii "A\nB 1\n"), (lent (ascii "f"), (lent_mut (ascii "A\nB 1\nf\n"), (0, tt)))) })
  pub line_name_first :
      TellsOutcome (PutLineSays (three κ)) (lent (ascii "A\nB 1\n"), (lent (ascii "f"), (lent_mut (room 9), (0, tt))))
      (record { answer = 8; exit = (lent (ascii "A\nB 1\n"), (lent (ascii "f"), (lent_mut (ascii "A B 1 f\n."), (0, tt)))) })
      (record { answer = 8; exit = (lent (ascii "A\nB 1\n"), (lent (ascii "f"), (lent_mut (ascii "f A B 1\n."), (0, tt)))) })
  -- `file_list::put_unreadable`: told as a refusal; nothing said
  pub unreadable : OneOutcome (λ κs s. s.0.now) PutUnreadableSays
  pub unreadable_refused :
      TellsOutcome (PutUnreadableSays (one κ)) (lent_mut (room 12), (0, tt)) (record { answer = 11; exit = (lent_mut (shown 12 "UNREADABLE\n"), (0, tt)) })
      (record { answer = 8; exit = (lent_mut (shown 12 "REFUSED\n"), (0, tt)) })
  pub unreadable_nothing :
      TellsOutcome (PutUnreadableSays (one κ)) (lent_mut (room 12), (0, tt)) (record { answer = 11; exit = (lent_mut (shown 12 "UNREADABLE\n"), (0, tt)) })
      (record { answer = 0; exit = (lent_mut (room 12), (0, tt)) })
  -- `Tally::none`: a file that was not there; one that was accepted
  pub no_file_lem : OneAnswer NoFileSays
  pub no_file_one : Tells (NoFileSays tt) tt (tally 0 0 0 0) (tally 1 0 0 0)
  pub no_file_accepted : Tells (NoFileSays tt) tt (tally 0 0 0 0) (tally 0 1 0 0)
  -- `Tally::with`: an unreadable file counted as refused; one not counted among the files; a count that wraps
  pub with_file : OneAnswer WithFileSays
  pub with_unreadable : Tells (WithFileSays tt) (tally 2 1 1 0, (Unreadable, tt)) (tally 3 1 1 1) (tally 3 1 2 0)
  pub with_accepted : Tells (WithFileSays tt) (tally 2 1 1 0, (Accepted, tt)) (tally 3 2 1 0) (tally 2 2 1 0)
  pub with_top :
      Tells (WithFileSays tt) (tally 18_446_744_073_709_551_615 0 0 0, (Accepted, tt)) (tally 18_446_744_073_709_551_615 1 0 0) (tally 0 1 0 0)
  -- `put_tally`: refused and unreadable exchanged; the files not told
  pub tally_line_lem : OneOutcome (λ κs s. s.1.0.now) PutTallySays
  pub tally_exchanged :
      TellsOutcome (PutTallySays (one κ)) (tally 4 1 2 1, (lent_mut (room 44), (0, tt)))
      (record { answer = 42; exit = (tally 4 1 2 1, (lent_mut (shown 44 "FILES 4 ACCEPTED 1 REFUSED 2 UNREADABLE 1\n"), (0, tt))) })
      (record { answer = 42; exit = (tally 4 1 2 1, (lent_mut (shown 44 "FILES 4 ACCEPTED 1 REFUSED 1 UNREADABLE 2\n"), (0, tt))) })
  pub tally_no_files :
      TellsOutcome (PutTallySays (one κ)) (tally 4 1 2 1, (lent_mut (room 44), (0, tt)))
      (record { answer = 42; exit = (tally 4 1 2 1, (lent_mut (shown 44 "FILES 4 ACCEPTED 1 REFUSED 2 UNREADABLE 1\n"), (0, tt))) })
      (record { answer = 34; exit = (tally 4 1 2 1, (lent_mut (shown 44 "ACCEPTED 1 REFUSED 2 UNREADABLE 1\n"), (0, tt))) })
  -- `card_program::list_under`, of one name: a file passed over; the list ended by one that cannot be opened; one accepted under edition 3; a word taken for an edition; a number told as none
  pub list_passed_over : Tells (ListCardsSays (two κ)) (rt, (lent (ascii "2"), (3, tt))) (Ok (tally 1 0 0 1)) (Ok (tally 0 0 0 0))
  pub list_ended : Tells (ListCardsSays (two κ)) (rt, (lent (ascii "2"), (3, tt))) (Ok (tally 1 0 0 1)) (Err (System Open 2))
  pub list_edition : Tells (ListCardsSays (two κ)) (rt, (lent (ascii "3"), (3, tt))) (Ok (tally 1 0 0 1)) (Ok (tally 1 1 0 0))
  pub list_word : Tells (ListCardsSays (two κ)) (rt, (lent (ascii "two"), (3, tt))) (Err EditionNoNumber) (Ok (tally 1 0 0 1))
  pub list_number : Tells (ListCardsSays (two κ)) (rt, (lent (ascii "2"), (3, tt))) (Ok (tally 1 0 0 1)) (Err EditionNoNumber)
  -- `payroll_program::list`, of one name: a file passed over; two counted; the list ended by one that cannot be read
  pub list_payroll_over : Tells (ListPayrollsSays (one κ)) (rt, (2, tt)) (Ok (tally 1 0 0 1)) (Ok (tally 0 0 0 0))
  pub list_payroll_two : Tells (ListPayrollsSays (one κ)) (rt, (2, tt)) (Ok (tally 1 0 0 1)) (Ok (tally 2 0 0 2))
  pub list_payroll_ended : Tells (ListPayrollsSays (one κ)) (rt, (2, tt)) (Ok (tally 1 0 0 1)) (Err (System Read 21))
