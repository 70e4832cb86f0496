-- What the machine that saves a file, its driver and the reading of a descriptor are held to: the theorems over every list of answers, and, behind a
-- function's name, the wrong programs that are ruled out. What asks the system has no one answer: its contract says what every answer is.
use Rattle.std.specs.Prelude.{ℕ, ◌≡◌, List, true, false, pos, negsuc, None, Ok, Err, Some}
use Rattle.std.specs.Borrow.{Bor}
use Rattle.std.specs.contracts.fs.File.{the_row}
use Rattle.std.specs.contracts.fs.FileRead.TheImpl as FileRead
use base.Fml.{Lft}
use Rattle.text.specs.Literal.{ascii}
use Rattle.program.specs.declared.mistake.Mistake.TheVariants.{System}
use Rattle.program.specs.declared.mistake.Failed.TheVariants.{Sync, Write as Writing}
use Rattle.files.specs.Reading.{Read, stands_after, Ended}
use Rattle.out_file.specs.declared.step.Step.{Step}
use Rattle.out_file.specs.declared.step.Step.TheVariants.{Write, Store, Close, Rename, Remove, Abandon, Kept, Unsynced, Gone}
use Rattle.out_file.specs.declared.step.Went.TheVariants.{Wrong}
use Rattle.out_file.specs.declared.draft.Draft.{Draft}
use Rattle.out_file.specs.Saving.{Decided}
use Rattle.files.specs.contracts.reading.got_of as GotOf
use Rattle.files.specs.contracts.reading.read_some as ReadSome
use Rattle.files.specs.contracts.reading.read_all as ReadAll
use Rattle.out_file.specs.contracts.step.Step.next as Next
use Rattle.out_file.specs.contracts.step.Step.is_resting as IsResting
use Rattle.out_file.specs.contracts.draft.begin as Begin
use Rattle.out_file.specs.contracts.draft.Draft.noted as Noted
use Rattle.out_file.specs.contracts.draft.Draft.write as DraftWrite
use Rattle.out_file.specs.contracts.draft.Draft.keep as Keep
use Rattle.out_file.specs.contracts.draft.Draft.discard as Discard
use Rattle.out_file.specs.contracts.draft.Draft.saved as SavedAs
use borrow.Fn.Read.{r_last}
use Rattle.answers.specs.Held.{Claim, fact_of, logic, memory, run, OneAnswer, Tells, Runtime, Opened, lent, lent_mut, one, two, three}

-- what each contract says
abbrev GotOfSays : Claim GotOf.ended
GotOfSays κs a r s = fact_of ((GotOf.clauses logic memory run κs a).ensures tt r s) (r_last _)

abbrev ReadSomeSays : Claim (ReadSome.ended the_row FileRead.ghosts FileRead.dict)
ReadSomeSays κs a r s = fact_of ((ReadSome.clauses the_row FileRead.ghosts FileRead.dict logic memory run κs a).ensures tt r s) (r_last _)

abbrev ReadAllSays : Claim (ReadAll.ended the_row FileRead.ghosts FileRead.dict)
ReadAllSays κs a r s = fact_of ((ReadAll.clauses the_row FileRead.ghosts FileRead.dict logic memory run κs a).ensures tt r s) (r_last _)

abbrev NextSays : Claim Next.ended
NextSays κs a r s = fact_of ((Next.clauses logic memory run κs a).ensures tt r s) (r_last _)

abbrev IsRestingSays : Claim IsResting.ended
IsRestingSays κs a r s = fact_of ((IsResting.clauses logic memory run κs a).ensures tt r s) (r_last _)

abbrev BeginSays : Claim Begin.ended
BeginSays κs a r s = fact_of ((Begin.clauses logic memory run κs a).ensures tt r s) (r_last _)

abbrev NotedSays : Claim Noted.ended
NotedSays κs a r s = fact_of ((Noted.clauses logic memory run κs a).ensures tt r s) (r_last _)

abbrev DraftWriteSays : Claim DraftWrite.ended
DraftWriteSays κs a r s = fact_of ((DraftWrite.clauses logic memory run κs a).ensures tt r s) (r_last _)

abbrev KeepSays : Claim Keep.ended
KeepSays κs a r s = fact_of ((Keep.clauses logic memory run κs a).ensures tt r s) (r_last _)

abbrev DiscardSays : Claim Discard.ended
DiscardSays κs a r s = fact_of ((Discard.clauses logic memory run κs a).ensures tt r s) (r_last _)

abbrev SavedAsSays : Claim SavedAs.ended
SavedAsSays κs a r s = fact_of ((SavedAs.clauses logic memory run κs a).ensures tt r s) (r_last _)

-- a file in the making at a step
abbrev draft_at : Step → Draft
draft_at step = record { file = None; mark = ascii "XXXXXX"; step = step; error = 28 }

-- the same, lent
abbrev draft_lent : Step → Bor Draft
draft_lent step = record { ref_ptr = (0, 0); now = draft_at step }

pub record Saving (κ : Lft) (rt : Runtime) (file : Opened) : Type 0 where
  -- the theorems over every list of answers, of the calls that save a file and of reads: a failed read is never taken for the end
  pub decided : Decided
  pub never_the_end : (reads : List Read) (n : ℕ) → stands_after (Ok (Some n)) reads ≡ (Ok None) → Ended reads
  -- `got_of`: a failed read taken for the end; one for which there is no room; more bytes than there is room for
  pub got_of : OneAnswer GotOfSays
  pub got_of_failed : Tells (GotOfSays (one κ)) (negsuc 0, (5, (lent (ascii "...."), tt))) (Err 5) (Ok None)
  pub got_of_no_room : Tells (GotOfSays (one κ)) (pos 0, (5, (lent (ascii ""), tt))) (Err 5) (Ok None)
  pub got_of_more : Tells (GotOfSays (one κ)) (pos 9, (5, (lent (ascii "...."), tt))) (Ok (Some 4)) (Ok (Some 9))
  -- `read_some`: more bytes than there is room for; no byte, which is the end
  pub read_some_room : Tells (ReadSomeSays (three κ)) (file, (lent_mut (ascii "...."), tt)) (Ok (Some 4)) (Ok (Some 5))
  pub read_some_none : Tells (ReadSomeSays (three κ)) (file, (lent_mut (ascii "...."), tt)) (Ok None) (Ok (Some 0))
  -- `read_all`: more bytes than there is room for
  pub read_all_room : Tells (ReadAllSays (three κ)) (file, (lent_mut (ascii "...."), tt)) (Ok (Some 4)) (Ok (Some 5))
  -- `Step::next`: a name for a file that could not be closed; a file stored that is not to stay
  pub next : OneAnswer NextSays
  pub next_unclosed : Tells (NextSays tt) (Close, (Wrong, tt)) Remove Rename
  pub next_not_to_stay : Tells (NextSays tt) (Write, (Wrong, tt)) Abandon Store
  -- `Step::is_resting`: no call behind a last write; a call of itself where bytes are to be written
  pub resting : OneAnswer IsRestingSays
  pub resting_store : Tells (IsRestingSays tt) (Store, tt) false true
  pub resting_write : Tells (IsRestingSays tt) (Write, tt) true false
  -- `begin`: a file that is kept before a byte is written; a temporary name left behind
  pub begin_kept : Tells (BeginSays (two κ)) (rt, (lent (ascii "a"), tt)) (draft_at Write) (draft_at Kept)
  pub begin_left : Tells (BeginSays (two κ)) (rt, (lent (ascii "a"), tt)) (draft_at Gone) (draft_at Remove)
  -- `Draft::noted`: the machine moved on; a file that was to be removed kept
  pub noted_moved : Tells (NotedSays tt) (draft_at Write, (5, tt)) (draft_at Write) (draft_at Store)
  pub noted_kept : Tells (NotedSays tt) (draft_at Remove, (5, tt)) (draft_at Remove) (draft_at Kept)
  -- `Draft::write`: bytes written to a file that has ended, or that is closed
  pub write_ended : Tells (DraftWriteSays (two κ)) (draft_lent Gone, (lent (ascii "a"), tt)) (Err 0) (Ok tt)
  pub write_closed : Tells (DraftWriteSays (two κ)) (draft_lent Rename, (lent (ascii "a"), tt)) (Err 0) (Ok tt)
  -- `Draft::keep`: a file that could not be made is kept; one left as it is
  pub keep_unmade : Tells (KeepSays (two κ)) (draft_at Gone, (rt, (lent (ascii "a"), tt))) (draft_at Gone) (draft_at Kept)
  pub keep_left : Tells (KeepSays (two κ)) (draft_at Write, (rt, (lent (ascii "a"), tt))) (draft_at Kept) (draft_at Rename)
  -- `Draft::discard`: a refused file's copy kept; one left as it is
  pub discard_kept : Tells (DiscardSays (two κ)) (draft_at Write, (rt, (lent (ascii "a"), tt))) (draft_at Gone) (draft_at Kept)
  pub discard_left : Tells (DiscardSays (two κ)) (draft_at Write, (rt, (lent (ascii "a"), tt))) (draft_at Gone) (draft_at Remove)
  -- `Draft::saved`: a failed sync not told; a file that is gone told as kept
  pub saved : OneAnswer SavedAsSays
  pub saved_unsynced : Tells (SavedAsSays tt) (draft_at Unsynced, tt) (Err (System Sync 28)) (Ok tt)
  pub saved_gone : Tells (SavedAsSays tt) (draft_at Gone, tt) (Err (System Writing 28)) (Ok tt)
