-- What the machine that saves a file, its driver and the reading of a descriptor are held to. A step is told apart by its place in the table of steps; where a run leads from a
-- step is known by its first answers.
use mathlib.Core.Path.{◌≡◌, refl, ◌∙◌}
use mathlib.Core.List.{List, [], ◌∷◌}
use mathlib.Core.Logic.{inl, inr, ⊎_elim}
use native.Mathlib.Omega.{arith}
use base.Fml.{Lft}
use Rattle.files.specs.Reading.{got_of}
use Rattle.files.proofs.Meanings.{never_the_end}
use Rattle.out_file.specs.declared.step.Step.TheVariants.{Abandon, Gone, Kept}
use Rattle.out_file.specs.declared.step.Went.{Went}
use Rattle.out_file.specs.declared.step.Went.TheVariants.{Well, Wrong}
use Rattle.out_file.specs.Saving.{run_from}
use Rattle.out_file.proofs.Everywhere.{place_of}
use Rattle.out_file.proofs.Decisions.{decided}
use Rattle.answers.specs.Held.{Runtime, Opened}
use Rattle.answers.specs.Saving.{Saving}
use Rattle.answers.proofs.Told.{equal, told, bit}
use Rattle.answers.proofs.Observed.{got_read, saved_read}

-- a file that is not to stay is not kept
not_kept : (answers : List Went) → Kept ≡ run_from Abandon answers → ⊥
unfolding run_from
not_kept [] e = told place_of refl e
not_kept (a ∷ []) e = told place_of refl e
not_kept (a ∷ b ∷ answers) e = told place_of refl (e ∙ decided.over Gone answers refl)

pub saving : (κ : Lft) (rt : Runtime) (file : Opened) → Saving κ rt file
unfolding got_of run_from
saving κ rt file =
    record {
      decided = decided;
      never_the_end = never_the_end;
      got_of = λ κs a r r' s s' p q. equal p q;
      got_of_failed = (refl, told got_read refl);
      got_of_no_room = (refl, told got_read refl);
      got_of_more = (refl, told got_read refl);
      read_some_room = ((omega arith, omega arith), λ p. omega arith);
      read_some_none = (tt, λ p. omega arith);
      read_all_room = (omega arith, λ p. omega arith);
      next = λ κs a r r' s s' p q. equal p q;
      next_unclosed = (refl, told place_of refl);
      next_not_to_stay = (refl, told place_of refl);
      resting = λ κs a r r' s s' p q. equal p q;
      resting_store = (refl, told bit refl);
      resting_write = (refl, told bit refl);
      begin_kept = (record { answers = Well ∷ Well ∷ []; reached = refl; ready = inl refl }, λ p. ⊎_elim (told place_of refl) (told place_of refl) p.ready);
      begin_left = (record { answers = Wrong ∷ []; reached = refl; ready = inr refl }, λ p. ⊎_elim (told place_of refl) (told place_of refl) p.ready);
      noted_moved = (refl, told place_of refl);
      noted_kept = (refl, told place_of refl);
      write_ended = ((λ e. absurd (told bit refl e)), λ p. told place_of refl (p refl));
      write_closed = ((λ e. absurd (told bit refl e)), λ p. told place_of refl (p refl));
      keep_unmade = (record { answers = []; reached = refl; over = refl }, λ p. told place_of refl (p.reached ∙ decided.over Gone p.answers refl));
      keep_left = (record { answers = Well ∷ Well ∷ Well ∷ Well ∷ []; reached = refl; over = refl }, λ p. told bit refl p.over);
      discard_kept = (record { answers = Well ∷ Well ∷ []; reached = refl; over = refl }, λ p. not_kept p.answers p.reached);
      discard_left = (record { answers = Well ∷ Well ∷ []; reached = refl; over = refl }, λ p. told bit refl p.over);
      saved = λ κs a r r' s s' p q. equal p q;
      saved_unsynced = (refl, told saved_read refl);
      saved_gone = (refl, told saved_read refl);
    }
