-- An edition with a fault is refused outright: the run is refused where it opens, and so for good; in chunks it is the whole's; a question that writes has that refusal before any
-- other, and a refusal leaves what is lent.
use Prim.Native.Nat.{ℕ}
use mathlib.Core.Path.{◌≡◌, ◌∙◌, ap}
use lib.ListN.{length}
use Rattle.refusal.specs.declared.Cause.{Cause}
use Rattle.refusal.specs.Nowhere.{nowhere}
use Rattle.edition.specs.Known.{edition_fault}
use Rattle.card_run.specs.Running.{open_of}
use Rattle.card_run.specs.Answer.{card_file_row}
use Rattle.card_file.proofs.Rooms as rooms
use Rattle.card_stream.specs.Stream as card
use Rattle.card_stream.proofs.InChunks.{chunks_as_whole}
use Rattle.card_kept.proofs.Stays as stays
use Rattle.card_kept.proofs.FirstFault.{edition_first}
use Rattle.card_mask.specs.Mask.{masked_into}
use Rattle.card_sheet.specs.SheetOf.{sheet_into}
use Rattle.demands.specs.Editions.{RefusedOutright}
use Rattle.demands.proofs.Feeding.{refused_for_good}
use Rattle.demands.proofs.CardAfterEnd.{refused_answers, card_refused_lem}
use Rattle.demands.proofs.InChunks.{after_all}
use Rattle.refusal.specs.Fault.{at}
use Rattle.std.specs.Prelude.{Err, Some}

pub refused_outright : (edition : ℕ) {cause : Cause} {column : ℕ} → edition_fault edition ≡ at cause column → RefusedOutright edition cause
unfolding card_file_row masked_into sheet_into
refused_outright edition {cause = cause} bad =
    let x = nowhere cause in
    let opens = stays.edition_refused edition bad in
    record {
      whole = λ file. ap card_file_row (edition_first edition bad file);
      fed = refused_for_good (open_of edition) x (stays.answer_of_lem (open_of edition) x opens);
      in_chunks = λ chunks.
          ap card_file_row
          (after_all card.taken_of card.answer_of (Some (Err x)) (λ s e. (card_refused_lem s x e).0) (card.open_of edition) chunks (refused_answers x (open_of edition) _ opens));
      ended = λ chunks. ap card_file_row (chunks_as_whole edition chunks ∙ edition_first edition bad _);
      masked = λ file out answer after m.
          let refused = rooms.edition_refused edition file (length file) (length out) bad in
          (ap card_file_row (m.answers ∙ refused), m.leaves ∙ ap (λ a. masked_into a file out) refused);
      sheet = λ file out answer after m.
          let refused = rooms.edition_refused edition file 81 (length out) bad in
          (ap card_file_row (m.answers ∙ refused), m.leaves ∙ ap (λ a. sheet_into edition a out) refused);
    }
