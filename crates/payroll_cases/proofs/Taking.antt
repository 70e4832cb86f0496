-- Laws of a file that is taken record by record: records that are taken in two parts are taken as one list, and all of them with the byte 1A answer as
-- their bytes read whole.
use Prim.Native.Nat.{ℕ, suc, ◌+◌}
use mathlib.Core.Path.{◌≡◌, refl, sym, ap, ◌∙◌}
use mathlib.Core.List.{List, [], ◌∷◌, ◌++◌, map, foldl-append, foldl-map}
use Rattle.std.specs.Prelude.{Some}
use native.Mathlib.Numerals.{add-one}
use Rattle.chunks.specs.Chunks.{joined_chunks}
use Rattle.payroll_file.specs.PayrollFile.{check_of}
use Rattle.payroll_stream.specs.declared.Stream.{Stream}
use Rattle.payroll_stream.specs.Stream.{PayrollProgress, open_of, taken_of, ended_of, answer_of}
use Rattle.payroll_stream.proofs.InChunks.{chunks_as_whole}
use Rattle.payroll_cases.specs.declared.record.Record.{Record}
use Rattle.payroll_cases.specs.Record.{record_of}
use Rattle.payroll_cases.specs.Kinds.{file_header, batch_header, payment, batch_trailer, file_trailer}
use Rattle.payroll_cases.specs.Made.{payments_of, batch_of, alike_batches, end_byte}
use Rattle.payroll_cases.specs.Plans.{long_batch}
use Rattle.payroll_cases.specs.LongBatch.{taken_all, file_of}

-- a record that is another is taken as that
pub taken_as : (s : Stream) {after : Stream} {what other : Record} → what ≡ other → after ≡ taken_of s (record_of what) → after ≡ taken_of s (record_of other)
taken_as s e f = f ∙ ap (λ r. taken_of s (record_of r)) e

-- records behind those that are taken
taken_on : (s : Stream) (rs ss : List Record) {before after : Stream} → before ≡ taken_all s rs → after ≡ taken_all before ss → after ≡ taken_all s (rs ++ ss)
taken_on s rs ss e f = f ∙ ap (λ b. taken_all b ss) e ∙ sym (foldl-append (λ t what. taken_of t (record_of what)) s rs ss)

-- no payment, and one more
pub none_taken : (s : Stream) → s ≡ taken_all s (payments_of 1 1 0)
unfolding payments_of
none_taken s = refl

pub one_taken_lem : (s : Stream) (n : ℕ) {before after : Stream} → before ≡ taken_all s (payments_of 1 1 n) →
    after ≡ taken_of before (record_of (payment 1 1 (n + 1))) → after ≡ taken_all s (payments_of 1 1 (n + 1))
unfolding payments_of
one_taken_lem s n e f = rw add-one (taken_on s (payments_of 1 1 n) (payment 1 1 (suc n) ∷ []) e (rw add-one at f))

-- a batch and the file trailer
pub batch_taken : (s : Stream) (n : ℕ) {opened paid closed ended : Stream} → opened ≡ taken_of s (record_of (batch_header 1)) → paid ≡ taken_all opened (payments_of 1 1 n) →
    closed ≡ taken_of paid (record_of (batch_trailer 1 n n)) → ended ≡ taken_of closed (record_of (file_trailer 1 (n + 4))) →
    ended ≡ taken_all s (batch_of 1 n 1 n ++ (file_trailer 1 (n + 4) ∷ []))
batch_taken s n e f g h =
    let paid = f ∙ ap (λ t. taken_all t (payments_of 1 1 n)) e in
    taken_on s (batch_of 1 n 1 n) (file_trailer 1 (n + 4) ∷ []) (taken_on (taken_of s (record_of (batch_header 1))) (payments_of 1 1 n) (batch_trailer 1 n n ∷ []) paid g) h

-- all records, and the byte 1A
records_answer : (rs : List Record) → answer_of (ended_of (taken_of (taken_all open_of rs) end_byte)) ≡ Some (check_of (joined_chunks (map record_of rs ++ (end_byte ∷ []))))
records_answer rs =
    let chunks = map record_of rs in
    ap (λ s. answer_of (ended_of s))
    (ap (λ s. taken_of s end_byte) (sym (foldl-map record_of taken_of rs open_of)) ∙ sym (foldl-append taken_of open_of chunks (end_byte ∷ []))) ∙
    chunks_as_whole (chunks ++ (end_byte ∷ []))

pub file_answer : (n : ℕ) {header last : Stream} {answer : PayrollProgress} → header ≡ taken_of open_of (record_of file_header) →
    last ≡ taken_all header (batch_of 1 n 1 n ++ (file_trailer 1 (n + 4) ∷ [])) → answer ≡ answer_of (ended_of (taken_of last end_byte)) → answer ≡ Some (check_of (file_of (long_batch n)))
unfolding alike_batches
file_answer n e f g =
    let behind = batch_of 1 n 1 n ++ (file_trailer 1 (n + 4) ∷ []) in
    g ∙ ap (λ s. answer_of (ended_of (taken_of s end_byte))) (f ∙ ap (λ s. taken_all s behind) e) ∙ records_answer (file_header ∷ behind)
