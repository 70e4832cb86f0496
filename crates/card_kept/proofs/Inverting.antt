-- A file that is accepted keeps the rules: its first piece is A0, and the run behind it says what the others are.
use Prim.Native.Nat.{ℕ}
use mathlib.Core.Path.{◌≡◌, refl, sym, ◌∙◌, ap, ap₂, subst}
use mathlib.Core.List.{List, [], ◌∷◌, map, append-nil}
use mathlib.Core.Bool.{true, false≢true}
use Rattle.refusal.specs.declared.Refusal.{Refusal}
use Rattle.text.proofs.Alphabets.{both_left, both_right}
use Rattle.lines.specs.Lines.{no_lf, all_no_lf, with_cr, rejoined, cut}
use Rattle.lines.proofs.Cuts.{cut_is_cut, records_are_pieces, with_cr_clear}
use Rattle.edition.specs.Known.{current, edition_fault}
use Rattle.edition.proofs.Editions.{fault_current}
use Rattle.card_record.specs.declared.kind.Kind.{Kind}
use Rattle.card_record.specs.declared.kind.Kind.TheVariants.{A0, L0, Cv, Aj, L9, A9}
use Rattle.card_run.specs.declared.stage.Stage.TheVariants.{Start, Refused}
use Rattle.card_run.specs.declared.answer.Accepted.{Accepted}
use Rattle.card_run.specs.Stage.{placed}
use Rattle.card_run.specs.Running.{open_at, open_stage, open_of}
use Rattle.card_file.specs.CardFile.{check_of}
use Rattle.card_kept.specs.Kept.{File, records_of, FileKept, Kept}
use Rattle.card_kept.proofs.Next.{NextKept}
use Rattle.card_kept.proofs.Steps.{Alive}
use Rattle.card_kept.proofs.PlainSteps.{behind_plain, still_small, stepped}
use Rattle.card_kept.proofs.Accepting.{open_small}
use Rattle.card_kept.proofs.Refused.{EndsAccepted, alive, piece, too_early}
use Rattle.card_kept.proofs.Left.{BatchesLeft, went_on, says}
use Rattle.refusal.specs.Fault.{Judged}
use Rattle.std.specs.Prelude.{Ok, Some, Err}

-- an edition that is not refused is current
is_current : (e : ℕ) → Alive (open_of e) → (open_stage e ≡ Start) × (current e ≡ true)
is_current e goes = by (edition_fault e) refl goes
  where
    by : (f : Judged) → edition_fault e ≡ f → ((x : Refusal) → open_at f ≡ Refused x → ⊥) → (open_at f ≡ Start) × (current e ≡ true)
    by (Ok none) q goes = (refl, fault_current e q)
    by (Err fault) q goes = absurd (goes _ refl)

-- pieces and a rest are a file that keeps the rules
record Whole (e : ℕ) (ps : List (List ℕ)) (rest : List ℕ) : Type 0 where
  file : File
  keeps : FileKept e file
  is : ps ≡ map with_cr (records_of file)
  none_left : rest ≡ []

-- the first record is A0
begins : (e : ℕ) (r : List ℕ) (ps : List (List ℕ)) (rest : List ℕ) (kind : Kind) → placed Start kind ≡ true → NextKept kind (open_of e) r →
    (NextKept A0 (open_of e) r → BatchesLeft e 2 ps rest) → Whole e (with_cr r ∷ ps) rest
begins e r ps rest A0 p k others =
    let b = others k in
    record {
      file = record { a0 = r; batches = b.batches; a9 = b.a9 };
      keeps = record { a0 = k; batches = b.keep; a9 = b.last };
      is = ap (λ l. with_cr r ∷ l) b.is;
      none_left = b.none_left;
    }
begins e r ps rest L0 p k others = absurd (false≢true p)
begins e r ps rest Cv p k others = absurd (false≢true p)
begins e r ps rest Aj p k others = absurd (false≢true p)
begins e r ps rest L9 p k others = absurd (false≢true p)
begins e r ps rest A9 p k others = absurd (false≢true p)

whole : (e : ℕ) (ps : List (List ℕ)) (rest : List ℕ) (a : Accepted) → open_stage e ≡ Start → all_no_lf ps ≡ true → EndsAccepted (open_of e) ps rest a → Whole e ps rest
unfolding all_no_lf
whole e [] rest a q clear h = absurd (too_early A0 (open_of e) rest a (ap (λ s. placed s A0) q) h)
whole e (p ∷ ps) rest a q clear h =
    let st = open_of e in
    let one = piece st p ps rest a h in
    let r = one.bytes in
    let line : no_lf r ≡ true = sym (with_cr_clear r) ∙ ap no_lf (sym one.is) ∙ both_left (no_lf p) (all_no_lf ps) clear in
    let took = stepped st r (open_small e) line one.goes in
    let place : placed Start took.kind ≡ true = ap (λ s. placed s took.kind) (sym q) ∙ took.place in
    let others : NextKept A0 st r → BatchesLeft e 2 ps rest =
    λ k.
    (says ps rest a (behind_plain A0 st r) (both_right (no_lf p) (all_no_lf ps) clear) (still_small st r (open_small e) A0 k)
    (went_on st r ps rest a (open_small e) one.taken A0 (ap (λ s. placed s A0) q) k)).0 refl in
    subst (λ p. Whole e (p ∷ ps) rest) (sym one.is) (begins e r ps rest took.kind place took.kept others)

-- so the bytes are those of the file
pub accepted_kept : (e : ℕ) (bytes : List ℕ) (a : Accepted) → check_of e bytes ≡ Some (Ok a) → Kept e bytes
accepted_kept e bytes a h =
    let ls = cut bytes in
    let c = cut_is_cut bytes in
    let is = is_current e (alive (open_of e) ls.pieces ls.rest a h) in
    let w = whole e ls.pieces ls.rest a is.0 c.pieces_clear h in
    record {
      edition_current = is.1;
      file = w.file;
      keeps = w.keeps;
      is = sym c.whole ∙ ap₂ rejoined w.is w.none_left ∙ sym (records_are_pieces (records_of w.file) []) ∙ append-nil _;
    }
