-- Once refused, always refused: a run whose file is accepted was refused at no piece, so each piece is a record with its CR, and the run stands behind A9 at the end.
use Prim.Native.Nat.{ℕ}
use mathlib.Core.Path.{◌≡◌, refl, sym, ◌∙◌, ap}
use mathlib.Core.List.{List, [], ◌∷◌}
use mathlib.Core.Bool.{Bool, true, false, cond, false≢true}
use native.Mathlib.Omega.{arith}
use Rattle.lines.specs.Lines.{ends_in_cr, without_last, with_cr}
use Rattle.lines.proofs.Ends.{record_and_cr}
use Rattle.card_record.specs.declared.kind.Kind.{Kind}
use Rattle.card_run.specs.declared.stage.Stage.{Stage}
use Rattle.card_run.specs.declared.stage.Stage.TheVariants.{Start, BetweenBatches, InBatch, Ended, Closed, Refused}
use Rattle.card_run.specs.declared.running.Running.{Running}
use Rattle.card_run.specs.declared.answer.Accepted.{Accepted}
use Rattle.card_run.specs.Stage.{placed}
use Rattle.card_run.specs.Running.{closed_at, closed_of, late_at}
use Rattle.card_file.specs.Feeding.{fed_of}
use Rattle.card_run.specs.Answer.{answer_at, answer_of}
use Rattle.card_file.specs.CardFile.{unended_at, unended_of, lines_of, end_of}
use Rattle.card_kept.proofs.Stays as stays
use Rattle.card_kept.proofs.Steps.{Alive, went}
use Rattle.std.specs.Prelude.{Err, Ok, Some}

-- a run over pieces and a rest is accepted
abbrev pub EndsAccepted : Running → List (List ℕ) → List ℕ → Accepted → Type 0
EndsAccepted st ps rest a = answer_of (end_of (lines_of st ps) rest) ≡ Some (Ok a)

-- bytes without a line end are refused, at each stage
unended_refused : (s : Stage) (st : Running) → st.stage ≡ s → Alive (unended_at s st) → ⊥
unfolding unended_at late_at
unended_refused Start st q alive = alive _ refl
unended_refused BetweenBatches st q alive = alive _ refl
unended_refused InBatch st q alive = alive _ refl
unended_refused Ended st q alive = alive _ refl
unended_refused Closed st q alive = alive _ refl
unended_refused (Refused x) st q alive = alive x q

-- an accepted answer is no refusal
answer_alive : (st : Running) (a : Accepted) → answer_of st ≡ Some (Ok a) → Alive st
unfolding answer_at
answer_alive st a h x q =
    let s : answer_of st ≡ Some (Err x) = ap (λ s. answer_at s st) q in
    let z : ◌≡◌ {A = ℕ} 0 1 = cc in
    omega arith

-- so a run that is accepted is not refused
pub alive : (st : Running) (ps : List (List ℕ)) (rest : List ℕ) (a : Accepted) → EndsAccepted st ps rest a → Alive st
alive st ps rest a h x q =
    answer_alive st a (sym (ap answer_of (stays.ran x st (record { pieces = ps; rest = rest }) q)) ∙ h) x q

-- each piece is a record with its CR, that the run takes
pub record Piece (st : Running) (p : List ℕ) (ps : List (List ℕ)) (rest : List ℕ) (a : Accepted) : Type 0 where
  pub bytes : List ℕ
  pub is : p ≡ with_cr bytes
  pub taken : EndsAccepted (fed_of st bytes) ps rest a
  pub goes : Alive (fed_of st bytes)

pub piece : (st : Running) (p : List ℕ) (ps : List (List ℕ)) (rest : List ℕ) (a : Accepted) → EndsAccepted st (p ∷ ps) rest a → Piece st p ps rest a
unfolding lines_of
piece st p ps rest a h = by (ends_in_cr p) refl h
  where
    by : (t : Bool) → ends_in_cr p ≡ t → EndsAccepted (cond t (fed_of st (without_last p)) (unended_of st)) ps rest a → Piece st p ps rest a
    by true e h =
        record { bytes = without_last p; is = record_and_cr p e; taken = h; goes = alive (fed_of st (without_last p)) ps rest a h }
    by false e h = absurd (unended_refused st.stage st refl (alive (unended_of st) ps rest a h))

-- where a kind may stand, the file does not end
early : (s : Stage) (kind : Kind) (st : Running) → placed s kind ≡ true → Alive (closed_at s st) → ⊥
unfolding closed_at
early Start kind st p goes = goes _ refl
early BetweenBatches kind st p goes = goes _ refl
early InBatch kind st p goes = goes _ refl
early Ended kind st p goes = false≢true p
early Closed kind st p goes = false≢true p
early (Refused x) kind st p goes = false≢true p

pub too_early : (kind : Kind) (st : Running) (rest : List ℕ) (a : Accepted) → placed st.stage kind ≡ true → EndsAccepted st [] rest a → ⊥
unfolding lines_of end_of
too_early kind st [] a place h = early st.stage kind st place (answer_alive (closed_of st) a h)
too_early kind st (b ∷ s) a place h = unended_refused st.stage st refl (answer_alive (unended_of st) a h)

-- and behind A9 nothing stands
pub nothing_behind : (st : Running) (ps : List (List ℕ)) (rest : List ℕ) (a : Accepted) → st.stage ≡ Ended → EndsAccepted st ps rest a →
    (ps ≡ []) × (rest ≡ [])
unfolding lines_of end_of
nothing_behind st [] [] a q h = (refl, refl)
nothing_behind st [] (b ∷ s) a q h = absurd (unended_refused st.stage st refl (answer_alive (unended_of st) a h))
nothing_behind st (p ∷ ps) rest a q h =
    let one = piece st p ps rest a h in
    let w = went st one.bytes one.goes in
    absurd (false≢true (ap (λ s. placed s w.kind) (sym q) ∙ w.goes.place))
