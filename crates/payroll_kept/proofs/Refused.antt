-- Once refused, always refused: a run whose file is accepted was refused at no piece, so each piece is a record with its CR, and the run stands behind
-- the file trailer at the end, with one byte 1A left.
use Prim.Native.Nat.{ℕ}
use mathlib.Core.Path.{◌≡◌, refl, sym, ◌∙◌, ap}
use mathlib.Core.List.{List, [], ◌∷◌}
use mathlib.Core.Bool.{Bool, true, false, cond, false≢true}
use native.Mathlib.Omega.{arith}
use Rattle.payroll_file.specs.Answer.{PayrollAnswer}
use Rattle.std.specs.Prelude.{Ok, Err}
use Rattle.refusal.specs.declared.Refusal.{Refusal}
use Rattle.text.specs.Literal.{same_bytes}
use Rattle.text.proofs.Literals.{same_equal}
use Rattle.lines.specs.Lines.{ends_in_cr, without_last, with_cr}
use Rattle.lines.proofs.Ends.{record_and_cr}
use Rattle.payroll_record.specs.declared.kind.Kind.{Kind}
use Rattle.payroll_record.specs.Reading.{reading_of}
use Rattle.payroll_run.specs.declared.stage.Stage.{Stage}
use Rattle.payroll_run.specs.declared.stage.Stage.TheVariants.{Start, BetweenBatches, InBatch, BehindA, BehindB, Ended, Refused}
use Rattle.payroll_run.specs.declared.running.Running.{Running}
use Rattle.payroll_file.specs.declared.answer.Accepted.{Accepted}
use Rattle.payroll_run.specs.Stage.{placed}
use Rattle.payroll_step.specs.Step.{took_at}
use Rattle.payroll_file.specs.PayrollFile.{unended_at, unended_of, line_of, lines_of, ended_of, cut_short_of, end_at, end_of}
use Rattle.payroll_kept.proofs.Going.{Going}
use Rattle.payroll_kept.proofs.Plain.{cap}
use Rattle.payroll_kept.proofs.Steps.{took_record, stepped}

-- a run over pieces and a rest is accepted
abbrev pub EndsAccepted : Running → List (List ℕ) → List ℕ → Accepted → Type 0
EndsAccepted st ps rest a = end_of (lines_of st ps) rest ≡ Ok a

-- a refusal is not accepted
never : {A : Type 0} {x : Refusal} {a : Accepted} → ◌≡◌ {A = PayrollAnswer} (Err x) (Ok a) → A
never e = absurd (let z : ◌≡◌ {A = ℕ} 0 1 = cc in omega arith)

-- bytes without a line end are refused, at each stage
unended_refused : (s : Stage) (st : Running) → st.stage ≡ s → Going (unended_at s st) → ⊥
unfolding unended_at
unended_refused Start st q going = going _ refl
unended_refused BetweenBatches st q going = going _ refl
unended_refused InBatch st q going = going _ refl
unended_refused BehindA st q going = going _ refl
unended_refused BehindB st q going = going _ refl
unended_refused Ended st q going = going _ refl
unended_refused (Refused x) st q going = going x q

-- a refused run stays as it is
module _ (st : Running) (x : Refusal) (q : st.stage ≡ Refused x) where
  pub line_same : (p : List ℕ) → line_of st p ≡ st
  unfolding took_at unended_at
  line_same p = by (ends_in_cr p)
    where
      by : (t : Bool) → cond t (took_record st (without_last p)) (unended_of st) ≡ st
      by true = ap (λ s. took_at s st (reading_of (without_last p))) q
      by false = ap (λ s. unended_at s st) q

  pub lines_same : (ps : List (List ℕ)) → lines_of st ps ≡ st
  unfolding lines_of
  lines_same [] = refl
  lines_same (p ∷ ps) = ap (λ s. lines_of s ps) (line_same p) ∙ lines_same ps

-- so a run that is accepted is not refused
pub alive : (st : Running) (ps : List (List ℕ)) (rest : List ℕ) (a : Accepted) → EndsAccepted st ps rest a → Going st
unfolding end_at
alive st ps rest a h x q =
    let s : end_of (lines_of st ps) rest ≡ Err x = ap (λ s. end_of s rest) (lines_same st x q ps) ∙ ap (λ s. end_at s st rest) q in
    never (sym s ∙ h)

-- each piece is a record with its CR, that the run takes
pub record Piece (st : Running) (p : List ℕ) (ps : List (List ℕ)) (rest : List ℕ) (a : Accepted) : Type 0 where
  pub bytes : List ℕ
  pub is : p ≡ with_cr bytes
  pub taken : EndsAccepted (took_record st bytes) ps rest a
  pub goes : Going (took_record st bytes)

pub piece : (st : Running) (p : List ℕ) (ps : List (List ℕ)) (rest : List ℕ) (a : Accepted) → EndsAccepted st (p ∷ ps) rest a → Piece st p ps rest a
unfolding lines_of
piece st p ps rest a h = by (ends_in_cr p) refl h
  where
    by : (t : Bool) → ends_in_cr p ≡ t → EndsAccepted (cond t (took_record st (without_last p)) (unended_of st)) ps rest a → Piece st p ps rest a
    by true e h =
        record { bytes = without_last p; is = record_and_cr p e; taken = h; goes = alive (took_record st (without_last p)) ps rest a h }
    by false e h = absurd (unended_refused st.stage st refl (alive (unended_of st) ps rest a h))

-- where a kind may stand, the file does not end
cut_short : (st : Running) (rest : List ℕ) (a : Accepted) → cut_short_of st rest ≡ Ok a → ⊥
unfolding cut_short_of
cut_short st [] a h = never h
cut_short st (b ∷ s) a h = never h

early : (s : Stage) (returned : Bool) (kind : Kind) (st : Running) (rest : List ℕ) (a : Accepted) → placed s returned kind ≡ true →
    end_at s st rest ≡ Ok a → ⊥
unfolding end_at
early Start t kind st rest a p h = cut_short st rest a h
early BetweenBatches t kind st rest a p h = cut_short st rest a h
early InBatch t kind st rest a p h = cut_short st rest a h
early BehindA t kind st rest a p h = cut_short st rest a h
early BehindB t kind st rest a p h = cut_short st rest a h
early Ended t kind st rest a p h = false≢true p
early (Refused x) t kind st rest a p h = false≢true p

pub too_early : (kind : Kind) (st : Running) (rest : List ℕ) (a : Accepted) → placed st.stage st.is_return kind ≡ true → EndsAccepted st [] rest a → ⊥
unfolding lines_of
too_early kind st rest a place h = early st.stage st.is_return kind st rest a place h

-- and behind the file trailer stands one byte 1A
ended_mark : (st : Running) (rest : List ℕ) (a : Accepted) → ended_of st rest ≡ Ok a → rest ≡ 26 ∷ []
unfolding ended_of
ended_mark st [] a h = never h
ended_mark st (b ∷ s) a h = by (same_bytes (b ∷ s) (26 ∷ [])) _ _ refl h
  where
    by : (t : Bool) (y : PayrollAnswer) (x : Refusal) → same_bytes (b ∷ s) (26 ∷ []) ≡ t → cond t y (Err x) ≡ Ok a → b ∷ s ≡ 26 ∷ []
    by true y x e h = same_equal (b ∷ s) (26 ∷ []) e
    by false y x e h = never h

pub mark_behind : (st : Running) (ps : List (List ℕ)) (rest : List ℕ) (a : Accepted) → st.stage ≡ Ended → EndsAccepted (cap st) ps rest a →
    (ps ≡ []) × (rest ≡ 26 ∷ [])
unfolding lines_of end_at
mark_behind st [] rest a q h = (refl, ended_mark (cap st) rest a (sym (ap (λ s. end_at s (cap st) rest) q) ∙ h))
mark_behind st (p ∷ ps) rest a q h =
    let one = piece (cap st) p ps rest a h in
    let w = stepped st one.bytes one.goes in
    absurd (false≢true (ap (λ s. placed s st.is_return w.kind) (sym q) ∙ w.next.place))
