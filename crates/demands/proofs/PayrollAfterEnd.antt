-- What comes after a payroll file's end, or after a refusal: by the stream's progress, and before the end by the stage of its state.
use Prim.Native.Nat.{ℕ}
use mathlib.Core.Path.{◌≡◌, refl, sym, ◌∙◌, ap}
use mathlib.Core.List.{List, [], ◌∷◌, foldl}
use native.Mathlib.Omega.{arith}
use Rattle.refusal.specs.declared.Cause.TheVariants.{BytesAfterTheEnd}
use Rattle.refusal.specs.declared.Refusal.{Refusal}
use Rattle.lines.specs.Lines.{cut}
use Rattle.chunks.specs.Unfinished.{held_by}
use Rattle.chunks.specs.Chunks.{held_before}
use Rattle.payroll_run.specs.declared.stage.Stage.{Stage}
use Rattle.payroll_run.specs.declared.stage.Stage.TheVariants.{Start, BetweenBatches, InBatch, BehindA, BehindB, Ended, Refused}
use Rattle.payroll_run.specs.declared.running.Running.{Running}
use Rattle.payroll_run.specs.State.{refusal_at}
use Rattle.payroll_file.specs.declared.answer.Accepted.{Accepted as PayrollNumbers}
use Rattle.payroll_file.specs.PayrollFile.{line_of, end_at}
use Rattle.payroll_kept.proofs.Refused.{line_same}
use Rattle.payroll_stream.specs.declared.Stream.{Stream}
use Rattle.payroll_stream.specs.Stream.{behind_end, taken_behind_end, taken_at, taken_of, ended_at, ended_of, so_far, answer_at, answer_of}
use Rattle.payroll_stream.specs.Stream.{PayrollProgress}
use Rattle.std.specs.Prelude.{Err, None, Ok, Some}

-- the end decides
pub payroll_decided : (s : Stream) → answer_of (ended_of s) ≡ None → ⊥
unfolding ended_at answer_at
payroll_decided s e = absurd (let z : ◌≡◌ {A = ℕ} 0 1 = by s.progress refl e in omega arith)
  where
    by : (p : PayrollProgress) → s.progress ≡ p → answer_of (ended_at p s) ≡ None → ◌≡◌ {A = ℕ} 0 1
    by None g e = cc
    by (Some a) g e = let f : Some a ≡ None = ap (λ p. answer_at p s.state) (sym g) ∙ e in cc

-- and a further end changes nothing, since the progress keeps the answer
pub payroll_ended_again : (s : Stream) → ended_of (ended_of s) ≡ ended_of s
unfolding ended_at
payroll_ended_again s = by s.progress refl
  where
    by : (p : PayrollProgress) → s.progress ≡ p → ended_of (ended_at p s) ≡ ended_at p s
    by None g = refl
    by (Some a) g = ap (λ p. ended_at p s) g

-- before the end there is no answer but a refusal, which is the stage's
pub refused_stage : (stage : Stage) (x : Refusal) → so_far stage ≡ Some (Err x) → stage ≡ Refused x
unfolding so_far
refused_stage Start x e = cc
refused_stage BetweenBatches x e = cc
refused_stage InBatch x e = cc
refused_stage BehindA x e = cc
refused_stage BehindB x e = cc
refused_stage Ended x e = cc
refused_stage (Refused y) x e = cc

not_accepted : (stage : Stage) (a : PayrollNumbers) → so_far stage ≡ Some (Ok a) → ◌≡◌ {A = ℕ} 0 1
unfolding so_far
not_accepted Start a e = cc
not_accepted BetweenBatches a e = cc
not_accepted InBatch a e = cc
not_accepted BehindA a e = cc
not_accepted BehindB a e = cc
not_accepted Ended a e = cc
not_accepted (Refused y) a e = cc

-- a refused state takes any lines and stays as it is
lines_same : (st : Running) (x : Refusal) (ps : List (List ℕ)) → st.stage ≡ Refused x → foldl line_of st ps ≡ st
lines_same st x [] q = refl
lines_same st x (p ∷ ps) q = ap (λ next. foldl line_of next ps) (line_same st x q p) ∙ lines_same st x ps q

-- the next chunk, and the end, of a stream that is refused
abbrev StaysRefused : Stream → Refusal → Type 0
StaysRefused s x = ((chunk : List ℕ) → answer_of (taken_of s chunk) ≡ Some (Err x)) × (answer_of (ended_of s) ≡ Some (Err x))

before_end : (s : Stream) (x : Refusal) → s.progress ≡ None → s.state.stage ≡ Refused x → StaysRefused s x
unfolding taken_at ended_at answer_at so_far end_at
before_end s x g q = (
  λ chunk.
      let ls = held_before (held_by s.held) (cut chunk).pieces (cut chunk).rest in
      ap (λ p. answer_of (taken_at p s chunk)) g ∙ ap (λ (st : Running). so_far st.stage) (lines_same s.state x ls.pieces q) ∙ ap so_far q,
  ap (λ p. answer_of (ended_at p s)) g ∙ ap (λ stage. Some (end_at stage s.state (held_by s.held))) q,
)

behind_end_lem : (s : Stream) (x : Refusal) → s.progress ≡ Some (Err x) → StaysRefused s x
unfolding taken_at taken_behind_end behind_end ended_at answer_at
behind_end_lem s x g = (λ chunk. ap (λ p. answer_of (taken_at p s chunk)) g ∙ by chunk, ap (λ p. answer_of (ended_at p s)) g ∙ same)
  where
    same : answer_of s ≡ Some (Err x)
    same = ap (λ p. answer_at p s.state) g

    by : (chunk : List ℕ) → answer_of (taken_behind_end s (Err x) chunk) ≡ Some (Err x)
    by [] = same
    by (b ∷ chunk) = refl

pub payroll_refused_lem : (s : Stream) (x : Refusal) → answer_of s ≡ Some (Err x) → StaysRefused s x
unfolding answer_at
payroll_refused_lem s x e = by s.progress refl e
  where
    by : (p : PayrollProgress) → s.progress ≡ p → answer_at p s.state ≡ Some (Err x) → StaysRefused s x
    by None g e = before_end s x g (refused_stage s.state.stage x e)
    by (Some a) g e = behind_end_lem s x (g ∙ e)

-- after an accepted end
pub accepted_progress : (p : PayrollProgress) (st : Running) (a : PayrollNumbers) → answer_at p st ≡ Some (Ok a) → p ≡ Some (Ok a)
unfolding answer_at
accepted_progress None st a e = absurd (let z = not_accepted st.stage a e in omega arith)
accepted_progress (Some b) st a e = e

pub payroll_accepted_lem : (s : Stream) (a : PayrollNumbers) → answer_of s ≡ Some (Ok a) →
    (taken_of s [] ≡ s) × ((b : ℕ) (chunk : List ℕ) → answer_of (taken_of s (b ∷ chunk)) ≡ Some (Err (refusal_at BytesAfterTheEnd 0 s.state)))
unfolding taken_at taken_behind_end behind_end answer_at
payroll_accepted_lem s a e =
    let g = accepted_progress s.progress s.state a e in
    (ap (λ p. taken_at p s []) g, λ b chunk. ap (λ p. answer_of (taken_at p s (b ∷ chunk))) g)
