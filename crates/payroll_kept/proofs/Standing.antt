-- How far a run has come: it counts its pieces, and goes on only behind few of them, so the number of the next one is whole.
use Prim.Native.Nat.{ℕ, suc, ◌+◌, ◌≤◌}
use mathlib.Core.Path.{◌≡◌, refl, ◌∙◌, ap, subst}
use mathlib.Core.Logic.{◌⊎◌, inl, inr}
use mathlib.Core.List.{List, [], ◌∷◌, ◌++◌}
use native.Mathlib.Nat.{add-zero, zero-add}
use native.Mathlib.Omega.{arith}
use lib.ListN.{length, length-append}
use Rattle.refusal.specs.Fault.{Judged}
use Rattle.std.specs.Prelude.{Ok, Err}
use Rattle.refusal.specs.declared.Refusal.{Refusal}
use Rattle.refusal.specs.Rules.{first_broken}
use Rattle.refusal.proofs.Rules.{all_hold_lem}
use Rattle.lines.specs.Lines.{without_last}
use Rattle.first_fault.specs.InTurn.{piece}
use Rattle.payroll_run.specs.declared.stage.Stage.TheVariants.{Refused}
use Rattle.payroll_run.specs.declared.running.Running.{Running}
use Rattle.payroll_run.specs.State.{opened, next_number, refusal_at}
use Rattle.payroll_file.specs.PayrollFile.{line_of, lines_of}
use Rattle.payroll_kept.specs.FirstFaultOfFile.{next_rules}
use Rattle.payroll_kept.proofs.Refused.{line_same}
use Rattle.payroll_kept.proofs.Pieces.{piece_stops}
use Rattle.payroll_kept.proofs.Few.{few_records}
use Rattle.payroll_kept.proofs.WrittenOut.{plain_of}
use Rattle.payroll_kept.proofs.State.{Came, came_one, none_came}

-- n records have come, and the run is not refused
pub record Reached (n : ℕ) (st : Running) : Type 0 where
  pub seen : List (List ℕ)
  pub counts : length seen ≡ n
  pub came : Came seen st

-- the run was refused at one of the first n, from the k-th on
pub record Stopped (k n : ℕ) (st : Running) : Type 0 where
  pub refusal : Refusal
  pub at_stage : st.stage ≡ Refused refusal
  pub from : k ≤ refusal.«record»
  pub up_to_lem : refusal.«record» ≤ n

abbrev pub Stands : ℕ → ℕ → Running → Type 0
Stands k n st = Reached n st ⊎ Stopped k n st

-- the next number is one more
pub next_number_lem : (n : ℕ) (st : Running) → Reached n st → next_number st ≡ suc n
next_number_lem n st w = ap next_number w.came.is ∙ omega (arith, few_records (plain_of w.seen) w.came.few, w.counts)

-- one piece more
line_taken : (k n : ℕ) (st : Running) (p : List ℕ) → k ≤ suc n → Stands k n st → Stands k (suc n) (line_of st p)
line_taken k n st p low (inl w) = by (first_broken (next_rules st (piece p))) refl
  where
    by : (fault : Judged) → first_broken (next_rules st (piece p)) ≡ fault → Stands k (suc n) (line_of st p)
    by (Ok none) f =
        let more = w.seen ++ (without_last p ∷ []) in
        inl
        (record {
          seen = more;
          counts = omega (arith, length-append w.seen (without_last p ∷ []), w.counts);
          came = came_one w.seen st p w.came (all_hold_lem (next_rules st (piece p)) f);
        })
    by (Err fault) f =
        inr
        (record {
          refusal = refusal_at fault.cause fault.column st;
          at_stage = piece_stops st p fault.cause fault.column w.came.going f;
          from = omega (arith, next_number_lem n st w);
          up_to_lem = omega (arith, next_number_lem n st w);
        })
line_taken k n st p low (inr w) =
    inr
    (record {
      refusal = w.refusal;
      at_stage = ap (λ next. next.stage) (line_same st w.refusal w.at_stage p) ∙ w.at_stage;
      from = w.from;
      up_to_lem = omega (arith, w.up_to_lem);
    })

-- one more of those that came is one less of those that come
moved : (n m : ℕ) → suc n + m ≡ n + suc m
moved n m = omega arith

-- one piece after the other
pub lines_taken_lem : (k n : ℕ) (st : Running) (ps : List (List ℕ)) → k ≤ suc n → Stands k n st → Stands k (n + length ps) (lines_of st ps)
unfolding lines_of
lines_taken_lem k n st [] low w = rw add-zero w
lines_taken_lem k n st (p ∷ ps) low w =
    subst (λ m. Stands k m (lines_of (line_of st p) ps)) (moved n (length ps)) (lines_taken_lem k (suc n) (line_of st p) ps (omega arith) (line_taken k n st p low w))

pub from_open : (ps : List (List ℕ)) → Stands 0 (length ps) (lines_of opened ps)
from_open ps =
    subst (λ m. Stands 0 m (lines_of opened ps)) (zero-add (length ps))
    (lines_taken_lem 0 0 opened ps (omega arith) (inl (record { seen = []; counts = refl; came = none_came })))
