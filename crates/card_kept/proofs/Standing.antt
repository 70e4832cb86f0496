-- How far a run has come: it counts its records, and goes on below a million of them, since NSEQ has six digits and is the record's number.
-- By cases on the stage, and on what the record reads as.
use Rattle.std.specs.Prelude.{Ok, Err}
use Prim.Native.Nat.{ℕ, suc, ◌+◌, ◌^◌, ◌≤◌, ◌<◌}
use mathlib.Core.Path.{◌≡◌, refl, sym, subst}
use mathlib.Core.List.{List, [], ◌∷◌}
use mathlib.Core.Bool.{false, ◌&&◌, false≢true}
use native.Mathlib.Nat.{add-zero, zero-add}
use native.Mathlib.Omega.{arith}
use lib.ListN.{length}
use lib.Dec.{eqb}
use borrow.Author.Tests.{eqb-true}
use Rattle.edition.specs.Known.{edition_fault}
use Rattle.refusal.specs.Rules.{Rule, first_broken, all_hold}
use Rattle.refusal.proofs.Rules.{all_hold_lem}
use Rattle.text.proofs.Alphabets.{both_left, both_right}
use Rattle.card_sale.proofs.Ranges.{cv_below}
use Rattle.card_adjustment.specs.Aj.{is_credit}
use Rattle.card_adjustment.proofs.Ranges.{aj_below}
use Rattle.card_frame.proofs.Ranges.{a0_below, l0_below, l9_below, a9_below}
use Rattle.card_record.specs.declared.reading.Reading.{Reading}
use Rattle.card_record.specs.declared.reading.Reading.TheVariants.{
  Unknown as unknown,
  Faulty as faulty,
  A0 as a0,
  L0 as l0,
  Cv as cv,
  Aj as aj,
  L9 as l9,
  A9 as a9,
}
use Rattle.card_record.specs.Reading.{reading_of}
use Rattle.card_record.proofs.Readings.{Says, says}
use Rattle.card_run.specs.declared.stage.Stage.{Stage}
use Rattle.card_run.specs.declared.stage.Stage.TheVariants.{Start, BetweenBatches, InBatch, Ended, Closed, Refused}
use Rattle.card_run.specs.declared.running.Running.{Running}
use Rattle.card_run.specs.Stage.{placed}
use Rattle.card_run.specs.Running.{open_at, open_of, next_number, late_at}
use Rattle.card_step.specs.Rules.{nseq_rule, joined_at, rules_of}
use Rattle.card_step.specs.Behind.{behind}
use Rattle.card_step.specs.Step.{behind_or_refused, judged_of, took_at}
use Rattle.card_file.specs.Feeding.{fed_of, fed_all}
use Rattle.card_kept.proofs.Adjustments.{either_way}
use Rattle.refusal.specs.Fault.{Judged, nothing}

-- n records have come, and there is room for one more
pub record Reached (n : ℕ) (st : Running) : Type 0 where
  pub counts : st.numbers.records ≡ n
  pub room : n ≤ 999_999

-- a run to which n records were given goes on, or was refused at one of them, from the k-th on; it is not closed
abbrev pub StandsAt : ℕ → ℕ → Stage → Running → Type 0
StandsAt k n Start st = Reached n st
StandsAt k n BetweenBatches st = Reached n st
StandsAt k n InBatch st = Reached n st
StandsAt k n Ended st = Reached n st
StandsAt k n Closed st = ⊥
StandsAt k n (Refused x) st = (k ≤ x.«record») × (x.«record» ≤ n)

abbrev pub Stands : ℕ → ℕ → Running → Type 0
Stands k n st = StandsAt k n st.stage st

-- at the start
pub opened : (edition : ℕ) → Stands 0 0 (open_of edition)
opened edition = by (edition_fault edition)
  where
    by : (f : Judged) → StandsAt 0 0 (open_at f) (open_of edition)
    by (Ok none) = record { counts = refl; room = omega arith }
    by (Err fault) = (omega arith, omega arith)

module _ (st : Running) (n : ℕ) (reached : Reached n st) where
  -- the next number is one more
  pub next_number_lem : next_number st ≡ suc n
  next_number_lem = omega arith

  -- where the rules hold, among them that NSEQ is the next number, there is room for one more
  room_left : (first : Rule) (column nseq : ℕ) (rest : List Rule) → nseq < 10 ^ 6 → first_broken (first ∷ nseq_rule st column nseq ∷ rest) ≡ nothing →
      suc n ≤ 999_999
  unfolding all_hold
  room_left first column nseq rest below e =
      let all = all_hold_lem (first ∷ nseq_rule st column nseq ∷ rest) e in
      let same = eqb nseq (next_number st) in
      let is = eqb-true nseq (next_number st) (both_left same (all_hold rest) (both_right first.holds (same && all_hold rest) all)) in
      omega (arith, next_number_lem)

  -- behind a record that keeps the rules
  kept : (k : ℕ) (r : List ℕ) (reading : Reading) → Says st.edition r reading → first_broken (rules_of st reading) ≡ nothing →
      Stands k (suc n) (behind st reading)
  unfolding all_hold rules_of joined_at behind
  kept k r unknown s e = absurd (false≢true (all_hold_lem (rules_of st unknown) e))
  kept k r (faulty kind fault) s e =
      absurd (false≢true (both_right (placed st.stage kind) false (all_hold_lem (rules_of st (faulty kind fault)) e)))
  kept k r (a0 x) s e = record { counts = next_number_lem; room = room_left _ 70 x.nseq _ (rw s.1 (a0_below r).nseq) e }
  kept k r (l0 x) s e = record { counts = next_number_lem; room = room_left _ 13 x.nseq _ (rw s.1 (l0_below r).nseq) e }
  kept k r (cv x) s e = record { counts = next_number_lem; room = room_left _ 194 x.nseq _ (rw s.1 (cv_below r).nseq) e }
  kept k r (aj x) s e =
      let room = room_left _ 188 x.nseq _ (rw s.1 (aj_below r).nseq) e in
      either_way (Stands k (suc n)) (is_credit x) (record { counts = next_number_lem; room = room }) (record { counts = next_number_lem; room = room })
  kept k r (l9 x) s e = record { counts = next_number_lem; room = room_left _ 23 x.nseq _ (rw s.1 (l9_below r).nseq) e }
  kept k r (a9 x) s e = record { counts = next_number_lem; room = room_left _ 9 x.nseq _ (rw s.1 (a9_below r).nseq) e }

  module _ (k : ℕ) (low : k ≤ suc n) where
    -- refused at the next record
    refused_next : (k ≤ next_number st) × (next_number st ≤ suc n)
    refused_next = (omega (arith, next_number_lem), omega (arith, next_number_lem))

    -- a record judged
    judged : (r : List ℕ) → Stands k (suc n) (judged_of st (reading_of st.edition r))
    unfolding behind_or_refused
    judged r = by (first_broken (rules_of st (reading_of st.edition r))) refl
      where
        by : (fault : Judged) → first_broken (rules_of st (reading_of st.edition r)) ≡ fault →
            Stands k (suc n) (behind_or_refused st (reading_of st.edition r) fault)
        by (Ok none) e = kept k r (reading_of st.edition r) (says st.edition r refl) e
        by (Err fault) e = refused_next

-- one record more
pub fed : (k n : ℕ) (st : Running) (r : List ℕ) → k ≤ suc n → Stands k n st → Stands k (suc n) (fed_of st r)
unfolding took_at late_at
fed k n st r low = by st.stage refl
  where
    by : (s : Stage) → st.stage ≡ s → StandsAt k n s st → Stands k (suc n) (took_at s st (reading_of st.edition r))
    by Start e h = judged st n h k low r
    by BetweenBatches e h = judged st n h k low r
    by InBatch e h = judged st n h k low r
    by Ended e h = refused_next st n h k low
    by Closed e h = absurd h
    by (Refused x) e h = subst (λ s. StandsAt k (suc n) s st) (sym e) (h.0, omega arith)

-- one more of those that came is one less of those that come
moved : (n m : ℕ) → suc n + m ≡ n + suc m
moved n m = omega arith

-- one record after the other
pub fed_all_lem : (k n : ℕ) (st : Running) (rs : List (List ℕ)) → k ≤ suc n → Stands k n st → Stands k (n + length rs) (fed_all st rs)
unfolding fed_all
fed_all_lem k n st [] low h = rw add-zero h
fed_all_lem k n st (r ∷ rs) low h =
    subst (λ m. Stands k m (fed_all (fed_of st r) rs)) (moved n (length rs)) (fed_all_lem k (suc n) (fed_of st r) rs (omega arith) (fed k n st r low h))

pub fed_open : (edition : ℕ) (rs : List (List ℕ)) → Stands 0 (length rs) (fed_all (open_of edition) rs)
fed_open edition rs =
    subst (λ m. Stands 0 m (fed_all (open_of edition) rs)) (zero-add (length rs)) (fed_all_lem 0 0 (open_of edition) rs (omega arith) (opened edition))
