-- Neither taking a line nor the end looks further into it than what is held: a record of more than 240 bytes has the wrong width, and what is left
-- behind the file trailer is one byte or wrong.
use Prim.Native.Nat.{ℕ, ◌≤◌, ◌<◌}
use mathlib.Core.Path.{◌≡◌, refl, sym, ◌∙◌, ap, ap₂}
use mathlib.Core.List.{List, [], ◌∷◌}
use mathlib.Core.Bool.{Bool, true, false, cond, ◌&&◌}
use native.Mathlib.Omega.{arith}
use lib.ListN.{length, take, length-take}
use lib.Seq.{take_all}
use lib.Dec.{eqb, leb}
use borrow.Author.Tests.{leb-true, leb-false, ne_eqb}
use Rattle.text.specs.Literal.{same_bytes}
use Rattle.lines.specs.Lines.{ends_in_cr, without_last}
use Rattle.chunks.specs.Unfinished.{clipped}
use Rattle.chunks.proofs.Clipped.{clipped_all, clipped_exactly, clipped_ends, clipped_record}
use Rattle.chunks.specs.Chunks.{LooksNoFurther}
use Rattle.payroll_record.specs.declared.reading.Reading.TheVariants.{WrongWidth}
use Rattle.payroll_record.specs.Reading.{read_found, reading_of}
use Rattle.payroll_record.specs.Kind.{kind_of}
use Rattle.payroll_run.specs.declared.stage.Stage.{Stage}
use Rattle.payroll_run.specs.declared.stage.Stage.TheVariants.{Start, BetweenBatches, InBatch, BehindA, BehindB, Ended, Refused}
use Rattle.payroll_run.specs.declared.running.Running.{Running}
use Rattle.payroll_step.specs.Step.{took_of}
use Rattle.payroll_file.specs.PayrollFile.{line_of, unended_of, cut_short_of, ended_of, end_at, end_of}

too_wide : (r : List ℕ) → 240 < length r → reading_of r ≡ WrongWidth
too_wide r l = ap (λ (t : Bool). cond t (read_found (kind_of r) r) WrongWidth) (ne_eqb (length r) 240 (λ q. omega arith))

front_reading : (r : List ℕ) → reading_of (take 241 r) ≡ reading_of r
front_reading r = one (leb (length r) 241) refl
  where
    one : (p : Bool) → leb (length r) 241 ≡ p → reading_of (take 241 r) ≡ reading_of r
    one true l = ap reading_of (take_all 241 r (leb-true (length r) 241 l))
    one false l =
        let m : 241 < length r = leb-false (length r) 241 l in
        too_wide (take 241 r) (omega (arith, length-take 241 r)) ∙ sym (too_wide r (omega arith))

pub no_further : LooksNoFurther line_of
no_further st p =
    ap₂ (λ (ends : Bool) (r : List ℕ). cond ends (took_of st (reading_of r)) (unended_of st)) (clipped_ends p) (clipped_record p) ∙
    ap (λ reading. cond (ends_in_cr p) (took_of st reading) (unended_of st)) (front_reading (without_last p))

-- two bytes or more are left: which they are does not matter
no_mark : (b c : ℕ) (s : List ℕ) → same_bytes (b ∷ c ∷ s) (26 ∷ []) ≡ false
unfolding same_bytes
no_mark b c s = one (eqb b 26)
  where
    one : (p : Bool) → (p && false) ≡ false
    one true = refl
    one false = refl

two_left : (stage : Stage) (st : Running) (l m : List ℕ) → 1 < length l → 1 < length m → end_at stage st l ≡ end_at stage st m
unfolding end_at cut_short_of ended_of
two_left stage st [] m h k = absurd (omega arith)
two_left stage st (b ∷ []) m h k = absurd (omega arith)
two_left stage st (b ∷ c ∷ l) [] h k = absurd (omega arith)
two_left stage st (b ∷ c ∷ l) (d ∷ []) h k = absurd (omega arith)
two_left Start st (b ∷ c ∷ l) (d ∷ e ∷ m) h k = refl
two_left BetweenBatches st (b ∷ c ∷ l) (d ∷ e ∷ m) h k = refl
two_left InBatch st (b ∷ c ∷ l) (d ∷ e ∷ m) h k = refl
two_left BehindA st (b ∷ c ∷ l) (d ∷ e ∷ m) h k = refl
two_left BehindB st (b ∷ c ∷ l) (d ∷ e ∷ m) h k = refl
two_left Ended st (b ∷ c ∷ l) (d ∷ e ∷ m) h k = rw (no_mark b c l, no_mark d e m)
two_left (Refused r) st (b ∷ c ∷ l) (d ∷ e ∷ m) h k = refl

pub end_no_further : LooksNoFurther end_of
end_no_further st p = one (leb (length p) 242) refl
  where
    one : (t : Bool) → leb (length p) 242 ≡ t → end_of st (clipped p) ≡ end_of st p
    one true l =
        let m : length p ≤ 242 = leb-true (length p) 242 l in
        ap (end_of st) (clipped_all [] p (omega arith))
    one false l =
        let m : 242 < length p = leb-false (length p) 242 l in
        two_left st.stage st (clipped p) p (omega (arith, clipped_exactly [] p (omega arith))) (omega arith)
