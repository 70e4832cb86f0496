-- Payments as a run takes them: the state behind each, and behind several, written out as whole numbers.
use Prim.Native.Nat.{ℕ, ◌+◌}
use mathlib.Core.Path.{◌≡◌, refl, sym, ◌∙◌, ap, subst}
use mathlib.Core.List.{List, [], ◌∷◌, ◌++◌, map}
use mathlib.Core.Option.{Option, none, some}
use mathlib.Core.Bool.{Bool, true, false≢true}
use native.Mathlib.Omega.{arith}
use lib.ListN.{length, length-append}
use Rattle.lines.specs.Lines.{cr, with_cr}
use Rattle.lines.proofs.Ends.{cr_ends, before_last}
use Rattle.payroll_record.specs.declared.kind.Kind.{Kind}
use Rattle.payroll_record.specs.declared.kind.Kind.TheVariants.{SegmentA, SegmentB, SegmentZ, BatchTrailer}
use Rattle.payroll_record.specs.FileHeader.{is_return}
use Rattle.payroll_record.proofs.RightRecords.{is_return_lem}
use Rattle.payroll_run.specs.declared.stage.Stage.{Stage}
use Rattle.payroll_run.specs.declared.stage.Stage.TheVariants.{Start, BetweenBatches, InBatch, BehindA, BehindB, Ended, Refused}
use Rattle.payroll_run.specs.declared.running.Running.{Running}
use Rattle.payroll_run.specs.Stage.{placed}
use Rattle.payroll_run.specs.State.{moved}
use Rattle.payroll_file.specs.PayrollFile.{line_of, lines_of}
use Rattle.payroll_kept.specs.Records.{DetailKept, ZKept}
use Rattle.payroll_kept.specs.Kept.{Payment, if_there, payment_records, details, amount_at, amount_of, IfThere, PaymentKept, PaymentsKept}
use Rattle.payroll_kept.proofs.Plain.{cap, after, behind_plain}
use Rattle.payroll_kept.proofs.Next.{Next}
use Rattle.payroll_kept.proofs.Steps.{took_record, step}

-- records, one after the other
unfoldable pub took_records : Running → List (List ℕ) → Running
took_records st [] = st
took_records st (r ∷ rs) = took_records (took_record st r) rs

pub took_row : (st : Running) (rs ss : List (List ℕ)) → took_records st (rs ++ ss) ≡ took_records (took_records st rs) ss
unfolding took_records
took_row st [] ss = refl
took_row st (r ∷ rs) ss = took_row (took_record st r) rs ss

-- a record with its CR is a line
line_is : (st : Running) (r : List ℕ) → line_of st (with_cr r) ≡ took_record st r
line_is st r = rw (cr_ends r, before_last r cr)

pub lines_are : (st : Running) (rs : List (List ℕ)) → lines_of st (map with_cr rs) ≡ took_records st rs
unfolding lines_of took_records
lines_are st [] = refl
lines_are st (r ∷ rs) = ap (λ s. lines_of s (map with_cr rs)) (line_is st r) ∙ lines_are (took_record st r) rs

-- the same state, its numbers written in another way
pub same_after : (st : Running) (s : Stage) {d d' n n' m m' : ℕ} → d ≡ d' → n ≡ n' → m ≡ m' → after st s d n m ≡ after st s d' n' m'
same_after st s d n m = λ i. after st s (d i) (n i) (m i)

pub after_none : (st : Running) → st ≡ after st st.stage 0 0 0
after_none st =
    let n : st.records ≡ st.records + 0 = omega arith in
    let p : st.payments ≡ st.payments + 0 = omega arith in
    let a : st.amount ≡ st.amount + 0 = omega arith in
    let b : st.batch.records ≡ st.batch.records + 0 = omega arith in
    let d : st.batch.details ≡ st.batch.details + 0 = omega arith in
    let s : st.batch.sum ≡ st.batch.sum + 0 = omega arith in
    λ i. moved st.stage (n i) st.batches (p i) (a i) (record { records = b i; details = d i; sum = s i }) st

pub after_after : (st : Running) (s t : Stage) (d n m e o l : ℕ) → after (after st s d n m) t e o l ≡ after st t (d + e) (n + o) (m + l)
after_after st s t d n m e o l =
    let r : st.records + d + e ≡ st.records + (d + e) = omega arith in
    let p : st.payments + n + o ≡ st.payments + (n + o) = omega arith in
    let a : st.amount + m + l ≡ st.amount + (m + l) = omega arith in
    let b : st.batch.records + d + e ≡ st.batch.records + (d + e) = omega arith in
    let k : st.batch.details + d + e ≡ st.batch.details + (d + e) = omega arith in
    let q : st.batch.sum + m + l ≡ st.batch.sum + (m + l) = omega arith in
    λ i. moved t (r i) st.batches (p i) (a i) (record { records = b i; details = k i; sum = q i }) st

-- behind a record that may be there
abbrev pub behind_if : Stage → Option (List ℕ) → Running → Running
behind_if stage none st = st
behind_if stage (some r) st = after st stage 1 0 0

abbrev pub behind_payment : Payment → Running → Running
behind_payment p st = behind_if InBatch p.z (behind_if BehindB p.b (behind_plain SegmentA st p.a))

abbrev pub stage_behind : Option (List ℕ) → Option (List ℕ) → Stage
stage_behind none none = BehindA
stage_behind (some b) none = BehindB
stage_behind none (some z) = InBatch
stage_behind (some b) (some z) = InBatch

-- a stage in a batch: an A may stand there, and so may the batch's trailer
abbrev pub Inside : Stage → Bool → Type 0
Inside s returned = placed s returned SegmentA ≡ true

pub trailer_too : (s : Stage) (returned : Bool) → Inside s returned → placed s returned BatchTrailer ≡ true
trailer_too Start t p = absurd (false≢true p)
trailer_too BetweenBatches t p = absurd (false≢true p)
trailer_too InBatch t p = refl
trailer_too BehindA t p = refl
trailer_too BehindB t p = refl
trailer_too Ended t p = absurd (false≢true p)
trailer_too (Refused x) t p = absurd (false≢true p)

behind_inside : (b z : Option (List ℕ)) (returned : Bool) → Inside (stage_behind b z) returned
behind_inside none none t = refl
behind_inside (some b) none t = refl
behind_inside none (some z) t = refl
behind_inside (some b) (some z) t = refl

-- behind a payment are so many records more, one payment and its amount
pub payment_is : (st : Running) (a : List ℕ) (b z : Option (List ℕ)) →
    behind_if InBatch z (behind_if BehindB b (after st BehindA 1 1 (amount_at a))) ≡ after st (stage_behind b z) (length (a ∷ (if_there b ++ if_there z))) 1 (amount_at a)
payment_is st a none none = refl
payment_is st a (some b) none = after_after st BehindA BehindB 1 1 (amount_at a) 1 0 0 ∙ same_after st BehindB refl refl (omega arith)
payment_is st a none (some z) = after_after st BehindA InBatch 1 1 (amount_at a) 1 0 0 ∙ same_after st InBatch refl refl (omega arith)
payment_is st a (some b) (some z) =
    ap (λ st. after st InBatch 1 0 0) (after_after st BehindA BehindB 1 1 (amount_at a) 1 0 0) ∙
    after_after st BehindB InBatch 2 1 (amount_at a + 0) 1 0 0 ∙ same_after st InBatch refl refl (omega arith)

-- the detail number of a Z
pub z_number : (st : Running) (a : List ℕ) (b : Option (List ℕ)) →
    (behind_if BehindB b (behind_plain SegmentA st a)).batch.details + 1 ≡ st.batch.details + 1 + length (a ∷ if_there b)
z_number st a none = refl
z_number st a (some b) = omega arith

pub if_there_lem : {P Q : List ℕ → Type 0} (o : Option (List ℕ)) → ((r : List ℕ) → P r → Q r) → IfThere P o → IfThere Q o
if_there_lem none f k = tt
if_there_lem (some r) f k = f r k

-- in each stage behind an A the header decides on a Z
z_placed : (b : Option (List ℕ)) (st : Running) (a : List ℕ) → st.is_return ≡ true →
    placed (behind_if BehindB b (behind_plain SegmentA st a)).stage (behind_if BehindB b (behind_plain SegmentA st a)).is_return SegmentZ ≡ true
z_placed none st a q = q
z_placed (some b) st a q = q

pub same_batch : (b : Option (List ℕ)) (st : Running) (a : List ℕ) → (behind_if BehindB b (behind_plain SegmentA st a)).batches ≡ st.batches
same_batch none st a = refl
same_batch (some b) st a = refl

-- a record that may be there is taken
if_taken : (kind : Kind) (stage : Stage) (st : Running) → ((r : List ℕ) → behind_plain kind st r ≡ after st stage 1 0 0) → (o : Option (List ℕ)) →
    IfThere (Next kind st) o → took_records (cap st) (if_there o) ≡ cap (behind_if stage o st)
unfolding took_records
if_taken kind stage st e none k = refl
if_taken kind stage st e (some r) k = step kind st r k ∙ ap cap (e r)

module _ (header : List ℕ) where
  -- a payment
  payment_taken : (p : Payment) (st : Running) → st.is_return ≡ is_return header → Inside st.stage st.is_return →
      PaymentKept header st.batches (st.batch.details + 1) p →
      took_records (cap st) (payment_records p) ≡ cap (after st (stage_behind p.b p.z) (length (payment_records p)) 1 (amount_at p.a))
  unfolding took_records
  payment_taken p st q inside k =
      let first = step SegmentA st p.a (record { place = inside; kept = k.a }) in
      let one = behind_plain SegmentA st p.a in
      let two = behind_if BehindB p.b one in
      let second = if_taken SegmentB BehindB one (λ r. refl) p.b (if_there_lem p.b (λ r k. record { place = refl; kept = k }) k.b) in
      let z : (r : List ℕ) → ZKept header st.batches (st.batch.details + 1 + length (p.a ∷ if_there p.b)) r → Next SegmentZ two r =
      λ r k. record {
        place = z_placed p.b st p.a (q ∙ (is_return_lem header).1 k.returned);
        kept =
            subst (λ n. DetailKept "Z" two.batches n r) (sym (z_number st p.a p.b))
            (subst (λ n. DetailKept "Z" n (st.batch.details + 1 + length (p.a ∷ if_there p.b)) r) (sym (same_batch p.b st p.a)) k.detail);
      } in
      let third = if_taken SegmentZ InBatch two (λ r. refl) p.z (if_there_lem p.z z k.z) in
      ap (λ s. took_records s (if_there p.b ++ if_there p.z)) first ∙ took_row (cap one) (if_there p.b) (if_there p.z) ∙
      ap (λ s. took_records s (if_there p.z)) second ∙ third ∙ ap cap (payment_is st p.a p.b p.z)

  -- payments
  pub record Taken (st : Running) (ps : List Payment) : Type 0 where
    pub stage : Stage
    pub inside : Inside stage st.is_return
    pub is : took_records (cap st) (details ps) ≡ cap (after st stage (length (details ps)) (length ps) (amount_of ps))

  pub payments_taken : (ps : List Payment) (st : Running) → st.is_return ≡ is_return header → Inside st.stage st.is_return →
      PaymentsKept header st.batches (st.batch.details + 1) ps → Taken st ps
  unfolding took_records details amount_of PaymentsKept
  payments_taken [] st q inside k = record { stage = st.stage; inside = inside; is = ap cap (after_none st) }
  payments_taken (p ∷ ps) st q inside (k, ks) =
      let first = payment_taken p st q inside k in
      let s = stage_behind p.b p.z in
      let next = after st s (length (payment_records p)) 1 (amount_at p.a) in
      let number : st.batch.details + 1 + length (payment_records p) ≡ next.batch.details + 1 = omega arith in
      let rest = payments_taken ps next q (behind_inside p.b p.z st.is_return)
      (subst (λ n. PaymentsKept header st.batches n ps) number ks) in
      record {
        stage = rest.stage;
        inside = rest.inside;
        is =
            took_row (cap st) (payment_records p) (details ps) ∙ ap (λ s. took_records s (details ps)) first ∙ rest.is ∙
            ap cap (after_after st s rest.stage (length (payment_records p)) 1 (amount_at p.a) (length (details ps)) (length ps) (amount_of ps) ∙
            same_after st rest.stage (sym (length-append (payment_records p) (details ps))) (omega arith) refl);
      }
