-- What the pieces are that an accepted run still takes. By induction on them, at once for each stage behind the header:
-- the next piece is a record that keeps the rules, and the run behind it says what the other pieces are.
use Prim.Native.Nat.{ℕ, ◌+◌, ◌^◌, ◌<◌}
use mathlib.Core.Path.{◌≡◌, refl, sym, ◌∙◌, ap, subst}
use mathlib.Core.List.{List, [], ◌∷◌, ◌++◌, map, append_assoc}
use mathlib.Core.Option.{Option, none, some}
use mathlib.Core.Bool.{true, false≢true}
use native.Mathlib.Omega.{arith}
use lib.ListN.{length, length-append}
use Rattle.lines.specs.Lines.{with_cr}
use Rattle.payroll_record.specs.declared.kind.Kind.{Kind}
use Rattle.payroll_record.specs.declared.kind.Kind.TheVariants.{FileHeader, BatchHeader, SegmentA, SegmentB, SegmentZ, BatchTrailer, FileTrailer}
use Rattle.payroll_record.specs.FileHeader.{is_return}
use Rattle.payroll_record.proofs.RightRecords.{is_return_lem}
use Rattle.payroll_run.specs.declared.stage.Stage.{Stage}
use Rattle.payroll_run.specs.declared.stage.Stage.TheVariants.{BetweenBatches, InBatch, BehindA, BehindB}
use Rattle.payroll_run.specs.declared.running.Running.{Running}
use Rattle.payroll_file.specs.declared.answer.Accepted.{Accepted}
use Rattle.payroll_run.specs.Stage.{placed}
use Rattle.payroll_kept.specs.Records.{IsReturn, BKept, ZKept, BatchTrailerKept, FileTrailerKept}
use Rattle.payroll_kept.specs.Kept.{
  Payment,
  Batch,
  if_there,
  payment_records,
  details,
  batch_records,
  batches_records,
  batches_payments,
  amount_at,
  amount_of,
  IfThere,
  PaymentsKept,
  BatchesKept,
}
use Rattle.payroll_kept.proofs.Plain.{cap, behind_plain}
use Rattle.payroll_kept.proofs.Next.{NextKept, Next}
use Rattle.payroll_kept.proofs.Steps.{took_record, step, stepped}
use Rattle.payroll_kept.proofs.Refused.{EndsAccepted, piece, too_early, mark_behind}
use Rattle.payroll_kept.proofs.Payments.{behind_if, payment_is, z_number, if_there_lem, same_batch}
use Rattle.payroll_kept.proofs.Accepting.{amount_row, batch_trailer_at, file_trailer_at}

-- records of two lists
map_row : (rs ss : List (List ℕ)) → map with_cr (rs ++ ss) ≡ map with_cr rs ++ map with_cr ss
map_row [] ss = refl
map_row (r ∷ rs) ss = ap (λ l. with_cr r ∷ l) (map_row rs ss)

in_one_row : (b z d e : List (List ℕ)) → map with_cr b ++ (map with_cr z ++ (map with_cr d ++ e)) ≡ map with_cr ((b ++ z) ++ d) ++ e
in_one_row [] [] d e = refl
in_one_row [] (r ∷ z) d e = ap (λ l. with_cr r ∷ l) (in_one_row [] z d e)
in_one_row (r ∷ b) z d e = ap (λ l. with_cr r ∷ l) (in_one_row b z d e)

module _ (header : List ℕ) (rest : List ℕ) where
  -- pieces are batches and the file trailer, behind so many batches and records with an amount
  pub record BatchesLeft (before records amount : ℕ) (ps : List (List ℕ)) : Type 0 where
    pub batches : List Batch
    pub trailer : List ℕ
    pub is : ps ≡ map with_cr (batches_records batches ++ (trailer ∷ []))
    pub mark : rest ≡ 26 ∷ []
    pub keep : BatchesKept header (before + 1) batches
    pub last : FileTrailerKept (before + length batches) (records + length (batches_records batches) + 1) trailer
    pub below : amount + amount_of (batches_payments batches) < 10 ^ 19

  -- they are payments and the trailer of the open batch, and then batches and the file trailer
  pub record PaymentsLeft (st : Running) (ps : List (List ℕ)) : Type 0 where
    pub more : List Payment
    pub trailer : List ℕ
    pub behind : List (List ℕ)
    pub is : ps ≡ map with_cr (details more ++ (trailer ∷ [])) ++ behind
    pub keep : PaymentsKept header st.batches (st.batch.details + 1) more
    pub closes : BatchTrailerKept st.batches (st.batch.records + length (details more) + 1) (st.batch.sum + amount_of more) trailer
    pub batches : BatchesLeft st.batches (st.records + length (details more) + 1) (st.amount + amount_of more) behind

  -- they are a record, if it is there, and then what is left behind it
  pub record IfLeft (Left : Running → List (List ℕ) → Type 0) (Keeps : List ℕ → Type 0) (stage : Stage) (st : Running) (ps : List (List ℕ)) : Type 0 where
    pub one : Option (List ℕ)
    pub behind : List (List ℕ)
    pub is : ps ≡ map with_cr (if_there one) ++ behind
    pub keeps : IfThere Keeps one
    pub left : Left (behind_if stage one st) behind

  -- a Z behind an A or a B, and a B behind an A
  abbrev ZLeft : Running → List (List ℕ) → Type 0
  ZLeft st = IfLeft PaymentsLeft (ZKept header st.batches (st.batch.details + 1)) InBatch st

  abbrev BLeft : Running → List (List ℕ) → Type 0
  BLeft st = IfLeft ZLeft (BKept st.batches (st.batch.details + 1)) BehindB st

  -- what an accepted run says of the pieces
  pub record SaysLeft (st : Running) (ps : List (List ℕ)) : Type 0 where
    pub between : st.stage ≡ BetweenBatches → BatchesLeft st.batches st.records st.amount ps
    pub in_batch_lem : st.stage ≡ InBatch → PaymentsLeft st ps
    pub behind_a_lem : st.stage ≡ BehindA → BLeft st ps
    pub behind_b_lem : st.stage ≡ BehindB → ZLeft st ps

  module _ (st : Running) (r : List ℕ) (ps : List (List ℕ)) where
    -- a batch header and a batch, before others
    open_batch_lem : NextKept BatchHeader st r → PaymentsLeft (behind_plain BatchHeader st r) ps → BatchesLeft st.batches st.records st.amount (with_cr r ∷ ps)
    unfolding batches_records batches_payments BatchesKept
    open_batch_lem k s =
        let b : Batch = record { header = r; payments = s.more; trailer = s.trailer } in
        let others = s.batches in
        let bs = others.batches in
        let d = length (details s.more) in
        let l = length-append (details s.more) (s.trailer ∷ []) in
        let m = amount_row s.more (batches_payments bs) in
        let long : 1 + d + 1 ≡ length (batch_records b) = omega arith in
        let sum : 0 + amount_of s.more ≡ amount_of s.more = omega arith in
        let count : st.batches + 1 + length bs ≡ st.batches + length (b ∷ bs) = omega arith in
        let total : st.records + 1 + d + 1 + length (batches_records bs) + 1 ≡ st.records + length (batch_records b ++ batches_records bs) + 1 =
        omega (arith, length-append (batch_records b) (batches_records bs)) in
        record {
          batches = b ∷ bs;
          trailer = others.trailer;
          is =
              ap (λ l. with_cr r ∷ l)
              (s.is ∙ ap (λ l. map with_cr (details s.more ++ (s.trailer ∷ [])) ++ l) others.is ∙
              sym (map_row (details s.more ++ (s.trailer ∷ [])) (batches_records bs ++ (others.trailer ∷ []))) ∙
              ap (map with_cr) (sym (append_assoc (details s.more ++ (s.trailer ∷ [])) (batches_records bs) (others.trailer ∷ []))));
          mark = others.mark;
          keep = (record { opens = k; payments = s.keep; closes = batch_trailer_at long sum s.closes }, others.keep);
          last = file_trailer_at count total others.last;
          below = omega (arith, others.below);
        }

    -- the trailer of the file
    close_file : NextKept FileTrailer st r → ps ≡ [] → rest ≡ 26 ∷ [] → BatchesLeft st.batches st.records st.amount (with_cr r ∷ ps)
    unfolding batches_records batches_payments BatchesKept amount_of
    close_file k nothing mark =
        let count : st.batches ≡ st.batches + 0 = omega arith in
        let number : st.records + 1 ≡ st.records + 0 + 1 = omega arith in
        record {
          batches = [];
          trailer = r;
          is = ap (λ l. with_cr r ∷ l) nothing;
          mark = mark;
          keep = tt;
          last = file_trailer_at count number k.0;
          below = omega (arith, k.1);
        }

    -- the trailer of a batch
    close_batch : NextKept BatchTrailer st r → BatchesLeft st.batches (st.records + 1) st.amount ps → PaymentsLeft st (with_cr r ∷ ps)
    unfolding details amount_of PaymentsKept
    close_batch k b =
        let count : st.batch.records + 1 ≡ st.batch.records + 0 + 1 = omega arith in
        let sum : st.batch.sum ≡ st.batch.sum + 0 = omega arith in
        let records : st.records + 1 ≡ st.records + 0 + 1 = omega arith in
        let amount : st.amount ≡ st.amount + 0 = omega arith in
        record {
          more = [];
          trailer = r;
          behind = ps;
          is = refl;
          keep = tt;
          closes = batch_trailer_at count sum k;
          batches = subst (λ n. BatchesLeft st.batches n (st.amount + 0) ps) records (subst (λ n. BatchesLeft st.batches (st.records + 1) n ps) amount b);
        }

    -- a payment: its A, and what is there of its B and its Z
    paid : NextKept SegmentA st r → BLeft (behind_plain SegmentA st r) ps → PaymentsLeft st (with_cr r ∷ ps)
    unfolding details amount_of PaymentsKept
    paid k left =
        let b = left.one in
        let z = left.left.one in
        let p : Payment = record { a = r; b = b; z = z } in
        let l = length (payment_records p) in
        let others = subst (λ st. PaymentsLeft st left.left.behind) (payment_is st r b z) left.left.left in
        let row = length-append (payment_records p) (details others.more) in
        let number : st.batch.details + l + 1 ≡ st.batch.details + 1 + l = omega arith in
        let count : st.batch.records + l + length (details others.more) + 1 ≡ st.batch.records + length (payment_records p ++ details others.more) + 1 =
        omega arith in
        let records : st.records + l + length (details others.more) + 1 ≡ st.records + length (payment_records p ++ details others.more) + 1 = omega arith in
        let sum : st.batch.sum + amount_at r + amount_of others.more ≡ st.batch.sum + (amount_at r + amount_of others.more) = omega arith in
        let amount : st.amount + amount_at r + amount_of others.more ≡ st.amount + (amount_at r + amount_of others.more) = omega arith in
        let z-kept : (s : List ℕ) → ZKept header (behind_if BehindB b (behind_plain SegmentA st r)).batches ((behind_if BehindB b (behind_plain SegmentA st r)).batch.details + 1) s →
        ZKept header st.batches (st.batch.details + 1 + length (r ∷ if_there b)) s =
        λ s k. subst (λ n. ZKept header st.batches n s) (z_number st r b)
        (subst (λ n. ZKept header n ((behind_if BehindB b (behind_plain SegmentA st r)).batch.details + 1) s) (same_batch b st r) k) in
        record {
          more = p ∷ others.more;
          trailer = others.trailer;
          behind = others.behind;
          is =
              ap (λ l. with_cr r ∷ l)
              (left.is ∙ ap (λ l. map with_cr (if_there b) ++ l) (left.left.is ∙ ap (λ l. map with_cr (if_there z) ++ l) others.is) ∙
              in_one_row (if_there b) (if_there z) (details others.more ++ (others.trailer ∷ [])) others.behind ∙
              ap (λ l. map with_cr l ++ others.behind) (sym (append_assoc (if_there b ++ if_there z) (details others.more) (others.trailer ∷ []))));
          keep = (
            record { a = k; b = left.keeps; z = if_there_lem z z-kept left.left.keeps },
            subst (λ n. PaymentsKept header st.batches n others.more) number others.keep,
          );
          closes = batch_trailer_at count sum others.closes;
          batches =
              subst (λ n. BatchesLeft st.batches n (st.amount + (amount_at r + amount_of others.more)) others.behind) records
              (subst (λ n. BatchesLeft st.batches (st.records + l + length (details others.more) + 1) n others.behind) amount others.batches);
        }

    -- a Z that is there, or not
    has_z : NextKept SegmentZ st r → IsReturn header → PaymentsLeft (behind_plain SegmentZ st r) ps → ZLeft st (with_cr r ∷ ps)
    has_z k returned left = record { one = some r; behind = ps; is = refl; keeps = record { detail = k; returned = returned }; left = left }

    -- a B that is there, or not
    has_b : NextKept SegmentB st r → ZLeft (behind_plain SegmentB st r) ps → BLeft st (with_cr r ∷ ps)
    has_b k left = record { one = some r; behind = ps; is = refl; keeps = k; left = left }

  no_z : (st : Running) (ps : List (List ℕ)) → PaymentsLeft st ps → ZLeft st ps
  no_z st ps left = record { one = none; behind = ps; is = refl; keeps = tt; left = left }

  no_b : (st : Running) (ps : List (List ℕ)) → ZLeft st ps → BLeft st ps
  no_b st ps left = record { one = none; behind = ps; is = refl; keeps = tt; left = left }

  -- by the kind of the next record, with what the run behind it says
  module _ (st : Running) (q : st.is_return ≡ is_return header) (r : List ℕ) (ps : List (List ℕ)) (a : Accepted)
      (taken : EndsAccepted (took_record (cap st) r) ps rest a)
      (others : (next : Running) → next.is_return ≡ is_return header → EndsAccepted (cap next) ps rest a → SaysLeft next ps) where
    went_on : (kind : Kind) → Next kind st r → EndsAccepted (cap (behind_plain kind st r)) ps rest a
    went_on kind n = subst (λ s. EndsAccepted s ps rest a) (step kind st r n) taken

    returned : st.is_return ≡ true → IsReturn header
    returned p = (is_return_lem header).0 (sym q ∙ p)

    pay : Next SegmentA st r → PaymentsLeft st (with_cr r ∷ ps)
    pay n = paid st r ps n.kept ((others (behind_plain SegmentA st r) q (went_on SegmentA n)).behind_a_lem refl)

    close : Next BatchTrailer st r → PaymentsLeft st (with_cr r ∷ ps)
    close n = close_batch st r ps n.kept ((others (behind_plain BatchTrailer st r) q (went_on BatchTrailer n)).between refl)

    zed : Next SegmentZ st r → st.is_return ≡ true → ZLeft st (with_cr r ∷ ps)
    zed n p = has_z st r ps n.kept (returned p) ((others (behind_plain SegmentZ st r) q (went_on SegmentZ n)).in_batch_lem refl)

    at_between : (kind : Kind) → placed BetweenBatches st.is_return kind ≡ true → Next kind st r →
        BatchesLeft st.batches st.records st.amount (with_cr r ∷ ps)
    at_between FileHeader p n = absurd (false≢true p)
    at_between BatchHeader p n = open_batch_lem st r ps n.kept ((others (behind_plain BatchHeader st r) q (went_on BatchHeader n)).in_batch_lem refl)
    at_between SegmentA p n = absurd (false≢true p)
    at_between SegmentB p n = absurd (false≢true p)
    at_between SegmentZ p n = absurd (false≢true p)
    at_between BatchTrailer p n = absurd (false≢true p)
    at_between FileTrailer p n =
        let end = mark_behind (behind_plain FileTrailer st r) ps rest a refl (went_on FileTrailer n) in
        close_file st r ps n.kept end.0 end.1

    at_in_batch : (kind : Kind) → placed InBatch st.is_return kind ≡ true → Next kind st r → PaymentsLeft st (with_cr r ∷ ps)
    at_in_batch FileHeader p n = absurd (false≢true p)
    at_in_batch BatchHeader p n = absurd (false≢true p)
    at_in_batch SegmentA p n = pay n
    at_in_batch SegmentB p n = absurd (false≢true p)
    at_in_batch SegmentZ p n = absurd (false≢true p)
    at_in_batch BatchTrailer p n = close n
    at_in_batch FileTrailer p n = absurd (false≢true p)

    at_behind_b : (kind : Kind) → placed BehindB st.is_return kind ≡ true → Next kind st r → ZLeft st (with_cr r ∷ ps)
    at_behind_b FileHeader p n = absurd (false≢true p)
    at_behind_b BatchHeader p n = absurd (false≢true p)
    at_behind_b SegmentA p n = no_z st (with_cr r ∷ ps) (pay n)
    at_behind_b SegmentB p n = absurd (false≢true p)
    at_behind_b SegmentZ p n = zed n p
    at_behind_b BatchTrailer p n = no_z st (with_cr r ∷ ps) (close n)
    at_behind_b FileTrailer p n = absurd (false≢true p)

    at_behind_a : (kind : Kind) → placed BehindA st.is_return kind ≡ true → Next kind st r → BLeft st (with_cr r ∷ ps)
    at_behind_a FileHeader p n = absurd (false≢true p)
    at_behind_a BatchHeader p n = absurd (false≢true p)
    at_behind_a SegmentA p n = no_b st (with_cr r ∷ ps) (no_z st (with_cr r ∷ ps) (pay n))
    at_behind_a SegmentB p n = has_b st r ps n.kept ((others (behind_plain SegmentB st r) q (went_on SegmentB n)).behind_b_lem refl)
    at_behind_a SegmentZ p n = no_b st (with_cr r ∷ ps) (zed n p)
    at_behind_a BatchTrailer p n = no_b st (with_cr r ∷ ps) (no_z st (with_cr r ∷ ps) (close n))
    at_behind_a FileTrailer p n = absurd (false≢true p)

  -- what the pieces of an accepted run are
  pub says : (ps : List (List ℕ)) (a : Accepted) (st : Running) → st.is_return ≡ is_return header → EndsAccepted (cap st) ps rest a → SaysLeft st ps
  says [] a st q h =
      let never : (s : Stage) (kind : Kind) → placed s st.is_return kind ≡ true → st.stage ≡ s → ⊥ =
      λ s kind p e. too_early kind (cap st) rest a (ap (λ s. placed s st.is_return kind) e ∙ p) h in
      record {
        between = λ e. absurd (never BetweenBatches FileTrailer refl e);
        in_batch_lem = λ e. absurd (never InBatch SegmentA refl e);
        behind_a_lem = λ e. absurd (never BehindA SegmentA refl e);
        behind_b_lem = λ e. absurd (never BehindB SegmentA refl e);
      }
  says (p ∷ ps) a st q h =
      let one = piece (cap st) p ps rest a h in
      let r = one.bytes in
      let took = stepped st r one.goes in
      let others : (next : Running) → next.is_return ≡ is_return header → EndsAccepted (cap next) ps rest a → SaysLeft next ps = λ next q h. says ps a next q h in
      let place : (s : Stage) → st.stage ≡ s → placed s st.is_return took.kind ≡ true =
      λ s e. ap (λ s. placed s st.is_return took.kind) (sym e) ∙ took.next.place in
      subst (λ p. SaysLeft st (p ∷ ps)) (sym one.is)
      (record {
        between = λ e. at_between st q r ps a one.taken others took.kind (place BetweenBatches e) took.next;
        in_batch_lem = λ e. at_in_batch st q r ps a one.taken others took.kind (place InBatch e) took.next;
        behind_a_lem = λ e. at_behind_a st q r ps a one.taken others took.kind (place BehindA e) took.next;
        behind_b_lem = λ e. at_behind_b st q r ps a one.taken others took.kind (place BehindB e) took.next;
      })
