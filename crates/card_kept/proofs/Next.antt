-- A record that keeps the rules as the next one of a run: exactly one that is right for its kind, in one line, and whose joined rules hold there.
-- A law for a number that stands in a field, and then kind by kind.
use Prim.Native.Nat.{ℕ, suc, ◌+◌, ◌-◌, ◌^◌, ◌<◌}
use mathlib.Core.Path.{◌≡◌, refl, sym, ◌∙◌, ap, subst}
use mathlib.Core.List.{List}
use mathlib.Core.Bool.{true, ◌&&◌}
use lib.Dec.{leb, eqb}
use borrow.Author.Tests.{eq-eqb, eqb-true}
use Rattle.refusal.specs.Rules.{all_hold}
use Rattle.text.specs.declared.alphabet.Alphabet.TheVariants.{Digits as digits}
use Rattle.text.specs.Alphabet.{holds_only}
use Rattle.text.specs.Part.{positions}
use Rattle.text.proofs.Alphabets.{both, both_left, both_right}
use Rattle.lines.specs.Lines.{no_lf}
use Rattle.card_content.specs.declared.content.Content.TheVariants.{Digits}
use Rattle.card_content.specs.declared.field.Field.{Field}
use Rattle.card_content.specs.Field.{field, number_in}
use Rattle.card_content.proofs.Ranges.{number_below}
use Rattle.card_sale.specs.Cv.{joined_rules}
use Rattle.card_record.specs.declared.kind.Kind.{Kind}
use Rattle.card_record.specs.declared.kind.Kind.TheVariants.{A0, L0, Cv, Aj, L9, A9}
use Rattle.card_record.specs.Reading.{width_of, table_of, right_reading}
use Rattle.card_record.proofs.Readings.{Right}
use Rattle.card_run.specs.declared.running.Running.{Running}
use Rattle.card_run.specs.Running.{next_number}
use Rattle.card_step.specs.Rules.{joined_at}
use Rattle.card_kept.specs.Fields.{FieldsKept, number_at}
use Rattle.card_kept.specs.Records.{RecordOf, A0Kept, L0Kept, CvKept, AjKept, L9Kept, A9Kept}
use Rattle.card_kept.proofs.FieldsKept.{plain_number_lem}
use Rattle.card_kept.proofs.RecordsKept.{name_of, right_named, right_fields, is_right}
use Rattle.card_kept.proofs.Sales.{plain_cv_lem, joined_hold, joined_kept}
use Rattle.card_kept.proofs.Adjustments.{joined_agrees, agrees_joined}

-- a record of a kind keeps the rules as the next one of a state
abbrev pub NextKept : Kind → Running → List ℕ → Type 0
NextKept A0 st r = A0Kept st.edition (suc st.numbers.records) r
NextKept L0 st r = L0Kept st.edition (suc st.numbers.records) r
NextKept Cv st r = CvKept st.edition (suc st.numbers.records) r
NextKept Aj st r = AjKept st.edition (suc st.numbers.records) r
NextKept L9 st r = L9Kept st.batch.transactions st.batch.added st.batch.taken st.edition (suc st.numbers.records) r
NextKept A9 st r = A9Kept st.edition (suc st.numbers.records) r

-- the digits of NSEQ, the last six positions of each kind
abbrev nseq_field : Kind → Field
nseq_field A0 = field 70 75 Digits
nseq_field L0 = field 13 18 Digits
nseq_field Cv = field 194 199 Digits
nseq_field Aj = field 188 193 Digits
nseq_field L9 = field 23 28 Digits
nseq_field A9 = field 9 14 Digits

abbrev NumberedKind : Kind → ℕ → ℕ → List ℕ → Type 0
NumberedKind kind = RecordOf (name_of kind) (width_of kind) (table_of kind) (nseq_field kind).0 (nseq_field kind).1

nseq_digits : (kind : Kind) (e : ℕ) (r : List ℕ) → FieldsKept e r (table_of kind) →
    holds_only digits (positions (nseq_field kind).0 (nseq_field kind).1 r) ≡ true
nseq_digits A0 e r k = k.1.1.1.1.1.1.1.1.0
nseq_digits L0 e r k = k.1.1.0
nseq_digits Cv e r k = k.1.1.1.1.1.1.1.1.1.1.1.1.1.1.1.1.1.1.1.1.1.1.1.1.0
nseq_digits Aj e r k = k.1.1.1.1.1.1.1.1.1.1.1.1.1.1.1.1.1.1.1.1.1.1.0
nseq_digits L9 e r k = k.1.1.0
nseq_digits A9 e r k = k.1.0

-- a field of digits holds a number exactly where it reads as that number
module _ (f : Field) (r : List ℕ) (short : leb (f.1 - (f.0 - 1)) 18 ≡ true) (d : holds_only digits (positions f.0 f.1 r) ≡ true) {n : ℕ} where
  number_stands : eqb (number_in f r) n ≡ true → number_at f.0 f.1 r ≡ n
  number_stands e = sym (plain_number_lem f r short d) ∙ eqb-true (number_in f r) n e

  number_reads : number_at f.0 f.1 r ≡ n → eqb (number_in f r) n ≡ true
  number_reads e = eq-eqb (number_in f r) n (plain_number_lem f r short d ∙ e)

-- NSEQ has six digits
short_nseq : (kind : Kind) → (leb ((nseq_field kind).1 - ((nseq_field kind).0 - 1)) 18 ≡ true) × ((nseq_field kind).1 - ((nseq_field kind).0 - 1) ≡ 6)
short_nseq A0 = (refl, refl)
short_nseq L0 = (refl, refl)
short_nseq Cv = (refl, refl)
short_nseq Aj = (refl, refl)
short_nseq L9 = (refl, refl)
short_nseq A9 = (refl, refl)

pub of_kind : (kind : Kind) (st : Running) (r : List ℕ) → NextKept kind st r → NumberedKind kind st.edition (suc st.numbers.records) r
of_kind A0 st r k = k
of_kind L0 st r k = k
of_kind Cv st r k = k.kind
of_kind Aj st r k = k.kind
of_kind L9 st r k = k.kind
of_kind A9 st r k = k.kind

-- so it is below 10^6
pub number_small : (kind : Kind) (st : Running) (r : List ℕ) → NextKept kind st r → suc st.numbers.records < 10 ^ 6
number_small kind st r k =
    let of = of_kind kind st r k in
    let f = nseq_field kind in
    subst (λ n. n < 10 ^ 6) (plain_number_lem f r (short_nseq kind).0 (nseq_digits kind st.edition r of.fields) ∙ of.nseq)
    (subst (λ m. number_in f r < 10 ^ m) (short_nseq kind).1 (number_below f r))

-- such a record is right
pub kept_right : (kind : Kind) (st : Running) (r : List ℕ) → NextKept kind st r → Right kind st.edition r
kept_right kind st r k =
    let of = of_kind kind st r k in
    is_right kind st.edition r of.named of.wide of.fields

-- and its joined rules hold, where the next number is not capped
module _ (st : Running) (r : List ℕ) (next : next_number st ≡ suc st.numbers.records) where
  numbered : (kind : Kind) → NextKept kind st r → eqb (number_in (nseq_field kind) r) (next_number st) ≡ true
  numbered kind k =
      let of = of_kind kind st r k in
      number_reads (nseq_field kind) r (short_nseq kind).0 (nseq_digits kind st.edition r of.fields) (of.nseq ∙ sym next)

  pub kept_joined : (kind : Kind) → NextKept kind st r → all_hold (joined_at st (right_reading kind r)) ≡ true
  unfolding all_hold joined_at right_reading
  kept_joined A0 k = both (numbered A0 k) refl
  kept_joined L0 k = both (numbered L0 k) refl
  kept_joined Cv k =
      both (numbered Cv k)
      (ap (λ c. all_hold (joined_rules c)) (plain_cv_lem st.edition r k.kind.fields) ∙ joined_kept r k.sale_agrees k.paid)
  kept_joined Aj k = both (numbered Aj k) (agrees_joined st.edition r k.kind.fields k.agrees)
  kept_joined L9 k =
      let fields = k.kind.fields in
      let sum = plain_number_lem (field 9 22 Digits) r refl fields.1.0 in
      both (numbered L9 k)
      (both (number_reads (field 3 8 Digits) r refl fields.0 k.counts)
      (both (eq-eqb _ _ (ap (λ (n : ℕ). n + st.batch.taken) sum ∙ k.sums)) refl))
  kept_joined A9 k =
      both (numbered A9 k) (both (number_reads (field 3 8 Digits) r refl k.kind.fields.0 (k.counts ∙ sym next)) refl)

  -- a right record in one line, whose joined rules hold, keeps the rules
  module _ (line : no_lf r ≡ true) where
    stands : (kind : Kind) → Right kind st.edition r → eqb (number_in (nseq_field kind) r) (next_number st) ≡ true →
        NumberedKind kind st.edition (suc st.numbers.records) r
    stands kind right nseq =
        let fields = right_fields kind st.edition r right in
        record {
          named = right_named kind st.edition r right;
          wide = right.wide;
          fields = fields;
          nseq = number_stands (nseq_field kind) r (short_nseq kind).0 (nseq_digits kind st.edition r fields) nseq ∙ next;
          in_one_line = line;
        }

    pub joined_next : (kind : Kind) → Right kind st.edition r → all_hold (joined_at st (right_reading kind r)) ≡ true → NextKept kind st r
    unfolding all_hold joined_at right_reading
    joined_next A0 right h = stands A0 right (both_left (eqb (number_in (nseq_field A0) r) (next_number st)) true h)
    joined_next L0 right h = stands L0 right (both_left (eqb (number_in (nseq_field L0) r) (next_number st)) true h)
    joined_next Cv right h =
        let nseq = eqb (number_in (nseq_field Cv) r) (next_number st) in
        let kind = stands Cv right (both_left nseq _ h) in
        let is = joined_hold r (sym (ap (λ c. all_hold (joined_rules c)) (plain_cv_lem st.edition r kind.fields)) ∙ both_right nseq _ h) in
        record { kind = kind; sale_agrees = is.0; paid = is.1 }
    joined_next Aj right h =
        let nseq = eqb (number_in (nseq_field Aj) r) (next_number st) in
        let kind = stands Aj right (both_left nseq _ h) in
        record { kind = kind; agrees = joined_agrees st.edition r kind.fields (both_right nseq _ h) }
    joined_next L9 right h =
        let nseq = eqb (number_in (nseq_field L9) r) (next_number st) in
        let count = eqb (number_in (field 3 8 Digits) r) st.batch.transactions in
        let sum = eqb (number_in (field 9 22 Digits) r + st.batch.taken) st.batch.added in
        let kind = stands L9 right (both_left nseq (count && (sum && true)) h) in
        let rest = both_right nseq (count && (sum && true)) h in
        record {
          kind = kind;
          counts = number_stands (field 3 8 Digits) r refl kind.fields.0 (both_left count (sum && true) rest);
          sums =
              ap (λ (n : ℕ). n + st.batch.taken) (sym (plain_number_lem (field 9 22 Digits) r refl kind.fields.1.0)) ∙
              eqb-true _ _ (both_left sum true (both_right count (sum && true) rest));
        }
    joined_next A9 right h =
        let nseq = eqb (number_in (nseq_field A9) r) (next_number st) in
        let count = eqb (number_in (field 3 8 Digits) r) (next_number st) in
        let kind = stands A9 right (both_left nseq (count && true) h) in
        record {
          kind = kind;
          counts = number_stands (field 3 8 Digits) r refl kind.fields.0 (both_left count true (both_right nseq (count && true) h)) ∙ next;
        }
