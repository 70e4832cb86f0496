-- A record keeps the rules as the next one of a run exactly where it is found to be of its kind and the rules of its reading there have no fault.
-- Kind by kind, by the law of its rules.
use Prim.Native.Nat.{ℕ, ◌+◌, ◌^◌, ◌<◌}
use mathlib.Core.Path.{◌≡◌, refl}
use mathlib.Core.List.{List}
use mathlib.Core.Bool.{true}
use lib.Dec.{lit≤}
use Rattle.refusal.specs.Fault.{nothing}
use Rattle.std.specs.Prelude.{Ok}
use Rattle.text.specs.Part.{positions}
use Rattle.payroll_record.specs.declared.kind.Kind.{Kind}
use Rattle.payroll_record.specs.declared.kind.Kind.TheVariants.{FileHeader, BatchHeader, SegmentA, SegmentB, SegmentZ, BatchTrailer, FileTrailer}
use Rattle.payroll_record.specs.Detail.{payment_rules}
use Rattle.payroll_record.specs.Reading.{read_as}
use Rattle.payroll_record.proofs.Fields.{Writes}
use Rattle.payroll_record.proofs.NoFault.{NoFault}
use Rattle.payroll_record.proofs.Readings.{Found}
use Rattle.payroll_record.proofs.RightRecords.{FrontRight, payment_right}
use Rattle.payroll_run.specs.declared.running.Running.{Running}
use Rattle.payroll_run.specs.Stage.{placed}
use Rattle.payroll_step.specs.Rules.{rules_of}
use Rattle.payroll_kept.specs.Fields.{Holds}
use Rattle.payroll_kept.specs.Records.{RecordOf, HeaderKept, BatchHeaderKept, DetailKept, AKept, BKept, BatchTrailerKept, FileTrailerKept}
use Rattle.payroll_kept.proofs.Names.{name_of, SegmentIs, named_kind, kind_named_lem}
use Rattle.payroll_kept.proofs.Rules.{found, day_holds}
use Rattle.payroll_kept.proofs.Plain.{cap, Amounts}
use Rattle.payroll_kept.proofs.RulesOfKinds.{header_rules_lem, batch_header_rules, detail_rules, nothing_found, batch_trailer_rules, file_trailer_rules}

-- a record of a kind keeps the rules as the next one of a run
abbrev pub NextKept : Kind → Running → List ℕ → Type 0
NextKept FileHeader st r = HeaderKept r
NextKept BatchHeader st r = BatchHeaderKept (st.batches + 1) r
NextKept SegmentA st r = AKept st.batches (st.batch.details + 1) r
NextKept SegmentB st r = BKept st.batches (st.batch.details + 1) r
NextKept SegmentZ st r = DetailKept "Z" st.batches (st.batch.details + 1) r
NextKept BatchTrailer st r = BatchTrailerKept st.batches (st.batch.records + 1) st.batch.sum r
NextKept FileTrailer st r = FileTrailerKept st.batches (st.records + 1) r × (st.amount < 10 ^ 19)

-- it may stand there, and keeps them
pub record Next (kind : Kind) (st : Running) (r : List ℕ) : Type 0 where
  pub place : placed st.stage st.is_return kind ≡ true
  pub kept : NextKept kind st r

-- it is found to be of its kind, and the rules have no fault
pub record NoneBroken (kind : Kind) (st : Running) (r : List ℕ) : Type 0 where
  pub is : Found (Ok kind) r
  pub none : NoFault (rules_of (cap st) (read_as kind r))

-- what every record has in front, and its kind
holds_written : {first last n : ℕ} {r : List ℕ} → Holds first last n r → Writes (positions first last r) n
holds_written h = record { digits = h.digits; value = h.number }

written_holds : (first last : ℕ) {n : ℕ} {r : List ℕ} → Writes (positions first last r) n → Holds first last n r
written_holds first last w = record { digits = w.digits; number = w.value }

module _ (r : List ℕ) {n : ℕ} where
  of_kind : (kind : Kind) → Found (Ok kind) r → FrontRight r → Holds 4 7 n r → RecordOf (name_of kind) n r
  of_kind kind is front number =
      record {
        wide = is.wide;
        plain = front.plain;
        named = (kind_named_lem (positions 8 8 r) (positions 14 14 r) kind is.kind).kind_is;
        bank = written_holds 1 3 front.bank;
        batch_number = number;
      }

  is_found : (kind : Kind) → SegmentIs kind (positions 14 14 r) → RecordOf (name_of kind) n r → Found (Ok kind) r
  is_found kind segment k =
      record { wide = k.wide; kind = named_kind kind (positions 8 8 r) (positions 14 14 r) (record { kind_is = k.named; segment_is = segment }) }

  front_is : (kind : Kind) → RecordOf (name_of kind) n r → FrontRight r
  front_is kind k = record { plain = k.plain; bank = holds_written k.bank }

segment_of_lem : (kind : Kind) (r : List ℕ) → Found (Ok kind) r → SegmentIs kind (positions 14 14 r)
segment_of_lem kind r is = (kind_named_lem (positions 8 8 r) (positions 14 14 r) kind is.kind).segment_is

-- no fault: it keeps the rules
pub is_next : (kind : Kind) (st : Running) (r : List ℕ) → NoneBroken kind st r → Next kind st r
unfolding read_as
is_next FileHeader st r b =
    let h = (header_rules_lem st r).0 b.none in
    record {
      place = h.0;
      kept = record {
        kind = of_kind r FileHeader b.is h.1.0.front (written_holds 4 7 h.1.0.batch);
        code = h.1.0.code_known;
        date = (day_holds 144 151 r b.is.wide (lit≤ tt) refl).0 h.1.0.date;
      };
    }
is_next BatchHeader st r b =
    let h = (batch_header_rules st r).0 b.none in
    record { place = h.0; kept = record { kind = of_kind r BatchHeader b.is h.1.0 h.1.1.0.0; at_most = h.1.1.1 } }
is_next SegmentA st r b =
    let h = (detail_rules st r SegmentA _ _ (found (payment_rules r) (payment_right r))).0 b.none in
    record {
      place = h.0;
      kept = record {
        detail = record {
          kind = of_kind r SegmentA b.is h.1.0 h.1.1.0.0;
          segment_named_lem = segment_of_lem SegmentA r b.is;
          detail_number = h.1.1.0.1.0;
        };
        date = (day_holds 94 101 r b.is.wide (lit≤ tt) refl).0 h.1.1.1.0;
        amount = h.1.1.1.1;
      };
    }
is_next SegmentB st r b =
    let h = (detail_rules st r SegmentB nothing 0 (nothing_found st r)).0 b.none in
    record {
      place = h.0;
      kept = record {
        kind = of_kind r SegmentB b.is h.1.0 h.1.1.0.0;
        segment_named_lem = segment_of_lem SegmentB r b.is;
        detail_number = h.1.1.0.1.0;
      };
    }
is_next SegmentZ st r b =
    let h = (detail_rules st r SegmentZ nothing 0 (nothing_found st r)).0 b.none in
    record {
      place = h.0;
      kept = record {
        kind = of_kind r SegmentZ b.is h.1.0 h.1.1.0.0;
        segment_named_lem = segment_of_lem SegmentZ r b.is;
        detail_number = h.1.1.0.1.0;
      };
    }
is_next BatchTrailer st r b =
    let h = (batch_trailer_rules st r).0 b.none in
    record {
      place = h.0;
      kept = record { kind = of_kind r BatchTrailer b.is h.1.0 h.1.1.0.0; counts = h.1.1.0.1.0; sums = h.1.1.0.1.1.0 };
    }
is_next FileTrailer st r b =
    let h = (file_trailer_rules st r).0 b.none in
    record {
      place = h.0;
      kept = (
        record {
          kind = of_kind r FileTrailer b.is h.1.0.0 (written_holds 4 7 h.1.0.1);
          counts_batches = h.1.1.0.0;
          counts_records = h.1.1.0.1.0;
        },
        h.1.1.1,
      );
    }

-- it keeps them: no fault
pub none_broken : (kind : Kind) (st : Running) (r : List ℕ) → Next kind st r → NoneBroken kind st r
unfolding read_as
none_broken FileHeader st r n =
    let k = n.kept in
    record {
      is = is_found r FileHeader tt k.kind;
      none =
          (header_rules_lem st r).1 (
            n.place,
            (
              record {
                front = front_is r FileHeader k.kind;
                batch = holds_written k.kind.batch_number;
                code_known = k.code;
                date = (day_holds 144 151 r k.kind.wide (lit≤ tt) refl).1 k.date;
              },
              (tt, tt),
            ),
          );
    }
none_broken BatchHeader st r n =
    let k = n.kept in
    record {
      is = is_found r BatchHeader tt k.kind;
      none = (batch_header_rules st r).1 (n.place, (front_is r BatchHeader k.kind, ((k.kind.batch_number, tt), k.at_most)));
    }
none_broken SegmentA st r n =
    let k = n.kept.detail in
    let date = (day_holds 94 101 r k.kind.wide (lit≤ tt) refl).1 n.kept.date in
    record {
      is = is_found r SegmentA k.segment_named_lem k.kind;
      none =
          (detail_rules st r SegmentA _ _ (found (payment_rules r) (payment_right r))).1
          (n.place, (front_is r SegmentA k.kind, ((k.kind.batch_number, (k.detail_number, tt)), (date, n.kept.amount))));
    }
none_broken SegmentB st r n =
    let k = n.kept in
    record {
      is = is_found r SegmentB k.segment_named_lem k.kind;
      none =
          (detail_rules st r SegmentB nothing 0 (nothing_found st r)).1
          (n.place, (front_is r SegmentB k.kind, ((k.kind.batch_number, (k.detail_number, tt)), tt)));
    }
none_broken SegmentZ st r n =
    let k = n.kept in
    record {
      is = is_found r SegmentZ k.segment_named_lem k.kind;
      none =
          (detail_rules st r SegmentZ nothing 0 (nothing_found st r)).1
          (n.place, (front_is r SegmentZ k.kind, ((k.kind.batch_number, (k.detail_number, tt)), tt)));
    }
none_broken BatchTrailer st r n =
    let k = n.kept in
    record {
      is = is_found r BatchTrailer tt k.kind;
      none = (batch_trailer_rules st r).1 (n.place, (front_is r BatchTrailer k.kind, ((k.kind.batch_number, (k.counts, (k.sums, tt))), tt)));
    }
none_broken FileTrailer st r n =
    let k = n.kept.0 in
    record {
      is = is_found r FileTrailer tt k.kind;
      none =
          (file_trailer_rules st r).1
          (n.place, ((front_is r FileTrailer k.kind, holds_written k.kind.batch_number), ((k.counts_batches, (k.counts_records, tt)), n.kept.1)));
    }

-- an A's amount is digits
pub amounts : (kind : Kind) (st : Running) (r : List ℕ) → NextKept kind st r → Amounts kind r
amounts FileHeader st r k = tt
amounts BatchHeader st r k = tt
amounts SegmentA st r k = k.amount
amounts SegmentB st r k = tt
amounts SegmentZ st r k = tt
amounts BatchTrailer st r k = tt
amounts FileTrailer st r k = tt
