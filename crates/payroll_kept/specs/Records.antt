-- A record keeps document 01's rules, as a record of its kind at its place.
use Rattle.std.specs.Prelude.{ℕ, ◌≤◌, ◌≡◌, ◌⊎◌, List, true, length}
use Prim.Native.String.{String}
use Rattle.text.specs.declared.alphabet.Alphabet.TheVariants.{PlainAscii}
use Rattle.text.specs.Alphabet.{holds_only}
use Rattle.text.specs.Literal.{ascii}
use Rattle.text.specs.Part.{positions}
use Rattle.payroll_kept.specs.Fields.{DigitsAt, Holds, DayAt}

-- every record: "240 bytes", none of them "outside 32 to 126" (and so no LF); "Kind is position 8"; "Bank 1-3 "422"; batch 4-7"
pub record RecordOf (name : String) (batch : ℕ) (r : List ℕ) : Type 0 where
  pub wide : length r ≡ 240
  pub plain : holds_only PlainAscii r ≡ true
  pub named : positions 8 8 r ≡ ascii name
  pub bank : Holds 1 3 422 r
  pub batch_number : Holds 4 7 batch r

-- "header position 143 is 2"
abbrev pub IsReturn : List ℕ → Type 0
IsReturn header = positions 143 143 header ≡ ascii "2"

-- batch "0000 in the header"; "143 is 1 or 2; date 144-151"
pub record HeaderKept (r : List ℕ) : Type 0 where
  pub kind : RecordOf "0" 0 r
  pub code : (positions 143 143 r ≡ ascii "1") ⊎ IsReturn r
  pub date : DayAt 144 151 r

-- "one more than the batches before it in a batch header, at most 9998"
pub record BatchHeaderKept (batch : ℕ) (r : List ℕ) : Type 0 where
  pub kind : RecordOf "1" batch r
  pub at_most : batch ≤ 9998

-- "a detail's segment is position 14"; "Detail number 9-13"
pub record DetailKept (segment : String) (batch number : ℕ) (r : List ℕ) : Type 0 where
  pub kind : RecordOf "3" batch r
  pub segment_named_lem : positions 14 14 r ≡ ascii segment
  pub detail_number : Holds 9 13 number r

-- "Segment A: date 94-101; amount 120-134"
pub record AKept (batch number : ℕ) (r : List ℕ) : Type 0 where
  pub detail : DetailKept "A" batch number r
  pub date : DayAt 94 101 r
  pub amount : DigitsAt 120 134 r

abbrev pub BKept : ℕ → ℕ → List ℕ → Type 0
BKept = DetailKept "B"

-- "only if header position 143 is 2"
pub record ZKept (header : List ℕ) (batch number : ℕ) (r : List ℕ) : Type 0 where
  pub detail : DetailKept "Z" batch number r
  pub returned : IsReturn header

-- "18-23 counts its records, header and trailer included; 24-41 sums the amounts of A"
pub record BatchTrailerKept (batch records sum : ℕ) (r : List ℕ) : Type 0 where
  pub kind : RecordOf "5" batch r
  pub counts : Holds 18 23 records r
  pub sums : Holds 24 41 sum r

-- "9999 in the file trailer"; "18-23 batches; 24-29 all records"
pub record FileTrailerKept (batches records : ℕ) (r : List ℕ) : Type 0 where
  pub kind : RecordOf "9" 9999 r
  pub counts_batches : Holds 18 23 batches r
  pub counts_records : Holds 24 29 records r
