-- What a reading tells of the record: that it is 240 wide, of which kind it is, and that it is read as that kind. One law over the kinds; from it each
-- kind's own.
use Prim.Native.Nat.{ℕ}
use mathlib.Core.Path.{◌≡◌, refl, sym, ◌∙◌, ap}
use mathlib.Core.Logic.{◌↔◌, ◌⊎◌, inl, inr, ⊎_elim}
use mathlib.Core.List.{List, [], ◌∷◌}
use mathlib.Core.Bool.{Bool, true, false, cond}
use native.Mathlib.Omega.{arith}
use lib.ListN.{length}
use lib.Dec.{eqb}
use borrow.Author.Tests.{eq-eqb, ne_eqb, eqb-true}
use Rattle.std.specs.Prelude.{Ok, Err}
use Rattle.payroll_record.specs.declared.kind.Kind.{Kind}
use Rattle.payroll_record.specs.declared.kind.Kind.TheVariants.{
  FileHeader,
  BatchHeader,
  SegmentA,
  SegmentB,
  SegmentZ,
  BatchTrailer,
  FileTrailer,
}
use Rattle.payroll_record.specs.declared.kind.NoKind.TheVariants.{UnknownKind, UnknownSegment}
use Rattle.payroll_record.specs.declared.file_header.FileHeader.{FileHeader as Header}
use Rattle.payroll_record.specs.declared.batch_header.BatchHeader.{BatchHeader as HeaderOfBatch}
use Rattle.payroll_record.specs.declared.detail.Detail.{Detail}
use Rattle.payroll_record.specs.declared.batch_trailer.BatchTrailer.{BatchTrailer as TrailerOfBatch}
use Rattle.payroll_record.specs.declared.file_trailer.FileTrailer.{FileTrailer as Trailer}
use Rattle.payroll_record.specs.declared.reading.Reading.{Reading}
use Rattle.payroll_record.specs.declared.reading.Reading.TheVariants.{
  WrongWidth as wrong_width,
  Unknown as unknown,
  FileHeader as file_header,
  BatchHeader as batch_header,
  Detail as detail,
  BatchTrailer as batch_trailer,
  FileTrailer as file_trailer,
}
use Rattle.payroll_record.specs.Kind.{KindFound, kind_of}
use Rattle.payroll_record.specs.FileHeader.{header_of}
use Rattle.payroll_record.specs.BatchHeader.{batch_header_of}
use Rattle.payroll_record.specs.Detail.{segment_aOf, other_segment_of}
use Rattle.payroll_record.specs.BatchTrailer.{batch_trailer_of}
use Rattle.payroll_record.specs.FileTrailer.{file_trailer_of}
use Rattle.payroll_record.specs.Reading.{read_as, read_found, reading_of}

-- a record that is 240 wide, and what its kind is found to be
pub record Found (found : KindFound) (r : List ℕ) : Type 0 where
  pub wide : length r ≡ 240
  pub kind : kind_of r ≡ found

-- what a reading tells of it: nothing, where the width is wrong
abbrev pub found_in : Reading → List KindFound
found_in wrong_width = []
found_in (unknown no_kind) = Err no_kind ∷ []
found_in (file_header h) = Ok FileHeader ∷ []
found_in (batch_header h) = Ok BatchHeader ∷ []
found_in (detail d) = Ok d.segment ∷ []
found_in (batch_trailer t) = Ok BatchTrailer ∷ []
found_in (file_trailer t) = Ok FileTrailer ∷ []

-- a reading tells what it was read as
kept : (found : KindFound) (r : List ℕ) → found_in (read_found found r) ≡ found ∷ []
unfolding read_found read_as
kept (Ok FileHeader) r = refl
kept (Ok BatchHeader) r = refl
kept (Ok SegmentA) r = refl
kept (Ok SegmentB) r = refl
kept (Ok SegmentZ) r = refl
kept (Ok BatchTrailer) r = refl
kept (Ok FileTrailer) r = refl
kept (Err no_kind) r = refl

-- two different values are not equal
never : {A : Type 0} → ◌≡◌ {A = ℕ} 0 1 → A
never e = absurd (omega arith)

-- a record of the right width is read as what it is found to be
pub as_found : (r : List ℕ) (found : KindFound) → Found found r → reading_of r ≡ read_found found r
as_found r found f = rw (eq-eqb (length r) 240 f.wide, f.kind)

-- a reading tells something exactly where the record is found to be that, and is then read as that
pub told_found : (r : List ℕ) (found : KindFound) (x : Reading) → found_in x ≡ found ∷ [] →
    (reading_of r ≡ x) ↔ (Found found r × (x ≡ read_found found r))
told_found r found x told = (
  λ e.
      let is = by (eqb (length r) 240) (kind_of r) e in
      (record { wide = eqb-true (length r) 240 is.0; kind = is.1 }, is.2),
  λ h. as_found r found h.0 ∙ sym h.1,
)
  where
    by : (w : Bool) (f : KindFound) → cond w (read_found f r) wrong_width ≡ x → (w ≡ true) × (f ≡ found) × (x ≡ read_found found r)
    by true f e =
        let tells : f ∷ [] ≡ found ∷ [] = sym (kept f r) ∙ ap found_in e ∙ told in
        let same : f ≡ found = cc in
        (refl, same, sym e ∙ ap (λ f. read_found f r) same)
    by false f e =
        let nothing : [] ≡ found ∷ [] = ap found_in e ∙ told in
        never (cc)

-- so what a kind is read into is that kind's own
into : {A : Type 0} (make : A → Reading) → ((a b : A) → make a ≡ make b → a ≡ b) → (r : List ℕ) (k : Kind) (own : A) → read_as k r ≡ make own →
    (a : A) → found_in (make a) ≡ Ok k ∷ [] → (reading_of r ≡ make a) ↔ (Found (Ok k) r × (a ≡ own))
unfolding read_found
into make one r k own reads a told =
    let law = told_found r (Ok k) (make a) told in (
      λ e.
          let is = law.0 e in
          (is.0, one a own (is.1 ∙ reads)),
      λ is. law.1 (is.0, ap make is.1 ∙ sym reads),
    )

pub file_header_lem : (r : List ℕ) (h : Header) → (reading_of r ≡ file_header h) ↔ (Found (Ok FileHeader) r × (h ≡ header_of r))
unfolding read_as
file_header_lem r h = into file_header (λ a b e. cc) r FileHeader (header_of r) refl h refl

pub batch_header_lem : (r : List ℕ) (h : HeaderOfBatch) → (reading_of r ≡ batch_header h) ↔ (Found (Ok BatchHeader) r × (h ≡ batch_header_of r))
unfolding read_as
batch_header_lem r h = into batch_header (λ a b e. cc) r BatchHeader (batch_header_of r) refl h refl

pub batch_trailer_lem : (r : List ℕ) (t : TrailerOfBatch) → (reading_of r ≡ batch_trailer t) ↔ (Found (Ok BatchTrailer) r × (t ≡ batch_trailer_of r))
unfolding read_as
batch_trailer_lem r t = into batch_trailer (λ a b e. cc) r BatchTrailer (batch_trailer_of r) refl t refl

pub file_trailer_lem : (r : List ℕ) (t : Trailer) → (reading_of r ≡ file_trailer t) ↔ (Found (Ok FileTrailer) r × (t ≡ file_trailer_of r))
unfolding read_as
file_trailer_lem r t = into file_trailer (λ a b e. cc) r FileTrailer (file_trailer_of r) refl t refl

-- a detail, by its segment
of_segment : (r : List ℕ) (k : Kind) (own : Detail) → read_as k r ≡ detail own → (d : Detail) → d.segment ≡ k →
    (reading_of r ≡ detail d) ↔ (Found (Ok k) r × (d ≡ own))
of_segment r k own reads d e = into detail (λ a b e. cc) r k own reads d (ap (λ k. Ok k ∷ []) e)

pub segment_a : (r : List ℕ) (d : Detail) → d.segment ≡ SegmentA → (reading_of r ≡ detail d) ↔ (Found (Ok SegmentA) r × (d ≡ segment_aOf r))
unfolding read_as
segment_a r = of_segment r SegmentA (segment_aOf r) refl

-- B or Z
pub other_segment : (r : List ℕ) (k : Kind) → (k ≡ SegmentB) ⊎ (k ≡ SegmentZ) → (d : Detail) → d.segment ≡ k →
    (reading_of r ≡ detail d) ↔ (Found (Ok k) r × (d ≡ other_segment_of k r))
unfolding read_as
other_segment r k which = of_segment r k (other_segment_of k r) (⊎_elim (λ e. rw e) (λ e. rw e) which)

-- and there is no other segment
pub segments : (r : List ℕ) (d : Detail) → reading_of r ≡ detail d → (d.segment ≡ SegmentA) ⊎ ((d.segment ≡ SegmentB) ⊎ (d.segment ≡ SegmentZ))
unfolding read_found read_as
segments r d e = one d.segment refl ((told_found r (Ok d.segment) (detail d) refl).0 e).1
  where
    one : (k : Kind) → d.segment ≡ k → detail d ≡ read_as k r → (d.segment ≡ SegmentA) ⊎ ((d.segment ≡ SegmentB) ⊎ (d.segment ≡ SegmentZ))
    one SegmentA e is = inl e
    one SegmentB e is = inr (inl e)
    one SegmentZ e is = inr (inr e)
    one FileHeader e is = never (cc)
    one BatchHeader e is = never (cc)
    one BatchTrailer e is = never (cc)
    one FileTrailer e is = never (cc)

-- what is read as no kind
pub wrong_width_lem : (r : List ℕ) → (reading_of r ≡ wrong_width) ↔ (length r ≡ 240 → ⊥)
wrong_width_lem r = (
  λ e wide.
      let nothing : [] ≡ kind_of r ∷ [] = ap found_in (sym e ∙ as_found r (kind_of r) (record { wide = wide; kind = refl })) ∙ kept (kind_of r) r in
      never (cc),
  λ h. rw (ne_eqb (length r) 240 h),
)

nothing_else : (r : List ℕ) (found : KindFound) (x : Reading) → found_in x ≡ found ∷ [] → x ≡ read_found found r → (reading_of r ≡ x) ↔ Found found r
nothing_else r found x told is =
    let law = told_found r found x told in
    (λ e. (law.0 e).0, λ h. law.1 (h, is))

pub unknown_kind_lem : (r : List ℕ) → (reading_of r ≡ unknown UnknownKind) ↔ Found (Err UnknownKind) r
unfolding read_found
unknown_kind_lem r = nothing_else r (Err UnknownKind) (unknown UnknownKind) refl refl

pub unknown_segment_lem : (r : List ℕ) → (reading_of r ≡ unknown UnknownSegment) ↔ Found (Err UnknownSegment) r
unfolding read_found
unknown_segment_lem r = nothing_else r (Err UnknownSegment) (unknown UnknownSegment) refl refl
