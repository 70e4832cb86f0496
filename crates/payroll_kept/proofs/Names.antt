-- A record is found to be of a kind exactly where position 8 names the kind, and position 14 its segment. By the tests, in their order.
use Prim.Native.Nat.{ℕ}
use Prim.Native.String.{String}
use mathlib.Core.Path.{◌≡◌, refl, ◌∙◌, subst}
use mathlib.Core.List.{List}
use mathlib.Core.Bool.{Bool, true, false, cond}
use native.Mathlib.Omega.{arith}
use Rattle.std.specs.Prelude.{Ok, Err}
use Rattle.text.specs.Literal.{ascii, same_bytes}
use Rattle.text.proofs.Literals.{same_equal}
use Rattle.payroll_record.specs.declared.kind.Kind.{Kind}
use Rattle.payroll_record.specs.declared.kind.Kind.TheVariants.{FileHeader, BatchHeader, SegmentA, SegmentB, SegmentZ, BatchTrailer, FileTrailer}
use Rattle.payroll_record.specs.declared.kind.NoKind.TheVariants.{UnknownKind, UnknownSegment}
use Rattle.payroll_record.specs.Kind.{segment_named, kind_named, KindFound}

-- the name of a kind
abbrev pub name_of : Kind → String
name_of FileHeader = "0"
name_of BatchHeader = "1"
name_of SegmentA = "3"
name_of SegmentB = "3"
name_of SegmentZ = "3"
name_of BatchTrailer = "5"
name_of FileTrailer = "9"

-- and of a detail's segment
abbrev pub SegmentIs : Kind → List ℕ → Type 0
SegmentIs FileHeader segment = Unit {0}
SegmentIs BatchHeader segment = Unit {0}
SegmentIs SegmentA segment = segment ≡ ascii "A"
SegmentIs SegmentB segment = segment ≡ ascii "B"
SegmentIs SegmentZ segment = segment ≡ ascii "Z"
SegmentIs BatchTrailer segment = Unit {0}
SegmentIs FileTrailer segment = Unit {0}

pub record Named (kind : Kind) (name segment : List ℕ) : Type 0 where
  pub kind_is : name ≡ ascii (name_of kind)
  pub segment_is : SegmentIs kind segment

-- bytes that name a kind
pub named_kind : (kind : Kind) (name segment : List ℕ) → Named kind name segment → kind_named name (segment_named segment) ≡ Ok kind
unfolding kind_named segment_named same_bytes
named_kind FileHeader name segment n = rw n.kind_is
named_kind BatchHeader name segment n = rw n.kind_is
named_kind SegmentA name segment n = rw (n.kind_is, n.segment_is)
named_kind SegmentB name segment n = rw (n.kind_is, n.segment_is)
named_kind SegmentZ name segment n = rw (n.kind_is, n.segment_is)
named_kind BatchTrailer name segment n = rw n.kind_is
named_kind FileTrailer name segment n = rw n.kind_is

-- the first kind whose test holds is named
module _ (name segment : List ℕ) (kind : Kind) where
  is : (k : Kind) → Named k name segment → ◌≡◌ {A = KindFound} (Ok k) (Ok kind) → Named kind name segment
  is k n e =
      let z : k ≡ kind = cc in
      subst (λ k. Named k name segment) z n

  by_segment : name ≡ ascii "3" → segment_named segment ≡ Ok kind → Named kind name segment
  unfolding segment_named
  by_segment three e = by (same_bytes segment (ascii "A")) (same_bytes segment (ascii "B")) (same_bytes segment (ascii "Z")) refl refl refl e
    where
      by : (a b z : Bool) → same_bytes segment (ascii "A") ≡ a → same_bytes segment (ascii "B") ≡ b → same_bytes segment (ascii "Z") ≡ z →
          cond a (Ok SegmentA) (cond b (Ok SegmentB) (cond z (Ok SegmentZ) (Err UnknownSegment))) ≡ Ok kind → Named kind name segment
      by true b z p q s e = is SegmentA (record { kind_is = three; segment_is = same_equal segment (ascii "A") p }) e
      by false true z p q s e = is SegmentB (record { kind_is = three; segment_is = same_equal segment (ascii "B") q }) e
      by false false true p q s e = is SegmentZ (record { kind_is = three; segment_is = same_equal segment (ascii "Z") s }) e
      by false false false p q s e = absurd (let z : ◌≡◌ {A = ℕ} 0 1 = cc in omega arith)

  pub kind_named_lem : kind_named name (segment_named segment) ≡ Ok kind → Named kind name segment
  unfolding kind_named
  kind_named_lem e =
      by (same_bytes name (ascii "3")) (same_bytes name (ascii "1")) (same_bytes name (ascii "5")) (same_bytes name (ascii "0")) (same_bytes name (ascii "9"))
      (segment_named segment) refl refl refl refl refl refl e
    where
      by : (a b c d f : Bool) (s : KindFound) → same_bytes name (ascii "3") ≡ a → same_bytes name (ascii "1") ≡ b → same_bytes name (ascii "5") ≡ c →
          same_bytes name (ascii "0") ≡ d → same_bytes name (ascii "9") ≡ f → segment_named segment ≡ s →
          cond a s (cond b (Ok BatchHeader) (cond c (Ok BatchTrailer) (cond d (Ok FileHeader) (cond f (Ok FileTrailer) (Err UnknownKind))))) ≡ Ok kind →
          Named kind name segment
      by true b c d f s p q t u v w e = by_segment (same_equal name (ascii "3") p) (w ∙ e)
      by false true c d f s p q t u v w e = is BatchHeader (record { kind_is = same_equal name (ascii "1") q; segment_is = tt }) e
      by false false true d f s p q t u v w e = is BatchTrailer (record { kind_is = same_equal name (ascii "5") t; segment_is = tt }) e
      by false false false true f s p q t u v w e = is FileHeader (record { kind_is = same_equal name (ascii "0") u; segment_is = tt }) e
      by false false false false true s p q t u v w e = is FileTrailer (record { kind_is = same_equal name (ascii "9") v; segment_is = tt }) e
      by false false false false false s p q t u v w e = absurd (let z : ◌≡◌ {A = ℕ} 0 1 = cc in omega arith)
