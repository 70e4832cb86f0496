-- The tests of 4, "An unknown kind is 4, column 8; an unknown segment 4, column 14", by the kind that was found: both hold where it is known, and the one
-- that fails tells which is not.
use Prim.Native.Nat.{ℕ}
use mathlib.Core.Path.{◌≡◌, refl, ◌∙◌}
use mathlib.Core.List.{List, [], ◌∷◌}
use mathlib.Core.Bool.{Bool, true, false, cond, not, ◌||◌}
use native.Mathlib.Omega.{arith}
use Rattle.std.specs.Prelude.{Ok, Err}
use Rattle.text.specs.Literal.{ascii, same_bytes}
use Rattle.payroll_record.specs.declared.kind.Kind.{Kind}
use Rattle.payroll_record.specs.declared.kind.Kind.TheVariants.{FileHeader, BatchHeader, SegmentA, SegmentB, SegmentZ, BatchTrailer, FileTrailer}
use Rattle.payroll_record.specs.declared.kind.NoKind.TheVariants.{UnknownKind, UnknownSegment}
use Rattle.payroll_record.specs.Kind.{segment_named, kind_named, KindFound}
use Rattle.payroll_kept.specs.FirstFault.{is_one_of}
use Rattle.payroll_kept.proofs.Names.{Named}

-- two different values are not equal
pub clash : {A : Type 0} → ◌≡◌ {A = ℕ} 0 1 → A
clash e = absurd (omega arith)

-- the third of tests
any : (d b : Bool) → d || (b || true) ≡ true
any true b = refl
any false true = refl
any false false = refl

-- the tests of 4, by the kind that was found
module _ (name segment : List ℕ) where
  abbrev pub known : Bool
  known = is_one_of ("0" ∷ "1" ∷ "3" ∷ "5" ∷ "9" ∷ []) name

  abbrev pub segment_is_known : Bool
  segment_is_known = not (same_bytes name (ascii "3")) || is_one_of ("A" ∷ "B" ∷ "Z" ∷ []) segment

  pub both_known : (kind : Kind) → Named kind name segment → (known ≡ true) × (segment_is_known ≡ true)
  unfolding is_one_of same_bytes
  both_known FileHeader n = (rw n.kind_is, rw n.kind_is)
  both_known BatchHeader n = (rw n.kind_is, rw n.kind_is)
  both_known SegmentA n = (rw n.kind_is, rw (n.kind_is, n.segment_is))
  both_known SegmentB n = (rw n.kind_is, rw (n.kind_is, n.segment_is))
  both_known SegmentZ n = (rw n.kind_is, rw (n.kind_is, n.segment_is))
  both_known BatchTrailer n = (rw n.kind_is, rw n.kind_is)
  both_known FileTrailer n = (rw n.kind_is, rw n.kind_is)

  -- a segment that is not known
  no_segment : (f : KindFound) → segment_named segment ≡ f → (f ≡ Err UnknownKind → ⊥) × (f ≡ Err UnknownSegment → is_one_of ("A" ∷ "B" ∷ "Z" ∷ []) segment ≡ false)
  unfolding segment_named is_one_of
  no_segment f e = by (same_bytes segment (ascii "A")) (same_bytes segment (ascii "B")) (same_bytes segment (ascii "Z")) e
    where
      by : (a b z : Bool) → cond a (Ok SegmentA) (cond b (Ok SegmentB) (cond z (Ok SegmentZ) (Err UnknownSegment))) ≡ f →
          (f ≡ Err UnknownKind → ⊥) × (f ≡ Err UnknownSegment → a || (b || (z || false)) ≡ false)
      by true b z e = (λ q. clash (cc), λ q. clash (cc))
      by false true z e = (λ q. clash (cc), λ q. clash (cc))
      by false false true e = (λ q. clash (cc), λ q. clash (cc))
      by false false false e = (λ q. clash (cc), λ q. refl)

  pub no_kind : (f : KindFound) → kind_named name (segment_named segment) ≡ f →
      (f ≡ Err UnknownKind → known ≡ false) × (f ≡ Err UnknownSegment → (known ≡ true) × (segment_is_known ≡ false))
  unfolding kind_named is_one_of
  no_kind f e =
      by (same_bytes name (ascii "3")) (same_bytes name (ascii "1")) (same_bytes name (ascii "5")) (same_bytes name (ascii "0")) (same_bytes name (ascii "9"))
      (segment_named segment) (no_segment (segment_named segment) refl) e
    where
      by : (a b c d g : Bool) (s : KindFound) →
          (s ≡ Err UnknownKind → ⊥) × (s ≡ Err UnknownSegment → is_one_of ("A" ∷ "B" ∷ "Z" ∷ []) segment ≡ false) →
          cond a s (cond b (Ok BatchHeader) (cond c (Ok BatchTrailer) (cond d (Ok FileHeader) (cond g (Ok FileTrailer) (Err UnknownKind))))) ≡ f →
          (f ≡ Err UnknownKind → d || (b || (a || (c || (g || false)))) ≡ false) ×
          (f ≡ Err UnknownSegment → (d || (b || (a || (c || (g || false)))) ≡ true) × (not a || is_one_of ("A" ∷ "B" ∷ "Z" ∷ []) segment ≡ false))
      by true b c d g s from e = (λ q. absurd (from.0 (e ∙ q)), λ q. (any d b, from.1 (e ∙ q)))
      by false true c d g s from e = (λ q. clash (cc), λ q. clash (cc))
      by false false true d g s from e = (λ q. clash (cc), λ q. clash (cc))
      by false false false true g s from e = (λ q. clash (cc), λ q. clash (cc))
      by false false false false true s from e = (λ q. clash (cc), λ q. clash (cc))
      by false false false false false s from e = (λ q. refl, λ q. clash (cc))
