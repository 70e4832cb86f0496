-- Taking a line looks no further into it than what is held: its last byte, and 241 bytes in front, which are more than any kind is wide.
use Prim.Native.Nat.{ℕ, ◌<◌}
use mathlib.Core.Path.{◌≡◌, refl, ◌∙◌, ap, ap₂}
use mathlib.Core.List.{List}
use mathlib.Core.Bool.{Bool, true, false, cond}
use native.Mathlib.Omega.{arith}
use lib.ListN.{length, take, length-take}
use lib.Seq.{take_all, take-take}
use lib.Dec.{leb}
use borrow.Author.Tests.{leb-true, leb-false, ne_eqb}
use Rattle.refusal.specs.declared.Cause.TheVariants.{WrongWidth}
use Rattle.refusal.specs.Rules.{first_broken}
use Rattle.lines.specs.Lines.{ends_in_cr, without_last}
use Rattle.chunks.proofs.Clipped.{clipped_ends, clipped_record}
use Rattle.chunks.specs.Chunks.{LooksNoFurther}
use Rattle.card_content.specs.Field.{record_rules}
use Rattle.card_record.specs.declared.kind.Kind.{Kind}
use Rattle.card_record.specs.declared.kind.Kind.TheVariants.{A0, L0, Cv, Aj, L9, A9}
use Rattle.card_record.specs.Kind.{kind_of, kind_named}
use Rattle.card_record.specs.Reading.{width_of, kind_rules, read_found, reading_of, judged_as}
use Rattle.card_step.specs.Step.{took_of}
use Rattle.card_file.specs.Feeding.{fed_of}
use Rattle.card_file.specs.CardFile.{line_of, unended_of}
use Rattle.refusal.specs.Fault.{at}
use Rattle.std.specs.Prelude.{None, Option, Some}

-- no kind is wider than 199
narrow : (kind : Kind) → width_of kind < 200
narrow A0 = omega arith
narrow L0 = omega arith
narrow Cv = omega arith
narrow Aj = omega arith
narrow L9 = omega arith
narrow A9 = omega arith

-- so a record of 200 bytes or more is too wide for its kind, whatever it holds
too_wide : (kind : Kind) (e : ℕ) (r : List ℕ) → 199 < length r → first_broken (kind_rules kind e r) ≡ at WrongWidth 0
unfolding first_broken record_rules
too_wide kind e r l = rw (ne_eqb (length r) (width_of kind) (λ q. omega (arith, narrow kind))) refl

wide_alike : (found : (Option Kind)) (e : ℕ) (r s : List ℕ) → 199 < length r → 199 < length s → read_found found e r ≡ read_found found e s
unfolding read_found judged_as
wide_alike (Some kind) e r s l m = rw (too_wide kind e r l, too_wide kind e s m)
wide_alike None e r s l m = refl

-- and what is read of it goes by its first two bytes
front_reading : (e : ℕ) (r : List ℕ) → reading_of e (take 241 r) ≡ reading_of e r
front_reading e r = one (leb (length r) 241) refl
  where
    one : (p : Bool) → leb (length r) 241 ≡ p → reading_of e (take 241 r) ≡ reading_of e r
    one true l = ap (reading_of e) (take_all 241 r (leb-true (length r) 241 l))
    one false l =
        let m : 241 < length r = leb-false (length r) 241 l in
        let kind : kind_of (take 241 r) ≡ kind_of r = ap kind_named (take-take 2 241 r (omega arith)) in
        ap (λ found. read_found found e (take 241 r)) kind ∙
        wide_alike (kind_of r) e (take 241 r) r (omega (arith, length-take 241 r)) (omega arith)

pub no_further : LooksNoFurther line_of
no_further st p =
    ap₂ (λ (ends : Bool) (r : List ℕ). cond ends (fed_of st r) (unended_of st)) (clipped_ends p) (clipped_record p) ∙
    ap (λ reading. cond (ends_in_cr p) (took_of st reading) (unended_of st)) (front_reading st.edition (without_last p))
