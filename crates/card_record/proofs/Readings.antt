-- What each reading says of the record, and that it says this of no other: said once for all kinds, and then of the numbers of each.
use Prim.Native.Nat.{ℕ}
use mathlib.Core.Path.{◌≡◌, refl, sym, ◌∙◌, ap, subst}
use mathlib.Core.List.{List}
use mathlib.Core.Bool.{true}
use Rattle.std.specs.Prelude.{Option, Some, None, Ok, Err}
use lib.ListN.{length}
use lib.Dec.{eqb}
use borrow.Author.Tests.{eqb-true}
use Rattle.refusal.specs.declared.Fault.{Fault}
use Rattle.refusal.specs.Fault.{Judged}
use Rattle.refusal.specs.Rules.{first_broken, all_hold, FirstBroken}
use Rattle.refusal.proofs.Rules.{all_hold_lem, none_broken, is_first, gives_first}
use Rattle.text.proofs.Alphabets.{both_left}
use Rattle.card_content.specs.Field.{table_rules, record_rules}
use Rattle.card_sale.specs.Cv.{cv_of}
use Rattle.card_adjustment.specs.Aj.{aj_of}
use Rattle.card_frame.specs.A0.{a0_of}
use Rattle.card_frame.specs.L0.{l0_of}
use Rattle.card_frame.specs.L9.{l9_of}
use Rattle.card_frame.specs.A9.{a9_of}
use Rattle.card_record.specs.declared.kind.Kind.{Kind}
use Rattle.card_record.specs.declared.kind.Kind.TheVariants.{A0, L0, Cv, Aj, L9, A9}
use Rattle.card_record.specs.declared.reading.Reading.{Reading}
use Rattle.card_record.specs.declared.reading.Reading.TheVariants.{
  Unknown as unknown,
  Faulty as faulty,
  A0 as a0,
  L0 as l0,
  Cv as cv,
  Aj as aj,
  L9 as l9,
  A9 as a9,
}
use Rattle.card_record.specs.Kind.{kind_of}
use Rattle.card_record.specs.Reading.{width_of, table_of, kind_rules, right_reading, judged_as, read_found, reading_of}

-- a record of a kind, whose width and fields are right
pub record Right (kind : Kind) (e : ℕ) (r : List ℕ) : Type 0 where
  pub known : kind_of r ≡ Some kind
  pub rules_hold : all_hold (kind_rules kind e r) ≡ true
  pub wide : length r ≡ width_of kind

-- a record of a kind, whose first broken rule gives a fault
pub record Wrong (kind : Kind) (e : ℕ) (r : List ℕ) (fault : Fault) : Type 0 where
  pub known : kind_of r ≡ Some kind
  pub first_broken_lem : FirstBroken (kind_rules kind e r) fault.cause fault.column

-- what a reading says of the record
abbrev pub Says : ℕ → List ℕ → Reading → Type 0
Says e r unknown = kind_of r ≡ None
Says e r (faulty kind fault) = Wrong kind e r fault
Says e r (a0 n) = Right A0 e r × (n ≡ a0_of r)
Says e r (l0 n) = Right L0 e r × (n ≡ l0_of r)
Says e r (cv n) = Right Cv e r × (n ≡ cv_of r)
Says e r (aj n) = Right Aj e r × (n ≡ aj_of r)
Says e r (l9 n) = Right L9 e r × (n ≡ l9_of r)
Says e r (a9 n) = Right A9 e r × (n ≡ a9_of r)

-- where all rules hold, so does that of the width
width_right : (kind : Kind) (e : ℕ) (r : List ℕ) → all_hold (kind_rules kind e r) ≡ true → length r ≡ width_of kind
unfolding all_hold record_rules
width_right kind e r h = eqb-true (length r) (width_of kind) (both_left (eqb (length r) (width_of kind)) (all_hold (table_rules e r (table_of kind))) h)

-- the numbers of a kind say that all is right
numbers_say : (e : ℕ) (r : List ℕ) (kind : Kind) → Right kind e r → Says e r (right_reading kind r)
unfolding right_reading
numbers_say e r A0 right = (right, refl)
numbers_say e r L0 right = (right, refl)
numbers_say e r Cv right = (right, refl)
numbers_say e r Aj right = (right, refl)
numbers_say e r L9 right = (right, refl)
numbers_say e r A9 right = (right, refl)

-- by the first fault, and by the kind
fault_says : (e : ℕ) (r : List ℕ) (kind : Kind) (fault : Judged) → kind_of r ≡ Some kind → first_broken (kind_rules kind e r) ≡ fault →
    Says e r (judged_as kind fault (right_reading kind r))
unfolding judged_as
fault_says e r kind (Ok none) k f =
    let h = all_hold_lem (kind_rules kind e r) f in
    numbers_say e r kind (record { known = k; rules_hold = h; wide = width_right kind e r h })
fault_says e r kind (Err fault) k f = record { known = k; first_broken_lem = is_first (kind_rules kind e r) fault.cause fault.column f }

kind_says : (e : ℕ) (r : List ℕ) (found : Option Kind) → kind_of r ≡ found → Says e r (read_found found e r)
unfolding read_found
kind_says e r None k = k
kind_says e r (Some kind) k = fault_says e r kind (first_broken (kind_rules kind e r)) k refl

-- the reading of a record says what it should
pub says : (e : ℕ) (r : List ℕ) {reading : Reading} → reading_of e r ≡ reading → Says e r reading
says e r h = subst (Says e r) h (kind_says e r (kind_of r) refl)

-- a record of a known kind reads as its rules and its numbers say
known_reads : (e : ℕ) (r : List ℕ) (kind : Kind) {fault : Judged} → kind_of r ≡ Some kind → first_broken (kind_rules kind e r) ≡ fault →
    reading_of e r ≡ judged_as kind fault (right_reading kind r)
unfolding read_found
known_reads e r kind k f = ap (λ found. read_found found e r) k ∙ ap (λ fault. judged_as kind fault (right_reading kind r)) f

right_reads : (e : ℕ) (r : List ℕ) (kind : Kind) → Right kind e r → reading_of e r ≡ right_reading kind r
unfolding judged_as
right_reads e r kind right = known_reads e r kind right.known (none_broken (kind_rules kind e r) right.rules_hold)

-- and what a reading should say is said by that reading alone
pub said : (e : ℕ) (r : List ℕ) (reading : Reading) → Says e r reading → reading_of e r ≡ reading
unfolding read_found judged_as right_reading
said e r unknown k = ap (λ found. read_found found e r) k
said e r (faulty kind fault) wrong = known_reads e r kind wrong.known (gives_first wrong.first_broken_lem)
said e r (a0 n) (right, h) = right_reads e r A0 right ∙ ap a0 (sym h)
said e r (l0 n) (right, h) = right_reads e r L0 right ∙ ap l0 (sym h)
said e r (cv n) (right, h) = right_reads e r Cv right ∙ ap cv (sym h)
said e r (aj n) (right, h) = right_reads e r Aj right ∙ ap aj (sym h)
said e r (l9 n) (right, h) = right_reads e r L9 right ∙ ap l9 (sym h)
said e r (a9 n) (right, h) = right_reads e r A9 right ∙ ap a9 (sym h)
