-- A record reads as its kind's numbers exactly where it has the kind's name, its width and keeps its fields; then the numbers are those of its digits.
-- It is said once for all kinds.
use Prim.Native.Nat.{ℕ}
use Prim.Native.String.{String}
use mathlib.Core.Path.{◌≡◌, refl, ◌∙◌, ap}
use mathlib.Core.List.{List}
use mathlib.Core.Bool.{Bool, true, false, cond}
use native.Mathlib.Omega.{arith}
use lib.ListN.{length}
use lib.Dec.{eqb}
use borrow.Author.Tests.{eq-eqb}
use Rattle.refusal.specs.Rules.{all_hold}
use Rattle.text.specs.Literal.{ascii, same_bytes}
use Rattle.text.specs.Part.{positions}
use Rattle.text.proofs.Alphabets.{both, both_right}
use Rattle.text.proofs.Literals.{same_equal}
use Rattle.card_content.specs.Field.{table_rules, record_rules}
use Rattle.card_record.specs.declared.kind.Kind.{Kind}
use Rattle.card_record.specs.declared.kind.Kind.TheVariants.{A0, L0, Cv, Aj, L9, A9}
use Rattle.card_record.specs.Kind.{kind_named}
use Rattle.card_record.specs.Reading.{width_of, table_of}
use Rattle.card_record.proofs.Readings.{Right}
use Rattle.card_kept.specs.Fields.{FieldsKept}
use Rattle.card_kept.proofs.FieldsKept.{all_fit, table_holds, table_kept}
use Rattle.std.specs.Prelude.{None, Some}

-- the name of a kind
abbrev pub name_of : Kind → String
name_of A0 = "A0"
name_of L0 = "L0"
name_of Cv = "CV"
name_of Aj = "AJ"
name_of L9 = "L9"
name_of A9 = "A9"

-- two bytes that name a kind
named_kind : (kind : Kind) → kind_named (ascii (name_of kind)) ≡ Some kind
unfolding kind_named same_bytes
named_kind A0 = refl
named_kind L0 = refl
named_kind Cv = refl
named_kind Aj = refl
named_kind L9 = refl
named_kind A9 = refl

-- the first kind whose test holds is named
kind_named_lem : (name : List ℕ) (kind : Kind) → kind_named name ≡ Some kind → name ≡ ascii (name_of kind)
unfolding kind_named
kind_named_lem name kind e =
    by (same_bytes name (ascii "CV")) (same_bytes name (ascii "AJ")) (same_bytes name (ascii "L0")) (same_bytes name (ascii "L9")) (same_bytes name (ascii "A0"))
    (same_bytes name (ascii "A9"))
    refl refl refl refl refl refl e
  where
    is : (k : Kind) → same_bytes name (ascii (name_of k)) ≡ true → Some k ≡ Some kind → name ≡ ascii (name_of kind)
    is k t e =
        let z : k ≡ kind = cc in
        same_equal name (ascii (name_of k)) t ∙ ap (λ (k : Kind). ascii (name_of k)) z

    by : (a b c d f g : Bool) → same_bytes name (ascii "CV") ≡ a → same_bytes name (ascii "AJ") ≡ b → same_bytes name (ascii "L0") ≡ c →
        same_bytes name (ascii "L9") ≡ d → same_bytes name (ascii "A0") ≡ f → same_bytes name (ascii "A9") ≡ g →
        cond a (Some Cv) (cond b (Some Aj) (cond c (Some L0) (cond d (Some L9) (cond f (Some A0) (cond g (Some A9) None))))) ≡ Some kind →
        name ≡ ascii (name_of kind)
    by true b c d f g p q s t u v e = is Cv p e
    by false true c d f g p q s t u v e = is Aj q e
    by false false true d f g p q s t u v e = is L0 s e
    by false false false true f g p q s t u v e = is L9 t e
    by false false false false true g p q s t u v e = is A0 u e
    by false false false false false true p q s t u v e = is A9 v e
    by false false false false false false p q s t u v e = absurd (let z : ◌≡◌ {A = ℕ} 0 1 = cc in omega arith)

-- each kind's fields lie in its width
all_fit_kind : (kind : Kind) → all_fit (width_of kind) (table_of kind) ≡ true
all_fit_kind A0 = refl
all_fit_kind L0 = refl
all_fit_kind Cv = refl
all_fit_kind Aj = refl
all_fit_kind L9 = refl
all_fit_kind A9 = refl

-- a record that is right has the kind's name and keeps its fields
pub right_named : (kind : Kind) (e : ℕ) (r : List ℕ) → Right kind e r → positions 1 2 r ≡ ascii (name_of kind)
right_named kind e r right = kind_named_lem (positions 1 2 r) kind right.known

pub right_fields : (kind : Kind) (e : ℕ) (r : List ℕ) → Right kind e r → FieldsKept e r (table_of kind)
unfolding record_rules all_hold
right_fields kind e r right =
    table_holds e r (table_of kind) (both_right (eqb (length r) (width_of kind)) (all_hold (table_rules e r (table_of kind))) right.rules_hold)

-- and such a record is right
pub is_right : (kind : Kind) (e : ℕ) (r : List ℕ) → positions 1 2 r ≡ ascii (name_of kind) → length r ≡ width_of kind → FieldsKept e r (table_of kind) →
    Right kind e r
unfolding record_rules all_hold
is_right kind e r named wide fields =
    record {
      known = ap kind_named named ∙ named_kind kind;
      rules_hold = both (eq-eqb (length r) (width_of kind) wide) (table_kept e (width_of kind) r (table_of kind) wide (all_fit_kind kind) fields);
      wide = wide;
    }
