-- The first fault of a table is the first of its fields' faults, and of a record that of its width and then of its fields. By induction on the table.
use Prim.Native.Nat.{ℕ}
use mathlib.Core.Path.{◌≡◌, refl, sym, ◌∙◌, ap}
use mathlib.Core.List.{List, [], ◌∷◌, ◌++◌, append_assoc}
use lib.ListN.{length}
use lib.Dec.{eqb}
use Rattle.refusal.specs.declared.Cause.TheVariants.{WrongWidth}
use Rattle.refusal.specs.Fault.{Judged, nothing, rule_of, earlier_of}
use Rattle.refusal.specs.Rules.{first_broken}
use Rattle.refusal.proofs.Faults.{nothing_second}
use Rattle.refusal.proofs.Rules.{in_a_row}
use Rattle.card_content.specs.declared.field.Field.{Field}
use Rattle.card_content.specs.Field.{field_rules, table_rules, record_rules}

-- the faults of a record's fields
abbrev pub field_faults : ℕ → List ℕ → List Field → List Judged
field_faults e r [] = []
field_faults e r (f ∷ fs) = first_broken (field_rules e r f) ∷ field_faults e r fs

-- two tables, one behind the other
tables : (e : ℕ) (r : List ℕ) (fs gs : List Field) → table_rules e r fs ++ table_rules e r gs ≡ table_rules e r (fs ++ gs)
unfolding table_rules
tables e r [] gs = refl
tables e r (f ∷ fs) gs = append_assoc (field_rules e r f) (table_rules e r fs) (table_rules e r gs) ∙ ap (◌++◌ (field_rules e r f)) (tables e r fs gs)

pub table_by_table : (e : ℕ) (r : List ℕ) (fs gs : List Field) →
    earlier_of (first_broken (table_rules e r fs)) (first_broken (table_rules e r gs)) ≡ first_broken (table_rules e r (fs ++ gs))
table_by_table e r fs gs = sym (in_a_row (table_rules e r fs) (table_rules e r gs)) ∙ ap first_broken (tables e r fs gs)

-- the width goes before the fields
width_first : (e : ℕ) (r : List ℕ) (width : ℕ) (fs : List Field) →
    first_broken (record_rules e r width fs) ≡ earlier_of (rule_of WrongWidth 0 (eqb (length r) width)) (first_broken (table_rules e r fs))
unfolding first_broken record_rules
width_first e r width fs = refl

-- the first of some faults
abbrev pub first_of : List Judged → Judged
first_of [] = nothing
first_of (f ∷ []) = f
first_of (f ∷ g ∷ fs) = earlier_of f (first_of (g ∷ fs))

first_more : (f : Judged) (fs : List Judged) → first_of (f ∷ fs) ≡ earlier_of f (first_of fs)
first_more f [] = sym (nothing_second f)
first_more f (g ∷ fs) = refl

pub each_field : (e : ℕ) (r : List ℕ) (fs : List Field) → first_broken (table_rules e r fs) ≡ first_of (field_faults e r fs)
unfolding table_rules first_broken
each_field e r [] = refl
each_field e r (f ∷ fs) =
    in_a_row (field_rules e r f) (table_rules e r fs) ∙
    ap (earlier_of (first_broken (field_rules e r f))) (each_field e r fs) ∙
    sym (first_more (first_broken (field_rules e r f)) (field_faults e r fs))

-- the width, and then each field
pub width_and_fields : (e : ℕ) (r : List ℕ) (width : ℕ) (fs : List Field) →
    first_broken (record_rules e r width fs) ≡ earlier_of (rule_of WrongWidth 0 (eqb (length r) width)) (first_of (field_faults e r fs))
width_and_fields e r width fs = width_first e r width fs ∙ ap (earlier_of (rule_of WrongWidth 0 (eqb (length r) width))) (each_field e r fs)

-- three tables, one behind the other, behind the width
pub three_tables : (e : ℕ) (r : List ℕ) (width : ℕ) (fs gs hs : List Field) →
    first_broken (record_rules e r width (fs ++ (gs ++ hs))) ≡
    earlier_of (rule_of WrongWidth 0 (eqb (length r) width)) (
    earlier_of (first_broken (table_rules e r fs)) (
    earlier_of (first_broken (table_rules e r gs)) (first_broken (table_rules e r hs))))
three_tables e r width fs gs hs =
    width_first e r width (fs ++ (gs ++ hs)) ∙
    ap (earlier_of (rule_of WrongWidth 0 (eqb (length r) width)))
    (sym (table_by_table e r fs (gs ++ hs)) ∙ ap (earlier_of (first_broken (table_rules e r fs))) (sym (table_by_table e r gs hs)))
