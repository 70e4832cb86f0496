-- Texts without an LF: a row has none before its end, since a piece of a file has none.
use Prim.Native.Nat.{ℕ, zero, suc, ◌+◌, ◌-◌, ◌/◌, ◌%◌}
use mathlib.Core.Path.{◌≡◌, refl, sym, ◌∙◌, ap}
use mathlib.Core.List.{List, [], ◌∷◌, ◌++◌, append_assoc}
use mathlib.Core.Bool.{Bool, true, false, cond, ◌&&◌}
use native.Mathlib.Omega.{arith}
use lib.ListN.{take, drop, take-append-drop}
use lib.Dec.{eqb, ltb}
use borrow.Author.Tests.{eqb-true, ne_eqb}
use Rattle.text.specs.Literal.{ascii, same_bytes}
use Rattle.text.proofs.Alphabets.{both_left, both_right, both}
use Rattle.lines.specs.Lines.{lf, no_lf, all_no_lf}
use Rattle.wording.specs.Number.{digits_within, decimal_of}
use Rattle.card_content.specs.declared.content.Content.TheVariants.{Digits, Text, Day, DayOrZeros}
use Rattle.card_content.specs.declared.field.Field.{Field}
use Rattle.card_content.specs.Content.{no_day}
use Rattle.card_content.specs.Field.{field, part_of}
use Rattle.card_adjustment.specs.Aj.{aj_amounts, aj_of, is_credit}
use Rattle.adjustment_rows.specs.Fields.{doubled, is_marked, mark_of, quoted, amount_text, separated, with_commas}
use Rattle.adjustment_rows.specs.Row.{day_text, type_text, row_of}
use Rattle.adjustment_rows.proofs.Separating.{with_commas_separated}

-- two texts one behind the other
clear_both : (s t : List ℕ) → no_lf (s ++ t) ≡ no_lf s && no_lf t
unfolding no_lf
clear_both [] t = refl
clear_both (b ∷ s) t = by (eqb b lf) (clear_both s t)
  where
    by : (p : Bool) → no_lf (s ++ t) ≡ no_lf s && no_lf t → cond p false (no_lf (s ++ t)) ≡ cond p false (no_lf s) && no_lf t
    by true e = refl
    by false e = e

joined_clear : (s t : List ℕ) → no_lf s ≡ true → no_lf t ≡ true → no_lf (s ++ t) ≡ true
joined_clear s t h k = clear_both s t ∙ both h k

either_clear : (p : Bool) (s t : List ℕ) → no_lf s ≡ true → no_lf t ≡ true → no_lf (cond p s t) ≡ true
either_clear true s t h k = h
either_clear false s t h k = k

-- a byte that is no LF
byte_clear : (b : ℕ) → (b ≡ lf → ⊥) → no_lf (b ∷ []) ≡ true
unfolding no_lf
byte_clear b h = rw (ne_eqb b lf h)

-- a part of a text
front_clear : (n : ℕ) (s : List ℕ) → no_lf s ≡ true → no_lf (take n s) ≡ true
front_clear n s h = both_left (no_lf (take n s)) (no_lf (drop n s)) (sym (clear_both (take n s) (drop n s)) ∙ ap no_lf (take-append-drop n s) ∙ h)

rest_clear : (n : ℕ) (s : List ℕ) → no_lf s ≡ true → no_lf (drop n s) ≡ true
rest_clear n s h = both_right (no_lf (take n s)) (no_lf (drop n s)) (sym (clear_both (take n s) (drop n s)) ∙ ap no_lf (take-append-drop n s) ∙ h)

part_clear : (f : Field) (r : List ℕ) → no_lf r ≡ true → no_lf (part_of f r) ≡ true
part_clear f r h = rest_clear (f.0 - 1) (take f.1 r) (front_clear f.1 r h)

-- the fields of a row
doubled_clear : (s : List ℕ) → no_lf (doubled s) ≡ no_lf s
unfolding no_lf doubled
doubled_clear [] = refl
doubled_clear (b ∷ s) = by (eqb b 34) refl (doubled_clear s)
  where
    by : (quote : Bool) → eqb b 34 ≡ quote → no_lf (doubled s) ≡ no_lf s → no_lf (cond quote (34 ∷ 34 ∷ doubled s) (b ∷ doubled s)) ≡ no_lf (b ∷ s)
    by true e rest = rest ∙ ap (λ (c : ℕ). no_lf (c ∷ s)) (sym (eqb-true b 34 e))
    by false e rest = ap (λ (q : Bool). cond (eqb b lf) false q) rest

quoted_clear : (s : List ℕ) → no_lf s ≡ true → no_lf (quoted s) ≡ true
unfolding no_lf quoted
quoted_clear s h =
    joined_clear (mark_of s) (doubled s ++ (34 ∷ [])) (either_clear (is_marked s) (ascii "'") [] refl refl)
    (joined_clear (doubled s) (34 ∷ []) (doubled_clear s ∙ h) refl)

digits_clear : (places n : ℕ) → no_lf (digits_within places n) ≡ true
unfolding no_lf digits_within
digits_clear zero n = refl
digits_clear (suc places) n =
    either_clear (ltb n 10) ((48 + n) ∷ []) (digits_within places (n / 10) ++ ((48 + n % 10) ∷ []))
    (byte_clear (48 + n) (λ e. omega arith))
    (joined_clear (digits_within places (n / 10)) ((48 + n % 10) ∷ []) (digits_clear places (n / 10)) (byte_clear (48 + n % 10) (λ e. omega arith)))

amount_clear : (n : ℕ) → no_lf (amount_text n) ≡ true
unfolding no_lf amount_text
amount_clear n =
    joined_clear (decimal_of (n / 100)) (46 ∷ (48 + n / 10 % 10) ∷ (48 + n % 10) ∷ []) (digits_clear 20 (n / 100))
    (joined_clear ((48 + n / 10 % 10) ∷ []) ((48 + n % 10) ∷ []) (byte_clear (48 + n / 10 % 10) (λ e. omega arith)) (byte_clear (48 + n % 10) (λ e. omega arith)))

with_commas_clear : (fs : List (List ℕ)) → all_no_lf fs ≡ true → no_lf (with_commas fs) ≡ true
unfolding no_lf all_no_lf with_commas
with_commas_clear [] h = refl
with_commas_clear (f ∷ fs) h = joined_clear f (44 ∷ with_commas fs) (both_left (no_lf f) (all_no_lf fs) h) (with_commas_clear fs (both_right (no_lf f) (all_no_lf fs) h))

-- a row is a line: bytes without an LF, and an LF
pub record IsLine (s : List ℕ) : Type 0 where
  pub line : List ℕ
  pub clear : no_lf line ≡ true
  pub ends : s ≡ line ++ (lf ∷ [])

pub row_is_line : (number : ℕ) (r : List ℕ) → no_lf r ≡ true → IsLine (row_of number r)
unfolding row_of separated no_lf all_no_lf day_text type_text
row_is_line number r h =
    let day = part_of (field 30 37 DayOrZeros) r in
    let front : List (List ℕ) =
    decimal_of number ∷ quoted (part_of (field 3 17 Text) r) ∷ day_text day ∷ part_of (field 52 59 Day) r ∷ type_text (is_credit (aj_of r)) ∷
    part_of (field 77 79 Digits) r ∷ quoted (part_of (field 80 109 Text) r) ∷ amount_text (aj_amounts r).gross ∷ amount_text (aj_amounts r).discount ∷ [] in
    let net = amount_text (aj_amounts r).net in
    record {
      line = with_commas front ++ net;
      clear =
          joined_clear (with_commas front) net
          (with_commas_clear front
          (both (digits_clear 20 number)
          (both (quoted_clear _ (part_clear (field 3 17 Text) r h))
          (both (either_clear (same_bytes day no_day) [] day refl (part_clear (field 30 37 DayOrZeros) r h))
          (both (part_clear (field 52 59 Day) r h)
          (both (either_clear (is_credit (aj_of r)) (ascii "CREDIT") (ascii "DEBIT") refl refl)
          (both (part_clear (field 77 79 Digits) r h)
          (both (quoted_clear _ (part_clear (field 80 109 Text) r h))
          (both (amount_clear (aj_amounts r).gross) (both (amount_clear (aj_amounts r).discount) refl))))))))))
          (amount_clear (aj_amounts r).net);
      ends = sym (with_commas_separated front net []) ∙ sym (append_assoc (with_commas front) net (lf ∷ []));
    }
