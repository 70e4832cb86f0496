-- A table's rules hold exactly where each of its fields keeps its rule. By content, and then by induction on the table;
-- that a day has 8 positions, a time 6, and that each field lies in the record is a test, computed over the table.
use Prim.Native.Nat.{ℕ, ◌-◌, ◌≤◌}
use mathlib.Core.Path.{◌≡◌, refl, sym, ◌∙◌, ap}
use mathlib.Core.Logic.{◌⊎◌, inl, inr, ⊎_elim}
use mathlib.Core.List.{List, [], ◌∷◌, ◌++◌}
use mathlib.Core.Bool.{Bool, true, false, cond, ◌&&◌, ◌||◌, false≢true, or-true}
use native.Mathlib.Omega.{arith}
use lib.ListN.{length, take, length-take, length-drop}
use lib.Dec.{leb, eqb}
use borrow.Author.Tests.{eqb-true, leb-true, le-leb}
use Rattle.refusal.specs.Rules.{Rule, all_hold}
use Rattle.text.specs.declared.alphabet.Alphabet.TheVariants.{Digits as digits}
use Rattle.text.specs.Alphabet.{holds_only}
use Rattle.text.specs.Literal.{same_bytes}
use Rattle.text.specs.Number.{value_of}
use Rattle.text.specs.Part.{positions}
use Rattle.text.proofs.Alphabets.{both, both_left, both_right}
use Rattle.text.proofs.Literals.{same_equal, equal_same}
use Rattle.pan.specs.CardField.{well_formed}
use Rattle.calendar.specs.When.{when_rules, When}
use Rattle.calendar.specs.Day.{is_day, year_first}
use Rattle.calendar.specs.Time.{is_time, time_of}
use Rattle.calendar.proofs.Whens.{Means, year_first_lem, time_of_lem}
use Rattle.card_content.specs.declared.content.Content.{Content}
use Rattle.card_content.specs.declared.content.Content.TheVariants.{Digits, Text, Day, DayOrZeros, Time, Card, CardOrBlanks, OneOf}
use Rattle.card_content.specs.declared.field.Field.{Field}
use Rattle.card_content.specs.Content.{no_day, day_or_zeros_rules, no_card, card_or_blanks_rules, content_rules}
use Rattle.card_content.specs.Field.{field_rules, table_rules, number_in}
use Rattle.card_kept.specs.Fields.{ContentKept, FieldsKept, number_at}
use Rattle.calendar.specs.declared.when.Unreadable.TheVariants.{NoSuch, NotDigits}
use Rattle.std.specs.Prelude.{Err, Ok}

-- a rule alone
one_holds : (h : Bool) → h && true ≡ true → h ≡ true
one_holds h e = both_left h true e

-- the rules of rows in a row
all_in_a_row : (a b : List Rule) → all_hold (a ++ b) ≡ all_hold a && all_hold b
unfolding all_hold
all_in_a_row [] b = refl
all_in_a_row (r ∷ a) b = ap (λ q. r.holds && q) (all_in_a_row a b) ∙ grouped r.holds (all_hold a) (all_hold b)
  where
    grouped : (p q s : Bool) → p && (q && s) ≡ p && q && s
    grouped true q s = refl
    grouped false q s = refl

-- a day or a time: its rules hold where its digits write one that there is
module _ (column width : ℕ) (test : ℕ → Bool) (p : List ℕ) where
  when_holds : (w : When) → Means width test (value_of p) p w → all_hold (when_rules column w) ≡ true →
      (holds_only digits p ≡ true) × (test (value_of p) ≡ true)
  unfolding all_hold when_rules
  when_holds (Err NotDigits) m h = absurd (false≢true h)
  when_holds (Err NoSuch) m h = absurd (false≢true h)
  when_holds (Ok n) m h =
      let says = m.at n refl in
      (says.digits, sym (ap test says.number) ∙ says.real)

  when_kept : {w : When} → Means width test (value_of p) p w → length p ≡ width → holds_only digits p ≡ true → test (value_of p) ≡ true →
      all_hold (when_rules column w) ≡ true
  unfolding all_hold when_rules
  when_kept m wide d real = rw (m.at_if (value_of p) (record { digits = d; wide = wide; number = refl; real = real }))

-- a day that may be zeros: its rules hold where it is, or where a day's do
module _ (column : ℕ) (p : List ℕ) where
  abbrev zeros : Bool
  zeros = same_bytes p no_day

  day_or_zeros_holds : all_hold (day_or_zeros_rules column p) ≡ true → (p ≡ no_day) ⊎ ((holds_only digits p ≡ true) × (is_day (value_of p) ≡ true))
  unfolding day_or_zeros_rules
  day_or_zeros_holds = by zeros refl
    where
      by : (z : Bool) → zeros ≡ z → all_hold (cond z [] (when_rules column (year_first p))) ≡ true →
          (p ≡ no_day) ⊎ ((holds_only digits p ≡ true) × (is_day (value_of p) ≡ true))
      by true e h = inl (same_equal p no_day e)
      by false e h = inr (when_holds column 8 is_day p (year_first p) (year_first_lem p) h)

  day_or_zeros_kept : length p ≡ 8 → (p ≡ no_day) ⊎ ((holds_only digits p ≡ true) × (is_day (value_of p) ≡ true)) →
      all_hold (day_or_zeros_rules column p) ≡ true
  unfolding day_or_zeros_rules all_hold
  day_or_zeros_kept wide (inl e) = rw (equal_same p no_day e)
  day_or_zeros_kept wide (inr (d, real)) = by zeros
    where
      by : (z : Bool) → all_hold (cond z [] (when_rules column (year_first p))) ≡ true
      by true = refl
      by false = when_kept column 8 is_day p (year_first_lem p) wide d real

-- a card that may be blanks likewise
either : (a b : Bool) → a || b ≡ true → (a ≡ true) ⊎ (b ≡ true)
either true b e = inl refl
either false b e = inr e

module _ (column : ℕ) (p : List ℕ) where
  abbrev blanks : Bool
  blanks = same_bytes p no_card

  card_or_blanks_holds : all_hold (card_or_blanks_rules column p) ≡ true → (p ≡ no_card) ⊎ (well_formed p ≡ true)
  unfolding card_or_blanks_rules all_hold
  card_or_blanks_holds h = ⊎_elim (λ e. inl (same_equal p no_card e)) inr (either blanks (well_formed p) (one_holds _ h))

  card_or_blanks_kept : (p ≡ no_card) ⊎ (well_formed p ≡ true) → all_hold (card_or_blanks_rules column p) ≡ true
  unfolding card_or_blanks_rules all_hold
  card_or_blanks_kept (inl e) = rw (equal_same p no_card e)
  card_or_blanks_kept (inr formed) = rw (formed, or-true)

-- how many positions a content asks for
abbrev sized : Content → ℕ → Bool
sized Digits n = true
sized Text n = true
sized Day n = eqb n 8
sized DayOrZeros n = eqb n 8
sized Time n = eqb n 6
sized Card n = true
sized CardOrBlanks n = true
sized (OneOf set) n = true

-- the rules of a content hold exactly where it is kept
content_holds : (c : Content) (edition column : ℕ) (p : List ℕ) → all_hold (content_rules c edition column p) ≡ true → ContentKept c edition p
unfolding all_hold content_rules
content_holds Digits edition column p h = one_holds _ h
content_holds Text edition column p h = one_holds _ h
content_holds Day edition column p h = when_holds column 8 is_day p (year_first p) (year_first_lem p) h
content_holds DayOrZeros edition column p h = day_or_zeros_holds column p h
content_holds Time edition column p h = when_holds column 6 is_time p (time_of p) (time_of_lem p) h
content_holds Card edition column p h = one_holds _ h
content_holds CardOrBlanks edition column p h = card_or_blanks_holds column p h
content_holds (OneOf set) edition column p h = one_holds _ h

content_kept : (c : Content) (edition column : ℕ) (p : List ℕ) → sized c (length p) ≡ true → ContentKept c edition p →
    all_hold (content_rules c edition column p) ≡ true
unfolding all_hold content_rules
content_kept Digits edition column p s k = both k refl
content_kept Text edition column p s k = both k refl
content_kept Day edition column p s (d, real) = when_kept column 8 is_day p (year_first_lem p) (eqb-true _ _ s) d real
content_kept DayOrZeros edition column p s k = day_or_zeros_kept column p (eqb-true _ _ s) k
content_kept Time edition column p s (d, real) = when_kept column 6 is_time p (time_of_lem p) (eqb-true _ _ s) d real
content_kept Card edition column p s k = both k refl
content_kept CardOrBlanks edition column p s k = card_or_blanks_kept column p k
content_kept (OneOf set) edition column p s k = both k refl

-- the length of a part that lies in the record
pub part_length : (first last : ℕ) (r : List ℕ) → last ≤ length r → length (positions first last r) ≡ last - (first - 1)
part_length first last r h = omega (arith, length-drop (first - 1) (take last r), length-take last r)

-- each field of a table lies in a record of a width, and has the positions that its content asks for
abbrev fits : ℕ → Field → Bool
fits width f = leb f.1 width && sized f.2 (f.1 - (f.0 - 1))

abbrev pub all_fit : ℕ → List Field → Bool
all_fit width [] = true
all_fit width (f ∷ fs) = fits width f && all_fit width fs

-- where a table's rules hold, its fields are kept
pub table_holds : (edition : ℕ) (r : List ℕ) (table : List Field) → all_hold (table_rules edition r table) ≡ true → FieldsKept edition r table
unfolding table_rules
table_holds edition r [] h = tt
table_holds edition r (f ∷ fs) h =
    let e = sym (all_in_a_row (field_rules edition r f) (table_rules edition r fs)) ∙ h in (
      content_holds f.2 edition f.0 _ (both_left (all_hold (field_rules edition r f)) _ e),
      table_holds edition r fs (both_right (all_hold (field_rules edition r f)) _ e),
    )

-- and the other way round
pub table_kept : (edition width : ℕ) (r : List ℕ) (table : List Field) → length r ≡ width → all_fit width table ≡ true →
    FieldsKept edition r table → all_hold (table_rules edition r table) ≡ true
unfolding table_rules all_hold
table_kept edition width r [] wide fit k = refl
table_kept edition width r (f ∷ fs) wide fit (k, ks) =
    let here = both_left (fits width f) (all_fit width fs) fit in
    let inside : f.1 ≤ length r = omega (arith, leb-true f.1 width (both_left (leb f.1 width) _ here)) in
    let size = both_right (leb f.1 width) (sized f.2 (f.1 - (f.0 - 1))) here in
    all_in_a_row (field_rules edition r f) (table_rules edition r fs) ∙
    both
    (content_kept f.2 edition f.0 _ (ap (sized f.2) (part_length f.0 f.1 r inside) ∙ size) k)
    (table_kept edition width r fs wide (both_right (fits width f) (all_fit width fs) fit) ks)

-- the number in a field is that of its digits, where there are at most 18
pub plain_number_lem : (f : Field) (r : List ℕ) → leb (f.1 - (f.0 - 1)) 18 ≡ true → holds_only digits (positions f.0 f.1 r) ≡ true →
    number_in f r ≡ number_at f.0 f.1 r
plain_number_lem f r short d =
    let n = leb-true (f.1 - (f.0 - 1)) 18 short in
    rw (d, le-leb (length (positions f.0 f.1 r)) 18 (omega (arith, length-drop (f.0 - 1) (take f.1 r), length-take f.1 r)))
