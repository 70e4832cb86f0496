-- What we write reads back as the same numbers, and a sheet that we can read is the one that we would write, byte for byte: both versions by the laws of their tables.
use Prim.Native.Nat.{ℕ, ◌+◌, ◌^◌, ◌<◌}
use mathlib.Core.Path.{◌≡◌, refl, sym, ◌∙◌, ap, ap₂}
use mathlib.Core.List.{List, [], ◌∷◌, ◌++◌}
use mathlib.Core.Bool.{Bool, true, false, cond, ◌&&◌, ◌||◌}
use native.Mathlib.Omega.{arith}
use borrow.Author.Tests.{eqb-true}
use lib.ListN.{length, get_or, take, drop, length-drop, take-append-drop}
use lib.Seq.{take_all}
use lib.Dec.{lit<, eqb}
use lib.Pow.{are_bytes}
use Rattle.std.specs.Prelude.{Ok, Err}
use Rattle.refusal.specs.declared.Refusal.{Refusal}
use Rattle.text.specs.Literal.{ascii, same_bytes}
use Rattle.text.proofs.Alphabets.{both_left, both_right}
use Rattle.text.proofs.Literals.{same_equal}
use Rattle.totals.specs.declared.amounts.Totals.{Totals}
use Rattle.calendar.proofs.Days.{day_range}
use Rattle.day_sheet.specs.declared.layout.Place.{Place}
use Rattle.day_sheet.specs.declared.layout.Version.{Version}
use Rattle.day_sheet.specs.declared.layout.Version.TheVariants.{One, Two}
use Rattle.sheet_numbers.specs.declared.sheet.Heading.{Heading}
use Rattle.sheet_numbers.specs.declared.sheet.Sheet.{Sheet}
use Rattle.sheet_numbers.specs.declared.sheet.Sheet.TheVariants.{Version1, Version2}
use Rattle.day_sheet.specs.Number.{in_base}
use Rattle.day_sheet.specs.Version.{number_of, width_of}
use Rattle.day_sheet.specs.Layout.{version1, version2, table_of, table_width, in_places, from_places, digits_right}
use Rattle.day_sheet.specs.Sheet.{version_of, sheet_row, bytes_of, sheet_of}
use Rattle.sheet_numbers.specs.Allowed.{heading_allowed, set_allowed, sets_allowed, split_allowed, sheet_allowed}
use Rattle.day_sheet.specs.Reading.{is_marked, version_for, numbers_in, sheet_in, numbers_right, read_as, read_of}
use Rattle.day_sheet.specs.Writing.{sheet_width}
use Rattle.sheet_numbers.proofs.Allowances.{Within, set_within, HeadingWithin, heading_within, sets_within, split_below}
use Rattle.day_sheet.proofs.Readings.{allowed}
use Rattle.day_sheet.proofs.Tables.{Fit, read_back_lem, all_digits, drop_bytes, written_back}

-- allowed numbers have room in their places: those that both versions have in front, and what is behind them
front_fits : (v : ℕ) (h : Heading) (t : Totals) (ps : List Place) (ns : List ℕ) → v < 256 ^ 2 → HeadingWithin h → Within t → Fit ps ns →
    Fit (version1 ++ ps)
    (v ∷ h.edition ∷ h.date ∷ h.movement ∷ h.batches ∷ t.sales ∷ t.amounts.gross ∷ t.amounts.discount ∷ t.amounts.net ∷ ns)
front_fits v h t ps ns small a b f =
    let date = day_range h.date a.day in
    let edition = a.edition in
    let movement = a.movement in
    let batches = a.batches in
    let sales = b.sales in
    let gross = b.gross in
    let discount = b.discount in
    let net = b.net in
    (small, (omega arith, (omega arith, (omega arith, (omega arith, (omega arith, (omega arith, (omega arith, (omega arith, f)))))))))

fits : (s : Sheet) → sheet_allowed s ≡ true → Fit (table_of (version_of s)) (sheet_row s)
unfolding sheet_allowed sheet_row
fits (Version1 h t) e =
    let heading = both_left (heading_allowed h) (set_allowed t) e in
    let set = both_right (heading_allowed h) (set_allowed t) e in
    front_fits 1 h t [] (drop 9 (sheet_row (Version1 h t))) (lit< tt) (heading_within h heading) (set_within t set) tt
fits (Version2 h split sets) e =
    let rest = sets_allowed sets && split_allowed split sets.forecast in
    let heading = both_left (heading_allowed h) rest e in
    let e₁ = both_right (heading_allowed h) rest e in
    let w = sets_within sets (both_left (sets_allowed sets) (split_allowed split sets.forecast) e₁) in
    let s = split_below split sets.forecast (both_right (sets_allowed sets) (split_allowed split sets.forecast) e₁) in
    let f = set_within sets.forecast w.forecast in
    let sales = f.sales in
    let gross = f.gross in
    let discount = f.discount in
    let net = f.net in
    let behind : Fit (drop 9 version2) (drop 9 (sheet_row (Version2 h split sets))) = (omega arith, (omega arith, (omega arith, (omega arith, (omega arith, tt))))) in
    front_fits 2 h sets.settled (drop 9 version2) (drop 9 (sheet_row (Version2 h split sets))) (lit< tt) (heading_within h heading) (set_within sets.settled w.settled) behind

-- a sheet's bytes: how many there are, their mark, and the version that goes with them
pub bytes_length : (s : Sheet) → length (bytes_of s) ≡ sheet_width s
unfolding in_base in_places sheet_row bytes_of
bytes_length (Version1 h t) = refl
bytes_length (Version2 h split sets) = refl

marked : (s : Sheet) → is_marked (bytes_of s) ≡ true
unfolding in_base in_places sheet_row bytes_of same_bytes
marked (Version1 h t) = refl
marked (Version2 h split sets) = refl

its_version : (s : Sheet) → version_for (sheet_width s) ≡ version_of s
its_version (Version1 h t) = refl
its_version (Version2 h split sets) = refl

-- the numbers of a row make its sheet
row_sheet : (s : Sheet) → sheet_of (version_of s) (take (length (table_of (version_of s))) (sheet_row s)) ≡ s
unfolding sheet_row
row_sheet (Version1 h t) = refl
row_sheet (Version2 h split sets) = refl

row_version : (s : Sheet) → get_or (take (length (table_of (version_of s))) (sheet_row s)) 0 0 ≡ number_of (version_of s)
unfolding sheet_row
row_version (Version1 h t) = refl
row_version (Version2 h split sets) = refl

written_numbers_lem : (s : Sheet) → sheet_allowed s ≡ true → numbers_in (version_of s) (bytes_of s) ≡ take (length (table_of (version_of s))) (sheet_row s)
unfolding bytes_of
written_numbers_lem s e = read_back_lem (table_of (version_of s)) (sheet_row s) (fits s e)

written_digits : (s : Sheet) → sheet_allowed s ≡ true → digits_right (table_of (version_of s)) (drop 3 (bytes_of s)) ≡ true
unfolding bytes_of
written_digits s e = all_digits (table_of (version_of s)) (sheet_row s) (fits s e)

-- "A day sheet that we write reads back as the same numbers"
pub reads_back : (s : Sheet) → sheet_allowed s ≡ true → read_of (bytes_of s) ≡ Ok s
unfolding read_of
reads_back s e =
    let v = version_of s in
    let numbers = written_numbers_lem s e in
    let sheet : sheet_in v (bytes_of s) ≡ s = ap (sheet_of v) numbers ∙ row_sheet s in
    rw (marked s, bytes_length s, its_version s)
    (allowed v (bytes_of s) (ap (λ (ns : List ℕ). get_or ns 0 0) numbers ∙ row_version s) (written_digits s e) (ap sheet_allowed sheet ∙ e) ∙ ap Ok sheet)

-- so two different allowed sheets have different bytes
pub different : (s t : Sheet) → sheet_allowed s ≡ true → sheet_allowed t ≡ true → bytes_of s ≡ bytes_of t → s ≡ t
different s t a b e =
    let same : Ok s ≡ Ok t = sym (reads_back s a) ∙ ap read_of e ∙ reads_back t b in
    cc

never : {A : Type 0} → ◌≡◌ {A = ℕ} 0 1 → A
never e = absurd (omega arith)

-- what reading a sheet says of the bytes
was_read : (p q r : Bool) (x s : Sheet) (a b c : Refusal) → cond p (cond q (cond r (Ok x) (Err a)) (Err b)) (Err c) ≡ Ok s →
    (p ≡ true) × (q ≡ true) × (r ≡ true) × (x ≡ s)
was_read true true true x s a b c e = (refl, refl, refl, cc)
was_read true true false x s a b c e = never (cc)
was_read true false r x s a b c e = never (cc)
was_read false q r x s a b c e = never (cc)

-- marked bytes are as many as the version that goes with them has
marked_length : (n : ℕ) → eqb n 52 || eqb n 81 ≡ true → n ≡ width_of (version_for n)
marked_length n e = by (eqb n 52) refl e
  where
    by : (b : Bool) → eqb n 52 ≡ b → b || eqb n 81 ≡ true → n ≡ width_of (cond b One Two)
    by true h e = eqb-true n 52 h
    by false h e = eqb-true n 81 e

-- the numbers that were read are the sheet's, the version among them
same_numbers : (v : Version) (l : List ℕ) → get_or (numbers_in v l) 0 0 ≡ number_of v →
    in_places (table_of v) (sheet_row (sheet_in v l)) ≡ in_places (table_of v) (numbers_in v l)
unfolding from_places in_places sheet_row
same_numbers One l e = ap (λ (n : ℕ). in_places version1 (n ∷ drop 1 (numbers_in One l))) (sym e)
same_numbers Two l e = ap (λ (n : ℕ). in_places (table_of Two) (n ∷ drop 1 (numbers_in Two l))) (sym e)

table_width_lem : (v : Version) → 3 + table_width (table_of v) ≡ width_of v
unfolding table_width
table_width_lem One = refl
table_width_lem Two = refl

its_bytes : (v : Version) (l : List ℕ) → bytes_of (sheet_in v l) ≡ ascii "DSH" ++ in_places (table_of v) (sheet_row (sheet_in v l))
unfolding bytes_of
its_bytes One l = refl
its_bytes Two l = refl

rewritten : (v : Version) (l : List ℕ) → length l ≡ width_of v → are_bytes l ≡ true → take 3 l ≡ ascii "DSH" → get_or (numbers_in v l) 0 0 ≡ number_of v →
    digits_right (table_of v) (drop 3 l) ≡ true → bytes_of (sheet_in v l) ≡ l
rewritten v l wide bytes mark number digits =
    let rest : length (drop 3 l) ≡ table_width (table_of v) = length-drop 3 l ∙ omega (arith, table_width_lem v) in
    let back = written_back (table_of v) (drop 3 l) (omega arith) (drop_bytes 3 l bytes) digits ∙ take_all (table_width (table_of v)) (drop 3 l) (omega arith) in
    its_bytes v l ∙ ap₂ ◌++◌ (sym mark) (same_numbers v l number ∙ back) ∙ take-append-drop 3 l

module _ (l : List ℕ) (s : Sheet) (e : read_of l ≡ Ok s) where
  found :
      (is_marked l ≡ true) × (eqb (get_or (numbers_in (version_for (length l)) l) 0 0) (number_of (version_for (length l))) ≡ true) ×
      (numbers_right (version_for (length l)) l ≡ true) × (sheet_in (version_for (length l)) l ≡ s)
  unfolding read_of read_as
  found = was_read _ _ _ _ s _ _ _ e

  -- a sheet that was read is allowed
  pub read_allowed : sheet_allowed s ≡ true
  read_allowed =
      let v = version_for (length l) in
      ap sheet_allowed (sym found.3) ∙ both_right (digits_right (table_of v) (drop 3 l)) (sheet_allowed (sheet_in v l)) found.2

  -- "a readable sheet is the one we would write"
  pub the_one_we_write : are_bytes l ≡ true → bytes_of s ≡ l
  the_one_we_write bytes =
      let v = version_for (length l) in
      let wide = eqb (length l) 52 || eqb (length l) 81 in
      let mark = same_bytes (take 3 l) (ascii "DSH") in
      ap bytes_of (sym found.3) ∙
      rewritten v l (marked_length (length l) (both_left wide mark found.0)) bytes (same_equal (take 3 l) (ascii "DSH") (both_right wide mark found.0))
      (eqb-true _ _ found.1) (both_left (digits_right (table_of v) (drop 3 l)) (sheet_allowed (sheet_in v l)) found.2)
