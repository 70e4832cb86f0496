-- A table of places, one place after the other: what is still to be read or written from a place on is what stands there, and then the rest. The loops of the
-- reader and of the writer go by these laws, for as many places as either version has.
use Prim.Native.Nat.{ℕ, zero, suc, ◌+◌, ◌-◌, ◌≤◌, ◌<◌}
use mathlib.Core.Path.{◌≡◌, refl, sym, ◌∙◌, ap, ap₂}
use mathlib.Core.List.{List, [], ◌∷◌, ◌++◌, map, append_assoc}
use mathlib.Core.Bool.{Bool, true, ◌&&◌}
use native.Mathlib.Omega.{arith}
use native.Mathlib.Numerals.{add-one}
use native.Mathlib.Nat.{add-sub_cancel_left}
use borrow.Author.Tests.{leb-true}
use lib.ListN.{length, get_or, take, drop, set, length-take, drop_of_length-le}
use lib.Seq.{drop-cons, drop-drop, get_or-take, length-take-le, take-suc-set}
use lib.Dec.{lit≤, leb}
use Rattle.text.proofs.Alphabets.{both_left, both_right}
use Rattle.day_sheet.specs.declared.number.Form.{Form}
use Rattle.day_sheet.specs.declared.number.Form.TheVariants.{Bytes}
use Rattle.day_sheet.specs.declared.layout.Place.{Place}
use Rattle.day_sheet.specs.Number.{base, zero_byte, holds_right, in_base, value_in}
use Rattle.day_sheet.specs.Layout.{bytes, digits, version2, table_width, in_places, from_places, digits_right}
use Rattle.day_sheet.specs.FirstPlaces.{first_places}

-- the number that stands in a place
abbrev pub held : Place → List ℕ → ℕ
held p s = value_in (base p.form) (zero_byte p.form) 0 s

-- a number's bytes in its place
abbrev pub written : Place → ℕ → List ℕ
written p n = in_base (base p.form) (zero_byte p.form) p.width n

-- the place of number k, and the places behind it
module _ (n k : ℕ) {p : Place} (few : n ≤ 14) (in_table : k < n) (is : p ≡ get_or version2 k (bytes 0)) where
  next : drop k (first_places n) ≡ p ∷ drop (k + 1) (first_places n)
  next =
      let wide : length (first_places n) ≡ n = length-take-le n version2 few in
      drop-cons (first_places n) k (bytes 0) (omega arith) ∙
      ap₂ ◌∷◌ (get_or-take n version2 k (bytes 0) in_table ∙ sym is) (ap (λ (j : ℕ). drop j (first_places n)) (sym (add-one k)))

  pub next_width : table_width (drop k (first_places n)) ≡ p.width + table_width (drop (k + 1) (first_places n))
  unfolding table_width
  next_width = ap table_width next

  -- reading, from the byte `at` on
  module _ (s : List ℕ) (at : ℕ) where
    abbrev part : List ℕ
    part = take (at + p.width - at) (drop at s)

    here : take p.width (drop at s) ≡ part
    here = ap (λ (w : ℕ). take w (drop at s)) (sym (add-sub_cancel_left at p.width))

    pub next_digits :
        digits_right (drop k (first_places n)) (drop at s) ≡
        holds_right p.form part && digits_right (drop (k + 1) (first_places n)) (drop (at + p.width) s)
    unfolding digits_right
    next_digits =
        ap (λ (ps : List Place). digits_right ps (drop at s)) next ∙
        ap₂ (λ (t u : List ℕ). holds_right p.form t && digits_right (drop (k + 1) (first_places n)) u) here (drop-drop p.width at s)

    pub next_number_lem :
        from_places (drop k (first_places n)) (drop at s) ≡
        held p part ∷ from_places (drop (k + 1) (first_places n)) (drop (at + p.width) s)
    unfolding from_places
    next_number_lem =
        ap (λ (ps : List Place). from_places ps (drop at s)) next ∙
        ap₂ (λ (t u : List ℕ). held p t ∷ from_places (drop (k + 1) (first_places n)) u) here (drop-drop p.width at s)

  -- writing
  pub next_written : (ns : List ℕ) → k < length ns →
      in_places (drop k (first_places n)) (drop k ns) ≡ written p (get_or ns k 0) ++ in_places (drop (k + 1) (first_places n)) (drop (k + 1) ns)
  unfolding in_places
  next_written ns h =
      ap₂ in_places next (drop-cons ns k 0 h ∙ ap (λ (j : ℕ). get_or ns k 0 ∷ drop j ns) (sym (add-one k)))

-- the place of a number, by its width and form as one pair
abbrev pair : Place → ℕ × Form
pair p = (p.width, p.form)

abbrev place : ℕ × Form → Place
place w = record { width = w.0; form = w.1 }

by_pair : (ps : List Place) (n : ℕ) → place (get_or (map pair ps) n (0, Bytes)) ≡ get_or ps n (bytes 0)
by_pair [] n = refl
by_pair (p ∷ ps) zero = refl
by_pair (p ∷ ps) (suc n) = by_pair ps n

pub by_table : (n : ℕ) → place (get_or (map pair version2) n (0, Bytes)) ≡ get_or version2 n (bytes 0)
by_table n = by_pair version2 n

-- and by its width alone: the third and the fourth are in digits, all others in bytes
abbrev AllBytes : List Place → Type 0
AllBytes [] = Unit {0}
AllBytes (p ∷ ps) = (Bytes ≡ p.form) × AllBytes ps

by_width : (ps : List Place) → AllBytes ps → (n : ℕ) → bytes (get_or (map (λ (p : Place). p.width) ps) n 0) ≡ get_or ps n (bytes 0)
by_width [] a n = refl
by_width (p ∷ ps) a zero = λ i. record { width = p.width; form = a.0 i }
by_width (p ∷ ps) a (suc n) = by_width ps a.1 n

pub in_digits : (n : ℕ) → 2 ≤ n → n < 4 → digits (get_or (map (λ (p : Place). p.width) version2) n 0) ≡ get_or version2 n (bytes 0)
in_digits zero a b = absurd (omega arith)
in_digits (suc zero) a b = absurd (omega arith)
in_digits (suc (suc zero)) a b = refl
in_digits (suc (suc (suc zero))) a b = refl
in_digits (suc (suc (suc (suc n)))) a b = absurd (omega arith)

pub in_bytes : (n : ℕ) → (n ≡ 2 → ⊥) → (n ≡ 3 → ⊥) → bytes (get_or (map (λ (p : Place). p.width) version2) n 0) ≡ get_or version2 n (bytes 0)
in_bytes zero a b = refl
in_bytes (suc zero) a b = refl
in_bytes (suc (suc zero)) a b = absurd (a refl)
in_bytes (suc (suc (suc zero))) a b = absurd (b refl)
in_bytes (suc (suc (suc (suc n)))) a b = by_width (drop 4 version2) (refl, (refl, (refl, (refl, (refl, (refl, (refl, (refl, (refl, (refl, tt)))))))))) n

-- no place is wider than eight bytes
abbrev narrow : List Place → Bool
narrow [] = true
narrow (p ∷ ps) = leb p.width 8 && narrow ps

narrow_at : (ps : List Place) → narrow ps ≡ true → (k : ℕ) → (get_or ps k (bytes 0)).width ≤ 8
narrow_at [] e k = lit≤ tt
narrow_at (p ∷ ps) e zero = leb-true p.width 8 (both_left (leb p.width 8) (narrow ps) e)
narrow_at (p ∷ ps) e (suc k) = narrow_at ps (both_right (leb p.width 8) (narrow ps) e) k

pub at_most_eight : (k : ℕ) {p : Place} → p ≡ get_or version2 k (bytes 0) → p.width ≤ 8
at_most_eight k e = omega (arith, narrow_at version2 refl k, ap (λ (q : Place). q.width) e)

-- behind the last place there is none
pub none_left : (n k : ℕ) → n ≤ k → drop k (first_places n) ≡ []
none_left n k h = drop_of_length-le (first_places n) {i = k} (omega (arith, length-take n version2))

-- a number put behind those that stand in front
pub one_more : (ns rest : List ℕ) (k n : ℕ) → k < length ns → take (k + 1) (set ns k n) ++ rest ≡ take k ns ++ (n ∷ rest)
one_more ns rest k n h =
    ap (λ (j : ℕ). take j (set ns k n) ++ rest) (add-one k) ∙ ap (λ (l : List ℕ). l ++ rest) (take-suc-set ns k n h) ∙ append_assoc (take k ns) (n ∷ []) rest
