-- Where the hidden places of a field lie, and what decides them: of a well-formed field its leading zeros alone.
use Prim.Native.Nat.{ℕ, ◌+◌, ◌-◌, ◌≤◌, ◌<◌}
use mathlib.Core.Path.{◌≡◌, refl, sym, ◌∙◌, ap, ap₂}
use mathlib.Core.List.{List}
use mathlib.Core.Bool.{Bool, true, false, cond, false≢true}
use native.Mathlib.Omega.{arith}
use lib.ListN.{length, length-drop}
use lib.Dec.{leb, ltb}
use borrow.Author.Tests.{le-leb, le-ltb, leb-true, leb-false, ltb-true}
use Rattle.text.proofs.Alphabets.{both_left, both_right}
use Rattle.pan.specs.declared.Places.{Places}
use Rattle.pan.specs.CardField.{well_formed, leading_zeros, valid_characters}
use Rattle.pan.specs.HiddenPlaces.{shown_in_front, shown_at_end, hidden_places, hidden_place, is_among, SameHiddenPlaces}
use Rattle.pan.specs.AgreeOutside.{AgreeOutside}
use Rattle.pan.proofs.Tests.{by_test}
use Rattle.pan.proofs.Formed.{width}
use Rattle.pan.proofs.Zeros.{within, told_by_front}

-- of n valid characters f stay in front and e at the end: no more than n, and four at least on each side where any is hidden
pub record Shown (n f e : ℕ) : Type 0 where
  pub fits : f + e ≤ n
  pub four : e ≤ 4
  pub sides : f + e < n → (4 ≤ f) × (4 ≤ e)

pub shown : (n : ℕ) → Shown n (shown_in_front n) (shown_at_end n)
shown n = by_tests (leb 16 n) (leb 13 n) refl refl
  where
    by_tests : (p q : Bool) → leb 16 n ≡ p → leb 13 n ≡ q → Shown n (cond p 6 (cond q 4 n)) (cond q 4 0)
    by_tests true true x y = omega (arith, leb-true, leb-false)
    by_tests true false x y = omega (arith, leb-true, leb-false)
    by_tests false true x y = omega (arith, leb-true, leb-false)
    by_tests false false x y = omega (arith, leb-true, leb-false)

-- the hidden places of a well-formed field with z leading zeros
abbrev pub behind_zeros : ℕ → Places
behind_zeros z = record { from = z + shown_in_front (19 - z); to = 19 - shown_at_end (19 - z) }

pub of_formed : (s : List ℕ) → well_formed s ≡ true → hidden_places s ≡ behind_zeros (leading_zeros s)
unfolding hidden_places
of_formed s e = rw (e, length-drop, width s e)

pub of_unformed : (s : List ℕ) → well_formed s ≡ false → hidden_places s ≡ record { from = 0; to = 0 }
unfolding hidden_places
of_unformed s e = rw e

-- the valid characters of a well-formed field are those that the leading zeros leave of 19
pub counted : (s r : List ℕ) → well_formed s ≡ true → r ≡ valid_characters s → length r ≡ 19 - leading_zeros s
counted s r e v = ap length v ∙ length-drop (leading_zeros s) s ∙ ap (λ n. n - leading_zeros s) (width s e)

-- so its hidden places are told by their count
pub placed : (s r : List ℕ) (f e : ℕ) → well_formed s ≡ true → r ≡ valid_characters s →
    f ≡ shown_in_front (length r) → e ≡ shown_at_end (length r) →
    ◌≡◌ {A = Places} (record { from = 19 - length r + f; to = 19 - e }) (hidden_places s)
placed s r f e w v x y =
    let n = counted s r w v in
    ap₂ (λ a b. record { from = a; to = b })
    (omega (arith, n, within s, width s w, x ∙ ap shown_in_front n))
    (ap (λ k. 19 - k) (y ∙ ap shown_at_end n)) ∙
    sym (of_formed s w)

-- the hidden places begin where they end or before
pub in_order : (s : List ℕ) → (hidden_places s).from ≤ (hidden_places s).to
in_order s =
    by_test (well_formed s)
    (λ e. rw (of_formed s e) (omega (arith, shown (19 - leading_zeros s), within s, width s e)))
    (λ e. rw (of_unformed s e) (omega arith))

-- and end with the field or before
pub end_inside : (s : List ℕ) → (hidden_places s).to ≤ length s
end_inside s =
    by_test (well_formed s)
    (λ e. rw (of_formed s e, width s e) (omega arith))
    (λ e. rw (of_unformed s e) (omega arith))

-- a field that is not well formed has no hidden place
pub none_hidden : (s : List ℕ) → well_formed s ≡ false → (i : ℕ) → hidden_place s i ≡ false
none_hidden s e i = rw (of_unformed s e, le-leb 0 i (omega arith), le-ltb i 0 (omega arith))

pub hidden_formed : (s : List ℕ) (i : ℕ) → hidden_place s i ≡ true → well_formed s ≡ true
hidden_formed s i h = by_test (well_formed s) (λ e. e) (λ e. absurd (false≢true (sym (none_hidden s e i) ∙ h)))

-- a hidden place has the leading zeros and at least four open places before it, and at least four open places behind it
pub record Inside (s : List ℕ) (i : ℕ) : Type 0 where
  pub behind : leading_zeros s + 4 ≤ i
  pub before : i + 4 < length s

pub hidden_inside : (s : List ℕ) (i : ℕ) → hidden_place s i ≡ true → Inside s i
hidden_inside s i h =
    let e = hidden_formed s i h in
    let places = behind_zeros (leading_zeros s) in
    let among : is_among places i ≡ true = rw (of_formed s e) at h in
    let f = leb-true places.from i (both_left (leb places.from i) (ltb i places.to) among) in
    let t = ltb-true i places.to (both_right (leb places.from i) (ltb i places.to) among) in
    let four = (shown (19 - leading_zeros s)).sides (omega (arith, within s, width s e)) in
    omega (arith, width s e)

-- so neither a leading zero nor the first valid character is hidden
pub front_open : (s : List ℕ) (i : ℕ) → i ≤ leading_zeros s → hidden_place s i ≡ false
front_open s i h = by_test (hidden_place s i) (λ e. absurd (omega (arith, hidden_inside s i e))) (λ e. e)

-- two well-formed fields that agree outside the hidden places of one of them have the same hidden places
pub same_places : (s t : List ℕ) → well_formed s ≡ true → well_formed t ≡ true → AgreeOutside (hidden_place s) s t →
    hidden_places s ≡ hidden_places t
same_places s t e f a =
    of_formed s e ∙
    ap behind_zeros (told_by_front s t a.same_length (λ i k z. a.same_byte i k (front_open s i z))) ∙
    sym (of_formed t f)

pub same_hidden : (s t : List ℕ) → well_formed s ≡ true → well_formed t ≡ true → AgreeOutside (hidden_place s) s t → SameHiddenPlaces s t
same_hidden s t e f a i = ap (λ places. is_among places i) (same_places s t e f a)
