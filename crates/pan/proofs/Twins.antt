-- Laws of twins, two fields that are told apart by hidden digits only: both are well formed or neither is, they have the same
-- hidden places, and masked they are equal.
use Prim.Native.Nat.{ℕ, ◌<◌}
use mathlib.Core.Path.{◌≡◌, sym, ◌∙◌, ap}
use mathlib.Core.List.{List}
use mathlib.Core.Bool.{true, false}
use lib.ListN.{length, get_or}
use Rattle.text.specs.Alphabet.{digit}
use Rattle.text.proofs.Alphabets.{both, both_left, both_right}
use Rattle.pan.specs.CardField.{well_formed}
use Rattle.pan.specs.HiddenPlaces.{hidden_places, hidden_place, hidden_digit, is_among, SameHiddenPlaces}
use Rattle.pan.specs.Masked.{masked}
use Rattle.pan.specs.AgreeOutside.{AgreeOutside}
use Rattle.pan.specs.Twins.{Twins}
use Rattle.pan.proofs.Tests.{by_test}
use Rattle.pan.proofs.Agreement.{agree_self, agree_less, agree_everywhere, agree_both_back, agree_both}
use Rattle.pan.proofs.Formed.{with_digits}
use Rattle.pan.proofs.HiddenPlaces.{none_hidden, hidden_formed, same_places, same_hidden}
use Rattle.pan.proofs.Masking.{equal_masks}

-- a field is its own twin, and its twin's twin
pub twins_self : (s : List ℕ) → Twins s s
twins_self s = agree_self _ s

pub twins_back : {s t : List ℕ} → Twins s t → Twins t s
twins_back {s} {t} w = agree_both_back (hidden_digit s) (hidden_digit t) w

-- twins agree outside the hidden places of one of them
pub twins_outside : {s t : List ℕ} → Twins s t → AgreeOutside (hidden_place s) s t
twins_outside {s} w = agree_less (hidden_place s) (λ i k f. rw f) w

-- a field that is not well formed is its only twin
pub twins_unformed : {s t : List ℕ} → Twins s t → well_formed s ≡ false → s ≡ t
twins_unformed {s} w e = agree_everywhere (λ i k. none_hidden s e i) (twins_outside w)

-- if one of twins is well formed so is the other
pub twin_formed : {s t : List ℕ} → Twins s t → well_formed s ≡ true → well_formed t ≡ true
twin_formed {s} {t} w e =
    with_digits _ s t e w
    (λ i k f. both_right (hidden_place t i) (digit (get_or t i 0)) (both_right (hidden_digit s i) (hidden_digit t i) f))

-- twins have the same hidden places
twins_places : {s t : List ℕ} → Twins s t → hidden_places s ≡ hidden_places t
twins_places {s} {t} w =
    by_test (well_formed s)
    (λ e. same_places s t e (twin_formed w e) (twins_outside w))
    (λ e. ap hidden_places (twins_unformed w e))

pub twins_hidden : {s t : List ℕ} → Twins s t → SameHiddenPlaces s t
twins_hidden w i = ap (λ places. is_among places i) (twins_places w)

-- masked, twins are equal
pub twins_masked : {s t : List ℕ} → Twins s t → masked s ≡ masked t
twins_masked {s} {t} w = (equal_masks s t).1 (twins_outside w, twins_hidden w)

-- whatever digits are put for the hidden digits of a field, the two are twins
pub twins_made : (s t : List ℕ) → AgreeOutside (hidden_digit s) s t →
    ((i : ℕ) → i < length s → hidden_digit s i ≡ true → digit (get_or t i 0) ≡ true) → Twins s t
twins_made s t a h = agree_both (hidden_digit s) (hidden_digit t) in_both a
  where
    in_both : (i : ℕ) → i < length s → hidden_digit s i ≡ true → hidden_digit t i ≡ true
    in_both i k d =
        let place = both_left (hidden_place s i) (digit (get_or s i 0)) d in
        let e = hidden_formed s i place in
        let same = same_hidden s t e (with_digits (hidden_digit s) s t e a h) (agree_less (hidden_place s) (λ j l g. rw g) a) in
        both (sym (same i) ∙ place) (h i k d)
