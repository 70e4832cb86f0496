-- Laws of `masked`: what it keeps, that masking again changes nothing, and when two masked fields are equal.
use Prim.Native.Nat.{ℕ, ◌<◌}
use mathlib.Core.Path.{◌≡◌, refl, sym, ◌∙◌, ap}
use mathlib.Core.Logic.{◌↔◌}
use mathlib.Core.List.{List}
use mathlib.Core.Bool.{Bool, true, false, cond}
use lib.ListN.{length, get_or}
use Rattle.text.specs.Alphabet.{digit_or_star}
use Rattle.pan.specs.CardField.{well_formed}
use Rattle.pan.specs.HiddenPlaces.{hidden_places, hidden_place, is_among, SameHiddenPlaces}
use Rattle.pan.specs.Masked.{star_where, masked}
use Rattle.pan.specs.AgreeOutside.{AgreeOutside}
use Rattle.pan.proofs.Tests.{by_test}
use Rattle.pan.proofs.Agreement.{agree_back}
use Rattle.pan.proofs.Formed.{width, each_byte, from_bytes}
use Rattle.pan.proofs.Stars.{length_kept, at_place, none_picked, outside, own_twice, own_equal}
use Rattle.pan.proofs.HiddenPlaces.{none_hidden, same_places, same_hidden}

-- the length stays
pub masked_length : (s : List ℕ) → length (masked s) ≡ length s
masked_length s = length_kept (hidden_place s) s

-- byte for byte: a star at each hidden place, the old byte at any other
pub masked_at_lem : (s : List ℕ) (i : ℕ) → i < length s → get_or (masked s) i 0 ≡ cond (hidden_place s i) 42 (get_or s i 0)
masked_at_lem s = at_place (hidden_place s) s

-- a field that is not well formed stays as it is
pub masked_unformed : (s : List ℕ) → well_formed s ≡ false → masked s ≡ s
masked_unformed s e = none_picked (hidden_place s) s (λ i k. none_hidden s e i)

-- stars keep a well-formed field well formed, wherever they are put
pub starred_formed : (p : ℕ → Bool) (s : List ℕ) → well_formed s ≡ true → well_formed (star_where p s) ≡ true
starred_formed p s e =
    from_bytes (star_where p s) (length_kept p s ∙ width s e)
    (λ i k. let k : i < length s = rw (← length_kept p s) k in rw (at_place p s i k) (star_or_old (p i) _ (each_byte s e i k)))
  where
    star_or_old : (b : Bool) (x : ℕ) → digit_or_star x ≡ true → digit_or_star (cond b 42 x) ≡ true
    star_or_old true x h = refl
    star_or_old false x h = h

-- the masked field is well formed where the field is, and only there
pub masked_formed : (s : List ℕ) → well_formed (masked s) ≡ well_formed s
masked_formed s =
    by_test (well_formed s)
    (λ e. starred_formed (hidden_place s) s e ∙ sym e)
    (λ e. ap well_formed (masked_unformed s e))

-- the masked field has the same hidden places
masked_places : (s : List ℕ) → hidden_places (masked s) ≡ hidden_places s
masked_places s =
    by_test (well_formed s)
    (λ e. sym (same_places s (masked s) e (masked_formed s ∙ e) (agree_back (outside (hidden_place s) s))))
    (λ e. ap hidden_places (masked_unformed s e))

pub masked_hidden : (s : List ℕ) → SameHiddenPlaces (masked s) s
masked_hidden s i = ap (λ places. is_among places i) (masked_places s)

-- masking again changes nothing
pub masked_again : (s : List ℕ) → masked (masked s) ≡ masked s
masked_again = own_twice hidden_place masked_hidden

-- two masked fields are equal exactly when the fields agree outside the hidden places and have the same hidden places
pub equal_masks : (s t : List ℕ) → (masked s ≡ masked t) ↔ (AgreeOutside (hidden_place s) s t × SameHiddenPlaces s t)
equal_masks = own_equal hidden_place masked_hidden

-- of well-formed fields it is enough that they agree outside the hidden places of one of them
pub equal_masks_formed : (s t : List ℕ) → well_formed s ≡ true → well_formed t ≡ true →
    (masked s ≡ masked t) ↔ AgreeOutside (hidden_place s) s t
equal_masks_formed s t e f = (λ m. ((equal_masks s t).0 m).0, λ a. (equal_masks s t).1 (a, same_hidden s t e f a))
