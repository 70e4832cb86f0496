-- Laws of hidden digits changed into digits, for any test of what is hidden: the change goes back, to a front and to what lies behind it, and leaves every
-- byte that is no digit. Twins are changed so, and lists that are changed so and hide the same are twins.
use Prim.Native.Nat.{ℕ, ◌+◌, ◌-◌, ◌<◌, min}
use mathlib.Core.Path.{◌≡◌, refl, sym, ◌∙◌, ap, ap₂, subst}
use mathlib.Core.List.{List}
use mathlib.Core.Bool.{Bool, false, ◌&&◌, and-false}
use native.Mathlib.Omega.{arith}
use lib.ListN.{length, get_or, take, drop, length-take, length-drop}
use lib.Seq.{get_or-take, get_or-drop}
use Rattle.text.specs.Alphabet.{digit}
use Rattle.text.proofs.Alphabets.{both, both_left, both_right}
use Rattle.pan.proofs.Tests.{by_test}
use Rattle.pan.proofs.Agreement.{agree_less, agree_everywhere, agree_both_back, agree_both}
use Rattle.demands.specs.HiddenDigits.{TwinsWhere}
use Rattle.demands.specs.TwinsMade.{DigitsChanged}

-- a hidden digit, by what is hidden there and the byte there; and those of a list
abbrev hidden_digit_lem : Bool → ℕ → Bool
hidden_digit_lem h b = h && digit b

abbrev hidden_digits : (ℕ → Bool) → List ℕ → ℕ → Bool
hidden_digits h s i = hidden_digit_lem (h i) (get_or s i 0)

module _ (h g : ℕ → Bool) {s t : List ℕ} where
  -- twins: a hidden digit of the one is a digit of the other
  pub twins_changed : TwinsWhere h g s t → DigitsChanged h s t
  twins_changed w =
      record {
        elsewhere = agree_less _ (λ i k f. rw f) w;
        into_digits = λ i k d.
            let x = hidden_digits h s i in
            let y = hidden_digits g t i in
            by_test (x && y)
            (λ e. both_right (g i) (digit (get_or t i 0)) (both_right x y e))
            (λ e. sym (ap digit (w.same_byte i k e)) ∙ both_right (h i) (digit (get_or s i 0)) d);
      }

  -- and where both hide the same, it is a hidden digit of both
  pub changed_twins : ((i : ℕ) → h i ≡ g i) → DigitsChanged h s t → TwinsWhere h g s t
  changed_twins same w =
      agree_both (hidden_digits h s) (hidden_digits g t)
      (λ i k d. both (sym (same i) ∙ both_left (h i) (digit (get_or s i 0)) d) (w.into_digits i k d))
      w.elsewhere

-- the other way round
pub changed_back : {h : ℕ → Bool} {s t : List ℕ} → DigitsChanged h s t → DigitsChanged h t s
changed_back {h} {s} {t} w =
    twins_changed h h (agree_both_back (hidden_digits h s) (hidden_digits h t) (changed_twins h h (λ i. refl) w))

-- of equal lists
pub changed_of : {h : ℕ → Bool} {s t u v : List ℕ} → s ≡ u → t ≡ v → DigitsChanged h s t → DigitsChanged h u v
changed_of {h} {t = t} {u = u} e f w = subst (λ l. DigitsChanged h u l) f (subst (λ l. DigitsChanged h l t) e w)

module _ {h : ℕ → Bool} {s t : List ℕ} (w : DigitsChanged h s t) where
  -- where nothing is hidden they are equal
  pub none_hidden : ((i : ℕ) → i < length s → h i ≡ false) → s ≡ t
  none_hidden n = agree_everywhere (λ i k. rw (n i k)) w.elsewhere

  -- a byte that is no digit is the same in both
  pub no_digit : (i : ℕ) → i < length s → digit (get_or s i 0) ≡ false → get_or s i 0 ≡ get_or t i 0
  no_digit i k d = w.elsewhere.same_byte i k (rw d (and-false (h i)))

  -- two lists of one length, whose bytes, and what is hidden there, are as at places of the two
  part : (g : ℕ → Bool) (u v : List ℕ) (place : ℕ → ℕ) → length u ≡ length v →
      ((i : ℕ) → i < length u →
      (place i < length s) × (g i ≡ h (place i)) × (get_or u i 0 ≡ get_or s (place i) 0) × (get_or v i 0 ≡ get_or t (place i) 0)) →
      DigitsChanged g u v
  part g u v place l each =
      record {
        elsewhere = record {
          same_length = l;
          same_byte = λ i k f.
              let is = each i k in
              is.2 ∙ w.elsewhere.same_byte (place i) is.0 (sym (ap₂ hidden_digit_lem is.1 is.2) ∙ f) ∙ sym is.3;
        };
        into_digits = λ i k d.
            let is = each i k in
            ap digit is.3 ∙ w.into_digits (place i) is.0 (sym (ap₂ hidden_digit_lem is.1 is.2) ∙ d);
      }

  -- by a test that agrees at each place
  pub changed_where : (g : ℕ → Bool) → ((i : ℕ) → i < length s → h i ≡ g i) → DigitsChanged g s t
  changed_where g same = part g s t (λ i. i) w.elsewhere.same_length (λ i k. (k, sym (same i k), refl, refl))

  -- the first n places
  pub changed_front : (n : ℕ) → DigitsChanged h (take n s) (take n t)
  changed_front n =
      let l = length-take n s in
      part h (take n s) (take n t) (λ i. i) (l ∙ ap (min n) w.elsewhere.same_length ∙ sym (length-take n t))
      (λ i k. let low : i < n = omega arith in (omega arith, refl, get_or-take n s i 0 low, get_or-take n t i 0 low))

  -- the places behind the first n
  pub changed_behind : (n : ℕ) → DigitsChanged (λ i. h (n + i)) (drop n s) (drop n t)
  changed_behind n =
      let l = length-drop n s in
      part (λ i. h (n + i)) (drop n s) (drop n t) (λ i. n + i) (l ∙ ap (λ m. m - n) w.elsewhere.same_length ∙ sym (length-drop n t))
      (λ i k. (omega arith, refl, get_or-drop n s i 0, get_or-drop n t i 0))
