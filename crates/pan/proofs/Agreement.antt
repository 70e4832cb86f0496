-- Laws of agreement outside some places: it goes back and on, holds outside more places, and outside none is equality; and outside the places of two tests.
use Prim.Native.Nat.{ℕ, ◌<◌}
use mathlib.Core.Path.{◌≡◌, refl, sym, ◌∙◌}
use mathlib.Core.List.{List}
use mathlib.Core.Bool.{Bool, true, false, ◌&&◌, and_comm, false≢true}
use lib.ListN.{length}
use lib.Seq.{ext_get_or}
use Rattle.text.proofs.Alphabets.{both}
use Rattle.pan.specs.AgreeOutside.{AgreeOutside}
use Rattle.pan.proofs.Tests.{by_test}

pub agree_self : (p : ℕ → Bool) (s : List ℕ) → AgreeOutside p s s
agree_self p s = record { same_length = refl; same_byte = λ i k f. refl }

pub agree_back : {p : ℕ → Bool} {s t : List ℕ} → AgreeOutside p s t → AgreeOutside p t s
agree_back a =
    record {
      same_length = sym a.same_length;
      same_byte = λ i k f. sym (a.same_byte i (rw a.same_length k) f);
    }

pub agree_on : {p : ℕ → Bool} {s t u : List ℕ} → AgreeOutside p s t → AgreeOutside p t u → AgreeOutside p s u
agree_on a b =
    record {
      same_length = a.same_length ∙ b.same_length;
      same_byte = λ i k f. a.same_byte i k f ∙ b.same_byte i (rw (← a.same_length) k) f;
    }

pub agree_less : {p : ℕ → Bool} (q : ℕ → Bool) {s t : List ℕ} → ((i : ℕ) → i < length s → q i ≡ false → p i ≡ false) →
    AgreeOutside p s t → AgreeOutside q s t
agree_less q h a = record { same_length = a.same_length; same_byte = λ i k f. a.same_byte i k (h i k f) }

pub agree_everywhere : {p : ℕ → Bool} {s t : List ℕ} → ((i : ℕ) → i < length s → p i ≡ false) → AgreeOutside p s t → s ≡ t
agree_everywhere {s = s} {t = t} h a = ext_get_or 0 s t a.same_length (λ i k. a.same_byte i k (h i k))

-- outside the places of both of two tests: the other way round, and where the one test brings the other with it
pub agree_both_back : (p q : ℕ → Bool) {s t : List ℕ} → AgreeOutside (λ i. p i && q i) s t → AgreeOutside (λ i. q i && p i) t s
agree_both_back p q a = agree_less _ (λ i k f. and_comm (p i) (q i) ∙ f) (agree_back a)

pub agree_both : (p q : ℕ → Bool) {s t : List ℕ} → ((i : ℕ) → i < length s → p i ≡ true → q i ≡ true) →
    AgreeOutside p s t → AgreeOutside (λ i. p i && q i) s t
agree_both p q h a = agree_less _ (λ i k f. by_test (p i) (λ e. absurd (false≢true (sym f ∙ both e (h i k e)))) (λ e. e)) a
