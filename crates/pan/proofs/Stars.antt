-- Laws of `star_where`: what each byte is, and when two starred fields are equal. Fields are compared byte by byte.
use Prim.Native.Nat.{ℕ, zero, suc, ◌+◌, ◌-◌, ◌≤◌, ◌<◌}
use mathlib.Core.Path.{◌≡◌, refl, sym, ◌∙◌, ap, ap₂}
use mathlib.Core.Logic.{◌↔◌}
use mathlib.Core.List.{List, [], ◌∷◌, ◌++◌}
use mathlib.Core.Bool.{Bool, true, false, cond, ◌&&◌, ◌||◌, or_self}
use native.Mathlib.Omega.{arith}
use lib.ListN.{length, get_or, replicate, length-replicate}
use lib.Seq.{ext_get_or}
use borrow.Author.Rules.{rules}
use borrow.Rule.Slice.PartMut.{put_mid}
use Rattle.std.proofs.lemmas.List.{places}
use Rattle.std.proofs.lemmas.Slice.{overwrites}
use lib.Dec.{leb, ltb}
use borrow.Author.Tests.{le-leb, lt-leb, lt-ltb, le-ltb, leb-true, leb-false, ltb-true, ltb-false}
use Rattle.pan.specs.HiddenPlaces.{is_among}
use Rattle.pan.specs.Masked.{star_where}
use Rattle.pan.specs.AgreeOutside.{AgreeOutside}
use Rattle.pan.proofs.Tests.{by_test}
use Rattle.pan.proofs.Agreement.{agree_back, agree_on}

-- the length stays
pub length_kept : (p : ℕ → Bool) (s : List ℕ) → length (star_where p s) ≡ length s
unfolding star_where
length_kept p [] = refl
length_kept p (b ∷ s) = ap suc (length_kept (λ i. p (suc i)) s)

-- byte for byte: a star at each place that the test picks out, the old byte at any other
pub at_place : (p : ℕ → Bool) (s : List ℕ) (i : ℕ) → i < length s → get_or (star_where p s) i 0 ≡ cond (p i) 42 (get_or s i 0)
unfolding star_where
at_place p [] i h = absurd (omega arith)
at_place p (b ∷ s) zero h = refl
at_place p (b ∷ s) (suc i) h = at_place (λ i. p (suc i)) s i (omega arith)

-- and a field of those bytes is the starred one
pub by_bytes : (p : ℕ → Bool) (s t : List ℕ) → length s ≡ length t →
    ((i : ℕ) → i < length s → cond (p i) 42 (get_or s i 0) ≡ get_or t i 0) → star_where p s ≡ t
by_bytes p s t l h =
    ext_get_or 0 (star_where p s) t (length_kept p s ∙ l)
    (λ i k. let k : i < length s = rw (← length_kept p s) k in at_place p s i k ∙ h i k)

-- tests that agree at each place of the field star it alike
pub same_tests : (p q : ℕ → Bool) (s : List ℕ) → ((i : ℕ) → i < length s → p i ≡ q i) → star_where p s ≡ star_where q s
same_tests p q s h =
    by_bytes p s (star_where q s) (sym (length_kept q s))
    (λ i k. ap (λ b. cond b 42 (get_or s i 0)) (h i k) ∙ sym (at_place q s i k))

-- a test that picks out no place of the field leaves it as it is
pub none_picked : (p : ℕ → Bool) (s : List ℕ) → ((i : ℕ) → i < length s → p i ≡ false) → star_where p s ≡ s
none_picked p s h = by_bytes p s s refl (λ i k. rw (h i k))

-- starred by one test and then by another: starred by either
pub one_then_other : (p q : ℕ → Bool) (s : List ℕ) → star_where q (star_where p s) ≡ star_where (λ i. q i || p i) s
unfolding star_where
one_then_other p q [] = refl
one_then_other p q (b ∷ s) = ap₂ ◌∷◌ (either (q 0) (p 0)) (one_then_other (λ i. p (suc i)) (λ i. q (suc i)) s)
  where
    either : (x y : Bool) → cond x 42 (cond y 42 b) ≡ cond (x || y) 42 b
    either true y = refl
    either false y = refl

-- starring twice with the same test is once
pub twice : (p : ℕ → Bool) (s : List ℕ) → star_where p (star_where p s) ≡ star_where p s
twice p s = one_then_other p p s ∙ same_tests (λ i. p i || p i) p s (λ i k. or_self (p i))

-- two fields in a row
pub in_a_row : (p : ℕ → Bool) (s t : List ℕ) → star_where p (s ++ t) ≡ star_where p s ++ star_where (λ i. p (length s + i)) t
unfolding star_where
in_a_row p [] t = same_tests p (λ i. p (0 + i)) t (λ i k. ap p (omega arith))
in_a_row p (b ∷ s) t =
    ap (λ r. cond (p 0) 42 b ∷ r)
    (in_a_row (λ i. p (suc i)) s t ∙
    ap (λ r. star_where (λ i. p (suc i)) s ++ r) (same_tests _ (λ i. p (suc (length s) + i)) t (λ i k. ap p (omega arith))))

-- a row of places filled with stars: before them, among them and behind them
pub filled : (s : List ℕ) (from to : ℕ) → from ≤ to → to ≤ length s →
    put_mid from (to - from) s (replicate (to - from) 42) ≡ star_where (is_among (record { from = from; to = to })) s
filled s from to h k =
    sym (by_bytes (is_among (record { from = from; to = to })) s (put_mid from (to - from) s (replicate (to - from) 42))
    (search (rules, overwrites, length-replicate))
    (λ i l. each i l))
  where
    Byte : ℕ → Type 0
    Byte i = cond (leb from i && ltb i to) 42 (get_or s i 0) ≡ get_or (put_mid from (to - from) s (replicate (to - from) 42)) i 0

    before : (i : ℕ) → i < length s → i < from → Byte i
    before i l f = rw (lt-leb from i f) (search (rules, places))

    among : (i : ℕ) → i < length s → from ≤ i → i < to → Byte i
    among i l f t = rw (le-leb from i f, lt-ltb i to t) (search (rules, places))

    behind : (i : ℕ) → i < length s → from ≤ i → to ≤ i → Byte i
    behind i l f t = rw (le-leb from i f, le-ltb i to t) (search (rules, places))

    each : (i : ℕ) → i < length s → Byte i
    each i l =
        by_test (leb from i)
        (λ f. by_test (ltb i to)
        (λ t. among i l (leb-true from i f) (ltb-true i to t))
        (λ t. behind i l (leb-true from i f) (ltb-false i to t)))
        (λ f. before i l (leb-false from i f))

-- a starred field agrees with the old one outside the starred places
pub outside : (p : ℕ → Bool) (s : List ℕ) → AgreeOutside p (star_where p s) s
outside p s =
    record {
      same_length = length_kept p s;
      same_byte = λ i k f. at_place p s i (rw (← length_kept p s) k) ∙ rw f;
    }

-- two fields starred by one test are equal exactly when they agree outside the starred places
pub equal_stars : (p : ℕ → Bool) (s t : List ℕ) → (star_where p s ≡ star_where p t) ↔ AgreeOutside p s t
equal_stars p s t = (λ e. agree_on (agree_back (outside p s)) (rw e (outside p t)), joined)
  where
    covered : (b : Bool) {x y : ℕ} → (b ≡ false → x ≡ y) → cond b 42 x ≡ cond b 42 y
    covered true h = refl
    covered false h = h refl

    joined : AgreeOutside p s t → star_where p s ≡ star_where p t
    joined a =
        by_bytes p s (star_where p t) (a.same_length ∙ sym (length_kept p t))
        (λ i k. covered (p i) (a.same_byte i k) ∙ sym (at_place p t i (rw (← a.same_length) k)))

-- fields starred each by its own test, where starring a field leaves its test as it is
module _ (test : List ℕ → ℕ → Bool) (stays : (s : List ℕ) (i : ℕ) → test (star_where (test s) s) i ≡ test s i) where
  -- starred again, a field stays as it is
  pub own_twice : (s : List ℕ) → star_where (test (star_where (test s) s)) (star_where (test s) s) ≡ star_where (test s) s
  own_twice s = same_tests (test (star_where (test s) s)) (test s) (star_where (test s) s) (λ i k. stays s i) ∙ twice (test s) s

  -- and two of them are equal exactly when the fields agree outside the starred places and have the same starred places
  pub own_equal : (s t : List ℕ) → (star_where (test s) s ≡ star_where (test t) t) ↔ (AgreeOutside (test s) s t × ((i : ℕ) → test s i ≡ test t i))
  own_equal s t = (taken_apart, joined)
    where
      by_one_test : ((i : ℕ) → test s i ≡ test t i) → star_where (test t) t ≡ star_where (test s) t
      by_one_test same = same_tests (test t) (test s) t (λ i k. sym (same i))

      taken_apart : star_where (test s) s ≡ star_where (test t) t → AgreeOutside (test s) s t × ((i : ℕ) → test s i ≡ test t i)
      taken_apart e =
          let same : (i : ℕ) → test s i ≡ test t i = λ i. sym (stays s i) ∙ ap (λ r. test r i) e ∙ stays t i in
          ((equal_stars (test s) s t).0 (e ∙ by_one_test same), same)

      joined : AgreeOutside (test s) s t × ((i : ℕ) → test s i ≡ test t i) → star_where (test s) s ≡ star_where (test t) t
      joined h = (equal_stars (test s) s t).1 h.0 ∙ sym (by_one_test h.1)
