-- What was quoted can be read back, so no two texts look alike.
use Prim.Native.Nat.{ℕ}
use mathlib.Core.Path.{◌≡◌, refl, sym, ◌∙◌, ap}
use mathlib.Core.List.{List, [], ◌∷◌, ◌++◌, append_assoc}
use mathlib.Core.Bool.{Bool, true, false, cond, false≢true}
use lib.ListN.{drop}
use lib.Dec.{eqb}
use borrow.Author.Tests.{eqb-true}
use Rattle.text.specs.Literal.{ascii, has_byte, one_byte_of}
use Rattle.lines.specs.Lines.{without_last}
use Rattle.lines.proofs.Ends.{before_last}
use Rattle.adjustment_rows.specs.Fields.{doubled, is_marked, mark_of, quoted}

-- two quotes are one
halved : List ℕ → List ℕ
halved [] = []
halved (b ∷ []) = b ∷ []
halved (b ∷ c ∷ s) = cond (eqb b 34) (34 ∷ halved s) (b ∷ halved (c ∷ s))

-- without an apostrophe in front
unmarked : List ℕ → List ℕ
unmarked [] = []
unmarked (b ∷ s) = cond (eqb 39 b) s (b ∷ s)

read_back : List ℕ → List ℕ
read_back field = halved (unmarked (without_last (drop 1 field)))

halved_plain : (b : ℕ) (s : List ℕ) → eqb b 34 ≡ false → halved (b ∷ s) ≡ b ∷ halved s
unfolding halved
halved_plain b [] e = refl
halved_plain b (c ∷ s) e = rw e

halved_doubled : (s : List ℕ) → halved (doubled s) ≡ s
unfolding halved doubled
halved_doubled [] = refl
halved_doubled (b ∷ s) = by (eqb b 34) refl (halved_doubled s)
  where
    by : (quote : Bool) → eqb b 34 ≡ quote → halved (doubled s) ≡ s → halved (cond quote (34 ∷ 34 ∷ doubled s) (b ∷ doubled s)) ≡ b ∷ s
    by true e rest = ap (λ (l : List ℕ). 34 ∷ l) rest ∙ ap (λ (c : ℕ). c ∷ s) (sym (eqb-true b 34 e))
    by false e rest = halved_plain b (doubled s) e ∙ ap (λ (l : List ℕ). b ∷ l) rest

-- a text with an apostrophe in front is marked, and so a text that is not marked has none
apostrophe_marked : (b : ℕ) (s : List ℕ) → eqb 39 b ≡ true → is_marked (b ∷ s) ≡ true
unfolding has_byte one_byte_of
apostrophe_marked b s e = ap (λ (c : ℕ). is_marked (c ∷ s)) (sym (eqb-true 39 b e))

not_marked : (s : List ℕ) → is_marked s ≡ false → unmarked (doubled s) ≡ doubled s
unfolding unmarked doubled
not_marked [] m = refl
not_marked (b ∷ s) m = by (eqb b 34) (eqb 39 b) refl
  where
    by : (quote apostrophe : Bool) → eqb 39 b ≡ apostrophe →
        unmarked (cond quote (34 ∷ 34 ∷ doubled s) (b ∷ doubled s)) ≡ cond quote (34 ∷ 34 ∷ doubled s) (b ∷ doubled s)
    by true apostrophe e = refl
    by false true e = absurd (false≢true (sym m ∙ apostrophe_marked b s e))
    by false false e = rw e

unmarked_marked : (s : List ℕ) → unmarked (mark_of s ++ doubled s) ≡ doubled s
unfolding unmarked
unmarked_marked s = by (is_marked s) refl
  where
    by : (mark : Bool) → is_marked s ≡ mark → unmarked (cond mark (ascii "'") [] ++ doubled s) ≡ doubled s
    by true m = refl
    by false m = not_marked s m

read_back_lem : (s : List ℕ) → read_back (quoted s) ≡ s
unfolding read_back quoted
read_back_lem s =
    ap (λ (l : List ℕ). halved (unmarked (without_last l))) (sym (append_assoc (mark_of s) (doubled s) (34 ∷ []))) ∙
    ap (λ (l : List ℕ). halved (unmarked l)) (before_last (mark_of s ++ doubled s) 34) ∙
    ap halved (unmarked_marked s) ∙
    halved_doubled s

-- "all their bytes": two texts that are quoted alike are the same
pub no_byte_lost : (s t : List ℕ) → quoted s ≡ quoted t → s ≡ t
no_byte_lost s t e = sym (read_back_lem s) ∙ ap read_back e ∙ read_back_lem t
