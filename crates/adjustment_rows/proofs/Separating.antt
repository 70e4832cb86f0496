-- Fields with a comma behind each, in front of others.
use Prim.Native.Nat.{ℕ}
use mathlib.Core.Path.{◌≡◌, refl, ◌∙◌, ap}
use mathlib.Core.List.{List, [], ◌∷◌, ◌++◌, append_assoc}
use Rattle.text.specs.Literal.{ascii}
use Rattle.wording.specs.Put.{Puts}
use Rattle.wording.proofs.Putting.{both, reworded}
use Rattle.adjustment_rows.specs.Fields.{separated, with_commas}

-- one field, its comma and what comes
one_with_commas : (f s t : List ℕ) → (f ++ (ascii "," ++ s)) ++ t ≡ f ++ (ascii "," ++ (s ++ t))
one_with_commas f s t = append_assoc f (ascii "," ++ s) t

with_commas_with_commas : (fs gs : List (List ℕ)) → with_commas fs ++ with_commas gs ≡ with_commas (fs ++ gs)
unfolding with_commas
with_commas_with_commas [] gs = refl
with_commas_with_commas (f ∷ fs) gs = one_with_commas f (with_commas fs) (with_commas gs) ∙ ap (λ (l : List ℕ). f ++ (ascii "," ++ l)) (with_commas_with_commas fs gs)

pub with_commas_separated : (fs : List (List ℕ)) (g : List ℕ) (gs : List (List ℕ)) → with_commas fs ++ separated (g ∷ gs) ≡ separated (fs ++ (g ∷ gs))
unfolding with_commas separated
with_commas_separated [] g gs = refl
with_commas_separated (f ∷ []) g gs = one_with_commas f [] (separated (g ∷ gs))
with_commas_separated (f ∷ h ∷ fs) g gs =
    one_with_commas f (with_commas (h ∷ fs)) (separated (g ∷ gs)) ∙ ap (λ (l : List ℕ). f ++ (ascii "," ++ l)) (with_commas_separated (h ∷ fs) g gs)

-- put with its comma
pub one : {f b b₁ b₂ : List ℕ} {at m e : ℕ} → Puts f b at m b₁ → Puts (ascii ",") b₁ m e b₂ → Puts (with_commas (f ∷ [])) b at e b₂
unfolding with_commas
one p q = both p q

-- put one behind the other
module _ (fs : List (List ℕ)) {b b₁ b₂ : List ℕ} {at m e : ℕ} (p : Puts (with_commas fs) b at m b₁) where
  pub more : (gs : List (List ℕ)) → Puts (with_commas gs) b₁ m e b₂ → Puts (with_commas (fs ++ gs)) b at e b₂
  more gs q = reworded (with_commas_with_commas fs gs) (both p q)

  pub ended : (g : List ℕ) (gs : List (List ℕ)) → Puts (separated (g ∷ gs)) b₁ m e b₂ → Puts (separated (fs ++ (g ∷ gs))) b at e b₂
  ended g gs q = reworded (with_commas_separated fs g gs) (both p q)

-- the last, with its LF
pub closed : {g b b₁ b₂ : List ℕ} {at m e : ℕ} → Puts g b at m b₁ → Puts (ascii "\n") b₁ m e b₂ → Puts (separated (g ∷ [])) b at e b₂
unfolding separated
closed p q = both p q
