-- A tally of some outcomes, over any kind of outcome: at the start of none, and each file is one more. And its line is short.
use Prim.Native.Nat.{ℕ, ◌+◌, ◌≤◌}
use mathlib.Core.Path.{◌≡◌, refl, sym, ◌∙◌, ap}
use mathlib.Core.List.{List, [], ◌∷◌, ◌++◌, map, foldl-append, map-append}
use native.Mathlib.Omega.{arith}
use lib.ListN.{length, length-append}
use Rattle.text.specs.Literal.{ascii}
use Rattle.wording.proofs.Lengths.{word_short, line_short}
use Rattle.file_list.specs.declared.tally.Said.{Said}
use Rattle.file_list.specs.declared.tally.Tally.{Tally}
use Rattle.file_list.specs.Tally.{no_file, one_file_more, tally_of, tally_line, Each, Tallied}

module _ {A : Type 0} (said : A → Said) (Allowed : A → Type 0) where
  one_allowed : (outcomes : List A) {outcome : A} → Each Allowed outcomes → Allowed outcome → Each Allowed (outcomes ++ (outcome ∷ []))
  unfolding Each
  one_allowed [] w a = (a, tt)
  one_allowed (o ∷ others) w a = (w.0, one_allowed others w.1 a)

  pub none_tallied : {tally : Tally} → tally ≡ no_file → Tallied said Allowed 0 tally
  unfolding Each
  none_tallied e = record { outcomes = []; as_many = refl; each = tt; counted = e }

  pub one_tallied : {count : ℕ} {tally next : Tally} (outcome : A) → Tallied said Allowed count tally → Allowed outcome → next ≡ one_file_more tally (said outcome) →
      Tallied said Allowed (count + 1) next
  one_tallied outcome w a e =
      record {
        outcomes = w.outcomes ++ (outcome ∷ []);
        as_many = length-append w.outcomes (outcome ∷ []) ∙ ap (λ (n : ℕ). n + 1) w.as_many;
        each = one_allowed w.outcomes w.each a;
        counted =
            e ∙ ap (λ (t : Tally). one_file_more t (said outcome)) w.counted ∙
            sym (ap tally_of (map-append said w.outcomes (outcome ∷ [])) ∙ foldl-append one_file_more no_file (map said w.outcomes) (said outcome ∷ []));
      }

pub tally_short : (t : Tally) → length (tally_line t) ≤ 128
unfolding tally_line
tally_short t =
    simp length-append
    (omega (
      arith,
      word_short (ascii "FILES") t.files,
      word_short (ascii " ACCEPTED") t.accepted,
      word_short (ascii " REFUSED") t.refused,
      line_short (ascii " UNREADABLE") t.unreadable,
    ))
