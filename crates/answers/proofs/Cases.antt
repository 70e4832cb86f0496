-- The contracts of the test programs' library are held to one answer, and rule wrong ones out, by computation.
use mathlib.Core.Path.{refl}
use Prim.Native.Nat.{ℕ}
use mathlib.Core.Path.{◌≡◌, ap, ap₂}
use mathlib.Core.List.{List}
use lib.ListN.{get_or}
use Rattle.text.specs.Literal.{same_bytes}
use Rattle.card_run.specs.Answer.{card_file_row}
use Rattle.cases.specs.declared.cursor.Number.{Number}
use Rattle.cases.specs.Cursor.{high_first, NumberAt, PartAt}
use Rattle.cases.specs.Cuts.{size_of}
use Rattle.cases.specs.Hash.{hash_from}
use Rattle.cases.specs.Output.{pattern}
use Rattle.answers.specs.Cases.{number_with, cuts_at}
use base.Fml.{Lft}
use Rattle.answers.specs.Cases.{Cases}
use Rattle.answers.proofs.Told.{equal, told, bit, same_part}

-- a number and the place behind it are what their contract says
same_number : {s : List ℕ} {at size : ℕ} {r r' : Number} → NumberAt s at size r → NumberAt s at size r' → r ≡ r'
same_number p q = ap₂ number_with (equal p.value q.value) (equal p.behind q.behind)

pub cases : (κ : Lft) → Cases κ
unfolding same_bytes card_file_row high_first PartAt size_of hash_from pattern
cases κ =
    record {
      number_at = λ κs a r r' s s' p q. same_number p q;
      number_low_first = (record { value = refl; behind = refl }, λ p. told (λ n. n) refl p.value);
      number_in_front = (record { value = refl; behind = refl }, λ p. told (λ n. n) refl p.behind);
      parts = λ κs a r r' s s' p q. same_part p q;
      part_in_front = (record { holds = refl; block = refl; begins = refl }, λ p. told (λ n. n) refl p.begins);
      part_elsewhere = (record { holds = refl; block = refl; begins = refl }, λ p. told (λ n. n) refl p.begins);
      behind_part = λ κs a r r' s s' p q. equal p q;
      behind_in_front = (refl, told (λ n. n) refl);
      behind_wraps = (refl, told (λ n. n) refl);
      cuts_of = λ κs a r r' s s' p q. ap cuts_at (equal p q);
      cuts_alike = (refl, told (λ n. n) refl);
      cuts_sum = (refl, told (λ n. n) refl);
      cuts_next = λ κs a r r' s s' p q. equal p q;
      cuts_stay = (refl, told (λ c. c.state) refl);
      cuts_not_looked_at = (refl, told (λ c. c.state) refl);
      cuts_behind = λ κs a r r' s s' p q. equal p q;
      cuts_size = (refl, told (λ n. n) refl);
      cuts_past = (refl, told (λ n. n) refl);
      hash = λ κs a r r' s s' p q. equal p q;
      hash_base = (refl, told (λ n. n) refl);
      hash_last = (refl, told (λ n. n) refl);
      fill = λ κs a r r' s s' p q. (refl, equal p q);
      fill_from_zero = (refl, told (λ s. get_or s 0 0) refl);
      fill_step = (refl, told (λ s. get_or s 1 0) refl);
      card_row = λ κs a r r' s s' p q. equal p q;
      row_net = (refl, told (λ s. get_or s 14 0) refl);
      row_forecast = (refl, told (λ s. get_or s 7 0) refl);
      row_debits = (refl, told (λ s. get_or s 15 0) refl);
      row_column = (refl, told (λ s. get_or s 2 0) refl);
      same = λ κs a r r' s s' p q. equal p q;
      same_first = (refl, told bit refl);
      same_shorter = (refl, told bit refl);
    }
