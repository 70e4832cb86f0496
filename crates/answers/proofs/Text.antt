-- The contracts of `text` are held to one answer, and rule wrong ones out, by computation.
use mathlib.Core.Path.{refl}
use Rattle.text.specs.Alphabet.{allowed, holds_only, first_stray}
use Rattle.text.specs.Number.{value_from}
use Rattle.text.specs.Weighed.{weighed, zeros_weighed}
use Rattle.text.specs.Literal.{same_bytes, has_byte, one_byte_of}
use Rattle.answers.proofs.Observed.{stray_place, number_read}
use base.Fml.{Lft}
use Rattle.answers.specs.Text.{Text}
use Rattle.answers.proofs.Told.{equal, told, bit, same_part}

pub text : (κ : Lft) → Text κ
unfolding allowed holds_only first_stray value_from weighed zeros_weighed same_bytes has_byte one_byte_of
text κ =
    record {
      allows = λ κs a r r' s s' p q. equal p q;
      allows_colon = (refl, told bit refl);
      allows_slash = (refl, told bit refl);
      allows_star = (refl, told bit refl);
      allows_tilde = (refl, told bit refl);
      allows_127 = (refl, told bit refl);
      allows_159 = (refl, told bit refl);
      allows_160 = (refl, told bit refl);
      allows_255 = (refl, told bit refl);
      allows_plain_tilde = (refl, told bit refl);
      allows_plain_160 = (refl, told bit refl);
      holds_only_lem = λ κs a r r' s s' p q. equal p q;
      holds_only_first = (refl, told bit refl);
      holds_only_last = (refl, told bit refl);
      first_stray_lem = λ κs a r r' s s' p q. equal p q;
      stray_from_one = (refl, told stray_place refl);
      stray_last = (refl, told stray_place refl);
      stray_behind_block = (refl, told stray_place refl);
      number_of_lem = λ κs a r r' s s' p q. equal p q;
      number_wraps = (refl, told number_read refl);
      number_blank = (refl, told number_read refl);
      or_zero = λ κs a r r' s s' p q. equal p q;
      or_zero_top = (refl, told (λ n. n) refl);
      or_zero_always = (refl, told (λ n. n) refl);
      value_if_digits_lem = λ κs a r r' s s' p q. equal p q;
      value_of_bytes = (refl, told (λ n. n) refl);
      value_of_eighteen = (refl, told (λ n. n) refl);
      equals = λ κs a r r' s s' p q. equal p q;
      equals_longer = (refl, told bit refl);
      equals_other_case = (refl, told bit refl);
      is_one_of_lem = λ κs a r r' s s' p q. equal p q;
      one_of_two_bytes = (refl, told bit refl);
      one_of_no_byte = (refl, told bit refl);
      part_of = λ κs a r r' s s' p q. same_part p q;
      part_from_zero = (record { holds = refl; block = refl; begins = refl }, λ p. told (λ n. n) refl p.begins);
      part_elsewhere = (record { holds = refl; block = refl; begins = refl }, λ p. told (λ n. n) refl p.begins);
    }
