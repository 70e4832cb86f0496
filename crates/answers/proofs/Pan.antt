-- The contracts of `pan` are held to one answer, and rule wrong ones out, by computation.
use mathlib.Core.Path.{refl}
use lib.ListN.{get_or}
use Rattle.text.specs.Alphabet.{allowed, holds_only}
use Rattle.pan.specs.CardField.{well_formed, leading_zeros}
use Rattle.pan.specs.HiddenPlaces.{hidden_places}
use Rattle.pan.specs.Masked.{star_where}
use base.Fml.{Lft}
use Rattle.answers.specs.Pan.{Pan}
use Rattle.answers.proofs.Told.{equal, told, bit, same_part}

pub pan : (κ : Lft) → Pan κ
unfolding allowed holds_only well_formed leading_zeros hidden_places star_where
pan κ =
    record {
      well_formed_lem = λ κs a r r' s s' p q. equal p q;
      formed_stars = (refl, told bit refl);
      formed_twenty = (refl, told bit refl);
      valid_characters_lem = λ κs a r r' s s' p q. same_part p q;
      valid_all = (record { holds = refl; block = refl; begins = refl }, λ p. told (λ n. n) refl p.begins);
      valid_stars = (record { holds = refl; block = refl; begins = refl }, λ p. told (λ n. n) refl p.begins);
      hidden_places_lem = λ κs a r r' s s' p q. equal p q;
      hidden_stars = (refl, told (λ r. r.from) refl);
      hidden_padded = (refl, told (λ r. r.from) refl);
      hidden_thirteen = (refl, told (λ r. r.from) refl);
      hidden_five = (refl, told (λ r. r.to) refl);
      mask = λ κs a r r' s s' p q. (refl, equal p q);
      mask_nothing = (refl, told (λ s. get_or s 9 0) refl);
      mask_sixteen = (refl, told (λ s. get_or s 7 0) refl);
    }
