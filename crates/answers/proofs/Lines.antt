-- The contracts of `lines` are held to one answer, and rule wrong ones out, by computation.
use mathlib.Core.Path.{refl}
use Rattle.lines.specs.Lines.{lf_from, ends_in_cr, without_last}
use Rattle.answers.proofs.Observed.{found_place}
use base.Fml.{Lft}
use Rattle.answers.specs.Lines.{Lines}
use Rattle.answers.proofs.Told.{equal, told, bit, same_part}

pub lines : (κ : Lft) → Lines κ
unfolding lf_from ends_in_cr without_last
lines κ =
    record {
      next_lf_lem = λ κs a r r' s s' p q. equal p q;
      next_lf_start = (refl, told found_place refl);
      next_lf_counted = (refl, told found_place refl);
      next_lf_cr = (refl, told found_place refl);
      ends_in_cr_lem = λ κs a r r' s s' p q. equal p q;
      ends_in_cr_anywhere = (refl, told bit refl);
      ends_in_cr_nothing = (refl, told bit refl);
      without_last_lem = λ κs a r r' s s' p q. same_part p q;
      without_first = (record { holds = refl; block = refl; begins = refl }, λ p. told (λ n. n) refl p.begins);
      without_last_elsewhere = (record { holds = refl; block = refl; begins = refl }, λ p. told (λ n. n) refl p.begins);
    }
