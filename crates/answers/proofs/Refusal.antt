-- The contracts of `refusal` are held to one answer, and rule wrong ones out, by computation.
use mathlib.Core.Path.{refl}
use Rattle.refusal.specs.RefusalList.{number_of}
use Rattle.answers.proofs.Observed.{fault_number}
use Rattle.answers.specs.Refusal.{Refusal}
use Rattle.answers.proofs.Told.{equal, told}

pub refusal : Refusal
refusal =
    record {
      number = λ κs a r r' s s' p q. equal p q;
      number_from_one = (refl, told (λ n. n) refl);
      number_exchanged = (refl, told (λ n. n) refl);
      number_retired = (refl, told (λ n. n) refl);
      numbered = λ κs a r r' s s' p q. equal p q;
      numbered_from_one = (refl, told number_of refl);
      numbered_retired = (refl, told number_of refl);
      numbered_place = (refl, told number_of refl);
      nowhere = λ κs a r r' s s' p q. equal p q;
      nowhere_record = (refl, told (λ x. x.«record») refl);
      nowhere_cause = (refl, told (λ x. number_of x.cause) refl);
      rule = λ κs a r r' s s' p q. equal p q;
      rule_held = (refl, told fault_number refl);
      rule_broken = (refl, told fault_number refl);
      earlier = λ κs a r r' s s' p q. equal p q;
      earlier_first = (refl, told fault_number refl);
      earlier_second = (refl, told fault_number refl);
    }
