-- TWINS MADE: hidden digits changed into digits leave the masked form (TwinRecords, TwinMasks), and that has the same hidden places (MaskedHidden), so what was
-- hidden in the one is hidden in the other.
use Prim.Native.Nat.{ℕ}
use mathlib.Core.Path.{◌≡◌}
use mathlib.Core.Logic.{◌↔◌}
use mathlib.Core.List.{List}
use mathlib.Core.Bool.{Bool}
use Rattle.card_mask.specs.Masked.{masked_record, masked_file}
use Rattle.demands.specs.HiddenDigits.{hidden_in_record, hidden_in, TwinsWhere}
use Rattle.demands.specs.TwinsMade.{DigitsChanged, TwinsMade}
use Rattle.demands.proofs.MaskedHidden.{same_hidden_record, same_hidden}
use Rattle.demands.proofs.ToldAlike.{alike}
use Rattle.demands.proofs.TwinLaws.{twins_changed, changed_twins}
use Rattle.demands.proofs.TwinMasks.{same_masked}
use Rattle.demands.proofs.TwinRecords.{same_masked_record}

-- for any form that hides the same and that the change leaves
exactly : (hidden : List ℕ → ℕ → Bool) (form : List ℕ → List ℕ) → ((s : List ℕ) (i : ℕ) → hidden (form s) i ≡ hidden s i) →
    ((s t : List ℕ) → DigitsChanged (hidden s) s t → form s ≡ form t) → (s t : List ℕ) →
    DigitsChanged (hidden s) s t ↔ TwinsWhere (hidden s) (hidden t) s t
exactly hidden form own same s t = (
  λ w. changed_twins (hidden s) (hidden t) (λ i. alike form (λ l. hidden l i) (λ l. own l i) (same s t w)) w,
  twins_changed (hidden s) (hidden t),
)

pub twins_made : TwinsMade
twins_made =
    record {
      records = exactly hidden_in_record masked_record same_hidden_record same_masked_record;
      files = exactly hidden_in masked_file same_hidden same_masked;
    }
