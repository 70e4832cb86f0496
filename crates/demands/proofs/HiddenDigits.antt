-- HIDDEN DIGITS REACH NOTHING: twin records and twin files have one masked form (TwinMasks), so they are told alike.
use Prim.Native.Nat.{ℕ}
use mathlib.Core.Path.{◌∙◌, ap}
use mathlib.Core.List.{List}
use lib.ListN.{length, get_or}
use Rattle.pan.proofs.Stars.{length_kept, at_place}
use Rattle.demands.specs.HiddenDigits.{hidden_in, TwinRecords, TwinFiles, HiddenDigitsReachNothing, MaskedWhereHidden}
use Rattle.demands.proofs.MaskedPlaces.{stars_where_hidden}
use Rattle.demands.proofs.ToldAlike.{told_alike}
use Rattle.demands.proofs.TwinMasks.{twin_records, twin_files}

pub hidden_digits_reach_nothing : HiddenDigitsReachNothing
hidden_digits_reach_nothing = told_alike TwinRecords TwinFiles twin_records twin_files

-- and the masked copy is the file with a star at each hidden place
pub masked_where_hidden : (file : List ℕ) → MaskedWhereHidden file
masked_where_hidden file =
    let is = stars_where_hidden file in
    record {
      same_length = ap length is ∙ length_kept (hidden_in file) file;
      at_each = λ i l. ap (λ s. get_or s i 0) is ∙ at_place (hidden_in file) file i l;
    }
