-- How large the numbers of headers and trailers are, whatever the record's bytes are.
use Prim.Native.Nat.{ℕ, ◌^◌, ◌<◌}
use mathlib.Core.List.{List}
use Rattle.card_content.specs.declared.content.Content.TheVariants.{Digits, Day}
use Rattle.card_content.specs.Field.{field}
use Rattle.card_content.proofs.Ranges.{number_below}
use Rattle.card_frame.specs.declared.a0.A0.{A0}
use Rattle.card_frame.specs.declared.a9.A9.{A9}
use Rattle.card_frame.specs.declared.l0.L0.{L0}
use Rattle.card_frame.specs.declared.l9.L9.{L9}
use Rattle.card_frame.specs.A0.{a0_of}
use Rattle.card_frame.specs.L0.{l0_of}
use Rattle.card_frame.specs.L9.{l9_of}
use Rattle.card_frame.specs.A9.{a9_of}

pub record A0Below (n : A0) : Type 0 where
  pub date : n.date < 10 ^ 8
  pub movement : n.movement < 10 ^ 6
  pub nseq : n.nseq < 10 ^ 6

pub record L0Below (n : L0) : Type 0 where
  pub nseq : n.nseq < 10 ^ 6

pub record L9Below (n : L9) : Type 0 where
  pub count : n.count < 10 ^ 6
  pub sum : n.sum < 10 ^ 14
  pub nseq : n.nseq < 10 ^ 6

pub record A9Below (n : A9) : Type 0 where
  pub count : n.count < 10 ^ 6
  pub nseq : n.nseq < 10 ^ 6

-- the numbers of each kind
pub a0_below : (r : List ℕ) → A0Below (a0_of r)
a0_below r =
    record {
      date = number_below (field 9 16 Day) r;
      movement = number_below (field 23 28 Digits) r;
      nseq = number_below (field 70 75 Digits) r;
    }

pub l0_below : (r : List ℕ) → L0Below (l0_of r)
l0_below r = record { nseq = number_below (field 13 18 Digits) r }

pub l9_below : (r : List ℕ) → L9Below (l9_of r)
l9_below r =
    record {
      count = number_below (field 3 8 Digits) r;
      sum = number_below (field 9 22 Digits) r;
      nseq = number_below (field 23 28 Digits) r;
    }

pub a9_below : (r : List ℕ) → A9Below (a9_of r)
a9_below r = record { count = number_below (field 3 8 Digits) r; nseq = number_below (field 9 14 Digits) r }
