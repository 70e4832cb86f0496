-- A record keeps document 01's rules, as the record with a number in its file.
use Rattle.std.specs.Prelude.{ℕ, ◌+◌, ◌≤◌, ◌≡◌, ◌⊎◌, List, true, length}
use Prim.Native.String.{String}
use Rattle.text.specs.Literal.{ascii}
use Rattle.text.specs.Part.{positions}
use Rattle.lines.specs.Lines.{no_lf}
use Rattle.card_content.specs.declared.field.Field.{Field}
use Rattle.card_sale.specs.Cv.{cv_table}
use Rattle.card_adjustment.specs.Aj.{aj_table}
use Rattle.card_frame.specs.A0.{a0_table}
use Rattle.card_frame.specs.L0.{l0_table}
use Rattle.card_frame.specs.L9.{l9_table}
use Rattle.card_frame.specs.A9.{a9_table}
use Rattle.card_kept.specs.Fields.{FieldsKept, number_at}
use Rattle.card_kept.specs.Adjustment.{adjustment_gross, adjustment_discount, adjustment_net}
use Rattle.card_kept.specs.Sale.{
  sale_gross,
  sale_discount,
  sale_net,
  instalment,
  instalments,
  instalment_nsu,
  instalment_gross,
  instalment_discount,
  instalment_net,
}

-- a record of a kind: its name, its width, its fields, and "NSEQ equals the record's number"; it holds no LF, at which the file is cut
pub record RecordOf (name : String) (width : ℕ) (table : List Field) (first last : ℕ) (edition number : ℕ) (r : List ℕ) : Type 0 where
  pub named : positions 1 2 r ≡ ascii name
  pub wide : length r ≡ width
  pub fields : FieldsKept edition r table
  pub nseq : number_at first last r ≡ number
  pub in_one_line : no_lf r ≡ true

abbrev pub A0Kept : ℕ → ℕ → List ℕ → Type 0
A0Kept = RecordOf "A0" 75 a0_table 70 75

abbrev pub L0Kept : ℕ → ℕ → List ℕ → Type 0
L0Kept = RecordOf "L0" 18 l0_table 13 18

-- "instalment and instalments are both zero", and with them columns 111, 123, 134 and 145
pub record NoInstalment (r : List ℕ) : Type 0 where
  pub no_instalment : instalment r ≡ 0
  pub no_instalments : instalments r ≡ 0
  pub nsu : instalment_nsu r ≡ 0
  pub gross : instalment_gross r ≡ 0
  pub discount : instalment_discount r ≡ 0
  pub net : instalment_net r ≡ 0

-- "or 1 ≤ instalment ≤ instalments", and "its gross = discount + net"
pub record Instalment (r : List ℕ) : Type 0 where
  pub from_one : 1 ≤ instalment r
  pub up_to_lem : instalment r ≤ instalments r
  pub agrees : instalment_gross r ≡ instalment_discount r + instalment_net r

pub record CvKept (edition number : ℕ) (r : List ℕ) : Type 0 where
  pub kind : RecordOf "CV" 199 cv_table 194 199 edition number r
  pub sale_agrees : sale_gross r ≡ sale_discount r + sale_net r
  pub paid : NoInstalment r ⊎ Instalment r

-- "Where AJ prints gross, discount and net, the amounts rule holds at its net"
pub record AjKept (edition number : ℕ) (r : List ℕ) : Type 0 where
  pub kind : RecordOf "AJ" 193 aj_table 188 193 edition number r
  pub agrees : adjustment_gross r ≡ adjustment_discount r + adjustment_net r

-- a trailer of a batch of so many transactions, whose sum is what is added less what is taken, as whole numbers: "A sum too large for its field equals none",
-- and "a sum below zero equals no trailer"
pub record L9Kept (transactions added taken : ℕ) (edition number : ℕ) (r : List ℕ) : Type 0 where
  pub kind : RecordOf "L9" 28 l9_table 23 28 edition number r
  pub counts : number_at 3 8 r ≡ transactions
  pub sums : number_at 9 22 r + taken ≡ added

-- the trailer of a file: it counts "every record of the file (a count in A9)", and so its own number
pub record A9Kept (edition number : ℕ) (r : List ℕ) : Type 0 where
  pub kind : RecordOf "A9" 14 a9_table 9 14 edition number r
  pub counts : number_at 3 8 r ≡ number
