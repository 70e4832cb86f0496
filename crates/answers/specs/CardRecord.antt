-- What the contracts of reading a card record are held to, the slow way and the quick way. Behind a function's name: the wrong programs that are ruled out.
use Rattle.std.specs.Prelude.{ℕ, None, Some}
use Rattle.text.specs.Literal.{ascii}
use Rattle.refusal.specs.declared.Cause.{Cause}
use Rattle.refusal.specs.declared.Cause.TheVariants.{ByteNotAllowed, ValueNotAllowed}
use Rattle.card_record.specs.declared.kind.Kind.{Kind}
use Rattle.card_record.specs.declared.kind.Kind.TheVariants.{Cv, Aj, A0}
use Rattle.card_record.specs.declared.reading.Reading.{Reading}
use Rattle.card_record.specs.declared.reading.Reading.TheVariants.{Faulty, Cv as sale_read, Aj as adjustment_read}
use Rattle.answers.specs.CardSale.{cash_sale}
use Rattle.answers.specs.CardAdjustment.{one_credit}
use Rattle.answers.specs.Samples.{at, sale, credit, blank_card}
use base.Fml.{Lft}
use Rattle.card_record.specs.contracts.kind.kind_of as KindOf
use Rattle.card_record.specs.contracts.kind.Kind.width as Width
use Rattle.card_record.specs.contracts.card_part.card_part as CardPart
use Rattle.card_record.specs.contracts.reading.read as Read
use Rattle.card_quick.specs.contracts.read as QuickRead
use borrow.Fn.Read.{r_last}
use Rattle.answers.specs.Held.{Claim, fact_of, logic, memory, run, OneAnswer, Tells, lent, one}

-- what each contract says
abbrev KindOfSays : Claim KindOf.ended
KindOfSays κs a r s = fact_of ((KindOf.clauses logic memory run κs a).ensures tt r s) (r_last _)

abbrev WidthSays : Claim Width.ended
WidthSays κs a r s = fact_of ((Width.clauses logic memory run κs a).ensures tt r s) (r_last _)

abbrev CardPartSays : Claim CardPart.ended
CardPartSays κs a r s = fact_of ((CardPart.clauses logic memory run κs a).ensures tt r s) (r_last _)

abbrev ReadSays : Claim Read.ended
ReadSays κs a r s = fact_of ((Read.clauses logic memory run κs a).ensures tt r s) (r_last _)

abbrev QuickReadSays : Claim QuickRead.ended
QuickReadSays κs a r s = fact_of ((QuickRead.clauses logic memory run κs a).ensures tt r s) (r_last _)

-- a reading of a known kind with a fault
abbrev faulty : Kind → Cause → ℕ → Reading
faulty kind cause column = Faulty kind (record { cause = cause; column = column })

pub record CardRecord (κ : Lft) : Type 0 where
  -- `kind_of`: AJ unknown, or read as a sale; CC read as an adjustment; one byte taken for a kind; small letters taken
  pub kind_of_lem : OneAnswer KindOfSays
  pub kind_aj : Tells (KindOfSays (one κ)) (lent (ascii "AJ"), tt) (Some Aj) None
  pub kind_aj_sale : Tells (KindOfSays (one κ)) (lent (ascii "AJ"), tt) (Some Aj) (Some Cv)
  pub kind_cc : Tells (KindOfSays (one κ)) (lent (ascii "CC"), tt) None (Some Aj)
  pub kind_one_byte : Tells (KindOfSays (one κ)) (lent (ascii "C"), tt) None (Some Cv)
  pub kind_small : Tells (KindOfSays (one κ)) (lent (ascii "a0"), tt) None (Some A0)
  -- `Kind::width`: a sale's for every kind; the line end counted
  pub kind_width : OneAnswer WidthSays
  pub width_for_all : Tells (WidthSays tt) (A0, tt) 75 199
  pub width_adjustment : Tells (WidthSays tt) (Aj, tt) 193 199
  pub width_line_end : Tells (WidthSays tt) (Cv, tt) 199 201
  -- `card_part`: a place counted from 1; an adjustment's card not seen, or seen where a sale's stands; a card in a longer record, in one of another kind, in an adjustment as
  -- wide as a sale
  pub card_part_lem : OneAnswer CardPartSays
  pub card_from_one : Tells (CardPartSays (one κ)) (lent sale, tt) (Some 87) (Some 88)
  pub card_longer : Tells (CardPartSays (one κ)) (lent (at 200 "0" sale), tt) None (Some 87)
  pub card_adjustment : Tells (CardPartSays (one κ)) (lent credit, tt) (Some 162) None
  pub card_as_sale : Tells (CardPartSays (one κ)) (lent credit, tt) (Some 162) (Some 87)
  pub card_other_kind : Tells (CardPartSays (one κ)) (lent (at 1 "CC" sale), tt) None (Some 87)
  pub card_wide_adjustment : Tells (CardPartSays (one κ)) (lent (at 1 "AJ" sale), tt) None (Some 162)
  -- `read`: capture 0; a launch type 3; a day that is none; a hidden digit of the card looked at
  pub read : OneAnswer ReadSays
  pub read_capture : Tells (ReadSays (one κ)) (2, (lent (at 54 "0" sale), tt)) (faulty Cv ValueNotAllowed 54) (sale_read cash_sale)
  pub read_launch_type : Tells (ReadSays (one κ)) (2, (lent (at 44 "3" sale), tt)) (faulty Cv ValueNotAllowed 44) (sale_read cash_sale)
  pub read_day : Tells (ReadSays (one κ)) (2, (lent (at 30 "20230229" sale), tt)) (faulty Cv ValueNotAllowed 30) (sale_read cash_sale)
  pub read_check_digit : Tells (ReadSays (one κ)) (2, (lent (at 99 "7" sale), tt)) (sale_read cash_sale) (faulty Cv ValueNotAllowed 88)
  -- an accent refused in the store, and taken in the card
  pub read_accent : Tells (ReadSays (one κ)) (2, (lent (at 3 "É" sale), tt)) (sale_read cash_sale) (faulty Cv ByteNotAllowed 3)
  pub read_accent_card : Tells (ReadSays (one κ)) (2, (lent (at 99 "É" sale), tt)) (faulty Cv ByteNotAllowed 88) (sale_read cash_sale)
  -- of an adjustment: a blank card refused; zeros taken for its date; a hidden digit of the card looked at
  pub read_blank_card : Tells (ReadSays (one κ)) (2, (lent (at 163 blank_card credit), tt)) (adjustment_read one_credit) (faulty Aj ByteNotAllowed 163)
  pub read_zeros : Tells (ReadSays (one κ)) (2, (lent (at 52 "00000000" credit), tt)) (faulty Aj ValueNotAllowed 52) (adjustment_read one_credit)
  pub read_adjustment_check_digit : Tells (ReadSays (one κ)) (2, (lent (at 174 "7" credit), tt)) (adjustment_read one_credit) (faulty Aj ValueNotAllowed 163)
  -- `card_quick::read`: a picture of a sale that is too wide takes what the slow way refuses; one that is too narrow has the last word
  pub quick_read : OneAnswer QuickReadSays
  pub quick_read_capture : Tells (QuickReadSays (one κ)) (2, (lent (at 54 "0" sale), tt)) (faulty Cv ValueNotAllowed 54) (sale_read cash_sale)
  pub quick_read_launch_type : Tells (QuickReadSays (one κ)) (2, (lent (at 44 "3" sale), tt)) (faulty Cv ValueNotAllowed 44) (sale_read cash_sale)
  pub quick_read_day : Tells (QuickReadSays (one κ)) (2, (lent (at 30 "20230229" sale), tt)) (faulty Cv ValueNotAllowed 30) (sale_read cash_sale)
  pub quick_read_check_digit : Tells (QuickReadSays (one κ)) (2, (lent (at 99 "7" sale), tt)) (sale_read cash_sale) (faulty Cv ValueNotAllowed 88)
  pub quick_read_159 : Tells (QuickReadSays (one κ)) (2, (lent (at 3 "\u{9f}" sale), tt)) (faulty Cv ByteNotAllowed 3) (sale_read cash_sale)
  pub quick_read_accent : Tells (QuickReadSays (one κ)) (2, (lent (at 3 "É" sale), tt)) (sale_read cash_sale) (faulty Cv ByteNotAllowed 3)
