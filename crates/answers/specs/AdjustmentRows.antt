-- What the contracts of the rows of adjustments are held to. Behind a function's name: the wrong programs that are ruled out.
use Rattle.std.specs.Prelude.{ℕ, List, ◌++◌}
use Prim.Native.String.{String}
use base.Fml.{Lft}
use Rattle.std.specs.Borrow.{Bor, MutBor}
use Rattle.text.specs.Literal.{ascii}
use Rattle.adjustment_rows.specs.declared.rows.Rows.{Rows}
use Rattle.adjustment_rows.specs.contracts.row.put_header as PutHeader
use Rattle.adjustment_rows.specs.contracts.rows.put_rows as PutRows
use borrow.Fn.Read.{r_last}
use Rattle.answers.specs.Held.{Claim, fact_of, logic, memory, run, OneOutcome, Outcome, TellsOutcome, lent, lent_mut, one, two}
use Rattle.answers.specs.Samples.{at, sale, credit, debit, room}
use Rattle.answers.specs.Texts.{shown}

-- what each contract says
abbrev PutHeaderSays : Claim PutHeader.ended
PutHeaderSays κs a r s = fact_of ((PutHeader.clauses logic memory run κs a).ensures tt r s) (r_last _)

abbrev PutRowsSays : Claim PutRows.ended
PutRowsSays κs a r s = fact_of ((PutRows.clauses logic memory run κs a).ensures tt r s) (r_last _)

-- bytes of which the first line is record 3, and an output of 104 bytes
abbrev asked : List ℕ → ℕ × (Bor (List ℕ) × (MutBor (List ℕ) × Unit {0}))
asked bytes = (3, (lent bytes, (lent_mut (room 104), tt)))

-- what is answered, and what then stands in the output
abbrev left : List ℕ → ℕ → ℕ → String → Outcome Rows (ℕ × (Bor (List ℕ) × (MutBor (List ℕ) × Unit {0})))
left bytes lines size text = record { answer = record { lines = lines; size = size }; exit = (3, (lent bytes, (lent_mut (shown 104 text), tt))) }

-- a record as a line
abbrev line : List ℕ → List ℕ
line r = r ++ ascii "\r\n"

abbrev credit_row : String
credit_row = "3,\"STORE          \",20240229,20240301,CREDIT,001,\"REFUND                        \",10.00,0.25,9.75\n"

pub record AdjustmentRows (κ : Lft) : Type 0 where
  -- `put_header`: other separators; no line end
  pub header : OneOutcome (λ κs s. s.0.now) PutHeaderSays
  pub header_separators :
      TellsOutcome (PutHeaderSays (one κ)) (lent_mut (room 86), (0, tt))
      (record { answer = 86; exit = (lent_mut (ascii "record,store,original_date,adjustment_date,type,reason,description,gross,discount,net\n"), (0, tt)) })
      (record { answer = 86; exit = (lent_mut (ascii "record;store;original_date;adjustment_date;type;reason;description;gross;discount;net\n"), (0, tt)) })
  pub header_no_end :
      TellsOutcome (PutHeaderSays (one κ)) (lent_mut (room 86), (0, tt))
      (record { answer = 86; exit = (lent_mut (ascii "record,store,original_date,adjustment_date,type,reason,description,gross,discount,net\n"), (0, tt)) })
      (record { answer = 85; exit = (lent_mut (ascii "record,store,original_date,adjustment_date,type,reason,description,gross,discount,net."), (0, tt)) })
  -- `put_rows`: the unfinished record counted; a sale with a row; a line without CR with a row; a debit told as a credit; the record numbered as the first; one quote for a quote; a text
  -- that a spreadsheet computes; blanks left out; a day of zeros; centavos; counted past the end of the output
  pub rows : OneOutcome (λ κs s. s.1.1.0.now) PutRowsSays
  pub rows_unfinished :
      TellsOutcome (PutRowsSays (two κ)) (asked (line credit ++ ascii "AJ")) (left (line credit ++ ascii "AJ") 195 98 credit_row) (left (line credit ++ ascii "AJ") 197 98 credit_row)
  pub rows_sale : TellsOutcome (PutRowsSays (two κ)) (asked (line sale)) (left (line sale) 201 0 "") (left (line sale) 201 98 credit_row)
  pub rows_no_cr :
      TellsOutcome (PutRowsSays (two κ)) (asked (credit ++ ascii "\n")) (left (credit ++ ascii "\n") 194 0 "") (left (credit ++ ascii "\n") 194 98 credit_row)
  pub rows_debit :
      TellsOutcome (PutRowsSays (two κ)) (asked (line debit))
      (left (line debit) 195 97 "3,\"STORE          \",20240229,20240301,DEBIT,001,\"REFUND                        \",10.00,0.25,9.75\n")
      (left (line debit) 195 98 credit_row)
  pub rows_number :
      TellsOutcome (PutRowsSays (two κ)) (asked (line (ascii "L0") ++ line credit))
      (left (line (ascii "L0") ++ line credit) 199 98 "4,\"STORE          \",20240229,20240301,CREDIT,001,\"REFUND                        \",10.00,0.25,9.75\n")
      (left (line (ascii "L0") ++ line credit) 199 98 credit_row)
  pub rows_quote :
      TellsOutcome (PutRowsSays (two κ)) (asked (line (at 80 "\"" credit)))
      (left (line (at 80 "\"" credit)) 195 99 "3,\"STORE          \",20240229,20240301,CREDIT,001,\"\"\"EFUND                        \",10.00,0.25,9.75\n")
      (left (line (at 80 "\"" credit)) 195 98 "3,\"STORE          \",20240229,20240301,CREDIT,001,\"\"EFUND                        \",10.00,0.25,9.75\n")
  pub rows_computed :
      TellsOutcome (PutRowsSays (two κ)) (asked (line (at 80 "=" credit)))
      (left (line (at 80 "=" credit)) 195 99 "3,\"STORE          \",20240229,20240301,CREDIT,001,\"'=EFUND                        \",10.00,0.25,9.75\n")
      (left (line (at 80 "=" credit)) 195 98 "3,\"STORE          \",20240229,20240301,CREDIT,001,\"=EFUND                        \",10.00,0.25,9.75\n")
  pub rows_blanks :
      TellsOutcome (PutRowsSays (two κ)) (asked (line credit)) (left (line credit) 195 98 credit_row)
      (left (line credit) 195 64 "3,\"STORE\",20240229,20240301,CREDIT,001,\"REFUND\",10.00,0.25,9.75\n")
  pub rows_no_day :
      TellsOutcome (PutRowsSays (two κ)) (asked (line (at 30 "00000000" credit)))
      (left (line (at 30 "00000000" credit)) 195 90 "3,\"STORE          \",,20240301,CREDIT,001,\"REFUND                        \",10.00,0.25,9.75\n")
      (left (line (at 30 "00000000" credit)) 195 98 "3,\"STORE          \",00000000,20240301,CREDIT,001,\"REFUND                        \",10.00,0.25,9.75\n")
  pub rows_centavos :
      TellsOutcome (PutRowsSays (two κ)) (asked (line credit)) (left (line credit) 195 98 credit_row)
      (left (line credit) 195 94 "3,\"STORE          \",20240229,20240301,CREDIT,001,\"REFUND                        \",1000,25,975\n")
  pub rows_past_the_end :
      TellsOutcome (PutRowsSays (two κ)) (3, (lent (line credit), (lent_mut (room 2), tt)))
      (record { answer = record { lines = 195; size = 2 }; exit = (3, (lent (line credit), (lent_mut (ascii "3,"), tt))) })
      (record { answer = record { lines = 195; size = 98 }; exit = (3, (lent (line credit), (lent_mut (ascii "3,"), tt))) })
