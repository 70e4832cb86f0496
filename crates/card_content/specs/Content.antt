-- What a field may hold, as rules: 7, "byte not allowed in its field", before 8, "field's value not allowed".
use Rattle.std.specs.Prelude.{ℕ, List, [], ◌∷◌, Bool, cond, ◌&&◌, ◌||◌, replicate, eqb}
use Rattle.refusal.specs.declared.Cause.TheVariants.{ByteNotAllowed, ValueNotAllowed}
use Rattle.refusal.specs.Rules.{Rule, rule_at}
use Rattle.text.specs.declared.alphabet.Alphabet.TheVariants.{Digits as digits, CardText as card_text}
use Rattle.text.specs.Alphabet.{holds_only}
use Rattle.text.specs.Literal.{ascii, same_bytes, one_byte_of}
use Rattle.calendar.specs.When.{when_rules}
use Rattle.calendar.specs.Day.{year_first}
use Rattle.calendar.specs.Time.{time_of}
use Rattle.pan.specs.CardField.{well_formed}
use Rattle.card_content.specs.declared.content.ClosedSet.{ClosedSet}
use Rattle.card_content.specs.declared.content.ClosedSet.TheVariants.{Version, Processing, Currency, LaunchType, Product, Capture, AdjustmentCapture, AdjustmentType}
use Rattle.card_content.specs.declared.content.Content.{Content}
use Rattle.card_content.specs.declared.content.Content.TheVariants.{Digits, Text, Day, DayOrZeros, Time, Card, CardOrBlanks, OneOf}

-- "currency 11-12, RE, DO, PE or two blanks"
abbrev pub is_currency : List ℕ → Bool
is_currency p = same_bytes p (ascii "RE") || (same_bytes p (ascii "DO") || (same_bytes p (ascii "PE") || same_bytes p (ascii "  ")))

-- a set that goes by the edition has a row for each under which files are read: these bytes under this edition, and none under another
abbrev pub in_row : ℕ → List ℕ → ℕ → List ℕ → Bool
in_row row values edition p = eqb edition row && one_byte_of values p

-- "capture 54 (1 to 9, and 7 only under edition 2)"
abbrev pub is_capture : ℕ → List ℕ → Bool
is_capture = in_row 2 (ascii "123456789")

-- the capture of an AJ, as document 003 prints it: 1 to 7 and 9
abbrev pub is_adjustment_capture : ℕ → List ℕ → Bool
is_adjustment_capture = in_row 2 (ascii "12345679")

-- the closed sets, the capture and the type of an adjustment among them
unfoldable pub in_set : ClosedSet → ℕ → List ℕ → Bool
in_set Version edition p = same_bytes p (ascii "001.7d")  -- "version 3-8 "001.7d""
in_set Processing edition p = one_byte_of (ascii "NR") p  -- "processing 69, N or R"
in_set Currency edition p = is_currency p
in_set LaunchType edition p = one_byte_of (ascii "012") p  -- "launch type 44 (0 forecast, 1 normal, 2 advanced)"
in_set Product edition p = one_byte_of (ascii "CDV") p  -- "product 53 (C, D, V)"
in_set Capture edition p = is_capture edition p
in_set AdjustmentCapture edition p = is_adjustment_capture edition p
in_set AdjustmentType edition p = one_byte_of (ascii "12") p  -- 1 credit, 2 debit

-- "a date .. marked optional may be all zeros", byte 48, of which a day has eight
abbrev pub no_day : List ℕ
no_day = replicate 8 48

unfoldable pub day_or_zeros_rules : ℕ → List ℕ → List Rule
day_or_zeros_rules column p = cond (same_bytes p no_day) [] (when_rules column (year_first p))

-- "a card so marked all blanks", byte 32, of which it has nineteen
abbrev pub no_card : List ℕ
no_card = replicate 19 32

unfoldable pub card_or_blanks_rules : ℕ → List ℕ → List Rule
card_or_blanks_rules column p = rule_at ByteNotAllowed column (same_bytes p no_card || well_formed p) ∷ []

-- the rules of a field by its content: "N is digits only, as are dates, times, amounts, instalment numbers and NSEQ (else 7)";
-- "A field with a closed set (version, processing, currency, launch type, product, capture) gives 8 only"
unfoldable pub content_rules : Content → ℕ → ℕ → List ℕ → List Rule
content_rules Digits edition column p = rule_at ByteNotAllowed column (holds_only digits p) ∷ []
content_rules Text edition column p = rule_at ByteNotAllowed column (holds_only card_text p) ∷ []  -- AN: "bytes 160 to 255 besides 32 to 126"
content_rules Day edition column p = when_rules column (year_first p)
content_rules DayOrZeros edition column p = day_or_zeros_rules column p
content_rules Time edition column p = when_rules column (time_of p)
content_rules Card edition column p = rule_at ByteNotAllowed column (well_formed p) ∷ []  -- "The card field holds digits and stars only (7)"
content_rules CardOrBlanks edition column p = card_or_blanks_rules column p
content_rules (OneOf set) edition column p = rule_at ValueNotAllowed column (in_set set edition p) ∷ []
