-- HIDDEN DIGITS REACH NOTHING: "Two files are compared in demand 3 byte for byte outside the hidden digits."
use Rattle.std.specs.Prelude.{ℕ, ◌+◌, ◌-◌, ◌<◌, ◌≡◌, List, [], ◌∷◌, Bool, false, cond, ◌&&◌, length, get_or, leb, None, Option, Some}
use Rattle.text.specs.Alphabet.{digit}
use Rattle.pan.specs.HiddenPlaces.{hidden_place}
use Rattle.pan.specs.AgreeOutside.{AgreeOutside}
use Rattle.lines.specs.Lines.{cut, ends_in_cr, without_last}
use Rattle.card_record.specs.CardPart.{card_part, card_from}
use Rattle.card_mask.specs.Masked.{masked_file}
use Rattle.demands.specs.ToldAlike.{ToldAlike}

-- a place of a record, from 0, is hidden where it is a hidden place of the card that begins at k;
-- "It counts only in a record of kind CV, 199 wide, with a well-formed card field", and "now include the AJ card", in one 193 wide (a card that is not well formed, as
-- one of blanks, has no hidden place)
unfoldable pub hidden_at : (Option ℕ) → List ℕ → ℕ → Bool
hidden_at None r i = false
hidden_at (Some k) r i = leb k i && hidden_place (card_from k r) (i - k)

abbrev pub hidden_in_record : List ℕ → ℕ → Bool
hidden_in_record r i = hidden_at (card_part r) r i

-- "A record is the bytes up to the next CR LF": a piece before an LF is one where a CR ends it
abbrev pub hidden_in_piece : List ℕ → ℕ → Bool
hidden_in_piece p i = ends_in_cr p && hidden_in_record (without_last p) i

-- pieces, each followed by its LF: places count on from one to the next
unfoldable pub hidden_in_pieces : List (List ℕ) → ℕ → Bool
hidden_in_pieces [] i = false
hidden_in_pieces (p ∷ ps) i = cond (leb i (length p)) (hidden_in_piece p i) (hidden_in_pieces ps (i - (length p + 1)))

-- a place of a file is hidden where it is so in its piece; what stands behind the last LF is no record
abbrev pub hidden_in : List ℕ → ℕ → Bool
hidden_in file = hidden_in_pieces (cut file).pieces

-- "a digit there a hidden digit"; "byte for byte outside the hidden digits": at each place the same byte, or a hidden digit of both
abbrev pub TwinsWhere : (ℕ → Bool) → (ℕ → Bool) → List ℕ → List ℕ → Type 0
TwinsWhere hidden-in-s hidden-in-t s t =
    AgreeOutside (λ i. (hidden-in-s i && digit (get_or s i 0)) && (hidden-in-t i && digit (get_or t i 0))) s t

-- two records, and two files, that differ only in hidden digits
abbrev pub TwinRecords : List ℕ → List ℕ → Type 0
TwinRecords r s = TwinsWhere (hidden_in_record r) (hidden_in_record s) r s

abbrev pub TwinFiles : List ℕ → List ℕ → Type 0
TwinFiles s t = TwinsWhere (hidden_in s) (hidden_in t) s t

-- demand 3. The shared edition is 2, under which alone a file is read; what is said holds under every other too, which refuses all files
-- alike (`edition_first`, `edition_retired`)
abbrev pub HiddenDigitsReachNothing : Type 0
HiddenDigitsReachNothing = ToldAlike TwinRecords TwinFiles

-- "The masked copy is the accepted file with a star at each such place": byte for byte, of every file
pub record MaskedWhereHidden (file : List ℕ) : Type 0 where
  pub same_length : length (masked_file file) ≡ length file
  pub at_each : (i : ℕ) → i < length file → get_or (masked_file file) i 0 ≡ cond (hidden_in file i) 42 (get_or file i 0)
