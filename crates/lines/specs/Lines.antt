-- "A record is the bytes up to the next CR LF": a file's bytes, cut at each LF.
use Rattle.std.specs.Prelude.{ℕ, suc, ◌≡◌, List, [], ◌∷◌, ◌++◌, Bool, true, false, cond, ◌&&◌, length, drop, eqb, Option, Some, None}

-- CR and LF; "The line end is our choice"
abbrev pub cr : ℕ
cr = 13

abbrev pub lf : ℕ
lf = 10

-- the pieces before each LF, and the rest behind the last
pub record Lines : Type 0 where
  pub pieces : List (List ℕ)
  pub rest : List ℕ

-- a byte in front of what comes: of the first piece, or of the rest where there is no LF
unfoldable pub in_front : ℕ → List (List ℕ) → List ℕ → Lines
in_front b [] rest = record { pieces = []; rest = b ∷ rest }
in_front b (p ∷ ps) rest = record { pieces = (b ∷ p) ∷ ps; rest = rest }

unfoldable pub cut : List ℕ → Lines
cut [] = record { pieces = []; rest = [] }
cut (b ∷ s) = cond (eqb b lf) (record { pieces = [] ∷ (cut s).pieces; rest = (cut s).rest }) (in_front b (cut s).pieces (cut s).rest)

-- the cut undone: each piece followed by LF, then the rest
unfoldable pub rejoined : List (List ℕ) → List ℕ → List ℕ
rejoined [] rest = rest
rejoined (p ∷ ps) rest = p ++ (lf ∷ rejoined ps rest)

-- how many bytes the finished lines of some bytes take, each with its LF
abbrev pub finished_in : List ℕ → ℕ
finished_in s = length (rejoined (cut s).pieces [])

-- "records without LF": of one, and of all in a list
unfoldable pub no_lf : List ℕ → Bool
no_lf [] = true
no_lf (b ∷ s) = cond (eqb b lf) false (no_lf s)

unfoldable pub all_no_lf : List (List ℕ) → Bool
all_no_lf [] = true
all_no_lf (r ∷ rs) = no_lf r && all_no_lf rs

-- what makes pieces and a rest the cut of bytes: joined again they are the bytes, and none of them holds an LF
pub record IsCut (s : List ℕ) (ls : Lines) : Type 0 where
  pub whole : rejoined ls.pieces ls.rest ≡ s
  pub pieces_clear : all_no_lf ls.pieces ≡ true
  pub rest_clear : no_lf ls.rest ≡ true

-- records, each followed by CR LF, joined
unfoldable pub joined : List (List ℕ) → List ℕ
joined [] = []
joined (r ∷ rs) = r ++ (cr ∷ lf ∷ joined rs)

-- the piece that a record and its CR LF are cut into
abbrev pub with_cr : List ℕ → List ℕ
with_cr r = r ++ (cr ∷ [])

-- the place of the next LF, counted on from i
unfoldable pub lf_from : ℕ → List ℕ → Option ℕ
lf_from i [] = None
lf_from i (b ∷ s) = cond (eqb b lf) (Some i) (lf_from (suc i) s)

abbrev pub next_lf : ℕ → List ℕ → Option ℕ
next_lf from s = lf_from from (drop from s)

-- whether a piece ends in CR
unfoldable pub ends_in_cr : List ℕ → Bool
ends_in_cr [] = false
ends_in_cr (b ∷ []) = eqb b cr
ends_in_cr (b ∷ c ∷ s) = ends_in_cr (c ∷ s)

-- a piece without its last byte
unfoldable pub without_last : List ℕ → List ℕ
without_last [] = []
without_last (b ∷ []) = []
without_last (b ∷ c ∷ s) = b ∷ without_last (c ∷ s)
