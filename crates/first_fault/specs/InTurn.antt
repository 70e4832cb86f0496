-- THE FIRST FAULT of a file, for any rules: what comes next in it is judged by the records before alone, and the first place that breaks a rule, with the first rule
-- that is broken there, is the fault.
use Rattle.std.specs.Prelude.{ℕ, ◌≡◌, List, [], ◌∷◌, ◌++◌, map, Bool, true, ◌&&◌}
use Rattle.refusal.specs.declared.Cause.{Cause}
use Rattle.refusal.specs.Rules.{Rule, all_hold, FirstBroken}
use Rattle.lines.specs.Lines.{Lines, cut, without_last}

-- what comes next in a file: a piece that an LF ends, or what is left behind the last LF
pub data Next : Type 0 where
  piece : List ℕ → Next
  rest : List ℕ → Next

-- all that a file holds, in turn
abbrev pub in_turn : Lines → List Next
in_turn ls = map piece ls.pieces ++ (rest ls.rest ∷ [])

-- the records of pieces, each without the CR that ends it
abbrev pub records_in : List (List ℕ) → List (List ℕ)
records_in pieces = map without_last pieces

-- the rules of what comes next behind records
abbrev pub RulesBehind : Type 0
RulesBehind = List (List ℕ) → Next → List Rule

-- every rule of every piece holds, behind the records before it
unfoldable pub pieces_hold : RulesBehind → List (List ℕ) → List (List ℕ) → Bool
pieces_hold rules before [] = true
pieces_hold rules before (p ∷ ps) = all_hold (rules before (piece p)) && pieces_hold rules (before ++ (without_last p ∷ [])) ps

-- a file's first fault
pub record FirstFault (rules : RulesBehind) (file : List ℕ) (cause : Cause) (column : ℕ) : Type 0 where
  -- there are pieces all of whose rules hold,
  pub earlier : List (List ℕ)
  pub all_hold_lem : pieces_hold rules [] earlier ≡ true
  -- and what comes behind them, a piece or the rest,
  pub here : Next
  pub later : List Next
  pub split : in_turn (cut file) ≡ map piece earlier ++ (here ∷ later)
  -- breaks a rule, the first of which gives the cause and the column
  pub first_broken_lem : FirstBroken (rules (records_in earlier) here) cause column

-- every rule of a file holds: of each piece, and of the rest
pub record NoFault (rules : RulesBehind) (file : List ℕ) : Type 0 where
  pub pieces_hold_lem : pieces_hold rules [] (cut file).pieces ≡ true
  pub rest_holds : all_hold (rules (records_in (cut file).pieces) (rest (cut file).rest)) ≡ true

-- in a file a piece comes behind pieces all of whose rules hold
pub record ComesBehind (rules : RulesBehind) (file : List ℕ) (earlier : List (List ℕ)) (p : List ℕ) : Type 0 where
  pub later : List (List ℕ)
  pub split : (cut file).pieces ≡ earlier ++ (p ∷ later)
  pub all_hold_lem : pieces_hold rules [] earlier ≡ true
