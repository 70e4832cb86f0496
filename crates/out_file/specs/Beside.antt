-- The temporary name of a file that is to have a path.
use Rattle.std.specs.Prelude.{ℕ, suc, min, ◌≡◌, List, [], ◌∷◌, ◌++◌, cond, take, eqb, ltb}
use Rattle.text.specs.Literal.{ascii}
use Rattle.io.specs.Counts.{IsPrefixLen}

-- how many bytes stand up to the last '/' and with it; 0 where there is none
unfoldable pub folder_size : List ℕ → ℕ
folder_size [] = 0
folder_size (b ∷ s) = cond (ltb 0 (folder_size s)) (suc (folder_size s)) (cond (eqb b 47) 1 0)

-- the folder's part of a path; of a folder longer than any path can be, more than a path can hold
abbrev pub folder_of : List ℕ → List ℕ
folder_of path = take (min (folder_size path) 4096) path

-- the first bytes of a buffer are the folder, ".lossivurn-" and the mark
pub record Named (path mark : List ℕ) (size : ℕ) (name : List ℕ) : Type 0 where
  pub counts : IsPrefixLen size name
  pub content : take size name ≡ folder_of path ++ (ascii ".lossivurn-" ++ mark)
