-- Two records that are equal outside one part of them.
use Rattle.std.specs.Prelude.{ℕ, ◌≡◌, List, take, drop}

-- the same bytes at each place but those from `from` up to, and without, `to`
pub record EqualOutside (from to : ℕ) (r s : List ℕ) : Type 0 where
  pub before : take from r ≡ take from s
  pub behind : drop to r ≡ drop to s
