-- "h = 0, then for each byte h = (h*31 + byte) mod 2^32"
use Rattle.std.specs.Prelude.{ℕ, ◌+◌, ◌*◌, ◌%◌, List, [], ◌∷◌}

-- the hash of bytes behind those of hash h
unfoldable pub hash_from : ℕ → List ℕ → ℕ
hash_from h [] = h
hash_from h (b ∷ s) = hash_from ((h * 31 + b) % 4294967296) s
