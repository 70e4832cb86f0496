-- Laws of numbers and hashes: what one more byte does to them.
use Rattle.std.proofs.Common.{◌≡◌, ℕ, ◌+◌, ◌*◌, ◌%◌, ◌<◌, ◌≤◌, List, length, get_or, drop, add-one, drop_of_length-le, drop-cons}
use Rattle.cases.specs.Cursor.{high_first}
use Rattle.cases.specs.Hash.{hash_from}

-- one more byte of a number, and none left
pub byte_more : (n : ℕ) (s : List ℕ) (i : ℕ) → i < length s → high_first n (drop i s) ≡ high_first (n % 72057594037927936 * 256 + get_or s i 0) (drop (i + 1) s)
unfolding high_first
byte_more n s i h = rw (drop-cons s i 0 h, add-one)

pub bytes_end : (n : ℕ) (s : List ℕ) (i : ℕ) → length s ≤ i → high_first n (drop i s) ≡ n
unfolding high_first
bytes_end n s i h = rw (drop_of_length-le s h)

-- one more byte of a hash, and none left
pub hash_more : (h : ℕ) (s : List ℕ) (i : ℕ) → i < length s →
    hash_from h (drop i s) ≡ hash_from ((h * 31 + get_or s i 0) % 4294967296) (drop (i + 1) s)
unfolding hash_from
hash_more h s i l = rw (drop-cons s i 0 l, add-one)

pub hash_end : (h : ℕ) (s : List ℕ) (i : ℕ) → length s ≤ i → hash_from h (drop i s) ≡ h
unfolding hash_from
hash_end h s i l = rw (drop_of_length-le s l)
