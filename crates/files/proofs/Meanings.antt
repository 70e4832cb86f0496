-- What the answers of reads mean: what is promised of one, and that a failed read is never taken for the end, however many reads there are.
use Prim.Native.Nat.{ℕ, ◌≤◌, min}
use mathlib.Core.Path.{◌≡◌, refl, sym, ◌∙◌, ap, subst}
use mathlib.Core.List.{List, [], ◌∷◌}
use mathlib.Core.Bool.{Bool, true, false, cond, true≢false}
use native.Mathlib.Omega.{arith}
use lib.IntN.{ℤ, pos, negsuc}
use lib.Signed.{lt_z}
use lib.Dec.{eqb}
use borrow.Author.Tests.{ltb-true, eqb-true, eqb-false, eq-eqb, ne_eqb}
use Rattle.io.specs.Counts.{clamp_len}
use Rattle.std.specs.Prelude.{None, Some, Ok, Err}
use Rattle.files.specs.Loaded.{Got, GotWithin}
use Rattle.files.specs.Reading.{moved_of, got_of, Read, meaning, onwards, stands_after, AllMoved, Ended}

-- an answer below 0 is a failure
pub below_zero : (answer : ℤ) (error room : ℕ) → lt_z answer (pos 0) ≡ true → Err error ≡ got_of answer error room
unfolding got_of
below_zero (pos n) error room h = absurd (omega (arith, ltb-true n 0 h))
below_zero (negsuc n) error room h = refl

-- so is one for which there was no room
pub no_room : (answer : ℤ) (error room : ℕ) → eqb room 0 ≡ true → Err error ≡ got_of answer error room
unfolding got_of
no_room (pos n) error room e = rw e
no_room (negsuc n) error room e = refl

-- any other moved as many bytes as it counts
module _ (answer : ℤ) (error room n : ℕ) (positive : lt_z answer (pos 0) ≡ false) (some_room : eqb room 0 ≡ false) (count : n ≡ clamp_len answer room) where
  moves : moved_of n ≡ got_of answer error room
  unfolding got_of
  moves = by answer positive count
    where
      by : (z : ℤ) → lt_z z (pos 0) ≡ false → n ≡ clamp_len z room → moved_of n ≡ got_of z error room
      by (pos k) h e = rw (some_room, e)
      by (negsuc k) h e = absurd (true≢false h)

  pub none_moved : n ≡ 0 → Ok None ≡ got_of answer error room
  none_moved e = let z : Ok None ≡ moved_of n = rw (eq-eqb n 0 e) in z ∙ moves

  pub some_moved : (n ≡ 0 → ⊥) → Ok (Some n) ≡ got_of answer error room
  some_moved some = let z : Ok (Some n) ≡ moved_of n = rw (ne_eqb n 0 some) in z ∙ moves

-- what a read moves lies within its room
moved_within : (n room : ℕ) → n ≤ room → GotWithin room (moved_of n)
moved_within n room h = by (eqb n 0) refl
  where
    by : (test : Bool) → eqb n 0 ≡ test → GotWithin room (cond test (Ok None) (Ok (Some n)))
    by true e = tt
    by false e = (omega (arith, eqb-false n 0 e), h)

within : (answer : ℤ) (error room : ℕ) → GotWithin room (got_of answer error room)
unfolding got_of
within (negsuc n) error room = tt
within (pos n) error room = by (eqb room 0)
  where
    by : (test : Bool) → GotWithin room (cond test (Err error) (moved_of (min n room)))
    by true = tt
    by false = moved_within (min n room) room (omega arith)

pub meant_within : {got : Got} (answer : ℤ) (error room size : ℕ) → got ≡ got_of answer error room → room ≡ size → GotWithin size got
meant_within {got} answer error room size e same = subst (λ (n : ℕ). GotWithin n got) same (subst (GotWithin room) (sym e) (within answer error room))

-- the end is an answer of 0, where there was room
is_end : Got → Bool
is_end (Ok (Some n)) = false
is_end (Ok None) = true
is_end (Err error) = false

zero_ends : (answer : ℤ) (error room : ℕ) → got_of answer error room ≡ Ok None → answer ≡ pos 0
unfolding is_end got_of
zero_ends (negsuc n) error room e = absurd (true≢false (sym (ap is_end e)))
zero_ends (pos n) error room e = by (eqb room 0) refl e
  where
    none : (test : Bool) → eqb (min n room) 0 ≡ test → eqb room 0 ≡ false → cond {A = Got} test (Ok None) (Ok (Some (min n room))) ≡ Ok None → pos n ≡ pos 0
    none true h k e =
        let z : n ≡ 0 = omega (arith, eqb-true (min n room) 0 h, eqb-false room 0 k) in
        ap pos z
    none false h k e = absurd (true≢false (sym (ap is_end e)))

    by : (test : Bool) → eqb room 0 ≡ test → cond {A = Got} test (Err error) (moved_of (min n room)) ≡ Ok None → pos n ≡ pos 0
    by true k e = absurd (true≢false (sym (ap is_end e)))
    by false k e = none (eqb (min n room) 0) refl k e

room_there : (answer : ℤ) (error room : ℕ) → got_of answer error room ≡ Ok None → room ≡ 0 → ⊥
unfolding is_end
room_there answer error room e z = true≢false (sym (ap is_end (no_room answer error room (eq-eqb room 0 z) ∙ e)))

-- once it is decided, later reads change nothing
decided : (now : Got) (reads : List Read) → ((later : Got) → onwards now later ≡ now) → stands_after now reads ≡ now
unfolding stands_after
decided now [] stays = refl
decided now (r ∷ reads) stays = ap (λ (g : Got). stands_after g reads) (stays (meaning r)) ∙ decided now reads stays

-- a failed read is never taken for the end
pub never_the_end : (reads : List Read) (n : ℕ) → stands_after (Ok (Some n)) reads ≡ Ok None → Ended reads
unfolding stands_after AllMoved is_end
never_the_end [] n e = absurd (true≢false (sym (ap is_end e)))
never_the_end (r ∷ reads) n e = by (meaning r) refl e (never_the_end reads)
  where
    further : (m : ℕ) → meaning r ≡ Ok (Some m) → Ended reads → Ended (r ∷ reads)
    further m is w =
        record {
          before = r ∷ w.before;
          last = w.last;
          after = w.after;
          in_a_row = ap (λ (l : List Read). r ∷ l) w.in_a_row;
          all_moved = ((m, is), w.all_moved);
          no_failure = w.no_failure;
          some_room = w.some_room;
        }

    by : (got : Got) → meaning r ≡ got → stands_after got reads ≡ Ok None → ((m : ℕ) → stands_after (Ok (Some m)) reads ≡ Ok None → Ended reads) → Ended (r ∷ reads)
    by (Ok (Some m)) is e rest = further m is (rest m e)
    by (Ok None) is e rest =
        record {
          before = [];
          last = r;
          after = reads;
          in_a_row = refl;
          all_moved = tt;
          no_failure = zero_ends r.answer r.error r.room is;
          some_room = room_there r.answer r.error r.room is;
        }
    by (Err error) is e rest = absurd (true≢false (sym (ap is_end (sym (decided (Err error) reads (λ later. refl)) ∙ e))))
