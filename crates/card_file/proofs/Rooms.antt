-- A file that is accepted by a question that writes has room, and the check accepted it; with room the question answers as the check, and under an edition that is refused it refuses
-- every file, whatever its room.
use Prim.Native.Nat.{ℕ, ◌≤◌}
use mathlib.Core.Path.{◌≡◌, refl, sym, ◌∙◌, ap}
use mathlib.Core.List.{List, [], ◌∷◌}
use mathlib.Core.Bool.{Bool, true, false}
use lib.Dec.{leb}
use borrow.Author.Tests.{le-leb, leb-true}
use Rattle.refusal.specs.declared.Cause.{Cause}
use Rattle.refusal.specs.declared.Cause.TheVariants.{OutputTooShort}
use Rattle.refusal.specs.Fault.{rule_of, earlier_of, Judged, at, nothing}
use Rattle.refusal.specs.Nowhere.{nowhere}
use Rattle.refusal.specs.Rules.{rule_at, first_broken}
use Rattle.refusal.proofs.Rules.{in_a_row}
use Rattle.refusal.proofs.Faults.{nothing_second}
use Rattle.edition.specs.Known.{edition_rules, edition_fault}
use Rattle.card_run.specs.declared.answer.Accepted.{Accepted as Numbers}
use Rattle.card_file.specs.CardFile.{check_of}
use Rattle.card_file.specs.Room.{room_rules, answer_behind, answer_with_room}
use Rattle.std.specs.Prelude.{Err, Ok, Some}

-- the fault before any record: the edition's, then that of the room
pub room_fault : (edition need room : ℕ) → first_broken (room_rules edition need room) ≡ earlier_of (edition_fault edition) (rule_of OutputTooShort 0 (leb need room))
unfolding first_broken
room_fault edition need room =
    let fits = rule_at OutputTooShort 0 (leb need room) in
    in_a_row (edition_rules edition) (fits ∷ []) ∙ ap (earlier_of (edition_fault edition)) (nothing_second _)

-- a question that writes, by that fault
module _ (edition : ℕ) (file : List ℕ) (need room : ℕ) where
  pub none_found : first_broken (room_rules edition need room) ≡ nothing → answer_with_room edition file need room ≡ check_of edition file
  unfolding answer_with_room
  none_found e = rw e

  pub one_found : {cause : Cause} {column : ℕ} → first_broken (room_rules edition need room) ≡ at cause column → answer_with_room edition file need room ≡ Some (Err (nowhere cause))
  unfolding answer_with_room
  one_found e = rw e

  -- under an edition that is refused
  pub edition_refused : {cause : Cause} {column : ℕ} → edition_fault edition ≡ at cause column → answer_with_room edition file need room ≡ Some (Err (nowhere cause))
  edition_refused e = one_found (room_fault edition need room ∙ ap (λ f. earlier_of f (rule_of OutputTooShort 0 (leb need room))) e)

  -- with room, under an edition that is not
  pub as_checked : edition_fault edition ≡ nothing → need ≤ room → answer_with_room edition file need room ≡ check_of edition file
  as_checked e h = none_found (room_fault edition need room ∙ rw (e, le-leb need room h))

  -- accepted
  module _ (a : Numbers) (e : answer_with_room edition file need room ≡ Some (Ok a)) where
    accepts : (f : Judged) (q : Bool) → answer_behind (earlier_of f (rule_of OutputTooShort 0 q)) (check_of edition file) ≡ Some (Ok a) →
        (f ≡ nothing) × (q ≡ true) × (check_of edition file ≡ Some (Ok a))
    accepts (Ok none) true e = (refl, refl, e)
    accepts (Ok none) false e = (cc, cc, cc)
    accepts (Err fault) q e = (cc, cc, cc)

    accepted : (edition_fault edition ≡ nothing) × (leb need room ≡ true) × (check_of edition file ≡ Some (Ok a))
    unfolding answer_with_room
    accepted = accepts (edition_fault edition) (leb need room) (ap (λ f. answer_behind f (check_of edition file)) (sym (room_fault edition need room)) ∙ e)

    pub right_edition : edition_fault edition ≡ nothing
    right_edition = accepted.0

    pub has_room : need ≤ room
    has_room = leb-true need room accepted.1

    pub was_checked : check_of edition file ≡ Some (Ok a)
    was_checked = accepted.2
