-- What is decided, whatever the calls answer. An end, and the steps behind the rename, are sets of steps that no answer leaves, and the table computes which
-- calls lead into them; the calls that are left are counted down.
use Prim.Native.Nat.{◌+◌, ◌≤◌, ◌<◌}
use mathlib.Core.Path.{◌≡◌, refl, sym, ap, subst, ◌∙◌}
use mathlib.Core.Logic.{◌⊎◌, inl, inr, ⊎_elim}
use mathlib.Core.List.Memᴰ
use mathlib.Core.List.{List, [], ◌∷◌, Memᴰ}
use mathlib.Core.Bool.{Bool, true, false, not, ◌&&◌, ◌||◌, true≢false, false≢true}
use native.Mathlib.Omega.{arith}
use lib.ListN.{length}
use lib.Dec.{leb, ltb}
use borrow.Author.Tests.{ltb-true, le-leb, not-true}
use Rattle.text.proofs.Alphabets.{both_left, both_right}
use Rattle.out_file.specs.Saving.{if_well, next_of, is_over, is_well, run_from, calls_from, Asked, AskedFor, Failed, calls_left, one_more, writes_from, Decided}
use Rattle.out_file.specs.declared.step.Step.{Step}
use Rattle.out_file.specs.declared.step.Step.TheVariants.{Create, Rename, SyncFolder, Remove, Kept, Unsynced, Gone}
use Rattle.out_file.specs.declared.step.Went.{Went}
use Rattle.out_file.specs.declared.step.Went.TheVariants.{Well, Last, Wrong}
use Rattle.out_file.proofs.Everywhere.{is, one_of, is_it, it_is, whenever}
use Rattle.out_file.proofs.Runs.{either, held, led, entered}
use Rattle.out_file.proofs.WayOn.{way_on}

-- what a test says of an answer
is_well_lem : (w : Went) → is_well w ≡ true → w ≡ Well
is_well_lem Well e = refl
is_well_lem Last e = absurd (false≢true e)
is_well_lem Wrong e = absurd (false≢true e)

not_well : (w : Went) → is_well w ≡ false → w ≡ Well → ⊥
not_well w e q = true≢false (sym (ap is_well q) ∙ e)

-- a call that did not go well leads off
off : (w : Went) (good bad : Step) → (w ≡ Well → ⊥) → if_well w good bad ≡ bad
off Well good bad h = absurd (h refl)
off Last good bad h = refl
off Wrong good bad h = refl

module _ (ws : List Went) {t : Step} {v : Went} (m : Memᴰ (t, v) (calls_from Create ws)) (s : Step) where
  -- a call that is this step's was asked for; it went well, or failed
  asked : is s t ≡ true → Asked s v ws
  asked e = Memᴰ.cast (ap (λ (u : Step). (u, v)) (sym (is_it e))) m

  asked_for : is s t ≡ true → AskedFor s ws
  asked_for e = (v, asked e)

  went_well : is s t && is_well v ≡ true → Asked s Well ws
  went_well e =
      subst (λ (u : Went). Asked s u ws) (is_well_lem v (both_right (is s t) (is_well v) e)) (asked (both_left (is s t) (is_well v) e))

  failed : is s t && not (is_well v) ≡ true → Failed s ws
  failed e =
      (v, asked (both_left (is s t) (not (is_well v)) e), not_well v (not-true _ (both_right (is s t) (not (is_well v)) e)))

-- the steps of a file that has its path
abbrev behind : Step → Bool
behind = one_of (SyncFolder ∷ Kept ∷ Unsynced ∷ [])

module _ (ws : List Went) where
  behind_named : behind (run_from Create ws) ≡ true → Asked Rename Well ws
  behind_named e =
      let c = entered behind (λ s w. is Rename s && is_well w) refl Create ws refl e in
      went_well ws c.2 Rename c.3

  synced_named : AskedFor SyncFolder ws → Asked Rename Well ws
  unfolding run_from
  synced_named a = behind_named (led behind refl Create ws a.1 (held behind refl SyncFolder (a.0 ∷ []) refl))

  removed_gone : AskedFor Remove ws → run_from Create ws ≡ Gone
  removed_gone a = is_it (led (is Gone) refl Create ws a.1 refl)

  unmade_gone : Failed Create ws → run_from Create ws ≡ Gone
  unmade_gone f = is_it (led (is Gone) refl Create ws f.1 (it_is (off f.0 _ Gone f.2)))

  gone_by : run_from Create ws ≡ Gone → Failed Create ws ⊎ AskedFor Remove ws
  gone_by e =
      let c = entered (is Gone) (λ s w. is Create s && not (is_well w) || is Remove s) refl Create ws refl (it_is e) in
      ⊎_elim (λ h. inl (failed ws c.2 Create h)) (λ h. inr (asked_for ws c.2 Remove h)) (either _ _ c.3)

  unsynced_by : run_from Create ws ≡ Unsynced → Failed SyncFolder ws
  unsynced_by e =
      let c = entered (is Unsynced) (λ s w. is SyncFolder s && not (is_well w)) refl Create ws refl (it_is e) in
      failed ws c.2 SyncFolder c.3

  unsynced_told : Failed SyncFolder ws → run_from Create ws ≡ Unsynced
  unsynced_told f = is_it (led (is Unsynced) refl Create ws f.1 (it_is (off f.0 _ Unsynced f.2)))

  kept_by : run_from Create ws ≡ Kept → Asked SyncFolder Well ws
  kept_by e =
      let c = entered (is Kept) (λ s w. is SyncFolder s && is_well w) refl Create ws refl (it_is e) in
      went_well ws c.2 SyncFolder c.3

  over_by : is_over (run_from Create ws) ≡ true → Failed Create ws ⊎ Asked Rename Well ws ⊎ AskedFor Remove ws
  over_by e =
      let c = entered is_over (λ s w. is Create s && not (is_well w) || (is SyncFolder s || is Remove s)) refl Create ws refl e in
      ⊎_elim
      (λ h. inl (failed ws c.2 Create h))
      (λ h. inr (⊎_elim (λ k. inl (synced_named (asked_for ws c.2 SyncFolder k))) (λ k. inr (asked_for ws c.2 Remove k)) (either _ _ h)))
      (either _ _ c.3)

-- an end stays
over_stays : (s : Step) (ws : List Went) → is_over s ≡ true → run_from s ws ≡ s
unfolding run_from
over_stays s [] e = refl
over_stays s (w ∷ ws) e =
    ap (λ (t : Step). run_from t ws) (is_it (whenever (λ s w. is_over s) (λ s w. is s (next_of s w)) refl s w e)) ∙ over_stays s ws e

fewer : (s : Step) (w : Went) → is_over s ≡ false → calls_left (next_of s w) < calls_left s + one_more s w
fewer s w e =
    ltb-true _ _ (whenever (λ s w. not (is_over s)) (λ s w. ltb (calls_left (next_of s w)) (calls_left s + one_more s w)) refl s w (ap not e))

-- a run that is as long as its calls left and its writes has ended
abbrev EndsWithin : Step → List Went → Type 0
EndsWithin s ws = calls_left s + writes_from s ws ≤ length ws → is_over (run_from s ws) ≡ true

module _ (s : Step) (w : Went) (ws : List Went) (later : EndsWithin (next_of s w) ws) where
  ended_on : (b : Bool) → is_over s ≡ b → EndsWithin s (w ∷ ws)
  unfolding run_from writes_from
  ended_on true e h = held is_over refl s (w ∷ ws) e
  ended_on false e h = later (omega (arith, fewer s w e))

ended : (s : Step) (ws : List Went) → EndsWithin s ws
unfolding run_from writes_from
ended s [] h =
    whenever (λ s w. leb (calls_left s) 0) (λ s w. is_over s) refl s Well (le-leb (calls_left s) 0 (omega arith))
ended s (w ∷ ws) h = ended_on s w ws (ended (next_of s w) ws) (is_over s) refl h

pub decided : Decided
decided =
    record {
      whole = way_on Create;
      cleared = over_by;
      stays = λ ws n r. false≢true (sym (ap behind (removed_gone ws r)) ∙ led behind refl Create ws n refl);
      named = synced_named;
      gone = λ ws. (gone_by ws, ⊎_elim (unmade_gone ws) (removed_gone ws));
      unsynced = λ ws. (unsynced_by ws, unsynced_told ws);
      kept = λ ws. (kept_by ws, λ m. is_it (led (is Kept) refl Create ws m refl));
      over = over_stays;
      nearer = fewer;
      ends = ended Create;
    }
