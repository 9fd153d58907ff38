-- On a sound board admitting within the limits is 01's admitting.
use mathlib.Core.Path.{◌≡◌, refl, sym, ap, ◌∙◌}
use mathlib.Core.Bool.{true, false}
use mathlib.Core.List.{[], ◌∷◌}
use Prim.Native.Nat.{ℕ, zero, suc}
use lib.Dec.{leb}
use Rattle.std.specs.Prelude.{Err}
use borrow.Author.Tests.{lt-leb}
use Rattle.board.specs.declared.Board.{Board}
use Rattle.board.specs.declared.refusal.Refusal.TheVariants.{NotSound}
use Rattle.board.specs.Limits.{places_held}
use Rattle.board.specs.Rows.{◌if◌, first_given, admit_rows}
use Rattle.board.specs.Held.{slot_of, in_slot}
use Rattle.board.specs.Sound.{sound}
use Rattle.board.specs.Admit.{admit_number, admitted_if, admitted}
use Rattle.board.proofs.Soundness.FreePlace.{free_place}
use Rattle.board.proofs.Calls.Rows.{row_skipped, admits}
use Rattle.board.proofs.Calls.SoundAfter.{admit_number_sound}
use Rattle.limits.specs.Inner.Limits.{◌or_else◌}
use Rattle.admitting.specs.Inner.InLimits.{in_slot_before, admit_number_in_limits, admitted_in_limits}
use Rattle.admitting.specs.Inner.Answer.{admitted_answer}
use Rattle.limits.proofs.Limits.{sound_in_limits, limits_passed}
use Rattle.admitting.proofs.InSlot.{in_slot_is}

module _ (b : Board) (t w g : ℕ) (s : sound b ≡ true) where
  -- rows 3 to 7 give the number
  rows : first_given (admit_rows (slot_of b) b.highest (in_slot_before b b.count) b.depth t w g) ≡ admit_number b t w g
  rows =
      ap (λ n. first_given (admit_rows (slot_of b) b.highest n b.depth t w g)) (in_slot_is b s) ∙ sym (admit_number_sound b t w g s)

  -- where they let the job through there is a free place
  free : (n : ℕ) → admit_number b t w g ≡ n → (n or_else first_given (2 if leb places_held b.count ∷ [])) ≡ n
  unfolding ◌or_else◌ first_given
  free (suc n) e = refl
  free zero e =
      let a = admits (slot_of b) b.highest (in_slot b) b.depth t w g (sym (admit_number_sound b t w g s) ∙ e) in
      row_skipped 2 (leb places_held b.count) [] (lt-leb places_held b.count (free_place b s a.room))

  same_number : admit_number_in_limits b t w g ≡ admit_number b t w g
  unfolding admit_number_in_limits ◌or_else◌
  same_number = rw (limits_passed b (sound_in_limits b s), rows) (free (admit_number b t w g) refl)

  pub admitting_on_sound : admitted_in_limits b t w g ≡ admitted b t w g
  unfolding admitted_in_limits admitted
  admitting_on_sound = ap (λ n. admitted_if n b t w g) same_number

-- row 2
pub admitting_unsound : (b : Board) (t w g : ℕ) → sound b ≡ false → admitted_answer (Err NotSound) b ≡ admitted b t w g
unfolding admitted admit_number admitted_if first_given ◌if◌
admitting_unsound b t w g e = simp e
