-- An admitting that is taken: its rows hold, and the board has the job behind the others.
use mathlib.Core.Path.{◌≡◌, sym, ◌∙◌}
use mathlib.Core.Bool.{true}
use mathlib.Core.List.{[], ◌∷◌, ◌++◌}
use Prim.Native.Nat.{ℕ}
use native.Mathlib.Omega.{arith}
use Rattle.rule.specs.Job.{job}
use Rattle.board.specs.declared.Board.{Board}
use Rattle.board.specs.Held.{slot_of, held, in_slot}
use Rattle.board.specs.Sound.{sound}
use Rattle.board.specs.Admit.{admit_number, with_job}
use Rattle.board.proofs.Soundness.Apart.{facts}
use Rattle.board.proofs.Soundness.Room.{room}
use Rattle.board.proofs.Calls.Rows.{Admits, admits}
use Rattle.board.proofs.Calls.HeldAfter.{held_with_job}
use Rattle.board.proofs.Calls.SoundAfter.{admit_number_sound}

module _ (b : Board) (t w g : ℕ) (s : sound b ≡ true) (e : admit_number b t w g ≡ 0) where
  pub taken_rows : Admits (slot_of b) b.highest (in_slot b) b.depth t w g
  taken_rows = admits (slot_of b) b.highest (in_slot b) b.depth t w g (sym (admit_number_sound b t w g s) ∙ e)

  pub held_taken : held (with_job b t w g) ≡ held b ++ (job t (slot_of b) w g ∷ [])
  held_taken = let f = facts b s in held_with_job b t w g (omega (arith, f.full, room b f taken_rows.room))
