-- Every call keeps a sound board sound.
use mathlib.Core.Path.{◌≡◌}
use mathlib.Core.Bool.{true}
use Rattle.board.specs.declared.Board.{Board}
use Rattle.board.specs.Sound.{sound}
use Rattle.board.proofs.Calls.SoundAfter.{admitted_sound, closed_sound, withdrawn_sound}
use Rattle.claims.specs.Calls.{Call, admit, close, withdraw, board_after}

pub sound_kept : (b : Board) (c : Call) → sound b ≡ true → sound (board_after b c) ≡ true
unfolding board_after
sound_kept b (admit t w g) s = admitted_sound b t w g s
sound_kept b (close lent) s = closed_sound b lent s
sound_kept b (withdraw t) s = withdrawn_sound b t s
