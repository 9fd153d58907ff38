-- The program never meets 2, 8, 9 or 10.
use mathlib.Core.Path.{◌≡◌, refl}
use mathlib.Core.Bool.{true}
use mathlib.Core.List.{List, [], ◌∷◌}
use Rattle.lists.specs.Select.{every}
use Rattle.lists.proofs.Members.{every_append}
use Rattle.lines.specs.Bytes.{Bytes, lines}
use Rattle.lines.specs.Session.{Session, new_session, step, session_after}
use Rattle.lines.specs.NeverMet.{step_numbers, numbers_from, NeverMet}
use Rattle.lines.proofs.NeverMet.Between.{InRun}
use Rattle.lines.proofs.NeverMet.MayMeet.{may_meet}
use Rattle.lines.proofs.NeverMet.Lines.{goes_line}
pub mod Between
pub mod MayMeet
pub mod Calls
pub mod Lines

along : (s : Session) (ls : List Bytes) → InRun s.board s.tally → every may_meet (numbers_from s ls) ≡ true
unfolding numbers_from every session_after
along s [] h = refl
along s (l ∷ ls) h =
    let line = goes_line s.board s.tally h l in
    let a = step s.board l in
    every_append may_meet (step_numbers s.tally a) (numbers_from (session_after s a) ls) line.met (along (session_after s a) ls line.after)

pub never_met : NeverMet
unfolding NeverMet InRun new_session
never_met input = along new_session (lines input) refl
