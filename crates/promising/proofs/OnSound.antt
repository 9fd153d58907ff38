-- On a sound board what can be promised beside the jobs seen is 02's answer.
use mathlib.Core.Path.{◌≡◌, refl, sym, ap, ap₂, ◌∙◌}
use mathlib.Core.Bool.{true, false}
use Rattle.std.specs.Prelude.{Option, Some, None, unwrap_or}
use Rattle.rule.specs.Promise.{least_promised}
use Rattle.board.specs.declared.Board.{Board}
use Rattle.board.specs.declared.Laxity.{Laxity}
use Rattle.board.specs.declared.Promised.{Promised}
use Rattle.board.specs.Limits.{longest_laxity}
use Rattle.board.specs.Rows.{◌if◌, first_given}
use Rattle.board.specs.Held.{slot_of}
use Rattle.board.specs.Sound.{sound}
use Rattle.board.specs.Promise.{laxity_number, promise_number, promise_of, promised_refused, promised_with, promised}
use Rattle.board.proofs.Calls.Promise.{promise_number_sound}
use Rattle.packing.specs.declared.Packed.{Packed}
use Rattle.packing.specs.Inner.Packed.{board_of, packable}
use Rattle.packing.proofs.OnSound.{packable_sound}
use Rattle.search.specs.Inner.Answers.{laxity_in}
use Rattle.search.proofs.OnSound.{sees_all}
use Rattle.promising.specs.Inner.Seen.{promised_seen}

pub promise_on_sound : (b : Board) → sound b ≡ true → promised_seen b ≡ promised b
unfolding promised_seen promised promise_of
promise_on_sound b s = ap₂ promised_with (sym (promise_number_sound b s)) (ap (least_promised longest_laxity (slot_of b)) (sees_all b s))

-- row 2
pub promise_unsound : (b : Board) (x : Promised) → sound b ≡ false → x ≡ promised_refused 2 → x ≡ promised b
unfolding promised promise_number promised_with first_given ◌if◌
promise_unsound b x e h = h ∙ simp e

-- a sound board put into arrays
pub promise_packed_sound : (b : Board) (p : Packed) → sound b ≡ true → board_of p ≡ packable b → promised_seen (board_of p) ≡ promised b
promise_packed_sound b p s e = ap promised_seen (e ∙ packable_sound b s) ∙ promise_on_sound b s

-- a laxity, 0 where there is none
pub laxity_unwrapped : (w : Option Laxity) → unwrap_or w (laxity_number 0) ≡ laxity_number (laxity_in w)
laxity_unwrapped None = refl
laxity_unwrapped (Some l) = refl
