-- Room in the buffer: what is known where an answer fits.
use mathlib.Core.Path.{◌≡◌}
use mathlib.Core.Bool.{true, ◌&&◌}
use Prim.Native.Nat.{ℕ, ◌+◌, ◌≤◌}
use lib.Dec.{eqb, leb}
use borrow.Author.Tests.{leb-true, le-leb, eqb-true, eq-eqb}
use Rattle.lists.proofs.Tests.{and_left, and_right, and_intro}
use Rattle.board.specs.Limits.{places_held}
use Rattle.answers.specs.Printed.{answer_room, answer_fits}

-- what is known where an answer fits
pub record AnswerFits (t g at end : ℕ) : Type 0 where
  pub few : t ≤ places_held
  pub as_many : g ≡ t
  pub room : at + answer_room ≤ end

pub answer_fitting : (t g at end : ℕ) → answer_fits t g at end ≡ true → AnswerFits t g at end
unfolding answer_fits
answer_fitting t g at end h =
    let first = and_left (leb t places_held && eqb g t) (leb (at + answer_room) end) h in
    record {
      few = leb-true t places_held (and_left (leb t places_held) (eqb g t) first);
      as_many = eqb-true g t (and_right (leb t places_held) (eqb g t) first);
      room = leb-true (at + answer_room) end (and_right (leb t places_held && eqb g t) (leb (at + answer_room) end) h);
    }

pub fits_answer : (t g at end : ℕ) → t ≤ places_held → g ≡ t → at + answer_room ≤ end → answer_fits t g at end ≡ true
unfolding answer_fits
fits_answer t g at end h e k =
    and_intro (leb t places_held && eqb g t) (leb (at + answer_room) end)
    (and_intro (leb t places_held) (eqb g t) (le-leb t places_held h) (eq-eqb g t e))
    (le-leb (at + answer_room) end k)
