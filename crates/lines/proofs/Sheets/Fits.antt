-- Figures that fit in their fields.
use mathlib.Core.Path.{◌≡◌}
use mathlib.Core.Bool.{Bool, true, ◌&&◌, ◌||◌}
use mathlib.Core.List.{List, [], ◌∷◌}
use Prim.Native.Nat.{◌*◌, ◌^◌, ◌≤◌, ◌<◌}
use native.Mathlib.Omega.{arith}
use lib.Dec.{leb, ltb, eqb}
use lib.ListN.{length}
use borrow.Author.Tests.{ltb-true, ltb-false, leb-false, eqb-true}
use Rattle.lists.specs.Select.{every}
use Rattle.lists.proofs.Tests.{and_left, and_right, or_false}
use Rattle.board.specs.Limits.{last_slot, deepest}
use Rattle.board.proofs.Calls.Rows.{row_passed}
use Rattle.lines.specs.Sheet.{Figures, sheet_number, most_given_up, number_given_up}

-- the figures fit in their fields: 16 does not refuse them, and the ticket is a number of 32 bits
abbrev pub fits : Figures → Bool
fits f = eqb (sheet_number f) 0 && ltb f.ticket 4_294_967_296

-- how great the figures are then
pub record Fitting (f : Figures) : Type 0 where
  pub slot : f.slot ≤ 1_000_000
  pub ticket : f.ticket < 4_294_967_296
  pub grade : f.grade ≤ 7
  pub given_up : f.given_up ≤ 255

pub fitting : (f : Figures) → fits f ≡ true → Fitting f
unfolding sheet_number last_slot deepest most_given_up
fitting f h =
    let number = eqb (sheet_number f) 0 in
    let ticket = ltb f.ticket 4_294_967_296 in
    let slot = ltb last_slot f.slot in
    let grade = leb (2 ^ deepest) f.grade in
    let given_up = ltb most_given_up f.given_up in
    let passed = (row_passed 15 (slot || grade || given_up) [] (eqb-true (sheet_number f) 0 (and_left number ticket h))).0 in
    let others = or_false (slot || grade) given_up passed in
    let first = or_false slot grade others.0 in
    record {
      slot = omega (arith, ltb-false last_slot f.slot first.0);
      ticket = ltb-true f.ticket 4_294_967_296 (and_right number ticket h);
      grade = omega (arith, leb-false (2 ^ deepest) f.grade first.1);
      given_up = omega (arith, ltb-false most_given_up f.given_up others.1);
    }

-- on a page with so many closings no more than 255 times as many are given up
pub few_given_up : (fs : List Figures) → every fits fs ≡ true → number_given_up fs ≤ 255 * length fs
unfolding every number_given_up
few_given_up [] h = omega arith
few_given_up (f ∷ fs) h =
    omega (arith, few_given_up fs (and_right (fits f) (every fits fs) h), (fitting f (and_left (fits f) (every fits fs) h)).given_up)
