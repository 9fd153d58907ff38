-- The first of rows 3 to 7 that is given, by the tests that the rows before it have passed.
use mathlib.Core.Path.{◌≡◌}
use mathlib.Core.Bool.{true, false, ◌&&◌}
use Prim.Native.Nat.{ℕ, suc, ◌^◌, ◌≤◌, ◌<◌}
use lib.Dec.{leb}
use borrow.Author.Tests.{le-leb, lt-leb, eq-eqb, ne_eqb}
use Rattle.board.specs.Limits.{longest_laxity, most_in_slot, last_slot}
use Rattle.board.specs.Rows.{◌if◌, first_given, admit_rows}

module _ (slot highest taken depth ticket laxity grade : ℕ) where
  abbrev given : ℕ
  given = first_given (admit_rows slot highest taken depth ticket laxity grade)

  pub three : slot ≡ suc last_slot → 3 ≡ given
  unfolding first_given admit_rows ◌if◌
  three e = simp (eq-eqb slot (suc last_slot) e)

  module _ (going : slot ≡ suc last_slot → ⊥) where
    pub four : ticket ≤ highest → 4 ≡ given
    unfolding first_given admit_rows ◌if◌
    four h = simp (ne_eqb slot (suc last_slot) going, le-leb ticket highest h)

    module _ (above : highest < ticket) where
      pub five : (leb 1 laxity && leb laxity longest_laxity) ≡ false → 5 ≡ given
      unfolding first_given admit_rows ◌if◌
      five e = simp (ne_eqb slot (suc last_slot) going, lt-leb ticket highest above, e)

      module _ (allowed : (leb 1 laxity && leb laxity longest_laxity) ≡ true) where
        pub six : 2 ^ depth ≤ grade → 6 ≡ given
        unfolding first_given admit_rows ◌if◌
        six h = simp (ne_eqb slot (suc last_slot) going, lt-leb ticket highest above, allowed, le-leb (2 ^ depth) grade h)

        module _ (graded : grade < 2 ^ depth) where
          pub seven : most_in_slot ≤ taken → 7 ≡ given
          unfolding first_given admit_rows ◌if◌
          seven h = simp (ne_eqb slot (suc last_slot) going, lt-leb ticket highest above, allowed, lt-leb (2 ^ depth) grade graded, le-leb most_in_slot taken h)

          pub none : taken < most_in_slot → 0 ≡ given
          unfolding first_given admit_rows ◌if◌
          none h = simp (ne_eqb slot (suc last_slot) going, lt-leb ticket highest above, allowed, lt-leb (2 ^ depth) grade graded, lt-leb most_in_slot taken h)
