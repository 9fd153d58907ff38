-- What the limits of a board tell, and that a sound board is in them.
use mathlib.Core.Path.{◌≡◌}
use mathlib.Core.Bool.{true}
use Prim.Native.Nat.{suc, ◌≤◌}
use Rattle.board.specs.declared.Board.{Board}
use Rattle.board.specs.Limits.{places_held, last_slot, deepest}
use Rattle.board.specs.Rows.{◌if◌, first_given}
use Rattle.board.specs.Sound.{sound}
use Rattle.board.specs.Held.{slot_of}
use Rattle.lists.proofs.Joined.{apart, together}
use borrow.Author.Tests.{leb-true, le-leb}
use Rattle.board.proofs.Soundness.Apart.{facts}
use Rattle.soundness.specs.Inner.Walk.{limit_tests, in_limits}
use Rattle.limits.specs.Inner.Limits.{limits_number}

pub record Within (b : Board) : Type 0 where
  pub shallow : b.depth ≤ deepest
  pub in_book : slot_of b ≤ suc last_slot
  pub counted : b.count ≤ places_held

pub within : (b : Board) → in_limits b.depth (slot_of b) b.count ≡ true → Within b
unfolding in_limits limit_tests
within b h =
    let p = apart (λ t. t) (limit_tests b.depth (slot_of b) b.count) h in
    record {
      shallow = leb-true b.depth deepest p.0;
      in_book = leb-true (slot_of b) (suc last_slot) p.1.1.0;
      counted = leb-true b.count places_held p.1.1.1.0;
    }

pub sound_in_limits : (b : Board) → sound b ≡ true → in_limits b.depth (slot_of b) b.count ≡ true
unfolding in_limits limit_tests
sound_in_limits b s =
    let f = facts b s in
    together (λ t. t) (limit_tests b.depth (slot_of b) b.count) (
      le-leb b.depth deepest f.shallow,
      (le-leb 1 (slot_of b) f.from_first, (le-leb (slot_of b) (suc last_slot) f.to_last, (le-leb b.count places_held f.counted, tt))),
    )

pub limits_passed : (b : Board) → in_limits b.depth (slot_of b) b.count ≡ true → limits_number b ≡ 0
unfolding limits_number first_given ◌if◌
limits_passed b i = simp i
