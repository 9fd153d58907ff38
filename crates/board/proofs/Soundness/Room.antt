-- Room on a board, from the facts of its soundness: with fewer jobs of its slot than a slot may take it is not full.
use mathlib.Core.List.{Memᴰ}
use Prim.Native.Nat.{ℕ, suc, ◌-◌, ◌≤◌, ◌<◌}
use native.Mathlib.Omega.{arith}
use lib.Dec.{eqb}
use borrow.Author.Tests.{eqb-true, eq-eqb}
use Rattle.lists.specs.Select.{how_many}
use Rattle.lists.proofs.Counting.{count_mono}
use Rattle.rule.specs.Job.{Job}
use Rattle.board.specs.declared.Board.{Board}
use Rattle.board.specs.Limits.{longest_laxity, most_in_slot, places_held}
use Rattle.board.specs.Held.{slot_of, held, in_slot}
use Rattle.lists.proofs.Spread.{spread}
use Rattle.board.proofs.Soundness.Facts.{SoundFacts}
use Rattle.board.proofs.Soundness.HeldCount.{held_count}

module _ (b : Board) (f : SoundFacts b) where
  -- how long ago a job was admitted
  age : Job → ℕ
  age r = slot_of b - r.admitted

  -- jobs of one age share their admitted slot
  shared : (r : Job) → Memᴰ r (held b) → how_many (λ (q : Job). eqb (age q) (age r)) (held b) ≤ most_in_slot
  unfolding age
  shared r m =
      omega (
        arith,
        f.intake r m,
        count_mono (λ (q : Job). eqb (age q) (age r)) (λ (q : Job). eqb q.admitted r.admitted) (held b)
            (λ q i e. eq-eqb q.admitted r.admitted (omega (arith, eqb-true (age q) (age r) e, (f.each q i).begun, (f.each r m).begun))),
      )

  young : (r : Job) → Memᴰ r (held b) → age r < suc (longest_laxity - 1)
  unfolding age longest_laxity
  young r m = omega (arith, (f.each r m).begun, (f.each r m).in_date, (f.each r m).short)

  new : how_many (λ (q : Job). eqb (age q) 0) (held b) ≤ in_slot b
  unfolding age in_slot
  new =
      count_mono (λ (q : Job). eqb (age q) 0) (λ (q : Job). eqb q.admitted (slot_of b)) (held b)
      (λ q i e. eq-eqb q.admitted (slot_of b) (omega (arith, eqb-true (age q) 0 e, (f.each q i).begun)))

  pub room : in_slot b < most_in_slot → b.count < places_held
  unfolding longest_laxity most_in_slot places_held
  room h = omega (arith, held_count b (omega (arith, f.full, f.counted)), spread age (held b) most_in_slot (longest_laxity - 1) shared young, new)
