-- The windows of a list that is not refused.
use mathlib.Core.Path.{◌≡◌}
use mathlib.Core.Bool.{true, ◌&&◌}
use mathlib.Core.List.{List, [], ◌∷◌}
use Prim.Native.Nat.{ℕ, zero, suc, ◌≤◌, ◌<◌}
use native.Mathlib.Omega.{arith}
use lib.Dec.{leb}
use lib.ListN.{length}
use borrow.Author.Tests.{leb-true, le-leb}
use Rattle.lists.specs.Select.{every}
use Rattle.lists.proofs.Tests.{and_left, and_right, and_intro}
use Rattle.matching.specs.declared.Window.{Window}
use Rattle.matching.specs.Windows.{slot_count, first_of, last_of, inside, is_window}

pub record WindowAt (ws : List Window) (i : ℕ) : Type 0 where
  pub from_one : 1 ≤ first_of ws i
  pub ordered : first_of ws i ≤ last_of ws i
  pub to_end : last_of ws i ≤ slot_count

pub window_at : (ws : List Window) → every is_window ws ≡ true → (i : ℕ) → i < length ws → WindowAt ws i
unfolding every first_of last_of is_window
window_at [] ok i h = absurd (omega arith)
window_at (w ∷ ws) ok zero h =
    let e = and_left (is_window w) (every is_window ws) ok in
    let f = and_right (leb 1 w.first.0) (leb w.first.0 w.last.0 && leb w.last.0 slot_count) e in
    record {
      from_one = leb-true 1 w.first.0 (and_left (leb 1 w.first.0) (leb w.first.0 w.last.0 && leb w.last.0 slot_count) e);
      ordered = leb-true w.first.0 w.last.0 (and_left (leb w.first.0 w.last.0) (leb w.last.0 slot_count) f);
      to_end = leb-true w.last.0 slot_count (and_right (leb w.first.0 w.last.0) (leb w.last.0 slot_count) f);
    }
window_at (w ∷ ws) ok (suc i) h =
    let r = window_at ws (and_right (is_window w) (every is_window ws) ok) i (omega arith) in
    record { from_one = r.from_one; ordered = r.ordered; to_end = r.to_end }

module _ (ws : List Window) (a b i : ℕ) where
  pub inside_yes : a ≤ first_of ws i → last_of ws i ≤ b → inside ws a b i ≡ true
  unfolding inside
  inside_yes h l = and_intro (leb a (first_of ws i)) (leb (last_of ws i) b) (le-leb a (first_of ws i) h) (le-leb (last_of ws i) b l)

  pub inside_from : inside ws a b i ≡ true → a ≤ first_of ws i
  unfolding inside
  inside_from e = leb-true a (first_of ws i) (and_left (leb a (first_of ws i)) (leb (last_of ws i) b) e)

  pub inside_to : inside ws a b i ≡ true → last_of ws i ≤ b
  unfolding inside
  inside_to e = leb-true (last_of ws i) b (and_right (leb a (first_of ws i)) (leb (last_of ws i) b) e)
