-- Our rule on any book with the limits lifted, for every k up to the slots closed: no schedule bakes more, and no rule of level j has a larger count.
use mathlib.Core.Path.{◌≡◌}
use mathlib.Core.Bool.{Bool}
use mathlib.Core.List.{List}
use Prim.Native.Nat.{ℕ, suc, ◌≤◌, ◌<◌}
use native.Mathlib.Omega.{arith}
use lib.ListN.{length}
use Rattle.books.specs.Book.{Book, slots_closed}
use Rattle.books.specs.Schedule.{Schedule, IsSchedule, total}
use Rattle.books.specs.Rule.{Rule, made_by}
use Rattle.books.specs.Rival.{Setting, Tried, Rival, count_of, NoLarger, Level}
use Rattle.books.specs.NoRegretRule.{our_rule}
use Rattle.books.proofs.Levels.Characterised.{characterised}

module _ (S : Setting) (B : Book) (T : Tried S B) (k : ℕ) (h : k ≤ slots_closed B) where
  abbrev ours : Schedule
  ours = made_by our_rule S.depth B

  pub ours_most : (p : Schedule) → IsSchedule B p → total B p k ≤ total B ours k
  unfolding Level Rival
  ours_most p P = (characterised S).ours 0 (omega arith) B T k h p P

  pub ours_at_least : (j : ℕ) → j < S.depth → (r : Rule) → Level S j r → (u : List Bool) → length u ≡ j
      → count_of S.depth u B (made_by r S.depth B) k ≤ count_of S.depth u B ours k
  unfolding Level NoLarger
  ours_at_least j i r l u e = ((characterised S).ours (suc j) i).1 r l B T u e k h
