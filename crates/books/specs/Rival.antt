-- Rivals and levels, on the books with the limits lifted.
use Rattle.std.specs.Prelude.{◌≡◌, Bool, true, false, ◌&&◌, List, [], ◌∷◌, ◌++◌, map, ℕ, zero, suc, ◌≤◌, ◌^◌, leb, ltb, length}
use Rattle.lists.specs.Select.{every}
use Rattle.lists.specs.Rise.{rise}
use Rattle.rule.specs.Job.{Job}
use Rattle.rule.specs.Grade.{graded}
use Rattle.books.specs.Book.{Beginning, Change, enter, end_slot, Book, slots_closed}
use Rattle.books.specs.Schedule.{Schedule, IsSchedule, baked_in, total}
use Rattle.books.specs.Rule.{Rule, made_by}

-- What rules are tried on: a depth, the grades allowed below 2^D (01: all of them), and the beginnings.
pub record Setting : Type 0 where
  pub depth : ℕ
  pub allowed : ℕ → Bool
  pub begins : Beginning → Bool

-- 'grades are still below 2^D'
unfoldable pub fit : Setting → ℕ → Bool
fit S g = ltb g (2 ^ S.depth) && S.allowed g

-- 'waits are 1 or more'
unfoldable pub any_laxity : ℕ → Bool
any_laxity w = leb 1 w

-- 'tickets still rise, without end; [..] a slot takes any number of racks and a book any number of slots': the changes after the highest ticket h
unfoldable pub lifted : Setting → ℕ → List Change → Bool
lifted S h [] = true
lifted S h (enter t w g ∷ cs) = ltb h t && any_laxity w && fit S g && lifted S t cs
lifted S h (end_slot ∷ cs) = lifted S h cs

-- the jobs at a beginning, if any: tickets rise from 1 to the highest, no grade is unfit, none is of a later slot
unfoldable pub begun : Setting → Beginning → Bool
begun S b =
    rise 0 (map (λ (r : Job). r.ticket) b.jobs) && every (λ (r : Job). leb r.ticket b.highest && fit S r.grade && leb r.admitted b.slot) b.jobs

-- a book on which rules are tried
pub record Tried (S : Setting) (B : Book) : Type 0 where
  pub beginning : S.begins B.beginning ≡ true
  pub at_first : begun S B.beginning ≡ true
  pub later : lifted S B.beginning.highest B.changes ≡ true

-- 'It is a rival when on every such book, for every k up to the slots closed, no plan bakes more in the first k slots.'
unfoldable pub Rival : Setting → Rule → Type 0
Rival S q =
    (B : Book) → Tried S B → (k : ℕ) → k ≤ slots_closed B → (p : Schedule) → IsSchedule B p
    → total B p k ≤ total B (made_by q S.depth B) k

-- 'A start is j bits, j from 0 to D − 1; its count is the racks baked in the first k slots whose grade starts with those j bits and then a 0.'
unfoldable pub count_of : ℕ → List Bool → Book → Schedule → ℕ → ℕ
count_of d u B p k = baked_in (graded d (u ++ (false ∷ []))) B p k

-- on the book B, for every k and every start of j bits, p has no larger count than q
unfoldable pub NoLarger : Setting → ℕ → Book → Schedule → Schedule → Type 0
NoLarger S j B p q =
    (u : List Bool) → length u ≡ j → (k : ℕ) → k ≤ slots_closed B → count_of S.depth u B p k ≤ count_of S.depth u B q k

-- 'All rivals have level 0. A rival of level j has level j + 1 too when, on every book with the limits lifted, for every k and every start
-- of j bits, no rival of level j has a larger count.'
unfoldable pub Level : Setting → ℕ → Rule → Type 0
Level S zero q = Rival S q
Level S (suc j) q =
    Level S j q
    × ((r : Rule) → Level S j r → (B : Book) → Tried S B → NoLarger S j B (made_by r S.depth B) (made_by q S.depth B))
