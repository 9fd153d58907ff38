-- Books: a beginning, and the admittings and closings since, in order.
use Rattle.std.specs.Prelude.{List, [], ◌∷◌, ◌++◌, ℕ, suc, ◌+◌}
use Rattle.rule.specs.Job.{Job, job}

-- 'The day book starts with that board's slot and highest ticket, and no racks.' 02, Seven: after a withdrawal 'with the racks left on the board as first
-- arrivals'.
pub record Beginning : Type 0 where
  pub slot : ℕ
  pub highest : ℕ
  pub jobs : List Job

-- what a call that is let through changes in the book: it 'enters its rack', or 'ends the book's slot and moves to the next'
pub data Change : Type 0 where
  enter : (ticket laxity grade : ℕ) → Change
  end_slot : Change

pub record Book : Type 0 where
  pub beginning : Beginning
  pub changes : List Change

-- how many slots the changes close
unfoldable pub closings : List Change → ℕ
closings [] = 0
closings (enter t w g ∷ cs) = closings cs
closings (end_slot ∷ cs) = suc (closings cs)

-- the slots closed in a book, and the book's slot
unfoldable pub slots_closed : Book → ℕ
slots_closed B = closings B.changes

unfoldable pub present : Book → ℕ
present B = B.beginning.slot + slots_closed B

-- 'with the book's slot as admitted slot': the jobs that the changes enter, from a slot on
unfoldable pub entered : ℕ → List Change → List Job
entered s [] = []
entered s (enter t w g ∷ cs) = job t s w g ∷ entered s cs
entered s (end_slot ∷ cs) = entered (suc s) cs

-- the jobs of a book
unfoldable pub jobs : Book → List Job
jobs B = B.beginning.jobs ++ entered B.beginning.slot B.changes

-- 'its ticket becomes the highest'
unfoldable pub raised : ℕ → List Change → ℕ
raised h [] = h
raised h (enter t w g ∷ cs) = raised t cs
raised h (end_slot ∷ cs) = raised h cs

-- the highest ticket of a book
unfoldable pub highest : Book → ℕ
highest B = raised B.beginning.highest B.changes

-- a book with one change more
unfoldable pub extend : Book → Change → Book
extend B c = record { beginning = B.beginning; changes = B.changes ++ (c ∷ []) }
