-- The jobs left to a rule on a book with the limits lifted: their tickets rise from 1 and stay below those still to come.
use mathlib.Core.Path.{◌≡◌}
use mathlib.Core.Bool.{Bool, true, not, ◌&&◌}
use mathlib.Core.List.{List, [], ◌∷◌, ◌++◌, Memᴰ}
use Prim.Native.Nat.{ℕ, suc, ◌≤◌, ◌<◌}
use native.Mathlib.Omega.{arith}
use lib.Dec.{ltb, leb, eqb}
use borrow.Author.Tests.{ltb-true, leb-true, lt-ltb, le-leb}
use Rattle.lists.specs.Select.{every}
use Rattle.lists.specs.Rise.{rise}
use Rattle.lists.proofs.Tests.{and_left, and_right, and_intro}
use Rattle.lists.proofs.Members.{every_mem, each_more}
use Rattle.rule.specs.Job.{Job, job}
use Rattle.books.specs.Book.{Beginning, Change, enter, end_slot, Book, entered, jobs}
use Rattle.books.specs.Rule.{without}
use Rattle.books.specs.Rival.{Setting, fit, any_laxity, lifted, begun, Tried}
use Rattle.books.proofs.Walks.Tickets.{tickets, Rising, rising_nil, rising_cons, rising_select, rising_append, without_mem}

-- a change that enters a job, taken apart
pub record Enters (S : Setting) (h t g : ℕ) (es : List Change) : Type 0 where
  pub above : h < t
  pub fits : fit S g ≡ true
  pub later : lifted S t es ≡ true

pub enters : (S : Setting) (h t w g : ℕ) (es : List Change) → lifted S h (enter t w g ∷ es) ≡ true → Enters S h t g es
unfolding lifted
enters S h t w g es e =
    let a = ltb h t in
    let b = any_laxity w in
    let c = fit S g in
    let r = lifted S t es in
    let abc = and_left (a && b && c) r e in
    let ab = and_left (a && b) c abc in
    record {
      above = ltb-true h t (and_left a b ab);
      fits = and_right (a && b) c abc;
      later = and_right (a && b && c) r e;
    }

-- and put together
pub enter_lifted : (S : Setting) (h t w g : ℕ) (es : List Change) → h < t → 1 ≤ w → fit S g ≡ true → lifted S t es ≡ true → lifted S h (enter t w g ∷ es) ≡ true
unfolding lifted any_laxity
enter_lifted S h t w g es a l f e =
    and_intro (ltb h t && any_laxity w && fit S g) (lifted S t es)
    (and_intro (ltb h t && any_laxity w) (fit S g) (and_intro (ltb h t) (any_laxity w) (lt-ltb h t a) (le-leb 1 w l)) f) e

pub ends : (S : Setting) (h : ℕ) (es : List Change) → lifted S h (end_slot ∷ es) ≡ true → lifted S h es ≡ true
unfolding lifted
ends S h es e = e

-- the jobs left, after the highest ticket h
pub record Left (h : ℕ) (L : List Job) : Type 0 where
  pub rising : Rising 0 L
  pub most : (x : Job) → Memᴰ x L → x.ticket ≤ h

pub left_enter : {h : ℕ} {L : List Job} (t s w g : ℕ) → Left h L → h < t → Left t (L ++ (job t s w g ∷ []))
unfolding job
left_enter {h} {L} t s w g l a =
    record {
      rising = rising_append h L (job t s w g ∷ []) l.rising l.most (omega arith) (rising_cons a (rising_nil t));
      most = each_more (λ (x : Job). x.ticket ≤ t) L (λ x m. omega (arith, l.most x m)) (omega arith);
    }

pub left_without : {h : ℕ} {L : List Job} (t : ℕ) → Left h L → Left h (without t L)
unfolding without
left_without {h} {L} t l =
    record {
      rising = rising_select (λ r. not (eqb r.ticket t)) L l.rising;
      most = λ x m. l.most x (without_mem t L m).0;
    }

-- the jobs still to come
pub entered_rising : (S : Setting) (h s : ℕ) (es : List Change) → lifted S h es ≡ true → Rising h (entered s es)
unfolding entered job
entered_rising S h s [] e = rising_nil h
entered_rising S h s (enter t w g ∷ es) e = let k = enters S h t w g es e in rising_cons k.above (entered_rising S t s es k.later)
entered_rising S h s (end_slot ∷ es) e = entered_rising S h (suc s) es (ends S h es e)

-- a job at a beginning
pub record AtFirst (S : Setting) (b : Beginning) (x : Job) : Type 0 where
  pub known : x.ticket ≤ b.highest
  pub fits : fit S x.grade ≡ true
  pub admitted : x.admitted ≤ b.slot

pub at_first : (S : Setting) (b : Beginning) → begun S b ≡ true → (x : Job) → Memᴰ x b.jobs → AtFirst S b x
unfolding begun
at_first S b e x m =
    let all = every_mem here (and_right (rise 0 (tickets b.jobs)) (every here b.jobs) e) m in
    let two = and_left (leb x.ticket b.highest && fit S x.grade) (leb x.admitted b.slot) all in
    record {
      known = leb-true x.ticket b.highest (and_left (leb x.ticket b.highest) (fit S x.grade) two);
      fits = and_right (leb x.ticket b.highest) (fit S x.grade) two;
      admitted = leb-true x.admitted b.slot (and_right (leb x.ticket b.highest && fit S x.grade) (leb x.admitted b.slot) all);
    }
  where
    here : Job → Bool
    here r = leb r.ticket b.highest && fit S r.grade && leb r.admitted b.slot

-- the jobs at a beginning
pub begun_left : (S : Setting) (b : Beginning) → begun S b ≡ true → Left b.highest b.jobs
begun_left S b e =
    record {
      rising = record { rises = unfold begun in and_left (rise 0 (tickets b.jobs)) _ e };
      most = λ x m. (at_first S b e x m).known;
    }

-- all jobs of a book
pub jobs_rising : (S : Setting) (B : Book) → Tried S B → Rising 0 (jobs B)
unfolding jobs
jobs_rising S B T =
    let l = begun_left S B.beginning T.at_first in
    rising_append B.beginning.highest B.beginning.jobs (entered B.beginning.slot B.changes) l.rising l.most (omega arith)
    (entered_rising S B.beginning.highest B.beginning.slot B.changes T.later)
