-- From where a rule stands the book goes on with the limits lifted: the tickets left rise, those to come rise above them, and the grades left are fit.
use mathlib.Core.Path.{◌≡◌, refl}
use mathlib.Core.Bool.{true, ◌&&◌}
use mathlib.Core.List.{List, [], ◌∷◌, ◌++◌, Memᴰ}
use Prim.Native.Nat.{ℕ}
use lib.Dec.{ltb}
use Rattle.lists.proofs.Tests.{and_left, and_right, and_intro}
use Rattle.lists.proofs.Members.{each_more}
use Rattle.rule.specs.Job.{Job, job}
use Rattle.books.specs.Book.{Beginning, Change, enter, end_slot, Book, raised}
use Rattle.books.specs.Rule.{Rule, valid}
use Rattle.books.specs.Rival.{Setting, fit, any_laxity, lifted, Tried}
use Rattle.books.proofs.Walks.Tickets.{without_mem}
use Rattle.books.proofs.Walks.Left.{Left, enters, ends, left_enter, left_without, at_first, begun_left}
use Rattle.books.proofs.Walks.Place.{Place, start, entering, closing, named, after}

-- h is the highest ticket so far, es are the changes to come
pub record GoesOn (S : Setting) (h : ℕ) (P : Place) (es : List Change) : Type 0 where
  pub left : Left h P.left
  pub fits : (x : Job) → Memᴰ x P.left → fit S x.grade ≡ true
  pub later : lifted S h es ≡ true

pub goes_start : {S : Setting} {B : Book} → Tried S B → GoesOn S B.beginning.highest (start B.beginning) B.changes
goes_start {S} {B} T =
    let b = B.beginning in
    record { left = begun_left S b T.at_first; fits = λ x m. (at_first S b T.at_first x m).fits; later = T.later }

pub goes_enter : {S : Setting} {h t w g : ℕ} {P : Place} {es : List Change} → GoesOn S h P (enter t w g ∷ es) → GoesOn S t (entering P t w g) es
unfolding job
goes_enter {S} {h} {t} {w} {g} {P} {es} k =
    let n = enters S h t w g es k.later in
    record {
      left = left_enter t P.slot w g k.left n.above;
      fits = each_more (λ (x : Job). fit S x.grade ≡ true) P.left k.fits n.fits;
      later = n.later;
    }

pub goes_end : {S : Setting} {h : ℕ} {P : Place} {es : List Change} (x : ℕ) → GoesOn S h P (end_slot ∷ es) → GoesOn S h (closing P x) es
goes_end {S} {h} {P} {es} x k =
    let t = valid P.slot P.left x in
    record { left = left_without t k.left; fits = λ r m. k.fits r (without_mem t P.left m).0; later = ends S h es k.later }

pub goes_after : {S : Setting} {h : ℕ} {P : Place} (q : Rule) (d : ℕ) (b : Beginning) (es fs : List Change) → GoesOn S h P (es ++ fs)
    → GoesOn S (raised h es) (after q d b P es) fs
unfolding raised after
goes_after q d b [] fs k = k
goes_after {P = P} q d b (enter t w g ∷ es) fs k = goes_after {h = t} {P = entering P t w g} q d b es fs (goes_enter k)
goes_after {h = h} {P = P} q d b (end_slot ∷ es) fs k = goes_after {h = h} {P = closing P (named q d b P)} q d b es fs (goes_end (named q d b P) k)

-- the changes so far are lifted, and what may come after them
pub lifted_append : (S : Setting) (h : ℕ) (es fs : List Change) → lifted S h (es ++ fs) ≡ true → (lifted S h es ≡ true) × (lifted S (raised h es) fs ≡ true)
unfolding lifted raised
lifted_append S h [] fs e = (refl, e)
lifted_append S h (enter t w g ∷ es) fs e =
    let a = ltb h t && any_laxity w && fit S g in
    let r = lifted_append S t es fs (and_right a (lifted S t (es ++ fs)) e) in
    (and_intro a (lifted S t es) (and_left a (lifted S t (es ++ fs)) e) r.0, r.1)
lifted_append S h (end_slot ∷ es) fs e = lifted_append S h es fs e

pub lifted_join : (S : Setting) (h : ℕ) (es fs : List Change) → lifted S h es ≡ true → lifted S (raised h es) fs ≡ true → lifted S h (es ++ fs) ≡ true
unfolding lifted raised
lifted_join S h [] fs e f = f
lifted_join S h (enter t w g ∷ es) fs e f =
    let a = ltb h t && any_laxity w && fit S g in
    and_intro a (lifted S t (es ++ fs)) (and_left a (lifted S t es) e) (lifted_join S t es fs (and_right a (lifted S t es) e) f)
lifted_join S h (end_slot ∷ es) fs e f = lifted_join S h es fs e f
