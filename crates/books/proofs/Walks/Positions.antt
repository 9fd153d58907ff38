-- What a rule bakes along more changes comes after what it baked so far.
use mathlib.Core.Path.{◌≡◌, refl, ap}
use mathlib.Core.List.{List, [], ◌∷◌, ◌++◌}
use Prim.Native.Nat.{ℕ, suc}
use lib.ListN.{length}
use Rattle.books.specs.Book.{Beginning, Change, enter, end_slot, closings}
use Rattle.books.specs.Rule.{Rule}
use Rattle.books.proofs.Walks.Place.{Place, entering, closing, named, after}
use Rattle.books.proofs.Walks.Picks.{found, picks}

module _ (q : Rule) (d : ℕ) (b : Beginning) where
  pub picks_append : (P : Place) (es fs : List Change) → picks q d b P (es ++ fs) ≡ picks q d b P es ++ picks q d b (after q d b P es) fs
  unfolding picks after
  picks_append P [] fs = refl
  picks_append P (enter t w g ∷ es) fs = picks_append (entering P t w g) es fs
  picks_append P (end_slot ∷ es) fs = ap (found P.slot P.left (named q d b P) ∷◌) (picks_append (closing P (named q d b P)) es fs)

  pub picks_length : (P : Place) (es : List Change) → length (picks q d b P es) ≡ closings es
  unfolding picks closings
  picks_length P [] = refl
  picks_length P (enter t w g ∷ es) = picks_length (entering P t w g) es
  picks_length P (end_slot ∷ es) = ap suc (picks_length (closing P (named q d b P)) es)
