-- The day books are drawn from the arguments alone: no board has a part in them.
use mathlib.Core.Path.{◌≡◌, refl, sym, ap, ap₂, ◌∙◌}
use mathlib.Core.Bool.{Bool, true, false, cond}
use mathlib.Core.List.{List, [], ◌∷◌, ◌++◌, map, map-append}
use Prim.Native.Nat.{ℕ}
use Rattle.books.specs.Book.{Book}
use Rattle.board.specs.declared.Board.{Board}
use Rattle.claims.specs.Calls.{Call, admit, close, withdraw, board_after}
use Rattle.claims.specs.DayBook.{Day, new_day, lets_through, through}
use Rattle.claims.specs.Stretches.{Stretch, book_of, go_on, stretch_after, ended_by, stretches, start, stretches_of, DrawnAlone}

-- the day after a call, which no board has a part in
day_after : ℕ → Day → Call → Day
day_after d D c = cond (lets_through d D c) (through d D c) D

book_ended : ℕ → Day → Call → List Book
book_ended d D (admit t w g) = []
book_ended d D (close lent) = []
book_ended d D (withdraw t) = cond (lets_through d D (withdraw t)) (D.book ∷ []) []

module _ (d : ℕ) (x : Stretch) where
  gone_on : (b : Board) (c : Call) → (go_on d x b c).day ≡ through d x.day c
  unfolding go_on
  gone_on b (admit t w g) = refl
  gone_on b (close lent) = refl
  gone_on b (withdraw t) = refl

  its_day : (b : Board) (c : Call) → (stretch_after d x b c).day ≡ day_after d x.day c
  unfolding stretch_after day_after
  its_day b c = go (lets_through d x.day c)
    where
      go : (q : Bool) → (cond q (go_on d x b c) x).day ≡ cond q (through d x.day c) x.day
      go true = gone_on b c
      go false = refl

  its_end : (c : Call) → map book_of (ended_by d x c) ≡ book_ended d x.day c
  unfolding ended_by book_ended
  its_end (admit t w g) = refl
  its_end (close lent) = refl
  its_end (withdraw t) = go (lets_through d x.day (withdraw t))
    where
      go : (q : Bool) → map book_of (cond q (x ∷ []) []) ≡ cond q (x.day.book ∷ []) []
      go true = refl
      go false = refl

same_books : (d : ℕ) (x y : Stretch) (b c : Board) → x.day ≡ y.day → (cs : List Call) → map book_of (stretches d x b cs) ≡ map book_of (stretches d y c cs)
unfolding stretches
same_books d x y b c e [] = ap (λ (D : Day). D.book ∷ []) e
same_books d x y b c e (a ∷ cs) =
    map-append book_of (ended_by d x a) (stretches d (stretch_after d x b a) (board_after b a) cs)
    ∙ ap₂ ◌++◌ (its_end d x a ∙ ap (λ (D : Day). book_ended d D a) e ∙ sym (its_end d y a))
    (same_books d (stretch_after d x b a) (stretch_after d y c a) (board_after b a) (board_after c a)
    (its_day d x b a ∙ ap (λ (D : Day). day_after d D a) e ∙ sym (its_day d y c a)) cs)
    ∙ sym (map-append book_of (ended_by d y a) (stretches d (stretch_after d y c a) (board_after c a) cs))

pub drawn_alone : DrawnAlone
unfolding DrawnAlone stretches_of start
drawn_alone b c depth slot highest cs =
    same_books b.depth _ _ b c (λ i. new_day (record { slot = slot i; highest = highest i; jobs = [] })) cs
    ∙ ap (λ d. map book_of (stretches d (start c) c cs)) depth
