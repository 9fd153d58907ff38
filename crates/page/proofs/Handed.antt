-- A closing handed to a page.
use mathlib.Core.Path.{◌≡◌, refl, sym, ap, ◌∙◌}
use mathlib.Core.Bool.{Bool, true, false, cond}
use mathlib.Core.Logic.{◌⊎◌, inl, inr}
use mathlib.Core.List.{[], ◌∷◌, ◌++◌, map, map-append}
use Prim.Native.Nat.{ℕ, zero, suc, ◌<◌, ◌≤◌}
use native.Mathlib.Omega.{arith}
use lib.Dec.{leb}
use lib.ListN.{length, take, set}
use lib.Seq.{take-suc-set}
use borrow.Author.Tests.{le-leb, lt-leb, eq-eqb, ne_eqb}
use Rattle.lists.proofs.Tests.{cmp, cond_true, cond_false}
use Rattle.lines.specs.Sheet.{page_slots, is_full, sheet_number, with_closing, page_after}
use Rattle.page.specs.declared.Figures.{Figures as FiguresHeld}
use Rattle.page.specs.declared.Page.{Page}
use Rattle.page.specs.Pages.{figures_held, page_of, next_place, handed_over_if}
use Rattle.page.proofs.OnPage.{closings_counted}

-- the page has a place for the next closing
pub place_below : (n : ℕ) → next_place n < page_slots
unfolding next_place page_slots
place_below n = go (cmp page_slots n)
  where
    go : (page_slots ≤ n) ⊎ (n < page_slots) → next_place n < page_slots
    go (inl h) = omega (arith, cond_true (leb page_slots n) 0 n (le-leb page_slots n h))
    go (inr h) = omega (arith, cond_false (leb page_slots n) 0 n (lt-leb page_slots n h))

module _ (p : Page) (f : FiguresHeld) where
  -- refused: the page is as before
  pub answer_refused : (n : ℕ) → (n ≡ 0 → ⊥) → handed_over_if n p f ≡ record { refusal = n; page = p }
  unfolding handed_over_if
  answer_refused zero h = absurd (h refl)
  answer_refused (suc n) h = refl

  -- the answer has the number
  pub answer_number : (n : ℕ) → (handed_over_if n p f).refusal ≡ n
  unfolding handed_over_if
  answer_number zero = refl
  answer_number (suc n) = refl

  pub page_refused : (sheet_number (figures_held f) ≡ 0 → ⊥) → page_of p ≡ page_after (page_of p) (figures_held f)
  unfolding page_after
  page_refused h = sym (cond_false _ _ _ (ne_eqb _ _ h))

  module _ (e : length p.closings ≡ page_slots) where
    -- whether the page is full is told by its count
    full_by_count : is_full (page_of p) ≡ leb page_slots p.count
    unfolding is_full
    full_by_count = go (cmp page_slots p.count)
      where
        go : (page_slots ≤ p.count) ⊎ (p.count < page_slots) → leb page_slots (length (page_of p)) ≡ leb page_slots p.count
        go (inl h) = le-leb page_slots (length (page_of p)) (omega (arith, e, closings_counted p)) ∙ sym (le-leb page_slots p.count h)
        go (inr h) = lt-leb page_slots (length (page_of p)) (omega (arith, e, closings_counted p)) ∙ sym (lt-leb page_slots p.count h)

    -- the page with the closing in the next place
    abbrev after : Page
    after = let at = next_place p.count in record { count = suc at; closings = set p.closings at f }

    -- the closings before that place, and the closing
    closing_last : page_of after ≡ map figures_held (take (next_place p.count) p.closings) ++ (figures_held f ∷ [])
    unfolding page_of
    closing_last =
        let at = next_place p.count in
        ap (map figures_held) (take-suc-set p.closings at f (omega (arith, place_below p.count)))
        ∙ map-append figures_held (take at p.closings) (f ∷ [])

    with_last : page_of after ≡ with_closing (page_of p) (figures_held f)
    unfolding with_closing next_place page_of
    with_last = closing_last ∙ rw full_by_count (go (leb page_slots p.count))
      where
        go : (b : Bool) → map figures_held (take (cond b 0 p.count) p.closings) ++ (figures_held f ∷ []) ≡ cond b (figures_held f ∷ []) (page_of p ++ (figures_held f ∷ []))
        go true = refl
        go false = refl

    pub page_taken : sheet_number (figures_held f) ≡ 0 → page_of after ≡ page_after (page_of p) (figures_held f)
    unfolding page_after
    page_taken h = with_last ∙ sym (cond_true _ _ _ (eq-eqb _ _ h))
