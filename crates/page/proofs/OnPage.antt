-- The closings on a page: how many, and each by its place.
use mathlib.Core.Path.{◌≡◌, ap, ◌∙◌}
use mathlib.Core.List.{[], ◌∷◌, ◌++◌, map}
use Prim.Native.Nat.{ℕ, suc, ◌<◌, min}
use native.Mathlib.Omega.{arith}
use lib.ListN.{length, get_or, take, length-map, length-take, get_or-map}
use lib.Seq.{get_or-take, take-suc}
use Rattle.lists.proofs.Filling.{take_least}
use Rattle.board.specs.Held.{slot_number}
use Rattle.lines.specs.Sheet.{Figures}
use Rattle.page.specs.declared.Figures.{Figures as FiguresHeld}
use Rattle.page.specs.declared.Page.{Page}
use Rattle.page.specs.Pages.{figures_held, page_of}

-- figures all zero, which no place of a page needs to have
abbrev pub no_figures : FiguresHeld
no_figures = record { slot = slot_number 0; ticket = 0; grade = 0; listed = 0 }

module _ (p : Page) where
  pub closings_counted : length (page_of p) ≡ min p.count (length p.closings)
  unfolding page_of
  closings_counted = length-map (take p.count p.closings) figures_held ∙ length-take p.count p.closings

  -- they are the first ones held, if as many as there are on the page
  pub closings_first : (n : ℕ) → n ≡ length (page_of p) → map figures_held (take n p.closings) ≡ page_of p
  unfolding page_of
  closings_first n e = ap (map figures_held) (take_least n p.count p.closings (e ∙ closings_counted))

  -- the one at a place
  pub closing_at : (i : ℕ) → i < length (page_of p) → get_or (page_of p) i (figures_held no_figures) ≡ figures_held (get_or p.closings i no_figures)
  unfolding page_of
  closing_at i h =
      get_or-map figures_held (take p.count p.closings) i no_figures
      ∙ ap figures_held (get_or-take p.count p.closings i no_figures (omega (arith, closings_counted)))

  -- the first ones with one more
  pub one_more : (i : ℕ) → i < length (page_of p) → take (suc i) (page_of p) ≡ take i (page_of p) ++ (figures_held (get_or p.closings i no_figures) ∷ [])
  one_more i h = take-suc (page_of p) i (figures_held no_figures) h ∙ ap (λ (f : Figures). take i (page_of p) ++ (f ∷ [])) (closing_at i h)
