-- Totals of a page's closings, one closing more.
use mathlib.Core.Path.{◌≡◌, refl, ap}
use mathlib.Core.Bool.{Bool, true, false, not}
use mathlib.Core.List.{List, [], ◌∷◌, ◌++◌}
use Prim.Native.Nat.{ℕ, suc, ◌+◌, ◌<◌, min}
use native.Mathlib.Omega.{arith}
use lib.Dec.{eqb}
use lib.ListN.{length, get_or, take}
use borrow.Author.Tests.{eqb-true, eqb-false}
use Rattle.lists.specs.Select.{one_if, how_many}
use Rattle.lists.proofs.Counting.{count_append}
use Rattle.lines.specs.Sheet.{Figures, number_baked, number_given_up}
use Rattle.page.specs.declared.Page.{Page}
use Rattle.page.specs.Pages.{figures_held, page_of}
use Rattle.page.proofs.OnPage.{no_figures, one_more}

-- a ticket counts for one, and none for nothing
one_ticket : (t : ℕ) → one_if (not (eqb t 0)) ≡ min 1 t
unfolding one_if
one_ticket t = go (eqb t 0) refl
  where
    go : (b : Bool) → eqb t 0 ≡ b → one_if (not b) ≡ min 1 t
    go true e = omega (arith, eqb-true t 0 e)
    go false e = let n = eqb-false t 0 e in omega arith

given_up_append : (k l : List Figures) → number_given_up (k ++ l) ≡ number_given_up k + number_given_up l
unfolding number_given_up
given_up_append [] l = omega arith
given_up_append (f ∷ k) l = omega (arith, given_up_append k l)

module _ (p : Page) (i : ℕ) (h : i < length (page_of p)) where
  -- the next closing counts if it has a ticket
  pub baked_next : number_baked (take (suc i) (page_of p)) ≡ number_baked (take i (page_of p)) + min 1 (get_or p.closings i no_figures).ticket
  unfolding number_baked how_many figures_held
  baked_next =
      let f = figures_held (get_or p.closings i no_figures) in
      omega (
        arith,
        ap number_baked (one_more p i h),
        count_append (λ (g : Figures). not (eqb g.ticket 0)) (take i (page_of p)) (f ∷ []),
        one_ticket f.ticket,
      )

  pub given_up_next : number_given_up (take (suc i) (page_of p)) ≡ number_given_up (take i (page_of p)) + (get_or p.closings i no_figures).listed
  unfolding number_given_up figures_held
  given_up_next =
      let f = figures_held (get_or p.closings i no_figures) in
      omega (arith, ap number_given_up (one_more p i h), given_up_append (take i (page_of p)) (f ∷ []))
