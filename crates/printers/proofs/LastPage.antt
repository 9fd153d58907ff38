-- The last page: one that is not full, with a closing on it.
use Rattle.std.proofs.Common.{◌≡◌, Bool, true, false, cond, ◌||◌, eqb, List, [], length, ap, ap₂, eq-eqb, ne_eqb}
use Rattle.lists.proofs.Tests.{or_right}
use Rattle.lines.specs.Sheet.{Figures, page, is_full}
use Rattle.lines.specs.Printers.{last_page}

module _ (p : List Figures) where
  pub last_none : length p ≡ 0 → last_page p ≡ []
  unfolding last_page
  last_none h = ap (λ (b : Bool). cond b [] (page p)) (or_right (is_full p) (eqb (length p) 0) (eq-eqb (length p) 0 h))

  pub last_full : is_full p ≡ true → last_page p ≡ []
  unfolding last_page
  last_full h = ap (λ (b : Bool). cond (b || eqb (length p) 0) [] (page p)) h

  pub last_begun : is_full p ≡ false → (length p ≡ 0 → ⊥) → last_page p ≡ page p
  unfolding last_page
  last_begun h n = ap₂ (λ (b c : Bool). cond (b || c) [] (page p)) h (ne_eqb (length p) 0 n)
