-- Items as changes: each enters as a job with a new ticket, and each list after the first comes behind a closing.
use mathlib.Core.Path.{◌≡◌, refl, ap, ap₂, ◌∙◌, subst}
use mathlib.Core.Bool.{true}
use mathlib.Core.List.{List, [], ◌∷◌, ◌++◌, append-nil}
use Prim.Native.Nat.{ℕ, suc, ◌+◌, ◌-◌}
use native.Mathlib.Omega.{arith}
use lib.ListN.{length}
use Rattle.heights.proofs.Items.Item.{Item, Each}
use Rattle.heights.proofs.Adversary.Allowed.{Grades, Fit, AllFit}
use Rattle.rule.specs.Job.{job}
use Rattle.rule.proofs.Bits.Number.{number, bits_number}
use Rattle.rule.proofs.NoRegret.Items.{item, items}
use Rattle.books.specs.Book.{Change, enter, end_slot}
use Rattle.books.specs.Rival.{Setting, fit, lifted}
use Rattle.books.proofs.Walks.Left.{enter_lifted}
use Rattle.books.proofs.Walks.Groups.{first, later}
use Rattle.books.proofs.Runs.AnyRun.{groups}

-- the grades that a setting allows, as bits
unfoldable pub ok : Setting → Grades
ok S w = fit S (number w)

unfoldable pub enter_all : ℕ → ℕ → List Item → List Change → List Change
enter_all h s [] es = es
enter_all h s (p ∷ F) es = enter (suc h) (p.last + 1 - s) (number p.grade) ∷ enter_all (suc h) s F es

unfoldable pub future : ℕ → ℕ → List Item → List (List Item) → List Change
future h s F [] = enter_all h s F []
future h s F (G ∷ fs) = enter_all h s F (end_slot ∷ future (h + length F) (suc s) G fs)

module _ (S : Setting) where
  abbrev d : ℕ
  d = S.depth

  all_lifted : (h s : ℕ) (F : List Item) (es : List Change) → Each (Fit (ok S) d s) F → lifted S (h + length F) es ≡ true → lifted S h (enter_all h s F es) ≡ true
  unfolding enter_all Each ok
  all_lifted h s [] es f e = subst (λ n. lifted S n es ≡ true) (let z : h + 0 ≡ h = omega arith in z) e
  all_lifted h s (p ∷ F) es f e =
      enter_lifted S h (suc h) (p.last + 1 - s) (number p.grade) (enter_all (suc h) s F es) (omega arith) (omega (arith, f.0.date)) f.0.allowed.in_set
      (all_lifted (suc h) s F es f.1 (subst (λ n. lifted S n es ≡ true) (let z : h + suc (length F) ≡ suc h + length F = omega arith in z) e))

  pub future_lifted : (h s : ℕ) (F : List Item) (fs : List (List Item)) → Each (Fit (ok S) d s) F → AllFit (ok S) d (suc s) fs → lifted S h (future h s F fs) ≡ true
  unfolding future lifted AllFit
  future_lifted h s F [] f a = all_lifted h s F [] f refl
  future_lifted h s F (G ∷ fs) f a = all_lifted h s F (end_slot ∷ future (h + length F) (suc s) G fs) f (future_lifted (h + length F) (suc s) G fs a.0 a.1)

  -- an item enters as itself
  as_item : (h s : ℕ) (p : Item) → Fit (ok S) d s p → item d (job (suc h) s (p.last + 1 - s) (number p.grade)) ≡ p
  unfolding job
  as_item h s p f =
      let l : s + (p.last + 1 - s) - 1 ≡ p.last = omega (arith, f.date) in
      let g = bits_number d p.grade f.allowed.bits in
      λ i. record { last = l i; grade = g i }

  enter_first : (h s : ℕ) (F : List Item) (es : List Change) → Each (Fit (ok S) d s) F → items d (first s (enter_all h s F es)) ≡ F ++ items d (first s es)
  unfolding enter_all first items Each
  enter_first h s [] es f = refl
  enter_first h s (p ∷ F) es f = ap₂ ◌∷◌ (as_item h s p f.0) (enter_first (suc h) s F es f.1)

  enter_later : (h s : ℕ) (F : List Item) (es : List Change) → later s (enter_all h s F es) ≡ later s es
  unfolding enter_all later
  enter_later h s [] es = refl
  enter_later h s (p ∷ F) es = enter_later (suc h) s F es

  pub future_first : (h s : ℕ) (F : List Item) (fs : List (List Item)) → Each (Fit (ok S) d s) F → items d (first s (future h s F fs)) ≡ F
  unfolding future first items
  future_first h s F [] f = enter_first h s F [] f ∙ append-nil F
  future_first h s F (G ∷ fs) f = enter_first h s F (end_slot ∷ future (h + length F) (suc s) G fs) f ∙ append-nil F

  pub future_later : (h s : ℕ) (F : List Item) (fs : List (List Item)) → Each (Fit (ok S) d s) F → AllFit (ok S) d (suc s) fs
      → groups d (later s (future h s F fs)) ≡ fs
  unfolding future later groups AllFit
  future_later h s F [] f a = ap (groups d) (enter_later h s F [])
  future_later h s F (G ∷ fs) f a =
      ap (groups d) (enter_later h s F (end_slot ∷ future (h + length F) (suc s) G fs))
      ∙ ap₂ ◌∷◌ (future_first (h + length F) (suc s) G fs a.0) (future_later (h + length F) (suc s) G fs a.0 a.1)
