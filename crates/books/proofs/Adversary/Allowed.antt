-- Jobs with fit grades are items with allowed ones.
use mathlib.Core.Path.{◌≡◌, refl, ap, ◌∙◌}
use mathlib.Core.Bool.{true}
use mathlib.Core.List.{List, [], ◌∷◌, Memᴰ}
use Prim.Native.Nat.{ℕ, ◌^◌}
use lib.Dec.{ltb}
use native.Mathlib.Nat.{mod-eq_of_lt}
use borrow.Author.Tests.{ltb-true}
use Rattle.lists.proofs.Tests.{and_left}
use Rattle.heights.proofs.Items.Item.{Each}
use Rattle.heights.proofs.Adversary.Allowed.{Allowed}
use Rattle.rule.specs.Job.{Job}
use Rattle.rule.specs.Grade.{bits}
use Rattle.rule.proofs.Bits.Number.{length_bits, number_bits}
use Rattle.rule.proofs.NoRegret.Items.{items}
use Rattle.books.specs.Rival.{Setting, fit}
use Rattle.books.proofs.Adversary.Future.{ok}

-- a fit grade is allowed as bits
pub fit_bits : (S : Setting) (g : ℕ) → fit S g ≡ true → ok S (bits S.depth g) ≡ true
unfolding ok fit
fit_bits S g h =
    let d = S.depth in
    ap (fit S) (number_bits d g ∙ mod-eq_of_lt (ltb-true g (2 ^ d) (and_left (ltb g (2 ^ d)) (S.allowed g) h))) ∙ h

-- jobs with fit grades as allowed items
pub all_allowed : (S : Setting) (L : List Job) → ((x : Job) → Memᴰ x L → fit S x.grade ≡ true) → Each (Allowed (ok S) S.depth) (items S.depth L)
unfolding items Each
all_allowed S [] f = tt
all_allowed S (r ∷ L) f = (
  record { in_set = fit_bits S r.grade (f r (Memᴰ.head refl)); bits = length_bits S.depth r.grade },
  all_allowed S L (λ x m. f x (Memᴰ.tail m)),
)
