-- Jobs as items: last slot and bits of the grade. Their counts are those of the list, and the items of a side are the jobs with that next bit.
use mathlib.Core.Path.{◌≡◌, refl, sym, ap, ◌∙◌}
use mathlib.Core.Bool.{Bool, true, false, ◌&&◌, beq, cond}
use mathlib.Core.List.{List, [], ◌∷◌}
use Prim.Native.Nat.{ℕ, suc, ◌/◌, ◌%◌, ◌^◌, ◌≤◌}
use native.Mathlib.Omega.{arith}
use lib.Dec.{eqb}
use Rattle.heights.proofs.Heights.Part.{Same}
use Rattle.heights.proofs.Trees.Tree.{total, OutTree}
use Rattle.heights.proofs.Items.Item.{Item, count, count_nil, count_cons}
use Rattle.heights.proofs.Items.Side.{next_bit, more_bits, put, side}
use Rattle.heights.proofs.Items.Tree.{tree, total_tree, tree_out}
use Rattle.lists.specs.Select.{select}
use Rattle.lists.proofs.Less.{Less, here, there}
use Rattle.rule.specs.Job.{Job}
use Rattle.rule.specs.Grade.{bits, starts, graded, starting}
use Rattle.rule.proofs.Bits.Number.{length_bits}
use Rattle.rule.proofs.Tight.Counts.{from_on, from_on_nil, from_on_cons, part}

abbrev pub item : ℕ → Job → Item
item d r = record { last = r.last; grade = bits d r.grade }

unfoldable pub items : ℕ → List Job → List Item
items d [] = []
items d (r ∷ A) = item d r ∷ items d A

pub items_count : (d : ℕ) (A : List Job) (s : ℕ) → count (items d A) s ≡ from_on A s
unfolding items
items_count d [] s = omega (arith, count_nil s, from_on_nil s)
items_count d (r ∷ A) s = omega (arith, count_cons (item d r) (items d A) s, from_on_cons r A s, items_count d A s)

-- the whole tree counts what the list counts
pub total_items : (d : ℕ) (A : List Job) (s : ℕ) → (total d (tree d (items d A))).at s ≡ from_on A s
total_items d A s = omega (arith, total_tree d (items d A) s, items_count d A s)

pub total_part : (d n : ℕ) (A : List Job) → Same n (total d (tree d (items d A))) (part A)
total_part d n A = record { is = λ s h. total_items d A s }

-- the first of e + 1 bits
abbrev pub first_bit : ℕ → Job → Bool
first_bit e r = eqb (r.grade / 2 ^ e % 2) 1

pub graded_first : (e : ℕ) (b : Bool) (r : Job) → graded (suc e) (b ∷ []) r ≡ beq b (first_bit e r)
unfolding graded starts bits
graded_first e b r = go (beq b (first_bit e r))
  where
    go : (x : Bool) → (x && true) ≡ x
    go true = refl
    go false = refl

-- the items of side b are the jobs with that first bit
pub items_side : (e : ℕ) (b : Bool) (A : List Job) → side b (items (suc e) A) ≡ items e (starting (suc e) (b ∷ []) A)
unfolding items side starting select next_bit more_bits bits
items_side e b [] = refl
items_side e b (r ∷ A) =
    ap (put b (first_bit e r) (item e r)) (items_side e b A) ∙ go b (first_bit e r)
    ∙ ap (λ x. items e (cond x (r ∷ starting (suc e) (b ∷ []) A) (starting (suc e) (b ∷ []) A))) (sym (graded_first e b r))
  where
    go : (b c : Bool) → put b c (item e r) (items e (starting (suc e) (b ∷ []) A))
        ≡ items e (cond (beq b c) (r ∷ starting (suc e) (b ∷ []) A) (starting (suc e) (b ∷ []) A))
    go true true = unfold put in refl
    go true false = unfold put in refl
    go false true = unfold put in refl
    go false false = unfold put in refl

pub less_items : (d : ℕ) {p : Job} {L L' : List Job} → Less p L L' → Less (item d p) (items d L) (items d L')
unfolding items
less_items d here = here
less_items d (there l) = there (less_items d l)

-- p leaves the tree with its bits
pub items_out : (d now : ℕ) {p : Job} {L L' : List Job} → Less p L L' → now ≤ p.last
    → OutTree d now p.last (tree d (items d L)) (tree d (items d L')) (bits d p.grade)
items_out d now {p} l h = tree_out d now (less_items d l) h (length_bits d p.grade)
