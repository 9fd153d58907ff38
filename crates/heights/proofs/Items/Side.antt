-- The items on a side: those whose next bit is b, with that bit taken off. A missing bit counts as 0. Lifting puts a bit in front of each grade.
use mathlib.Core.Path.{◌≡◌, refl, sym, ap, ◌∙◌, subst}
use mathlib.Core.Bool.{Bool, true, false, not}
use mathlib.Core.List.{List, [], ◌∷◌, ◌++◌}
use Prim.Native.Nat.{ℕ, ◌+◌, ◌<◌}
use native.Mathlib.Omega.{arith}
use lib.ListN.{length}
use Rattle.lists.proofs.Less.{Less, here, there}
use Rattle.heights.proofs.Items.Item.{Item, count, count_nil, count_cons, Each}

unfoldable pub next_bit : List Bool → Bool
next_bit [] = false
next_bit (b ∷ w) = b

unfoldable pub more_bits : List Bool → List Bool
more_bits [] = []
more_bits (b ∷ w) = w

-- p without its next bit
abbrev pub after : Item → Item
after p = record { last = p.last; grade = more_bits p.grade }

-- p in front of A, if the two bits are the same
unfoldable pub put : Bool → Bool → Item → List Item → List Item
put true true p A = p ∷ A
put true false p A = A
put false true p A = A
put false false p A = p ∷ A

unfoldable pub side : Bool → List Item → List Item
side b [] = []
side b (p ∷ A) = put b (next_bit p.grade) (after p) (side b A)

unfoldable pub lift : Bool → List Item → List Item
lift b [] = []
lift b (p ∷ A) = record { last = p.last; grade = b ∷ p.grade } ∷ lift b A

pub put_here : (b : Bool) (p : Item) (A : List Item) → put b b p A ≡ p ∷ A
unfolding put
put_here false p A = refl
put_here true p A = refl

pub put_other : (b : Bool) (p : Item) (A : List Item) → put (not b) b p A ≡ A
unfolding put
put_other false p A = refl
put_other true p A = refl

pub side_append : (b : Bool) (A B : List Item) → side b (A ++ B) ≡ side b A ++ side b B
unfolding side
side_append b [] B = refl
side_append b (p ∷ A) B = go b (next_bit p.grade) (side_append b A B)
  where
    go : (b c : Bool) → side b (A ++ B) ≡ side b A ++ side b B → put b c (after p) (side b (A ++ B)) ≡ put b c (after p) (side b A) ++ side b B
    go true true e = unfold put in ap (λ (X : List Item). after p ∷ X) e
    go true false e = unfold put in e
    go false true e = unfold put in e
    go false false e = unfold put in ap (λ (X : List Item). after p ∷ X) e

pub side_lift : (b : Bool) (A : List Item) → side b (lift b A) ≡ A
unfolding side lift next_bit more_bits
side_lift b [] = refl
side_lift b (p ∷ A) = put_here b p (side b (lift b A)) ∙ ap (λ (X : List Item). p ∷ X) (side_lift b A)

pub side_lift_other : (b : Bool) (A : List Item) → side (not b) (lift b A) ≡ []
unfolding side lift next_bit more_bits
side_lift_other b [] = refl
side_lift_other b (p ∷ A) = put_other b p (side (not b) (lift b A)) ∙ side_lift_other b A

-- the two sides together
pub side_sum : (A : List Item) (s : ℕ) → count A s ≡ count (side false A) s + count (side true A) s
unfolding side
side_sum [] s = omega (arith, count_nil s)
side_sum (p ∷ A) s = go (next_bit p.grade) (side_sum A s)
  where
    go : (c : Bool) → count A s ≡ count (side false A) s + count (side true A) s
        → count (p ∷ A) s ≡ count (put false c (after p) (side false A)) s + count (put true c (after p) (side true A)) s
    go true e = unfold put in omega (arith, count_cons p A s, count_cons (after p) (side true A) s)
    go false e = unfold put in omega (arith, count_cons p A s, count_cons (after p) (side false A) s)

put_less : {p : Item} (b c : Bool) (r : Item) (A B : List Item) → Less p A B → Less p (put b c r A) (put b c r B)
unfolding put
put_less true true r A B l = there l
put_less true false r A B l = l
put_less false true r A B l = l
put_less false false r A B l = there l

-- an item leaves its side
pub side_less : {p : Item} {A B : List Item} → Less p A B → Less (after p) (side (next_bit p.grade) A) (side (next_bit p.grade) B)
unfolding side
side_less {p} (here {L = A}) =
    let b = next_bit p.grade in
    subst (λ X. Less (after p) X (side b A)) (sym (put_here b (after p) (side b A))) here
side_less {p} (there {r = r} {L = A} {L' = B} l) =
    let b = next_bit p.grade in
    put_less b (next_bit r.grade) (after r) (side b A) (side b B) (side_less l)

-- and the other side stays
pub side_kept : {p : Item} {A B : List Item} → Less p A B → side (not (next_bit p.grade)) A ≡ side (not (next_bit p.grade)) B
unfolding side
side_kept {p} (here {L = A}) = let b = next_bit p.grade in put_other b (after p) (side (not b) A)
side_kept {p} (there {r = r} {L = A} {L' = B} l) = ap (put (not (next_bit p.grade)) (next_bit r.grade) (after r)) (side_kept l)

-- what holds of each item holds, in the form it has there, of each on a side
pub each_side : (P Q : Item → Type 0) (b : Bool) → ((p : Item) → next_bit p.grade ≡ b → P p → Q (after p)) → (A : List Item) → Each P A
    → Each Q (side b A)
unfolding Each side
each_side P Q b f [] e = tt
each_side P Q b f (p ∷ A) e = go b (next_bit p.grade) (λ g. f p g e.0) (each_side P Q b f A e.1)
  where
    go : (b c : Bool) → (c ≡ b → Q (after p)) → Each Q (side b A) → Each Q (put b c (after p) (side b A))
    go true true g i = unfold put in (g refl, i)
    go true false g i = unfold put in i
    go false true g i = unfold put in i
    go false false g i = unfold put in (g refl, i)

-- a grade with a bit is that bit and the others
pub split_bits : (w : List Bool) → 0 < length w → w ≡ next_bit w ∷ more_bits w
unfolding next_bit more_bits
split_bits [] h = absurd (omega arith)
split_bits (b ∷ w) h = refl
