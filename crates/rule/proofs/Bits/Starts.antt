-- The laws of starts: a start of a start is a start, a start shorter than the list goes on with one of the two bits, and one as long as the list is the list.
use mathlib.Core.Path.{◌≡◌, refl, sym, ap₂}
use mathlib.Core.Bool.{Bool, true, false, not, ◌&&◌, beq}
use mathlib.Core.List.{List, [], ◌∷◌, ◌++◌}
use Prim.Native.Nat.{◌<◌}
use native.Mathlib.Omega.{arith}
use lib.ListN.{length}
use Rattle.lists.proofs.Tests.{never, and_left, and_right, and_intro}
use Rattle.rule.specs.Grade.{starts}

pub same_bit : (b c : Bool) → beq b c ≡ true → b ≡ c
same_bit true true h = refl
same_bit true false h = never h refl
same_bit false true h = never h refl
same_bit false false h = refl

pub bit_same : (b : Bool) → beq b b ≡ true
bit_same true = refl
bit_same false = refl

pub starts_append : (u v w : List Bool) → starts (u ++ v) w ≡ true → starts u w ≡ true
unfolding starts
starts_append [] v w h = refl
starts_append (b ∷ u) v [] h = h
starts_append (b ∷ u) v (c ∷ w) h =
    and_intro (beq b c) (starts u w) (and_left (beq b c) (starts (u ++ v) w) h) (starts_append u v w (and_right (beq b c) (starts (u ++ v) w) h))

-- a start shorter than the list goes on with exactly one of the two bits
pub starts_next : (b : Bool) (u w : List Bool) → starts u w ≡ true → length u < length w → starts (u ++ (not b ∷ [])) w ≡ not (starts (u ++ (b ∷ [])) w)
unfolding starts
starts_next b [] [] h l = absurd (omega arith)
starts_next b [] (c ∷ w) h l = go b c
  where
    go : (b c : Bool) → (beq (not b) c && true) ≡ not (beq b c && true)
    go true true = refl
    go true false = refl
    go false true = refl
    go false false = refl
starts_next b (a ∷ u) [] h l = never h refl
starts_next b (a ∷ u) (c ∷ w) h l =
    rw (and_left (beq a c) (starts u w) h) (starts_next b u w (and_right (beq a c) (starts u w) h) (omega arith))

-- a list is a start of what it is the first part of, and what has a start has the rest behind it
pub starts_self : (u v : List Bool) → starts u (u ++ v) ≡ true
unfolding starts
starts_self [] v = refl
starts_self (b ∷ u) v = and_intro (beq b b) (starts u (u ++ v)) (bit_same b) (starts_self u v)

pub starts_rest : (u w : List Bool) → starts u w ≡ true → (v : List Bool) × (w ≡ u ++ v)
unfolding starts
starts_rest [] w h = (w, refl)
starts_rest (b ∷ u) [] h = never h refl
starts_rest (b ∷ u) (c ∷ w) h =
    let r = starts_rest u w (and_right (beq b c) (starts u w) h) in
    (r.0, ap₂ (λ x v. x ∷ v) (sym (same_bit b c (and_left (beq b c) (starts u w) h))) r.1)
