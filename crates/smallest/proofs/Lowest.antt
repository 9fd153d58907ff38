-- The lowest ticket of the places with a key, place by place.
use Rattle.std.proofs.Common.{◌≡◌, ℕ, ◌+◌, ◌-◌, ◌^◌, ◌<◌, ◌≤◌, ◌⊎◌, min, List, get_or, take, refl, sym, ◌∙◌, inl, inr, arith, below_more}
use Rattle.std.proofs.lemmas.List.{get_or-take}
use mathlib.Core.Logic.{⊎_elim}
use Rattle.lists.proofs.Tests.{cmp}
use Rattle.smallest.specs.Inner.Lowest.{LowestOf}

module _ (K T : List ℕ) (key : ℕ) where
  -- a place of the first n with the key and this ticket
  abbrev PlaceWith : (n r : ℕ) → Type 0
  PlaceWith n r = (j : ℕ) × (j < n) × (get_or K j 0 ≡ key) × (get_or T j 0 ≡ r)

  -- r is the lowest of the first n, or the greatest number while there is none
  pub record LowestTo (n r : ℕ) : Type 0 where
    pub least : (i : ℕ) → i < n → get_or K i 0 ≡ key → r ≤ get_or T i 0
    pub found : (r ≡ 2 ^ 32 - 1) ⊎ PlaceWith n r
    pub small : (i : ℕ) → i < n → get_or T i 0 < 2 ^ 32
    pub fits : r < 2 ^ 32

  pub lowest_none : LowestTo 0 (2 ^ 32 - 1)
  lowest_none = record { least = λ i h. absurd (omega arith); found = inl refl; small = λ i h. absurd (omega arith); fits = omega arith }

  module _ {n r : ℕ} (L : LowestTo n r) (fits : get_or T n 0 < 2 ^ 32) where
    later : {r : ℕ} → PlaceWith n r → PlaceWith (n + 1) r
    later (j, h, p, q) = (j, omega (arith, h), p, q)

    -- it stays the lowest: the key is another one, or the ticket is not lower
    lowest_same : (get_or K n 0 ≡ key → r ≤ get_or T n 0) → LowestTo (n + 1) r
    lowest_same o =
        record {
          least = below_more _ _ L.least o;
          found = ⊎_elim (λ m. inl m) (λ p. inr (later p)) L.found;
          small = below_more _ _ L.small fits;
          fits = L.fits;
        }

    -- a place with another key
    pub lowest_past : (s : ℕ) → ¬ (get_or K n 0 ≡ key) → s ≡ min r (2 ^ 32 - 1) → LowestTo (n + 1) s
    lowest_past s o e =
        let m : s ≡ r = omega (arith, L.fits) in
        rw m (lowest_same (λ k. absurd (o k)))

    -- a place with the key
    pub lowest_here : (s : ℕ) → get_or K n 0 ≡ key → s ≡ min r (get_or T n 0) → LowestTo (n + 1) s
    lowest_here s here e = go (cmp r (get_or T n 0))
      where
        go : (r ≤ get_or T n 0) ⊎ (get_or T n 0 < r) → LowestTo (n + 1) s
        go (inl h) =
            let m : s ≡ r = omega arith in
            rw m (lowest_same (λ k. h))
        go (inr h) =
            let m : s ≡ get_or T n 0 = omega arith in
            rw m (record {
              least = below_more _ _ (λ i l k. omega (arith, h, L.least i l k)) (λ k. omega arith);
              found = inr (n, omega arith, here, refl);
              small = below_more _ _ L.small fits;
              fits = fits;
            })

-- the keys are the first n of K
pub lowest_all : (n : ℕ) (K T : List ℕ) (key : ℕ) {r : ℕ} → LowestTo (take n K) T key n r → LowestOf n K T key r
lowest_all n K T key {r} L =
    record {
      least = λ i h e. L.least i h (get_or-take n K i 0 h ∙ e);
      present =
          λ i h e.
          ⊎_elim
          (λ (m : r ≡ 2 ^ 32 - 1). (i, h, e, omega (arith, m, L.least i h (get_or-take n K i 0 h ∙ e), L.small i h)))
          (λ (j, l, k, t). (j, l, sym (get_or-take n K j 0 l) ∙ k, t))
          L.found;
    }
