-- The lowest ticket of the jobs with one key.
use Rattle.std.specs.Prelude.{◌≡◌, List, ℕ, ◌≤◌, ◌<◌, get_or}

-- r is the lowest ticket of those of the first n places that have this key, if one has it
pub record LowestOf (n : ℕ) (K T : List ℕ) (key r : ℕ) : Type 0 where
  pub least : (i : ℕ) → i < n → get_or K i 0 ≡ key → r ≤ get_or T i 0
  pub present : (i : ℕ) → i < n → get_or K i 0 ≡ key → (j : ℕ) × (j < n) × (get_or K j 0 ≡ key) × (get_or T j 0 ≡ r)
