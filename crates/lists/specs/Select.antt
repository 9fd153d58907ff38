-- Lists and tests: the elements that pass, how many pass, whether all or any do, the first that does.
use Rattle.std.specs.Prelude.{Bool, true, false, cond, ◌&&◌, ◌||◌, List, [], ◌∷◌, ℕ, ◌+◌}
use Rattle.std.proofs.Math.Option.{Option, none, some}

-- 1 where a test passes, else 0
unfoldable pub one_if : Bool → ℕ
one_if true = 1
one_if false = 0

-- the elements that pass the test, in their order
unfoldable pub select : {A : Type 0} → (A → Bool) → List A → List A
select p [] = []
select p (a ∷ l) = cond (p a) (a ∷ select p l) (select p l)

-- how many elements pass
unfoldable pub how_many : {A : Type 0} → (A → Bool) → List A → ℕ
how_many p [] = 0
how_many p (a ∷ l) = one_if (p a) + how_many p l

-- every element passes
unfoldable pub every : {A : Type 0} → (A → Bool) → List A → Bool
every p [] = true
every p (a ∷ l) = p a && every p l

-- some element passes
unfoldable pub has : {A : Type 0} → (A → Bool) → List A → Bool
has p [] = false
has p (a ∷ l) = p a || has p l

-- the first element that passes
unfoldable pub find : {A : Type 0} → (A → Bool) → List A → Option A
find p [] = none
find p (a ∷ l) = cond (p a) (some a) (find p l)
