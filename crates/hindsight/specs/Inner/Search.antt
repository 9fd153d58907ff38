-- What a search keeps and finds. The place k of a trail is the slot k + 1; of a holder the number suc r is the job r, 0 is none.
use Rattle.std.specs.Prelude.{◌≡◌, Bool, true, false, not, ◌⊎◌, List, ℕ, suc, ◌+◌, ◌≤◌, ◌<◌, eqb, length, get_or, Option, Some, None}
use Rattle.lists.specs.Select.{one_if}
use Rattle.matching.specs.declared.Window.{Window}
use Rattle.matching.specs.Below.{count_below}
use Rattle.matching.specs.Windows.{slot_count, first_of, last_of}
use Rattle.hindsight.specs.declared.search.Trail.{Trail}

unfoldable pub visited_at : Trail → ℕ → Bool
visited_at t k = get_or t.visited k false

-- the number of a holder
abbrev pub holder_number : Option ℕ → ℕ
holder_number (Some r) = suc r
holder_number None = 0

unfoldable pub holder : Trail → ℕ → ℕ
holder t k = holder_number (get_or t.holders k None)

unfoldable pub unvisited : Trail → ℕ
unvisited t = count_below (λ k. not (visited_at t k)) slot_count

-- how many slots a holder has
unfoldable pub slots_held : Trail → ℕ → ℕ
slots_held t h = count_below (λ k. eqb (holder t k) h) slot_count

-- a job of the list with the slot k in its window
pub record Held (ws : List Window) (k r : ℕ) : Type 0 where
  pub job : r < length ws
  pub from_first : first_of ws r ≤ suc k
  pub to_last : suc k ≤ last_of ws r

-- 64 slots, and each holder is a job with that slot in its window
pub record Fitting (ws : List Window) (t : Trail) : Type 0 where
  pub visited_all : length t.visited ≡ slot_count
  pub holders_all : length t.holders ≡ slot_count
  pub held : (k r : ℕ) → k < slot_count → holder t k ≡ suc r → Held ws k r

-- all slots of the job's window are visited
unfoldable pub Searched : List Window → ℕ → Trail → Type 0
Searched ws r t = (k : ℕ) → first_of ws r ≤ suc k → suc k ≤ last_of ws r → visited_at t k ≡ true

-- the slot has a holder, who finds no other
pub record Stuck (ws : List Window) (t : Trail) (k : ℕ) : Type 0 where
  pub job : ℕ
  pub holds : holder t k ≡ suc job
  pub searched : Searched ws job t

-- visited slots stay visited and keep their holders
pub record Kept (ws : List Window) (s t : Trail) : Type 0 where
  pub grows : (k : ℕ) → visited_at s k ≡ true → visited_at t k ≡ true
  pub keeps : (k : ℕ) → visited_at s k ≡ true → holder t k ≡ holder s k
  pub fitting : Fitting ws t

-- the holder has one slot more, every other as many as before
unfoldable pub OneMore : ℕ → Trail → Trail → Type 0
OneMore h s t = (r : ℕ) → slots_held t (suc r) ≡ slots_held s (suc r) + one_if (eqb h (suc r))

-- no slot for the job: the holders are as before, and every slot newly visited is stuck
pub record NoSlot (ws : List Window) (r : ℕ) (s t : Trail) : Type 0 where
  pub same : t.holders ≡ s.holders
  pub searched : Searched ws r t
  pub stuck : (k : ℕ) → k < slot_count → visited_at t k ≡ true → (visited_at s k ≡ true) ⊎ Stuck ws t k

-- what `seek` asks and ensures
pub record Ready (ws : List Window) (r : ℕ) (s : Trail) : Type 0 where
  pub job : r < length ws
  pub fitting : Fitting ws s

pub record Sought (ws : List Window) (r : ℕ) (s t : Trail) (found : Bool) : Type 0 where
  pub kept : Kept ws s t
  pub one_more : found ≡ true → OneMore (suc r) s t
  pub no_slot : found ≡ false → NoSlot ws r s t

-- what `move_holder` asks and ensures
pub record ToMove (ws : List Window) (k : ℕ) (s : Trail) : Type 0 where
  pub place : k < slot_count
  pub fitting : Fitting ws s

-- the holder of the slot k found no other slot
pub record NoMove (ws : List Window) (k : ℕ) (s t : Trail) : Type 0 where
  pub job : ℕ
  pub holds : holder s k ≡ suc job
  pub no_slot : NoSlot ws job s t

pub record Moved (ws : List Window) (k : ℕ) (s t : Trail) (found : Bool) : Type 0 where
  pub kept : Kept ws s t
  pub one_more : found ≡ true → OneMore (holder s k) s t
  pub no_move : found ≡ false → NoMove ws k s t
