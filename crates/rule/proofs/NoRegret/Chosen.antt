-- The next bit of the descent is the side that the tree of the jobs chooses. Jobs that have expired are in the tree and change nothing.
use mathlib.Core.Path.{◌≡◌, refl, sym, ap, subst, ◌∙◌}
use mathlib.Core.Bool.{Bool, true, false, not}
use mathlib.Core.Logic.{◌⊎◌, inl, inr}
use mathlib.Core.List.{List, [], ◌∷◌, Memᴰ}
use Prim.Native.Nat.{ℕ, suc, ◌≤◌, ◌<◌}
use native.Mathlib.Omega.{arith}
use lib.Dec.{leb}
use borrow.Author.Tests.{le-leb}
use Rattle.heights.proofs.Heights.TightSlot.{TightSlot, tight_same}
use Rattle.heights.proofs.Sides.Tight.{Chosen, Pick}
use Rattle.heights.proofs.Trees.Tree.{total, sides}
use Rattle.heights.proofs.Items.Tree.{tree}
use Rattle.lists.specs.Select.{select, has}
use Rattle.lists.proofs.Tests.{never, cmp}
use Rattle.lists.proofs.Members.{select_mem, mem_select, has_mem, mem_has}
use Rattle.rule.specs.Job.{Job, in_date}
use Rattle.rule.specs.Grade.{graded, starting}
use Rattle.rule.specs.Tight.{tight}
use Rattle.rule.specs.Descent.{next_bit}
use Rattle.rule.proofs.Tight.Counts.{from_on, part, member_falls, fall_member, in_date_all}
use Rattle.rule.proofs.Tight.Slot.{tight_last, tight_mem, mem_tight, in_date_tight}
use Rattle.rule.proofs.NoRegret.ByBit.{starting_none}
use Rattle.rule.proofs.NoRegret.Items.{items, items_side, total_items, total_part}

-- the jobs of L in date
abbrev pub dated : ℕ → List Job → List Job
dated now L = select (in_date now) L

pub mem_dated : (now : ℕ) {L : List Job} {r : Job} → Memᴰ r L → now ≤ r.last → Memᴰ r (dated now L)
unfolding in_date
mem_dated now {r = r} m h = mem_select (λ (q : Job). leb now q.last) m (le-leb now r.last h)

pub dated_mem : (now : ℕ) (L : List Job) {r : Job} → Memᴰ r (dated now L) → Memᴰ r L
dated_mem now L {r} m = (select_mem (in_date now) r L m).0

-- the tight slot of the tree
pub tree_tight : (d now : ℕ) (L : List Job) {r : Job} → Memᴰ r (dated now L) → TightSlot now (total d (tree d (items d L))) (tight_last now (dated now L))
tree_tight d now L m = tight_same (total_part d now L) (in_date_tight now L m)

module _ (now : ℕ) (L : List Job) (f : Job → Bool) where
  -- if a tight job passes the test f, the count of the jobs that pass falls up to the tight slot
  falls : has f (tight now (dated now L)) ≡ true → from_on (select f L) (suc (tight_last now (dated now L))) < from_on (select f L) now
  falls h =
      let (q, i, g) = has_mem f (tight now (dated now L)) h in
      let t = tight_mem now (dated now L) (in_date_all now L) i in
      member_falls (mem_select f (dated_mem now L t.0) g) now (suc (tight_last now (dated now L))) (in_date_all now L q t.0) (omega arith)

  -- if none does, it does not
  stays : has f (tight now (dated now L)) ≡ false → now ≤ tight_last now (dated now L)
      → from_on (select f L) (suc (tight_last now (dated now L))) ≡ from_on (select f L) now
  stays h d = go (cmp (from_on (select f L) now) (from_on (select f L) (suc (tight_last now (dated now L)))))
    where
      l : ℕ
      l = tight_last now (dated now L)

      go : (from_on (select f L) now ≤ from_on (select f L) (suc l)) ⊎ (from_on (select f L) (suc l) < from_on (select f L) now)
          → from_on (select f L) (suc l) ≡ from_on (select f L) now
      go (inl k) = omega (arith, (part (select f L)).anti now (suc l) (omega arith))
      go (inr k) =
          let (q, i, a, b) = fall_member (select f L) now (suc l) k in
          let s = select_mem f q L i in
          never (mem_has f (mem_tight now (dated now L) (in_date_all now L) (mem_dated now s.0 a) (omega arith)) s.1) h

-- the next bit from the top
next_bit_top : (now d : ℕ) (A : List Job) → next_bit now d A [] ≡ not (has (graded d (false ∷ [])) (tight now A))
unfolding next_bit
next_bit_top now d A = ap (λ B. not (has (graded d (false ∷ [])) (tight now B))) (starting_none d A)

-- a side counts its jobs
side_count : (e : ℕ) (b : Bool) (L : List Job) (s : ℕ) → (sides e (tree (suc e) (items (suc e) L)) b).at s ≡ from_on (select (graded (suc e) (b ∷ [])) L) s
unfolding tree starting
side_count e b L s = ap (λ X. (total e (tree e X)).at s) (items_side e b L) ∙ total_items e (starting (suc e) (b ∷ []) L) s

pub next_bit_chosen : (e now : ℕ) (L : List Job) {r : Job} → Memᴰ r (dated now L)
    → Chosen now (tight_last now (dated now L)) (sides e (tree (suc e) (items (suc e) L))) (next_bit now (suc e) (dated now L) [])
unfolding total
next_bit_chosen e now L m =
    record { tight = t; pick = subst (λ b. Pick b (n (suc l)) (n now)) (sym (next_bit_top now (suc e) (dated now L))) (go (has f (tight now (dated now L))) refl) }
  where
    l : ℕ
    l = tight_last now (dated now L)

    f : Job → Bool
    f = graded (suc e) (false ∷ [])

    n : ℕ → ℕ
    n s = (sides e (tree (suc e) (items (suc e) L)) false).at s

    t : TightSlot now (total (suc e) (tree (suc e) (items (suc e) L))) l
    t = tree_tight (suc e) now L m

    go : (x : Bool) → has f (tight now (dated now L)) ≡ x → Pick (not x) (n (suc l)) (n now)
    go true h = omega (arith, side_count e false L (suc l), side_count e false L now, falls now L f h)
    go false h = omega (arith, side_count e false L (suc l), side_count e false L now, stays now L f h t.date)
