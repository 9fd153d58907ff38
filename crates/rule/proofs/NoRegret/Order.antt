-- The no-regret set after j bits is what may leave the tree of the jobs in order j, both ways: the descent on lists is the descent in the tree.
-- So the set after one bit more lies within it.
use mathlib.Core.Path.{◌≡◌, refl, sym, ap, subst, ◌∙◌}
use mathlib.Core.Bool.{Bool, true, false, ◌&&◌}
use mathlib.Core.List.{List, [], ◌∷◌, Memᴰ}
use Prim.Native.Nat.{ℕ, zero, suc, ◌≤◌, ◌<◌}
use native.Mathlib.Omega.{arith}
use borrow.Author.Tests.{le-leb}
use Rattle.heights.proofs.Sides.Tight.{Chosen}
use Rattle.heights.proofs.Sides.Ahead.{chosen_bit}
use Rattle.heights.proofs.Trees.Tree.{Tree, sides, OutTree, total_out}
use Rattle.heights.proofs.Trees.NoRegret.{NoRegret, wider}
use Rattle.heights.proofs.Items.Tree.{tree}
use Rattle.lists.proofs.Members.{select_select, select_cong, select_all}
use Rattle.rule.specs.Job.{Job, in_date}
use Rattle.rule.specs.Grade.{bits, graded, starting}
use Rattle.rule.specs.Descent.{next_bit, no_regret_after}
use Rattle.lists.proofs.Less.{Less, less_mem, mem_less}
use Rattle.rule.proofs.Bits.Starts.{same_bit, bit_same}
use Rattle.rule.proofs.Tight.Counts.{AllInDate, in_date_all}
use Rattle.rule.proofs.Tight.Slot.{tight_last}
use Rattle.rule.proofs.NoRegret.Within.{starting_mem, mem_starting, tight_in, after_mem}
use Rattle.rule.proofs.NoRegret.ByBit.{by_bit, after_by_bit}
use Rattle.rule.proofs.NoRegret.Items.{items, items_side, first_bit, graded_first, items_out}
use Rattle.rule.proofs.NoRegret.Chosen.{dated, mem_dated, next_bit_chosen}
use Rattle.rule.proofs.NoRegret.Leaf.{tight_leaf, leaf_tight}

and_comm : (a b : Bool) → (a && b) ≡ (b && a)
and_comm true true = refl
and_comm true false = refl
and_comm false true = refl
and_comm false false = refl

starting_dated : (now d : ℕ) (u : List Bool) (L : List Job) → starting d u (dated now L) ≡ dated now (starting d u L)
unfolding starting
starting_dated now d u L =
    select_select (graded d u) (in_date now) L
    ∙ select_cong (λ r. in_date now r && graded d u r) (λ r. graded d u r && in_date now r) L (λ r m. and_comm (in_date now r) (graded d u r))
    ∙ sym (select_select (in_date now) (graded d u) L)

pub by_bit_in : (now j e : ℕ) (A : List Job) {r : Job} → Memᴰ r (by_bit now j e A) → Memᴰ r A
unfolding by_bit
by_bit_in now zero e A m = tight_in now A m
by_bit_in now (suc j) zero A m = tight_in now A m
by_bit_in now (suc j) (suc e) A m =
    let b = next_bit now (suc e) A [] in
    (starting_mem (suc e) (b ∷ []) A (by_bit_in now j e (starting (suc e) (b ∷ []) A) m)).0

-- the descent into the side of p's bit, in the list and in the tree
into : (now j e : ℕ) (L : List Job) (p : Job) → next_bit now (suc e) (dated now L) [] ≡ first_bit e p
    → by_bit now (suc j) (suc e) (dated now L) ≡ by_bit now j e (dated now (starting (suc e) (first_bit e p ∷ []) L))
unfolding by_bit
into now j e L p q =
    ap (by_bit now j e) (ap (λ x. starting (suc e) (x ∷ []) (dated now L)) q ∙ starting_dated now (suc e) (first_bit e p ∷ []) L)

-- a job of the set leaves in order j; T is any tree that is left without it
pub order_tree : (j e now : ℕ) (L : List Job) (T : Tree e) (p : Job) → Memᴰ p (by_bit now j e (dated now L))
    → OutTree e now p.last (tree e (items e L)) T (bits e p.grade) → NoRegret j e now (tree e (items e L)) T (bits e p.grade)
unfolding by_bit NoRegret OutTree tree bits
order_tree zero e now L T p m o = tight_leaf e now L T p m o
order_tree (suc j) zero now L T p m o = tight_leaf zero now L T p m o
order_tree (suc j) (suc e) now L T p m o =
    let b = next_bit now (suc e) (dated now L) [] in
    let c = first_bit e p in
    let w = bits e p.grade in
    let s = starting_mem (suc e) (b ∷ []) (dated now L) (by_bit_in now j e (starting (suc e) (b ∷ []) (dated now L)) m) in
    let q : b ≡ c = same_bit b c (sym (graded_first e b p) ∙ s.1) in
    let f = items_side e c L in
    let i = subst (Memᴰ p) (into now j e L p q) m in
    record {
      slot = tight_last now (dated now L);
      chosen = subst (Chosen now (tight_last now (dated now L)) (sides e (tree (suc e) (items (suc e) L)))) q (next_bit_chosen e now L s.0);
      inner =
          subst (λ X. NoRegret j e now (tree e X) (T c) w) (sym f)
          (order_tree j e now (starting (suc e) (c ∷ []) L) (T c) p i (subst (λ X. OutTree e now p.last (tree e X) (T c) w) f o.0));
      kept = o.1;
    }

-- a job that leaves in order j is in the set
pub tree_order : (j e now : ℕ) (L : List Job) (T : Tree e) (p : Job) → Memᴰ p L
    → OutTree e now p.last (tree e (items e L)) T (bits e p.grade) → NoRegret j e now (tree e (items e L)) T (bits e p.grade)
    → Memᴰ p (by_bit now j e (dated now L))
unfolding by_bit NoRegret OutTree tree bits
tree_order zero e now L T p m o g = leaf_tight e now L T p m o g
tree_order (suc j) zero now L T p m o g = leaf_tight zero now L T p m o g
tree_order (suc j) (suc e) now L T p m o g =
    let c = first_bit e p in
    let w = bits e p.grade in
    let S = tree (suc e) (items (suc e) L) in
    let d = mem_dated now m (total_out (suc e) now p.last S T (c ∷ w) o).date in
    let q = chosen_bit (next_bit now (suc e) (dated now L) []) c (next_bit_chosen e now L d) g.chosen in
    let f = items_side e c L in
    let i =
    tree_order j e now (starting (suc e) (c ∷ []) L) (T c) p (mem_starting (suc e) (c ∷ []) m (graded_first e c p ∙ bit_same c))
    (subst (λ X. OutTree e now p.last (tree e X) (T c) w) f o.0) (subst (λ X. NoRegret j e now (tree e X) (T c) w) f g.inner)
    in
    subst (Memᴰ p) (sym (into now j e L p q)) i

-- L' is L without one p
module _ (now d j : ℕ) {p : Job} {L L' : List Job} (h : j ≤ d) (l : Less p L L') where
  pub no_regret_leaves : Memᴰ p (no_regret_after now d j (dated now L))
      → NoRegret j d now (tree d (items d L)) (tree d (items d L')) (bits d p.grade)
  no_regret_leaves m =
      order_tree j d now L (tree d (items d L')) p (subst (Memᴰ p) (after_by_bit now d j (dated now L) h) m)
      (items_out d now l (in_date_all now L p (after_mem now d j (dated now L) m)))

  pub leaves_no_regret : now ≤ p.last → NoRegret j d now (tree d (items d L)) (tree d (items d L')) (bits d p.grade)
      → Memᴰ p (no_regret_after now d j (dated now L))
  leaves_no_regret k g =
      subst (Memᴰ p) (sym (after_by_bit now d j (dated now L) h)) (tree_order j d now L (tree d (items d L')) p (less_mem l) (items_out d now l k) g)

-- one bit more: no other jobs
pub after_wider : (now d j : ℕ) (A : List Job) {p : Job} → AllInDate now A → j < d → Memᴰ p (no_regret_after now d (suc j) A)
    → Memᴰ p (no_regret_after now d j A)
unfolding in_date
after_wider now d j A {p} a h m =
    let e : dated now A ≡ A = select_all (in_date now) A (λ r i. le-leb now r.last (a r i)) in
    let i = after_mem now d (suc j) A m in
    let (B, l) = mem_less i in
    let g = no_regret_leaves now d (suc j) h l (subst (λ X. Memᴰ p (no_regret_after now d (suc j) X)) (sym e) m) in
    subst (λ X. Memᴰ p (no_regret_after now d j X)) e
    (leaves_no_regret now d j (omega arith) l (a p i) (wider j d now (tree d (items d A)) (tree d (items d B)) (bits d p.grade) g))
