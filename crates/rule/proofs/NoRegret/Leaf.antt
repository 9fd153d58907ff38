-- A tight job of the list is one that leaves the tree as a tight leaf, and the other way round.
use mathlib.Core.List.{List, Memᴰ}
use Prim.Native.Nat.{ℕ}
use native.Mathlib.Omega.{arith}
use Rattle.heights.proofs.Heights.Part.{out_unique}
use Rattle.heights.proofs.Heights.TightSlot.{tight_unique}
use Rattle.heights.proofs.Trees.Tree.{Tree, OutTree, total_out}
use Rattle.heights.proofs.Trees.NoRegret.{TightLeaf}
use Rattle.heights.proofs.Items.Tree.{tree}
use Rattle.rule.specs.Job.{Job}
use Rattle.rule.specs.Grade.{bits}
use Rattle.rule.specs.Tight.{tight}
use Rattle.rule.proofs.Tight.Counts.{in_date_all}
use Rattle.rule.proofs.Tight.Slot.{tight_last, tight_mem, mem_tight}
use Rattle.rule.proofs.NoRegret.Items.{items}
use Rattle.rule.proofs.NoRegret.Chosen.{dated, mem_dated, tree_tight}

-- a tight job is one that leaves as a tight leaf
pub tight_leaf : (e now : ℕ) (L : List Job) (T : Tree e) (p : Job) → Memᴰ p (tight now (dated now L))
    → OutTree e now p.last (tree e (items e L)) T (bits e p.grade) → TightLeaf e now (tree e (items e L)) T (bits e p.grade)
tight_leaf e now L T p m o =
    let t = tight_mem now (dated now L) (in_date_all now L) m in
    record { slot = tight_last now (dated now L); last = p.last; tight = tree_tight e now L t.0; out = o; within = t.1 }

pub leaf_tight : (e now : ℕ) (L : List Job) (T : Tree e) (p : Job) → Memᴰ p L → OutTree e now p.last (tree e (items e L)) T (bits e p.grade)
    → TightLeaf e now (tree e (items e L)) T (bits e p.grade) → Memᴰ p (tight now (dated now L))
leaf_tight e now L T p m o g =
    let S = tree e (items e L) in
    let w = bits e p.grade in
    let q = total_out e now p.last S T w o in
    let d = mem_dated now m q.date in
    let i = out_unique q (total_out e now g.last S T w g.out) in
    mem_tight now (dated now L) (in_date_all now L) d (omega (arith, g.within, tight_unique g.tight (tree_tight e now L d)))
