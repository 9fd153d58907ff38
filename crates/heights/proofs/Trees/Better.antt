-- A run of order j + 1 takes at least as many jobs of each start u0, u of j bits, as any run of order j from the same board along the same future.
use mathlib.Core.Path.{◌≡◌}
use mathlib.Core.Bool.{Bool}
use mathlib.Core.List.{List, [], ◌∷◌, ◌++◌}
use Prim.Native.Nat.{ℕ, zero, suc, ◌≤◌, ◌<◌}
use native.Mathlib.Omega.{arith}
use lib.ListN.{length}
use Rattle.heights.proofs.Heights.Reach.{alike_refl}
use Rattle.heights.proofs.Sides.Board.{Slot}
use Rattle.heights.proofs.Exchange.Main.{tight_no_more}
use Rattle.heights.proofs.Trees.Tree.{Tree, total, sides}
use Rattle.heights.proofs.Trees.Run.{Count, Run}
use Rattle.heights.proofs.Trees.Project.{project}
use Rattle.heights.proofs.Trees.Flatten.{zero_bit, flat, flat_good, flat_tight}

pub better : (j d : ℕ) {n : ℕ} {fs : List (Slot (Tree d))} (S : Tree d) (c e : Count) → j < d → Run (suc j) d n S fs c → Run j d n S fs e
    → (u : List Bool) → length u ≡ j → e (u ++ zero_bit) ≤ c (u ++ zero_bit)
better j zero S c e h p q u k = absurd (omega arith)
better zero (suc d) S c e h p q (b ∷ u) k = absurd (omega arith)
better zero (suc d) {n} {fs} S c e h p q [] k = tight_no_more (flat d fs) n (sides d S) (e zero_bit) (c zero_bit) (flat_tight d S e q) (flat_good d S c p)
better (suc j) (suc d) S c e h p q [] k = absurd (omega arith)
better (suc j) (suc d) {n} S c e h p q (b ∷ u) k =
    let r = project (suc j) j d S S c e b (λ x. alike_refl n (total d (S x))) p q in
    better j d (S b) (λ v. c (b ∷ v)) (λ v. e (b ∷ v)) (omega arith) r.1 r.2 u (omega arith)
