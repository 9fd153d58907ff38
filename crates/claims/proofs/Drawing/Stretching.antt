-- Every stretch of a list of calls runs so.
use mathlib.Core.Path.{◌≡◌, refl, sym, subst}
use mathlib.Core.Bool.{Bool, true, false, cond}
use mathlib.Core.Logic.{◌⊎◌, inl, inr}
use mathlib.Core.List.Memᴰ
use mathlib.Core.List.{List, [], ◌∷◌, Memᴰ}
use Prim.Native.Nat.{ℕ}
use Rattle.lists.proofs.Tests.{cond_true, cond_false}
use Rattle.board.specs.declared.Board.{Board}
use Rattle.board.specs.Held.{slot_of}
use Rattle.board.specs.Sound.{sound}
use Rattle.board.proofs.Soundness.HeldCount.{no_jobs}
use Rattle.claims.specs.Calls.{Call, admit, close, withdraw, board_after}
use Rattle.claims.specs.DayBook.{new_day, lets_through}
use Rattle.claims.specs.Stretches.{Stretch, go_on, stretch_after, ended_by, stretches, start, stretches_of}
use Rattle.claims.specs.Demand3.{begun_from}
use Rattle.claims.proofs.Drawing.Runs.{Runs, runs_begun}
use Rattle.claims.proofs.Drawing.Steps.{Outcome, refused, taken, step}

-- it runs, to some slot and some board
pub record Ran (d : ℕ) (x : Stretch) : Type 0 where
  pub slot : ℕ
  pub board : Board
  pub runs : Runs d slot board x

-- a call ends no stretch but its own
ended_mem : (d : ℕ) (x : Stretch) (c : Call) (y : Stretch) → Memᴰ y (ended_by d x c) → y ≡ x
unfolding ended_by
ended_mem d x (admit t w g) y m = absurd (Memᴰ.not-nil m)
ended_mem d x (close lent) y m = absurd (Memᴰ.not-nil m)
ended_mem d x (withdraw t) y m = go (lets_through d x.day (withdraw t)) m
  where
    go : (q : Bool) → Memᴰ y (cond q (x ∷ []) []) → y ≡ x
    go true k = Memᴰ.eq_of_singleton k
    go false k = absurd (Memᴰ.not-nil k)

all_ran : (d s : ℕ) (b : Board) (x : Stretch) → Runs d s b x → (cs : List Call) → (y : Stretch) → Memᴰ y (stretches d x b cs) → Ran d y
unfolding stretches stretch_after
all_ran d s b x R [] y m = subst (Ran d) (sym (Memᴰ.eq_of_singleton m)) (record { slot = s; board = b; runs = R })
all_ran d s b x R (c ∷ cs) y m = go (Memᴰ.append_cases (ended_by d x c) m) (step R c) (λ k n z Q i. all_ran d k n z Q cs y i)
  where
    go : Memᴰ y (ended_by d x c) ⊎ Memᴰ y (stretches d (cond (lets_through d x.day c) (go_on d x b c) x) (board_after b c) cs)
        → Outcome d b x c → ((k : ℕ) (n : Board) (z : Stretch) → Runs d k n z → Memᴰ y (stretches d z n cs) → Ran d y) → Ran d y
    go (inl i) o ih = subst (Ran d) (sym (ended_mem d x c y i)) (record { slot = s; board = b; runs = R })
    go (inr i) (refused q e) ih =
        ih s b x R
        (subst (λ n. Memᴰ y (stretches d x n cs)) e
        (subst (λ z. Memᴰ y (stretches d z (board_after b c) cs)) (cond_false (lets_through d x.day c) (go_on d x b c) x q) i))
    go (inr i) (taken q k Q) ih =
        ih k (board_after b c) (go_on d x b c) Q
        (subst (λ z. Memᴰ y (stretches d z (board_after b c) cs)) (cond_true (lets_through d x.day c) (go_on d x b c) x q) i)

pub every_stretch : (b : Board) → sound b ≡ true → b.count ≡ 0 → (cs : List Call) (x : Stretch) → Memᴰ x (stretches_of b cs) → Ran b.depth x
unfolding stretches_of start begun_from
every_stretch b s empty cs x m =
    all_ran b.depth (slot_of b) b _
    (subst (λ A. Runs b.depth (slot_of b) b (record { first = b; day = new_day (record { slot = slot_of b; highest = b.highest; jobs = A }); named = [] }))
    (no_jobs b empty) (runs_begun b s refl refl)) cs x m
