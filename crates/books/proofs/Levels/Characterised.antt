-- The characterisation, by induction on the level: a rule has level j exactly when it keeps to the no-regret sets of order j. Ours has every level.
use Prim.Native.Nat.{ℕ, zero, suc, ◌≤◌}
use native.Mathlib.Omega.{arith}
use Rattle.books.specs.Rule.{Rule}
use Rattle.books.specs.Rival.{Setting, Level}
use Rattle.books.specs.NoRegretRule.{by_choice, our_rule, Keeps, Characterised}
use Rattle.books.proofs.Runs.Unbeaten.{keeps_rival, keeps_better, keeps_wider}
use Rattle.books.proofs.Choices.KeptChoice.{ours_keeps}
use Rattle.books.proofs.Choices.Follow.{follow, follow_keeps}
use Rattle.books.proofs.Levels.Rivals.{rival_keeps}
use Rattle.books.proofs.Levels.Next.{next_keeps}

-- both ways at once
both : (S : Setting) (j : ℕ) → j ≤ S.depth → (q : Rule) → (Level S j q → Keeps S j q) × (Keeps S j q → Level S j q)
unfolding Level
both S zero h q = (rival_keeps S q, keeps_rival S q)
both S (suc j) h q = (
  λ l.
      let a = (both S j (omega arith) q).0 l.0 in
      next_keeps S j h q a (λ B T n. l.1 (by_choice (follow n q)) ((both S j (omega arith) (by_choice (follow n q))).1 (follow_keeps S j n q (omega arith) a)) B T),
  λ a. ((both S j (omega arith) q).1 (keeps_wider S j q h a), λ r l B T. keeps_better S j h q r a ((both S j (omega arith) r).0 l) B T),
)

pub characterised : (S : Setting) → Characterised S
characterised S =
    record {
      level_keeps = λ j h q. (both S j h q).0;
      keeps_level = λ j h q. (both S j h q).1;
      ours = λ j h. (both S j h our_rule).1 (ours_keeps S j h);
    }
