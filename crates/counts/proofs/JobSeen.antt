-- What it says of a job to be seen.
use Rattle.std.proofs.Common.{◌≡◌, ℕ, suc, ◌^◌, ◌<◌, ◌≤◌, true, refl, ltb-true, lt-ltb, le-leb, leb-true}
use mathlib.Core.List.Memᴰ
use Rattle.lists.specs.Select.{every}
use Rattle.lists.proofs.Members.{every_mem}
use Rattle.rule.specs.Job.{Job, laxity, in_date}
use Rattle.board.specs.Limits.{longest_laxity, last_slot, deepest}
use Rattle.counts.specs.Seen.{seen_job}

pub record JobSeen (now d : ℕ) (r : Job) : Type 0 where
  pub shallow : d ≤ deepest
  pub begun : now ≤ suc last_slot
  pub in_date : now ≤ r.last
  pub short : laxity now r ≤ longest_laxity
  pub graded : r.grade < 2 ^ d

pub seen_facts : (now d : ℕ) (r : Job) → seen_job now d r ≡ true → JobSeen now d r
unfolding seen_job in_date
seen_facts now d r h =
    record {
      shallow = leb-true _ _ (every_mem _ h (Memᴰ.head refl));
      begun = leb-true _ _ (every_mem _ h (Memᴰ.tail (Memᴰ.head refl)));
      in_date = leb-true _ _ (every_mem _ h (Memᴰ.tail (Memᴰ.tail (Memᴰ.head refl))));
      short = leb-true _ _ (every_mem _ h (Memᴰ.tail (Memᴰ.tail (Memᴰ.tail (Memᴰ.head refl)))));
      graded = ltb-true _ _ (every_mem _ h (Memᴰ.tail (Memᴰ.tail (Memᴰ.tail (Memᴰ.tail (Memᴰ.head refl))))));
    }

pub facts_seen : (now d : ℕ) (r : Job) → JobSeen now d r → seen_job now d r ≡ true
unfolding seen_job in_date every
facts_seen now d r f =
    simp (
      le-leb d deepest f.shallow,
      le-leb now (suc last_slot) f.begun,
      le-leb now r.last f.in_date,
      le-leb (laxity now r) longest_laxity f.short,
      lt-ltb r.grade (2 ^ d) f.graded,
    )
