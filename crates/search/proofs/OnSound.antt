-- Of a sound board every job is seen, so the search bakes what the slot bakes.
use mathlib.Core.Path.{◌≡◌, ap}
use mathlib.Core.Bool.{true}
use native.Mathlib.Omega.{arith}
use Rattle.lists.proofs.Members.{select_all}
use Rattle.rule.specs.Job.{laxity}
use Rattle.rule.specs.Bake.{baked}
use Rattle.board.specs.declared.Board.{Board}
use Rattle.board.specs.Held.{slot_of, held}
use Rattle.board.specs.Sound.{sound}
use Rattle.board.specs.Close.{bakes}
use Rattle.board.proofs.Soundness.Apart.{facts}
use Rattle.counts.specs.Seen.{seen_job, seen}
use Rattle.search.specs.Inner.Seen.{bakes_seen}
use Rattle.counts.proofs.JobSeen.{facts_seen}

pub sees_all : (b : Board) → sound b ≡ true → seen b ≡ held b
unfolding seen laxity
sees_all b s =
    let f = facts b s in
    select_all (seen_job (slot_of b) b.depth) (held b)
    (λ r m.
    let j = f.each r m in
    facts_seen _ _ r
    (record {
      shallow = f.shallow;
      begun = f.to_last;
      in_date = j.in_date;
      short = omega arith;
      graded = j.graded;
    }))

pub bakes_sound : (b : Board) → sound b ≡ true → bakes_seen b ≡ bakes b
unfolding bakes_seen bakes
bakes_sound b s = ap (baked (slot_of b) b.depth) (sees_all b s)
