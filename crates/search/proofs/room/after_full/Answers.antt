-- Full is the last full one of the laxities passed.
use Rattle.std.proofs.Common.{◌≡◌, ◌+◌, refl, arith}
use Rattle.board.specs.Limits.{longest_laxity, deepest}
use Rattle.search.specs.Inner.Counts.{sum}
use Rattle.search.proofs.PromiseFound.{within_more, full_none, full_here, full_before, overfull_found, sold_out_found, promise_found}
use Rattle.search.proofs.room.after_full.Goals as goal
use Rattle.search.proofs.room.after_full.Goals.{then-within-laxity, else-within-laxity}

pub loop-k-init : goal.loop-k-init
unfolding deepest sum
loop-k-init c = record { full_small = omega arith; few = omega arith; counted = refl; last_full = full_none _ }

pub returns-then-laxity-within-clause-least : goal.returns-then-laxity-within-clause-least
unfolding longest_laxity deepest
returns-then-laxity-within-clause-least c =
    let next = within_more c.args.counts.now c.loop-k.k c.column_of-within.result c.loop-k.invariant.counted c.column_of-within.ensures.0 in
    overfull_found _ (c.loop-k.k + 1) (omega arith) (omega (arith, next))

pub loop-k-preserved : goal.loop-k-preserved
unfolding longest_laxity deepest
loop-k-preserved c =
    let i = c.loop-k.invariant in
    let next = within_more c.args.counts.now c.loop-k.k c.column_of-within.result i.counted c.column_of-within.ensures.0 in
    let few = c.column_of-within.ensures.1 in
    elim c.if-within-laxity.branch [
      | then-within-laxity w ↦ rw w.full-is
          (record { full_small = omega arith; few = omega (arith, few, i.few); counted = next; last_full = full_here _ (omega arith) i.last_full next w.if-within-laxity.true })
      | else-within-laxity w ↦ rw w.full-is
          (record {
            full_small = i.full_small;
            few = omega (arith, few, i.few);
            counted = next;
            last_full = full_before _ (omega arith) i.last_full next (omega (arith, w.if-within-laxity.false, c.if-laxity-within.false));
          })
    ]

pub returns-then-full-eq-LONGEST_LAXITY-clause-least : goal.returns-then-full-eq-LONGEST_LAXITY-clause-least
unfolding longest_laxity
returns-then-full-eq-LONGEST_LAXITY-clause-least c =
    let whole : c.loop-k.k ≡ longest_laxity = omega arith in
    sold_out_found _ c.loop-k.invariant.last_full whole (omega arith)

pub returns-clause-least : goal.returns-clause-least
unfolding longest_laxity
returns-clause-least c =
    let whole : c.loop-k.k ≡ longest_laxity = omega arith in
    let i = c.loop-k.invariant in
    promise_found _ i.last_full whole (omega arith)
