-- The trap at the first bit: from S one takes a tight 0-job that is not tight on the 0-side, the other a 0-job tight there.
use mathlib.Core.Path.{◌≡◌, refl}
use mathlib.Core.Bool.{Bool, true, false}
use mathlib.Core.List.{List, [], ◌∷◌}
use Prim.Native.Nat.{ℕ, suc, ◌+◌, ◌-◌, ◌≤◌, ◌<◌}
use native.Mathlib.Omega.{arith}
use lib.ListN.{length}
use Rattle.heights.proofs.Heights.Part.{Part, ◌⊕◌}
use Rattle.heights.proofs.Heights.Removal.{TightOut}
use Rattle.heights.proofs.Sides.Board.{whole, out_side}
use Rattle.heights.proofs.Sides.Tight.{TightTake, SideTake}
use Rattle.heights.proofs.Trees.Tree.{Tree, total, sides, join_tree}
use Rattle.heights.proofs.Trees.Run.{starts, Count, Run}
use Rattle.heights.proofs.Trees.Flatten.{zero_bit}
use Rattle.heights.proofs.Items.Item.{Item, part}
use Rattle.heights.proofs.Items.Tree.{tree, slots}
use Rattle.heights.proofs.Items.Both.{both, both_zero, both_one, both_count}
use Rattle.heights.proofs.Adversary.Allowed.{both_fit, Grades, beyond}
use Rattle.heights.proofs.Adversary.Arrivals.{arrival, arrival_past, arrival_fit, lift_all, lift_length, lift_by, lift_fit}
use Rattle.heights.proofs.Adversary.Arrivals.{copies, copies_low, copies_high, copies_fit, feed, feed_length, feed_fit, feed_by}
use Rattle.heights.proofs.Adversary.Pinned.{Pinned, pinned_start}
use Rattle.heights.proofs.Adversary.Bounds.{least_start, AtLeast}
use Rattle.heights.proofs.Adversary.Most.{most}
use Rattle.heights.proofs.Adversary.Least.{least}
use Rattle.heights.proofs.Adversary.Trap.{Trap}

module _ (ok : Grades) (d n : ℕ) (S A B : Tree (suc d)) (w v g h : List Bool) (a : TightTake n (sides d S) (sides d A) false)
    (b : SideTake n (sides d S) (sides d B) false) (late : b.slot < a.last) (wz : starts zero_bit w ≡ 1) (vz : starts zero_bit v ≡ 1)
    (gok : ok (false ∷ g) ≡ true) (gbits : length g ≡ d) (hok : ok (true ∷ h) ≡ true) (hbits : length h ≡ d) where
  abbrev l : ℕ
  l = a.slot

  abbrev m : ℕ
  m = b.slot

  abbrev z : Part
  z = total d (S false)

  abbrev stuffing : List Item
  stuffing = copies (suc l - n) (record { last = l; grade = h })

  abbrev first : List Item
  first = both (arrival m (suc n) g) stuffing

  abbrev after : Tree (suc d) → Tree (suc d)
  after X = join_tree (suc d) X (tree (suc d) first)

  dates : (n ≤ m) × (m < l)
  dates = (b.tight.date, omega (arith, a.within))

  -- the 0-jobs leave in the slots before E
  E : ℕ
  E = suc m + (z.at (suc m) - z.at (suc l))

  k : ℕ
  k = E - suc n

  E_facts : (E ≤ suc l) × (suc n + k ≡ E) × (suc m + z.at (suc m) ≡ E + z.at (suc l))
  unfolding E k
  E_facts = let x = dates in omega (arith, b.tight.past (suc l) (omega arith), z.anti (suc m) (suc l) (omega arith))

  pinned : (X : Tree (suc d)) → TightOut n (whole (sides d S)) (whole (sides d X)) → Pinned (suc n) l l (whole (sides d (after X)))
  pinned X o =
      let x = dates in
      let Z = arrival m (suc n) g in
      pinned_start (part Z ⊕ part stuffing) (whole (sides d (after X))) a.tight o (omega arith) (omega arith)
      (omega (arith, copies_low (suc l - n) (record { last = l; grade = h }) l (omega arith)))
      (omega (arith, copies_high (suc l - n) (record { last = l; grade = h }) (suc l) (omega arith), arrival_past m (suc n) g (suc l) (omega arith)))
      (λ s. omega (arith, both_zero d X Z stuffing s, both_one d X Z stuffing s))

  out_a : TightOut n (whole (sides d S)) (whole (sides d A))
  out_a = record { slot = l; last = a.last; tight = a.tight; out = out_side false (sides d S) (sides d A) a.out a.kept; within = a.within }

  out_b : TightOut n (whole (sides d S)) (whole (sides d B))
  out_b =
      let x = dates in
      record { slot = l; last = b.last; tight = a.tight; out = out_side false (sides d S) (sides d B) b.out b.kept; within = omega (arith, b.within) }

  start_b : AtLeast m l E (suc n) (total d (after B false))
  start_b =
      let x = dates in
      least_start g (total d (after B false)) b.tight b.out b.within (omega arith) E_facts.2 (both_zero d B (arrival m (suc n) g) stuffing)

  abbrev later : List (List Item)
  later = lift_all false (feed m (suc n) k g)

  at_least : (e : Count) → Run 1 (suc d) (suc n) (after B) (slots (suc d) later) e → k ≤ e zero_bit
  at_least e r =
      let x = dates in
      least d m l E k (suc n) g (after B) e (omega arith) E_facts.0 E_facts.1 (λ i. pinned B out_b) start_b r

  at_most : (c : Count) → Run 0 (suc d) (suc n) (after A) (slots (suc d) later) c → c zero_bit < k
  at_most c r =
      let x = dates in
      let f = E_facts in
      let e = both_zero d A (arrival m (suc n) g) stuffing in
      let I = most d m l k (suc n) g (after A) c (omega arith) (omega arith) (λ i. pinned A out_a) r in
      omega (
        arith,
        I.early (omega arith),
        e (suc m),
        e (suc l),
        arrival_past m (suc n) g (suc m) (omega arith),
        arrival_past m (suc n) g (suc l) (omega arith),
        a.out.rest.low (suc m) (omega arith) late,
        a.out.rest.high (suc l) (omega arith) (omega (arith, a.within)),
      )

  pub bottom_trap : Trap ok 0 (suc d) n l A B w v
  bottom_trap =
      let x = dates in
      let f = E_facts in
      let Z = arrival m (suc n) g in
      record {
        answer =
            record {
              u = [];
              bits = refl;
              by =
                  record {
                    first = first;
                    first_fit =
                        both_fit ok d (suc n) Z stuffing (arrival_fit (beyond false ok) d m (suc n) g gok gbits)
                        (
                        copies_fit (beyond true ok) d (suc n) (suc l - n) (record { last = l; grade = h })
                        record { allowed = record { in_set = hok; bits = hbits }; date = omega arith }
                        );
                    later = later;
                    later_fit = lift_fit ok d (suc (suc n)) false (feed m (suc n) k g) (feed_fit (beyond false ok) d m (suc n) k g gok gbits);
                  };
              wins = λ c e p q. omega (arith, at_most c p, at_least e q, wz, vz);
            };
        l = l;
        date = omega arith;
        upto = omega arith;
        stuffs = omega (arith, both_count Z stuffing l, copies_low (suc l - n) (record { last = l; grade = h }) l (omega arith));
        first_by =
            omega (
              arith,
              both_count Z stuffing (suc l),
              copies_high (suc l - n) (record { last = l; grade = h }) (suc l) (omega arith),
              arrival_past m (suc n) g (suc l) (omega arith),
            );
        later_by = lift_by l false (feed m (suc n) k g) (feed_by m l (suc n) k g (omega arith));
        few = omega (arith, lift_length false (feed m (suc n) k g), feed_length m (suc n) k g);
      }
