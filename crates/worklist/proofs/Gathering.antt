-- The jobs of some lines, with one line more.
use mathlib.Core.Path.{◌≡◌, refl, sym, ap, ◌∙◌}
use mathlib.Core.Logic.{◌⊎◌, inl, inr}
use mathlib.Core.List.{List, [], ◌∷◌, ◌++◌, map-append}
use Prim.Native.Nat.{suc, ◌+◌, ◌≤◌, ◌<◌}
use native.Mathlib.Numerals.{add-one}
use native.Mathlib.Omega.{arith}
use lib.Dec.{ltb}
use lib.ListN.{length, take, set, replicate, length-append, length-set}
use lib.Seq.{take-suc-set}
use borrow.Author.Tests.{lt-ltb, le-ltb}
use Rattle.lists.proofs.Tests.{cmp, cond_true, cond_false}
use Rattle.lines.specs.Bytes.{Bytes}
use Rattle.matching.specs.declared.Window.{Window}
use Rattle.matching.specs.declared.Jobs.{Jobs}
use Rattle.matching.specs.Windows.{most_jobs, windows_of}
use Rattle.worklist.specs.Lines.{window_in}
use Rattle.worklist.specs.Inner.Collecting.{with_window, Gathered}

pub none_gathered : (w : Window) → Gathered [] (record { count = 0; windows = replicate most_jobs w })
unfolding windows_of
none_gathered w = record { count = refl; few = omega arith; windows = λ h. refl }

-- there is a place for the window, or there is not
module _ (d : Jobs) (w : Window) where
  pub room : d.count < most_jobs → with_window d w ≡ record { count = d.count + 1; windows = set d.windows d.count w }
  unfolding with_window
  room h = cond_true (ltb d.count most_jobs) _ _ (lt-ltb d.count most_jobs h)

  pub no_room : most_jobs ≤ d.count → with_window d w ≡ record { count = most_jobs + 1; windows = d.windows }
  unfolding with_window
  no_room h = cond_false (ltb d.count most_jobs) _ _ (le-ltb d.count most_jobs h)

  pub places_kept : length d.windows ≡ most_jobs → length (with_window d w).windows ≡ most_jobs
  places_kept e = go (cmp most_jobs d.count)
    where
      go : (most_jobs ≤ d.count) ⊎ (d.count < most_jobs) → length (with_window d w).windows ≡ most_jobs
      go (inl h) = ap (λ (r : Jobs). length r.windows) (no_room h) ∙ e
      go (inr h) = ap (λ (r : Jobs). length r.windows) (room h) ∙ length-set d.windows d.count w ∙ e

module _ (done : List Bytes) (d : Jobs) (g : Gathered done d) (places : length d.windows ≡ most_jobs) (l : Bytes) (few : d.count ≤ most_jobs) where
  more : length (done ++ (l ∷ [])) ≡ suc d.count
  more = omega (arith, length-append done (l ∷ []), g.count)

  with_place : (h : d.count < most_jobs) → Gathered (done ++ (l ∷ [])) (record { count = d.count + 1; windows = set d.windows d.count (window_in l) })
  unfolding windows_of
  with_place h =
      record {
        count = omega (arith, more);
        few = omega (arith, more);
        windows = λ k.
            ap (λ n. take n (set d.windows d.count (window_in l))) (add-one d.count)
            ∙ take-suc-set d.windows d.count (window_in l) (omega arith)
            ∙ ap (λ ws. ws ++ (window_in l ∷ [])) (g.windows (omega (arith, g.count)))
            ∙ sym (map-append window_in done (l ∷ []));
      }

  without_place : most_jobs ≤ d.count → Gathered (done ++ (l ∷ [])) (record { count = most_jobs + 1; windows = d.windows })
  without_place h = record { count = omega (arith, more); few = omega (arith, more); windows = λ k. absurd (omega (arith, more)) }

  pub one_more : Gathered (done ++ (l ∷ [])) (with_window d (window_in l))
  one_more = go (cmp most_jobs d.count)
    where
      go : (most_jobs ≤ d.count) ⊎ (d.count < most_jobs) → Gathered (done ++ (l ∷ [])) (with_window d (window_in l))
      go (inl h) = rw (no_room d (window_in l) h) (without_place h)
      go (inr h) = rw (room d (window_in l) h) (with_place h)
