-- Lines read one after the other: those that are done.
use mathlib.Core.Path.{◌≡◌, refl, sym, ap, ap₂, ◌∙◌}
use mathlib.Core.List.{List, [], ◌∷◌, ◌++◌}
use mathlib.Core.Option.{none, some}
use Prim.Native.Nat.{ℕ, zero, suc, ◌+◌, ◌≤◌, ◌<◌}
use native.Mathlib.Omega.{arith}
use Rattle.std.specs.Prelude.{Some, None}
use lib.ListN.{length, get_or, take, drop, replicate, length-replicate, take-append-drop}
use lib.Seq.{drop-cons}
use Rattle.board.specs.Rows.{first_given}
use Rattle.lines.specs.Bytes.{Bytes, lines}
use Rattle.matching.specs.declared.Window.{Window}
use Rattle.matching.specs.declared.Jobs.{Jobs}
use Rattle.matching.specs.Windows.{most_jobs}
use Rattle.worklist.specs.Lines.{window_rows, window_in}
use Rattle.worklist.specs.Refusals.{first_refused, read_lines}
use Rattle.worklist.specs.Inner.Collecting.{with_window, Gathered, CollectedFrom}
use Rattle.worklist.proofs.Refusing.{refused_behind, refused_past, refused_here}
use Rattle.worklist.proofs.Gathering.{none_gathered, places_kept, one_more}

pub record Along (done : List Bytes) (d : Jobs) : Type 0 where
  pub clean : first_refused window_rows 1 done ≡ none
  pub gathered : Gathered done d
  pub places : length d.windows ≡ most_jobs

pub none_done : (w : Window) → Along [] (record { count = 0; windows = replicate most_jobs w })
unfolding first_refused
none_done w = record { clean = refl; gathered = none_gathered w; places = length-replicate most_jobs w }

-- one line more
module _ (done : List Bytes) (d : Jobs) (a : Along done d) (line : Bytes) where
  pub line_more : d.count ≤ most_jobs → first_given (window_rows line) ≡ 0 → (w : Window) → w ≡ window_in line → Along (done ++ (line ∷ [])) (with_window d w)
  unfolding first_refused
  line_more few p w q =
      record {
        clean = refused_behind window_rows 1 done (line ∷ []) a.clean ∙ refused_past window_rows (1 + length done) line [] p;
        gathered = rw q (one_more done d a.gathered a.places line few);
        places = places_kept d w a.places;
      }

  -- it is refused
  pub line_refused : (input : Bytes) (k : ℕ) → done ≡ take k (read_lines (lines input)) → k < length (read_lines (lines input)) → line ≡ get_or (read_lines (lines input)) k line
      → (n : ℕ) → first_given (window_rows line) ≡ n → 0 < n
      → CollectedFrom input (record { refused = Some (record { line = d.count + 1; number = n }); jobs = d })
  line_refused input k t h e zero q z = absurd (omega arith)
  line_refused input k t h e (suc n) q z =
      let all = read_lines (lines input) in
      let m : d.count + 1 ≡ 1 + length done = omega (arith, a.gathered.count) in
      let rest : drop k all ≡ line ∷ drop (suc k) all = drop-cons all k line h ∙ ap (λ (b : Bytes). b ∷ drop (suc k) all) (sym e) in
      let split : all ≡ done ++ (line ∷ drop (suc k) all) = sym (take-append-drop k all) ∙ ap₂ (λ (x y : List Bytes). x ++ y) (sym t) rest in
      record {
        refused = ap (λ j. some (record { line = j; number = suc n })) m
            ∙ sym (ap (first_refused window_rows 1) split
            ∙ refused_behind window_rows 1 done (line ∷ drop (suc k) all) a.clean
            ∙ refused_here window_rows (1 + length done) n line (drop (suc k) all) q);
        gathered = λ g. cc;
      }

-- all are done
pub all_done : (input : Bytes) (done : List Bytes) (d : Jobs) → Along done d → done ≡ read_lines (lines input) → CollectedFrom input (record { refused = None; jobs = d })
all_done input done d a e = record { refused = sym (ap (first_refused window_rows 1) (sym e) ∙ a.clean); gathered = λ g. rw (sym e) a.gathered }
