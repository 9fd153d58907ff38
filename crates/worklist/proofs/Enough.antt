-- What is printed is settled by so many bytes: each line that is read and not refused has at most 40 bytes and its line end.
use mathlib.Core.Path.{◌≡◌, refl, sym, ap, ◌∙◌}
use mathlib.Core.Logic.{◌⊎◌, inl, inr}
use mathlib.Core.List.{List, ◌∷◌, ◌++◌}
use mathlib.Core.Option.{none, some}
use Prim.Native.Nat.{ℕ, zero, suc, ◌+◌, ◌*◌, ◌≤◌, ◌<◌}
use native.Mathlib.Omega.{arith}
use lib.ListN.{length, take, drop, length-take, length-drop, length-append}
use lib.Seq.{take-append-le, drop-append-le}
use Rattle.lists.specs.Before.{before}
use Rattle.lists.proofs.Before.{before_within, before_longer, before_same}
use Rattle.lists.proofs.Tests.{cmp}
use Rattle.board.specs.Rows.{first_given}
use Rattle.lines.specs.Bytes.{Bytes, line_end, lines}
use Rattle.lines.specs.Reading.{longest_line}
use Rattle.matching.specs.Windows.{most_jobs}
use Rattle.worklist.specs.declared.Refused.{Refused}
use Rattle.worklist.specs.Lines.{window_rows}
use Rattle.worklist.specs.Refusals.{first_refused, read_lines, or_else, call_refused, refused_in}
use Rattle.worklist.specs.Output.{jobs_in, printed_list, list_output}
use Rattle.worklist.specs.Statements.{most_read}
use Rattle.worklist.proofs.Reading.{row_11, row_there}
use Rattle.worklist.proofs.NextLine.{next_line}
use Rattle.worklist.proofs.Refusing.{refused_past, refused_here}
use Rattle.worklist.proofs.ByCall.{many}

-- the bytes of a line that may be, with its line end
abbrev most : ℕ
most = suc longest_line

long_refused : (l : Bytes) → longest_line < length l → first_given (window_rows l) ≡ 11
long_refused l h = (row_there l 11 (row_11 l h)).0

-- of two lists of lines, the first k of each from the i-th line on: the same line of both is refused, or none is and both have so many
pub record SameRefused (k i : ℕ) (A B : List Bytes) : Type 0 where
  pub refusal : Refused
  pub first : first_refused window_rows i (take k A) ≡ some refusal
  pub second : first_refused window_rows i (take k B) ≡ some refusal

pub record NoneRefused (k i : ℕ) (A B : List Bytes) : Type 0 where
  pub first : first_refused window_rows i (take k A) ≡ none
  pub second : first_refused window_rows i (take k B) ≡ none
  pub in_first : k ≤ length A
  pub in_second : k ≤ length B

abbrev pub Same : (k i : ℕ) → (A B : List Bytes) → Type 0
Same k i A B = SameRefused k i A B ⊎ NoneRefused k i A B

-- a line more in front, the same or both too long
module _ (k i : ℕ) (l m : Bytes) (A B : List Bytes) where
  both_refused : (n : ℕ) → first_given (window_rows l) ≡ suc n → first_given (window_rows m) ≡ suc n → Same (suc k) i (l ∷ A) (m ∷ B)
  both_refused n e f =
      inl
      (record { refusal = record { line = i; number = suc n }; first = refused_here window_rows i n l (take k A) e; second = refused_here window_rows i n m (take k B) f })

  both_past : first_given (window_rows l) ≡ 0 → first_given (window_rows m) ≡ 0 → Same k (suc i) A B → Same (suc k) i (l ∷ A) (m ∷ B)
  both_past e f (inl s) =
      inl
      (record {
        refusal = s.refusal;
        first = refused_past window_rows i l (take k A) e ∙ s.first;
        second = refused_past window_rows i m (take k B) f ∙ s.second;
      })
  both_past e f (inr s) =
      inr
      (record {
        first = refused_past window_rows i l (take k A) e ∙ s.first;
        second = refused_past window_rows i m (take k B) f ∙ s.second;
        in_first = omega (arith, s.in_first);
        in_second = omega (arith, s.in_second);
      })

same_line : (k i : ℕ) (l : Bytes) (A B : List Bytes) (n : ℕ) → first_given (window_rows l) ≡ n → Same k (suc i) A B → Same (suc k) i (l ∷ A) (l ∷ B)
same_line k i l A B zero e s = both_past k i l l A B e e s
same_line k i l A B (suc n) e s = both_refused k i l l A B n e e

-- bytes that are more than a line, and others behind them
module _ (bs more : Bytes) (h : most ≤ length bs) where
  abbrev first_end : ℕ
  first_end = before line_end bs

  abbrev second_end : ℕ
  second_end = before line_end (bs ++ more)

  pub first_lines : lines bs ≡ take first_end bs ∷ lines (drop (suc first_end) bs)
  unfolding longest_line
  first_lines = next_line bs (omega arith)

  pub second_lines : lines (bs ++ more) ≡ take second_end (bs ++ more) ∷ lines (drop (suc second_end) (bs ++ more))
  unfolding longest_line
  second_lines = next_line (bs ++ more) (omega (arith, length-append bs more))

  -- the first line ends in time: it is the same
  module _ (p : first_end < most) where
    pub cut_same : lines (bs ++ more) ≡ take first_end bs ∷ lines (drop (suc first_end) bs ++ more)
    unfolding longest_line
    cut_same =
        let in_time : first_end < length bs = omega arith in
        second_lines
        ∙ ap (λ n. take n (bs ++ more) ∷ lines (drop (suc n) (bs ++ more))) (before_same line_end bs more in_time)
        ∙ ap (λ l. l ∷ lines (drop (suc first_end) (bs ++ more))) (take-append-le first_end bs more (omega arith))
        ∙ ap (λ l. take first_end bs ∷ lines l) (drop-append-le (suc first_end) bs more in_time)

  -- it does not: both are too long
  module _ (p : most ≤ first_end) where
    pub first_long : first_given (window_rows (take first_end bs)) ≡ 11
    unfolding longest_line
    first_long = long_refused (take first_end bs) (omega (arith, length-take first_end bs, before_within line_end bs))

    pub second_long : first_given (window_rows (take second_end (bs ++ more))) ≡ 11
    unfolding longest_line
    second_long =
        long_refused (take second_end (bs ++ more))
        (omega (arith, length-take second_end (bs ++ more), before_within line_end (bs ++ more), before_longer line_end bs more))

pub settled : (k i : ℕ) (bs more : Bytes) → k * most ≤ length bs → Same k i (lines bs) (lines (bs ++ more))
unfolding first_refused
settled zero i bs more h = inr (record { first = refl; second = refl; in_first = omega arith; in_second = omega arith })
settled (suc k) i bs more h = go (cmp most (before line_end bs)) (λ rest more l. settled k (suc i) rest more l)
  where
    split : suc k * most ≡ most + k * most
    split = omega arith

    enough : most ≤ length bs
    enough = omega (arith, split)

    go : (most ≤ before line_end bs) ⊎ (before line_end bs < most) → ((rest more : Bytes) → k * most ≤ length rest → Same k (suc i) (lines rest) (lines (rest ++ more)))
        → Same (suc k) i (lines bs) (lines (bs ++ more))
    go (inl p) f =
        rw (first_lines bs more enough, second_lines bs more enough)
        (both_refused k i _ _ _ _ 10 (first_long bs more enough p) (second_long bs more enough p))
    go (inr p) f =
        let rest = drop (suc (before line_end bs)) bs in
        rw (first_lines bs more enough, cut_same bs more enough p)
        (same_line k i (take (before line_end bs) bs) (lines rest) (lines (rest ++ more)) _ refl
        (f rest more (omega (arith, split, length-drop (suc (before line_end bs)) bs))))

pub enough : (input more : Bytes) → most_read ≤ length input → list_output (input ++ more) ≡ list_output input
unfolding most_read list_output refused_in read_lines or_else printed_list
enough input more h = go (settled (suc most_jobs) 1 input more h)
  where
    A : List Bytes
    A = lines input

    B : List Bytes
    B = lines (input ++ more)

    go : Same (suc most_jobs) 1 A B → printed_list (refused_in B) (jobs_in B) ≡ printed_list (refused_in A) (jobs_in A)
    go (inl s) = ap (λ o. printed_list (or_else o (call_refused B)) (jobs_in B)) s.second ∙ sym (ap (λ o. printed_list (or_else o (call_refused A)) (jobs_in A)) s.first)
    go (inr s) =
        ap (λ o. printed_list (or_else o (call_refused B)) (jobs_in B)) s.second
        ∙ ap (λ o. printed_list o (jobs_in B)) (many B (omega (arith, s.in_second)))
        ∙ sym (ap (λ o. printed_list (or_else o (call_refused A)) (jobs_in A)) s.first ∙ ap (λ o. printed_list o (jobs_in A)) (many A (omega (arith, s.in_first))))
