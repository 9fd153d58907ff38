-- Line by line, the lines done.
use mathlib.Core.Path.{◌≡◌, sym, ap, ◌∙◌}
use mathlib.Core.List.{List, [], ◌∷◌, map, map-append}
use mathlib.Core.Option.{none}
use Prim.Native.Nat.{ℕ, ◌≤◌, ◌<◌}
use native.Mathlib.Omega.{arith}
use borrow.Author.Rules.{rules}
use denote.Ref.{Bor}
use lib.ListN.{length, length-map, length-take}
use Rattle.std.proofs.lemmas.Iterator.Consumers.{YieldsList-so_far, YieldsList-turn, YieldsList-end}
use Rattle.board.specs.Rows.{first_given}
use Rattle.lines.specs.Bytes.{Bytes, lines}
use Rattle.matching.specs.declared.Jobs.{Jobs}
use Rattle.matching.specs.Windows.{most_jobs}
use Rattle.worklist.specs.Lines.{window_rows, window_in}
use Rattle.worklist.specs.Refusals.{read_lines}
use Rattle.worklist.proofs.Reading.{row_there, window_there}
use Rattle.worklist.proofs.Pieces.{as_line, stripped, lines_taken}
use Rattle.worklist.proofs.Collecting.{Along, none_done, line_more, line_refused, all_done}
use Rattle.worklist.proofs.collect.Goals as goal

-- the line of a piece
abbrev line_of : Bor Bytes → Bytes
line_of x = as_line x.now

-- while a line is read, no more than most jobs are done
few : (ys : List (Bor Bytes)) (d : Jobs) (ls : List Bytes) → Along (map line_of ys) d → length ys < length (read_lines ls) → d.count ≤ most_jobs
unfolding read_lines
few ys d ls a h = omega (arith, a.gathered.count, length-map ys line_of, length-take 65 ls)

pub loop-piece-init : goal.loop-piece-init
loop-piece-init c = none_done _

pub loop-piece-preserved : goal.loop-piece-preserved
unfolding read_lines
loop-piece-preserved c =
    let input = c.args.input.now in
    let l = c.loop-piece in
    let x = c.in-Some.piece in
    let split = c.split_inclusive.ensures in
    let taken = c.take-piece-items.ensures in
    let road = lines_taken _ _ l.yielded l.piece-iterator l.yielded_by split.closure (λ x b q k. search rules) input split.rest taken.source 65 taken.count c.into_iter-piece-iterator.ensures.into_iter_gives in
    let turn = YieldsList-turn road l.yielded l.piece-iterator l.yielded_by _ _ x c.in-Some.is c.next.ensures.steps in
    let line : c.unwrap_or-line.result.now ≡ as_line x.now = stripped _ _ _ c.strip_suffix.ensures.cases c.unwrap_or-line.ensures in
    let window = window_there _ _ c.in-Ok.ensures in
    rw (map-append line_of l.yielded (x ∷ []), c.add_window.ensures)
    (line_more (map line_of l.yielded) l.jobs l.invariant (as_line x.now) (few l.yielded l.jobs (lines input) l.invariant turn.0)
    (ap (λ (b : Bytes). first_given (window_rows b)) (sym line) ∙ window.0)
    _ (window.1 ∙ ap window_in line))

pub returns-in-Err : goal.returns-in-Err
unfolding read_lines
returns-in-Err c =
    let input = c.args.input.now in
    let l = c.loop-piece in
    let x = c.in-Some.piece in
    let split = c.split_inclusive.ensures in
    let taken = c.take-piece-items.ensures in
    let road = lines_taken _ _ l.yielded l.piece-iterator l.yielded_by split.closure (λ x b q k. search rules) input split.rest taken.source 65 taken.count c.into_iter-piece-iterator.ensures.into_iter_gives in
    let turn = YieldsList-turn road l.yielded l.piece-iterator l.yielded_by _ _ x c.in-Some.is c.next.ensures.steps in
    let line : c.unwrap_or-line.result.now ≡ as_line x.now = stripped _ _ _ c.strip_suffix.ensures.cases c.unwrap_or-line.ensures in
    let row = row_there _ _ (ap (λ (n : ℕ). (n, none)) c.number-number.ensures ∙ c.in-Err.ensures) in
    line_refused (map line_of l.yielded) l.jobs l.invariant (as_line x.now) input (length l.yielded)
    (YieldsList-so_far road l.yielded l.piece-iterator l.yielded_by)
    turn.0 turn.1
    _ (ap (λ (b : Bytes). first_given (window_rows b)) (sym line) ∙ row.0) row.1

pub returns : goal.returns
unfolding read_lines
returns c =
    let input = c.args.input.now in
    let l = c.loop-piece in
    let split = c.split_inclusive.ensures in
    let taken = c.take-piece-items.ensures in
    let road = lines_taken _ _ l.yielded l.piece-iterator l.yielded_by split.closure (λ x b q k. search rules) input split.rest taken.source 65 taken.count c.into_iter-piece-iterator.ensures.into_iter_gives in
    let end = YieldsList-end road l.yielded l.piece-iterator l.yielded_by _ _ c.in-None.is c.next.ensures.steps in
    all_done input _ _ l.invariant end.0
