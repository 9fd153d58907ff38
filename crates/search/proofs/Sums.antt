-- Sums of counts are counts: a column counts the jobs of one laxity whose grade starts so, the first columns those within a laxity.
use mathlib.Core.Path.{◌≡◌, refl, sym, ap, ap₂, ◌∙◌}
use mathlib.Core.Bool.{Bool, true, false, ◌&&◌}
use mathlib.Core.Logic.{◌⊎◌, inl, inr, ⊎_elim}
use mathlib.Core.List.{List, Memᴰ}
use Prim.Native.Nat.{ℕ, zero, suc, ◌+◌, ◌-◌, ◌*◌, ◌/◌, ◌%◌, ◌^◌, ◌≤◌, ◌<◌}
use native.Mathlib.Nat.{mod-lt, div-add-mod', pow-succ'}
use native.Mathlib.Numerals.{add-one, sub-one}
use native.Mathlib.Omega.{arith}
use lib.Arith.{digits_div}
use lib.Dec.{leb, ltb, eqb}
use lib.ListN.{get_or}
use lib.Pow.{pow_pos}
use borrow.Author.Tests.{leb-true, le-leb, lt-leb, ltb-true, lt-ltb, le-ltb, eqb-true, eq-eqb, ne_eqb}
use Rattle.lists.specs.Select.{one_if, how_many}
use Rattle.lists.proofs.Tests.{cmp, and_left, and_right, and_intro, same_test}
use Rattle.lists.proofs.Counting.{count_none, count_split, count_cong, count_in_selection}
use Rattle.rule.specs.Job.{Job, laxity}
use Rattle.rule.specs.Grade.{graded, starting}
use Rattle.rule.proofs.Tight.Excess.{up_to}
use Rattle.board.specs.Limits.{longest_laxity}
use Rattle.board.specs.Tally.{tally_grades, cell}
use Rattle.board.proofs.Tallies.CountAt.{grades_counted}
use Rattle.counts.specs.Counts.{cells, cell_of}
use Rattle.search.specs.Inner.Counts.{CountsOf, sum, column}
use Rattle.search.specs.Inner.Start.{Start, first_bits}
use Rattle.search.proofs.Start.{starts_so}

pub sum_more : (f : ℕ → ℕ) (n : ℕ) → sum f (n + 1) ≡ sum f n + f n
unfolding sum
sum_more f n = rw add-one refl

pub sum_cong : (f g : ℕ → ℕ) (n : ℕ) → ((k : ℕ) → k < n → f k ≡ g k) → sum f n ≡ sum g n
unfolding sum
sum_cong f g zero e = refl
sum_cong f g (suc n) e = ap₂ ◌+◌ (sum_cong f g n (λ k h. e k (omega arith))) (e n (omega arith))

pub sum_part : (f : ℕ → ℕ) (n k : ℕ) → k < n → f k ≤ sum f n
unfolding sum
sum_part f zero k h = absurd (omega arith)
sum_part f (suc n) k h = ⊎_elim (λ (e : n ≤ k). let s : k ≡ n = omega arith in rw s (omega arith)) (λ (l : k < n). omega (arith, sum_part f n k l)) (cmp n k)

pub sum_mono : (f : ℕ → ℕ) (m n : ℕ) → m ≤ n → sum f m ≤ sum f n
unfolding sum
sum_mono f m zero h = let e : m ≡ 0 = omega arith in rw e (omega arith)
sum_mono f m (suc n) h = ⊎_elim (λ (l : m ≤ n). omega (arith, sum_mono f m n l)) (λ (l : n < m). let e : m ≡ suc n = omega arith in rw e (omega arith)) (cmp m n)

sum_append : (f : ℕ → ℕ) (m n : ℕ) → sum f (m + n) ≡ sum f m + sum (λ i. f (m + i)) n
unfolding sum
sum_append f m zero = let e : m + 0 ≡ m = omega arith in omega (arith, ap (sum f) e)
sum_append f m (suc n) = let e : m + suc n ≡ suc (m + n) = omega arith in omega (arith, ap (sum f) e, sum_append f m n)

-- a column is that of the start with 0 behind it and that with 1
pub column_halves : (t : List ℕ) (start left k : ℕ) → 1 ≤ left → column t start left k ≡ column t (start * 2) (left - 1) k + column t (start * 2 + 1) (left - 1) k
unfolding column cell
column_halves t start left k some =
    let w = 2 ^ (left - 1) in
    let e : 2 ^ left ≡ w + w = twice left some in
    let f : ℕ → ℕ = λ i. get_or t (cell k (start * 2 ^ left) + i) 0 in
    let p : start * 2 ^ left ≡ start * w + start * w = ap (λ n. start * n) e ∙ omega arith in
    ap (sum f) e
    ∙ sum_append f w w
    ∙ ap₂ ◌+◌ (sum_cong f (λ i. get_or t (cell k (start * 2 * w) + i) 0) w (λ i h. ap (λ j. get_or t j 0) (omega (arith, p))))
    (sum_cong (λ i. f (w + i)) (λ i. get_or t (cell k ((start * 2 + 1) * w) + i) 0) w (λ i h. ap (λ j. get_or t j 0) (omega (arith, p))))
  where
    twice : (n : ℕ) → 1 ≤ n → 2 ^ n ≡ 2 ^ (n - 1) + 2 ^ (n - 1)
    twice zero h = absurd (omega arith)
    twice (suc n) h = rw (sub-one, pow-succ' 2 n) (omega arith)

-- so the counts of the two, which have one bit fewer left, are together the column
pub column_together : (t : List ℕ) (start left k : ℕ) → 1 ≤ left → {p l q m x y : ℕ} → p ≡ start * 2 + 0 → l ≡ left - 1 → q ≡ start * 2 + 1 → m ≡ left - 1
    → x ≡ column t p l k → y ≡ column t q m k → (x ≡ column t (start * 2) (left - 1) k) × (x + y ≡ column t start left k)
column_together t start left k some {x = x} {y = y} ep el eq em z o =
    let e : x ≡ column t (start * 2) (left - 1) k = z ∙ ap₂ (λ b n. column t b n k) (omega (arith, ep)) el in
    let f : y ≡ column t (start * 2 + 1) (left - 1) k = o ∙ ap₂ (λ b n. column t b n k) eq em in
    (e, omega (arith, e, f, column_halves t start left k some))

-- x is one of the n numbers from lo on
abbrev in_range : (lo n x : ℕ) → Bool
in_range lo n x = leb lo x && ltb x (lo + n)

-- one number more
range_more : (lo n x : ℕ) → one_if (in_range lo (suc n) x) ≡ one_if (in_range lo n x) + one_if (eqb x (lo + n))
unfolding one_if
range_more lo n x = go (cmp lo x) (cmp (lo + n) x)
  where
    at : (x ≤ lo + n) ⊎ (lo + n < x) → lo ≤ x → lo + n ≤ x → one_if (in_range lo (suc n) x) ≡ one_if (in_range lo n x) + one_if (eqb x (lo + n))
    at (inl e) h c = simp (le-leb lo x h, lt-ltb x (lo + suc n) (omega arith), le-ltb x (lo + n) c, eq-eqb x (lo + n) (omega arith))
    at (inr e) h c = simp (le-leb lo x h, le-ltb x (lo + suc n) (omega arith), le-ltb x (lo + n) c, ne_eqb x (lo + n) (λ q. omega arith))

    go : (lo ≤ x) ⊎ (x < lo) → (lo + n ≤ x) ⊎ (x < lo + n) → one_if (in_range lo (suc n) x) ≡ one_if (in_range lo n x) + one_if (eqb x (lo + n))
    go (inl h) (inl c) = at (cmp x (lo + n)) h c
    go (inl h) (inr c) = simp (le-leb lo x h, lt-ltb x (lo + suc n) (omega arith), lt-ltb x (lo + n) c, ne_eqb x (lo + n) (λ q. omega arith))
    go (inr h) c = simp (lt-leb lo x h, ne_eqb x (lo + n) (λ q. omega arith))

range_facts : (lo n x : ℕ) → in_range lo n x ≡ true → (lo ≤ x) × (x < lo + n)
range_facts lo n x h = (leb-true lo x (and_left (leb lo x) (ltb x (lo + n)) h), ltb-true x (lo + n) (and_right (leb lo x) (ltb x (lo + n)) h))

facts_range : (lo n x : ℕ) → lo ≤ x → x < lo + n → in_range lo n x ≡ true
facts_range lo n x h k = and_intro (leb lo x) (ltb x (lo + n)) (le-leb lo x h) (lt-ltb x (lo + n) k)

-- the w numbers from start * w on are those with the quotient `start`
range_quotient : (start w x : ℕ) → 1 ≤ w → in_range (start * w) w x ≡ eqb (x / w) start
range_quotient start w x p =
    same_test (in_range (start * w) w x) (eqb (x / w) start)
    (λ h.
    let f = range_facts (start * w) w x h in
    let e : start * w + (x - start * w) ≡ x = omega (arith, f.0) in
    eq-eqb (x / w) start (ap (λ y. y / w) (sym e) ∙ digits_div start (omega (arith, f.0, f.1))))
    (λ h.
    let d : start * w + x % w ≡ x = rw (eqb-true (x / w) start h) at (div-add-mod' x w) in
    facts_range (start * w) w x (omega arith) (omega (arith, mod-lt x {m = w} p)))

-- jobs and their counts
module _ (now d : ℕ) (A : List Job) (t : List ℕ) (C : CountsOf now d A t) where
  -- n cells from c on
  cells_count : (c n : ℕ) → c + n ≤ cells → sum (λ i. get_or t (c + i) 0) n ≡ how_many (λ r. in_range c n (cell_of now r)) A
  unfolding sum
  cells_count c zero b = sym (count_none (λ r. in_range c 0 (cell_of now r)) A (λ r m. nothing (cell_of now r) (cmp c (cell_of now r))))
    where
      nothing : (x : ℕ) → (c ≤ x) ⊎ (x < c) → in_range c 0 x ≡ false
      nothing x (inl h) = simp (le-ltb x (c + 0) (omega arith), le-leb c x h)
      nothing x (inr h) = simp (lt-leb c x h)
  cells_count c (suc n) b =
      omega (
        arith,
        cells_count c n (omega arith),
        C.counted.each (c + n) (omega arith),
        count_split (λ r. in_range c n (cell_of now r)) (λ r. eqb (cell_of now r) (c + n)) (λ r. in_range c (suc n) (cell_of now r)) A
            (λ r m. range_more c n (cell_of now r)),
      )

  -- those of n grades from lo on, in the row of the laxity k + 1
  in_row : (k lo n : ℕ) → lo + n ≤ tally_grades → (r : Job) → Memᴰ r A
      → in_range (cell k lo) n (cell_of now r) ≡ (in_range lo n r.grade && eqb (laxity now r) (k + 1))
  unfolding cell_of cell tally_grades
  in_row k lo n few r m =
      let date = C.in_date r m in
      let grade : r.grade < tally_grades = omega (arith, C.graded r m, grades_counted C.shallow) in
      same_test (in_range (cell k lo) n (cell_of now r)) (in_range lo n r.grade && eqb (laxity now r) (k + 1))
      (λ h.
      let f = range_facts (cell k lo) n (cell_of now r) h in
      and_intro (in_range lo n r.grade) (eqb (laxity now r) (k + 1))
      (facts_range lo n r.grade (omega (arith, f.0, f.1)) (omega (arith, f.0, f.1))) (eq-eqb (laxity now r) (k + 1) (omega (arith, f.0, f.1))))
      (λ h.
      let f = range_facts lo n r.grade (and_left (in_range lo n r.grade) (eqb (laxity now r) (k + 1)) h) in
      let e = eqb-true (laxity now r) (k + 1) (and_right (in_range lo n r.grade) (eqb (laxity now r) (k + 1)) h) in
      facts_range (cell k lo) n (cell_of now r) (omega (arith, f.0, f.1)) (omega (arith, f.0, f.1)))

  -- the jobs that start so, and how many of them have the laxity k + 1
  module _ (start left : ℕ) (fits : Start d start left) where
    abbrev pub group : List Job
    group = starting d (first_bits d start left) A

    abbrev pub having : ℕ → ℕ
    having k = how_many (λ r. eqb (laxity now r) (k + 1)) group

    few_grades : start * 2 ^ left + 2 ^ left ≤ tally_grades
    few_grades = omega (arith, grades_counted C.shallow)

    pub column_counts : (k : ℕ) → k < longest_laxity → column t start left k ≡ having k
    unfolding column starting cells cell longest_laxity tally_grades
    column_counts k h =
        cells_count (cell k (start * 2 ^ left)) (2 ^ left) (omega (arith, few_grades))
        ∙ count_cong (λ r. in_range (cell k (start * 2 ^ left)) (2 ^ left) (cell_of now r)) (λ r. graded d (first_bits d start left) r && eqb (laxity now r) (k + 1)) A
        (λ r m.
        in_row k (start * 2 ^ left) (2 ^ left) few_grades r m
        ∙ ap (λ c. c && eqb (laxity now r) (k + 1)) (range_quotient start (2 ^ left) r.grade (pow_pos left) ∙ sym (starts_so d left start fits r (C.graded r m))))
        ∙ sym (count_in_selection (λ r. eqb (laxity now r) (k + 1)) (graded d (first_bits d start left)) A)

-- the first columns count the jobs within a laxity
within_more : (l n : ℕ) → one_if (leb l (suc n)) ≡ one_if (leb l n) + one_if (eqb l (n + 1))
unfolding one_if
within_more l n = go (cmp l n) (cmp l (n + 1))
  where
    go : (l ≤ n) ⊎ (n < l) → (l ≤ n + 1) ⊎ (n + 1 < l) → one_if (leb l (suc n)) ≡ one_if (leb l n) + one_if (eqb l (n + 1))
    go (inl h) c = simp (le-leb l n h, le-leb l (suc n) (omega arith), ne_eqb l (n + 1) (λ q. omega arith))
    go (inr h) (inl c) = simp (lt-leb l n h, le-leb l (suc n) (omega arith), eq-eqb l (n + 1) (omega arith))
    go (inr h) (inr c) = simp (lt-leb l n h, lt-leb l (suc n) (omega arith), ne_eqb l (n + 1) (λ q. omega arith))

pub within_counts : (now : ℕ) (A : List Job) → ((r : Job) → Memᴰ r A → 1 ≤ laxity now r) → (n : ℕ)
    → sum (λ k. how_many (λ r. eqb (laxity now r) (k + 1)) A) n ≡ up_to now A n
unfolding sum
within_counts now A d zero = sym (count_none (λ r. leb (laxity now r) 0) A (λ r m. lt-leb (laxity now r) 0 (omega (arith, d r m))))
within_counts now A d (suc n) =
    omega (
      arith,
      within_counts now A d n,
      count_split (λ r. leb (laxity now r) n) (λ r. eqb (laxity now r) (n + 1)) (λ r. leb (laxity now r) (suc n)) A (λ r m. within_more (laxity now r) n),
    )
