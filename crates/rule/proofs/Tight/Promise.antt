-- Room for a job more, by counts; and the walk along the laxities that finds the least that has room: the one after the last full one.
use mathlib.Core.Path.{◌≡◌, ap, subst}
use mathlib.Core.Bool.{true, false}
use mathlib.Core.Logic.{◌⊎◌, inl, inr, ⊎_elim}
use mathlib.Core.List.{List, [], ◌∷◌, Memᴰ}
use Prim.Native.Nat.{ℕ, suc, ◌+◌, ◌-◌, ◌≤◌, ◌<◌, min}
use native.Mathlib.Omega.{arith}
use lib.Dec.{leb, eqb}
use borrow.Author.Tests.{le-leb, eqb-true, eq-eqb}
use Rattle.lists.specs.Select.{one_if, how_many}
use Rattle.lists.proofs.Tests.{cmp, test, same_test}
use Rattle.lists.proofs.Counting.{count_append, count_cong, one_leb}
use Rattle.lists.proofs.LeastPassing.{least_passing_is, least_passing_only}
use Rattle.rule.specs.Job.{Job, job, laxity}
use Rattle.rule.specs.Tight.{tight_laxity}
use Rattle.rule.specs.Shortfall.{shortfall}
use Rattle.rule.specs.Promise.{with_further, fits, least_promised}
use Rattle.rule.proofs.Tight.Excess.{up_to}
use Rattle.rule.proofs.Tight.Shortfall.{shortfall_is, shortfall_covers}

-- there is no shortfall exactly where at every laxity l no more than l jobs have laxity l or less
zero_counts : (now : ℕ) (A : List Job) → eqb (shortfall now A) 0 ≡ true → (l : ℕ) → up_to now A l ≤ l
zero_counts now A e l = omega (arith, shortfall_covers now A l, eqb-true (shortfall now A) 0 e)

counts_zero : (now : ℕ) (A : List Job) → ((l : ℕ) → up_to now A l ≤ l) → eqb (shortfall now A) 0 ≡ true
counts_zero now A f = eq-eqb (shortfall now A) 0 (omega (arith, shortfall_is now A, f (tight_laxity now A)))

-- the jobs with laxity l or less and a further one of laxity w, if it is among them, are no more than l, whatever l
pub record Room (now : ℕ) (A : List Job) (w : ℕ) : Type 0 where
  pub at : (l : ℕ) → up_to now A l + min 1 (suc l - w) ≤ l

module _ (now : ℕ) (A : List Job) where
  pub counts_further : (t w g : ℕ) → 1 ≤ w → (l : ℕ) → up_to now (with_further now A t w g) l ≡ up_to now A l + min 1 (suc l - w)
  unfolding with_further how_many job laxity
  counts_further t w g h l =
      let own : now + w - 1 + 1 - now ≡ w = omega arith in
      omega (arith, count_append (λ (r : Job). leb (r.last + 1 - now) l) A (job t now w g ∷ []), one_leb w l, ap (λ x. one_if (leb x l)) own)

  pub fits_room : (w : ℕ) → 1 ≤ w → fits now A w ≡ true → Room now A w
  unfolding fits
  fits_room w h e = let Z = zero_counts now _ e in record { at = λ l. omega (arith, counts_further 0 w 0 h l, Z l) }

  pub room_fits : (w : ℕ) → 1 ≤ w → Room now A w → fits now A w ≡ true
  unfolding fits
  room_fits w h R = counts_zero now _ (λ l. omega (arith, counts_further 0 w 0 h l, R.at l))

  -- what has room for w has room for more than w
  pub room_longer : {w : ℕ} (v : ℕ) → w ≤ v → Room now A w → Room now A v
  room_longer v h R = record { at = λ l. omega (arith, R.at l) }

  -- where l is full, no laxity up to l fits; where it is overfull, none at all
  pub none_fits : (l v : ℕ) → 1 ≤ v → l < up_to now A l + min 1 (suc l - v) → fits now A v ≡ false
  none_fits l v h k = ⊎_elim (λ e. absurd (omega (arith, (fits_room v h e).at l))) (λ e. e) (test (fits now A v))

-- of the laxities from 0 to n none is overfull, and m is the last that is full
pub record LastFull (now : ℕ) (A : List Job) (n m : ℕ) : Type 0 where
  pub within : m ≤ n
  pub full : up_to now A m ≡ m
  pub past : (l : ℕ) → m < l → l ≤ n → up_to now A l < l
  pub none_over : (l : ℕ) → l ≤ n → up_to now A l ≤ l

-- one laxity after the other
pub last_full_none : {now : ℕ} {A : List Job} → up_to now A 0 ≡ 0 → LastFull now A 0 0
last_full_none {now} {A} e =
    record {
      within = omega arith;
      full = e;
      past = λ l h k. absurd (omega arith);
      none_over = λ l k. let z : l ≡ 0 = omega arith in omega (arith, e, ap (up_to now A) z);
    }

module _ {now : ℕ} {A : List Job} {n m : ℕ} (F : LastFull now A n m) where
  -- of n + 1 laxities each is one of the first n, or the last
  up_to_next : (P : ℕ → Type 0) (l : ℕ) → l ≤ n + 1 → (l ≤ n → P l) → P (n + 1) → P l
  up_to_next P l h f g = ⊎_elim f (λ (c : n < l). let e : n + 1 ≡ l = omega arith in subst P e g) (cmp l n)

  pub last_full_here : up_to now A (n + 1) ≡ n + 1 → LastFull now A (n + 1) (n + 1)
  last_full_here e =
      record {
        within = omega arith;
        full = e;
        past = λ l h k. absurd (omega arith);
        none_over = λ l k. up_to_next (λ l. up_to now A l ≤ l) l k (F.none_over l) (omega (arith, e));
      }

  pub last_full_before : up_to now A (n + 1) < n + 1 → LastFull now A (n + 1) m
  last_full_before h =
      record {
        within = omega (arith, F.within);
        full = F.full;
        past = λ l i k. up_to_next (λ l. up_to now A l < l) l k (F.past l i) h;
        none_over = λ l k. up_to_next (λ l. up_to now A l ≤ l) l k (F.none_over l) (omega arith);
      }

module _ (longest now : ℕ) (A : List Job) where
  -- an overfull laxity: nothing can be promised
  pub overfull_promise : (l : ℕ) → l < up_to now A l → least_promised longest now A ≡ 0
  unfolding least_promised
  overfull_promise l h =
      least_passing_only (least_passing_is _ _)
      record { passes = λ i. absurd (omega arith); less = λ v i j. absurd (omega arith); none = λ e v i j. none_fits now A l v i (omega arith) }

  -- no laxity up to the last full one fits
  up_to_full : {n m : ℕ} → LastFull now A n m → (v : ℕ) → 1 ≤ v → v ≤ m → fits now A v ≡ false
  up_to_full {n} {m} F v h k = none_fits now A m v h (omega (arith, F.full))

  -- the longest laxity is full: none is left
  pub full_promise : LastFull now A longest longest → least_promised longest now A ≡ 0
  unfolding least_promised
  full_promise F =
      least_passing_only (least_passing_is _ _)
      record { passes = λ i. absurd (omega arith); less = λ v i j. absurd (omega arith); none = λ e v i j. up_to_full F v i (omega arith) }

  -- otherwise it is the one after the last full one
  pub after_full_promise : {m : ℕ} → ((r : Job) → Memᴰ r A → laxity now r ≤ longest) → LastFull now A longest m → m < longest
      → least_promised longest now A ≡ suc m
  unfolding least_promised
  after_full_promise {m} short F h =
      least_passing_only (least_passing_is _ _)
      record {
        passes = λ i. (omega arith, room_fits now A (suc m) (omega arith) record { at = λ l. at l (cmp l longest) (cmp l m) });
        less = λ v i j. up_to_full F v i (omega arith);
        none = λ e. absurd (omega arith);
      }
    where
      -- past the longest laxity there are no jobs more
      all_within : (l : ℕ) → longest < l → up_to now A l ≡ up_to now A longest
      all_within l k =
          count_cong (λ r. leb (laxity now r) l) (λ r. leb (laxity now r) longest) A
          (λ r i.
          same_test (leb (laxity now r) l) (leb (laxity now r) longest) (λ e. le-leb (laxity now r) longest (short r i))
          (λ e. le-leb (laxity now r) l (omega (arith, short r i))))

      at : (l : ℕ) → (l ≤ longest) ⊎ (longest < l) → (l ≤ m) ⊎ (m < l) → up_to now A l + min 1 (suc l - suc m) ≤ l
      at l (inl a) (inl b) = omega (arith, F.none_over l a)
      at l (inl a) (inr b) = omega (arith, F.past l b a)
      at l (inr a) b = omega (arith, all_within l a, F.none_over longest (omega arith))
