-- The lines of bytes as the library's `split_inclusive` gives them: each with its line end, which is taken off.
use mathlib.Core.Path.{◌≡◌, refl, sym, ap, ap₂, ◌∙◌, subst}
use mathlib.Core.Bool.{Bool, true, false, cond, ◌&&◌}
use mathlib.Core.Logic.{◌⊎◌, inl, inr}
use mathlib.Core.List.{List, [], ◌∷◌, ◌++◌}
use Prim.Native.Nat.{ℕ, zero, suc, ◌+◌, ◌-◌, ◌≤◌, ◌<◌, min}
use native.Mathlib.Omega.{arith}
use lib.Dec.{eqb}
use lib.ListN.{length, get_or, take, drop, drop_of_length-le}
use lib.Seq.{take_all, take-take, get_or-take, drop-cons, take-append_seam, drop-append_seam}
use lib.Pointwise.{pointwise}
use denote.Ref.{Bor}
use denote.Param.Members.{Mut}
use Rattle.std.specs.Prelude.{Option, Some, None, MatchOption}
use Rattle.std.specs.Option.{unwrap_or}
use Rattle.std.specs.Fn.{ComputesKey, CalledAt}
use Rattle.std.specs.List.{IsFirstMatchOrLen}
use Rattle.std.specs.Slice.Iter.{split_inclusive_rest, split_inclusive_callee}
use Rattle.std.specs.declared.slice.SplitInclusive.{SplitInclusive}
use Rattle.std.specs.Iterator.{Yields}
use Rattle.std.specs.Iterator.Adapters.{take_source, take_count, take_steps}
use Rattle.std.specs.declared.iter.Take.{Take}
use Rattle.std.proofs.lemmas.Iterator.{YieldsList, YieldsList-from_take}
use Rattle.std.proofs.lemmas.Iterator.Consumers.{YieldsList-at}
use Rattle.std.proofs.lemmas.Iterator.Splits.{YieldsList-from_shown_while}
use Rattle.std.proofs.lemmas.Fn.{always_returns_same}
use Rattle.lists.specs.Before.{before}
use Rattle.lists.proofs.Before.{before_here, before_later}
use Rattle.lists.proofs.Tests.{cmp, cond_true, cond_false}
use Rattle.lines.specs.Bytes.{Bytes, line_end, lines}
use Rattle.worklist.proofs.NextLine.{next_line}

-- the byte ends a line
abbrev pub is_end : ℕ → Bool
is_end b = eqb b 10

-- a piece without the line end behind it
abbrev pub as_line : Bytes → Bytes
as_line p = cond (pointwise eqb (drop (length p - 1) p) (10 ∷ [])) (take (length p - 1) p) p

pub stripped : (p : Bor Bytes) (o : Option (Bor Bytes)) (r : Bor Bytes)
    → MatchOption o (pointwise eqb (drop (length p.now - 1) p.now) (10 ∷ []) ≡ false)
    (λ x. (pointwise eqb (drop (length p.now - 1) p.now) (10 ∷ []) ≡ true) × (x.now ≡ take (length p.now - 1) p.now) × (length x.now + 1 ≡ length p.now))
    → r ≡ unwrap_or o p → r.now ≡ as_line p.now
stripped p None r m e = ap (λ (b : Bor Bytes). b.now) e ∙ sym (cond_false _ _ _ m)
stripped p (Some x) r m e = ap (λ (b : Bor Bytes). b.now) e ∙ m.1 ∙ sym (cond_true _ _ _ m.0)

-- the first that ends a line is where the line ends
first_is_before : (xs : Bytes) (i : ℕ) → IsFirstMatchOrLen is_end xs i → before 10 xs ≡ i
unfolding before
first_is_before [] zero h = refl
first_is_before [] (suc i) h = let e : true ≡ false = h.0 0 10 (omega arith) (omega arith) in absurd (cc)
first_is_before (x ∷ xs) zero h = before_here 10 x xs (h.1 (omega arith) 0)
first_is_before (x ∷ xs) (suc i) h =
    before_later 10 x xs (h.0 0 0 (omega arith) (omega arith))
    ∙ ap suc (first_is_before xs i (λ k d l m. h.0 (suc k) d (omega arith) (omega arith), λ l d. h.1 (omega arith) d))

-- a piece, and the bytes behind it
module _ (xs p ys : Bytes) (i : ℕ) (e : xs ≡ p ++ ys) (n : length p ≡ min (i + 1) (length xs)) (f : IsFirstMatchOrLen is_end xs i) (some : 0 < length xs) where
  front : take (length p) xs ≡ p
  front = ap (take (length p)) e ∙ take-append_seam p ys

  behind : drop (length p) xs ≡ ys
  behind = ap (drop (length p)) e ∙ drop-append_seam p ys

  next : lines xs ≡ take i xs ∷ lines (drop (suc i) xs)
  unfolding line_end
  next = next_line xs (omega arith) ∙ ap (λ k. take k xs ∷ lines (drop (suc k) xs)) (first_is_before xs i f)

  -- its last byte
  last_is : (k : ℕ) → length p ≡ suc k → (b : Bool) → is_end (get_or xs k 0) ≡ b → pointwise eqb (drop (length p - 1) p) (10 ∷ []) ≡ b
  last_is k m b h =
      let j : length p - 1 ≡ k = omega arith in
      let one : drop k p ≡ get_or p k 0 ∷ [] = drop-cons p k 0 (omega arith) ∙ ap (get_or p k 0 ∷◌) (drop_of_length-le p {i = suc k} (omega arith)) in
      let same : get_or p k 0 ≡ get_or xs k 0 = ap (λ (l : Bytes). get_or l k 0) (sym front) ∙ get_or-take (length p) xs k 0 (omega arith) in
      let alone : (c : Bool) → is_end (get_or p k 0) ≡ c → pointwise eqb (get_or p k 0 ∷ []) (10 ∷ []) ≡ c = λ c q. simp q (both c) in
      ap (λ (l : Bytes). pointwise eqb l (10 ∷ [])) (ap (λ (j : ℕ). drop j p) j ∙ one) ∙ alone b (ap is_end same ∙ h)
    where
      both : (c : Bool) → (c && true) ≡ c
      both true = refl
      both false = refl

  pub first_line : lines xs ≡ as_line p ∷ lines ys
  first_line = go (cmp (length xs) i)
    where
      go : (length xs ≤ i) ⊎ (i < length xs) → lines xs ≡ as_line p ∷ lines ys
      go (inl h) =
          let k : ℕ = length xs - 1 in
          let m : length p ≡ suc k = omega arith in
          let no_end = last_is k m false (f.0 k 0 (omega arith) (omega arith)) in
          let whole : take i xs ≡ p = take_all i xs h ∙ sym (take_all (length p) xs (omega arith)) ∙ front in
          let none : drop (suc i) xs ≡ ys = drop_of_length-le xs {i = suc i} (omega arith) ∙ sym (drop_of_length-le xs {i = length p} (omega arith)) ∙ behind in
          next ∙ ap₂ (λ (a b : Bytes). a ∷ lines b) (whole ∙ sym (cond_false _ _ _ no_end)) none
      go (inr h) =
          let m : length p ≡ suc i = omega arith in
          let end = last_is i m true (f.1 h 0) in
          let j : length p - 1 ≡ i = omega arith in
          let cut : take (length p - 1) p ≡ take i xs = ap (λ (k : ℕ). take k p) j ∙ ap (take i) (sym front) ∙ take-take i (length p) xs (omega arith) in
          next ∙ ap₂ (λ (a b : Bytes). a ∷ lines b) (sym (cond_true _ _ _ end ∙ cut)) (ap (λ (k : ℕ). drop k xs) (sym m) ∙ behind)

no_lines : (l : Bytes) → length l ≡ 0 → length (lines l) ≡ 0
unfolding lines
no_lines [] h = refl
no_lines (x ∷ l) h = absurd (omega arith)

module _ {F : Type 0} (g : Mut F (Bor ℕ × Unit {0}) Bool) where
  -- what a step of `split_inclusive` gives
  abbrev pub pieces : SplitInclusive ℕ F → Option (Bor Bytes) → SplitInclusive ℕ F → Type 0
  pieces s r t =
      MatchOption r ((length (split_inclusive_rest s) ≡ 0) × (t ≡ s))
      (λ x. (split_inclusive_rest s ≡ x.now ++ split_inclusive_rest t)
      × ((i : ℕ) × (length x.now ≡ min (i + 1) (length (split_inclusive_rest s)))
      × ((p : ℕ → Bool) → ComputesKey g p (split_inclusive_callee s) → ComputesKey g p (split_inclusive_callee t) × IsFirstMatchOrLen p (split_inclusive_rest s) i))
      × (0 < length (split_inclusive_rest s)))

  pub lines_yielded : (s : SplitInclusive ℕ F) (f : F) (xs : Bytes) → split_inclusive_rest s ≡ xs → split_inclusive_callee s ≡ f
      → ((x : ℕ) (b : Bool) (q : F) → CalledAt g f x b q → (q ≡ f) × (b ≡ is_end x)) → YieldsList pieces (λ x. as_line x.now) s (lines xs)
  lines_yielded s f xs rest closure tests =
      subst (YieldsList pieces (λ x. as_line x.now) s) (ap lines rest)
      (YieldsList-from_shown_while pieces (λ x. as_line x.now) (λ t. lines (split_inclusive_rest t)) (λ t. ComputesKey g is_end (split_inclusive_callee t))
      (λ t u h k. no_lines (split_inclusive_rest t) k.0)
      (λ t x u h k. ((k.1.2 is_end h).0, first_line _ x.now _ k.1.0 k.0 k.1.1 (k.1.2 is_end h).1 k.2))
      s
      (subst (ComputesKey g is_end) (sym closure)
      (always_returns_same g (λ a r. r ≡ is_end a.0.now) f (λ a r q k. let m = tests a.0.now r q (record { shown = a.0; shows = refl; called = k }) in (m.1, m.0)))))

  -- the first n of them, for a loop that has gone over some
  pub lines_taken : {s : SplitInclusive ℕ F} {f : F} {t : Take (SplitInclusive ℕ F)} (it : Take (SplitInclusive ℕ F)) (ys : List (Bor Bytes)) (u : Take (SplitInclusive ℕ F)) → Yields (take_steps pieces) it ys u
      → split_inclusive_callee s ≡ f → ((x : ℕ) (b : Bool) (q : F) → CalledAt g f x b q → (q ≡ f) × (b ≡ is_end x))
      → (xs : Bytes) → split_inclusive_rest s ≡ xs → take_source t ≡ s → (n : ℕ) → take_count t ≡ n → it ≡ t
      → YieldsList (take_steps pieces) (λ x. as_line x.now) it (take n (lines xs))
  lines_taken {s} {f} it ys u y closure tests xs rest source n count same =
      YieldsList-at same (YieldsList-from_take n (YieldsList-at source (lines_yielded s f xs rest closure tests)) count)
