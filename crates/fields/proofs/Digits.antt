-- A field of digits, one byte further, and when it is a number.
use mathlib.Core.Path.{◌≡◌, refl, sym, ap, ◌∙◌}
use mathlib.Core.List.{◌∷◌}
use mathlib.Core.Bool.{Bool, true, false, ◌&&◌}
use mathlib.Core.Option.{none, some}
use Prim.Native.Nat.{ℕ, ◌+◌, ◌-◌, ◌*◌, ◌^◌, ◌≤◌, ◌<◌}
use native.Mathlib.Numerals.{add-one}
use native.Mathlib.Omega.{arith}
use Rattle.std.proofs.Math.Nat.{pow-suc}
use Rattle.std.specs.Prelude.{Result as Tried, Ok, Err, OkIff, IsErrAnd, MatchResult}
use lib.Dec.{leb}
use lib.ListN.{length, get_or, drop, drop_of_length-le}
use lib.Seq.{drop-cons}
use borrow.Author.Tests.{leb-true, le-leb, lt-leb}
use Rattle.lists.specs.Select.{every}
use Rattle.lists.proofs.Tests.{and_left, and_right}
use Rattle.board.specs.Rows.{◌if◌, first_given}
use Rattle.board.specs.declared.refusal.Refusal.{Refusal}
use Rattle.board.specs.declared.refusal.Refusal.TheVariants.{NotANumber}
use Rattle.lines.specs.Bytes.{Bytes}
use Rattle.lines.specs.Fields.{is_digit, value_after, value, is_number, a_number, readable_as, value_as}
use Rattle.fields.specs.Results.{result, unless}
use Rattle.fields.specs.Numbers.{field_result, field_read}

pub digit_bounds : (b : ℕ) → is_digit b ≡ true → (48 ≤ b) × (b ≤ 57)
unfolding is_digit
digit_bounds b h = (leb-true 48 b (and_left (leb 48 b) (leb b 57) h), leb-true b 57 (and_right (leb 48 b) (leb b 57) h))

no_left : (a b : Bool) → a ≡ false → (a && b) ≡ false
no_left a b h = ap (◌&& b) h

no_right : (a b : Bool) → b ≡ false → (a && b) ≡ false
no_right true b h = h
no_right false b h = refl

-- The bytes of a field from the i-th on settle what it is, where n is the value of those before them.
pub record Passed (f : Bytes) (i n : ℕ) : Type 0 where
  pub digits : every is_digit (drop i f) ≡ every is_digit f
  pub worth : value_after n (drop i f) ≡ value f
  pub small : n < 10 ^ i

pub none_passed : (f : Bytes) → Passed f 0 0
unfolding value
none_passed f = record { digits = refl; worth = refl; small = omega arith }

module _ (f : Bytes) (i n : ℕ) (p : Passed f i n) where
  -- one byte further
  module _ (h : i < length f) where
    step : drop i f ≡ get_or f i 0 ∷ drop (i + 1) f
    step = rw (add-one, drop-cons f i 0)

    grown : 10 ^ (i + 1) ≡ 10 ^ i * 10
    grown = rw (add-one, pow-suc)

    pub one_more : is_digit (get_or f i 0) ≡ true → Passed f (i + 1) (n * 10 + (get_or f i 0 - 48))
    unfolding every value_after
    one_more d = record {
      digits = sym (simp (step, d)) ∙ p.digits;
      worth = sym (ap (value_after n) step) ∙ p.worth;
      small = omega (arith, p.small, grown, digit_bounds _ d);
    }

    pub no_digit : is_digit (get_or f i 0) ≡ false → every is_digit f ≡ false
    unfolding every
    no_digit d = sym p.digits ∙ simp (step, d)

  -- all bytes
  module _ (h : length f ≤ i) where
    pub all_digits : every is_digit f ≡ true
    unfolding every
    all_digits = sym p.digits ∙ simp (drop_of_length-le f h)

    pub all_worth : n ≡ value f
    unfolding value_after
    all_worth = sym (ap (value_after n) (drop_of_length-le f h)) ∙ p.worth

-- whichever test fails, the field is no number
module _ (f : Bytes) where
  no_number : is_number f ≡ false → (14, none) ≡ field_read a_number f
  unfolding field_read readable_as unless first_given ◌if◌ result
  no_number h = simp h

  pub too_short : length f < 1 → (14, none) ≡ field_read a_number f
  unfolding is_number
  too_short h = no_number (no_left _ _ (no_left _ _ (no_left _ _ (lt-leb 1 (length f) h))))

  pub too_long : 10 < length f → (14, none) ≡ field_read a_number f
  unfolding is_number
  too_long h = no_number (no_left _ _ (no_left _ _ (no_right (leb 1 (length f)) _ (lt-leb (length f) 10 h))))

  pub not_digits : every is_digit f ≡ false → (14, none) ≡ field_read a_number f
  unfolding is_number
  not_digits h = no_number (no_left _ _ (no_right (leb 1 (length f) && leb (length f) 10) _ h))

  too_great : 4_294_967_295 < value f → (14, none) ≡ field_read a_number f
  unfolding is_number
  too_great h = no_number (no_right (leb 1 (length f) && leb (length f) 10 && every is_digit f) _ (lt-leb (value f) 4_294_967_295 h))

  pub in_range : 1 ≤ length f → length f ≤ 10 → every is_digit f ≡ true → value f ≤ 4_294_967_295 → (0, some (value f)) ≡ field_read a_number f
  unfolding is_number field_read readable_as value_as unless first_given ◌if◌ result
  in_range h k e m = simp (le-leb 1 (length f) h, le-leb (length f) 10 k, e, le-leb (value f) 4_294_967_295 m)

  -- so it is one where its value is as great as the code's numbers may be
  module _ (h : 1 ≤ length f) (k : length f ≤ 10) (d : every is_digit f ≡ true) (v : ℕ) (w : v ≡ value f) where
    pub by_value : {E : Type 0} {N : E → Refusal → Type 0} (t : Tried ℕ E) (r : Tried ℕ Refusal)
        → OkIff t (v < 2 ^ 32) v
        → MatchResult t (λ x. r ≡ Ok x) (λ e. IsErrAnd r (N e))
        → ((e : E) (n : Refusal) → N e n → n ≡ NotANumber)
        → field_result r ≡ field_read a_number f
    by_value (Ok x) r c m n = ap field_result (m ∙ ap Ok (c.1 ∙ w)) ∙ in_range h k d (omega (arith, c.0, w))
    by_value (Err e) (Ok x) c m n = absurd m
    by_value (Err e) (Err y) c m n = ap (λ (y : Refusal). field_result (Err y)) (n e y m) ∙ too_great (omega (arith, c, w))
