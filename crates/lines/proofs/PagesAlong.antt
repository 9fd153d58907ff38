-- Closings handed to a page one after the other: those that are joined, and what they print in all, which is their pages.
use mathlib.Core.Path.{◌≡◌, refl, sym, ap, ap₂, ◌∙◌}
use mathlib.Core.Bool.{Bool, true, false, cond, ◌&&◌, ◌||◌}
use mathlib.Core.List.{List, [], ◌∷◌, ◌++◌, map, flatten, flat_map, append_assoc, append-nil}
use mathlib.Core.Logic.{◌⊎◌, inl, inr}
use Prim.Native.Nat.{ℕ, zero, suc, ◌+◌, ◌≤◌, ◌<◌}
use native.Mathlib.Omega.{arith}
use lib.Dec.{eqb}
use lib.ListN.{length, take, drop, length-append, length-drop, drop_of_length-le}
use lib.Seq.{take_all, take_at, drop_at}
use borrow.Author.Tests.{le-leb, lt-leb, ne_eqb}
use Rattle.lists.specs.Select.{every}
use Rattle.lists.proofs.Tests.{cmp, and_left, and_right, cond_true, cond_false}
use Rattle.lines.specs.Bytes.{Bytes}
use Rattle.lines.specs.Session.{Answer}
use Rattle.lines.specs.Sheet.{Figures, page_slots, page, cut_in_pages, pages, figures_in, closings_in, sheet_number, is_full, with_closing, page_after}
use Rattle.lines.specs.Printers.{page_along, filled_by, pages_along, last_page}

pub page_along_append : (p fs gs : List Figures) → page_along p (fs ++ gs) ≡ page_along (page_along p fs) gs
unfolding page_along
page_along_append p [] gs = refl
page_along_append p (f ∷ fs) gs = page_along_append (page_after p f) fs gs

pub pages_along_append : (p fs gs : List Figures) → pages_along p (fs ++ gs) ≡ pages_along p fs ++ pages_along (page_along p fs) gs
unfolding page_along pages_along
pages_along_append p [] gs = refl
pages_along_append p (f ∷ fs) gs =
    let q = page_after p f in
    ap (filled_by p f ++◌) (pages_along_append q fs gs) ∙ sym (append_assoc (filled_by p f) (pages_along q fs) (pages_along (page_along q fs) gs))

-- more pages than closings are no other pages
enough : (m n : ℕ) (fs : List Figures) → length fs ≤ m → length fs ≤ n → cut_in_pages m fs ≡ cut_in_pages n fs
unfolding cut_in_pages page_slots
enough zero zero [] h k = refl
enough zero (suc n) [] h k = refl
enough (suc m) zero [] h k = refl
enough (suc m) (suc n) [] h k = refl
enough zero n (f ∷ fs) h k = absurd (omega arith)
enough (suc m) zero (f ∷ fs) h k = absurd (omega arith)
enough (suc m) (suc n) (f ∷ fs) h k =
    let rest = drop page_slots (f ∷ fs) in
    let fewer : length rest ≤ length fs = omega (arith, length-drop page_slots (f ∷ fs)) in
    ap (take page_slots (f ∷ fs) ∷◌) (enough m n rest (omega arith) (omega arith))

-- the pages of closings, printed
abbrev printed : List Figures → Bytes
printed fs = flatten (pages fs)

-- none
printed_none : printed [] ≡ []
unfolding pages cut_in_pages flatten
printed_none = refl

-- a page has a slot
some_slots : 0 < page_slots
unfolding page_slots
some_slots = omega arith

-- the first of them holds as many as a page has
printed_first : (p fs : List Figures) → length p ≡ page_slots → printed (p ++ fs) ≡ page p ++ printed fs
unfolding pages cut_in_pages flatten
printed_first [] fs e = absurd (omega (arith, some_slots))
printed_first (f ∷ p) fs e =
    let rest = drop page_slots (f ∷ (p ++ fs)) in
    let first : take page_slots (f ∷ (p ++ fs)) ≡ f ∷ p = take_at (f ∷ p) fs page_slots e in
    let behind : rest ≡ fs = drop_at (f ∷ p) fs page_slots e in
    let n = length (p ++ fs) in
    let fewer : length fs ≤ n = omega (arith, length-append p fs) in
    ap₂ (λ (a b : List Figures). page a ++ flatten (map page (cut_in_pages n b))) first behind
    ∙ ap (λ (x : List (List Figures)). page (f ∷ p) ++ flatten (map page x)) (enough n (length fs) fs fewer (omega arith))

-- one page, not full
printed_one : (f : Figures) (p : List Figures) → length (f ∷ p) < page_slots → printed (f ∷ p) ≡ page (f ∷ p)
unfolding pages cut_in_pages flatten
printed_one f p h =
    let whole : take page_slots (f ∷ p) ≡ f ∷ p = take_all page_slots (f ∷ p) (omega arith) in
    let none : drop page_slots (f ∷ p) ≡ [] = drop_of_length-le (f ∷ p) {i = page_slots} (omega arith) in
    ap₂ (λ (a b : List Figures). page a ++ flatten (map page (cut_in_pages (length p) b))) whole none
    ∙ ap (λ (x : List (List Figures)). page (f ∷ p) ++ flatten (map page x)) (enough (length p) 0 [] (omega arith) (omega arith))
    ∙ append-nil (page (f ∷ p))

-- a page that is not full, a full one
not_full : (p : List Figures) → length p < page_slots → is_full p ≡ false
unfolding is_full
not_full p h = lt-leb page_slots (length p) h

full : (p : List Figures) → length p ≡ page_slots → is_full p ≡ true
unfolding is_full page_slots
full p e = le-leb page_slots (length p) (omega arith)

-- at the end
last_full : (p : List Figures) → is_full p ≡ true → last_page p ≡ []
unfolding last_page
last_full p e = ap (λ b. cond (b || eqb (length p) 0) [] (page p)) e

printed_last : (p : List Figures) → length p < page_slots → printed p ≡ last_page p
unfolding last_page page_slots
printed_last [] h = printed_none ∙ sym (ap (λ b. cond (b || true) [] (page [])) (not_full [] h))
printed_last (f ∷ p) h =
    printed_one f p h
    ∙ sym (ap₂ (λ (b c : Bool). cond (b || c) [] (page (f ∷ p))) (not_full (f ∷ p) h) (ne_eqb (length (f ∷ p)) 0 (λ e. omega arith)))

-- the sheet takes the closing
abbrev pub takes : Figures → Bool
takes f = eqb (sheet_number f) 0

module _ (p : List Figures) (f : Figures) (t : takes f ≡ true) where
  after_taken : page_after p f ≡ with_closing p f
  unfolding page_after
  after_taken = cond_true (takes f) (with_closing p f) p t

  -- the closing is put behind those on the page
  behind : length p < page_slots → with_closing p f ≡ p ++ (f ∷ [])
  unfolding with_closing
  behind h = cond_false (is_full p) (f ∷ []) (p ++ (f ∷ [])) (not_full p h)

  fills : (b : Bool) → is_full (with_closing p f) ≡ b → filled_by p f ≡ cond b (page (with_closing p f)) []
  unfolding filled_by
  fills b e = ap₂ (λ (x y : Bool). cond (x && y) (page (with_closing p f)) []) t e

-- from a full page on all is as from an empty one
module _ (p : List Figures) (e : is_full p ≡ true) where
  begins : (f : Figures) → with_closing p f ≡ f ∷ []
  unfolding with_closing
  begins f = cond_true (is_full p) (f ∷ []) (p ++ (f ∷ [])) e

  begins_too : (f : Figures) → with_closing [] f ≡ f ∷ []
  unfolding with_closing is_full page_slots
  begins_too f = refl

  anew : (fs : List Figures) → every takes fs ≡ true → pages_along p fs ++ last_page (page_along p fs) ≡ pages_along [] fs ++ last_page (page_along [] fs)
  unfolding pages_along page_along every last_page is_full page_slots
  anew [] h = last_full p e
  anew (f ∷ fs) h =
      let t = and_left (takes f) (every takes fs) h in
      let same : with_closing p f ≡ with_closing [] f = begins f ∙ sym (begins_too f) in
      let after : page_after p f ≡ page_after [] f = after_taken p f t ∙ same ∙ sym (after_taken [] f t) in
      let filled : filled_by p f ≡ filled_by [] f =
      fills p f t (is_full (with_closing p f)) refl
      ∙ ap (λ (q : List Figures). cond (is_full q) (page q) []) same
      ∙ sym (fills [] f t (is_full (with_closing [] f)) refl)
      in
      ap₂ (λ (x : Bytes) (q : List Figures). (x ++ pages_along q fs) ++ last_page (page_along q fs)) filled after

-- what closings print along a page that is not full, and at the end, are the pages of those on it and of these
pub along_pages : (p fs : List Figures) → length p < page_slots → every takes fs ≡ true → pages_along p fs ++ last_page (page_along p fs) ≡ printed (p ++ fs)
unfolding pages_along page_along every page_slots
along_pages p [] h k = sym (printed_last p h) ∙ ap printed (sym (append-nil p))
along_pages p (f ∷ fs) h k =
    let t = and_left (takes f) (every takes fs) k in
    let ts = and_right (takes f) (every takes fs) k in
    let q = p ++ (f ∷ []) in
    let put : with_closing p f ≡ q = behind p f t h in
    let after : page_after p f ≡ q = after_taken p f t ∙ put in
    let longer : length q ≡ length p + 1 = length-append p (f ∷ []) in
    let joined : q ++ fs ≡ p ++ (f ∷ fs) = append_assoc p (f ∷ []) fs in
    let whole : (filled : Bytes) → filled_by p f ≡ filled → (filled_by p f ++ pages_along (page_after p f) fs) ++ last_page (page_along (page_after p f) fs) ≡ filled ++ (pages_along q fs ++ last_page (page_along q fs)) =
    λ filled e.
    ap₂ (λ (x : Bytes) (r : List Figures). (x ++ pages_along r fs) ++ last_page (page_along r fs)) e after
    ∙ append_assoc filled (pages_along q fs) (last_page (page_along q fs))
    in
    go (cmp page_slots (length q)) longer put joined whole t ts (λ (r : List Figures) m n. along_pages r fs m n)
  where
    go : let q = p ++ (f ∷ []) in
        (page_slots ≤ length q) ⊎ (length q < page_slots)
        → length q ≡ length p + 1
        → with_closing p f ≡ q
        → q ++ fs ≡ p ++ (f ∷ fs)
        → ((filled : Bytes) → filled_by p f ≡ filled → (filled_by p f ++ pages_along (page_after p f) fs) ++ last_page (page_along (page_after p f) fs) ≡ filled ++ (pages_along q fs ++ last_page (page_along q fs)))
        → takes f ≡ true
        → every takes fs ≡ true
        → ((r : List Figures) → length r < page_slots → every takes fs ≡ true → pages_along r fs ++ last_page (page_along r fs) ≡ printed (r ++ fs))
        → (filled_by p f ++ pages_along (page_after p f) fs) ++ last_page (page_along (page_after p f) fs) ≡ printed (p ++ (f ∷ fs))
    go (inl m) longer put joined whole t ts ih =
        let q = p ++ (f ∷ []) in
        let e : length q ≡ page_slots = omega arith in
        whole (page q) (fills p f t true (ap is_full put ∙ full q e) ∙ ap page put)
        ∙ ap (page q ++◌) (anew q (full q e) fs ts ∙ ih [] (omega arith) ts)
        ∙ sym (printed_first q fs e)
        ∙ ap printed joined
    go (inr m) longer put joined whole t ts ih =
        let q = p ++ (f ∷ []) in
        whole [] (fills p f t false (ap is_full put ∙ not_full q m)) ∙ ih q m ts ∙ ap printed joined

pub closings_append : (first rest : List Answer) → closings_in (first ++ rest) ≡ closings_in first ++ closings_in rest
unfolding closings_in flat_map
closings_append [] rest = refl
closings_append (a ∷ first) rest = ap (figures_in a ++◌) (closings_append first rest) ∙ sym (append_assoc (figures_in a) (closings_in first) (closings_in rest))
