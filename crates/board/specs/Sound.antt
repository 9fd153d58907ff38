-- When a board is sound: 01's conditions, of the board that 02, Eight makes smaller, a clause for each, and all of them in 01's order.
use Rattle.std.specs.Prelude.{Bool, List, [], ◌∷◌, map, suc, ◌-◌, ◌^◌, leb, ltb, eqb, length, drop}
use Rattle.lists.specs.Select.{how_many, every}
use Rattle.lists.specs.Rise.{rising, never_falling}
use Rattle.rule.specs.Job.{Job}
use Rattle.board.specs.declared.Place.{Place}
use Rattle.board.specs.declared.Board.{Board}
use Rattle.board.specs.Limits.{longest_laxity, most_in_slot, places_held, last_slot, deepest}
use Rattle.board.specs.Held.{slot_of, held}

-- 'A board has 192 places': here places are a list
abbrev pub has_all_places : Board → Bool
has_all_places b = eqb (length b.places) places_held

-- 'It is sound when: depth is at most 3'
abbrev pub depth_in_range : Board → Bool
depth_in_range b = leb b.depth deepest

-- 'slot is 1 to 1,000,001': 1 or more
abbrev pub slot_from_one : Board → Bool
slot_from_one b = leb 1 (slot_of b)

-- 'slot is 1 to 1,000,001': 1,000,001 at the most
abbrev pub slot_to_end : Board → Bool
slot_to_end b = leb (slot_of b) (suc last_slot)

-- 'count is at most' the number of places
abbrev pub count_in_range : Board → Bool
count_in_range b = leb b.count places_held

-- 'places past the count are all zero'
unfoldable pub is_blank : Place → Bool
is_blank x = every (λ n. eqb n 0) (x.ticket ∷ x.admitted.0 ∷ x.last.0 ∷ x.grade ∷ [])

abbrev pub blank_past_count : Board → Bool
blank_past_count b = every is_blank (drop b.count b.places)

-- 'tickets rise'
abbrev pub tickets_rise : Board → Bool
tickets_rise b = rising (map (λ (r : Job). r.ticket) (held b))

-- 'tickets [..] start at 1 or more'
abbrev pub tickets_from_one : Board → Bool
tickets_from_one b = every (λ (r : Job). leb 1 r.ticket) (held b)

-- 'tickets [..] don't pass the highest'
abbrev pub tickets_to_highest : Board → Bool
tickets_to_highest b = every (λ (r : Job). leb r.ticket b.highest) (held b)

-- 'admitted slots are at least 1'
abbrev pub admitted_from_one : Board → Bool
admitted_from_one b = every (λ (r : Job). leb 1 r.admitted) (held b)

-- 'admitted slots [..] never fall along the board'
abbrev pub admitted_never_fall : Board → Bool
admitted_never_fall b = never_falling (map (λ (r : Job). r.admitted) (held b))

-- 'for each rack admitted slot ≤ present slot'
abbrev pub admitted_by_now : Board → Bool
admitted_by_now b = every (λ (r : Job). leb r.admitted (slot_of b)) (held b)

-- 'for each rack [..] present slot ≤ last slot'
abbrev pub in_date : Board → Bool
in_date b = every (λ (r : Job). leb (slot_of b) r.last) (held b)

-- 'a sound rack has last slot − admitted slot at most 23': below the longest laxity
abbrev pub laxity_in_range : Board → Bool
laxity_in_range b = every (λ (r : Job). ltb (r.last - r.admitted) longest_laxity) (held b)

-- 'grades are below 2^D'
abbrev pub grades_in_range : Board → Bool
grades_in_range b = every (λ (r : Job). ltb r.grade (2 ^ b.depth)) (held b)

-- 'no nine racks share an admitted slot'
abbrev pub intake_in_range : Board → Bool
intake_in_range b = every (λ (r : Job). leb (how_many (λ (q : Job). eqb q.admitted r.admitted) (held b)) most_in_slot) (held b)

-- 01's clauses
unfoldable pub clauses : List (Board → Bool)
clauses =
    has_all_places
    ∷ depth_in_range
    ∷ slot_from_one
    ∷ slot_to_end
    ∷ count_in_range
    ∷ blank_past_count
    ∷ tickets_rise
    ∷ tickets_from_one
    ∷ tickets_to_highest
    ∷ admitted_from_one
    ∷ admitted_never_fall
    ∷ admitted_by_now
    ∷ in_date
    ∷ laxity_in_range
    ∷ grades_in_range
    ∷ intake_in_range
    ∷ []

-- every clause holds
unfoldable pub sound : Board → Bool
sound b = every (λ holds. holds b) clauses
