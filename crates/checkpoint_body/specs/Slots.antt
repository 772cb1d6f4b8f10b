-- The points of a segment as pages of slots, and the way back.
use Rattle.std.specs.Prelude.{ℕ, zero, suc, ◌+◌, ◌*◌, ◌-◌, ◌<◌, ◌^◌, Bool, ◌&&◌, ◌==◌, nat_lt, List, [], ◌∷◌, ◌++◌, length, replicate, find, flat_map, sum_by, Option, option_map}
use Rattle.checkpoint_body.specs.declared.item.Point.{Point}
use Rattle.checkpoint_body.specs.declared.page.SlotPage.{SlotPage}
use Rattle.page_buffer.specs.declared.slot_page.TheConstants.{MOST_SLOTS}
use Rattle.checkpoint_body.specs.Pages.{pages_of}

-- the page of a point alone
abbrev pub slot_page_of : Point → SlotPage
slot_page_of point =
    record { series = point.series; first = point.moment; step = point.step; words = point.word ∷ [] }

-- how many slots may be empty between two points
abbrev pub gaps : List ℕ
gaps = 0 ∷ 1 ∷ 2 ∷ 3 ∷ 4 ∷ 5 ∷ 6 ∷ []

-- after so many empty slots the next slot is the point's, and at most MOST_SLOTS slots result
abbrev pub takes : SlotPage → Point → ℕ → Bool
takes page point empty =
    page.series == point.series && page.step == point.step
    && page.first + (length page.words + empty) * page.step == point.moment
    && nat_lt (length page.words + empty) MOST_SLOTS

abbrev pub with_word : SlotPage → ℕ → ℕ → SlotPage
with_word page word empty = record page { words = page.words ++ replicate empty 0 ++ word ∷ [] }

-- the page with the point, where it takes it
abbrev pub with_point : SlotPage → Point → Option SlotPage
with_point page point = option_map (with_word page point.word) (find (takes page point) gaps)

-- the pages of points in the order of their series, then moments
abbrev pub slot_pages : List Point → List SlotPage
slot_pages points = pages_of with_point slot_page_of points

-- ---- the way back

-- the slots that are not empty, the first of them at a moment
abbrev pub points_from : ℕ → ℕ → ℕ → List ℕ → List Point
points_from series step moment [] = []
points_from series step moment (zero ∷ words) = points_from series step (moment + step) words
points_from series step moment (suc word ∷ words) =
    record { series = series; moment = moment; step = step; word = suc word } ∷ points_from series step (moment + step) words

abbrev pub points_in : SlotPage → List Point
points_in page = points_from page.series page.step page.first page.words

abbrev pub points_of : List SlotPage → List Point
points_of pages = flat_map points_in pages

-- its last slot has a moment below 2^32
abbrev pub EndsInTime : SlotPage → Type 0
EndsInTime page = page.first + (length page.words - 1) * page.step < 2 ^ 32

-- ---- their size

-- the bytes of a page: 24 for its head, and 4 for each slot
abbrev pub slot_page_size : SlotPage → ℕ
slot_page_size page = 24 + 4 * length page.words

abbrev pub slot_pages_size : List SlotPage → ℕ
slot_pages_size pages = sum_by slot_page_size pages
