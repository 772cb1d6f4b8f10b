-- Slots of a page: words, of which 0 is an empty slot.
use Rattle.std.specs.Prelude.{◌≡◌, ℕ, zero, suc, ◌+◌, ◌<◌, ◌≤◌, ◌^◌, ◌⊎◌, Bool, true, ◌&&◌, List, [], ◌∷◌, ◌++◌, length, replicate, nat_eq, nat_lt}
use Rattle.page_buffer.specs.declared.fault.PageFault.{PageFault}
use Rattle.page_buffer.specs.declared.fault.PageFault.TheVariants.{PageFull, TooFar, BadPage, Memory}
use Rattle.page_buffer.specs.Items.{words_of, IsWords}
use Rattle.page_buffer.specs.Page.{Page, page_of, moment_at, with_more, EndsInTime}
use Rattle.page_buffer.specs.declared.slot_page.TheConstants.{MOST_EMPTY, MOST_SLOTS}

-- after so many empty slots: at most MOST_EMPTY in a row are empty, and the last is not
abbrev pub spaced : ℕ → List ℕ → Bool
spaced empty [] = nat_eq empty 0
spaced empty (zero ∷ words) = nat_lt empty MOST_EMPTY && spaced (empty + 1) words
spaced empty (suc _ ∷ words) = spaced 0 words

-- the slots of one page, of which the first is not empty
abbrev pub AreSlots : ℕ → ℕ → List ℕ → Type 0
AreSlots first step words =
    (length words ≤ MOST_SLOTS) × (0 < length words → spaced MOST_EMPTY words ≡ true) × EndsInTime first step words

-- the bytes are a page's
abbrev pub IsSlotPage : ℕ → ℕ → List ℕ → Type 0
IsSlotPage first step bytes = IsWords bytes × AreSlots first step (words_of bytes)

-- how many places may hold the next point of a page with so many slots: the first is at the first moment
abbrev pub reach : ℕ → ℕ
reach zero = 1
reach (suc _) = MOST_EMPTY + 1

-- a point at the moment leaves so many slots empty before it
abbrev pub Skips : Page ℕ → ℕ → ℕ → Type 0
Skips page moment empty = (empty < reach (length page.items)) × (moment ≡ moment_at page (length page.items + empty))

-- the page has room for them and the point
abbrev pub HasRoom : Page ℕ → ℕ → Type 0
HasRoom page empty = length page.items + empty < MOST_SLOTS

-- the page after the empty slots and the word
abbrev pub with_point : Page ℕ → ℕ → ℕ → Page ℕ
with_point page empty word = with_more page (replicate empty 0 ++ word ∷ [])

-- why a point at the moment is refused
abbrev pub IsRefused : Page ℕ → ℕ → PageFault → Type 0
IsRefused page moment PageFull = (length page.items ≡ MOST_SLOTS) ⊎ (empty : ℕ) × Skips page moment empty × (¬ HasRoom page empty)
IsRefused page moment TooFar = (length page.items < MOST_SLOTS) × ((empty : ℕ) → ¬ Skips page moment empty)
IsRefused page moment BadPage = ⊥
IsRefused page moment Memory = ⊥

-- pushes of points make the slots of a page of this series, first moment and step
pub data IsPushed (series first step : ℕ) : List ℕ → Type 0 where
  none : IsPushed series first step []
  more : (words : List ℕ) (moment empty word : ℕ) → IsPushed series first step words → 0 < word → moment < 2 ^ 32
      → Skips (page_of series first step words) moment empty → HasRoom (page_of series first step words) empty
      → IsPushed series first step (words ++ (replicate empty 0 ++ word ∷ []))
