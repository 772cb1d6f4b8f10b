-- Records of a page, one for each step.
use Rattle.std.specs.Prelude.{◌≡◌, ℕ, ◌<◌, ◌≤◌, ◌^◌, List, [], ◌∷◌, ◌++◌, length}
use Rattle.fixed_num.specs.declared.units.Record.{Record}
use Rattle.page_buffer.specs.declared.fault.PageFault.{PageFault}
use Rattle.page_buffer.specs.declared.fault.PageFault.TheVariants.{PageFull, TooFar, BadPage, Memory}
use Rattle.page_buffer.specs.Items.{records_of, IsRecords}
use Rattle.page_buffer.specs.Page.{Page, page_of, moment_at, EndsInTime}
use Rattle.page_buffer.specs.declared.record_page.TheConstants.{MOST_RECORDS}

-- the records of one page
abbrev pub AreRecords : ℕ → ℕ → List Record → Type 0
AreRecords first step items = (length items ≤ MOST_RECORDS) × EndsInTime first step items

-- the bytes are a page's
abbrev pub IsRecordPage : ℕ → ℕ → List ℕ → Type 0
IsRecordPage first step bytes = IsRecords bytes × EndsInTime first step (records_of bytes)

-- the moment is the one after the last record's, or the first
abbrev pub IsNext : Page Record → ℕ → Type 0
IsNext page moment = moment ≡ moment_at page (length page.items)

-- why a record at the moment is refused
abbrev pub IsRefused : Page Record → ℕ → PageFault → Type 0
IsRefused page moment PageFull = length page.items ≡ MOST_RECORDS
IsRefused page moment TooFar = (length page.items < MOST_RECORDS) × (¬ IsNext page moment)
IsRefused page moment BadPage = ⊥
IsRefused page moment Memory = ⊥

-- pushes of records make the records of a page of this series, first moment and step
pub data IsPushed (series first step : ℕ) : List Record → Type 0 where
  none : IsPushed series first step []
  more : (items : List Record) (moment : ℕ) (item : Record) → IsPushed series first step items → moment < 2 ^ 32
      → IsNext (page_of series first step items) moment → length items < MOST_RECORDS
      → IsPushed series first step (items ++ item ∷ [])
