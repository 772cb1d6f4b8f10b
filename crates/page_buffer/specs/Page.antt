-- A page of a series as contracts see it, and the moments of its items.
use Rattle.std.specs.Prelude.{◌≡◌, ℕ, ◌+◌, ◌-◌, ◌*◌, ◌^◌, ◌<◌, List, ◌++◌, length, Some, slice_get, refl}
use Rattle.std.specs.Coded.{Coded, code_by, coded_ℕ, coded_list, coded×}

-- its series, the moment of its first item, the step to the next, and the items
pub record Page (X : Type 0) : Type 0 where
  pub series : ℕ
  pub first : ℕ
  pub step : ℕ
  pub items : List X

abbrev pub page_code : {X : Type 0} → Coded X → Coded (Page X)
page_code {X} c =
    code_by (ℕ × (ℕ × (ℕ × List X))) (coded× coded_ℕ (coded× coded_ℕ (coded× coded_ℕ (coded_list c))))
    (λ p. (p.series, (p.first, (p.step, p.items))))
    (λ t. record { series = t.0; first = t.1.0; step = t.1.1.0; items = t.1.1.1 }) (λ _. refl)

module _ {X : Type 0} where
  abbrev pub page_of : ℕ → ℕ → ℕ → List X → Page X
  page_of series first step items = record { series = series; first = first; step = step; items = items }

  -- a place is counted in steps from the first moment
  abbrev pub moment_at : Page X → ℕ → ℕ
  moment_at page place = page.first + place * page.step

  -- the item stands at the moment
  abbrev pub IsAt : Page X → ℕ → X → Type 0
  IsAt page moment item = (place : ℕ) × (slice_get page.items place ≡ Some item) × (moment ≡ moment_at page place)

  -- the last moment is below 2^32
  abbrev pub EndsInTime : ℕ → ℕ → List X → Type 0
  EndsInTime first step items = 0 < length items → first + (length items - 1) * step < 2 ^ 32

  -- the page after further items
  abbrev pub with_more : Page X → List X → Page X
  with_more page more = page_of page.series page.first page.step (page.items ++ more)
