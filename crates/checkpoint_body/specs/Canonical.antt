-- What is tested of a body, beside that its numbers fit their fields.
use Rattle.std.specs.Prelude.{ℕ, zero, suc, ◌+◌, ◌-◌, ◌*◌, ◌%◌, ◌^◌, Bool, true, not, ◌&&◌, ◌||◌, ◌==◌, nat_lt, nat_le, List, [], ◌∷◌, length, map, sum_by, count_by}
use Rattle.std.specs.List.{list_all}
use Rattle.tier_settings.specs.declared.limits.TheConstants.{MOST_SERIES}
use Rattle.tier_settings.specs.declared.tier.Tier.{Tier}
use Rattle.checkpoint_body.specs.declared.body.Extent.{Extent}
use Rattle.checkpoint_body.specs.declared.body.OpenRecord.{OpenRecord}
use Rattle.checkpoint_body.specs.declared.body.PointTier.{PointTier}
use Rattle.checkpoint_body.specs.declared.body.RecordTier.{RecordTier}
use Rattle.checkpoint_body.specs.declared.page.RecordPage.{RecordPage}
use Rattle.checkpoint_body.specs.declared.page.SlotPage.{SlotPage}
use Rattle.page_buffer.specs.declared.record_page.TheConstants.{MOST_RECORDS}
use Rattle.page_buffer.specs.declared.slot_page.TheConstants.{MOST_EMPTY, MOST_SLOTS}
use Rattle.checkpoint_body.specs.declared.span.Span.{Span}
use Rattle.page_buffer.specs.Slots.{spaced}

-- ---- extents

-- at most as many as the tier keeps
abbrev pub are_few : Tier → List Extent → Bool
are_few tier extents = nat_le (length extents) tier.extents

-- ---- open records

abbrev pub is_ascending : List ℕ → Bool
is_ascending [] = true
is_ascending (one ∷ []) = true
is_ascending (one ∷ next ∷ others) = nat_lt one next && is_ascending (next ∷ others)

abbrev pub is_series : OpenRecord → Bool
is_series one = nat_lt one.series MOST_SERIES

-- one for a series at most, by series
abbrev pub are_open : List OpenRecord → Bool
are_open records = list_all is_series records && is_ascending (map (λ one. one.series) records)

-- ---- pages

-- a page has the moments of a series from its first to its end
abbrev pub slot_span : SlotPage → Span
slot_span page =
    record { series = page.series; first = page.first; end = page.first + (length page.words - 1) * page.step }

abbrev pub record_span : RecordPage → Span
record_span page =
    record { series = page.series; first = page.first; end = page.first + (length page.records - 1) * page.step }

-- the next page is of a later series, or begins after the end of this one
abbrev pub is_before : Span → Span → Bool
is_before one next = nat_lt one.series next.series || (one.series == next.series && nat_lt one.end next.first)

abbrev pub are_in_order : List Span → Bool
are_in_order [] = true
are_in_order (one ∷ []) = true
are_in_order (one ∷ next ∷ others) = is_before one next && are_in_order (next ∷ others)

abbrev pub ends_in_time : Span → Bool
ends_in_time span = nat_lt span.end (2 ^ 32)

abbrev pub is_slot_page : SlotPage → Bool
is_slot_page page =
    nat_le (length page.words) MOST_SLOTS && nat_lt 0 page.step && spaced MOST_EMPTY page.words && ends_in_time (slot_span page)

-- 1 to MOST_RECORDS records, of buckets of this width
abbrev pub is_record_page : ℕ → RecordPage → Bool
is_record_page width page =
    nat_lt 0 (length page.records) && nat_le (length page.records) MOST_RECORDS && page.step == width
    && nat_lt 0 page.step && page.first % page.step == 0 && ends_in_time (record_span page)

-- ---- tiers

-- how many slots of pages are not empty
abbrev pub point_count : List SlotPage → ℕ
point_count pages = sum_by (λ page. count_by (λ word. not (word == 0)) page.words) pages

abbrev pub record_count : List RecordPage → ℕ
record_count pages = sum_by (λ page. length page.records) pages

abbrev pub is_point_tier : Tier → PointTier → Bool
is_point_tier tier kept =
    are_few tier kept.extents && list_all is_slot_page kept.pages && are_in_order (map slot_span kept.pages)
    && nat_lt (point_count kept.pages) tier.items

abbrev pub is_record_tier : Tier → RecordTier → Bool
is_record_tier tier kept =
    are_few tier kept.extents && are_open kept.open_records && list_all (is_record_page tier.width) kept.pages
    && are_in_order (map record_span kept.pages) && nat_lt (record_count kept.pages) tier.items
