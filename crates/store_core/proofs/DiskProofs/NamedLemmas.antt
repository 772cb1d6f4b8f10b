-- From the entries of an extent's directory to its pages, and back.
use Rattle.std.proofs.Common.{◌≡◌, ℕ, zero, suc, ◌+◌, ◌*◌, ◌<◌, ◌≤◌, List, [], ◌∷◌, ◌++◌, length, map, take, drop, get_or, Some, refl, sym, ap, ◌∙◌, subst, inl, inr, arith}
use Rattle.std.specs.Prelude.{slice_get}
use Rattle.std.proofs.lemmas.List.{length-take, length-drop, drop-drop, map-append, take_more}
use Rattle.fixed_num.specs.declared.units.Record.{Record}
use Rattle.host_model.specs.declared.file.File.{File}
use Rattle.host_model.specs.Images.{contents}
use Rattle.host_model.specs.Past.{Event, of}
use Rattle.page_buffer.specs.Items.{words_of, records_of}
use Rattle.page_buffer.specs.Slots.{IsSlotPage}
use Rattle.page_buffer.specs.Records.{IsRecordPage}
use Rattle.page_buffer.proofs.ItemLemmas.{length-words_of, length-records_of}
use Rattle.extent_file.specs.declared.entry.Entry.{Entry}
use Rattle.extent_file.specs.declared.page.Page.{Page}
use Rattle.extent_file.specs.Directory.{Directory, bytes_of, extent_form}
use Rattle.extent_file.specs.Form.{Says}
use Rattle.extent_file.specs.Slot.{item_size, slot_size, slot_start, tier_of}
use Rattle.extent_file.specs.Pages.{entry_of, entries_of, extent_size, IsItemsOf, IsOfTier, Hold}
use Rattle.extent_file.proofs.EncodeLemmas.{entry_is, count_is}
use Rattle.extent_file.proofs.EndLemmas.{AreJoined, end_of, said_extent, pages_end}
use Rattle.extent_file.proofs.LawLemmas.{says_one}
use Rattle.extent_file.proofs.SaysLemmas.{item-cases, page_long, place_is}
use Rattle.checkpoint_body.specs.declared.body.Extent.{Extent}
use Rattle.checkpoint_body.specs.declared.page.RecordPage.{RecordPage}
use Rattle.checkpoint_body.specs.declared.page.SlotPage.{SlotPage}
use Rattle.store_core.specs.disk.Holds.{page_of_records, page_of_slots, LiesAs, Lie}
use Rattle.store_core.specs.disk.Reading.{IsNamed, AreNamed}
use Rattle.store_core.proofs.DiskProofs.ItemLemmas.{taken_more}

-- ---- one page

four_bytes : (tier : ℕ) → tier ≡ 0 → item_size tier ≡ 4
four_bytes tier none = ap item_size none

record_bytes : (tier : ℕ) → 0 < tier → item_size tier ≡ 56
record_bytes tier some = elim (item-cases tier) [ inl a ↦ absurd (let e = a.0 in omega (arith, e, some)) | inr a ↦ a.1 ]

module _ (tier start : ℕ) (file items : List ℕ) (entry : Entry) (read : items ≡ take (bytes_of tier entry) (drop (start + entry.place) file)) where
  -- the items at the entry's place from the extent's start on
  items_here : take (bytes_of tier entry) (drop entry.place (drop start file)) ≡ items
  items_here = ap (λ (l : List ℕ). take (bytes_of tier entry) l) (drop-drop entry.place start file) ∙ sym read

  items_long : start + entry.place + bytes_of tier entry ≤ length file → length items ≡ bytes_of tier entry
  items_long whole =
      let cut = length-drop (start + entry.place) file in
      let taken = length-take (bytes_of tier entry) (drop (start + entry.place) file) in
      omega (arith, ap length read, cut, taken, whole)

  module _ (found : Entry) (head : ℕ × ℕ × ℕ × ℕ) (same : Some found ≡ Some entry) (is : head ≡ (found.series, found.first, found.step, found.count)) where
    found_is : found ≡ entry
    found_is = cc

    head_is : head ≡ (entry.series, entry.first, entry.step, entry.count)
    head_is = is ∙ ap (λ (e : Entry). (e.series, e.first, e.step, e.count)) found_is

    pub slot_named : (words : List ℕ) → tier ≡ 0 → start + entry.place + bytes_of tier entry ≤ length file
        → IsSlotPage head.1 head.2 items → words ≡ words_of items
        → IsNamed tier (drop start file) entry (page_of_slots (record { series = head.0; first = head.1; step = head.2; words = words }))
    slot_named words none whole form words_is =
        let page : SlotPage = record { series = head.0; first = head.1; step = head.2; words = words } in
        let size = ap (λ (n : ℕ). entry.count * n) (four_bytes tier none) in
        let long = items_long whole in let counted = length-words_of items in let same_long = ap length words_is in
        record {
          head = sym (entry_is entry.place (page_of_slots page) entry (sym (ap (λ (h : ℕ × ℕ × ℕ × ℕ). h.0) head_is)) (sym (ap (λ (h : ℕ × ℕ × ℕ × ℕ). h.1) head_is))
              (sym (ap (λ (h : ℕ × ℕ × ℕ × ℕ). h.2) head_is)) (omega (arith, size, long, counted, same_long)) refl);
          items = subst (λ (l : List ℕ). IsSlotPage head.1 head.2 l × (words_of l ≡ words)) (sym items_here) (form, sym words_is);
        }

    pub record_named : (records : List Record) → 0 < tier → start + entry.place + bytes_of tier entry ≤ length file
        → IsRecordPage head.1 head.2 items → records ≡ records_of items
        → IsNamed tier (drop start file) entry (page_of_records (record { series = head.0; first = head.1; step = head.2; records = records }))
    record_named records some whole form records_is =
        let page : RecordPage = record { series = head.0; first = head.1; step = head.2; records = records } in
        let size = ap (λ (n : ℕ). entry.count * n) (record_bytes tier some) in
        let long = items_long whole in let counted = length-records_of items in let same_long = ap length records_is in
        record {
          head = sym (entry_is entry.place (page_of_records page) entry (sym (ap (λ (h : ℕ × ℕ × ℕ × ℕ). h.0) head_is)) (sym (ap (λ (h : ℕ × ℕ × ℕ × ℕ). h.1) head_is))
              (sym (ap (λ (h : ℕ × ℕ × ℕ × ℕ). h.2) head_is)) (omega (arith, size, long, counted, same_long)) refl);
          items = subst (λ (l : List ℕ). IsRecordPage head.1 head.2 l × (records_of l ≡ records)) (sym items_here) (form, sym records_is);
        }

    -- bytes that are no page's are not named
    pub no_slots : (page : SlotPage) → (IsSlotPage head.1 head.2 items → ⊥) → IsNamed tier (drop start file) entry (page_of_slots page) → ⊥
    no_slots page refused named =
        let first : page.first ≡ head.1 = ap (λ (e : Entry). e.first) named.head ∙ sym (ap (λ (h : ℕ × ℕ × ℕ × ℕ). h.1) head_is) in
        let step : page.step ≡ head.2 = ap (λ (e : Entry). e.step) named.head ∙ sym (ap (λ (h : ℕ × ℕ × ℕ × ℕ). h.2) head_is) in
        refused (subst (λ (n : ℕ). IsSlotPage n head.2 items) first (subst (λ (n : ℕ). IsSlotPage page.first n items) step
        (subst (λ (l : List ℕ). IsSlotPage page.first page.step l) items_here named.items.0)))

    pub no_records : (page : RecordPage) → (IsRecordPage head.1 head.2 items → ⊥) → IsNamed tier (drop start file) entry (page_of_records page) → ⊥
    no_records page refused named =
        let first : page.first ≡ head.1 = ap (λ (e : Entry). e.first) named.head ∙ sym (ap (λ (h : ℕ × ℕ × ℕ × ℕ). h.1) head_is) in
        let step : page.step ≡ head.2 = ap (λ (e : Entry). e.step) named.head ∙ sym (ap (λ (h : ℕ × ℕ × ℕ × ℕ). h.2) head_is) in
        refused (subst (λ (n : ℕ). IsRecordPage n head.2 items) first (subst (λ (n : ℕ). IsRecordPage page.first n items) step
        (subst (λ (l : List ℕ). IsRecordPage page.first page.step l) items_here named.items.0)))

-- what the file ends before is not named
pub too_short : (tier start : ℕ) (file : List ℕ) (entry : Entry) (page : Page) → IsOfTier tier page → 0 < entry.count
    → length file < start + entry.place + bytes_of tier entry → IsNamed tier (drop start file) entry page → ⊥
too_short tier start file entry page of_tier some short named =
    let n : ℕ = bytes_of tier entry in
    let long = page_long tier page (take n (drop entry.place (drop start file))) of_tier named.items in
    let count : (entry_of 0 page).count ≡ entry.count = sym (count_is entry.place page) ∙ ap (λ (e : Entry). e.count) named.head in
    let all : (entry_of 0 page).count * item_size tier ≡ n = ap (λ (k : ℕ). k * item_size tier) count in
    let cut = length-drop entry.place (drop start file) in let prefix = length-drop start file in
    let taken = length-take n (drop entry.place (drop start file)) in
    let bytes : 0 < n = elim (item-cases tier) [
      | inl a ↦ (let e = ap (λ (k : ℕ). entry.count * k) a.1 in let r : 0 < n = omega (arith, e, some) in r)
      | inr a ↦ (let e = ap (λ (k : ℕ). entry.count * k) a.1 in let r : 0 < n = omega (arith, e, some) in r)
    ] in
    omega (arith, long, all, cut, prefix, taken, short, bytes)

-- ---- the pages of an extent

pub named_more : (tier : ℕ) (bytes : List ℕ) (entries : List Entry) (pages : List Page) (entry : Entry) (page : Page) → AreNamed tier bytes entries pages
    → IsNamed tier bytes entry page → AreNamed tier bytes (entries ++ entry ∷ []) (pages ++ page ∷ [])
named_more tier bytes [] [] entry page are is = (is, tt)
named_more tier bytes [] (first ∷ pages) entry page are is = absurd are
named_more tier bytes (first ∷ entries) [] entry page are is = absurd are
named_more tier bytes (first ∷ entries) (one ∷ pages) entry page are is = (are.0, named_more tier bytes entries pages entry page are.1 is)

named_count : (tier : ℕ) (bytes : List ℕ) (entries : List Entry) (pages : List Page) → AreNamed tier bytes entries pages → length pages ≡ length entries
named_count tier bytes [] [] are = refl
named_count tier bytes [] (page ∷ pages) are = absurd are
named_count tier bytes (entry ∷ entries) [] are = absurd are
named_count tier bytes (entry ∷ entries) (page ∷ pages) are = ap suc (named_count tier bytes entries pages are.1)

-- the entries are those of the pages
named_entries : (tier place : ℕ) (bytes : List ℕ) (entries : List Entry) (pages : List Page) → AreJoined tier place entries → AreNamed tier bytes entries pages
    → entries_of tier place pages ≡ entries
named_entries tier place bytes [] [] joined are = refl
named_entries tier place bytes [] (page ∷ pages) joined are = absurd are
named_entries tier place bytes (entry ∷ entries) [] joined are = absurd are
named_entries tier place bytes (entry ∷ entries) (page ∷ pages) joined are =
    let here : entry_of place page ≡ entry = subst (λ (n : ℕ). entry_of n page ≡ entry) joined.0 are.0.head in
    ap (λ (e : Entry). e ∷ entries_of tier (place + bytes_of tier e) pages) here
    ∙ ap (λ (l : List Entry). entry ∷ l) (named_entries tier (place + bytes_of tier entry) bytes entries pages joined.1 are.1)

-- the bytes hold the pages
named_hold : (tier place : ℕ) (bytes : List ℕ) (entries : List Entry) (pages : List Page) → AreJoined tier place entries → AreNamed tier bytes entries pages
    → Hold tier place pages bytes
named_hold tier place bytes [] [] joined are = tt
named_hold tier place bytes [] (page ∷ pages) joined are = absurd are
named_hold tier place bytes (entry ∷ entries) [] joined are = absurd are
named_hold tier place bytes (entry ∷ entries) (page ∷ pages) joined are =
    let here : entry_of place page ≡ entry = subst (λ (n : ℕ). entry_of n page ≡ entry) joined.0 are.0.head in (
      subst (λ (e : Entry). IsItemsOf page (take (bytes_of tier e) (drop place bytes))) (sym here)
          (subst (λ (n : ℕ). IsItemsOf page (take (bytes_of tier entry) (drop n bytes))) joined.0 are.0.items),
      subst (λ (e : Entry). Hold tier (place + bytes_of tier e) pages bytes) (sym here)
          (named_hold tier (place + bytes_of tier entry) bytes entries pages joined.1 are.1),
    )

held_named : (tier place : ℕ) (bytes : List ℕ) (pages : List Page) → Hold tier place pages bytes → AreNamed tier bytes (entries_of tier place pages) pages
held_named tier place bytes [] hold = tt
held_named tier place bytes (page ∷ pages) hold =
    let there = place_is place page in (
      record {
        head = ap (λ (n : ℕ). entry_of n page) there;
        items = subst (λ (n : ℕ). IsItemsOf page (take (bytes_of tier (entry_of place page)) (drop n bytes))) (sym there) hold.0;
      },
      held_named tier (place + bytes_of tier (entry_of place page)) bytes pages hold.1,
    )

module _ (tier items : ℕ) (file : List ℕ) (extent : Extent) where
  abbrev IsSaid : List Entry → Type 0
  IsSaid entries = Says (extent_form tier (slot_size tier items) extent.size) (drop (slot_start tier items extent.slot) file) entries

  -- pages that an extent's directory names lie as the extent
  pub named_lie : (entries : List Entry) (pages : List Page) → IsSaid entries → AreNamed tier (drop (slot_start tier items extent.slot) file) entries pages
      → LiesAs tier items file extent pages
  named_lie entries pages said are =
      let bytes : List ℕ = drop (slot_start tier items extent.slot) file in
      let known = said_extent tier (slot_size tier items) extent.size bytes entries said in
      let count : 24 + 24 * length entries ≡ 24 + 24 * length pages = (let e = named_count tier bytes entries pages are in omega (arith, e)) in
      let joined : AreJoined tier (24 + 24 * length pages) entries = subst (λ (n : ℕ). AreJoined tier n entries) count known.0 in
      let whole : entries_of tier (24 + 24 * length pages) pages ≡ entries = named_entries tier (24 + 24 * length pages) bytes entries pages joined are in
      let size : extent.size ≡ extent_size tier pages =
      sym known.1 ∙ ap (λ (n : ℕ). end_of tier n entries) count ∙ ap (λ (l : List Entry). end_of tier (24 + 24 * length pages) l) (sym whole)
      ∙ pages_end tier (24 + 24 * length pages) pages in
      record {
        size = size;
        lies = record {
          says = subst (λ (n : ℕ). Says (extent_form tier (slot_size tier items) n) bytes (entries_of tier (24 + 24 * length pages) pages)) size
              (subst (λ (l : List Entry). Says (extent_form tier (slot_size tier items) extent.size) bytes l) (sym whole) said);
          items = named_hold tier (24 + 24 * length pages) bytes entries pages joined are;
        };
      }

  -- and pages that lie as the extent are said by it, and named
  pub lies_said : (pages : List Page) → LiesAs tier items file extent pages → IsSaid (entries_of tier (24 + 24 * length pages) pages)
  lies_said pages lies =
      subst (λ (n : ℕ). Says (extent_form tier (slot_size tier items) n) (drop (slot_start tier items extent.slot) file) (entries_of tier (24 + 24 * length pages) pages))
      (sym lies.size) lies.lies.says

  pub lies_named : (entries : List Entry) (pages : List Page) → IsSaid entries → LiesAs tier items file extent pages
      → AreNamed tier (drop (slot_start tier items extent.slot) file) entries pages
  lies_named entries pages said lies =
      let bytes : List ℕ = drop (slot_start tier items extent.slot) file in
      let whole : entries_of tier (24 + 24 * length pages) pages ≡ entries =
      says_one (extent_form tier (slot_size tier items) extent.size) bytes (entries_of tier (24 + 24 * length pages) pages) entries (lies_said pages lies) said in
      subst (λ (l : List Entry). AreNamed tier bytes l pages) whole (held_named tier (24 + 24 * length pages) bytes pages lies.lies.items)

-- the page of an entry is one of the kind of the tier
pub named_at : {X : Type 0} (page_of : X → Page) (tier : ℕ) (bytes : List ℕ) (entries : List Entry) (pages : List X) (index : ℕ) (entry : Entry)
    → AreNamed tier bytes entries (map page_of pages) → slice_get entries index ≡ Some entry → (page : X) × IsNamed tier bytes entry (page_of page)
named_at page_of tier bytes [] pages index entry are got = cc
named_at page_of tier bytes (first ∷ entries) [] index entry are got = absurd are
named_at page_of tier bytes (first ∷ entries) (page ∷ pages) zero entry are got =
    let same : first ≡ entry = cc in (page, subst (λ (e : Entry). IsNamed tier bytes e (page_of page)) same are.0)
named_at page_of tier bytes (first ∷ entries) (page ∷ pages) (suc index) entry are got = named_at page_of tier bytes entries pages index entry are.1 got

-- ---- by what opening an extent gave

module _ (file : File) (items : ℕ) (extent : Extent) (opened : Directory) (before after : List Event) (same : after ≡ before)
    (file_is : opened.file ≡ file) (start_is : opened.start ≡ slot_start (tier_of file) items extent.slot)
    (said : Says (extent_form (tier_of file) (slot_size (tier_of file) items) extent.size)
    (drop (slot_start (tier_of file) items extent.slot) (contents (of file before))) opened.entries) where
  abbrev AreOpened : List Event → File → ℕ → List Page → Type 0
  AreOpened past f n pages = AreNamed (tier_of f) (drop n (contents (of f past))) opened.entries pages

  -- the pages that the directory names lie as the extent
  pub opened_lie : (pages : List Page) → AreOpened after opened.file opened.start pages → LiesAs (tier_of file) items (contents (of file before)) extent pages
  opened_lie pages are =
      named_lie (tier_of file) items (contents (of file before)) extent opened.entries pages said
      (subst (λ (n : ℕ). AreOpened before file n pages) start_is
      (subst (λ (f : File). AreOpened before f opened.start pages) file_is
      (subst (λ (past : List Event). AreOpened past opened.file opened.start pages) same are)))

  -- and pages that lie as the extent are named
  pub lie_opened : (pages : List Page) → LiesAs (tier_of file) items (contents (of file before)) extent pages → AreOpened after opened.file opened.start pages
  lie_opened pages lies =
      subst (λ (past : List Event). AreOpened past opened.file opened.start pages) (sym same)
      (subst (λ (f : File). AreOpened before f opened.start pages) (sym file_is)
      (subst (λ (n : ℕ). AreOpened before file n pages) (sym start_is)
      (lies_named (tier_of file) items (contents (of file before)) extent opened.entries pages said lies)))

-- one page more
pub read_more : {X : Type 0} (page_of : X → Page) (tier : ℕ) (bytes : List ℕ) (entries : List Entry) (index : ℕ) (entry : Entry) (pages new : List X) (page : X)
    → slice_get entries index ≡ Some entry → new ≡ pages ++ page ∷ [] → AreNamed tier bytes (take index entries) (map page_of pages)
    → IsNamed tier bytes entry (page_of page) → AreNamed tier bytes (take (index + 1) entries) (map page_of new)
read_more {X} page_of tier bytes entries index entry pages new page got is are named =
    let taken : take index entries ++ entry ∷ [] ≡ take (index + 1) entries =
    taken_more entries (take index entries) (take index entries ++ entry ∷ []) index entry refl got refl in
    let mapped : map page_of pages ++ page_of page ∷ [] ≡ map page_of new = sym (ap (λ (l : List X). map page_of l) is ∙ map-append page_of pages (page ∷ [])) in
    subst (λ (l : List Entry). AreNamed tier bytes l (map page_of new)) taken
    (subst (λ (l : List Page). AreNamed tier bytes (take index entries ++ entry ∷ []) l) mapped
    (named_more tier bytes (take index entries) (map page_of pages) entry (page_of page) are named))

-- ---- the extents of a tier

pub lie_more : (tier items : ℕ) (bytes : List ℕ) (extents : List Extent) (kept : List (List Page)) (extent : Extent) (pages : List Page) → Lie tier items bytes extents kept
    → LiesAs tier items bytes extent pages → Lie tier items bytes (extents ++ extent ∷ []) (kept ++ pages ∷ [])
lie_more tier items bytes [] [] extent pages lie lies = (lies, tt)
lie_more tier items bytes [] (first ∷ kept) extent pages lie lies = absurd lie
lie_more tier items bytes (first ∷ extents) [] extent pages lie lies = absurd lie
lie_more tier items bytes (first ∷ extents) (one ∷ kept) extent pages lie lies = (lie.0, lie_more tier items bytes extents kept extent pages lie.1 lies)

pub lie_at : {X : Type 0} (page_of : X → Page) (tier items : ℕ) (bytes : List ℕ) (extents : List Extent) (kept : List (List X)) (index : ℕ) (d : Extent)
    → Lie tier items bytes extents (map (map page_of) kept) → index < length extents
    → (pages : List X) × LiesAs tier items bytes (get_or extents index d) (map page_of pages)
lie_at page_of tier items bytes [] kept index d lie within = absurd (omega (arith, within))
lie_at page_of tier items bytes (extent ∷ extents) [] index d lie within = absurd lie
lie_at page_of tier items bytes (extent ∷ extents) (pages ∷ kept) zero d lie within = (pages, lie.0)
lie_at page_of tier items bytes (extent ∷ extents) (pages ∷ kept) (suc index) d lie within =
    lie_at page_of tier items bytes extents kept index d lie.1 (omega (arith, within))

-- one extent more
pub kept_more : {X : Type 0} (page_of : X → Page) (tier items : ℕ) (bytes : List ℕ) (extents : List Extent) (index : ℕ) (extent : Extent) (kept new : List (List X)) (pages : List X)
    → index < length extents → extent ≡ get_or extents index extent → new ≡ kept ++ pages ∷ [] → Lie tier items bytes (take index extents) (map (map page_of) kept)
    → LiesAs tier items bytes extent (map page_of pages) → Lie tier items bytes (take (index + 1) extents) (map (map page_of) new)
kept_more {X} page_of tier items bytes extents index extent kept new pages within at is lie lies =
    let taken : take index extents ++ extent ∷ [] ≡ take (index + 1) extents =
    ap (λ (e : Extent). take index extents ++ e ∷ []) at ∙ sym (take_more extents index extent within) in
    let mapped : map (map page_of) kept ++ map page_of pages ∷ [] ≡ map (map page_of) new =
    sym (ap (λ (l : List (List X)). map (map page_of) l) is ∙ map-append (map page_of) kept (pages ∷ [])) in
    subst (λ (l : List Extent). Lie tier items bytes l (map (map page_of) new)) taken
    (subst (λ (l : List (List Page)). Lie tier items bytes (take index extents ++ extent ∷ []) l) mapped
    (lie_more tier items bytes (take index extents) (map (map page_of) kept) extent (map page_of pages) lie lies))
