-- Extents that lie in their slots, as segments that stand there.
use Rattle.std.proofs.Common.{◌≡◌, ◌≢◌, ℕ, ◌≤◌, List, [], ◌∷◌, length, take, drop, sym, ap, subst, inl, inr, ⊎_elim, arith}
use Rattle.std.specs.List.{All, Contains, zip}
use Rattle.std.proofs.lemmas.List.{length-take}
use Rattle.std.proofs.lemmas.List.Elements.{All-cons, All-contains, All-nil}
use Rattle.extent_file.specs.declared.page.Page.{Page}
use Rattle.extent_file.specs.Pages.{extent_size}
use Rattle.extent_file.specs.Slot.{slot_size, slot_start}
use Rattle.extent_file.specs.Writing.{LiesAt}
use Rattle.checkpoint_body.specs.declared.body.Extent.{Extent}
use Rattle.store_core.specs.disk.Holds.{Lie, LiesAs}
use Rattle.store_core.specs.disk.Next.{AreFree, GoesOn, IsKeptOrNew, Written}
use Rattle.store_core.specs.disk.Standing.{AllStand, AreBeside, StandsIn}
use Rattle.store_core.proofs.DiskProofs.ExtentLemmas.{extent_again, extent_fits}
use Rattle.store_core.proofs.DiskProofs.ListLemmas.{all_head, all_tail, first_or_other}

-- an extent with its pages, as a segment in its slot
pub segments_of : List Extent → List (List Page) → List Written
segments_of [] pages = []
segments_of (extent ∷ extents) [] = []
segments_of (extent ∷ extents) (pages ∷ more) = record { slot = extent.slot; pages = pages } ∷ segments_of extents more

module _ (tier items : ℕ) where
  pub lie_stand : (bytes : List ℕ) (extents : List Extent) (pages : List (List Page)) → Lie tier items bytes extents pages
      → AllStand tier items (segments_of extents pages) bytes
  unfolding segments_of
  lie_stand bytes [] [] lie = All-nil (StandsIn tier items bytes)
  lie_stand bytes [] (pages ∷ more) lie = absurd lie
  lie_stand bytes (extent ∷ extents) [] lie = absurd lie
  lie_stand bytes (extent ∷ extents) (pages ∷ more) lie =
      All-cons (StandsIn tier items bytes) (record { slot = extent.slot; pages = pages }) (segments_of extents more) lie.0.lies (lie_stand bytes extents more lie.1)

  -- the extents lie where the segments stand
  pub lie_again : (old bytes : List ℕ) (extents : List Extent) (pages : List (List Page)) → Lie tier items old extents pages
      → AllStand tier items (segments_of extents pages) bytes → Lie tier items bytes extents pages
  unfolding segments_of
  lie_again old bytes [] [] lie stand = tt
  lie_again old bytes [] (pages ∷ more) lie stand = lie
  lie_again old bytes (extent ∷ extents) [] lie stand = lie
  lie_again old bytes (extent ∷ extents) (pages ∷ more) lie stand =
      let one : Written = record { slot = extent.slot; pages = pages } in (
        record { size = lie.0.size; lies = all_head (StandsIn tier items bytes) (record { slot = extent.slot; pages = pages }) (segments_of extents more) stand },
        lie_again old bytes extents more lie.1 (all_tail (StandsIn tier items bytes) (record { slot = extent.slot; pages = pages }) (segments_of extents more) stand),
      )

  -- each of the extents lies there
  lies_one : (bytes : List ℕ) (extents : List Extent) (pages : List (List Page)) (one : Extent × List Page) → Lie tier items bytes extents pages
      → Contains (zip extents pages) one → LiesAs tier items bytes one.0 one.1
  lies_one bytes [] [] one lie (k, within, is) = absurd (omega (arith, within))
  lies_one bytes [] (pages ∷ more) one lie among = absurd lie
  lies_one bytes (extent ∷ extents) [] one lie among = absurd lie
  lies_one bytes (extent ∷ extents) (pages ∷ more) one lie among =
      ⊎_elim
      (λ is. subst (λ (e : Extent × List Page). LiesAs tier items bytes e.0 e.1) (sym is) lie.0)
      (λ other. lies_one bytes extents more one lie.1 other)
      (first_or_other (extent, pages) (zip extents more) one among)

  lie_each : (bytes : List ℕ) (extents : List Extent) (pages : List (List Page)) → length extents ≡ length pages
      → All (λ (one : Extent × List Page). LiesAs tier items bytes one.0 one.1) (zip extents pages) → Lie tier items bytes extents pages
  lie_each bytes [] [] same all = tt
  lie_each bytes [] (pages ∷ more) same all = absurd (omega (arith, same))
  lie_each bytes (extent ∷ extents) [] same all = absurd (omega (arith, same))
  lie_each bytes (extent ∷ extents) (pages ∷ more) same all = (
    all_head (λ (one : Extent × List Page). LiesAs tier items bytes one.0 one.1) (extent, pages) (zip extents more) all,
    lie_each bytes extents more (omega (arith, same)) (all_tail (λ (one : Extent × List Page). LiesAs tier items bytes one.0 one.1) (extent, pages) (zip extents more) all),
  )

  kept_or_new : (bytes : List ℕ) (old : List Extent) (old_pages : List (List Page)) (new : List Written) (one : Extent × List Page)
      → Lie tier items bytes old old_pages → AllStand tier items new bytes → IsKeptOrNew tier (zip old old_pages) new one → LiesAs tier items bytes one.0 one.1
  kept_or_new bytes old old_pages new one lie stand (inl kept) = lies_one bytes old old_pages one lie kept
  kept_or_new bytes old old_pages new one lie stand (inr (among, size)) =
      record { size = size; lies = All-contains (StandsIn tier items bytes) new (record { slot = one.0.slot; pages = one.1 }) stand among }

  -- the extents that the next checkpoint names lie there, once the new ones were written
  pub lie_next : (bytes : List ℕ) (old : List Extent) (old_pages : List (List Page)) (new : List Written) (next : List Extent) (next_pages : List (List Page))
      → GoesOn tier old old_pages new next next_pages → Lie tier items bytes old old_pages → AllStand tier items new bytes → Lie tier items bytes next next_pages
  lie_next bytes old old_pages new next next_pages goes lie stand =
      lie_each bytes next next_pages goes.same_count (λ k d within. kept_or_new bytes old old_pages new _ lie stand (goes.named k d within))

  -- where nothing but the bytes of a segment's slot is known
  pub stand_again : (one : Written) (old bytes : List ℕ) → StandsIn tier items old one
      → LiesAt (slot_start tier items one.slot) (take (extent_size tier one.pages) (drop (slot_start tier items one.slot) old)) bytes
      → StandsIn tier items bytes one
  stand_again one old bytes stands lies =
      let start = slot_start tier items one.slot in let size = extent_size tier one.pages in
      let fits = extent_fits tier (slot_size tier items) one.pages (drop start old) stands in
      let within = fits.1 in let cut = length-take size (drop start old) in
      let long : length (take size (drop start old)) ≡ size = omega (arith, within, cut) in
      extent_again tier (slot_size tier items) one.pages (drop start old) (drop start bytes)
      (sym (subst (λ (n : ℕ). take n (drop start bytes) ≡ take size (drop start old)) long lies)) stands

  pub stand_lies : (one : Written) (old : List ℕ) → StandsIn tier items old one
      → LiesAt (slot_start tier items one.slot) (take (extent_size tier one.pages) (drop (slot_start tier items one.slot) old)) old
  stand_lies one old stands =
      let start = slot_start tier items one.slot in let size = extent_size tier one.pages in
      let fits = extent_fits tier (slot_size tier items) one.pages (drop start old) stands in
      let within = fits.1 in let cut = length-take size (drop start old) in
      let long : length (take size (drop start old)) ≡ size = omega (arith, within, cut) in
      ap (λ (n : ℕ). take n (drop start old)) long

  pub slot_long : (one : Written) (old : List ℕ) → StandsIn tier items old one
      → length (take (extent_size tier one.pages) (drop (slot_start tier items one.slot) old)) ≤ slot_size tier items
  slot_long one old stands =
      let start = slot_start tier items one.slot in let size = extent_size tier one.pages in
      let fits = extent_fits tier (slot_size tier items) one.pages (drop start old) stands in
      let most = fits.0 in let cut = length-take size (drop start old) in omega (arith, most, cut)

-- the segments of the kept extents are beside those of new ones, whose slots are free
other_slots : (extents : List Extent) (pages : List (List Page)) (slot : ℕ) → All (λ (extent : Extent). extent.slot ≢ slot) extents
    → All (λ (segment : Written). segment.slot ≢ slot) (segments_of extents pages)
unfolding segments_of
other_slots [] pages slot free = All-nil (λ (segment : Written). segment.slot ≢ slot)
other_slots (extent ∷ extents) [] slot free = All-nil (λ (segment : Written). segment.slot ≢ slot)
other_slots (extent ∷ extents) (pages ∷ more) slot free =
    All-cons (λ (segment : Written). segment.slot ≢ slot) (record { slot = extent.slot; pages = pages }) (segments_of extents more)
    (all_head (λ (e : Extent). e.slot ≢ slot) extent extents free) (other_slots extents more slot (all_tail (λ (e : Extent). e.slot ≢ slot) extent extents free))

pub free_beside : (extents : List Extent) (pages : List (List Page)) (new : List Written) → AreFree extents new → AreBeside (segments_of extents pages) new
free_beside extents pages new free k d within = other_slots extents pages _ (free k d within)
