-- The extents that the next body names: they are those of a tier, and each is kept or new.
use Rattle.std.proofs.Common.{◌≡◌, ℕ, zero, suc, ◌+◌, ◌-◌, ◌≤◌, ◌==◌, inl, inr, Bool, not, true, false, nat_le, List, [], ◌∷◌, ◌++◌, length, drop, map, Option, Some, None, arith, sym, ap, refl, ◌∙◌, subst, append-nil}
use Rattle.std.specs.List.{All, AllByRecursion, list_all, zip}
use Rattle.std.specs.Option.{IfSome}
use Rattle.std.proofs.lemmas.Bool.{and_from, and_parts, le-leb, ne_eqb, not-true, not_from_false, or_from}
use Rattle.std.proofs.lemmas.List.{length-append, length-drop, length-map, map-append}
use Rattle.std.proofs.lemmas.List.Elements.{All-append, All-cons, All-drop, All-head, All-nil, All-tail, Contains-get_or}
use Rattle.std.proofs.lemmas.List.Folds.{list_all-append, list_any-append}
use Rattle.list_lemmas.proofs.Every.{all-append, all-drop}
use Rattle.beat_tiers.specs.declared.item.Item.{Item}
use Rattle.beat_tiers.specs.declared.parts.KeptItems.{KeptItems}
use Rattle.beat_tiers.specs.declared.parts.Segment.{Segment}
use Rattle.checkpoint_body.specs.declared.body.Extent.{Extent}
use Rattle.checkpoint_body.specs.Canonical.{are_few}
use Rattle.checkpoint_body.specs.Fields.{FitsExtent}
use Rattle.store_core.specs.disk.Next.{AreApart, AreFree, GoesOn, IsKeptOrNew, Written}
use Rattle.store_core.specs.disk.Slots.{are_apart, have_slots, is_used, IsUnused}
use Rattle.extent_file.specs.declared.page.Page.{Page}
use Rattle.tier_settings.specs.declared.tier.Tier.{Tier}
use Rattle.store_core.specs.bodies.Next.{count_found, pages_after, sealed_after, AreNew, AreNext, IsNew}

-- ---- lists of extents

abbrev is_low : ℕ → Extent → Bool
is_low limit extent = nat_le extent.slot limit

low-drop : (limit n : ℕ) (extents : List Extent) → list_all (is_low limit) extents ≡ true → list_all (is_low limit) (drop n extents) ≡ true
low-drop limit zero extents low = low
low-drop limit (suc n) [] low = refl
low-drop limit (suc n) (extent ∷ extents) low = low-drop limit n extents (and_parts (is_low limit extent) _ low).1

apart-drop : (n : ℕ) (extents : List Extent) → are_apart extents ≡ true → are_apart (drop n extents) ≡ true
apart-drop zero extents apart = apart
apart-drop (suc n) [] apart = refl
apart-drop (suc n) (extent ∷ extents) apart = apart-drop n extents (and_parts (not (is_used extents extent.slot)) _ apart).1

apart-push : (extents : List Extent) (extent : Extent) → are_apart extents ≡ true → IsUnused extents extent.slot → are_apart (extents ++ extent ∷ []) ≡ true
apart-push [] extent apart unused = refl
apart-push (one ∷ extents) extent apart unused =
    let parts = and_parts (not (is_used extents one.slot)) _ apart in
    let others : is_used extents one.slot ≡ false = not-true _ parts.0 in
    let free = All-head (λ (other : Extent). other.slot ≡ extent.slot → ⊥) one extents unused in
    let apart_too : (one.slot == extent.slot) ≡ false = ne_eqb one.slot extent.slot free in
    and_from _ _
    (not_from_false _ (list_any-append (λ (other : Extent). one.slot == other.slot) extents (extent ∷ []) ∙ or_from _ _ others (or_from _ _ apart_too refl)))
    (apart-push extents extent parts.1 (All-tail (λ (other : Extent). other.slot ≡ extent.slot → ⊥) one extents unused))

zip-drop : {X Y : Type 0} (n : ℕ) (xs : List X) (ys : List Y) → length xs ≡ length ys → zip (drop n xs) (drop n ys) ≡ drop n (zip xs ys)
zip-drop zero xs ys same = refl
zip-drop (suc n) [] [] same = refl
zip-drop (suc n) [] (y ∷ ys) same = absurd (omega (arith, same))
zip-drop (suc n) (x ∷ xs) [] same = absurd (omega (arith, same))
zip-drop (suc n) (x ∷ xs) (y ∷ ys) same = zip-drop n xs ys (omega (arith, same))

zip-append : {X Y : Type 0} (xs more : List X) (ys others : List Y) → length xs ≡ length ys → zip (xs ++ more) (ys ++ others) ≡ zip xs ys ++ zip more others
zip-append [] more [] others same = refl
zip-append [] more (y ∷ ys) others same = absurd (omega (arith, same))
zip-append (x ∷ xs) more [] others same = absurd (omega (arith, same))
zip-append {X} {Y} (x ∷ xs) more (y ∷ ys) others same = ap (λ (pairs : List (X × Y)). (x, y) ∷ pairs) (zip-append xs more ys others (omega (arith, same)))

drop-map : {X Y : Type 0} (f : X → Y) (n : ℕ) (xs : List X) → map f (drop n xs) ≡ drop n (map f xs)
drop-map f zero xs = refl
drop-map f (suc n) [] = refl
drop-map f (suc n) (x ∷ xs) = drop-map f n xs

map-map : {X Y Z : Type 0} (f : X → Y) (g : X → Z) (h : Z → Y) → ((x : X) → h (g x) ≡ f x) → (xs : List X) → map h (map g xs) ≡ map f xs
map-map f g h same [] = refl
map-map {X} {Y} f g h same (x ∷ xs) = ap (λ (y : Y). y ∷ map h (map g xs)) (same x) ∙ ap (λ (ys : List Y). f x ∷ ys) (map-map f g h same xs)

-- one of the segments there was sealed since, if any was
found-within : {T : Type 0} (moment : ℕ) (segments : List (Segment T)) → count_found (sealed_after moment segments) ≤ length segments
found-within moment [] = omega arith
found-within {T} moment (segment ∷ segments) = by (sealed_after moment (segment ∷ segments))
  where
    by : (found : Option (Segment T)) → count_found found ≤ length (segment ∷ segments)
    by None = omega arith
    by (Some one) = omega arith

-- ---- the next extents

module _ {T Paged W : Type 0} (tier : ℕ) (written : W → Written) (pages_of : W → List Paged) (ArePagesOf : List (Item T) → List Paged → Type 0) (beats_of : List (Item T) → ℕ) where
  -- none is new, or one is
  pub by-added : (old : List Extent) (number before : ℕ) (found : Option (Segment T)) (added : List Extent) (new : List W) → AreNew tier written pages_of ArePagesOf beats_of old number before found added new
      → (Q : Option (Segment T) → List Extent → List W → Type 0) → Q None [] []
      → ((segment : Segment T) (extent : Extent) (one : W) → IsNew tier written pages_of ArePagesOf beats_of old number before segment extent one → Q (Some segment) (extent ∷ []) (one ∷ []))
      → Q found added new
  by-added old number before None [] [] are Q none some = none
  by-added old number before None [] (one ∷ new) are Q none some = absurd are
  by-added old number before None (extent ∷ added) [] are Q none some = absurd are
  by-added old number before None (extent ∷ added) (one ∷ new) are Q none some = absurd are
  by-added old number before (Some segment) [] [] are Q none some = absurd are
  by-added old number before (Some segment) [] (one ∷ new) are Q none some = absurd are
  by-added old number before (Some segment) (extent ∷ []) [] are Q none some = absurd are
  by-added old number before (Some segment) (extent ∷ []) (one ∷ []) are Q none some = some segment extent one are
  by-added old number before (Some segment) (extent ∷ []) (one ∷ other ∷ new) are Q none some = absurd are
  by-added old number before (Some segment) (extent ∷ other ∷ added) [] are Q none some = absurd are
  by-added old number before (Some segment) (extent ∷ other ∷ added) (one ∷ new) are Q none some = absurd are

  module _ (up_to : ℕ → List Extent → ℕ) (moment : ℕ) (old : List Extent) (now : KeptItems T) (next : List Extent) (new : List W) where
    -- where none was sealed since
    pub next-none : sealed_after moment now.sealed ≡ None → next ≡ drop (length old - length now.sealed) old → new ≡ []
        → AreNext tier written pages_of ArePagesOf beats_of up_to moment old now next new
    next-none none next_is new_is =
        let no = ap count_found none in
        let same : length now.sealed ≡ length now.sealed - count_found (sealed_after moment now.sealed) = omega (arith, no) in
        record {
          stay = next;
          added = [];
          next_is = sym (append-nil next);
          stay_is = next_is ∙ ap (λ (n : ℕ). drop (length old - n) old) same;
          added_is =
              subst (λ (found : Option (Segment T)). AreNew tier written pages_of ArePagesOf beats_of old (now.count - 1) (up_to now.before next) found [] new) (sym none)
              (subst (λ (ones : List W). AreNew tier written pages_of ArePagesOf beats_of old (now.count - 1) (up_to now.before next) None [] ones) (sym new_is) tt);
        }

    -- where one was
    pub next-one : (stay : List Extent) (segment : Segment T) (extent : Extent) (one : W) → sealed_after moment now.sealed ≡ Some segment → stay ≡ drop (length old - (length now.sealed - 1)) old
        → next ≡ stay ++ extent ∷ [] → new ≡ one ∷ [] → IsNew tier written pages_of ArePagesOf beats_of old (now.count - 1) (up_to now.before stay) segment extent one
        → AreNext tier written pages_of ArePagesOf beats_of up_to moment old now next new
    next-one stay segment extent one some stay_is next_is new_is is =
        let found = ap count_found some in
        let same : length now.sealed - 1 ≡ length now.sealed - count_found (sealed_after moment now.sealed) = omega (arith, found) in
        record {
          stay = stay;
          added = extent ∷ [];
          next_is = next_is;
          stay_is = stay_is ∙ ap (λ (n : ℕ). drop (length old - n) old) same;
          added_is =
              subst (λ (found : Option (Segment T)). AreNew tier written pages_of ArePagesOf beats_of old (now.count - 1) (up_to now.before stay) found (extent ∷ []) new) (sym some)
              (subst (λ (ones : List W). AreNew tier written pages_of ArePagesOf beats_of old (now.count - 1) (up_to now.before stay) (Some segment) (extent ∷ []) ones) (sym new_is) is);
        }

  module _ (up_to : ℕ → List Extent → ℕ) (moment : ℕ) (old : List Extent) (now : KeptItems T) (next : List Extent) (new : List W)
      (are : AreNext tier written pages_of ArePagesOf beats_of up_to moment old now next new) where
    -- how many of the old extents go
    abbrev pub gone : ℕ
    gone = length old - (length now.sealed - count_found (sealed_after moment now.sealed))

    by-these : (Q : Option (Segment T) → List Extent → List W → Type 0) → Q None [] []
        → ((segment : Segment T) (extent : Extent) (one : W)
        → IsNew tier written pages_of ArePagesOf beats_of old (now.count - 1) (up_to now.before are.stay) segment extent one → Q (Some segment) (extent ∷ []) (one ∷ []))
        → Q (sealed_after moment now.sealed) are.added new
    by-these Q none some = by-added old (now.count - 1) (up_to now.before are.stay) (sealed_after moment now.sealed) are.added new are.added_is Q none some

    pub next-is : next ≡ drop gone old ++ are.added
    next-is = are.next_is ∙ ap (λ (stay : List Extent). stay ++ are.added) are.stay_is

    added-count : length are.added ≡ count_found (sealed_after moment now.sealed)
    added-count = by-these (λ found added fresh. length added ≡ count_found found) refl (λ segment extent one is. refl)

    new-count : length new ≡ count_found (sealed_after moment now.sealed)
    new-count = by-these (λ found added fresh. length fresh ≡ count_found found) refl (λ segment extent one is. refl)

    next-count : length next ≡ (length old - gone) + count_found (sealed_after moment now.sealed)
    next-count = ap length next-is ∙ length-append (drop gone old) are.added ∙ ap (λ (n : ℕ). n + length are.added) (length-drop gone old) ∙ ap (λ (n : ℕ). (length old - gone) + n) added-count

    pub next-few : length next ≤ length now.sealed
    next-few = let within = found-within moment now.sealed in omega (arith, next-count, within)

    -- so many of the old extents are gone, as is read of the counts
    pub gone-is : length old + length new - length next ≡ gone
    gone-is = omega (arith, next-count, new-count)

    next-low : (limit : ℕ) → length old ≤ limit → list_all (is_low limit) old ≡ true → list_all (is_low limit) next ≡ true
    next-low limit few low =
        ap (list_all (is_low limit)) next-is ∙ list_all-append (is_low limit) (drop gone old) are.added
        ∙ and_from _ _ (low-drop limit gone old low)
        (by-these (λ found added fresh. list_all (is_low limit) added ≡ true) refl (λ segment extent one is. let least = is.low in and_from _ _ (le-leb extent.slot limit (omega (arith, least, few))) refl))

    next-apart : are_apart old ≡ true → are_apart next ≡ true
    next-apart apart =
        ap are_apart next-is
        ∙ by-these (λ found added fresh. are_apart (drop gone old ++ added) ≡ true) (ap are_apart (append-nil (drop gone old)) ∙ apart-drop gone old apart)
        (λ segment extent one is. apart-push (drop gone old) extent (apart-drop gone old apart) (All-drop (λ (other : Extent). other.slot ≡ extent.slot → ⊥) gone old is.unused))

    -- they are as many as their tier keeps
    pub next-counted : (settings : Tier) → length now.sealed ≤ settings.extents → are_few settings next ≡ true
    next-counted settings most = le-leb (length next) settings.extents (omega (arith, next-few, most))

    -- each has a slot of its own
    pub next-placed : (limit : ℕ) → length old ≤ limit → have_slots limit old ≡ true → have_slots limit next ≡ true
    next-placed limit few placed =
        let parts = and_parts (list_all (is_low limit) old) (are_apart old) placed in and_from _ _ (next-low limit few parts.0) (next-apart parts.1)

    pub next-fit : AllByRecursion FitsExtent old → AllByRecursion FitsExtent next
    next-fit fit =
        subst (AllByRecursion FitsExtent) (sym next-is)
        (all-append FitsExtent (drop gone old) are.added (all-drop FitsExtent gone old fit)
        (by-these (λ found added fresh. AllByRecursion FitsExtent added) tt (λ segment extent one is. (is.fits, tt))))

    -- ---- what is written

    -- the new segment may be written where its pages may
    pub all-written : (IsOne : Written → Type 0) → IfSome (sealed_after moment now.sealed) (λ segment. (one : W) → ArePagesOf segment.items (pages_of one) → (written one).slot ≤ length old → IsOne (written one)) → All IsOne (map written new)
    all-written IsOne each =
        by-these (λ found added fresh. IfSome found (λ segment. (one : W) → ArePagesOf segment.items (pages_of one) → (written one).slot ≤ length old → IsOne (written one)) → All IsOne (map written fresh))
        (λ _. All-nil IsOne)
        (λ segment extent one is may. let least = is.low in let slot = is.slot in All-cons IsOne (written one) [] (may one is.pages (omega (arith, least, slot))) (All-nil IsOne))
        each

    pub all-slots : (limit : ℕ) → length old ≤ limit → All (λ (one : Written). one.slot ≤ limit) (map written new)
    all-slots limit few =
        by-these (λ found added fresh. All (λ (one : Written). one.slot ≤ limit) (map written fresh)) (All-nil (λ (one : Written). one.slot ≤ limit))
        (λ segment extent one is. let least = is.low in let slot = is.slot in All-cons (λ (one : Written). one.slot ≤ limit) (written one) [] (omega (arith, least, slot, few)) (All-nil (λ (one : Written). one.slot ≤ limit)))

    pub all-apart : AreApart (map written new)
    all-apart = by-these (λ found added fresh. AreApart (map written fresh)) tt (λ segment extent one is. (All-nil (λ (other : Written). other.slot ≡ (written one).slot → ⊥), tt))

    -- ---- each is kept or new

    all-free : AreFree old (map written new)
    all-free =
        by-these (λ found added fresh. AreFree old (map written fresh)) (All-nil (λ (one : Written). IsUnused old one.slot))
        (λ segment extent one is. All-cons (λ (one : Written). IsUnused old one.slot) (written one) [] (subst (IsUnused old) (sym is.slot) is.unused) (All-nil (λ (one : Written). IsUnused old one.slot)))

    module _ (old_pages : List (List Page)) (count : length old_pages ≡ length old) where
      abbrev new_pages : List W → List (List Page)
      new_pages ones = map (λ (one : W). (written one).pages) ones

      added-named : All (IsKeptOrNew tier (zip old old_pages) (map written new)) (zip are.added (new_pages new))
      added-named =
          by-these (λ found added fresh. All (IsKeptOrNew tier (zip old old_pages) (map written fresh)) (zip added (new_pages fresh)))
          (All-nil (IsKeptOrNew tier (zip old old_pages) []))
          (λ segment extent one is.
          let same : written one ≡ record { slot = extent.slot; pages = (written one).pages } = ap (λ (slot : ℕ). record { slot = slot; pages = (written one).pages }) is.slot in
          All-cons (IsKeptOrNew tier (zip old old_pages) (written one ∷ [])) (extent, (written one).pages) [] (inr ((0, omega arith, same), is.size))
          (All-nil (IsKeptOrNew tier (zip old old_pages) (written one ∷ []))))

      pub next-goes_on : GoesOn tier old old_pages (map written new) next (drop gone old_pages ++ new_pages new)
      next-goes_on = record {
        free = all-free;
        same_count =
            let length_all = length-append (drop gone old_pages) (new_pages new) in
            let length_new = length-map new (λ (one : W). (written one).pages) in
            let length_old = length-drop gone old_pages in
            omega (arith, next-count, new-count, length_all, length_new, length_old, count);
        named =
            let lengths : length (drop gone old) ≡ length (drop gone old_pages) = length-drop gone old ∙ ap (λ (n : ℕ). n - gone) (sym count) ∙ sym (length-drop gone old_pages) in
            let pairs : zip next (drop gone old_pages ++ new_pages new) ≡ drop gone (zip old old_pages) ++ zip are.added (new_pages new) =
            ap (λ (extents : List Extent). zip extents (drop gone old_pages ++ new_pages new)) next-is
            ∙ zip-append (drop gone old) are.added (drop gone old_pages) (new_pages new) lengths
            ∙ ap (λ (prefix : List (Extent × List Page)). prefix ++ zip are.added (new_pages new)) (zip-drop gone old old_pages (sym count)) in
            subst (All (IsKeptOrNew tier (zip old old_pages) (map written new))) (sym pairs)
            (All-append (IsKeptOrNew tier (zip old old_pages) (map written new)) (drop gone (zip old old_pages)) (zip are.added (new_pages new))
            (All-drop (IsKeptOrNew tier (zip old old_pages) (map written new)) gone (zip old old_pages) (λ k d lt. inl (Contains-get_or (zip old old_pages) k d lt)))
            added-named);
      }

    -- the same of the pages as a body has them
    pub next-kept : (to_page : List Paged → List Page) → ((one : W) → to_page (pages_of one) ≡ (written one).pages) → (kept : List (List Paged)) → length kept ≡ length old
        → GoesOn tier old (map to_page kept) (map written new) next (map to_page (pages_after old next kept (map pages_of new)))
    next-kept to_page same kept count =
        let pages_count = length-map new pages_of in
        let there : map to_page (pages_after old next kept (map pages_of new)) ≡ drop gone (map to_page kept) ++ map (λ (one : W). (written one).pages) new =
        map-append to_page (drop (length old + length (map pages_of new) - length next) kept) (map pages_of new)
        ∙ ap (λ (n : ℕ). map to_page (drop n kept) ++ map to_page (map pages_of new)) (ap (λ (n : ℕ). length old + n - length next) pages_count ∙ gone-is)
        ∙ ap (λ (prefix : List (List Page)). prefix ++ map to_page (map pages_of new)) (drop-map to_page gone kept)
        ∙ ap (λ (back : List (List Page)). drop gone (map to_page kept) ++ back) (map-map (λ (one : W). (written one).pages) pages_of to_page same new) in
        subst (GoesOn tier old (map to_page kept) (map written new) next) (sym there)
        (next-goes_on (map to_page kept) (length-map kept to_page ∙ count))
