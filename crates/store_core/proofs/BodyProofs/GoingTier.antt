-- A tier that goes on from that of a body: its next extents can be named, and they are those of its segments.
use Rattle.std.proofs.Common.{◌≡◌, ℕ, ◌+◌, ◌-◌, ◌^◌, ◌<◌, ◌≤◌, ◌⊎◌, inl, inr, ◌&&◌, true, nat_le, nat_lt, List, [], ◌∷◌, ◌++◌, length, drop, take, map, Option, Some, None, arith, sym, ap, refl, ◌∙◌, subst, append-nil}
use Rattle.std.specs.List.{AllByRecursion}
use Rattle.std.specs.Option.{IfSome}
use Rattle.std.proofs.lemmas.Bool.{and_parts, leb-true}
use Rattle.std.proofs.lemmas.List.{drop_all, length-append, length-drop, length-map}
use Rattle.std.proofs.lemmas.Option.{same_Some}
use Rattle.list_lemmas.proofs.Every.{all-drop}
use Rattle.beat_tiers.specs.declared.item.Item.{Item}
use Rattle.beat_tiers.specs.declared.parts.KeptItems.{KeptItems}
use Rattle.beat_tiers.specs.declared.parts.Segment.{Segment}
use Rattle.beat_tiers.specs.Parts.{are_sealed, is_sealed}
use Rattle.beat_tiers.specs.Searching.{items_in}
use Rattle.beat_tiers.specs.Segments.{beats_of, items_of}
use Rattle.beat_tiers.specs.Sound.{GoesOn, IsSealedAfter}
use Rattle.beat_tiers.specs.Tiers.{AreOrdered}
use Rattle.beat_tiers.proofs.Halves.{all_left}
use Rattle.beat_tiers.proofs.SoundTier.{all-right}
use Rattle.checkpoint_body.specs.declared.body.Extent.{Extent}
use Rattle.store_core.specs.disk.Next.{Written}
use Rattle.tier_settings.specs.declared.limits.TheConstants.{MOST_EXTENTS}
use Rattle.tier_settings.specs.declared.tier.Tier.{Tier}
use Rattle.store_core.specs.bodies.Next.{beats_before, count_found, pages_after, sealed_after, AreCounted, AreNext, CanBeNamed, CanBePages, HasOneNew, IsNew}
use Rattle.store_core.specs.bodies.Reading.{AreSegmentsIn, IsInOrder}
use Rattle.store_core.specs.bodies.Segments.{counted, first_number}
use Rattle.store_core.proofs.BodyProofs.ExtentLemmas.{by-added, gone, gone-is, next-is}
use Rattle.store_core.proofs.BodyProofs.GoingLemmas.{beats_after, by-new, drop-are, extents-count, gone-are, has-last, none-after, number_after, one-after, one-are, OneMore}
use Rattle.store_core.proofs.BodyProofs.TierLemmas.{sealed-order, unsealed-order}

module _ {T : Type 0} where
  pub sealed-below : (least last : ℕ) (segments : List (Segment T)) → are_sealed least last segments ≡ true → AllByRecursion (λ (segment : Segment T). segment.sealed_at ≤ last) segments
  sealed-below least last [] are = tt
  sealed-below least last (segment ∷ segments) are =
      let parts = and_parts (is_sealed least last segment) _ are in
      let here = and_parts (nat_lt 0 (length segment.items) && nat_le least segment.sealed_at) _ parts.0 in
      (leb-true segment.sealed_at last here.1, sealed-below (segment.sealed_at + 1) last segments parts.1)

  each-sealed : (P : Item T → Type 0) (segments : List (Segment T)) → AllByRecursion P (items_in segments) → AllByRecursion (λ (segment : Segment T). AllByRecursion P segment.items) segments
  each-sealed P [] each = tt
  each-sealed P (segment ∷ segments) each = (all_left P segment.items (items_in segments) each, each-sealed P segments (all-right P segment.items (items_in segments) each))

  -- the last of the segments, which was sealed since
  pub record IsFound (IsOne : Segment T → Type 0) (segments : List (Segment T)) (segment : Segment T) : Type 0 where
    pub prefix : List (Segment T)
    pub is : segments ≡ prefix ++ segment ∷ []
    pub one : IsOne segment

  -- how a tier went on: nothing is left, or one new segment alone, or it goes on with one at most
  abbrev pub Outcome : (Segment T → Type 0) → (List (Segment T) → ℕ) → KeptItems T → KeptItems T → Type 0
  Outcome IsOne beats_up_to was now =
      (now.sealed ≡ [])
      ⊎ (((segment : Segment T) × IsOne segment × (now.sealed ≡ segment ∷ []) × (1 ≤ now.count))
      ⊎ ((gone : ℕ) × (fresh : List (Segment T)) × OneMore IsOne beats_up_to was now gone fresh))

-- A tier of a body has gone on, and is in form.
pub record IsGoing {T : Type 0} (IsItem : Item T → Type 0) (count_in : List (Item T) → ℕ) (tier : Tier) (moment : ℕ) (extents : List Extent) (was now : KeptItems T) : Type 0 where
  pub items : tier.items ≤ 262144
  pub kept : tier.extents ≤ MOST_EXTENTS
  pub named : length extents ≤ tier.extents
  pub most : length now.sealed ≤ tier.extents
  pub few : length now.unsealed < tier.items
  pub ordered : AreOrdered (items_of now)
  pub each : AllByRecursion IsItem (items_of now)
  pub counted : AreCounted was
  pub below : AllByRecursion (λ (segment : Segment T). segment.sealed_at ≤ moment) was.sealed
  pub outcome : Outcome (IsSealedAfter tier moment) (beats_after count_in was.before) was now

module _ {T : Type 0} (IsItem : Item T → Type 0) (count_in : List (Item T) → ℕ) where
  pub outcome-of : (kind : _) (tier : Tier) (moment : ℕ) (was now : KeptItems T) (goes : GoesOn kind (IsSealedAfter tier moment) was now) → ((items : List (Item T)) → beats_of kind items ≡ count_in items)
      → was.count < 2 ^ 64 → HasOneNew moment now.sealed → Outcome (IsSealedAfter tier moment) (beats_after count_in was.before) was now
  outcome-of kind tier moment was now goes same low one =
      by-new count_in kind moment (IsSealedAfter tier moment) was now goes same (λ segment is. is.0) low one (Outcome (IsSealedAfter tier moment) (beats_after count_in was.before) was now)
      (λ none. inl none) (λ segment is alone some. inr (inl (segment, is, alone, some))) (λ gone fresh more. inr (inr (gone, fresh, more)))

  module _ (tier : Tier) (moment : ℕ) (extents : List Extent) (was now : KeptItems T) (going : IsGoing IsItem count_in tier moment extents was now) where
    abbrev IsOne : Segment T → Type 0
    IsOne = IsSealedAfter tier moment

    -- the segment that was sealed since is the last
    pub found-new : IfSome (sealed_after moment now.sealed) (IsFound IsOne now.sealed)
    found-new = by going.outcome
      where
        at-one : (prefix : List (Segment T)) (segment : Segment T) → IsOne segment → now.sealed ≡ prefix ++ segment ∷ [] → IfSome (sealed_after moment now.sealed) (IsFound IsOne now.sealed)
        at-one prefix segment is sealed =
            subst (λ (found : Option (Segment T)). IfSome found (IsFound IsOne now.sealed)) (sym (ap (sealed_after moment) sealed ∙ one-after moment prefix segment is.0))
            (record { prefix = prefix; is = sealed; one = is })

        at-none : sealed_after moment now.sealed ≡ None → IfSome (sealed_after moment now.sealed) (IsFound IsOne now.sealed)
        at-none none = subst (λ (found : Option (Segment T)). IfSome found (IsFound IsOne now.sealed)) (sym none) tt

        fresh-by : (gone : ℕ) (fresh : List (Segment T)) → OneMore IsOne (beats_after count_in was.before) was now gone fresh → IfSome (sealed_after moment now.sealed) (IsFound IsOne now.sealed)
        fresh-by gone [] more =
            at-none (ap (sealed_after moment) (more.sealed ∙ append-nil (drop gone was.sealed))
            ∙ none-after moment (drop gone was.sealed) (all-drop (λ (segment : Segment T). segment.sealed_at ≤ moment) gone was.sealed going.below))
        fresh-by gone (segment ∷ []) more = at-one (drop gone was.sealed) segment more.each.0 more.sealed
        fresh-by gone (segment ∷ next ∷ others) more = absurd (let few = more.few in omega (arith, few))

        by : Outcome IsOne (beats_after count_in was.before) was now → IfSome (sealed_after moment now.sealed) (IsFound IsOne now.sealed)
        by (inl none) = at-none (ap (sealed_after moment) none)
        by (inr (inl alone)) = at-one [] alone.0 alone.1 alone.2
        by (inr (inr more)) = fresh-by more.0 more.1 more.2

    in-found : (Q : Segment T → Type 0) → ((segment : Segment T) → IsFound IsOne now.sealed segment → Q segment) → IfSome (sealed_after moment now.sealed) Q
    in-found Q from = by (sealed_after moment now.sealed) found-new
      where
        by : (found : Option (Segment T)) → IfSome found (IsFound IsOne now.sealed) → IfSome found Q
        by None is = tt
        by (Some segment) is = from segment is

    pub found-short : IfSome (sealed_after moment now.sealed) (λ segment. length segment.items < tier.items + 65536)
    found-short = in-found (λ segment. length segment.items < tier.items + 65536) (λ segment found. found.one.1)

    pub found-each : IfSome (sealed_after moment now.sealed) (λ segment. AllByRecursion IsItem segment.items)
    found-each =
        in-found (λ segment. AllByRecursion IsItem segment.items)
        (λ segment found.
        (all-right (λ (one : Segment T). AllByRecursion IsItem one.items) found.prefix (segment ∷ [])
        (subst (AllByRecursion (λ (one : Segment T). AllByRecursion IsItem one.items)) found.is (each-sealed IsItem now.sealed (all_left IsItem (items_in now.sealed) now.unsealed going.each)))).0)

    found-ordered : IfSome (sealed_after moment now.sealed) (λ segment. AreOrdered segment.items)
    found-ordered =
        in-found (λ segment. AreOrdered segment.items)
        (λ segment found. (all-right IsInOrder found.prefix (segment ∷ []) (subst (AllByRecursion IsInOrder) found.is (sealed-order now going.ordered))).0)

    pub can-name : CanBeNamed IsItem moment extents now
    can-name = record {
      slots = let most = going.kept in let few = going.named in omega (arith, most, few);
      most = let most = going.kept in let few = going.most in omega (arith, most, few);
      new = by (sealed_after moment now.sealed) found-ordered found-each found-short;
      unsealed = record {
        ordered = unsealed-order now going.ordered;
        each = all-right IsItem (items_in now.sealed) now.unsealed going.each;
        few = let few = going.few in let most = going.items in omega (arith, few, most);
      };
    }
      where
        by : (found : Option (Segment T)) → IfSome found (λ segment. AreOrdered segment.items) → IfSome found (λ segment. AllByRecursion IsItem segment.items)
            → IfSome found (λ segment. length segment.items < tier.items + 65536) → IfSome found (λ segment. CanBePages IsItem segment.items)
        by None ordered each short = tt
        by (Some segment) ordered each short = record { ordered = ordered; each = each; few = let most = going.items in omega (arith, short, most) }

    -- each of the segments that are kept now was counted
    pub still-counted : AreCounted now
    still-counted = by going.outcome
      where
        by : Outcome IsOne (beats_after count_in was.before) was now → AreCounted now
        by (inl none) = let all = ap length none in omega (arith, all)
        by (inr (inl alone)) = let all = ap length alone.2 in let some = alone.3 in omega (arith, all, some)
        by (inr (inr went_on)) =
            let more = went_on.2 in
            let all = ap length more.sealed ∙ length-append (drop went_on.0 was.sealed) went_on.1 ∙ ap (λ (n : ℕ). n + length went_on.1) (length-drop went_on.0 was.sealed) in
            let count = more.count in let within = more.within in let were = going.counted in let most = going.most in let kept = going.kept in
            omega (arith, all, count, within, were, most, kept)

    module _ {Paged W : Type 0} (AreItemsOf : List Paged → List (Item T) → Type 0) (number : ℕ) (written : W → Written) (pages_of : W → List Paged) (ArePagesOf : List (Item T) → List Paged → Type 0) (up_to : ℕ → List Extent → ℕ)
        (next : List Extent) (new : List W) (are_next : AreNext number written pages_of ArePagesOf count_in up_to moment extents now next new)
        (kept : List (List Paged)) (are : AreSegmentsIn AreItemsOf count_in (first_number was.count (length was.sealed)) was.before extents kept was.sealed)
        (has_items : IfSome (sealed_after moment now.sealed) (λ segment. (pages : List Paged) → ArePagesOf segment.items pages → AreItemsOf pages segment.items))
        (agree : (numbers : Option ℕ) (stay : List Extent) (pages : List (List Paged)) (segments : List (Segment T)) → AreSegmentsIn AreItemsOf count_in numbers now.before stay pages segments
        → up_to now.before stay ≡ beats_before now.before stay) where
      -- how many extents go
      abbrev went : ℕ
      went = gone number written pages_of ArePagesOf count_in up_to moment extents now next new are_next

      abbrev Are : List Extent → List (List Paged) → Type 0
      Are named pages = AreSegmentsIn AreItemsOf count_in (first_number now.count (length now.sealed)) now.before named pages now.sealed

      abbrev OfThese : Option (Segment T) → List Extent → List W → Type 0
      OfThese found added fresh =
          sealed_after moment now.sealed ≡ found → IfSome found (λ segment. (pages : List Paged) → ArePagesOf segment.items pages → AreItemsOf pages segment.items)
          → Are (drop went extents ++ added) (drop went kept ++ map pages_of fresh)

      by-these : OfThese None [] []
          → ((segment : Segment T) (extent : Extent) (one : W) → IsNew number written pages_of ArePagesOf count_in extents (now.count - 1) (up_to now.before are_next.stay) segment extent one
          → OfThese (Some segment) (extent ∷ []) (one ∷ []))
          → Are (drop went extents ++ are_next.added) (drop went kept ++ map pages_of new)
      by-these none some =
          by-added number written pages_of ArePagesOf count_in extents (now.count - 1) (up_to now.before are_next.stay) (sealed_after moment now.sealed) are_next.added new are_next.added_is
          OfThese none some refl has_items

      counts : (length extents ≡ length was.sealed) × (length kept ≡ length was.sealed)
      counts = extents-count AreItemsOf count_in (first_number was.count (length was.sealed)) was.before extents kept was.sealed are

      to-sealed : (segments : List (Segment T)) → now.sealed ≡ segments → (named : List Extent) (pages : List (List Paged))
          → AreSegmentsIn AreItemsOf count_in (first_number now.count (length segments)) now.before named pages segments → Are named pages
      to-sealed segments is named pages these =
          subst (λ (list : List (Segment T)). AreSegmentsIn AreItemsOf count_in (first_number now.count (length list)) now.before named pages list) (sym is) these

      to-lists : (numbers : Option ℕ) (before : ℕ) (segments : List (Segment T)) (named others : List Extent) (pages more : List (List Paged)) → named ≡ others → pages ≡ more
          → AreSegmentsIn AreItemsOf count_in numbers before others more segments → AreSegmentsIn AreItemsOf count_in numbers before named pages segments
      to-lists numbers before segments named others pages more same same_pages these =
          subst (λ (list : List Extent). AreSegmentsIn AreItemsOf count_in numbers before list pages segments) (sym same)
          (subst (λ (list : List (List Paged)). AreSegmentsIn AreItemsOf count_in numbers before others list segments) (sym same_pages) these)

      went-by : (count found : ℕ) → length now.sealed ≡ count → count_found (sealed_after moment now.sealed) ≡ found → went ≡ length extents - (count - found)
      went-by count found one two = ap (λ (n : ℕ). length extents - (n - count_found (sealed_after moment now.sealed))) one ∙ ap (λ (n : ℕ). length extents - (count - n)) two

      -- nothing is left
      at-nothing : now.sealed ≡ [] → Are (drop went extents ++ are_next.added) (drop went kept ++ map pages_of new)
      at-nothing none =
          let empty : sealed_after moment now.sealed ≡ None = ap (sealed_after moment) none in
          let all = went-by 0 0 (ap length none) (ap count_found empty) in
          by-these
          (λ found _.
          to-sealed [] none (drop went extents ++ []) (drop went kept ++ [])
          (to-lists (first_number now.count 0) now.before [] (drop went extents ++ []) [] (drop went kept ++ []) []
          (append-nil (drop went extents) ∙ drop_all went extents (omega (arith, all)))
          (append-nil (drop went kept) ∙ drop_all went kept (let same = counts in omega (arith, all, same.0, same.1))) tt))
          (λ segment extent one is found _. absurd (let no : None ≡ Some segment = sym empty ∙ found in cc))

      -- one new segment is left alone
      at-alone : (segment : Segment T) → IsOne segment → now.sealed ≡ segment ∷ [] → 1 ≤ now.count → Are (drop went extents ++ are_next.added) (drop went kept ++ map pages_of new)
      at-alone segment is alone some =
          let last : sealed_after moment now.sealed ≡ Some segment = ap (sealed_after moment) alone ∙ one-after moment [] segment is.0 in
          let all = went-by 1 1 (ap length alone) (ap count_found last) in
          let no_extents : drop went extents ≡ [] = drop_all went extents (omega (arith, all)) in
          let no_pages : drop went kept ≡ [] = drop_all went kept (let same = counts in omega (arith, all, same.0, same.1)) in
          by-these
          (λ found _. absurd (let no : None ≡ Some segment = sym found ∙ last in cc))
          (λ other extent one new_is found has.
          let same : other ≡ segment = same_Some other segment (sym found ∙ last) in
          let up : up_to now.before are_next.stay ≡ now.before = ap (up_to now.before) (are_next.stay_is ∙ no_extents) ∙ agree None [] [] [] tt in
          to-sealed (segment ∷ []) alone (drop went extents ++ extent ∷ []) (drop went kept ++ pages_of one ∷ [])
          (to-lists (first_number now.count 1) now.before (segment ∷ []) (drop went extents ++ extent ∷ []) (extent ∷ []) (drop went kept ++ pages_of one ∷ []) (pages_of one ∷ [])
          (ap (λ (prefix : List Extent). prefix ++ extent ∷ []) no_extents) (ap (λ (prefix : List (List Paged)). prefix ++ pages_of one ∷ []) no_pages) (
            record {
              named = record {
                serial = has-last now.count 0 extent (λ _. some) new_is.serial;
                beats = new_is.beats ∙ ap (λ (n : ℕ). counted (n + count_in other.items)) up ∙ ap (λ (one : Segment T). counted (now.before + count_in one.items)) same;
                sealed_at = new_is.sealed_at ∙ ap (λ (one : Segment T). one.sealed_at) same;
              };
              items = subst (λ (one_of : Segment T). AreItemsOf (pages_of one) one_of.items) same (has (pages_of one) new_is.pages);
            },
            tt,
          )))

      module _ (left : ℕ) where
        abbrev Stayed : Type 0
        Stayed = AreSegmentsIn AreItemsOf count_in (first_number now.count (length (drop left was.sealed))) (beats_after count_in was.before (take left was.sealed)) (drop left extents) (drop left kept) (drop left was.sealed)

        -- none is new
        at-none : OneMore IsOne (beats_after count_in was.before) was now left [] → Are (drop went extents ++ are_next.added) (drop went kept ++ map pages_of new)
        at-none more =
            let sealed : now.sealed ≡ drop left was.sealed = more.sealed ∙ append-nil (drop left was.sealed) in
            let empty : sealed_after moment now.sealed ≡ None =
            ap (sealed_after moment) sealed ∙ none-after moment (drop left was.sealed) (all-drop (λ (segment : Segment T). segment.sealed_at ≤ moment) left was.sealed going.below) in
            let all = went-by (length was.sealed - left) 0 (ap length sealed ∙ length-drop left was.sealed) (ap count_found empty) in
            let within = more.within in
            let same : went ≡ left = let one = counts in omega (arith, all, one.0, within) in
            by-these
            (λ found _.
            to-sealed (drop left was.sealed) sealed (drop went extents ++ []) (drop went kept ++ [])
            (to-lists (first_number now.count (length (drop left was.sealed))) now.before (drop left was.sealed) (drop went extents ++ []) (drop left extents) (drop went kept ++ []) (drop left kept)
            (append-nil (drop went extents) ∙ ap (λ (n : ℕ). drop n extents) same) (append-nil (drop went kept) ∙ ap (λ (n : ℕ). drop n kept) same)
            (subst (λ (b : ℕ). AreSegmentsIn AreItemsOf count_in (first_number now.count (length (drop left was.sealed))) b (drop left extents) (drop left kept) (drop left was.sealed)) (sym more.before)
            (gone-are AreItemsOf count_in was.count now.count left was.before extents kept was.sealed are more.within going.counted more.count))))
            (λ segment extent one is found _. absurd (let no : None ≡ Some segment = sym empty ∙ found in cc))

        -- one is
        at-one : (segment : Segment T) → OneMore IsOne (beats_after count_in was.before) was now left (segment ∷ []) → Are (drop went extents ++ are_next.added) (drop went kept ++ map pages_of new)
        at-one segment more =
            let last : sealed_after moment now.sealed ≡ Some segment = ap (sealed_after moment) more.sealed ∙ one-after moment (drop left was.sealed) segment more.each.0.0 in
            let all = went-by (length was.sealed - left + 1) 1 (ap length more.sealed ∙ length-append (drop left was.sealed) (segment ∷ []) ∙ ap (λ (n : ℕ). n + 1) (length-drop left was.sealed)) (ap count_found last) in
            let within = more.within in
            let same : went ≡ left = let one = counts in omega (arith, all, one.0, within) in
            let stay : are_next.stay ≡ drop left extents = are_next.stay_is ∙ ap (λ (n : ℕ). drop n extents) same in
            let numbers = number_after left (first_number was.count (length was.sealed)) in
            let prefix = drop-are AreItemsOf count_in left (first_number was.count (length was.sealed)) was.before extents kept was.sealed are in
            let up : up_to now.before are_next.stay ≡ beats_before (beats_after count_in was.before (take left was.sealed)) (drop left extents) =
            agree numbers are_next.stay (drop left kept) (drop left was.sealed)
            (subst (λ (b : ℕ). AreSegmentsIn AreItemsOf count_in numbers b are_next.stay (drop left kept) (drop left was.sealed)) (sym more.before)
            (subst (λ (list : List Extent). AreSegmentsIn AreItemsOf count_in numbers (beats_after count_in was.before (take left was.sealed)) list (drop left kept) (drop left was.sealed)) (sym stay) prefix))
            ∙ ap (λ (b : ℕ). beats_before b are_next.stay) more.before ∙ ap (beats_before (beats_after count_in was.before (take left was.sealed))) stay in
            by-these
            (λ found _. absurd (let no : None ≡ Some segment = sym found ∙ last in cc))
            (λ other extent one new_is found has.
            let here : other ≡ segment = same_Some other segment (sym found ∙ last) in
            to-sealed (drop left was.sealed ++ segment ∷ []) more.sealed (drop went extents ++ extent ∷ []) (drop went kept ++ pages_of one ∷ [])
            (to-lists (first_number now.count (length (drop left was.sealed ++ segment ∷ []))) now.before (drop left was.sealed ++ segment ∷ [])
            (drop went extents ++ extent ∷ []) (drop left extents ++ extent ∷ []) (drop went kept ++ pages_of one ∷ []) (drop left kept ++ pages_of one ∷ [])
            (ap (λ (n : ℕ). drop n extents ++ extent ∷ []) same) (ap (λ (n : ℕ). drop n kept ++ pages_of one ∷ []) same)
            (subst (λ (b : ℕ). AreSegmentsIn AreItemsOf count_in (first_number now.count (length (drop left was.sealed ++ segment ∷ []))) b
            (drop left extents ++ extent ∷ []) (drop left kept ++ pages_of one ∷ []) (drop left was.sealed ++ segment ∷ [])) (sym more.before)
            (one-are AreItemsOf count_in was.count now.count left was.before extents kept was.sealed are more.within going.counted more.count extent (pages_of one) segment
            new_is.serial (new_is.sealed_at ∙ ap (λ (one : Segment T). one.sealed_at) here)
            (new_is.beats ∙ ap (λ (n : ℕ). counted (n + count_in other.items)) up
            ∙ ap (λ (one : Segment T). counted (beats_before (beats_after count_in was.before (take left was.sealed)) (drop left extents) + count_in one.items)) here)
            (subst (λ (one_of : Segment T). AreItemsOf (pages_of one) one_of.items) here (has (pages_of one) new_is.pages))))))

      at-more : (left : ℕ) (fresh : List (Segment T)) → OneMore IsOne (beats_after count_in was.before) was now left fresh → Are (drop went extents ++ are_next.added) (drop went kept ++ map pages_of new)
      at-more left [] more = at-none left more
      at-more left (segment ∷ []) more = at-one left segment more
      at-more left (segment ∷ other ∷ others) more = absurd (let few = more.few in omega (arith, few))

      by-outcome : Outcome IsOne (beats_after count_in was.before) was now → Are (drop went extents ++ are_next.added) (drop went kept ++ map pages_of new)
      by-outcome (inl none) = at-nothing none
      by-outcome (inr (inl alone)) = at-alone alone.0 alone.1 alone.2 alone.3
      by-outcome (inr (inr more)) = at-more more.0 more.1 more.2

      -- the next extents, with their pages, are those of the segments
      pub next-are : Are next (pages_after extents next kept (map pages_of new))
      next-are =
          to-lists (first_number now.count (length now.sealed)) now.before now.sealed next (drop went extents ++ are_next.added) (pages_after extents next kept (map pages_of new)) (drop went kept ++ map pages_of new)
          (next-is number written pages_of ArePagesOf count_in up_to moment extents now next new are_next)
          (ap (λ (n : ℕ). drop n kept ++ map pages_of new)
          (ap (λ (n : ℕ). length extents + n - length next) (length-map new pages_of) ∙ gone-is number written pages_of ArePagesOf count_in up_to moment extents now next new are_next))
          (by-outcome going.outcome)
