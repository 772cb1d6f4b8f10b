-- The segments of a tier go on from those of a body: some of the first have gone, and one stands behind them at most.
use Rattle.std.proofs.Common.{◌≡◌, ℕ, zero, suc, ◌+◌, ◌-◌, ◌^◌, ◌<◌, ◌≤◌, inl, inr, min, nat_lt, List, [], ◌∷◌, ◌++◌, length, drop, take, slice_get, Option, Some, None, arith, sym, ap, refl, ◌∙◌, subst}
use Rattle.std.specs.List.{AllByRecursion}
use Rattle.std.specs.Option.{option_and_then, option_map_or}
use Rattle.std.proofs.lemmas.Bool.{cases_Bool, cases_lt, cond-false, cond-true, le-ltb, lt-ltb, ltb-true}
use Rattle.std.proofs.lemmas.List.{drop-append-le, length-append, length-drop, take-append-le}
use Rattle.std.proofs.lemmas.Option.{slice_get-get_or}
use Rattle.std.proofs.Math.Seq.{drop-append-add, get_or-append_seam}
use Rattle.list_lemmas.proofs.Every.{all-at, all-drop, all-weaker}
use Rattle.beat_tiers.specs.declared.item.Item.{Item}
use Rattle.beat_tiers.specs.declared.parts.KeptItems.{KeptItems}
use Rattle.beat_tiers.specs.declared.parts.Segment.{Segment}
use Rattle.beat_tiers.specs.Segments.{beats_of}
use Rattle.beat_tiers.specs.Sound.{passed, GoesOn}
use Rattle.checkpoint_body.specs.declared.body.Extent.{Extent}
use Rattle.store_core.specs.bodies.Next.{beats_before, if_after, sealed_after, HasOneNew}
use Rattle.store_core.specs.bodies.Reading.{AreSegmentsIn, IsSegmentIn}
use Rattle.store_core.specs.bodies.Segments.{counted, first_number, next_number, HasNumber}

-- ---- numbers

-- the number so many segments behind one of this number
abbrev pub number_after : ℕ → Option ℕ → Option ℕ
number_after zero number = number
number_after (suc n) number = number_after n (next_number number)

after-none : (n : ℕ) → number_after n None ≡ None
after-none zero = refl
after-none (suc n) = after-none n

after-some : (n number : ℕ) → number + n ≤ 2 ^ 64 - 1 → number_after n (Some number) ≡ Some (number + n)
after-some zero number le = ap (λ (m : ℕ). Some m) (omega arith)
after-some (suc n) number le =
    let here : counted (number + 1) ≡ number + 1 = omega arith in
    ap (λ (m : ℕ). number_after n (Some m)) here ∙ after-some n (number + 1) (omega arith) ∙ ap (λ (m : ℕ). Some m) (omega arith)

-- the last of so many segments has the number before the count
pub has-last : (count len : ℕ) (extent : Extent) → (count < 2 ^ 64 - 1 → len + 1 ≤ count) → extent.serial ≡ count - 1 → HasNumber (number_after len (first_number count (len + 1))) extent
has-last count len extent enough serial =
    elim (cases_Bool (nat_lt count (2 ^ 64 - 1))) [
      | inl on ↦
          let low : count < 2 ^ 64 - 1 = ltb-true count (2 ^ 64 - 1) on in
          let more : len + 1 ≤ count = enough low in
          let first : first_number count (len + 1) ≡ Some (count - (len + 1)) = cond-true _ _ _ on in
          let last : number_after len (first_number count (len + 1)) ≡ Some (count - 1) =
          ap (number_after len) first ∙ after-some len (count - (len + 1)) (omega arith) ∙ ap (λ (m : ℕ). Some m) (omega arith) in
          subst (λ (n : Option ℕ). HasNumber n extent) (sym last) serial
      | inr stands ↦
          let none : first_number count (len + 1) ≡ None = cond-false _ _ _ stands in
          subst (λ (n : Option ℕ). HasNumber n extent) (sym (ap (number_after len) none ∙ after-none len)) tt
    ]

-- the first that is left has the number that it had, as long as the count goes on
same-number : (was now len gone more : ℕ) → gone ≤ len → len ≤ was → now ≡ min (was + more) (2 ^ 64 - 1) → now < 2 ^ 64 - 1
    → number_after gone (first_number was len) ≡ first_number now (len - gone + more)
same-number was now len gone more le within is low =
    let before : was < 2 ^ 64 - 1 = omega arith in
    let first : first_number was len ≡ Some (was - len) = cond-true _ _ _ (lt-ltb was (2 ^ 64 - 1) before) in
    let next : first_number now (len - gone + more) ≡ Some (now - (len - gone + more)) = cond-true _ _ _ (lt-ltb now (2 ^ 64 - 1) low) in
    ap (number_after gone) first ∙ after-some gone (was - len) (omega arith) ∙ ap (λ (m : ℕ). Some m) (omega arith) ∙ sym next

-- ---- the segments

-- how many beats had points up to the last of these segments
abbrev pub beats_after : {T : Type 0} → (List (Item T) → ℕ) → ℕ → List (Segment T) → ℕ
beats_after count_in before [] = before
beats_after count_in before (segment ∷ segments) = beats_after count_in (counted (before + count_in segment.items)) segments

module _ {Page T : Type 0} (AreItemsOf : List Page → List (Item T) → Type 0) (count_in : List (Item T) → ℕ) where
  abbrev AreOf : Option ℕ → ℕ → List Extent → List (List Page) → List (Segment T) → Type 0
  AreOf = AreSegmentsIn AreItemsOf count_in

  pub extents-count : (number : Option ℕ) (before : ℕ) (extents : List Extent) (kept : List (List Page)) (segments : List (Segment T)) → AreOf number before extents kept segments
      → (length extents ≡ length segments) × (length kept ≡ length segments)
  extents-count number before [] [] [] are = (refl, refl)
  extents-count number before [] [] (segment ∷ segments) are = absurd are
  extents-count number before [] (pages ∷ kept) segments are = absurd are
  extents-count number before (extent ∷ extents) [] segments are = absurd are
  extents-count number before (extent ∷ extents) (pages ∷ kept) [] are = absurd are
  extents-count number before (extent ∷ extents) (pages ∷ kept) (segment ∷ segments) are =
      let rest = extents-count (next_number number) extent.beats extents kept segments are.1 in (omega (arith, rest.0), omega (arith, rest.1))

  -- without the first of them
  pub drop-are : (n : ℕ) (number : Option ℕ) (before : ℕ) (extents : List Extent) (kept : List (List Page)) (segments : List (Segment T)) → AreOf number before extents kept segments
      → AreOf (number_after n number) (beats_after count_in before (take n segments)) (drop n extents) (drop n kept) (drop n segments)
  drop-are zero number before extents kept segments are = are
  drop-are (suc n) number before [] [] [] are = tt
  drop-are (suc n) number before [] [] (segment ∷ segments) are = absurd are
  drop-are (suc n) number before [] (pages ∷ kept) segments are = absurd are
  drop-are (suc n) number before (extent ∷ extents) [] segments are = absurd are
  drop-are (suc n) number before (extent ∷ extents) (pages ∷ kept) [] are = absurd are
  drop-are (suc n) number before (extent ∷ extents) (pages ∷ kept) (segment ∷ segments) are =
      subst (λ (b : ℕ). AreOf (number_after n (next_number number)) (beats_after count_in b (take n segments)) (drop n extents) (drop n kept) (drop n segments)) are.0.named.beats
      (drop-are n (next_number number) extent.beats extents kept segments are.1)

  -- with one behind them
  push-are : (number : Option ℕ) (before : ℕ) (extents : List Extent) (kept : List (List Page)) (segments : List (Segment T)) → AreOf number before extents kept segments
      → (extent : Extent) (pages : List Page) (segment : Segment T) → IsSegmentIn AreItemsOf count_in (number_after (length segments) number) (beats_after count_in before segments) extent pages segment
      → AreOf number before (extents ++ extent ∷ []) (kept ++ pages ∷ []) (segments ++ segment ∷ [])
  push-are number before [] [] [] are extent pages segment is = (is, tt)
  push-are number before [] [] (one ∷ segments) are extent pages segment is = absurd are
  push-are number before [] (one ∷ kept) segments are extent pages segment is = absurd are
  push-are number before (one ∷ extents) [] segments are extent pages segment is = absurd are
  push-are number before (one ∷ extents) (other ∷ kept) [] are extent pages segment is = absurd are
  push-are number before (one ∷ extents) (other ∷ kept) (here ∷ segments) are extent pages segment is = (
    are.0,
    push-are (next_number number) one.beats extents kept segments are.1 extent pages segment
        (subst (λ (b : ℕ). IsSegmentIn AreItemsOf count_in (number_after (length segments) (next_number number)) (beats_after count_in b segments) extent pages segment) (sym are.0.named.beats) is),
  )

  -- where no segment has a number
  none-are : (number : Option ℕ) (before : ℕ) (extents : List Extent) (kept : List (List Page)) (segments : List (Segment T)) → AreOf number before extents kept segments → AreOf None before extents kept segments
  none-are number before [] [] [] are = tt
  none-are number before [] [] (segment ∷ segments) are = absurd are
  none-are number before [] (pages ∷ kept) segments are = absurd are
  none-are number before (extent ∷ extents) [] segments are = absurd are
  none-are number before (extent ∷ extents) (pages ∷ kept) [] are = absurd are
  none-are number before (extent ∷ extents) (pages ∷ kept) (segment ∷ segments) are = (
    record { named = record { serial = tt; beats = are.0.named.beats; sealed_at = are.0.named.sealed_at }; items = are.0.items },
    none-are (next_number number) extent.beats extents kept segments are.1,
  )

  module _ (was now len gone more : ℕ) (le : gone ≤ len) (within : len ≤ was) (is : now ≡ min (was + more) (2 ^ 64 - 1)) where
    -- those that are left have the numbers of the next count
    renumbered : (before : ℕ) (extents : List Extent) (kept : List (List Page)) (segments : List (Segment T)) → AreOf (number_after gone (first_number was len)) before extents kept segments
        → AreOf (first_number now (len - gone + more)) before extents kept segments
    renumbered before extents kept segments are =
        elim (cases_Bool (nat_lt now (2 ^ 64 - 1))) [
          | inl on ↦ subst (λ (n : Option ℕ). AreOf n before extents kept segments) (same-number was now len gone more le within is (ltb-true now (2 ^ 64 - 1) on)) are
          | inr stands ↦
              let none : first_number now (len - gone + more) ≡ None = cond-false _ _ _ stands in
              subst (λ (n : Option ℕ). AreOf n before extents kept segments) (sym none) (none-are (number_after gone (first_number was len)) before extents kept segments are)
        ]

  -- the beats up to the last extent are those up to the last segment
  last-cons : (before : ℕ) (extent : Extent) (extents : List Extent) → beats_before before (extent ∷ extents) ≡ beats_before extent.beats extents
  last-cons before extent [] = refl
  last-cons before extent (next ∷ extents) =
      let got = slice_get-get_or (next ∷ extents) (length extents) next (omega arith) in
      let here : suc (suc (length extents)) - 1 ≡ suc (length extents) = omega arith in
      let there : suc (length extents) - 1 ≡ length extents = omega arith in
      ap (λ (n : ℕ). option_map_or (λ (one : Extent). one.beats) (slice_get (extent ∷ next ∷ extents) n) before) here
      ∙ ap (λ (found : Option Extent). option_map_or (λ (one : Extent). one.beats) found before) got
      ∙ sym (ap (λ (n : ℕ). option_map_or (λ (one : Extent). one.beats) (slice_get (next ∷ extents) n) extent.beats) there
      ∙ ap (λ (found : Option Extent). option_map_or (λ (one : Extent). one.beats) found extent.beats) got)

  pub last-beats : (number : Option ℕ) (before : ℕ) (extents : List Extent) (kept : List (List Page)) (segments : List (Segment T)) → AreOf number before extents kept segments
      → beats_before before extents ≡ beats_after count_in before segments
  last-beats number before [] [] [] are = refl
  last-beats number before [] [] (segment ∷ segments) are = absurd are
  last-beats number before [] (pages ∷ kept) segments are = absurd are
  last-beats number before (extent ∷ extents) [] segments are = absurd are
  last-beats number before (extent ∷ extents) (pages ∷ kept) [] are = absurd are
  last-beats number before (extent ∷ extents) (pages ∷ kept) (segment ∷ segments) are =
      last-cons before extent extents ∙ last-beats (next_number number) extent.beats extents kept segments are.1 ∙ ap (λ (b : ℕ). beats_after count_in b segments) are.0.named.beats

  module _ (was now gone before : ℕ) (extents : List Extent) (kept : List (List Page)) (segments : List (Segment T)) (are : AreOf (first_number was (length segments)) before extents kept segments)
      (le : gone ≤ length segments) (within : length segments ≤ was) where
    left-count : length (drop gone segments) ≡ length segments - gone
    left-count = length-drop gone segments

    -- none was sealed since
    pub gone-are : now ≡ min (was + 0) (2 ^ 64 - 1)
        → AreOf (first_number now (length (drop gone segments))) (beats_after count_in before (take gone segments)) (drop gone extents) (drop gone kept) (drop gone segments)
    gone-are is =
        let same : length segments - gone + 0 ≡ length (drop gone segments) = omega (arith, left-count) in
        subst (λ (n : ℕ). AreOf (first_number now n) (beats_after count_in before (take gone segments)) (drop gone extents) (drop gone kept) (drop gone segments)) same
        (renumbered was now (length segments) gone 0 le within is (beats_after count_in before (take gone segments)) (drop gone extents) (drop gone kept) (drop gone segments)
        (drop-are gone (first_number was (length segments)) before extents kept segments are))

    -- one was
    pub one-are : now ≡ min (was + 1) (2 ^ 64 - 1) → (extent : Extent) (pages : List Page) (segment : Segment T) → extent.serial ≡ now - 1 → extent.sealed_at ≡ segment.sealed_at
        → extent.beats ≡ counted (beats_before (beats_after count_in before (take gone segments)) (drop gone extents) + count_in segment.items) → AreItemsOf pages segment.items
        → AreOf (first_number now (length (drop gone segments ++ segment ∷ []))) (beats_after count_in before (take gone segments)) (drop gone extents ++ extent ∷ []) (drop gone kept ++ pages ∷ []) (drop gone segments ++ segment ∷ [])
    one-are is extent pages segment serial sealed_at beats items =
        let prefix = renumbered was now (length segments) gone 1 le within is (beats_after count_in before (take gone segments)) (drop gone extents) (drop gone kept) (drop gone segments)
        (drop-are gone (first_number was (length segments)) before extents kept segments are) in
        let same : length segments - gone + 1 ≡ length (drop gone segments) + 1 = omega (arith, left-count) in
        let whole : length (drop gone segments) + 1 ≡ length (drop gone segments ++ segment ∷ []) = sym (length-append (drop gone segments) (segment ∷ [])) in
        let up_to = last-beats (first_number now (length segments - gone + 1)) (beats_after count_in before (take gone segments)) (drop gone extents) (drop gone kept) (drop gone segments) prefix in
        let number : HasNumber (number_after (length (drop gone segments)) (first_number now (length (drop gone segments) + 1))) extent =
        has-last now (length (drop gone segments)) extent (λ low. omega (arith, left-count)) serial in
        subst (λ (n : ℕ). AreOf (first_number now n) (beats_after count_in before (take gone segments)) (drop gone extents ++ extent ∷ []) (drop gone kept ++ pages ∷ []) (drop gone segments ++ segment ∷ []))
        (same ∙ whole)
        (push-are (first_number now (length segments - gone + 1)) (beats_after count_in before (take gone segments)) (drop gone extents) (drop gone kept) (drop gone segments) prefix extent pages segment
        (record {
          named = record {
            serial = subst (λ (n : ℕ). HasNumber (number_after (length (drop gone segments)) (first_number now n)) extent) (sym same) number;
            beats = beats ∙ ap (λ (b : ℕ). counted (b + count_in segment.items)) up_to;
            sealed_at = sealed_at;
          };
          items = items;
        }))

-- ---- what was sealed since

module _ {T : Type 0} where
  -- none of the segments was sealed after a moment
  pub none-after : (moment : ℕ) (segments : List (Segment T)) → AllByRecursion (λ (segment : Segment T). segment.sealed_at ≤ moment) segments → sealed_after moment segments ≡ None
  none-after moment segments below = by (slice_get segments (length segments - 1)) refl
    where
      by : (found : Option (Segment T)) → slice_get segments (length segments - 1) ≡ found → option_and_then (if_after moment) found ≡ None
      by None is = refl
      by (Some segment) is =
          let low = all-at (λ (one : Segment T). one.sealed_at ≤ moment) segments (length segments - 1) segment below is in cond-false _ _ _ (le-ltb moment segment.sealed_at low)

  -- the last was
  pub one-after : (moment : ℕ) (segments : List (Segment T)) (segment : Segment T) → moment < segment.sealed_at → sealed_after moment (segments ++ segment ∷ []) ≡ Some segment
  one-after moment segments segment later =
      let count : length (segments ++ segment ∷ []) ≡ length segments + 1 = length-append segments (segment ∷ []) in
      let place : length (segments ++ segment ∷ []) - 1 ≡ length segments = omega (arith, count) in
      let got : slice_get (segments ++ segment ∷ []) (length segments) ≡ Some segment =
      slice_get-get_or (segments ++ segment ∷ []) (length segments) segment (omega (arith, count))
      ∙ ap (λ (one : Segment T). Some one) (get_or-append_seam segments segment [] segment) in
      ap (λ (n : ℕ). option_and_then (if_after moment) (slice_get (segments ++ segment ∷ []) n)) place
      ∙ ap (option_and_then (if_after moment)) got ∙ cond-true _ _ _ (lt-ltb moment segment.sealed_at later)

  -- those that are left of all are left of the first and of those behind them
  drop-both : (n : ℕ) (xs ys : List (Segment T)) → length xs ≤ n → drop n (xs ++ ys) ≡ drop (n - length xs) ys
  drop-both n xs ys le =
      ap (λ (m : ℕ). drop m (xs ++ ys)) (omega arith) ∙ drop-append-add xs ys (n - length xs)

  pub one-tail : (moment : ℕ) (segment : Segment T) (segments : List (Segment T)) → HasOneNew moment (segment ∷ segments) → HasOneNew moment segments
  one-tail moment segment [] one = tt
  one-tail moment segment (next ∷ segments) one = one.1

  -- of segments behind others that were sealed after a moment there is one at most
  few-new : (moment : ℕ) (xs ys : List (Segment T)) → AllByRecursion (λ (segment : Segment T). moment < segment.sealed_at) ys → HasOneNew moment (xs ++ ys) → length ys ≤ 1
  few-new moment [] [] each one = omega arith
  few-new moment [] (y ∷ []) each one = omega arith
  few-new moment [] (y ∷ z ∷ ys) each one = let low = one.0 in let high = each.0 in absurd (omega (arith, low, high))
  few-new moment (x ∷ xs) ys each one = few-new moment xs ys each (one-tail moment x (xs ++ ys) one)

-- What was kept goes on with one new segment at most.
pub record OneMore {T : Type 0} (IsOne : Segment T → Type 0) (beats_up_to : List (Segment T) → ℕ) (was now : KeptItems T) (gone : ℕ) (fresh : List (Segment T)) : Type 0 where
  pub each : AllByRecursion IsOne fresh
  pub few : length fresh ≤ 1
  pub within : gone ≤ length was.sealed
  pub sealed : now.sealed ≡ drop gone was.sealed ++ fresh
  pub before : now.before ≡ beats_up_to (take gone was.sealed)
  pub count : now.count ≡ min (was.count + length fresh) (2 ^ 64 - 1)

module _ {T : Type 0} (count_in : List (Item T) → ℕ) where
  passed-is : (kind : _) → ((items : List (Item T)) → beats_of kind items ≡ count_in items) → (before : ℕ) (segments : List (Segment T)) → passed kind before segments ≡ beats_after count_in before segments
  passed-is kind same before [] = refl
  passed-is kind same before (segment ∷ segments) =
      ap (λ (n : ℕ). passed kind (counted (before + n)) segments) (same segment.items) ∙ passed-is kind same (counted (before + count_in segment.items)) segments

  -- none of those that were sealed then is left, or they go on with one more at most
  pub by-new : (kind : _) (moment : ℕ) (IsOne : Segment T → Type 0) (was now : KeptItems T) (goes : GoesOn kind IsOne was now) → ((items : List (Item T)) → beats_of kind items ≡ count_in items)
      → ((segment : Segment T) → IsOne segment → moment < segment.sealed_at) → was.count < 2 ^ 64 → HasOneNew moment now.sealed → (Q : Type 0)
      → (now.sealed ≡ [] → Q)
      → ((segment : Segment T) → IsOne segment → now.sealed ≡ segment ∷ [] → 1 ≤ now.count → Q)
      → ((gone : ℕ) (fresh : List (Segment T)) → OneMore IsOne (beats_after count_in was.before) was now gone fresh → Q)
      → Q
  by-new kind moment IsOne was now goes same later low one Q none only more =
      elim (cases_lt (length was.sealed) goes.gone) [
        | inl lt ↦ gone lt (drop (goes.gone - length was.sealed) goes.new) refl
        | inr le ↦
            let sealed = goes.sealed ∙ drop-append-le goes.gone was.sealed goes.new le in
            more goes.gone goes.new (record {
              each = goes.each;
              few = few-new moment (drop goes.gone was.sealed) goes.new (all-weaker IsOne (λ (segment : Segment T). moment < segment.sealed_at) later goes.new goes.each)
                  (subst (HasOneNew moment) sealed one);
              within = le;
              sealed = sealed;
              before = goes.before ∙ ap (passed kind was.before) (take-append-le goes.gone was.sealed goes.new le) ∙ passed-is kind same was.before (take goes.gone was.sealed);
              count = goes.count low;
            })
      ]
    where
      sealed : (rest : List (Segment T)) → length was.sealed ≤ goes.gone → drop (goes.gone - length was.sealed) goes.new ≡ rest → now.sealed ≡ rest
      sealed rest lt is = goes.sealed ∙ drop-both goes.gone was.sealed goes.new lt ∙ is

      gone : length was.sealed < goes.gone → (rest : List (Segment T)) → drop (goes.gone - length was.sealed) goes.new ≡ rest → Q
      gone lt rest is =
          by rest (sealed rest (omega arith) is) (subst (AllByRecursion IsOne) is (all-drop IsOne (goes.gone - length was.sealed) goes.new goes.each))
          (sym (ap length is) ∙ length-drop (goes.gone - length was.sealed) goes.new)
        where
          by : (rest : List (Segment T)) → now.sealed ≡ rest → AllByRecursion IsOne rest → length rest ≡ length goes.new - (goes.gone - length was.sealed) → Q
          by [] now_is each count = none now_is
          by (segment ∷ []) now_is each count = let counts = goes.count low in only segment each.0 now_is (omega (arith, counts, count))
          by (segment ∷ next ∷ others) now_is each count =
              let two = subst (HasOneNew moment) now_is one in let here = two.0 in let high = later segment each.0 in absurd (omega (arith, here, high))
