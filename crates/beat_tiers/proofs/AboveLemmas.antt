-- The beats above a moment: gathered one after the other, and all at once.
use Rattle.std.proofs.Common.{◌≡◌, ℕ, zero, suc, ◌+◌, ◌-◌, ◌<◌, ◌≤◌, Bool, true, false, cond, ltb, ◌==◌, ◌||◌, List, [], ◌∷◌, ◌++◌, length, take, drop, get_or, slice_get, flat_map, inl, inr, Some, arith, refl, sym, ap, subst, ◌∙◌, append-nil, append_assoc}
use Rattle.std.specs.List.{AllByRecursion, filter}
use Rattle.std.proofs.lemmas.Bool.{cases_Bool, cond_both, cond-true, cond-false, eq-eqb, eqb-true, leb-true, leb-false, lt-ltb, le-ltb, le-leb, ne_eqb}
use Rattle.std.proofs.lemmas.Bool.Decides.{nat_tests}
use Rattle.std.proofs.lemmas.List.{take_all, take_more, take-append-drop, take-append-le, length-append}
use Rattle.std.proofs.lemmas.List.Concat.{flat_map-append}
use Rattle.std.proofs.lemmas.List.Elements.{filter-append}
use Rattle.std.proofs.lemmas.Option.{same_Some}
use Rattle.beat_tiers.specs.declared.item.Item.{Item}
use Rattle.beat_tiers.specs.declared.item.Stepped.{Stepped}
use Rattle.beat_tiers.specs.declared.kept.KeptBeat.{KeptBeat}
use Rattle.beat_tiers.specs.Above.{Adds, RiseAbove, RiseFrom, is_above, item_above, least_behind}
use Rattle.beat_tiers.specs.Kept.{beat_of_item, before_beats, beats_in, behind_all, behind_beats, point_of_item}
use Rattle.beat_tiers.specs.Tiers.{AreOrdered}
use Rattle.beat_tiers.proofs.BeatRuns.{behind-all-append, behind-all-in, behind-last}
use Rattle.beat_tiers.proofs.Ordered.{ordered-tail, place-le}
use Rattle.beat_tiers.specs.Searching.{items_in}
use Rattle.beat_tiers.specs.declared.parts.KeptItems.{KeptItems}
use Rattle.beat_tiers.specs.Segments.{items_of}
use Rattle.beat_tiers.specs.declared.parts.Segment.{Segment}
use Rattle.beat_tiers.proofs.Searches.{flat_map-take, items-split as segments-split}

-- ---- one item more

pub last-is : (least : ℕ) (beats : List KeptBeat) (last : KeptBeat) → slice_get beats (length beats - 1) ≡ Some last → least_behind least beats ≡ last.moment
last-is least [] last is = absurd cc
last-is least (beat ∷ []) last is = let e : length (beat ∷ []) - 1 ≡ 0 = omega arith in ap (λ (found : KeptBeat). found.moment) (same_Some beat last (sym (ap (slice_get (beat ∷ [])) e) ∙ is))
last-is least (beat ∷ next ∷ beats) last is =
    let e : length (beat ∷ next ∷ beats) - 1 ≡ suc (length (next ∷ beats) - 1) = omega arith in
    last-is beat.moment (next ∷ beats) last (sym (ap (slice_get (beat ∷ next ∷ beats)) e) ∙ is)

-- the item is in the last beat
pub least-behind : (least : ℕ) (beats : List KeptBeat) (item : Item Stepped) → least_behind least (behind_beats beats item) ≡ item.place
least-behind least [] item = refl
least-behind least (beat ∷ []) item =
    cond_both (beat.moment == item.place) _ _ (λ (bs : List KeptBeat). least_behind least bs ≡ item.place) (λ is. eqb-true beat.moment item.place is) (λ _. refl)
least-behind least (beat ∷ next ∷ beats) item = least-behind beat.moment (next ∷ beats) item

pub rises-behind : (from : ℕ) (beats : List KeptBeat) (item : Item Stepped) → RiseAbove from beats → least_behind (from + 1) beats ≤ item.place → RiseAbove from (behind_beats beats item)
rises-behind from [] item rises le = (omega (arith, le), omega arith, tt)
rises-behind from (beat ∷ []) item rises le =
    cond_both (beat.moment == item.place) _ _ (RiseAbove from)
    (λ _. (rises.0, omega (arith, length-append beat.points (point_of_item item ∷ [])), tt))
    (λ differ. (rises.0, rises.1, (grind (arith, nat_tests), omega arith, tt)))
rises-behind from (beat ∷ next ∷ beats) item rises le = (rises.0, rises.1, rises-behind beat.moment (next ∷ beats) item rises.2 le)

-- a later item begins a beat
new-behind : (beat : KeptBeat) (beats : List KeptBeat) (item : Item Stepped) → least_behind beat.moment beats < item.place → behind_beats (beat ∷ beats) item ≡ (beat ∷ beats) ++ beat_of_item item ∷ []
new-behind beat [] item lt = cond-false (beat.moment == item.place) _ _ (ne_eqb beat.moment item.place (λ same. omega (arith, lt, same)))
new-behind beat (next ∷ beats) item lt = ap (λ rest. beat ∷ rest) (new-behind next beats item lt)

-- the last beat alone takes items
all-behind-last : (beats : List KeptBeat) (last : KeptBeat) (items : List (Item Stepped)) → behind_all (beats ++ last ∷ []) items ≡ beats ++ behind_all (last ∷ []) items
all-behind-last beats last [] = refl
all-behind-last beats last (item ∷ items) =
    ap (λ (bs : List KeptBeat). behind_all bs items) (behind-last beats last item)
    ∙ by (last.moment == item.place) (λ bs one. all-behind-last bs one items)
  where
    by : (same : Bool) → ((bs : List KeptBeat) (one : KeptBeat) → behind_all (bs ++ one ∷ []) items ≡ bs ++ behind_all (one ∷ []) items)
        → let all = cond same (record last { points = last.points ++ point_of_item item ∷ [] } ∷ []) (last ∷ beat_of_item item ∷ []) in behind_all (beats ++ all) items ≡ beats ++ behind_all all items
    by true rest = rest beats (record last { points = last.points ++ point_of_item item ∷ [] })
    by false rest =
        ap (λ (bs : List KeptBeat). behind_all bs items) (sym (append_assoc beats (last ∷ []) (beat_of_item item ∷ [])))
        ∙ rest (beats ++ last ∷ []) (beat_of_item item)
        ∙ append_assoc beats (last ∷ []) (behind_all (beat_of_item item ∷ []) items)
        ∙ ap (λ (bs : List KeptBeat). beats ++ bs) (sym (rest (last ∷ []) (beat_of_item item)))

-- so many beats are whole where the next item begins a beat
pub whole : (most least : ℕ) (beats : List KeptBeat) (item : Item Stepped) → length beats ≤ most → most ≤ length beats → (ltb (least_behind least beats) item.place || (length beats == 0)) ≡ true
    → (more : List (Item Stepped)) → beats ≡ take most (behind_all beats (item ∷ more))
whole zero least [] item few size begins more = refl
whole (suc most) least [] item few size begins more = absurd (omega (arith, size))
whole most least (beat ∷ beats) item few size begins more =
    let some : (length (beat ∷ beats) == 0) ≡ false = ne_eqb (length (beat ∷ beats)) 0 (λ none. omega (arith, none)) in
    let lt : least_behind beat.moment beats < item.place = grind (arith, nat_tests) in
    sym (ap (λ (bs : List KeptBeat). take most (behind_all bs more)) (new-behind beat beats item lt)
    ∙ ap (take most) (all-behind-last (beat ∷ beats) (beat_of_item item) more)
    ∙ take-append-le most (beat ∷ beats) (behind_all (beat_of_item item ∷ []) more) size
    ∙ take_all most (beat ∷ beats) few)

-- how many beats there are then
pub few-behind : (beats : List KeptBeat) (item : Item Stepped) → length (behind_beats beats item) ≤ length beats + 1
few-behind [] item = omega arith
few-behind (beat ∷ []) item = cond_both (beat.moment == item.place) _ _ (λ (bs : List KeptBeat). length bs ≤ 2) (λ _. omega arith) (λ _. omega arith)
few-behind (beat ∷ next ∷ beats) item = omega (arith, few-behind (next ∷ beats) item)

same-behind : (beat : KeptBeat) (beats : List KeptBeat) (item : Item Stepped) → least_behind beat.moment beats ≡ item.place → length (behind_beats (beat ∷ beats) item) ≡ length (beat ∷ beats)
same-behind beat [] item is = ap length (cond-true (beat.moment == item.place) _ _ (eq-eqb beat.moment item.place is))
same-behind beat (next ∷ beats) item is = omega (arith, same-behind next beats item is)

pub as-few-behind : (most least : ℕ) (beats : List KeptBeat) (item : Item Stepped) → length beats ≤ most → least_behind least beats ≤ item.place → (ltb (least_behind least beats) item.place || (length beats == 0)) ≡ false
    → length (behind_beats beats item) ≤ most
as-few-behind most least [] item few le begins = absurd (grind (arith, nat_tests))
as-few-behind most least (beat ∷ beats) item few le begins =
    let same : least_behind beat.moment beats ≡ item.place = grind (arith, nat_tests) in
    omega (arith, few, same-behind beat beats item same)

-- ---- items one after the other

-- what follows rises from the last of the beats then
pub rises-on : (least : ℕ) (old : List KeptBeat) (xs ys : List (Item Stepped)) → RiseFrom (least_behind least old) (xs ++ ys) → RiseFrom (least_behind least (behind_all old xs)) ys
rises-on least old [] ys rises = rises
rises-on least old (x ∷ xs) ys rises = rises-on least (behind_beats old x) xs ys (subst (λ (n : ℕ). RiseFrom n (xs ++ ys)) (sym (least-behind least old x)) rises.1)

pub rises-left : (least : ℕ) (xs ys : List (Item Stepped)) → RiseFrom least (xs ++ ys) → RiseFrom least xs
rises-left least [] ys rises = tt
rises-left least (x ∷ xs) ys rises = (rises.0, rises-left x.place xs ys rises.1)

-- items behind items
pub adds-more : (most : ℕ) (old mid new : List KeptBeat) (xs ys : List (Item Stepped)) (going : Bool) → mid ≡ behind_all old xs → Adds most mid ys new going → Adds most old (xs ++ ys) new going
adds-more most old mid new xs ys true is adds = adds ∙ ap (λ (bs : List KeptBeat). behind_all bs ys) is ∙ sym (behind-all-append old xs ys)
adds-more most old mid new xs ys false is adds = λ more.
    adds more
    ∙ ap (take most) (ap (λ (bs : List KeptBeat). behind_all bs (ys ++ more)) is ∙ sym (behind-all-append old xs (ys ++ more)) ∙ ap (behind_all old) (sym (append_assoc xs ys more)))

-- where enough are whole, what follows changes nothing
pub adds-whole : (most : ℕ) (old new : List KeptBeat) (xs ys : List (Item Stepped)) → Adds most old xs new false → Adds most old (xs ++ ys) new false
adds-whole most old new xs ys adds = λ more. adds (ys ++ more) ∙ ap (λ (zs : List (Item Stepped)). take most (behind_all old zs)) (sym (append_assoc xs ys more))

pub adds-all : (most : ℕ) (new : List KeptBeat) (xs : List (Item Stepped)) (going : Bool) → length new ≤ most → Adds most [] xs new going → new ≡ take most (beats_in xs)
adds-all most new xs true few adds = sym (take_all most new few) ∙ ap (take most) (adds ∙ behind-all-in [] xs)
adds-all most new xs false few adds = adds [] ∙ ap (take most) (behind-all-in [] (xs ++ []) ∙ ap beats_in (append-nil xs))

-- ---- the items above a moment

rises-ordered : (x : Item Stepped) (xs : List (Item Stepped)) → AreOrdered (x ∷ xs) → RiseFrom x.place xs
rises-ordered x [] ordered = tt
rises-ordered x (y ∷ xs) ordered = (place-le x y ordered.0, rises-ordered y xs ordered.1)

rises-less : (least low : ℕ) (xs : List (Item Stepped)) → least ≤ low → RiseFrom low xs → RiseFrom least xs
rises-less least low [] le rises = tt
rises-less least low (x ∷ xs) le rises = (omega (arith, le, rises.0), rises.1)

rises-filter : (p : Item Stepped → Bool) (least : ℕ) (xs : List (Item Stepped)) → RiseFrom least xs → RiseFrom least (filter p xs)
rises-filter p least [] rises = tt
rises-filter p least (x ∷ xs) rises =
    let rest = rises-filter p x.place xs rises.1 in
    cond_both (p x) _ _ (RiseFrom least) (λ _. (rises.0, rest)) (λ _. rises-less least x.place (filter p xs) rises.0 rest)

pub rises-above : (from : ℕ) (xs : List (Item Stepped)) → AreOrdered xs → RiseFrom (from + 1) (filter (item_above from) xs)
rises-above from [] ordered = tt
rises-above from (x ∷ xs) ordered =
    cond_both (item_above from x) _ _ (RiseFrom (from + 1))
    (λ is. (leb-true (from + 1) x.place is, rises-filter (item_above from) x.place xs (rises-ordered x xs ordered)))
    (λ _. rises-above from xs (ordered-tail x xs ordered))

-- the moments of the beats are from a number on
abbrev AreLater : ℕ → List KeptBeat → Type 0
AreLater from beats = AllByRecursion (λ (beat : KeptBeat). from < beat.moment) beats

later-in : (from least : ℕ) (xs : List (Item Stepped)) → from < least → RiseFrom least xs → AreLater from (beats_in xs)
later-in from least [] lt rises = tt
later-in from least (x ∷ xs) lt rises =
    before (beats_in xs) (later-in from x.place xs (omega (arith, lt, rises.0)) rises.1)
  where
    before : (beats : List KeptBeat) → AreLater from beats → AreLater from (before_beats x beats)
    before [] later = (omega (arith, lt, rises.0), tt)
    before (beat ∷ beats) later = cond_both (x.place == beat.moment) _ _ (AreLater from) (λ _. later) (λ _. (omega (arith, lt, rises.0), later))

all-later : (from : ℕ) (beats : List KeptBeat) → AreLater from beats → filter (is_above from) beats ≡ beats
all-later from [] later = refl
all-later from (beat ∷ beats) later = cond-true (is_above from beat) _ _ (lt-ltb from beat.moment later.0) ∙ ap (λ rest. beat ∷ rest) (all-later from beats later.1)

all-above : (from least : ℕ) (xs : List (Item Stepped)) → from < least → RiseFrom least xs → filter (item_above from) xs ≡ xs
all-above from least [] lt rises = refl
all-above from least (x ∷ xs) lt rises =
    cond-true (item_above from x) _ _ (le-leb (from + 1) x.place (omega (arith, lt, rises.0))) ∙ ap (λ rest. x ∷ rest) (all-above from x.place xs (omega (arith, lt, rises.0)) rises.1)

-- an item that does not lie above gives nothing
below-before : (from : ℕ) (x : Item Stepped) (beats : List KeptBeat) → x.place ≤ from → filter (is_above from) (before_beats x beats) ≡ filter (is_above from) beats
below-before from x [] le = cond-false (is_above from (beat_of_item x)) _ _ (le-ltb from x.place le)
below-before from x (beat ∷ beats) le =
    cond_both (x.place == beat.moment) _ _ (λ (bs : List KeptBeat). filter (is_above from) bs ≡ filter (is_above from) (beat ∷ beats))
    (λ is.
    let low : ltb from beat.moment ≡ false = le-ltb from beat.moment (omega (arith, le, eqb-true x.place beat.moment is)) in
    cond-false (ltb from beat.moment) _ _ low ∙ sym (cond-false (ltb from beat.moment) _ _ low))
    (λ _. cond-false (is_above from (beat_of_item x)) _ _ (le-ltb from x.place le))

-- the beats above a moment are those of the items above it
pub above-in : (from : ℕ) (xs : List (Item Stepped)) → AreOrdered xs → filter (is_above from) (beats_in xs) ≡ beats_in (filter (item_above from) xs)
above-in from [] ordered = refl
above-in from (x ∷ xs) ordered =
    elim (cases_Bool (item_above from x)) [
      | inl is ↦
          let low : from < x.place = omega (arith, leb-true (from + 1) x.place is) in
          let rises : RiseFrom x.place (x ∷ xs) = (omega arith, rises-ordered x xs ordered) in
          all-later from (beats_in (x ∷ xs)) (later-in from x.place (x ∷ xs) low rises) ∙ ap beats_in (sym (all-above from x.place (x ∷ xs) low rises))
      | inr out ↦
          below-before from x (beats_in xs) (omega (arith, leb-false (from + 1) x.place out))
          ∙ above-in from xs (ordered-tail x xs ordered)
          ∙ ap beats_in (sym (cond-false (item_above from x) _ _ out))
    ]

-- ---- part by part

module _ {S : Type 0} (f : S → List (Item Stepped)) (from : ℕ) where
  abbrev pub above : List S → List (Item Stepped)
  above segments = filter (item_above from) (flat_map f segments)

  pub above-more : (segments : List S) (i : ℕ) (s : S) → i < length segments → s ≡ get_or segments i s → above (take (i + 1) segments) ≡ above (take i segments) ++ filter (item_above from) (f s)
  above-more segments i s lt is = ap (filter (item_above from)) (flat_map-take f segments i s lt is) ∙ filter-append (item_above from) (flat_map f (take i segments)) (f s)

  pub above-split : (segments : List S) (i : ℕ) (s : S) → i < length segments → s ≡ get_or segments i s
      → above segments ≡ (above (take i segments) ++ filter (item_above from) (f s)) ++ above (drop (i + 1) segments)
  above-split segments i s lt is =
      ap (filter (item_above from)) (ap (flat_map f) (sym (take-append-drop (i + 1) segments)) ∙ flat_map-append f (take (i + 1) segments) (drop (i + 1) segments))
      ∙ filter-append (item_above from) (flat_map f (take (i + 1) segments)) (flat_map f (drop (i + 1) segments))
      ∙ ap (λ (zs : List (Item Stepped)). zs ++ above (drop (i + 1) segments)) (above-more segments i s lt is)

-- ---- a part more

module _ (most least : ℕ) (old mid new : List KeptBeat) (all done here rest : List (Item Stepped)) (split : all ≡ (done ++ here) ++ rest) (is : mid ≡ behind_all old done) where
  pub part-rises : RiseFrom (least_behind least old) all → RiseFrom (least_behind least mid) here
  part-rises rises =
      let prefix : RiseFrom (least_behind least old) (done ++ here) = rises-left (least_behind least old) (done ++ here) rest (subst (RiseFrom (least_behind least old)) split rises) in
      subst (λ (bs : List KeptBeat). RiseFrom (least_behind least bs) here) (sym is) (rises-on least old done here prefix)

  pub part-adds : (going : Bool) → going ≡ true → Adds most mid here new going → new ≡ behind_all old (done ++ here)
  part-adds going on adds =
      adds-more most old mid new done here true is (subst (λ (g : Bool). Adds most mid here new g) on adds)

  pub part-ends : (going : Bool) → going ≡ false → Adds most mid here new going → Adds most old all new false
  part-ends going off adds =
      subst (λ (zs : List (Item Stepped)). Adds most old zs new false) (sym split)
      (adds-whole most old new (done ++ here) rest (adds-more most old mid new done here false is (subst (λ (g : Bool). Adds most mid here new g) off adds)))

pub items-split : (items : List (Item Stepped)) (i : ℕ) (d : Item Stepped) → i < length items → items ≡ (take i items ++ get_or items i d ∷ []) ++ drop (i + 1) items
items-split items i d lt = sym (take-append-drop (i + 1) items) ∙ ap (λ (zs : List (Item Stepped)). zs ++ drop (i + 1) items) (take_more items i d lt)

-- those of all segments
pub all-above-split : (from : ℕ) (segments : KeptItems Stepped) (a b : List (Segment Stepped)) → a ++ b ≡ segments.sealed
    → filter (item_above from) (items_of segments) ≡ filter (item_above from) (items_in a) ++ (filter (item_above from) (items_in b) ++ filter (item_above from) segments.unsealed)
all-above-split from segments a b e =
    ap (filter (item_above from)) (segments-split segments a b e)
    ∙ filter-append (item_above from) (items_in a) (items_in b ++ segments.unsealed)
    ∙ ap (λ (zs : List (Item Stepped)). filter (item_above from) (items_in a) ++ zs) (filter-append (item_above from) (items_in b) segments.unsealed)
