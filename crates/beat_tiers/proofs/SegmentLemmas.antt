-- What is kept of the items of a tier stays what its cuts and groups say, where a later beat adds items.
use Rattle.std.proofs.Common.{◌≡◌, ℕ, zero, suc, ◌+◌, ◌-◌, ◌^◌, ◌<◌, ◌≤◌, min, true, nat_lt, List, [], ◌∷◌, ◌++◌, length, filter, map, reverse, take, inl, inr, Option, Some, None, slice_get, arith, refl, sym, ap, subst, ◌∙◌}
use Rattle.std.proofs.lemmas.Bool.{cases_lt, cond-true, cond-false, cond_both, and_right, lt-leb, lt-ltb, le-ltb, ltb-true}
use Rattle.std.proofs.lemmas.List.{length-append, length-map, length-reverse, map-append}
use Rattle.fixed_num.specs.declared.units.Record.{Record}
use Rattle.beat_tiers.specs.declared.item.Item.{Item}
use Rattle.beat_tiers.specs.declared.parts.Segment.{Segment}
use Rattle.beat_tiers.specs.declared.segments.ItemKind.{ItemKind}
use Rattle.beat_tiers.specs.declared.segments.ItemKind.TheVariants.{Records}
use Rattle.tier_settings.specs.declared.tier.Tier.{Tier}
use Rattle.beat_tiers.specs.Floors.{Cuts, cut_after, expired_of, floor_after, floor_in}
use Rattle.beat_tiers.specs.declared.parts.KeptItems.{KeptItems}
use Rattle.beat_tiers.specs.Segments.{ended, expired_from, floor_left, sealed_at, with_items as and_items, without_first}
use Rattle.beat_tiers.specs.Tiers.{Group, with_group, is_after, is_between_groups, items_in, AreSplit, AreSegmentsOf}
use Rattle.beat_tiers.proofs.GroupLemmas.{AreFalling, reverse_cons, items_cons, none_after, all_between}

-- ---- moments below another

abbrev pub AreLess : ℕ → List ℕ → Type 0
AreLess limit [] = Unit {0}
AreLess limit (x ∷ xs) = (x < limit) × AreLess limit xs

pub less_to : (low high : ℕ) (xs : List ℕ) → AreLess low xs → low ≤ high → AreLess high xs
less_to low high [] less le = tt
less_to low high (x ∷ xs) less le = (omega (arith, less.0), less_to low high xs less.1 le)

less-append : (limit : ℕ) (xs ys : List ℕ) → AreLess limit xs → AreLess limit ys → AreLess limit (xs ++ ys)
less-append limit [] ys less more = more
less-append limit (x ∷ xs) ys less more = (less.0, less-append limit xs ys less.1 more)

pub less-reverse : (limit : ℕ) (xs : List ℕ) → AreLess limit xs → AreLess limit (reverse xs)
less-reverse limit [] less = tt
less-reverse limit (x ∷ xs) less = subst (AreLess limit) (sym (reverse_cons x xs)) (less-append limit (reverse xs) (x ∷ []) (less-reverse limit xs less.1) (less.0, tt))

pub less-take : (limit n : ℕ) (xs : List ℕ) → AreLess limit xs → AreLess limit (take n xs)
less-take limit zero xs less = tt
less-take limit (suc n) [] less = tt
less-take limit (suc n) (x ∷ xs) less = (less.0, less-take limit n xs less.1)

less-get : (limit n : ℕ) (xs : List ℕ) → AreLess limit xs → is_after (slice_get xs n) limit ≡ true
less-get limit n [] less = refl
less-get limit zero (x ∷ xs) less = lt-ltb x limit less.0
less-get limit (suc n) (x ∷ xs) less = less-get limit n xs less.1

abbrev pub ends : {T : Type 0} → List (Segment T) → List ℕ
ends {T} sealed = map (λ (segment : Segment T). segment.sealed_at) sealed

-- ---- adding and sealing

-- a later group goes to the items since
split_more : {T : Type 0} (from : Option ℕ) (sealed : List (Segment T)) (unsealed : List (Item T)) (groups : List (Group T)) (group : Group T)
    → is_after from group.moment ≡ true → AreLess group.moment (ends sealed)
    → AreSplit from sealed unsealed groups → AreSplit from sealed (unsealed ++ group.items) (group ∷ groups)
split_more {T} from [] unsealed groups group after less split =
    let before : List (Group T) = filter (λ (group : Group T). is_after from group.moment) groups in
    let all : filter (λ (group : Group T). is_after from group.moment) (group ∷ groups) ≡ group ∷ before = cond-true _ _ _ after in
    ap (λ (xs : List (Item T)). xs ++ group.items) split ∙ sym (items_cons group before) ∙ ap items_in (sym all)
split_more {T} from (segment ∷ rest) unsealed groups group after less split =
    let same : filter (is_between_groups from segment.sealed_at) (group ∷ groups) ≡ filter (is_between_groups from segment.sealed_at) groups =
    cond-false _ _ _ (and_right _ _ (lt-leb group.moment segment.sealed_at less.0)) in (
      split.0 ∙ ap items_in (sym same),
      split.1,
      split.2,
      split_more (Some segment.sealed_at) rest unsealed groups group (lt-ltb segment.sealed_at group.moment less.0) less.1 split.3,
    )

-- the items since are sealed at a moment that is not before any group
split_sealed : {T : Type 0} (moment : ℕ) (from : Option ℕ) (sealed : List (Segment T)) (unsealed : List (Item T)) (groups : List (Group T))
    → AreFalling (moment + 1) groups → is_after from moment ≡ true → AreLess moment (ends sealed) → 1 ≤ length unsealed
    → AreSplit from sealed unsealed groups
    → AreSplit from (sealed ++ record { sealed_at = moment; items = unsealed } ∷ []) [] groups
split_sealed {T} moment from [] unsealed groups falls after less some split =
    let all : filter (is_between_groups from moment) groups ≡ filter (λ (group : Group T). is_after from group.moment) groups = all_between (moment + 1) from moment groups falls (omega arith) in
    let none : filter (λ (group : Group T). is_after (Some moment) group.moment) groups ≡ [] = none_after (moment + 1) moment groups falls (omega arith) in
    (split ∙ ap items_in (sym all), some, after, ap items_in (sym none))
split_sealed {T} moment from (segment ∷ rest) unsealed groups falls after less some split =
    (split.0, split.1, split.2, split_sealed moment (Some segment.sealed_at) rest unsealed groups falls (lt-ltb segment.sealed_at moment less.0) less.1 some split.3)

-- ---- what has expired

get_past : (xs : List ℕ) (n : ℕ) → length xs ≤ n → slice_get xs n ≡ None
get_past [] n le = refl
get_past (x ∷ xs) zero le = absurd (omega arith)
get_past (x ∷ xs) (suc n) le = get_past xs n (omega arith)

take_past : (xs : List ℕ) (n : ℕ) → length xs ≤ n → take n xs ≡ xs
take_past [] zero le = refl
take_past [] (suc n) le = refl
take_past (x ∷ xs) zero le = absurd (omega arith)
take_past (x ∷ xs) (suc n) le = ap (λ rest. x ∷ rest) (take_past xs n (omega arith))

-- the first that are kept, with the one after them
record Further (xs : List ℕ) (n : ℕ) : Type 0 where
  one : ℕ
  is : slice_get xs n ≡ Some one
  all : reverse (take (suc n) xs) ≡ one ∷ reverse (take n xs)

further : (xs : List ℕ) (n : ℕ) → n < length xs → Further xs n
further [] n lt = absurd (omega arith)
further (x ∷ xs) zero lt = record { one = x; is = refl; all = refl }
further (x ∷ xs) (suc n) lt =
    let rest : Further xs n = further xs n (omega arith) in
    record {
      one = rest.one;
      is = rest.is;
      all = reverse_cons x (take (suc n) xs) ∙ ap (λ (ys : List ℕ). ys ++ x ∷ []) rest.all ∙ ap (λ (ys : List ℕ). rest.one ∷ ys) (sym (reverse_cons x (take n xs)));
    }

-- tiers of this kind and number have the same floor where a segment of an earlier moment has expired
abbrev pub AreOfKind : ItemKind → ℕ → Tier → Type 0
AreOfKind kind number tier = (moment : ℕ) → moment + 1 < 2 ^ 32 → floor_left kind tier moment ≡ floor_after number tier moment

-- a segment more, of which the first is dropped where there are too many
record AreKept {T : Type 0} (number : ℕ) (tier : Tier) (cut : List ℕ) (groups : List (Group T)) (segments : KeptItems T) : Type 0 where
  floor : segments.floor ≡ floor_in number tier (slice_get cut tier.extents)
  sealed : ends segments.sealed ≡ reverse (take tier.extents cut)
  none : segments.unsealed ≡ []
  split : AreSplit (slice_get cut tier.extents) segments.sealed segments.unsealed groups

ends_push : {T : Type 0} (sealed : List (Segment T)) (one : Segment T) → ends (sealed ++ one ∷ []) ≡ ends sealed ++ one.sealed_at ∷ []
ends_push {T} sealed one = map-append (λ (segment : Segment T). segment.sealed_at) sealed (one ∷ [])

-- a tier that keeps one sealed segment and this many more
abbrev keeping : ℕ → ℕ → ℕ → Tier
keeping width items more = record { width = width; items = items; extents = suc more }

-- the first of those after the one more
dropped : {T : Type 0} (kind : ItemKind) (number width items e : ℕ) (cut : List ℕ) (moment : ℕ) (groups : List (Group T)) (segments : KeptItems T) (all : List (Segment T)) → e < length cut
    → AreOfKind kind number (keeping width items e) → AreLess moment cut → moment < 2 ^ 32
    → segments.unsealed ≡ [] → ends all ≡ reverse (take (suc e) cut) ++ moment ∷ []
    → AreSplit (slice_get cut (suc e)) all segments.unsealed groups
    → AreKept number (keeping width items e) (moment ∷ cut) groups (without_first kind (keeping width items e) segments all)
dropped {T} kind number width items e cut moment groups segments [] lt same less short none are split =
    let rest : Further cut e = further cut e lt in
    let both : ends {T = T} [] ≡ rest.one ∷ reverse (take e cut) ++ moment ∷ [] = are ∙ ap (λ (ys : List ℕ). ys ++ moment ∷ []) rest.all in
    absurd (cc)
dropped {T} kind number width items e cut moment groups segments (first ∷ others) lt same less short none are split =
    let rest : Further cut e = further cut e lt in
    let both : first.sealed_at ∷ ends others ≡ rest.one ∷ (reverse (take e cut) ++ moment ∷ []) = are ∙ ap (λ (ys : List ℕ). ys ++ moment ∷ []) rest.all in
    let one : first.sealed_at ≡ rest.one = cc in
    let more : ends others ≡ reverse (take e cut) ++ moment ∷ [] = cc in
    let here : Some first.sealed_at ≡ slice_get cut e = ap Some one ∙ sym rest.is in
    let low : first.sealed_at < moment = ltb-true first.sealed_at moment (subst (λ (o : Option ℕ). is_after o moment ≡ true) (sym here) (less-get moment e cut less)) in
    record {
      floor = same first.sealed_at (omega (arith, low, short)) ∙ ap (floor_in number (keeping width items e)) here;
      sealed = more ∙ sym (reverse_cons moment (take e cut));
      none = none;
      split = subst (λ (o : Option ℕ). AreSplit o others segments.unsealed groups) here split.3;
    }

kept_all : {T : Type 0} (number width items e : ℕ) (cut : List ℕ) (moment : ℕ) (groups : List (Group T)) (segments : KeptItems T) → length cut ≤ e
    → segments.floor ≡ floor_in number (keeping width items e) (slice_get cut (suc e))
    → segments.unsealed ≡ [] → ends segments.sealed ≡ reverse (take (suc e) cut) ++ moment ∷ []
    → AreSplit (slice_get cut (suc e)) segments.sealed segments.unsealed groups
    → AreKept number (keeping width items e) (moment ∷ cut) groups segments
kept_all number width items e cut moment groups segments le was none are split =
    let still : slice_get cut (suc e) ≡ slice_get cut e = get_past cut (suc e) (omega arith) ∙ sym (get_past cut e le) in
    record {
      floor = was ∙ ap (floor_in number (keeping width items e)) still;
      sealed = are ∙ ap (λ (ys : List ℕ). reverse ys ++ moment ∷ []) (take_past cut (suc e) (omega arith) ∙ sym (take_past cut e le)) ∙ sym (reverse_cons moment (take e cut));
      none = none;
      split = subst (λ (o : Option ℕ). AreSplit o segments.sealed segments.unsealed groups) still split;
    }

pub length_take : (xs : List ℕ) (n : ℕ) → length (take n xs) ≡ min n (length xs)
length_take xs zero = omega arith
length_take [] (suc n) = omega arith
length_take (x ∷ xs) (suc n) = omega (arith, length_take xs n)

kept_after : {T : Type 0} (kind : ItemKind) (number width items extents : ℕ) (cut : List ℕ) (moment : ℕ) (groups : List (Group T)) (segments : KeptItems T) → 1 ≤ extents
    → AreOfKind kind number (record { width = width; items = items; extents = extents }) → AreLess moment cut → moment < 2 ^ 32
    → segments.floor ≡ floor_in number (record { width = width; items = items; extents = extents }) (slice_get cut extents)
    → segments.unsealed ≡ [] → ends segments.sealed ≡ reverse (take extents cut) ++ moment ∷ []
    → AreSplit (slice_get cut extents) segments.sealed segments.unsealed groups
    → AreKept number (record { width = width; items = items; extents = extents }) (moment ∷ cut) groups (expired_from kind (record { width = width; items = items; extents = extents }) segments)
kept_after kind number width items zero cut moment groups segments some same less short was none are split = absurd (omega arith)
kept_after {T} kind number width items (suc e) cut moment groups segments some same less short was none are split =
    let size : length segments.sealed ≡ min (suc e) (length cut) + 1 =
    sym (length-map segments.sealed (λ (segment : Segment T). segment.sealed_at)) ∙ ap length are
    ∙ (length-append (reverse (take (suc e) cut)) (moment ∷ []))
    ∙ ap (λ n. n + 1) (length-reverse (take (suc e) cut) ∙ length_take cut (suc e)) in
    elim (cases_lt e (length cut)) [
      | inl lt ↦ subst (AreKept number (keeping width items e) (moment ∷ cut) groups) (sym (cond-true _ _ _ (lt-ltb (suc e) (length segments.sealed) (omega arith))))
          (dropped kind number width items e cut moment groups segments segments.sealed lt same less short none are split)
      | inr ge ↦ subst (AreKept number (keeping width items e) (moment ∷ cut) groups) (sym (cond-false _ _ _ (le-ltb (suc e) (length segments.sealed) (omega arith))))
          (kept_all number width items e cut moment groups segments ge was none are split)
    ]

-- how many were sealed stays where one expires
count_expired : {T : Type 0} (kind : ItemKind) (tier : Tier) (segments : KeptItems T) → (expired_from kind tier segments).count ≡ segments.count
count_expired {T} kind tier segments =
    cond_both (nat_lt tier.extents (length segments.sealed)) (without_first kind tier segments segments.sealed) segments (λ (s : KeptItems T). s.count ≡ segments.count) (λ _. first segments.sealed) (λ _. refl)
  where
    first : (all : List (Segment T)) → (without_first kind tier segments all).count ≡ segments.count
    first [] = refl
    first (one ∷ rest) = refl

-- ---- a beat more

-- what becomes of the segments with the items of a beat, where it has some
abbrev pub given : {T : Type 0} → ItemKind → Tier → ℕ → List (Item T) → KeptItems T → KeptItems T
given kind tier moment [] segments = segments
given kind tier moment (item ∷ items) segments = ended kind tier moment (and_items segments (item ∷ items))

ended_more : {T : Type 0} (kind : ItemKind) (number : ℕ) (tier : Tier) (cuts : Cuts) (group : Group T) (groups : List (Group T)) (segments : KeptItems T)
    → 1 ≤ tier.extents → AreOfKind kind number tier → AreFalling group.moment groups → AreLess group.moment cuts.sealed → length cuts.sealed ≤ group.moment → group.moment < 2 ^ 32
    → 1 ≤ length group.items → AreSegmentsOf number tier cuts groups segments
    → AreSegmentsOf number tier (cut_after tier (Some group.moment) (length group.items) cuts) (group ∷ groups) (ended kind tier group.moment (and_items segments group.items))
ended_more {T} kind number tier cuts group groups segments some same falls less room short filled are =
    let size : length (segments.unsealed ++ group.items) ≡ cuts.since + length group.items = length-append segments.unsealed group.items ∙ ap (λ n. n + length group.items) are.since in
    let before : is_after (expired_of tier cuts) group.moment ≡ true = less-get group.moment tier.extents cuts.sealed less in
    let below : AreLess group.moment (ends segments.sealed) =
    subst (AreLess group.moment) (sym are.sealed) (less-reverse group.moment (take tier.extents cuts.sealed) (less-take group.moment tier.extents cuts.sealed less)) in
    let split : AreSplit (expired_of tier cuts) segments.sealed (segments.unsealed ++ group.items) (group ∷ groups) =
    split_more (expired_of tier cuts) segments.sealed segments.unsealed groups group before below are.split in
    let together : KeptItems T = and_items segments group.items in
    let now : KeptItems T = sealed_at group.moment together in
    let more : min (segments.count + 1) (2 ^ 64 - 1) ≡ length (group.moment ∷ cuts.sealed) = omega (arith, are.count, room, short) in
    let P : Cuts → KeptItems T → Type 0 = λ cuts segments. AreSegmentsOf number tier cuts (group ∷ groups) segments in
    elim (cases_lt (cuts.since + length group.items) tier.items) [
      | inl lt ↦
          subst (λ (c : Cuts). P c (ended kind tier group.moment together)) (sym (cond-true _ _ _ (lt-ltb (cuts.since + length group.items) tier.items lt)))
          (subst (λ (s : KeptItems T). P (record cuts { since = cuts.since + length group.items }) s)
          (sym (cond-true _ _ _ (lt-ltb (length (segments.unsealed ++ group.items)) tier.items (omega arith))))
          (record { floor = are.floor; sealed = are.sealed; count = are.count; since = size; split = split }))
      | inr ge ↦
          let kept : AreKept number tier (group.moment ∷ cuts.sealed) (group ∷ groups) (expired_from kind tier now) =
          kept_after kind number tier.width tier.items tier.extents cuts.sealed group.moment (group ∷ groups) now some same less short are.floor refl
          (ends_push segments.sealed (record { sealed_at = group.moment; items = together.unsealed }) ∙ ap (λ (xs : List ℕ). xs ++ group.moment ∷ []) are.sealed)
          (split_sealed group.moment (expired_of tier cuts) segments.sealed (segments.unsealed ++ group.items) (group ∷ groups) (omega arith, falls) before below (omega (arith, size, filled)) split) in
          subst (λ (c : Cuts). P c (ended kind tier group.moment together)) (sym (cond-false _ _ _ (le-ltb (cuts.since + length group.items) tier.items ge)))
          (subst (λ (s : KeptItems T). P (record { sealed = group.moment ∷ cuts.sealed; since = 0 }) s)
          (sym (cond-false _ _ _ (le-ltb (length (segments.unsealed ++ group.items)) tier.items (omega arith))))
          (record { floor = kept.floor; sealed = kept.sealed; count = count_expired kind tier now ∙ more; since = ap length kept.none; split = kept.split }))
    ]

-- The segments of a tier with the items of a beat behind all before.
pub given_more : {T : Type 0} (kind : ItemKind) (number : ℕ) (tier : Tier) (cuts : Cuts) (moment : ℕ) (items : List (Item T)) (groups : List (Group T)) (segments : KeptItems T)
    → 1 ≤ tier.extents → AreOfKind kind number tier → cuts.since < tier.items → AreFalling moment groups → AreLess moment cuts.sealed → length cuts.sealed ≤ moment → moment < 2 ^ 32
    → AreSegmentsOf number tier cuts groups segments
    → AreSegmentsOf number tier (cut_after tier (Some moment) (length items) cuts) (with_group moment items groups) (given kind tier moment items segments)
given_more {T} kind number tier cuts moment [] groups segments some same few falls less room short are =
    let still : cuts.since + 0 ≡ cuts.since = omega arith in
    let none : cut_after tier (Some moment) 0 cuts ≡ cuts = cond-true _ _ _ (lt-ltb (cuts.since + 0) tier.items (omega arith)) ∙ ap (λ n. record cuts { since = n }) still in
    subst (λ (c : Cuts). AreSegmentsOf number tier c groups segments) (sym none) are
given_more kind number tier cuts moment (item ∷ items) groups segments some same few falls less room short are =
    ended_more kind number tier cuts (record { moment = moment; items = item ∷ items }) groups segments some same falls less room short (omega arith) are

-- no beats are counted of records
expired_uncounted : (tier : Tier) (segments : KeptItems Record) → segments.before ≡ 0 → (expired_from Records tier segments).before ≡ 0
expired_uncounted tier segments none =
    cond_both (nat_lt tier.extents (length segments.sealed)) (without_first Records tier segments segments.sealed) segments (λ (s : KeptItems Record). s.before ≡ 0) (λ _. first segments.sealed) (λ _. none)
  where
    first : (all : List (Segment Record)) → (without_first Records tier segments all).before ≡ 0
    first [] = none
    first (one ∷ rest) = omega (arith, none)

pub given_uncounted : (tier : Tier) (moment : ℕ) (items : List (Item Record)) (segments : KeptItems Record) → segments.before ≡ 0 → (given Records tier moment items segments).before ≡ 0
given_uncounted tier moment [] segments none = none
given_uncounted tier moment (item ∷ items) segments none =
    let together : KeptItems Record = and_items segments (item ∷ items) in
    cond_both (nat_lt (length together.unsealed) tier.items) together (expired_from Records tier (sealed_at moment together)) (λ (s : KeptItems Record). s.before ≡ 0)
    (λ _. none) (λ _. expired_uncounted tier (sealed_at moment together) none)
