-- A tier in form stays so with the items of a beat more, of which it seals one segment at most.
use Rattle.std.proofs.Common.{◌≡◌, ℕ, ◌+◌, ◌<◌, ◌≤◌, ◌&&◌, true, false, nat_le, nat_lt, List, [], ◌∷◌, ◌++◌, drop, length, take, None, arith, refl, sym, ap, subst, ◌∙◌, append_assoc, append-nil}
use Rattle.std.specs.List.{AllByRecursion}
use Rattle.std.proofs.lemmas.Bool.{and_from, and_parts, cond_both, le-leb, leb-true, lt-ltb, ltb-false, ltb-true}
use Rattle.std.proofs.lemmas.List.{length-append}
use Rattle.std.proofs.lemmas.List.Concat.{flat_map-append}
use Rattle.tier_settings.specs.declared.tier.Tier.{Tier}
use Rattle.beat_tiers.specs.declared.item.Item.{Item}
use Rattle.beat_tiers.specs.declared.parts.KeptItems.{KeptItems}
use Rattle.beat_tiers.specs.declared.parts.Segment.{Segment}
use Rattle.beat_tiers.specs.declared.segments.ItemKind.{ItemKind}
use Rattle.beat_tiers.specs.Parts.{are_kept, are_sealed, is_sealed}
use Rattle.beat_tiers.specs.Searching.{HasItems, items_in}
use Rattle.beat_tiers.specs.Segments.{ended, expired_from, items_of, sealed_at, with_items, without_first}
use Rattle.beat_tiers.specs.Sound.{passed, IsSealedBy, SealsAtMostOne}
use Rattle.beat_tiers.specs.Tiers.{AreOrdered}
use Rattle.beat_tiers.proofs.GivenLemmas.{AreAt, AreBelow, at_below, below-append, below_to, ordered-append}
use Rattle.beat_tiers.proofs.Ordered.{ordered-right}
use Rattle.beat_tiers.proofs.RestoreLemmas.{below-all, ordered-all, placed-all}
use Rattle.beat_tiers.proofs.SegmentLemmas.{given}

-- what holds of each element holds of those behind others
pub all-right : {A : Type 0} (P : A → Type 0) (xs ys : List A) → AllByRecursion P (xs ++ ys) → AllByRecursion P ys
all-right P [] ys all = all
all-right P (x ∷ xs) ys all = all-right P xs ys all.1

-- a list ends with another
pub record EndsWith {A : Type 0} (whole end : List A) : Type 0 where
  pub prefix : List A
  pub is : prefix ++ end ≡ whole

module _ {T : Type 0} where
  below-right : (limit : ℕ) (xs ys : List (Item T)) → AreBelow limit (xs ++ ys) → AreBelow limit ys
  below-right limit [] ys below = below
  below-right limit (x ∷ xs) ys below = below-right limit xs ys below.1

  -- ---- moments of sealing

  sealed-low : (low high last : ℕ) (sealed : List (Segment T)) → are_sealed high last sealed ≡ true → low ≤ high → are_sealed low last sealed ≡ true
  sealed-low low high last [] are le = refl
  sealed-low low high last (segment ∷ sealed) are le =
      let parts = and_parts (is_sealed high last segment) _ are in
      let here = and_parts (nat_lt 0 (length segment.items) && nat_le high segment.sealed_at) _ parts.0 in
      let some = and_parts (nat_lt 0 (length segment.items)) _ here.0 in
      let least = leb-true high segment.sealed_at some.1 in
      and_from _ _ (and_from _ _ (and_from _ _ some.0 (le-leb low segment.sealed_at (omega (arith, least, le)))) here.1) parts.1

  sealed-to : (least last moment : ℕ) (sealed : List (Segment T)) → are_sealed least last sealed ≡ true → last ≤ moment → are_sealed least moment sealed ≡ true
  sealed-to least last moment [] are le = refl
  sealed-to least last moment (segment ∷ sealed) are le =
      let parts = and_parts (is_sealed least last segment) _ are in
      let here = and_parts (nat_lt 0 (length segment.items) && nat_le least segment.sealed_at) _ parts.0 in
      let most = leb-true segment.sealed_at last here.1 in
      and_from _ _ (and_from _ _ here.0 (le-leb segment.sealed_at moment (omega (arith, most, le)))) (sealed-to (segment.sealed_at + 1) last moment sealed parts.1 le)

  sealed-push : (least last moment : ℕ) (sealed : List (Segment T)) (segment : Segment T) → are_sealed least last sealed ≡ true → last < moment → least ≤ moment → HasItems segment
      → segment.sealed_at ≡ moment → are_sealed least moment (sealed ++ segment ∷ []) ≡ true
  sealed-push least last moment [] segment are lt le some at =
      and_from _ _
      (and_from _ _ (and_from _ _ (lt-ltb 0 (length segment.items) (omega (arith, some))) (le-leb least segment.sealed_at (omega (arith, le, at)))) (le-leb segment.sealed_at moment (omega (arith, at))))
      refl
  sealed-push least last moment (first ∷ sealed) segment are lt le some at =
      let parts = and_parts (is_sealed least last first) _ are in
      let here = and_parts (nat_lt 0 (length first.items) && nat_le least first.sealed_at) _ parts.0 in
      let most = leb-true first.sealed_at last here.1 in
      and_from _ _ (and_from _ _ here.0 (le-leb first.sealed_at moment (omega (arith, most, lt))))
      (sealed-push (first.sealed_at + 1) last moment sealed segment parts.1 lt (omega (arith, most, lt)) some at)

  -- ---- a tier in form

  pub record IsKept (tier : Tier) (last limit : ℕ) (kept : KeptItems T) : Type 0 where
    pub most : length kept.sealed ≤ tier.extents
    pub few : length kept.unsealed < tier.items
    pub sealed : are_sealed 0 last kept.sealed ≡ true
    pub ordered : AreOrdered (items_of kept)
    pub below : AreBelow limit (items_of kept)

  pub is-kept : (tier : Tier) (last limit : ℕ) (kept : KeptItems T) → are_kept tier last limit kept ≡ true → IsKept tier last limit kept
  is-kept tier last limit kept are =
      let parts = and_parts (nat_le (length kept.sealed) tier.extents && nat_lt (length kept.unsealed) tier.items && are_sealed 0 last kept.sealed) _ are in
      let lists = and_parts (nat_le (length kept.sealed) tier.extents && nat_lt (length kept.unsealed) tier.items) _ parts.0 in
      let counts = and_parts (nat_le (length kept.sealed) tier.extents) _ lists.0 in
      record {
        most = leb-true (length kept.sealed) tier.extents counts.0;
        few = ltb-true (length kept.unsealed) tier.items counts.1;
        sealed = lists.1;
        ordered = ordered-all limit (items_of kept) parts.1;
        below = below-all limit None (items_of kept) parts.1;
      }

  pub kept-is : (tier : Tier) (last limit : ℕ) (kept : KeptItems T) → IsKept tier last limit kept → are_kept tier last limit kept ≡ true
  kept-is tier last limit kept is =
      and_from _ _
      (and_from _ _ (and_from _ _ (le-leb (length kept.sealed) tier.extents is.most) (lt-ltb (length kept.unsealed) tier.items is.few)) is.sealed)
      (placed-all limit (items_of kept) is.ordered is.below)

  -- ---- a beat that gave items has ended

  -- what stands of a tier before it seals what a beat of this moment gave
  pub record IsToEnd (tier : Tier) (last moment : ℕ) (kept : KeptItems T) : Type 0 where
    pub later : last < moment
    pub extents : 1 ≤ tier.extents
    pub most : length kept.sealed ≤ tier.extents
    pub sealed : are_sealed 0 last kept.sealed ≡ true
    pub some : 1 ≤ length kept.unsealed
    pub bound : length kept.unsealed < tier.items + 65536

  -- what stands of it then
  pub record IsEnded (kind : ItemKind) (tier : Tier) (moment : ℕ) (kept now : KeptItems T) : Type 0 where
    pub items : EndsWith (items_of kept) (items_of now)
    pub most : length now.sealed ≤ tier.extents
    pub few : length now.unsealed < tier.items
    pub sealed : are_sealed 0 moment now.sealed ≡ true
    pub seals : SealsAtMostOne kind tier moment kept now

  none-sealed : (kind : ItemKind) (tier : Tier) (moment : ℕ) (kept : KeptItems T) → SealsAtMostOne kind tier moment kept kept
  none-sealed kind tier moment kept = record {
    goes_on = record {
      new = [];
      gone = 0;
      each = tt;
      within = omega arith;
      sealed = sym (append-nil kept.sealed);
      before = refl;
      count = λ short. omega arith;
    };
    one = omega arith;
  }

  -- what was kept is read but for the items since and the floor
  seals-same : (kind : ItemKind) (tier : Tier) (moment : ℕ) (kept now : KeptItems T) (items : List (Item T)) → SealsAtMostOne kind tier moment (with_items kept items) now
      → SealsAtMostOne kind tier moment kept now
  seals-same kind tier moment kept now items seals = record {
    goes_on = record {
      new = seals.goes_on.new;
      gone = seals.goes_on.gone;
      each = seals.goes_on.each;
      within = seals.goes_on.within;
      sealed = seals.goes_on.sealed;
      before = seals.goes_on.before;
      count = seals.goes_on.count;
    };
    one = seals.one;
  }

  module _ (kind : ItemKind) (tier : Tier) (last moment : ℕ) (kept : KeptItems T) (items : 1 ≤ tier.items) (is : IsToEnd tier last moment kept) where
    abbrev one : Segment T
    one = record { sealed_at = moment; items = kept.unsealed }

    abbrev cut : KeptItems T
    cut = sealed_at moment kept

    cut-items : items_of cut ≡ items_of kept
    cut-items =
        append-nil (items_in cut.sealed)
        ∙ flat_map-append (λ (segment : Segment T). segment.items) kept.sealed (one ∷ [])
        ∙ ap (λ (end : List (Item T)). items_in kept.sealed ++ end) (append-nil kept.unsealed)

    cut-sealed : are_sealed 0 moment cut.sealed ≡ true
    cut-sealed = sealed-push 0 last moment kept.sealed one is.sealed is.later (omega arith) is.some refl

    cut-length : length cut.sealed ≡ length kept.sealed + 1
    cut-length = length-append kept.sealed (one ∷ [])

    one-sealed : AllByRecursion (IsSealedBy tier moment) (one ∷ [])
    one-sealed = ((refl, is.bound), tt)

    first-gone : (all : List (Segment T)) → all ≡ cut.sealed → IsEnded kind tier moment kept (without_first kind tier cut all)
    first-gone [] same = absurd (let none = ap length same in omega (arith, none, cut-length))
    first-gone (first ∷ rest) same =
        let size = ap length same in
        let parts = and_parts (is_sealed 0 moment first) _ (ap (are_sealed 0 moment) same ∙ cut-sealed) in
        record {
          items = record {
            prefix = first.items;
            is = sym (append_assoc first.items (items_in rest) []) ∙ ap (λ (all : List (Segment T)). items_in all ++ []) same ∙ cut-items;
          };
          most = omega (arith, size, cut-length, is.most);
          few = omega (arith, items);
          sealed = sealed-low 0 (first.sealed_at + 1) moment rest parts.1 (omega arith);
          seals = record {
            goes_on = record {
              new = one ∷ [];
              gone = 1;
              each = one-sealed;
              within = omega arith;
              sealed = ap (drop 1) same;
              before = ap (λ (all : List (Segment T)). passed kind kept.before (take 1 all)) same;
              count = λ short. refl;
            };
            one = omega arith;
          };
        }

    all-stay : nat_lt tier.extents (length cut.sealed) ≡ false → IsEnded kind tier moment kept cut
    all-stay fits = record {
      items = record { prefix = []; is = cut-items };
      most = ltb-false tier.extents (length cut.sealed) fits;
      few = omega (arith, items);
      sealed = cut-sealed;
      seals = record {
        goes_on = record { new = one ∷ []; gone = 0; each = one-sealed; within = omega arith; sealed = refl; before = refl; count = λ short. refl };
        one = omega arith;
      };
    }

    pub ended-is : IsEnded kind tier moment kept (ended kind tier moment kept)
    ended-is =
        cond_both (nat_lt (length kept.unsealed) tier.items) kept (expired_from kind tier cut) (IsEnded kind tier moment kept)
        (λ few. record {
          items = record { prefix = []; is = refl };
          most = is.most;
          few = ltb-true (length kept.unsealed) tier.items few;
          sealed = sealed-to 0 last moment kept.sealed is.sealed (omega (arith, is.later));
          seals = none-sealed kind tier moment kept;
        })
        (λ enough. cond_both (nat_lt tier.extents (length cut.sealed)) (without_first kind tier cut cut.sealed) cut (IsEnded kind tier moment kept) (λ more. first-gone cut.sealed refl) all-stay)

  -- ---- the items of a beat

  -- the items that a beat gives to a tier may be put behind those that it keeps
  pub record AreGiven (limit high place : ℕ) (items : List (Item T)) : Type 0 where
    pub above : limit ≤ place
    pub below : place < high
    pub at : AreAt place 0 items
    pub few : length items ≤ 65536

  pub record IsGiven (kind : ItemKind) (tier : Tier) (moment limit : ℕ) (was now : KeptItems T) (items : List (Item T)) : Type 0 where
    pub kept : IsKept tier moment limit now
    pub ends : EndsWith (items_of was ++ items) (items_of now)
    pub seals : SealsAtMostOne kind tier moment was now

  pub given-none : (kind : ItemKind) (tier : Tier) (last moment limit high : ℕ) (kept : KeptItems T) → IsKept tier last limit kept → last ≤ moment → limit ≤ high → IsGiven kind tier moment high kept kept []
  given-none kind tier last moment limit high kept is le rises = record {
    kept = record {
      most = is.most;
      few = is.few;
      sealed = sealed-to 0 last moment kept.sealed is.sealed le;
      ordered = is.ordered;
      below = below_to limit high (items_of kept) is.below rises;
    };
    ends = record { prefix = []; is = sym (append-nil (items_of kept)) };
    seals = none-sealed kind tier moment kept;
  }

  pub given-is : (kind : ItemKind) (tier : Tier) (last moment limit high place : ℕ) (kept : KeptItems T) (items : List (Item T)) → 1 ≤ tier.items → 1 ≤ tier.extents → last < moment
      → IsKept tier last limit kept → AreGiven limit high place items → IsGiven kind tier moment high kept (given kind tier moment items kept) items
  given-is kind tier last moment limit high place kept [] some keeps later is are = given-none kind tier last moment limit high kept is (omega (arith, later)) (omega (arith, are.above, are.below))
  given-is kind tier last moment limit high place kept (item ∷ items) some keeps later is are =
      let all : List (Item T) = item ∷ items in
      let together : KeptItems T = with_items kept all in
      let size : length together.unsealed ≡ length kept.unsealed + length all = length-append kept.unsealed all in
      let whole : items_of together ≡ items_of kept ++ all = sym (append_assoc (items_in kept.sealed) kept.unsealed all) in
      let before : AreBelow place (items_of kept) = below_to limit place (items_of kept) is.below are.above in
      let ordered : AreOrdered (items_of kept ++ all) = ordered-append place 0 (items_of kept) all is.ordered before are.at in
      let below : AreBelow high (items_of kept ++ all) =
      below-append high (items_of kept) all (below_to place high (items_of kept) before (omega (arith, are.below))) (at_below place 0 high all are.at are.below) in
      let end : IsEnded kind tier moment together (ended kind tier moment together) = ended-is kind tier last moment together some
      (record { later = later; extents = keeps; most = is.most; sealed = is.sealed; some = omega (arith, size); bound = omega (arith, size, is.few, are.few) }) in
      let now : KeptItems T = ended kind tier moment together in
      let split : end.items.prefix ++ items_of now ≡ items_of kept ++ all = end.items.is ∙ whole in
      record {
        kept = record {
          most = end.most;
          few = end.few;
          sealed = end.sealed;
          ordered = ordered-right end.items.prefix (items_of now) (subst AreOrdered (sym split) ordered);
          below = below-right high end.items.prefix (items_of now) (subst (AreBelow high) (sym split) below);
        };
        ends = record { prefix = end.items.prefix; is = split };
        seals = seals-same kind tier moment kept now all end.seals;
      }
