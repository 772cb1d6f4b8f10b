-- Segments are read one after the other.
use Rattle.std.proofs.Common.{◌≡◌, ℕ, suc, arith, ◌+◌, ◌<◌, List, [], ◌∷◌, ◌++◌, length, drop, get_or, Some, None, sym, ap, refl, ◌∙◌, subst, append_assoc, append-nil, add-one, drop-cons, Option}
use Rattle.std.specs.List.{AllByRecursion}
use Rattle.std.proofs.lemmas.Option.{same_Some}
use Rattle.beat_tiers.specs.declared.item.Item.{Item}
use Rattle.beat_tiers.specs.declared.parts.Segment.{Segment}
use Rattle.checkpoint_body.specs.declared.body.Extent.{Extent}
use Rattle.store_core.specs.bodies.Reading.{AreSegmentsIn, IsInOrder, IsSegmentIn}
use Rattle.store_core.specs.bodies.Segments.{next_number}

-- the list behind a place, by its first element
pub drop-first : {X : Type 0} (xs : List X) (index : ℕ) (x : X) → index < length xs → x ≡ get_or xs index x → drop index xs ≡ x ∷ drop (index + 1) xs
drop-first xs index x lt is = drop-cons xs index x lt ∙ ap (λ one. one ∷ drop (suc index) xs) (sym is) ∙ ap (λ n. x ∷ drop n xs) (sym (add-one index))

module _ {Page T : Type 0} (AreItemsOf : List Page → List (Item T) → Type 0) (beats_in : List (Item T) → ℕ) where
  abbrev AreOf : Option ℕ → ℕ → List Extent → List (List Page) → List (Segment T) → Type 0
  AreOf = AreSegmentsIn AreItemsOf beats_in

  -- these segments begin all those that extents with their pages may be of, and others are those of the extents ahead
  pub record HaveRead (serial : Option ℕ) (beats : ℕ) (extents : List Extent) (kept : List (List Page)) (read : List (Segment T)) (now : Option ℕ) (before : ℕ) (ahead : List Extent) (others : List (List Page)) : Type 0 where
    pub found : (rest : List (Segment T)) → AreOf now before ahead others rest → AreOf serial beats extents kept (read ++ rest)
    pub one : (all : List (Segment T)) → AllByRecursion IsInOrder all → AreOf serial beats extents kept all
        → (rest : List (Segment T)) × (all ≡ read ++ rest) × AllByRecursion IsInOrder rest × AreOf now before ahead others rest

  pub read-none : (serial : Option ℕ) (beats : ℕ) (extents : List Extent) (kept : List (List Page)) → HaveRead serial beats extents kept [] serial beats extents kept
  read-none serial beats extents kept = record { found = λ rest are. are; one = λ all order are. (all, refl, order, are) }

  -- the first of the segments of the extents ahead
  first-of : (now : Option ℕ) (before : ℕ) (extent : Extent) (ahead : List Extent) (pages : List Page) (others : List (List Page)) (rest : List (Segment T)) → AllByRecursion IsInOrder rest
      → AreOf now before (extent ∷ ahead) (pages ∷ others) rest
      → (segment : Segment T) × (more : List (Segment T)) × (rest ≡ segment ∷ more) × IsInOrder segment × AllByRecursion IsInOrder more
      × IsSegmentIn AreItemsOf beats_in now before extent pages segment × AreOf (next_number now) extent.beats ahead others more
  first-of now before extent ahead pages others [] order are = absurd are
  first-of now before extent ahead pages others (segment ∷ more) order are = (segment, more, refl, order.0, order.1, are.0, are.1)

  module _ (serial : Option ℕ) (beats : ℕ) (extents : List Extent) (kept : List (List Page)) (read : List (Segment T)) (now : Option ℕ) (before : ℕ) (ahead : List Extent) (others : List (List Page))
      (have : HaveRead serial beats extents kept read now before ahead others) where
    module _ (extent : Extent) (more : List Extent) (pages : List Page) (rest : List (List Page)) (first : ahead ≡ extent ∷ more) (next : others ≡ pages ∷ rest) where
      there : (segments : List (Segment T)) → AreOf now before ahead others segments → AreOf now before (extent ∷ more) (pages ∷ rest) segments
      there segments are =
          subst (λ (ps : List (List Page)). AreOf now before (extent ∷ more) ps segments) next
          (subst (λ (es : List Extent). AreOf now before es others segments) first are)

      back : (segments : List (Segment T)) → AreOf now before (extent ∷ more) (pages ∷ rest) segments → AreOf now before ahead others segments
      back segments are =
          subst (λ (es : List Extent). AreOf now before es others segments) (sym first)
          (subst (λ (ps : List (List Page)). AreOf now before (extent ∷ more) ps segments) (sym next) are)

      -- one more segment was read
      pub read-more : (segment : Segment T) (longer : List (Segment T)) → longer ≡ read ++ segment ∷ [] → IsSegmentIn AreItemsOf beats_in now before extent pages segment
          → ((other : Segment T) → IsInOrder other → IsSegmentIn AreItemsOf beats_in now before extent pages other → Some segment ≡ Some other)
          → HaveRead serial beats extents kept longer (next_number now) extent.beats more rest
      read-more segment longer put is same = record {
        found = λ behind are.
            subst (AreOf serial beats extents kept) (sym (ap (λ (all : List (Segment T)). all ++ behind) put ∙ append_assoc read (segment ∷ []) behind))
            (have.found (segment ∷ behind) (back (segment ∷ behind) (is, are)));
        one = λ all order are.
            let split = have.one all order are in
            let here = first-of now before extent more pages rest split.0 split.2 (there split.0 split.3) in
            let equal = same_Some segment here.0 (same here.0 here.3 here.5) in
            let whole : all ≡ longer ++ here.1 =
            split.1 ∙ ap (λ (segments : List (Segment T)). read ++ segments) (here.2 ∙ ap (λ (one : Segment T). one ∷ here.1) (sym equal))
            ∙ sym (ap (λ (segments : List (Segment T)). segments ++ here.1) put ∙ append_assoc read (segment ∷ []) here.1) in
            (here.1, whole, here.4, here.6);
      }

      -- no segment is that of the next extent
      pub read-no_more : ((other : Segment T) → IsInOrder other → IsSegmentIn AreItemsOf beats_in now before extent pages other → None ≡ Some other)
          → (all : List (Segment T)) → AllByRecursion IsInOrder all → AreOf serial beats extents kept all → None ≡ Some all
      read-no_more none all order are =
          let split = have.one all order are in
          let here = first-of now before extent more pages rest split.0 split.2 (there split.0 split.3) in
          let no : None ≡ Some here.0 = none here.0 here.3 here.5 in absurd cc

    -- pages are left, and no extent
    pub read-pages_left : (pages : List Page) (rest : List (List Page)) → length ahead ≡ 0 → others ≡ pages ∷ rest
        → (all : List (Segment T)) → AllByRecursion IsInOrder all → AreOf serial beats extents kept all → None ≡ Some all
    read-pages_left pages rest empty next all order are =
        let split = have.one all order are in absurd (no ahead others split.0 empty next split.3)
      where
        no : (es : List Extent) (ps : List (List Page)) (segments : List (Segment T)) → length es ≡ 0 → ps ≡ pages ∷ rest → AreOf now before es ps segments → ⊥
        no [] [] segments empty next are = cc
        no [] (p ∷ ps) segments empty next are = are
        no (e ∷ es) ps segments empty next are = omega (arith, empty)

    -- extents are left, and no pages
    pub read-extents_left : (length ahead ≡ 0 → ⊥) → others ≡ []
        → (all : List (Segment T)) → AllByRecursion IsInOrder all → AreOf serial beats extents kept all → None ≡ Some all
    read-extents_left some empty all order are =
        let split = have.one all order are in absurd (no ahead others split.0 some empty split.3)
      where
        no : (es : List Extent) (ps : List (List Page)) (segments : List (Segment T)) → (length es ≡ 0 → ⊥) → ps ≡ [] → AreOf now before es ps segments → ⊥
        no [] ps segments some empty are = some refl
        no (e ∷ es) [] segments some empty are = are
        no (e ∷ es) (p ∷ ps) segments some empty are = cc

    -- all were read
    module _ (none : length ahead ≡ 0) (empty : others ≡ []) where
      pub read-all : AreOf serial beats extents kept read
      read-all = subst (AreOf serial beats extents kept) (append-nil read) (have.found [] (ends ahead others none empty))
        where
          ends : (es : List Extent) (ps : List (List Page)) → length es ≡ 0 → ps ≡ [] → AreOf now before es ps []
          ends [] [] none empty = tt
          ends [] (p ∷ ps) none empty = absurd cc
          ends (e ∷ es) ps none empty = absurd (omega (arith, none))

      pub read-one : (all : List (Segment T)) → AllByRecursion IsInOrder all → AreOf serial beats extents kept all → Some read ≡ Some all
      read-one all order are =
          let split = have.one all order are in
          let nothing : split.0 ≡ [] = by ahead others split.0 none empty split.3 in
          ap (λ (segments : List (Segment T)). Some segments) (sym (split.1 ∙ ap (λ (segments : List (Segment T)). read ++ segments) nothing ∙ append-nil read))
        where
          by : (es : List Extent) (ps : List (List Page)) (segments : List (Segment T)) → length es ≡ 0 → ps ≡ [] → AreOf now before es ps segments → segments ≡ []
          by [] [] [] none empty are = refl
          by [] [] (segment ∷ segments) none empty are = absurd are
          by [] (p ∷ ps) segments none empty are = absurd cc
          by (e ∷ es) ps segments none empty are = absurd (omega (arith, none))
