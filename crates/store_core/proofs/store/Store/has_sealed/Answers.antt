use Rattle.std.proofs.Common.{◌≡◌, ◌||◌, ℕ, Bool, false, is_some, List, [], ◌∷◌, map, refl, sym, ap, ◌∙◌, rules, tests}
use Rattle.std.specs.List.{list_any}
use Rattle.std.proofs.lemmas.Iterator.{YieldsList-from_slice}
use Rattle.std.proofs.lemmas.Iterator.Search.{any_from_yields_List}
use Rattle.beat_tiers.specs.declared.item.Stepped.{Stepped}
use Rattle.beat_tiers.specs.Room.{records_held, tiers_held, RecordTierHeld, SegmentsHeld, TiersHeld}
use Rattle.store_core.specs.bodies.Next.{sealed_after}
use Rattle.store_core.specs.Store.{StoreState}
use Rattle.store_core.specs.Stored.{has_sealed, has_sealed_records}
use Rattle.store_core.proofs.store.Store.has_sealed.Goals as goal

list_any-map : {X Y : Type 0} (p : Y → Bool) (f : X → Y) (xs : List X) → list_any p (map f xs) ≡ list_any (λ (x : X). p (f x)) xs
list_any-map p f [] = refl
list_any-map p f (x ∷ xs) = ap (λ (found : Bool). p (f x) || found) (list_any-map p f xs)

-- where the tier of points has sealed none
by_records : (moment : ℕ) (held : TiersHeld) (found : Bool) → false ≡ is_some (sealed_after moment held.points.kept.sealed)
    → found ≡ list_any (λ (one : RecordTierHeld). is_some (sealed_after moment one.segments.kept.sealed)) held.records → found ≡ has_sealed moment (tiers_held held)
by_records moment held found none others =
    others
    ∙ sym (list_any-map (has_sealed_records moment) records_held held.records)
    ∙ ap (λ (points : Bool). points || list_any (has_sealed_records moment) (map records_held held.records)) none

pub returns : goal.returns
returns c =
    by_records c.self.inside.body.last c.self.inside.tiers c.any.result
    (c.if-has_new.ensures ∙ ap (λ (held : SegmentsHeld Stepped). is_some (sealed_after c.self.inside.body.last held.kept.sealed)) c.kept_points.ensures)
    (any_from_yields_List (λ (one : RecordTierHeld). is_some (sealed_after c.self.inside.body.last one.segments.kept.sealed)) _ _ c.any.result c.any.ensures.ran
    (YieldsList-from_slice c.self.inside.tiers.records cc) (λ x b q k. search (rules, tests)))
    ∙ ap (λ (s : StoreState). has_sealed s.body.last s.tiers) c.self.view_is
