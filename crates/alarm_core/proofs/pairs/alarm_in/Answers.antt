use Rattle.std.proofs.Common.{◌≡◌, ℕ, ltb, List, length, map, Option, Some, None, refl, sym, ap, ◌∙◌}
use Rattle.std.specs.Prelude.{IfSome, is_some, slice_get, slice_index_or}
use Rattle.std.specs.Option.{option_map}
use Rattle.std.proofs.lemmas.Bool.{ltb-true, ltb-false}
use Rattle.std.proofs.lemmas.Option.{slice_get-map, slice_get_read, slice_get_past}
use Rattle.health_config.specs.Entity.{alarm_of}
use Rattle.health_config.specs.declared.entity.Entity.{Entity}
use denote.Bor.{Bor}
use Rattle.alarm_core.proofs.pairs.alarm_in.Goals as goal

by_get : (xs : List Entity) (i : ℕ) (r : Option (Bor Entity)) → is_some r ≡ ltb i (length xs) → IfSome r (λ x. x.now ≡ slice_index_or xs i x.now)
    → option_map (λ (x : Bor Entity). alarm_of x.now) r ≡ slice_get (map alarm_of xs) i
by_get xs i None some item =
    sym (slice_get-map alarm_of xs i ∙ ap (option_map alarm_of) (slice_get_past xs i (ltb-false i (length xs) (sym some))))
by_get xs i (Some x) some item =
    sym (slice_get-map alarm_of xs i ∙ ap (option_map alarm_of) (slice_get_read xs (length xs) i x.now refl (ltb-true i (length xs) (sym some)) item))

pub returns : goal.returns
returns c = by_get c.args.entities.now c.args.place c.get.result c.get.ensures.lookup.0 c.get.ensures.lookup.1
