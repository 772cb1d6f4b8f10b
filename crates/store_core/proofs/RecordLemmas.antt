-- The records of beats that follow a base are read as these beats.
use Rattle.std.proofs.Common.{◌≡◌, ℕ, List, [], ◌∷◌, ◌++◌, map, Option, Some, None, refl, sym, ap, ◌∙◌, subst, append_assoc, append-nil}
use Rattle.std.specs.Option.{option_map}
use Rattle.beat_tiers.specs.declared.item.BeatPoint.{BeatPoint}
use Rattle.beat_tiers.specs.State.{TiersState, after_beat}
use Rattle.store_core.specs.declared.beats.beat.Beat.{Beat}
use Rattle.store_core.specs.beats.Beats.{beat_bytes}
use Rattle.store_core.specs.beats.Records.{beats_from, last_after, then_beats, with_all}
use Rattle.store_core.proofs.BeatProofs.RecordLaw.{next-again}
use Rattle.store_core.specs.Stands.{records_of}
use Rattle.store_core.specs.Stored.{tiers_of, Base, HaveFollowed}

pub last-after : (moment : Option ℕ) (points : List BeatPoint) (state : TiersState) → (after_beat moment points state).last ≡ last_after state.last moment
last-after None points state = refl
last-after (Some moment) points state = refl

-- the earlier ones of beats that have followed a base
pub prefix-followed : (base : Base) (beats rest : List Beat) → HaveFollowed base (with_all beats rest) → HaveFollowed base beats
prefix-followed base beats [] followed = followed
prefix-followed base beats (next ∷ rest) followed = (prefix-followed base (next ∷ beats) rest followed).1

again-behind : (base : Base) (beats rest : List Beat) → HaveFollowed base (with_all beats rest)
    → beats_from (tiers_of (record { base = base; after = beats })).last (map beat_bytes rest) ≡ Some rest
again-behind base beats [] followed = refl
again-behind base beats (next ∷ rest) followed =
    let state : TiersState = tiers_of (record { base = base; after = beats }) in
    let here = (prefix-followed base (next ∷ beats) rest followed).0 in
    let after : Beat → Option (List Beat) = λ beat. beats_from (last_after state.last beat.moment) (map beat_bytes rest) in
    let first = next-again state.last next here.form here.later in
    let others : after next ≡ Some rest =
    ap (λ (last : ℕ). beats_from last (map beat_bytes rest)) (sym (last-after next.moment next.points state)) ∙ again-behind base (next ∷ beats) rest followed in
    ap (λ (found : Option Beat). then_beats found after) first ∙ ap (option_map (λ (more : List Beat). next ∷ more)) others

pub records-with_all : (beats rest : List Beat) → records_of (with_all beats rest) ≡ records_of beats ++ map beat_bytes rest
records-with_all beats [] = sym (append-nil (records_of beats))
records-with_all beats (next ∷ rest) =
    records-with_all (next ∷ beats) rest ∙ append_assoc (records_of beats) (beat_bytes next ∷ []) (map beat_bytes rest)

-- the records of beats that have followed a base are read as these beats
pub read-again : (base : Base) (after rest : List Beat) → with_all [] rest ≡ after → HaveFollowed base after
    → beats_from base.tiers.last (records_of after) ≡ Some rest
read-again base after rest whole followed =
    ap (λ (beats : List Beat). beats_from base.tiers.last (records_of beats)) (sym whole)
    ∙ ap (beats_from base.tiers.last) (records-with_all [] rest)
    ∙ again-behind base [] rest (subst (λ (beats : List Beat). HaveFollowed base beats) (sym whole) followed)
