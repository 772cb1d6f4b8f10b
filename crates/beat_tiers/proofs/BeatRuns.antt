-- Beats of items, one after the other and all at once.
use Rattle.std.proofs.Common.{◌≡◌, Bool, true, false, ◌==◌, List, [], ◌∷◌, ◌++◌, refl, sym, ap, ◌∙◌, append-nil, append_assoc}
use Rattle.std.proofs.lemmas.Bool.{eqb-true}
use Rattle.beat_tiers.specs.declared.item.Item.{Item}
use Rattle.beat_tiers.specs.declared.item.Stepped.{Stepped}
use Rattle.beat_tiers.specs.declared.kept.KeptBeat.{KeptBeat}
use Rattle.beat_tiers.specs.Kept.{beat_of_item, before_beats, beats_in, behind_all, behind_beats, point_of_item}

-- only the last beat matters
pub behind-last : (beats : List KeptBeat) (last : KeptBeat) (item : Item Stepped) → behind_beats (beats ++ last ∷ []) item ≡ beats ++ behind_beats (last ∷ []) item
behind-last [] last item = refl
behind-last (beat ∷ []) last item = refl
behind-last (beat ∷ next ∷ beats) last item = ap (λ rest. beat ∷ rest) (behind-last (next ∷ beats) last item)

both-none : (x y : Item Stepped) (same : Bool) → (x.place == y.place) ≡ same → behind_beats (beat_of_item x ∷ []) y ≡ before_beats x (beat_of_item y ∷ [])
both-none x y true e = simp e (ap (λ place. record { moment = place; points = point_of_item x ∷ point_of_item y ∷ [] } ∷ []) (eqb-true x.place y.place e))
both-none x y false e = simp e

both-one : (x y : Item Stepped) (beat : KeptBeat) (prefix back : Bool) → (x.place == beat.moment) ≡ prefix → (beat.moment == y.place) ≡ back → behind_beats (before_beats x (beat ∷ [])) y ≡ before_beats x (behind_beats (beat ∷ []) y)
both-one x y beat true true e f = simp (e, f)
both-one x y beat true false e f = simp (e, f)
both-one x y beat false true e f = simp (e, f)
both-one x y beat false false e f = simp (e, f)

both-more : (x y : Item Stepped) (beat next : KeptBeat) (beats : List KeptBeat) (prefix : Bool) → (x.place == beat.moment) ≡ prefix → behind_beats (before_beats x (beat ∷ next ∷ beats)) y ≡ before_beats x (behind_beats (beat ∷ next ∷ beats) y)
both-more x y beat next beats true e = simp e
both-more x y beat next beats false e = simp e

-- an item in front and one behind
both : (x y : Item Stepped) (beats : List KeptBeat) → behind_beats (before_beats x beats) y ≡ before_beats x (behind_beats beats y)
both x y [] = both-none x y (x.place == y.place) refl
both x y (beat ∷ []) = both-one x y beat (x.place == beat.moment) (beat.moment == y.place) refl refl
both x y (beat ∷ next ∷ beats) = both-more x y beat next beats (x.place == beat.moment) refl

behind-in : (items : List (Item Stepped)) (item : Item Stepped) → behind_beats (beats_in items) item ≡ beats_in (items ++ item ∷ [])
behind-in [] item = refl
behind-in (x ∷ items) item = both x item (beats_in items) ∙ ap (before_beats x) (behind-in items item)

pub behind-all-in : (items more : List (Item Stepped)) → behind_all (beats_in items) more ≡ beats_in (items ++ more)
behind-all-in items [] = ap beats_in (sym (append-nil items))
behind-all-in items (x ∷ more) =
    ap (λ beats. behind_all beats more) (behind-in items x) ∙ behind-all-in (items ++ x ∷ []) more ∙ ap beats_in (append_assoc items (x ∷ []) more)

pub behind-all-append : (beats : List KeptBeat) (xs ys : List (Item Stepped)) → behind_all beats (xs ++ ys) ≡ behind_all (behind_all beats xs) ys
behind-all-append beats [] ys = refl
behind-all-append beats (x ∷ xs) ys = behind-all-append (behind_beats beats x) xs ys
