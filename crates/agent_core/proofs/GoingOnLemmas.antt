-- A child that goes on: what was true of it stays true, and a copy that is not ahead of it stays a copy.
use Rattle.std.proofs.Common.{◌≡◌, ℕ, ◌==◌, ◌+◌, ◌<◌, ◌≤◌, true, List, [], ◌∷◌, ◌++◌, map, inl, inr, refl, sym, subst, ◌∙◌, arith}
use Rattle.std.specs.List.{list_any}
use Rattle.std.proofs.lemmas.Bool.{or_cases, or_left, or_right}
use Rattle.std.proofs.lemmas.List.{append-nil, append_assoc}
use Rattle.std.proofs.lemmas.List.Folds.{list_any-append}
use Rattle.history.specs.History.{Beat, gaps, last}
use Rattle.replication.specs.declared.gap.Gap.{Gap as Span}
use Rattle.replication.specs.declared.message.Data.{Data}
use Rattle.replication.specs.Copies.{had_floor, latest, IsCopy, IsTrueOf, Message, RisesFrom}
use Rattle.replication.proofs.Copies.{all-map, copy-later, ends-within, latest-later, true-later}
use Rattle.agent_core.specs.Copies.{message_seen, seen, seen_moment, span_of, IsCopyOfChild, IsTrueOfChild, SeenBeat}

module _ {B : Type 0} (moment : B → ℕ) where
  rises-prefix : (low : ℕ) (xs ys : List B) → RisesFrom moment low (xs ++ ys) → RisesFrom moment low xs
  rises-prefix low [] ys rises = tt
  rises-prefix low (x ∷ xs) ys rises = (rises.0, rises-prefix (moment x) xs ys rises.1)

  rises-next : (low : ℕ) (xs : List B) (y : B) (ys : List B) → RisesFrom moment low (xs ++ y ∷ ys) → latest moment low xs < moment y
  rises-next low [] y ys rises = rises.0
  rises-next low (x ∷ xs) y ys rises = rises-next (moment x) xs y ys rises.1

had-more : (floors more : List ℕ) (floor : ℕ) → had_floor floors floor ≡ true → had_floor (floors ++ more) floor ≡ true
had-more floors more floor had =
    elim (or_cases (floor == 0) (list_any (λ set. floor == set) floors) had) [
      | inl none ↦ or_left (floor == 0) (list_any (λ set. floor == set) (floors ++ more)) none
      | inr some ↦ or_right (floor == 0) (list_any (λ set. floor == set) (floors ++ more))
          (list_any-append (λ set. floor == set) floors more ∙ or_left (list_any (λ set. floor == set) floors) (list_any (λ set. floor == set) more) some)
    ]

-- with some floors
goes-on : (floors : List ℕ) (child later : List SeenBeat) (message : Message SeenBeat) → RisesFrom seen_moment 0 (child ++ later) → IsTrueOf seen_moment floors child message
    → (some : List ℕ) × IsTrueOf seen_moment some (child ++ later) message
goes-on floors child [] message rises truth = (floors, subst (λ all. IsTrueOf seen_moment floors all message) (sym (append-nil child)) truth)
goes-on floors child (beat ∷ later) message rises truth =
    let next = rises-next seen_moment 0 child beat later rises in
    let within = ends-within seen_moment 0 floors child message (rises-prefix seen_moment 0 child (beat ∷ later) rises) truth in
    let step = true-later seen_moment floors child 0 beat message (omega (arith, next, within)) truth in
    let same = append_assoc child (beat ∷ []) later in
    let rest = goes-on (floors ++ 0 ∷ []) (child ++ beat ∷ []) later message (subst (RisesFrom seen_moment 0) (sym same) rises) step in
    (rest.0, subst (λ all. IsTrueOf seen_moment rest.0 all message) same rest.1)

pub stays-true : (floors more : List ℕ) (child later : List SeenBeat) (message : Data) → RisesFrom seen_moment 0 (child ++ later) → IsTrueOfChild floors child message → IsTrueOfChild (floors ++ more) (child ++ later) message
stays-true floors more child later message rises truth = record {
  floor = had-more floors more message.floor truth.floor;
  from = truth.from;
  some = truth.some;
  upto = truth.upto;
  beats = (goes-on floors child later (message_seen message) rises truth).1.beats;
}

-- a copy, with some floors
copy-on : (floors : List ℕ) (child later held : List SeenBeat) (spans : List Span) (end : ℕ) → RisesFrom seen_moment 0 (child ++ later) → end ≤ latest seen_moment 0 child → IsCopy seen_moment floors child held spans end
    → (some : List ℕ) × IsCopy seen_moment some (child ++ later) held spans end
copy-on floors child [] held spans end rises behind copies = (floors, subst (λ all. IsCopy seen_moment floors all held spans end) (sym (append-nil child)) copies)
copy-on floors child (beat ∷ later) held spans end rises behind copies =
    let next = rises-next seen_moment 0 child beat later rises in
    let step = copy-later seen_moment floors child held spans end 0 beat (omega (arith, next, behind)) copies in
    let same = append_assoc child (beat ∷ []) later in
    let rest = copy-on (floors ++ 0 ∷ []) (child ++ beat ∷ []) later held spans end (subst (RisesFrom seen_moment 0) (sym same) rises) (omega (arith, next, behind, latest-later seen_moment 0 child beat)) step in
    (rest.0, subst (λ all. IsCopy seen_moment rest.0 all held spans end) same rest.1)

pub stays-copy : (floors more : List ℕ) (child later : List SeenBeat) (h : List Beat) → RisesFrom seen_moment 0 (child ++ later) → last h ≤ latest seen_moment 0 child → IsCopyOfChild floors child h
    → IsCopyOfChild (floors ++ more) (child ++ later) h
stays-copy floors more child later h rises behind copies = record {
  beats = (copy-on floors child later (seen h) (map span_of (gaps h)) (last h) rises behind copies).1.beats;
  ends = all-map (λ (span : Span). had_floor floors (span.to + 1) ≡ true) (λ (span : Span). had_floor (floors ++ more) (span.to + 1) ≡ true) (map span_of (gaps h))
      (λ span had. had-more floors more (span.to + 1) had) copies.ends;
}

-- a history without beats is a copy of every child
pub none-copy : (floors : List ℕ) (child : List SeenBeat) → RisesFrom seen_moment 0 child → IsCopyOfChild floors child []
none-copy floors child rises = stays-copy [] floors [] child [] rises (omega arith) (record { beats = refl; ends = tt })
