-- The states of kept ones, one after the other.
use Rattle.std.proofs.Common.{◌≡◌, ℕ, zero, suc, ◌+◌, ◌<◌, List, [], ◌∷◌, ◌++◌, length, get_or, map, take, arith, sym, ap, ◌∙◌}
use Rattle.std.specs.List.{enumerate_from}
use Rattle.std.specs.Option.{is_none}
use Rattle.std.proofs.lemmas.List.{take_more, length-map, map-append}
use Rattle.std.proofs.lemmas.List.Elements.{filter-append}
use Rattle.health_config.specs.Entity.{Alarm}
use Rattle.alarm_events.specs.declared.state.KeptState.{KeptState}
use Rattle.alarm_core.specs.declared.pairs.Pair.{Pair}
use Rattle.alarm_core.specs.declared.state.State.{State}
use Rattle.alarm_core.specs.Kept.{pair_of, lost_among, holder_of, state_by, state_at}

numbered_more : {A B : Type 0} (f : ℕ × A → B) (xs : List A) (first i : ℕ) (d : A) → i < length xs
    → map f (enumerate_from first (take (i + 1) xs)) ≡ map f (enumerate_from first (take i xs)) ++ f (first + i, get_or xs i d) ∷ []
numbered_more f [] first i d inside = absurd (omega (arith, inside))
numbered_more {A} {B} f (x ∷ xs) first zero d inside =
    let same : first ≡ first + 0 = omega arith in ap (λ (n : ℕ). f (n, x) ∷ []) same
numbered_more {A} {B} f (x ∷ xs) first (suc i) d inside =
    let next : suc i + 1 ≡ suc (i + 1) = omega arith in
    let number : first + 1 + i ≡ first + suc i = omega arith in
    ap (λ (n : ℕ). map f (enumerate_from first (take n (x ∷ xs)))) next
    ∙ ap (λ (ys : List B). f (first, x) ∷ ys) (numbered_more f xs (first + 1) i d (omega (arith, inside)))
    ∙ ap (λ (n : ℕ). f (first, x) ∷ (map f (enumerate_from (first + 1) (take i xs)) ++ f (n, get_or xs i d) ∷ [])) number

-- one state more
pub states_more : (alarms : List Alarm) (pairs : List Pair) (kepts : List KeptState) (i : ℕ) (kept : KeptState) (before after : List State) (lost : List (List ℕ)) → i < length kepts
    → kept ≡ get_or kepts i kept → before ≡ map (state_at alarms pairs kepts) (enumerate_from 0 (take i kepts))
    → lost ≡ map (λ (kept : KeptState). kept.alarm) (lost_among alarms pairs (take i kepts))
    → after ≡ before ++ state_by (holder_of (length lost) (pair_of alarms pairs kept)) kept ∷ []
    → after ≡ map (state_at alarms pairs kepts) (enumerate_from 0 (take (i + 1) kepts))
states_more alarms pairs kepts i kept before after lost inside is was names made =
    let name : KeptState → List ℕ = λ (kept : KeptState). kept.alarm in
    let prefix : List State = map (state_at alarms pairs kepts) (enumerate_from 0 (take i kepts)) in
    let one : ℕ → State = λ (n : ℕ). state_by (holder_of n (pair_of alarms pairs kept)) kept in
    let so_many : length lost ≡ length (lost_among alarms pairs (take i kepts)) = ap length names ∙ length-map (lost_among alarms pairs (take i kepts)) name in
    let number : i ≡ 0 + i = omega arith in
    made
    ∙ ap (λ (states : List State). states ++ one (length lost) ∷ []) was
    ∙ ap (λ (n : ℕ). prefix ++ one n ∷ []) so_many
    ∙ ap (λ (n : ℕ). prefix ++ state_at alarms pairs kepts (n, kept) ∷ []) number
    ∙ ap (λ (k : KeptState). prefix ++ state_at alarms pairs kepts (0 + i, k) ∷ []) is
    ∙ sym (numbered_more (state_at alarms pairs kepts) kepts 0 i kept inside)

-- and the name that is lost with it
pub lost_more : (alarms : List Alarm) (pairs : List Pair) (kepts : List KeptState) (i : ℕ) (kept : KeptState) (before after : List (List ℕ)) → i < length kepts
    → kept ≡ get_or kepts i kept → before ≡ map (λ (kept : KeptState). kept.alarm) (lost_among alarms pairs (take i kepts))
    → after ≡ before ++ map (λ (kept : KeptState). kept.alarm) (lost_among alarms pairs (kept ∷ []))
    → after ≡ map (λ (kept : KeptState). kept.alarm) (lost_among alarms pairs (take (i + 1) kepts))
lost_more alarms pairs kepts i kept before after inside is was made =
    let name : KeptState → List ℕ = λ (kept : KeptState). kept.alarm in
    let lost : List KeptState → List KeptState = lost_among alarms pairs in
    made
    ∙ ap (λ (names : List (List ℕ)). names ++ map name (lost (kept ∷ []))) was
    ∙ sym (map-append name (lost (take i kepts)) (lost (kept ∷ [])))
    ∙ ap (map name) (sym (filter-append (λ (kept : KeptState). is_none (pair_of alarms pairs kept)) (take i kepts) (kept ∷ [])))
    ∙ ap (λ (k : KeptState). map name (lost (take i kepts ++ k ∷ []))) is
    ∙ ap (λ (kepts : List KeptState). map name (lost kepts)) (sym (take_more kepts i kept inside))
