-- Lists of gaps: those that meet are one, and those above a floor.
use Rattle.std.proofs.Common.{◌≡◌, ℕ, ◌<◌, ◌==◌, Bool, true, false, cond, nat_lt, List, [], ◌∷◌, ◌++◌, refl, sym, ap, ◌∙◌, arith}
use Rattle.std.specs.List.{AllByRecursion}
use Rattle.std.proofs.lemmas.Bool.{cond-true, cond-false, eq-eqb, lt-ltb, ltb-true, ne_eqb}
use Rattle.side_codec.specs.declared.gap.GapSpan.{GapSpan}
use Rattle.agent_core.specs.Gaps.{gaps_above, join_gap, joined_behind}

-- ---- a gap behind others

-- it meets the last of them alone
pub join-last : (before : List GapSpan) (last : GapSpan) (others : List GapSpan) (gap : GapSpan) → join_gap (before ++ last ∷ others) gap ≡ before ++ join_gap (last ∷ others) gap
join-last [] last others gap = refl
join-last (first ∷ []) last others gap = refl
join-last (first ∷ next ∷ before) last others gap = ap (λ (rest : List GapSpan). first ∷ rest) (join-last (next ∷ before) last others gap)

abbrev pub EndBefore : ℕ → List GapSpan → Type 0
EndBefore moment gaps = AllByRecursion (λ (gap : GapSpan). gap.to < moment) gaps

-- where all end before it begins, it meets none
pub join-none : (before : List GapSpan) (gap : GapSpan) → EndBefore gap.from before → join_gap before gap ≡ before ++ gap ∷ []
join-none [] gap below = refl
join-none (last ∷ []) gap below = cond-false (last.to == gap.from) _ _ (ne_eqb last.to gap.from (λ same. omega (arith, below.0, same)))
join-none (first ∷ next ∷ before) gap below = ap (λ (rest : List GapSpan). first ∷ rest) (join-none (next ∷ before) gap below.1)

pub joined-more : (before others : List GapSpan) (gap : GapSpan) → joined_behind before (others ++ gap ∷ []) ≡ join_gap (joined_behind before others) gap
joined-more before [] gap = refl
joined-more before (first ∷ others) gap = joined-more (join_gap before first) others gap

-- the last of them was taken away
pub met : (spans rest : List GapSpan) (last gap : GapSpan) → spans ≡ rest ++ last ∷ [] → last.to ≡ gap.from → rest ++ record { from = last.from; to = gap.to } ∷ [] ≡ join_gap spans gap
met spans rest last gap was same = sym (ap (λ (all : List GapSpan). join_gap all gap) was ∙ join-last rest last [] gap ∙ ap (λ (more : List GapSpan). rest ++ more) (cond-true (last.to == gap.from) _ _ (eq-eqb last.to gap.from same)))

pub unmet : (spans rest : List GapSpan) (last gap : GapSpan) → spans ≡ rest ++ last ∷ [] → (last.to ≡ gap.from → ⊥) → rest ++ last ∷ gap ∷ [] ≡ join_gap spans gap
unmet spans rest last gap was other = sym (ap (λ (all : List GapSpan). join_gap all gap) was ∙ join-last rest last [] gap ∙ ap (λ (more : List GapSpan). rest ++ more) (cond-false (last.to == gap.from) _ _ (ne_eqb last.to gap.from other)))

-- ---- those above a floor

-- those that end below it do not count
pub above-dropped : (floor : ℕ) (dropped others : List GapSpan) → EndBefore floor dropped → gaps_above floor (dropped ++ others) ≡ gaps_above floor others
above-dropped floor [] others below = refl
above-dropped floor (gap ∷ dropped) others below = cond-true (nat_lt gap.to floor) _ _ (lt-ltb gap.to floor below.0) ∙ above-dropped floor dropped others below.1

-- what stands before those above it
pub record AreBelow (floor : ℕ) (gaps : List GapSpan) : Type 0 where
  pub dropped : List GapSpan
  pub whole : gaps ≡ dropped ++ gaps_above floor gaps
  pub below : EndBefore floor dropped

pub those-below : (floor : ℕ) (gaps : List GapSpan) → AreBelow floor gaps
those-below floor [] = record { dropped = []; whole = refl; below = tt }
those-below floor (gap ∷ others) = by (nat_lt gap.to floor) refl (those-below floor others)
  where
    by : (b : Bool) → nat_lt gap.to floor ≡ b → AreBelow floor others → AreBelow floor (gap ∷ others)
    by true is rest = record {
      dropped = gap ∷ rest.dropped;
      whole = ap (λ (more : List GapSpan). gap ∷ more) rest.whole ∙ ap (λ (b : Bool). gap ∷ rest.dropped ++ cond b (gaps_above floor others) (gap ∷ others)) (sym is);
      below = (ltb-true gap.to floor is, rest.below);
    }
    by false is rest = record { dropped = []; whole = sym (cond-false (nat_lt gap.to floor) _ _ is); below = tt }
