-- What a follower knows after one line more.
use Rattle.std.proofs.Common.{◌≡◌, ℕ, ◌+◌, true, false, List, [], ◌∷◌, ◌++◌, length, get_or, Option, Some, ℤ, Bool, ◌⊎◌, inl, inr, refl, sym, ◌∙◌, subst, append-nil, arith, length-append}
use Rattle.std.specs.Option.{IfSome, option_map}
use Rattle.std.proofs.Math.Seq.{get_or-append_seam}
use Rattle.history.specs.declared.line.Line.{Line}
use Rattle.history.specs.declared.line.Line.TheVariants.{Begin}
use Rattle.history.specs.declared.line.Line.TheVariants as says
use Rattle.history.specs.declared.chart.ChartDef.{ChartDef}
use Rattle.history.specs.declared.dimension.DimDef.{DimDef}
use Rattle.history.specs.Looking.{open_block}
use Rattle.host_model.specs.Clock.{next_reading, later_readings}
use Rattle.plugin_runner.specs.declared.follower.Follower.{Follower}
use Rattle.plugin_runner.specs.Follower.{Follows, Notes}
use Rattle.plugin_runner.specs.Looking.{last_moment, has_begun, beats_begun, reading_at, charts}
use Rattle.plugin_runner.specs.Text.{Origin}

-- a line at which the clock is not read
pub noted : (line : Line) (old new : Follower) (before now : Option (List ℕ)) → now ≡ before
    → ((origin : Origin) (readings : List ℕ) (past : List Line) → Follows old origin readings past → Follows new origin readings (line ∷ past))
    → Notes line old new before now
noted line old new before now same follows = record {
  taken = [];
  reads = same;
  follows = λ origin readings past f. subst (λ all. Follows new origin all (line ∷ past)) (sym (append-nil readings)) (follows origin readings past f);
}

-- the newest reading is the last one
newest : (readings : List ℕ) (reading count : ℕ) → length readings ≡ count → reading ≡ reading_at (readings ++ reading ∷ []) (count + 1)
newest readings reading count size =
    let here : get_or ((0 ∷ readings) ++ reading ∷ []) (length (0 ∷ readings)) 0 ≡ reading = get_or-append_seam (0 ∷ readings) reading [] 0 in
    let place : length (0 ∷ readings) ≡ count + 1 = omega (arith, size) in
    sym (subst (λ n. get_or ((0 ∷ readings) ++ reading ∷ []) n 0 ≡ reading) place here)

-- a block of this chart was opened, and nothing else changed but for the reading
pub record Opens (old new : Follower) (chart : List ℕ) : Type 0 where
  pub every : new.every ≡ old.every
  pub last : new.last ≡ old.last
  pub begun : new.begun ≡ true
  pub block : new.block ≡ Some chart
  pub rows : new.rows ≡ old.rows

-- the first BEGIN of a beat, at which the clock is read
pub begin-read : (old new : Follower) (chart : List ℕ) (before now : Option (List ℕ)) → Opens old new chart → old.begun ≡ false
    → IfSome before (λ ahead. new.reading ≡ next_reading ahead) → now ≡ option_map later_readings before
    → Notes (Begin chart) old new before now
begin-read old new chart before now opens first is later = record {
  taken = new.reading ∷ [];
  reads = (is, later);
  follows = λ origin readings past f. record {
    every = opens.every ∙ f.every;
    last = opens.last ∙ f.last;
    begun = opens.begun;
    reading = let none : has_begun past ≡ false = sym f.begun ∙ first in rw none (newest readings new.reading (beats_begun past) f.count);
    count = let none : has_begun past ≡ false = sym f.begun ∙ first in rw none (omega (arith, f.count, length-append readings (new.reading ∷ [])));
    block = opens.block;
    rows = opens.rows ∙ f.rows;
  };
}

-- another BEGIN of a beat
pub begin-again : (old new : Follower) (chart : List ℕ) (before : Option (List ℕ)) → Opens old new chart → old.begun ≡ true → new.reading ≡ old.reading
    → Notes (Begin chart) old new before before
begin-again old new chart before opens again kept = noted (Begin chart) old new before before refl (λ origin readings past f.
    let some : has_begun past ≡ true = sym f.begun ∙ again in record {
      every = opens.every ∙ f.every;
      last = opens.last ∙ f.last;
      begun = opens.begun;
      reading = rw some (kept ∙ f.reading);
      count = rw some f.count;
      block = opens.block;
      rows = opens.rows ∙ f.rows;
    })

same : (line : Line) (follower : Follower) (origin : Origin) (readings : List ℕ) (past : List Line) → Follows follower origin readings past
    → last_moment origin.last (line ∷ past) ≡ last_moment origin.last past → has_begun (line ∷ past) ≡ has_begun past → beats_begun (line ∷ past) ≡ beats_begun past
    → open_block (line ∷ past) ≡ open_block past → charts (line ∷ past) ≡ charts past → Follows follower origin readings (line ∷ past)
same line follower origin readings past f last begun count block rows = record {
  every = f.every;
  last = f.last ∙ sym last;
  begun = f.begun ∙ sym begun;
  reading = rw count f.reading;
  count = f.count ∙ sym count;
  block = f.block ∙ sym block;
  rows = f.rows ∙ sym rows;
}

pub noted-other : (line : Line)
    → ((x : ChartDef) × (line ≡ says.Chart x)) ⊎ (((x : DimDef) × (line ≡ says.Dimension x)) ⊎ (((id : List ℕ) × (value : Option ℤ) × (anomalous : Bool) × (line ≡ says.Set id value anomalous))
    ⊎ ((line ≡ says.Disable) ⊎ (((text : List ℕ) × (line ≡ says.Query text)) ⊎ (line ≡ says.Skipped)))))
    → (follower : Follower) (before : Option (List ℕ)) → Notes line follower follower before before
noted-other line (inl (x, e)) f before = noted line f f before before refl (λ o rs past h. subst (λ l. Follows f o rs (l ∷ past)) (sym e) (same (says.Chart x) f o rs past h refl refl refl refl refl))
noted-other line (inr (inl (x, e))) f before = noted line f f before before refl (λ o rs past h. subst (λ l. Follows f o rs (l ∷ past)) (sym e) (same (says.Dimension x) f o rs past h refl refl refl refl refl))
noted-other line (inr (inr (inl (id, value, anomalous, e)))) f before =
    noted line f f before before refl (λ o rs past h. subst (λ l. Follows f o rs (l ∷ past)) (sym e) (same (says.Set id value anomalous) f o rs past h refl refl refl refl refl))
noted-other line (inr (inr (inr (inl e)))) f before = noted line f f before before refl (λ o rs past h. subst (λ l. Follows f o rs (l ∷ past)) (sym e) (same says.Disable f o rs past h refl refl refl refl refl))
noted-other line (inr (inr (inr (inr (inl (text, e)))))) f before =
    noted line f f before before refl (λ o rs past h. subst (λ l. Follows f o rs (l ∷ past)) (sym e) (same (says.Query text) f o rs past h refl refl refl refl refl))
noted-other line (inr (inr (inr (inr (inr e))))) f before = noted line f f before before refl (λ o rs past h. subst (λ l. Follows f o rs (l ∷ past)) (sym e) (same says.Skipped f o rs past h refl refl refl refl refl))
