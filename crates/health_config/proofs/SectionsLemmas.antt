-- Where the sections of lines lie.
use Rattle.std.proofs.Common.{◌≡◌, ℕ, ◌+◌, Bool, List, [], ◌∷◌, take, drop, Option, Some, None, is_none, refl, sym, ap, one-add, cond}
use Rattle.std.specs.List.{prefix_len}
use Rattle.health_config.specs.declared.lines.Line.{Line}
use Rattle.health_config.specs.Key.{begins}
use Rattle.health_config.specs.Sections.{section, sections}

-- a line that begins no entity
abbrev pub goes_on : Line → Bool
goes_on line = is_none (begins line.text)

abbrev pub leading_len : List Line → ℕ
leading_len lines = prefix_len goes_on lines

prefix_step : (line : Line) (lines : List Line) (o : Option Bool) → begins line.text ≡ o → (sections lines).prefix ≡ take (leading_len lines) lines
    → (section o line (sections lines)).prefix ≡ take (cond (is_none o) (1 + leading_len lines) 0) (line ∷ lines)
prefix_step line lines None e rest = rw one-add (ap (λ (more : List Line). line ∷ more) rest)
prefix_step line lines (Some template) e rest = refl

-- the lines before the first entity
pub prefix_is : (lines : List Line) → (sections lines).prefix ≡ take (leading_len lines) lines
prefix_is [] = refl
prefix_is (line ∷ lines) = prefix_step line lines (begins line.text) refl (prefix_is lines)

groups_step : (line : Line) (lines : List Line) (o : Option Bool) → begins line.text ≡ o → (sections lines).groups ≡ (sections (drop (leading_len lines) lines)).groups
    → (section o line (sections lines)).groups ≡ (sections (drop (cond (is_none o) (1 + leading_len lines) 0) (line ∷ lines))).groups
groups_step line lines None e rest = rw one-add rest
groups_step line lines (Some template) e rest = ap (λ (o : Option Bool). (section o line (sections lines)).groups) (sym e)

-- the entities are those of the lines from the first one on
pub groups_are : (lines : List Line) → (sections lines).groups ≡ (sections (drop (leading_len lines) lines)).groups
groups_are [] = refl
groups_are (line ∷ lines) = groups_step line lines (begins line.text) refl (groups_are lines)

behind_step : (line : Line) (lines : List Line) (o : Option Bool) → begins line.text ≡ o → (sections (drop (leading_len lines) lines)).prefix ≡ []
    → (sections (drop (cond (is_none o) (1 + leading_len lines) 0) (line ∷ lines))).prefix ≡ []
behind_step line lines None e rest = rw one-add rest
behind_step line lines (Some template) e rest = ap (λ (o : Option Bool). (section o line (sections lines)).prefix) e

-- and nothing stands before that one
pub none_before : (lines : List Line) → (sections (drop (leading_len lines) lines)).prefix ≡ []
none_before [] = refl
none_before (line ∷ lines) = behind_step line lines (begins line.text) refl (none_before lines)
