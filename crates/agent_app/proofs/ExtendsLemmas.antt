-- How the history of a text's lines grows.
use Rattle.std.proofs.Common.{◌≡◌, ℕ, Bool, true, false, not, List, [], ◌∷◌, ◌++◌, Result, Ok, Err, refl, sym, ap, subst, ◌∙◌, append_assoc, if◌then◌else◌}
use Rattle.history.specs.declared.line.Line.{Line}
use Rattle.history.specs.declared.line.Line.TheVariants as line
use Rattle.history.specs.History.{Beat, collected}
use Rattle.history.specs.Looking.{beat}
use Rattle.history.specs.Read.{history_at, is_disable}
use Rattle.plugin_text.specs.Lines.{parts, fits}
use Rattle.plugin_text.specs.declared.refusal.Refusal.{Refusal}
use Rattle.tier_settings.specs.declared.settings.Settings.{Settings}
use Rattle.agent_core.specs.Rules.{history_with}
use Rattle.link_session.specs.Keeps.{Extends, no_more, one_more}
use Rattle.link_session.proofs.ExtendsLemmas.{extends-further}
use Rattle.agent_app.specs.Reading.{HasRead, LineRules, line_read, lines_read}
use Rattle.agent_app.specs.Run.{history_with_text, line_rules, run_rules}

-- the history of one line more
pub extends-line : (every : ℕ) (h0 : List Beat) (past : List Line) (said : Line) → Extends (history_at every h0 past) (history_at every h0 (said ∷ past))
extends-line every h0 past (line.Moment moment) = one_more (collected moment (beat every past)) (history_at every h0 past) no_more
extends-line every h0 past said = no_more

pub extends-start : (every : ℕ) (h0 : List Beat) (past : List Line) → Extends h0 (history_at every h0 past)
extends-start every h0 [] = no_more
extends-start every h0 (said ∷ past) = extends-further h0 (history_at every h0 past) (history_at every h0 (said ∷ past)) (extends-start every h0 past) (extends-line every h0 past said)

pub with-line : (every : ℕ) (h0 : List Beat) (past : List Line) (said : Line) → history_with (history_at every h0 past) every past said ≡ history_at every h0 (said ∷ past)
with-line every h0 past (line.Moment moment) = refl
with-line every h0 past said = refl

-- lines that were read behind others
pub record LinesAfter (past read : List Line) : Type 0 where
  pub later : List Line
  pub whole : read ≡ later ++ past

module _ (every : ℕ) (h0 : List Beat) where
  abbrev rules : LineRules Line Refusal
  rules = line_rules every h0

  -- the history of the lines that are read after these
  extends-lines : (ps : List (List ℕ)) (past : List Line) → Extends (history_at every h0 past) (history_at every h0 (lines_read rules past ps))
  extends-lines [] past = no_more
  extends-lines (part ∷ []) past = no_more
  extends-lines (part ∷ next ∷ more) past = by (fits part) (rules.judge past part) (λ said. extends-lines (next ∷ more) (said ∷ past))
    where
      goes : (said : Line) (ends : Bool) → Extends (history_at every h0 (said ∷ past)) (history_at every h0 (lines_read rules (said ∷ past) (next ∷ more)))
          → Extends (history_at every h0 past) (history_at every h0 (if ends then past else lines_read rules (said ∷ past) (next ∷ more)))
      goes said true later = no_more
      goes said false later =
          extends-further (history_at every h0 past) (history_at every h0 (said ∷ past)) (history_at every h0 (lines_read rules (said ∷ past) (next ∷ more))) (extends-line every h0 past said) later

      by : (short : Bool) (r : Result Line Refusal) → ((said : Line) → Extends (history_at every h0 (said ∷ past)) (history_at every h0 (lines_read rules (said ∷ past) (next ∷ more))))
          → Extends (history_at every h0 past) (history_at every h0 (if not short then past else line_read rules past r (λ (said : Line). lines_read rules (said ∷ past) (next ∷ more))))
      by false r later = no_more
      by true (Err why) later = no_more
      by true (Ok said) later = goes said (is_disable said) (later said)

  -- the lines that are read after these
  pub lines-after : (ps : List (List ℕ)) (past : List Line) → LinesAfter past (lines_read rules past ps)
  lines-after [] past = record { later = []; whole = refl }
  lines-after (part ∷ []) past = record { later = []; whole = refl }
  lines-after (part ∷ next ∷ more) past = by (fits part) (rules.judge past part) (λ said. lines-after (next ∷ more) (said ∷ past))
    where
      goes : (said : Line) (ends : Bool) → LinesAfter (said ∷ past) (lines_read rules (said ∷ past) (next ∷ more)) → LinesAfter past (if ends then past else lines_read rules (said ∷ past) (next ∷ more))
      goes said true onward = record { later = []; whole = refl }
      goes said false onward = record { later = onward.later ++ said ∷ []; whole = onward.whole ∙ sym (append_assoc onward.later (said ∷ []) past) }

      by : (short : Bool) (r : Result Line Refusal) → ((said : Line) → LinesAfter (said ∷ past) (lines_read rules (said ∷ past) (next ∷ more)))
          → LinesAfter past (if not short then past else line_read rules past r (λ (said : Line). lines_read rules (said ∷ past) (next ∷ more)))
      by false r onward = record { later = []; whole = refl }
      by true (Err why) onward = record { later = []; whole = refl }
      by true (Ok said) onward = goes said (is_disable said) (onward said)

  -- and of one of which these lines are read
  pub extends-text : (set : Settings) (prefix : List (List ℕ)) (past : List Line) (made : List ℕ) → HasRead (run_rules every set h0) prefix past made → (text next : List ℕ) (more : List (List ℕ)) → parts text ≡ prefix ++ next ∷ more
      → Extends (history_at every h0 past) (history_with_text every h0 text)
  extends-text set prefix past made has text next more whole =
      subst (λ (read : List Line). Extends (history_at every h0 past) (history_at every h0 read)) (sym (ap (lines_read rules []) whole ∙ has.says next more)) (extends-lines (next ∷ more) past)
