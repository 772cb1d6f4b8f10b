-- How a run under way ends.
use Rattle.std.proofs.Common.{◌≡◌, inl, inr, ℕ, Bool, true, false, List, [], ◌∷◌, ◌++◌, length, take, drop, Option, None, refl, sym, ap, subst, ◌∙◌, append_assoc, append-nil, true≢false, if◌then◌else◌}
use Rattle.std.proofs.lemmas.List.{take-append-drop}
use Rattle.host_model.specs.declared.status.Status.{Status}
use Rattle.host_model.specs.declared.status.Status.TheVariants.{Refused, Limit, TellFault, DiskFault, Memory}
use Rattle.host_model.specs.Disks.{EveryDisk}
use Rattle.host_model.specs.Moments.{Throughout, EveryCrash}
use Rattle.host_model.specs.Past.{Event, Told, told, MayAdd}
use Rattle.history.specs.declared.fault.BlockFault.{BlockFault}
use Rattle.history.specs.declared.line.Line.{Line}
use Rattle.history.specs.History.{Beat}
use Rattle.history.specs.Read.{history_at}
use Rattle.plugin_text.specs.Lines.{parts}
use Rattle.plugin_text.specs.declared.refusal.Refusal.{Refusal}
use Rattle.plugin_text.specs.Refusal.{refusal_number}
use Rattle.tier_settings.specs.declared.settings.Settings.{Settings}
use Rattle.agent_core.specs.Stands.{StandsForHistory, StandsForOneOf}
use Rattle.agent_core.specs.Rules.{history_with}
use Rattle.link_session.specs.Keeps.{Extends, Keeps, no_more, IsAckedUpTo}
use Rattle.link_session.proofs.StoreLemmas.{keeps-more, stands-all}
use Rattle.agent_app.specs.declared.running.Running.{Running}
use Rattle.agent_app.specs.Convert.{all_told, ending_line, is_limit, refusal_line, refusal_status}
use Rattle.agent_app.specs.Reading.{Ending, HasRead, RefusedAt, Reading, reading}
use Rattle.agent_app.specs.Run.{history_with_text, is_whole, run_output, run_reading, run_rules, FailsAtBeat, HasRunCause}
use Rattle.agent_app.specs.Running.{IsCutShort, RunsAt, StopsIn, TellsRefusal}
use Rattle.agent_app.proofs.AckLemmas.{acked-refusal, middle-none, refusal-some}
use Rattle.agent_app.proofs.CauseLemmas.{apart, refusal-inside}
use Rattle.agent_app.proofs.RunningLemmas.{line-crashes, told-crashes, torn-crashes}

-- these bytes were told of the output, and others were not
pub record Behind (made output : List ℕ) : Type 0 where
  pub left : List ℕ
  pub whole : output ≡ made ++ left

-- what was told of the lines that were read is a prefix of the output
pub output-behind : (every : ℕ) (set : Settings) (h0 : List Beat) (prefix : List (List ℕ)) (read : List Line) (made : List ℕ) → HasRead (run_rules every set h0) prefix read made → (ended : Bool) (text next : List ℕ) (more : List (List ℕ)) → parts text ≡ prefix ++ next ∷ more
    → Behind made (run_output every set h0 ended text)
output-behind every set h0 prefix read made has ended text next more whole =
    let on = reading (run_rules every set h0) ended read (next ∷ more) in
    record {
      left = on.told ++ ending_line on.ending;
      whole = ap all_told (ap (reading (run_rules every set h0) ended []) whole ∙ has.onward ended next more) ∙ append_assoc made on.told (ending_line on.ending);
    }

refusal-cause : (number : ℕ) (why : Refusal) (ended : Bool) (ending : Ending Refusal) (text : List ℕ) (source_rose tell_rose disk_rose : Type 0) → ending ≡ RefusedAt number why
    → HasRunCause (refusal_status number why) ended ending text source_rose tell_rose disk_rose
refusal-cause number why ended ending text source_rose tell_rose disk_rose is = by (is_limit why) refl
  where
    by : (limit : Bool) → is_limit why ≡ limit → HasRunCause (if limit then Limit number (refusal_number why) else Refused number (refusal_number why)) ended ending text source_rose tell_rose disk_rose
    by true e = (why, is, sym (ap (λ (b : Bool). if b then Limit number (refusal_number why) else Refused number (refusal_number why)) e))
    by false e = (why, is, sym (ap (λ (b : Bool). if b then Limit number (refusal_number why) else Refused number (refusal_number why)) e))

module _ (past : List Event) (running : Running) (every : ℕ) (set : Settings) (h0 : List Beat) (start : List Event) (read : List Line) (made : List ℕ) (at : RunsAt past running every set h0 start read made) where
  abbrev now : List Beat
  now = history_at every h0 read

  module _ (ended : Bool) (text : List ℕ) (source_rose tell_rose disk_rose : Type 0) where
    abbrev Stops : Status → List Event → Type 0
    Stops status new = StopsIn status every set h0 ended text start new source_rose tell_rose disk_rose

    abbrev Kept : List Event → Type 0
    Kept new = Throughout (EveryCrash (Keeps set h0 (history_with_text every h0 text) (told start))) start new

    short-stop : (status : Status) (new : List Event) (said unsaid : List ℕ) → is_whole status ≡ false → Kept new → run_output every set h0 ended text ≡ said ++ unsaid → told new ≡ told start ++ said
        → (status ≡ TellFault → run_output every set h0 ended text ≡ [] → ⊥) → FailsAtBeat status every set h0 ended text said → HasRunCause status ended (run_reading every set h0 ended text).ending text source_rose tell_rose disk_rose → Stops status new
    short-stop status new said unsaid short kept whole tells told_for stored_for cause = record {
      stores = record {
        crashes = kept;
        ends = λ all. absurd (true≢false (sym all ∙ short));
        output = record { said = said; unsaid = unsaid; whole = whole; tells = tells; complete = λ all. absurd (true≢false (sym all ∙ short)) };
        told_for = told_for;
      };
      stored_for = stored_for;
      cause = cause;
    }

    -- all of the text was told, and all of its beats are stored
    pub whole-stop : (status : Status) → (status ≡ TellFault → ⊥) → (status ≡ DiskFault → ⊥) → run_output every set h0 ended text ≡ made → history_with_text every h0 text ≡ now → HasRunCause status ended (run_reading every set h0 ended text).ending text source_rose tell_rose disk_rose → Stops status past
    whole-stop status untold stored output history cause = record {
      stores = record {
        crashes = subst (λ (h : List Beat). Throughout (EveryCrash (Keeps set h0 h (told start))) start past) (sym history) at.crashes;
        ends = λ _. subst (λ (h : List Beat). EveryDisk (StandsForHistory set h) past) (sym history) (stands-all past running.agent set now at.agent);
        output = record { said = made; unsaid = []; whole = output ∙ sym (append-nil made); tells = at.tells; complete = λ _. refl };
        told_for = λ is. absurd (untold is);
      };
      stored_for = λ is. absurd (stored is);
      cause = cause;
    }

    -- memory ran out
    pub want-stop : Extends now (history_with_text every h0 text) → Behind made (run_output every set h0 ended text) → Stops Memory past
    want-stop more behind = short-stop Memory past made behind.left refl (keeps-more set h0 now (history_with_text every h0 text) (told start) more start past at.crashes) behind.whole at.tells (λ is. absurd (short is)) (λ is. absurd (stored is)) tt
      where
        short : Memory ≡ TellFault → ⊥
        short e = cc

        stored : Memory ≡ DiskFault → ⊥
        stored e = cc

    -- the line that says this was not taken
    pub line-stop : (status : Status) (said : Line) (reason : Option BlockFault) (new : List Event) → is_whole status ≡ false → (status ≡ TellFault → ⊥) → FailsAtBeat status every set h0 ended text made → HasRunCause status ended (run_reading every set h0 ended text).ending text source_rose tell_rose disk_rose
        → Throughout (EveryDisk (StandsForOneOf set now reason (history_with now every read said))) past new → told new ≡ told past
        → Extends now (history_with_text every h0 text) → (reason ≡ None → Extends (history_at every h0 (said ∷ read)) (history_with_text every h0 text)) → Behind made (run_output every set h0 ended text) → Stops status new
    line-stop status said reason new short untold stored_for cause moments silent here there behind =
        short-stop status new made behind.left short (line-crashes past running every set h0 start read made at said reason new (history_with_text every h0 text) here there moments silent) behind.whole (silent ∙ at.tells) (λ is. absurd (untold is)) stored_for cause

    -- a text that is told next was not told whole
    pub cut-stop : (status : Status) (honest : Type 0) (next : List ℕ) (new : List Event) → honest → IsCutShort status honest next past new tell_rose → IsAckedUpTo (length now) next → (next ≡ [] → ⊥)
        → Extends now (history_with_text every h0 text) → Behind (made ++ next) (run_output every set h0 ended text) → Stops status new
    cut-stop status honest next new h (inl (is, rose, torn)) acked some more behind = subst (λ (s : Status). Stops s new) (sym is) (by (torn h))
      where
        kept : Kept new
        kept = keeps-more set h0 now (history_with_text every h0 text) (told start) more start new (torn-crashes past running every set h0 start read made at next acked new (torn h))

        output : run_output every set h0 ended text ≡ made ++ (next ++ behind.left)
        output = behind.whole ∙ append_assoc made next behind.left

        told_for : TellFault ≡ TellFault → run_output every set h0 ended text ≡ [] → ⊥
        told_for is none = some (middle-none made next behind.left (sym output ∙ none))

        stored_for : (sent : List ℕ) → FailsAtBeat TellFault every set h0 ended text sent
        stored_for sent is = cc

        by : MayAdd (λ (n : ℕ). Told (take n next)) past new → Stops TellFault new
        by (inl same) = short-stop TellFault new made (next ++ behind.left) refl kept output (ap told same ∙ at.tells) told_for (stored_for made) rose
        by (inr (n, added)) =
            short-stop TellFault new (made ++ take n next) (drop n next ++ behind.left) refl kept
            (output ∙ ap (λ (t : List ℕ). made ++ (t ++ behind.left)) (sym (take-append-drop n next)) ∙ ap (λ (t : List ℕ). made ++ t) (append_assoc (take n next) (drop n next) behind.left)
            ∙ sym (append_assoc made (take n next) (drop n next ++ behind.left)))
            (ap told added ∙ ap (λ (t : List ℕ). t ++ take n next) at.tells ∙ append_assoc (told start) made (take n next)) told_for (stored_for (made ++ take n next)) rose
    cut-stop status honest next new h (inr (is, same)) acked some more behind =
        subst (λ (s : Status). Stops s new) (sym is)
        (subst (λ (p : List Event). Stops Memory p) (sym same) (want-stop more (record { left = next ++ behind.left; whole = behind.whole ∙ append_assoc made next behind.left })))

    -- a refusal ends the text
    pub refusal-stop : (status : Status) (honest : Type 0) (number : ℕ) (why : Refusal) (new : List Event) → honest → TellsRefusal status honest number why past new tell_rose
        → run_reading every set h0 ended text ≡ record { told = made; ending = RefusedAt number why } → history_with_text every h0 text ≡ now → Stops status new
    refusal-stop status honest number why new h (inl (is, done)) whole history =
        let line = refusal_line number why in
        let stands : EveryDisk (StandsForHistory set now) (Told line ∷ past) = stands-all past running.agent set now at.agent in
        subst (λ (s : Status). Stops s new) (sym is) (record {
          stores = record {
            crashes = subst (λ (w : List Beat). Throughout (EveryCrash (Keeps set h0 w (told start))) start new) (sym history)
                (told-crashes past running every set h0 start read made at line (acked-refusal (length now) number why) new (done h));
            ends = λ _. subst (λ (w : List Beat). EveryDisk (StandsForHistory set w) new) (sym history) (subst (λ (p : List Event). EveryDisk (StandsForHistory set now) p) (sym (done h)) stands);
            output = record {
              said = made ++ line;
              unsaid = [];
              whole = ap all_told whole ∙ sym (append-nil (made ++ line));
              tells = ap told (done h) ∙ ap (λ (t : List ℕ). t ++ line) at.tells ∙ append_assoc (told start) made line;
              complete = λ _. refl;
            };
            told_for = λ untold none. apart (refusal_status number why) TellFault (refusal-inside number why) refl untold;
          };
          stored_for = λ failed. absurd (apart (refusal_status number why) DiskFault (refusal-inside number why) refl failed);
          cause = refusal-cause number why ended (run_reading every set h0 ended text).ending text source_rose tell_rose disk_rose (ap (λ (r : Reading Refusal). r.ending) whole);
        })
    refusal-stop status honest number why new h (inr cut) whole history =
        cut-stop status honest (refusal_line number why) new h cut (acked-refusal (length now) number why) (refusal-some number why)
        (subst (λ (w : List Beat). Extends now w) (sym history) no_more) (record { left = []; whole = ap all_told whole ∙ sym (append-nil (made ++ refusal_line number why)) })
