-- How a run under way goes on: with a line of its text, and with a text that is told.
use Rattle.std.proofs.Common.{◌≡◌, inl, inr, ℕ, List, [], ◌∷◌, ◌++◌, length, take, drop, Option, None, sym, ap, subst, ◌∙◌, append_assoc, append-nil}
use Rattle.std.proofs.lemmas.List.{take-append-drop}
use Rattle.host_model.specs.declared.file.File.{File}
use Rattle.host_model.specs.Disks.{EveryDisk}
use Rattle.host_model.specs.Moments.{Throughout, EveryCrash}
use Rattle.host_model.specs.Past.{Event, Told, told, IsText, MayAdd}
use Rattle.host_model.proofs.CallLemmas.{may_have_moved, moved}
use Rattle.host_model.proofs.DiskLemmas.{untold}
use Rattle.host_model.proofs.MomentLemmas.{joined}
use Rattle.history.specs.declared.fault.BlockFault.{BlockFault}
use Rattle.history.specs.declared.line.Line.{Line}
use Rattle.history.specs.History.{Beat}
use Rattle.history.specs.Read.{history_at, refusal_at}
use Rattle.plugin_text.specs.Lines.{rest}
use Rattle.collect_block.specs.Feed.{CountsFor, IsFeedOf}
use Rattle.tier_settings.specs.declared.settings.Settings.{Settings}
use Rattle.agent_core.specs.Agent.{IsAgentOf}
use Rattle.agent_core.specs.Stands.{StandsForHistory, StandsForOneOf}
use Rattle.agent_core.specs.Rules.{history_with}
use Rattle.link_session.specs.Keeps.{Extends, no_more, Keeps, IsAckedUpTo}
use Rattle.link_session.proofs.AckLemmas.{acked-more, acked-since, acked-weaker, closed-more, text-prefix}
use Rattle.link_session.proofs.ExtendsLemmas.{extends-length}
use Rattle.agent_core.proofs.KeptLemmas.{agent-told}
use Rattle.link_session.proofs.StoreLemmas.{keeps-more, stands-all}
use Rattle.agent_app.specs.declared.running.Running.{Running}
use Rattle.agent_app.specs.Running.{RunsAt}
use Rattle.agent_app.proofs.ExtendsLemmas.{extends-line, extends-start, with-line}

module _ (past : List Event) (running : Running) (every : ℕ) (set : Settings) (h0 : List Beat) (start : List Event) (read : List Line) (made : List ℕ) (at : RunsAt past running every set h0 start read made) where
  abbrev now : List Beat
  now = history_at every h0 read

  -- what was told by then acknowledges no more than is stored
  acked-by : (text : List ℕ) → IsText past text → IsAckedUpTo (length now) (drop (length (told start)) text)
  acked-by text by_then =
      let prefix = text-prefix past text by_then in
      acked-since (length now) (told start) made text prefix.more (prefix.whole ∙ at.tells) at.acked

  -- moments at which nothing is told, and the disk holds this history, or the one with the beat of a line
  pub line-crashes : (said : Line) (reason : Option BlockFault) (new : List Event) (whole : List Beat) → Extends now whole → (reason ≡ None → Extends (history_at every h0 (said ∷ read)) whole)
      → Throughout (EveryDisk (StandsForOneOf set now reason (history_with now every read said))) past new → told new ≡ told past → Throughout (EveryCrash (Keeps set h0 whole (told start))) start new
  line-crashes said reason new whole here there moments silent =
      let after = history_at every h0 (said ∷ read) in
      let one = extends-line every h0 read said in
      let shows : (disk : File → List ℕ) (text : List ℕ) → StandsForOneOf set now reason (history_with now every read said) disk → IsText past text → Keeps set h0 whole (told start) disk text
      = λ disk text stands by_then. elim stands [
        | inl same ↦ record { stored = now; since = extends-start every h0 read; within = here; stands = same; acked = acked-by text by_then }
        | inr more ↦ record {
          stored = after;
          since = extends-start every h0 (said ∷ read);
          within = there more.0;
          stands = subst (λ (h : List Beat). StandsForHistory set h disk) (with-line every h0 read said) more.1;
          acked = acked-weaker (length now) (length after) (drop (length (told start)) text) (extends-length now after one) (acked-by text by_then);
        }
      ] in
      joined (keeps-more set h0 now whole (told start) here start past at.crashes) (untold silent shows moments)

  -- a line was taken
  pub line-taken : (said : Line) (new : List Event) (running' : Running) (reason : Option BlockFault) → refusal_at every h0 read said ≡ None
      → IsAgentOf new running'.agent set (history_with now every read said) → IsFeedOf running'.feed every (said ∷ read) → CountsFor running'.feed running'.agent.registry
      → Throughout (EveryDisk (StandsForOneOf set now reason (history_with now every read said))) past new → told new ≡ told past → RunsAt new running' every set h0 start (said ∷ read) made
  line-taken said new running' reason free agent feed counts moments silent =
      let after = history_at every h0 (said ∷ read) in
      let one = extends-line every h0 read said in
      record {
        within = at.within;
        accepted = (free, at.accepted);
        agent = subst (IsAgentOf new running'.agent set) (with-line every h0 read said) agent;
        feed = feed;
        counts = counts;
        tells = silent ∙ at.tells;
        closed = at.closed;
        acked = acked-weaker (length now) (length after) made (extends-length now after one) at.acked;
        crashes = line-crashes said reason new after one (λ _. no_more) moments silent;
      }

  module _ (text : List ℕ) (acked : IsAckedUpTo (length now) text) where
    -- a prefix of the text was told
    prefix-crash : (sent left : List ℕ) → sent ++ left ≡ text → EveryCrash (Keeps set h0 now (told start)) (Told sent ∷ past)
    prefix-crash sent left whole disk said images by_then =
        let prefix : said ++ (drop by_then.0 sent ++ left) ≡ told start ++ (made ++ text) =
        ap (λ (t : List ℕ). t ++ (drop by_then.0 sent ++ left)) by_then.1 ∙ append_assoc (told past) (take by_then.0 sent) (drop by_then.0 sent ++ left)
        ∙ ap (λ (t : List ℕ). told past ++ t) (sym (append_assoc (take by_then.0 sent) (drop by_then.0 sent) left) ∙ ap (λ (t : List ℕ). t ++ left) (take-append-drop by_then.0 sent) ∙ whole)
        ∙ ap (λ (t : List ℕ). t ++ text) at.tells ∙ append_assoc (told start) made text in
        record {
          stored = now;
          since = extends-start every h0 read;
          within = no_more;
          stands = stands-all past running.agent set now at.agent disk images;
          acked = acked-since (length now) (told start) (made ++ text) said (drop by_then.0 sent ++ left) prefix (acked-more (length now) made text at.closed at.acked acked);
        }

    here-crash : EveryCrash (Keeps set h0 now (told start)) past
    here-crash disk said images by_then = record {
      stored = now;
      since = extends-start every h0 read;
      within = no_more;
      stands = stands-all past running.agent set now at.agent disk images;
      acked = acked-by said by_then;
    }

    pub told-crashes : (new : List Event) → new ≡ Told text ∷ past → Throughout (EveryCrash (Keeps set h0 now (told start))) start new
    told-crashes new is = joined at.crashes (moved (EveryCrash (Keeps set h0 now (told start))) (Told text) past new is here-crash (prefix-crash text [] (append-nil text)))

    pub torn-crashes : (new : List Event) → MayAdd (λ (n : ℕ). Told (take n text)) past new → Throughout (EveryCrash (Keeps set h0 now (told start))) start new
    torn-crashes new may =
        joined at.crashes (may_have_moved (EveryCrash (Keeps set h0 now (told start))) (λ (n : ℕ). Told (take n text)) past new may here-crash (λ n. prefix-crash (take n text) (drop n text) (take-append-drop n text)))

    -- the text was told, whole lines of it
    pub text-told : (new : List Event) → new ≡ Told text ∷ past → rest text ≡ [] → RunsAt new running every set h0 start read (made ++ text)
    text-told new is closed = record {
      within = at.within;
      accepted = at.accepted;
      agent = subst (λ (p : List Event). IsAgentOf p running.agent set now) (sym is) (agent-told text past running.agent set now at.agent);
      feed = at.feed;
      counts = at.counts;
      tells = ap told is ∙ ap (λ (t : List ℕ). t ++ text) at.tells ∙ append_assoc (told start) made text;
      closed = closed-more made text at.closed closed;
      acked = acked-more (length now) made text at.closed at.acked acked;
      crashes = told-crashes new is;
    }
