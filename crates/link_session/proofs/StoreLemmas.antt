-- How what is stored and told grows.
use Rattle.std.proofs.Common.{◌≡◌, inl, inr, ℕ, Bool, false, List, [], ◌∷◌, ◌++◌, length, take, drop, refl, sym, ap, subst, ◌∙◌, append_assoc, append-nil}
use Rattle.std.proofs.lemmas.List.{take-append-drop}
use Rattle.host_model.specs.declared.file.File.{File}
use Rattle.host_model.specs.Disks.{EveryDisk}
use Rattle.host_model.specs.Moments.{Throughout, EveryCrash}
use Rattle.host_model.specs.Past.{Event, Told, told, IsText, MayAdd, TellsPrefix}
use Rattle.host_model.proofs.CallLemmas.{may_have_moved, moved}
use Rattle.host_model.proofs.DiskLemmas.{untold}
use Rattle.host_model.proofs.MomentLemmas.{at_end, joined, weakened}
use Rattle.history.specs.History.{Beat}
use Rattle.plugin_text.specs.Lines.{rest}
use Rattle.tier_settings.specs.declared.settings.Settings.{Settings}
use Rattle.agent_core.specs.Agent.{AgentState, IsAgentOf}
use Rattle.agent_core.specs.Kept.{onto}
use Rattle.agent_core.specs.Stands.{StandsForPrefix, StandsForHistory}
use Rattle.agent_core.proofs.KeptLemmas.{agent-told, stays}
use Rattle.link_session.specs.Keeps.{no_more, Extends, IsAckedUpTo, Keeps}
use Rattle.link_session.specs.Receiving.{HasGoneOn, HasStored, StoresAt}
use Rattle.link_session.proofs.AckLemmas.{acked-more, acked-since, acked-weaker, closed-more, text-prefix}
use Rattle.link_session.proofs.ExtendsLemmas.{extends-prefix, extends-further, extends-length, extends-onto}

-- ---- an agent
pub stands-all : (past : List Event) (agent : AgentState) (set : Settings) (h : List Beat) → IsAgentOf past agent set h → EveryDisk (StandsForHistory set h) past
stands-all past agent set h is_of = stays past agent.store set h is_of.holds

-- it is of all that was stored
pub gone-on : (past : List Event) (agent : AgentState) (set : Settings) (h0 h : List Beat) → Extends h0 h → IsAgentOf past agent set h → (all : Bool) → HasGoneOn all past agent set h0 h
gone-on past agent set h0 h since is_of all = record { stored = h; tried = []; since = since; within = no_more; sound = inl is_of; complete = λ _. is_of }

-- ---- what a crash leaves
pub keeps-more : (set : Settings) (h0 h whole : List Beat) (before : List ℕ) → Extends h whole → (start new : List Event) → Throughout (EveryCrash (Keeps set h0 h before)) start new → Throughout (EveryCrash (Keeps set h0 whole before)) start new
keeps-more set h0 h whole before more start new crashes =
    weakened (λ past held disk text images by_then.
    let kept = held disk text images by_then in
    record { stored = kept.stored; since = kept.since; within = extends-further kept.stored h whole kept.within more; stands = kept.stands; acked = kept.acked }) crashes

-- a history that goes on from this is stored
pub stored-since : (set : Settings) (h g : List Beat) (start new : List Event) (made : List ℕ) → Extends h g → HasStored set g start made new → HasStored set h start made new
stored-since set h g start new made since has = record {
  more = has.more;
  tells = has.tells;
  stands = λ disk images. let (f, on, stands) = has.stands disk images in (f, extends-further h g f since on, stands);
}

module _ (past : List Event) (agent : AgentState) (set : Settings) (h0 h : List Beat) (start : List Event) (made : List ℕ) (at : StoresAt past agent set h0 h start made) where
  -- what was told by then acknowledges no more than is stored
  acked-by : (text : List ℕ) → IsText past text → IsAckedUpTo (length h) (drop (length (told start)) text)
  acked-by text by_then =
      let prefix = text-prefix past text by_then in
      acked-since (length h) (told start) made text prefix.more (prefix.whole ∙ at.tells) at.acked

  -- all that was to be told was
  pub tells-all : (all : Bool) → TellsPrefix all made start past
  tells-all all = record { said = made; unsaid = []; whole = sym (append-nil made); tells = at.tells; complete = λ _. refl }

  -- it is stored and told
  pub all-stored : HasStored set h start made past
  all-stored = record {
    more = [];
    tells = at.tells ∙ ap (λ (t : List ℕ). told start ++ t) (sym (append-nil made));
    stands = λ disk images. (h, no_more, stands-all past agent set h at.agent_of disk images);
  }

  -- moments at which nothing is told, and the disk holds this history with the first of these beats
  module _ (more : List Beat) (new : List Event) (moments : Throughout (EveryDisk (StandsForPrefix set h more)) past new) (silent : told new ≡ told past) where
    pub prefix-crashes : Throughout (EveryCrash (Keeps set h0 (onto h more) (told start))) start new
    prefix-crashes = joined (keeps-more set h0 h (onto h more) (told start) (extends-onto h more) start past at.crashes) (untold silent shows moments)
      where
        shows : (disk : File → List ℕ) (text : List ℕ) → StandsForPrefix set h more disk → IsText past text → Keeps set h0 (onto h more) (told start) disk text
        shows disk text (n, stands) by_then = record {
          stored = onto h (take n more);
          since = extends-further h0 h (onto h (take n more)) at.since (extends-onto h (take n more));
          within = extends-prefix n h more;
          stands = stands;
          acked = acked-weaker (length h) (length (onto h (take n more))) (drop (length (told start)) text) (extends-length h (onto h (take n more)) (extends-onto h (take n more))) (acked-by text by_then);
        }

    -- they were all stored
    pub beats-stored : (agent' : AgentState) → IsAgentOf new agent' set (onto h more) → StoresAt new agent' set h0 (onto h more) start made
    beats-stored agent' is_of = record {
      since = extends-further h0 h (onto h more) at.since (extends-onto h more);
      agent_of = is_of;
      tells = silent ∙ at.tells;
      closed = at.closed;
      acked = acked-weaker (length h) (length (onto h more)) made (extends-length h (onto h more) (extends-onto h more)) at.acked;
      crashes = prefix-crashes;
    }

    -- what had been stored and told is
    pub still-stored : HasStored set h start made new
    still-stored = record {
      more = [];
      tells = silent ∙ at.tells ∙ ap (λ (t : List ℕ). told start ++ t) (sym (append-nil made));
      stands = λ disk images. let (n, stands) = at_end moments disk images in (onto h (take n more), extends-onto h (take n more), stands);
    }

    -- nothing more was told
    pub silent-prefix : (text : List ℕ) → TellsPrefix false (made ++ text) start new
    silent-prefix text = record { said = made; unsaid = text; whole = refl; tells = silent ∙ at.tells; complete = λ e. cc }

  module _ (text : List ℕ) (acked : IsAckedUpTo (length h) text) where
    -- a prefix of the text was told
    prefix-crash : (sent left : List ℕ) → sent ++ left ≡ text → EveryCrash (Keeps set h0 h (told start)) (Told sent ∷ past)
    prefix-crash sent left whole disk said images by_then =
        let prefix : said ++ (drop by_then.0 sent ++ left) ≡ told start ++ (made ++ text) =
        ap (λ (t : List ℕ). t ++ (drop by_then.0 sent ++ left)) by_then.1 ∙ append_assoc (told past) (take by_then.0 sent) (drop by_then.0 sent ++ left)
        ∙ ap (λ (t : List ℕ). told past ++ t) (sym (append_assoc (take by_then.0 sent) (drop by_then.0 sent) left) ∙ ap (λ (t : List ℕ). t ++ left) (take-append-drop by_then.0 sent) ∙ whole)
        ∙ ap (λ (t : List ℕ). t ++ text) at.tells ∙ append_assoc (told start) made text in
        record {
          stored = h;
          since = at.since;
          within = no_more;
          stands = stands-all past agent set h at.agent_of disk images;
          acked = acked-since (length h) (told start) (made ++ text) said (drop by_then.0 sent ++ left) prefix (acked-more (length h) made text at.closed at.acked acked);
        }

    here-crash : EveryCrash (Keeps set h0 h (told start)) past
    here-crash disk said images by_then = record {
      stored = h;
      since = at.since;
      within = no_more;
      stands = stands-all past agent set h at.agent_of disk images;
      acked = acked-by said by_then;
    }

    pub torn-crashes : (new : List Event) → MayAdd (λ (n : ℕ). Told (take n text)) past new → Throughout (EveryCrash (Keeps set h0 h (told start))) start new
    torn-crashes new may =
        joined at.crashes (may_have_moved (EveryCrash (Keeps set h0 h (told start))) (λ (n : ℕ). Told (take n text)) past new may here-crash (λ n. prefix-crash (take n text) (drop n text) (take-append-drop n text)))

    pub torn-prefix : (new : List Event) → MayAdd (λ (n : ℕ). Told (take n text)) past new → TellsPrefix false (made ++ text) start new
    torn-prefix new (inl same) = record { said = made; unsaid = text; whole = refl; tells = ap told same ∙ at.tells; complete = λ e. cc }
    torn-prefix new (inr (n, added)) = record {
      said = made ++ take n text;
      unsaid = drop n text;
      whole = ap (λ (t : List ℕ). made ++ t) (sym (take-append-drop n text)) ∙ sym (append_assoc made (take n text) (drop n text));
      tells = ap told added ∙ ap (λ (t : List ℕ). t ++ take n text) at.tells ∙ append_assoc (told start) made (take n text);
      complete = λ e. cc;
    }

    pub torn-stored : (new : List Event) → MayAdd (λ (n : ℕ). Told (take n text)) past new → HasStored set h start made new
    torn-stored new (inl same) = subst (HasStored set h start made) (sym same) all-stored
    torn-stored new (inr (n, added)) = record {
      more = take n text;
      tells = ap told added ∙ ap (λ (t : List ℕ). t ++ take n text) at.tells ∙ append_assoc (told start) made (take n text);
      stands = subst (EveryDisk (λ disk. (g : List Beat) × Extends h g × StandsForHistory set g disk)) (sym added)
          (λ disk images. (h, no_more, stands-all (Told (take n text) ∷ past) agent set h (agent-told (take n text) past agent set h at.agent_of) disk images));
    }

    -- the text was told, whole lines of it
    pub text-told : (new : List Event) → new ≡ Told text ∷ past → rest text ≡ [] → StoresAt new agent set h0 h start (made ++ text)
    text-told new is closed = record {
      since = at.since;
      agent_of = subst (λ (p : List Event). IsAgentOf p agent set h) (sym is) (agent-told text past agent set h at.agent_of);
      tells = ap told is ∙ ap (λ (t : List ℕ). t ++ text) at.tells ∙ append_assoc (told start) made text;
      closed = closed-more made text at.closed closed;
      acked = acked-more (length h) made text at.closed at.acked acked;
      crashes = joined at.crashes (moved (EveryCrash (Keeps set h0 h (told start))) (Told text) past new is here-crash (prefix-crash text [] (append-nil text)));
    }
