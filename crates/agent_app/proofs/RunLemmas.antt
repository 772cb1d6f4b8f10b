-- A whole run, from its first line to its end.
use Rattle.std.proofs.Common.{◌≡◌, ◌⊎◌, inl, inr, ℕ, ◌-◌, ◌<◌, ◌≤◌, Bool, true, false, nat_lt, List, [], ◌∷◌, ◌++◌, length, take, Option, Some, IfSome, Result, Ok, Err, refl, sym, ap, subst, ◌∙◌, append_assoc, append-nil, length-append, arith, true≢false}
use Rattle.std.proofs.lemmas.List.{take_all, take-append-le}
use Rattle.std.proofs.lemmas.Bool.Decides.{nat_tests}
use Rattle.std.proofs.lemmas.List.Elements.{recursion_from_All}
use Rattle.std.specs.List.{AllByRecursion, AllPass}
use Rattle.host_model.specs.declared.status.Status.{Status}
use Rattle.host_model.specs.declared.status.Status.TheVariants as status
use Rattle.host_model.specs.Past.{Event}
use Rattle.history.specs.History.{Beat}
use Rattle.history.specs.Read.{history_at}
use Rattle.plugin_text.specs.Lines.{fits, lines, parts, rest, BeginsWithLines, HasNoLongLine}
use Rattle.plugin_text.proofs.LongLemmas.{IsLongAfter-append}
use Rattle.plugin_text.proofs.PartsLemmas.{parts_whole}
use Rattle.plugin_text.specs.declared.refusal.Refusal.{Refusal}
use Rattle.tier_settings.specs.declared.settings.Settings.{Settings}
use Rattle.line_stream.specs.Chain.{Acts, Chain, begins, goes_on, pauses}
use Rattle.line_stream.specs.Run.{input_limit, Ended, at_line, at_pause, at_long_line, at_end, at_fault, at_limit, at_want}
use Rattle.line_stream.proofs.RunLemmas.{rose-later}
use Rattle.host_model.specs.Seen.{Seen}
use Rattle.link_session.specs.Keeps.{LeavesFiles}
use Rattle.link_session.proofs.LeavesLemmas.{leaves-further, leaves-nothing}
use Rattle.agent_app.specs.declared.running.Running.{Running}
use Rattle.agent_app.specs.Convert.{all_told, ending_status}
use Rattle.agent_app.specs.Reading.{Ending, GoesOn, Reading}
use Rattle.agent_app.specs.Run.{ends_a_run, history_with_text, run_reading, run_rules, run_status, HasRunCause, LeavesOthers}
use Rattle.agent_app.specs.Running.{run_acts, Counts, DiskRose, IsRunning, IsTakers, StopsIn, TellRose}
use Rattle.agent_app.proofs.CauseLemmas.{both-counts, counts-none, gone-counts, same-counts, status-counts}
use Rattle.agent_app.proofs.ExtendsLemmas.{extends-text}
use Rattle.agent_app.proofs.HasReadLemmas.{line-onward, read-open, says-all, take-append_past}
use Rattle.agent_app.proofs.StopsLemmas.{output-behind, want-stop, whole-stop}

-- ---- failures
pub cause-wider : (s : Status) (ended : Bool) (ending : Ending Refusal) (taken : List ℕ) (a b c a' b' c' : Type 0) → (a → a') → (b → b') → (c → c') → HasRunCause s ended ending taken a b c → HasRunCause s ended ending taken a' b' c'
cause-wider status.ReadFault ended ending taken a b c a' b' c' f g h has = (has.0, has.1, f has.2)
cause-wider status.TellFault ended ending taken a b c a' b' c' f g h has = g has
cause-wider status.DiskFault ended ending taken a b c a' b' c' f g h has = h has
cause-wider s ended ending taken a b c a' b' c' f g h has = has

pub stops-wider : (s : Status) (every : ℕ) (set : Settings) (h0 : List Beat) (ended : Bool) (text : List ℕ) (start new : List Event) (a b c a' b' c' : Type 0) → (a → a') → (b → b') → (c → c')
    → StopsIn s every set h0 ended text start new a b c → StopsIn s every set h0 ended text start new a' b' c'
stops-wider s every set h0 ended text start new a b c a' b' c' f g h stop = record {
  stores = stop.stores;
  stored_for = stop.stored_for;
  cause = cause-wider s ended (run_reading every set h0 ended text).ending text a b c a' b' c' f g h stop.cause;
}

-- where nothing outside failed, the status is that of how the reading ends, or memory ran out
status-told : (s : Status) (ended : Bool) (ending : Ending Refusal) (taken : List ℕ) (a b c : Type 0) → (a → ⊥) → (b → ⊥) → (c → ⊥) → HasRunCause s ended ending taken a b c → (s ≡ ending_status ending) ⊎ (s ≡ status.Memory)
status-told status.Ok ended ending taken a b c f g h has = inl (ap ending_status (sym has))
status-told (status.Refused line number) ended ending taken a b c f g h has = inl (has.2 ∙ ap ending_status (sym has.1))
status-told (status.Limit line number) ended ending taken a b c f g h has = inl (has.2 ∙ ap ending_status (sym has.1))
status-told status.ReadFault ended ending taken a b c f g h has = absurd (f has.2)
status-told status.TellFault ended ending taken a b c f g h has = absurd (g has)
status-told status.DiskFault ended ending taken a b c f g h has = absurd (h has)
status-told status.InputLimit ended ending taken a b c f g h has = inl (ap ending_status (sym has.1))
status-told status.Memory ended ending taken a b c f g h has = inr refl
status-told s ended ending taken a b c f g h has = absurd has

-- ---- the status of a text
module _ (every : ℕ) (set : Settings) (h0 : List Beat) where
  -- of one that goes on behind what was taken
  status-onward : (limit : ℕ) (text more : List ℕ) → length text ≤ limit
      → ending_status (run_reading every set h0 (nat_lt (length (text ++ more)) limit) (text ++ take (limit - length text) more)).ending ≡ ending_status (run_reading every set h0 (nat_lt (length (text ++ more)) limit) (take limit (text ++ more))).ending
  status-onward limit text more within = ap (λ (t : List ℕ). ending_status (run_reading every set h0 (nat_lt (length (text ++ more)) limit) t).ending) (sym (take-append_past limit text more within))

  -- of one that ended
  status-ended : (limit : ℕ) (text : List ℕ) → length text < limit → ending_status (run_reading every set h0 true text).ending ≡ ending_status (run_reading every set h0 (nat_lt (length text) limit) (take limit text)).ending
  status-ended limit text within =
      let ended : nat_lt (length text) limit ≡ true = grind (arith, nat_tests) in
      let all : take limit text ≡ text = take_all limit text (omega arith) in
      λ i. ending_status (run_reading every set h0 (sym ended i) (sym all i)).ending

  -- of one that fills the limit
  status-full : (limit : ℕ) (text more : List ℕ) → length text ≡ limit
      → ending_status (run_reading every set h0 false text).ending ≡ ending_status (run_reading every set h0 (nat_lt (length (text ++ more)) limit) (take limit (text ++ more))).ending
  status-full limit text more full =
      let longer : limit ≤ length (text ++ more) = omega (arith, length-append text more) in
      let open_end : nat_lt (length (text ++ more)) limit ≡ false = grind (arith, nat_tests) in
      let all : take limit (text ++ more) ≡ text = take-append-le limit text more (omega arith) ∙ take_all limit text (omega arith) in
      λ i. ending_status (run_reading every set h0 (sym open_end i) (sym all i)).ending

pub rest-fits : (text : List ℕ) → HasNoLongLine text → fits (rest text) ≡ true
rest-fits text short =
    last-passes (lines text) (rest text) (recursion_from_All (λ (part : List ℕ). fits part ≡ true) (lines text ++ rest text ∷ []) (subst (AllPass fits) (parts_whole text) short))
  where
    last-passes : (prefix : List (List ℕ)) (last : List ℕ) → AllByRecursion (λ (part : List ℕ). fits part ≡ true) (prefix ++ last ∷ []) → fits last ≡ true
    last-passes [] last all = all.0
    last-passes (part ∷ prefix) last all = last-passes prefix last all.1

-- some part follows the lines that a text begins with
pub record Followed (text : List ℕ) (prefix : List (List ℕ)) : Type 0 where
  pub next : List ℕ
  pub more : List (List ℕ)
  pub whole : parts text ≡ prefix ++ next ∷ more

prefix-followed : (text : List ℕ) (prefix : List (List ℕ)) → BeginsWithLines text prefix → Followed text prefix
prefix-followed text prefix begins_with = by begins_with.left begins_with.whole
  where
    by : (left : List (List ℕ)) → lines text ≡ prefix ++ left → Followed text prefix
    by [] is = record { next = rest text; more = []; whole = parts_whole text ∙ ap (λ (l : List (List ℕ)). l ++ rest text ∷ []) (is ∙ append-nil prefix) }
    by (next ∷ left) is = record { next = next; more = left ++ rest text ∷ []; whole = parts_whole text ∙ ap (λ (l : List (List ℕ)). l ++ rest text ∷ []) is ∙ append_assoc prefix (next ∷ left) (rest text ∷ []) }

-- nothing happens to a file but the journal, call by call
pub both-others : (honest : Type 0) (first middle last : Seen) → LeavesOthers honest first middle → LeavesOthers honest middle last → LeavesOthers honest first last
both-others honest first middle last before after h file other = after h file other ∙ before h file other

not-ok : (s : Status) (r : Result (Unit {0}) Status) → r ≡ Err s → r ≡ Ok tt → ⊥
not-ok s r is e = cc

-- why a run ended as it did and what it left, whatever history it is of
pub record EndsFor (honest : Type 0) (s : Status) (taken : List ℕ) (source_rose : Type 0) (host host' : Seen) : Type 0 where
  pub read : s ≡ status.ReadFault → source_rose × (length taken < input_limit)
  pub limit : s ≡ status.InputLimit → length taken ≡ input_limit
  pub ends : ends_a_run s ≡ true
  pub counts : Counts host host' (s ≡ status.TellFault) (s ≡ status.DiskFault)
  pub others : LeavesOthers honest host host'

takers-end : (s : Status) → IsTakers s → ends_a_run s ≡ true
takers-end status.Ok takers = refl
takers-end (status.Refused line number) takers = refl
takers-end (status.Limit line number) takers = refl
takers-end status.TellFault takers = refl
takers-end status.DiskFault takers = refl
takers-end status.Memory takers = refl
takers-end s takers = absurd takers

module _ (honest : Type 0) (s : Status) (taken : List ℕ) (source_rose : Type 0) (host host' : Seen) (others : LeavesOthers honest host host') where
  -- the taker ended it
  takers-for : IsTakers s → Counts host host' (s ≡ status.TellFault) (s ≡ status.DiskFault) → EndsFor honest s taken source_rose host host'
  takers-for takers counts = record {
    read = λ is. absurd (subst IsTakers is takers);
    limit = λ is. absurd (subst IsTakers is takers);
    ends = takers-end s takers;
    counts = counts;
    others = others;
  }

  module _ (counts : Counts host host' ⊥ ⊥) where
    kept : (s ≡ status.TellFault → ⊥) → (s ≡ status.DiskFault → ⊥) → Counts host host' (s ≡ status.TellFault) (s ≡ status.DiskFault)
    kept untold stored = counts-none host host' (s ≡ status.TellFault) (s ≡ status.DiskFault) untold stored counts

    -- the source failed
    read-for : s ≡ status.ReadFault → source_rose → length taken < input_limit → EndsFor honest s taken source_rose host host'
    read-for is rose below = record {
      read = λ _. (rose, below);
      limit = λ e. cc;
      ends = ap ends_a_run is;
      counts = kept (λ e. cc) (λ e. cc);
      others = others;
    }

    -- it took as much as it may
    limit-for : s ≡ status.InputLimit → length taken ≡ input_limit → EndsFor honest s taken source_rose host host'
    limit-for is full = record {
      read = λ e. cc;
      limit = λ _. full;
      ends = ap ends_a_run is;
      counts = kept (λ e. cc) (λ e. cc);
      others = others;
    }

    -- memory ran out
    want-for : s ≡ status.Memory → EndsFor honest s taken source_rose host host'
    want-for is = takers-for (subst IsTakers (sym is) tt) (kept (λ e. cc) (λ e. cc))

-- whether the end of the input ended a run
abbrev pub is-by-end : {T H : Type 0} (acts : Acts T H) (s : Status) (taker : T) (host : H) (text : List ℕ) (taker'' : T) (host'' : H) (left : Option (List ℕ)) (source_rose : Type 0)
    → Ended acts s taker host text taker'' host'' left source_rose → Bool
is-by-end acts s taker host text taker'' host'' left source_rose (at_end taker' host' below nothing took step) = true
is-by-end acts s taker host text taker'' host'' left source_rose other = false

-- ---- a run
module _ {H : Type 0} (honest : Type 0) (seen : H → Seen) where
  pub chain-counts : (running : Running) (host : H) (prefix : List (List ℕ)) (running' : Running) (host' : H) → Chain (run_acts honest seen) running host prefix running' host' → Counts (seen host) (seen host') ⊥ ⊥
  chain-counts running host prefix running' host' begins = same-counts (seen host) ⊥ ⊥ (λ never. never) (λ never. never)
  chain-counts running host prefix running' host' (goes_on lines line between running'' middle host'' before step) =
      both-counts (seen host) (seen middle) (seen host') ⊥ ⊥ (chain-counts running host lines between middle before) (gone-counts (seen middle) (seen host') step.counts)
  chain-counts running host prefix running' host' (pauses lines between running'' middle host'' before step) =
      subst (λ (m : H). Counts (seen host) (seen m) ⊥ ⊥) (sym step.2) (chain-counts running host lines between middle before)

  pub chain-others : (running : Running) (host : H) (prefix : List (List ℕ)) (running' : Running) (host' : H) → Chain (run_acts honest seen) running host prefix running' host' → LeavesOthers honest (seen host) (seen host')
  chain-others running host prefix running' host' begins = λ h file other. refl
  chain-others running host prefix running' host' (goes_on lines line between running'' middle host'' before step) =
      both-others honest (seen host) (seen middle) (seen host') (chain-others running host lines between middle before) step.others
  chain-others running host prefix running' host' (pauses lines between running'' middle host'' before step) =
      subst (λ (m : H). LeavesOthers honest (seen host) (seen m)) (sym step.2) (chain-others running host lines between middle before)

  module _ (h : honest) (every : ℕ) (set : Settings) (h0 : List Beat) (start : List Event) where
    pub chain-runs : (running : Running) (host : H) → IsRunning (seen host).past running every set h0 [] start → (prefix : List (List ℕ)) (running' : Running) (host' : H) → Chain (run_acts honest seen) running host prefix running' host'
        → IsRunning (seen host').past running' every set h0 prefix start
    chain-runs running host first prefix running' host' begins = first
    chain-runs running host first prefix running' host' (goes_on lines line between running'' middle host'' before step) =
        step.run h every set h0 lines start (chain-runs running host first lines between middle before) refl
    chain-runs running host first prefix running' host' (pauses lines between running'' middle host'' before step) =
        subst (λ (m : H). IsRunning (seen m).past running'' every set h0 lines start) (sym step.2)
        (subst (λ (r : Running). IsRunning (seen middle).past r every set h0 lines start) (sym step.1) (chain-runs running host first lines between middle before))

    -- where the text closes no beat, nothing happens to any file
    module _ (text : List ℕ) (none : history_with_text every h0 text ≡ h0) where
      chain-quiet : (running : Running) (host : H) → IsRunning (seen host).past running every set h0 [] start → (prefix : List (List ℕ)) (running' : Running) (host' : H) → Chain (run_acts honest seen) running host prefix running' host'
          → (next : List ℕ) (more : List (List ℕ)) → parts text ≡ prefix ++ next ∷ more → LeavesFiles (seen host).past (seen host').past
      chain-quiet running host first prefix running' host' begins next more whole = leaves-nothing (seen host).past
      chain-quiet running host first prefix running' host' (goes_on lines line between running'' middle host'' before step) next more whole =
          let sooner : parts text ≡ lines ++ line ∷ next ∷ more = whole ∙ append_assoc lines (line ∷ []) (next ∷ more) in
          leaves-further (seen host).past (seen middle).past (seen host').past (chain-quiet running host first lines between middle before line (next ∷ more) sooner)
          (step.quiet h every set h0 lines start (chain-runs running host first lines between middle before) text next more sooner none)
      chain-quiet running host first prefix running' host' (pauses lines between running'' middle host'' before step) next more whole =
          subst (λ (m : H). LeavesFiles (seen host).past (seen m).past) (sym step.2) (chain-quiet running host first lines between middle before next more whole)

      module _ (s : Status) (running : Running) (host : H) (first : IsRunning (seen host).past running every set h0 [] start) (left : Option (List ℕ)) (source_rose : Type 0) where
        -- all of its lines were taken
        lines-quiet : (running' : Running) (middle : H) → Chain (run_acts honest seen) running host (lines text) running' middle → LeavesFiles (seen host).past (seen middle).past
        lines-quiet running' middle chain = chain-quiet running host first (lines text) running' middle chain (rest text) [] (parts_whole text)

        pub run-quiet : (running'' : Running) (host'' : H) → Ended (run_acts honest seen) s running host text running'' host'' left source_rose → LeavesFiles (seen host).past (seen host'').past
        run-quiet running'' host'' (at_line prefix line next more running' middle whole short_prefix short chain step) =
            leaves-further (seen host).past (seen middle).past (seen host'').past (chain-quiet running host first prefix running' middle chain line (next ∷ more) whole)
            (step.quiet h every set h0 prefix start (chain-runs running host first prefix running' middle chain) text next more whole none)
        run-quiet running'' host'' (at_pause running' middle took step) = absurd (not-ok s (Err s) refl step.0)
        run-quiet running'' host'' (at_long_line prefix long more running' middle whole short over chain step) =
            leaves-further (seen host).past (seen middle).past (seen host'').past (chain-quiet running host first prefix running' middle chain long more whole) (step.quiet h)
        run-quiet running'' host'' (at_end running' middle below nothing took step) =
            leaves-further (seen host).past (seen middle).past (seen host'').past (lines-quiet running' middle took.chain) (step.quiet h)
        run-quiet running'' host'' (at_fault is rose below took last) = lines-quiet running'' host'' took.chain
        run-quiet running'' host'' (at_limit is full took) = lines-quiet running'' host'' took.chain
        run-quiet running'' host'' (at_want prefix is took) =
            let follows = prefix-followed text prefix took.begins in
            chain-quiet running host first prefix running'' host'' took.chain follows.next follows.more follows.whole

    -- how a run over this text ended, and that its status is that of the text where nothing outside fails
    pub record Over (s : Status) (ended : Bool) (text : List ℕ) (left : Option (List ℕ)) (new : List Event) (source_rose tell_rose disk_rose : Type 0) : Type 0 where
      pub at_end : ended ≡ true → (length text < input_limit) × IfSome left (λ bytes. bytes ≡ [])
      -- then no line of it did
      pub plain : ended ≡ true → (run_reading every set h0 false text).ending ≡ GoesOn
      pub stops : StopsIn s every set h0 ended text start new source_rose tell_rose disk_rose
      pub whole : (more : List ℕ) → left ≡ Some more → (source_rose → ⊥) → (tell_rose → ⊥) → (disk_rose → ⊥) → (s ≡ run_status every set h0 (text ++ more)) ⊎ (s ≡ status.Memory)

    not-ended : {A : Type 0} → false ≡ true → A
    not-ended e = absurd (true≢false (sym e))

    told-as : (s : Status) (a b : Status) → a ≡ b → ((s ≡ a) ⊎ (s ≡ status.Memory)) → (s ≡ b) ⊎ (s ≡ status.Memory)
    told-as s a b same (inl is) = inl (is ∙ same)
    told-as s a b same (inr want) = inr want

    module _ (s : Status) (host : H) (text : List ℕ) (left : Option (List ℕ)) (source_rose : Type 0) (within : length text ≤ input_limit) where
      -- a step from a middle host ended the run
      module _ (middle host'' : H) (tell disk : Type 0) (first : Counts (seen host) (seen middle) ⊥ ⊥) (second : Counts (seen middle) (seen host'') tell disk) where
        tells-sooner : TellRose (seen middle) (seen host'') → TellRose (seen host) (seen host'')
        tells-sooner = rose-later (seen host).tell_faults (seen middle).tell_faults (seen host'').tell_faults first.tells.later second.tells.later

        disk-sooner : DiskRose (seen middle) (seen host'') → DiskRose (seen host) (seen host'')
        disk-sooner = rose-later (seen host).disk_faults (seen middle).disk_faults (seen host'').disk_faults first.disk.later second.disk.later

        over-by : (ended : Bool) (t : List ℕ) → StopsIn s every set h0 ended t start (seen host'').past ⊥ (TellRose (seen middle) (seen host'')) (DiskRose (seen middle) (seen host''))
            → StopsIn s every set h0 ended t start (seen host'').past source_rose (TellRose (seen host) (seen host'')) (DiskRose (seen host) (seen host''))
        over-by ended t =
            stops-wider s every set h0 ended t start (seen host'').past ⊥ (TellRose (seen middle) (seen host'')) (DiskRose (seen middle) (seen host'')) source_rose (TellRose (seen host) (seen host'')) (DiskRose (seen host) (seen host''))
            (λ no. absurd no) tells-sooner disk-sooner

        -- however the text goes on
        over-onward : ((ended : Bool) (more : List ℕ) → StopsIn s every set h0 ended (text ++ more) start (seen host'').past ⊥ (TellRose (seen middle) (seen host'')) (DiskRose (seen middle) (seen host'')))
            → Over s false text left (seen host'').past source_rose (TellRose (seen host) (seen host'')) (DiskRose (seen host) (seen host''))
        over-onward stops = record {
          at_end = λ e. not-ended e;
          plain = λ e. not-ended e;
          stops = subst (λ (t : List ℕ). StopsIn s every set h0 false t start (seen host'').past source_rose (TellRose (seen host) (seen host'')) (DiskRose (seen host) (seen host''))) (append-nil text)
              (over-by false (text ++ []) (stops false []));
          whole = λ more is none_read none_told none_disk.
              let ended = nat_lt (length (text ++ more)) input_limit in
              let taken = text ++ take (input_limit - length text) more in
              told-as s (ending_status (run_reading every set h0 ended taken).ending) (run_status every set h0 (text ++ more)) (status-onward every set h0 input_limit text more within)
              (status-told s ended (run_reading every set h0 ended taken).ending taken source_rose (TellRose (seen host) (seen host'')) (DiskRose (seen host) (seen host'')) none_read none_told none_disk
              (over-by ended taken (stops ended (take (input_limit - length text) more))).cause);
        }

      -- the run stopped where all lines were taken
      over-open : (running'' : Running) (host'' : H) → IsRunning (seen host'').past running'' every set h0 (lines text) start → HasNoLongLine text → (s ≡ status.TellFault → ⊥) → (s ≡ status.DiskFault → ⊥)
          → ((ending : Ending Refusal) → ending ≡ GoesOn → HasRunCause s false ending text source_rose (TellRose (seen host) (seen host'')) (DiskRose (seen host) (seen host'')))
          → ((more : List ℕ) → left ≡ Some more → (source_rose → ⊥) → (s ≡ run_status every set h0 (text ++ more)) ⊎ (s ≡ status.Memory))
          → Over s false text left (seen host'').past source_rose (TellRose (seen host) (seen host'')) (DiskRose (seen host) (seen host''))
      over-open running'' host'' going short untold stored cause whole =
          let reads = read-open (run_rules every set h0) (lines text) going.read going.made going.has text refl (rest-fits text short) in
          record {
            at_end = λ e. not-ended e;
            plain = λ e. not-ended e;
            stops = whole-stop (seen host'').past running'' every set h0 start going.read going.made going.at false text source_rose (TellRose (seen host) (seen host'')) (DiskRose (seen host) (seen host'')) s untold stored
                (ap all_told reads ∙ append-nil going.made) (ap (history_at every h0) (says-all (run_rules every set h0) (lines text) going.read going.made going.has text refl))
                (cause (run_reading every set h0 false text).ending (ap (λ (r : Reading Refusal). r.ending) reads));
            whole = λ more is none_read none_told none_disk. whole more is none_read;
          }

      module _ (running : Running) (first : IsRunning (seen host).past running every set h0 [] start) where
        pub run-over : (running'' : Running) (host'' : H) → (how : Ended (run_acts honest seen) s running host text running'' host'' left source_rose)
            → Over s (is-by-end (run_acts honest seen) s running host text running'' host'' left source_rose how) text left (seen host'').past source_rose (TellRose (seen host) (seen host'')) (DiskRose (seen host) (seen host''))
        run-over running'' host'' (at_line prefix line next more running' middle whole short_prefix short chain step) =
            let going = chain-runs running host first prefix running' middle chain in
            over-onward middle host'' _ _ (chain-counts running host prefix running' middle chain) step.counts
            (λ ended behind. let on = line-onward text prefix line next more whole behind in step.run h every set h0 prefix start going refl ended (text ++ behind) on.next on.more on.whole)
        run-over running'' host'' (at_pause running' middle took step) = absurd (not-ok s (Err s) refl step.0)
        run-over running'' host'' (at_long_line prefix long more running' middle whole short over chain step) =
            let going = chain-runs running host first prefix running' middle chain in
            over-onward middle host'' _ _ (chain-counts running host prefix running' middle chain) step.counts
            (λ ended behind.
            let on = IsLongAfter-append text behind prefix (record { long = long; more = more; whole = whole; short = short; too_long = over }) in
            step.run h every set h0 prefix start going refl ended (text ++ behind) on.long on.more on.whole on.too_long)
        run-over running'' host'' (at_end running' middle below nothing took step) =
            let going = chain-runs running host first (lines text) running' middle took.chain in
            let stop = over-by middle host'' _ _ (chain-counts running host (lines text) running' middle took.chain) step.counts true text (step.run h every set h0 text start going refl refl) in
            record {
              at_end = λ _. (below, nothing);
              plain = λ _. ap (λ (r : Reading Refusal). r.ending) (read-open (run_rules every set h0) (lines text) going.read going.made going.has text refl (rest-fits text took.short));
              stops = stop;
              whole = λ more is none_read none_told none_disk.
                  let no_more : more ≡ [] = subst (λ (l : Option (List ℕ)). IfSome l (λ bytes. bytes ≡ [])) is nothing in
                  let same : run_status every set h0 text ≡ run_status every set h0 (text ++ more) = ap (run_status every set h0) (sym (ap (λ (t : List ℕ). text ++ t) no_more ∙ append-nil text)) in
                  told-as s (ending_status (run_reading every set h0 true text).ending) (run_status every set h0 (text ++ more)) (status-ended every set h0 input_limit text below ∙ same)
                  (status-told s true (run_reading every set h0 true text).ending text source_rose (TellRose (seen host) (seen host'')) (DiskRose (seen host) (seen host'')) none_read none_told none_disk stop.cause);
            }
        run-over running'' host'' (at_fault is rose below took last) =
            over-open running'' host'' (chain-runs running host first (lines text) running'' host'' took.chain) took.short (λ e. cc) (λ e. cc)
            (λ ending goes. subst (λ (a : Status). HasRunCause a false ending text source_rose (TellRose (seen host) (seen host'')) (DiskRose (seen host) (seen host''))) (sym is) (refl, goes, rose))
            (λ more there none. absurd (none rose))
        run-over running'' host'' (at_limit is full took) =
            let going = chain-runs running host first (lines text) running'' host'' took.chain in
            let reads = read-open (run_rules every set h0) (lines text) going.read going.made going.has text refl (rest-fits text took.short) in
            over-open running'' host'' going took.short (λ e. cc) (λ e. cc)
            (λ ending goes. subst (λ (a : Status). HasRunCause a false ending text source_rose (TellRose (seen host) (seen host'')) (DiskRose (seen host) (seen host''))) (sym is) (refl, goes, full))
            (λ more there none. inl (is ∙ ap (λ (r : Reading Refusal). ending_status r.ending) (sym reads) ∙ status-full every set h0 input_limit text more full))
        run-over running'' host'' (at_want prefix is took) =
            let going = chain-runs running host first prefix running'' host'' took.chain in
            let follows = prefix-followed text prefix took.begins in
            record {
              at_end = λ e. not-ended e;
              plain = λ e. not-ended e;
              stops = subst (λ (a : Status). StopsIn a every set h0 false text start (seen host'').past source_rose (TellRose (seen host) (seen host'')) (DiskRose (seen host) (seen host''))) (sym is)
                  (want-stop (seen host'').past running'' every set h0 start going.read going.made going.at false text source_rose (TellRose (seen host) (seen host'')) (DiskRose (seen host) (seen host''))
                  (extends-text every h0 set prefix going.read going.made going.has text follows.next follows.more follows.whole)
                  (output-behind every set h0 prefix going.read going.made going.has false text follows.next follows.more follows.whole));
              whole = λ more there none_read none_told none_disk. inr is;
            }

  -- ---- whatever history it is of
  module _ (s : Status) (running : Running) (host : H) (text : List ℕ) (source_rose : Type 0) where
    abbrev EndsSo : H → Type 0
    EndsSo host'' = EndsFor honest s text source_rose (seen host) (seen host'')

    -- a step behind these lines ended it
    step-for : (prefix : List (List ℕ)) (running' : Running) (middle host'' : H) → Chain (run_acts honest seen) running host prefix running' middle → IsTakers s
        → Counts (seen middle) (seen host'') (s ≡ status.TellFault) (s ≡ status.DiskFault) → LeavesOthers honest (seen middle) (seen host'') → EndsSo host''
    step-for prefix running' middle host'' chain takers counts others =
        takers-for honest s text source_rose (seen host) (seen host'')
        (both-others honest (seen host) (seen middle) (seen host'') (chain-others running host prefix running' middle chain) others) takers
        (both-counts (seen host) (seen middle) (seen host'') (s ≡ status.TellFault) (s ≡ status.DiskFault) (chain-counts running host prefix running' middle chain) counts)

    pub run-for : (running'' : Running) (host'' : H) (left : Option (List ℕ)) → Ended (run_acts honest seen) s running host text running'' host'' left source_rose → EndsSo host''
    run-for running'' host'' left (at_line prefix line next more running' middle whole short_prefix short chain step) =
        step-for prefix running' middle host'' chain step.statuses (status-counts (seen middle) (seen host'') s step.counts) step.others
    run-for running'' host'' left (at_pause running' middle took step) = absurd (not-ok s (Err s) refl step.0)
    run-for running'' host'' left (at_long_line prefix long more running' middle whole short over chain step) =
        step-for prefix running' middle host'' chain step.statuses step.counts step.others
    run-for running'' host'' left (at_end running' middle below nothing took step) =
        step-for (lines text) running' middle host'' took.chain step.statuses step.counts step.others
    run-for running'' host'' left (at_fault is rose below took last) =
        read-for honest s text source_rose (seen host) (seen host'') (chain-others running host (lines text) running'' host'' took.chain) (chain-counts running host (lines text) running'' host'' took.chain) is rose below
    run-for running'' host'' left (at_limit is full took) =
        limit-for honest s text source_rose (seen host) (seen host'') (chain-others running host (lines text) running'' host'' took.chain) (chain-counts running host (lines text) running'' host'' took.chain) is full
    run-for running'' host'' left (at_want prefix is took) =
        want-for honest s text source_rose (seen host) (seen host'') (chain-others running host prefix running'' host'' took.chain) (chain-counts running host prefix running'' host'' took.chain) is
