-- A text whose points are told, line by line.
use Rattle.std.proofs.Common.{◌≡◌, ℕ, ◌+◌, ◌≤◌, Bool, true, false, List, [], ◌∷◌, ◌++◌, length, take, drop, Ok, Err, inl, inr, refl, sym, ap, subst, ◌∙◌, append_assoc, append-nil, string_bytes, arith, true≢false}
use Rattle.std.proofs.lemmas.List.{take-append-drop}
use Rattle.host_model.specs.Cause.{Rose}
use Rattle.host_model.specs.Past.{Event, Told, told, MayAdd, TellsPrefix}
use Rattle.host_model.specs.declared.status.Status.{Status}
use Rattle.host_model.specs.declared.status.Status.TheVariants.{TellFault, Memory}
use Rattle.history.specs.declared.line.Line.{Line}
use Rattle.history.specs.declared.line.Line.TheVariants.{Disable}
use Rattle.history.specs.Refusal.{is_unfinished}
use Rattle.history.specs.declared.fault.BlockFault.TheVariants.{Unfinished}
use Rattle.plugin_text.specs.Lines.{fits}
use Rattle.plugin_text.specs.declared.fault.LineFault.TheVariants.{LineTooLong}
use Rattle.plugin_text.specs.declared.refusal.Refusal.{Refusal}
use Rattle.plugin_text.specs.declared.refusal.Refusal.TheVariants as refusal
use Rattle.point_lines.specs.Judged.{every, judge}
use Rattle.point_lines.specs.Reader.{IsReaderOf, ReadsLine}
use Rattle.point_lines.specs.Told.{told_at, told_at_end}
use Rattle.agent_app.specs.declared.converting.Converting.{Converting}
use Rattle.agent_app.specs.Convert.{all_told, ending_line, ending_status, point_rules, IsUnasked}
use Rattle.agent_app.specs.Converting.{AddsEnding, EndsIn, HasConverted, IsFinal}
use Rattle.agent_app.specs.Reading.{Ending, Ends, RefusedAt, HasRead, Reading, reading, refused_at}
use Rattle.agent_app.proofs.CauseLemmas.{apart, ending-inside, is_outside, stayed}
use Rattle.agent_app.proofs.HasReadLemmas.{read-next, read-start}

-- a call of `tell` that failed told a prefix
pub prefix_told : (bytes : List ℕ) (old new : List Event) → MayAdd (λ n. Told (take n bytes)) old new → TellsPrefix false bytes old new
prefix_told bytes old new (inl same) = record { said = []; unsaid = bytes; whole = refl; tells = rw same (sym (append-nil (told old))); complete = λ all. absurd (true≢false (sym all)) }
prefix_told bytes old new (inr (n, added)) = record { said = take n bytes; unsaid = drop n bytes; whole = sym (take-append-drop n bytes); tells = rw added refl; complete = λ all. absurd (true≢false (sym all)) }

-- two lists that are empty together are each empty
pub both-none : (first second : List ℕ) → first ++ second ≡ [] → (first ≡ []) × (second ≡ [])
both-none [] second none = (refl, none)
both-none (byte ∷ first) second none = cc

-- a count that rose in the first part of a call rose in the call
pub rose-sooner : (old middle new : ℕ) → Rose old middle → middle ≤ new → Rose old new
rose-sooner old middle new (inl rose) after = inl (omega arith)
rose-sooner old middle new (inr stands) after = inr stands

-- a host that was not asked, and then not asked again
pub later-unasked : (past past' past'' : List Event) (tf tf' tf'' : ℕ) → IsUnasked past past' tf tf' → IsUnasked past' past'' tf' tf'' → IsUnasked past past'' tf tf''
later-unasked past past' past'' tf tf' tf'' before after = (after.0 ∙ before.0, after.1 ∙ before.1)

-- a text of which nothing was taken yet
pub converted-start : (new : Converting) (honest : Type 0) (past : List Event) (tf : ℕ) → IsReaderOf new.reader [] → string_bytes new.out ≡ [] → HasConverted new honest [] past past tf tf
converted-start new honest past tf has none = record {
  said = [];
  sent = [];
  read = rw none (read-start point_rules);
  has = has;
  told = record { tells = λ is_honest. sym (append-nil (told past)); silent = λ nothing. (refl, refl); count = refl };
}

-- a part that is too long is refused
too_long : (past : List Line) (long : List ℕ) (more : List (List ℕ)) (ended : Bool) → fits long ≡ false → reading point_rules ended past (long ∷ more) ≡ refused_at (length past + 1) (refusal.Line LineTooLong)
too_long past long [] ended over = rw over refl
too_long past long (next ∷ more) ended over = rw over refl

module _ (old : Converting) (honest : Type 0) (prefix : List (List ℕ)) (past past' : List Event) (tf tf' : ℕ) (before : HasConverted old honest prefix past past' tf tf') where
  -- what is told of a text that goes on so
  output-onward : (ended : Bool) (next : List ℕ) (more : List (List ℕ)) →
      all_told (reading point_rules ended [] (prefix ++ next ∷ more)) ≡ before.sent ++ (string_bytes old.out ++ all_told (reading point_rules ended before.said (next ∷ more)))
  output-onward ended next more =
      let ahead = reading point_rules ended before.said (next ∷ more) in
      ap all_told (before.read.onward ended next more) ∙ append_assoc (before.sent ++ string_bytes old.out) ahead.told (ending_line ahead.ending)
      ∙ append_assoc before.sent (string_bytes old.out) (all_told ahead)

  -- memory ran out
  pub no_memory : (status : Status) (waiting : List ℕ) (ended : Bool) (next : List ℕ) (more : List (List ℕ)) → status ≡ Memory
      → EndsIn status honest waiting (reading point_rules ended [] (prefix ++ next ∷ more)) past past' tf tf'
  no_memory status waiting ended next more is =
      let unsent = string_bytes old.out ++ all_told (reading point_rules ended before.said (next ∷ more)) in
      record {
        leaves = record {
          tells = λ is_honest. record { sent = before.sent; unsent = unsent; whole = output-onward ended next more; tells = before.told.tells is_honest; all = rw is (λ all. cc) };
          silent = λ nothing. before.told.silent (both-none before.sent unsent (sym (output-onward ended next more) ∙ nothing)).0;
          waits = rw is (λ nothing all. cc);
          count = stayed tf tf' (status ≡ TellFault) before.told.count (λ e. cc);
        };
        cause = inr (inr is);
      }

  -- the reading ends, and what is told last was added to what waits
  pub ends_with : (status : Status) (ending : Ending Refusal) (said added out' : List ℕ) (ended : Bool) (next : List ℕ) (more : List (List ℕ))
      → IsFinal ending → reading point_rules ended before.said (next ∷ more) ≡ record { told = said; ending = ending } → said ++ ending_line ending ≡ added → AddsEnding status ending (string_bytes old.out) added out'
      → EndsIn status honest out' (reading point_rules ended [] (prefix ++ next ∷ more)) past past' tf tf'
  ends_with status ending said added out' ended next more final is last (inr none) = no_memory status out' ended next more none
  ends_with status ending said added out' ended next more final is last (inl (as_ending, adds)) =
      let whole : all_told (reading point_rules ended [] (prefix ++ next ∷ more)) ≡ before.sent ++ out' =
      output-onward ended next more ∙ ap (λ (bytes : List ℕ). before.sent ++ (string_bytes old.out ++ bytes)) (ap all_told is ∙ last) ∙ ap (λ (bytes : List ℕ). before.sent ++ bytes) (sym adds) in
      let ending_is : (reading point_rules ended [] (prefix ++ next ∷ more)).ending ≡ ending =
      ap (λ (r : Reading Refusal). r.ending) (before.read.onward ended next more) ∙ ap (λ (r : Reading Refusal). r.ending) is in
      record {
        leaves = record {
          tells = λ is_honest. record { sent = before.sent; unsent = out'; whole = whole; tells = before.told.tells is_honest; all = λ all. refl };
          silent = λ nothing. before.told.silent (both-none before.sent out' (sym whole ∙ nothing)).0;
          waits = λ nothing all. (both-none before.sent out' (sym whole ∙ nothing)).1;
          count = stayed tf tf' (status ≡ TellFault) before.told.count (λ e. apart status TellFault (ap is_outside as_ending ∙ ending-inside ending) refl e);
        };
        cause = inl (subst IsFinal (sym ending_is) final, as_ending ∙ ap ending_status (sym ending_is));
      }

  -- a line was read
  pub takes-read : (new : Converting) (line : List ℕ) → fits line ≡ true → ReadsLine new.reader before.said line (string_bytes old.out) (string_bytes new.out)
      → HasConverted new honest (prefix ++ line ∷ []) past past' tf tf'
  takes-read new line short step = record {
    said = step.said ∷ before.said;
    sent = before.sent;
    read =
        let adds : (before.sent ++ string_bytes old.out) ++ told_at before.said step.said ≡ before.sent ++ string_bytes new.out =
        append_assoc before.sent (string_bytes old.out) (told_at before.said step.said) ∙ ap (λ (bytes : List ℕ). before.sent ++ bytes) (sym step.added) in
        subst (HasRead point_rules (prefix ++ line ∷ []) (step.said ∷ before.said)) adds
        (read-next point_rules prefix before.said (before.sent ++ string_bytes old.out) before.read line step.said short step.accepted step.goes_on);
    has = step.has;
    told = before.told;
  }

  -- a line is refused
  pub takes-refused : (status : Status) (number : ℕ) (why : Refusal) (line out out' : List ℕ) (ended : Bool) (next : List ℕ) (more : List (List ℕ))
      → number ≡ length prefix + 1 → fits line ≡ true → judge before.said line ≡ Err why → out ≡ string_bytes old.out → AddsEnding status (RefusedAt number why) out (ending_line (RefusedAt number why)) out'
      → EndsIn status honest out' (reading point_rules ended [] (prefix ++ line ∷ next ∷ more)) past past' tf tf'
  takes-refused status number why line out out' ended next more at short refused same adds =
      let number_is : length before.said + 1 ≡ number = omega (arith, before.read.count) in
      ends_with status (RefusedAt number why) [] (ending_line (RefusedAt number why)) out' ended line (next ∷ more) tt
      (rw (short, refused, number_is) refl) refl (rw same at adds)

  -- a line ends the text
  pub takes-over : (status : Status) (line out out' : List ℕ) (ended : Bool) (next : List ℕ) (more : List (List ℕ))
      → fits line ≡ true → judge before.said line ≡ Ok Disable → out ≡ string_bytes old.out → AddsEnding status Ends out (told_at_end before.said) out'
      → EndsIn status honest out' (reading point_rules ended [] (prefix ++ line ∷ next ∷ more)) past past' tf tf'
  takes-over status line out out' ended next more short judged same adds =
      ends_with status Ends (told_at_end before.said) (told_at_end before.said) out' ended line (next ∷ more) tt
      (rw (short, judged) refl) (append-nil (told_at_end before.said)) (rw same at adds)

  -- the text ends after a beat
  pub ends-over : (status : Status) (rest out' : List ℕ) → fits rest ≡ true → is_unfinished every before.said rest ≡ false → AddsEnding status Ends (string_bytes old.out) (told_at_end before.said) out'
      → EndsIn status honest out' (reading point_rules true [] (prefix ++ rest ∷ [])) past past' tf tf'
  ends-over status rest out' short finished adds =
      ends_with status Ends (told_at_end before.said) (told_at_end before.said) out' true rest [] tt
      (rw (short, finished) refl) (append-nil (told_at_end before.said)) adds

  -- it ends in the midst of a beat or of a line
  pub ends-unfinished : (status : Status) (lines : ℕ) (rest out' : List ℕ) → lines ≡ length prefix → fits rest ≡ true → is_unfinished every before.said rest ≡ true
      → AddsEnding status (RefusedAt lines (refusal.Block Unfinished)) (string_bytes old.out) (ending_line (RefusedAt lines (refusal.Block Unfinished))) out'
      → EndsIn status honest out' (reading point_rules true [] (prefix ++ rest ∷ [])) past past' tf tf'
  ends-unfinished status lines rest out' at short unfinished adds =
      let number_is : length before.said ≡ lines = before.read.count ∙ sym at in
      ends_with status (RefusedAt lines (refusal.Block Unfinished)) [] (ending_line (RefusedAt lines (refusal.Block Unfinished))) out' true rest [] tt
      (rw (short, unfinished, number_is) refl) refl adds

  -- what follows the lines is too long
  pub overflows-long : (status : Status) (number : ℕ) (out' : List ℕ) (ended : Bool) (long : List ℕ) (more : List (List ℕ)) → number ≡ length prefix + 1 → fits long ≡ false
      → AddsEnding status (RefusedAt number (refusal.Line LineTooLong)) (string_bytes old.out) (ending_line (RefusedAt number (refusal.Line LineTooLong))) out'
      → EndsIn status honest out' (reading point_rules ended [] (prefix ++ long ∷ more)) past past' tf tf'
  overflows-long status number out' ended long more at over adds =
      let number_is : length before.said + 1 ≡ number = omega (arith, before.read.count) in
      ends_with status (RefusedAt number (refusal.Line LineTooLong)) [] (ending_line (RefusedAt number (refusal.Line LineTooLong))) out' ended long more tt
      (too_long before.said long more ended over ∙ rw number_is refl) refl adds

  -- what waits was told
  pub pauses-told : (new : Converting) (past'' : List Event) (tf'' : ℕ) → new.reader ≡ old.reader → string_bytes new.out ≡ [] → (honest → told past'' ≡ told past' ++ string_bytes old.out)
      → (string_bytes old.out ≡ [] → IsUnasked past' past'' tf' tf'') → tf'' ≡ tf' → HasConverted new honest prefix past past'' tf tf''
  pauses-told new past'' tf'' same none tells silent stays = record {
    said = before.said;
    sent = before.sent ++ string_bytes old.out;
    read = rw (none, append-nil (before.sent ++ string_bytes old.out)) before.read;
    has = rw same before.has;
    told = record {
      tells = λ is_honest. tells is_honest ∙ ap (λ (bytes : List ℕ). bytes ++ string_bytes old.out) (before.told.tells is_honest) ∙ append_assoc (told past) before.sent (string_bytes old.out);
      silent = λ nothing.
          let each = both-none before.sent (string_bytes old.out) nothing in
          later-unasked past past' past'' tf tf' tf'' (before.told.silent each.0) (silent each.1);
      count = stays ∙ before.told.count;
    };
  }

  -- what waits was not told, or not all of it
  pub pauses-fault : (past'' : List Event) (tf'' : ℕ) (waiting : List ℕ) → (honest → TellsPrefix false (string_bytes old.out) past' past'') → (string_bytes old.out ≡ [] → IsUnasked past' past'' tf' tf'') → tf' ≤ tf'' → Rose tf' tf''
      → (ended : Bool) (next : List ℕ) (more : List (List ℕ)) → EndsIn TellFault honest waiting (reading point_rules ended [] (prefix ++ next ∷ more)) past past'' tf tf''
  pauses-fault past'' tf'' waiting torn silent later rose ended next more =
      let ahead = all_told (reading point_rules ended before.said (next ∷ more)) in
      let whole = output-onward ended next more in
      let rose_since : Rose tf tf'' = subst (λ (n : ℕ). Rose n tf'') before.told.count rose in
      record {
        leaves = record {
          tells = λ is_honest. let prefix_is = torn is_honest in record {
            sent = before.sent ++ prefix_is.said;
            unsent = prefix_is.unsaid ++ ahead;
            whole = whole ∙ ap (λ (bytes : List ℕ). before.sent ++ (bytes ++ ahead)) prefix_is.whole ∙ ap (λ (bytes : List ℕ). before.sent ++ bytes) (append_assoc prefix_is.said prefix_is.unsaid ahead)
                ∙ sym (append_assoc before.sent prefix_is.said (prefix_is.unsaid ++ ahead));
            tells = prefix_is.tells ∙ ap (λ (bytes : List ℕ). bytes ++ prefix_is.said) (before.told.tells is_honest) ∙ append_assoc (told past) before.sent prefix_is.said;
            all = λ all. cc;
          };
          silent = λ nothing.
              let each = both-none before.sent (string_bytes old.out ++ ahead) (sym whole ∙ nothing) in
              later-unasked past past' past'' tf tf' tf'' (before.told.silent each.0) (silent (both-none (string_bytes old.out) ahead each.1).0);
          waits = λ nothing all. cc;
          count = record { later = omega (arith, before.told.count, later); failed = λ _. rose_since; stays = λ none. absurd (none refl) };
        };
        cause = inr (inl (refl, rose_since));
      }
