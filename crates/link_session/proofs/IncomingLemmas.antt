-- How the frames of a link are taken.
use Rattle.std.proofs.Common.{◌≡◌, ◌⊎◌, inl, inr, ℕ, ◌+◌, ◌<◌, ◌≤◌, List, [], ◌∷◌, ◌++◌, length, drop, slice_get, Option, Some, None, IfSome, Result, Ok, Err, OnOk, OnErr, IsErrOf, refl, sym, ap, subst, ◌∙◌, append_assoc, append-nil, length-append, add-one, drop-cons, suc, arith}
use Rattle.std.specs.List.{flat_map}
use Rattle.std.specs.Result.{result_err}
use Rattle.std.proofs.Math.ListN.{drop_of_length-le}
use Rattle.std.proofs.lemmas.Option.{get_or_from_slice_get, slice_get_within}
use Rattle.std.proofs.lemmas.List.Concat.{flat_map-cons}
use Rattle.line_stream.proofs.RunLemmas.{Takes-append as takes-both, Takes-none as takes-nothing}
use Rattle.host_model.specs.Source.{Takes}
use Rattle.field_codec.specs.Spelling.{u32_bytes, sized_bytes}
use Rattle.field_codec.proofs.Lengths.{length-u32_bytes}
use Rattle.line_stream.specs.Run.{input_limit}
use Rattle.link_frames.specs.declared.fault.FrameFault.{FrameFault}
use Rattle.link_frames.specs.declared.fault.FrameFault.TheVariants as frame_fault
use Rattle.link_frames.specs.declared.frame.Frame.{Frame}
use Rattle.link_frames.specs.Frames.{body_bytes, frame_bytes}
use Rattle.link_frames.specs.Held.{Held}
use Rattle.link_frames.specs.Stream.{HandsOut, IsBad, IsOpen, IsTooLong}
use Rattle.link_frames.proofs.StreamLaw.{after, HandsOut_none}
use Rattle.link_session.specs.declared.incoming.Incoming.{Incoming}
use Rattle.link_session.specs.declared.fault.SessionFault.{SessionFault}
use Rattle.link_session.specs.declared.fault.SessionFault.TheVariants.{LinkFault, Ended}
use Rattle.link_session.specs.Incoming.{reading_fault, HasGiven, HasNoMore, IsEndOf, StandsBehind}

-- ---- at first
pub fresh-given : (incoming : Incoming) → length incoming.frames ≤ incoming.given → incoming.budget ≡ input_limit → incoming.reader.rest ≡ [] → incoming.reader.refused ≡ None → (left : Option (List ℕ)) → HasGiven incoming left left []
fresh-given incoming over budget none going left = record {
  taken = [];
  takes = takes-nothing left;
  spent = omega (arith, budget);
  rest = [];
  cut = subst (λ (fs : List Frame). HandsOut [] [] fs []) (sym (drop_of_length-le incoming.frames over)) (HandsOut_none [] []);
  behind = subst (λ (refused : Option FrameFault). StandsBehind refused incoming.reader.rest []) (sym going) (none, record { short = λ there. absurd (omega (arith, there)); part = λ there. absurd (omega (arith, there)) });
}

-- ---- sizes
frame-some : (f : Frame) → 1 ≤ length (frame_bytes f)
unfolding frame_bytes sized_bytes
frame-some f = omega (arith, length-append (u32_bytes (length (body_bytes f))) (body_bytes f), length-u32_bytes (length (body_bytes f)))

frames-some : (fs : List Frame) → length fs ≤ length (flat_map frame_bytes fs)
frames-some [] = omega arith
frames-some (f ∷ fs) =
    omega (arith, frames-some fs, frame-some f, ap (λ (bytes : List ℕ). length bytes) (flat_map-cons frame_bytes f fs), length-append (frame_bytes f) (flat_map frame_bytes fs))

-- ---- a piece
-- a reader that was fed these bytes has handed out these frames and holds these bytes
pub record IsFed (refused : Option FrameFault) (bytes : List ℕ) (frames : List Frame) (held : List ℕ) : Type 0 where
  pub rest : List ℕ
  pub cut : HandsOut bytes [] frames rest
  pub behind : StandsBehind refused held rest
  pub short : length held ≤ length rest

module _ (bytes : List ℕ) (before frames : List Frame) (held : List ℕ) (none : before ≡ []) where
  first-cut : (rest : List ℕ) → HandsOut bytes before frames rest → HandsOut bytes [] frames rest
  first-cut rest cut = subst (λ (fs : List Frame). HandsOut bytes fs frames rest) none cut

  emptied-short : (rest : List ℕ) → held ≡ [] → length held ≤ length rest
  emptied-short rest empty = omega (arith, ap (λ (l : List ℕ). length l) empty)

  pub fed-by : (result : Result (Unit {0}) FrameFault) → OnOk result (HandsOut bytes before frames held) → IsOpen held
      → (IsErrOf result frame_fault.FrameTooLong → (rest : List ℕ) × HandsOut bytes before frames rest × IsTooLong rest)
      → (IsErrOf result frame_fault.BadFrame → (rest : List ℕ) × HandsOut bytes before frames rest × IsBad rest)
      → (IsErrOf result frame_fault.Memory → (rest : List ℕ) × HandsOut bytes before frames rest) → OnErr result (held ≡ []) → IsFed (result_err result) bytes frames held
  fed-by (Ok done) cut open_rest long bad memory emptied = record { rest = held; cut = first-cut held cut; behind = (refl, open_rest); short = omega arith }
  fed-by (Err frame_fault.FrameTooLong) cut open_rest long bad memory emptied =
      let there = long refl in record { rest = there.0; cut = first-cut there.0 there.1; behind = there.2; short = emptied-short there.0 emptied }
  fed-by (Err frame_fault.BadFrame) cut open_rest long bad memory emptied =
      let there = bad refl in record { rest = there.0; cut = first-cut there.0 there.1; behind = there.2; short = emptied-short there.0 emptied }
  fed-by (Err frame_fault.Memory) cut open_rest long bad memory emptied =
      let there = memory refl in record { rest = there.0; cut = first-cut there.0 there.1; behind = tt; short = emptied-short there.0 emptied }

-- each frame took bytes
pub fed-size : (refused : Option FrameFault) (bytes : List ℕ) (frames : List Frame) (held : List ℕ) → IsFed refused bytes frames held → length frames + length held ≤ length bytes
fed-size refused bytes frames held fed =
    omega (
      arith,
      frames-some fed.cut.found,
      fed.short,
      ap (λ (fs : List Frame). length fs) fed.cut.handed,
      ap (λ (l : List ℕ). length l) fed.cut.spelt,
      length-append (flat_map frame_bytes fed.cut.found) fed.rest,
    )

-- what is handed out behind other frames
behind-others : (bytes rest : List ℕ) (frames others : List Frame) → HandsOut bytes [] frames rest → HandsOut bytes others (others ++ frames) rest
behind-others bytes rest frames others cut = record { found = cut.found; handed = ap (λ (fs : List Frame). others ++ fs) cut.handed; frames = cut.frames; spelt = cut.spelt }

-- and more bytes
more-bytes : (bytes rest more : List ℕ) (before now : List Frame) → HandsOut bytes before now rest → HandsOut (bytes ++ more) before now (rest ++ more)
more-bytes bytes rest more before now cut = record {
  found = cut.found;
  handed = cut.handed;
  frames = cut.frames;
  spelt = ap (λ (bs : List ℕ). bs ++ more) cut.spelt ∙ append_assoc (flat_map frame_bytes cut.found) rest more;
}

module _ (old : Incoming) (left left' : Option (List ℕ)) (frames : List Frame) (given : HasGiven old left left' frames) (over : length old.frames ≤ old.given) (going : old.reader.refused ≡ None) where
  held-behind : (refused : Option FrameFault) → refused ≡ None → StandsBehind refused old.reader.rest given.rest → (old.reader.rest ≡ given.rest) × IsOpen given.rest
  held-behind None is behind = behind
  held-behind (Some fault) is behind = cc

  pub held-open : (old.reader.rest ≡ given.rest) × IsOpen given.rest
  held-open = held-behind old.reader.refused going given.behind

  pub cut-over : HandsOut given.taken [] frames given.rest
  cut-over =
      subst (λ (fs : List Frame). HandsOut given.taken [] fs given.rest) (ap (λ (fs : List Frame). frames ++ fs) (drop_of_length-le old.frames over) ∙ append-nil frames) given.cut

  pub given-more : (new : Incoming) (left'' : Option (List ℕ)) (piece : List ℕ) → Takes left' piece left'' → new.given ≡ 0 → new.budget + length piece ≡ old.budget
      → IsFed new.reader.refused (old.reader.rest ++ piece) new.frames new.reader.rest → HasGiven new left left'' frames
  given-more new left'' piece takes first budget fed =
      let on = subst (λ (held : List ℕ). HandsOut (held ++ piece) [] new.frames fed.rest) held-open.0 fed.cut in
      let all = after (given.taken ++ piece) (given.rest ++ piece) fed.rest [] frames (frames ++ new.frames)
      (more-bytes given.taken given.rest piece [] frames cut-over) (behind-others (given.rest ++ piece) fed.rest new.frames frames on) in
      record {
        taken = given.taken ++ piece;
        takes = takes-both left left' left'' given.taken piece given.takes takes;
        spent = omega (arith, given.spent, budget, length-append given.taken piece);
        rest = fed.rest;
        cut = subst (λ (n : ℕ). HandsOut (given.taken ++ piece) [] (frames ++ drop n new.frames) fed.rest) (sym first) all;
        behind = fed.behind;
      }

  -- the link failed, or the peer sends no more
  pub at-pull : (fault : SessionFault) (left'' : Option (List ℕ)) → left'' ≡ left' → 0 < old.budget → (fault ≡ LinkFault) ⊎ (fault ≡ Ended) → (fault ≡ Ended → IfSome left'' (λ bytes. bytes ≡ []))
      → HasNoMore fault left left'' frames
  at-pull fault left'' same room (inl is) over = subst (λ (f : SessionFault). HasNoMore f left left'' frames) (sym is) (record {
    taken = given.taken;
    takes = subst (Takes left given.taken) (sym same) given.takes;
    within = omega (arith, given.spent);
    rest = given.rest;
    cut = cut-over;
    why = tt;
  })
  at-pull fault left'' same room (inr is) over = subst (λ (f : SessionFault). HasNoMore f left left'' frames) (sym is) (record {
    taken = given.taken;
    takes = subst (Takes left given.taken) (sym same) given.takes;
    within = omega (arith, given.spent);
    rest = given.rest;
    cut = cut-over;
    why = (held-open.1, omega (arith, given.spent, room), over is);
  })

-- the reader refused what stands behind the frames
pub at-refusal : (old : Incoming) (left left' : Option (List ℕ)) (frames : List Frame) → HasGiven old left left' frames → length old.frames ≤ old.given → (fault : FrameFault) → old.reader.refused ≡ Some fault
    → HasNoMore (reading_fault fault) left left' frames
at-refusal old left left' frames given over fault is = by fault (subst (λ (refused : Option FrameFault). StandsBehind refused old.reader.rest given.rest) is given.behind)
  where
    ends : (why : SessionFault) → IsEndOf why given.taken given.rest left' → HasNoMore why left left' frames
    ends why is_end = record {
      taken = given.taken;
      takes = given.takes;
      within = omega (arith, given.spent);
      rest = given.rest;
      cut = subst (λ (fs : List Frame). HandsOut given.taken [] fs given.rest) (ap (λ (fs : List Frame). frames ++ fs) (drop_of_length-le old.frames over) ∙ append-nil frames) given.cut;
      why = is_end;
    }

    by : (fault : FrameFault) → StandsBehind (Some fault) old.reader.rest given.rest → HasNoMore (reading_fault fault) left left' frames
    by frame_fault.FrameTooLong behind = ends (reading_fault frame_fault.FrameTooLong) behind
    by frame_fault.BadFrame behind = ends (reading_fault frame_fault.BadFrame) behind
    by frame_fault.Memory behind = ends (reading_fault frame_fault.Memory) tt

drop-here : (fs : List Frame) (n : ℕ) (f : Frame) → slice_get fs n ≡ Some f → drop n fs ≡ f ∷ drop (n + 1) fs
drop-here fs n f at =
    drop-cons fs n f (slice_get_within fs n f at) ∙ ap (λ (x : Frame). x ∷ drop (suc n) fs) (get_or_from_slice_get fs n f f at) ∙ ap (λ (m : ℕ). f ∷ drop m fs) (sym (add-one n))

-- the next of the frames that wait is given
pub next-given : (old : Incoming) (left left' : Option (List ℕ)) (frames : List Frame) → HasGiven old left left' frames → (new : Incoming) (f : Frame) → slice_get old.frames old.given ≡ Some f
    → new.given ≡ old.given + 1 → new.frames ≡ old.frames → new.budget ≡ old.budget → new.reader ≡ old.reader → HasGiven new left left' (frames ++ f ∷ [])
next-given old left left' frames given new f at count same budget reader = record {
  taken = given.taken;
  takes = given.takes;
  spent = omega (arith, given.spent, budget);
  rest = given.rest;
  cut = subst (λ (fs : List Frame). HandsOut given.taken [] fs given.rest)
      (ap (λ (fs : List Frame). frames ++ fs) (drop-here old.frames old.given f at) ∙ sym (append_assoc frames (f ∷ []) (drop (old.given + 1) old.frames))
      ∙ ap (λ (fs : List Frame). (frames ++ f ∷ []) ++ fs) (ap (λ (n : ℕ). drop n old.frames) (sym count) ∙ ap (λ (fs : List Frame). drop new.given fs) (sym same))) given.cut;
  behind = subst (λ (r : Held). StandsBehind r.refused r.rest given.rest) (sym reader) given.behind;
}
