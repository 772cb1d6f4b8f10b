-- With which status a session ends over all bytes of its link.
use Rattle.std.proofs.Common.{◌≡◌, ℕ, ◌+◌, ◌-◌, ◌<◌, ◌≤◌, inl, inr, ◌⊎◌, List, [], ◌∷◌, ◌++◌, length, take, Option, Some, None, IfSome, Ok, Err, refl, sym, ap, subst, ◌∙◌, append_assoc, append-nil, length-append, arith}
use Rattle.std.specs.List.{flat_map, AllByRecursion}
use Rattle.std.specs.Option.{option_map_or}
use Rattle.std.proofs.lemmas.List.Sums.{fold-append}
use Rattle.std.proofs.Math.Seq.{take-append-add, take-nil}
use Rattle.host_model.specs.declared.status.Status.{Status}
use Rattle.host_model.specs.declared.status.Status.TheVariants as status
use Rattle.line_stream.specs.Run.{input_limit}
use Rattle.link_frames.specs.declared.frame.Frame.{Frame}
use Rattle.link_frames.specs.Frames.{frame_bytes, HasSpelling}
use Rattle.link_frames.specs.Stream.{HandsOut, HasNoFrame, IsBad, IsOpen, IsTooLong}
use Rattle.link_frames.proofs.FramesLaw.{one_end, one_frame}
use Rattle.link_frames.proofs.StreamLaw.{bad-stays, long-stays, none-bad, none-long, none-open, all-spelt as all-of, regroup as one-before}
use Rattle.agent_core.specs.declared.fault.AgentFault.TheVariants as fault
use Rattle.link_session.specs.declared.fault.PeerFault.{PeerFault}
use Rattle.link_session.specs.declared.fault.PeerFault.TheVariants.{WrongChild, BadFrame, FrameTooLong}
use Rattle.link_session.specs.declared.fault.SessionFault.TheVariants as session
use Rattle.link_session.specs.Exchange.{both, broken_by, exchange, refuses, then_does, Course, SessionResult}
use Rattle.link_session.specs.Session.{Exchanges, IsBrokenBy, IsEndFor, LinkSeen}
use Rattle.agent_app.specs.Sessions.{session_status, EndsAsBytes, EndsBehind, EndsOver}

-- ---- frames at the start of the same bytes
-- the second list goes on from the first, by frames that stand behind that
record GoesOnFrom (fs gs : List Frame) (rest end : List ℕ) : Type 0 where
  more : List Frame
  whole : gs ≡ fs ++ more
  spelt : rest ≡ flat_map frame_bytes more ++ end
  frames : AllByRecursion HasSpelling more

-- of two such lists one goes on from the other
either-on : (fs gs : List Frame) (rest end : List ℕ) → AllByRecursion HasSpelling fs → AllByRecursion HasSpelling gs → flat_map frame_bytes fs ++ rest ≡ flat_map frame_bytes gs ++ end
    → GoesOnFrom fs gs rest end ⊎ GoesOnFrom gs fs end rest
either-on [] gs rest end all_f all_g same = inl (record { more = gs; whole = refl; spelt = same; frames = all_g })
either-on (f ∷ fs) [] rest end all_f all_g same = inr (record { more = f ∷ fs; whole = refl; spelt = sym same; frames = all_f })
either-on (f ∷ fs) (g ∷ gs) rest end all_f all_g same = by (either-on fs gs rest end all_f.1 all_g.1 (one_end f g _ _ all_f.0 all_g.0 regrouped))
  where
    regrouped : frame_bytes f ++ (flat_map frame_bytes fs ++ rest) ≡ frame_bytes g ++ (flat_map frame_bytes gs ++ end)
    regrouped = sym (one-before f fs rest) ∙ same ∙ one-before g gs end

    first : f ≡ g
    first = one_frame f g _ _ all_f.0 all_g.0 regrouped

    by : GoesOnFrom fs gs rest end ⊎ GoesOnFrom gs fs end rest → GoesOnFrom (f ∷ fs) (g ∷ gs) rest end ⊎ GoesOnFrom (g ∷ gs) (f ∷ fs) end rest
    by (inl on) = inl (record { more = on.more; whole = ap (λ (h : Frame). h ∷ gs) (sym first) ∙ ap (λ (hs : List Frame). f ∷ hs) on.whole; spelt = on.spelt; frames = on.frames })
    by (inr on) = inr (record { more = on.more; whole = ap (λ (h : Frame). h ∷ fs) first ∙ ap (λ (hs : List Frame). g ∷ hs) on.whole; spelt = on.spelt; frames = on.frames })

-- none goes on where no frame stands
none-on : (more : List Frame) (rest end : List ℕ) → HasNoFrame rest → AllByRecursion HasSpelling more → rest ≡ flat_map frame_bytes more ++ end → more ≡ []
none-on [] rest end none all spelt = refl
none-on (f ∷ more) rest end none all spelt = absurd (none f (flat_map frame_bytes more ++ end) all.0 (spelt ∙ one-before f more end))

spelt-of : (bytes rest : List ℕ) (frames : List Frame) → HandsOut bytes [] frames rest → bytes ≡ flat_map frame_bytes frames ++ rest
spelt-of bytes rest frames cut = cut.spelt ∙ ap (λ (found : List Frame). flat_map frame_bytes found ++ rest) (sym cut.handed)

same-on : (fs gs : List Frame) (rest end : List ℕ) (on : GoesOnFrom fs gs rest end) → HasNoFrame rest → (gs ≡ fs) × (rest ≡ end)
same-on fs gs rest end on none =
    let last : on.more ≡ [] = none-on on.more rest end none on.frames on.spelt in
    (on.whole ∙ ap (λ (hs : List Frame). fs ++ hs) last ∙ append-nil fs, on.spelt ∙ ap (λ (hs : List Frame). flat_map frame_bytes hs ++ end) last)

-- ---- what is there of all bytes
more_bytes : (limit : ℕ) (taken more : List ℕ) → length taken ≤ limit → take limit (taken ++ more) ≡ taken ++ take (limit - length taken) more
more_bytes limit taken more within =
    let all : limit ≡ length taken + (limit - length taken) = omega arith in
    ap (λ (n : ℕ). take n (taken ++ more)) all ∙ take-append-add taken more (limit - length taken)

none-more : (limit : ℕ) (taken more : List ℕ) → length taken ≡ limit → take (limit - length taken) more ≡ []
none-more limit taken more full =
    let none : limit - length taken ≡ 0 = omega (arith, full) in
    ap (λ (n : ℕ). take n more) none

-- ---- how a session ends
abbrev some_of : SessionResult → Option SessionResult
some_of r = Some r

abbrev no_result : Option SessionResult
no_result = None

some-same : (a b : SessionResult) → some_of a ≡ some_of b → a ≡ b
some-same a b e = cc

none-some : (r : SessionResult) → no_result ≡ some_of r → ⊥
none-some r e = cc

-- the outside did not fail at this status
pub record NoFault (s : Status) : Type 0 where
  pub link : s ≡ status.LinkFault → ⊥
  pub disk : s ≡ status.DiskFault → ⊥
  pub tells : s ≡ status.TellFault → ⊥

-- of a session that is done or refused
status-done : (result r : SessionResult) (taken rest : List ℕ) (left : Option (List ℕ)) → NoFault (session_status result) → IsEndFor result (some_of r) taken rest left
    → (session_status result ≡ session_status r) ⊎ (session_status result ≡ status.Memory)
status-done (Ok done) r taken rest left none why = inl (ap session_status (sym (some-same r (Ok done) why)))
status-done (Err session.LinkFault) r taken rest left none why = absurd (none.link refl)
status-done (Err (session.Agent (fault.Refused cause))) r taken rest left none why = inl (ap session_status (sym (some-same r (Err (session.Agent (fault.Refused cause))) why)))
status-done (Err (session.Agent fault.DiskFault)) r taken rest left none why = absurd (none.disk refl)
status-done (Err (session.Agent fault.Memory)) r taken rest left none why = inr refl
status-done (Err (session.Agent other)) r taken rest left none why = absurd why
status-done (Err (session.PeerRefused fault)) r taken rest left none why = inl (ap session_status (sym (some-same r (Err (session.PeerRefused fault)) why)))
status-done (Err session.Ended) r taken rest left none why = absurd (none-some r (sym why.0))
status-done (Err session.InputLimit) r taken rest left none why = absurd (none-some r (sym why.0))
status-done (Err session.TellFault) r taken rest left none why = absurd (none.tells refl)
status-done (Err session.Memory) r taken rest left none why = inr refl

-- why a session ended that no frame ended: its bytes did, or no more of them may be taken
record RunsOut (s : Status) (taken rest : List ℕ) (left : Option (List ℕ)) : Type 0 where
  under_way : IsOpen rest
  by : ((length taken < input_limit) × IfSome left (λ bytes. bytes ≡ []) × (s ≡ status.LinkEnded)) ⊎ ((length taken ≡ input_limit) × (s ≡ status.InputLimit))

status-open : (result : SessionResult) (taken rest : List ℕ) (left : Option (List ℕ)) → NoFault (session_status result) → IsEndFor result no_result taken rest left
    → RunsOut (session_status result) taken rest left ⊎ (session_status result ≡ status.Memory)
status-open (Ok done) taken rest left none why = absurd (none-some (Ok done) why)
status-open (Err session.LinkFault) taken rest left none why = absurd (none.link refl)
status-open (Err (session.Agent (fault.Refused cause))) taken rest left none why = absurd (none-some (Err (session.Agent (fault.Refused cause))) why)
status-open (Err (session.Agent fault.DiskFault)) taken rest left none why = absurd (none.disk refl)
status-open (Err (session.Agent fault.Memory)) taken rest left none why = inr refl
status-open (Err (session.Agent other)) taken rest left none why = absurd why
status-open (Err (session.PeerRefused fault)) taken rest left none why = absurd (none-some (Err (session.PeerRefused fault)) why)
status-open (Err session.Ended) taken rest left none why = inl (record { under_way = why.1; by = inl (why.2, why.3, refl) })
status-open (Err session.InputLimit) taken rest left none why = inl (record { under_way = why.1; by = inr (why.2, refl) })
status-open (Err session.TellFault) taken rest left none why = absurd (none.tells refl)
status-open (Err session.Memory) taken rest left none why = inr refl

-- such a fault stands behind the frames, however the bytes go on
broken-on : (why : PeerFault) (s : Status) (bytes rest more : List ℕ) → s ≡ session_status (Err (session.PeerRefused why)) → IsBrokenBy (Some why) rest → HasNoFrame (rest ++ more) × EndsBehind s bytes (rest ++ more)
broken-on WrongChild s bytes rest more is breaks = absurd breaks
broken-on BadFrame s bytes rest more is breaks =
    let bad : IsBad (rest ++ more) = bad-stays rest more breaks in
    (none-bad (rest ++ more) bad, inr (inl (bad, is)))
broken-on FrameTooLong s bytes rest more is breaks =
    let long : IsTooLong (rest ++ more) = long-stays rest more breaks in
    (none-long (rest ++ more) long, inl (long, is))

module _ {S : Type 0} (does : S → Frame → Course S) (begin : Course S) where
  abbrev done_by : List Frame → Course S
  done_by frames = exchange does begin frames

  -- a session that has ended stays so
  stays-ended : (course : Course S) (more : List Frame) (r : SessionResult) → course.ended ≡ some_of r → (exchange does course more).ended ≡ some_of r
  stays-ended course [] r is = is
  stays-ended course (f ∷ more) r is =
      let next : Course S = then_does course (λ now. does now f) in
      let same : next ≡ course = ap (λ (e : Option SessionResult). option_map_or (λ _. course) e (both course (does course.now f))) is in
      stays-ended next more r (ap (λ (c : Course S). c.ended) same ∙ is)

  ended-on : (fs gs more : List Frame) (r : SessionResult) → gs ≡ fs ++ more → (done_by fs).ended ≡ some_of r → (done_by gs).ended ≡ some_of r
  ended-on fs gs more r whole is =
      ap (λ (hs : List Frame). (done_by hs).ended) whole
      ∙ ap (λ (c : Course S). c.ended) (fold-append (λ (course : Course S) (f : Frame). then_does course (λ now. does now f)) begin fs more)
      ∙ stays-ended (done_by fs) more r is

  -- ---- from the frames that a session took to all of them
  module _ (s : Status) (bytes : List ℕ) where
    abbrev Over : List Frame → List ℕ → Type 0
    Over frames rest = EndsOver s (done_by frames).ended bytes rest

    longer : (fs gs : List Frame) (rest end : List ℕ) → GoesOnFrom fs gs rest end → Over fs rest → ((done_by fs).ended ≡ no_result → HasNoFrame rest) → Over gs end
    longer fs gs rest end on over none = by (done_by fs).ended refl
      where
        by : (e : Option SessionResult) → (done_by fs).ended ≡ e → Over gs end
        by None is =
            let same = same-on fs gs rest end on (none is) in
            subst (λ (hs : List Frame). Over hs end) (sym same.0) (subst (λ (bs : List ℕ). Over fs bs) same.1 over)
        by (Some r) is =
            let so : s ≡ session_status r = subst (λ (e : Option SessionResult). EndsOver s e bytes rest) is over in
            subst (λ (e : Option SessionResult). EndsOver s e bytes end) (sym (ended-on fs gs on.more r on.whole is)) so

    shorter : (fs gs : List Frame) (rest end : List ℕ) → GoesOnFrom gs fs end rest → Over fs rest → Over gs end
    shorter fs gs rest end on over = by (done_by gs).ended refl
      where
        stands-none : (done_by gs).ended ≡ no_result → HasNoFrame end → EndsBehind s bytes end
        stands-none is none =
            let same = same-on gs fs end rest on none in
            let here : Over gs end = subst (λ (hs : List Frame). Over hs end) same.0 (subst (λ (bs : List ℕ). Over fs bs) (sym same.1) over) in
            let behind : HasNoFrame end → EndsBehind s bytes end = subst (λ (e : Option SessionResult). EndsOver s e bytes end) is here in
            behind none

        by : (e : Option SessionResult) → (done_by gs).ended ≡ e → Over gs end
        by None is = subst (λ (e : Option SessionResult). EndsOver s e bytes end) (sym is) (stands-none is)
        by (Some r) is =
            let so : s ≡ session_status r = subst (λ (e : Option SessionResult). EndsOver s e bytes rest) (ended-on gs fs on.more r on.whole is) over in
            subst (λ (e : Option SessionResult). EndsOver s e bytes end) (sym is) so

    each-list : (prefix : List ℕ) (fs gs : List Frame) (rest end : List ℕ) → HandsOut prefix [] fs rest → Over fs rest → ((done_by fs).ended ≡ no_result → HasNoFrame rest) → HandsOut prefix [] gs end → Over gs end
    each-list prefix fs gs rest end one over none two =
        by (either-on fs gs rest end (all-of prefix rest fs one) (all-of prefix end gs two) (sym (spelt-of prefix rest fs one) ∙ spelt-of prefix end gs two))
      where
        by : GoesOnFrom fs gs rest end ⊎ GoesOnFrom gs fs end rest → Over gs end
        by (inl on) = longer fs gs rest end on over none
        by (inr on) = shorter fs gs rest end on over

  -- ---- a session that took these frames
  module _ (result : SessionResult) (taken more : List ℕ) (within : length taken ≤ input_limit) (frames : List Frame) (rest : List ℕ) (cut : HandsOut taken [] frames rest)
      (broken : Option PeerFault) (breaks : IsBrokenBy broken rest) (why : IsEndFor result (broken_by broken (done_by frames)).ended taken rest (Some more)) (none : NoFault (session_status result)) where
    abbrev s : Status
    s = session_status result

    abbrev bytes : List ℕ
    bytes = taken ++ more

    -- what of the bytes that it might take it did not
    abbrev untaken : List ℕ
    untaken = take (input_limit - length taken) more

    abbrev Settled : Type 0
    Settled = EndsOver s (done_by frames).ended bytes (rest ++ untaken) × ((done_by frames).ended ≡ no_result → HasNoFrame (rest ++ untaken))

    settled-done : (r : SessionResult) → (done_by frames).ended ≡ some_of r → s ≡ session_status r → Settled
    settled-done r is so = (subst (λ (e : Option SessionResult). EndsOver s e bytes (rest ++ untaken)) (sym is) so, λ no. absurd (none-some r (sym no ∙ is)))

    settled-open : (done_by frames).ended ≡ no_result → HasNoFrame (rest ++ untaken) → EndsBehind s bytes (rest ++ untaken) → Settled
    settled-open is stands behind = (subst (λ (e : Option SessionResult). EndsOver s e bytes (rest ++ untaken)) (sym is) (λ _. behind), λ _. stands)

    all-taken : untaken ≡ [] → rest ++ untaken ≡ rest
    all-taken last = ap (λ (bs : List ℕ). rest ++ bs) last ∙ append-nil rest

    settled-out : (done_by frames).ended ≡ no_result → RunsOut s taken rest (Some more) → Settled
    settled-out is out = by out.by
      where
        open-so : untaken ≡ [] → IsOpen (rest ++ untaken)
        open-so last = subst IsOpen (sym (all-taken last)) out.under_way

        by : ((length taken < input_limit) × (more ≡ []) × (s ≡ status.LinkEnded)) ⊎ ((length taken ≡ input_limit) × (s ≡ status.InputLimit)) → Settled
        by (inl (short, last, so)) =
            let all : untaken ≡ [] = ap (λ (bs : List ℕ). take (input_limit - length taken) bs) last ∙ take-nil (input_limit - length taken) in
            let size : length bytes < input_limit = omega (arith, length-append taken more, ap length last, short) in
            settled-open is (none-open (rest ++ untaken) (open-so all)) (inr (inr (inl (open-so all, size, so))))
        by (inr (full, so)) =
            let all : untaken ≡ [] = none-more input_limit taken more full in
            let size : input_limit ≤ length bytes = omega (arith, length-append taken more, full) in
            settled-open is (none-open (rest ++ untaken) (open-so all)) (inr (inr (inr (open-so all, size, so))))

    settled : Settled ⊎ (s ≡ status.Memory)
    settled = by broken (done_by frames).ended refl breaks why
      where
        done-so : (r : SessionResult) → (done_by frames).ended ≡ some_of r → (s ≡ session_status r) ⊎ (s ≡ status.Memory) → Settled ⊎ (s ≡ status.Memory)
        done-so r is (inl so) = inl (settled-done r is so)
        done-so r is (inr so) = inr so

        out-so : (done_by frames).ended ≡ no_result → RunsOut s taken rest (Some more) ⊎ (s ≡ status.Memory) → Settled ⊎ (s ≡ status.Memory)
        out-so is (inl out) = inl (settled-out is out)
        out-so is (inr so) = inr so

        broken-so : (why : PeerFault) → (done_by frames).ended ≡ no_result → IsBrokenBy (Some why) rest → (s ≡ session_status (Err (session.PeerRefused why))) ⊎ (s ≡ status.Memory) → Settled ⊎ (s ≡ status.Memory)
        broken-so why is breaks (inl so) = let on = broken-on why s bytes rest untaken so breaks in inl (settled-open is on.0 on.1)
        broken-so why is breaks (inr so) = inr so

        behind : (why : PeerFault) (e : Option SessionResult) → (done_by frames).ended ≡ e
            → (broken_by (Some why) (done_by frames)).ended ≡ (option_map_or (λ _. done_by frames) e (both (done_by frames) (refuses why (done_by frames).now))).ended
        behind why e is = ap (λ (e : Option SessionResult). (option_map_or (λ _. done_by frames) e (both (done_by frames) (refuses why (done_by frames).now))).ended) is

        by : (b : Option PeerFault) (e : Option SessionResult) → (done_by frames).ended ≡ e → IsBrokenBy b rest → IsEndFor result (broken_by b (done_by frames)).ended taken rest (Some more) → Settled ⊎ (s ≡ status.Memory)
        by None None is breaks why = out-so is (status-open result taken rest (Some more) none (subst (λ (e : Option SessionResult). IsEndFor result e taken rest (Some more)) is why))
        by None (Some r) is breaks why = done-so r is (status-done result r taken rest (Some more) none (subst (λ (e : Option SessionResult). IsEndFor result e taken rest (Some more)) is why))
        by (Some fault) None is breaks why =
            broken-so fault is breaks
            (status-done result (Err (session.PeerRefused fault)) taken rest (Some more) none (subst (λ (e : Option SessionResult). IsEndFor result e taken rest (Some more)) (behind fault None is) why))
        by (Some fault) (Some r) is breaks why =
            done-so r is (status-done result r taken rest (Some more) none (subst (λ (e : Option SessionResult). IsEndFor result e taken rest (Some more)) (behind fault (Some r) is ∙ is) why))

    ends-as : EndsAsBytes does begin s bytes
    ends-as = by settled
      where
        prefix : take input_limit bytes ≡ taken ++ untaken
        prefix = more_bytes input_limit taken more within

        all-cut : HandsOut (taken ++ untaken) [] frames (rest ++ untaken)
        all-cut = record {
          found = cut.found;
          handed = cut.handed;
          frames = cut.frames;
          spelt = ap (λ (bs : List ℕ). bs ++ untaken) cut.spelt ∙ append_assoc (flat_map frame_bytes cut.found) rest untaken;
        }

        by : Settled ⊎ (s ≡ status.Memory) → EndsAsBytes does begin s bytes
        by (inl (over, stands)) =
            inl (λ gs end other. each-list s bytes (taken ++ untaken) frames gs (rest ++ untaken) end all-cut over stands (subst (λ (bs : List ℕ). HandsOut bs [] gs end) prefix other))
        by (inr so) = inr so

  -- a session that took its bytes of these
  pub ends-as-bytes : (result : SessionResult) (link link' : LinkSeen) (x : Exchanges does begin result link link') (more : List ℕ) → link'.left ≡ Some more → NoFault (session_status result)
      → EndsAsBytes does begin (session_status result) (x.taken ++ more)
  ends-as-bytes result link link' x more left none =
      ends-as result x.taken more x.within x.frames x.rest x.cut x.broken x.breaks
      (subst (λ (l : Option (List ℕ)). IsEndFor result (broken_by x.broken (done_by x.frames)).ended x.taken x.rest l) left x.why) none
