-- What a reply to a question says: whole lines, none of which acknowledges a beat.
use Rattle.std.proofs.Common.{◌≡◌, ℕ, ◌^◌, ◌<◌, ◌≤◌, Bool, true, false, ◌&&◌, nat_lt, nat_le, List, [], ◌∷◌, length, All, Option, Some, None, Result, Ok, Err, codes, ℤ, pos, negsuc, refl, sym, ap, subst, ◌∙◌, append-nil, true≢false, if◌then◌else◌}
use Rattle.std.specs.List.{AllByRecursion}
use Rattle.std.specs.Option.{ok_or}
use Rattle.std.specs.Str.{bytes_eq}
use Rattle.std.proofs.lemmas.Bool.{and_parts}
use Rattle.std.proofs.lemmas.List.Elements.{All-from_recursion, recursion_from_All}
use Rattle.words.specs.Words.{has_open_quote, words}
use Rattle.simple_pattern.specs.Words.{words as pattern_words}
use Rattle.history.specs.declared.beat.OpenDim.{OpenDim}
use Rattle.history.specs.declared.dimension.DimDef.{DimDef}
use Rattle.history.specs.declared.limits.TheConstants.{ID_LIMIT}
use Rattle.history.specs.History.{Beat, collected, copied, health, missing, registry_of}
use Rattle.history.specs.Limits.{dimension_keeps_limits, is_factor, is_id, is_one_line, is_short}
use Rattle.history.specs.Put.{put, put_all}
use Rattle.history.specs.Registry.{Registry, chart_of, same_dimension}
use Rattle.chart_registry.proofs.Applying.{all-put}
use Rattle.plugin_text.specs.Lines.{but_last, last_part, lines, rest}
use Rattle.plugin_text.proofs.PartsLemmas.{but_last-append, last_part-append}
use Rattle.query_engine.specs.declared.request.Group.{Group}
use Rattle.query_engine.specs.declared.request.Group.TheVariants.{Average, Min, Max, Sum, Count, AnomalyRate}
use Rattle.query_engine.specs.declared.request.Request.{Request}
use Rattle.query_text.specs.declared.fault.QueryFault.{QueryFault}
use Rattle.query_text.specs.declared.fault.QueryFault.TheVariants as fault
use Rattle.query_text.specs.declared.span.Span.{Span}
use Rattle.query_text.specs.Asked.{chart_read, group_read, in_limits, number_read, pattern_read, pattern_text, query_read, request_read, rows_read, span_read, windows, words_read}
use Rattle.query_text.specs.Fault.{◌>>=◌}
use Rattle.query_text.specs.Replies.{is_reply_line, HasOneLineIds, IsReply}
use Rattle.query_text.proofs.ReplyLemmas.{fault-reply, table-reply}
use Rattle.tier_settings.specs.declared.settings.Settings.{Settings}
use Rattle.store_core.specs.declared.beats.beat.Beat.{Beat as StoreBeat}
use Rattle.agent_core.specs.Answers.{reply_of, reply_to}
use Rattle.agent_core.specs.Kept.{AreBeatsOf}
use Rattle.link_session.specs.Keeps.{stored_line, IsAckedUpTo}
use Rattle.link_session.proofs.AckLemmas.{has-first}

-- ---- the ids of a history
abbrev HasLineId : OpenDim → Type 0
HasLineId dimension = is_one_line dimension.def.id ≡ true

ids-put_all : (xs ys : List OpenDim) → AllByRecursion HasLineId xs → AllByRecursion HasLineId ys → AllByRecursion HasLineId (put_all same_dimension xs ys)
ids-put_all xs [] first second = first
ids-put_all xs (y ∷ ys) first second = ids-put_all (put same_dimension xs y) ys (all-put same_dimension HasLineId xs y first second.0) second.1

limit-id : (def : DimDef) → dimension_keeps_limits def ≡ true → is_one_line def.id ≡ true
limit-id def keeps =
    let three = and_parts (is_id def.id && is_short def.name && is_factor def.multiplier) (is_factor def.divisor) keeps in
    let two = and_parts (is_id def.id && is_short def.name) (is_factor def.multiplier) three.0 in
    let one = and_parts (is_id def.id) (is_short def.name) two.0 in
    (and_parts (nat_lt 0 (length def.id) && nat_le (length def.id) ID_LIMIT) (is_one_line def.id) one.0).1

limit-ids : (ds : List OpenDim) → AllByRecursion (λ (d : OpenDim). dimension_keeps_limits d.def ≡ true) ds → AllByRecursion HasLineId ds
limit-ids [] all = tt
limit-ids (d ∷ ds) all = (limit-id d.def all.0, limit-ids ds all.1)

ids-of : (h : List Beat) (beats : List StoreBeat) → AreBeatsOf h beats → AllByRecursion HasLineId (registry_of h).dimensions
ids-of [] beats are = tt
ids-of (collected moment beat ∷ h) [] are = absurd are
ids-of (collected moment beat ∷ h) (kept ∷ beats) are =
    ids-put_all (registry_of h).dimensions beat.dimensions (ids-of h beats are.1)
    (limit-ids beat.dimensions (recursion_from_All (λ (d : OpenDim). dimension_keeps_limits d.def ≡ true) beat.dimensions are.0.follows.is_open.dimension_limits))
ids-of (copied copy ∷ h) [] are = absurd are
ids-of (copied copy ∷ h) (kept ∷ beats) are =
    ids-put_all (registry_of h).dimensions copy.dimensions (ids-of h beats are.1)
    (limit-ids copy.dimensions (recursion_from_All (λ (d : OpenDim). dimension_keeps_limits d.def ≡ true) copy.dimensions are.0.follows.may.may.dimension_limits))
ids-of (health text ∷ h) [] are = absurd are
ids-of (health text ∷ h) (kept ∷ beats) are = ids-of h beats are.1
ids-of (missing gap ∷ h) [] are = absurd are
ids-of (missing gap ∷ h) (kept ∷ beats) are = ids-of h beats are.1

one-line-ids : (h : List Beat) (beats : List StoreBeat) → AreBeatsOf h beats → HasOneLineIds (registry_of h)
one-line-ids h beats are = All-from_recursion HasLineId (registry_of h).dimensions (ids-of h beats are)

is-reply : (set : Settings) (h : List Beat) → HasOneLineIds (registry_of h) → (r : Result Request QueryFault) → IsReply (reply_to set h r)
unfolding reply_to
is-reply set h ids (Ok request) = table-reply (registry_of h) request _ ids
is-reply set h ids (Err why) = fault-reply why

-- ---- whole lines that acknowledge nothing
-- no line of a reply tells of a stored beat
reply-no_stored : (m : ℕ) → is_reply_line (stored_line m) ≡ false
reply-no_stored m = refl

reply-acked : (n : ℕ) (text : List ℕ) → IsReply text → IsAckedUpTo n text
reply-acked n text is =
    let these : lines text ≡ is.lines = ap but_last is.whole ∙ but_last-append is.lines [] [] ∙ append-nil is.lines in
    subst (All (λ (said : List ℕ). (m : ℕ) → m < 2 ^ 64 → said ≡ stored_line m → m ≤ n)) (sym these)
    (λ k d within m small same. absurd (true≢false (sym (is.begun k d within) ∙ ap is_reply_line same ∙ reply-no_stored m)))

pub acked-reply : (n : ℕ) (set : Settings) (h : List Beat) (beats : List StoreBeat) → AreBeatsOf h beats → (text : List ℕ) → IsAckedUpTo n (reply_of set h text)
unfolding reply_of
acked-reply n set h beats are text = reply-acked n _ (is-reply set h (one-line-ids h beats are) (query_read (registry_of h) text))

pub closed-reply : (set : Settings) (h : List Beat) (beats : List StoreBeat) → AreBeatsOf h beats → (text : List ℕ) → rest (reply_of set h text) ≡ []
unfolding reply_of
closed-reply set h beats are text =
    let is = is-reply set h (one-line-ids h beats are) (query_read (registry_of h) text) in
    ap last_part is.whole ∙ last_part-append is.lines [] []

-- ---- a question has an answer: no refusal of it is out of memory
abbrev is_memory : {A : Type 0} → Result A QueryFault → Bool
is_memory (Ok a) = false
is_memory (Err fault.Memory) = true
is_memory (Err why) = false

-- it is not out of memory
record IsTold {A : Type 0} (r : Result A QueryFault) : Type 0 where
  pub told : is_memory r ≡ false

told-then : {A B : Type 0} (r : Result A QueryFault) (next : A → Result B QueryFault) → IsTold r → ((a : A) → IsTold (next a)) → IsTold (r >>= next)
told-then (Ok a) next first later = later a
told-then {A} {B} (Err why) next first later = record { told = by why first.told }
  where
    by : (w : QueryFault) → is_memory {A = A} (Err w) ≡ false → is_memory {A = B} (Err w) ≡ false
    by fault.Memory is = is
    by fault.BadWord is = refl
    by fault.BadNumber is = refl
    by fault.NoChart is = refl
    by fault.BadGroup is = refl
    by fault.TooManyRows is = refl

told-if : {A : Type 0} (b : Bool) (x y : Result A QueryFault) → IsTold x → IsTold y → IsTold (if b then x else y)
told-if true x y first second = first
told-if false x y first second = second

told-words : (text : List ℕ) → IsTold (words_read text)
told-words text = told-if (has_open_quote text) (Err fault.BadWord) (Ok (words text)) (record { told = refl }) (record { told = refl })

told-pattern : (given : List (List ℕ)) → IsTold (pattern_read given)
told-pattern given =
    let pattern = pattern_words false (pattern_text given) in
    told-if (nat_lt 256 (length pattern)) (Err fault.BadWord) (Ok pattern) (record { told = refl }) (record { told = refl })

told-limits : (least : ℕ) (z : ℤ) → IsTold (in_limits least z)
told-limits least (pos n) = told-if _ (Ok n) (Err fault.BadNumber) (record { told = refl }) (record { told = refl })
told-limits least (negsuc n) = record { told = refl }

told-number : (least : ℕ) (word : List ℕ) → IsTold (number_read least word)
told-number least word = told-if _ (in_limits least _) (Err fault.BadNumber) (told-limits least _) (record { told = refl })

told-span : (after before window : List ℕ) → IsTold (span_read after before window)
told-span after before window =
    told-then (number_read 0 after) _ (told-number 0 after)
    (λ a. told-then (number_read 0 before) _ (told-number 0 before) (λ b. told-then (number_read 1 window) _ (told-number 1 window) (λ w. record { told = refl })))

told-chart : (registry : Registry) (id : List ℕ) → IsTold (chart_read registry id)
told-chart registry id = by (chart_of registry id)
  where
    by : (o : Option ℕ) → IsTold (ok_or o fault.NoChart)
    by None = record { told = refl }
    by (Some n) = record { told = refl }

abbrev found : Group → Result Group QueryFault
found group = Ok group

told-group : (word : List ℕ) → IsTold (group_read word)
told-group word =
    let none : Result Group QueryFault = Err fault.BadGroup in
    let rate : Result Group QueryFault = if bytes_eq word (codes "anomaly-rate") then Ok AnomalyRate else none in
    let count : Result Group QueryFault = if bytes_eq word (codes "count") then Ok Count else rate in
    let total : Result Group QueryFault = if bytes_eq word (codes "sum") then Ok Sum else count in
    let most : Result Group QueryFault = if bytes_eq word (codes "max") then Ok Max else total in
    let least : Result Group QueryFault = if bytes_eq word (codes "min") then Ok Min else most in
    let told : (group : Group) → IsTold (found group) = λ group. record { told = refl } in
    told-if (bytes_eq word (codes "average")) (Ok Average) least (told Average)
    (told-if (bytes_eq word (codes "min")) (Ok Min) most (told Min)
    (told-if (bytes_eq word (codes "max")) (Ok Max) total (told Max)
    (told-if (bytes_eq word (codes "sum")) (Ok Sum) count (told Sum)
    (told-if (bytes_eq word (codes "count")) (Ok Count) rate (told Count)
    (told-if (bytes_eq word (codes "anomaly-rate")) (Ok AnomalyRate) none (told AnomalyRate) (record { told = refl }))))))

told-rows : (span : Span) → IsTold (rows_read span)
told-rows span =
    let rows = windows span.after span.before span.window in
    told-if (nat_lt 10000 rows) (Err fault.TooManyRows) (Ok rows) (record { told = refl }) (record { told = refl })

told-request : (registry : Registry) (ws : List (List ℕ)) → IsTold (request_read registry ws)
told-request registry (chart ∷ after ∷ before ∷ window ∷ group ∷ given) =
    told-then (pattern_read given) _ (told-pattern given)
    (λ pattern. told-then (span_read after before window) _ (told-span after before window)
    (λ span. told-then (chart_read registry chart) _ (told-chart registry chart)
    (λ number. told-then (group_read group) _ (told-group group) (λ g. told-then (rows_read span) _ (told-rows span) (λ rows. record { told = refl })))))
told-request registry few = record { told = refl }

told-query : (registry : Registry) (text : List ℕ) → IsTold (query_read registry text)
told-query registry text = told-then (words_read text) (request_read registry) (told-words text) (told-request registry)

to-some : (set : Settings) (h : List Beat) (r : Result Request QueryFault) → is_memory r ≡ false → has-first (reply_to set h r) ≡ true
unfolding reply_to
to-some set h (Ok request) told = refl
to-some set h (Err fault.Memory) told = absurd (true≢false told)
to-some set h (Err fault.BadWord) told = refl
to-some set h (Err fault.BadNumber) told = refl
to-some set h (Err fault.NoChart) told = refl
to-some set h (Err fault.BadGroup) told = refl
to-some set h (Err fault.TooManyRows) told = refl

pub reply-some : (set : Settings) (h : List Beat) (beats : List StoreBeat) → AreBeatsOf h beats → (text : List ℕ) → reply_of set h text ≡ [] → ⊥
unfolding reply_of
reply-some set h beats are text none =
    true≢false (sym (to-some set h (query_read (registry_of h) text) (told-query (registry_of h) text).told) ∙ ap has-first none)
