-- What is sent of kept beats keeps the rules, and is all of them where they keep the rules.
use Rattle.std.proofs.Common.{◌≡◌, ℕ, ◌+◌, ◌<◌, ◌≤◌, ◌^◌, Bool, true, ◌&&◌, nat_le, nat_lt, List, [], ◌∷◌, ◌++◌, length, map, take, drop, get_or, refl, sym, ap, subst, ◌∙◌, arith}
use Rattle.std.specs.List.{list_all, AllByRecursion}
use Rattle.std.proofs.lemmas.Bool.{and_from, and_parts, le-leb, leb-true, lt-ltb, ltb-true}
use Rattle.std.proofs.lemmas.List.{append-nil, drop_more, length-append, map-append}
use Rattle.std.proofs.lemmas.Option.{get_or_from_slice_get, slice_get-get_or}
use Rattle.list_lemmas.proofs.Every.{all-append}
use Rattle.storage_number.specs.Word.{is_word}
use Rattle.field_codec.specs.Lists.{IsShortListOf}
use Rattle.entry_codec.specs.Lists.{is_ascending}
use Rattle.beat_tiers.specs.declared.kept.KeptBeat.{KeptBeat}
use Rattle.beat_tiers.specs.declared.kept.KeptPoint.{KeptPoint}
use Rattle.beat_tiers.specs.Above.{RiseAbove}
use Rattle.replication.specs.declared.beats.Beat.{Beat as SentBeat}
use Rattle.replication.specs.declared.beats.SeriesWord.{SeriesWord}
use Rattle.replication.specs.Copies.{latest, RisesFrom}
use Rattle.replication.specs.Names.{beat_moment}
use Rattle.replication.proofs.Copies.{all-map, latest-later, rises-later}
use Rattle.link_frames.specs.DataForm.{is_storage_number, place_of}
use Rattle.link_frames.specs.Fields.{FitsBeat, FitsWord}
use Rattle.agent_core.specs.Asking.{beat_with, AreSendable, IsSendable}
use Rattle.agent_core.specs.Copies.{sent_beat, sent_word}
use Rattle.agent_core.proofs.PointLemmas.{mapped-more}

-- an item in its place is the same, whatever stands for one that is not there
pub same-item : {A : Type 0} (xs : List A) (n : ℕ) (d : A) → n < length xs → get_or xs n (get_or xs n d) ≡ get_or xs n d
same-item xs n d within = get_or_from_slice_get xs n (get_or xs n d) (get_or xs n d) (slice_get-get_or xs n d within)

-- ---- numbers that rise
ascending-push : (ns : List ℕ) (n : ℕ) → is_ascending ns ≡ true → AllByRecursion (λ m. m < n) ns → is_ascending (ns ++ n ∷ []) ≡ true
ascending-push [] n rises below = refl
ascending-push (a ∷ []) n rises below = and_from (nat_lt a n) true (lt-ltb a n below.0) refl
ascending-push (a ∷ b ∷ ns) n rises below =
    let parts = and_parts (nat_lt a b) (is_ascending (b ∷ ns)) rises in
    and_from (nat_lt a b) (is_ascending (b ∷ ns ++ n ∷ [])) parts.0 (ascending-push (b ∷ ns) n parts.1 below.1)

ascending-tail : (n : ℕ) (ns : List ℕ) → is_ascending (n ∷ ns) ≡ true → is_ascending ns ≡ true
ascending-tail n [] rises = refl
ascending-tail n (m ∷ ns) rises = (and_parts (nat_lt n m) (is_ascending (m ∷ ns)) rises).1

abbrev pub From : ℕ → KeptPoint → Type 0
From least point = least ≤ point.series

abbrev words_of : List KeptPoint → List SeriesWord
words_of points = map sent_word points

ascending-later : (point : KeptPoint) (points : List KeptPoint) → is_ascending (map place_of (words_of (point ∷ points))) ≡ true → AllByRecursion (From (point.series + 1)) points
ascending-later point [] rises = tt
ascending-later point (next ∷ points) rises =
    let parts = and_parts (nat_lt point.series next.series) (is_ascending (map place_of (words_of (next ∷ points)))) rises in
    let above = ltb-true point.series next.series parts.0 in
    (omega (arith, above), all-map (From (next.series + 1)) (From (point.series + 1)) points (λ later from. omega (arith, from, above)) (ascending-later next points parts.1))

-- ---- the words of a beat
abbrev pub Below : ℕ → SeriesWord → Type 0
Below least word = word.series < least

-- words that were taken, where the next series may be from `least` on
pub record SoFar (series least : ℕ) (words : List SeriesWord) : Type 0 where
  pub sendable : AreSendable series words
  pub fits : AllByRecursion FitsWord words
  pub below : AllByRecursion (Below least) words
  pub few : length words ≤ least
  pub within : least ≤ series

places-below : (least : ℕ) (words : List SeriesWord) → AllByRecursion (Below least) words → AllByRecursion (λ m. m < least) (map place_of words)
places-below least [] below = tt
places-below least (word ∷ words) below = (below.0, places-below least words below.1)

numbers-push : (words : List SeriesWord) (word : SeriesWord) → list_all is_storage_number words ≡ true → is_word word.word ≡ true → list_all is_storage_number (words ++ word ∷ []) ≡ true
numbers-push [] word numbers number = and_from (is_word word.word) true number refl
numbers-push (first ∷ words) word numbers number =
    let parts = and_parts (is_word first.word) (list_all is_storage_number words) numbers in
    and_from (is_word first.word) (list_all is_storage_number (words ++ word ∷ [])) parts.0 (numbers-push words word parts.1 number)

abbrev pub may_follow : ℕ → ℕ → KeptPoint → Bool
may_follow least series point = nat_le least point.series && nat_lt point.series series && is_word point.word

module _ (series least : ℕ) (words new : List SeriesWord) (point : KeptPoint) where
  record Follows : Type 0 where
    from : least ≤ point.series
    within : point.series < series
    number : is_word point.word ≡ true

  follows : may_follow least series point ≡ true → Follows
  follows may =
      let first = and_parts (nat_le least point.series && nat_lt point.series series) (is_word point.word) may in
      let second = and_parts (nat_le least point.series) (nat_lt point.series series) first.0 in
      record { from = leb-true least point.series second.0; within = ltb-true point.series series second.1; number = first.1 }

  pub more-so_far : SoFar series least words → may_follow least series point ≡ true → FitsWord (sent_word point) → new ≡ words ++ sent_word point ∷ [] → SoFar series (point.series + 1) new
  more-so_far so may fits pushed =
      let is = follows may in
      subst (SoFar series (point.series + 1)) (sym pushed) (record {
        sendable = record {
          of = all-append (λ (word : SeriesWord). word.series < series) words (sent_word point ∷ []) so.sendable.of (is.within, tt);
          rise = ap is_ascending (map-append place_of words (sent_word point ∷ []))
              ∙ ascending-push (map place_of words) point.series so.sendable.rise
              (places-below point.series words (all-map (Below least) (Below point.series) words (λ word below. omega (arith, below, is.from)) so.below));
          numbers = numbers-push words (sent_word point) so.sendable.numbers is.number;
        };
        fits = all-append FitsWord words (sent_word point ∷ []) so.fits (fits, tt);
        below = all-append (Below (point.series + 1)) words (sent_word point ∷ []) (all-map (Below least) (Below (point.series + 1)) words (λ word below. omega (arith, below, is.from)) so.below) (omega arith, tt);
        few = omega (arith, length-append words (sent_word point ∷ []), so.few, is.from);
        within = omega (arith, is.within);
      })

-- the first n points were all taken, and the others may be too
pub record AllSoFar (series least : ℕ) (words : List SeriesWord) (points : List KeptPoint) (n : ℕ) : Type 0 where
  pub taken : words ≡ words_of (take n points)
  pub rest : AreSendable series (words_of (drop n points))
  pub from : AllByRecursion (From least) (drop n points)

module _ (series least : ℕ) (words : List SeriesWord) (points : List KeptPoint) (n : ℕ) (point : KeptPoint) (within : n < length points) (at : get_or points n point ≡ point) (all : AllSoFar series least words points n) where
  here : drop n points ≡ point ∷ drop (n + 1) points
  here = drop_more points n point within ∙ ap (λ (p : KeptPoint). p ∷ drop (n + 1) points) at

  rest_here : AreSendable series (words_of (point ∷ drop (n + 1) points))
  rest_here = subst (λ (ps : List KeptPoint). AreSendable series (words_of ps)) here all.rest

  pub all-passes : may_follow least series point ≡ true
  all-passes =
      let from : AllByRecursion (From least) (point ∷ drop (n + 1) points) = subst (AllByRecursion (From least)) here all.from in
      let number = (and_parts (is_word point.word) (list_all is_storage_number (words_of (drop (n + 1) points))) rest_here.numbers).0 in
      and_from (nat_le least point.series && nat_lt point.series series) (is_word point.word)
      (and_from (nat_le least point.series) (nat_lt point.series series) (le-leb least point.series from.0) (lt-ltb point.series series rest_here.of.0)) number

  pub all-more : (new : List SeriesWord) → new ≡ words ++ sent_word point ∷ [] → AllSoFar series (point.series + 1) new points (n + 1)
  all-more new pushed = record {
    taken = mapped-more sent_word points n point words new within at pushed all.taken;
    rest = record {
      of = rest_here.of.1;
      rise = ascending-tail point.series (map place_of (words_of (drop (n + 1) points))) rest_here.rise;
      numbers = (and_parts (is_word point.word) (list_all is_storage_number (words_of (drop (n + 1) points))) rest_here.numbers).1;
    };
    from = ascending-later point (drop (n + 1) points) rest_here.rise;
  }

-- ---- the beats
pub more-sendable : (series moment : ℕ) (words : List SeriesWord) (beats new : List SentBeat) → new ≡ beats ++ beat_with moment words → AreSendable series words
    → AllByRecursion (IsSendable series) beats → AllByRecursion (IsSendable series) new
more-sendable series moment [] beats new pushed sendable all = subst (AllByRecursion (IsSendable series)) (sym (pushed ∙ append-nil beats)) all
more-sendable series moment (word ∷ words) beats new pushed sendable all =
    subst (AllByRecursion (IsSendable series)) (sym pushed) (all-append (IsSendable series) beats (beat_with moment (word ∷ words)) all (record { some = omega arith; words = sendable }, tt))

pub more-fits : (moment : ℕ) (words : List SeriesWord) (beats new : List SentBeat) → new ≡ beats ++ beat_with moment words → moment < 2 ^ 32 → IsShortListOf FitsWord words
    → AllByRecursion FitsBeat beats → AllByRecursion FitsBeat new
more-fits moment [] beats new pushed small fits all = subst (AllByRecursion FitsBeat) (sym (pushed ∙ append-nil beats)) all
more-fits moment (word ∷ words) beats new pushed small fits all =
    subst (AllByRecursion FitsBeat) (sym pushed) (all-append FitsBeat beats (beat_with moment (word ∷ words)) all (record { moment = small; words = fits }, tt))

-- the beats rise, and those from the n-th on may follow them
pub record StillRise (beats : List SentBeat) (kept : List KeptBeat) (n : ℕ) : Type 0 where
  pub rises : RisesFrom beat_moment 0 beats
  pub rest : RiseAbove (latest beat_moment 0 beats) (drop n kept)

pub rise-lower : (low high : ℕ) (beats : List KeptBeat) → low ≤ high → RiseAbove high beats → RiseAbove low beats
rise-lower low high [] le rise = tt
rise-lower low high (beat ∷ beats) le rise = (omega (arith, rise.0), rise.1, rise.2)

pub more-rise : (words : List SeriesWord) (beats new : List SentBeat) (kept : List KeptBeat) (n : ℕ) (beat : KeptBeat) → n < length kept → get_or kept n beat ≡ beat → new ≡ beats ++ beat_with beat.moment words
    → StillRise beats kept n → StillRise new kept (n + 1)
more-rise words beats new kept n beat within at pushed still = by words pushed
  where
    here : RiseAbove (latest beat_moment 0 beats) (beat ∷ drop (n + 1) kept)
    here = subst (RiseAbove (latest beat_moment 0 beats)) (drop_more kept n beat within ∙ ap (λ (b : KeptBeat). b ∷ drop (n + 1) kept) at) still.rest

    by : (words : List SeriesWord) → new ≡ beats ++ beat_with beat.moment words → StillRise new kept (n + 1)
    by [] pushed =
        subst (λ (beats : List SentBeat). StillRise beats kept (n + 1)) (sym (pushed ∙ append-nil beats))
        (record { rises = still.rises; rest = rise-lower (latest beat_moment 0 beats) beat.moment (drop (n + 1) kept) (omega (arith, here.0)) here.2 })
    by (word ∷ words) pushed =
        let next : SentBeat = record { moment = beat.moment; words = word ∷ words } in
        subst (λ (beats : List SentBeat). StillRise beats kept (n + 1)) (sym pushed)
        (record {
          rises = rises-later beat_moment 0 beats next still.rises here.0;
          rest = subst (λ low. RiseAbove low (drop (n + 1) kept)) (sym (latest-later beat_moment 0 beats next)) here.2;
        })

-- the first n beats are all there, and the others may be sent
pub record AllBeatsSoFar (series : ℕ) (beats : List SentBeat) (kept : List KeptBeat) (n : ℕ) : Type 0 where
  pub taken : beats ≡ map sent_beat (take n kept)
  pub rest : AllByRecursion (IsSendable series) (map sent_beat (drop n kept))

with-words : (moment : ℕ) (words : List SeriesWord) → 0 < length words → beat_with moment words ≡ record { moment = moment; words = words } ∷ []
with-words moment [] some = absurd (omega arith)
with-words moment (word ∷ words) some = refl

pub all-more_beats : (series : ℕ) (words : List SeriesWord) (beats new : List SentBeat) (kept : List KeptBeat) (n : ℕ) (beat : KeptBeat) → n < length kept → get_or kept n beat ≡ beat → new ≡ beats ++ beat_with beat.moment words
    → (AreSendable series (map sent_word beat.points) → words ≡ map sent_word beat.points) → AllBeatsSoFar series beats kept n → AllBeatsSoFar series new kept (n + 1)
all-more_beats series words beats new kept n beat within at pushed all_words so =
    let here : AllByRecursion (IsSendable series) (map sent_beat (beat ∷ drop (n + 1) kept)) =
    subst (λ (all : List KeptBeat). AllByRecursion (IsSendable series) (map sent_beat all)) (drop_more kept n beat within ∙ ap (λ (b : KeptBeat). b ∷ drop (n + 1) kept) at) so.rest in
    let whole : beat_with beat.moment words ≡ sent_beat beat ∷ [] =
    ap (beat_with beat.moment) (all_words here.0.words) ∙ with-words beat.moment (map sent_word beat.points) here.0.some in
    record {
      taken = mapped-more sent_beat kept n beat beats new within at (pushed ∙ ap (λ more. beats ++ more) whole) so.taken;
      rest = here.1;
    }
