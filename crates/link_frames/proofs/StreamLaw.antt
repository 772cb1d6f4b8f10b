-- What stands in bytes that go on.
use Rattle.std.proofs.Common.{◌≡◌, ℕ, ◌+◌, ◌≤◌, List, [], ◌∷◌, ◌++◌, length, take, drop, refl, sym, ap, subst, ◌∙◌, append_assoc, arith}
use Rattle.std.specs.List.{concat, flat_map, AllByRecursion}
use Rattle.std.proofs.lemmas.Grind.{flat_map-append}
use Rattle.std.proofs.lemmas.List.{append-nil, drop-append-le, drop_at, length-append, length-drop, take-append-drop, take-append-le, take_at}
use Rattle.std.proofs.lemmas.List.Concat.{flat_map-cons}
use Rattle.byteorder.specs.Numbers.{little_from-take, little_number-reads_back}
use Rattle.list_lemmas.proofs.Every.{all-append}
use Rattle.field_codec.specs.Field.{IsBytes}
use Rattle.field_codec.specs.Spelling.{u32_bytes, sized_bytes}
use Rattle.field_codec.proofs.Lengths.{length-u32_bytes}
use Rattle.field_codec.proofs.Numbers.{little_bytes-little_number}
use Rattle.link_frames.specs.declared.frame.Frame.{Frame}
use Rattle.link_frames.specs.Frames.{body_bytes, frame_bytes, HasSpelling, IsNoBody}
use Rattle.link_frames.specs.Stream.{Feeds, HandsOut, HasNoFrame, IsBad, IsOpen, IsTooLong, body, said}
use Rattle.link_frames.proofs.FramesLaw.{one_frame, one_end}

-- ---- the first bytes
-- what the first four bytes say does not depend on what follows
pub said-append : (bytes more : List ℕ) → 4 ≤ length bytes → said (bytes ++ more) ≡ said bytes
said-append bytes more there =
    sym (little_from-take 0 4 (length bytes) (bytes ++ more) there) ∙ ap said (take_at bytes more (length bytes) refl)

-- nor does a body that is there
pub body-append : (bytes more : List ℕ) → 4 ≤ length bytes → 4 + said bytes ≤ length bytes → body (bytes ++ more) ≡ body bytes
body-append bytes more there whole =
    ap (λ (n : ℕ). take n (drop 4 (bytes ++ more))) (said-append bytes more there)
    ∙ ap (take (said bytes)) (drop-append-le 4 bytes more there)
    ∙ take-append-le (said bytes) (drop 4 bytes) more (omega (arith, length-drop 4 bytes))

-- what the prefix of bytes is that begin with a frame
record Begins (f : Frame) (bytes : List ℕ) : Type 0 where
  there : 4 ≤ length bytes
  says : said bytes ≡ length (body_bytes f)
  whole : 4 + length (body_bytes f) ≤ length bytes
  is : body bytes ≡ body_bytes f

begins : (f : Frame) (more : List ℕ) → HasSpelling f → Begins f (frame_bytes f ++ more)
unfolding frame_bytes sized_bytes u32_bytes
begins f more spells =
    let b : List ℕ = body_bytes f in
    let prefix : List ℕ = u32_bytes (length b) in
    let grouped : (prefix ++ b) ++ more ≡ prefix ++ (b ++ more) = append_assoc prefix b more in
    let long = length-append prefix (b ++ more) in
    let rest = length-append b more in
    let four = length-u32_bytes (length b) in
    let says : said (prefix ++ (b ++ more)) ≡ length b = little_number-reads_back 4 (length b) (b ++ more) (omega (arith, spells.within)) in
    subst (Begins f) (sym grouped) (record {
      there = omega (arith, long, four);
      says = says;
      whole = omega (arith, long, rest, four);
      is = ap (λ (n : ℕ). take n (drop 4 (prefix ++ (b ++ more)))) says ∙ ap (take (length b)) (drop_at prefix (b ++ more) 4 four) ∙ take_at b more (length b) refl;
    })

-- ---- where no frame stands
pub none-open : (bytes : List ℕ) → IsOpen bytes → HasNoFrame bytes
none-open bytes under_way f more spells same =
    let b = subst (Begins f) (sym same) (begins f more spells) in
    absurd (omega (arith, under_way.part b.there, b.says, b.whole))

pub none-long : (bytes : List ℕ) → IsTooLong bytes → HasNoFrame bytes
none-long bytes long f more spells same =
    let b = subst (Begins f) (sym same) (begins f more spells) in
    absurd (omega (arith, long.long, b.says, spells.within))

pub none-bad : (bytes : List ℕ) → IsBad bytes → HasNoFrame bytes
none-bad bytes bad f more spells same =
    let b = subst (Begins f) (sym same) (begins f more spells) in
    bad.none f spells b.is

-- ---- bytes that go on
pub long-stays : (bytes more : List ℕ) → IsTooLong bytes → IsTooLong (bytes ++ more)
long-stays bytes more long = record {
  there = omega (arith, length-append bytes more, long.there);
  long = omega (arith, said-append bytes more long.there, long.long);
}

pub bad-stays : (bytes more : List ℕ) → IsBad bytes → IsBad (bytes ++ more)
bad-stays bytes more bad = record {
  there = omega (arith, length-append bytes more, bad.there);
  short = omega (arith, said-append bytes more bad.there, bad.short);
  whole = omega (arith, length-append bytes more, said-append bytes more bad.there, bad.whole);
  none = subst IsNoBody (sym (body-append bytes more bad.there bad.whole)) bad.none;
}

-- ---- frames, one behind the other
-- what more follows is left
with_more : (bytes more rest : List ℕ) (before now : List Frame) → HandsOut bytes before now rest → HandsOut (bytes ++ more) before now (rest ++ more)
with_more bytes more rest before now one = record {
  found = one.found;
  handed = one.handed;
  frames = one.frames;
  spelt = ap (λ (bs : List ℕ). bs ++ more) one.spelt ∙ append_assoc (flat_map frame_bytes one.found) rest more;
}

-- what is handed out of what was left
pub after : (bytes rest end : List ℕ) (first second third : List Frame) → HandsOut bytes first second rest → HandsOut rest second third end → HandsOut bytes first third end
after bytes rest end first second third one two = record {
  found = one.found ++ two.found;
  handed = two.handed ∙ ap (λ (fs : List Frame). fs ++ two.found) one.handed ∙ append_assoc first one.found two.found;
  frames = all-append HasSpelling one.found two.found one.frames two.frames;
  spelt = one.spelt ∙ ap (λ (bs : List ℕ). flat_map frame_bytes one.found ++ bs) two.spelt
      ∙ sym (append_assoc (flat_map frame_bytes one.found) (flat_map frame_bytes two.found) end)
      ∙ ap (λ (bs : List ℕ). bs ++ end) (sym (flat_map-append frame_bytes one.found two.found));
}

-- one frame in front of others
pub regroup : (f : Frame) (fs : List Frame) (rest : List ℕ) → flat_map frame_bytes (f ∷ fs) ++ rest ≡ frame_bytes f ++ (flat_map frame_bytes fs ++ rest)
regroup f fs rest = ap (λ (bs : List ℕ). bs ++ rest) (flat_map-cons frame_bytes f fs) ∙ append_assoc (frame_bytes f) (flat_map frame_bytes fs) rest

pub all-spelt : (bytes rest : List ℕ) (frames : List Frame) → HandsOut bytes [] frames rest → AllByRecursion HasSpelling frames
all-spelt bytes rest frames cut = subst (AllByRecursion HasSpelling) (sym cut.handed) cut.frames

-- there is one list of frames up to where none stands
one_list : (fs gs : List Frame) (rest end : List ℕ) → AllByRecursion HasSpelling fs → AllByRecursion HasSpelling gs
    → flat_map frame_bytes fs ++ rest ≡ flat_map frame_bytes gs ++ end → HasNoFrame rest → HasNoFrame end → (fs ≡ gs) × (rest ≡ end)
one_list [] [] rest end all_f all_g same none_f none_g = (refl, same)
one_list [] (g ∷ gs) rest end all_f all_g same none_f none_g = absurd (none_f g (flat_map frame_bytes gs ++ end) all_g.0 (same ∙ regroup g gs end))
one_list (f ∷ fs) [] rest end all_f all_g same none_f none_g = absurd (none_g f (flat_map frame_bytes fs ++ rest) all_f.0 (sym same ∙ regroup f fs rest))
one_list (f ∷ fs) (g ∷ gs) rest end all_f all_g same none_f none_g =
    let both : frame_bytes f ++ (flat_map frame_bytes fs ++ rest) ≡ frame_bytes g ++ (flat_map frame_bytes gs ++ end) = sym (regroup f fs rest) ∙ same ∙ regroup g gs end in
    let first : f ≡ g = one_frame f g _ _ all_f.0 all_g.0 both in
    let others = one_list fs gs rest end all_f.1 all_g.1 (one_end f g _ _ all_f.0 all_g.0 both) none_f none_g in
    (ap (λ (x : Frame). x ∷ fs) first ∙ ap (λ (xs : List Frame). g ∷ xs) others.0, others.1)

pub one_reading : (bytes rest end : List ℕ) (before first second : List Frame) → HandsOut bytes before first rest → HasNoFrame rest → HandsOut bytes before second end → HasNoFrame end
    → (first ≡ second) × (rest ≡ end)
one_reading bytes rest end before first second one none two none_two =
    let same = one_list one.found two.found rest end one.frames two.frames (sym one.spelt ∙ two.spelt) none none_two in
    (one.handed ∙ ap (λ (fs : List Frame). before ++ fs) same.0 ∙ sym two.handed, same.1)

-- ---- one part of a frame
-- nothing is handed out
pub HandsOut_none : (held : List ℕ) (before : List Frame) → HandsOut held before before held
HandsOut_none held before = record { found = []; handed = sym (append-nil before); frames = tt; spelt = refl }

-- one frame is
pub HandsOut_one : (f : Frame) (held : List ℕ) (before : List Frame) → HasSpelling f → held ≡ frame_bytes f → HandsOut held before (before ++ f ∷ []) []
HandsOut_one f held before spells spelt = record {
  found = f ∷ [];
  handed = refl;
  frames = (spells, tt);
  spelt = spelt ∙ sym (append-nil (frame_bytes f)) ∙ sym (regroup f [] []);
}

-- ---- pieces, one after the other
onward : (bytes more rest end : List ℕ) (first second third : List Frame) → HandsOut bytes first second rest → HandsOut (rest ++ more) second third end → HandsOut (bytes ++ more) first third end
onward bytes more rest end first second third one two = after (bytes ++ more) (rest ++ more) end first second third (with_more bytes more rest first second one) two

fed : (held : List ℕ) (pieces : List (List ℕ)) (before now : List Frame) (rest : List ℕ) → Feeds held pieces before now rest → HandsOut (held ++ concat pieces) before now rest
fed held [] before now rest (now_is, rest_is) =
    subst (λ (bs : List ℕ). HandsOut (held ++ []) before now bs) (sym rest_is)
    (subst (λ (fs : List Frame). HandsOut (held ++ []) before fs held) (sym now_is)
    (subst (λ (bs : List ℕ). HandsOut bs before before held) (sym (append-nil held)) (HandsOut_none held before)))
fed held (piece ∷ pieces) before now rest (next, end, one, under_way, more) =
    subst (λ (bs : List ℕ). HandsOut bs before now rest) (append_assoc held piece (concat pieces))
    (onward (held ++ piece) (concat pieces) end rest before next now one (fed end pieces next now rest more))

fed-open : (held : List ℕ) (pieces : List (List ℕ)) (before now : List Frame) (rest : List ℕ) → Feeds held pieces before now rest → IsOpen held → IsOpen rest
fed-open held [] before now rest (now_is, rest_is) under_way = subst IsOpen (sym rest_is) under_way
fed-open held (piece ∷ pieces) before now rest (next, end, one, under_way, more) before_it = fed-open end pieces next now rest more under_way

nothing-open : IsOpen []
nothing-open = record { short = λ there. absurd (omega (arith, there)); part = λ there. absurd (omega (arith, there)) }

-- a new reader hands out of pieces what it hands out of all bytes together
pub together : (pieces : List (List ℕ)) (before now : List Frame) (rest : List ℕ) → Feeds [] pieces before now rest → HandsOut (concat pieces) before now rest
together pieces before now rest feeds = fed [] pieces before now rest feeds

pub under_way : (pieces : List (List ℕ)) (before now : List Frame) (rest : List ℕ) → Feeds [] pieces before now rest → IsOpen rest
under_way pieces before now rest feeds = fed-open [] pieces before now rest feeds nothing-open

-- however the same bytes are cut
pub pieces_change_no_frames : (pieces others : List (List ℕ)) (before first second : List Frame) (rest end : List ℕ) → Feeds [] pieces before first rest → Feeds [] others before second end
    → concat pieces ≡ concat others → (first ≡ second) × (rest ≡ end)
pieces_change_no_frames pieces others before first second rest end one two same =
    one_reading (concat pieces) rest end before first second (together pieces before first rest one) (none-open rest (under_way pieces before first rest one))
    (subst (λ (bs : List ℕ). HandsOut bs before second end) (sym same) (together others before second end two)) (none-open end (under_way others before second end two))

-- ---- one piece
-- what is left of a piece is left behind what is held
pub carried : (held prefix left ahead start end : List ℕ) (before now : List Frame) → prefix ++ left ≡ ahead → start ≡ held ++ prefix
    → HandsOut start before now end → HandsOut (held ++ ahead) before now (end ++ left)
carried held prefix left ahead start end before now split begins one =
    subst (λ (bs : List ℕ). HandsOut bs before now (end ++ left)) (ap (λ (bs : List ℕ). bs ++ left) begins ∙ append_assoc held prefix left ∙ ap (λ (bs : List ℕ). held ++ bs) split)
    (with_more start left end before now one)

pub bad-carried : (held prefix left ahead start : List ℕ) → prefix ++ left ≡ ahead → start ≡ held ++ prefix → IsBad start → IsBad (held ++ ahead)
bad-carried held prefix left ahead start split begins bad =
    subst IsBad (ap (λ (bs : List ℕ). bs ++ left) begins ∙ append_assoc held prefix left ∙ ap (λ (bs : List ℕ). held ++ bs) split) (bad-stays start left bad)

-- a body behind a length of its own is a frame
pub frame_is : (held : List ℕ) (f : Frame) → IsBytes held → 4 ≤ length held → length held ≡ 4 + said held → drop 4 held ≡ body_bytes f → held ≡ frame_bytes f
unfolding frame_bytes sized_bytes u32_bytes
frame_is held f fits there whole is =
    let size : said held ≡ length (body_bytes f) = omega (arith, length-drop 4 held, ap length is, whole) in
    let prefix : u32_bytes (said held) ≡ take 4 held = little_bytes-little_number 4 held fits there in
    sym (take-append-drop 4 held) ∙ ap (λ (bs : List ℕ). bs ++ drop 4 held) (sym prefix) ∙ ap (λ (bs : List ℕ). u32_bytes (said held) ++ bs) is
    ∙ ap (λ (n : ℕ). u32_bytes n ++ body_bytes f) size
