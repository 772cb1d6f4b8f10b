-- The law of each thing that a frame has, made of the laws of its fields.
use Rattle.std.proofs.Common.{◌≡◌, ℕ, List, ◌++◌, refl, sym, ap, ◌∙◌, append_assoc}
use Rattle.field_codec.specs.Field.{IsField}
use Rattle.field_codec.specs.Reading.{ReadOf}
use Rattle.field_codec.specs.Spelling.{u32_bytes, u64_bytes, flag_bytes, text_bytes, list_bytes}
use Rattle.field_codec.proofs.Combined.{as_field}
use Rattle.field_codec.proofs.Fields.{u32_field, u64_field, flag_field}
use Rattle.field_codec.proofs.Lists.{◌⊗◌, list_field, short_text_field}
use Rattle.replication.specs.declared.ask.Ask.{Ask}
use Rattle.replication.specs.declared.beats.Beat.{Beat}
use Rattle.replication.specs.declared.beats.SeriesWord.{SeriesWord}
use Rattle.replication.specs.declared.message.Data.{Data}
use Rattle.replication.specs.declared.names.ChartName.{ChartName}
use Rattle.replication.specs.declared.names.DimName.{DimName}
use Rattle.replication.specs.declared.names.Names.{Names}
use Rattle.replication.specs.Bytes.{chart_bytes, dimension_bytes, names_bytes, word_bytes, beat_bytes, data_fields}
use Rattle.link_frames.specs.Fields.{FitsAsk, FitsChart, FitsDimension, FitsWord, FitsBeat, FitNames, FitsMessage}
use Rattle.link_frames.specs.Frames.{ask_bytes}
use Rattle.link_frames.specs.Reading.{ask_of, read_ask, chart_of, read_chart, dimension_of, read_dimension, names_of, read_names, word_of, read_word, beat_of, read_beat, data_of, read_data}

-- the law of a spelling is that of an equal one
spelt_as : {X : Type 0} {V : X → Type 0} {s : X → List ℕ} {r : List ℕ → ReadOf X} (t : X → List ℕ) → ((x : X) → s x ≡ t x) → IsField V s r → IsField V t r
spelt_as {V = V} {s = s} {r = r} t same field = record {
  reads_back = λ x rest fits. ap (λ (bs : List ℕ). r (bs ++ rest)) (sym (same x)) ∙ field.reads_back x rest fits;
  has_spelling = field.has_spelling;
  is_spelt = λ bytes x rest fits e. field.is_spelt bytes x rest fits e ∙ ap (λ (bs : List ℕ). bs ++ rest) (same x);
  one_value = λ a b x y fits_a fits_b e.
      field.one_value a b x y fits_a fits_b (ap (λ (bs : List ℕ). bs ++ x) (same a) ∙ e ∙ ap (λ (bs : List ℕ). bs ++ y) (sym (same b)));
  one_end = λ a b x y fits_a fits_b e.
      field.one_end a b x y fits_a fits_b (ap (λ (bs : List ℕ). bs ++ x) (same a) ∙ e ∙ ap (λ (bs : List ℕ). bs ++ y) (sym (same b)));
}

pub ask_field : IsField FitsAsk ask_bytes read_ask
unfolding ask_bytes read_ask
ask_field =
    as_field _ FitsAsk _ _ ask_of (λ (ask : Ask). (ask.child, ask.last))
    (λ x fits. (record { child = fits.0; last = fits.1 }, refl))
    (λ ask fits. ((fits.child, fits.last), refl))
    (u64_field ⊗ u32_field)

chart_field : IsField FitsChart chart_bytes read_chart
unfolding chart_bytes read_chart
chart_field =
    spelt_as chart_bytes (λ c. append_assoc (text_bytes c.id) (text_bytes c.context) (u32_bytes c.update_every))
    (as_field _ FitsChart _ _ chart_of (λ (c : ChartName). ((c.id, c.context), c.update_every))
    (λ x fits. (record { id = fits.0.0; context = fits.0.1; update_every = fits.1 }, refl))
    (λ c fits. (((fits.id, fits.context), fits.update_every), refl))
    (short_text_field ⊗ short_text_field ⊗ u32_field))

dimension_field : IsField FitsDimension dimension_bytes read_dimension
unfolding dimension_bytes read_dimension
dimension_field =
    spelt_as dimension_bytes (λ d. append_assoc (u32_bytes d.chart) (text_bytes d.id) (flag_bytes d.hidden))
    (as_field _ FitsDimension _ _ dimension_of (λ (d : DimName). ((d.chart, d.id), d.hidden))
    (λ x fits. (record { chart = fits.0.0; id = fits.0.1 }, refl))
    (λ d fits. (((fits.chart, fits.id), tt), refl))
    (u32_field ⊗ short_text_field ⊗ flag_field))

names_field : IsField FitNames names_bytes read_names
unfolding names_bytes read_names
names_field =
    as_field _ FitNames _ _ names_of (λ (names : Names). (names.charts, names.dimensions))
    (λ x fits. (record { charts = fits.0; dimensions = fits.1 }, refl))
    (λ names fits. ((fits.charts, fits.dimensions), refl))
    (list_field chart_field ⊗ list_field dimension_field)

word_field : IsField FitsWord word_bytes read_word
unfolding word_bytes read_word
word_field =
    as_field _ FitsWord _ _ word_of (λ (w : SeriesWord). (w.series, w.word))
    (λ x fits. (record { series = fits.0; word = fits.1 }, refl))
    (λ w fits. ((fits.series, fits.word), refl))
    (u32_field ⊗ u32_field)

beat_field : IsField FitsBeat beat_bytes read_beat
unfolding beat_bytes read_beat
beat_field =
    as_field _ FitsBeat _ _ beat_of (λ (b : Beat). (b.moment, b.words))
    (λ x fits. (record { moment = fits.0; words = fits.1 }, refl))
    (λ b fits. ((fits.moment, fits.words), refl))
    (u32_field ⊗ list_field word_field)

-- seven lists of bytes, one behind the other
seven : (a b c d e f g : List ℕ) → ((((((a ++ b) ++ c) ++ d) ++ e) ++ f) ++ g) ≡ a ++ (b ++ (c ++ (d ++ (e ++ (f ++ g)))))
seven a b c d e f g =
    append_assoc ((((a ++ b) ++ c) ++ d) ++ e) f g ∙ append_assoc (((a ++ b) ++ c) ++ d) e (f ++ g) ∙ append_assoc ((a ++ b) ++ c) d (e ++ (f ++ g))
    ∙ append_assoc (a ++ b) c (d ++ (e ++ (f ++ g))) ∙ append_assoc a b (c ++ (d ++ (e ++ (f ++ g))))

pub data_field : IsField FitsMessage data_fields read_data
unfolding data_fields read_data
data_field =
    spelt_as data_fields (λ m. seven (u64_bytes m.child) (u32_bytes m.prev) (u32_bytes m.from) (u32_bytes m.upto) (u32_bytes m.floor) (names_bytes m.names) (list_bytes beat_bytes m.beats))
    (as_field _ FitsMessage _ _ data_of (λ (m : Data). ((((((m.child, m.prev), m.from), m.upto), m.floor), m.names), m.beats))
    (λ x fits. (record { child = fits.0.0.0.0.0.0; prev = fits.0.0.0.0.0.1; from = fits.0.0.0.0.1; upto = fits.0.0.0.1; floor = fits.0.0.1; names = fits.0.1; beats = fits.1 }, refl))
    (λ m fits. (((((((fits.child, fits.prev), fits.from), fits.upto), fits.floor), fits.names), fits.beats), refl))
    (u64_field ⊗ u32_field ⊗ u32_field ⊗ u32_field ⊗ u32_field ⊗ names_field ⊗ list_field beat_field))
