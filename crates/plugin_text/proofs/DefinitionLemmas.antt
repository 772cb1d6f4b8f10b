-- A definition, field by field.
use Rattle.std.proofs.Common.{◌≡◌, ℕ, Bool, List, ℤ, pos, refl, codes}
use Rattle.std.specs.List.{after_first}
use Rattle.history.specs.declared.chart.ChartKind.{ChartKind}
use Rattle.history.specs.declared.dimension.Algorithm.{Algorithm}
use Rattle.history.specs.Limits.{is_dot}
use Rattle.plugin_text.specs.Chart.{chart_def, chart_kind}
use Rattle.plugin_text.specs.Dimension.{dimension_def, algorithm_of, is_noreset}
use Rattle.plugin_text.specs.Fields.{field, word_or}
use Rattle.plugin_text.specs.Text.{shortened, has_option}

pub chart_def-is : (words : List (List ℕ)) (part : List ℕ) (p priority : ℤ) (every : ℕ) (id name title units family context : List ℕ) (kind : ChartKind) (store_first : Bool)
    → part ≡ after_first is_dot (field 0 words)
    → id ≡ field 0 words
    → name ≡ shortened (word_or part (field 1 words))
    → title ≡ shortened (field 2 words)
    → units ≡ shortened (field 3 words)
    → family ≡ shortened (word_or part (field 4 words))
    → context ≡ shortened (word_or (field 0 words) (field 5 words))
    → kind ≡ chart_kind (field 6 words)
    → p ≡ priority
    → store_first ≡ has_option (codes "store_first") (field 9 words)
    → record {
      id = id;
      name = name;
      title = title;
      units = units;
      family = family;
      context = context;
      kind = kind;
      priority = p;
      update_every = every;
      store_first = store_first;
    } ≡ chart_def words priority (pos every)
chart_def-is words part p priority every id name title units family context kind store_first is_part is_id is_name is_title is_units is_family is_context is_kind is_priority is_store =
    rw (is_id, is_name, is_title, is_units, is_family, is_context, is_kind, is_priority, is_store, is_part) refl

pub dimension_def-is : (words : List (List ℕ)) (m multiplier d divisor : ℤ) (id name : List ℕ) (algorithm : Algorithm) (hidden noreset : Bool)
    → id ≡ field 0 words
    → name ≡ shortened (word_or (field 0 words) (field 1 words))
    → algorithm ≡ algorithm_of (field 2 words)
    → m ≡ multiplier
    → d ≡ divisor
    → hidden ≡ has_option (codes "hidden") (field 5 words)
    → noreset ≡ is_noreset (field 5 words)
    → record {
      id = id;
      name = name;
      algorithm = algorithm;
      multiplier = m;
      divisor = d;
      hidden = hidden;
      noreset = noreset;
    } ≡ dimension_def words multiplier divisor
dimension_def-is words m multiplier d divisor id name algorithm hidden noreset is_id is_name is_algorithm is_m is_d is_hidden is_noreset =
    rw (is_id, is_name, is_algorithm, is_m, is_d, is_hidden, is_noreset) refl
