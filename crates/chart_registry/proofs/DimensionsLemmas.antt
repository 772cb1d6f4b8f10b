-- What an edit of the kept dimensions leaves of their marks and definitions.
use Rattle.std.proofs.Common.{◌≡◌, ℕ, zero, suc, List, [], ◌∷◌, set, get_or, slice_get, Option, Some, sym, ap, ◌∙◌}
use Rattle.std.specs.Option.{option_map, option_map_or}
use Rattle.std.proofs.lemmas.List.{map-set}
use Rattle.std.proofs.lemmas.Option.{same_Some, none-some, slice_get-map}
use Rattle.history.specs.declared.beat.OpenDim.{OpenDim}
use Rattle.history.specs.declared.dimension.DimDef.{DimDef}
use Rattle.chart_registry.specs.declared.dimensions.Dimension.{Dimension}
use Rattle.chart_registry.specs.Rows.{Mark, mark_of, marks, open_dims, redefined}
use Rattle.chart_registry.proofs.Places.{map-set_kept}

pub at_mark : (dimensions : List Dimension) (n : ℕ) (id : List ℕ) (old : Dimension) → option_map (λ (mark : Mark). mark.id) (slice_get (marks dimensions) n) ≡ Some id → old ≡ get_or dimensions n old
    → (slice_get dimensions n ≡ Some old) × (id ≡ old.definition.def.id)
at_mark [] n id old named at = absurd (none-some id named)
at_mark (first ∷ dimensions) zero id old named at =
    (ap Some (sym at), same_Some id old.definition.def.id (sym named ∙ ap (λ (dimension : Dimension). Some dimension.definition.def.id) (sym at)))
at_mark (first ∷ dimensions) (suc n) id old named at = at_mark dimensions n id old named at

module _ (dimensions : List Dimension) (n : ℕ) (old : Dimension) (copy def : DimDef) (copied : copy ≡ def)
    (named : option_map (λ (mark : Mark). mark.id) (slice_get (marks dimensions) n) ≡ Some def.id) (at : old ≡ get_or dimensions n old) where
  abbrev new : Dimension
  new = record { owner = old.owner; definition = record { chart = old.definition.chart; def = copy } }

  pub marks-redefined : marks (set dimensions n new) ≡ marks dimensions
  marks-redefined =
      let found = at_mark dimensions n def.id old named at in
      let same : mark_of new ≡ mark_of old = ap (λ (id : List ℕ). record { chart = old.definition.chart; id = id; owner = old.owner }) (ap (λ (def : DimDef). def.id) copied ∙ found.1) in
      map-set_kept mark_of dimensions n old new found.0 same

  pub open_dims-redefined : open_dims (set dimensions n new) ≡ redefined (open_dims dimensions) n def
  open_dims-redefined =
      let found = at_mark dimensions n def.id old named at in
      let open_at : slice_get (open_dims dimensions) n ≡ Some old.definition = slice_get-map (λ (dimension : Dimension). dimension.definition) dimensions n ∙ ap (option_map (λ (dimension : Dimension). dimension.definition)) found.0 in
      map-set (λ (dimension : Dimension). dimension.definition) dimensions n new
      ∙ ap (λ (def : DimDef). set (open_dims dimensions) n (record { chart = old.definition.chart; def = def })) copied
      ∙ sym (ap (λ (here : Option OpenDim). option_map_or (λ (old : OpenDim). set (open_dims dimensions) n (record { chart = old.chart; def = def })) here (open_dims dimensions)) open_at)
