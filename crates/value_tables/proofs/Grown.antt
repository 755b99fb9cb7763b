-- Data that grow by some, and then by more.
use Rattle.std.proofs.Common.{◌≡◌, ℕ, ◌+◌, map, List, [], ◌∷◌, ◌++◌, append_assoc, refl, sym, ap, ◌∙◌}
use Rattle.std.proofs.lemmas.List.{append-nil}
use Rattle.limbo_typed.specs.Typed.{Module}
use Rattle.value_code.specs.Data.{Datum, datum_room}
use Rattle.value_code.specs.Objects.{datum_items, datum_bytes, items_from, data_references, end_of}
use Rattle.value_tables.specs.declared.store.Data.{Data}
use Rattle.value_tables.specs.Growing.{GrowsBy}

module _ (m : Module) where
  pub items_append : (at : ℕ) (ds es : List Datum) → items_from m at (ds ++ es) ≡ items_from m at ds ++ items_from m (end_of m at ds) es
  items_append at [] es = refl
  items_append at (d ∷ ds) es =
      ap (λ xs. datum_items m at d ++ xs) (items_append (at + datum_bytes m d) ds es) ∙ sym (append_assoc (datum_items m at d) _ _)

  pub references_append : (at : ℕ) (ds es : List Datum) →
      data_references m at (ds ++ es) ≡ data_references m at ds ++ data_references m (end_of m at ds) es
  references_append at [] es = refl
  references_append at (d ∷ ds) es =
      ap (λ xs. map (λ o. at + o) (datum_room m.adts d).references ++ xs) (references_append (at + datum_bytes m d) ds es)
      ∙ sym (append_assoc (map (λ o. at + o) (datum_room m.adts d).references) _ _)

  pub end_append : (at : ℕ) (ds es : List Datum) → end_of m at (ds ++ es) ≡ end_of m (end_of m at ds) es
  end_append at [] es = refl
  end_append at (d ∷ ds) es = end_append (at + datum_bytes m d) ds es

  pub grows_none : (a : Data) → GrowsBy m a a []
  grows_none a = record { items_are = sym (append-nil _); references_are = sym (append-nil _); place_is = refl; spelled = λ s. s }

  pub grows_more : (a b c : Data) (ds es : List Datum) → GrowsBy m a b ds → GrowsBy m b c es → GrowsBy m a c (ds ++ es)
  grows_more a b c ds es g h = record {
    items_are = h.items_are ∙ ap (λ p. b.items.items ++ items_from m p es) g.place_is
        ∙ ap (λ xs. xs ++ items_from m (end_of m a.place ds) es) g.items_are ∙ append_assoc a.items.items _ _
        ∙ ap (λ xs. a.items.items ++ xs) (sym (items_append a.place ds es));
    references_are = h.references_are ∙ ap (λ p. b.references.items ++ data_references m p es) g.place_is
        ∙ ap (λ xs. xs ++ data_references m (end_of m a.place ds) es) g.references_are ∙ append_assoc a.references.items _ _
        ∙ ap (λ xs. a.references.items ++ xs) (sym (references_append a.place ds es));
    place_is = h.place_is ∙ ap (λ p. end_of m p es) g.place_is ∙ sym (end_append a.place ds es);
    spelled = λ s. h.spelled (g.spelled s);
  }
