-- Parts of a function's variables, where they lie in its frame.
use Rattle.std.proofs.Common.{◌≡◌, ℕ, ◌+◌, ◌*◌, List, ◌∷◌, length, map, Some, refl, sym, ap, ◌∙◌, subst, arith, inl, inr}
use Rattle.std.specs.Prelude.{slice_get, slice_index_or}
use Rattle.std.specs.List.{range_with_len}
use Rattle.limbo_types.specs.Types as ty
use Rattle.limbo_types.specs.Types.{Ty}
use Rattle.limbo_layout.specs.Layout.{nothing}
use Rattle.limbo_layout.specs.Laying.{rooms_of}
use Rattle.limbo_layout.proofs.Rooms.{has_cases}
use Rattle.limbo_typed.specs.Typed as typed
use Rattle.limbo_kept.specs.Places.{Leads}
use Rattle.limbo_kept.specs.Trees.{WayIs}
use Rattle.limbo_meaning.specs.Values.{Value}
use Rattle.limbo_meaning.specs.Places.{part_at}
use Rattle.core_code.specs.Rooms.{rooms_in}
use Rattle.core_code.specs.Machine as code
use Rattle.dis_meaning.specs.Process.{Process}
use Rattle.dis_memory.specs.Blocks.{World}
use Rattle.value_words.specs.Facts.{Facts}
use Rattle.value_words.proofs.Blank.{mapped}
use Rattle.value_frames.specs.Frames.{linkage_bytes, spare_place, reference_place, row_of, room_for, within, type_within, variable_place}
use Rattle.value_moves.specs.Writing.{Lies}
use Rattle.value_stores.specs.Paths.{HasPath, RowLies}
use Rattle.value_stores.proofs.Parts.{parts_lie}
use Rattle.value_follows.specs.Stands.{scope, types_of, Ready}
use Rattle.limbo_meaning.specs.Places.{Local}
use Rattle.rows_places.specs.Rows.{way_from}
use Rattle.rows_places.proofs.Words.{found_there, has_path, value_there}

module _ (m : typed.Module) (k : Facts) (i : ℕ) (x : World) (p : code.Process) (q : Process) (ready : Ready m k i x p q) where
  abbrev pub function : typed.Function
  function = ready.stands.is.function

  abbrev pub types : List Ty
  types = types_of m function

  -- the variables lie in a row
  pub variables_lie : RowLies m.adts k q.frame.words linkage_bytes types p.frame.variables
  variables_lie =
      let are = ready.stands.is.words in
      let many = are.kind.many in
      record {
        laid = are.laid;
        aligned = refl;
        whole = (λ w h. let below = h.1 in omega (arith, many, below), are.kind.ranged);
        only = λ w to e h.
            let below = h.1 in
            elim (has_cases (map (λ o. linkage_bytes + o) (row_of m.adts types).references)
            (spare_place m.adts types ∷ map (λ s. reference_place m.adts types s) (range_with_len 0 (length p.frame.slots)))
            (4 * w) (are.kind.only w to e)) [
              | inl there ↦ mapped (λ o. linkage_bytes + o) (row_of m.adts types).references (4 * w) there
              | inr (inl f) ↦ absurd (omega (arith, f, below))
              | inr (inr slot) ↦
                  let a = mapped (λ s. reference_place m.adts types s) (range_with_len 0 (length p.frame.slots)) (4 * w) slot in
                  let f = a.2 in
                  absurd (omega (arith, f, below))
            ];
        stand = are.values;
      }

  module _ (v : ℕ) (part : List ℕ) where
    -- of which type the variable is, and where the part lies
    abbrev pub root : Ty
    root = slice_index_or types v ty.Nothing

    abbrev pub place : ℕ
    place = variable_place m.adts types v + within m.adts root part

    pub record PartThere (t : Ty) : Type 0 where
      pub has_type : slice_get types v ≡ Some root
      pub value : Value
      pub there : slice_get p.frame.variables v ≡ Some value
      pub path : HasPath m.adts root part
      pub ends : type_within m.adts root part ≡ t
      pub lies : Lies m.adts k q.frame.words place t (room_for m.adts t) (part_at part value)

    pub part_there : (us : List Ty) (t : Ty) → WayIs (scope m function) (way_from (Local v) part) us t → PartThere t
    part_there us t is =
        let here = found_there types v ty.Nothing is.root is.begins in
        let typed = is.begins ∙ ap (λ (u : Ty). Some u) (sym here.1) in
        let leads = subst (λ s. Leads m.adts s part is.inner) (sym here.1) is.leads in
        let path = has_path m.adts root part is.inner leads in
        let ends = path.1 ∙ is.ends in
        let are = ready.stands.is.words in
        let old = value_there m.adts k q.frame.words linkage_bytes nothing types (rooms_of (rooms_in m.adts) types) p.frame.variables v root
        are.values typed in
        let whole = parts_lie.of_row m.adts k q.frame.words linkage_bytes types p.frame.variables v root old.0 variables_lie typed old.1 in
        record {
          has_type = typed;
          value = old.0;
          there = old.1;
          path = path.0;
          ends = ends;
          lies = subst (λ u. Lies m.adts k q.frame.words place u (room_for m.adts u) (part_at part old.0)) ends
              (parts_lie.there m.adts k q.frame.words (variable_place m.adts types v) root part old.0 path.0 whole);
        }
