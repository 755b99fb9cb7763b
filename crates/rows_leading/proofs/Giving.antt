-- Rows that give a value to a slot.
use Rattle.std.proofs.Common.{◌≡◌, ℕ, Bool, true, false, List, [], ◌∷◌, Some, inl, inr, refl, arith}
use Rattle.std.specs.Prelude.{slice_get}
use Rattle.limbo_types.specs.Types.{Ty}
use Rattle.limbo_values.specs.declared.number.Kind.{Kind}
use Rattle.limbo_values.specs.declared.number.Kind.TheVariants as kind
use Rattle.limbo_typed.specs.Typed as typed
use Rattle.limbo_typed.specs.declared.operation.Operation.{Operation}
use Rattle.limbo_typed.specs.declared.operation.Operation.TheVariants as operation
use Rattle.limbo_typed.specs.declared.operation.Sequence.TheVariants as sequence
use Rattle.limbo_typed.specs.declared.stmt.Constant.{Constant}
use Rattle.limbo_typed.specs.declared.stmt.Constant.TheVariants as constant
use Rattle.limbo_meaning.specs.Operations.{item_of}
use Rattle.limbo_meaning.specs.Places.{Root, Local, Global, Element, Target}
use Rattle.limbo_meaning.specs.Trees.{Work, Literal, Nil, Operate, Read, NewChannel}
use Rattle.core_code.specs.Code as core
use Rattle.core_code.specs.Code.{Instr}
use Rattle.core_code.specs.Machine as code
use Rattle.core_typing.specs.Needs.{Finds}
use Rattle.core_typing.specs.Going.{Agrees}
use Rattle.dis_meaning.specs.Process.{Process}
use Rattle.dis_memory.specs.Blocks.{World}
use Rattle.value_words.specs.Facts.{Facts}
use Rattle.value_code.specs.Operands.{first_slot}
use Rattle.value_code.specs.Objects.{of_function}
use Rattle.value_follows.specs.Stands.{scope}
use Rattle.value_follows.specs.Sides.{sides}
use Rattle.value_follows.specs.Rows.{RowGoes}
use Rattle.value_follows.proofs.Arithmetic.{arithmetic_goes}
use Rattle.value_follows.proofs.Comparing.{compares_go, denials_go}
use Rattle.value_follows.proofs.Converting.{converts_go}
use Rattle.value_follows.proofs.Literals.{literals_go}
use Rattle.value_follows.proofs.Shifting.{shifts_go}
use Rattle.value_follows.proofs.Texts.{texts_go}
use Rattle.value_bases.proofs.Bases.{bases_hold}
use Rattle.rows_moving.proofs.Globals.{globals_go}
use Rattle.rows_moving.proofs.References.{nils_go}
use Rattle.rows_moving.proofs.Reading.{reads_go}
use Rattle.rows_texts.proofs.BytesTexts.{bytes_texts_go}
use Rattle.rows_texts.proofs.Characters.{characters_go}
use Rattle.rows_texts.proofs.Joining.{joins_go}
use Rattle.rows_texts.proofs.Lengths as texts
use Rattle.rows_texts.proofs.NumberTexts.{number_texts_go}
use Rattle.rows_texts.proofs.Readings.{readings_go}
use Rattle.rows_texts.proofs.Slicing as texts_part
use Rattle.rows_texts.proofs.TextBytes.{text_bytes_go}
use Rattle.rows_texts.proofs.Comparing.{text_compares_go}
use Rattle.rows_lists.proofs.Arrays.{arrays_go}
use Rattle.rows_lists.proofs.Channels.{channels_go}
use Rattle.rows_lists.proofs.Linking.{conses_go}
use Rattle.rows_lists.proofs.Lengths.{counts_go, lengths_go}
use Rattle.rows_lists.proofs.Identical.{identicals_go, distincts_go, known_comparable}
use Rattle.rows_lists.proofs.Lists.{heads_go, tails_go}
use Rattle.rows_lists.proofs.Slices.{slices_go}
use Rattle.rows_lists.proofs.Tags.{tags_go}
use Rattle.rows_boxes.proofs.Singles.{alters_go}
use Rattle.rows_boxes.proofs.BigWorks.{big_alters_go, big_converts_go, big_shifts_go}
use Rattle.rows_boxes.proofs.BigRows.{big_arithmetic_goes, big_literals_go}
use Rattle.rows_boxes.proofs.Compares.{big_compares_go}
use Rattle.rows_boxes.proofs.Texts.{big_numbers_read_go}
use Rattle.rows_boxes.proofs.BigTexts.{big_texts_go}
use Rattle.rows_boxes.proofs.Shortening.{bigs_shorten_go}
use Rattle.rows_boxes.proofs.Globals.{box_globals_go}
use Rattle.rows_boxes.proofs.HeadRows.{box_heads_go}
use Rattle.rows_boxes.proofs.Variables.{box_reads_go}
use Rattle.rows_places.proofs.BoxElements.{box_elements_go}
use Rattle.rows_making.proofs.BoxConses.{box_conses_go}
use Rattle.rows_making.proofs.NoItems.{no_items_go}
use Rattle.rows_making.proofs.Refs.{refs_go}
use Rattle.rows_making.proofs.Same.{same_converts_go}
use Rattle.rows_places.proofs.BoxTargets.{box_targets_go}
use Rattle.rows_places.proofs.CharacterReads as places
use Rattle.rows_places.proofs.ElementReads.{elements_go}
use Rattle.rows_places.proofs.Targets.{targets_go}
use Rattle.rows_leading.specs.Leading.{IsStored, WorkFits}
use Rattle.rows_leading.proofs.Deciding.{is_big, Stored, number, reference, box, stored, nil_refers}

module _ (m : typed.Module) (k : Facts) (i : ℕ) (x : World)
    (p : code.Process) (q : Process) (ready : (sides m).ready k i x p q) where
  abbrev pub Here : Instr → Type 0
  Here instr = slice_get p.frame.code p.frame.pc ≡ Some instr

  abbrev pub Found : Instr → Type 0
  Found instr = Finds (scope m ready.0.stands.is.function) ready.0.stands.is.function.of.answer ready.0.stands.is.known instr

  abbrev pub Agreed : Instr → Type 0
  Agreed instr =
      Agrees (scope m ready.0.stands.is.function) ready.0.stands.is.function.of.answer (of_function m ready.0.stands.is.function).code
      p.frame.pc ready.0.stands.is.known instr

  abbrev pub Row : Type 0
  Row = RowGoes m k i x p q

  module _ (t : Ty) (into : ℕ) (from : List ℕ) where
    abbrev pub Given : Work → Instr
    Given o = core.Give t o into from

    -- ---- constants

    literal : (c : Constant) → Here (Given (Literal c)) → Row
    literal (constant.Chars cs) here = texts_go m (bases_hold m) t cs into from k i x p q ready here
    literal (constant.Number z) here = elim (is_big t) [
      | inl e ↦ big_literals_go m (bases_hold m) t z into from e k i x p q ready here
      | inr n ↦ literals_go m (bases_hold m) t z into from n k i x p q ready here
    ]

    -- ---- places that are read

    by_place : (root : Root) (part : List ℕ) → IsStored m t → Stored t
        → Here (Given (Read (record { root = root; parts = part; character = false }))) → Row
    by_place (Local v) part fits (number e) here = reads_go m (bases_hold m) t v part into from (inl e) k i x p q ready here
    by_place (Local v) part fits (reference e) here = reads_go m (bases_hold m) t v part into from (inr e) k i x p q ready here
    by_place (Local v) part fits (box e) here = box_reads_go m (bases_hold m) t v part into from e fits.1 k i x p q ready here
    by_place (Global v) part fits (number e) here = globals_go m (bases_hold m) t v part into from (inl e) k i x p q ready here
    by_place (Global v) part fits (reference e) here = globals_go m (bases_hold m) t v part into from (inr e) k i x p q ready here
    by_place (Global v) part fits (box e) here = box_globals_go m (bases_hold m) t v part into from e fits.1 k i x p q ready here
    by_place Element part fits (number e) here =
        elements_go m (bases_hold m) t part into from (inl e) k i x p q ready here
    by_place Element part fits (reference e) here =
        elements_go m (bases_hold m) t part into from (inr e) k i x p q ready here
    by_place Element part fits (box e) here = box_elements_go m (bases_hold m) t part into from (e, fits.1) k i x p q ready here
    by_place Target part fits (number e) here = targets_go m (bases_hold m) t part into from (inl e) k i x p q ready here
    by_place Target part fits (reference e) here = targets_go m (bases_hold m) t part into from (inr e) k i x p q ready here
    by_place Target part fits (box e) here =
        box_targets_go m (bases_hold m) t part into from e fits.1 k i x p q ready here

    read : (root : Root) (part : List ℕ) (character : Bool) → IsStored m t
        → Here (Given (Read (record { root = root; parts = part; character = character }))) → Row
    read root part true fits here =
        places.characters_go m (bases_hold m) t root part into from k i x p q ready here
    read root part false fits here = by_place root part fits (stored m t fits) here

    -- ---- operations

    shifts : (h : Rattle.limbo_values.specs.declared.operator.Shift.Shift) (j : Kind) → Here (Given (Operate (operation.Shift h j))) → Row
    shifts h kind.Byte here = shifts_go m (bases_hold m) t h kind.Byte into from (λ e. cc) k i x p q ready here
    shifts h kind.Int here = shifts_go m (bases_hold m) t h kind.Int into from (λ e. cc) k i x p q ready here
    shifts h kind.Big here = big_shifts_go m (bases_hold m) t h into from k i x p q ready here

    converts : (j l : Kind) → Here (Given (Operate (operation.Convert j l))) → Row
    converts kind.Big kind.Byte here = bigs_shorten_go m (bases_hold m) t kind.Byte into from (λ e. cc) k i x p q ready here
    converts kind.Big kind.Int here = bigs_shorten_go m (bases_hold m) t kind.Int into from (λ e. cc) k i x p q ready here
    converts j kind.Big here = big_converts_go m (bases_hold m) t j into from k i x p q ready here
    converts kind.Byte kind.Byte here = same_converts_go m (bases_hold m) t kind.Byte into from (λ e. cc) k i x p q ready here
    converts kind.Int kind.Int here = same_converts_go m (bases_hold m) t kind.Int into from (λ e. cc) k i x p q ready here
    converts kind.Byte kind.Int here =
        converts_go m (bases_hold m) t kind.Byte kind.Int into from (λ e. cc) (λ e. cc) (λ e. cc) k i x p q ready here
    converts kind.Int kind.Byte here =
        converts_go m (bases_hold m) t kind.Int kind.Byte into from (λ e. cc) (λ e. cc) (λ e. cc) k i x p q ready here

    heads : IsStored m t → Stored t → Here (Given (Operate operation.Head)) → Row
    heads fits (number e) here = heads_go m (bases_hold m) t into from (inl e) k i x p q ready here
    heads fits (reference e) here = heads_go m (bases_hold m) t into from (inr e) k i x p q ready here
    heads fits (box e) here = box_heads_go m (bases_hold m) t into from e fits.1 k i x p q ready here

    -- the slot of the item isn't that of the list
    apart : Found (Given (Operate operation.Cons)) → first_slot from ≡ into → ⊥
    apart found e = two_operands from found.0 found.1 found.2.0 found.4 e
      where
        two_operands : (from : List ℕ) (us : List Ty) → Rattle.core_typing.specs.Needs.AreThese ready.0.stands.is.known from us
            → Rattle.limbo_typed.specs.Fitting.PutsBefore us t → Rattle.core_typing.specs.Needs.Below into from → first_slot from ≡ into → ⊥
        two_operands [] [] these puts below e = absurd puts
        two_operands [] (u ∷ us) these puts below e = absurd these
        two_operands (s ∷ ss) us these puts below e = omega (arith, below.0, e)

    conses : IsStored m (item_of t) → Stored (item_of t) → Found (Given (Operate operation.Cons))
        → Here (Given (Operate operation.Cons)) → Row
    conses fits (number e) found here = conses_go m (bases_hold m) t into from (inl e) (apart found) k i x p q ready here
    conses fits (reference e) found here = conses_go m (bases_hold m) t into from (inr e) (apart found) k i x p q ready here
    conses fits (box e) found here = box_conses_go m (bases_hold m) t into from e fits.1 k i x p q ready here

    operated : (o : Operation) → Found (Given (Operate o)) → Agreed (Given (Operate o)) → WorkFits m t (Operate o) → Here (Given (Operate o))
        → Row
    operated (operation.Arithmetic o kind.Byte) found agreed fits here =
        arithmetic_goes m (bases_hold m) t o kind.Byte into from (λ e. cc) k i x p q ready here
    operated (operation.Arithmetic o kind.Int) found agreed fits here =
        arithmetic_goes m (bases_hold m) t o kind.Int into from (λ e. cc) k i x p q ready here
    operated (operation.Arithmetic o kind.Big) found agreed fits here =
        big_arithmetic_goes m (bases_hold m) t o into from k i x p q ready here
    operated (operation.Shift h j) found agreed fits here = shifts h j here
    operated (operation.Alter u kind.Byte) found agreed fits here =
        alters_go m (bases_hold m) t u kind.Byte into from (λ e. cc) k i x p q ready here
    operated (operation.Alter u kind.Int) found agreed fits here =
        alters_go m (bases_hold m) t u kind.Int into from (λ e. cc) k i x p q ready here
    operated (operation.Alter u kind.Big) found agreed fits here = big_alters_go m (bases_hold m) t u into from k i x p q ready here
    operated (operation.Compare c kind.Byte) found agreed fits here =
        compares_go m (bases_hold m) t c kind.Byte into from (λ e. cc) k i x p q ready here
    operated (operation.Compare c kind.Int) found agreed fits here =
        compares_go m (bases_hold m) t c kind.Int into from (λ e. cc) k i x p q ready here
    operated (operation.Compare c kind.Big) found agreed fits here = big_compares_go m (bases_hold m) t c into from k i x p q ready here
    operated (operation.CompareChars c) found agreed fits here = text_compares_go m (bases_hold m) t c into from k i x p q ready here
    operated operation.Identical found agreed fits here =
        identicals_go m (bases_hold m) t into from k i x p q ready here
        (known_comparable m operation.Identical (inl refl) t into from k i x p q ready.0 here agreed.1)
    operated operation.Distinct found agreed fits here =
        distincts_go m (bases_hold m) t into from k i x p q ready here
        (known_comparable m operation.Distinct (inr refl) t into from k i x p q ready.0 here agreed.1)
    operated operation.Not found agreed fits here = denials_go m (bases_hold m) t into from k i x p q ready here
    operated (operation.Convert j l) found agreed fits here = converts j l here
    operated (operation.ReadNumber kind.Byte) found agreed fits here =
        readings_go m (bases_hold m) t kind.Byte into from (λ e. cc) k i x p q ready here
    operated (operation.ReadNumber kind.Int) found agreed fits here =
        readings_go m (bases_hold m) t kind.Int into from (λ e. cc) k i x p q ready here
    operated (operation.ReadNumber kind.Big) found agreed fits here = big_numbers_read_go m (bases_hold m) t into from k i x p q ready here
    operated (operation.NumberText kind.Byte) found agreed fits here =
        number_texts_go m (bases_hold m) t kind.Byte into from (λ e. cc) k i x p q ready here
    operated (operation.NumberText kind.Int) found agreed fits here =
        number_texts_go m (bases_hold m) t kind.Int into from (λ e. cc) k i x p q ready here
    operated (operation.NumberText kind.Big) found agreed fits here = big_texts_go m (bases_hold m) t into from k i x p q ready here
    operated operation.BytesText found agreed fits here = bytes_texts_go m (bases_hold m) t into from k i x p q ready here
    operated operation.TextBytes found agreed fits here = text_bytes_go m (bases_hold m) t into from k i x p q ready here
    operated operation.Join found agreed fits here = joins_go m (bases_hold m) t into from k i x p q ready here
    operated operation.Cons found agreed fits here = conses fits.1 (stored m (item_of t) fits.1) found here
    operated operation.Head found agreed fits here = heads fits.0 (stored m t fits.0) here
    operated operation.Tail found agreed fits here = tails_go m (bases_hold m) t into from k i x p q ready here
    operated (operation.Length sequence.Chars) found agreed fits here = texts.lengths_go m (bases_hold m) t into from k i x p q ready here
    operated (operation.Length sequence.Array) found agreed fits here = lengths_go m (bases_hold m) t into from k i x p q ready here
    operated (operation.Length sequence.List) found agreed fits here = counts_go m (bases_hold m) t into from k i x p q ready here
    operated operation.Tag found agreed fits here = tags_go m (bases_hold m) t into from k i x p q ready here
    operated operation.Ref found agreed fits here = refs_go m (bases_hold m) t into from fits.1 k i x p q ready here
    operated operation.NewArray found agreed fits here = arrays_go m (bases_hold m) t into from k i x p q ready here
    operated (operation.Slice sequence.Chars lo hi) found agreed fits here =
        texts_part.slices_go m (bases_hold m) t lo hi into from k i x p q ready here
    operated (operation.Slice sequence.Array lo hi) found agreed fits here =
        slices_go m (bases_hold m) t lo hi into from k i x p q ready here
    operated (operation.Slice sequence.List lo hi) found agreed fits here = absurd found.2.0.0
    operated operation.Character found agreed fits here = characters_go m (bases_hold m) t into from k i x p q ready here
    operated operation.List found agreed fits here = no_items_go m (bases_hold m) t into from k i x p q ready here
    operated o found agreed fits here = absurd (let e : true ≡ false = agreed.0 in cc)

    pub given : (o : Work) → Found (Given o) → Agreed (Given o) → WorkFits m t o → Here (Given o) → Row
    given (Literal c) found agreed fits here = literal c here
    given Nil found agreed fits here =
        nils_go m (bases_hold m) t into from (nil_refers t found.2.0) k i x p q ready here
    given (Read w) found agreed fits here = read w.root w.parts w.character fits here
    given (Operate o) found agreed fits here = operated o found agreed fits here
    given NewChannel found agreed fits here = channels_go m (bases_hold m) t into from k i x p q ready here
    given o found agreed fits here = absurd agreed
