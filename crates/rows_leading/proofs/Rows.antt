-- The row of each instruction leads on.
use Rattle.std.proofs.Common.{◌≡◌, ℕ, zero, suc, ◌≤◌, List, Option, None, Some, inl, inr, refl, sym, subst, ◌∙◌}
use Rattle.std.specs.Prelude.{slice_get}
use Rattle.limbo_types.specs.Types as ty
use Rattle.limbo_types.specs.Types.{Ty}
use Rattle.limbo_layout.specs.Layout.{limit}
use Rattle.limbo_typed.specs.Typed as typed
use Rattle.limbo_typed.specs.declared.print.Piece.{Piece}
use Rattle.limbo_meaning.specs.Trees.{Work, Operate}
use Rattle.core_code.specs.Code as core
use Rattle.core_code.specs.Code.{Instr}
use Rattle.core_code.specs.Machine as code
use Rattle.core_typing.specs.Held.{type_held, slot}
use Rattle.core_typing.specs.Needs.{Finds, StandsAs}
use Rattle.core_typing.specs.Going.{Agrees}
use Rattle.dis_meaning.specs.Process.{Process}
use Rattle.dis_memory.specs.Blocks.{World}
use Rattle.value_words.specs.Facts.{Facts}
use Rattle.value_frames.specs.Frames.{Form, Nowhere, AsNumber, AsReference, Boxed, form_of, room_for}
use Rattle.value_code.specs.Objects.{of_function, told_at, or_nothing}
use Rattle.value_follows.specs.Stands.{scope}
use Rattle.value_follows.specs.Sides.{sides}
use Rattle.value_follows.specs.Rows.{RowGoes}
use Rattle.value_follows.proofs.Jumps.{jumps_go, backs_go, unless_goes, mirrors_go}
use Rattle.value_follows.proofs.References.{known_goes}
use Rattle.value_follows.proofs.Standing.{same_some}
use Rattle.value_follows.proofs.Truths.{truths_go}
use Rattle.value_bases.proofs.Bases.{bases_hold}
use Rattle.rows_boxes.specs.Differing.{Apart}
use Rattle.rows_boxes.proofs.Differing.{slots_differ}
use Rattle.rows_dropping.proofs.Drops.{drops_go}
use Rattle.rows_dropping.proofs.Parting.{picks_go}
use Rattle.rows_ending.proofs.Endings.{nothing_returns}
use Rattle.rows_ending.proofs.Nils.{nil_returns}
use Rattle.rows_ending.proofs.Numbers.{number_returns}
use Rattle.rows_answers.proofs.BoxReturns.{box_returns}
use Rattle.rows_answers.proofs.References.{reference_returns}
use Rattle.rows_answers.proofs.Skipping.{skips_go}
use Rattle.rows_answers.proofs.Starting.{starts_go}
use Rattle.rows_answers.proofs.ZeroReturns.{zero_returns}
use Rattle.rows_forming.specs.Rows.{IsNoNilArray, part_of}
use Rattle.rows_forming.proofs.Putting.{part_type}
use Rattle.rows_forming.proofs.NoOperands.{empty_gathers_go}
use Rattle.rows_forming.proofs.Tagging.{first_places_go}
use Rattle.rows_forming.proofs.Gathers.{gathers_go}
use Rattle.rows_forming.proofs.Opening.{later_places_go}
use Rattle.rows_calling.specs.Rows.{FunctionsBegin}
use Rattle.rows_calling.proofs.Boxed.{boxed_calls_go}
use Rattle.rows_calling.proofs.Plain.{plain_calls_go}
use Rattle.rows_passing.specs.Rows.{ParametersPass}
use Rattle.rows_copying.proofs.Rows.{copy_intos_go}
use Rattle.rows_turning.proofs.Nexts.{nexts_go}
use Rattle.rows_chaining.proofs.Takes.{takes_go}
use Rattle.rows_chaining.proofs.Keeping.{keeps_go}
use Rattle.rows_leading.proofs.Bare.{bare}
use Rattle.rows_printing.proofs.Plain.{plain_prints_go}
use Rattle.rows_printing.proofs.Operands.{prints_go}
use Rattle.rows_passing.proofs.Arguments.{arguments_go, boxed_arguments_go}
use Rattle.rows_leading.specs.Leading.{CodeFits, InstrFits}
use Rattle.rows_leading.proofs.Deciding.{is_boxed}
use Rattle.rows_leading.proofs.Giving.{given}
use Rattle.rows_leading.proofs.Storing.{written, element, other, cell}

module _ (m : typed.Module) (begins : FunctionsBegin m) (pass : ParametersPass m) (fit : CodeFits m)
    (k : Facts) (i : ℕ) (x : World) (p : code.Process) (q : Process) (ready : (sides m).ready k i x p q) where
  abbrev pub f : typed.Function
  f = ready.0.stands.is.function

  abbrev pub Row : Type 0
  Row = RowGoes m k i x p q

  -- What is so of an instruction that the process is at.
  pub record Facing (instr : Instr) : Type 0 where
    pub here : slice_get p.frame.code p.frame.pc ≡ Some instr
    pub in_code : slice_get (of_function m f).code p.frame.pc ≡ Some instr
    pub found : Finds (scope m f) f.of.answer ready.0.stands.is.known instr
    pub agreed : Agrees (scope m f) f.of.answer (of_function m f).code p.frame.pc ready.0.stands.is.known instr
    pub fits : InstrFits m (told_at m f.of.answer (of_function m f) p.frame.pc) f.of.answer instr
    pub apart : Apart instr

  same_answer : p.frame.answer ≡ f.of.answer
  same_answer = ready.0.stands.is.answer

  -- ---- returns

  by_form : (form : Form) → form_of p.frame.answer ≡ form → (room_for m.adts p.frame.answer).size ≤ limit → (from : Option ℕ)
      → slice_get p.frame.code p.frame.pc ≡ Some (core.Return from) → Row
  by_form Nowhere e fits from here = nothing_returns m (bases_hold m) from k i x p q ready e here
  by_form AsNumber e fits from here = number_returns m (bases_hold m) from k i x p q ready e here
  by_form AsReference e fits None here = nil_returns m (bases_hold m) k i x p q ready e here
  by_form AsReference e fits (Some r) here = reference_returns m (bases_hold m) r k i x p q ready e here
  by_form Boxed e fits None here = zero_returns m (bases_hold m) k i x p q ready e fits here
  by_form Boxed e fits (Some r) here = box_returns m (bases_hold m) r k i x p q ready e fits here

  returned : (from : Option ℕ) → Facing (core.Return from) → Row
  returned from c =
      by_form (form_of p.frame.answer) refl (subst (λ t. (room_for m.adts t).size ≤ limit) (sym same_answer) c.fits) from c.here

  -- ---- values that are put together

  no_nil : (u w : Ty) → StandsAs u w → IsNoNilArray u w
  no_nil ty.Nil (ty.ArrayOf w) (inl (inl e)) = cc
  no_nil ty.Nil (ty.ArrayOf w) (inl (inr h)) = absurd h
  no_nil ty.Nil (ty.ArrayOf w) (inr s) = s.1
  no_nil u w s = tt

  no_nil_array : (t : Ty) (v : Option ℕ) (j part into from : ℕ)
      → Finds (scope m f) f.of.answer ready.0.stands.is.known (core.Place t v j part into from) → (u : Ty)
      → type_held (slot ready.0.stands.is.known from) ≡ Some u → IsNoNilArray u (part_of m t part)
  no_nil_array t v j part into from found u e =
      let w = found.3.0 in
      let same : found.0 ≡ u = same_some found.0 u (sym found.1 ∙ e) in
      subst (IsNoNilArray u) (sym (part_type m.adts t part w ty.Nothing found.3.1).1)
      (no_nil u w (subst (λ (y : Ty). StandsAs y w) same found.3.2))

  placed : (t : Ty) (v : Option ℕ) (j part into from : ℕ) → Facing (core.Place t v j part into from) → Row
  placed t v zero part into from c =
      first_places_go m (bases_hold m) t v part into from c.agreed.2 c.fits k i x p q ready c.here (c.agreed.1, no_nil_array t v 0 part into from c.found)
  placed t v (suc j) part into from c =
      later_places_go m (bases_hold m) t v j part into from c.fits k i x p q ready c.here (c.agreed.0, no_nil_array t v (suc j) part into from c.found)

  gathered : (t : Ty) (o : Work) (into n : ℕ) → Facing (core.Gather t o into n) → Row
  gathered t (Operate o) into zero c =
      empty_gathers_go m (bases_hold m) t o into c.agreed.0 c.agreed.2 k i x p q ready c.here c.agreed.1
  gathered t (Operate o) into (suc n) c = gathers_go m (bases_hold m) t o into n c.agreed.0 k i x p q ready c.here
  gathered t o into n c = absurd c.agreed.0

  -- ---- calls

  called : (t : Ty) (function into : ℕ) (o : Option ℕ) → Facing (core.Call t function into o) → Row
  called t g into None c = elim (is_boxed t) [
    | inl e ↦ boxed_calls_go m (bases_hold m) begins t g into e (c.fits e) k i x p q ready c.here
    | inr n ↦ plain_calls_go m (bases_hold m) begins t g into n k i x p q ready c.here
  ]
  called t g into (Some a) c = elim (is_boxed t) [
    | inl e ↦ boxed_arguments_go m (bases_hold m) begins pass t g into a e (c.fits e) k i x p q ready c.here
    | inr n ↦ arguments_go m (bases_hold m) begins pass t g into a n k i x p q ready c.here
  ]

  printed : (ps : List Piece) (into : ℕ) (o : Option ℕ) → Facing (core.Print ps into o) → Row
  printed ps into None c = plain_prints_go m (bases_hold m) ps into k i x p q ready c.here
  printed ps into (Some a) c = prints_go m (bases_hold m) ps into a c.fits.0 c.fits.1 k i x p q ready c.here

  -- ---- a part that is taken out

  picked : (t : Ty) (part into from : ℕ) → Facing (core.Pick t part into from) → Row
  picked t part into from c =
      picks_go m (bases_hold m) t part into from c.apart k i x p q ready
      (λ u e. subst (λ (o : Option Ty). (room_for m.adts (or_nothing o)).size ≤ limit) (c.agreed.2 ∙ sym c.agreed.1 ∙ e) c.fits) c.here

  pub rows : (instr : Instr) → Facing instr → Row
  rows (core.Give t o into from) c =
      given m k i x p q ready t into from o c.found c.agreed c.fits c.here
  rows (core.Place t v j part into from) c = placed t v j part into from c
  rows (core.Gather t o into n) c = gathered t o into n c
  rows (core.Pick t part into from) c = picked t part into from c
  rows (core.Known v into) c = known_goes m (bases_hold m) v into k i x p q ready c.here
  rows (core.Write t w operands part from) c = written m k i x p q ready t c.fits operands part from w c.here
  rows (core.CopyInto array start from) c = copy_intos_go m (bases_hold m) array start from k i x p q ready c.here
  rows (core.Cell t into item back) c = cell m k i x p q ready t c.fits into item back c.found.4 c.here
  rows (core.Call t g into o) c = called t g into o c
  rows (core.Print ps into o) c = printed ps into o c
  rows (core.Skip connective into decision from passes) c =
      skips_go m (bases_hold m) connective into decision from passes k i x p q ready c.here
  rows (core.Truth into from) c = truths_go m (bases_hold m) into from k i x p q ready c.here
  rows (core.Element t array index from) c = element m k i x p q ready t c.fits array index from c.here
  rows (core.Start loop) c = starts_go m (bases_hold m) loop k i x p q ready c.here
  rows (core.Next array loop named passes) c = nexts_go m (bases_hold m) array loop named passes k i x p q ready c.here
  rows (core.Other t array loop from) c = other m k i x p q ready t c.fits array loop from c.here
  rows (core.Keep loop from words) c = keeps_go m (bases_hold m) loop from words k i x p q ready c.here (bare m k i x p q ready.0 loop from words c.in_code c.agreed.1)
  rows (core.Take loop from words passes) c = takes_go m (bases_hold m) loop from words passes k i x p q ready c.here
  rows (core.Drop r n) c = drops_go m (bases_hold m) r n k i x p q ready c.here
  rows (core.Mirror d passes) c = mirrors_go m (bases_hold m) d passes k i x p q ready c.here
  rows (core.Unless condition passes) c = unless_goes m (bases_hold m) condition passes k i x p q ready c.here
  rows (core.Jump passes) c = jumps_go m (bases_hold m) passes k i x p q ready c.here
  rows (core.Back steps) c = backs_go m (bases_hold m) steps k i x p q ready c.here
  rows (core.Return from) c = returned from c

  pub leads : Row
  leads =
      let g = ready.0.stands.goes 1 in
      let code_is = ready.0.stands.is.code in
      rows g.0 (record {
        here = subst (λ (c : List Instr). slice_get c p.frame.pc ≡ Some g.0) (sym code_is) g.1;
        in_code = g.1;
        found = g.2;
        agreed = g.3;
        fits = fit ready.0.stands.is.number f p.frame.pc g.0 ready.0.stands.is.there g.1;
        apart = slots_differ m f p.frame.pc g.0 g.1;
      })
