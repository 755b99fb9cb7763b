-- Cells of lists that are written.
use Rattle.std.proofs.Common.{◌≡◌, ℕ, List, [], ◌∷◌, length, Option, Some, None, refl, ap, ◌∙◌, inl, inr}
use Rattle.std.specs.Prelude.{slice_get}
use Rattle.limbo_types.specs.Types as ty
use Rattle.limbo_types.specs.Types.{Ty}
use Rattle.limbo_layout.specs.Adts.{Def}
use Rattle.limbo_values.specs.declared.number.Kind.{Kind}
use Rattle.limbo_values.specs.declared.number.Kind.TheVariants as kind
use Rattle.limbo_typed.specs.Typed as typed
use Rattle.limbo_typed.specs.Fitting.{of_kind}
use Rattle.limbo_meaning.specs.Process.{Shared}
use Rattle.limbo_meaning.specs.Values.{Value, Num, fitted, name_of}
use Rattle.system_model.specs.Limits.{frames_limit}
use Rattle.core_code.specs.Code.{Cell}
use Rattle.core_code.specs.Machine as code
use Rattle.core_code.specs.Slots as core
use Rattle.core_code.specs.Slots.{Slot}
use Rattle.core_code.specs.Using.{IfBelow}
use Rattle.core_typing.specs.Needs.{IsAIf}
use Rattle.core_typing.specs.Going.{all_of}
use Rattle.dis_isa.specs.declared.inst.Operand as isa
use Rattle.dis_isa.specs.declared.inst.Middle.TheVariants as middle
use Rattle.dis_isa.specs.declared.op.Op.TheVariants as op
use Rattle.dis_meaning.specs.Process.{Process}
use Rattle.dis_memory.specs.Blocks.{World}
use Rattle.value_words.specs.Facts.{Facts}
use Rattle.value_frames.specs.Frames.{AsNumber, AsReference, form_of, reference_place}
use Rattle.value_moves.specs.Operands.{inst, own}
use Rattle.value_code.specs.Data.{nil_word}
use Rattle.value_code.specs.Code.{Site, code_of, behind_or_nil}
use Rattle.value_follows.specs.Stands.{types_of}
use Rattle.value_follows.specs.Sides.{sides, HoldTheSame, program}
use Rattle.value_follows.specs.Rows.{Base, InstrGoes}
use Rattle.value_follows.proofs.Slots.{number_is}
use Rattle.rows_moving.specs.Rows.{IsSimple}
use Rattle.rows_lists.specs.Rows.{CellsGo}
use Rattle.rows_lists.proofs.OnTheWay.{On, frame_is, on_ready}
use Rattle.rows_lists.proofs.Needing.{used, found}
use Rattle.rows_lists.proofs.Held.{name_is, item_is}
use Rattle.rows_lists.proofs.Lists.{one_name}
use Rattle.rows_lists.proofs.Conses.{MakesCell, cell_goes}
use Rattle.rows_lists.proofs.Linking.{ListHere, list_of_slot, no_list, list_of, number_cons, reference_cons, made_so, given_number, given_reference, whole_number}

-- where the cell behind is
abbrev back_of : Option ℕ → List Def → List Ty → isa.Operand
back_of None defs types = nil_word
back_of (Some c) defs types = list_of c defs types

-- which it is
abbrev name_behind : code.Process → Option ℕ → Option ℕ
name_behind p None = None
name_behind p (Some c) = name_of (core.value_of (core.slot p.frame.slots c))

module _ (m : typed.Module) (b : Base m) (k : Facts) (i : ℕ) (w : Shared) (x : World) (n : ℕ) (f : typed.Function) (p : code.Process) (q : Process)
    (on : On m k i x [] n f 0 p q) (hold : HoldTheSame m k i x p q) (worlds : (sides m).worlds k w x) (t : Ty) where
  -- The list behind, and its name.
  record Behind (back : Option ℕ) : Type 0 where
    name : Option ℕ
    is : name_behind p back ≡ name
    list : ListHere m b k i w x n f p q on hold worlds t (back_of back m.adts (types_of m f)) name

  behind_there : (back : Option ℕ) → IfBelow (length p.frame.slots) back → IsAIf on.known back (ty.ListOf t) → Behind back
  behind_there None below is = record { name = None; is = refl; list = no_list m b k i w x n f p q on hold worlds t }
  behind_there (Some c) below is =
      let l = name_is m k i x [] p.frame q.frame (frame_is m k i x [] n f 0 p q on) (ty.ListOf t) c tt below (λ e. e) is in
      record {
        name = l.name;
        is = ap (λ (s : Slot). name_of (core.value_of s)) l.holds;
        list = list_of_slot m b k i w x n f p q on hold worlds t c l;
      }

module _ (m : typed.Module) (b : Base m) (into a : ℕ) (back : Option ℕ)
    (does : (t : Ty) (w : Shared) (p : code.Process) → slice_get p.frame.code p.frame.pc ≡ Some (Cell t into a back)
    → (sides m).program.step w p ≡ made_so m w p into (fitted m.adts t (core.value_of (core.slot p.frame.slots a))) (name_behind p back)) where
  cell_numbers : (j : Kind) → (j ≡ kind.Big → ⊥)
      → MakesCell m (Cell (of_kind j) into a back) into (of_kind j) (back_of back) (number_cons j a into) (all_of m.adts (ty.ListOf (of_kind j)))
      → form_of (of_kind j) ≡ AsNumber → InstrGoes m (Cell (of_kind j) into a back)
  cell_numbers j small row form k i x p q ready here =
      let it = Cell (of_kind j) into a back in
      let live = all_of m.adts (ty.ListOf (of_kind j)) in
      let n = ready.0.stands.is.number in
      let f = ready.0.stands.is.function in
      let there = used m k i x [] n f 0 p q (on_ready m i p q k x ready.0) it here in
      cell_goes m b it into (of_kind j) (back_of back) (number_cons j a into) live row i p q here there.0 k x ready (λ now w y on hold worlds.
      let needs = found m now i y [] n f 0 p q on it here in
      let frame = frame_is m now i y [] n f 0 p q on in
      let z = number_is m now i y [] p.frame q.frame frame j a form there.1 (λ e. e) needs.1 in
      let l = behind_there m b now i w y n f p q on hold worlds (of_kind j) back there.2 needs.2 in (
        needs.3,
        given_number m b it into a (back_of back) live i p q here j small row now w y n f on hold worlds l.name l.list z
            (λ v. does (of_kind j) v p here
            ∙ ap (λ (s : Slot). made_so m v p into (fitted m.adts (of_kind j) (core.value_of s)) (name_behind p back)) z.holds
            ∙ ap (λ (o : Option ℕ). made_so m v p into (fitted m.adts (of_kind j) (Num z.number)) o) l.is
            ∙ ap (λ (u : Value). made_so m v p into u l.name) (whole_number m.adts j z.number z.range)),
      ))

  cell_references : (t : Ty) → form_of t ≡ AsReference → (a ≡ into → ⊥)
      → MakesCell m (Cell t into a back) into t (back_of back) (reference_cons a into) (all_of m.adts (ty.ListOf t))
      → InstrGoes m (Cell t into a back)
  cell_references t form other row k i x p q ready here =
      let it = Cell t into a back in
      let live = all_of m.adts (ty.ListOf t) in
      let n = ready.0.stands.is.number in
      let f = ready.0.stands.is.function in
      let there = used m k i x [] n f 0 p q (on_ready m i p q k x ready.0) it here in
      cell_goes m b it into t (back_of back) (reference_cons a into) live row i p q here there.0 k x ready (λ now w y on hold worlds.
      let needs = found m now i y [] n f 0 p q on it here in
      let frame = frame_is m now i y [] n f 0 p q on in
      let z = item_is m now i y [] p.frame q.frame frame t a form there.1 (λ e. e) needs.1 in
      let l = behind_there m b now i w y n f p q on hold worlds t back there.2 needs.2 in (
        needs.3,
        given_reference m b it into a (back_of back) live i p q here t form other row now w y n f on hold worlds l.name l.list z
            (λ v. does t v p here
            ∙ ap (λ (s : Slot). made_so m v p into (fitted m.adts t (core.value_of s)) (name_behind p back)) z.holds
            ∙ ap (λ (o : Option ℕ). made_so m v p into (fitted m.adts t z.item) o) l.is),
      ))

cell_code : (c : Site) (t : Ty) (into a : ℕ) (back : Option ℕ) → form_of t ≡ AsReference
    → code_of c (Cell t into a back)
    ≡ inst op.Movp (behind_or_nil c back) middle.None (own (reference_place c.scene.adts c.scene.variables into))
    ∷ reference_cons a into c.scene.adts c.scene.variables ∷ []
cell_code c ty.Chars into a back e = refl
cell_code c ty.Nil into a back e = refl
cell_code c (ty.ArrayOf u) into a back e = refl
cell_code c (ty.ListOf u) into a back e = refl
cell_code c (ty.ChanOf u) into a back e = refl
cell_code c (ty.RefAdt n) into a back e = refl
cell_code c (ty.RefPick n j) into a back e = refl
cell_code c (ty.Module n) into a back e = refl
cell_code c u into a back e = absurd cc

module _ (m : typed.Module) (b : Base m) (into a : ℕ) (other : a ≡ into → ⊥) where
  first_cells : (t : Ty) → IsSimple t → InstrGoes m (Cell t into a None)
  first_cells ty.Byte (inl e) =
      cell_numbers m b into a None (λ t w p here. ap (code.next frames_limit (program m) w p) here) kind.Byte (λ e. cc)
      (record { code = λ c. refl; plain = refl; behind = λ pc known. refl; names = λ n j l e. one_name l (Some n) j e }) refl
  first_cells ty.Int (inl e) =
      cell_numbers m b into a None (λ t w p here. ap (code.next frames_limit (program m) w p) here) kind.Int (λ e. cc)
      (record { code = λ c. refl; plain = refl; behind = λ pc known. refl; names = λ n j l e. one_name l (Some n) j e }) refl
  first_cells t (inl e) = absurd cc
  first_cells t (inr form) =
      cell_references m b into a None (λ t w p here. ap (code.next frames_limit (program m) w p) here) t form other
      (record { code = λ c. cell_code c t into a None form; plain = refl; behind = λ pc known. refl; names = λ n j l e. one_name l (Some n) j e })

  more_cells : (t : Ty) (c : ℕ) → IsSimple t → InstrGoes m (Cell t into a (Some c))
  more_cells ty.Byte c (inl e) =
      cell_numbers m b into a (Some c) (λ t w p here. ap (code.next frames_limit (program m) w p) here) kind.Byte (λ e. cc)
      (record { code = λ c. refl; plain = refl; behind = λ pc known. refl; names = λ n j l e. one_name l (Some n) j e }) refl
  more_cells ty.Int c (inl e) =
      cell_numbers m b into a (Some c) (λ t w p here. ap (code.next frames_limit (program m) w p) here) kind.Int (λ e. cc)
      (record { code = λ c. refl; plain = refl; behind = λ pc known. refl; names = λ n j l e. one_name l (Some n) j e }) refl
  more_cells t c (inl e) = absurd cc
  more_cells t c (inr form) =
      cell_references m b into a (Some c) (λ t w p here. ap (code.next frames_limit (program m) w p) here) t form other
      (record { code = λ s. cell_code s t into a (Some c) form; plain = refl; behind = λ pc known. refl; names = λ n j l e. one_name l (Some n) j e })

pub cells_go : CellsGo
cells_go m b t into a None simple other = first_cells m b into a other t simple
cells_go m b t into a (Some c) simple other = more_cells m b into a other t c simple
