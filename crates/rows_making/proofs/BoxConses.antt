-- Lists of items that have a record of their own: an item in front of a list, and cells that are written.
use Rattle.std.proofs.Common.{◌≡◌, ℕ, List, [], ◌∷◌, length, Option, Some, None, refl, sym, ap, ◌∙◌, subst, arith, inl, inr}
use Rattle.std.specs.Prelude.{slice_get}
use Rattle.limbo_types.specs.Types as ty
use Rattle.limbo_types.specs.Types.{Ty}
use Rattle.limbo_layout.specs.Adts.{Def}
use Rattle.limbo_typed.specs.Typed as typed
use Rattle.limbo_typed.specs.Fitting as fitting
use Rattle.limbo_typed.specs.Fitting.{PutsBefore}
use Rattle.limbo_typed.specs.declared.operation.Operation.TheVariants.{Cons}
use Rattle.limbo_meaning.specs.Operations.{item_of}
use Rattle.limbo_meaning.specs.Process.{Shared}
use Rattle.limbo_meaning.specs.Trees.{Operate}
use Rattle.limbo_meaning.specs.Values.{fitted, name_of}
use Rattle.system_model.specs.Limits.{frames_limit}
use Rattle.core_code.specs.Code.{Give, Cell}
use Rattle.core_code.specs.Machine as code
use Rattle.core_code.specs.Slots as core
use Rattle.core_code.specs.Slots.{Slot}
use Rattle.core_code.specs.Using.{IfBelow}
use Rattle.core_typing.specs.Going.{all_of, got_by}
use Rattle.core_typing.specs.Held as held
use Rattle.core_typing.specs.Held.{type_held}
use Rattle.core_typing.specs.Needs.{AreThese, IsA, IsAIf, StandsAs, MayBeNil}
use Rattle.dis_isa.specs.declared.inst.Operand as isa
use Rattle.dis_meaning.specs.Process.{Process}
use Rattle.dis_memory.specs.Blocks.{World}
use Rattle.value_words.specs.Facts.{Facts}
use Rattle.value_frames.specs.Frames.{Boxed, form_of}
use Rattle.value_code.specs.Data.{nil_word}
use Rattle.value_follows.specs.Stands.{types_of}
use Rattle.value_follows.specs.Sides.{sides, program, HoldTheSame}
use Rattle.value_follows.specs.Rows.{Base, InstrGoes}
use Rattle.value_follows.proofs.Arithmetic.{two_slots}
use Rattle.value_follows.proofs.Standing.{finds, code_here}
use Rattle.rows_boxes.specs.Differing.{DiffersFrom}
use Rattle.rows_boxes.specs.Rows.{IsSmall}
use Rattle.rows_boxes.proofs.Differing.{slots_differ}
use Rattle.rows_boxes.proofs.Giving.{room_laid}
use Rattle.rows_lists.proofs.OnTheWay.{On, frame_is, on_ready}
use Rattle.rows_lists.proofs.Needing.{used, found}
use Rattle.rows_lists.proofs.Held.{name_is}
use Rattle.rows_lists.proofs.Lists.{one_name}
use Rattle.rows_lists.proofs.Linking.{ListHere, list_of_slot, no_list, list_of, made_so}
use Rattle.rows_making.specs.Rows.{BoxConsesGo, BoxCellsGo}
use Rattle.rows_making.proofs.BoxCells.{MakesBoxCell, box_cell_goes}

-- ---- what stands where an item with a record of its own is asked for is of its type

no_variant : (u t : Ty) → form_of t ≡ Boxed → fitting.IsVariantOf u t → ⊥
no_variant (ty.RefPick n v) t form e = let f = sym form ∙ ap form_of e in cc
no_variant u t form e = e

no_nil : (t : Ty) → form_of t ≡ Boxed → MayBeNil t → ⊥
no_nil (ty.ListOf t) form h = cc
no_nil (ty.ChanOf t) form h = cc
no_nil (ty.RefAdt n) form h = cc
no_nil (ty.RefPick n k) form h = cc
no_nil (ty.Module n) form h = cc
no_nil t form h = h

only_it : (u t : Ty) → form_of t ≡ Boxed → StandsAs u t → u ≡ t
only_it u t form (inl (inl e)) = e
only_it u t form (inl (inr h)) = absurd (no_variant u t form h)
only_it u t form (inr h) = absurd (no_nil t form h.1)

stood : (u t : Ty) → form_of t ≡ Boxed → fitting.Stands u t → u ≡ t
stood u t form (inl e) = e
stood u t form (inr h) = absurd (no_variant u t form h)

known_type : (known : held.Slots) (a : ℕ) (t : Ty) → form_of t ≡ Boxed → IsA known a t → type_held (held.slot known a) ≡ Some t
known_type known a t form is = is.1 ∙ ap (λ (u : Ty). Some u) (only_it is.0 t form is.2)

-- ---- an item and a list, each in a slot

record PutsIn (known : held.Slots) (a c : ℕ) (item : Ty) : Type 0 where
  first : type_held (held.slot known a) ≡ Some item
  list : IsA known c (ty.ListOf item)

puts : (known : held.Slots) (a c : ℕ) (us : List Ty) (item : Ty) → form_of item ≡ Boxed → PutsBefore us (ty.ListOf item) → AreThese known (a ∷ c ∷ []) us
    → PutsIn known a c item
puts known a c [] item form h these = absurd h
puts known a c (t ∷ []) item form h these = absurd h
puts known a c (t ∷ u ∷ v ∷ us) item form h these = absurd h
puts known a c (t ∷ u ∷ []) item form (other, stands, list, is) (first, second) =
    let same : other ≡ item = cc in
    record {
      first = known_type known a item form (subst (λ (v : Ty). IsA known a v)
          (stood t item form (subst (λ (v : Ty). fitting.Stands t v) same stands)) first);
      list = subst (λ (v : Ty). IsA known c v) (list ∙ ap (λ (v : Ty). ty.ListOf v) same) second.0;
    }

conses_of : (m : typed.Module) (b : Base m) (item : Ty) (into a c : ℕ) → form_of item ≡ Boxed → IsSmall m item → (a ≡ into → ⊥)
    → InstrGoes m (Give (ty.ListOf item) (Operate Cons) into (a ∷ c ∷ []))
conses_of m b item into a c form small apart k i x p q ready here =
    let it = Give (ty.ListOf item) (Operate Cons) into (a ∷ c ∷ []) in
    let live = got_by m.adts (ty.ListOf item) (Operate Cons) in
    let n = ready.0.stands.is.number in
    let f = ready.0.stands.is.function in
    let there = used m k i x [] n f 0 p q (on_ready m i p q k x ready.0) it here in
    box_cell_goes m b it into a item form small apart (list_of c) live
    (record {
      code = λ t. refl;
      plain = refl;
      named = λ answer told. inr (inl refl);
      behind = λ pc known. refl;
      names = λ n j l e. one_name l (Some n) j e;
      known = λ f slots found. (puts slots a c found.0 item form found.2.0 found.1).first;
      laid = λ f slots found. room_laid m.adts item found.2.2;
    })
    i p here there.0 there.1.0 k x q ready (λ now w y on hold worlds.
    let needs = found m now i y [] n f 0 p q on it here in
    let in_slots = puts on.known a c needs.0 item form needs.2.0 needs.1 in
    let l = name_is m now i y [] p.frame q.frame (frame_is m now i y [] n f 0 p q on) (ty.ListOf item) c tt there.1.1.0 (λ e. e) in_slots.list in (
      needs.3,
      record {
        name = l.name;
        rest = list_of_slot m b now i w y n f p q on hold worlds item c l;
        does = λ v.
            ap (code.next frames_limit (program m) v p) here
            ∙ ap (λ (s : Slot). made_so m v p into (fitted m.adts item (core.value_of (core.slot p.frame.slots a))) (name_of (core.value_of s))) l.holds;
      },
    ))

-- a list of items
record OfList (t : Ty) (from : List ℕ) : Type 0 where
  item : Ty
  list : t ≡ ty.ListOf item
  first : ℕ
  second : ℕ
  slots : from ≡ first ∷ second ∷ []

of_list : (known : held.Slots) (rs : List ℕ) (us : List Ty) (t : Ty) → PutsBefore us t → AreThese known rs us → OfList t rs
of_list known rs [] t h these = absurd h
of_list known rs (u ∷ []) t h these = absurd h
of_list known rs (u ∷ v ∷ w ∷ us) t h these = absurd h
of_list known rs (u ∷ v ∷ []) t (item, stands, list, is) these =
    let slots = two_slots known rs u v these in
    record { item = item; list = is; first = slots.0; second = slots.1; slots = slots.2 }

pub box_conses_go : BoxConsesGo
box_conses_go m b t into from form small k i x p q ready here =
    let it = Give t (Operate Cons) into from in
    let r = ready.0 in
    let known = r.stands.is.known in
    let in_code = code_here m k i x p q r it here in
    let found = finds m r.stands.is.function p.frame.pc known it r.stands.goes in_code in
    let of = of_list known from found.0 t found.2.0 found.1 in
    let differ = subst (DiffersFrom into) of.slots (slots_differ m r.stands.is.function p.frame.pc it in_code) in
    conses_of m b of.item into of.first of.second (subst (λ (u : Ty). form_of (item_of u) ≡ Boxed) of.list form)
    (subst (λ (u : Ty). IsSmall m (item_of u)) of.list small) (λ e. differ.0 (sym e)) k i x p q ready
    (here ∙ ap (λ (u : Ty). Some (Give u (Operate Cons) into from)) of.list
    ∙ ap (λ (rs : List ℕ). Some (Give (ty.ListOf of.item) (Operate Cons) into rs)) of.slots)

-- ---- cells that are written

-- where the cell behind is
abbrev back_of : Option ℕ → List Def → List Ty → isa.Operand
back_of None defs types = nil_word
back_of (Some c) defs types = list_of c defs types

-- which it is
abbrev name_behind : code.Process → Option ℕ → Option ℕ
name_behind p None = None
name_behind p (Some c) = name_of (core.value_of (core.slot p.frame.slots c))

module _ (m : typed.Module) (b : Base m) (k : Facts) (i : ℕ) (w : Shared) (x : World) (n : ℕ) (f : typed.Function) (p : code.Process) (q : Process)
    (on : On m k i x [] n f 0 p q) (hold : HoldTheSame m k i x p q) (worlds : (sides m).worlds k w x) (t : Ty) where
  -- The list behind, and its name.
  record Behind (back : Option ℕ) : Type 0 where
    name : Option ℕ
    is : name_behind p back ≡ name
    list : ListHere m b k i w x n f p q on hold worlds t (back_of back m.adts (types_of m f)) name

  behind_there : (back : Option ℕ) → IfBelow (length p.frame.slots) back → IsAIf on.known back (ty.ListOf t) → Behind back
  behind_there None below is = record { name = None; is = refl; list = no_list m b k i w x n f p q on hold worlds t }
  behind_there (Some c) below is =
      let l = name_is m k i x [] p.frame q.frame (frame_is m k i x [] n f 0 p q on) (ty.ListOf t) c tt below (λ e. e) is in
      record {
        name = l.name;
        is = ap (λ (s : Slot). name_of (core.value_of s)) l.holds;
        list = list_of_slot m b k i w x n f p q on hold worlds t c l;
      }

module _ (m : typed.Module) (b : Base m) (t : Ty) (into a : ℕ) (back : Option ℕ) (form : form_of t ≡ Boxed) (small : IsSmall m t)
    (does : (w : Shared) (p : code.Process) → slice_get p.frame.code p.frame.pc ≡ Some (Cell t into a back)
    → (sides m).program.step w p ≡ made_so m w p into (fitted m.adts t (core.value_of (core.slot p.frame.slots a))) (name_behind p back))
    (row : MakesBoxCell m (Cell t into a back) into a t (back_of back) (all_of m.adts (ty.ListOf t))) where
  cells_of : (a ≡ into → ⊥) → InstrGoes m (Cell t into a back)
  cells_of apart k i x p q ready here =
      let it = Cell t into a back in
      let n = ready.0.stands.is.number in
      let f = ready.0.stands.is.function in
      let there = used m k i x [] n f 0 p q (on_ready m i p q k x ready.0) it here in
      box_cell_goes m b it into a t form small apart (back_of back) (all_of m.adts (ty.ListOf t)) row i p here there.0 there.1 k x q ready
      (λ now w y on hold worlds.
      let needs = found m now i y [] n f 0 p q on it here in
      let l = behind_there m b now i w y n f p q on hold worlds t back there.2 needs.2 in (
        needs.3,
        record {
          name = l.name;
          rest = l.list;
          does = λ v. does v p here
              ∙ ap (λ (o : Option ℕ). made_so m v p into (fitted m.adts t (core.value_of (core.slot p.frame.slots a))) o) l.is;
        },
      ))

cell_row : (m : typed.Module) (t : Ty) (into a : ℕ) (back : Option ℕ) → form_of t ≡ Boxed
    → MakesBoxCell m (Cell t into a back) into a t (back_of back) (all_of m.adts (ty.ListOf t))
cell_row m t into a None form = record {
  code = λ c. refl;
  plain = refl;
  named = λ answer told. inl refl;
  behind = λ pc known. refl;
  names = λ n j l e. one_name l (Some n) j e;
  known = λ f slots found. known_type slots a t form found.1;
  laid = λ f slots found. room_laid m.adts t found.0;
}
cell_row m t into a (Some c) form = record {
  code = λ s. refl;
  plain = refl;
  named = λ answer told. inl refl;
  behind = λ pc known. refl;
  names = λ n j l e. one_name l (Some n) j e;
  known = λ f slots found. known_type slots a t form found.1;
  laid = λ f slots found. room_laid m.adts t found.0;
}

cell_does : (m : typed.Module) (t : Ty) (into a : ℕ) (back : Option ℕ) (w : Shared) (p : code.Process)
    → slice_get p.frame.code p.frame.pc ≡ Some (Cell t into a back)
    → (sides m).program.step w p ≡ made_so m w p into (fitted m.adts t (core.value_of (core.slot p.frame.slots a))) (name_behind p back)
cell_does m t into a None w p here = ap (code.next frames_limit (program m) w p) here
cell_does m t into a (Some c) w p here = ap (code.next frames_limit (program m) w p) here

pub box_cells_go : BoxCellsGo
box_cells_go m b t into a back form small k i x p q ready here =
    let it = Cell t into a back in
    let r = ready.0 in
    let found = finds m r.stands.is.function p.frame.pc r.stands.is.known it r.stands.goes (code_here m k i x p q r it here) in
    let less = found.4 in
    cells_of m b t into a back form small (λ w p here. cell_does m t into a back w p here) (cell_row m t into a back form)
    (λ e. omega (arith, e, less)) k i x p q ready here
