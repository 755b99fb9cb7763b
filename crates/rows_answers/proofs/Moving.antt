-- Returns whose answer is moved into its box, by one instruction or two.
use Rattle.std.proofs.Common.{◌≡◌, ℕ, ◌<◌, ◌≤◌, Bool, true, false, List, [], ◌∷◌, ◌++◌, length, Option, Some, refl, ap, ◌∙◌, arith}
use Rattle.std.specs.Prelude.{slice_get}
use Rattle.heap_model.specs.Heap.{at, there}
use Rattle.limbo_layout.specs.Adts.{Has}
use Rattle.limbo_layout.specs.Layout.{limit}
use Rattle.limbo_typed.specs.Typed as typed
use Rattle.limbo_meaning.specs.Process.{Shared}
use Rattle.limbo_meaning.specs.Values.{Value, references}
use Rattle.limbo_meaning.specs.Origins.{Name}
use Rattle.core_code.specs.Code.{Return}
use Rattle.core_code.specs.Machine as code
use Rattle.dis_isa.specs.declared.inst.Inst.{Inst}
use Rattle.dis_isa.specs.declared.inst.Operand.{Operand}
use Rattle.dis_meaning.specs.Words.{Word, Refer}
use Rattle.dis_meaning.specs.Process.{Process}
use Rattle.dis_memory.specs.Blocks.{World}
use Rattle.value_words.specs.Facts.{Facts}
use Rattle.value_frames.specs.Frames.{Nowhere, Boxed, form_of, answer_place, box_bytes, room_for}
use Rattle.value_frames.specs.Types.{desc}
use Rattle.value_moves.specs.Operands.{Code, behind, moved}
use Rattle.value_moves.specs.Spots.{Leads}
use Rattle.value_moves.specs.Writing.{Lies}
use Rattle.value_code.specs.Objects.{object_of, of_function, size_at}
use Rattle.value_code.specs.Code.{code_of}
use Rattle.value_follows.specs.Stands.{Awaited}
use Rattle.value_follows.specs.Sides.{sides, HoldTheSame}
use Rattle.value_follows.specs.Rows.{Base, RowStands, RowGoes, site_of}
use Rattle.value_follows.proofs.Several.{Next}
use Rattle.rows_ending.proofs.Endings.{ret}
use Rattle.rows_answers.proofs.OnTheWay.{On}
use Rattle.rows_answers.proofs.Boxing.{way_goes, answer, waiting, record_there, fills_then}
use Rattle.rows_answers.proofs.Filling.{moved_fills}
use Rattle.rows_answers.proofs.Sizing.{sized_process, sizes}
use Rattle.rows_answers.proofs.Typed.{AnyHow, HasPassing, MovesWhere, is_sized, sizing, moves_once, moves_twice}

-- A value of the answer's type lies where an operand leads, and it is the answer.
pub record Source (m : typed.Module) (k : Facts) (x : World) (p : code.Process) (q : Process) (a : Operand) (answer : Value) : Type 0 where
  pub words : List Word
  pub place : ℕ
  pub leads : Leads x q a words place
  pub value : Value
  pub lies : Lies m.adts k words place p.frame.answer (room_for m.adts p.frame.answer) value
  pub named : (j : ℕ) → Name (references value) j → 0 < code.process_names p j
  pub live : (d : ℕ) → Has words (Refer (Some d)) → there (at x.heap d) ≡ true
  pub same : answer ≡ value

module _ (m : typed.Module) (b : Base m) (i : ℕ) (p : code.Process) (n : ℕ) (f : typed.Function) (from : Option ℕ)
    (there_so : slice_get m.functions n ≡ Some f) (here : slice_get p.frame.code p.frame.pc ≡ Some (Return from))
    (in_code : slice_get (of_function m f).code p.frame.pc ≡ Some (Return from))
    (row : RowStands m n f p.frame.pc (Return from)) (some : form_of p.frame.answer ≡ Nowhere → ⊥) (form : form_of p.frame.answer ≡ Boxed)
    (small : (room_for m.adts p.frame.answer).size ≤ limit) (number : ℕ) (a blank : Operand)
    (code_is : code_of (site_of m n f p.frame.pc row.at) (Return from) ≡ moved m.adts p.frame.answer number a (behind answer_place 0) ++ ret ∷ [])
    (size_is : size_at m f.of.answer (of_function m f) p.frame.pc (Some (Return from))
    ≡ length (moved m.adts p.frame.answer 0 blank (behind answer_place 0) ++ ret ∷ []))
    (types : slice_get (object_of m).types number ≡ Some (desc (box_bytes m.adts p.frame.answer) (room_for m.adts p.frame.answer).references))
    (source : (j : ℕ) (k : Facts) (w : Shared) (x : World) (q : Process) → On m k i x Awaited n f j p q → HoldTheSame m k i x p q
    → (sides m).worlds k w x → Source m k x p q a (answer m b i p n f from there_so here in_code row some form)) where
  abbrev bytes : ℕ
  bytes = (room_for m.adts p.frame.answer).size

  -- ---- by one

  module _ (e : is_sized m.adts p.frame.answer ≡ false) where
    one : (move : Inst) × (moved m.adts p.frame.answer number a (behind answer_place 0) ≡ move ∷ [])
        × MovesWhere m.adts p.frame.answer number a (behind answer_place 0) AnyHow move
    one = moves_once m.adts p.frame.answer number a (behind answer_place 0) form e

    one_long : size_at m f.of.answer (of_function m f) p.frame.pc (Some (Return from)) ≡ 2
    one_long =
        size_is
        ∙ ap (λ (l : Code). length (l ++ ret ∷ [])) (moves_once m.adts p.frame.answer 0 blank (behind answer_place 0) form e).1

    one_goes : (k : Facts) (w : Shared) (x : World) (q : Process) → On m k i x Awaited n f 0 p q → HoldTheSame m k i x p q
        → (sides m).worlds k w x → Next m b i p 1 k w x q
    one_goes k w x q on hold worlds =
        let it = source 0 k w x q on hold worlds in
        fills_then m b i p n f from there_so here in_code row some form 0 q k w x on hold worlds one.0
        (ap (λ (l : Code). slice_get l 0) (code_is ∙ ap (λ (l : Code). l ++ ret ∷ []) one.1))
        (ap (λ (l : Code). slice_get l 1) (code_is ∙ ap (λ (l : Code). l ++ ret ∷ []) one.1))
        (let l = one_long in omega (arith, l))
        (moved_fills m k i x p q (waiting m b i p n f from there_so here in_code row some form 0 q k w x on hold worlds)
        (record_there m b i p n f from there_so here in_code row some form 0 q k w x on hold worlds)
        (answer m b i p n f from there_so here in_code row some form) number a one.0 AnyHow one.2 it.words it.place it.leads it.value it.lies it.named
        it.live types tt it.same)

  -- ---- by two

  module _ (e : is_sized m.adts p.frame.answer ≡ true) where
    two : (move : Inst) × (moved m.adts p.frame.answer number a (behind answer_place 0) ≡ sizing bytes ∷ move ∷ [])
        × MovesWhere m.adts p.frame.answer number a (behind answer_place 0) (HasPassing bytes) move
    two = moves_twice m.adts p.frame.answer number a (behind answer_place 0) form e

    two_long : size_at m f.of.answer (of_function m f) p.frame.pc (Some (Return from)) ≡ 3
    two_long =
        size_is
        ∙ ap (λ (l : Code). length (l ++ ret ∷ [])) (moves_twice m.adts p.frame.answer 0 blank (behind answer_place 0) form e).1

    second : (q : Process) (k : Facts) (w : Shared) (x : World) → On m k i x Awaited n f 1 p q → HoldTheSame m k i x p q
        → (sides m).worlds k w x → HasPassing bytes q → Next m b i p 1 k w x q
    second q k w x on hold worlds has =
        let it = source 1 k w x q on hold worlds in
        fills_then m b i p n f from there_so here in_code row some form 1 q k w x on hold worlds two.0
        (ap (λ (l : Code). slice_get l 1) (code_is ∙ ap (λ (l : Code). l ++ ret ∷ []) two.1))
        (ap (λ (l : Code). slice_get l 2) (code_is ∙ ap (λ (l : Code). l ++ ret ∷ []) two.1))
        (let l = two_long in omega (arith, l))
        (moved_fills m k i x p q (waiting m b i p n f from there_so here in_code row some form 1 q k w x on hold worlds)
        (record_there m b i p n f from there_so here in_code row some form 1 q k w x on hold worlds)
        (answer m b i p n f from there_so here in_code row some form) number a two.0 (HasPassing bytes) two.2 it.words it.place it.leads it.value
        it.lies it.named it.live types has it.same)

    two_goes : (k : Facts) (w : Shared) (x : World) (q : Process) → On m k i x Awaited n f 0 p q → HoldTheSame m k i x p q
        → (sides m).worlds k w x → Next m b i p 2 k w x q
    two_goes k w x q on hold worlds =
        sizes m b i p n f from there_so in_code row some form bytes small q k w x on hold worlds 1
        (ap (λ (l : Code). slice_get l 0) (code_is ∙ ap (λ (l : Code). l ++ ret ∷ []) two.1))
        (let l = two_long in omega (arith, l))
        (λ now v y o h after has.
        second (sized_process m b i p n f from there_so in_code row some form bytes small q) now v y o h after has)

  pub moved_goes : (k : Facts) (x : World) (q : Process) → On m k i x Awaited n f 0 p q → HoldTheSame m k i x p q → RowGoes m k i x p q
  moved_goes k x q on hold = go (is_sized m.adts p.frame.answer) refl
    where
      go : (c : Bool) → is_sized m.adts p.frame.answer ≡ c → RowGoes m k i x p q
      go false e = (
        1,
        way_goes m b i p n f Awaited 0 q 1 k x on hold (λ now w y grows o h worlds. one_goes e now w y q o h worlds),
      )
      go true e = (
        2,
        way_goes m b i p n f Awaited 0 q 2 k x on hold (λ now w y grows o h worlds. two_goes e now w y q o h worlds),
      )
