-- Rows that give strings: the last instruction makes a string, or both processes end as broken.
use Rattle.std.proofs.Common.{◌≡◌, ℕ, suc, pos, ◌+◌, ◌<◌, List, [], ◌∷◌, length, Option, Some, Result, Ok, Err, refl, ap, arith}
use Rattle.std.specs.Prelude.{slice_get, slice_index_or}
use Rattle.limbo_types.specs.Types as ty
use Rattle.limbo_types.specs.Types.{Ty}
use Rattle.limbo_values.specs.declared.raised.Raised.{Raised}
use Rattle.limbo_values.specs.Operators.{text_of}
use Rattle.limbo_typed.specs.Typed as typed
use Rattle.limbo_typed.specs.declared.operation.Operation.{Operation}
use Rattle.limbo_meaning.specs.Process.{Shared}
use Rattle.limbo_meaning.specs.Values.{Chars}
use Rattle.limbo_meaning.specs.Exceptions.{Raising, with_text}
use Rattle.limbo_meaning.specs.Operations.{gives_string}
use Rattle.limbo_meaning.specs.Evaluation.{unless_raised, leaves}
use Rattle.system_model.specs.Ending.{Broken}
use Rattle.system_model.specs.Limits.{frames_limit}
use Rattle.core_code.specs.Code.{Instr}
use Rattle.core_code.specs.Machine as code
use Rattle.core_code.specs.Using.{Uses}
use Rattle.core_typing.specs.Held as held
use Rattle.core_typing.specs.Held.{Of}
use Rattle.core_typing.specs.Needs.{Finds, IsClean}
use Rattle.core_typing.specs.Going.{stand, behind}
use Rattle.dis_isa.specs.declared.inst.Inst.{Inst}
use Rattle.dis_meaning.specs.Words.{Refer, Raises, Found, word_at}
use Rattle.dis_meaning.specs.Process.{Process}
use Rattle.dis_memory.specs.Blocks.{Text, World, next_serial}
use Rattle.value_words.specs.Facts.{Facts, IsString}
use Rattle.value_words.specs.Stands.{a_text}
use Rattle.value_frames.specs.Frames.{number_place, reference_place}
use Rattle.value_frames.specs.Standing.{RefersIdly, a_value}
use Rattle.value_code.specs.Objects.{object_of, of_function, size_at}
use Rattle.number_effects.specs.Stepping.{Reaches}
use Rattle.number_effects.proofs.Stepping.{steps_obey}
use Rattle.block_effects.specs.Stored.{Comes, AfterBlock}
use Rattle.value_follows.specs.Stands.{types_of, scope, place_of, GoesOn}
use Rattle.value_follows.specs.Sides.{sides, HoldTheSame, program}
use Rattle.value_follows.specs.Rows.{RowGoes, Base}
use Rattle.value_follows.proofs.Standing.{finds, goes_behind}
use Rattle.value_follows.proofs.Slots.{uses}
use Rattle.value_follows.proofs.Putting.{at_rest}
use Rattle.value_follows.proofs.Several.{moved_to}
use Rattle.value_follows.proofs.Single.{Once, both_end}
use Rattle.rows_texts.proofs.New.{text_made}
use Rattle.rows_texts.proofs.OnTheWay.{On, frame_is, row_code, back, on_ready, on_way}
use Rattle.rows_texts.proofs.Coming.{reference_there, block_comes}

-- ---- at any instruction of a row

module _ (m : typed.Module) (k : Facts) (i : ℕ) (x : World) (busy : List ℕ) (n : ℕ) (f : typed.Function) (j : ℕ) (p : code.Process)
    (q : Process) (on : On m k i x busy n f j p q) (instr : Instr) (here : slice_get p.frame.code p.frame.pc ≡ Some instr) where
  pub row_is : slice_get (of_function m f).code p.frame.pc ≡ Some instr
  row_is = row_code m k i x busy n f j p q on instr here

  -- its slots are there, and have what it needs
  pub used : Uses (length p.frame.slots) instr
  used = uses m k i x busy p.frame q.frame (frame_is m k i x busy n f j p q on) p.frame.pc instr row_is

  pub found : Finds (scope m f) f.of.answer on.known instr
  found = finds m f p.frame.pc on.known instr on.goes row_is

  -- the next row begins behind the last
  pub next_on : (size : ℕ) → size_at m f.of.answer (of_function m f) p.frame.pc (Some instr) ≡ size → suc j ≡ size
      → suc q.frame.pc ≡ place_of m n f (suc p.frame.pc)
  next_on size e last =
      let a = ap (λ (o : Option Instr). size_at m f.of.answer (of_function m f) p.frame.pc o) row_is in
      let g = on.pc in
      omega (arith, e, a, g, last)

  pub row_ends : (size : ℕ) → size_at m f.of.answer (of_function m f) p.frame.pc (Some instr) ≡ size
      → place_of m n f (suc p.frame.pc) ≡ place_of m n f p.frame.pc + size
  row_ends size e =
      let a = ap (λ (o : Option Instr). size_at m f.of.answer (of_function m f) p.frame.pc o) row_is in omega (arith, e, a)

  pub goes_on_behind : (l pc : ℕ) (known : held.Slots) → l < length (behind m.adts p.frame.pc on.known instr)
      → slice_index_or (behind m.adts p.frame.pc on.known instr) l (stand pc known) ≡ stand pc known → GoesOn m f pc known
  goes_on_behind = goes_behind m f p.frame.pc on.known instr on.goes row_is

-- a slot that names nothing refers to something or nothing
module _ (m : typed.Module) (k : Facts) (i : ℕ) (x : World) (n : ℕ) (f : typed.Function) (j : ℕ) (p : code.Process) (q : Process)
    (on : On m k i x [] n f j p q) (s : ℕ) (l : s < length p.frame.slots) (clean : IsClean (held.slot on.known s)) where
  pub rests : RefersIdly m.adts k q.frame.words (reference_place m.adts (types_of m f) s)
  rests = (at_rest m k i x p (moved_to q (place_of m n f p.frame.pc) q.frame.words) (back m k i x n f j p q on) s l clean).0

-- ---- rows of one instruction

module _ (m : typed.Module) (b : Base m) (i : ℕ) (p : code.Process) (q : Process) where
  -- a row goes, if its instruction does so whatever others did
  pub one_goes : (k : Facts) (x : World) → (r : (sides m).ready k i x p q)
      → ((now : Facts) (w : Shared) (y : World) → (on : On m now i y [] r.0.stands.is.number r.0.stands.is.function 0 p q)
      → HoldTheSame m now i y p q → (sides m).worlds now w y → Once m b i p q now w y)
      → RowGoes m k i x p q
  one_goes k x r does = (
    0,
    on_way m b i p q [] r.0.stands.is.number r.0.stands.is.function 0 0 k x (on_ready m i p q k x r.0) r.1
        (λ now w y grows on hold worlds. does now w y on hold worlds),
  )

-- ---- a string comes, or is raised

module _ (m : typed.Module) (b : Base m) (k : Facts) (i : ℕ) (w : Shared) (x : World) (busy : List ℕ) (n : ℕ) (f : typed.Function) (j : ℕ)
    (p : code.Process) (q : Process) (on : On m k i x busy n f j p q) (hold : HoldTheSame m k i x p q) (worlds : (sides m).worlds k w x)
    (into : ℕ) (l : into < length p.frame.slots) (only : held.without into busy ≡ []) (old : Option ℕ)
    (before : word_at q.frame.words (pos (reference_place m.adts (types_of m f) into)) ≡ Found (Refer old)) where
  -- what the other comes to where an operation gives a string
  abbrev pub string_comes : Operation → Raising (List ℕ) → code.Does
  string_comes o r =
      code.gives frames_limit (program m) w p into
      (unless_raised (gives_string m.adts (code.memory frames_limit (program m) w p) r)
      (leaves m.adts (code.memory frames_limit (program m) w p) ty.Chars o))

  module _ (inst : Inst) (is : Reaches (object_of m ∷ []) x q (object_of m) inst) (live : List ℕ)
      (next : suc q.frame.pc ≡ place_of m n f (suc p.frame.pc)) (goes : GoesOn m f (suc p.frame.pc) (held.put on.known into (Of ty.Chars live))) where
    pub text_comes : (s : List ℕ) → IsString s
        → Comes frames_limit (object_of m) x q inst (AfterBlock x q (reference_there m b k i w x busy n f j p q on hold worlds into l only old before) (Text s))
        → (o : Operation) → (sides m).program.step w p ≡ string_comes o (Ok s) → Once m b i p q k w x
    text_comes s string comes o does =
        let t = text_made m k i w x worlds s in
        block_comes m b k i w x busy n f j p q on hold worlds into l only inst is old before (Text s) comes t.now w t.made t.after ty.Chars live (Chars s)
        (λ words e.
        a_value words (number_place m.adts (types_of m f) into) (reference_place m.adts (types_of m f) into) ty.Chars live (Chars s)
        (a_text (reference_place m.adts (types_of m f) into) (Some (next_serial x)) s e (t.known, string)) (λ l n f. absurd cc))
        next goes does

    pub text_raised : (text : List ℕ) → Comes frames_limit (object_of m) x q inst (Raises text)
        → (o : Operation) → (sides m).program.step w p ≡ string_comes o (Err text) → Once m b i p q k w x
    text_raised text comes o does =
        both_end m b i p q k w x worlds (Broken text) (steps_obey.raises frames_limit (object_of m ∷ []) x q (object_of m) inst text is comes) does

    -- by what is calculated
    pub text_results : (r : Result (List ℕ) Raised) → ((s : List ℕ) → r ≡ Ok s → IsString s)
        → ((s : List ℕ) → r ≡ Ok s → Comes frames_limit (object_of m) x q inst
        (AfterBlock x q (reference_there m b k i w x busy n f j p q on hold worlds into l only old before) (Text s)))
        → ((raised : Raised) → r ≡ Err raised → Comes frames_limit (object_of m) x q inst (Raises (text_of raised)))
        → (o : Operation) → (sides m).program.step w p ≡ string_comes o (with_text r) → Once m b i p q k w x
    text_results (Ok s) strings comes raises o does = text_comes s (strings s refl) (comes s refl) o does
    text_results (Err raised) strings comes raises o does = text_raised (text_of raised) (raises raised refl) o does
