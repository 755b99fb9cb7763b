-- How long a string is, and its characters.
use Rattle.std.proofs.Common.{◌≡◌, ℕ, ℤ, suc, pos, List, [], ◌∷◌, length, Some, refl, ap, ◌∙◌, subst, arith}
use Rattle.std.specs.Prelude.{slice_get}
use Rattle.std.proofs.lemmas.Int.{ints}
use Rattle.limbo_types.specs.Types as ty
use Rattle.limbo_types.specs.Types.{Ty}
use Rattle.limbo_values.specs.declared.number.Kind.TheVariants.{Int}
use Rattle.limbo_values.specs.Numbers.{InRange}
use Rattle.limbo_values.proofs.Ranges.{within}
use Rattle.limbo_typed.specs.Typed as typed
use Rattle.limbo_typed.specs.declared.operation.Operation.TheVariants.{Length}
use Rattle.limbo_typed.specs.declared.operation.Sequence.TheVariants as sequence
use Rattle.limbo_meaning.specs.Process.{Shared}
use Rattle.limbo_meaning.specs.Trees.{Operate}
use Rattle.limbo_typed.specs.Fitting.{IsSequence, TakesLength}
use Rattle.limbo_meaning.specs.Values.{Num, text_of, fitted}
use Rattle.system_model.specs.Limits.{frames_limit}
use Rattle.core_code.specs.Code.{Instr, Give}
use Rattle.core_code.specs.Machine as code
use Rattle.core_code.specs.Slots as core
use Rattle.core_code.specs.Slots.{Holds}
use Rattle.core_typing.specs.Held as held
use Rattle.core_typing.specs.Needs.{AreThese, IsA}
use Rattle.core_typing.specs.Going.{got_by}
use Rattle.dis_isa.specs.declared.inst.Middle.TheVariants as middle
use Rattle.dis_isa.specs.declared.op.Op.TheVariants as op
use Rattle.dis_meaning.specs.Process.{Process}
use Rattle.dis_memory.specs.Blocks.{World}
use Rattle.value_words.specs.Facts.{Facts, IsString}
use Rattle.value_frames.specs.Frames.{number_place, reference_place}
use Rattle.value_moves.specs.Operands.{inst, own}
use Rattle.block_effects.proofs.Strings.{strings_come}
use Rattle.value_follows.specs.Stands.{types_of}
use Rattle.value_follows.specs.Sides.{sides, HoldTheSame, program}
use Rattle.value_follows.specs.Rows.{Base, InstrGoes}
use Rattle.value_follows.proofs.Standing.{finds, code_here}
use Rattle.value_follows.proofs.Single.{Once}
use Rattle.value_code.specs.Objects.{object_of}
use Rattle.rows_texts.specs.Rows.{LengthsGo}
use Rattle.rows_texts.proofs.OnTheWay.{On, reaches_it}
use Rattle.rows_texts.proofs.Numbers.{number_there, number_stored, number_comes}
use Rattle.rows_texts.proofs.Reading.{text_is, reads_text}
use Rattle.rows_texts.proofs.Texts.{used, found, next_on, goes_on_behind, one_goes}

-- a length of a string is an int
pub length_range : (s : List ℕ) → IsString s → InRange Int (pos (length s))
length_range s is = let few = is.1 in record { above = omega (arith, ints); below = omega (arith, ints, few) }

-- ---- its one operand

pub is_chars : (u : Ty) → IsSequence sequence.Chars u → u ≡ ty.Chars
is_chars ty.Chars h = refl
is_chars u h = absurd h

record OfOne (slots : held.Slots) (from : List ℕ) (t : Ty) : Type 0 where
  slot : ℕ
  is : from ≡ slot ∷ []
  has : IsA slots slot ty.Chars
  gives : t ≡ ty.Int

of_one : (slots : held.Slots) (from : List ℕ) (us : List Ty) (t : Ty) → AreThese slots from us → TakesLength sequence.Chars us t → OfOne slots from t
of_one slots from [] t these takes = absurd takes
of_one slots from (u ∷ v ∷ us) t these takes = absurd takes
of_one slots [] (u ∷ []) t these takes = absurd these
of_one slots (a ∷ c ∷ from) (u ∷ []) t these takes = absurd these.1
of_one slots (a ∷ []) (u ∷ []) t these takes =
    record { slot = a; is = refl; has = subst (λ (u : Ty). IsA slots a u) (is_chars u takes.0) these.0; gives = takes.1 }

same_slot : (a c : ℕ) → a ∷ [] ≡ c ∷ [] → c ≡ a
same_slot a c e = cc

module _ (m : typed.Module) (b : Base m) (into a : ℕ) where
  abbrev instr : Instr
  instr = Give ty.Int (Operate (Length sequence.Chars)) into (a ∷ [])

  module _ (k : Facts) (i : ℕ) (w : Shared) (x : World) (n : ℕ) (f : typed.Function) (p : code.Process) (q : Process)
      (on : On m k i x [] n f 0 p q) (hold : HoldTheSame m k i x p q) (worlds : (sides m).worlds k w x)
      (here : slice_get p.frame.code p.frame.pc ≡ Some instr) where
    counts : Once m b i p q k w x
    counts =
        let there = used m k i x [] n f 0 p q on instr here in
        let needs = found m k i x [] n f 0 p q on instr here in
        let one = of_one on.known (a ∷ []) needs.0 ty.Int needs.1 needs.2.0 in
        let operand = subst (λ (c : ℕ). IsA on.known c ty.Chars) (same_slot a one.slot one.is) one.has in
        let s = text_is m k i x [] n f 0 p q on a there.1.0 (λ e. e) operand in
        let at = reference_place m.adts (types_of m f) a in
        let to = number_place m.adts (types_of m f) into in
        let it = inst op.Lenc (own at) middle.None (own to) in
        let range = length_range s.chars s.string in
        let stored = number_stored m k i x n f 0 p q on into there.0 needs.3 Int refl (pos (length s.chars)) in
        number_comes m k i x n f 0 p q on into there.0 needs.3 b w hold worlds it
        (reaches_it m b i p q [] n f 0 k w x on hold worlds instr here it refl)
        Int refl (omega arith) (pos (length s.chars)) range (got_by m.adts ty.Int (Operate (Length sequence.Chars)))
        (next_on m k i x [] n f 0 p q on instr here 1 refl refl)
        (goes_on_behind m k i x [] n f 0 p q on instr here 0 (suc p.frame.pc) _ (omega arith) refl) (
          stored,
          (strings_come frames_limit (object_of m) x q).read.long (own at) (own to) middle.None s.chars stored.others
              (number_there m k i x n f 0 p q on into there.0 needs.3 Int refl)
              (reads_text m k i w x p q hold worlds [] n f 0 on a s) stored.found,
        )
        (ap (code.next frames_limit (program m) w p) here
        ∙ ap (λ (v : core.Slot). code.goes_on w p (core.put p.frame.slots into (Holds (fitted m.adts ty.Int (Num (pos (length (text_of (core.value_of v))))))))) s.holds
        ∙ ap (λ (z : ℤ). code.goes_on w p (core.put p.frame.slots into (Holds (Num z)))) (within Int (pos (length s.chars)) range))

counted_goes : (m : typed.Module) (b : Base m) (into a : ℕ) → InstrGoes m (instr m b into a)
counted_goes m b into a k i x p q ready here =
    one_goes m b i p q k x ready (λ now w y on hold worlds.
    counts m b into a now i w y ready.0.stands.is.number ready.0.stands.is.function p q on hold worlds here)

pub lengths_go : LengthsGo
lengths_go m b t into from k i x p q ready here =
    let it = Give t (Operate (Length sequence.Chars)) into from in
    let r = ready.0 in
    let known = r.stands.is.known in
    let found = finds m r.stands.is.function p.frame.pc known it r.stands.goes (code_here m k i x p q r it here) in
    let one = of_one known from found.0 t found.1 found.2.0 in
    counted_goes m b into one.slot k i x p q ready
    (here ∙ ap (λ (u : Ty). Some (Give u (Operate (Length sequence.Chars)) into from)) one.gives
    ∙ ap (λ (rs : List ℕ). Some (Give ty.Int (Operate (Length sequence.Chars)) into rs)) one.is)
