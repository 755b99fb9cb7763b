-- A character of a string at an index.
use Rattle.std.proofs.Common.{◌≡◌, ℕ, ℤ, zero, suc, pos, ◌<◌, List, [], ◌∷◌, length, Some, Result, Ok, Err, refl, ap, ◌∙◌, subst, arith}
use Rattle.std.specs.Prelude.{slice_get, slice_index}
use Rattle.std.proofs.lemmas.Int.{ints}
use Rattle.inf_text.specs.Steps.{◌>>=◌}
use Rattle.limbo_types.specs.Types as ty
use Rattle.limbo_types.specs.Types.{Ty}
use Rattle.limbo_values.specs.declared.number.Kind.TheVariants.{Int}
use Rattle.limbo_values.specs.declared.raised.Raised.{Raised}
use Rattle.limbo_values.specs.Numbers.{InRange}
use Rattle.limbo_values.specs.Operators as operators
use Rattle.limbo_values.specs.Texts.{index_in, character_in}
use Rattle.limbo_values.proofs.Ranges.{within}
use Rattle.limbo_typed.specs.Typed as typed
use Rattle.limbo_typed.specs.declared.operation.Operation.TheVariants.{Character}
use Rattle.limbo_kept.specs.Values.{AreCharacters}
use Rattle.limbo_meaning.specs.Exceptions.{with_text}
use Rattle.limbo_meaning.specs.Evaluation.{unless_raised, leaves}
use Rattle.limbo_meaning.specs.Operations.{gives_number}
use Rattle.limbo_meaning.specs.Process.{Shared}
use Rattle.limbo_meaning.specs.Trees.{Operate}
use Rattle.limbo_meaning.specs.Values.{Num, text_of, number_of}
use Rattle.system_model.specs.Ending.{Broken}
use Rattle.system_model.specs.Limits.{frames_limit}
use Rattle.core_code.specs.Code.{Instr, Give}
use Rattle.core_code.specs.Machine as code
use Rattle.core_code.specs.Slots as core
use Rattle.core_code.specs.Slots.{Holds}
use Rattle.core_typing.specs.Needs.{AreThese}
use Rattle.core_typing.specs.Going.{got_by}
use Rattle.dis_isa.specs.declared.op.Op.TheVariants as op
use Rattle.dis_meaning.specs.Process.{Process}
use Rattle.dis_memory.specs.Blocks.{World}
use Rattle.value_words.specs.Facts.{Facts}
use Rattle.value_frames.specs.Frames.{number_place, reference_place}
use Rattle.value_moves.specs.Operands.{inst, own, of_own}
use Rattle.value_code.specs.Objects.{object_of}
use Rattle.number_effects.proofs.Stepping.{steps_obey}
use Rattle.block_effects.proofs.Giving.{operands_read}
use Rattle.block_effects.proofs.Strings.{strings_come}
use Rattle.value_follows.specs.Stands.{types_of}
use Rattle.value_follows.specs.Sides.{sides, HoldTheSame, program}
use Rattle.value_follows.specs.Rows.{Base, InstrGoes}
use Rattle.value_follows.proofs.Standing.{finds, code_here}
use Rattle.value_follows.proofs.Single.{Once, both_end}
use Rattle.value_follows.proofs.Arithmetic.{two_slots}
use Rattle.rows_texts.specs.Rows.{CharactersGo}
use Rattle.rows_texts.proofs.OnTheWay.{On, reaches_it}
use Rattle.rows_texts.proofs.Numbers.{number_there, number_stored, number_comes}
use Rattle.rows_texts.proofs.Reading.{text_is, number_on, reads_text}
use Rattle.rows_texts.proofs.Texts.{used, found, next_on, goes_on_behind, one_goes}

-- a character's code is an int
code_below : (s : List ℕ) (k : ℕ) → AreCharacters s → slice_index s k < 1114112
code_below [] k are = omega arith
code_below (c ∷ s) zero are = are.0
code_below (c ∷ s) (suc k) are = code_below s k are.1

character_range : (s : List ℕ) (at z : ℤ) → AreCharacters s → character_in s at ≡ Ok z → InRange Int z
character_range s at z are e = go (index_in (length s) at) e
  where
    same : (c z : ℤ) → ◌≡◌ {A = Result ℤ Raised} (Ok c) (Ok z) → c ≡ z
    same c z e = cc

    go : (r : Result ℕ Raised) → (r >>= λ k. Ok (pos (slice_index s k))) ≡ Ok z → InRange Int z
    go (Ok k) f =
        let low = code_below s k are in
        subst (InRange Int) (same (pos (slice_index s k)) z f) (record { above = omega (arith, ints); below = omega (arith, ints, low) })
    go (Err r) f = absurd cc

module _ (m : typed.Module) (b : Base m) (into a c : ℕ) where
  abbrev instr : Instr
  instr = Give ty.Int (Operate Character) into (a ∷ c ∷ [])

  module _ (k : Facts) (i : ℕ) (w : Shared) (x : World) (n : ℕ) (f : typed.Function) (p : code.Process) (q : Process)
      (on : On m k i x [] n f 0 p q) (hold : HoldTheSame m k i x p q) (worlds : (sides m).worlds k w x)
      (here : slice_get p.frame.code p.frame.pc ≡ Some instr) where
    -- what the other comes to, by the character
    abbrev comes : Result ℤ Raised → code.Does
    comes r =
        code.gives frames_limit (program m) w p into
        (unless_raised (gives_number m.adts (code.memory frames_limit (program m) w p) (with_text r))
        (leaves m.adts (code.memory frames_limit (program m) w p) ty.Int Character))

    picks : Once m b i p q k w x
    picks =
        let there = used m k i x [] n f 0 p q on instr here in
        let needs = found m k i x [] n f 0 p q on instr here in
        let these = subst (AreThese on.known (a ∷ c ∷ [])) needs.2.0.0 needs.1 in
        let s = text_is m k i x [] n f 0 p q on a there.1.0 (λ e. e) these.0 in
        let z = number_on m k i x [] n f 0 p q on Int c refl there.1.1.0 (λ e. e) these.1.0 in
        let at = reference_place m.adts (types_of m f) a in
        let index = number_place m.adts (types_of m f) c in
        let to = number_place m.adts (types_of m f) into in
        let it = inst op.Indc (own at) (of_own index) (own to) in
        let reach = reaches_it m b i p q [] n f 0 k w x on hold worlds instr here it refl in
        let dest = number_there m k i x n f 0 p q on into there.0 needs.3 Int refl in
        let text = reads_text m k i w x p q hold worlds [] n f 0 on a s in
        let given = (operands_read x q).given Int index z.number z.found in
        let does =
        ap (code.next frames_limit (program m) w p) here
        ∙ ap (λ (v : core.Slot). comes (character_in (text_of (core.value_of v)) (number_of (core.value_of (core.slot p.frame.slots c))))) s.holds
        ∙ ap (λ (v : core.Slot). comes (character_in s.chars (number_of (core.value_of v)))) z.holds in
        let found_there : (y : ℤ) → character_in s.chars z.number ≡ Ok y → Once m b i p q k w x = λ y e.
        let range = character_range s.chars z.number y (s.string).0 e in
        let stored = number_stored m k i x n f 0 p q on into there.0 needs.3 Int refl y in
        number_comes m k i x n f 0 p q on into there.0 needs.3 b w hold worlds it reach Int refl (omega arith) y range
        (got_by m.adts ty.Int (Operate Character))
        (next_on m k i x [] n f 0 p q on instr here 1 refl refl)
        (goes_on_behind m k i x [] n f 0 p q on instr here 0 (suc p.frame.pc) _ (omega arith) refl) (
          stored,
          (strings_come frames_limit (object_of m) x q).read.character (own at) (own to) (of_own index) s.chars z.number y stored.others dest text
              given e stored.found,
        )
        (does ∙ ap comes e ∙ ap (λ (o : ℤ). code.goes_on w p (core.put p.frame.slots into (Holds (Num o)))) (within Int y range)) in
        let none_there : (raised : Raised) → character_in s.chars z.number ≡ Err raised → Once m b i p q k w x = λ raised e.
        both_end m b i p q k w x worlds (Broken (operators.text_of raised))
        (steps_obey.raises frames_limit (object_of m ∷ []) x q (object_of m) it (operators.text_of raised) reach
        ((strings_come frames_limit (object_of m) x q).read.no_character (own at) (own to) (of_own index) s.chars z.number raised dest text given e))
        (does ∙ ap comes e) in
        either (character_in s.chars z.number) found_there none_there
      where
        either : {A : Type 0} (r : Result ℤ Raised) → ((z : ℤ) → r ≡ Ok z → A) → ((raised : Raised) → r ≡ Err raised → A) → A
        either (Ok z) one other = one z refl
        either (Err raised) one other = other raised refl

picked_goes : (m : typed.Module) (b : Base m) (into a c : ℕ) → InstrGoes m (instr m b into a c)
picked_goes m b into a c k i x p q ready here =
    one_goes m b i p q k x ready (λ now w y on hold worlds.
    picks m b into a c now i w y ready.0.stands.is.number ready.0.stands.is.function p q on hold worlds here)

pub characters_go : CharactersGo
characters_go m b t into from k i x p q ready here =
    let it = Give t (Operate Character) into from in
    let r = ready.0 in
    let known = r.stands.is.known in
    let found = finds m r.stands.is.function p.frame.pc known it r.stands.goes (code_here m k i x p q r it here) in
    let slots = two_slots known from ty.Chars ty.Int (subst (AreThese known from) found.2.0.0 found.1) in
    picked_goes m b into slots.0 slots.1 k i x p q ready
    (here ∙ ap (λ (u : Ty). Some (Give u (Operate Character) into from)) found.2.0.1
    ∙ ap (λ (rs : List ℕ). Some (Give ty.Int (Operate Character) into rs)) slots.2)
