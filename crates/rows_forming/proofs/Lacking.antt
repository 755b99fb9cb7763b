-- Operands of the type without values: nothing moves, and the words that are there stand for what is put together then, too.
use Rattle.std.proofs.Common.{◌≡◌, ℕ, suc, ◌+◌, ◌<◌, List, [], ◌∷◌, length, Option, Some, refl, sym, ap}
use Rattle.std.proofs.Common.{subst, ◌∙◌, arith}
use Rattle.std.specs.Prelude.{slice_get}
use Rattle.process_ways.specs.Ways.{Way}
use Rattle.process_ways.proofs.On.{stepped}
use Rattle.limbo_types.specs.Types as ty
use Rattle.limbo_types.specs.Types.{Ty}
use Rattle.limbo_layout.specs.Adts.{Def}
use Rattle.limbo_values.specs.declared.number.Kind.TheVariants as kind
use Rattle.limbo_typed.specs.Typed as typed
use Rattle.limbo_meaning.specs.Process.{Shared}
use Rattle.limbo_meaning.specs.Values.{Value, nothing, fitted, parts_of}
use Rattle.limbo_meaning.specs.Places.{value_part}
use Rattle.system_model.specs.Limits.{frames_limit}
use Rattle.core_code.specs.Machine as code
use Rattle.core_code.specs.Terms.{part_types}
use Rattle.core_typing.specs.Held as held
use Rattle.core_typing.specs.Held.{Of}
use Rattle.dis_meaning.specs.Words.{Word}
use Rattle.dis_meaning.specs.Process.{Process}
use Rattle.dis_memory.specs.Blocks.{World}
use Rattle.dis_memory.specs.Process.{jumps}
use Rattle.value_words.specs.Facts.{Facts}
use Rattle.value_words.specs.Stands as memory
use Rattle.value_words.specs.Stands.{a_number, a_text, a_name, an_array, no_words, a_tuple, an_adt}
use Rattle.value_frames.specs.Frames.{Nowhere, AsReference, form_of, reference_place, room_for, within}
use Rattle.value_frames.specs.Standing.{RefersIdly}
use Rattle.value_moves.specs.Writing.{Writes, Lies}
use Rattle.value_stores.proofs.Parts.{parts_lie}
use Rattle.value_code.specs.Objects.{object_of, of_function}
use Rattle.value_code.specs.Works.{jump_to}
use Rattle.number_effects.proofs.Control.{control_goes}
use Rattle.number_effects.proofs.Stepping.{steps_obey}
use Rattle.value_follows.specs.Stands.{types_of, place_of, Ready, GoesOn}
use Rattle.value_follows.specs.Sides.{sides, HoldTheSame}
use Rattle.value_follows.specs.Rows.{place, Base, RowStands}
use Rattle.value_follows.proofs.Jumps.{inside_there}
use Rattle.value_follows.proofs.RootedValues.{stands_laid}
use Rattle.value_follows.proofs.Several.{Next, moved_to}
use Rattle.value_follows.proofs.Single.{nothing_changes}
use Rattle.rows_forming.proofs.Operands.{same_type}
use Rattle.rows_forming.proofs.Placing.{instr, part_ty, Task, Operand, known_then, reaches_on, does_place, goes_then, ready_then, slots_then}
use Rattle.rows_forming.proofs.Putting.{box_lies, put_stands}
use Rattle.rows_forming.proofs.Rowing.{Now, value_so, o, known_from, in_types, so_then, value_is, named_then, leads_then, bare_now}
use Rattle.rows_forming.proofs.Ways.{old_value, code_now}

nothing_stands : (defs : List Def) (k : Facts) (words : List Word) (at : ℕ) (t : Ty) (v : Value) → t ≡ ty.Nothing → memory.Stands defs k words at t v
    → v ≡ nothing
nothing_stands defs k words _ _ _ e (a_number at kind.Byte z f i) = absurd cc
nothing_stands defs k words _ _ _ e (a_number at kind.Int z f i) = absurd cc
nothing_stands defs k words _ _ _ e (a_number at kind.Big z f i) = absurd cc
nothing_stands defs k words _ _ _ e (a_text at r s f i) = absurd cc
nothing_stands defs k words _ _ _ e (a_name at ty.Nil r n i f h) = absurd cc
nothing_stands defs k words _ _ _ e (a_name at (ty.ListOf y) r n i f h) = absurd cc
nothing_stands defs k words _ _ _ e (a_name at (ty.ChanOf y) r n i f h) = absurd cc
nothing_stands defs k words _ _ _ e (a_name at (ty.RefAdt y) r n i f h) = absurd cc
nothing_stands defs k words _ _ _ e (a_name at (ty.RefPick y z) r n i f h) = absurd cc
nothing_stands defs k words _ _ _ e (a_name at (ty.Module y) r n i f h) = absurd cc
nothing_stands defs k words _ _ _ e (a_name at y r n i f h) = absurd i
nothing_stands defs k words _ _ _ e (an_array at t r p f i) = absurd cc
nothing_stands defs k words _ _ _ e (no_words at) = refl
nothing_stands defs k words _ _ _ e (a_tuple at ts rs vs l all) = absurd cc
nothing_stands defs k words _ _ _ e (an_adt at n d rs vs f l all) = absurd cc

none_written : (words : List Word) (at size : ℕ) → size ≡ 0 → Writes words words at words at size
none_written words at size e = record {
  many = refl;
  there = λ o l. absurd (omega (arith, l, e));
  bytes = λ c h. refl;
  words = λ c h. refl;
  refer = λ c r f. (r, f);
  referred = λ c r f. (r, f);
  ranged = λ s t. t;
}

module _ (m : typed.Module) (t : Ty) (variant : Option ℕ) (j part into from : ℕ) (b : Base m) (i : ℕ) (p : code.Process)
    (here : slice_get p.frame.code p.frame.pc ≡ Some (instr m t variant j part into from)) (number : ℕ) (f : typed.Function)
    (there_is : slice_get m.functions number ≡ Some f)
    (in_code : slice_get (of_function m f).code p.frame.pc ≡ Some (instr m t variant j part into from))
    (row : RowStands m number f p.frame.pc (instr m t variant j part into from)) (known : held.Slots)
    (task : Task m t variant j part into from known p) (lacks : part_ty m t variant j part into from ≡ ty.Nothing) where
  abbrev w_ty : Ty
  w_ty = part_ty m t variant j part into from

  abbrev old : Value
  old = old_value m t variant j part into from b i p here number f there_is in_code row known task

  module _ (far box : ℕ) (inner : List Word) (q : Process) (k : Facts) (w : Shared) (x : World)
      (s : Now m t variant j part into from b i p here number f there_is in_code row known task far box inner old q k x)
      (hold : HoldTheSame m k i x p q) (worlds : (sides m).worlds k w x) where
    abbrev operand : Operand m t variant j part into from b i p here number f there_is in_code row known task far box inner old q k w x s hold worlds
    operand = o m t variant j part into from b i p here number f there_is in_code row known task far box inner q k w x s hold worlds

    type_is : task.type ≡ ty.Nothing
    type_is = same_type task.type w_ty (λ e. let z : Nowhere ≡ AsReference = sym (ap form_of lacks) ∙ e in cc) task.fits ∙ lacks

    nowhere : (operand.value ≡ nothing) × RefersIdly m.adts k q.frame.words (reference_place m.adts (types_of m s.stands.is.function) from)
    nowhere = operand.reads.nowhere (ap form_of type_is)

    fit : operand.value ≡ fitted m.adts w_ty operand.value
    fit = nowhere.0 ∙ sym (ap (λ (u : Ty). fitted m.adts u operand.value) lacks)

    inside_types : part < length (part_types m.adts t)
    inside_types = in_types m t variant j part into from b i p here number f there_is in_code row known task far box inner q k w x s hold worlds

    lies : Lies m.adts k inner (within m.adts t (part ∷ [])) w_ty (room_for m.adts w_ty) operand.value
    lies =
        let e : 0 + within m.adts t (part ∷ []) ≡ within m.adts t (part ∷ []) = omega arith in
        let there = parts_lie.there m.adts k inner 0 t (part ∷ []) old (inside_types, tt)
        (box_lies m.adts t inner (stands_laid m.adts k inner 0 t old s.is) s.kind k old s.is) in
        let same = nothing_stands m.adts k inner (0 + within m.adts t (part ∷ [])) w_ty (value_part part (parts_of old)) lacks there.stands in
        subst (λ (v : Value). Lies m.adts k inner (within m.adts t (part ∷ [])) w_ty (room_for m.adts w_ty) v) (same ∙ sym nowhere.0)
        (subst (λ (a : ℕ). Lies m.adts k inner a w_ty (room_for m.adts w_ty) (value_part part (parts_of old))) e there)

    abbrev then_value : Value
    then_value = value_so m t variant j part into from b i p here number f there_is in_code row known task operand.value operand.live

    stands_then : memory.Stands m.adts k inner 0 t then_value
    stands_then =
        let size : (room_for m.adts w_ty).size ≡ 0 = ap (λ (u : Ty). (room_for m.adts u).size) lacks in
        subst (λ (v : Value). memory.Stands m.adts k inner 0 t v)
        (sym (value_is m t variant j part into from b i p here number f there_is in_code row known task far box inner q k w x s hold worlds fit))
        (put_stands m.adts k t inner old s.kind s.is part inside_types inner inner (within m.adts t (part ∷ [])) operand.value lies
        (none_written inner (within m.adts t (part ∷ [])) (room_for m.adts w_ty).size size))

    abbrev builds_so : Now m t variant j part into from b i p here number f there_is in_code row known task far box inner then_value q k x
    builds_so = record {
      stands = s.stands;
      number_is = s.number_is;
      function_is = s.function_is;
      known_is = s.known_is;
      pc = s.pc;
      spare = s.spare;
      none_made = s.none_made;
      word = s.word;
      there = s.there;
      free = s.free;
      made = s.made;
      formed = s.formed;
      kind = s.kind;
      is = stands_then;
      apart = s.apart;
      named = named_then m t variant j part into from b i p here number f there_is in_code row known task far box inner q k w x s hold worlds fit;
      leads = leads_then m t variant j part into from b i p here number f there_is in_code row known task far box inner q k w x s hold worlds fit;
    }

    abbrev pub after : code.Process
    after = code.with_frames p (code.at p.frame (suc p.frame.pc) p.frame.variables
        (slots_then m t variant j part into from b i p here number f there_is in_code row known task operand.value operand.live)) p.below

    pub lacking_ready : (to : ℕ) → to ≡ place_of m number f (suc p.frame.pc) → Ready m k i x after (moved_to q to q.frame.words)
    lacking_ready to e =
        ready_then m t variant j part into from b i p here number f there_is in_code row known task operand.value operand.live far box inner q k x
        builds_so w worlds
        (so_then m t variant j part into from b i p here number f there_is in_code row known task far box inner q k w x s hold worlds fit)
        (known_from m t variant j part into from b i p here number f there_is in_code row known task far box inner q k w x s hold worlds)
        (bare_now m t variant j part into from b i p here number f there_is in_code row known task far box inner then_value q k x builds_so)
        q.frame.words (record { each = λ u no. refl }) s.stands.is.words.kind nowhere.1 to e

    pub lacking_does : (sides m).program.step w p ≡ code.goes_on w p
        (slots_then m t variant j part into from b i p here number f there_is in_code row known task operand.value operand.live)
    lacking_does =
        does_place m t variant j part into from b i p here number f there_is in_code row known task operand.value operand.live w operand.holds

    pub lacking_goes : GoesOn m f (suc p.frame.pc)
        (known_then m t variant j part into from b i p here number f there_is in_code row known task operand.value operand.live)
    lacking_goes =
        goes_then m t variant j part into from b i p here number f there_is in_code row known task operand.value operand.live f
        (subst (λ (g : typed.Function). GoesOn m g p.frame.pc known) s.function_is
        (subst (λ (ks : held.Slots). GoesOn m s.stands.is.function p.frame.pc ks) s.known_is s.stands.goes)) in_code
        (known_from m t variant j part into from b i p here number f there_is in_code row known task far box inner q k w x s hold worlds)

    -- where the row is a jump
    abbrev far_place : ℕ
    far_place = place_of m number f (suc p.frame.pc + 0)

    pub jump_goes : slice_get (code_now m t variant j part into from b i p here number f there_is in_code row known task) far
        ≡ Some (jump_to far_place) → Next m b i p 0 k w x q
    jump_goes at =
        let target = place_of m number f (suc p.frame.pc) in
        let e : suc p.frame.pc + 0 ≡ suc p.frame.pc = omega arith in
        let same : far_place ≡ target = ap (λ (c : ℕ). place_of m number f c) e in
        let steps : (sides m).code.step x q ≡ jumps x q target =
        steps_obey.does frames_limit (object_of m ∷ []) x q (object_of m) (jump_to far_place) (jumps x q far_place)
        (reaches_on m t variant j part into from b i p here number f there_is in_code row known task far box inner old q k w x s hold worlds
        (jump_to far_place) at)
        (control_goes.jmp frames_limit (object_of m) x q (jump_to far_place) far_place refl refl
        (subst (λ (c : ℕ). c < length (object_of m).insts) (sym same) (inside_there m b number f (suc p.frame.pc)
        (known_then m t variant j part into from b i p here number f there_is in_code row known task operand.value operand.live) there_is lacking_goes)))
        ∙ ap (jumps x q) same in
        let ready = lacking_ready target refl in
        let u = moved_to q target q.frame.words in
        stepped (sides m) (place m) (λ l z r u. Way (sides m) (place m) 0 l i z r u) k k i w x x p q u steps (nothing_changes m k i x) w after
        lacking_does worlds (
          ready,
          b.holds_again k i w x after u ready worlds
              (b.there_again x x q u steps worlds.0.closed (λ c h. hold.same.live c (hold.same.roots c h))),
        )
