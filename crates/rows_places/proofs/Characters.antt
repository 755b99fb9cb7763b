-- Characters of strings at places that are read into slots.
use Rattle.std.proofs.Common.{◌≡◌, ℕ, ℤ, Bool, true, false, if◌then◌else◌, zero, suc, pos, negsuc, ◌+◌, ◌<◌, List, [], ◌∷◌, length, Option, Some, None, refl, sym, ap, ◌∙◌, subst, arith}
use Rattle.std.specs.Prelude.{Result, Ok, Err, slice_get, slice_index, slice_index_or, nat_lt}
use Rattle.std.proofs.lemmas.Int.{ints}
use Rattle.inf_text.specs.Steps.{◌>>=◌}
use Rattle.process_model.specs.Process.{Ends}
use Rattle.heap_model.specs.Heap.{at, there as is_live}
use Rattle.system_model.specs.Ending.{Broken}
use Rattle.system_model.specs.Limits.{frames_limit}
use Rattle.limbo_types.specs.Types as ty
use Rattle.limbo_types.specs.Types.{Ty}
use Rattle.limbo_layout.specs.Laying.{AllBelow}
use Rattle.limbo_values.specs.declared.number.Kind.TheVariants as kind
use Rattle.limbo_values.specs.declared.number.Kind.TheVariants.{Int}
use Rattle.limbo_values.specs.declared.raised.Raised.{Raised}
use Rattle.limbo_values.specs.declared.raised.Raised.TheVariants.{ArrayBounds}
use Rattle.limbo_values.specs.Numbers.{InRange}
use Rattle.limbo_values.specs.Operators.{text_of as raised_text}
use Rattle.limbo_values.specs.Texts.{character_in}
use Rattle.limbo_values.proofs.Ranges.{within}
use Rattle.limbo_typed.specs.Typed as typed
use Rattle.limbo_kept.specs.Values.{AreCharacters}
use Rattle.limbo_meaning.specs.Exceptions.{Raising, with_text}
use Rattle.limbo_meaning.specs.Evaluation as evaluation
use Rattle.limbo_meaning.specs.Memory.{Memory}
use Rattle.limbo_meaning.specs.Places.{Root, part_at, root_value, part_read, character_at, count_of, operand}
use Rattle.limbo_meaning.specs.Process.{Shared}
use Rattle.limbo_meaning.specs.Trees.{Read}
use Rattle.limbo_meaning.specs.Values.{Value, Num, Chars, fitted, nothing, number_of, text_of}
use Rattle.core_code.specs.Code.{Instr, Give}
use Rattle.core_code.specs.Machine as code
use Rattle.core_code.specs.Slots as core
use Rattle.core_code.specs.Slots.{Holds, slot, value_of, values_of}
use Rattle.core_typing.specs.Held as held
use Rattle.core_typing.specs.Held.{Of}
use Rattle.core_typing.specs.Needs.{IsA, IsClean}
use Rattle.core_typing.specs.Going.{got_by}
use Rattle.dis_isa.specs.declared.inst.Operand as isa
use Rattle.dis_isa.specs.declared.op.Op.TheVariants as op
use Rattle.dis_meaning.specs.Words.{Word, Refer, Found, word_at}
use Rattle.dis_meaning.specs.Process.{Process, Printing}
use Rattle.dis_memory.specs.Blocks.{World}
use Rattle.value_words.specs.Facts.{Facts, IsText}
use Rattle.value_words.specs.Stands.{Stands}
use Rattle.value_frames.specs.Frames.{number_place}
use Rattle.value_moves.specs.Operands.{inst, own, of_own}
use Rattle.value_moves.specs.Spots.{Leads}
use Rattle.value_moves.proofs.Changing.{words_change}
use Rattle.value_code.specs.Objects.{object_of, of_function, size_at}
use Rattle.value_follows.specs.Stands.{Ready, GoesOn, types_of}
use Rattle.value_follows.specs.Sides.{sides, HoldTheSame, program}
use Rattle.value_follows.specs.Rows.{Base}
use Rattle.value_follows.proofs.Slots.{number_is}
use Rattle.value_follows.proofs.Single.{Once}
use Rattle.value_follows.proofs.Jumps.{behind_it}
use Rattle.value_follows.proofs.Putting.{old_word}
use Rattle.number_effects.proofs.Reading.{operands_are_read}
use Rattle.block_effects.specs.Stored.{NumberThere}
use Rattle.block_effects.proofs.Strings.{strings_come}
use Rattle.rows_places.specs.Rows.{character_from}
use Rattle.rows_places.proofs.Last.{there, begins_at, number_comes, number_leads, raised_here}
use Rattle.rows_places.proofs.TextPlaces.{text_is, reads_text}

-- ---- characters are ints

characters_range : (s : List ℕ) (n : ℕ) → AreCharacters s → InRange kind.Int (pos (slice_index s n))
characters_range [] n all = record { above = omega (arith, ints); below = omega (arith, ints) }
characters_range (c ∷ cs) zero all = let l = all.0 in record { above = omega (arith, ints); below = omega (arith, ints, l) }
characters_range (c ∷ cs) (suc n) all = characters_range cs n all.1

character_range : (s : List ℕ) (z c : ℤ) → AreCharacters s → character_in s z ≡ Ok c → InRange kind.Int c
character_range s (negsuc n) c all e = absurd cc
character_range s (pos n) c all e = go (nat_lt n (length s)) e
  where
    go : (b : Bool) → ((if b then Ok n else Err ArrayBounds) >>= λ k. Ok (pos (slice_index s k))) ≡ Ok c → InRange kind.Int c
    go true f = let same : pos (slice_index s n) ≡ c = cc in subst (InRange kind.Int) same (characters_range s n all)
    go false f = absurd cc

-- ---- slots by numbers

pub are_characters : (k : Facts) (r : Option ℕ) (s : List ℕ) → IsText k r s → AreCharacters s
are_characters k None s e = subst AreCharacters (sym e) tt
are_characters k (Some b) s e = e.1.0

pub values_at : (slots : core.Slots) (rs : List ℕ) (n c : ℕ) → slice_get rs n ≡ Some c → slice_index_or (values_of slots rs) n nothing ≡ value_of (slot slots c)
values_at slots [] n c e = absurd cc
values_at slots (r ∷ rs) zero c e = let same : r ≡ c = cc in ap (λ (x : ℕ). value_of (slot slots x)) same
values_at slots (r ∷ rs) (suc n) c e = values_at slots rs n c e

pub index_at : (rs : List ℕ) (n c d : ℕ) → slice_get rs n ≡ Some c → slice_index_or rs n d ≡ c
index_at [] n c d e = absurd cc
index_at (r ∷ rs) zero c d e = cc
index_at (r ∷ rs) (suc n) c d e = index_at rs n c d e

pub below_at : (l : ℕ) (rs : List ℕ) (n c : ℕ) → AllBelow l rs → slice_get rs n ≡ Some c → c < l
below_at l [] n c all e = absurd cc
below_at l (r ∷ rs) zero c all e = let same : r ≡ c = cc in subst (λ x. x < l) same all.0
below_at l (r ∷ rs) (suc n) c all e = below_at l rs n c all.1 e

module _ (m : typed.Module) (b : Base m) (k : Facts) (i : ℕ) (w : Shared) (x : World) (p : code.Process) (q : Process) (ready : Ready m k i x p q)
    (hold : HoldTheSame m k i x p q) (worlds : (sides m).worlds k w x) (t : Ty) (root : Root) (part : List ℕ) (into : ℕ) (from : List ℕ)
    (here : slice_get p.frame.code p.frame.pc ≡ Some (Give t (Read (character_from root part)) into from)) where
  abbrev instr : Instr
  instr = Give t (Read (character_from root part)) into from

  abbrev f : typed.Function
  f = ready.stands.is.function

  abbrev known : held.Slots
  known = ready.stands.is.known

  abbrev store : Memory
  store = code.memory_of w p.frame

  abbrev operands : List Value
  operands = values_of p.frame.slots from

  -- ---- what the source does

  abbrev comes_to : Raising Value → code.Does
  comes_to r = code.gives frames_limit (program m) w p into (evaluation.unless_raised r (evaluation.gets m.adts store t))

  abbrev reads_by : Raising Value → Raising Value
  reads_by r = r >>= λ v. part_read (record { type = t; way = character_from root part; operands = operands }) (part_at part v)

  pub character_raises : (text : List ℕ) → root_value store root operands ≡ Err text → (sides m).program.step w p ≡ Ends w (Broken text)
  character_raises text raised = ap (code.next frames_limit (program m) w p) here ∙ ap (λ (r : Raising Value). comes_to (reads_by r)) raised

  module _ (old : Value) (rooted : root_value store root operands ≡ Ok old) (chars : List ℕ) (is : part_at part old ≡ Chars chars)
      (c : ℕ) (index_there : slice_get from (count_of root) ≡ Some c) (z : ℤ) (index_is : value_of (slot p.frame.slots c) ≡ Num z) where
    does_so : (sides m).program.step w p ≡ comes_to (with_text (character_in chars z) >>= λ y. Ok (Num y))
    does_so =
        ap (code.next frames_limit (program m) w p) here ∙ ap (λ (r : Raising Value). comes_to (reads_by r)) rooted
        ∙ ap (λ (v : Value). comes_to (character_at (text_of v) (number_of (operand (count_of root) operands)))) is
        ∙ ap (λ (v : Value). comes_to (character_at chars (number_of v))) (values_at p.frame.slots from (count_of root) c index_there ∙ index_is)

    does_read : t ≡ ty.Int → (y : ℤ) → InRange kind.Int y → character_in chars z ≡ Ok y
        → (sides m).program.step w p ≡ code.goes_on w p (core.put p.frame.slots into (Holds (Num y)))
    does_read e y range found =
        does_so ∙ ap (λ (r : Result ℤ Raised). comes_to (with_text r >>= λ y. Ok (Num y))) found
        ∙ ap (λ (u : Ty). code.goes_on w p (core.put p.frame.slots into (Holds (fitted m.adts u (Num y))))) e
        ∙ ap (λ (v : ℤ). code.goes_on w p (core.put p.frame.slots into (Holds (Num v)))) (within kind.Int y range)

    does_raise : (raised : Raised) → character_in chars z ≡ Err raised → (sides m).program.step w p ≡ Ends w (Broken (raised_text raised))
    does_raise raised e = does_so ∙ ap (λ (r : Result ℤ Raised). comes_to (with_text r >>= λ y. Ok (Num y))) e

  -- ---- the last instruction

  module _ (e : t ≡ ty.Int) (pc : ℕ) (pr : Option Printing) (j : ℕ) (so_far : pc ≡ q.frame.pc + j)
      (size : size_at m f.of.answer (of_function m f) p.frame.pc (Some instr) ≡ j + 1) (below : into < length p.frame.slots) (clean : IsClean (held.slot known into))
      (c : ℕ) (below_c : c < length p.frame.slots) (index_there : slice_get from (count_of root) ≡ Some c) (is_int : IsA known c ty.Int) where
    abbrev at_now : Process
    at_now = there m b k i w x p q ready hold worlds instr here pc pr j so_far

    abbrev n_at : ℕ
    n_at = number_place m.adts (types_of m f) into

    pub character_comes : (o : isa.Operand) (words : List Word) (byte : ℕ) → Leads x at_now o words byte → (old : Value)
        → root_value store root operands ≡ Ok old → Stands m.adts k words byte ty.Chars (part_at part old)
        → ((u : ℕ) → word_at words (pos byte) ≡ Found (Refer (Some u)) → is_live (at x.heap u) ≡ true)
        → begins_at m b k i w x p q ready hold worlds instr here pc pr j so_far
        (inst op.Indc o (of_own (number_place m.adts (types_of m f) c)) (own n_at))
        → Once m b i p at_now k w x
    character_comes o words byte leads old rooted stands lives begins =
        let text = text_is m k words byte ty.Chars (part_at part old) refl stands in
        let n = number_is m k i x [] p.frame q.frame ready.stands.is Int c refl below_c (λ e. e) is_int in
        let c_at = number_place m.adts (types_of m f) c in
        let old_there = (old_word m k i x p q ready into below clean).number kind.Int refl in
        let lead = number_leads m b k i w x p q ready hold worlds instr here pc pr j so_far size into below clean in
        let target : NumberThere x at_now Int (own n_at) = record { words = q.frame.words; byte = n_at; leads = lead; old = old_there.0; stands = old_there.1 } in
        let reads = reads_text m k i w x p q ready hold worlds pc pr o words byte leads (part_at part old) text lives in
        let index = operands_are_read.own_number x at_now Int c_at ∙ n.found in
        let index_is = ap value_of n.holds in
        let all = are_characters k text.refers text.chars text.text in
        let strings = (strings_come frames_limit (object_of m) x at_now).read in
        let live = got_by m.adts t (Read (character_from root part)) in
        let goes = behind_it m b k i w x p q ready hold worlds instr here 0 (suc p.frame.pc) (held.put known into (Of t live)) (omega arith) refl in
        let by : (r : Result ℤ Raised) → character_in text.chars n.number ≡ r → Once m b i p at_now k w x =
        λ r. elim r as (λ r. character_in text.chars n.number ≡ r → Once m b i p at_now k w x) [
          | Ok y ↦ λ found.
              let range = character_range text.chars n.number y all found in
              let stored = words_change.number Int q.frame.words n_at old_there.0 y old_there.1 in
              number_comes m b k i w x p q ready hold worlds instr here pc pr j so_far size into below clean
              (inst op.Indc o (of_own c_at) (own n_at)) begins kind.Int refl y range live
              (subst (λ u. GoesOn m f (suc p.frame.pc) (held.put known into (Of u live))) e goes)
              (does_read old rooted text.chars text.is c index_there n.number index_is e y range found)
              stored.others 4 (omega arith)
              (strings.character o (own n_at) (of_own c_at) text.chars n.number y stored.others target reads index found stored.found)
              (stored.changes (λ g. range)) (stored.ranged range ready.stands.is.words.kind.ranged) (stored.there range)
          | Err raised ↦ λ out.
              raised_here m b k i w x p q ready hold worlds instr here pc pr j so_far (inst op.Indc o (of_own c_at) (own n_at)) begins (raised_text raised)
              (strings.no_character o (own n_at) (of_own c_at) text.chars n.number raised target reads index out)
              (does_raise old rooted text.chars text.is c index_there n.number index_is raised out)
        ] in
        by (character_in text.chars n.number) refl
