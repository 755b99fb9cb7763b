-- A loop of an initialiser begins: its slot gets 0 for the next index, and refers to nothing.
use Rattle.std.proofs.Common.{◌≡◌, ℕ, suc, pos, ◌+◌, ◌/◌, ◌<◌, ◌≤◌, List, [], ◌∷◌, length, Option, Some, None, refl, sym, ap, ◌∙◌, arith, inl, inr}
use Rattle.std.specs.Prelude.{slice_get}
use Rattle.std.proofs.lemmas.Int.{ints}
use Rattle.process_model.specs.Process.{Went}
use Rattle.limbo_types.specs.Types.{Ty}
use Rattle.limbo_values.specs.declared.number.Kind.TheVariants.{Int}
use Rattle.limbo_values.specs.Numbers.{InRange}
use Rattle.limbo_typed.specs.Typed as typed
use Rattle.limbo_meaning.specs.Process.{Shared}
use Rattle.system_model.specs.Limits.{frames_limit}
use Rattle.core_code.specs.Code.{Start}
use Rattle.core_code.specs.Machine as code
use Rattle.core_code.specs.Slots as core
use Rattle.core_typing.specs.Held as held
use Rattle.core_typing.specs.Held.{Turns}
use Rattle.core_typing.specs.Needs.{IsClean}
use Rattle.dis_isa.specs.declared.inst.Inst.{Inst}
use Rattle.dis_isa.specs.declared.inst.Middle.TheVariants as middle
use Rattle.dis_isa.specs.declared.op.Op.TheVariants as op
use Rattle.dis_meaning.specs.Words.{Word, Plain, Refer, Found, word_at}
use Rattle.dis_meaning.specs.Process.{Process}
use Rattle.dis_memory.specs.Blocks.{World}
use Rattle.value_words.specs.Facts.{Facts}
use Rattle.value_frames.specs.Frames.{answer_place, spare_place, number_place, reference_place}
use Rattle.value_frames.specs.Standing.{a_loop, no_chain}
use Rattle.value_moves.specs.Operands.{inst, own}
use Rattle.value_moves.proofs.Leading.{spots_lead}
use Rattle.value_code.specs.Objects.{object_of, of_function}
use Rattle.value_code.specs.Data.{nil_word}
use Rattle.number_effects.specs.Giving.{with_word, StoresWord, WordStored}
use Rattle.number_effects.proofs.Records.{words_move}
use Rattle.number_effects.proofs.Stepping.{steps_obey}
use Rattle.dis_memory.specs.Step.{obey}
use Rattle.value_follows.specs.Stands.{types_of, Awaited, Ready}
use Rattle.value_follows.specs.Sides.{sides, HoldTheSame, program}
use Rattle.value_follows.specs.Rows.{Base, RowStands}
use Rattle.limbo_types.specs.Types as ty
use Rattle.limbo_meaning.specs.Values.{Value, Ref}
use Rattle.limbo_layout.specs.Adts.{Def}
use Rattle.dis_meaning.specs.Words.{Access, ◌>>=◌, reference}
use Rattle.dis_memory.specs.Places.{source_reference}
use Rattle.value_words.specs.Stands.{Stands, a_number, a_text, a_name, an_array, no_words, a_tuple, an_adt}
use Rattle.value_code.specs.Objects.{placed}
use Rattle.number_effects.proofs.Reading.{operands_are_read}
use Rattle.value_follows.proofs.Standing.{finds, goes_behind, instance_here, code_here, ready_on, at_slots}
use Rattle.value_follows.proofs.Slots.{uses}
use Rattle.value_follows.proofs.Single.{nothing_changes, Once}
use Rattle.value_follows.proofs.Several.{Next, moved_to, moved_names, hold_as}
use Rattle.value_frames.proofs.Slots.{put_long}
use Rattle.value_follows.specs.Stands.{GoesOn}
use Rattle.dis_memory.specs.Naming as machine
use Rattle.value_moves.specs.Changing.{Changes}
use Rattle.value_follows.proofs.Putting.{word_same}
use Rattle.rows_answers.specs.Rows.{StartsGo}
use Rattle.rows_answers.proofs.OnTheWay.{On, frame_is, ready_of, on_ready, way_on, reaches_first, reaches_on, further, goes_silently, goes_both, next_row}
use Rattle.rows_answers.proofs.Numbers.{at_rest, holding_then, lies_apart, changes_both, numbered, same_range, names_same, stored, moves_number}

-- a word that stands for `nil` refers to nothing
nil_refers : (defs : List Def) (k : Facts) (words : List Word) (at : ℕ) (t : Ty) (v : Value) → v ≡ Ref None → Stands defs k words at t v
    → word_at words (pos at) ≡ Found (Refer None)
nil_refers defs k words _ _ _ e (a_number at j z f i) = absurd cc
nil_refers defs k words _ _ _ e (a_text at r s f i) = absurd cc
nil_refers defs k words _ _ _ e (a_name at t None n i f h) = f
nil_refers defs k words _ _ _ e (a_name at t (Some b) None i f h) = absurd h
nil_refers defs k words _ _ _ e (a_name at t (Some b) (Some n) i f h) = absurd cc
nil_refers defs k words _ _ _ e (an_array at t r p f i) = absurd cc
nil_refers defs k words _ _ _ e (no_words at) = absurd cc
nil_refers defs k words _ _ _ e (a_tuple at ts rs vs l a) = absurd cc
nil_refers defs k words _ _ _ e (an_adt at n d rs vs f l a) = absurd cc

pub zero_range : InRange Int (pos 0)
zero_range = record { above = omega (arith, ints); below = omega (arith, ints) }

-- the word of the module's data that refers to nothing is read so
module _ (m : typed.Module) (b : Base m) (k : Facts) (i : ℕ) (w : Shared) (x : World) (n : ℕ) (f : typed.Function) (p : code.Process) (q : Process)
    (on : On m k i x Awaited n f 0 p q) (hold : HoldTheSame m k i x p q) (worlds : (sides m).worlds k w x) where
  pub nil_read : (pc : ℕ) (words : List Word) → source_reference x (moved_to q pc words) nil_word ≡ Found None
  nil_read pc words =
      let instance = instance_here m b k i w x p q [] (frame_is m k i x Awaited n f 0 p q on) hold worlds.0 in
      let stands = (instance.2 (placed m 4 ty.Nil (Ref None)) (inr (inl refl))).stands in
      operands_are_read.source_referring x (moved_to q pc words) nil_word instance.0 4
      (spots_lead.of_module x (moved_to q pc words) 0 instance.0 4 instance.1).0
      ∙ ap (λ (a : Access Word). a >>= reference) (nil_refers m.adts k instance.0 4 ty.Nil (Ref None) refl stands)

module _ (m : typed.Module) (b : Base m) (loop i : ℕ) (p : code.Process) (q : Process) (n : ℕ) (f : typed.Function)
    (there : slice_get m.functions n ≡ Some f) (here : slice_get p.frame.code p.frame.pc ≡ Some (Start loop))
    (in_code : slice_get (of_function m f).code p.frame.pc ≡ Some (Start loop)) (row : RowStands m n f p.frame.pc (Start loop))
    (few : loop < length p.frame.slots) where
  abbrev types : List Ty
  types = types_of m f

  abbrev n_at : ℕ
  n_at = number_place m.adts types loop

  abbrev r_at : ℕ
  r_at = reference_place m.adts types loop

  abbrev words_one : List Word
  words_one = with_word q.frame.words n_at (Plain (pos 0))

  abbrev words_two : List Word
  words_two = with_word words_one r_at (Refer None)

  module _ (k : Facts) (w : Shared) (x : World) (on : On m k i x Awaited n f 0 p q) (hold : HoldTheSame m k i x p q) (worlds : (sides m).worlds k w x) where
    abbrev known_then : held.Slots
    known_then = held.put on.known loop (Turns held.NoRegion)

    abbrev at_one : Process
    at_one = moved_to q (q.frame.pc + 1) words_one

    goes : GoesOn m f (suc p.frame.pc) known_then
    goes = goes_behind m f p.frame.pc on.known (Start loop) on.goes in_code 0 (suc p.frame.pc) known_then (omega arith) refl

    clean : IsClean (held.slot on.known loop)
    clean = finds m f p.frame.pc on.known (Start loop) on.goes in_code

    -- the number
    one_stored : WordStored q.frame.words n_at (Plain (pos 0))
    one_stored = stored m types (length p.frame.slots) q on.words.laid on.words.kind loop few (pos 0) zero_range x

    -- the reference
    old_reference : (r : Option ℕ) × (word_at words_one (pos r_at) ≡ Found (Refer r))
    old_reference =
        let idle = (at_rest m k i x.heap q.frame.serial types p.frame.variables on.known p.frame.slots q.frame.words (on.words, on.mine) loop few clean).0 in (
          idle.0,
          lies_apart m k i x.heap q.frame.serial types p.frame.variables on.known p.frame.slots q.frame.words (on.words, on.mine) loop few words_one n_at 4
              one_stored.changes r_at (inr (omega arith))
              ∙ idle.1,
        )

    abbrev move : Inst
    move = inst op.Movp nil_word middle.None (own r_at)

    two_stores : StoresWord (obey frames_limit (object_of m) x at_one move op.Movp) x at_one (spots_lead.own x at_one r_at).0.place words_one r_at (Refer None)
    two_stores =
        words_move.reference frames_limit (object_of m) x at_one move None words_one r_at (spots_lead.own x at_one r_at).0 old_reference.0 refl
        (nil_read m b k i w x n f p q on hold worlds (q.frame.pc + 1) words_one) old_reference.1

    both_changes : Changes q.frame.words words_two n_at 8
    both_changes =
        changes_both q.frame.words words_one words_two n_at 8 n_at 4 r_at 4 (omega arith) (omega arith) (omega arith) (omega arith) one_stored.changes
        two_stores.0.changes

    number_there : word_at words_two (pos n_at) ≡ Found (Plain (pos 0))
    number_there = word_same words_one words_two n_at (two_stores.0.changes.words (n_at / 4) (inl (omega arith))) ∙ one_stored.there

    ready_then : Ready m k i x (at_slots m k i x p q (ready_of m k i x n f p q on) (suc p.frame.pc) (core.put p.frame.slots loop (core.Turns 0 core.NoRegion)))
        (moved_to q (q.frame.pc + 2) words_two)
    ready_then =
        let ranged = two_stores.0.ranged (λ z e. absurd cc) (one_stored.ranged (same_range m types (length p.frame.slots) q on.words.laid on.words.kind loop few (pos 0) zero_range) on.words.kind.ranged) in
        let from : n_at ≤ n_at = omega arith in
        let after = holding_then m k i x.heap q.frame.serial types p.frame.variables on.known p.frame.slots q.frame.words (on.words, on.mine) loop few
        words_two n_at 8 from (omega arith) both_changes ranged (Turns held.NoRegion) (core.Turns 0 core.NoRegion)
        (a_loop words_two n_at r_at 0 held.NoRegion core.NoRegion [] number_there (no_chain words_two r_at two_stores.0.there)) in
        let at = on.pc in
        let next = next_row m b i p n f (Start loop) row in_code 2 refl in
        ready_on m k i x p q (ready_of m k i x n f p q on) (suc p.frame.pc) (q.frame.pc + 2) known_then (core.put p.frame.slots loop (core.Turns 0 core.NoRegion))
        words_two (put_long p.frame.slots loop (core.Turns 0 core.NoRegion)) after.0 after.1 goes (omega (arith, at, next))
        (word_same q.frame.words words_two answer_place (both_changes.words (answer_place / 4) (inl (omega arith))))
        (word_same q.frame.words words_two (spare_place m.adts types) (both_changes.words (spare_place m.adts types / 4) (inl (omega arith))))

    second : HoldTheSame m k i x p at_one → Once m b i p at_one k w x
    second hold_one =
        goes_both m b i p n f (Start loop) row k k w w x x at_one hold_one worlds (nothing_changes m k i x) worlds
        (at_slots m k i x p q (ready_of m k i x n f p q on) (suc p.frame.pc) (core.put p.frame.slots loop (core.Turns 0 core.NoRegion)))
        (moved_to q (q.frame.pc + 2) words_two)
        (steps_obey.stores frames_limit (object_of m ∷ []) x at_one (object_of m) move x (spots_lead.own x at_one r_at).0.place words_two _
        (reaches_on m b i p n f (Start loop) row Awaited 0 1 1 (omega arith) q k w x on hold worlds words_one move refl) two_stores.1
        ((spots_lead.own x at_one r_at).1 words_two)
        ∙ ap (λ (c : ℕ). Went x (moved_to q c words_two)) (omega arith))
        (ap (code.next frames_limit (program m) w p) here) ready_then

    same_names : (c : ℕ) → machine.names at_one c ≡ machine.names q c
    same_names =
        moved_names q (q.frame.pc + 1) words_one (names_same m types (length p.frame.slots) q on.words.laid on.words.kind loop few (pos 0) zero_range)

  first : (k : Facts) (w : Shared) (x : World) (on : On m k i x Awaited n f 0 p q) → HoldTheSame m k i x p q → (sides m).worlds k w x
      → Next m b i p 1 k w x q
  first k w x on hold worlds =
      let at = on.pc in
      let step = moves_number m types (length p.frame.slots) q on.words.laid on.words.kind loop few (pos 0) zero_range x
      (reaches_first m b i p n f (Start loop) row Awaited 0 q k w x on hold worlds (numbered (pos 0) n_at) refl)
      ∙ ap (λ (c : ℕ). Went x (moved_to q c words_one)) (omega arith) in
      let names = same_names k w x on hold worlds in
      goes_silently m b i p n f (Start loop) row 1 k k w x x q (moved_to q (q.frame.pc + 1) words_one) step (nothing_changes m k i x) worlds
      (further m b i p n f (Start loop) row there in_code refl 0 1 q (moved_to q (q.frame.pc + 1) words_one) (omega arith) (omega arith) (omega (arith, at)) (omega (arith, at)))
      (way_on m b i p n f (Start loop) row Awaited 0 q (moved_to q (q.frame.pc + 1) words_one) names 0 k x on
      (hold_as m b i p k x q (moved_to q (q.frame.pc + 1) words_one) (λ c. sym (names c)) hold)
      (λ now v y grows then h hold_one e. second now v y then h e hold_one))

pub starts_go : StartsGo
starts_go m b loop k i x p q ready here =
    let n = ready.0.stands.is.number in
    let f = ready.0.stands.is.function in
    let there = ready.0.stands.is.there in
    let in_code = code_here m k i x p q ready.0 (Start loop) here in
    let row = b.row_stands n f p.frame.pc (Start loop) there in_code in
    let few = uses m k i x [] p.frame q.frame ready.0.stands.is p.frame.pc (Start loop) in_code in (
      1,
      way_on m b i p n f (Start loop) row Awaited 0 q q (λ c. refl) 1 k x (on_ready m i p q k x ready.0) ready.1
          (λ now w y grows on h hold worlds. first m b loop i p q n f there here in_code row few now w y on hold worlds),
    )
