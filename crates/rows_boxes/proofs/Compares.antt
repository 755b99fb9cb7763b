-- How two bigs compare: the right one comes to the linkage, and the machine branches.
use Rattle.std.proofs.Common.{◌≡◌, ℕ, ℤ, suc, pos, ◌+◌, ◌<◌, Bool, true, false, List, [], ◌∷◌, length, Some, refl, sym, ap, ◌∙◌, subst, arith}
use Rattle.std.specs.Prelude.{slice_get}
use Rattle.process_model.specs.Process.{Went}
use Rattle.limbo_types.specs.Types as ty
use Rattle.limbo_types.specs.Types.{Ty}
use Rattle.limbo_values.specs.declared.number.Kind.TheVariants.{Int, Big}
use Rattle.limbo_values.specs.declared.operator.Comparison.{Comparison}
use Rattle.limbo_values.specs.declared.operator.Comparison.TheVariants as comparison
use Rattle.limbo_values.specs.Numbers.{InRange}
use Rattle.limbo_values.specs.Operators.{compared, truth}
use Rattle.limbo_values.proofs.Ranges.{within}
use Rattle.limbo_typed.specs.Typed as typed
use Rattle.limbo_typed.specs.declared.operation.Operation.TheVariants.{Compare}
use Rattle.limbo_meaning.specs.Process.{Shared}
use Rattle.limbo_meaning.specs.Trees.{Operate}
use Rattle.limbo_meaning.specs.Values.{Num, number_of, fitted}
use Rattle.system_model.specs.Limits.{frames_limit}
use Rattle.core_code.specs.Code.{Instr, Give}
use Rattle.core_code.specs.Machine as code
use Rattle.core_code.specs.Slots as core
use Rattle.core_code.specs.Slots.{Slot, Holds}
use Rattle.core_typing.specs.Held as held
use Rattle.core_typing.specs.Held.{Of}
use Rattle.core_typing.specs.Going.{got_by}
use Rattle.core_typing.specs.Needs.{AreThese, IsClean}
use Rattle.dis_isa.specs.declared.inst.Inst.{Inst}
use Rattle.dis_isa.specs.declared.inst.Middle.TheVariants as middle
use Rattle.dis_isa.specs.declared.inst.Operand.TheVariants as operand
use Rattle.dis_isa.specs.declared.op.Op.TheVariants as op
use Rattle.dis_memory.specs.Process.{jumps}
use Rattle.dis_memory.specs.Step.{obey}
use Rattle.dis_meaning.specs.Counts.{in_words}
use Rattle.dis_meaning.specs.Words.{Word, Plain, Found, ◌>>=◌, number_in}
use Rattle.dis_meaning.specs.Numbers.{Branches, number_row, number_at}
use Rattle.dis_meaning.specs.Process.{Process}
use Rattle.dis_memory.specs.Blocks.{World}
use Rattle.value_words.specs.Facts.{Facts}
use Rattle.value_words.proofs.Rows.{below}
use Rattle.value_frames.specs.Frames.{number_place, reference_place, passing_place}
use Rattle.value_moves.specs.Operands.{inst, own, of_own, behind}
use Rattle.value_moves.proofs.Leading.{spots_lead}
use Rattle.value_code.specs.Objects.{object_of, of_function}
use Rattle.value_code.specs.Works.{branch_op, jump_to}
use Rattle.number_effects.specs.Giving.{with_word, StoresWord}
use Rattle.number_effects.specs.Numbers.{where_holds}
use Rattle.number_effects.proofs.Control.{control_goes}
use Rattle.number_effects.proofs.Numbers.{numbers_work}
use Rattle.number_effects.proofs.Reading.{operands_are_read}
use Rattle.number_effects.proofs.Records.{words_move}
use Rattle.number_effects.proofs.Stepping.{steps_obey}
use Rattle.value_follows.specs.Stands.{Ready, GoesOn, place_of, types_of}
use Rattle.value_follows.specs.Sides.{sides, program, HoldTheSame}
use Rattle.value_follows.specs.Rows.{Base, InstrGoes, RowGoes}
use Rattle.value_follows.proofs.Standing.{same_some, finds, code_here, at_slots}
use Rattle.value_follows.proofs.Slots.{uses}
use Rattle.value_follows.proofs.Single.{Once, both_go}
use Rattle.value_follows.proofs.Several.{Next, moved_to, moved_names, names_as, hold_as, several, goes_silently, row_now, reaches_at}
use Rattle.value_follows.proofs.Jumps.{behind_it, inside_there, next_place}
use Rattle.value_follows.proofs.Putting.{NumberWord, old_word, ready_put}
use Rattle.value_follows.proofs.Decided.{truth_range}
use Rattle.value_follows.proofs.Arithmetic.{two_slots}
use Rattle.rows_boxes.specs.Rows.{BigComparesGo}
use Rattle.rows_boxes.proofs.Reading.{BigIs, big_is, big_source, carrier_there}
use Rattle.rows_boxes.proofs.Passing.{passing_big}
use Rattle.rows_boxes.proofs.Passed.{passes, rank_there, words_last}

op_row : (c : Comparison) → number_row (branch_op c Big) ≡ Some (Branches Big c)
op_row comparison.Equal = refl
op_row comparison.Unequal = refl
op_row comparison.Less = refl
op_row comparison.AtMost = refl
op_row comparison.Greater = refl
op_row comparison.AtLeast = refl

abbrev instr : Comparison → (into a d : ℕ) → Instr
instr c into a d = Give ty.Int (Operate (Compare c Big)) into (a ∷ d ∷ [])

module _ (m : typed.Module) (b : Base m) (c : Comparison) (into a d : ℕ) (k : Facts) (i : ℕ) (w : Shared) (x : World) (p : code.Process) (q : Process)
    (ready : Ready m k i x p q) (hold : HoldTheSame m k i x p q) (worlds : (sides m).worlds k w x)
    (here : slice_get p.frame.code p.frame.pc ≡ Some (instr c into a d)) where
  abbrev it : Instr
  it = instr c into a d

  abbrev function : typed.Function
  function = ready.stands.is.function

  abbrev known : held.Slots
  known = ready.stands.is.known

  abbrev begin : ℕ
  begin = place_of m ready.stands.is.number function p.frame.pc

  abbrev to : ℕ
  to = number_place m.adts (types_of m function) into

  abbrev box_of : ℕ → ℕ
  box_of r = reference_place m.adts (types_of m function) r

  in_code : slice_get (of_function m function).code p.frame.pc ≡ Some it
  in_code = code_here m k i x p q ready it here

  slot_there : into < length p.frame.slots
  slot_there = (uses m k i x [] p.frame q.frame ready.stands.is p.frame.pc it in_code).0

  clean : IsClean (held.slot known into)
  clean = (finds m function p.frame.pc known it ready.stands.goes in_code).3

  these : AreThese known (a ∷ d ∷ []) (ty.Big ∷ ty.Big ∷ [])
  these = let found = finds m function p.frame.pc known it ready.stands.goes in_code in subst (AreThese known (a ∷ d ∷ [])) found.2.0.0 found.1

  pub left : BigIs m k i x [] p.frame q.frame ready.stands.is function refl a
  left = big_is m k i x [] p.frame q.frame ready.stands.is function refl a (uses m k i x [] p.frame q.frame ready.stands.is p.frame.pc it in_code).1.0 (λ e. e) these.0

  pub right : BigIs m k i x [] p.frame q.frame ready.stands.is function refl d
  right = big_is m k i x [] p.frame q.frame ready.stands.is function refl d (uses m k i x [] p.frame q.frame ready.stands.is p.frame.pc it in_code).1.1.0 (λ e. e) these.1.0

  word_into : NumberWord m.adts (types_of m function) (length p.frame.slots) q.frame.words ready.stands.is.words.laid ready.stands.is.words.kind into slot_there
  word_into = old_word m k i x p q ready into slot_there clean

  goes : GoesOn m function (suc p.frame.pc) (held.put known into (Of ty.Int (got_by m.adts ty.Int (Operate (Compare c Big)))))
  goes = behind_it m b k i w x p q ready hold worlds it here 0 (suc p.frame.pc) _ (omega arith) refl

  next : q.frame.pc + 5 ≡ place_of m ready.stands.is.number function (suc p.frame.pc)
  next = next_place m b k i w x p q ready hold worlds it here 5 refl

  abbrev at : ℕ → Process
  at j = moved_to q (q.frame.pc + j) q.frame.words

  abbrev target : ℕ
  target = begin + 1 + 3

  abbrev branch : Inst
  branch = inst (branch_op c Big) (behind (box_of a) 0) (of_own passing_place) (operand.Imm (pos target))

  abbrev move : ℤ → Inst
  move z = inst op.Movw (operand.Imm z) middle.None (own to)

  end_within : target < length (object_of m).insts
  end_within =
      below (object_of m).insts target (move (pos 1))
      (ap (slice_get (object_of m).insts) (omega arith) ∙ (row_now m b k i w x p q ready hold worlds it here).insts 4 (move (pos 1)) refl)

  abbrev over : Bool → ℕ
  over true = 4
  over false = 2

  -- ---- the branch

  lands : (h : Bool) → where_holds x (at 1) h target ≡ Went x (at (over h))
  lands true = let e = ready.pc in ap (λ n. Went x (moved_to q n q.frame.words)) (omega (arith, e))
  lands false = ap (λ n. Went x (moved_to q n q.frame.words)) (omega arith)

  pub branches : (y z : ℤ) → y ≡ left.number → number_at Big q.frame.words (pos passing_place) ≡ Found z → (h : Bool) → compared c y z ≡ h
      → (sides m).code.step x (at 1) ≡ Went x (at (over h))
  branches y z same read h e =
      let there = carrier_there m k i x [] p.frame q.frame ready.stands.is function refl p q w hold worlds (box_of a) left.block left.inner left.word left.carries in
      steps_obey.does frames_limit (object_of m ∷ []) x (at 1) (object_of m) branch (where_holds x (at 1) h target)
      (reaches_at m b k i w x p q ready hold worlds it here 1 q.frame.words branch refl)
      (numbers_work.branches frames_limit (object_of m) x (at 1) branch Big c y z target (op_row c)
      (operands_are_read.source_number x (at 1) (behind (box_of a) 0) left.inner 0 Big
      (spots_lead.inner x (at 1) (box_of a) left.block left.inner 0 left.word there).0 ∙ left.found ∙ ap (λ (n : ℤ). Found n) (sym same))
      (operands_are_read.own_number x (at 1) Big passing_place ∙ read) refl end_within
      ∙ ap (λ g. Found (where_holds x (at 1) g target)) e)
      ∙ lands h

  -- ---- a number comes

  abbrev with_number : ℤ → List Word
  with_number z = with_word q.frame.words to (Plain z)

  stored : (z : ℤ) (j : ℕ)
      → StoresWord (obey frames_limit (object_of m) x (at j) (move z) op.Movw) x (at j) (spots_lead.own x (at j) to).0.place q.frame.words to (Plain z)
  stored z j =
      words_move.word frames_limit (object_of m) x (at j) (move z) (Plain z) q.frame.words to (spots_lead.own x (at j) to).0 word_into.old refl
      (operands_are_read.source_plain_given x (at j) z) word_into.plainly

  -- 1 behind the branch
  pub far_last : HoldTheSame m k i x p (at 4) → (sides m).program.step w p ≡ code.goes_on w p (core.put p.frame.slots into (Holds (Num (pos 1))))
      → Once m b i p (at 4) k w x
  far_last holds does =
      let st = stored (pos 1) 4 in
      words_last m b k i w x p q ready hold worlds it here refl 4 (move (pos 1)) refl refl holds into slot_there clean Int refl (pos 1) (truth_range true)
      (got_by m.adts ty.Int (Operate (Compare c Big))) goes (with_number (pos 1)) 4 (omega arith) st.0.changes
      (st.0.ranged (λ y e. subst (InRange Int) (let f : pos 1 ≡ y = cc in f) (truth_range true)) ready.stands.is.words.kind.ranged)
      (ap (λ a. a >>= number_in) st.0.there) st.1 does

  -- 0, and a jump
  pub near_moves : (sides m).code.step x (at 2) ≡ Went x (moved_to q (q.frame.pc + 3) (with_number (pos 0)))
  near_moves =
      let st = stored (pos 0) 2 in
      steps_obey.stores frames_limit (object_of m ∷ []) x (at 2) (object_of m) (move (pos 0)) x (spots_lead.own x (at 2) to).0.place (with_number (pos 0)) _
      (reaches_at m b k i w x p q ready hold worlds it here 2 q.frame.words (move (pos 0)) refl) st.1 ((spots_lead.own x (at 2) to).1 (with_number (pos 0)))
      ∙ ap (λ n. Went x (moved_to q n (with_number (pos 0)))) (omega arith)

  pub names_stay : (n : ℕ) → in_words n (with_number (pos 0)) ≡ in_words n q.frame.words
  names_stay n = names_as n q.frame.words _ word_into.old (Plain (pos 0)) word_into.there word_into.no_refer (λ r e. absurd cc)

  pub near_last : (others : List Word) → others ≡ with_number (pos 0) → HoldTheSame m k i x p (moved_to q (q.frame.pc + 3) others)
      → (sides m).program.step w p ≡ code.goes_on w p (core.put p.frame.slots into (Holds (Num (pos 0))))
      → Once m b i p (moved_to q (q.frame.pc + 3) others) k w x
  near_last others same holds does =
      let st = stored (pos 0) 2 in
      let now = moved_to q (q.frame.pc + 3) others in
      let e = ready.pc in
      let f = next in
      both_go m b i p now k w x holds worlds (at_slots m k i x p q ready (suc p.frame.pc) (core.put p.frame.slots into (Holds (Num (pos 0)))))
      (moved_to q (q.frame.pc + 5) others)
      (steps_obey.does frames_limit (object_of m ∷ []) x now (object_of m) (jump_to (begin + 1 + 4)) (jumps x now (begin + 1 + 4))
      (reaches_at m b k i w x p q ready hold worlds it here 3 others (jump_to (begin + 1 + 4)) refl)
      (control_goes.jmp frames_limit (object_of m) x now (jump_to (begin + 1 + 4)) (begin + 1 + 4) refl refl
      (subst (λ n. n < length (object_of m).insts) (omega (arith, e, f))
      (inside_there m b ready.stands.is.number function (suc p.frame.pc) _ ready.stands.is.there goes)))
      ∙ ap (λ n. Went x (moved_to q n others)) (omega (arith, e)))
      does
      (subst (λ (ws : List Word). Ready m k i x (at_slots m k i x p q ready (suc p.frame.pc) (core.put p.frame.slots into (Holds (Num (pos 0)))))
      (moved_to q (q.frame.pc + 5) ws)) (sym same)
      (ready_put m k i x p q ready into slot_there clean (with_number (pos 0)) 4 (omega arith) st.0.changes
      (st.0.ranged (λ y e. subst (InRange Int) (let f : pos 0 ≡ y = cc in f) (truth_range false)) ready.stands.is.words.kind.ranged) Int refl (pos 0)
      (got_by m.adts ty.Int (Operate (Compare c Big))) (ap (λ a. a >>= number_in) st.0.there) (truth_range false) (q.frame.pc + 5) next goes))

-- ---- the row

same_function : (m : typed.Module) (a c : ℕ) (f g : typed.Function) → slice_get m.functions a ≡ Some f → slice_get m.functions c ≡ Some g → a ≡ c → f ≡ g
same_function m a c f g d e s = same_some f g (sym d ∙ ap (slice_get m.functions) s ∙ e)

same_held : (y z : ℤ) → Holds (Num y) ≡ Holds (Num z) → y ≡ z
same_held y z e = cc

module _ (m : typed.Module) (b : Base m) (c : Comparison) (into a d : ℕ) (i : ℕ) (p : code.Process)
    (here : slice_get p.frame.code p.frame.pc ≡ Some (instr c into a d)) (y z : ℤ) (left_is : core.slot p.frame.slots a ≡ Holds (Num y))
    (right_is : core.slot p.frame.slots d ≡ Holds (Num z)) (f : Bool) (compares : compared c y z ≡ f) where
  does : (w : Shared) → (sides m).program.step w p ≡ code.goes_on w p (core.put p.frame.slots into (Holds (Num (truth f))))
  does w =
      ap (code.next frames_limit (program m) w p) here
      ∙ ap (λ (l : Slot). code.goes_on w p (core.put p.frame.slots into
      (Holds (fitted m.adts ty.Int (Num (truth (compared c (number_of (core.value_of l)) (number_of (core.value_of (core.slot p.frame.slots d)))))))))) left_is
      ∙ ap (λ (l : Slot). code.goes_on w p (core.put p.frame.slots into
      (Holds (fitted m.adts ty.Int (Num (truth (compared c y (number_of (core.value_of l))))))))) right_is
      ∙ ap (λ (n : ℤ). code.goes_on w p (core.put p.frame.slots into (Holds (Num n)))) (within Int (truth (compared c y z)) (truth_range (compared c y z)))
      ∙ ap (λ (g : Bool). code.goes_on w p (core.put p.frame.slots into (Holds (Num (truth g))))) compares

  module _ (q : Process) (read : number_at Big q.frame.words (pos passing_place) ≡ Found z) where
    abbrev there : ℕ → Process
    there j = moved_to q (q.frame.pc + j) q.frame.words

    -- the branch goes
    branched : (k : Facts) (w : Shared) (x : World) (s : Ready m k i x p q) (h : HoldTheSame m k i x p q) (worlds : (sides m).worlds k w x) (g : Bool) → f ≡ g
        → (sides m).code.step x (there 1) ≡ Went x (there (over m b c into a d k i w x p q s h worlds here g))
    branched k w x s h worlds g e =
        let l = left m b c into a d k i w x p q s h worlds here in
        branches m b c into a d k i w x p q s h worlds here y z (same_held y l.number (sym left_is ∙ l.holds)) read g (compares ∙ e)

    far : f ≡ true → (k : Facts) (w : Shared) (x : World) (s : Ready m k i x p q) → HoldTheSame m k i x p q → (sides m).worlds k w x → Next m b i p 1 k w x (there 1)
    far e k w x s h worlds =
        let start = rank_there m b k i w x p q s h worlds (instr c into a d) here refl 0 (there 1) (omega arith) refl in
        let end = rank_there m b k i w x p q s h worlds (instr c into a d) here refl 3 (there 4) (omega arith) refl in
        goes_silently m b i p 1 k w x (there 1) (there 4) (branched k w x s h worlds true e) worlds (omega (arith, start, end))
        (several m b i p q (there 4) (λ n. refl) 0 s.stands.is.number k x s refl h
        (λ now v u t o g g' worlds'.
        far_last m b c into a d now i v u p q t g worlds' here g'
        (does v ∙ ap (λ (j : Bool). code.goes_on v p (core.put p.frame.slots into (Holds (Num (truth j))))) e)))

    near : f ≡ false → (k : Facts) (w : Shared) (x : World) (s : Ready m k i x p q) → HoldTheSame m k i x p q → (sides m).worlds k w x → Next m b i p 2 k w x (there 1)
    near e k w x s h worlds =
        let start = rank_there m b k i w x p q s h worlds (instr c into a d) here refl 0 (there 1) (omega arith) refl in
        let end = rank_there m b k i w x p q s h worlds (instr c into a d) here refl 1 (there 2) (omega arith) refl in
        goes_silently m b i p 2 k w x (there 1) (there 2) (branched k w x s h worlds false e) worlds (omega (arith, start, end))
        (several m b i p q (there 2) (λ n. refl) 1 s.stands.is.number k x s refl h
        (λ now v u t o g g' worlds'. second now v u t g worlds'))
      where
        second : (k : Facts) (w : Shared) (x : World) (s : Ready m k i x p q) → HoldTheSame m k i x p q → (sides m).worlds k w x → Next m b i p 1 k w x (there 2)
        second k w x s h worlds =
            let others = with_number m b c into a d k i w x p q s h worlds here (pos 0) in
            let names = moved_names q (q.frame.pc + 3) others (names_stay m b c into a d k i w x p q s h worlds here) in
            let third = moved_to q (q.frame.pc + 3) others in
            let start = rank_there m b k i w x p q s h worlds (instr c into a d) here refl 1 (there 2) (omega arith) refl in
            let end = rank_there m b k i w x p q s h worlds (instr c into a d) here refl 2 third (omega arith) refl in
            goes_silently m b i p 1 k w x (there 2) third (near_moves m b c into a d k i w x p q s h worlds here) worlds (omega (arith, start, end))
            (several m b i p q third names 0 s.stands.is.number k x s refl (hold_as m b i p k x q third (λ l. sym (names l)) h)
            (λ now v u t o g g' worlds'.
            near_last m b c into a d now i v u p q t g worlds' here others
            (ap (λ (o : typed.Function). with_word q.frame.words (number_place m.adts (types_of m o) into) (Plain (pos 0)))
            (same_function m s.stands.is.number t.stands.is.number s.stands.is.function t.stands.is.function s.stands.is.there t.stands.is.there (sym o)))
            g' (does v ∙ ap (λ (j : Bool). code.goes_on v p (core.put p.frame.slots into (Holds (Num (truth j))))) e)))

  -- the right operand comes first
  first : (n : ℕ) (k : Facts) (w : Shared) (x : World) (q : Process) (r : Ready m k i x p q) → HoldTheSame m k i x p q → (sides m).worlds k w x
      → ((q : Process) → number_at Big q.frame.words (pos passing_place) ≡ Found z → (k : Facts) (w : Shared) (x : World) (s : Ready m k i x p q)
      → HoldTheSame m k i x p q → (sides m).worlds k w x → Next m b i p n k w x (moved_to q (q.frame.pc + 1) q.frame.words))
      → Next m b i p (suc n) k w x q
  first n k w x q r hold worlds rest =
      let is = r.stands.is in
      let v = right m b c into a d k i w x p q r hold worlds here in
      let it = inst op.Movl (behind (reference_place m.adts (types_of m is.function) d) 0) middle.None (own passing_place) in
      let old = passing_big m.adts (types_of m is.function) (length p.frame.slots) q.frame.words is.words.kind in
      let stored = numbers_work.moves frames_limit (object_of m) x q it Big v.number q.frame.words passing_place (spots_lead.own x q passing_place).0
      old.0 refl (big_source m k i x p q w hold worlds [] is is.function refl d v) old.1 in
      passes m b k i w x p q r hold worlds (instr c into a d) here refl it refl stored.0.others 8 (omega arith) (stored.0.changes (λ e. absurd cc))
      (stored.0.ranged v.range is.words.kind.ranged) stored.1 n (omega arith)
      (λ now u o s e h h' g.
      rest (moved_to q q.frame.pc stored.0.others) (stored.0.there v.range ∙ ap (λ (j : ℤ). Found j) (same_held v.number z (sym v.holds ∙ right_is)))
      now u o s h g)

  compared_goes : (k : Facts) (x : World) (q : Process) → (sides m).ready k i x p q → RowGoes m k i x p q
  compared_goes k x q ready = go f refl
    where
      go : (g : Bool) → f ≡ g → RowGoes m k i x p q
      go true e = (
        2,
        (ready.1, λ now y w left hold worlds. first 1 now w y q (b.ready_later k now i x y p q ready.0 left hold).0 hold worlds (λ q read. far q read e)),
      )
      go false e = (
        3,
        (ready.1, λ now y w left hold worlds. first 2 now w y q (b.ready_later k now i x y p q ready.0 left hold).0 hold worlds (λ q read. near q read e)),
      )

compares_go : (m : typed.Module) (b : Base m) (c : Comparison) (into a d : ℕ) → InstrGoes m (instr c into a d)
compares_go m b c into a d k i x p q ready here =
    let r = ready.0 in
    let is = r.stands.is in
    let in_code = code_here m k i x p q r (instr c into a d) here in
    let found = finds m is.function p.frame.pc is.known (instr c into a d) r.stands.goes in_code in
    let these = subst (AreThese is.known (a ∷ d ∷ [])) found.2.0.0 found.1 in
    let named = uses m k i x [] p.frame q.frame is p.frame.pc (instr c into a d) in_code in
    let y = big_is m k i x [] p.frame q.frame is is.function refl a named.1.0 (λ e. e) these.0 in
    let z = big_is m k i x [] p.frame q.frame is is.function refl d named.1.1.0 (λ e. e) these.1.0 in
    compared_goes m b c into a d i p here y.number z.number y.holds z.holds (compared c y.number z.number) refl k x q ready

pub big_compares_go : BigComparesGo
big_compares_go m b t c into from k i x p q ready here =
    let it = Give t (Operate (Compare c Big)) into from in
    let r = ready.0 in
    let known = r.stands.is.known in
    let found = finds m r.stands.is.function p.frame.pc known it r.stands.goes (code_here m k i x p q r it here) in
    let slots = two_slots known from ty.Big ty.Big (subst (AreThese known from) found.2.0.0 found.1) in
    compares_go m b c into slots.0 slots.1 k i x p q ready
    (here ∙ ap (λ (u : Ty). Some (Give u (Operate (Compare c Big)) into from)) found.2.0.1
    ∙ ap (λ (rs : List ℕ). Some (Give ty.Int (Operate (Compare c Big)) into rs)) slots.2)
