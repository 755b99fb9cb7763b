-- How two strings compare: 1 behind a branch, or 0 and a jump.
use Rattle.std.proofs.Common.{◌≡◌, ℕ, ℤ, Bool, true, false, suc, pos, ◌+◌, ◌<◌, List, [], ◌∷◌, length, Some, refl, sym, ap, ◌∙◌, subst, arith, inr}
use Rattle.std.specs.Prelude.{slice_get}
use Rattle.process_model.specs.Process.{Went}
use Rattle.limbo_types.specs.Types as ty
use Rattle.limbo_types.specs.Types.{Ty}
use Rattle.limbo_values.specs.declared.number.Kind.TheVariants.{Int}
use Rattle.limbo_values.specs.declared.operator.Comparison.{Comparison}
use Rattle.limbo_values.specs.declared.operator.Comparison.TheVariants as comparison
use Rattle.limbo_values.specs.Numbers.{InRange}
use Rattle.limbo_values.specs.Operators.{truth}
use Rattle.limbo_values.specs.Texts.{text_compared}
use Rattle.limbo_values.proofs.Ranges.{within}
use Rattle.limbo_typed.specs.Typed as typed
use Rattle.limbo_typed.specs.declared.operation.Operation.TheVariants.{CompareChars}
use Rattle.limbo_meaning.specs.Process.{Shared}
use Rattle.limbo_meaning.specs.Trees.{Operate}
use Rattle.limbo_meaning.specs.Values.{Num, Chars, text_of, fitted}
use Rattle.system_model.specs.Limits.{frames_limit}
use Rattle.core_code.specs.Code.{Instr, Give}
use Rattle.core_code.specs.Machine as code
use Rattle.core_code.specs.Slots as core
use Rattle.core_code.specs.Slots.{Slot, Holds}
use Rattle.core_typing.specs.Held.{Of}
use Rattle.core_typing.specs.Needs.{AreThese}
use Rattle.core_typing.specs.Going.{got_by}
use Rattle.dis_isa.specs.declared.inst.Inst.{Inst}
use Rattle.dis_isa.specs.declared.inst.Operand.TheVariants as operand
use Rattle.dis_isa.specs.declared.inst.Middle.TheVariants as middle
use Rattle.dis_isa.specs.declared.op.Op.TheVariants as op
use Rattle.dis_meaning.specs.Words.{Word, Plain, Access, Found, ◌>>=◌, number_in}
use Rattle.dis_meaning.specs.Numbers.{number_at}
use Rattle.dis_meaning.specs.Process.{Process}
use Rattle.dis_memory.specs.Blocks.{World}
use Rattle.dis_memory.specs.Naming.{names}
use Rattle.dis_memory.specs.Operands.{target}
use Rattle.dis_memory.specs.Process.{jumps}
use Rattle.dis_memory.specs.Step.{obey}
use Rattle.dis_memory.specs.Strings.{text_row}
use Rattle.value_words.specs.Contents.{AreInRange}
use Rattle.value_words.specs.Facts.{Facts}
use Rattle.value_words.specs.Stands.{a_number}
use Rattle.value_words.proofs.Rows.{below}
use Rattle.value_frames.specs.Frames.{number_place, reference_place}
use Rattle.value_frames.specs.Standing.{a_value, RefersIdly}
use Rattle.value_moves.specs.Operands.{inst, own, of_own}
use Rattle.value_moves.proofs.Leading.{spots_lead}
use Rattle.value_code.specs.Objects.{object_of}
use Rattle.value_code.specs.Code.{code_of}
use Rattle.value_code.specs.Works.{text_branch_op, jump_to}
use Rattle.number_effects.specs.Giving.{with_word, WordStored}
use Rattle.number_effects.specs.Numbers.{where_holds}
use Rattle.number_effects.proofs.Control.{control_goes}
use Rattle.number_effects.proofs.Numbers.{inside}
use Rattle.number_effects.proofs.Reading.{operands_are_read}
use Rattle.number_effects.proofs.Records.{words_move}
use Rattle.number_effects.proofs.Stepping.{steps_obey}
use Rattle.block_effects.proofs.Strings.{strings_come}
use Rattle.value_follows.specs.Stands.{types_of, place_of, Awaited}
use Rattle.value_follows.specs.Sides.{sides, HoldTheSame, program}
use Rattle.value_follows.specs.Rows.{Base, InstrGoes, RowGoes, place, site_of}
use Rattle.value_follows.proofs.Standing.{finds, code_here, all_wait}
use Rattle.process_ways.specs.Ways.{Way}
use Rattle.value_follows.proofs.Decided.{truth_range}
use Rattle.value_follows.proofs.Jumps.{inside_there}
use Rattle.value_follows.proofs.Putting.{NumberWord, old_word, ready_put, word_same}
use Rattle.value_follows.proofs.Several.{Next, moved_to, moved_names, names_as, hold_as}
use Rattle.value_follows.proofs.Single.{Once, both_go}
use Rattle.value_follows.proofs.Waiting.{idly_later}
use Rattle.value_follows.proofs.Arithmetic.{two_slots}
use Rattle.rows_texts.specs.Rows.{TextComparesGo}
use Rattle.rows_texts.proofs.OnTheWay.{On, back, row_here, reaches_it, on_ready, on_way}
use Rattle.rows_texts.proofs.Busy.{busied_counting, busy_alone}
use Rattle.rows_texts.proofs.Coming.{put_on, ready_behind}
use Rattle.rows_texts.proofs.Passing.{goes_over}
use Rattle.rows_texts.proofs.Reading.{text_is, reads_text, gives_text}
use Rattle.rows_texts.proofs.Texts.{used, found, rests, next_on, row_ends, goes_on_behind}

op_row : (c : Comparison) → text_row (text_branch_op c) ≡ Some c
op_row comparison.Equal = refl
op_row comparison.Unequal = refl
op_row comparison.Less = refl
op_row comparison.AtMost = refl
op_row comparison.Greater = refl
op_row comparison.AtLeast = refl

-- At the same words, the process may be at another instruction of the row.
on_elsewhere : (m : typed.Module) (k : Facts) (i : ℕ) (x : World) (busy : List ℕ) (n : ℕ) (f : typed.Function) (j : ℕ) (p : code.Process) (q : Process)
    → On m k i x busy n f j p q → (l to : ℕ) → to ≡ place_of m n f p.frame.pc + l → On m k i x busy n f l p (moved_to q to q.frame.words)
on_elsewhere m k i x busy n f j p q on l to pc = record {
  process = on.process;
  there = on.there;
  code = on.code;
  answer = on.answer;
  many = on.many;
  instance = on.instance;
  formed = on.formed;
  known = on.known;
  words = on.words;
  mine = on.mine;
  fresh = on.fresh;
  goes = on.goes;
  waits = all_wait m k i x Awaited p.frame.answer q.frame (moved_to q to q.frame.words).frame p.below q.below refl refl on.waits;
  pc = pc;
  spare = on.spare;
  none_made = on.none_made;
}

module _ (m : typed.Module) (b : Base m) (c : Comparison) (into a d : ℕ) (i : ℕ) (p : code.Process) (n : ℕ) (f : typed.Function) where
  abbrev instr : Instr
  instr = Give ty.Int (Operate (CompareChars c)) into (a ∷ d ∷ [])

  abbrev begin : ℕ
  begin = place_of m n f p.frame.pc

  abbrev to : ℕ
  to = number_place m.adts (types_of m f) into

  abbrev move : ℤ → Inst
  move z = inst op.Movw (operand.Imm z) middle.None (own to)

  -- so far goes the branch
  abbrev over : Bool → ℕ
  over true = 3
  over false = 1

  module _ (here : slice_get p.frame.code p.frame.pc ≡ Some instr) (s t : List ℕ) (s_is : core.slot p.frame.slots a ≡ Holds (Chars s))
      (t_is : core.slot p.frame.slots d ≡ Holds (Chars t)) where
    abbrev h : Bool
    h = text_compared c s t

    does : (w : Shared) (g : Bool) → h ≡ g → (sides m).program.step w p ≡ code.goes_on w p (core.put p.frame.slots into (Holds (Num (truth g))))
    does w g e =
        ap (code.next frames_limit (program m) w p) here
        ∙ ap (λ (l : Slot). code.goes_on w p (core.put p.frame.slots into
        (Holds (fitted m.adts ty.Int (Num (truth (text_compared c (text_of (core.value_of l)) (text_of (core.value_of (core.slot p.frame.slots d)))))))))) s_is
        ∙ ap (λ (l : Slot). code.goes_on w p (core.put p.frame.slots into
        (Holds (fitted m.adts ty.Int (Num (truth (text_compared c s (text_of (core.value_of l))))))))) t_is
        ∙ ap (λ (n : ℤ). code.goes_on w p (core.put p.frame.slots into (Holds (Num n)))) (within Int (truth h) (truth_range h))
        ∙ ap (λ (g : Bool). code.goes_on w p (core.put p.frame.slots into (Holds (Num (truth g))))) e

    same_chars : (u v : List ℕ) → Holds (Chars u) ≡ Holds (Chars v) → u ≡ v
    same_chars u v e = cc

    -- ---- the branch

    module _ (k : Facts) (w : Shared) (x : World) (q : Process) (on : On m k i x [] n f 0 p q) (hold : HoldTheSame m k i x p q)
        (worlds : (sides m).worlds k w x) where
      abbrev branch : Inst
      branch = inst (text_branch_op c) (own (reference_place m.adts (types_of m f) a)) (of_own (reference_place m.adts (types_of m f) d)) (operand.Imm (pos (begin + 3)))

      within_code : begin + 3 < length (object_of m).insts
      within_code =
          below (object_of m).insts (begin + 3) (move (pos 1))
          ((row_here m b i p q [] n f 0 k w x on hold worlds instr here).insts 3 (move (pos 1)) refl)

      target_there : target (object_of m) (operand.Imm (pos (begin + 3))) ≡ Found (begin + 3)
      target_there = inside (object_of m) (operand.Imm (pos (begin + 3))) (begin + 3) refl within_code

      branches : obey frames_limit (object_of m) x q branch (text_branch_op c) ≡ Found (where_holds x q h (begin + 3))
      branches =
          let there = used m k i x [] n f 0 p q on instr here in
          let needs = found m k i x [] n f 0 p q on instr here in
          let these = subst (AreThese on.known (a ∷ d ∷ [])) needs.2.0.0 needs.1 in
          let u = text_is m k i x [] n f 0 p q on a there.1.0 (λ e. e) these.0 in
          let v = text_is m k i x [] n f 0 p q on d there.1.1.0 (λ e. e) these.1.0 in
          (strings_come frames_limit (object_of m) x q).compare.compares (text_branch_op c) c (own (reference_place m.adts (types_of m f) a))
          (operand.Imm (pos (begin + 3))) (of_own (reference_place m.adts (types_of m f) d)) u.chars v.chars (begin + 3) (op_row c)
          (reads_text m k i w x p q hold worlds [] n f 0 on a u) (gives_text m k i w x p q hold worlds [] n f 0 on d v) target_there
          ∙ ap (λ (s : List ℕ). Found (where_holds x q (text_compared c s v.chars) (begin + 3))) (same_chars u.chars s (sym u.holds ∙ s_is))
          ∙ ap (λ (t : List ℕ). Found (where_holds x q (text_compared c s t) (begin + 3))) (same_chars v.chars t (sym v.holds ∙ t_is))

      lands : (g : Bool) → where_holds x q g (begin + 3) ≡ Went x (moved_to q (begin + over g) q.frame.words)
      lands true = refl
      lands false = let e = on.pc in ap (λ n. Went x (moved_to q n q.frame.words)) (omega (arith, e))

      goes_there : (g : Bool) → h ≡ g → (sides m).code.step x q ≡ Went x (moved_to q (begin + over g) q.frame.words)
      goes_there g e =
          steps_obey.does frames_limit (object_of m ∷ []) x q (object_of m) branch (where_holds x q h (begin + 3))
          (reaches_it m b i p q [] n f 0 k w x on hold worlds instr here branch refl) branches
          ∙ ap (λ (g : Bool). where_holds x q g (begin + 3)) e ∙ lands g

      branched : (g : Bool) → h ≡ g → over g < 4 → 0 < over g → (l : ℕ)
          → ((after : On m k i x [] n f (over g) p (moved_to q (begin + over g) q.frame.words)) → HoldTheSame m k i x p (moved_to q (begin + over g) q.frame.words)
          → Way (sides m) (place m) l k i x p (moved_to q (begin + over g) q.frame.words))
          → Next m b i p l k w x q
      branched g e few more l way =
          let after = on_elsewhere m k i x [] n f 0 p q on (over g) (begin + over g) refl in
          goes_over m b i p n f k w x [] [] 0 (over g) q (moved_to q (begin + over g) q.frame.words) on hold worlds instr here refl more few
          (goes_there g e) after hold l (way after hold)

    -- ---- a number comes

    module _ (k : Facts) (w : Shared) (x : World) (j : ℕ) (q : Process) (on : On m k i x [] n f j p q) (hold : HoldTheSame m k i x p q)
        (worlds : (sides m).worlds k w x) (z : ℤ)
        (is : (g : ℕ) → slice_get (code_of (site_of m n f p.frame.pc g) instr) j ≡ Some (move z)) where
      abbrev first : Process
      first = moved_to q begin q.frame.words

      into_there : into < length p.frame.slots
      into_there = (used m k i x [] n f j p q on instr here).0

      word_into : NumberWord m.adts (types_of m f) (length p.frame.slots) q.frame.words on.words.laid on.words.kind into into_there
      word_into = old_word m k i x p first (back m k i x n f j p q on) into into_there (found m k i x [] n f j p q on instr here).3

      abbrev others : List Word
      others = with_word q.frame.words to (Plain z)

      stored : WordStored q.frame.words to (Plain z)
      stored =
          (words_move.word frames_limit (object_of m) x q (move z) (Plain z) q.frame.words to (spots_lead.own x q to).0 word_into.old refl
          (operands_are_read.source_plain_given x q z) word_into.plainly).0

      moves : (sides m).code.step x q ≡ Went x (moved_to q (suc q.frame.pc) others)
      moves =
          let lead = spots_lead.own x q to in
          steps_obey.stores frames_limit (object_of m ∷ []) x q (object_of m) (move z) x lead.0.place others _
          (reaches_it m b i p q [] n f j k w x on hold worlds instr here (move z) (is (row_here m b i p q [] n f j k w x on hold worlds instr here).at))
          (words_move.word frames_limit (object_of m) x q (move z) (Plain z) q.frame.words to lead.0 word_into.old refl
          (operands_are_read.source_plain_given x q z) word_into.plainly).1
          (lead.1 others)

      ranged : InRange Int z → AreInRange others
      ranged r = stored.ranged (λ y e. subst (InRange Int) (let same : z ≡ y = cc in same) r) on.words.kind.ranged

      number_in_it : number_at Int others (pos to) ≡ Found z
      number_in_it = ap (λ (a : Access Word). a >>= number_in) stored.there

      names_stay : (o : ℕ) → names (moved_to q (suc q.frame.pc) others) o ≡ names q o
      names_stay =
          moved_names q (suc q.frame.pc) others
          (λ o. names_as o q.frame.words _ word_into.old (Plain z) word_into.there word_into.no_refer (λ r e. absurd cc))

      -- what the slot refers to it still does
      still_idle : RefersIdly m.adts k others (reference_place m.adts (types_of m f) into)
      still_idle =
          let idle = rests m k i x n f j p q on into into_there (found m k i x [] n f j p q on instr here).3 in
          (idle.0, word_same q.frame.words others (reference_place m.adts (types_of m f) into) (stored.changes.words _ (inr (omega arith))) ∙ idle.1, idle.2)

    -- 1 comes
    ends_true : h ≡ true → (k : Facts) (w : Shared) (x : World) (q : Process) → On m k i x [] n f 3 p q → HoldTheSame m k i x p q
        → (sides m).worlds k w x → Once m b i p q k w x
    ends_true e k w x q on hold worlds =
        let needs = found m k i x [] n f 3 p q on instr here in
        let st = stored k w x 3 q on hold worlds (pos 1) (λ g. refl) in
        both_go m b i p q k w x hold worlds (put_on p into (Holds (Num (pos 1)))) (moved_to q (suc q.frame.pc) (others k w x 3 q on hold worlds (pos 1) (λ g. refl)))
        (moves k w x 3 q on hold worlds (pos 1) (λ g. refl))
        (does w true e)
        (ready_put m k i x p (moved_to q begin q.frame.words) (back m k i x n f 3 p q on) into (into_there k w x 3 q on hold worlds (pos 1) (λ g. refl)) needs.3
        (others k w x 3 q on hold worlds (pos 1) (λ g. refl)) 4 (omega arith) st.changes (ranged k w x 3 q on hold worlds (pos 1) (λ g. refl) (truth_range true))
        Int refl (pos 1) (got_by m.adts ty.Int (Operate (CompareChars c))) (number_in_it k w x 3 q on hold worlds (pos 1) (λ g. refl)) (truth_range true)
        (suc q.frame.pc) (next_on m k i x [] n f 3 p q on instr here 4 refl refl)
        (goes_on_behind m k i x [] n f 3 p q on instr here 0 (suc p.frame.pc) _ (omega arith) refl))

    -- 0 is there, and the jump leads behind the row
    ends_false : h ≡ false → (k : Facts) (w : Shared) (x : World) (q : Process) → On m k i x (into ∷ []) n f 2 p q → HoldTheSame m k i x p q
        → (sides m).worlds k w x → number_at Int q.frame.words (pos to) ≡ Found (pos 0)
        → RefersIdly m.adts k q.frame.words (reference_place m.adts (types_of m f) into) → Once m b i p q k w x
    ends_false e k w x q on hold worlds found_there idle =
        let there = used m k i x (into ∷ []) n f 2 p q on instr here in
        let goes = goes_on_behind m k i x (into ∷ []) n f 2 p q on instr here 0 (suc p.frame.pc) _ (omega arith) refl in
        let far = row_ends m k i x (into ∷ []) n f 2 p q on instr here 4 refl in
        let at = on.pc in
        let jump = jump_to (begin + 4) in
        let step : (sides m).code.step x q ≡ jumps x q (begin + 4) =
        steps_obey.does frames_limit (object_of m ∷ []) x q (object_of m) jump (jumps x q (begin + 4))
        (reaches_it m b i p q (into ∷ []) n f 2 k w x on hold worlds instr here jump refl)
        (control_goes.jmp frames_limit (object_of m) x q jump (begin + 4) refl refl
        (subst (λ l. l < length (object_of m).insts) far (inside_there m b n f (suc p.frame.pc) _ on.there goes))) in
        both_go m b i p q k w x hold worlds (put_on p into (Holds (Num (pos 0)))) (moved_to q (begin + 4) q.frame.words)
        step (does w false e)
        (ready_behind m k k i x x (into ∷ []) n f 2 p q on into there.0 (busy_alone into)
        (record { facts = λ n f e. e; makers = λ n j e. e; forms = λ n o e. e }) (omega arith) (λ b free made. (free, refl)) q.frame.words
        (record { each = λ w out. refl }) on.words.kind (Of ty.Int (got_by m.adts ty.Int (Operate (CompareChars c)))) (Holds (Num (pos 0)))
        (a_value q.frame.words to (reference_place m.adts (types_of m f) into) ty.Int (got_by m.adts ty.Int (Operate (CompareChars c))) (Num (pos 0))
        (a_number to Int (pos 0) found_there (truth_range false), idle) (λ k n e. absurd cc))
        (begin + 4) (sym far) goes)

    -- 0 comes, and the jump
    zero_comes : h ≡ false → (k : Facts) (w : Shared) (x : World) (q : Process) → On m k i x [] n f 1 p q → HoldTheSame m k i x p q
        → (sides m).worlds k w x → Next m b i p 1 k w x q
    zero_comes e k w x q on hold worlds =
        let needs = found m k i x [] n f 1 p q on instr here in
        let there = used m k i x [] n f 1 p q on instr here in
        let words = others k w x 1 q on hold worlds (pos 0) (λ g. refl) in
        let st = stored k w x 1 q on hold worlds (pos 0) (λ g. refl) in
        let r = moved_to q (suc q.frame.pc) words in
        let after = busied_counting m k i x n f 1 p q on into there.0 needs.3 words st.changes
        (ranged k w x 1 q on hold worlds (pos 0) (λ g. refl) (truth_range false)) in
        let held = hold_as m b i p k x q r (λ o. sym (names_stay k w x 1 q on hold worlds (pos 0) (λ g. refl) o)) hold in
        let idle = still_idle k w x 1 q on hold worlds (pos 0) (λ g. refl) in
        let zero = number_in_it k w x 1 q on hold worlds (pos 0) (λ g. refl) in
        goes_over m b i p n f k w x [] (into ∷ []) 1 2 q r on hold worlds instr here refl (omega arith) (omega arith)
        (moves k w x 1 q on hold worlds (pos 0) (λ g. refl)) after held 1
        (on_way m b i p r (into ∷ []) n f 2 0 k x after held (λ now v y grows on' hold' worlds'.
        ends_false e now v y r on' hold' worlds' zero
        (idly_later m.adts k now grows words (reference_place m.adts (types_of m f) into) idle)))

    -- the row, by how they compare
    compares : (k : Facts) (x : World) (q : Process) → On m k i x [] n f 0 p q → HoldTheSame m k i x p q → RowGoes m k i x p q
    compares k x q on hold = go h refl
      where
        go : (g : Bool) → h ≡ g → RowGoes m k i x p q
        go true e = (
          1,
          on_way m b i p q [] n f 0 1 k x on hold (λ now w y grows on hold worlds.
              branched now w y q on hold worlds true e (omega arith) (omega arith) 1 (λ after hold'.
              on_way m b i p (moved_to q (begin + 3) q.frame.words) [] n f 3 0 now y after hold' (λ last v z grows on' hold'' worlds'.
              ends_true e last v z (moved_to q (begin + 3) q.frame.words) on' hold'' worlds'))),
        )
        go false e = (
          2,
          on_way m b i p q [] n f 0 2 k x on hold (λ now w y grows on hold worlds.
              branched now w y q on hold worlds false e (omega arith) (omega arith) 2 (λ after hold'.
              on_way m b i p (moved_to q (begin + 1) q.frame.words) [] n f 1 1 now y after hold' (λ last v z grows on' hold'' worlds'.
              zero_comes e last v z (moved_to q (begin + 1) q.frame.words) on' hold'' worlds'))),
        )

compared_goes : (m : typed.Module) (b : Base m) (c : Comparison) (into a d : ℕ) → InstrGoes m (Give ty.Int (Operate (CompareChars c)) into (a ∷ d ∷ []))
compared_goes m b c into a d k i x p q ready here =
    let n = ready.0.stands.is.number in
    let f = ready.0.stands.is.function in
    let on = on_ready m i p q k x ready.0 in
    let it = Give ty.Int (Operate (CompareChars c)) into (a ∷ d ∷ []) in
    let there = used m k i x [] n f 0 p q on it here in
    let needs = found m k i x [] n f 0 p q on it here in
    let these = subst (AreThese on.known (a ∷ d ∷ [])) needs.2.0.0 needs.1 in
    let s = text_is m k i x [] n f 0 p q on a there.1.0 (λ e. e) these.0 in
    let t = text_is m k i x [] n f 0 p q on d there.1.1.0 (λ e. e) these.1.0 in
    compares m b c into a d i p n f here s.chars t.chars s.holds t.holds k x q on ready.1

pub text_compares_go : TextComparesGo
text_compares_go m b t c into from k i x p q ready here =
    let it = Give t (Operate (CompareChars c)) into from in
    let r = ready.0 in
    let known = r.stands.is.known in
    let found = finds m r.stands.is.function p.frame.pc known it r.stands.goes (code_here m k i x p q r it here) in
    let slots = two_slots known from ty.Chars ty.Chars (subst (AreThese known from) found.2.0.0 found.1) in
    compared_goes m b c into slots.0 slots.1 k i x p q ready
    (here ∙ ap (λ (u : Ty). Some (Give u (Operate (CompareChars c)) into from)) found.2.0.1
    ∙ ap (λ (rs : List ℕ). Some (Give ty.Int (Operate (CompareChars c)) into rs)) slots.2)
