-- A loop whose chain is at its end: its slot is empty then, and the turn is passed.
use Rattle.std.proofs.Common.{◌≡◌, ℕ, true, suc, pos, ◌+◌, ◌<◌, List, [], ◌∷◌, length, Option, Some, None, refl, sym, ap, ◌∙◌, subst, arith, inl, inr}
use Rattle.std.specs.Prelude.{slice_get, slice_index_or}
use Rattle.heap_model.specs.Heap.{Heap}
use Rattle.limbo_layout.specs.Adts.{Def, Has}
use Rattle.limbo_types.specs.Types as ty
use Rattle.limbo_typed.specs.Typed as typed
use Rattle.limbo_values.specs.declared.operator.Comparison.TheVariants as comparison
use Rattle.limbo_meaning.specs.Process.{Shared}
use Rattle.limbo_meaning.specs.Program.{routine_of}
use Rattle.limbo_meaning.specs.Values.{Ref, nothing}
use Rattle.core_code.proofs.Closed.{functions_are_closed}
use Rattle.system_model.specs.Limits.{frames_limit}
use Rattle.core_code.specs.Code.{Instr, Take}
use Rattle.core_code.specs.Machine as code
use Rattle.core_code.specs.Slots as core
use Rattle.core_code.specs.Slots.{Slot, NoRegion, chain_of, next_of}
use Rattle.core_typing.specs.Held as held
use Rattle.core_typing.specs.Going.{stand, taken}
use Rattle.dis_isa.specs.declared.inst.Inst.{Inst}
use Rattle.dis_isa.specs.declared.op.Op.TheVariants as op
use Rattle.dis_isa.specs.declared.inst.Operand.TheVariants as operand
use Rattle.dis_meaning.specs.Words.{Word, Refer, Access, Found, ◌>>=◌, word_at, reference}
use Rattle.dis_meaning.specs.Process.{Process}
use Rattle.dis_memory.specs.Blocks.{Block, World}
use Rattle.dis_memory.specs.Places.{middle_reference}
use Rattle.value_words.specs.Facts.{Facts, IsName}
use Rattle.value_words.proofs.Rows.{is_there}
use Rattle.value_frames.specs.Frames.{number_place, reference_place}
use Rattle.value_frames.specs.Standing.{SlotStands, ChainStands, a_value, no_chain, a_chain, nothing_there}
use Rattle.value_frames.proofs.Slots.{slots_change, put_long}
use Rattle.value_frames.proofs.Later.{frames_later}
use Rattle.value_moves.specs.Operands.{inst, own}
use Rattle.value_moves.proofs.Changing.{low_or_high}
use Rattle.value_moves.proofs.Leading.{spots_lead}
use Rattle.value_code.specs.Objects.{object_of, of_function, placed}
use Rattle.value_code.specs.Code.{nil_middle}
use Rattle.number_effects.specs.Numbers.{where_holds}
use Rattle.number_effects.proofs.Numbers.{numbers_work}
use Rattle.number_effects.proofs.Reading.{operands_are_read}
use Rattle.number_effects.proofs.Stepping.{steps_obey}
use Rattle.value_follows.specs.Stands.{types_of, place_of}
use Rattle.value_follows.specs.Sides.{sides, HoldTheSame, program}
use Rattle.value_follows.specs.Rows.{Base}
use Rattle.value_follows.proofs.Several.{moved_to}
use Rattle.value_follows.proofs.Single.{Once, both_go}
use Rattle.value_follows.proofs.Standing.{instance_here, ready_on, at_slots, at_words, goes_behind}
use Rattle.rows_lists.proofs.Held.{NameAt, name_there}
use Rattle.rows_lists.proofs.Needing.{row_is, used, found, one_goes}
use Rattle.rows_lists.proofs.OnTheWay.{On, frame_is, back, reaches_it}
use Rattle.rows_turning.specs.Rows.{TakesEnd}
use Rattle.rows_turning.proofs.Loops.{loop_is}

module _ (defs : List Def) (k : Facts) (x : Heap Block) (frame : ℕ) where
  -- What there is where no region is.
  pub record IsEnd (words : List Word) (p : ℕ) (gs : held.Regions) (own : List ℕ) : Type 0 where
    pub known : gs ≡ held.NoRegion
    pub bare : own ≡ []
    pub word : word_at words (pos p) ≡ Found (Refer None)

  pub end_is : (words : List Word) (p : ℕ) (gs : held.Regions) (rs : core.Regions) (own : List ℕ) → ChainStands defs k x frame words p gs rs own
      → rs ≡ NoRegion → IsEnd words p gs own
  end_is _ _ _ _ _ (no_chain words p e) f = record { known = refl; bare = refl; word = e }
  end_is _ _ _ _ _ (a_chain words inner p b last h hs g gs own more is l r t) f = absurd cc

nil_refers : (m : typed.Module) (k : Facts) (words : List Word) → NameAt k m.adts words 4 None (Ref None) → word_at words (pos 4) ≡ Found (Refer None)
nil_refers m k words a = go a.name a.refers a.word a.named
  where
    go : (name refers : Option ℕ) → word_at words (pos 4) ≡ Found (Refer refers) → IsName k None refers name
        → word_at words (pos 4) ≡ Found (Refer None)
    go None None word h = word
    go None (Some c) word h = absurd h
    go (Some a) None word h = absurd h
    go (Some a) (Some c) word h = absurd h

module _ (m : typed.Module) (b : Base m) (k : Facts) (i : ℕ) (w : Shared) (x : World) (busy : List ℕ) (n : ℕ) (f : typed.Function) (j : ℕ)
    (p : code.Process) (q : Process) (on : On m k i x busy n f j p q) (hold : HoldTheSame m k i x p q) (worlds : (sides m).worlds k w x) where
  -- the word of the module's data that refers to nothing
  pub nil_read : middle_reference x q nil_middle ≡ Found None
  nil_read =
      let instance = instance_here m b k i w x p q busy (frame_is m k i x busy n f j p q on) hold worlds.0 in
      let constant = instance.2 (placed m 4 ty.Nil (Ref None)) (inr (inl refl)) in
      operands_are_read.module_reference x q 0 instance.0 4 instance.1
      ∙ ap (λ (a : Access Word). a >>= reference) (nil_refers m k instance.0 (name_there k m.adts instance.0 4 ty.Nil (Ref None) tt constant.stands))

module _ (m : typed.Module) (b : Base m) (loop from words passes i : ℕ) (p : code.Process) (n : ℕ) (f : typed.Function)
    (here : slice_get p.frame.code p.frame.pc ≡ Some (Take loop from words passes))
    (none : chain_of (core.slot p.frame.slots loop) ≡ NoRegion) where
  abbrev it : Instr
  it = Take loop from words passes

  abbrev n_at : ℕ
  n_at = number_place m.adts (types_of m f) loop

  abbrev r_at : ℕ
  r_at = reference_place m.adts (types_of m f) loop

  abbrev far : ℕ
  far = suc p.frame.pc + passes

  abbrev past : ℕ
  past = place_of m n f far

  abbrev branch : Inst
  branch = inst op.Beqw (own r_at) nil_middle (operand.Imm (pos past))

  module _ (k : Facts) (w : Shared) (x : World) (q : Process) (on : On m k i x [] n f 0 p q) (hold : HoldTheSame m k i x p q) (worlds : (sides m).worlds k w x) where
    inside : past < length (object_of m).insts
    inside =
        let row = row_is m k i x [] n f 0 p q on it here in
        let within = (functions_are_closed m.adts (routine_of f)).inside p.frame.pc it row 1 0 (omega arith) in
        let t = is_there (of_function m f).code far within in
        b.inside n f far t.0 on.there t.1

    ends : Once m b i p q k w x
    ends =
        let there = used m k i x [] n f 0 p q on it here in
        let needs = found m k i x [] n f 0 p q on it here in
        let of = loop_is m k i x n f 0 p q on loop there.0 needs.0 in
        let are = on.words in
        let end = end_is m.adts k x.heap q.frame.serial q.frame.words r_at needs.0.0 (chain_of (core.slot p.frame.slots loop)) (are.own loop) of.chain none in
        let known : held.slot on.known loop ≡ held.Turns held.NoRegion = needs.0.1 ∙ ap held.Turns end.known in
        let step =
        steps_obey.does frames_limit (object_of m ∷ []) x q (object_of m) branch (where_holds x q true past)
        (reaches_it m b i p q [] n f 0 k w x on hold worlds it here branch refl)
        (numbers_work.references frames_limit (object_of m) x q branch comparison.Equal None None true past refl
        (operands_are_read.source_referring x q (own r_at) q.frame.words r_at (spots_lead.own x q r_at).0 ∙ ap (λ (a : Access Word). a >>= reference) end.word)
        (nil_read m b k i w x [] n f 0 p q on hold worlds) refl refl inside) in
        let owned = (frames_later m.adts k x.heap q.frame.serial [] (types_of m f) on.known p.frame.variables p.frame.slots q.frame.words are).owned in
        let stands : SlotStands m.adts k x.heap q.frame.serial q.frame.words n_at r_at held.empty core.empty [] =
        a_value q.frame.words n_at r_at ty.Nothing [] nothing (refl, (None, end.word, nothing_there)) (λ s c e. absurd cc) in
        let after = slots_change.slot m.adts k k x.heap x.heap q.frame.serial [] (types_of m f) on.known p.frame.variables p.frame.slots
        q.frame.words q.frame.words loop held.empty core.empty [] are
        (record { facts = λ n f e. e; makers = λ n j e. e; forms = λ n o e. e }) there.0 (record { each = λ w out. refl }) are.kind stands tt
        (λ u c ne h. (λ e. e, ((owned u c h).0, refl))) in
        let begin = moved_to q (place_of m n f p.frame.pc) q.frame.words in
        let ready = back m k i x n f 0 p q on in
        both_go m b i p q k w x hold worlds (at_slots m k i x p begin ready far (core.put p.frame.slots loop core.empty))
        (at_words m k i x p begin ready past q.frame.words) step
        (ap (code.next frames_limit (program m) w p) here
        ∙ ap (λ (rs : core.Regions). code.takes frames_limit (program m) w p loop from passes (next_of (core.slot p.frame.slots loop)) rs) none)
        (ready_on m k i x p begin ready far past (held.put on.known loop held.empty) (core.put p.frame.slots loop core.empty) q.frame.words
        (put_long p.frame.slots loop core.empty) after.after
        (λ u c h. elim (low_or_high u loop) [
          | inl low ↦ on.mine u c (subst (λ o. Has o c) (after.elsewhere u (λ e. omega (arith, e, low))) h)
          | inr high ↦ elim (low_or_high loop u) [
            | inl more ↦ on.mine u c (subst (λ o. Has o c) (after.elsewhere u (λ e. omega (arith, e, more))) h)
            | inr less ↦
                let same : u ≡ loop = omega (arith, high, less) in
                absurd (subst (λ o. Has o c) (ap after.after.own same ∙ after.here) h)
          ]
        ])
        (goes_behind m f p.frame.pc on.known it on.goes (row_is m k i x [] n f 0 p q on it here) 0 far (held.put on.known loop held.empty)
        (subst (λ h. 0 < length (taken p.frame.pc passes on.known loop from (held.chain_of h))) (sym known) (omega arith))
        (ap (λ h. slice_index_or (taken p.frame.pc passes on.known loop from (held.chain_of h)) 0 (stand far (held.put on.known loop held.empty))) known))
        refl refl refl)

pub takes_end : TakesEnd
takes_end m b loop from words passes k i x p q ready here none =
    one_goes m b i p q k x ready (λ now w y on hold worlds.
    ends m b loop from words passes i p ready.0.stands.is.number ready.0.stands.is.function here none now w y q on hold worlds)
