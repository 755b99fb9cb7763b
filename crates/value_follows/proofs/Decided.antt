-- What is decided by a branch comes into a slot: 1 behind the branch, or 0 and a jump.
use Rattle.std.proofs.Common.{◌≡◌, ℕ, ℤ, suc, pos, ◌+◌, ◌<◌, Bool, true, false, ◌&&◌, if◌then◌else◌, List, [], ◌∷◌, length, Some, refl, sym, ap, ◌∙◌, subst, arith}
use Rattle.std.specs.Prelude.{slice_get, slice_index_or, nat_eq}
use Rattle.std.proofs.lemmas.Int.{ints}
use Rattle.process_model.specs.Process.{Went}
use Rattle.process_ways.specs.Ways.{Way}
use Rattle.limbo_types.specs.Types as ty
use Rattle.limbo_values.specs.declared.number.Kind.TheVariants.{Int}
use Rattle.limbo_values.specs.Numbers.{InRange}
use Rattle.limbo_values.specs.Operators.{truth}
use Rattle.limbo_typed.specs.Typed as typed
use Rattle.limbo_meaning.specs.Process.{Shared}
use Rattle.limbo_meaning.specs.Values.{Num}
use Rattle.system_model.specs.Limits.{frames_limit}
use Rattle.core_code.specs.Code.{Instr}
use Rattle.core_code.specs.Machine as code
use Rattle.core_code.specs.Slots as core
use Rattle.core_code.specs.Slots.{Slot, Holds}
use Rattle.core_typing.specs.Held as held
use Rattle.core_typing.specs.Held.{Of}
use Rattle.core_typing.specs.Needs.{Finds, IsClean}
use Rattle.core_typing.specs.Going.{Stand, stand, behind}
use Rattle.core_code.specs.Using.{Uses}
use Rattle.limbo_kept.specs.Trees.{Scope}
use Rattle.limbo_types.specs.Types.{Ty}
use Rattle.limbo_layout.specs.Adts.{Def}
use Rattle.dis_isa.specs.declared.inst.Operand as isa
use Rattle.dis_isa.specs.declared.inst.Middle.{Middle}
use Rattle.dis_isa.specs.declared.op.Op.{Op}
use Rattle.dis_memory.specs.Step.{obey}
use Rattle.dis_isa.specs.declared.inst.Inst.{Inst}
use Rattle.dis_isa.specs.declared.inst.Operand.TheVariants as operand
use Rattle.dis_isa.specs.declared.inst.Middle.TheVariants as middle
use Rattle.dis_isa.specs.declared.op.Op.TheVariants as op
use Rattle.dis_meaning.specs.Counts.{in_words}
use Rattle.dis_meaning.specs.Words.{Word, Plain, Found, ◌>>=◌, number_in}
use Rattle.dis_meaning.specs.Numbers.{number_at}
use Rattle.dis_meaning.specs.Process.{Process}
use Rattle.dis_memory.specs.Blocks.{World}
use Rattle.dis_memory.specs.Process.{jumps}
use Rattle.value_words.specs.Contents.{AreInRange}
use Rattle.value_words.specs.Facts.{Facts}
use Rattle.value_words.proofs.Rows.{below}
use Rattle.value_frames.specs.Frames.{number_place}
use Rattle.value_moves.specs.Changing.{Changes}
use Rattle.value_moves.specs.Operands.{Code, inst, own}
use Rattle.value_moves.proofs.Leading.{spots_lead}
use Rattle.value_code.specs.Objects.{object_of, of_function, size_at, blank_site}
use Rattle.value_code.specs.Works.{jump_to, decided}
use Rattle.value_code.specs.Code.{Site, code_of}
use Rattle.number_effects.specs.Giving.{with_word, WordStored}
use Rattle.number_effects.specs.Numbers.{where_holds}
use Rattle.number_effects.proofs.Control.{control_goes}
use Rattle.number_effects.proofs.Reading.{operands_are_read}
use Rattle.number_effects.proofs.Records.{words_move}
use Rattle.number_effects.proofs.Stepping.{steps_obey}
use Rattle.value_follows.specs.Stands.{Ready, GoesOn, place_of, types_of, scope}
use Rattle.value_follows.specs.Sides.{sides, HoldTheSame}
use Rattle.value_follows.specs.Rows.{place, is_tidied, row_of, RowGoes, Base, site_of}
use Rattle.value_follows.proofs.Standing.{same_some, finds, code_here, at_slots}
use Rattle.value_follows.proofs.Slots.{uses}
use Rattle.value_follows.proofs.Paces.{places_are}
use Rattle.value_follows.proofs.Single.{Once, both_go}
use Rattle.value_follows.proofs.Several.{moved_to, moved_names, names_as, hold_as, Next, several, goes_silently, row_now, reaches_at, rank_at}
use Rattle.value_follows.proofs.Jumps.{next_place, behind_it, inside_there}
use Rattle.value_follows.proofs.Putting.{NumberWord, old_word, ready_put}

-- so far goes the branch
abbrev over : Bool → ℕ
over true = 3
over false = 1

-- An instruction whose row is such a branch, and which gives an int to a slot that names nothing.
pub record IsDecided (instr : Instr) (into : ℕ) (o : Op) (source : (ℕ → ℕ) → isa.Operand) (between : (ℕ → ℕ) → Middle) : Type 0 where
  pub uses : (n : ℕ) → Uses n instr → into < n
  pub clean : (s : Scope) (t : Ty) (slots : held.Slots) → Finds s t slots instr → IsClean (held.slot slots into)
  pub behind : (defs : List Def) (pc : ℕ) (slots : held.Slots) → behind defs pc slots instr ≡ stand (suc pc) (held.put slots into (Of ty.Int [])) ∷ []
  pub code : (c : Site) → code_of c instr ≡ decided c.here o (source (λ r. number_place c.scene.adts c.scene.variables r))
      (between (λ r. number_place c.scene.adts c.scene.variables r)) (own (number_place c.scene.adts c.scene.variables into))
  pub plain : is_tidied instr ≡ false

module _ (m : typed.Module) (b : Base m) (instr : Instr) (into : ℕ) (o : Op) (source : (ℕ → ℕ) → isa.Operand) (between : (ℕ → ℕ) → Middle)
    (row : IsDecided instr into o source between) where
  module _ (k : Facts) (i : ℕ) (w : Shared) (x : World) (p : code.Process) (q : Process) (ready : Ready m k i x p q) (hold : HoldTheSame m k i x p q) (worlds : (sides m).worlds k w x) (here : slice_get p.frame.code p.frame.pc ≡ Some instr) where
    abbrev function : typed.Function
    function = ready.stands.is.function

    abbrev known : held.Slots
    known = ready.stands.is.known

    abbrev begin : ℕ
    begin = place_of m ready.stands.is.number function p.frame.pc

    abbrev number_of : ℕ → ℕ
    number_of s = number_place m.adts (types_of m function) s

    in_code : slice_get (of_function m function).code p.frame.pc ≡ Some instr
    in_code = code_here m k i x p q ready instr here

    slot_there : into < length p.frame.slots
    slot_there = row.uses (length p.frame.slots) (uses m k i x [] p.frame q.frame ready.stands.is p.frame.pc instr in_code)

    clean : IsClean (held.slot known into)
    clean = row.clean (scope m function) function.of.answer known (finds m function p.frame.pc known instr ready.stands.goes in_code)

    word_into : NumberWord m.adts (types_of m function) (length p.frame.slots) q.frame.words ready.stands.is.words.laid ready.stands.is.words.kind into slot_there
    word_into = old_word m k i x p q ready into slot_there clean

    goes : GoesOn m function (suc p.frame.pc) (held.put known into (Of ty.Int []))
    goes =
        let e = row.behind m.adts p.frame.pc known in
        let after = stand (suc p.frame.pc) (held.put known into (Of ty.Int [])) in
        behind_it m b k i w x p q ready hold worlds instr here 0 (suc p.frame.pc) (held.put known into (Of ty.Int []))
        (subst (λ (l : List Stand). 0 < length l) (sym e) (omega arith)) (ap (λ (l : List Stand). slice_index_or l 0 after) e)

    long : size_at m function.of.answer (of_function m function) p.frame.pc (Some instr) ≡ 4
    long = ap (λ (l : Code). length l) (row.code (blank_site m function.of.answer (of_function m function) p.frame.pc))

    next : q.frame.pc + 4 ≡ place_of m ready.stands.is.number function (suc p.frame.pc)
    next = next_place m b k i w x p q ready hold worlds instr here 4 long

    -- ---- the four instructions

    abbrev branch : Inst
    branch = inst o (source number_of) (between number_of) (operand.Imm (pos (begin + 3)))

    abbrev move : ℤ → Inst
    move z = inst op.Movw (operand.Imm z) middle.None (own (number_of into))

    abbrev here_site : Site
    here_site = site_of m ready.stands.is.number function p.frame.pc (row_now m b k i w x p q ready hold worlds instr here).at

    -- each of them stands there
    stands_at : (j : ℕ) (i : Inst)
        → slice_get (decided begin o (source number_of) (between number_of) (own (number_of into))) j ≡ Some i → slice_get (code_of here_site instr) j ≡ Some i
    stands_at j i e = ap (λ (l : Code). slice_get l j) (row.code here_site) ∙ e

    end_within : begin + 3 < length (object_of m).insts
    end_within =
        below (object_of m).insts (begin + 3) (move (pos 1))
        ((row_now m b k i w x p q ready hold worlds instr here).insts 3 (move (pos 1)) (stands_at 3 (move (pos 1)) refl))

    branches : (h : Bool) → obey frames_limit (object_of m) x q branch o ≡ Found (where_holds x q h (begin + 3))
        → (sides m).code.step x q ≡ Went x (moved_to q (q.frame.pc + over h) q.frame.words)
    branches h e =
        steps_obey.does frames_limit (object_of m ∷ []) x q (object_of m) branch (where_holds x q h (begin + 3))
        (let r = reaches_at m b k i w x p q ready hold worlds instr here 0 q.frame.words branch (stands_at 0 branch refl) in
        record { object = r.object; words = r.words; instance = r.instance; code = r.code; here = ap (slice_get (object_of m).insts) (omega arith) ∙ r.here })
        e
        ∙ lands h
      where
        lands : (h : Bool) → where_holds x q h (begin + 3) ≡ Went x (moved_to q (q.frame.pc + over h) q.frame.words)
        lands true = let e = ready.pc in ap (λ n. Went x (moved_to q n q.frame.words)) (omega (arith, e))
        lands false = ap (λ n. Went x (moved_to q n q.frame.words)) (omega arith)

    abbrev with_number : ℤ → List Word
    with_number z = with_word q.frame.words (number_of into) (Plain z)

    stored : (z : ℤ) (j : ℕ) → WordStored q.frame.words (number_of into) (Plain z)
    stored z j =
        (words_move.word frames_limit (object_of m) x (moved_to q (q.frame.pc + j) q.frame.words) (move z) (Plain z) q.frame.words (number_of into)
        (spots_lead.own x (moved_to q (q.frame.pc + j) q.frame.words) (number_of into)).0 word_into.old refl
        (operands_are_read.source_plain_given x (moved_to q (q.frame.pc + j) q.frame.words) z) word_into.plainly).0

    moves : (z : ℤ) (j : ℕ) → slice_get (code_of here_site instr) j ≡ Some (move z)
        → (sides m).code.step x (moved_to q (q.frame.pc + j) q.frame.words) ≡ Went x (moved_to q (q.frame.pc + suc j) (with_number z))
    moves z j is =
        let at = moved_to q (q.frame.pc + j) q.frame.words in
        let lead = spots_lead.own x at (number_of into) in
        steps_obey.stores frames_limit (object_of m ∷ []) x at (object_of m) (move z) x lead.0.place (with_number z) _
        (reaches_at m b k i w x p q ready hold worlds instr here j q.frame.words (move z) is)
        (words_move.word frames_limit (object_of m) x at (move z) (Plain z) q.frame.words (number_of into) lead.0 word_into.old refl
        (operands_are_read.source_plain_given x at z) word_into.plainly).1
        (lead.1 (with_number z))
        ∙ ap (λ n. Went x (moved_to q n (with_number z))) (omega arith)

    leaves : (words : List Word)
        → (sides m).code.step x (moved_to q (q.frame.pc + 2) words) ≡ Went x (moved_to q (q.frame.pc + 4) words)
    leaves words =
        let at = moved_to q (q.frame.pc + 2) words in
        let e = ready.pc in
        let f = next in
        steps_obey.does frames_limit (object_of m ∷ []) x at (object_of m) (jump_to (begin + 4)) (jumps x at (begin + 4))
        (reaches_at m b k i w x p q ready hold worlds instr here 2 words (jump_to (begin + 4)) (stands_at 2 (jump_to (begin + 4)) refl))
        (control_goes.jmp frames_limit (object_of m) x at (jump_to (begin + 4)) (begin + 4) refl refl
        (subst (λ n. n < length (object_of m).insts) (omega (arith, e, f))
        (inside_there m b ready.stands.is.number function (suc p.frame.pc) (held.put known into (Of ty.Int [])) ready.stands.is.there goes)))
        ∙ ap (λ n. Went x (moved_to q n words)) (omega (arith, e))

    -- a word that was a number, and is one
    names_stay : (z : ℤ) (n : ℕ) → in_words n (with_number z) ≡ in_words n q.frame.words
    names_stay z n = names_as n q.frame.words _ word_into.old (Plain z) word_into.there word_into.no_refer (λ r e. absurd cc)

    -- how far the process is in its row
    ranks : (j : ℕ) (words : List Word) → suc j < 4 → place m (moved_to q (q.frame.pc + suc j) words) ≡ 2 + suc j
    ranks j words l =
        rank_at m b k i w x p q ready hold worlds instr here (suc j) words (subst (λ n. suc j < n) (sym long) l)
        ∙ ap (λ (c : Bool). if c && nat_eq (suc (suc j)) (row_of m function p.frame.pc instr).size then 1 else 2 + suc j) row.plain

    first_rank : place m q ≡ 2
    first_rank =
        (places_are m).ranked ready.stands.is.number function p.frame.pc instr 0 q ready.stands.is.there in_code
        (subst (λ n. 0 < n) (sym long) (omega arith))
        (let e = ready.pc in omega (arith, e))

    -- the two are ready behind the row, once a number is there
    ready_behind : (z : ℤ) (others : List Word) → Changes q.frame.words others (number_of into) 4 → AreInRange others
        → number_at Int others (pos (number_of into)) ≡ Found z → InRange Int z
        → Ready m k i x (at_slots m k i x p q ready (suc p.frame.pc) (core.put p.frame.slots into (Holds (Num z)))) (moved_to q (q.frame.pc + 4) others)
    ready_behind z others changes ranged found range =
        ready_put m k i x p q ready into slot_there clean others 4 (omega arith) changes ranged Int refl z [] found range (q.frame.pc + 4) next goes

-- 1 and 0 are ints
pub truth_range : (b : Bool) → InRange Int (truth b)
truth_range true = record { above = omega (arith, ints); below = omega (arith, ints) }
truth_range false = record { above = omega (arith, ints); below = omega (arith, ints) }

-- one function has one number
same_function : (m : typed.Module) (a c : ℕ) (f g : typed.Function) → slice_get m.functions a ≡ Some f → slice_get m.functions c ≡ Some g → a ≡ c → f ≡ g
same_function m a c f g d e s = same_some f g (sym d ∙ ap (slice_get m.functions) s ∙ e)

module _ (m : typed.Module) (b : Base m) (instr : Instr) (into : ℕ) (o : Op) (source : (ℕ → ℕ) → isa.Operand) (between : (ℕ → ℕ) → Middle)
    (row : IsDecided instr into o source between) (i : ℕ) (p : code.Process) (q : Process) (here : slice_get p.frame.code p.frame.pc ≡ Some instr)
    (number : ℕ) (f : Bool) where
  -- What the branch does, whatever others do: it goes there or doesn't.
  abbrev pub Branches : Type 0
  Branches = (k : Facts) (x : World) (s : Ready m k i x p q) (target : ℕ) → target < length (object_of m).insts
      → obey frames_limit (object_of m) x q (inst o (source (λ r. number_place m.adts (types_of m s.stands.is.function) r))
      (between (λ r. number_place m.adts (types_of m s.stands.is.function) r)) (operand.Imm (pos target))) o ≡ Found (where_holds x q f target)

  -- what the other does
  abbrev pub Does : Type 0
  Does = (w : Shared) → (sides m).program.step w p ≡ code.goes_on w p (core.put p.frame.slots into (Holds (Num (truth f))))

  module _ (k : Facts) (w : Shared) (x : World) (s : Ready m k i x p q) (h : HoldTheSame m k i x p q) (worlds : (sides m).worlds k w x) where
    abbrev to : ℕ
    to = number_of m b instr into o source between row k i w x p q s h worlds here into

    abbrev put_there : ℤ → List Word
    put_there y = with_number m b instr into o source between row k i w x p q s h worlds here y

    -- the branch
    branched : (n : ℕ) (g : Bool) → f ≡ g → Branches → over g < 4 → Way (sides m) (place m) n k i x p (moved_to q (q.frame.pc + over g) q.frame.words)
        → Next m b i p n k w x q
    branched n g e does l way =
        let start = first_rank m b instr into o source between row k i w x p q s h worlds here in
        let step = branches m b instr into o source between row k i w x p q s h worlds here g
        (does k x s _ (end_within m b instr into o source between row k i w x p q s h worlds here) ∙ ap (λ c. Found (where_holds x q c (place_of m s.stands.is.number s.stands.is.function p.frame.pc + 3))) e) in
        goes_silently m b i p n k w x q (moved_to q (q.frame.pc + over g) q.frame.words) step worlds (more g l start) way
      where
        more : (g : Bool) → over g < 4 → place m q ≡ 2 → place m q < place m (moved_to q (q.frame.pc + over g) q.frame.words)
        more true l start = let e = ranks m b instr into o source between row k i w x p q s h worlds here 2 q.frame.words l in omega (arith, e, start)
        more false l start = let e = ranks m b instr into o source between row k i w x p q s h worlds here 0 q.frame.words l in omega (arith, e, start)

    -- the last of the one way: 1 comes
    ends_true : f ≡ true → Does → HoldTheSame m k i x p (moved_to q (q.frame.pc + 3) q.frame.words)
        → Once m b i p (moved_to q (q.frame.pc + 3) q.frame.words) k w x
    ends_true e does hold =
        let st = stored m b instr into o source between row k i w x p q s h worlds here (pos 1) 3 in
        both_go m b i p (moved_to q (q.frame.pc + 3) q.frame.words) k w x hold worlds
        (at_slots m k i x p q s (suc p.frame.pc) (core.put p.frame.slots into (Holds (Num (pos 1)))))
        (moved_to q (q.frame.pc + 4) (put_there (pos 1)))
        (moves m b instr into o source between row k i w x p q s h worlds here (pos 1) 3 (stands_at m b instr into o source between row k i w x p q s h worlds here 3 _ refl))
        (does w ∙ ap (λ (g : Bool). code.goes_on w p (core.put p.frame.slots into (Holds (Num (truth g))))) e)
        (ready_behind m b instr into o source between row k i w x p q s h worlds here (pos 1) (put_there (pos 1)) st.changes
        (st.ranged (λ y e. subst (InRange Int) (let f : pos 1 ≡ y = cc in f) (truth_range true)) s.stands.is.words.kind.ranged)
        (ap (λ a. a >>= number_in) st.there) (truth_range true))

    -- the last of the other way: 0 is there
    ends_false : f ≡ false → Does → (others : List Word) → Changes q.frame.words others to 4 → AreInRange others
        → number_at Int others (pos to) ≡ Found (pos 0) → HoldTheSame m k i x p (moved_to q (q.frame.pc + 2) others)
        → Once m b i p (moved_to q (q.frame.pc + 2) others) k w x
    ends_false e does others changes ranged found hold =
        both_go m b i p (moved_to q (q.frame.pc + 2) others) k w x hold worlds
        (at_slots m k i x p q s (suc p.frame.pc) (core.put p.frame.slots into (Holds (Num (pos 0)))))
        (moved_to q (q.frame.pc + 4) others)
        (leaves m b instr into o source between row k i w x p q s h worlds here others)
        (does w ∙ ap (λ (g : Bool). code.goes_on w p (core.put p.frame.slots into (Holds (Num (truth g))))) e)
        (ready_behind m b instr into o source between row k i w x p q s h worlds here (pos 0) others changes ranged found (truth_range false))

  -- 1 behind the branch
  far : f ≡ true → Branches → Does → (k : Facts) (x : World) (s : Ready m k i x p q) → s.stands.is.number ≡ number → HoldTheSame m k i x p q
      → Way (sides m) (place m) 2 k i x p q
  far e branch does k x s n h =
      several m b i p q q (λ l. refl) 1 number k x s n h (λ now w y t o g g' worlds.
      branched now w y t g worlds 1 true e branch (omega arith)
      (several m b i p q (moved_to q (q.frame.pc + 3) q.frame.words) (λ l. refl) 0 number now y t o g (λ last v a u o' c c' worlds'.
      ends_true last v a u c worlds' e does c')))

  -- 0 and a jump
  near : f ≡ false → Branches → Does → (k : Facts) (x : World) (s : Ready m k i x p q) → s.stands.is.number ≡ number → HoldTheSame m k i x p q
      → Way (sides m) (place m) 3 k i x p q
  near e branch does k x s n h =
      several m b i p q q (λ l. refl) 2 number k x s n h (λ now w y t o g g' worlds.
      branched now w y t g worlds 2 false e branch (omega arith)
      (several m b i p q (moved_to q (q.frame.pc + 1) q.frame.words) (λ l. refl) 1 number now y t o g (λ next v a u o' c c' worlds'.
      second next v a u o' c worlds')))
    where
      second : (k : Facts) (w : Shared) (x : World) (s : Ready m k i x p q) → s.stands.is.number ≡ number → (h : HoldTheSame m k i x p q)
          → (worlds : (sides m).worlds k w x) → Next m b i p 1 k w x (moved_to q (q.frame.pc + 1) q.frame.words)
      second k w x s n h worlds =
          let others = put_there k w x s h worlds (pos 0) in
          let st = stored m b instr into o source between row k i w x p q s h worlds here (pos 0) 1 in
          let names = moved_names q (q.frame.pc + 2) others (names_stay m b instr into o source between row k i w x p q s h worlds here (pos 0)) in
          let first : place m (moved_to q (q.frame.pc + 1) q.frame.words) ≡ 3 = ranks m b instr into o source between row k i w x p q s h worlds here 0 q.frame.words (omega arith) in
          let later : place m (moved_to q (q.frame.pc + 2) others) ≡ 4 = ranks m b instr into o source between row k i w x p q s h worlds here 1 others (omega arith) in
          goes_silently m b i p 1 k w x (moved_to q (q.frame.pc + 1) q.frame.words) (moved_to q (q.frame.pc + 2) others)
          (moves m b instr into o source between row k i w x p q s h worlds here (pos 0) 1 (stands_at m b instr into o source between row k i w x p q s h worlds here 1 _ refl)) worlds (omega (arith, first, later))
          (several m b i p q (moved_to q (q.frame.pc + 2) others) names 0 number k x s n
          (hold_as m b i p k x q (moved_to q (q.frame.pc + 2) others) (λ l. sym (names l)) h)
          (λ last v a u o c c' worlds'.
          let same : to k w x s h worlds ≡ to last v a u c worlds' =
          ap (λ (f : typed.Function). number_place m.adts (types_of m f) into)
          (same_function m s.stands.is.number u.stands.is.number s.stands.is.function u.stands.is.function s.stands.is.there u.stands.is.there (n ∙ sym o)) in
          ends_false last v a u c worlds' e does others (subst (λ l. Changes q.frame.words others l 4) same st.changes)
          (st.ranged (λ y e. subst (InRange Int) (let f : pos 0 ≡ y = cc in f) (truth_range false)) s.stands.is.words.kind.ranged)
          (subst (λ l. number_at Int others (pos l) ≡ Found (pos 0)) same (ap (λ a. a >>= number_in) st.there)) c'))

  pub decided_goes : (k : Facts) (x : World) (r : (sides m).ready k i x p q) → r.0.stands.is.number ≡ number → Branches → Does → RowGoes m k i x p q
  decided_goes k x r n branch does = go f refl
    where
      go : (g : Bool) → f ≡ g → RowGoes m k i x p q
      go true e = (1, far e branch does k x r.0 n r.1)
      go false e = (2, near e branch does k x r.0 n r.1)
