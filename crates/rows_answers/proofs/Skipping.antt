-- Connectives: a branch over the numbers that are there where the left operand decides.
use Rattle.std.proofs.Common.{◌≡◌, ℕ, ℤ, suc, pos, ◌+◌, ◌*◌, ◌/◌, ◌<◌, ◌≤◌, Bool, true, false, if◌then◌else◌, List, [], ◌∷◌, length, Option, Some, None, refl, sym, ap, ◌∙◌, arith, inl}
use Rattle.std.specs.Prelude.{slice_get}
use Rattle.std.specs.declared.cmp.Ordering.{Ordering}
use Rattle.std.specs.declared.cmp.Ordering.TheVariants as ordering
use Rattle.std.specs.Ordering.{int_cmp, int_eq, is_eq, is_ne}
use Rattle.std.proofs.lemmas.Int.{ints}
use Rattle.process_model.specs.Process.{Went}
use Rattle.limbo_types.specs.Types as ty
use Rattle.limbo_types.specs.Types.{Ty}
use Rattle.limbo_values.specs.declared.number.Kind.TheVariants.{Int}
use Rattle.limbo_values.specs.declared.operator.Comparison.{Comparison}
use Rattle.limbo_values.specs.declared.operator.Comparison.TheVariants.{Equal, Unequal}
use Rattle.limbo_values.specs.Numbers.{InRange}
use Rattle.limbo_values.specs.Operators as operators
use Rattle.limbo_values.specs.Operators.{compared}
use Rattle.limbo_typed.specs.Typed as typed
use Rattle.limbo_typed.specs.declared.operation.Connective.{Connective}
use Rattle.limbo_typed.specs.declared.operation.Connective.TheVariants as connective
use Rattle.limbo_meaning.specs.Process.{Shared}
use Rattle.limbo_meaning.specs.Values.{Value, Num}
use Rattle.limbo_meaning.specs.Operations.{decides, truth_of, other_than}
use Rattle.system_model.specs.Limits.{frames_limit}
use Rattle.core_code.specs.Code.{Instr, Skip}
use Rattle.core_code.specs.Machine as code
use Rattle.core_code.specs.Slots as core
use Rattle.core_code.specs.Slots.{Slot, Holds}
use Rattle.core_typing.specs.Held as held
use Rattle.core_typing.specs.Held.{Of, Decided}
use Rattle.core_typing.specs.Needs.{Finds}
use Rattle.core_typing.proofs.Cleaning.{put_clean}
use Rattle.dis_isa.specs.declared.inst.Inst.{Inst}
use Rattle.dis_isa.specs.declared.inst.Operand.TheVariants as operand
use Rattle.dis_isa.specs.declared.inst.Middle.TheVariants as middle
use Rattle.dis_isa.specs.declared.op.Op.{Op}
use Rattle.dis_isa.specs.declared.op.Op.TheVariants as op
use Rattle.dis_meaning.specs.Counts.{in_words}
use Rattle.dis_meaning.specs.Words.{Word, Plain, Found, word_at}
use Rattle.dis_meaning.specs.Numbers.{Branches, number_row, number_at}
use Rattle.dis_meaning.specs.Process.{Process}
use Rattle.dis_memory.specs.Blocks.{World}
use Rattle.dis_memory.specs.Process.{jumps}
use Rattle.value_words.specs.Facts.{Facts}
use Rattle.value_words.proofs.Rows.{below}
use Rattle.value_frames.specs.Frames.{answer_place, spare_place, number_place, frame_bytes, frame_references}
use Rattle.value_frames.specs.Types.{AreOf}
use Rattle.value_frames.proofs.Slots.{put_long}
use Rattle.value_moves.specs.Operands.{Code, inst, own}
use Rattle.value_moves.proofs.Leading.{spots_lead}
use Rattle.value_code.specs.Objects.{object_of, of_function, size_at, blank_site}
use Rattle.value_code.specs.Works.{jump_to}
use Rattle.value_code.specs.Code.{Site, code_of}
use Rattle.number_effects.specs.Giving.{with_word, WordStored}
use Rattle.number_effects.specs.Numbers.{where_holds}
use Rattle.number_effects.proofs.Control.{control_goes}
use Rattle.number_effects.proofs.Numbers.{numbers_work}
use Rattle.number_effects.proofs.Reading.{operands_are_read}
use Rattle.number_effects.proofs.Stepping.{steps_obey}
use Rattle.value_follows.specs.Stands.{types_of, GoesOn, place_of, Awaited, Ready, scope}
use Rattle.value_follows.specs.Sides.{sides, HoldTheSame, program}
use Rattle.value_follows.specs.Rows.{Base, RowStands, RowGoes, site_of}
use Rattle.value_follows.proofs.Standing.{finds, goes_behind, code_here, ready_on, at_slots}
use Rattle.value_follows.proofs.Slots.{uses, number_is}
use Rattle.value_follows.proofs.Single.{nothing_changes, Once}
use Rattle.value_follows.proofs.Several.{Next, moved_to, moved_names, hold_as}
use Rattle.value_follows.proofs.Jumps.{inside_there}
use Rattle.value_follows.proofs.Putting.{word_same}
use Rattle.rows_answers.specs.Rows.{SkipsGo}
use Rattle.rows_answers.proofs.OnTheWay.{On, ready_of, on_ready, way_on, reaches_first, reaches_on, further, goes_silently, goes_both, next_row}
use Rattle.rows_answers.proofs.Numbers.{Holding, put_int, put_decision, numbered, names_same, stored, moves_number, kind_then}

-- ---- what a connective compares, and which number it gives where the left operand decides

abbrev branches_by : Connective → Op
branches_by connective.And = op.Bnew
branches_by connective.Or = op.Beqw

abbrev compares_by : Connective → Comparison
compares_by connective.And = Unequal
compares_by connective.Or = Equal

abbrev value_of : Connective → ℤ
value_of connective.And = pos 0
value_of connective.Or = pos 1

row_by : (c : Connective) → number_row (branches_by c) ≡ Some (Branches Int (compares_by c))
row_by connective.And = refl
row_by connective.Or = refl

by_order : (o : Ordering) → is_ne o ≡ other_than (other_than (if is_eq o then false else true))
by_order ordering.Less = refl
by_order ordering.Equal = refl
by_order ordering.Greater = refl

by_equal : (e : Bool) → e ≡ other_than (if e then false else true)
by_equal true = refl
by_equal false = refl

-- it branches where the operand doesn't decide
branches_so : (c : Connective) (z : ℤ) → compared (compares_by c) z (pos 0) ≡ other_than (decides c (Num z))
branches_so connective.And z = by_order (int_cmp z (pos 0))
branches_so connective.Or z = by_equal (int_eq z (pos 0))

truth_and : (h : Bool) → other_than h ≡ true → Num (operators.truth h) ≡ Num (pos 0)
truth_and true e = absurd cc
truth_and false e = refl

truth_or : (h : Bool) → h ≡ true → Num (operators.truth h) ≡ Num (pos 1)
truth_or true e = refl
truth_or false e = absurd cc

truth_is : (c : Connective) (z : ℤ) → decides c (Num z) ≡ true → truth_of (Num z) ≡ Num (value_of c)
truth_is connective.And z e = truth_and (operators.holds z) e
truth_is connective.Or z e = truth_or (operators.holds z) e

small_range : (c : Connective) → InRange Int (value_of c)
small_range connective.And = record { above = omega (arith, ints); below = omega (arith, ints) }
small_range connective.Or = record { above = omega (arith, ints); below = omega (arith, ints) }

zero_range : InRange Int (pos 0)
zero_range = record { above = omega (arith, ints); below = omega (arith, ints) }

one_range : InRange Int (pos 1)
one_range = record { above = omega (arith, ints); below = omega (arith, ints) }

-- ---- the code

abbrev branch : Connective → (from target : ℕ) → Inst
branch c from target = inst (branches_by c) (own from) (middle.Imm (pos 0)) (operand.Imm (pos target))

abbrev place_in : Site → ℕ → ℕ
place_in c s = number_place c.scene.adts c.scene.variables s

plain_code : (a : Site) (c : Connective) (into from n : ℕ) → code_of a (Skip c into None from n)
    ≡ branch c (place_in a from) (a.here + 3) ∷ numbered (value_of c) (place_in a into) ∷ jump_to (a.past n) ∷ []
plain_code a connective.And into from n = refl
plain_code a connective.Or into from n = refl

noted_code : (a : Site) (c : Connective) (into d from n : ℕ) → code_of a (Skip c into (Some d) from n)
    ≡ branch c (place_in a from) (a.here + 4) ∷ numbered (pos 1) (place_in a d) ∷ numbered (value_of c) (place_in a into) ∷ jump_to (a.past n)
    ∷ numbered (pos 0) (place_in a d) ∷ []
noted_code a connective.And into d from n = refl
noted_code a connective.Or into d from n = refl

-- ---- on the way

module _ (m : typed.Module) (b : Base m) (c : Connective) (into : ℕ) (decision : Option ℕ) (from passes i : ℕ) (p : code.Process) (q : Process) (n : ℕ)
    (f : typed.Function) (there : slice_get m.functions n ≡ Some f)
    (here : slice_get p.frame.code p.frame.pc ≡ Some (Skip c into decision from passes))
    (in_code : slice_get (of_function m f).code p.frame.pc ≡ Some (Skip c into decision from passes))
    (row : RowStands m n f p.frame.pc (Skip c into decision from passes)) where
  abbrev instr : Instr
  instr = Skip c into decision from passes

  abbrev types : List Ty
  types = types_of m f

  abbrev num : ℕ → ℕ
  num s = number_place m.adts types s

  abbrev begin : ℕ
  begin = place_of m n f p.frame.pc

  abbrev site : Site
  site = site_of m n f p.frame.pc row.at

  abbrev size : ℕ
  size = size_at m f.of.answer (of_function m f) p.frame.pc (Some instr)

  -- Words that the frame has on its way: of its type, and naming what they named.
  abbrev Mid : List Word → Type 0
  Mid ws =
      AreOf (frame_bytes m.adts types (length p.frame.slots)) (frame_references m.adts types (length p.frame.slots)) ws
      × ((d : ℕ) → in_words d ws ≡ in_words d q.frame.words)

  abbrev Holds_so : Facts → World → Type 0
  Holds_so k x = HoldTheSame m k i x p q

  -- what is said of an instruction on the way, whatever others did
  abbrev Leads_on : ℕ → Process → Type 0
  Leads_on l r =
      (k : Facts) (w : Shared) (x : World) → On m k i x Awaited n f 0 p q → HoldTheSame m k i x p q → HoldTheSame m k i x p r
      → (sides m).worlds k w x → Next m b i p l k w x r

  module _ (k : Facts) (w : Shared) (x : World) (on : On m k i x Awaited n f 0 p q) (hold : HoldTheSame m k i x p q) (worlds : (sides m).worlds k w x) where
    -- the process goes on to words that name the same, and the other doesn't
    goes_to : (l j : ℕ) (r : Process) (ws : List Word) → Mid ws → r.frame.pc ≡ begin + j → (j' : ℕ) → j < j' → j' < size
        → (sides m).code.step x r ≡ Went x (moved_to q (q.frame.pc + j') ws) → Leads_on l (moved_to q (q.frame.pc + j') ws)
        → Next m b i p (suc l) k w x r
    goes_to l j r ws mid at j' more within step rest =
        let e = on.pc in
        let to = moved_to q (q.frame.pc + j') ws in
        let names = moved_names q (q.frame.pc + j') ws mid.1 in
        goes_silently m b i p n f instr row (suc l) k k w x x r to step (nothing_changes m k i x) worlds
        (further m b i p n f instr row there in_code refl j j' r to more within at (omega (arith, e)))
        (way_on m b i p n f instr row Awaited 0 q to names l k x on (hold_as m b i p k x q to (λ d. sym (names d)) hold)
        (λ now v y grows o h h' e. rest now v y o h h' e))

    -- a number comes into a slot
    moves : (l j : ℕ) (ws : List Word) (s : ℕ) → Mid ws → s < length p.frame.slots → (z : ℤ) → InRange Int z
        → slice_get (code_of site instr) j ≡ Some (numbered z (num s)) → suc j < size
        → (Mid (with_word ws (num s) (Plain z)) → Leads_on l (moved_to q (q.frame.pc + suc j) (with_word ws (num s) (Plain z))))
        → Next m b i p (suc l) k w x (moved_to q (q.frame.pc + j) ws)
    moves l j ws s mid few z range is within rest =
        let r = moved_to q (q.frame.pc + j) ws in
        let kind = kind_then m types (length p.frame.slots) r on.words.laid mid.0 s few z range x in
        let new : Mid (with_word ws (num s) (Plain z)) =
        (kind, λ d. names_same m types (length p.frame.slots) r on.words.laid mid.0 s few z range d ∙ mid.1 d) in
        let e = on.pc in
        goes_to l j r (with_word ws (num s) (Plain z)) new (omega (arith, e)) (suc j) (omega arith) within
        (moves_number m types (length p.frame.slots) r on.words.laid mid.0 s few z range x
        (reaches_on m b i p n f instr row Awaited 0 j j (omega arith) q k w x on hold worlds ws (numbered z (num s)) is)
        ∙ ap (λ (d : ℕ). Went x (moved_to q d (with_word ws (num s) (Plain z)))) (omega arith))
        (rest new)

    -- ---- the branch

    begins_mid : Mid q.frame.words
    begins_mid = (on.words.kind, λ d. refl)

    module _ (z : ℤ) (found : number_at Int q.frame.words (pos (num from)) ≡ Found z) where
      branched : (target : ℕ) → slice_get (code_of site instr) 0 ≡ Some (branch c (num from) target) → target < length (object_of m).insts
          → (g : Bool) → other_than (decides c (Num z)) ≡ g → (sides m).code.step x q ≡ where_holds x q g target
      branched target is within g e =
          steps_obey.does frames_limit (object_of m ∷ []) x q (object_of m) (branch c (num from) target) (where_holds x q g target)
          (reaches_first m b i p n f instr row Awaited 0 q k w x on hold worlds (branch c (num from) target) is)
          (numbers_work.branches frames_limit (object_of m) x q (branch c (num from) target) Int (compares_by c) z (pos 0) target (row_by c)
          (operands_are_read.source_number x q (own (num from)) q.frame.words (num from) Int (spots_lead.own x q (num from)).0 ∙ found)
          (operands_are_read.middle_given x q Int (pos 0)) refl within
          ∙ ap (λ (h : Bool). Found (where_holds x q h target)) (branches_so c z ∙ e))

    -- ---- the jump past the right operand

    abbrev past : ℕ
    past = place_of m n f (suc p.frame.pc + passes)

    abbrev known_past : held.Slots
    known_past = held.put (held.noted on.known decision true) into (Of ty.Int [])

    goes_past : GoesOn m f (suc p.frame.pc + passes) known_past
    goes_past = goes_behind m f p.frame.pc on.known instr on.goes in_code 0 (suc p.frame.pc + passes) known_past (omega arith) refl

    abbrev known_next : held.Slots
    known_next = held.noted on.known decision false

    goes_next : GoesOn m f (suc p.frame.pc) known_next
    goes_next = goes_behind m f p.frame.pc on.known instr on.goes in_code 1 (suc p.frame.pc) known_next (omega arith) refl

    next_within : place_of m n f (suc p.frame.pc) < length (object_of m).insts
    next_within = inside_there m b n f (suc p.frame.pc) known_next there goes_next

    finds_so : Finds (scope m f) f.of.answer on.known instr
    finds_so = finds m f p.frame.pc on.known instr on.goes in_code

    abbrev ready : Ready m k i x p q
    ready = ready_of m k i x n f p q on

    jumps_past : (j : ℕ) (ws : List Word) → slice_get (code_of site instr) j ≡ Some (jump_to past)
        → (sides m).code.step x (moved_to q (q.frame.pc + j) ws) ≡ Went x (moved_to q past ws)
    jumps_past j ws is =
        steps_obey.does frames_limit (object_of m ∷ []) x (moved_to q (q.frame.pc + j) ws) (object_of m) (jump_to past)
        (jumps x (moved_to q (q.frame.pc + j) ws) past)
        (reaches_on m b i p n f instr row Awaited 0 j j (omega arith) q k w x on hold worlds ws (jump_to past) is)
        (control_goes.jmp frames_limit (object_of m) x (moved_to q (q.frame.pc + j) ws) (jump_to past) past refl refl
        (inside_there m b n f (suc p.frame.pc + passes) known_past there goes_past))

    -- both come to a place, with other slots and words
    comes : (r : Process) → HoldTheSame m k i x p r → (pc at : ℕ) (known : held.Slots) (slots : core.Slots) (ws : List Word)
        → length slots ≡ length p.frame.slots
        → Holding m k i x.heap q.frame.serial types p.frame.variables known slots ws → GoesOn m f pc known → at ≡ place_of m n f pc
        → word_at ws (pos answer_place) ≡ word_at q.frame.words (pos answer_place)
        → word_at ws (pos (spare_place m.adts types)) ≡ word_at q.frame.words (pos (spare_place m.adts types))
        → (sides m).code.step x r ≡ Went x (moved_to q at ws) → (sides m).program.step w p ≡ code.goes_to w p pc slots → Once m b i p r k w x
    comes r hold_r pc at known slots ws long are goes is answer spare step does =
        goes_both m b i p n f instr row k k w w x x r hold_r worlds (nothing_changes m k i x) worlds
        (at_slots m k i x p q ready pc slots) (moved_to q at ws) step does
        (ready_on m k i x p q ready pc at known slots ws long are.0 are.1 goes is answer spare)

  -- words in front of the slots are as they were
  stays_so : (ws : List Word) (s : ℕ) (w : Word) → WordStored ws (num s) w → (at : ℕ) → 4 * (at / 4) + 4 ≤ num s
      → word_at (with_word ws (num s) w) (pos at) ≡ word_at ws (pos at)
  stays_so ws s w stored at low = word_same ws (with_word ws (num s) w) at (stored.changes.words (at / 4) (inl low))

-- ---- nothing is to be told of the decision

module _ (m : typed.Module) (b : Base m) (c : Connective) (into from passes i : ℕ) (p : code.Process) (q : Process) (n : ℕ)
    (f : typed.Function) (there : slice_get m.functions n ≡ Some f)
    (here : slice_get p.frame.code p.frame.pc ≡ Some (Skip c into None from passes))
    (in_code : slice_get (of_function m f).code p.frame.pc ≡ Some (Skip c into None from passes))
    (row : RowStands m n f p.frame.pc (Skip c into None from passes)) (few : into < length p.frame.slots) (z : ℤ)
    (holds : core.slot p.frame.slots from ≡ Holds (Num z))
    (found : number_at Int q.frame.words (pos (number_place m.adts (types_of m f) from)) ≡ Found z) where
  abbrev it : Instr
  it = Skip c into None from passes

  abbrev at_site : Site
  at_site = site_of m n f p.frame.pc row.at

  abbrev num_at : ℕ → ℕ
  num_at s = number_place m.adts (types_of m f) s

  is_at : (j : ℕ) (a : Inst)
      → slice_get (branch c (num_at from) (place_of m n f p.frame.pc + 3) ∷ numbered (value_of c) (num_at into) ∷ jump_to (at_site.past passes) ∷ []) j
      ≡ Some a
      → slice_get (code_of at_site it) j ≡ Some a
  is_at j a e = ap (λ (l : Code). slice_get l j) (plain_code at_site c into from passes) ∙ e

  long : size_at m f.of.answer (of_function m f) p.frame.pc (Some it) ≡ 3
  long = ap (λ (l : Code). length l) (plain_code (blank_site m f.of.answer (of_function m f) p.frame.pc) c into from passes)

  abbrev next_is : place_of m n f (suc p.frame.pc) ≡ place_of m n f p.frame.pc + 3
  next_is = next_row m b i p n f it row in_code 3 long

  abbrev words_then : List Word
  words_then = with_word q.frame.words (num_at into) (Plain (value_of c))

  does_so : (w : Shared) (g : Bool) → decides c (Num z) ≡ g
      → (sides m).program.step w p ≡ code.left_decides frames_limit (program m) w p into None from passes g
  does_so w g e =
      ap (code.next frames_limit (program m) w p) here
      ∙ ap (λ (l : Slot). code.left_decides frames_limit (program m) w p into None from passes (decides c (core.value_of l))) holds
      ∙ ap (λ (h : Bool). code.left_decides frames_limit (program m) w p into None from passes h) e

  module _ (k : Facts) (w : Shared) (x : World) (on : On m k i x Awaited n f 0 p q) (hold : HoldTheSame m k i x p q) (worlds : (sides m).worlds k w x) where
    target_within : place_of m n f p.frame.pc + 3 < length (object_of m).insts
    target_within =
        let e = next_is in
        let l = next_within m b c into None from passes i p q n f there here in_code row k w x on hold worlds in
        omega (arith, e, l)

    step_is : (g : Bool) → other_than (decides c (Num z)) ≡ g
        → (sides m).code.step x q ≡ where_holds x q g (place_of m n f p.frame.pc + 3)
    step_is g e =
        branched m b c into None from passes i p q n f there here in_code row k w x on hold worlds z found (place_of m n f p.frame.pc + 3)
        (is_at 0 (branch c (num_at from) (place_of m n f p.frame.pc + 3)) refl) target_within g e

    -- the operand doesn't decide: the next instruction comes
    goes_near : decides c (Num z) ≡ false → Once m b i p q k w x
    goes_near e =
        let next = next_is in
        let same : suc p.frame.pc ≡ suc p.frame.pc = refl in
        comes m b c into None from passes i p q n f there here in_code row k w x on hold worlds q hold (suc p.frame.pc)
        (place_of m n f p.frame.pc + 3) on.known p.frame.slots q.frame.words refl (on.words, on.mine)
        (goes_next m b c into None from passes i p q n f there here in_code row k w x on hold worlds) (omega (arith, next)) refl refl
        (step_is true (ap other_than e)) (does_so w false e)

    -- it does: the number comes
    goes_far : decides c (Num z) ≡ true → Next m b i p 2 k w x q
    goes_far e =
        let at = on.pc in
        goes_to m b c into None from passes i p q n f there here in_code row k w x on hold worlds 1 0 q q.frame.words
        (begins_mid m b c into None from passes i p q n f there here in_code row k w x on hold worlds) (omega (arith, at)) 1 (omega arith)
        (let l = long in omega (arith, l))
        (step_is false (ap other_than e) ∙ ap (λ (d : ℕ). Went x (moved_to q d q.frame.words)) (omega arith))
        (λ now v y o h h' worlds'.
        moves m b c into None from passes i p q n f there here in_code row now v y o h worlds' 0 1 q.frame.words into
        (begins_mid m b c into None from passes i p q n f there here in_code row now v y o h worlds') few (value_of c) (small_range c)
        (is_at 1 (numbered (value_of c) (num_at into)) refl) (let l = long in omega (arith, l))
        (λ new last u t o' g g' worlds''. goes_out last u t o' g g' worlds''))
      where
        goes_out : (k : Facts) (w : Shared) (x : World) → (on : On m k i x Awaited n f 0 p q) → HoldTheSame m k i x p q
            → HoldTheSame m k i x p (moved_to q (q.frame.pc + 2) words_then) → (sides m).worlds k w x
            → Once m b i p (moved_to q (q.frame.pc + 2) words_then) k w x
        goes_out k w x on hold hold_there worlds =
            let st = stored m (types_of m f) (length p.frame.slots) q on.words.laid on.words.kind into few (value_of c) (small_range c) x in
            let found_so = finds_so m b c into None from passes i p q n f there here in_code row k w x on hold worlds in
            let after = put_int m k i x.heap q.frame.serial (types_of m f) p.frame.variables on.known p.frame.slots q.frame.words
            (on.words, on.mine) into few found_so.1 (value_of c) st (small_range c) in
            comes m b c into None from passes i p q n f there here in_code row k w x on hold worlds (moved_to q (q.frame.pc + 2) words_then) hold_there
            (suc p.frame.pc + passes) (place_of m n f (suc p.frame.pc + passes)) (held.put on.known into (Of ty.Int []))
            (core.put p.frame.slots into (Holds (Num (value_of c)))) words_then (put_long p.frame.slots into (Holds (Num (value_of c)))) after
            (goes_past m b c into None from passes i p q n f there here in_code row k w x on hold worlds) refl
            (stays_so m b c into None from passes i p q n f there here in_code row q.frame.words into (Plain (value_of c)) st answer_place (omega arith))
            (stays_so m b c into None from passes i p q n f there here in_code row q.frame.words into (Plain (value_of c)) st
            (spare_place m.adts (types_of m f)) (omega arith))
            (jumps_past m b c into None from passes i p q n f there here in_code row k w x on hold worlds 2 words_then
            (is_at 2 (jump_to (at_site.past passes)) refl))
            (does_so w true e
            ∙ ap (λ (l : Slot). code.goes_to w p (suc p.frame.pc + passes) (core.put p.frame.slots into (Holds (truth_of (core.value_of l))))) holds
            ∙ ap (λ (v : Value). code.goes_to w p (suc p.frame.pc + passes) (core.put p.frame.slots into (Holds v))) (truth_is c z e))

  pub plain_goes : (k : Facts) (x : World) → On m k i x Awaited n f 0 p q → HoldTheSame m k i x p q → RowGoes m k i x p q
  plain_goes k x on hold = go (decides c (Num z)) refl
    where
      go : (g : Bool) → decides c (Num z) ≡ g → RowGoes m k i x p q
      go false e = (
        0,
        way_on m b i p n f it row Awaited 0 q q (λ d. refl) 0 k x on hold
            (λ now w y grows o h h' worlds. goes_near now w y o h worlds e),
      )
      go true e = (
        2,
        way_on m b i p n f it row Awaited 0 q q (λ d. refl) 2 k x on hold
            (λ now w y grows o h h' worlds. goes_far now w y o h worlds e),
      )

-- ---- what was decided comes into a slot

module _ (m : typed.Module) (b : Base m) (c : Connective) (into d from passes i : ℕ) (p : code.Process) (q : Process) (n : ℕ)
    (f : typed.Function) (there : slice_get m.functions n ≡ Some f)
    (here : slice_get p.frame.code p.frame.pc ≡ Some (Skip c into (Some d) from passes))
    (in_code : slice_get (of_function m f).code p.frame.pc ≡ Some (Skip c into (Some d) from passes))
    (row : RowStands m n f p.frame.pc (Skip c into (Some d) from passes)) (few : into < length p.frame.slots) (few_d : d < length p.frame.slots) (z : ℤ)
    (holds : core.slot p.frame.slots from ≡ Holds (Num z))
    (found : number_at Int q.frame.words (pos (number_place m.adts (types_of m f) from)) ≡ Found z) where
  abbrev noted : Instr
  noted = Skip c into (Some d) from passes

  abbrev noted_site : Site
  noted_site = site_of m n f p.frame.pc row.at

  abbrev num_of : ℕ → ℕ
  num_of s = number_place m.adts (types_of m f) s

  is_of : (j : ℕ) (a : Inst)
      → slice_get (branch c (num_of from) (place_of m n f p.frame.pc + 4) ∷ numbered (pos 1) (num_of d) ∷ numbered (value_of c) (num_of into)
      ∷ jump_to (noted_site.past passes) ∷ numbered (pos 0) (num_of d) ∷ []) j ≡ Some a
      → slice_get (code_of noted_site noted) j ≡ Some a
  is_of j a e = ap (λ (l : Code). slice_get l j) (noted_code noted_site c into d from passes) ∙ e

  noted_long : size_at m f.of.answer (of_function m f) p.frame.pc (Some noted) ≡ 5
  noted_long = ap (λ (l : Code). length l) (noted_code (blank_site m f.of.answer (of_function m f) p.frame.pc) c into d from passes)

  abbrev words_one : List Word
  words_one = with_word q.frame.words (num_of d) (Plain (pos 1))

  abbrev words_two : List Word
  words_two = with_word words_one (num_of into) (Plain (value_of c))

  abbrev words_zero : List Word
  words_zero = with_word q.frame.words (num_of d) (Plain (pos 0))

  does_noted : (w : Shared) (g : Bool) → decides c (Num z) ≡ g
      → (sides m).program.step w p ≡ code.left_decides frames_limit (program m) w p into (Some d) from passes g
  does_noted w g e =
      ap (code.next frames_limit (program m) w p) here
      ∙ ap (λ (l : Slot). code.left_decides frames_limit (program m) w p into (Some d) from passes (decides c (core.value_of l))) holds
      ∙ ap (λ (h : Bool). code.left_decides frames_limit (program m) w p into (Some d) from passes h) e

  module _ (k : Facts) (w : Shared) (x : World) (on : On m k i x Awaited n f 0 p q) (hold : HoldTheSame m k i x p q) (worlds : (sides m).worlds k w x) where
    noted_within : place_of m n f p.frame.pc + 4 < length (object_of m).insts
    noted_within =
        below (object_of m).insts (place_of m n f p.frame.pc + 4) (numbered (pos 0) (num_of d))
        (row.insts 4 (numbered (pos 0) (num_of d)) (is_of 4 (numbered (pos 0) (num_of d)) refl))

    step_so : (g : Bool) → other_than (decides c (Num z)) ≡ g
        → (sides m).code.step x q ≡ where_holds x q g (place_of m n f p.frame.pc + 4)
    step_so g e =
        branched m b c into (Some d) from passes i p q n f there here in_code row k w x on hold worlds z found (place_of m n f p.frame.pc + 4)
        (is_of 0 (branch c (num_of from) (place_of m n f p.frame.pc + 4)) refl) noted_within g e

    -- the operand doesn't decide: 0 comes
    notes_zero : decides c (Num z) ≡ false → Next m b i p 1 k w x q
    notes_zero e =
        let at = on.pc in
        goes_to m b c into (Some d) from passes i p q n f there here in_code row k w x on hold worlds 0 0 q q.frame.words
        (begins_mid m b c into (Some d) from passes i p q n f there here in_code row k w x on hold worlds) (omega (arith, at)) 4 (omega arith)
        (let l = noted_long in omega (arith, l))
        (step_so true (ap other_than e) ∙ ap (λ (a : ℕ). Went x (moved_to q a q.frame.words)) (omega (arith, at)))
        (λ now v y o h h' worlds'. zero_there now v y o h h' worlds')
      where
        zero_there : (k : Facts) (w : Shared) (x : World) → (on : On m k i x Awaited n f 0 p q) → HoldTheSame m k i x p q
            → HoldTheSame m k i x p (moved_to q (q.frame.pc + 4) q.frame.words) → (sides m).worlds k w x
            → Once m b i p (moved_to q (q.frame.pc + 4) q.frame.words) k w x
        zero_there k w x on hold hold_there worlds =
            let r = moved_to q (q.frame.pc + 4) q.frame.words in
            let st = stored m (types_of m f) (length p.frame.slots) r on.words.laid on.words.kind d few_d (pos 0) zero_range x in
            let found_so = finds_so m b c into (Some d) from passes i p q n f there here in_code row k w x on hold worlds in
            let after = put_decision m k i x.heap q.frame.serial (types_of m f) p.frame.variables on.known p.frame.slots q.frame.words
            (on.words, on.mine) d few_d found_so.2 (pos 0) st zero_range false refl in
            let next = next_row m b i p n f noted row in_code 5 noted_long in
            let at = on.pc in
            comes m b c into (Some d) from passes i p q n f there here in_code row k w x on hold worlds r hold_there
            (suc p.frame.pc) (q.frame.pc + 5) (held.put on.known d (Decided false))
            (core.put p.frame.slots d (Holds (Num (pos 0)))) words_zero (put_long p.frame.slots d (Holds (Num (pos 0)))) after
            (goes_next m b c into (Some d) from passes i p q n f there here in_code row k w x on hold worlds) (omega (arith, next, at))
            (stays_so m b c into (Some d) from passes i p q n f there here in_code row q.frame.words d (Plain (pos 0)) st answer_place (omega arith))
            (stays_so m b c into (Some d) from passes i p q n f there here in_code row q.frame.words d (Plain (pos 0)) st
            (spare_place m.adts (types_of m f)) (omega arith))
            (moves_number m (types_of m f) (length p.frame.slots) r on.words.laid on.words.kind d few_d (pos 0) zero_range x
            (reaches_on m b i p n f noted row Awaited 0 4 4 (omega arith) q k w x on hold worlds q.frame.words (numbered (pos 0) (num_of d))
            (is_of 4 (numbered (pos 0) (num_of d)) refl))
            ∙ ap (λ (a : ℕ). Went x (moved_to q a words_zero)) (omega arith))
            (does_noted w false e)

    -- it does: 1 comes, and the number
    notes_one : decides c (Num z) ≡ true → Next m b i p 3 k w x q
    notes_one e =
        let at = on.pc in
        goes_to m b c into (Some d) from passes i p q n f there here in_code row k w x on hold worlds 2 0 q q.frame.words
        (begins_mid m b c into (Some d) from passes i p q n f there here in_code row k w x on hold worlds) (omega (arith, at)) 1 (omega arith)
        (let l = noted_long in omega (arith, l))
        (step_so false (ap other_than e) ∙ ap (λ (a : ℕ). Went x (moved_to q a q.frame.words)) (omega arith))
        (λ now v y o h h' worlds'.
        moves m b c into (Some d) from passes i p q n f there here in_code row now v y o h worlds' 1 1 q.frame.words d
        (begins_mid m b c into (Some d) from passes i p q n f there here in_code row now v y o h worlds') few_d (pos 1) one_range
        (is_of 1 (numbered (pos 1) (num_of d)) refl) (let l = noted_long in omega (arith, l))
        (λ new later u t o' g g' after.
        moves m b c into (Some d) from passes i p q n f there here in_code row later u t o' g after 0 2 words_one into
        new few (value_of c) (small_range c)
        (is_of 2 (numbered (value_of c) (num_of into)) refl) (let l = noted_long in omega (arith, l))
        (λ newer last s r last_on j j' last_worlds. goes_out new.0 last s r last_on j j' last_worlds)))
      where
        goes_out : AreOf (frame_bytes m.adts (types_of m f) (length p.frame.slots)) (frame_references m.adts (types_of m f) (length p.frame.slots)) words_one
            → (k : Facts) (w : Shared) (x : World) → (on : On m k i x Awaited n f 0 p q) → HoldTheSame m k i x p q
            → HoldTheSame m k i x p (moved_to q (q.frame.pc + 3) words_two) → (sides m).worlds k w x
            → Once m b i p (moved_to q (q.frame.pc + 3) words_two) k w x
        goes_out kind k w x on hold hold_there worlds =
            let st = stored m (types_of m f) (length p.frame.slots) q on.words.laid on.words.kind d few_d (pos 1) one_range x in
            let su = stored m (types_of m f) (length p.frame.slots) (moved_to q (q.frame.pc + 2) words_one) on.words.laid kind into few (value_of c)
            (small_range c) x in
            let found_so = finds_so m b c into (Some d) from passes i p q n f there here in_code row k w x on hold worlds in
            let one = put_decision m k i x.heap q.frame.serial (types_of m f) p.frame.variables on.known p.frame.slots q.frame.words
            (on.words, on.mine) d few_d found_so.2 (pos 1) st one_range true refl in
            let slots_one = core.put p.frame.slots d (Holds (Num (pos 1))) in
            let many = put_long p.frame.slots d (Holds (Num (pos 1))) in
            let after = put_int m k i x.heap q.frame.serial (types_of m f) p.frame.variables (held.put on.known d (Decided true)) slots_one words_one
            one into (omega (arith, few, many)) (put_clean on.known d into (Decided true) found_so.1 (λ same. tt)) (value_of c) su (small_range c) in
            comes m b c into (Some d) from passes i p q n f there here in_code row k w x on hold worlds (moved_to q (q.frame.pc + 3) words_two) hold_there
            (suc p.frame.pc + passes) (place_of m n f (suc p.frame.pc + passes)) (held.put (held.put on.known d (Decided true)) into (Of ty.Int []))
            (core.put slots_one into (Holds (Num (value_of c)))) words_two (put_long slots_one into (Holds (Num (value_of c))) ∙ many) after
            (goes_past m b c into (Some d) from passes i p q n f there here in_code row k w x on hold worlds) refl
            (stays_so m b c into (Some d) from passes i p q n f there here in_code row words_one into (Plain (value_of c)) su answer_place (omega arith)
            ∙ stays_so m b c into (Some d) from passes i p q n f there here in_code row q.frame.words d (Plain (pos 1)) st answer_place (omega arith))
            (stays_so m b c into (Some d) from passes i p q n f there here in_code row words_one into (Plain (value_of c)) su
            (spare_place m.adts (types_of m f)) (omega arith)
            ∙ stays_so m b c into (Some d) from passes i p q n f there here in_code row q.frame.words d (Plain (pos 1)) st
            (spare_place m.adts (types_of m f)) (omega arith))
            (jumps_past m b c into (Some d) from passes i p q n f there here in_code row k w x on hold worlds 3 words_two
            (is_of 3 (jump_to (noted_site.past passes)) refl))
            (does_noted w true e
            ∙ ap (λ (l : Slot). code.goes_to w p (suc p.frame.pc + passes) (core.put slots_one into (Holds (truth_of (core.value_of l))))) holds
            ∙ ap (λ (v : Value). code.goes_to w p (suc p.frame.pc + passes) (core.put slots_one into (Holds v))) (truth_is c z e))

  pub noted_goes : (k : Facts) (x : World) → On m k i x Awaited n f 0 p q → HoldTheSame m k i x p q → RowGoes m k i x p q
  noted_goes k x on hold = go (decides c (Num z)) refl
    where
      go : (g : Bool) → decides c (Num z) ≡ g → RowGoes m k i x p q
      go false e = (
        1,
        way_on m b i p n f noted row Awaited 0 q q (λ a. refl) 1 k x on hold
            (λ now w y grows o h h' worlds. notes_zero now w y o h worlds e),
      )
      go true e = (
        3,
        way_on m b i p n f noted row Awaited 0 q q (λ a. refl) 3 k x on hold
            (λ now w y grows o h h' worlds. notes_one now w y o h worlds e),
      )

-- ---- the rows

module _ (m : typed.Module) (b : Base m) (c : Connective) (into : ℕ) (from passes : ℕ) (k : Facts) (i : ℕ) (x : World) (p : code.Process) (q : Process)
    (ready : (sides m).ready k i x p q) where
  skip_goes : (d : Option ℕ) → slice_get p.frame.code p.frame.pc ≡ Some (Skip c into d from passes) → RowGoes m k i x p q
  skip_goes None here =
      let is = ready.0.stands.is in
      let in_code = code_here m k i x p q ready.0 (Skip c into None from passes) here in
      let row = b.row_stands is.number is.function p.frame.pc (Skip c into None from passes) is.there in_code in
      let few = uses m k i x [] p.frame q.frame is p.frame.pc (Skip c into None from passes) in_code in
      let found = finds m is.function p.frame.pc is.known (Skip c into None from passes) ready.0.stands.goes in_code in
      let z = number_is m k i x [] p.frame q.frame is Int from refl few.2 (λ e. e) found.0 in
      plain_goes m b c into from passes i p q is.number is.function is.there here in_code row few.0 z.number z.holds z.found k x
      (on_ready m i p q k x ready.0) ready.1
  skip_goes (Some d) here =
      let is = ready.0.stands.is in
      let in_code = code_here m k i x p q ready.0 (Skip c into (Some d) from passes) here in
      let row = b.row_stands is.number is.function p.frame.pc (Skip c into (Some d) from passes) is.there in_code in
      let few = uses m k i x [] p.frame q.frame is p.frame.pc (Skip c into (Some d) from passes) in_code in
      let found = finds m is.function p.frame.pc is.known (Skip c into (Some d) from passes) ready.0.stands.goes in_code in
      let z = number_is m k i x [] p.frame q.frame is Int from refl few.2 (λ e. e) found.0 in
      noted_goes m b c into d from passes i p q is.number is.function is.there here in_code row few.0 few.1 z.number z.holds z.found k x
      (on_ready m i p q k x ready.0) ready.1

pub skips_go : SkipsGo
skips_go m b c into d from passes k i x p q ready here = skip_goes m b c into from passes k i x p q ready d here
