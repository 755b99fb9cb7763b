-- Part of an array: the array comes into the slot first, which is busy then, and a part of it comes there in its place.
use Rattle.std.proofs.Common.{◌≡◌, ℕ, ℤ, suc, pos, negsuc, ◌+◌, ◌-◌, ◌<◌, ◌≤◌, Bool, true, false, ◌&&◌, if◌then◌else◌, List, [], ◌∷◌, length, Option, Some, None, Result, Ok, Err, refl, ap, ◌∙◌, subst, arith, rules, inr}
use Rattle.std.specs.Prelude.{nat_le}
use Rattle.std.proofs.lemmas.Int.{ints}
use Rattle.system_model.specs.Ending.{Broken}
use Rattle.heap_model.specs.Heap.{there}
use Rattle.heap_model.specs.Facts.{Named}
use Rattle.limbo_types.specs.Types as ty
use Rattle.limbo_types.specs.Types.{Ty}
use Rattle.limbo_values.specs.declared.number.Kind.TheVariants.{Int}
use Rattle.limbo_values.specs.declared.raised.Raised.{Raised}
use Rattle.limbo_values.specs.declared.raised.Raised.TheVariants.{ArrayBounds}
use Rattle.limbo_values.specs.Operators.{text_of}
use Rattle.limbo_values.specs.Numbers.{InRange}
use Rattle.limbo_values.specs.Texts.{bounds_in}
use Rattle.limbo_typed.specs.declared.operation.Operation.TheVariants.{Slice}
use Rattle.limbo_typed.specs.declared.operation.Sequence.TheVariants as sequence
use Rattle.limbo_typed.specs.Typed as typed
use Rattle.inf_text.specs.Steps.{◌>>=◌}
use Rattle.limbo_meaning.specs.Exceptions.{with_text}
use Rattle.limbo_meaning.specs.Operations.{gives, sliced, long_of}
use Rattle.limbo_meaning.specs.Process.{Shared}
use Rattle.limbo_meaning.specs.Trees.{Operate}
use Rattle.limbo_meaning.specs.Values as value
use Rattle.limbo_meaning.specs.Values.{Array, array_named}
use Rattle.system_model.specs.Limits.{frames_limit}
use Rattle.core_code.specs.Machine as code
use Rattle.core_code.specs.Slots as core
use Rattle.core_code.specs.Slots.{Holds}
use Rattle.core_typing.specs.Held as held
use Rattle.core_typing.specs.Held.{Of}
use Rattle.core_typing.specs.Going.{got_by}
use Rattle.dis_isa.specs.declared.inst.Inst.{Inst}
use Rattle.dis_isa.specs.declared.inst.Middle.{Middle}
use Rattle.dis_isa.specs.declared.inst.Operand as isa
use Rattle.dis_isa.specs.declared.op.Op.TheVariants as op
use Rattle.dis_meaning.specs.Words.{Refer, Found, word_at}
use Rattle.dis_meaning.specs.Process.{Process}
use Rattle.dis_memory.specs.Blocks as block
use Rattle.dis_memory.specs.Blocks.{World, next_serial}
use Rattle.dis_memory.specs.Kinds.{Elements, elements_at, length_of}
use Rattle.dis_memory.specs.Places.{source_of, given_of}
use Rattle.value_words.specs.Forms as forms
use Rattle.value_words.specs.Facts.{Facts, IsPart}
use Rattle.value_words.specs.Stands.{an_array}
use Rattle.value_frames.specs.Frames.{number_place, reference_place}
use Rattle.value_frames.specs.Standing.{a_value}
use Rattle.value_moves.specs.Operands.{inst, own}
use Rattle.value_moves.proofs.Leading.{spots_lead}
use Rattle.value_code.specs.Objects.{object_of}
use Rattle.number_effects.specs.Giving.{with_word}
use Rattle.number_effects.specs.Stepping.{Reaches}
use Rattle.number_effects.proofs.Giving.{results_go}
use Rattle.number_effects.proofs.Stepping.{steps_obey}
use Rattle.block_effects.specs.Contents.{IsThere}
use Rattle.block_effects.specs.Stored.{AfterBlock}
use Rattle.block_effects.proofs.Arrays.{arrays_come}
use Rattle.value_follows.specs.Stands.{types_of, place_of, GoesOn}
use Rattle.value_follows.specs.Sides.{sides, HoldTheSame}
use Rattle.value_follows.specs.Rows.{Base}
use Rattle.value_follows.proofs.Several.{moved_to}
use Rattle.value_follows.proofs.Single.{Once, both_go, both_end}
use Rattle.rows_lists.proofs.OnTheWay.{On}
use Rattle.rows_lists.proofs.Coming.{put_on, reference_there, block_comes, ready_referring}
use Rattle.rows_lists.proofs.Busy.{busy_alone}
use Rattle.rows_lists.proofs.Blocks.{lead, word_leads}
use Rattle.rows_lists.proofs.Lists.{one_name, comes}
use Rattle.rows_lists.proofs.Parts.{part_made}

-- what the other comes to, by the bounds
abbrev pub sliced_by : (m : typed.Module) (w : Shared) (p : code.Process) (item : Ty) (has_from has_to : Bool) (into : ℕ) → Option value.Part
    → Result (ℕ × ℕ) Raised → code.Does
sliced_by m w p item g h into part r =
    comes m w p (ty.ArrayOf item) (Slice sequence.Array g h) into
    (with_text r >>= λ b. gives m.adts (code.memory_of w p.frame) (Array (sliced part b)))

-- ---- bounds that are right rise, and end within

record Within (count : ℕ) (b : ℕ × ℕ) : Type 0 where
  rises : b.0 ≤ b.1
  ends : b.1 ≤ count

bounds_within : (count : ℕ) (from to : ℤ) (b : ℕ × ℕ) → bounds_in count from to ≡ Ok b → Within count b
bounds_within count (pos from) (pos to) b e = go (nat_le from to) refl (nat_le to count) refl e
  where
    go : (p : Bool) → nat_le from to ≡ p → (q : Bool) → nat_le to count ≡ q → (if p && q then Ok (from, to) else Err ArrayBounds) ≡ Ok b → Within count b
    go true is true ends e =
        let same : (from, to) ≡ b = cc in
        let rises : from ≤ to = search rules in
        let within : to ≤ count = search rules in
        subst (Within count) same (record { rises = rises; ends = within })
    go true is false ends e = absurd cc
    go false is q ends e = absurd cc
bounds_within count (pos from) (negsuc to) b e = absurd cc
bounds_within count (negsuc from) to b e = absurd cc

-- ---- how long an array in a slot is, or 0

abbrev pub long_in : code.Process → (slot : ℕ) → ℕ
long_in p s = long_of (value.part_of (core.value_of (core.slot p.frame.slots s)))

-- ---- less than what ints count

counted_below : (n many : ℕ) → n ≤ many → InRange Int (pos many) → InRange Int (pos n)
counted_below n many few counted = record { above = omega (arith, ints); below = let h = counted.below in omega (arith, ints, few, h) }

zero_counted : InRange Int (pos 0)
zero_counted = record { above = omega (arith, ints); below = omega (arith, ints) }

-- ---- the elements to which a reference leads

module _ (m : typed.Module) (k : Facts) (w : Shared) (x : World) (worlds : (sides m).worlds k w x) (item : Ty) where
  pub record ElementsThere (r : Option ℕ) (part : Option value.Part) : Type 0 where
    pub elements : Option Elements
    pub are : elements_at x r ≡ Found elements
    pub long : length_of elements ≡ long_of part
    pub counted : InRange Int (pos (long_of part))

  pub elements_there : (r : Option ℕ) (part : Option value.Part) → IsPart k item r part → IsThere x r → ElementsThere r part
  elements_there r None i there = record { elements = None; are = (lead m k w x worlds).no_array item r i; long = refl; counted = zero_counted }
  elements_there r (Some p) i there =
      let a = (lead m k w x worlds).array item r p i there in record {
        elements = Some a.0;
        are = a.1;
        long = a.2.long;
        counted = counted_below p.long (length a.2.vs) (let h = a.2.within in omega (arith, h)) a.2.counted;
      }

-- ---- the last instruction

module _ (m : typed.Module) (b : Base m) (k : Facts) (i : ℕ) (w : Shared) (x : World) (n : ℕ) (f : typed.Function) (j : ℕ) (p : code.Process) (q : Process)
    (into : ℕ) (on : On m k i x (into ∷ []) n f j p q) (hold : HoldTheSame m k i x p q) (worlds : (sides m).worlds k w x)
    (l : into < length p.frame.slots) (item : Ty) (g h : Bool) (from : isa.Operand) (end : Middle) where
  abbrev to : ℕ
  to = reference_place m.adts (types_of m f) into

  abbrev pub last : Inst
  last = inst op.Slicea from end (own to)

  abbrev live : List ℕ
  live = got_by m.adts (ty.ArrayOf item) (Operate (Slice sequence.Array g h))

  module _ (is : Reaches (object_of m ∷ []) x q (object_of m) last) (first second : ℤ) (first_is : source_of Int x q from ≡ Found first)
      (second_is : given_of Int x q end ≡ Found second) (next : suc q.frame.pc ≡ place_of m n f (suc p.frame.pc))
      (goes : GoesOn m f (suc p.frame.pc) (held.put on.known into (Of (ty.ArrayOf item) live))) where
    -- of nothing it is nothing
    nil_comes : word_at q.frame.words (pos to) ≡ Found (Refer None) → (bounds : ℕ × ℕ) → bounds_in 0 first second ≡ Ok bounds
        → (sides m).program.step w p ≡ sliced_by m w p item g h into None (Ok bounds) → Once m b i p q k w x
    nil_comes before bounds e does =
        let d = reference_there m b k i w x (into ∷ []) n f j p q on hold worlds into l (busy_alone into) None before in
        let others = with_word q.frame.words to (Refer None) in
        let stored = (results_go.reference x q (own to) q.frame.words to d.leads None None before).0 in
        both_go m b i p q k w x hold worlds (put_on p into (Holds (Array None))) (moved_to q (suc q.frame.pc) others)
        (steps_obey.stores frames_limit (object_of m ∷ []) x q (object_of m) last x d.leads.place others _ is
        ((arrays_come frames_limit (object_of m) x q).read.slice_of_nil from (own to) end first second bounds d first_is second_is refl e)
        ((spots_lead.own x q to).1 others))
        does
        (ready_referring m k k i x x (into ∷ []) n f j p q on into l (busy_alone into)
        (record { facts = λ n f e. e; makers = λ n j e. e; forms = λ n o e. e }) (omega arith) (λ c free made. (free, refl))
        others stored.changes (stored.ranged (λ z e. absurd cc) on.words.kind.ranged) (Of (ty.ArrayOf item) live) (Holds (Array None))
        (a_value others (number_place m.adts (types_of m f) into) to (ty.ArrayOf item) live (Array None)
        (an_array to item None None stored.there tt) (λ s c e. one_name c None s e))
        (suc q.frame.pc) next goes)

    -- of part of an array it is part
    part_comes : (c : ℕ) (part : value.Part) → IsPart k item (Some c) (Some part) → word_at q.frame.words (pos to) ≡ Found (Refer (Some c))
        → (bounds : ℕ × ℕ) → bounds_in part.long first second ≡ Ok bounds
        → (sides m).program.step w p ≡ sliced_by m w p item g h into (Some part) (Ok bounds) → Once m b i p q k w x
    part_comes c part named before bounds e does =
        let d = reference_there m b k i w x (into ∷ []) n f j p q on hold worlds into l (busy_alone into) (Some c) before in
        let a = (lead m k w x worlds).array item (Some c) part named (word_leads m k i x p q hold to (Some c) before) in
        let es = a.0 in
        let of = a.2 in
        let new : value.Part = record { array = part.array; start = part.start + bounds.0; long = bounds.1 - bounds.0 } in
        let made = part_made m k i w x worlds part.array (part.start + bounds.0) (bounds.1 - bounds.0) es.array of.named (ap there of.found) in
        let lie = bounds_within part.long first second bounds e in
        let bounds_so = ap (λ (o : ℕ). bounds_in o first second) of.long ∙ e in
        block_comes m b k i w x (into ∷ []) n f j p q on hold worlds into l (busy_alone into) last is (Some c) before
        (block.Part es.array (part.start + bounds.0) (bounds.1 - bounds.0))
        ((arrays_come frames_limit (object_of m) x q).read.slice from (own to) end first second es bounds d first_is second_is a.1 bounds_so
        ∙ ap (λ (s : ℕ). AfterBlock x q d (block.Part es.array (s + bounds.0) (bounds.1 - bounds.0))) of.start)
        made.now w made.made made.after (ty.ArrayOf item) live (Array (Some new))
        (λ words z.
        a_value words (number_place m.adts (types_of m f) into) to (ty.ArrayOf item) live (Array (Some new))
        (an_array to item (Some (next_serial x)) (Some new) z
        (inr (
          made.is_known,
          (
            es.array,
            (
              length of.vs,
              (
                record {
                  fact = made.made.changes.0.grows.facts es.array (Named part.array) of.named;
                  formed = made.made.changes.0.grows.forms es.array (forms.Elements item (length of.vs)) of.formed;
                },
                let h = of.within in omega (arith, lie.rises, lie.ends, h),
              ),
            ),
          ),
        )))
        (λ s c e. one_name c (Some part.array) s e))
        next goes does

    pub slice_comes : (r : Option ℕ) (part : Option value.Part) → IsPart k item r part → word_at q.frame.words (pos to) ≡ Found (Refer r)
        → (bounds : Result (ℕ × ℕ) Raised) → bounds_in (long_of part) first second ≡ bounds
        → (sides m).program.step w p ≡ sliced_by m w p item g h into part bounds → Once m b i p q k w x
    slice_comes r part named before (Err raised) e does =
        let es = elements_there m k w x worlds item r part named (word_leads m k i x p q hold to r before) in
        let d = reference_there m b k i w x (into ∷ []) n f j p q on hold worlds into l (busy_alone into) r before in
        both_end m b i p q k w x worlds (Broken (text_of raised))
        (steps_obey.raises frames_limit (object_of m ∷ []) x q (object_of m) last (text_of raised) is
        ((arrays_come frames_limit (object_of m) x q).read.no_slice from (own to) end first second es.elements raised d first_is second_is es.are
        (ap (λ (o : ℕ). bounds_in o first second) es.long ∙ e)))
        does
    slice_comes None None named before (Ok bounds) e does = nil_comes before bounds e does
    slice_comes (Some c) None named before (Ok bounds) e does = absurd named
    slice_comes None (Some part) named before (Ok bounds) e does = absurd named
    slice_comes (Some c) (Some part) named before (Ok bounds) e does = part_comes c part named before bounds e does
