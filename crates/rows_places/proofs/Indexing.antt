-- The instruction that looks up the address of an element: it comes to the linkage, or both processes end as broken.
use Rattle.std.proofs.Common.{◌≡◌, ℕ, ℤ, Bool, false, if◌then◌else◌, ◌&&◌, zero, suc, pos, ◌+◌, ◌*◌, ◌<◌, List, [], ◌∷◌, length, Option, Some, None, refl, sym, ap, ◌∙◌, subst, arith}
use Rattle.std.specs.Prelude.{Result, Ok, Err, slice_get, nat_eq}
use Rattle.process_model.specs.Process.{Went, Ends}
use Rattle.process_ways.specs.Ways.{Does, Way}
use Rattle.system_model.specs.Ending.{Broken}
use Rattle.system_model.specs.Limits.{frames_limit}
use Rattle.limbo_types.specs.Types.{Ty}
use Rattle.limbo_values.specs.declared.number.Kind.TheVariants.{Int}
use Rattle.limbo_values.specs.declared.raised.Raised.{Raised}
use Rattle.limbo_values.specs.Operators.{text_of}
use Rattle.limbo_values.specs.Texts.{index_in}
use Rattle.limbo_typed.specs.Typed as typed
use Rattle.limbo_meaning.specs.Exceptions.{dereference_of_nil}
use Rattle.limbo_meaning.specs.Process.{Shared}
use Rattle.limbo_meaning.specs.Values as value
use Rattle.core_code.specs.Code.{Instr}
use Rattle.core_code.specs.Machine as code
use Rattle.dis_isa.specs.declared.inst.Inst.{Inst}
use Rattle.dis_isa.specs.declared.inst.Operand as isa
use Rattle.dis_isa.specs.declared.op.Op.TheVariants as op
use Rattle.dis_meaning.specs.Words.{Word, Found}
use Rattle.dis_meaning.specs.Process.{Process, Printing}
use Rattle.dis_memory.specs.Blocks.{World}
use Rattle.dis_memory.specs.Kinds.{Elements}
use Rattle.dis_memory.specs.Places.{source_of}
use Rattle.value_words.specs.Facts.{Facts}
use Rattle.value_frames.specs.Frames.{element_place, reference_place}
use Rattle.value_moves.specs.Operands.{inst, own, of_own}
use Rattle.dis_meaning.specs.Places.{Own}
use Rattle.value_stores.proofs.Stores.{blocks_change}
use Rattle.value_code.specs.Objects.{object_of, of_function, size_at, globals, constants}
use Rattle.number_effects.specs.Giving.{with_word}
use Rattle.number_effects.proofs.Stepping.{steps_obey}
use Rattle.block_effects.specs.Stored.{PlainThere}
use Rattle.block_effects.specs.Arrays.{element_of}
use Rattle.block_effects.proofs.Arrays.{arrays_come}
use Rattle.value_follows.specs.Stands.{Ready, types_of}
use Rattle.value_follows.specs.Sides.{sides, HoldTheSame}
use Rattle.value_follows.specs.Rows.{Base, Row, is_tidied, rank, row_of, place}
use Rattle.value_follows.proofs.Standing.{code_here}
use Rattle.value_follows.proofs.Single.{both_end}
use Rattle.value_follows.proofs.Several.{moved_to, Next, goes_silently}
use Rattle.value_follows.proofs.Paces.{places_are}
use Rattle.rows_places.proofs.Last.{there, begins_at, reaches_here}
use Rattle.rows_places.proofs.Arrays.{ArrayHere, reads_none, reads_some, LinkageWord, linkage_word}
use Rattle.rows_places.proofs.Linking.{Linked, linked}
use Rattle.rows_places.proofs.Elements.{AddressHere}

-- ---- how far a process is in a row that isn't tidied

pub rank_plain : (r : Row) (j : ℕ) → is_tidied r.instr ≡ false → rank r j ≡ 2 + j
rank_plain r zero e = refl
rank_plain r (suc j) e = ap (λ (c : Bool). if c && nat_eq (suc (suc j)) r.size then 1 else 2 + suc j) e

module _ (m : typed.Module) (b : Base m) (k : Facts) (i : ℕ) (w : Shared) (x : World) (p : code.Process) (q : Process) (ready : Ready m k i x p q)
    (hold : HoldTheSame m k i x p q) (worlds : (sides m).worlds k w x) (instr : Instr) (here : slice_get p.frame.code p.frame.pc ≡ Some instr)
    (pc : ℕ) (pr : Option Printing) (j : ℕ) (so_far : pc ≡ q.frame.pc + j) where
  abbrev f : typed.Function
  f = ready.stands.is.function

  abbrev at : Process
  at = there m b k i w x p q ready hold worlds instr here pc pr j so_far

  -- both end as broken, whatever is left of the row
  pub ends_so : (n : ℕ) (text : List ℕ) → (sides m).code.step x at ≡ Ends x (Broken text) → (sides m).program.step w p ≡ Ends w (Broken text)
      → Next m b i p n k w x at
  ends_so n text e does =
      subst (λ d. Does (sides m) (place m) (λ l z r t. Way (sides m) (place m) n l i z r t) (place m at) k i w x p d) (sym e)
      (subst (λ d. Does (sides m) (place m) (λ l z r t. (sides m).ready l i z r t) (place m at) k i w x p d) e
      (both_end m b i p at k w x worlds (Broken text) e does))

  -- how far it is
  pub rank_here : is_tidied instr ≡ false → (g : ℕ) → g < size_at m f.of.answer (of_function m f) p.frame.pc (Some instr) → (r : Process)
      → r.frame.pc ≡ q.frame.pc + g → place m r ≡ 2 + g
  rank_here plain g l r e =
      (places_are m).ranked ready.stands.is.number f p.frame.pc instr g r ready.stands.is.there (code_here m k i x p q ready instr here) l
      (e ∙ ap (λ (n : ℕ). n + g) ready.pc)
      ∙ rank_plain (row_of m f p.frame.pc instr) g plain

  pub onward : is_tidied instr ≡ false → suc j < size_at m f.of.answer (of_function m f) p.frame.pc (Some instr) → (words : List Word)
      → place m at < place m (moved_to q (suc pc) words)
  onward plain long words =
      let a = rank_here plain j (omega (arith, long)) at so_far in
      let c = rank_here plain (suc j) long (moved_to q (suc pc) words) (omega (arith, so_far)) in
      omega (arith, a, c)

  module _ (r0 : ℕ) (item : Ty) (a : ArrayHere m k i w x p q ready hold worlds pc pr r0 item) (index : isa.Operand) (z : ℤ)
      (reads : source_of Int x at index ≡ Found z)
      (begins : begins_at m b k i w x p q ready hold worlds instr here pc pr j so_far
      (inst op.Indx (own (reference_place m.adts (types_of m f) r0)) (of_own element_place) index)) where
    abbrev r_at : ℕ
    r_at = reference_place m.adts (types_of m f) r0

    abbrev look : Inst
    look = inst op.Indx (own r_at) (of_own element_place) index

    pub word_there : LinkageWord m k i x p q ready element_place
    word_there = linkage_word m k i x p q ready element_place refl (omega arith)

    plain_there : PlainThere x at element_place
    plain_there = record { old = word_there.old; stands = word_there.found; is_plain = word_there.is_plain }

    nil_ends : a.array.part ≡ None → (sides m).code.step x at ≡ Ends x (Broken dereference_of_nil)
    nil_ends none =
        steps_obey.raises frames_limit (object_of m ∷ []) x at (object_of m) look dereference_of_nil
        (reaches_here m b k i w x p q ready hold worlds instr here pc pr j so_far look begins)
        ((arrays_come frames_limit (object_of m) x at).index.of_nil (own r_at) index element_place z plain_there
        (reads_none m k i w x p q ready hold worlds pc pr r0 item a none) reads)

    module _ (part : value.Part) (some : a.array.part ≡ Some part) where
      abbrev pub e : Elements
      e = (reads_some m k i w x p q ready hold worlds pc pr r0 item a part some).es

      index_ends : (raised : Raised) → index_in part.long z ≡ Err raised → (sides m).code.step x at ≡ Ends x (Broken (text_of raised))
      index_ends raised outside =
          let r = reads_some m k i w x p q ready hold worlds pc pr r0 item a part some in
          steps_obey.raises frames_limit (object_of m ∷ []) x at (object_of m) look (text_of raised)
          (reaches_here m b k i w x p q ready hold worlds instr here pc pr j so_far look begins)
          ((arrays_come frames_limit (object_of m) x at).index.no_index (own r_at) index element_place r.es z raised plain_there r.read reads
          (ap (λ (n : ℕ). index_in n z) r.leads.long ∙ outside))

      abbrev pub address_of : ℕ → Word
      address_of n = element_of e n

      abbrev pub others_of : ℕ → List Word
      others_of n = with_word q.frame.words element_place (address_of n)

      pub linked_there : (n : ℕ) → Linked m k i x p q ready element_place refl (omega arith) (omega arith) word_there (address_of n)
          (λ r e. absurd cc) (λ y e. absurd cc)
      linked_there n = linked m k i x p q ready element_place refl (omega arith) (omega arith) word_there (address_of n) (λ r e. absurd cc) (λ y e. absurd cc)

      pub address_there : (n : ℕ) → index_in part.long z ≡ Ok n → AddressHere m k (others_of n) part item n
      address_there n within =
          let r = reads_some m k i w x p q ready hold worlds pc pr r0 item a part some in
          let l = r.leads in
          let many = length l.vs in
          let array = (blocks_change m.adts (globals m) (constants m) k r.es.array).array_is item r.es.element many many r.es.words l.vs l.stands.0 l.formed in
          record {
            block = r.es.array;
            byte = (r.es.start + n) * r.es.element.size;
            named = l.named;
            word = (linked_there n).word;
            is = ap (λ (s : ℕ). (s + n) * r.es.element.size) l.start ∙ ap (λ d. (part.start + n) * d.size) array.2;
          }

      index_steps : (n : ℕ) → index_in part.long z ≡ Ok n → (sides m).code.step x at ≡ Went x (moved_to q (suc pc) (others_of n))
      index_steps n within =
          let r = reads_some m k i w x p q ready hold worlds pc pr r0 item a part some in
          steps_obey.stores frames_limit (object_of m ∷ []) x at (object_of m) look x (Own (pos element_place)) (others_of n) _
          (reaches_here m b k i w x p q ready hold worlds instr here pc pr j so_far look begins)
          ((arrays_come frames_limit (object_of m) x at).index.found (own r_at) index element_place r.es z n plain_there r.read reads
          (ap (λ (l : ℕ). index_in l z) r.leads.long ∙ within))
          refl

    -- what comes of it: it raises as the other does, or the row goes on with the address
    pub looks_up : is_tidied instr ≡ false → suc j < size_at m f.of.answer (of_function m f) p.frame.pc (Some instr) → (n : ℕ)
        → (a.array.part ≡ None → (sides m).program.step w p ≡ Ends w (Broken dereference_of_nil))
        → ((part : value.Part) (raised : Raised) → a.array.part ≡ Some part → index_in part.long z ≡ Err raised
        → (sides m).program.step w p ≡ Ends w (Broken (text_of raised)))
        → ((part : value.Part) (some : a.array.part ≡ Some part) (h : ℕ) → index_in part.long z ≡ Ok h
        → Way (sides m) (place m) n k i x p (moved_to q (suc pc) (others_of part some h)))
        → Next m b i p n k w x at
    looks_up plain long n no_array outside inside = go a.array.part refl
      where
        by_index : (part : value.Part) → a.array.part ≡ Some part → (r : Result ℕ Raised) → index_in part.long z ≡ r → Next m b i p n k w x at
        by_index part some (Ok h) e =
            goes_silently m b i p n k w x at (moved_to q (suc pc) (others_of part some h)) (index_steps part some h e) worlds
            (onward plain long (others_of part some h)) (inside part some h e)
        by_index part some (Err raised) e = ends_so n (text_of raised) (index_ends part some raised e) (outside part raised some e)

        go : (o : Option value.Part) → a.array.part ≡ o → Next m b i p n k w x at
        go None e = ends_so n dereference_of_nil (nil_ends e) (no_array e)
        go (Some part) e = by_index part e (index_in part.long z) refl
