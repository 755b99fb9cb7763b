-- The first item of a list comes into a slot, where it has a box; or both processes end as broken, where the list is nil.
use Rattle.std.proofs.Common.{◌≡◌, ℕ, true, pos, ◌<◌, List, [], ◌∷◌, length, Option, Some, None, refl, sym, ap, ◌∙◌, subst, arith, inl, inr}
use Rattle.std.proofs.Math.Nat.{zero-mod}
use Rattle.std.specs.Prelude.{slice_get}
use Rattle.process_model.specs.Process.{Ends}
use Rattle.heap_model.specs.Heap.{at, there, in_one}
use Rattle.heap_model.proofs.Heap.{there_is, there_of}
use Rattle.limbo_types.specs.Types as ty
use Rattle.limbo_types.specs.Types.{Ty}
use Rattle.limbo_layout.specs.Adts.{Def, Has}
use Rattle.limbo_layout.specs.Layout as layout
use Rattle.limbo_layout.specs.Layout.{Laid}
use Rattle.limbo_values.specs.declared.number.Kind.TheVariants as kind
use Rattle.limbo_typed.specs.Typed as typed
use Rattle.limbo_typed.specs.declared.operation.Operation.TheVariants.{Head}
use Rattle.limbo_meaning.specs.Exceptions.{Raising, dereference_of_nil}
use Rattle.limbo_meaning.specs.Evaluation.{unless_raised, leaves}
use Rattle.limbo_meaning.specs.Memory as source
use Rattle.limbo_meaning.specs.Memory.{HeapValue, head_in}
use Rattle.limbo_meaning.specs.Operations.{Outcome, gives_inner}
use Rattle.limbo_meaning.specs.Process.{Shared}
use Rattle.limbo_meaning.specs.Trees.{Operate}
use Rattle.limbo_meaning.specs.Values.{Value, Ref, fitted}
use Rattle.system_model.specs.Limits.{frames_limit}
use Rattle.system_model.specs.Ending.{Broken}
use Rattle.core_code.specs.Code.{Give}
use Rattle.core_code.specs.Machine as code
use Rattle.core_code.specs.Slots as core
use Rattle.core_code.specs.Slots.{Slot, Holds}
use Rattle.core_code.proofs.Rounds.{rounds_give_rooms}
use Rattle.core_typing.specs.Held as held
use Rattle.core_typing.specs.Held.{Of}
use Rattle.core_typing.specs.Needs.{IsA, StandsAs}
use Rattle.dis_meaning.specs.Words.{Word, Refer, Found, ◌>>=◌, word_at, or_wrong, dead_address, reference}
use Rattle.dis_meaning.specs.Process.{Frame, Process}
use Rattle.dis_memory.specs.Blocks as block
use Rattle.dis_memory.specs.Blocks.{Block, World}
use Rattle.dis_memory.specs.Kinds.{Linked, cell_in}
use Rattle.dis_memory.specs.Naming.{inside}
use Rattle.value_words.specs.Forms.{Cells}
use Rattle.value_words.specs.Facts.{Facts, IsName, IsFormed}
use Rattle.value_words.specs.Stands.{Stands, a_number, a_text, a_name, an_array, no_words, a_tuple, an_adt}
use Rattle.value_heaps.specs.Blocks.{IsBlock, elements, cell, record_of, channel, instance_of}
use Rattle.value_frames.specs.Frames.{AsReference, form_of, number_place, reference_place, room_for}
use Rattle.value_frames.specs.Standing.{SlotStands}
use Rattle.value_frames.proofs.Rest.{slots_rest}
use Rattle.value_moves.specs.Operands.{own}
use Rattle.value_moves.specs.Writing.{Lies}
use Rattle.value_moves.proofs.Leading.{spots_lead}
use Rattle.value_roots.proofs.Words.{has_counts}
use Rattle.value_code.specs.Objects.{globals, constants}
use Rattle.number_effects.proofs.Reading.{operands_are_read}
use Rattle.block_effects.specs.Stored.{ReadsCell}
use Rattle.value_follows.specs.Stands.{types_of, FrameIs}
use Rattle.value_follows.specs.Sides.{sides, program, HoldTheSame}
use Rattle.value_follows.proofs.Slots.{of_type, slot_is}
use Rattle.rows_boxes.proofs.Boxing.{names_word}

-- ---- a list in a slot

-- A word stands for a list of a type: for `nil`, or for one with a first cell.
pub data IsListOf (k : Facts) (t : Ty) : Option ℕ → Value → Type 0 where
  is_nil : IsListOf k t None (Ref None)
  is_cell : (b n : ℕ) → IsFormed k (Cells t) b n → IsListOf k t (Some b) (Ref (Some n))

module _ (defs : List Def) (k : Facts) (words : List Word) (t : Ty) where
  record ListAt (at : ℕ) (v : Value) : Type 0 where
    refers : Option ℕ
    word : word_at words (pos at) ≡ Found (Refer refers)
    list : IsListOf k t refers v

  same_list : (u : Ty) → ty.ListOf u ≡ ty.ListOf t → u ≡ t
  same_list u e = cc

  named : (r n : Option ℕ) → IsName k (Some (Cells t)) r n → IsListOf k t r (Ref n)
  named None None i = is_nil
  named (Some b) None i = absurd i
  named None (Some n) i = absurd i
  named (Some b) (Some n) i = is_cell b n i

  list_there : (at : ℕ) (u : Ty) (v : Value) → u ≡ ty.ListOf t → Stands defs k words at u v → ListAt at v
  list_there _ _ _ e (a_number at kind.Byte z g i) = absurd cc
  list_there _ _ _ e (a_number at kind.Int z g i) = absurd cc
  list_there _ _ _ e (a_number at kind.Big z g i) = absurd cc
  list_there _ _ _ e (a_text at r s g i) = absurd cc
  list_there _ _ _ e (a_name at (ty.ListOf u) r n i g h) =
      record { refers = r; word = g; list = named r n (subst (λ (y : Ty). IsName k (Some (Cells y)) r n) (same_list u e) h) }
  list_there _ _ _ e (a_name at u r n i g h) = absurd cc
  list_there _ _ _ e (an_array at u r p g i) = absurd cc
  list_there _ _ _ e (no_words at) = absurd cc
  list_there _ _ _ e (a_tuple at ts rs vs l all) = absurd cc
  list_there _ _ _ e (an_adt at n d rs vs g l all) = absurd cc

  nothing_there : (at : ℕ) (u : Ty) (v : Value) → u ≡ ty.Nil → Stands defs k words at u v → ListAt at v
  nothing_there _ _ _ e (a_number at kind.Byte z g i) = absurd cc
  nothing_there _ _ _ e (a_number at kind.Int z g i) = absurd cc
  nothing_there _ _ _ e (a_number at kind.Big z g i) = absurd cc
  nothing_there _ _ _ e (a_text at r s g i) = absurd cc
  nothing_there _ _ _ e (a_name at ty.Nil None None i g h) = record { refers = None; word = g; list = is_nil }
  nothing_there _ _ _ e (a_name at ty.Nil (Some b) None i g h) = absurd h
  nothing_there _ _ _ e (a_name at ty.Nil None (Some n) i g h) = absurd h
  nothing_there _ _ _ e (a_name at ty.Nil (Some b) (Some n) i g h) = absurd h
  nothing_there _ _ _ e (a_name at u r n i g h) = absurd cc
  nothing_there _ _ _ e (an_array at u r p g i) = absurd cc
  nothing_there _ _ _ e (no_words at) = absurd cc
  nothing_there _ _ _ e (a_tuple at ts rs vs l all) = absurd cc
  nothing_there _ _ _ e (an_adt at n d rs vs g l all) = absurd cc

  either_there : (at : ℕ) (u : Ty) (v : Value) → StandsAs u (ty.ListOf t) → Stands defs k words at u v → ListAt at v
  either_there at u v (inl (inl e)) s = list_there at u v e s
  either_there at (ty.RefPick n c) v (inl (inr e)) s = absurd cc
  either_there at u v (inl (inr e)) s = absurd e
  either_there at u v (inr n) s = nothing_there at u v n.0 s

list_form : (u t : Ty) → StandsAs u (ty.ListOf t) → form_of u ≡ AsReference
list_form u t (inl (inl e)) = ap form_of e
list_form (ty.RefPick n c) t (inl (inr e)) = absurd cc
list_form u t (inl (inr e)) = absurd e
list_form u t (inr n) = ap form_of n.0

module _ (m : typed.Module) (k : Facts) (i : ℕ) (x : World) (busy : List ℕ) (g : code.Frame) (fr : Frame) (is : FrameIs m k i x busy g fr) (f : typed.Function)
    (same : is.function ≡ f) (t : Ty) where
  pub record ListOn (s : ℕ) : Type 0 where
    pub value : Value
    pub holds : core.slot g.slots s ≡ Holds value
    pub refers : Option ℕ
    pub word : word_at fr.words (pos (reference_place m.adts (types_of m f) s)) ≡ Found (Refer refers)
    pub list : IsListOf k t refers value

  pub list_on : (s : ℕ) → s < length g.slots → (Has busy s → ⊥) → IsA is.known s (ty.ListOf t) → ListOn s
  list_on s l free a =
      let h = of_type (held.slot is.known s) a.0 a.1 in
      let n = number_place m.adts (types_of m is.function) s in
      let r = reference_place m.adts (types_of m is.function) s in
      let own = is.words.own s in
      let slot = core.slot g.slots s in
      let stands = subst (λ h. SlotStands m.adts k x.heap fr.serial fr.words n r h slot own) h.1 (slot_is m k i x busy g fr is s l free) in
      let v = slots_rest.is_value m.adts k x.heap fr.serial fr.words n r a.0 h.0 slot own stands in
      let reads = slots_rest.reads m.adts k x.heap fr.serial fr.words n r a.0 h.0 v.0 own
      (subst (λ o. SlotStands m.adts k x.heap fr.serial fr.words n r (Of a.0 h.0) o own) v.1 stands) in
      let c = either_there m.adts k fr.words t r a.0 v.0 a.2 (reads.reference (list_form a.0 t a.2)) in
      record {
        value = v.0;
        holds = v.1;
        refers = c.refers;
        word = ap (λ (h : typed.Function). word_at fr.words (pos (reference_place m.adts (types_of m h) s))) (sym same) ∙ c.word;
        list = c.list;
      }

-- ---- its first cell

module _ (m : typed.Module) (k : Facts) (t : Ty) where
  -- A block is a cell of a list of the type, with a first item that lies in its words.
  record CellIs (serial : ℕ) (v : HeapValue) (b : Block) : Type 0 where
    head : Value
    tail : Option ℕ
    is : v ≡ source.Cell head tail
    words : List Word
    rest : Option ℕ
    found : b ≡ block.Cell words rest
    lies : Lies m.adts k words 0 t (room_for m.adts t) head

  same_cells : (u : Ty) (s : ℕ) → k.form s ≡ Some (Cells u) → k.form s ≡ Some (Cells t) → u ≡ t
  same_cells u s e g = let h : Some (Cells u) ≡ Some (Cells t) = sym e ∙ g in cc

  cell_is : (s : ℕ) (v : HeapValue) (b : Block) → k.form s ≡ Some (Cells t) → IsBlock m.adts (globals m) (constants m) k s v b → CellIs s v b
  cell_is s _ _ f (elements u r words vs g l few whole each refer) = absurd cc
  cell_is s _ _ f (cell u r words v tail rest g l whole stands refer named behind older) =
      let type_is = same_cells u s g f in
      let room_is : r ≡ room_for m.adts t = sym (rounds_give_rooms.rooms m.adts t r (subst (λ (y : Ty). Laid m.adts y r) type_is l)) in
      record {
        head = v;
        tail = tail;
        is = refl;
        words = words;
        rest = rest;
        found = refl;
        lies = subst (λ (y : layout.Room). Lies m.adts k words 0 t y v) room_is (record {
          laid = subst (λ (y : Ty). Laid m.adts y r) type_is l;
          aligned = zero-mod r.align;
          whole = whole;
          only = refer;
          stands = subst (λ (y : Ty). Stands m.adts k words 0 y v) type_is stands;
        });
      }
  cell_is s _ _ f (record_of n r words v g l whole stands refer named) = absurd cc
  cell_is s _ _ f (channel u d g) = absurd cc
  cell_is s _ _ f (instance_of o rs words vs g l whole all refer named c) = absurd cc

module _ (m : typed.Module) (k : Facts) (i : ℕ) (w : Shared) (x : World) (p : code.Process) (q : Process) (hold : HoldTheSame m k i x p q)
    (worlds : (sides m).worlds k w x) (t : Ty) where
  -- What a word of the frame leads to that refers to a cell.
  pub record CellThere (b n : ℕ) : Type 0 where
    pub head : Value
    pub tail : Option ℕ
    pub is : at w.heap n ≡ Some (source.Cell head tail)
    pub words : List Word
    pub rest : Option ℕ
    pub found : at x.heap b ≡ Some (block.Cell words rest)
    pub lies : Lies m.adts k words 0 t (room_for m.adts t) head

  pub cell_there : (place b n : ℕ) → word_at q.frame.words (pos place) ≡ Found (Refer (Some b)) → IsFormed k (Cells t) b n → CellThere b n
  cell_there place b n e formed =
      let one = there_is (at x.heap b) (hold.same.live b (hold.same.roots b (names_word q place b e))) in
      let v = worlds.0.here n b one.0 formed.fact one.1 in
      let u = worlds.0.there n v.0 v.1 in
      let same : u.0 ≡ b = k.once n u.0 b u.2 formed.fact in
      let stands = subst (λ r. IsBlock m.adts (globals m) (constants m) k r v.0 u.1) same u.4.0 in
      let c = cell_is m k t b v.0 u.1 formed.formed stands in
      record {
        head = c.head;
        tail = c.tail;
        is = v.1 ∙ ap (λ (h : HeapValue). Some h) c.is;
        words = c.words;
        rest = c.rest;
        found = subst (λ r. at x.heap r ≡ Some u.1) same u.3 ∙ ap (λ (d : Block). Some d) c.found;
        lies = c.lies;
      }

  module _ (b n : ℕ) (c : CellThere b n) where
    pub linked : Linked
    linked = record { element = c.words; rest = c.rest }

    -- what its item refers to is there
    pub led_there : (a : ℕ) → Has c.words (Refer (Some a)) → there (at x.heap a) ≡ true
    led_there a h =
        let counts = has_counts c.words a h in
        worlds.0.closed.closed b a (there_of (at x.heap b) (block.Cell c.words c.rest) c.found)
        (subst (λ o. 0 < in_one inside o a) (sym c.found) (omega (arith, counts)))

  module _ (place : ℕ) where
    pub reads_nil : word_at q.frame.words (pos place) ≡ Found (Refer None) → ReadsCell x q (own place) None
    reads_nil e = (
      None,
      operands_are_read.source_referring x q (own place) q.frame.words place (spots_lead.own x q place).0 ∙ ap (λ a. a >>= reference) e,
      refl,
    )

    pub reads_cell : (b n : ℕ) (c : CellThere b n) → word_at q.frame.words (pos place) ≡ Found (Refer (Some b))
        → ReadsCell x q (own place) (Some (record { element = c.words; rest = c.rest }))
    reads_cell b n c e = (
      Some b,
      operands_are_read.source_referring x q (own place) q.frame.words place (spots_lead.own x q place).0 ∙ ap (λ a. a >>= reference) e,
      ap (λ (o : Option Block). or_wrong dead_address o >>= cell_in >>= λ d. Found (Some d)) c.found,
    )

-- ---- what the other comes to

module _ (m : typed.Module) (t : Ty) (into a : ℕ) (w : Shared) (p : code.Process)
    (here : slice_get p.frame.code p.frame.pc ≡ Some (Give t (Operate Head) into (a ∷ []))) where
  abbrev comes : Raising Outcome → code.Does
  comes r = code.gives frames_limit (program m) w p into
      (unless_raised r (leaves m.adts (code.memory frames_limit (program m) w p) t Head))

  looks : (v : Value) → core.slot p.frame.slots a ≡ Holds v
      → (sides m).program.step w p ≡ comes (gives_inner m.adts (code.memory frames_limit (program m) w p) head_in v)
  looks v e =
      ap (code.next frames_limit (program m) w p) here
      ∙ ap (λ (s : Slot). comes (gives_inner m.adts (code.memory frames_limit (program m) w p) head_in (core.value_of s))) e

  pub does_nil : core.slot p.frame.slots a ≡ Holds (Ref None) → (sides m).program.step w p ≡ Ends w (Broken dereference_of_nil)
  does_nil e = looks (Ref None) e

  pub does_head : (n : ℕ) (head : Value) (tail : Option ℕ) → core.slot p.frame.slots a ≡ Holds (Ref (Some n)) → at w.heap n ≡ Some (source.Cell head tail)
      → head ≡ fitted m.adts t head → (sides m).program.step w p ≡ code.goes_on w p (core.put p.frame.slots into (Holds head))
  does_head n head tail e g whole =
      looks (Ref (Some n)) e
      ∙ ap (λ (o : Option HeapValue). code.goes_on w p (core.put p.frame.slots into (Holds (fitted m.adts t (head_in o))))) g
      ∙ ap (λ (v : Value). code.goes_on w p (core.put p.frame.slots into (Holds v))) (sym whole)
