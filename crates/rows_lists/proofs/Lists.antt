-- What is in the first cell of a list, and what is behind it.
use Rattle.std.proofs.Common.{◌≡◌, ℕ, zero, suc, pos, ◌<◌, ◌≤◌, List, [], ◌∷◌, length, Option, Some, None, refl, sym, ap, ◌∙◌, subst, arith, inl, inr}
use Rattle.std.specs.Prelude.{slice_get}
use Rattle.heap_model.specs.Heap.{at}
use Rattle.limbo_types.specs.Types as ty
use Rattle.limbo_types.specs.Types.{Ty}
use Rattle.limbo_values.specs.declared.number.Kind.{Kind}
use Rattle.limbo_values.specs.declared.number.Kind.TheVariants as kind
use Rattle.limbo_typed.specs.declared.operation.Operation.{Operation}
use Rattle.limbo_typed.specs.declared.operation.Operation.TheVariants.{Head, Tail}
use Rattle.limbo_typed.specs.Typed as typed
use Rattle.limbo_typed.specs.Fitting.{of_kind, IsList}
use Rattle.limbo_meaning.specs.Memory.{HeapValue, Cell, head_in, tail_in}
use Rattle.limbo_meaning.specs.Process.{Shared}
use Rattle.limbo_meaning.specs.Trees.{Operate}
use Rattle.limbo_meaning.specs.Values.{Value, Ref, fitted}
use Rattle.limbo_meaning.specs.Exceptions.{Raising, dereference_of_nil}
use Rattle.limbo_meaning.specs.Operations.{Outcome, gives_inner}
use Rattle.limbo_meaning.specs.Evaluation.{leaves, unless_raised}
use Rattle.process_model.specs.Process.{Ends}
use Rattle.system_model.specs.Ending.{Broken}
use Rattle.system_model.specs.Limits.{frames_limit}
use Rattle.core_code.specs.Code.{Instr, Give}
use Rattle.core_code.specs.Machine as code
use Rattle.core_code.specs.Slots as core
use Rattle.core_code.specs.Slots.{Slot, Holds}
use Rattle.core_typing.specs.Held as held
use Rattle.core_typing.specs.Held.{Of}
use Rattle.core_typing.specs.Needs.{AreThese, IsClean}
use Rattle.core_typing.specs.Going.{got_by}
use Rattle.dis_isa.specs.declared.inst.Inst.{Inst}
use Rattle.dis_isa.specs.declared.inst.Middle.TheVariants as middle
use Rattle.dis_isa.specs.declared.op.Op.TheVariants as op
use Rattle.dis_meaning.specs.Words.{Word, Refer, Access, Found, ◌>>=◌, word_at, reference}
use Rattle.dis_meaning.specs.Process.{Process}
use Rattle.dis_memory.specs.Blocks as block
use Rattle.dis_memory.specs.Blocks.{World}
use Rattle.dis_memory.specs.Kinds.{first_cell}
use Rattle.dis_memory.specs.Places.{source_reference}
use Rattle.value_words.specs.Forms.{Cells}
use Rattle.value_words.specs.Facts.{Facts, IsName}
use Rattle.value_words.specs.Stands.{Stands, a_name}
use Rattle.value_words.proofs.Wholes.{stands_whole}
use Rattle.value_frames.specs.Frames.{AsNumber, AsReference, form_of, number_place, reference_place}
use Rattle.value_frames.specs.Standing.{ValueStands}
use Rattle.value_heaps.proofs.Formed.{is_cell}
use Rattle.value_moves.specs.Changing.{bytes_in}
use Rattle.value_moves.specs.Operands.{Code, inst, own}
use Rattle.value_moves.proofs.Leading.{spots_lead}
use Rattle.value_code.specs.Objects.{object_of, of_function, size_at, globals, constants, blank_site}
use Rattle.value_code.specs.Code.{Site, code_of}
use Rattle.number_effects.proofs.Reading.{operands_are_read}
use Rattle.block_effects.specs.Contents.{IsThere}
use Rattle.block_effects.specs.Lists.{head_of}
use Rattle.block_effects.proofs.Lists.{lists_come}
use Rattle.value_follows.specs.Stands.{Ready, GoesOn, types_of}
use Rattle.value_follows.specs.Sides.{sides, HoldTheSame, program}
use Rattle.value_follows.specs.Rows.{Base, InstrGoes, site_of}
use Rattle.value_follows.proofs.Standing.{finds, code_here}
use Rattle.value_follows.proofs.Slots.{uses, number_there}
use Rattle.value_follows.proofs.Single.{Once, single}
use Rattle.value_follows.proofs.Jumps.{row as row_of_code, behind_it}
use Rattle.value_follows.proofs.Comparing.{one_slot}
use Rattle.value_follows.proofs.Numbers.{begins}
use Rattle.rows_moving.specs.Rows.{of_local, IsSimple}
use Rattle.rows_moving.proofs.References.{one_word}
use Rattle.rows_moving.proofs.Reading.{read_names}
use Rattle.rows_lists.specs.Rows.{TailsGo, HeadsGo}
use Rattle.rows_lists.proofs.Blocks.{lead, word_leads}
use Rattle.rows_lists.proofs.Held.{name_is}
use Rattle.rows_lists.proofs.Giving.{raises, number_at_slot, reference_at_slot, number_given, reference_given}

-- what the other comes to, by what the operation gives
abbrev pub comes : (m : typed.Module) (w : Shared) (p : code.Process) (t : Ty) (o : Operation) (into : ℕ) → Raising Outcome → code.Does
comes m w p t o into r =
    code.gives frames_limit (program m) w p into
    (unless_raised r (leaves m.adts (code.memory frames_limit (program m) w p) t o))

pub one_name : (n : ℕ) (r : Option ℕ) (k : ℕ) → slice_get (r ∷ []) k ≡ Some (Some n) → held.Has (0 ∷ []) k
one_name n r zero e = inl refl
one_name n r (suc k) e = absurd cc

-- ---- the list behind the first cell

module _ (m : typed.Module) (b : Base m) (u : Ty) (into a : ℕ) where
  abbrev tail : Instr
  tail = Give (ty.ListOf u) (Operate Tail) into (a ∷ [])

  module _ (k : Facts) (i : ℕ) (w : Shared) (x : World) (p : code.Process) (q : Process) (ready : Ready m k i x p q) (hold : HoldTheSame m k i x p q) (worlds : (sides m).worlds k w x) (here : slice_get p.frame.code p.frame.pc ≡ Some tail) where
    abbrev r_at : ℕ → ℕ
    r_at s = reference_place m.adts (types_of m ready.stands.is.function) s

    abbrev inst_there : Inst
    inst_there = inst op.Tail (own (r_at a)) middle.None (own (r_at into))

    module _ (l : into < length p.frame.slots) (clean : IsClean (held.slot ready.stands.is.known into))
        (size : size_at m ready.stands.is.function.of.answer (of_function m ready.stands.is.function) p.frame.pc (Some tail) ≡ 1)
        (is : begins m b k i w x p q ready hold worlds tail here inst_there)
        (goes : GoesOn m ready.stands.is.function (suc p.frame.pc)
        (held.put ready.stands.is.known into (Of (ty.ListOf u) (got_by m.adts (ty.ListOf u) (Operate Tail))))) where
      tail_goes : (name refers : Option ℕ) → core.slot p.frame.slots a ≡ Holds (Ref name) → word_at q.frame.words (pos (r_at a)) ≡ Found (Refer refers)
          → IsName k (Some (Cells u)) refers name → Once m b i p q k w x
      tail_goes None None holds word named =
          raises m b k i w x p q ready hold worlds tail here inst_there is dereference_of_nil
          ((lists_come frames_limit (object_of m) x q).read.no_tail (own (r_at a)) (own (r_at into)) middle.None
          (reference_at_slot m b k i w x p q ready hold worlds tail here into l clean) (None, read, refl))
          (ap (code.next frames_limit (program m) w p) here
          ∙ ap (λ (s : Slot). comes m w p (ty.ListOf u) Tail into (gives_inner m.adts (code.memory frames_limit (program m) w p) (λ h. Ref (tail_in h)) (core.value_of s)))
          holds)
        where
          read : source_reference x q (own (r_at a)) ≡ Found None
          read =
              operands_are_read.source_referring x q (own (r_at a)) q.frame.words (r_at a) (spots_lead.own x q (r_at a)).0
              ∙ ap (λ (g : Access Word). g >>= reference) word
      tail_goes None (Some c) holds word named = absurd named
      tail_goes (Some n) None holds word named = absurd named
      tail_goes (Some n) (Some c) holds word named =
          let cell = (lead m k w x worlds).cell u c n named (word_leads m k i x p q hold (r_at a) (Some c) word) in
          let read : source_reference x q (own (r_at a)) ≡ Found (Some c) =
          operands_are_read.source_referring x q (own (r_at a)) q.frame.words (r_at a) (spots_lead.own x q (r_at a)).0
          ∙ ap (λ (g : Access Word). g >>= reference) word in
          reference_given m b k i w x p q ready hold worlds tail here into l clean size inst_there is cell.rest (ty.ListOf u) (Ref cell.behind)
          (got_by m.adts (ty.ListOf u) (Operate Tail))
          (λ d. (lists_come frames_limit (object_of m) x q).read.tail (own (r_at a)) (own (r_at into)) middle.None
          (record { element = cell.words; rest = cell.rest }) d (Some c, read, cell.first))
          (λ others e. a_name (r_at into) (ty.ListOf u) cell.rest cell.behind tt e cell.named)
          (λ j n e. one_name n cell.behind j e)
          goes
          (ap (code.next frames_limit (program m) w p) here
          ∙ ap (λ (s : Slot). comes m w p (ty.ListOf u) Tail into (gives_inner m.adts (code.memory frames_limit (program m) w p) (λ h. Ref (tail_in h)) (core.value_of s)))
          holds
          ∙ ap (λ (h : Option HeapValue). code.goes_on w p (core.put p.frame.slots into (Holds (Ref (tail_in h))))) cell.is)

  tail_row : InstrGoes m tail
  tail_row k i x p q ready here =
      single m b i p q k x ready (λ now w y r hold worlds.
      let is = r.stands.is in
      let row = code_here m now i y p q r tail here in
      let found = finds m is.function p.frame.pc is.known tail r.stands.goes row in
      let these = subst (AreThese is.known (a ∷ [])) found.2.0.1 found.1 in
      let named = uses m now i y [] p.frame q.frame is p.frame.pc tail row in
      let n = name_is m now i y [] p.frame q.frame is (ty.ListOf u) a tt named.1.0 (λ e. e) these.0 in
      tail_goes now i w y p q r hold worlds here named.0 found.3 refl refl
      (behind_it m b now i w y p q r hold worlds tail here 0 (suc p.frame.pc) _ (omega arith) refl)
      n.name n.refers n.holds n.word n.named)

tails_of : (m : typed.Module) (b : Base m) (t : Ty) (into a : ℕ) → IsList t → InstrGoes m (Give t (Operate Tail) into (a ∷ []))
tails_of m b (ty.ListOf u) into a is = tail_row m b u into a
tails_of m b t into a is = absurd is

pub tails_go : TailsGo
tails_go m b t into from k i x p q ready here =
    let it = Give t (Operate Tail) into from in
    let r = ready.0 in
    let known = r.stands.is.known in
    let found = finds m r.stands.is.function p.frame.pc known it r.stands.goes (code_here m k i x p q r it here) in
    let slot = one_slot known from t (subst (AreThese known from) found.2.0.1 found.1) in
    tails_of m b t into slot.0 found.2.0.0 k i x p q ready (here ∙ ap (λ (rs : List ℕ). Some (Give t (Operate Tail) into rs)) slot.1)

-- ---- the item of the first cell

module _ (m : typed.Module) (b : Base m) (t : Ty) (into a : ℕ) where
  abbrev head : Instr
  head = Give t (Operate Head) into (a ∷ [])

  module _ (k : Facts) (i : ℕ) (w : Shared) (x : World) (p : code.Process) (q : Process) (ready : Ready m k i x p q) (hold : HoldTheSame m k i x p q) (worlds : (sides m).worlds k w x) (here : slice_get p.frame.code p.frame.pc ≡ Some head) where
    abbrev from_at : ℕ
    from_at = reference_place m.adts (types_of m ready.stands.is.function) a

    -- what the list refers to is read
    list_read : (r : Option ℕ) → word_at q.frame.words (pos from_at) ≡ Found (Refer r) → source_reference x q (own from_at) ≡ Found r
    list_read r word =
        operands_are_read.source_referring x q (own from_at) q.frame.words from_at (spots_lead.own x q from_at).0
        ∙ ap (λ (g : Access Word). g >>= reference) word

    abbrev gives_head : Slot → Raising Outcome
    gives_head s = gives_inner m.adts (code.memory frames_limit (program m) w p) head_in (core.value_of s)

    no_head : core.slot p.frame.slots a ≡ Holds (Ref None) → (sides m).program.step w p ≡ Ends w (Broken dereference_of_nil)
    no_head holds = ap (code.next frames_limit (program m) w p) here ∙ ap (λ (s : Slot). comes m w p t Head into (gives_head s)) holds

    -- The first cell has this item, in these words.
    record First (n c : ℕ) : Type 0 where
      words : List Word
      rest : Option ℕ
      item : Value
      tail : Option ℕ
      is : at w.heap n ≡ Some (Cell item tail)
      stands : Stands m.adts k words 0 t item
      first : first_cell x (Some c) ≡ Found (Some (record { element = words; rest = rest }))

    first_item : (n c : ℕ) → IsName k (Some (Cells t)) (Some c) (Some n) → IsThere x (Some c) → First n c
    first_item n c named there =
        let cell = (lead m k w x worlds).cell t c n named there in
        let one = is_cell m.adts (globals m) (constants m) k c (Cell cell.head cell.behind) (block.Cell cell.words cell.rest) t cell.stands.0 named.formed in
        let item : one.head ≡ cell.head = let e = one.value in cc in
        let words : one.words ≡ cell.words = let e = one.is in cc in
        record {
          words = cell.words;
          rest = cell.rest;
          item = cell.head;
          tail = cell.behind;
          is = cell.is;
          stands = subst (λ (v : Value). Stands m.adts k cell.words 0 t v) item (subst (λ (ws : List Word). Stands m.adts k ws 0 t one.head) words one.stands);
          first = cell.first;
        }

    the_head : (n c : ℕ) → core.slot p.frame.slots a ≡ Holds (Ref (Some n)) → (f : First n c)
        → (sides m).program.step w p ≡ code.goes_on w p (core.put p.frame.slots into (Holds f.item))
    the_head n c holds f =
        ap (code.next frames_limit (program m) w p) here
        ∙ ap (λ (s : Slot). comes m w p t Head into (gives_head s)) holds
        ∙ ap (λ (h : Option HeapValue). code.goes_on w p (core.put p.frame.slots into (Holds (fitted m.adts t (head_in h))))) f.is
        ∙ ap (λ (v : Value). code.goes_on w p (core.put p.frame.slots into (Holds v))) (sym (stands_whole m.adts k f.words 0 t f.item f.stands))

    module _ (l : into < length p.frame.slots) (clean : IsClean (held.slot ready.stands.is.known into))
        (size : size_at m ready.stands.is.function.of.answer (of_function m ready.stands.is.function) p.frame.pc (Some head) ≡ 1)
        (goes : GoesOn m ready.stands.is.function (suc p.frame.pc)
        (held.put ready.stands.is.known into (Of t (got_by m.adts t (Operate Head))))) where
      module _ (form : form_of t ≡ AsReference) where
        abbrev to_reference : ℕ
        to_reference = reference_place m.adts (types_of m ready.stands.is.function) into

        abbrev head_of_references : Inst
        head_of_references = inst op.Headp (own from_at) middle.None (own to_reference)

        reference_goes : begins m b k i w x p q ready hold worlds head here head_of_references → (name refers : Option ℕ)
            → core.slot p.frame.slots a ≡ Holds (Ref name) → word_at q.frame.words (pos from_at) ≡ Found (Refer refers)
            → IsName k (Some (Cells t)) refers name → Once m b i p q k w x
        reference_goes is None None holds word named =
            raises m b k i w x p q ready hold worlds head here head_of_references is dereference_of_nil
            ((lists_come frames_limit (object_of m) x q).head.no_reference (own from_at) (own to_reference) middle.None
            (reference_at_slot m b k i w x p q ready hold worlds head here into l clean) (None, list_read None word, refl))
            (no_head holds)
        reference_goes is None (Some c) holds word named = absurd named
        reference_goes is (Some n) None holds word named = absurd named
        reference_goes is (Some n) (Some c) holds word named =
            let f = first_item n c named (word_leads m k i x p q hold from_at (Some c) word) in
            let one = one_word m.adts k f.words 0 t f.item form f.stands in
            reference_given m b k i w x p q ready hold worlds head here into l clean size head_of_references is one.refers t f.item
            (got_by m.adts t (Operate Head))
            (λ d. (lists_come frames_limit (object_of m) x q).head.reference (own from_at) (own to_reference) middle.None
            (record { element = f.words; rest = f.rest }) one.refers d (Some c, list_read (Some c) word, f.first) one.word)
            (λ others e. subst (λ g. ValueStands m.adts k others (number_place m.adts (types_of m ready.stands.is.function) into) to_reference g t f.item)
            (sym form) (one.elsewhere others to_reference e))
            (read_names m.adts k f.words (of_local 0 []) 0 t f.item form f.stands)
            goes
            (the_head n c holds f)

module _ (m : typed.Module) (b : Base m) (j : Kind) (form : form_of (of_kind j) ≡ AsNumber) (few : bytes_in j ≤ 4) (into a : ℕ) where
  abbrev number_head : Instr
  number_head = Give (of_kind j) (Operate Head) into (a ∷ [])

  module _ (k : Facts) (i : ℕ) (w : Shared) (x : World) (p : code.Process) (q : Process) (ready : Ready m k i x p q) (hold : HoldTheSame m k i x p q) (worlds : (sides m).worlds k w x) (here : slice_get p.frame.code p.frame.pc ≡ Some number_head)
      (l : into < length p.frame.slots) (clean : IsClean (held.slot ready.stands.is.known into))
      (size : size_at m ready.stands.is.function.of.answer (of_function m ready.stands.is.function) p.frame.pc (Some number_head) ≡ 1)
      (goes : GoesOn m ready.stands.is.function (suc p.frame.pc)
      (held.put ready.stands.is.known into (Of (of_kind j) (got_by m.adts (of_kind j) (Operate Head))))) where
    abbrev list_at : ℕ
    list_at = reference_place m.adts (types_of m ready.stands.is.function) a

    abbrev to_number : ℕ
    to_number = number_place m.adts (types_of m ready.stands.is.function) into

    abbrev head_of_numbers : Inst
    head_of_numbers = inst (head_of j) (own list_at) middle.None (own to_number)

    number_goes : begins m b k i w x p q ready hold worlds number_head here head_of_numbers → (name refers : Option ℕ)
        → core.slot p.frame.slots a ≡ Holds (Ref name) → word_at q.frame.words (pos list_at) ≡ Found (Refer refers)
        → IsName k (Some (Cells (of_kind j))) refers name → Once m b i p q k w x
    number_goes is None None holds word named =
        raises m b k i w x p q ready hold worlds number_head here head_of_numbers is dereference_of_nil
        ((lists_come frames_limit (object_of m) x q).head.no_number j (own list_at) (own to_number) middle.None
        (number_at_slot m b k i w x p q ready hold worlds number_head here into l clean j form)
        (None, list_read m b (of_kind j) into a k i w x p q ready hold worlds here None word, refl))
        (no_head m b (of_kind j) into a k i w x p q ready hold worlds here holds)
    number_goes is None (Some c) holds word named = absurd named
    number_goes is (Some n) None holds word named = absurd named
    number_goes is (Some n) (Some c) holds word named =
        let f = first_item m b (of_kind j) into a k i w x p q ready hold worlds here n c named (word_leads m k i x p q hold list_at (Some c) word) in
        let z = number_there m.adts k f.words 0 (of_kind j) f.item j refl f.stands in
        number_given m b k i w x p q ready hold worlds number_head here into l clean size head_of_numbers is j form z.number z.range few
        (got_by m.adts (of_kind j) (Operate Head))
        (λ d others e. (lists_come frames_limit (object_of m) x q).head.number j (own list_at) (own to_number) middle.None
        (record { element = f.words; rest = f.rest }) z.number others d
        (Some c, list_read m b (of_kind j) into a k i w x p q ready hold worlds here (Some c) word, f.first) z.found e)
        goes
        (the_head m b (of_kind j) into a k i w x p q ready hold worlds here n c holds f
        ∙ ap (λ (v : Value). code.goes_on w p (core.put p.frame.slots into (Holds v))) z.is)

  number_row : (code_is : (c : Site) → code_of c number_head
      ≡ inst (head_of j) (own (reference_place c.scene.adts c.scene.variables a)) middle.None (own (number_place c.scene.adts c.scene.variables into)) ∷ [])
      → InstrGoes m number_head
  number_row code_is k i x p q ready here =
      single m b i p q k x ready (λ now w y r hold worlds.
      let is = r.stands.is in
      let row = code_here m now i y p q r number_head here in
      let found = finds m is.function p.frame.pc is.known number_head r.stands.goes row in
      let these = subst (AreThese is.known (a ∷ [])) found.2.0 found.1 in
      let named = uses m now i y [] p.frame q.frame is p.frame.pc number_head row in
      let n = name_is m now i y [] p.frame q.frame is (ty.ListOf (of_kind j)) a tt named.1.0 (λ e. e) these.0 in
      let row_at = row_of_code m b now i w y p q r hold worlds number_head here in
      number_goes now i w y p q r hold worlds here named.0 found.3
      (ap (λ (c : Code). length c) (code_is (blank_site m is.function.of.answer (of_function m is.function) p.frame.pc)))
      (behind_it m b now i w y p q r hold worlds number_head here 0 (suc p.frame.pc) _ (omega arith) refl)
      (ap (λ (c : Code). slice_get c 0) (code_is (site_of m is.number is.function p.frame.pc row_at.at)))
      n.name n.refers n.holds n.word n.named)

head_code : (c : Site) (t : Ty) (into a : ℕ) → form_of t ≡ AsReference
    → code_of c (Give t (Operate Head) into (a ∷ []))
    ≡ inst op.Headp (own (reference_place c.scene.adts c.scene.variables a)) middle.None (own (reference_place c.scene.adts c.scene.variables into)) ∷ []
head_code c ty.Chars into a e = refl
head_code c ty.Nil into a e = refl
head_code c (ty.ArrayOf t) into a e = refl
head_code c (ty.ListOf t) into a e = refl
head_code c (ty.ChanOf t) into a e = refl
head_code c (ty.RefAdt n) into a e = refl
head_code c (ty.RefPick n j) into a e = refl
head_code c (ty.Module n) into a e = refl
head_code c t into a e = absurd cc

reference_row : (m : typed.Module) (b : Base m) (t : Ty) (into a : ℕ) → form_of t ≡ AsReference → InstrGoes m (Give t (Operate Head) into (a ∷ []))
reference_row m b t into a form k i x p q ready here =
    single m b i p q k x ready (λ now w y r hold worlds.
    let it = Give t (Operate Head) into (a ∷ []) in
    let is = r.stands.is in
    let row = code_here m now i y p q r it here in
    let found = finds m is.function p.frame.pc is.known it r.stands.goes row in
    let these = subst (AreThese is.known (a ∷ [])) found.2.0 found.1 in
    let named = uses m now i y [] p.frame q.frame is p.frame.pc it row in
    let n = name_is m now i y [] p.frame q.frame is (ty.ListOf t) a tt named.1.0 (λ e. e) these.0 in
    let row_at = row_of_code m b now i w y p q r hold worlds it here in
    reference_goes m b t into a now i w y p q r hold worlds here named.0 found.3
    (ap (λ (c : Code). length c) (head_code (blank_site m is.function.of.answer (of_function m is.function) p.frame.pc) t into a form))
    (behind_it m b now i w y p q r hold worlds it here 0 (suc p.frame.pc) _ (omega arith) refl)
    form
    (ap (λ (c : Code). slice_get c 0) (head_code (site_of m is.number is.function p.frame.pc row_at.at) t into a form))
    n.name n.refers n.holds n.word n.named)

heads_of : (m : typed.Module) (b : Base m) (t : Ty) (into a : ℕ) → IsSimple t → InstrGoes m (Give t (Operate Head) into (a ∷ []))
heads_of m b ty.Byte into a (inl e) = number_row m b kind.Byte refl (omega arith) into a (λ c. refl)
heads_of m b ty.Int into a (inl e) = number_row m b kind.Int refl (omega arith) into a (λ c. refl)
heads_of m b t into a (inl e) = absurd cc
heads_of m b t into a (inr e) = reference_row m b t into a e

pub heads_go : HeadsGo
heads_go m b t into from simple k i x p q ready here =
    let it = Give t (Operate Head) into from in
    let r = ready.0 in
    let known = r.stands.is.known in
    let found = finds m r.stands.is.function p.frame.pc known it r.stands.goes (code_here m k i x p q r it here) in
    let slot = one_slot known from (ty.ListOf t) (subst (AreThese known from) found.2.0 found.1) in
    heads_of m b t into slot.0 simple k i x p q ready (here ∙ ap (λ (rs : List ℕ). Some (Give t (Operate Head) into rs)) slot.1)
