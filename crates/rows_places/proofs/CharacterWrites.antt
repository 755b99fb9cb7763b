-- Characters that are written into strings, by where the string stands.
use Rattle.std.proofs.Common.{◌≡◌, ℕ, true, suc, pos, ◌+◌, ◌/◌, ◌<◌, List, [], ◌∷◌, length, Option, Some, None, refl, sym, ap, ◌∙◌, subst, arith, inl, inr}
use Rattle.heap_model.specs.Heap.{at}
use Rattle.system_model.specs.Limits.{frames_limit}
use Rattle.limbo_types.specs.Types as ty
use Rattle.limbo_types.specs.Types.{Ty}
use Rattle.limbo_typed.specs.Typed as typed
use Rattle.limbo_kept.specs.Trees.{WayIs}
use Rattle.limbo_meaning.specs.Exceptions.{dereference_of_nil}
use Rattle.limbo_meaning.specs.Operations.{item_of}
use Rattle.limbo_meaning.specs.Process.{Shared}
use Rattle.core_code.specs.Machine as code
use Rattle.core_code.specs.Slots as core
use Rattle.core_typing.specs.Held as held
use Rattle.core_typing.specs.Written.{told}
use Rattle.dis_isa.specs.declared.inst.Inst.{Inst}
use Rattle.dis_isa.specs.declared.inst.Operand as isa
use Rattle.dis_isa.specs.declared.inst.Operand.TheVariants as operand
use Rattle.dis_isa.specs.declared.op.Op.TheVariants as op
use Rattle.dis_meaning.specs.Process.{Process}
use Rattle.dis_memory.specs.Blocks.{World}
use Rattle.value_words.specs.Forms.{Adts}
use Rattle.value_words.specs.Facts.{Facts, IsName}
use Rattle.value_words.proofs.Bytes.{word_found}
use Rattle.value_heaps.proofs.Words.{named_by}
use Rattle.value_frames.specs.Frames.{reference_place, number_place, element_place}
use Rattle.value_frames.specs.Frames as frames
use Rattle.value_moves.specs.Operands.{inst, own, of_own, behind}
use Rattle.value_code.specs.Objects.{object_of, of_function, size_at, or_nothing}
use Rattle.value_code.specs.Operands.{adt_of}
use Rattle.value_code.specs.Code.{Site, code_of}
use Rattle.value_follows.specs.Stands.{Ready, scope, types_of}
use Rattle.value_follows.specs.Sides.{sides, HoldTheSame}
use Rattle.value_follows.proofs.Standing.{same_some, finds, code_here}
use Rattle.value_follows.proofs.Slots.{uses}
use Rattle.value_follows.proofs.Single.{Once}
use Rattle.value_follows.proofs.Several.{moved_to, Next}
use Rattle.rows_places.proofs.Words.{found_there}
use Rattle.rows_places.proofs.Going.{going_on}
use Rattle.rows_places.proofs.Last.{site_now, raised_here}
use Rattle.rows_places.proofs.Places.{HeapPlace, place_lives, TargetIs, target_is, at_target, no_target, target_place}
use Rattle.rows_places.proofs.Globals.{place as global_at, global_place}
use Rattle.rows_places.proofs.Locals.{place as local_at, part_there}
use Rattle.rows_places.proofs.Arrays.{array_here}
use Rattle.rows_places.proofs.Elements.{element_place_here}
use Rattle.rows_places.proofs.Looking.{ElementSlots, element_slots, Behind, element_way}
use Rattle.std.specs.Prelude.{Result, Ok, Err, slice_get, slice_set, slice_index_or, nat_lt}
use Rattle.std.proofs.Common.{Bool, false, ℤ}
use Rattle.value_follows.specs.Rows.{Base}
use Rattle.rows_places.specs.Rows.{IsSimple, way_from, character_from, CharacterWritesGo}
use Rattle.rows_places.proofs.Fitting.{PlacesFit, BeginsSo, places_fit, agrees_there}
use Rattle.core_code.specs.Code.{Instr, Write}
use Rattle.core_code.specs.Slots.{slot, value_of}
use Rattle.limbo_meaning.specs.Values.{Value, Num, Chars, part_of, nothing}
use Rattle.limbo_meaning.specs.Places.{Root, Local, Global, Element, Target, count_of, part_at, with_part, put_character, root_value}
use Rattle.core_typing.specs.Needs.{AreThese, IsA, Fills}
use Rattle.core_typing.specs.Going.{IsTold, HasSome}
use Rattle.dis_meaning.specs.Words.{Word, Refer, Found, Raises, Access, ◌>>=◌, word_at}
use Rattle.limbo_meaning.specs.Memory.{with_heap, with_variables, changed}
use Rattle.limbo_values.specs.declared.number.Kind.TheVariants as kind
use Rattle.limbo_values.specs.declared.number.Kind.TheVariants.{Int}
use Rattle.limbo_values.specs.declared.raised.Raised.{Raised}
use Rattle.limbo_values.specs.declared.raised.Raised.TheVariants.{StringTooLong}
use Rattle.limbo_values.specs.Operators.{text_of as raised_text}
use Rattle.limbo_values.specs.Texts.{index_in, longest}
use Rattle.system_model.specs.Verbs.{character}
use Rattle.value_frames.specs.Frames.{AsNumber, form_of}
use Rattle.value_code.specs.Operands.{Scene, part_in_slot}
use Rattle.value_code.specs.Objects.{globals}
use Rattle.dis_meaning.specs.Process.{Printing}
use Rattle.dis_memory.specs.Places.{source_of}
use Rattle.dis_memory.specs.Places as places
use Rattle.dis_memory.specs.Raising.{nil_text}
use Rattle.dis_memory.specs.Step.{obey}
use Rattle.dis_memory.specs.Kinds.{text_at}
use Rattle.number_effects.proofs.Reading.{operands_are_read}
use Rattle.value_follows.specs.Stands.{GoesOn}
use Rattle.value_follows.proofs.Slots.{number_is, number_there}
use Rattle.value_follows.proofs.Jumps.{behind_it}
use Rattle.rows_places.proofs.Going.{at_place_of}
use Rattle.rows_places.proofs.Words.{same_number_type}
use Rattle.rows_places.proofs.Last.{begins_at, there as process_there}
use Rattle.rows_places.proofs.Sources.{slot_reads, source_is, SourceIs}
use Rattle.rows_places.proofs.TextPlaces.{text_there}
use Rattle.rows_places.proofs.Characters.{index_at, below_at, are_characters}
use Rattle.rows_places.proofs.Inserting.{target, old_text, text_inserted, local_target, old_local, local_inserted, so_far_0}
use Rattle.rows_places.proofs.InsertRows.{insert_raises, no_index, too_long, inserts, stops_outside, stops_long, inserted_so, string_put}
use Rattle.block_effects.specs.Stored.{ReferenceThere}
use Rattle.dis_isa.specs.declared.inst.Middle.{Middle}
use Rattle.rows_places.proofs.TextPlaces.{TextIs}
use Rattle.rows_places.proofs.Locals.{PartThere}
use Rattle.dis_meaning.specs.Places.{Spot}
use Rattle.dis_memory.specs.Blocks.{Text}
use Rattle.dis_memory.specs.Places.{reference_at}
use Rattle.dis_memory.specs.Process.{Does}
use Rattle.dis_memory.specs.Results.{gives_block_at}
use Rattle.dis_memory.specs.Strings.{inserted}

-- the way to the string
string_way : (m : typed.Module) (f : typed.Function) (root : Root) (part : List ℕ) (us : List Ty) (t : Ty)
    → WayIs (scope m f) (character_from root part) us t → (is : WayIs (scope m f) (way_from root part) us ty.Chars) × (t ≡ ty.Int)
string_way m f root part us t is =
    (record { root = is.root; room = is.room; begins = is.begins; inner = is.inner; leads = is.leads; ends = is.ends.0; indexed = λ e. absurd cc }, is.ends.1)

module _ (m : typed.Module) (b : Base m) (fit : PlacesFit m) (t : Ty) (root : Root) (part operands taken : List ℕ) (from : ℕ)
    (i : ℕ) (p : code.Process) (here : slice_get p.frame.code p.frame.pc ≡ Some (Write t (character_from root part) operands taken from))
    (k : Facts) (w : Shared) (x : World) (q : Process) (ready : Ready m k i x p q) (hold : HoldTheSame m k i x p q) (worlds : (sides m).worlds k w x) where
  abbrev instr : Instr
  instr = Write t (character_from root part) operands taken from

  abbrev f : typed.Function
  f = ready.stands.is.function

  abbrev known : held.Slots
  known = ready.stands.is.known

  abbrev sight : Scene
  sight = record { adts = m.adts; globals = globals m; variables = types_of m f }

  abbrev val : Value
  val = part_at taken (value_of (slot p.frame.slots from))

  -- What is known of the row's slots.
  pub record RowSlots : Type 0 where
    pub us : List Ty
    pub these : AreThese known operands us
    pub way : WayIs (scope m f) (way_from root part) us ty.Chars
    pub begins : BeginsSo (told (of_function m f).code p.frame.pc) known root operands
    pub index : ℕ
    pub index_there : slice_get operands (count_of root) ≡ Some index
    pub index_is : IsA known index ty.Int
    pub below_index : index < length p.frame.slots
    pub z : ℤ
    pub index_number : value_of (slot p.frame.slots index) ≡ Num z
    pub index_given : (pc : ℕ) (pr : Option Printing) → places.given_of Int x (at_place_of q pc pr) (of_own (number_place m.adts (types_of m f) index)) ≡ Found z
    pub type : Ty
    pub tells : or_nothing (told (of_function m f).code p.frame.pc from) ≡ type
    pub y : ℤ
    pub value_is : val ≡ Num y
    pub value_read : (pc : ℕ) (pr : Option Printing) → source_of Int x (at_place_of q pc pr) (part_in_slot sight type taken from) ≡ Found y

  pub row_slots : RowSlots
  row_slots =
      let row_is = code_here m k i x p q ready instr here in
      let found = finds m f p.frame.pc known instr ready.stands.goes row_is in
      let agrees = agrees_there m f p.frame.pc known instr ready.stands.goes row_is in
      let used = uses m k i x [] p.frame q.frame ready.stands.is p.frame.pc instr row_is in
      let fits_so = fit.operands f p.frame.pc known instr ready.stands.goes row_is in
      let way = string_way m f root part found.0 t found.2 in
      let index = fits_so.1 in
      let below = below_at (length p.frame.slots) operands (count_of root) index.0 used.0 index.1 in
      let n = number_is m k i x [] p.frame q.frame ready.stands.is Int index.0 refl below (λ e. e) index.2 in
      go agrees.0 agrees.2 found.3 used.1 found.0 found.1 way.0 way.1 fits_so.0 index.0 index.1 index.2
      below n.number (ap value_of n.holds) (λ pc pr. operands_are_read.own_number x (at_place_of q pc pr) Int (number_place m.adts (types_of m f) index.0) ∙ n.found)
    where
      go : IsTold (told (of_function m f).code p.frame.pc) known from → HasSome known from → Fills (scope m f) known t taken from → from < length p.frame.slots
          → (us : List Ty) → AreThese known operands us → WayIs (scope m f) (way_from root part) us ty.Chars → t ≡ ty.Int
          → BeginsSo (told (of_function m f).code p.frame.pc) known root operands
          → (c : ℕ) → slice_get operands (count_of root) ≡ Some c → IsA known c ty.Int → c < length p.frame.slots → (z : ℤ)
          → value_of (slot p.frame.slots c) ≡ Num z
          → ((pc : ℕ) (pr : Option Printing) → places.given_of Int x (at_place_of q pc pr) (of_own (number_place m.adts (types_of m f) c)) ≡ Found z) → RowSlots
      go tells some (inl (u, e, room, (v, leads, fits))) below_from us these way int begins c there is below z number given =
          let same : tells.0 ≡ u = same_some tells.0 u (sym tells.1 ∙ e) in
          let is_int : v ≡ ty.Int = same_number_type v t (ap form_of int) fits ∙ int in
          let simple : IsSimple v = inl (ap form_of is_int) in
          let source = λ (pc : ℕ) (pr : Option Printing).
          let s = slot_reads m k i w x p q ready hold worlds pc pr from below_from u e in
          subst (λ a. SourceIs m k i w x p q ready hold worlds pc pr (part_in_slot sight u taken from) v (part_at taken a)) (sym s.holds)
          (source_is m k i w x p q ready hold worlds pc pr from below_from u e room (globals m) s taken v leads simple) in
          let number_of_it = λ (pc : ℕ) (pr : Option Printing).
          let s = source pc pr in number_there m.adts k s.words s.at v val kind.Int is_int s.stands in
          let here_number = number_of_it 0 None in
          record {
            us = us;
            these = these;
            way = way;
            begins = begins;
            index = c;
            index_there = there;
            index_is = is;
            below_index = below;
            z = z;
            index_number = number;
            index_given = given;
            type = u;
            tells = ap or_nothing tells.2 ∙ same;
            y = here_number.number;
            value_is = here_number.is;
            value_read = λ pc pr.
                let s = source pc pr in
                let n = number_of_it pc pr in
                operands_are_read.source_number x (at_place_of q pc pr) (part_in_slot sight u taken from) s.words s.at Int s.leads ∙ n.found
                ∙ ap (λ (a : ℤ). Found a) (same_number n.number here_number.number (sym n.is ∙ here_number.is));
          }
        where
          same_number : (a c : ℤ) → Num a ≡ Num c → a ≡ c
          same_number a c e = cc
      go tells some (inr (e, none, room)) below_from us these way int begins c there is below z number given = absurd (some e)

  abbrev pub insertion : RowSlots → isa.Operand → Inst
  insertion s d =
      inst op.Insc (part_in_slot sight s.type taken from) (of_own (number_place m.adts (types_of m f) s.index)) d

  -- the instruction, by what is told and where the index is
  pub insertion_is : (s : RowSlots) (d : isa.Operand)
      → inst op.Insc (part_in_slot sight (or_nothing (told (of_function m f).code p.frame.pc from)) taken from)
      (of_own (number_place m.adts (types_of m f) (slice_index_or operands (count_of root) 0))) d
      ≡ insertion s d
  insertion_is s d =
      ap (λ u. inst op.Insc (part_in_slot sight u taken from) (of_own (number_place m.adts (types_of m f) (slice_index_or operands (count_of root) 0))) d) s.tells
      ∙ ap (λ n. inst op.Insc (part_in_slot sight s.type taken from) (of_own (number_place m.adts (types_of m f) n)) d)
      (index_at operands (count_of root) s.index 0 s.index_there)

  pub goes : GoesOn m f (suc p.frame.pc) known
  goes = behind_it m b k i w x p q ready hold worlds instr here 0 (suc p.frame.pc) known (omega arith) refl

  -- ---- the last instruction, at a place in a block

  module _ (s : RowSlots) (pc : ℕ) (pr : Option Printing) (j : ℕ) (so_far_at : pc ≡ q.frame.pc + j)
      (size : size_at m f.of.answer (of_function m f) p.frame.pc (Some instr) ≡ j + 1) (o : isa.Operand)
      (is : HeapPlace m k i w x p q ready hold worlds pc pr root (core.values_of p.frame.slots operands) o ty.Chars part)
      (begins : begins_at m b k i w x p q ready hold worlds instr here pc pr j so_far_at (insertion s o)) where
    abbrev at_now : Process
    at_now = process_there m b k i w x p q ready hold worlds instr here pc pr j so_far_at

    abbrev values : List Value
    values = core.values_of p.frame.slots operands

    abbrev old : TextIs m k is.words is.byte (part_at part is.value)
    old = old_text m b k i w x p q ready hold worlds instr here pc pr j so_far_at size root values o part is

    abbrev there : ReferenceThere x at_now o
    there = target m b k i w x p q ready hold worlds instr here pc pr j so_far_at size root values o part is

    abbrev source : isa.Operand
    source = part_in_slot sight s.type taken from

    abbrev index_middle : Middle
    index_middle = of_own (number_place m.adts (types_of m f) s.index)

    text_is_there : text_at x there.old ≡ Found old.chars
    text_is_there =
        text_there m k i w x p q ready hold worlds pc pr is.words is.byte (part_at part is.value) old
        (λ u e. place_lives m k i w x p q ready hold worlds pc pr root values o ty.Chars part is u (is.byte / 4)
        (word_found is.words is.byte (Refer (Some u)) e).1)

    abbrev new_text : ℕ → List ℕ
    new_text n = put_character old.chars n (character s.y)

    by_long : (n : ℕ) → index_in (suc (length old.chars)) s.z ≡ Ok n → (c : Bool) → nat_lt longest (length (new_text n)) ≡ c → Once m b i p at_now k w x
    by_long n e true long =
        raised_here m b k i w x p q ready hold worlds instr here pc pr j so_far_at (insertion s o) begins (raised_text StringTooLong)
        (stops_long x at_now source o index_middle s.z s.y (s.value_read pc pr) (s.index_given pc pr) there old.chars text_is_there m n e long)
        (too_long m w p t root part operands taken from here is.value is.rooted old.chars old.is s.index s.index_there s.z s.index_number s.y s.value_is n e long)
    by_long n e false short =
        let new = with_part part (Chars (new_text n)) is.value in
        text_inserted m b k i w x p q ready hold worlds instr here pc pr j so_far_at size root values o part is (new_text n) (string_put old.chars n s.y (are_characters k old.refers old.chars old.text) short) (insertion s o) begins
        (inserted_so x at_now source o index_middle s.z s.y (s.value_read pc pr) (s.index_given pc pr) there old.chars text_is_there m n e short)
        (inserts m w p t root part operands taken from here is.value is.rooted old.chars old.is s.index s.index_there s.z s.index_number s.y s.value_is n e short
        (with_heap (code.memory_of w p.frame) (changed w.heap is.name (is.becomes new))) (is.rooting new))
        goes

    by_index : (r : Result ℕ Raised) → index_in (suc (length old.chars)) s.z ≡ r → Once m b i p at_now k w x
    by_index (Ok n) e = by_long n e (nat_lt longest (length (new_text n))) refl
    by_index (Err raised) e =
        raised_here m b k i w x p q ready hold worlds instr here pc pr j so_far_at (insertion s o) begins (raised_text raised)
        (stops_outside x at_now source o index_middle s.z s.y (s.value_read pc pr) (s.index_given pc pr) there old.chars text_is_there m raised e)
        (no_index m w p t root part operands taken from here is.value is.rooted old.chars old.is s.index s.index_there s.z s.index_number s.y s.value_is raised e)

    pub place_inserted : Once m b i p at_now k w x
    place_inserted = by_index (index_in (suc (length old.chars)) s.z) refl

-- ---- a variable of the function

module _ (m : typed.Module) (b : Base m) (fit : PlacesFit m) (t : Ty) (v : ℕ) (part operands taken : List ℕ) (from : ℕ)
    (i : ℕ) (p : code.Process) (here : slice_get p.frame.code p.frame.pc ≡ Some (Write t (character_from (Local v) part) operands taken from))
    (k : Facts) (w : Shared) (x : World) (q : Process) (ready : Ready m k i x p q) (hold : HoldTheSame m k i x p q) (worlds : (sides m).worlds k w x) where
  abbrev l_instr : Instr
  l_instr = Write t (character_from (Local v) part) operands taken from

  abbrev l_s : RowSlots m b fit t (Local v) part operands taken from i p here k w x q ready hold worlds
  l_s = row_slots m b fit t (Local v) part operands taken from i p here k w x q ready hold worlds

  abbrev is : PartThere m k i x p q ready v part ty.Chars
  is = part_there m k i x p q ready v part l_s.us ty.Chars l_s.way

  abbrev to : ℕ
  to = local_at m k i x p q ready v part

  abbrev l_old : TextIs m k q.frame.words to (part_at part is.value)
  l_old = old_local m b k i w x p q ready hold worlds l_instr here refl v part is

  abbrev l_there : ReferenceThere x q (own to)
  l_there = local_target m b k i w x p q ready hold worlds l_instr here refl v part is

  abbrev l_insert : Inst
  l_insert = insertion m b fit t (Local v) part operands taken from i p here k w x q ready hold worlds l_s (own to)

  abbrev l_source : isa.Operand
  l_source = part_in_slot (record { adts = m.adts; globals = globals m; variables = types_of m ready.stands.is.function }) l_s.type taken from

  abbrev l_middle : Middle
  l_middle = of_own (number_place m.adts (types_of m ready.stands.is.function) l_s.index)

  abbrev so_far_l : q.frame.pc ≡ q.frame.pc + 0
  so_far_l = so_far_0 m b k i w x p q ready hold worlds l_instr here refl v part is

  l_begins : begins_at m b k i w x p q ready hold worlds l_instr here q.frame.pc q.printing 0 so_far_l l_insert
  l_begins = ap (λ c. Some c) (insertion_is m b fit t (Local v) part operands taken from i p here k w x q ready hold worlds l_s (own to))

  l_text : text_at x l_there.old ≡ Found l_old.chars
  l_text =
      text_there m k i w x p q ready hold worlds q.frame.pc q.printing q.frame.words to (part_at part is.value) l_old
      (λ u e.
      let named = named_by q.frame.words (to / 4) u (word_found q.frame.words to (Refer (Some u)) e).1 in
      hold.same.live u (hold.same.roots u (omega (arith, named))))

  abbrev l_new : ℕ → List ℕ
  l_new n = put_character l_old.chars n (character l_s.y)

  rooted : root_value (code.memory_of w p.frame) (Local v) (core.values_of p.frame.slots operands) ≡ Ok is.value
  rooted = ap (λ (u : Value). Ok u) (found_there p.frame.variables v nothing is.value is.there).1

  l_long : (n : ℕ) → index_in (suc (length l_old.chars)) l_s.z ≡ Ok n → (c : Bool) → nat_lt longest (length (l_new n)) ≡ c → Once m b i p q k w x
  l_long n e true long =
      raised_here m b k i w x p q ready hold worlds l_instr here q.frame.pc q.printing 0 so_far_l l_insert l_begins (raised_text StringTooLong)
      (stops_long x q l_source (own to) l_middle l_s.z l_s.y (l_s.value_read q.frame.pc q.printing) (l_s.index_given q.frame.pc q.printing) l_there l_old.chars l_text m n e long)
      (too_long m w p t (Local v) part operands taken from here is.value rooted l_old.chars l_old.is l_s.index l_s.index_there l_s.z l_s.index_number l_s.y l_s.value_is n e long)
  l_long n e false short =
      local_inserted m b k i w x p q ready hold worlds l_instr here refl v part is (l_new n) (string_put l_old.chars n l_s.y (are_characters k l_old.refers l_old.chars l_old.text) short) l_insert l_begins
      (inserted_so x q l_source (own to) l_middle l_s.z l_s.y (l_s.value_read q.frame.pc q.printing) (l_s.index_given q.frame.pc q.printing) l_there l_old.chars l_text m n e short)
      (inserts m w p t (Local v) part operands taken from here is.value rooted l_old.chars l_old.is l_s.index l_s.index_there l_s.z l_s.index_number l_s.y l_s.value_is n e short
      (with_variables (code.memory_of w p.frame) (slice_set p.frame.variables v (with_part part (Chars (l_new n)) is.value))) refl)
      (goes m b fit t (Local v) part operands taken from i p here k w x q ready hold worlds)

  l_index : (r : Result ℕ Raised) → index_in (suc (length l_old.chars)) l_s.z ≡ r → Once m b i p q k w x
  l_index (Ok n) e = l_long n e (nat_lt longest (length (l_new n))) refl
  l_index (Err raised) e =
      raised_here m b k i w x p q ready hold worlds l_instr here q.frame.pc q.printing 0 so_far_l l_insert l_begins (raised_text raised)
      (stops_outside x q l_source (own to) l_middle l_s.z l_s.y (l_s.value_read q.frame.pc q.printing) (l_s.index_given q.frame.pc q.printing) l_there l_old.chars l_text m raised e)
      (no_index m w p t (Local v) part operands taken from here is.value rooted l_old.chars l_old.is l_s.index l_s.index_there l_s.z l_s.index_number l_s.y l_s.value_is raised e)

  local_character : Once m b i p q k w x
  local_character = l_index (index_in (suc (length l_old.chars)) l_s.z) refl

-- ---- a variable of the module

module _ (m : typed.Module) (b : Base m) (fit : PlacesFit m) (t : Ty) (v : ℕ) (part operands taken : List ℕ) (from : ℕ)
    (i : ℕ) (p : code.Process) (here : slice_get p.frame.code p.frame.pc ≡ Some (Write t (character_from (Global v) part) operands taken from))
    (k : Facts) (w : Shared) (x : World) (q : Process) (ready : Ready m k i x p q) (hold : HoldTheSame m k i x p q) (worlds : (sides m).worlds k w x) where
  global_character : Once m b i p q k w x
  global_character =
      let s = row_slots m b fit t (Global v) part operands taken from i p here k w x q ready hold worlds in
      let so_far_g : q.frame.pc ≡ q.frame.pc + 0 = omega arith in
      let o = operand.Mp (pos (global_at m k i w x p q ready hold worlds q.frame.pc q.printing v part)) in
      let place = global_place m k i w x p q ready hold worlds q.frame.pc q.printing v part s.us ty.Chars s.way (core.values_of p.frame.slots operands) in
      place_inserted m b fit t (Global v) part operands taken from i p here k w x q ready hold worlds s q.frame.pc q.printing 0 so_far_g refl o place
      (ap (λ c. Some c) (insertion_is m b fit t (Global v) part operands taken from i p here k w x q ready hold worlds s o))

-- ---- what a reference names

nil_inserts : (x : World) (p : Process) (m : typed.Module) (a : isa.Operand) (mid : Middle) (z y : ℤ) (r off : ℕ) → source_of Int x p a ≡ Found y
    → places.given_of Int x p mid ≡ Found z → word_at p.frame.words (pos r) ≡ Found (Refer None)
    → obey frames_limit (object_of m) x p (inst op.Insc a mid (behind r off)) op.Insc ≡ Raises nil_text
nil_inserts x p m a mid z y r off source given none =
    ap (λ (c : Access ℤ). c >>= λ code. places.given_of Int x p mid >>= λ at. places.spot x p (behind r off) >>= λ d. puts code at d) source
    ∙ ap (λ (c : Access ℤ). c >>= λ at. places.spot x p (behind r off) >>= λ d. puts y at d) given
    ∙ ap (λ (c : Access Word). (c >>= λ w. places.behind w (pos off)) >>= λ d. puts y z d) none
  where
    puts : ℤ → ℤ → Spot → Access Does
    puts code at d = (reference_at x p d >>= text_at x) >>= λ s. gives_block_at x p d (inserted s at code >>= λ t. Found (Text t))

module _ (m : typed.Module) (b : Base m) (fit : PlacesFit m) (t : Ty) (part : List ℕ) (r0 : ℕ) (rs taken : List ℕ) (from : ℕ)
    (i : ℕ) (p : code.Process) (here : slice_get p.frame.code p.frame.pc ≡ Some (Write t (character_from Target part) (r0 ∷ rs) taken from))
    (k : Facts) (w : Shared) (x : World) (q : Process) (ready : Ready m k i x p q) (hold : HoldTheSame m k i x p q) (worlds : (sides m).worlds k w x) where
  abbrev t_instr : Instr
  t_instr = Write t (character_from Target part) (r0 ∷ rs) taken from

  abbrev t_f : typed.Function
  t_f = ready.stands.is.function

  so_far_t : q.frame.pc ≡ q.frame.pc + 0
  so_far_t = omega arith

  abbrev t_s : RowSlots m b fit t Target part (r0 ∷ rs) taken from i p here k w x q ready hold worlds
  t_s = row_slots m b fit t Target part (r0 ∷ rs) taken from i p here k w x q ready hold worlds

  abbrev t_real : Site
  t_real = site_now m b k i w x p q ready hold worlds t_instr here q.frame.pc q.printing 0 so_far_t

  module _ (below : r0 < length p.frame.slots)
      (target : TargetIs m k i w x p q ready hold worlds q.frame.pc q.printing part t_s.us ty.Chars t_s.way r0 rs below t_s.these)
      (same : or_nothing (told (of_function m t_f).code p.frame.pc r0) ≡ target.type) where
    abbrev to_target : isa.Operand
    to_target = at_target m k i w x p q ready hold worlds q.frame.pc q.printing part t_s.us ty.Chars t_s.way r0 rs below t_s.these target.type

    abbrev t_insert : Inst
    t_insert = insertion m b fit t Target part (r0 ∷ rs) taken from i p here k w x q ready hold worlds t_s to_target

    t_begins : slice_get (code_of t_real t_instr) 0 ≡ Some t_insert
    t_begins =
        ap (λ c. Some c) (insertion_is m b fit t Target part (r0 ∷ rs) taken from i p here k w x q ready hold worlds t_s
        (behind (reference_place m.adts (types_of m t_f) r0) (frames.within m.adts (adt_of t_real.scene (t_real.told r0)) part)))
        ∙ ap (λ u. Some (insertion m b fit t Target part (r0 ∷ rs) taken from i p here k w x q ready hold worlds t_s
        (behind (reference_place m.adts (types_of m t_f) r0) (frames.within m.adts (adt_of t_real.scene u) part)))) same

    target_inserted : Once m b i p q k w x
    target_inserted = go target.ref.refers target.ref.name refl refl target.ref.named
      where
        go : (r n : Option ℕ) → target.ref.refers ≡ r → target.ref.name ≡ n → IsName k (Some (Adts t_s.way.begins.0)) r n → Once m b i p q k w x
        go None None e g h =
            raised_here m b k i w x p q ready hold worlds t_instr here q.frame.pc q.printing 0 so_far_t t_insert t_begins dereference_of_nil
            (nil_inserts x q m (part_in_slot (record { adts = m.adts; globals = globals m; variables = types_of m t_f }) t_s.type taken from)
            (of_own (number_place m.adts (types_of m t_f) t_s.index)) t_s.z t_s.y (reference_place m.adts (types_of m t_f) r0)
            (frames.within m.adts (adt_of t_real.scene target.type) part) (t_s.value_read q.frame.pc q.printing) (t_s.index_given q.frame.pc q.printing)
            (target.ref.word ∙ ap (λ (o : Option ℕ). Found (Refer o)) e))
            (insert_raises m w p t Target part (r0 ∷ rs) taken from here dereference_of_nil
            (no_target m k i w x p q ready hold worlds q.frame.pc q.printing part t_s.us ty.Chars t_s.way r0 rs below t_s.these target g))
        go (Some c) (Some n) e g h =
            place_inserted m b fit t Target part (r0 ∷ rs) taken from i p here k w x q ready hold worlds t_s q.frame.pc q.printing 0 so_far_t refl to_target
            (target_place m k i w x p q ready hold worlds q.frame.pc q.printing part t_s.us ty.Chars t_s.way r0 rs below t_s.these target c n e g) t_begins
        go None (Some n) e g h = absurd h
        go (Some c) None e g h = absurd h

  target_character : Once m b i p q k w x
  target_character =
      let used = uses m k i x [] p.frame q.frame ready.stands.is p.frame.pc t_instr (code_here m k i x p q ready t_instr here) in
      let target = target_is m k i w x p q ready hold worlds q.frame.pc q.printing part t_s.us ty.Chars t_s.way r0 rs used.0.0 t_s.these in
      target_inserted used.0.0 target (ap or_nothing t_s.begins.2 ∙ same_some t_s.begins.0 target.type (sym t_s.begins.1 ∙ target.known))

-- ---- an element

module _ (m : typed.Module) (b : Base m) (fit : PlacesFit m) (t : Ty) (part : List ℕ) (r0 r1 : ℕ) (rs taken : List ℕ) (from : ℕ)
    (i : ℕ) (p : code.Process) (here : slice_get p.frame.code p.frame.pc ≡ Some (Write t (character_from Element part) (r0 ∷ r1 ∷ rs) taken from)) where
  abbrev e_instr : Instr
  e_instr = Write t (character_from Element part) (r0 ∷ r1 ∷ rs) taken from

  abbrev e_slots : List ℕ
  e_slots = r0 ∷ r1 ∷ rs

  module _ (k : Facts) (w : Shared) (x : World) (q : Process) (ready : Ready m k i x p q) (hold : HoldTheSame m k i x p q) (worlds : (sides m).worlds k w x) where
    abbrev e_f : typed.Function
    e_f = ready.stands.is.function

    module _ (item : Ty) (slots : ElementSlots m e_f ready.stands.is.known p.frame.pc r0 r1 part ty.Chars item) (below0 : r0 < length p.frame.slots) (others : List Word) where
      element_inserted : (last : Facts) (v : Shared) (y : World)
          → Behind m b k i w x p q ready hold worlds e_instr here r0 r1 (core.values_of p.frame.slots rs) part ty.Chars item others last v y
          → Once m b i p (moved_to q (suc q.frame.pc) others) last v y
      element_inserted last v y be =
          let q' = moved_to q q.frame.pc others in
          let s = be.still in
          let h = s.stands.is.function in
          let so_far' : suc q.frame.pc ≡ q'.frame.pc + 1 = omega arith in
          let slots' = subst (λ c. ElementSlots m c s.stands.is.known p.frame.pc r0 r1 part ty.Chars item) (sym be.function)
          (subst (λ kn. ElementSlots m e_f kn p.frame.pc r0 r1 part ty.Chars item) (sym be.known_so) slots) in
          let a = array_here m last i v y p q' s be.holds be.alike (suc q.frame.pc) None r0 item below0 (slots'.type, slots'.has_type, slots'.array) in
          let some = sym (ap part_of a.holds ∙ a.array.is) ∙ be.array in
          let place = element_place_here m last i v y p q' s be.holds be.alike (suc q.frame.pc) None fit r0 item a be.whole some be.z be.h be.index be.address
          (core.value_of (core.slot p.frame.slots r0)) (core.value_of (core.slot p.frame.slots r1)) (core.values_of p.frame.slots rs) be.array be.number
          part ty.Chars slots'.path slots'.ends in
          let row = row_slots m b fit t Element part e_slots taken from i p here last v y q' s be.holds be.alike in
          let real = site_now m b last i v y p q' s be.holds be.alike e_instr here (suc q.frame.pc) None 1 so_far' in
          let told_is : real.told r0 ≡ a.type = slots'.tells ∙ same_some slots'.type a.type (sym slots'.has_type ∙ a.known) in
          let is_item : item_of (real.told r0) ≡ item = ap item_of told_is ∙ a.array.item be.whole some in
          let o = behind element_place (frames.within m.adts item part) in
          place_inserted m b fit t Element part e_slots taken from i p here last v y q' s be.holds be.alike row (suc q.frame.pc) None 1 so_far' refl o place
          (ap (λ c. Some c) (insertion_is m b fit t Element part e_slots taken from i p here last v y q' s be.holds be.alike row
          (behind element_place (frames.within m.adts (item_of (real.told r0)) part)))
          ∙ ap (λ u. Some (insertion m b fit t Element part e_slots taken from i p here last v y q' s be.holds be.alike row
          (behind element_place (frames.within m.adts u part)))) is_item)

    element_character : Next m b i p 1 k w x q
    element_character =
        let used = uses m k i x [] p.frame q.frame ready.stands.is p.frame.pc e_instr (code_here m k i x p q ready e_instr here) in
        let row = row_slots m b fit t Element part e_slots taken from i p here k w x q ready hold worlds in
        let slots = element_slots m e_f ready.stands.is.known p.frame.pc r0 r1 part ty.Chars row.us (r1 ∷ rs) row.these row.way row.begins.0 row.begins.1 in
        element_way m b k i w x p q ready hold worlds e_instr here r0 r1 (core.values_of p.frame.slots rs) part ty.Chars row.way.root slots used.0.0 used.0.1.0
        refl (omega arith) refl (insert_raises m w p t Element part e_slots taken from here) 0
        (λ others last v y be. element_inserted row.way.root slots used.0.0 others last v y be)

-- ---- the row

pub character_writes_go : CharacterWritesGo
character_writes_go m b t (Local v) part operands taken from k i x p q ready here = (
  0,
  going_on m b i p q q (λ n. refl) 0 k x ready.0 ready.1 (λ now w y s grows same hold worlds.
      local_character m b (places_fit m) t v part operands taken from i p here now w y q s hold worlds),
)
character_writes_go m b t (Global v) part operands taken from k i x p q ready here = (
  0,
  going_on m b i p q q (λ n. refl) 0 k x ready.0 ready.1 (λ now w y s grows same hold worlds.
      global_character m b (places_fit m) t v part operands taken from i p here now w y q s hold worlds),
)
character_writes_go m b t Target part [] taken from k i x p q ready here =
    let r = ready.0 in
    let instr = Write t (character_from Target part) [] taken from in
    absurd ((places_fit m).operands r.stands.is.function p.frame.pc r.stands.is.known instr r.stands.goes (code_here m k i x p q r instr here)).0
character_writes_go m b t Target part (r0 ∷ rs) taken from k i x p q ready here = (
  0,
  going_on m b i p q q (λ n. refl) 0 k x ready.0 ready.1 (λ now w y s grows same hold worlds.
      target_character m b (places_fit m) t part r0 rs taken from i p here now w y q s hold worlds),
)
character_writes_go m b t Element part [] taken from k i x p q ready here =
    let r = ready.0 in
    let instr = Write t (character_from Element part) [] taken from in
    absurd ((places_fit m).operands r.stands.is.function p.frame.pc r.stands.is.known instr r.stands.goes (code_here m k i x p q r instr here)).0
character_writes_go m b t Element part (r0 ∷ []) taken from k i x p q ready here =
    let r = ready.0 in
    let instr = Write t (character_from Element part) (r0 ∷ []) taken from in
    absurd ((places_fit m).operands r.stands.is.function p.frame.pc r.stands.is.known instr r.stands.goes (code_here m k i x p q r instr here)).0
character_writes_go m b t Element part (r0 ∷ r1 ∷ rs) taken from k i x p q ready here = (
  1,
  going_on m b i p q q (λ n. refl) 1 k x ready.0 ready.1 (λ now w y s grows same hold worlds.
      element_character m b (places_fit m) t part r0 r1 rs taken from i p here now w y q s hold worlds),
)
