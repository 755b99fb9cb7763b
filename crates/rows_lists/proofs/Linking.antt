-- Rows that make cells of numbers and of references, from a list of a slot or from none.
use Rattle.std.proofs.Common.{◌≡◌, ℕ, ℤ, zero, suc, pos, ◌/◌, ◌%◌, ◌<◌, ◌≤◌, ◌⊎◌, true, List, [], ◌∷◌, ◌++◌, length, Option, Some, None, refl, sym, ap, ◌∙◌, subst, arith, inl, inr}
use Rattle.std.specs.Prelude.{slice_get, slice_index}
use Rattle.process_model.specs.Process.{Went}
use Rattle.heap_model.specs.Heap.{at, there}
use Rattle.heap_model.specs.Facts.{Inner}
use Rattle.limbo_types.specs.Types as ty
use Rattle.limbo_types.specs.Types.{Ty}
use Rattle.limbo_layout.specs.Adts.{Def}
use Rattle.limbo_values.specs.declared.number.Kind.{Kind}
use Rattle.limbo_values.specs.declared.number.Kind.TheVariants as kind
use Rattle.limbo_values.specs.Numbers.{InRange}
use Rattle.limbo_values.proofs.Ranges.{within}
use Rattle.limbo_typed.specs.declared.operation.Operation.TheVariants.{Cons}
use Rattle.limbo_typed.specs.Typed as typed
use Rattle.limbo_typed.specs.Fitting as fitting
use Rattle.limbo_typed.specs.Fitting.{of_kind, IsVariantOf, PutsBefore}
use Rattle.limbo_meaning.specs.Memory as source
use Rattle.limbo_meaning.specs.Process.{Shared}
use Rattle.limbo_meaning.specs.Operations.{item_of}
use Rattle.limbo_meaning.specs.Trees.{Operate}
use Rattle.limbo_meaning.specs.Values.{Value, Num, Ref, fitted, name_of}
use Rattle.system_model.specs.Limits.{frames_limit}
use Rattle.core_code.specs.Code.{Instr, Give}
use Rattle.core_code.specs.Machine as code
use Rattle.core_code.specs.Slots as core
use Rattle.core_code.specs.Slots.{Slot, Holds}
use Rattle.core_typing.specs.Held as held
use Rattle.core_typing.specs.Needs.{AreThese, IsA, StandsAs, MayBeNil}
use Rattle.core_typing.specs.Going.{got_by}
use Rattle.dis_isa.specs.declared.inst.Inst.{Inst}
use Rattle.dis_isa.specs.declared.inst.Operand as isa
use Rattle.dis_isa.specs.declared.inst.Middle.TheVariants as middle
use Rattle.dis_isa.specs.declared.op.Op.TheVariants as op
use Rattle.dis_meaning.specs.Words.{Word, Refer, Access, Found, ◌>>=◌, word_at, reference, or_wrong, type_check, number_in}
use Rattle.dis_meaning.specs.Numbers.{number_at, bytes_of}
use Rattle.dis_meaning.specs.Process.{Process}
use Rattle.dis_memory.specs.Blocks.{World}
use Rattle.dis_memory.specs.Places.{source_reference}
use Rattle.value_words.specs.Forms.{Cells}
use Rattle.value_words.specs.Facts.{Facts, Grows, IsName}
use Rattle.value_words.proofs.Later.{stands_later}
use Rattle.value_frames.specs.Frames.{AsNumber, AsReference, form_of, number_place, reference_place}
use Rattle.value_moves.specs.Changing.{Changes}
use Rattle.value_moves.specs.Operands.{inst, own}
use Rattle.value_moves.proofs.Changing.{low_or_high}
use Rattle.value_moves.proofs.Leading.{spots_lead}
use Rattle.value_code.specs.Data.{nil_word}
use Rattle.value_code.specs.Objects.{object_of, placed}
use Rattle.value_code.specs.Operands.{first_slot}
use Rattle.value_code.specs.Code.{Site, code_of}
use Rattle.number_effects.specs.Giving.{WordStored}
use Rattle.number_effects.proofs.Reading.{operands_are_read}
use Rattle.block_effects.specs.Lists.{number_words, cons_of}
use Rattle.block_effects.proofs.Lists.{lists_come}
use Rattle.value_follows.specs.Stands.{types_of}
use Rattle.value_follows.specs.Sides.{sides, HoldTheSame, program}
use Rattle.value_follows.specs.Rows.{Base, InstrGoes}
use Rattle.value_follows.proofs.Arithmetic.{two_slots}
use Rattle.value_follows.proofs.Putting.{word_same}
use Rattle.value_follows.proofs.Slots.{number_is, NumberIs}
use Rattle.value_follows.proofs.Standing.{finds, instance_here, code_here}
use Rattle.rows_moving.specs.Rows.{IsSimple}
use Rattle.rows_lists.specs.Rows.{ConsesGo}
use Rattle.rows_lists.proofs.OnTheWay.{On, frame_is, on_ready}
use Rattle.rows_lists.proofs.Needing.{used, found}
use Rattle.rows_lists.proofs.Blocks.{word_leads}
use Rattle.rows_lists.proofs.Cells.{number_cell, reference_cell}
use Rattle.rows_lists.proofs.Held.{NameAt, name_there, NameIs, name_is, ItemIs, item_is}
use Rattle.rows_lists.proofs.Lists.{one_name}
use Rattle.rows_lists.proofs.Making.{stands_outer, name_held}
use Rattle.rows_lists.proofs.Conses.{MakesCell, Given, with_list, cell_goes}

-- ---- where the list is

module _ (m : typed.Module) (b : Base m) (k : Facts) (i : ℕ) (w : Shared) (x : World) (n : ℕ) (f : typed.Function) (p : code.Process) (q : Process)
    (on : On m k i x [] n f 0 p q) (hold : HoldTheSame m k i x p q) (worlds : (sides m).worlds k w x) where
  -- A list of a slot, or none.
  pub record ListHere (item : Ty) (source : isa.Operand) (name : Option ℕ) : Type 0 where
    pub rest : Option ℕ
    pub read : source_reference x q source ≡ Found rest
    pub named : IsName k (Some (Cells item)) rest name
    pub held : (a : ℕ) → name ≡ Some a → 0 < code.process_names p a

  pub list_of_slot : (item : Ty) (s : ℕ) → (l : NameIs m k i x [] p.frame q.frame (frame_is m k i x [] n f 0 p q on) (ty.ListOf item) s)
      → ListHere item (own (reference_place m.adts (types_of m f) s)) l.name
  list_of_slot item s l =
      let from = reference_place m.adts (types_of m f) s in
      record {
        rest = l.refers;
        read = operands_are_read.source_referring x q (own from) q.frame.words from (spots_lead.own x q from).0
            ∙ ap (λ (g : Access Word). g >>= reference) l.word;
        named = l.named;
        held = λ a e. name_held p s a (l.holds ∙ ap (λ (o : Option ℕ). Holds (Ref o)) e);
      }

  nil_refers : (words : List Word) → NameAt k m.adts words 4 None (Ref None) → word_at words (pos 4) ≡ Found (Refer None)
  nil_refers words a = go a.name a.refers a.word a.named
    where
      go : (name refers : Option ℕ) → word_at words (pos 4) ≡ Found (Refer refers) → IsName k None refers name
          → word_at words (pos 4) ≡ Found (Refer None)
      go None None word h = word
      go None (Some c) word h = absurd h
      go (Some a) None word h = absurd h
      go (Some a) (Some c) word h = absurd h

  pub no_list : (item : Ty) → ListHere item nil_word None
  no_list item =
      let instance = instance_here m b k i w x p q [] (frame_is m k i x [] n f 0 p q on) hold worlds.0 in
      let constant = instance.2 (placed m 4 ty.Nil (Ref None)) (inr (inl refl)) in
      let name = name_there k m.adts instance.0 4 ty.Nil (Ref None) tt constant.stands in
      record {
        rest = None;
        read = operands_are_read.source_referring x q nil_word instance.0 4 (spots_lead.of_module x q 0 instance.0 4 instance.1).0
            ∙ ap (λ (g : Access Word). g >>= reference) (nil_refers instance.0 name);
        named = tt;
        held = λ a e. absurd cc;
      }

-- ---- the words of the item, once the list is in the slot

module _ (defs : List Def) (types : List Ty) (words others : List Word) (into : ℕ) (changes : Changes words others (reference_place defs types into) 4) where
  -- those of numbers
  pub number_stays : (j : Kind) → (j ≡ kind.Big → ⊥) → (a : ℕ)
      → number_at j others (pos (number_place defs types a)) ≡ number_at j words (pos (number_place defs types a))
  number_stays j small a = go j small (same (low_or_high into a))
    where
      same : (into < a) ⊎ (a ≤ into) → slice_get others (number_place defs types a / 4) ≡ slice_get words (number_place defs types a / 4)
      same (inl more) = changes.words (number_place defs types a / 4) (inr (omega (arith, more)))
      same (inr less) = changes.words (number_place defs types a / 4) (inl (omega (arith, less)))

      go : (j : Kind) → (j ≡ kind.Big → ⊥) → slice_get others (number_place defs types a / 4) ≡ slice_get words (number_place defs types a / 4)
          → number_at j others (pos (number_place defs types a)) ≡ number_at j words (pos (number_place defs types a))
      go kind.Byte small e =
          ap (λ (o : Option Word). (or_wrong type_check o >>= number_in) >>= λ z.
          Found (pos (slice_index (bytes_of z) (number_place defs types a % 4)))) e
      go kind.Int small e = ap (λ (g : Access Word). g >>= number_in) (word_same words others (number_place defs types a) e)
      go kind.Big small e = absurd (small refl)

  -- and those of references of other slots
  pub reference_stays : (a : ℕ) → (a ≡ into → ⊥)
      → word_at others (pos (reference_place defs types a)) ≡ word_at words (pos (reference_place defs types a))
  reference_stays a other = word_same words others (reference_place defs types a) (go (low_or_high into a))
    where
      go : (into < a) ⊎ (a ≤ into) → slice_get others (reference_place defs types a / 4) ≡ slice_get words (reference_place defs types a / 4)
      go (inl more) = changes.words (reference_place defs types a / 4) (inr (omega (arith, more)))
      go (inr less) = elim (low_or_high a into) [
        | inl below ↦ changes.words (reference_place defs types a / 4) (inl (omega (arith, below)))
        | inr least ↦ absurd (other (omega (arith, less, least)))
      ]

-- ---- a number, or a reference

number_only : (j : Kind) → (j ≡ kind.Big → ⊥) → (z : ℤ) (u c : ℕ) → slice_get (number_words j z) u ≡ Some (Refer (Some c)) → ⊥
number_only kind.Byte small z zero c e = absurd cc
number_only kind.Byte small z (suc u) c e = absurd cc
number_only kind.Int small z zero c e = absurd cc
number_only kind.Int small z (suc u) c e = absurd cc
number_only kind.Big small z u c e = small refl

-- what the other comes to
abbrev pub made_so : (m : typed.Module) (w : Shared) (p : code.Process) (into : ℕ) → Value → Option ℕ → code.Does
made_so m w p into v name =
    Went (record { heap = w.heap ++ Some (source.Cell v name) ∷ []; outside = w.outside })
    (code.with_frames p (code.at p.frame (suc p.frame.pc) p.frame.variables (core.put p.frame.slots into (Holds (Ref (Some (length w.heap)))))) p.below)

abbrev pub number_cons : Kind → (a into : ℕ) → List Def → List Ty → Inst
number_cons j a into defs types = inst (cons_of j) (own (number_place defs types a)) middle.None (own (reference_place defs types into))

abbrev pub reference_cons : (a into : ℕ) → List Def → List Ty → Inst
reference_cons a into defs types = inst op.Consp (own (reference_place defs types a)) middle.None (own (reference_place defs types into))

module _ (m : typed.Module) (b : Base m) (instr : Instr) (into a : ℕ) (list : List Def → List Ty → isa.Operand) (live : List ℕ)
    (i : ℕ) (p : code.Process) (q : Process) (here : slice_get p.frame.code p.frame.pc ≡ Some instr) where
  module _ (j : Kind) (small : j ≡ kind.Big → ⊥) (row : MakesCell m instr into (of_kind j) list (number_cons j a into) live)
      (k : Facts) (w : Shared) (x : World) (n : ℕ) (f : typed.Function) (on : On m k i x [] n f 0 p q) (hold : HoldTheSame m k i x p q)
      (worlds : (sides m).worlds k w x) (name : Option ℕ) (l : ListHere m b k i w x n f p q on hold worlds (of_kind j) (list m.adts (types_of m f)) name)
      (z : NumberIs m k i x [] p.frame q.frame (frame_is m k i x [] n f 0 p q on) j a) where
    pub given_number : ((v : Shared) → (sides m).program.step v p ≡ made_so m v p into (Num z.number) name)
        → Given m b instr into (of_kind j) list (number_cons j a into) live row i p q here k x f
    given_number does =
        let from = number_place m.adts (types_of m f) a in
        record {
          rest = l.rest;
          name = name;
          read = l.read;
          named = l.named;
          held = l.held;
          value = Num z.number;
          words = number_words j z.number;
          cell = number_cell m.adts k j small z.number z.range;
          others = λ stored now y grows still u c e. absurd (number_only j small z.number u c e);
          comes = λ stored y d.
              let r = with_list m b instr into (of_kind j) list (number_cons j a into) live row i p q here f l.rest in
              (lists_come frames_limit (object_of m) y r).make.number j (own from)
              (own (reference_place m.adts (types_of m f) into)) middle.None z.number d
              (operands_are_read.source_number y r (own from) r.frame.words from j (spots_lead.own y r from).0
              ∙ number_stays m.adts (types_of m f) q.frame.words r.frame.words into stored.changes j small a ∙ z.found);
          does = does;
        }

  module _ (item : Ty) (form : form_of item ≡ AsReference) (other : a ≡ into → ⊥) (row : MakesCell m instr into item list (reference_cons a into) live)
      (k : Facts) (w : Shared) (x : World) (n : ℕ) (f : typed.Function) (on : On m k i x [] n f 0 p q) (hold : HoldTheSame m k i x p q)
      (worlds : (sides m).worlds k w x) (name : Option ℕ) (l : ListHere m b k i w x n f p q on hold worlds item (list m.adts (types_of m f)) name)
      (z : ItemIs m k i x [] p.frame q.frame (frame_is m k i x [] n f 0 p q on) item a) where
    abbrev from : ℕ
    from = reference_place m.adts (types_of m f) a

    abbrev then : Process
    then = with_list m b instr into item list (reference_cons a into) live row i p q here f l.rest

    word_then : WordStored q.frame.words (reference_place m.adts (types_of m f) into) (Refer l.rest) → word_at then.frame.words (pos from) ≡ Found (Refer z.refers)
    word_then stored = reference_stays m.adts (types_of m f) q.frame.words then.frame.words into stored.changes a other ∙ z.word

    outer_then : WordStored q.frame.words (reference_place m.adts (types_of m f) into) (Refer l.rest) → (now : Facts) (y : World) → Grows k now
        → HoldTheSame m now i y p then → (u c : ℕ) → slice_get (Refer z.refers ∷ []) u ≡ Some (Refer (Some c))
        → (there (at y.heap c) ≡ true) × (Inner now c → ⊥)
    outer_then stored now y grows still zero c e =
        let same : z.refers ≡ Some c = cc in (
          word_leads m now i y p then still from z.refers (word_then stored) c same,
          stands_outer now m.adts (Refer z.refers ∷ []) 0 item (fitted m.adts item z.item) form
              (stands_later m.adts k now (Refer z.refers ∷ []) grows 0 item (fitted m.adts item z.item) z.stands) c
              (ap (λ (o : Option ℕ). Found (Refer o)) same),
        )
    outer_then stored now y grows still (suc u) c e = absurd cc

    pub given_reference : ((v : Shared) → (sides m).program.step v p ≡ made_so m v p into (fitted m.adts item z.item) name)
        → Given m b instr into item list (reference_cons a into) live row i p q here k x f
    given_reference does = record {
      rest = l.rest;
      name = name;
      read = l.read;
      named = l.named;
      held = l.held;
      value = fitted m.adts item z.item;
      words = Refer z.refers ∷ [];
      cell = reference_cell m.adts k item form z.refers (fitted m.adts item z.item) z.stands;
      others = outer_then;
      comes = λ stored y d.
          (lists_come frames_limit (object_of m) y then).make.reference (own from)
          (own (reference_place m.adts (types_of m f) into)) middle.None z.refers d
          (operands_are_read.source_referring y then (own from) then.frame.words from (spots_lead.own y then from).0
          ∙ ap (λ (g : Access Word). g >>= reference) (word_then stored));
      does = does;
    }

pub whole_number : (defs : List Def) (j : Kind) (z : ℤ) → InRange j z → fitted defs (of_kind j) (Num z) ≡ Num z
whole_number defs kind.Byte z range = ap Num (within kind.Byte z range)
whole_number defs kind.Int z range = ap Num (within kind.Int z range)
whole_number defs kind.Big z range = ap Num (within kind.Big z range)

-- ---- an item and a list, each in a slot

-- what stands where the first is asked for, stands where the second is
stands_so : (u t item : Ty) → StandsAs u t → fitting.Stands t item → StandsAs u item
stands_so u t item a (inl e) = subst (λ (v : Ty). StandsAs u v) e a
stands_so u (ty.RefPick n v) item (inl (inl e)) (inr is) = inl (inr (subst (λ (t : Ty). IsVariantOf t item) (sym e) is))
stands_so u (ty.RefPick n v) item (inl (inr h)) (inr is) = absurd (no_variant u h)
  where
    no_variant : (u : Ty) → IsVariantOf u (ty.RefPick n v) → ⊥
    no_variant (ty.RefPick l w) h = cc
    no_variant u h = h
stands_so u (ty.RefPick n v) item (inr h) (inr is) = inr (h.0, subst MayBeNil (sym is) tt)
stands_so u t item a (inr is) = absurd is

record PutsIn (known : held.Slots) (a c : ℕ) (item : Ty) : Type 0 where
  first : IsA known a item
  list : IsA known c (ty.ListOf item)

puts : (known : held.Slots) (a c : ℕ) (us : List Ty) (item : Ty) → PutsBefore us (ty.ListOf item) → AreThese known (a ∷ c ∷ []) us → PutsIn known a c item
puts known a c [] item h these = absurd h
puts known a c (t ∷ []) item h these = absurd h
puts known a c (t ∷ u ∷ v ∷ us) item h these = absurd h
puts known a c (t ∷ u ∷ []) item (other, stands, list, is) (first, second) =
    let same : other ≡ item = cc in
    record {
      first = (first.0, first.1, stands_so first.0 t item first.2 (subst (λ (v : Ty). fitting.Stands t v) same stands));
      list = subst (λ (v : Ty). IsA known c v) (list ∙ ap (λ (v : Ty). ty.ListOf v) same) second.0;
    }

abbrev pub list_of : ℕ → List Def → List Ty → isa.Operand
list_of c defs types = own (reference_place defs types c)

module _ (m : typed.Module) (b : Base m) (into a c : ℕ) where
  cons_numbers : (j : Kind) → (j ≡ kind.Big → ⊥)
      → MakesCell m (Give (ty.ListOf (of_kind j)) (Operate Cons) into (a ∷ c ∷ [])) into (of_kind j) (list_of c) (number_cons j a into)
      (got_by m.adts (ty.ListOf (of_kind j)) (Operate Cons))
      → (form_of (of_kind j) ≡ AsNumber) → InstrGoes m (Give (ty.ListOf (of_kind j)) (Operate Cons) into (a ∷ c ∷ []))
  cons_numbers j small row form k i x p q ready here =
      let it = Give (ty.ListOf (of_kind j)) (Operate Cons) into (a ∷ c ∷ []) in
      let live = got_by m.adts (ty.ListOf (of_kind j)) (Operate Cons) in
      let n = ready.0.stands.is.number in
      let f = ready.0.stands.is.function in
      let there = used m k i x [] n f 0 p q (on_ready m i p q k x ready.0) it here in
      cell_goes m b it into (of_kind j) (list_of c) (number_cons j a into) live row i p q here there.0 k x ready (λ now w y on hold worlds.
      let needs = found m now i y [] n f 0 p q on it here in
      let in_slots = puts on.known a c needs.0 (of_kind j) needs.2.0 needs.1 in
      let frame = frame_is m now i y [] n f 0 p q on in
      let z = number_is m now i y [] p.frame q.frame frame j a form there.1.0 (λ e. e) in_slots.first in
      let l = name_is m now i y [] p.frame q.frame frame (ty.ListOf (of_kind j)) c tt there.1.1.0 (λ e. e) in_slots.list in (
        needs.3,
        given_number m b it into a (list_of c) live i p q here j small row now w y n f on hold worlds l.name
            (list_of_slot m b now i w y n f p q on hold worlds (of_kind j) c l) z
            (λ v. ap (code.next frames_limit (program m) v p) here
            ∙ ap (λ (s : Slot). made_so m v p into (fitted m.adts (of_kind j) (core.value_of s)) (name_of (core.value_of (core.slot p.frame.slots c)))) z.holds
            ∙ ap (λ (s : Slot). made_so m v p into (fitted m.adts (of_kind j) (Num z.number)) (name_of (core.value_of s))) l.holds
            ∙ ap (λ (u : Value). made_so m v p into u l.name) (whole_number m.adts j z.number z.range)),
      ))

  cons_references : (item : Ty) → form_of item ≡ AsReference → (a ≡ into → ⊥)
      → MakesCell m (Give (ty.ListOf item) (Operate Cons) into (a ∷ c ∷ [])) into item (list_of c) (reference_cons a into)
      (got_by m.adts (ty.ListOf item) (Operate Cons))
      → InstrGoes m (Give (ty.ListOf item) (Operate Cons) into (a ∷ c ∷ []))
  cons_references item form other row k i x p q ready here =
      let it = Give (ty.ListOf item) (Operate Cons) into (a ∷ c ∷ []) in
      let live = got_by m.adts (ty.ListOf item) (Operate Cons) in
      let n = ready.0.stands.is.number in
      let f = ready.0.stands.is.function in
      let there = used m k i x [] n f 0 p q (on_ready m i p q k x ready.0) it here in
      cell_goes m b it into item (list_of c) (reference_cons a into) live row i p q here there.0 k x ready (λ now w y on hold worlds.
      let needs = found m now i y [] n f 0 p q on it here in
      let in_slots = puts on.known a c needs.0 item needs.2.0 needs.1 in
      let frame = frame_is m now i y [] n f 0 p q on in
      let z = item_is m now i y [] p.frame q.frame frame item a form there.1.0 (λ e. e) in_slots.first in
      let l = name_is m now i y [] p.frame q.frame frame (ty.ListOf item) c tt there.1.1.0 (λ e. e) in_slots.list in (
        needs.3,
        given_reference m b it into a (list_of c) live i p q here item form other row now w y n f on hold worlds l.name
            (list_of_slot m b now i w y n f p q on hold worlds item c l) z
            (λ v. ap (code.next frames_limit (program m) v p) here
            ∙ ap (λ (s : Slot). made_so m v p into (fitted m.adts item (core.value_of s)) (name_of (core.value_of (core.slot p.frame.slots c)))) z.holds
            ∙ ap (λ (s : Slot). made_so m v p into (fitted m.adts item z.item) (name_of (core.value_of s))) l.holds),
      ))

cons_code : (t : Site) (item : Ty) (into a c : ℕ) → form_of item ≡ AsReference
    → code_of t (Give (ty.ListOf item) (Operate Cons) into (a ∷ c ∷ []))
    ≡ inst op.Movp (list_of c t.scene.adts t.scene.variables) middle.None (own (reference_place t.scene.adts t.scene.variables into))
    ∷ reference_cons a into t.scene.adts t.scene.variables ∷ []
cons_code t ty.Chars into a c e = refl
cons_code t ty.Nil into a c e = refl
cons_code t (ty.ArrayOf u) into a c e = refl
cons_code t (ty.ListOf u) into a c e = refl
cons_code t (ty.ChanOf u) into a c e = refl
cons_code t (ty.RefAdt n) into a c e = refl
cons_code t (ty.RefPick n j) into a c e = refl
cons_code t (ty.Module n) into a c e = refl
cons_code t u into a c e = absurd cc

conses_of : (m : typed.Module) (b : Base m) (item : Ty) (into a c : ℕ) → IsSimple item → (a ≡ into → ⊥)
    → InstrGoes m (Give (ty.ListOf item) (Operate Cons) into (a ∷ c ∷ []))
conses_of m b ty.Byte into a c (inl e) other =
    cons_numbers m b into a c kind.Byte (λ e. cc)
    (record { code = λ t. refl; plain = refl; behind = λ pc known. refl; names = λ n j l e. one_name l (Some n) j e }) refl
conses_of m b ty.Int into a c (inl e) other =
    cons_numbers m b into a c kind.Int (λ e. cc)
    (record { code = λ t. refl; plain = refl; behind = λ pc known. refl; names = λ n j l e. one_name l (Some n) j e }) refl
conses_of m b item into a c (inl e) other = absurd cc
conses_of m b item into a c (inr form) other =
    cons_references m b into a c item form other
    (record { code = λ t. cons_code t item into a c form; plain = refl; behind = λ pc known. refl; names = λ n j l e. one_name l (Some n) j e })

-- a list of items
record OfList (t : Ty) (from : List ℕ) : Type 0 where
  item : Ty
  list : t ≡ ty.ListOf item
  first : ℕ
  second : ℕ
  slots : from ≡ first ∷ second ∷ []

of_list : (known : held.Slots) (rs : List ℕ) (us : List Ty) (t : Ty) → PutsBefore us t → AreThese known rs us → OfList t rs
of_list known rs [] t h these = absurd h
of_list known rs (u ∷ []) t h these = absurd h
of_list known rs (u ∷ v ∷ w ∷ us) t h these = absurd h
of_list known rs (u ∷ v ∷ []) t (item, stands, list, is) these =
    let slots = two_slots known rs u v these in
    record { item = item; list = is; first = slots.0; second = slots.1; slots = slots.2 }

pub conses_go : ConsesGo
conses_go m b t into from simple other k i x p q ready here =
    let it = Give t (Operate Cons) into from in
    let r = ready.0 in
    let known = r.stands.is.known in
    let found = finds m r.stands.is.function p.frame.pc known it r.stands.goes (code_here m k i x p q r it here) in
    let of = of_list known from found.0 t found.2.0 found.1 in
    conses_of m b of.item into of.first of.second (subst (λ (u : Ty). IsSimple (item_of u)) of.list simple)
    (λ e. other (ap first_slot of.slots ∙ e)) k i x p q ready
    (here ∙ ap (λ (u : Ty). Some (Give u (Operate Cons) into from)) of.list
    ∙ ap (λ (rs : List ℕ). Some (Give (ty.ListOf of.item) (Operate Cons) into rs)) of.slots)
