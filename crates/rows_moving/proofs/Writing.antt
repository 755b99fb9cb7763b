-- Parts of variables that are written with what slots have, or with zeros.
use Rattle.std.proofs.Common.{◌≡◌, ℕ, ℤ, suc, pos, ◌+◌, ◌<◌, List, [], ◌∷◌, length, Some, None, refl, sym, ap, ◌∙◌, subst, arith, inl, inr}
use Rattle.std.specs.Prelude.{slice_get, slice_index_or}
use Rattle.std.proofs.lemmas.Int.{ints}
use Rattle.limbo_types.specs.Types as ty
use Rattle.limbo_types.specs.Types.{Ty}
use Rattle.limbo_values.specs.declared.number.Kind.TheVariants as kind
use Rattle.limbo_values.specs.Numbers.{InRange}
use Rattle.limbo_values.proofs.Ranges.{within}
use Rattle.limbo_typed.specs.Typed as typed
use Rattle.limbo_kept.specs.Operating.{HasRoom}
use Rattle.limbo_kept.specs.Places.{Leads}
use Rattle.limbo_meaning.specs.Process.{Shared}
use Rattle.limbo_meaning.specs.Places.{Way, part_at}
use Rattle.limbo_meaning.specs.Memory.{Memory, with_variables}
use Rattle.limbo_meaning.specs.Exceptions.{Raising}
use Rattle.limbo_meaning.specs.Values.{Value, Num, nothing, fitted}
use Rattle.system_model.specs.Limits.{frames_limit}
use Rattle.core_code.specs.Code.{Instr, Write}
use Rattle.core_code.specs.Machine as code
use Rattle.core_code.specs.Slots as core
use Rattle.core_typing.specs.Held as held
use Rattle.core_typing.specs.Held.{Of, type_held}
use Rattle.core_typing.specs.Needs.{StandsAs, Fills}
use Rattle.core_typing.specs.Going.{IsTold, Agrees}
use Rattle.core_typing.specs.Written.{told}
use Rattle.dis_isa.specs.declared.inst.Inst.{Inst}
use Rattle.dis_isa.specs.declared.inst.Operand as isa
use Rattle.dis_isa.specs.declared.inst.Operand.TheVariants as operand
use Rattle.dis_isa.specs.declared.inst.Middle.TheVariants as middle
use Rattle.dis_isa.specs.declared.op.Op.{Op}
use Rattle.dis_isa.specs.declared.op.Op.TheVariants as op
use Rattle.dis_meaning.specs.Words.{Word, Plain, Access, Found, ◌>>=◌, reference}
use Rattle.dis_meaning.specs.Process.{Process}
use Rattle.dis_memory.specs.Blocks.{World}
use Rattle.value_words.specs.Facts.{Facts}
use Rattle.value_words.specs.Stands.{Stands}
use Rattle.value_words.proofs.Wholes.{stands_whole}
use Rattle.value_frames.specs.Frames.{AsNumber, AsReference, form_of, variable_place, number_place, reference_place}
use Rattle.value_frames.specs.Standing.{SlotStands}
use Rattle.value_frames.proofs.Rest.{slots_rest}
use Rattle.value_frames.specs.Frames as frames
use Rattle.value_moves.specs.Operands.{Code, inst, own}
use Rattle.value_stores.proofs.Places.{places_change}
use Rattle.value_code.specs.Objects.{of_function, globals, blank_site, or_nothing}
use Rattle.value_code.specs.Data.{nil_word}
use Rattle.value_code.specs.Operands.{part_in_slot}
use Rattle.value_code.specs.Code.{Site, code_of, put, put_or_zero}
use Rattle.number_effects.proofs.Reading.{operands_are_read}
use Rattle.value_follows.specs.Stands.{Ready, GoesOn, scope, types_of}
use Rattle.value_follows.specs.Sides.{sides, HoldTheSame, program}
use Rattle.value_follows.specs.Rows.{Base, site_of}
use Rattle.value_follows.proofs.Standing.{same_some, finds, code_here}
use Rattle.value_follows.proofs.Slots.{uses, number_there, slot_is}
use Rattle.value_follows.proofs.Single.{Once, single}
use Rattle.value_follows.proofs.Jumps.{row, behind_it}
use Rattle.rows_moving.specs.Rows.{of_local, IsSimple, WritesGo}
use Rattle.rows_moving.proofs.References.{nil_read, zero_stands}
use Rattle.rows_moving.proofs.Variables.{function, place, part_there, PartThere}
use Rattle.rows_moving.proofs.Sources.{of_type, same_form, same_number_type, has_parts, fits_word, SourceIs, slot_reads, source_is}
use Rattle.rows_moving.proofs.Storing.{with_value, byte_stored, int_stored, reference_written}

-- ---- the row's code

-- where the part lies that is written
abbrev target_at : (c : Site) → (v : ℕ) → (part : List ℕ) → ℕ
target_at c v part =
    variable_place c.scene.adts c.scene.variables v + frames.within c.scene.adts (slice_index_or c.scene.variables v ty.Nothing) part

put_value : (c : Site) (u t : Ty) (d : isa.Operand) (taken : List ℕ) (from : ℕ) → (u ≡ ty.Nothing → ⊥)
    → put_or_zero c u t d taken from ≡ put c t d taken from
put_value c ty.Nothing t d taken from some = absurd (some refl)
put_value c u t d taken from some = refl

put_reference : (c : Site) (t : Ty) (d : isa.Operand) (taken : List ℕ) (from : ℕ) → form_of t ≡ AsReference
    → put c t d taken from ≡ inst op.Movp (part_in_slot c.scene (c.told from) taken from) middle.None d ∷ []
put_reference c ty.Chars d taken from e = refl
put_reference c ty.Nil d taken from e = refl
put_reference c (ty.ArrayOf t) d taken from e = refl
put_reference c (ty.ListOf t) d taken from e = refl
put_reference c (ty.ChanOf t) d taken from e = refl
put_reference c (ty.RefAdt a) d taken from e = refl
put_reference c (ty.RefPick a j) d taken from e = refl
put_reference c (ty.Module a) d taken from e = refl
put_reference c t d taken from e = absurd cc

zero_reference : (c : Site) (t : Ty) (d : isa.Operand) (taken : List ℕ) (from : ℕ) → form_of t ≡ AsReference
    → put_or_zero c ty.Nothing t d taken from ≡ inst op.Movp nil_word middle.None d ∷ []
zero_reference c ty.Chars d taken from e = refl
zero_reference c ty.Nil d taken from e = refl
zero_reference c (ty.ArrayOf t) d taken from e = refl
zero_reference c (ty.ListOf t) d taken from e = refl
zero_reference c (ty.ChanOf t) d taken from e = refl
zero_reference c (ty.RefAdt a) d taken from e = refl
zero_reference c (ty.RefPick a j) d taken from e = refl
zero_reference c (ty.Module a) d taken from e = refl
zero_reference c t d taken from e = absurd cc

module _ (c : Site) (t : Ty) (v : ℕ) (part operands taken : List ℕ) (from : ℕ) (u : Ty) (tells : c.told from ≡ u) where
  told_code : code_of c (Write t (of_local v part) operands taken from) ≡ put_or_zero c u t (own (target_at c v part)) taken from
  told_code = ap (λ (y : Ty). put_or_zero c y t (own (target_at c v part)) taken from) tells

  -- the code that moves the slot's value
  value_code : (u ≡ ty.Nothing → ⊥) → (o : Op)
      → put c t (own (target_at c v part)) taken from
      ≡ inst o (part_in_slot c.scene (c.told from) taken from) middle.None (own (target_at c v part)) ∷ []
      → code_of c (Write t (of_local v part) operands taken from)
      ≡ inst o (part_in_slot c.scene u taken from) middle.None (own (target_at c v part)) ∷ []
  value_code some o is =
      told_code ∙ put_value c u t (own (target_at c v part)) taken from some ∙ is
      ∙ ap (λ (y : Ty). inst o (part_in_slot c.scene y taken from) middle.None (own (target_at c v part)) ∷ []) tells

-- ---- what is told of the slot

agrees : (m : typed.Module) (f : typed.Function) (pc : ℕ) (known : held.Slots) (t : Ty) (way : Way) (operands taken : List ℕ) (from : ℕ)
    → GoesOn m f pc known → slice_get (of_function m f).code pc ≡ Some (Write t way operands taken from)
    → IsTold (told (of_function m f).code pc) known from
agrees m f pc known t way operands taken from goes here =
    let g = goes 1 in
    let instr = Write t way operands taken from in
    let both =
    subst (λ (j : Instr). Agrees (scope m f) f.of.answer (of_function m f).code pc known j) (same_some g.0 instr (sym g.1 ∙ here)) g.3 in
    both.0

not_nothing : (m : typed.Module) (w : Ty) (taken : List ℕ) (u : Ty) → Leads m.adts w taken u → IsSimple u → w ≡ ty.Nothing → ⊥
not_nothing m w [] u e (inl s) f = let g : form_of u ≡ form_of ty.Nothing = ap form_of (sym e ∙ f) in absurd cc
not_nothing m w [] u e (inr s) f = let g : form_of u ≡ form_of ty.Nothing = ap form_of (sym e ∙ f) in absurd cc
not_nothing m w (n ∷ ns) u h s f =
    let g : form_of w ≡ form_of ty.Nothing = ap form_of f in
    let b = has_parts m.adts w n h.0 h.1 in
    absurd cc

-- ---- one step

module _ (m : typed.Module) (b : Base m) (k : Facts) (i : ℕ) (w : Shared) (x : World) (p : code.Process) (q : Process) (ready : Ready m k i x p q) (hold : HoldTheSame m k i x p q) (worlds : (sides m).worlds k w x)
    (t : Ty) (v : ℕ) (part operands taken : List ℕ) (from : ℕ) (here : slice_get p.frame.code p.frame.pc ≡ Some (Write t (of_local v part) operands taken from)) where
  abbrev instr : Instr
  instr = Write t (of_local v part) operands taken from

  abbrev f : typed.Function
  f = function m k i x p q ready

  abbrev known : held.Slots
  known = ready.stands.is.known

  abbrev from_value : Value
  from_value = core.value_of (core.slot p.frame.slots from)

  abbrev val : Value
  val = part_at taken from_value

  does : (there : PartThere m k i x p q ready v part t) → (sides m).program.step w p
      ≡ code.goes_with w p (with_variables (code.memory_of w p.frame) (with_value m k i x p q ready v part t there (fitted m.adts t val))) p.frame.slots
  does there =
      let written = (places_change.local m.adts (code.memory_of w p.frame) t v part (core.values_of p.frame.slots operands) there.value there.there).1 val in
      ap (code.next frames_limit (program m) w p) here
      ∙ ap (λ (r : Raising Memory). code.unless_raised frames_limit (program m) w p r (λ n. code.goes_with w p n p.frame.slots)) written

  goes : GoesOn m f (suc p.frame.pc) known
  goes = behind_it m b k i w x p q ready hold worlds instr here 0 (suc p.frame.pc) known (omega arith) refl

  abbrev blank : Site
  blank = blank_site m f.of.answer (of_function m f) p.frame.pc

  abbrev real : Site
  real = site_of m ready.stands.is.number f p.frame.pc (row m b k i w x p q ready hold worlds instr here).at

  below_all : from < length p.frame.slots
  below_all = (uses m k i x [] p.frame q.frame ready.stands.is p.frame.pc instr (code_here m k i x p q ready instr here)).1

  module _ (there : PartThere m k i x p q ready v part t) where
    abbrev at_place : ℕ
    at_place = place m k i x p q ready v part

    -- the slot's value is moved
    module _ (u : Ty) (known_type : type_held (held.slot known from) ≡ Some u) (tells : or_nothing (told (of_function m f).code p.frame.pc from) ≡ u)
        (room : HasRoom m.adts u) (y : Ty) (leads : Leads m.adts u taken y) (fits_as : StandsAs y t) where
      is_simple : IsSimple t → IsSimple y
      is_simple (inl e) = inl (same_form y t fits_as ∙ e)
      is_simple (inr e) = inr (same_form y t fits_as ∙ e)

      source : IsSimple t → SourceIs m k i w x p q ready hold worlds (part_in_slot real.scene u taken from) y val
      source simple =
          let slot = slot_reads m k i w x p q ready hold worlds from below_all u known_type room in
          subst (λ z. SourceIs m k i w x p q ready hold worlds (part_in_slot real.scene u taken from) y (part_at taken z)) (sym slot.holds)
          (source_is m k i w x p q ready hold worlds from below_all u known_type room (globals m) slot taken y leads (is_simple simple))

      abbrev move : Op → Inst
      move o = inst o (part_in_slot real.scene u taken from) middle.None (own at_place)

      code_is : (c : Site) → c.told from ≡ u → IsSimple t → (o : Op)
          → put c t (own (target_at c v part)) taken from
          ≡ inst o (part_in_slot c.scene (c.told from) taken from) middle.None (own (target_at c v part)) ∷ []
          → code_of c instr ≡ inst o (part_in_slot c.scene u taken from) middle.None (own (target_at c v part)) ∷ []
      code_is c e simple o is = value_code c t v part operands taken from u e (not_nothing m u taken y leads (is_simple simple)) o is

      byte_moved : t ≡ ty.Byte → Once m b i p q k w x
      byte_moved e =
          let simple : IsSimple t = inl (ap form_of e) in
          let s = source simple in
          let same : y ≡ ty.Byte = same_number_type y t (ap form_of e) fits_as ∙ e in
          let z = number_there m.adts k s.words s.at y val kind.Byte same s.stands in
          let put_is : (c : Site) → put c t (own (target_at c v part)) taken from
          ≡ inst op.Movb (part_in_slot c.scene (c.told from) taken from) middle.None (own (target_at c v part)) ∷ [] =
          λ c. ap (λ (n : Ty). put c n (own (target_at c v part)) taken from) e in
          byte_stored m b k i w x p q ready hold worlds instr here v part t there
          (ap (λ (c : Code). length c) (code_is blank tells simple op.Movb (put_is blank))) goes val (does there)
          (part_in_slot real.scene u taken from) (ap (λ (c : Code). slice_get c 0) (code_is real tells simple op.Movb (put_is real))) e z.number
          (operands_are_read.source_number x q (part_in_slot real.scene u taken from) s.words s.at kind.Byte s.leads ∙ z.found) z.range
          (sym (stands_whole m.adts k s.words s.at t val (subst (λ n. Stands m.adts k s.words s.at n val) (same ∙ sym e) s.stands)) ∙ z.is)

      int_moved : t ≡ ty.Int → Once m b i p q k w x
      int_moved e =
          let simple : IsSimple t = inl (ap form_of e) in
          let s = source simple in
          let same : y ≡ ty.Int = same_number_type y t (ap form_of e) fits_as ∙ e in
          let z = number_there m.adts k s.words s.at y val kind.Int same s.stands in
          let plainly = operands_are_read.int_is_plain s.words s.at z.number z.found in
          let put_is : (c : Site) → put c t (own (target_at c v part)) taken from
          ≡ inst op.Movw (part_in_slot c.scene (c.told from) taken from) middle.None (own (target_at c v part)) ∷ [] =
          λ c. ap (λ (n : Ty). put c n (own (target_at c v part)) taken from) e in
          int_stored m b k i w x p q ready hold worlds instr here v part t there
          (ap (λ (c : Code). length c) (code_is blank tells simple op.Movw (put_is blank))) goes val (does there)
          (part_in_slot real.scene u taken from) (ap (λ (c : Code). slice_get c 0) (code_is real tells simple op.Movw (put_is real))) e z.number
          (record {
            word = plainly.0;
            plainly = operands_are_read.source_plain_word x q (part_in_slot real.scene u taken from) s.words s.at s.leads ∙ plainly.1;
            number = plainly.2;
            range = z.range;
          })
          (sym (stands_whole m.adts k s.words s.at t val (subst (λ n. Stands m.adts k s.words s.at n val) (same ∙ sym e) s.stands)) ∙ z.is)

      reference_moved : form_of t ≡ AsReference → Once m b i p q k w x
      reference_moved form =
          let simple : IsSimple t = inr form in
          let s = source simple in
          let one = fits_word m.adts k s.words s.at y t val form fits_as s.stands in
          reference_written m b k i w x p q ready hold worlds instr here v part t there
          (ap (λ (c : Code). length c)
          (code_is blank tells simple op.Movp (put_reference blank t (own (target_at blank v part)) taken from form))) goes val (does there)
          (part_in_slot real.scene u taken from)
          (ap (λ (c : Code). slice_get c 0)
          (code_is real tells simple op.Movp (put_reference real t (own (target_at real v part)) taken from form))) form one.refers
          (operands_are_read.source_referring x q (part_in_slot real.scene u taken from) s.words s.at s.leads
          ∙ ap (λ (a : Access Word). a >>= reference) one.word)
          one.elsewhere

      pub value_moved : IsSimple t → Once m b i p q k w x
      value_moved (inl e) = number t refl e
        where
          number : (n : Ty) → t ≡ n → form_of n ≡ AsNumber → Once m b i p q k w x
          number ty.Byte f g = byte_moved f
          number ty.Int f g = int_moved f
          number n f g = absurd cc
      value_moved (inr e) = reference_moved e

    -- or zero is written
    module _ (tells : or_nothing (told (of_function m f).code p.frame.pc from) ≡ ty.Nothing) (empty : val ≡ nothing) where
      zero_range_byte : InRange kind.Byte (pos 0)
      zero_range_byte = record { above = omega (arith, ints); below = omega (arith, ints) }

      zero_range_int : InRange kind.Int (pos 0)
      zero_range_int = record { above = omega (arith, ints); below = omega (arith, ints) }

      abbrev code_told : (c : Site) → c.told from ≡ ty.Nothing → code_of c instr ≡ put_or_zero c ty.Nothing t (own (target_at c v part)) taken from
      code_told c e = told_code c t v part operands taken from ty.Nothing e

      byte_zero : t ≡ ty.Byte → Once m b i p q k w x
      byte_zero e =
          let code_is : (c : Site) → c.told from ≡ ty.Nothing
          → code_of c instr ≡ inst op.Movb (operand.Imm (pos 0)) middle.None (own (target_at c v part)) ∷ [] =
          λ c g. code_told c g ∙ ap (λ (n : Ty). put_or_zero c ty.Nothing n (own (target_at c v part)) taken from) e in
          byte_stored m b k i w x p q ready hold worlds instr here v part t there
          (ap (λ (c : Code). length c) (code_is blank tells)) goes val (does there)
          (operand.Imm (pos 0)) (ap (λ (c : Code). slice_get c 0) (code_is real tells)) e (pos 0)
          (operands_are_read.source_given x q kind.Byte (pos 0) ∙ ap (λ (z : ℤ). Found z) (within kind.Byte (pos 0) zero_range_byte)) zero_range_byte
          (ap (λ (n : Ty). fitted m.adts n val) e ∙ ap (λ (y : Value). fitted m.adts ty.Byte y) empty
          ∙ ap (λ (z : ℤ). Num z) (within kind.Byte (pos 0) zero_range_byte))

      int_zero : t ≡ ty.Int → Once m b i p q k w x
      int_zero e =
          let code_is : (c : Site) → c.told from ≡ ty.Nothing
          → code_of c instr ≡ inst op.Movw (operand.Imm (pos 0)) middle.None (own (target_at c v part)) ∷ [] =
          λ c g. code_told c g ∙ ap (λ (n : Ty). put_or_zero c ty.Nothing n (own (target_at c v part)) taken from) e in
          int_stored m b k i w x p q ready hold worlds instr here v part t there
          (ap (λ (c : Code). length c) (code_is blank tells)) goes val (does there)
          (operand.Imm (pos 0)) (ap (λ (c : Code). slice_get c 0) (code_is real tells)) e (pos 0)
          (record {
            word = Plain (pos 0);
            plainly = operands_are_read.source_plain_given x q (pos 0);
            number = refl;
            range = zero_range_int;
          })
          (ap (λ (n : Ty). fitted m.adts n val) e ∙ ap (λ (y : Value). fitted m.adts ty.Int y) empty
          ∙ ap (λ (z : ℤ). Num z) (within kind.Int (pos 0) zero_range_int))

      reference_zero : form_of t ≡ AsReference → Once m b i p q k w x
      reference_zero form =
          let code_is : (c : Site) → c.told from ≡ ty.Nothing
          → code_of c instr ≡ inst op.Movp nil_word middle.None (own (target_at c v part)) ∷ [] =
          λ c g. code_told c g ∙ zero_reference c t (own (target_at c v part)) taken from form in
          reference_written m b k i w x p q ready hold worlds instr here v part t there
          (ap (λ (c : Code). length c) (code_is blank tells)) goes val (does there)
          nil_word (ap (λ (c : Code). slice_get c 0) (code_is real tells)) form None
          (nil_read m b k i w x p q ready hold worlds instr here)
          (λ others to e. subst (λ y. Stands m.adts k others to t (fitted m.adts t y)) (sym empty) (zero_stands m.adts k others to t form e))

      pub zero_written : IsSimple t → Once m b i p q k w x
      zero_written (inl e) = number t refl e
        where
          number : (n : Ty) → t ≡ n → form_of n ≡ AsNumber → Once m b i p q k w x
          number ty.Byte f g = byte_zero f
          number ty.Int f g = int_zero f
          number n f g = absurd cc
      zero_written (inr e) = reference_zero e

  -- A slot that is known to be without parts has nothing.
  empty_slot : type_held (held.slot known from) ≡ Some ty.Nothing → from_value ≡ nothing
  empty_slot e =
      let n = number_place m.adts (types_of m f) from in
      let r = reference_place m.adts (types_of m f) from in
      let own = ready.stands.is.words.own from in
      let h = of_type (held.slot known from) ty.Nothing e in
      let stands = subst (λ o. SlotStands m.adts k x.heap q.frame.serial q.frame.words n r o (core.slot p.frame.slots from) own) h.1
      (slot_is m k i x [] p.frame q.frame ready.stands.is from below_all (λ e. e)) in
      let v = slots_rest.is_value m.adts k x.heap q.frame.serial q.frame.words n r ty.Nothing h.0 (core.slot p.frame.slots from) own stands in
      let reads = slots_rest.reads m.adts k x.heap q.frame.serial q.frame.words n r ty.Nothing h.0 v.0 own
      (subst (λ l. SlotStands m.adts k x.heap q.frame.serial q.frame.words n r (Of ty.Nothing h.0) l own) v.1 stands) in
      ap core.value_of v.1 ∙ (reads.nowhere refl).0

  pub written : IsSimple t → Once m b i p q k w x
  written simple =
      let row_is = code_here m k i x p q ready instr here in
      let found = finds m f p.frame.pc known instr ready.stands.goes row_is in
      let there = part_there m k i x p q ready v part found.0 t found.2 in
      let told_is = agrees m f p.frame.pc known t (of_local v part) operands taken from ready.stands.goes row_is in
      go there told_is found.3
    where
      go : PartThere m k i x p q ready v part t → IsTold (told (of_function m f).code p.frame.pc) known from
          → Fills (scope m f) known t taken from → Once m b i p q k w x
      go there tells (inl (u, e, room, (y, leads, fits_as))) =
          let same : tells.0 ≡ u = same_some tells.0 u (sym tells.1 ∙ e) in
          value_moved there u e (ap or_nothing tells.2 ∙ same) room y leads fits_as simple
      go there tells (inr (e, none, room)) =
          let same : tells.0 ≡ ty.Nothing = same_some tells.0 ty.Nothing (sym tells.1 ∙ e) in
          zero_written there (ap or_nothing tells.2 ∙ same)
          (ap (λ (ns : List ℕ). part_at ns from_value) none ∙ empty_slot e) simple

-- ---- the row

pub writes_go : WritesGo
writes_go m b t v part operands taken from simple k i x p q ready here =
    single m b i p q k x ready (λ now w y r hold worlds.
    written m b now i w y p q r hold worlds t v part operands taken from here simple)
