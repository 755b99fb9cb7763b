-- How many instructions move a value of a type, and that the last one does.
use Rattle.std.proofs.Common.{◌≡◌, ℕ, pos, Bool, true, false, List, [], ◌∷◌, ◌++◌, Some, length, refl, sym, ap, ◌∙◌, if◌then◌else◌, ◌⊎◌, inl, inr, arith}
use Rattle.std.specs.Prelude.{slice_get}
use Rattle.limbo_types.specs.Types as ty
use Rattle.limbo_types.specs.Types.{Ty}
use Rattle.limbo_layout.specs.Adts.{Def}
use Rattle.limbo_meaning.specs.Values.{Value}
use Rattle.limbo_values.specs.declared.number.Kind.{Kind}
use Rattle.limbo_values.specs.declared.number.Kind.TheVariants as kind
use Rattle.limbo_values.specs.declared.number.Kind.TheVariants.{Int}
use Rattle.limbo_typed.specs.Fitting.{of_kind}
use Rattle.dis_isa.specs.declared.inst.Inst.{Inst}
use Rattle.dis_isa.specs.declared.inst.Operand as isa
use Rattle.dis_isa.specs.declared.inst.Operand.TheVariants as operand
use Rattle.dis_isa.specs.declared.inst.Middle.TheVariants as middle
use Rattle.dis_isa.specs.declared.op.Op.{Op}
use Rattle.dis_isa.specs.declared.op.Op.TheVariants as op
use Rattle.dis_file.specs.declared.object.Object.{Object}
use Rattle.dis_meaning.specs.Words.{Word, Found}
use Rattle.dis_meaning.specs.Numbers.{number_at, number_row, Moves as MovesOf}
use Rattle.dis_meaning.specs.Process.{Process}
use Rattle.dis_memory.specs.Blocks.{World}
use Rattle.dis_memory.specs.Places.{given_of}
use Rattle.value_words.specs.Facts.{Facts}
use Rattle.value_frames.specs.Frames.{AsNumber, AsReference, form_of, room_for, box_bytes, passing_place}
use Rattle.value_code.specs.Data.{nil_word, Zero}
use Rattle.value_code.specs.Code.{zeroed, zero_data}
use Rattle.value_frames.specs.Types.{desc}
use Rattle.value_moves.specs.Operands.{Code, inst, own, of_own, moved, moved_by, size_middle, fits_middle, has_references}
use Rattle.value_moves.specs.Spots.{Leads}
use Rattle.value_moves.specs.Writing.{Lies, HasRoom}
use Rattle.value_moves.proofs.Moving.{values_move}
use Rattle.value_moves.proofs.Marked.{some_there}
use Rattle.number_effects.proofs.Reading.{operands_are_read}
use Rattle.rows_dropping.proofs.Typed.{Moves, type_moves}

module _ (defs : List Def) (t : Ty) where
  abbrev pub size : ℕ
  size = (room_for defs t).size

  -- The size of the value stands in the frame.
  abbrev pub HasSize : Process → Type 0
  HasSize p = number_at Int p.frame.words (pos passing_place) ≡ Found (pos size)

  abbrev pub size_inst : Inst
  size_inst = inst op.Movw (operand.Imm (pos size)) middle.None (own passing_place)

  -- An instruction moves the value, wherever the process is so.
  abbrev pub DoesMove : (Process → Type 0) → (ℕ → isa.Operand → isa.Operand → Inst) → Type 0
  DoesMove where_so i =
      (k : Facts) (limit : ℕ) (o : Object) (x : World) (p : Process) (v : Value) (n : ℕ) (a b : isa.Operand) (source target : List Word) (from to : ℕ)
      (s : Leads x p a source from) (d : Leads x p b target to) (lies : Lies defs k source from t (room_for defs t) v)
      (room : HasRoom defs target to t (room_for defs t))
      → slice_get o.types n ≡ Some (desc (box_bytes defs t) (room_for defs t).references) → where_so p
      → Moves defs k limit o x p t (room_for defs t) v n a b source target from to s d lies room (i n a b)

  -- One instruction moves it, or one behind another that puts its size into the frame.
  pub data Moving : Type 0 where
    at_once : (i : ℕ → isa.Operand → isa.Operand → Inst) → ((n : ℕ) (a b : isa.Operand) → moved defs t n a b ≡ i n a b ∷ [])
        → DoesMove (λ p. Unit {0}) i → Moving
    behind_size : (i : ℕ → isa.Operand → isa.Operand → Inst) → ((n : ℕ) (a b : isa.Operand) → moved defs t n a b ≡ size_inst ∷ i n a b ∷ [])
        → DoesMove HasSize i → Moving

  -- by the law of moves, where what the middle gives is the size
  by_law : (where_so : Process → Type 0) (front : Code) (i : ℕ → isa.Operand → isa.Operand → Inst)
      → ((n : ℕ) (a b : isa.Operand) → moved defs t n a b ≡ front ++ i n a b ∷ [])
      → ((x : World) (p : Process) → where_so p → given_of Int x p (size_middle size) ≡ Found (pos size)) → DoesMove where_so i
  by_law where_so front i e given k limit o x p v n a b source target from to s d lies room types so =
      values_move.moves defs k limit o x p t (room_for defs t) v n a b source target from to s d lies room front (i n a b) (e n a b) types
      (given x p so)

  fits_given : fits_middle (pos size) ≡ true → (x : World) (p : Process) → given_of Int x p (size_middle size) ≡ Found (pos size)
  fits_given e x p =
      ap (λ (b : Bool). given_of Int x p (if b then middle.Imm (pos size) else of_own passing_place)) e
      ∙ operands_are_read.middle_given x p Int (pos size)

  large_given : fits_middle (pos size) ≡ false → (x : World) (p : Process) → HasSize p → given_of Int x p (size_middle size) ≡ Found (pos size)
  large_given e x p h =
      ap (λ (b : Bool). given_of Int x p (if b then middle.Imm (pos size) else of_own passing_place)) e
      ∙ operands_are_read.own_number x p Int passing_place ∙ h

  by_type : ((n : ℕ) (a b : isa.Operand) → moved defs t n a b ≡ moved_by (has_references defs t) n size a b) → (refs : Bool)
      → has_references defs t ≡ refs → (fits : Bool) → fits_middle (pos size) ≡ fits → Moving
  by_type is true refs fits e =
      let some = some_there (room_for defs t).references refs in
      at_once (λ n a b. inst op.Movmp a (middle.Imm (pos n)) b) (λ n a b. is n a b ∙ ap (λ (c : Bool). moved_by c n size a b) refs)
      (λ k limit o x p v n a b source target from to s d lies room types so.
      type_moves defs k limit o x p t (room_for defs t) v n a b source target from to s d lies room some.0 some.1 types)
  by_type is false refs true e =
      let same : (n : ℕ) (a b : isa.Operand) → moved defs t n a b ≡ inst op.Movm a (size_middle size) b ∷ [] = λ n a b. is n a b ∙ ap (λ (c : Bool). moved_by c n size a b) refs
      ∙ ap (λ (c : Bool). (if c then [] else size_inst ∷ []) ++ (inst op.Movm a (size_middle size) b ∷ [])) e in
      at_once (λ n a b. inst op.Movm a (size_middle size) b) same
      (by_law (λ p. Unit {0}) [] (λ n a b. inst op.Movm a (size_middle size) b) same (λ x p u. fits_given e x p))
  by_type is false refs false e =
      let same : (n : ℕ) (a b : isa.Operand) → moved defs t n a b ≡ size_inst ∷ inst op.Movm a (size_middle size) b ∷ [] = λ n a b. is n a b ∙ ap (λ (c : Bool). moved_by c n size a b) refs
      ∙ ap (λ (c : Bool). (if c then [] else size_inst ∷ []) ++ (inst op.Movm a (size_middle size) b ∷ [])) e in
      behind_size (λ n a b. inst op.Movm a (size_middle size) b) same
      (by_law HasSize (size_inst ∷ []) (λ n a b. inst op.Movm a (size_middle size) b) same (λ x p h. large_given e x p h))

pub moving : (defs : List Def) (t : Ty) → (t ≡ ty.Nothing → ⊥) → Moving defs t
moving defs ty.Nothing some = absurd (some refl)
moving defs ty.Byte some =
    at_once (λ n a b. inst op.Movb a middle.None b) (λ n a b. refl)
    (by_law defs ty.Byte (λ p. Unit {0}) [] (λ n a b. inst op.Movb a middle.None b) (λ n a b. refl) (λ x p u. fits_given defs ty.Byte refl x p))
moving defs ty.Int some =
    at_once (λ n a b. inst op.Movw a middle.None b) (λ n a b. refl)
    (by_law defs ty.Int (λ p. Unit {0}) [] (λ n a b. inst op.Movw a middle.None b) (λ n a b. refl) (λ x p u. fits_given defs ty.Int refl x p))
moving defs ty.Big some =
    at_once (λ n a b. inst op.Movl a middle.None b) (λ n a b. refl)
    (by_law defs ty.Big (λ p. Unit {0}) [] (λ n a b. inst op.Movl a middle.None b) (λ n a b. refl) (λ x p u. fits_given defs ty.Big refl x p))
moving defs (ty.Tuple ts) some =
    by_type defs (ty.Tuple ts) (λ n a b. refl) (has_references defs (ty.Tuple ts)) refl (fits_middle (pos (size defs (ty.Tuple ts)))) refl
moving defs (ty.Adt a) some =
    by_type defs (ty.Adt a) (λ n a b. refl) (has_references defs (ty.Adt a)) refl (fits_middle (pos (size defs (ty.Adt a)))) refl
moving defs ty.Chars some =
    at_once (λ n a b. inst op.Movp a middle.None b) (λ n a b. refl)
    (by_law defs ty.Chars (λ p. Unit {0}) [] (λ n a b. inst op.Movp a middle.None b) (λ n a b. refl) (λ x p u. fits_given defs ty.Chars refl x p))
moving defs ty.Nil some =
    at_once (λ n a b. inst op.Movp a middle.None b) (λ n a b. refl)
    (by_law defs ty.Nil (λ p. Unit {0}) [] (λ n a b. inst op.Movp a middle.None b) (λ n a b. refl) (λ x p u. fits_given defs ty.Nil refl x p))
moving defs (ty.ArrayOf u) some =
    at_once (λ n a b. inst op.Movp a middle.None b) (λ n a b. refl)
    (by_law defs (ty.ArrayOf u) (λ p. Unit {0}) [] (λ n a b. inst op.Movp a middle.None b) (λ n a b. refl) (λ x p h. fits_given defs (ty.ArrayOf u) refl x p))
moving defs (ty.ListOf u) some =
    at_once (λ n a b. inst op.Movp a middle.None b) (λ n a b. refl)
    (by_law defs (ty.ListOf u) (λ p. Unit {0}) [] (λ n a b. inst op.Movp a middle.None b) (λ n a b. refl) (λ x p h. fits_given defs (ty.ListOf u) refl x p))
moving defs (ty.ChanOf u) some =
    at_once (λ n a b. inst op.Movp a middle.None b) (λ n a b. refl)
    (by_law defs (ty.ChanOf u) (λ p. Unit {0}) [] (λ n a b. inst op.Movp a middle.None b) (λ n a b. refl) (λ x p h. fits_given defs (ty.ChanOf u) refl x p))
moving defs (ty.RefAdt j) some =
    at_once (λ n a b. inst op.Movp a middle.None b) (λ n a b. refl)
    (by_law defs (ty.RefAdt j) (λ p. Unit {0}) [] (λ n a b. inst op.Movp a middle.None b) (λ n a b. refl) (λ x p h. fits_given defs (ty.RefAdt j) refl x p))
moving defs (ty.RefPick j l) some =
    at_once (λ n a b. inst op.Movp a middle.None b) (λ n a b. refl)
    (by_law defs (ty.RefPick j l) (λ p. Unit {0}) [] (λ n a b. inst op.Movp a middle.None b) (λ n a b. refl)
    (λ x p h. fits_given defs (ty.RefPick j l) refl x p))
moving defs (ty.Module j) some =
    at_once (λ n a b. inst op.Movp a middle.None b) (λ n a b. refl)
    (by_law defs (ty.Module j) (λ p. Unit {0}) [] (λ n a b. inst op.Movp a middle.None b) (λ n a b. refl) (λ x p h. fits_given defs (ty.Module j) refl x p))

-- Numbers and references go by one instruction.
abbrev pub Once : (defs : List Def) → Ty → Type 0
Once defs t =
    (i : ℕ → isa.Operand → isa.Operand → Inst) × ((n : ℕ) (a b : isa.Operand) → moved defs t n a b ≡ i n a b ∷ [])
    × DoesMove defs t (λ p. Unit {0}) i

once : (defs : List Def) (t : Ty) → ((n : ℕ) (a b : isa.Operand) → length (moved defs t n a b) ≡ 1) → Moving defs t → Once defs t
once defs t one (at_once i e does) = (i, e, does)
once defs t one (behind_size i e does) =
    absurd (let x = operand.None in
    let long : 2 ≡ 1 = sym (ap (λ (c : Code). length c) (e 0 x x)) ∙ one 0 x x in omega (arith, long))

pub simple_moving : (defs : List Def) (t : Ty) → (form_of t ≡ AsNumber) ⊎ (form_of t ≡ AsReference) → Once defs t
simple_moving defs ty.Nothing f = absurd (elim f [ inl g ↦ cc | inr g ↦ cc ])
simple_moving defs ty.Byte f = once defs ty.Byte (λ n a b. refl) (moving defs ty.Byte (λ e. absurd cc))
simple_moving defs ty.Int f = once defs ty.Int (λ n a b. refl) (moving defs ty.Int (λ e. absurd cc))
simple_moving defs ty.Big f = absurd (elim f [ inl g ↦ cc | inr g ↦ cc ])
simple_moving defs (ty.Tuple ts) f = absurd (elim f [ inl g ↦ cc | inr g ↦ cc ])
simple_moving defs (ty.Adt c) f = absurd (elim f [ inl g ↦ cc | inr g ↦ cc ])
simple_moving defs ty.Chars f = once defs ty.Chars (λ n a b. refl) (moving defs ty.Chars (λ e. absurd cc))
simple_moving defs ty.Nil f = once defs ty.Nil (λ n a b. refl) (moving defs ty.Nil (λ e. absurd cc))
simple_moving defs (ty.ArrayOf z) f = once defs (ty.ArrayOf z) (λ n a b. refl) (moving defs (ty.ArrayOf z) (λ e. absurd cc))
simple_moving defs (ty.ListOf z) f = once defs (ty.ListOf z) (λ n a b. refl) (moving defs (ty.ListOf z) (λ e. absurd cc))
simple_moving defs (ty.ChanOf z) f = once defs (ty.ChanOf z) (λ n a b. refl) (moving defs (ty.ChanOf z) (λ e. absurd cc))
simple_moving defs (ty.RefAdt c) f = once defs (ty.RefAdt c) (λ n a b. refl) (moving defs (ty.RefAdt c) (λ e. absurd cc))
simple_moving defs (ty.RefPick c j) f = once defs (ty.RefPick c j) (λ n a b. refl) (moving defs (ty.RefPick c j) (λ e. absurd cc))
simple_moving defs (ty.Module c) f = once defs (ty.Module c) (λ n a b. refl) (moving defs (ty.Module c) (λ e. absurd cc))

-- ---- how zero comes

pub data Zeroing (defs : List Def) (t : Ty) : Type 0 where
  no_zero : t ≡ ty.Nothing → ((n at : ℕ) (d : isa.Operand) → zeroed defs t n at d ≡ []) → Zeroing defs t
  number_zero : (j : Kind) (o : Op) → number_row o ≡ Some (MovesOf j) → t ≡ of_kind j
      → ((n at : ℕ) (d : isa.Operand) → zeroed defs t n at d ≡ inst o (operand.Imm (pos 0)) middle.None d ∷ []) → Zeroing defs t
  int_zero : t ≡ ty.Int → ((n at : ℕ) (d : isa.Operand) → zeroed defs t n at d ≡ inst op.Movw (operand.Imm (pos 0)) middle.None d ∷ []) → Zeroing defs t
  reference_zero : form_of t ≡ AsReference
      → ((n at : ℕ) (d : isa.Operand) → zeroed defs t n at d ≡ inst op.Movp nil_word middle.None d ∷ []) → Zeroing defs t
  parts_zero : (t ≡ ty.Nothing → ⊥) → zero_data t ≡ Zero t ∷ []
      → ((n at : ℕ) (d : isa.Operand) → zeroed defs t n at d ≡ moved defs t n (operand.Mp (pos at)) d) → Zeroing defs t

pub zeroing : (defs : List Def) (t : Ty) → Zeroing defs t
zeroing defs ty.Nothing = no_zero refl (λ n at d. refl)
zeroing defs ty.Byte = number_zero kind.Byte op.Movb refl refl (λ n at d. refl)
zeroing defs ty.Int = int_zero refl (λ n at d. refl)
zeroing defs ty.Big = number_zero kind.Big op.Movl refl refl (λ n at d. refl)
zeroing defs (ty.Tuple ts) = parts_zero (λ e. absurd cc) refl (λ n at d. refl)
zeroing defs (ty.Adt c) = parts_zero (λ e. absurd cc) refl (λ n at d. refl)
zeroing defs ty.Chars = reference_zero refl (λ n at d. refl)
zeroing defs ty.Nil = reference_zero refl (λ n at d. refl)
zeroing defs (ty.ArrayOf z) = reference_zero refl (λ n at d. refl)
zeroing defs (ty.ListOf z) = reference_zero refl (λ n at d. refl)
zeroing defs (ty.ChanOf z) = reference_zero refl (λ n at d. refl)
zeroing defs (ty.RefAdt c) = reference_zero refl (λ n at d. refl)
zeroing defs (ty.RefPick c j) = reference_zero refl (λ n at d. refl)
zeroing defs (ty.Module c) = reference_zero refl (λ n at d. refl)
