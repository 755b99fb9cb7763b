-- A value that refers to something is moved by one instruction which goes by its type, whatever is in the frame's linkage; and how many
-- instructions move a value of a type that has a box.
use Rattle.std.proofs.Common.{◌≡◌, ℕ, pos, Bool, true, false, List, [], ◌∷◌, ◌++◌, Some, refl, ap, ◌∙◌, if◌then◌else◌}
use Rattle.std.specs.Prelude.{slice_get}
use Rattle.std.specs.Int.{next_multiple_of}
use Rattle.limbo_types.specs.Types as ty
use Rattle.limbo_types.specs.Types.{Ty}
use Rattle.limbo_layout.specs.Adts.{Def, Has}
use Rattle.limbo_layout.specs.Layout.{Room}
use Rattle.limbo_meaning.specs.Values.{Value}
use Rattle.limbo_values.specs.declared.number.Kind.TheVariants as kind
use Rattle.dis_isa.specs.declared.inst.Inst.{Inst}
use Rattle.dis_isa.specs.declared.inst.Middle.TheVariants as middle
use Rattle.dis_isa.specs.declared.inst.Operand.{Operand}
use Rattle.dis_isa.specs.declared.inst.Operand.TheVariants as operand
use Rattle.dis_isa.specs.declared.op.Op.TheVariants as op
use Rattle.dis_file.specs.declared.object.Object.{Object}
use Rattle.dis_meaning.specs.Words.{Word, Found, ◌>>=◌}
use Rattle.dis_meaning.specs.Numbers.{number_at}
use Rattle.dis_meaning.specs.Process.{Process}
use Rattle.dis_memory.specs.Blocks.{World}
use Rattle.dis_memory.specs.Places.{given_of, with_words_at}
use Rattle.dis_memory.specs.Process.{next}
use Rattle.dis_memory.specs.Step.{obey}
use Rattle.value_words.specs.Facts.{Facts}
use Rattle.value_frames.specs.Frames.{Boxed, form_of, passing_place, room_for, box_bytes}
use Rattle.value_frames.specs.Types.{desc}
use Rattle.value_moves.specs.Operands.{inst, own, of_own, moved, moved_by, fits_middle, size_middle, has_references}
use Rattle.value_moves.specs.Spots.{Leads}
use Rattle.value_moves.specs.Writing.{Writes, Lies, HasRoom}
use Rattle.value_moves.proofs.Marked.{some_there}
use Rattle.value_moves.proofs.Moving.{values_move}
use Rattle.value_moves.proofs.Obeying.{typed_moves}
use Rattle.rows_answers.proofs.Puts.{type_put}
use Rattle.number_effects.proofs.Reading.{operands_are_read}

-- ---- by type

module _ (defs : List Def) (k : Facts) (limit : ℕ) (o : Object) (x : World) (p : Process) (t : Ty) (r : Room) (v : Value) (n : ℕ)
    (a b : Operand) (source target : List Word) (from to : ℕ) (s : Leads x p a source from) (d : Leads x p b target to)
    (lies : Lies defs k source from t r v) (room : HasRoom defs target to t r) where
  abbrev pub Moves : Inst → Type 0
  Moves i =
      (others : List Word) × Writes target others to source from r.size
      × (obey limit o x p i i.op ≡ (with_words_at x p d.place others >>= λ m. Found (next m)))

  module _ (c : ℕ) (has : Has r.references c) (types : slice_get o.types n ≡ Some (desc (next_multiple_of r.size 4) r.references)) where
    pub type_moves : Moves (inst op.Movmp a (middle.Imm (pos n)) b)
    type_moves =
        let i = type_put defs k t r v source target from to lies room c has in (
          i.others,
          i.writes,
          typed_moves x p o a b source target i.others from to s d n (desc r.size r.references) i.words i.even i.even_to
              (types ∙ ap (λ (y : ℕ). Some (desc y r.references)) i.whole) i.taken i.written,
        )

-- ---- how a value is moved

module _ (defs : List Def) (t : Ty) (n : ℕ) (a b : Operand) where
  -- An instruction moves a value of the type, where this number is on its way in the linkage; or whatever is there.
  abbrev pub MovesWhere : (Process → Type 0) → Inst → Type 0
  MovesWhere so i =
      (k : Facts) (limit : ℕ) (o : Object) (x : World) (p : Process) (v : Value) (source target : List Word) (from to : ℕ)
      (s : Leads x p a source from) (d : Leads x p b target to) (lies : Lies defs k source from t (room_for defs t) v)
      (room : HasRoom defs target to t (room_for defs t)) →
      slice_get o.types n ≡ Some (desc (box_bytes defs t) (room_for defs t).references) → so p →
      Moves defs k limit o x p t (room_for defs t) v n a b source target from to s d lies room i

abbrev pub AnyHow : Process → Type 0
AnyHow p = Unit {0}

abbrev pub HasPassing : ℕ → Process → Type 0
HasPassing n p = number_at kind.Int p.frame.words (pos passing_place) ≡ Found (pos n)

-- Whether such a move has the size put into the linkage first.
abbrev pub is_sized : List Def → Ty → Bool
is_sized defs (ty.Tuple ts) = if has_references defs (ty.Tuple ts) then false else (if fits_middle (pos (room_for defs (ty.Tuple ts)).size) then false else true)
is_sized defs (ty.Adt k) = if has_references defs (ty.Adt k) then false else (if fits_middle (pos (room_for defs (ty.Adt k)).size) then false else true)
is_sized defs t = false

abbrev pub sizing : ℕ → Inst
sizing n = inst op.Movw (operand.Imm (pos n)) middle.None (own passing_place)

module _ (defs : List Def) where
  at_once : (t : Ty) (n : ℕ) (a b : Operand) (i : Inst) → moved defs t n a b ≡ i ∷ []
      → ((x : World) (p : Process) → given_of kind.Int x p (size_middle (room_for defs t).size) ≡ Found (pos (room_for defs t).size))
      → MovesWhere defs t n a b AnyHow i
  at_once t n a b i e given k limit o x p v source target from to s d lies room types so =
      values_move.moves defs k limit o x p t (room_for defs t) v n a b source target from to s d lies room [] i e types (given x p)

  -- a value of parts
  module _ (t : Ty) (n : ℕ) (a b : Operand) (parts : moved defs t n a b ≡ moved_by (has_references defs t) n (room_for defs t).size a b) where
    abbrev size : ℕ
    size = (room_for defs t).size

    some_move : has_references defs t ≡ true → (i : Inst) × (moved defs t n a b ≡ i ∷ []) × MovesWhere defs t n a b AnyHow i
    some_move h = (
      inst op.Movmp a (middle.Imm (pos n)) b,
      parts ∙ ap (λ (c : Bool). moved_by c n size a b) h,
      λ k limit o x p v source target from to s d lies room types so.
          let c = some_there (room_for defs t).references h in
          type_moves defs k limit o x p t (room_for defs t) v n a b source target from to s d lies room c.0 c.1 types,
    )

    middle_is : (c : Bool) → fits_middle (pos size) ≡ c → size_middle size ≡ (if c then middle.Imm (pos size) else of_own passing_place)
    middle_is c e = ap (λ (g : Bool). if g then middle.Imm (pos size) else of_own passing_place) e

    few_move : has_references defs t ≡ false → fits_middle (pos size) ≡ true
        → (i : Inst) × (moved defs t n a b ≡ i ∷ []) × MovesWhere defs t n a b AnyHow i
    few_move h e =
        let is : moved defs t n a b ≡ inst op.Movm a (size_middle size) b ∷ [] =
        parts ∙ ap (λ (c : Bool). moved_by c n size a b) h
        ∙ ap (λ (c : Bool). (if c then [] else sizing size ∷ []) ++ (inst op.Movm a (size_middle size) b ∷ [])) e in (
          inst op.Movm a (size_middle size) b,
          is,
          at_once t n a b (inst op.Movm a (size_middle size) b) is
              (λ x p. ap (given_of kind.Int x p) (middle_is true e) ∙ operands_are_read.middle_given x p kind.Int (pos size)),
        )

    many_move : has_references defs t ≡ false → fits_middle (pos size) ≡ false
        → (i : Inst) × (moved defs t n a b ≡ sizing size ∷ i ∷ []) × MovesWhere defs t n a b (HasPassing size) i
    many_move h e =
        let is : moved defs t n a b ≡ sizing size ∷ inst op.Movm a (size_middle size) b ∷ [] =
        parts ∙ ap (λ (c : Bool). moved_by c n size a b) h
        ∙ ap (λ (c : Bool). (if c then [] else sizing size ∷ []) ++ (inst op.Movm a (size_middle size) b ∷ [])) e in (
          inst op.Movm a (size_middle size) b,
          is,
          λ k limit o x p v source target from to s d lies room types so.
              values_move.moves defs k limit o x p t (room_for defs t) v n a b source target from to s d lies room (sizing size ∷ [])
              (inst op.Movm a (size_middle size) b) is types
              (ap (given_of kind.Int x p) (middle_is false e) ∙ operands_are_read.own_number x p kind.Int passing_place ∙ so),
        )

    -- by what is known of the type
    parts_once : (c g : Bool) → has_references defs t ≡ c → fits_middle (pos size) ≡ g → (if c then false else (if g then false else true)) ≡ false
        → (i : Inst) × (moved defs t n a b ≡ i ∷ []) × MovesWhere defs t n a b AnyHow i
    parts_once true g h e f = some_move h
    parts_once false true h e f = few_move h e
    parts_once false false h e f = absurd cc

    parts_twice : (c g : Bool) → has_references defs t ≡ c → fits_middle (pos size) ≡ g → (if c then false else (if g then false else true)) ≡ true
        → (i : Inst) × (moved defs t n a b ≡ sizing size ∷ i ∷ []) × MovesWhere defs t n a b (HasPassing size) i
    parts_twice true g h e f = absurd cc
    parts_twice false true h e f = absurd cc
    parts_twice false false h e f = many_move h e

  pub moves_once : (t : Ty) (n : ℕ) (a b : Operand) → form_of t ≡ Boxed → is_sized defs t ≡ false
      → (i : Inst) × (moved defs t n a b ≡ i ∷ []) × MovesWhere defs t n a b AnyHow i
  moves_once ty.Big n a b form e = (inst op.Movl a middle.None b, refl, at_once ty.Big n a b (inst op.Movl a middle.None b) refl (λ x p. refl))
  moves_once (ty.Tuple ts) n a b form e = parts_once (ty.Tuple ts) n a b refl _ _ refl refl e
  moves_once (ty.Adt k) n a b form e = parts_once (ty.Adt k) n a b refl _ _ refl refl e
  moves_once t n a b form e = absurd cc

  pub moves_twice : (t : Ty) (n : ℕ) (a b : Operand) → form_of t ≡ Boxed → is_sized defs t ≡ true
      → (i : Inst) × (moved defs t n a b ≡ sizing (room_for defs t).size ∷ i ∷ []) × MovesWhere defs t n a b (HasPassing (room_for defs t).size) i
  moves_twice (ty.Tuple ts) n a b form e = parts_twice (ty.Tuple ts) n a b refl _ _ refl refl e
  moves_twice (ty.Adt k) n a b form e = parts_twice (ty.Adt k) n a b refl _ _ refl refl e
  moves_twice t n a b form e = absurd cc
