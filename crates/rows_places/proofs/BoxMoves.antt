-- Moves of values that have a record of their own raise where they are to come from behind a word that refers to nothing.
use Rattle.std.proofs.Common.{◌≡◌, ℕ, Bool, true, false, if◌then◌else◌, pos, List, [], ◌∷◌, ◌++◌, None, refl, sym, ap, ◌∙◌, subst}
use Rattle.limbo_types.specs.Types as ty
use Rattle.limbo_types.specs.Types.{Ty}
use Rattle.limbo_layout.specs.Adts.{Def}
use Rattle.limbo_values.specs.declared.number.Kind.TheVariants as kind
use Rattle.dis_isa.specs.declared.inst.Inst.{Inst}
use Rattle.dis_isa.specs.declared.inst.Operand as isa
use Rattle.dis_isa.specs.declared.inst.Middle.TheVariants as middle
use Rattle.dis_isa.specs.declared.op.Op.TheVariants as op
use Rattle.dis_file.specs.declared.object.Object.{Object}
use Rattle.dis_meaning.specs.Words.{Word, Refer, Access, Found, Raises, ◌>>=◌, word_at}
use Rattle.dis_meaning.specs.Process.{Process}
use Rattle.dis_memory.specs.Blocks.{World}
use Rattle.dis_memory.specs.Places as places
use Rattle.dis_memory.specs.Places.{read_number}
use Rattle.dis_memory.specs.Raising.{nil_text}
use Rattle.dis_memory.specs.Results.{gives_number}
use Rattle.dis_memory.specs.Step.{obey}
use Rattle.value_frames.specs.Frames.{Boxed, form_of, room_for}
use Rattle.value_moves.specs.Operands.{Code, inst, behind, moved, moved_by, fits_middle, size_middle, has_references}
use Rattle.rows_boxes.proofs.Typed.{sizing}

same_one : (a b : Inst) → ◌≡◌ {A = Code} (a ∷ []) (b ∷ []) → a ≡ b
same_one a b e = cc

same_second : (a b c d : Inst) → ◌≡◌ {A = Code} (a ∷ b ∷ []) (c ∷ d ∷ []) → b ≡ d
same_second a b c d e = cc

stops_first : {S T : Type 0} (a : Access S) (f : S → Access T) → a ≡ Raises nil_text → (a >>= f) ≡ Raises nil_text
stops_first a f e = ap (λ c. c >>= f) e

module _ (limit : ℕ) (o : Object) (x : World) (p : Process) (r off : ℕ) (none : word_at p.frame.words (pos r) ≡ Found (Refer None)) (d : isa.Operand) where
  abbrev a : isa.Operand
  a = behind r off

  abbrev Stops : Inst → Type 0
  Stops i = obey limit o x p i i.op ≡ Raises nil_text

  nowhere : places.spot x p a ≡ Raises nil_text
  nowhere = ap (λ (c : Access Word). c >>= λ w. places.behind w (pos off)) none

  by_number : Stops (inst op.Movl a middle.None d)
  by_number =
      ap (λ (c : Access Word). ((c >>= λ w. places.behind w (pos off)) >>= read_number kind.Big x p) >>= λ s. gives_number x p kind.Big d (Found s)) none

  module _ (n size : ℕ) where
    by_type : Stops (inst op.Movmp a (middle.Imm (pos n)) d)
    by_type = stops_first (places.spot x p a) _ nowhere

    by_bytes : Stops (inst op.Movm a (size_middle size) d)
    by_bytes = stops_first (places.spot x p a) _ nowhere

    abbrev many : Bool → Code
    many c = (if c then [] else sizing size ∷ []) ++ (inst op.Movm a (size_middle size) d ∷ [])

    parts_once : (c g : Bool) → fits_middle (pos size) ≡ g → (last : Inst) → moved_by c n size a d ≡ last ∷ [] → Stops last
    parts_once true g h last e = subst Stops (same_one (inst op.Movmp a (middle.Imm (pos n)) d) last e) by_type
    parts_once false true h last e = subst Stops (same_one (inst op.Movm a (size_middle size) d) last (sym (ap many h) ∙ e)) by_bytes
    parts_once false false h last e = absurd (let f = sym (ap many h) ∙ e in cc)

    parts_twice : (c g : Bool) → fits_middle (pos size) ≡ g → (first last : Inst) → moved_by c n size a d ≡ first ∷ last ∷ [] → Stops last
    parts_twice true g h first last e = absurd cc
    parts_twice false true h first last e = absurd (let f = sym (ap many h) ∙ e in cc)
    parts_twice false false h first last e =
        subst Stops (same_second (sizing size) (inst op.Movm a (size_middle size) d) first last (sym (ap many h) ∙ e)) by_bytes

  module _ (n : ℕ) (defs : List Def) where
    pub nil_once : (t : Ty) → form_of t ≡ Boxed → (last : Inst) → moved defs t n a d ≡ last ∷ [] → Stops last
    nil_once ty.Big form last e = subst Stops (same_one (inst op.Movl a middle.None d) last e) by_number
    nil_once (ty.Tuple ts) form last e = parts_once n (room_for defs (ty.Tuple ts)).size (has_references defs (ty.Tuple ts)) _ refl last e
    nil_once (ty.Adt j) form last e = parts_once n (room_for defs (ty.Adt j)).size (has_references defs (ty.Adt j)) _ refl last e
    nil_once t form last e = absurd cc

    pub nil_twice : (t : Ty) → form_of t ≡ Boxed → (first last : Inst) → moved defs t n a d ≡ first ∷ last ∷ [] → Stops last
    nil_twice ty.Big form first last e = absurd cc
    nil_twice (ty.Tuple ts) form first last e = parts_twice n (room_for defs (ty.Tuple ts)).size (has_references defs (ty.Tuple ts)) _ refl first last e
    nil_twice (ty.Adt j) form first last e = parts_twice n (room_for defs (ty.Adt j)).size (has_references defs (ty.Adt j)) _ refl first last e
    nil_twice t form first last e = absurd cc
