-- Moves of whole values to where a word refers to nothing raise, once the source is there.
use Rattle.std.proofs.Common.{◌≡◌, ℕ, ℤ, Bool, true, false, if◌then◌else◌, pos, List, [], ◌∷◌, ◌++◌, Some, None, refl, sym, ap, ◌∙◌, subst}
use Rattle.std.specs.Prelude.{slice_get}
use Rattle.std.specs.Int.{next_multiple_of}
use Rattle.system_model.specs.Limits.{frames_limit}
use Rattle.limbo_types.specs.Types as ty
use Rattle.limbo_types.specs.Types.{Ty}
use Rattle.limbo_layout.specs.Adts.{Def}
use Rattle.limbo_typed.specs.Typed as typed
use Rattle.limbo_values.specs.declared.number.Kind.TheVariants as kind
use Rattle.limbo_values.specs.declared.number.Kind.TheVariants.{Int}
use Rattle.limbo_meaning.specs.Values.{Value}
use Rattle.dis_isa.specs.declared.inst.Inst.{Inst}
use Rattle.dis_isa.specs.declared.inst.Operand as isa
use Rattle.dis_isa.specs.declared.inst.Middle.TheVariants as middle
use Rattle.dis_isa.specs.declared.op.Op.TheVariants as op
use Rattle.dis_file.specs.declared.object.Object.{Object}
use Rattle.dis_file.specs.declared.types.TypeDesc.{TypeDesc}
use Rattle.dis_meaning.specs.Words.{Word, Refer, InBlock, InFrame, Access, Found, Wrong, Raises, ◌>>=◌, word_at, word_number, at_least_zero}
use Rattle.dis_meaning.specs.Process.{Process}
use Rattle.dis_meaning.specs.Places.{Spot, Own, Data, Far, place_in}
use Rattle.dis_memory.specs.Blocks as blocks
use Rattle.dis_memory.specs.Blocks.{Block, World, block, with_changed, reached}
use Rattle.dis_memory.specs.Copies.{moved as bytes_moved, put, typed_words}
use Rattle.dis_memory.specs.Operands.{middle_type}
use Rattle.dis_memory.specs.Places as places
use Rattle.dis_memory.specs.Places.{Memory, memory, spot, words_at, with_words_at, given_of, read_number}
use Rattle.dis_memory.specs.Process.{Does, next}
use Rattle.dis_memory.specs.Raising.{nil_text}
use Rattle.dis_memory.specs.Results.{gives_number, gives_number_at}
use Rattle.dis_memory.specs.Step.{obey}
use Rattle.value_words.specs.Facts.{Facts}
use Rattle.value_frames.specs.Frames.{Boxed, form_of, room_for, passing_place}
use Rattle.value_frames.specs.Types.{desc}
use Rattle.value_moves.specs.Operands.{Code, inst, own, of_own, behind, moved, moved_by, fits_middle, size_middle, has_references}
use Rattle.value_moves.specs.Spots.{Leads}
use Rattle.value_moves.specs.Writing.{Lies}
use Rattle.value_moves.proofs.Moving.{values_move}
use Rattle.number_effects.proofs.Reading.{operands_are_read}
use Rattle.value_follows.proofs.Slots.{number_there}
use Rattle.value_moves.proofs.Marked.{some_there}
use Rattle.value_moves.specs.Operands as operands
use Rattle.rows_boxes.proofs.Typed.{is_sized, type_moves}
use Rattle.rows_places.proofs.Sizing.{front_of, IsOnWay}

first_found : {S T : Type 0} (a : Access S) (f : S → Access T) (t : T) → (a >>= f) ≡ Found t → (s : S) × (a ≡ Found s)
first_found (Found s) f t e = (s, refl)
first_found (Wrong n) f t e = absurd cc
first_found (Raises text) f t e = absurd cc

module _ (x : World) (p : Process) where
  -- where words are there, others are stored
  data_stored : (n : ℕ) (words new : List Word) → (block x n >>= reached) ≡ Found words
      → (m : Memory) × ((block x n >>= (λ b. Found (with_changed x n (blocks.with_words new b))) >>= λ y. Found (memory y p)) ≡ Found m)
  data_stored n words new e =
      let b = first_found (block x n) reached words e in (
        memory (with_changed x n (blocks.with_words new b.0)) p,
        ap (λ (a : Access Block). a >>= (λ b. Found (with_changed x n (blocks.with_words new b))) >>= λ y. Found (memory y p)) b.1,
      )

  stored_there : (s : Spot) (words new : List Word) → words_at x p s ≡ Found words → (m : Memory) × (with_words_at x p s new ≡ Found m)
  stored_there (Own at) words new e = (_, refl)
  stored_there (Data at) words new e = data_stored p.frame.instance words new e
  stored_there (Far (InFrame s) at) words new e = (_, refl)
  stored_there (Far (InBlock n) at) words new e = data_stored n words new e

  typed_stops : (a : Access ℕ) (d : Access TypeDesc) (take : TypeDesc → ℕ → Access (List Word)) (f g : List Word → Access Does) (t : Does)
      → (a >>= λ from. d >>= λ type. take type from >>= f) ≡ Found t → ((vs : List Word) → g vs ≡ Raises nil_text)
      → (a >>= λ from. d >>= λ type. take type from >>= g) ≡ Raises nil_text
  typed_stops (Found n) (Found type) take f g t e stops =
      let vs = first_found (take type n) f t e in ap (λ (c : Access (List Word)). c >>= g) vs.1 ∙ stops vs.0
  typed_stops (Found n) (Wrong k) take f g t e stops = absurd cc
  typed_stops (Found n) (Raises text) take f g t e stops = absurd cc
  typed_stops (Wrong n) d take f g t e stops = absurd cc
  typed_stops (Raises text) d take f g t e stops = absurd cc

abbrev HasParts : Ty → Type 0
HasParts (ty.Tuple ts) = Unit {0}
HasParts (ty.Adt n) = Unit {0}
HasParts t = ⊥

parts_moved : (defs : List Def) (n : ℕ) (u : Ty) → HasParts u → (a b : isa.Operand)
    → moved defs u n a b ≡ moved_by (has_references defs u) n (room_for defs u).size a b
parts_moved defs n (ty.Tuple ts) h a b = refl
parts_moved defs n (ty.Adt j) h a b = refl
parts_moved defs n t h a b = absurd h

module _ (m : typed.Module) (k : Facts) (o : Object) (x : World) (p : Process) (t : Ty) (v : Value) (n : ℕ) (a : isa.Operand) (words : List Word) (byte : ℕ)
    (leads : Leads x p a words byte) (lies : Lies m.adts k words byte t (room_for m.adts t) v) (form : form_of t ≡ Boxed) (c : Bool)
    (sized : is_sized m.adts t ≡ c) (so : IsOnWay c (room_for m.adts t).size p)
    (type : slice_get o.types n ≡ Some (desc (next_multiple_of (room_for m.adts t).size 4) (room_for m.adts t).references))
    (r off : ℕ) (none : word_at p.frame.words (pos r) ≡ Found (Refer None)) where
  abbrev b : isa.Operand
  b = behind r off

  nowhere : spot x p b ≡ Raises nil_text
  nowhere = ap (λ (c : Access Word). c >>= λ w. places.behind w (pos off)) none

  abbrev size : ℕ
  size = (room_for m.adts t).size

  parts_sized : (u : Ty) → HasParts u → has_references m.adts u ≡ false → fits_middle (pos (room_for m.adts u).size) ≡ false → is_sized m.adts u ≡ true
  parts_sized (ty.Tuple ts) h e g =
      ap (λ (c : Bool). if c then false else (if fits_middle (pos (room_for m.adts (ty.Tuple ts)).size) then false else true)) e
      ∙ ap (λ (c : Bool). if c then false else true) g
  parts_sized (ty.Adt j) h e g =
      ap (λ (c : Bool). if c then false else (if fits_middle (pos (room_for m.adts (ty.Adt j)).size) then false else true)) e
      ∙ ap (λ (c : Bool). if c then false else true) g
  parts_sized u h e g = absurd h

  given : HasParts t → has_references m.adts t ≡ false → given_of Int x p (size_middle (room_for m.adts t).size) ≡ Found (pos (room_for m.adts t).size)
  given parts none = go (fits_middle (pos size)) refl
    where
      go : (g : Bool) → fits_middle (pos (room_for m.adts t).size) ≡ g
          → given_of Int x p (size_middle (room_for m.adts t).size) ≡ Found (pos (room_for m.adts t).size)
      go true e =
          ap (λ (c : Bool). given_of Int x p (if c then middle.Imm (pos size) else of_own passing_place)) e
          ∙ operands_are_read.middle_given x p Int (pos size)
      go false e =
          ap (λ (c : Bool). given_of Int x p (if c then middle.Imm (pos size) else of_own passing_place)) e
          ∙ operands_are_read.own_number x p Int passing_place
          ∙ subst (λ z. IsOnWay z size p) (sym sized ∙ parts_sized t parts none e) so

  -- as a type says, and as so many bytes
  abbrev typed_from : Spot → List Word → ℤ → (List Word → Access Does) → Access Does
  typed_from s source at f = word_number at >>= λ from. middle_type o (middle.Imm (pos n)) >>= λ type. typed_words type source from >>= f

  abbrev puts_to : isa.Operand → List Word → Access Does
  puts_to d vs =
      spot x p d >>= λ s. words_at x p s >>= λ target. word_number (place_in s) >>= λ to. put target to vs >>= with_words_at x p s >>= λ m. Found (next m)

  from_there : (d : isa.Operand) → obey frames_limit o x p (inst op.Movmp a (middle.Imm (pos n)) d) op.Movmp ≡ typed_from leads.place words (pos byte) (puts_to d)
  from_there d =
      ap (λ (c : Access Spot). c >>= λ s. words_at x p s >>= λ source. typed_from s source (place_in s) (puts_to d)) leads.found
      ∙ ap (λ (c : Access (List Word)). c >>= λ source. typed_from leads.place source (place_in leads.place) (puts_to d)) leads.among
      ∙ ap (λ (z : ℤ). typed_from leads.place words z (puts_to d)) leads.byte

  by_type_stops : has_references m.adts t ≡ true
      → obey frames_limit o x p (inst op.Movmp a (middle.Imm (pos n)) b) op.Movmp ≡ Raises nil_text
  by_type_stops e =
      let room = values_move.room m.adts k words byte t (room_for m.adts t) v lies in
      let some = some_there (room_for m.adts t).references e in
      let mv = type_moves m.adts k frames_limit o x p t (room_for m.adts t) v n a a words words byte byte leads leads lies room some.0 some.1 type in
      let stored = stored_there x p leads.place words mv.0 leads.among in
      let found = sym (from_there a) ∙ mv.2 ∙ ap (λ (c : Access Memory). c >>= λ m. Found (next m)) stored.1 in
      from_there b
      ∙ typed_stops x p (word_number (pos byte)) (middle_type o (middle.Imm (pos n))) (λ type from. typed_words type words from) (puts_to a) (puts_to b)
      (next stored.0) found
      (λ vs. ap (λ (c : Access Spot). c >>= λ s. words_at x p s >>= λ target. word_number (place_in s) >>= λ to. put target to vs >>= with_words_at x p s >>= λ m. Found (next m)) nowhere)

  by_bytes_stops : HasParts t → has_references m.adts t ≡ false → obey frames_limit o x p (inst op.Movm a (size_middle size) b) op.Movm ≡ Raises nil_text
  by_bytes_stops parts none =
      ap (λ (c : Access Spot). c >>= λ s. words_at x p s >>= λ source. at_least_zero (place_in s) >>= λ from. counted source from) leads.found
      ∙ ap (λ (c : Access (List Word)). c >>= λ source. at_least_zero (place_in leads.place) >>= λ from. counted source from) leads.among
      ∙ ap (λ (z : ℤ). at_least_zero z >>= λ from. counted words from) leads.byte
      ∙ ap (λ (c : Access ℤ). c >>= at_least_zero >>= λ count. to_there words byte count) (given parts none)
      ∙ ap (λ (c : Access Spot). c >>= λ d. words_at x p d >>= λ target. at_least_zero (place_in d) >>= λ to.
      bytes_moved words byte target to size >>= with_words_at x p d >>= λ m. Found (next m)) nowhere
    where
      to_there : List Word → ℕ → ℕ → Access Does
      to_there source from count =
          spot x p b >>= λ d. words_at x p d >>= λ target. at_least_zero (place_in d) >>= λ to.
          bytes_moved source from target to count >>= with_words_at x p d >>= λ m. Found (next m)

      counted : List Word → ℕ → Access Does
      counted source from = given_of Int x p (size_middle size) >>= at_least_zero >>= λ count. to_there source from count

  big_stops : t ≡ ty.Big → obey frames_limit o x p (inst op.Movl a middle.None b) op.Movl ≡ Raises nil_text
  big_stops e =
      let z = number_there m.adts k words byte t v kind.Big e lies.stands in
      ap (λ (c : Access ℤ). c >>= λ s. gives_number x p kind.Big b (Found s)) (operands_are_read.source_number x p a words byte kind.Big leads ∙ z.found)
      ∙ ap (λ (c : Access Spot). c >>= λ d. gives_number_at x p kind.Big d (Found z.number)) nowhere

  last_is : (i j : Inst) (xs front : Code) → xs ++ (i ∷ []) ≡ front ++ (j ∷ []) → i ≡ j
  last_is i j [] [] e = cc
  last_is i j [] (l ∷ []) e = absurd cc
  last_is i j [] (l ∷ (h ∷ front)) e = absurd cc
  last_is i j (h ∷ []) [] e = absurd cc
  last_is i j (h ∷ (g ∷ xs)) [] e = absurd cc
  last_is i j (h ∷ xs) (l ∷ front) e = last_is i j xs front cc

  pub whole_stops : (move : Inst) → moved m.adts t n a b ≡ front_of c (room_for m.adts t).size ++ move ∷ [] → obey frames_limit o x p move move.op ≡ Raises nil_text
  whole_stops move e = go t refl
    where
      by_parts : HasParts t → (g : Bool) → has_references m.adts t ≡ g → moved m.adts t n a b ≡ moved_by (has_references m.adts t) n (room_for m.adts t).size a b
          → obey frames_limit o x p move move.op ≡ Raises nil_text
      by_parts parts true f g =
          let same = last_is (inst op.Movmp a (middle.Imm (pos n)) b) move [] (front_of c size) (sym (ap (λ c. moved_by c n size a b) f) ∙ sym g ∙ e) in
          subst (λ i. obey frames_limit o x p i i.op ≡ Raises nil_text) same (by_type_stops f)
      by_parts parts false f g =
          let same = last_is (inst op.Movm a (size_middle size) b) move (operands.sized size) (front_of c size) (sym (ap (λ c. moved_by c n size a b) f) ∙ sym g ∙ e) in
          subst (λ i. obey frames_limit o x p i i.op ≡ Raises nil_text) same (by_bytes_stops parts f)

      go : (u : Ty) → t ≡ u → obey frames_limit o x p move move.op ≡ Raises nil_text
      go ty.Big f =
          let same = last_is (inst op.Movl a middle.None b) move [] (front_of c size) (sym (ap (λ u. moved m.adts u n a b) f) ∙ e) in
          subst (λ i. obey frames_limit o x p i i.op ≡ Raises nil_text) same (big_stops f)
      go (ty.Tuple ts) f = let parts = subst HasParts (sym f) tt in by_parts parts (has_references m.adts t) refl (parts_moved m.adts n t parts a b)
      go (ty.Adt j) f = let parts = subst HasParts (sym f) tt in by_parts parts (has_references m.adts t) refl (parts_moved m.adts n t parts a b)
      go u f = absurd (let h = ap form_of f in cc)
