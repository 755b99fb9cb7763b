-- What instructions on records and arrays come to.
use Rattle.std.proofs.Common.{◌≡◌, ℕ, ℤ, pos, negsuc, ◌+◌, ◌-◌, ◌*◌, ◌/◌, Bool, true, false, List, Option, None, Some}
use Rattle.std.proofs.Common.{Ok, Err, refl, ap, ◌∙◌, inl, inr, if◌then◌else◌}
use Rattle.std.specs.Prelude.{◌==◌, nat_le}
use Rattle.heap_model.specs.Heap.{at}
use Rattle.dis_isa.specs.declared.inst.Inst.{Inst}
use Rattle.dis_isa.specs.declared.inst.Middle.{Middle}
use Rattle.dis_isa.specs.declared.inst.Operand.{Operand}
use Rattle.dis_isa.specs.declared.op.Op.{Op}
use Rattle.dis_isa.specs.declared.op.Op.TheVariants as op
use Rattle.dis_file.specs.declared.object.Object.{Object}
use Rattle.dis_file.specs.declared.types.TypeDesc.{TypeDesc}
use Rattle.limbo_values.specs.declared.number.Kind.{Kind}
use Rattle.limbo_values.specs.declared.number.Kind.TheVariants as kind
use Rattle.limbo_values.specs.declared.number.Kind.TheVariants.{Int}
use Rattle.limbo_values.specs.declared.raised.Raised.{Raised}
use Rattle.limbo_values.specs.Operators.{text_of}
use Rattle.limbo_values.specs.Texts.{index_in, bounds_in}
use Rattle.dis_meaning.specs.Words.{Word, Access, Found, Wrong, Raises, ◌>>=◌, type_check, dead_address, or_wrong, blank}
use Rattle.dis_meaning.specs.Process.{Process}
use Rattle.dis_meaning.specs.Places.{Own}
use Rattle.dis_memory.specs.Blocks as blocks
use Rattle.dis_memory.specs.Blocks.{Block, Record, Array, Part, World, blank_array, bytes_for, most_bytes, with_changed}
use Rattle.dis_memory.specs.Raising.{not_nil, unless_raised, nil_text, negative_text, large_text}
use Rattle.dis_memory.specs.Places.{memory, with_data, spot, source_of, given_of, source_reference, reference_at}
use Rattle.dis_memory.specs.Operands.{source_type, middle_type}
use Rattle.dis_memory.specs.Kinds.{Elements, elements_at, length_of}
use Rattle.dis_memory.specs.Copies.{taken, put, moved}
use Rattle.dis_memory.specs.Arrays as arrays
use Rattle.dis_memory.specs.Arrays.{new_array, are_alike, overwritten, copied, of_one_type, end_from, element_address, of_size, indexes, sliced}
use Rattle.dis_memory.specs.Process.{next}
use Rattle.dis_memory.specs.Results.{gives_plain_at}
use Rattle.dis_memory.specs.Step.{obey}
use Rattle.value_moves.specs.Operands.{inst, of_own}
use Rattle.value_moves.specs.Changing.{bytes_in}
use Rattle.value_moves.proofs.Obeying.{on}
use Rattle.block_effects.specs.Stored.{ReferenceThere, PlainThere, ReadsElements}
use Rattle.block_effects.specs.Arrays.{MakesRecord, MakesArray, index_of, element_of}
use Rattle.block_effects.specs.Arrays.{BlocksAreMade, ElementsAreIndexed, ArraysAreRead, ElementsAreCopied, ArraysComeAll}
use Rattle.block_effects.proofs.Giving.{stops, gone_well, raises, number_given, reference_at_is, reference_at_raised, block_at_is}
use Rattle.block_effects.proofs.Giving.{block_at_raised, block_given, block_raised, address_given, address_raised, old_reference}

module _ (limit : ℕ) (o : Object) (x : World) (p : Process) where
  -- ---- making

  makes_record : (f : Op) (i : Inst) → MakesRecord f → obey limit o x p i f ≡ arrays.new o x p i
  makes_record f i (inl e) = ap (obey limit o x p i) e
  makes_record f i (inr e) = ap (obey limit o x p i) e

  makes_array : (f : Op) (i : Inst) → MakesArray f → obey limit o x p i f ≡ arrays.newa o x p i
  makes_array f i (inl e) = ap (obey limit o x p i) e
  makes_array f i (inr e) = ap (obey limit o x p i) e

  if_so : (element : TypeDesc) (n : ℕ) (b : Bool) → nat_le (bytes_for element n) most_bytes ≡ b
      → new_array element (pos n) ≡ (if b then Found (blank_array element n) else Raises large_text)
  if_so element n b e = ap (λ (c : Bool). if c then Found (blank_array element n) else Raises large_text) e

  make : BlocksAreMade limit o x p
  make = record {
    new = λ f a b m desc d i e.
        makes_record f (inst f a m b) i ∙ on (source_type o a) desc _ e ∙ block_given x p b d _ (Record (blank desc)) refl;
    array = λ f a b m element n d i r e h.
        makes_array f (inst f a m b) i
        ∙ on (source_of Int x p a) (pos n) _ r
        ∙ on (middle_type o m) element _ e
        ∙ block_given x p b d _ (blank_array element n) (if_so element n true h);
    too_large = λ f a b m element n d i r e h.
        makes_array f (inst f a m b) i
        ∙ on (source_of Int x p a) (pos n) _ r
        ∙ on (middle_type o m) element _ e
        ∙ block_raised x p b d _ large_text (if_so element n false h);
    negative = λ f a b m element n d i r e.
        makes_array f (inst f a m b) i
        ∙ on (source_of Int x p a) (negsuc n) _ r
        ∙ on (middle_type o m) element _ e
        ∙ block_raised x p b d _ negative_text refl;
  }

  -- ---- indexing

  elements_read : (a : Operand) (es : Option Elements) → ReadsElements x p a es → (source_reference x p a >>= elements_at x) ≡ Found es
  elements_read a es r = on (source_reference x p a) r.0 (elements_at x) r.1 ∙ r.2

  module _ (f : Op) (a b : Operand) (n : ℕ) (kind : Option Elements → Access (Option Elements)) (es : Option Elements) (index : ℤ)
      (d : PlainThere x p n) (r : ReadsElements x p a es) (k : kind es ≡ Found es) (g : source_of Int x p b ≡ Found index) where
    indexes_at : indexes o x p (inst f a (of_own n) b) kind
        ≡ gives_plain_at x p (Own (pos n)) (not_nil es >>= λ e. element_address o x p (inst f a (of_own n) b) e index)
    indexes_at =
        on (source_reference x p a >>= elements_at x >>= kind) es _ (on (source_reference x p a >>= elements_at x) es kind (elements_read a es r) ∙ k)
        ∙ on (source_of Int x p b) index _ g

  address_is : (f : Op) (a b : Operand) (n : ℕ) (e : Elements) (index : ℤ) (k : ℕ) → index_in e.long index ≡ Ok k
      → element_address o x p (inst f a (of_own n) b) e index ≡ Found (element_of e k)
  address_is f a b n e index k h = on (unless_raised (index_in e.long index)) k _ (gone_well (index_in e.long index) k h)

  no_address : (f : Op) (a b : Operand) (n : ℕ) (e : Elements) (index : ℤ) (raised : Raised) → index_in e.long index ≡ Err raised
      → element_address o x p (inst f a (of_own n) b) e index ≡ Raises (text_of raised)
  no_address f a b n e index raised h =
      stops (unless_raised (index_in e.long index)) (text_of raised) _ (raises (index_in e.long index) raised h)

  abbrev any : Option Elements → Access (Option Elements)
  any es = Found es

  number_obeys : (k : Kind) (i : Inst) → obey limit o x p i (index_of k) ≡ indexes o x p i (of_size o x p i (bytes_in k))
  number_obeys kind.Byte i = refl
  number_obeys kind.Int i = refl
  number_obeys kind.Big i = refl

  is_sized : (k : Kind) (i : Inst) (e : Elements) → e.element.size ≡ bytes_in k → of_size o x p i (bytes_in k) (Some e) ≡ Found (Some e)
  is_sized kind.Byte i e f = ap (λ (m : ℕ). if m == 1 then Found (Some e) else Wrong type_check) f
  is_sized kind.Int i e f = ap (λ (m : ℕ). if m == 4 then Found (Some e) else Wrong type_check) f
  is_sized kind.Big i e f = ap (λ (m : ℕ). if m == 8 then Found (Some e) else Wrong type_check) f

  index : ElementsAreIndexed limit o x p
  index = record {
    found = λ a b n e index k d r g h.
        indexes_at op.Indx a b n any (Some e) index d r refl g
        ∙ address_given x p n d _ e.array (pos ((e.start + k) * e.element.size)) (address_is op.Indx a b n e index k h);
    no_index = λ a b n e index raised d r g h.
        indexes_at op.Indx a b n any (Some e) index d r refl g
        ∙ address_raised x p n d _ (text_of raised) (no_address op.Indx a b n e index raised h);
    of_nil = λ a b n index d r g.
        indexes_at op.Indx a b n any None index d r refl g ∙ address_raised x p n d _ nil_text refl;
    number = λ kind a b n e index k d r l g h.
        let f = index_of kind in
        let i = inst f a (of_own n) b in
        number_obeys kind i
        ∙ indexes_at f a b n (of_size o x p i (bytes_in kind)) (Some e) index d r (is_sized kind i e l) g
        ∙ address_given x p n d _ e.array (pos ((e.start + k) * e.element.size)) (address_is f a b n e index k h);
    no_number = λ kind a b n e index raised d r l g h.
        let f = index_of kind in
        let i = inst f a (of_own n) b in
        number_obeys kind i
        ∙ indexes_at f a b n (of_size o x p i (bytes_in kind)) (Some e) index d r (is_sized kind i e l) g
        ∙ address_raised x p n d _ (text_of raised) (no_address f a b n e index raised h);
    number_of_nil = λ kind a b n index d r g.
        let f = index_of kind in
        let i = inst f a (of_own n) b in
        number_obeys kind i
        ∙ indexes_at f a b n (of_size o x p i (bytes_in kind)) None index d r refl g
        ∙ address_raised x p n d _ nil_text refl;
  }

  -- ---- how many elements there are, and some of them

  module _ (a b : Operand) (m : Middle) (from to : ℤ) (es : Option Elements) (d : ReferenceThere x p b)
      (r : source_of Int x p a ≡ Found from) (g : given_of Int x p m ≡ Found to) (e : elements_at x d.old ≡ Found es) where
    slice_at : obey limit o x p (inst op.Slicea a m b) op.Slicea ≡ sliced o x p (inst op.Slicea a m b) d.leads.place es from to
    slice_at =
        on (source_of Int x p a) from _ r
        ∙ on (given_of Int x p m) to _ g
        ∙ on (spot x p b) d.leads.place _ d.leads.found
        ∙ on (reference_at x p d.leads.place >>= elements_at x) es (λ c. sliced o x p (inst op.Slicea a m b) d.leads.place c from to)
        (on (reference_at x p d.leads.place) d.old (elements_at x) (old_reference x p b d) ∙ e)

  slice_off : (i : Inst) (b : Operand) (from to : ℤ) (es : Option Elements) (raised : Raised) (d : ReferenceThere x p b)
      → bounds_in (length_of es) from to ≡ Err raised → sliced o x p i d.leads.place es from to ≡ Raises (text_of raised)
  slice_off i b from to None raised d h =
      reference_at_raised x p b d _ (text_of raised)
      (stops (unless_raised (bounds_in 0 from to)) (text_of raised) _ (raises (bounds_in 0 from to) raised h))
  slice_off i b from to (Some e) raised d h =
      block_at_raised x p b d _ (text_of raised)
      (stops (unless_raised (bounds_in e.long from to)) (text_of raised) _ (raises (bounds_in e.long from to) raised h))

  read : ArraysAreRead limit o x p
  read = record {
    long = λ a b m es others d r e.
        on (source_reference x p a >>= elements_at x) es _ (elements_read a es r)
        ∙ number_given x p Int b d _ (pos (length_of es)) others refl e;
    slice = λ a b m from to e bounds d r g f h.
        slice_at a b m from to (Some e) d r g f
        ∙ block_at_is x p b d _ (Part e.array (e.start + bounds.0) (bounds.1 - bounds.0))
        (on (unless_raised (bounds_in e.long from to)) bounds _ (gone_well (bounds_in e.long from to) bounds h));
    no_slice = λ a b m from to es raised d r g f h.
        slice_at a b m from to es d r g f ∙ slice_off (inst op.Slicea a m b) b from to es raised d h;
    slice_of_nil = λ a b m from to bounds d r g f h.
        slice_at a b m from to None d r g f
        ∙ reference_at_is x p b d _ None
        (on (unless_raised (bounds_in 0 from to)) bounds _ (gone_well (bounds_in 0 from to) bounds h));
  }

  -- ---- copying

  module _ (a b : Operand) (m : Middle) (index : ℤ) (s t : Option Elements) (r : ReadsElements x p a s) (g : given_of Int x p m ≡ Found index)
      (e : ReadsElements x p b t) (like : of_one_type s t ≡ Found t) where
    copy_at : obey limit o x p (inst op.Slicela a m b) op.Slicela
        ≡ (unless_raised (bounds_in (length_of t) index (end_from index (length_of s))) >>= λ bounds. copied x p s t bounds.0)
    copy_at =
        on (source_reference x p a >>= elements_at x) s _ (elements_read a s r)
        ∙ on (given_of Int x p m) index _ g
        ∙ on (source_reference x p b >>= elements_at x >>= of_one_type s) t
        (λ t. unless_raised (bounds_in (length_of t) index (end_from index (length_of s))) >>= λ bounds. copied x p s t bounds.0)
        (on (source_reference x p b >>= elements_at x) t (of_one_type s) (elements_read b t e) ∙ like)

    copy_is : (bounds : ℕ × ℕ) → bounds_in (length_of t) index (end_from index (length_of s)) ≡ Ok bounds
        → obey limit o x p (inst op.Slicela a m b) op.Slicela ≡ copied x p s t bounds.0
    copy_is bounds h =
        copy_at ∙ on (unless_raised (bounds_in (length_of t) index (end_from index (length_of s)))) bounds (λ bounds. copied x p s t bounds.0)
        (gone_well (bounds_in (length_of t) index (end_from index (length_of s))) bounds h)

    copy_off : (raised : Raised) → bounds_in (length_of t) index (end_from index (length_of s)) ≡ Err raised
        → obey limit o x p (inst op.Slicela a m b) op.Slicela ≡ Raises (text_of raised)
    copy_off raised h =
        copy_at ∙ stops (unless_raised (bounds_in (length_of t) index (end_from index (length_of s)))) (text_of raised) _
        (raises (bounds_in (length_of t) index (end_from index (length_of s))) raised h)

  like_some : (s t : Elements) → are_alike s.element t.element ≡ true → of_one_type (Some s) (Some t) ≡ Found (Some t)
  like_some s t h = ap (λ (c : Bool). if c then Found (Some t) else Wrong type_check) h

  nil_like : (t : Option Elements) → of_one_type None t ≡ Found t
  nil_like None = refl
  nil_like (Some t) = refl

  like_nil : (s : Option Elements) → of_one_type s None ≡ Found None
  like_nil None = refl
  like_nil (Some s) = refl

  copied_nil : (s : Option Elements) (n : ℕ) → copied x p s None n ≡ Found (next (memory x p))
  copied_nil None n = refl
  copied_nil (Some s) n = refl

  put_there : (s t : Elements) (n : ℕ) (element : TypeDesc) (long : ℕ) (old new : List Word) → overwritten s t n ≡ Found new
      → at x.heap t.array ≡ Some (Array element long old)
      → copied x p (Some s) (Some t) n ≡ Found (next (memory (with_changed x t.array (Array element long new)) p))
  put_there s t n element long old new e f =
      on (overwritten s t n) new (λ words. with_data x t.array words >>= λ y. Found (next (memory y p))) e
      ∙ ap (λ (c : Option Block). or_wrong dead_address c >>= (λ b. Found (with_changed x t.array (blocks.with_words new b))) >>= λ y.
      Found (next (memory y p))) f

  copy : ElementsAreCopied limit o x p
  copy = record {
    words = λ a b m index s t bounds element long old vs new r g e like h refer take give there.
        copy_is a b m index (Some s) (Some t) r g e (like_some s t like) bounds h
        ∙ put_there s t bounds.0 element long old new
        (ap (λ (c : Bool). if c
        then taken s.words (s.start * (s.element.size / 4)) (s.long * (s.element.size / 4)) >>=
        put t.words ((t.start + bounds.0) * (t.element.size / 4))
        else moved s.words (s.start * s.element.size) t.words ((t.start + bounds.0) * t.element.size) (s.long * s.element.size)) refer
        ∙ on (taken s.words (s.start * (s.element.size / 4)) (s.long * (s.element.size / 4))) vs
        (put t.words ((t.start + bounds.0) * (t.element.size / 4))) take ∙ give) there;
    bytes = λ a b m index s t bounds element long old new r g e like h refer give there.
        copy_is a b m index (Some s) (Some t) r g e (like_some s t like) bounds h
        ∙ put_there s t bounds.0 element long old new
        (ap (λ (c : Bool). if c
        then taken s.words (s.start * (s.element.size / 4)) (s.long * (s.element.size / 4)) >>=
        put t.words ((t.start + bounds.0) * (t.element.size / 4))
        else moved s.words (s.start * s.element.size) t.words ((t.start + bounds.0) * t.element.size) (s.long * s.element.size)) refer
        ∙ give) there;
    from_nil = λ a b m index t bounds r g e h. copy_is a b m index None t r g e (nil_like t) bounds h;
    into_nil = λ a b m index s bounds r g e h. copy_is a b m index s None r g e (like_nil s) bounds h ∙ copied_nil s bounds.0;
    outside = λ a b m index s t raised r g e like h. copy_off a b m index (Some s) (Some t) r g e (like_some s t like) raised h;
    outside_from_nil = λ a b m index t raised r g e h. copy_off a b m index None t r g e (nil_like t) raised h;
    outside_nil = λ a b m index s raised r g e h. copy_off a b m index s None r g e (like_nil s) raised h;
  }

pub arrays_come : ArraysComeAll
arrays_come limit o x p = record { make = make limit o x p; index = index limit o x p; read = read limit o x p; copy = copy limit o x p }
