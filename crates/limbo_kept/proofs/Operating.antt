-- What each operation leaves.
use Rattle.std.proofs.Common.{◌≡◌, ℕ, ℤ, zero, suc, pos, ◌<◌, inl, inr, Bool, true, false, List, [], ◌∷◌, ◌++◌, length, Option, Some}
use Rattle.std.proofs.Common.{None, Ok, Err, refl, sym, ap, subst, ◌∙◌, arith, map, replicate}
use Rattle.std.proofs.lemmas.Int.{ints}
use Rattle.std.specs.Prelude.{slice_get, slice_range, encode_utf8_all, unsigned_abs, if◌then◌else◌, nat_lt, Result}
use Rattle.inf_text.specs.Steps.{◌>>=◌}
use Rattle.heap_model.specs.Heap.{Heap, at}
use Rattle.limbo_types.specs.Types as ty
use Rattle.limbo_types.specs.Types.{Ty, Tys}
use Rattle.limbo_layout.specs.Adts as adts
use Rattle.limbo_layout.specs.Adts.{Def, Variant, parts, tag, types_of, variant_types}
use Rattle.limbo_values.specs.declared.raised.Raised.{Raised}
use Rattle.limbo_values.specs.declared.number.Kind.{Kind}
use Rattle.limbo_values.specs.declared.number.Kind.TheVariants as kind
use Rattle.limbo_values.specs.Numbers.{InRange}
use Rattle.limbo_values.specs.Operators.{applied}
use Rattle.limbo_values.specs.Conversions.{number_text}
use Rattle.limbo_values.specs.Texts.{bounds_in, character_in, slice_in, joined, joined_count, longest}
use Rattle.limbo_typed.specs.declared.operation.Operation.{Operation}
use Rattle.limbo_typed.specs.declared.operation.Operation.TheVariants as operation
use Rattle.limbo_typed.specs.declared.operation.Sequence.{Sequence}
use Rattle.limbo_typed.specs.declared.operation.Sequence.TheVariants as sequence
use Rattle.limbo_typed.specs.Fitting as fits
use Rattle.limbo_typed.specs.Fitting.{Gives, Stands, AllStand, IsRefOf, PutsBefore, MakesRef, MakesAdt, IsSequence, IsSliced, of_kind}
use Rattle.limbo_meaning.specs.Values.{Part, Value, Num, Chars, Ref, Array, Parts, row, number_of, text_of, name_of, part_of, parts_of}
use Rattle.limbo_meaning.specs.Values.{first_in, array_named, fitted, zero_of}
use Rattle.limbo_meaning.specs.Memory.{HeapValue, Elements, Cell, Record, Memory, next_name, made, head_in, tail_in, record_in}
use Rattle.limbo_meaning.specs.Exceptions.{Raising, with_text, too_long}
use Rattle.limbo_meaning.specs.Bytes.{string_of, bytes_of}
use Rattle.limbo_meaning.specs.Places.{operand, target_of, not_longer}
use Rattle.limbo_meaning.specs.Operations.{Outcome, item_of, result_of, new_elements, new_array, length_for, elements_of}
use Rattle.limbo_meaning.specs.Operations.{long_of, sliced, from_bound, to_bound, slice_of, adt_parts}
use Rattle.limbo_meaning.specs.Operations.{whole, gives, gives_string}
use Rattle.limbo_kept.specs.Values.{Standing, Items, Cells, Adts, Store, AreCharacters, Refers, IsOf, is_alone}
use Rattle.limbo_kept.specs.Values.{Fits, AllFit, EachIsOf}
use Rattle.limbo_kept.specs.Stores.{Contains, MemoryIsOf}
use Rattle.limbo_kept.specs.Operating.{HasRoom, IsLeft, OperationsKeepTypes}
use Rattle.limbo_kept.proofs.Fitted.{stands_fits, all_stand_fit, zero_fits, is_fit, number_fits, text_fits, text_in}
use Rattle.limbo_kept.proofs.Fitted.{reference_fits, named_by, part_fits, part_named, tuple_made, RefersTo}
use Rattle.limbo_kept.proofs.Texts as texts
use Rattle.limbo_kept.proofs.Texts.{AreBytes}
use Rattle.limbo_kept.proofs.Making.{adt_of_fields}
use Rattle.limbo_kept.proofs.Heaps.{more_says, last_says, at_more, contains_at, contains_later, memory_made}

-- What is there unless something is raised instead.
abbrev pub Unless : {A : Type 0} → (A → Type 0) → Raising A → Type 0
Unless P (Ok x) = P x
Unless P (Err text) = Unit {0}

pub unless_behind : {A B : Type 0} (P : A → Type 0) (Q : B → Type 0) (r : Raising A) (f : A → Raising B) → Unless P r
    → ((x : A) → P x → Unless Q (f x)) → Unless Q (r >>= f)
unless_behind P Q (Ok x) f p k = k x p
unless_behind P Q (Err text) f p k = tt

any_behind : {A B : Type 0} (Q : B → Type 0) (r : Raising A) (f : A → Raising B) → ((x : A) → Unless Q (f x)) → Unless Q (r >>= f)
any_behind Q (Ok x) f k = k x
any_behind Q (Err text) f k = tt

-- ---- texts

sliced_text : (s : List ℕ) (b : Result (ℕ × ℕ) Raised) → AreCharacters s
    → Unless AreCharacters (with_text (b >>= λ bounds. Ok (slice_range s bounds.0 bounds.1)))
sliced_text s (Ok b) a = texts.ranged s b.0 b.1 a
sliced_text s (Err r) a = tt

joined_text : (s t : List ℕ) (n : Result ℕ Raised) → AreCharacters s → AreCharacters t
    → Unless AreCharacters (with_text (n >>= λ _. Ok (s ++ t)))
joined_text s t (Ok n) a b = texts.front_and_behind s t a b
joined_text s t (Err r) a b = tt

pub short_text : (s : List ℕ) → AreCharacters s → Unless AreCharacters (not_longer s)
short_text s a = go (nat_lt longest (length s))
  where
    go : (b : Bool) → Unless AreCharacters (if b then Err too_long else Ok s)
    go true = tt
    go false = a

byte_is : (n : ℕ) → n < 256 → InRange kind.Byte (pos n)
byte_is n l = record { above = omega (arith, ints); below = omega (arith, ints) }

module _ (defs : List Def) (store : Store) where
  pub each_byte : (bs : List ℕ) → AreBytes bs → EachIsOf defs store ty.Byte (map (λ b. Num (pos b)) bs)
  each_byte [] a = tt
  each_byte (b ∷ bs) a = (is_alone ty.Byte (Num (pos b)) (byte_is b a.0), each_byte bs a.1)

  each_same : (t : Ty) (n : ℕ) (v : Value) → IsOf defs store t v → EachIsOf defs store t (replicate n v)
  each_same t zero v i = tt
  each_same t (suc n) v i = (i, each_same t n v i)

  -- an operand fits its type
  pub operand_fits : (us : List Ty) (vs : List Value) (n : ℕ) (u : Ty) → AllFit defs store us vs → slice_get us n ≡ Some u
      → Fits defs store u (operand n vs)
  operand_fits [] vs n u f e = absurd cc
  operand_fits (t ∷ us) [] n u f e = absurd f
  operand_fits (t ∷ us) (v ∷ vs) zero u f e = let same : t ≡ u = cc in subst (λ (x : Ty). Fits defs store x v) same f.0
  operand_fits (t ∷ us) (v ∷ vs) (suc n) u f e = operand_fits us vs n u f.1 e

there_below : (h : Heap HeapValue) (n : ℕ) (u : HeapValue) → at h n ≡ Some u → n < length h
there_below [] n u e = absurd cc
there_below (o ∷ h) zero u e = omega arith
there_below (o ∷ h) (suc n) u e = let l = there_below h n u e in omega arith

-- ---- types by what is said of them

text_type : (t : Ty) → IsSequence sequence.Chars t → t ≡ ty.Chars
text_type ty.Chars s = refl
text_type _ s = absurd s

array_type : (t : Ty) → IsSequence sequence.Array t → t ≡ ty.ArrayOf (item_of t)
array_type (ty.ArrayOf t) s = refl
array_type _ s = absurd s

ref_type : (n : ℕ) (t : Ty) → IsRefOf n t → (item_of t ≡ ty.Adt n) × Unit {0}
ref_type n (ty.RefAdt k) e = (ap ty.Adt e, tt)
ref_type n (ty.RefPick k v) e = (ap ty.Adt e, tt)
ref_type n _ e = absurd e

refers_type : (n : ℕ) (t : Ty) → IsRefOf n t → RefersTo [] [] t (Adts n)
refers_type n (ty.RefAdt k) e = ap Adts (sym e)
refers_type n (ty.RefPick k v) e = ap Adts (sym e)
refers_type n _ e = absurd e

list_type : (t : Ty) → fits.IsList t → t ≡ ty.ListOf (item_of t)
list_type (ty.ListOf t) s = refl
list_type _ s = absurd s

module _ (defs : List Def) (globals : List Ty) (store : Store) (types : List Ty) (m : Memory) (mem : MemoryIsOf defs globals store types m)
    (t : Ty) (room : HasRoom defs t) (item : HasRoom defs (item_of t)) where
  abbrev Left : Raising Outcome → Type 0
  Left r = Unless (IsLeft defs globals store types t) r

  -- the memory stays
  stays : (v : Value) → Fits defs store t v → Left (gives defs m v)
  stays v f = record {
    later = store;
    grows = λ n s e. e;
    memory = mem;
    value = f;
    news = λ n u l e. let b = there_below m.heap n u e in let long = mem.heap.long in absurd (omega arith);
  }

  -- one value more
  adds : (s : Standing) (u : HeapValue) (v : Value) → Contains defs globals store s u → Fits defs (store ++ s ∷ []) t v
      → Left (Ok (record { memory = made m u; value = v }))
  adds s u v c f = record {
    later = store ++ s ∷ [];
    grows = more_says store s;
    memory =
        memory_made defs globals store types m mem s u
        (contains_later defs globals store (store ++ s ∷ []) (more_says store s) s u c);
    value = f;
    news = λ n w l e. elim (at_more m.heap u n w e) [
      | inl f ↦ let b = there_below m.heap n w f in let long = mem.heap.long in absurd (omega arith)
      | inr f ↦ (s, subst (λ (x : HeapValue). Contains defs globals store s x) f.1 c)
    ];
  }

  new_there : (s : Standing) → Refers (store ++ s ∷ []) s (Some (next_name m))
  new_there s = last_says store s (next_name m) mem.heap.long

  number : (r : Raising ℤ) (k : Kind) → t ≡ of_kind k → Left (r >>= λ z. gives defs m (Num z))
  number r k e = any_behind (IsLeft defs globals store types t) r (λ z. gives defs m (Num z))
      (λ z. stays (Num z) (number_fits defs store t k (Num z) e))

  string : (r : Raising (List ℕ)) → t ≡ ty.Chars → Unless AreCharacters r → Left (gives_string defs m r)
  string r e a = unless_behind AreCharacters (IsLeft defs globals store types t) r (λ s. gives defs m (Chars s)) a
      (λ s c. stays (Chars s) (subst (λ (x : Ty). Fits defs store x (Chars s)) (sym e) (text_fits defs store s c)))

  text_operand : (us : List Ty) (vs : List Value) (n : ℕ) → AllFit defs store us vs → slice_get us n ≡ Some ty.Chars
      → AreCharacters (text_of (operand n vs))
  text_operand us vs n f e = text_in defs store (operand n vs) (operand_fits defs store us vs n ty.Chars f e)

  -- what is inside a value of the heap that a reference names
  inner : (s : Standing) (f : Option HeapValue → Value) (r : Option ℕ) → Refers store s r → Fits defs store t (f None)
      → ((u : HeapValue) → Contains defs globals store s u → Fits defs store t (f (Some u)))
      → Left (target_of r >>= λ n. gives defs m (f (at m.heap n)))
  inner s f None a z k = tt
  inner s f (Some n) a z k = go (at m.heap n) refl
    where
      go : (o : Option HeapValue) → at m.heap n ≡ o → Left (gives defs m (f o))
      go None e = stays (f None) z
      go (Some u) e = stays (f (Some u)) (k u (contains_at defs globals store m.heap n s u mem.heap a e))

  -- ---- arrays

  array_fits : (i : Ty) (l : ℕ) → t ≡ ty.ArrayOf i → Fits defs (store ++ Items i ∷ []) t (whole (next_name m) l)
  array_fits i l e =
      subst (λ (x : Ty). Fits defs (store ++ Items i ∷ []) x (whole (next_name m) l)) (sym e)
      (part_fits defs (store ++ Items i ∷ []) i (whole (next_name m) l) (new_there (Items i)))

  pub new_array_left : (item' : Ty) (n : ℤ) → t ≡ ty.ArrayOf item' → HasRoom defs item' → Left (new_array defs m item' n)
  new_array_left i n e r = any_behind (IsLeft defs globals store types t) (length_for defs i n)
      (λ l. Ok (new_elements m (replicate l (zero_of defs i))))
      (λ l. adds (Items i) (Elements (replicate l (zero_of defs i))) (whole (next_name m) (length (replicate l (zero_of defs i))))
      (each_same defs store i l (zero_of defs i) (zero_fits defs store i r))
      (array_fits i (length (replicate l (zero_of defs i))) e))

  sliced_refers : (i : Ty) (p : Option Part) (b : ℕ × ℕ) → Refers store (Items i) (array_named p)
      → Refers store (Items i) (array_named (sliced p b))
  sliced_refers i None b a = tt
  sliced_refers i (Some p) b a = a

  slice_left : (q : Sequence) (f g : Bool) (vs : List Value) → IsSliced q t → Fits defs store t (operand 0 vs)
      → Left (slice_of defs m q f g vs)
  slice_left sequence.Chars f g vs s h =
      let e = text_type t s in
      let text = text_of (operand 0 vs) in
      string (with_text (slice_in text (from_bound f vs) (to_bound f g (length text) vs))) e
      (sliced_text text (bounds_in (length text) (from_bound f vs) (to_bound f g (length text) vs))
      (text_in defs store (operand 0 vs) (subst (λ (x : Ty). Fits defs store x (operand 0 vs)) e h)))
  slice_left sequence.Array f g vs s h =
      let e = array_type t s in
      let part = part_of (operand 0 vs) in
      let a = part_named defs store (item_of t) (operand 0 vs) (subst (λ (x : Ty). Fits defs store x (operand 0 vs)) e h) in
      any_behind (IsLeft defs globals store types t) (with_text
      (bounds_in (long_of part) (from_bound f vs) (to_bound f g (long_of part) vs)))
      (λ b. gives defs m (Array (sliced part b)))
      (λ b. stays (Array (sliced part b)) (subst (λ (x : Ty). Fits defs store x (Array (sliced part b))) (sym e)
      (part_fits defs store (item_of t) (Array (sliced part b)) (sliced_refers (item_of t) part b a))))
  slice_left sequence.List f g vs s h = absurd s

  -- ---- lists and references

  cons_left : (us : List Ty) (vs : List Value) → PutsBefore us t → AllFit defs store us vs → Left (result_of defs m t operation.Cons vs)
  cons_left (a ∷ u ∷ []) vs g f =
      let later = store ++ Cells g.0 ∷ [] in
      let list : Fits defs store (ty.ListOf g.0) (operand 1 vs) =
      subst (λ (x : Ty). Fits defs store x (operand 1 vs)) g.2 (operand_fits defs store (a ∷ u ∷ []) vs 1 u f refl) in
      let first : Fits defs store g.0 (operand 0 vs) =
      stands_fits defs store a g.0 (operand 0 vs) g.1 (operand_fits defs store (a ∷ u ∷ []) vs 0 a f refl) in
      let same : g.0 ≡ item_of t = sym (ap item_of g.3) in
      adds (Cells g.0) (Cell (fitted defs (item_of t) (operand 0 vs)) (name_of (operand 1 vs))) (Ref (Some (next_name m))) (
        subst (λ (x : Ty). IsOf defs store g.0 (fitted defs x (operand 0 vs))) same first,
        named_by defs store (ty.ListOf g.0) (Cells g.0) (operand 1 vs) refl list,
      )
      (subst (λ (x : Ty). Fits defs later x (Ref (Some (next_name m)))) (sym g.3)
      (reference_fits defs later (ty.ListOf g.0) (Cells g.0) (Ref (Some (next_name m))) refl (new_there (Cells g.0))))
  cons_left _ vs g f = absurd g

  ref_left : (us : List Ty) (vs : List Value) → MakesRef us t → AllFit defs store us vs → Left (result_of defs m t operation.Ref vs)
  ref_left (ty.Adt n ∷ []) vs g f =
      let later = store ++ Adts n ∷ [] in
      let is = ref_type n t g in
      adds (Adts n) (Record (fitted defs (item_of t) (operand 0 vs))) (Ref (Some (next_name m)))
      (subst (λ (x : Ty). IsOf defs store (ty.Adt n) (fitted defs x (operand 0 vs))) (sym is.0)
      (operand_fits defs store (ty.Adt n ∷ []) vs 0 (ty.Adt n) f refl))
      (reference_fits defs later t (Adts n) (Ref (Some (next_name m))) (refers_type n t g) (new_there (Adts n)))
  ref_left _ vs g f = absurd g

  head_fits : (u : HeapValue) → Contains defs globals store (Cells t) u → Fits defs store t (head_in (Some u))
  head_fits (Cell v r) c = is_fit defs store t v room c.0
  head_fits _ c = absurd c

  -- ---- adts

  adt_left : (n : ℕ) (v : Option ℕ) (us : List Ty) (vs : List Value) → MakesAdt defs n v us t → AllFit defs store us vs
      → Left (result_of defs m t (operation.Adt n v) vs)
  adt_left n v us vs g f =
      let r = subst (HasRoom defs) g.result room in
      stays (Parts (row (adt_parts (slice_get defs n) v vs)))
      (subst (λ (x : Ty). Fits defs store x (Parts (row (adt_parts (slice_get defs n) v vs)))) (sym g.result)
      (adt_of_fields defs store n g.def v us vs r g.there g.fields f))

  -- ---- what is an int

  as_int : (v : Value) → t ≡ ty.Int → Fits defs store t v
  as_int v e = number_fits defs store t kind.Int v e

  compares : (us : List Ty) → fits.ComparesTwo us t → (v : Value) → Fits defs store t v
  compares (a ∷ b ∷ []) g v = as_int v g.2
  compares _ g v = absurd g

  lengths : (q : Sequence) (us : List Ty) → fits.TakesLength q us t → (v : Value) → Fits defs store t v
  lengths q (a ∷ []) g v = as_int v g.1
  lengths q _ g v = absurd g

  tag_left : (us : List Ty) (vs : List Value) → fits.TakesTag defs us t → AllFit defs store us vs → Left
      (result_of defs m t operation.Tag vs)
  tag_left (a ∷ []) vs g f =
      any_behind (IsLeft defs globals store types t) (target_of (name_of (operand 0 vs)))
      (λ n. gives defs m (first_in (parts_of (record_in (at m.heap n))))) (λ n. stays _ (as_int _ g.3))
  tag_left _ vs g f = absurd g

  tail_fits : t ≡ ty.ListOf (item_of t) → (r : Option ℕ) → Refers store (Cells (item_of t)) r → Fits defs store t (Ref r)
  tail_fits e r a =
      subst (λ (x : Ty). Fits defs store x (Ref r)) (sym e)
      (reference_fits defs store (ty.ListOf (item_of t)) (Cells (item_of t)) (Ref r) refl a)

  tail_of : (u : HeapValue) → Contains defs globals store (Cells (item_of t)) u → Refers store (Cells (item_of t)) (tail_in (Some u))
  tail_of (Cell v r) c = c.1
  tail_of _ c = absurd c

  pub left : (o : Operation) (us : List Ty) (vs : List Value) → Gives defs o us t → AllFit defs store us vs → Left (result_of defs m t o vs)
  left (operation.Arithmetic o k) us vs g f = number (with_text (applied k o (number_of (operand 0 vs)) (number_of (operand 1 vs)))) k g.1
  left (operation.Shift h k) us vs g f = stays (Num _) (number_fits defs store t k (Num _) g.1)
  left (operation.Alter u k) us vs g f = stays (Num _) (number_fits defs store t k (Num _) g.1)
  left (operation.Compare c k) us vs g f = stays (Num _) (number_fits defs store t kind.Int (Num _) g.1)
  left (operation.CompareChars c) us vs g f = stays (Num _) (number_fits defs store t kind.Int (Num _) g.1)
  left operation.Identical us vs g f = stays (Num _) (compares us g (Num _))
  left operation.Distinct us vs g f = stays (Num _) (compares us g (Num _))
  left operation.Not us vs g f = stays (Num _) (number_fits defs store t kind.Int (Num _) g.1)
  left (operation.Convert from to) us vs g f = stays (Num _) (number_fits defs store t to (Num _) g.1)
  left (operation.ReadNumber k) us vs g f = stays (Num _) (number_fits defs store t k (Num _) g.1)
  left (operation.NumberText k) us vs g f = stays (Chars (number_text (number_of (operand 0 vs))))
      (subst (λ (x : Ty). Fits defs store x (Chars (number_text (number_of (operand 0 vs))))) (sym g.1)
      (text_fits defs store (number_text (number_of (operand 0 vs))) (texts.decimal_is (number_of (operand 0 vs)))))
  left operation.BytesText us vs g f =
      let s = string_of (elements_of m (part_of (operand 0 vs))) in
      string (not_longer s) g.1 (short_text s (texts.read_are 0
      (map (λ v. unsigned_abs (number_of v)) (elements_of m (part_of (operand 0 vs))))))
  left operation.TextBytes us vs g f =
      let s = text_of (operand 0 vs) in
      let a = text_operand us vs 0 f (ap (λ (ts : List Ty). slice_get ts 0) g.0) in
      adds (Items ty.Byte) (Elements (bytes_of s)) (whole (next_name m) (length (bytes_of s)))
      (each_byte defs store (encode_utf8_all s) (texts.spelled_are s a))
      (array_fits ty.Byte (length (bytes_of s)) g.1)
  left operation.Join us vs g f =
      let s = text_of (operand 0 vs) in
      let u = text_of (operand 1 vs) in
      string (with_text (joined s u)) g.1 (joined_text s u (joined_count (length s) (length u))
      (text_operand us vs 0 f (ap (λ (ts : List Ty). slice_get ts 0) g.0))
      (text_operand us vs 1 f (ap (λ (ts : List Ty). slice_get ts 1) g.0)))
  left operation.Cons us vs g f = cons_left us vs g f
  left operation.Head us vs g f =
      let v = operand 0 vs in
      let h = operand_fits defs store us vs 0 (ty.ListOf t) f (ap (λ (ts : List Ty). slice_get ts 0) g) in
      inner (Cells t) head_in (name_of v) (named_by defs store (ty.ListOf t) (Cells t) v refl h) (zero_fits defs store t room) head_fits
  left operation.Tail us vs g f =
      let v = operand 0 vs in
      let e = list_type t g.0 in
      let h = subst (λ (x : Ty). Fits defs store x v) e
      (operand_fits defs store us vs 0 t f (ap (λ (ts : List Ty). slice_get ts 0) g.1)) in
      inner (Cells (item_of t)) (λ x. Ref (tail_in x)) (name_of v)
      (named_by defs store (ty.ListOf (item_of t)) (Cells (item_of t)) v refl h)
      (tail_fits e None tt) (λ u c. tail_fits e (tail_in (Some u)) (tail_of u c))
  left (operation.Length q) us vs g f = stays (Num _) (lengths q us g (Num _))
  left operation.Tag us vs g f = tag_left us vs g f
  left operation.Ref us vs g f = ref_left us vs g f
  left operation.Tuple us vs g f = stays (Parts (row vs))
      (subst (λ (x : Ty). Fits defs store x (Parts (row vs))) (sym g.1)
      (tuple_made defs store g.0 vs (all_stand_fit defs store us (adts.listed g.0) vs g.2 f)))
  left (operation.Adt n v) us vs g f = adt_left n v us vs g f
  left operation.List us vs g f = stays (Ref None)
      (subst (λ (x : Ty). Fits defs store x (Ref None)) (sym g.1)
      (reference_fits defs store (ty.ListOf g.0) (Cells g.0) (Ref None) refl tt))
  left operation.NewArray us vs g f = new_array_left (item_of t) (number_of (operand 0 vs))
      (g.1 ∙ ap (λ (x : Ty). ty.ArrayOf (item_of x)) (sym g.1)) item
  left (operation.Slice q b c) us vs g f =
      slice_left q b c vs g.0 (operand_fits defs store us vs 0 t f (ap (λ (ts : List Ty). slice_get ts 0) g.1))
  left operation.Character us vs g f = number (with_text (character_in (text_of (operand 0 vs)) (number_of (operand 1 vs)))) kind.Int g.1

-- From typed operands an operation leaves a value of its type.
pub operations_keep_types : OperationsKeepTypes
operations_keep_types defs globals store types m mem o us t vs room item g f r e =
    subst (Unless (IsLeft defs globals store types t)) e (left defs globals store types m mem t room item o us vs g f)
