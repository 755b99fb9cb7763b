-- What is read and written at places.
use Rattle.std.proofs.Common.{◌≡◌, ℕ, ℤ, zero, suc, ◌+◌, Bool, true, false, List, [], ◌∷◌, ◌++◌, length, Option, Some, None, Ok, Err}
use Rattle.std.proofs.Common.{refl, sym, ap, subst, ◌∙◌}
use Rattle.std.specs.Prelude.{slice_get, slice_set, slice_index_or, if◌then◌else◌, ◌==◌, Result}
use Rattle.inf_text.specs.Steps.{◌>>=◌}
use Rattle.heap_model.specs.Heap.{at}
use Rattle.limbo_types.specs.Types as ty
use Rattle.limbo_types.specs.Types.{Ty}
use Rattle.limbo_layout.specs.Adts as adts
use Rattle.limbo_layout.specs.Adts.{Def, parts}
use Rattle.limbo_typed.specs.Fitting.{HasPart}
use Rattle.limbo_values.specs.Texts.{index_in, character_in}
use Rattle.limbo_values.specs.declared.raised.Raised.{Raised}
use Rattle.system_model.specs.Verbs.{character}
use Rattle.limbo_meaning.specs.Values.{Part, Value, Num, Chars, Parts, Values, MoreValues, nothing, row, parts_of, number_of, text_of}
use Rattle.limbo_meaning.specs.Values.{name_of, part_of, array_named, fitted}
use Rattle.limbo_meaning.specs.Memory.{HeapValue, Elements, Record, Instance, Memory, elements_in, record_in, variables_in, globals_of}
use Rattle.limbo_meaning.specs.Memory.{with_heap, changed}
use Rattle.limbo_meaning.specs.Exceptions.{Raising, with_text}
use Rattle.limbo_meaning.specs.Places.{Root, Local, Global, Element, Target, Place, operand, value_part, part_at, put_part, with_part}
use Rattle.limbo_meaning.specs.Places.{element_of, target_of, put_character, not_longer, with_character, element_value, root_value}
use Rattle.limbo_meaning.specs.Places.{element_put}
use Rattle.limbo_meaning.specs.Places.{root_put, index_of, character_at, part_read, read, new_part, stored_at, written}
use Rattle.limbo_kept.specs.Values.{Standing, Items, Adts, Instances, Store, AreCharacters, Refers, IsOf, is_alone, of_tuple, of_adt}
use Rattle.limbo_kept.specs.Values.{AllAreOf}
use Rattle.limbo_kept.specs.Values.{none_of, more_of, Fits, EachIsOf}
use Rattle.limbo_kept.specs.Stores.{Contains, MemoryIsOf}
use Rattle.limbo_kept.specs.Operating.{HasRoom}
use Rattle.limbo_kept.specs.Places.{Leads, Ends, Begins, PlaceIs, PlacesKeepTypes}
use Rattle.limbo_kept.proofs.Fitted.{text_kept, inside, zero_fits, is_fit, int_fits, part_named, taken_fits, room_of_part}
use Rattle.limbo_kept.proofs.Texts as texts
use Rattle.limbo_kept.proofs.Heaps.{contains_at, memory_changed, memory_written}
use Rattle.limbo_kept.proofs.Operating.{Unless, unless_behind, short_text}

unless_given : {B : Type 0} (A : Type 0) (P : B → Type 0) (r : Raising B) → (A → Unless P r) → Unless (λ u. A → P u) r
unless_given A P (Ok x) k = k
unless_given A P (Err text) k = tt

-- ---- rows

value_part_row : (n : ℕ) (vs : List Value) → value_part n (row vs) ≡ slice_index_or vs n nothing
value_part_row zero [] = refl
value_part_row zero (v ∷ vs) = refl
value_part_row (suc n) [] = value_part_row n []
value_part_row (suc n) (v ∷ vs) = value_part_row n vs

put_part_row : (n : ℕ) (v : Value) (vs : List Value) → put_part n v (row vs) ≡ row (slice_set vs n v)
put_part_row n v [] = refl
put_part_row zero v (u ∷ vs) = refl
put_part_row (suc n) v (u ∷ vs) = ap (λ (us : Values). MoreValues u us) (put_part_row n v vs)

module _ (defs : List Def) (store : Store) where
  -- the value of a type that stands among others, and one in its place
  pub one_of : (ts : List Ty) (vs : List Value) (n : ℕ) (t : Ty) → AllAreOf defs store ts vs → slice_get ts n ≡ Some t
      → IsOf defs store t (slice_index_or vs n nothing)
  one_of ts vs n t none_of e = absurd cc
  one_of ts vs zero t (more_of u us v ws a b) e = let same : u ≡ t = cc in subst (λ (x : Ty). IsOf defs store x v) same a
  one_of ts vs (suc n) t (more_of u us v ws a b) e = one_of us ws n t b e

  pub one_set : (ts : List Ty) (vs : List Value) (n : ℕ) (t : Ty) (w : Value) → AllAreOf defs store ts vs → slice_get ts n ≡ Some t
      → IsOf defs store t w → AllAreOf defs store ts (slice_set vs n w)
  one_set ts vs n t w none_of e i = none_of
  one_set ts vs zero t w (more_of u us v ws a b) e i =
      let same : t ≡ u = cc in more_of u us w ws (subst (λ (x : Ty). IsOf defs store x w) same i) b
  one_set ts vs (suc n) t w (more_of u us v ws a b) e i = more_of u us v (slice_set ws n w) a (one_set us ws n t w b e i)

  -- ---- parts

  pub part_fits_at : (ns : List ℕ) (t u : Ty) (v : Value) → HasRoom defs t → Leads defs t ns u → Fits defs store t v
      → Fits defs store u (part_at ns v)
  part_fits_at [] t u v r l f = subst (λ (x : Ty). Fits defs store x v) l f
  part_fits_at (n ∷ ns) t u v r l f =
      part_fits_at ns l.0 u (value_part n (parts_of v)) (room_of_part defs store t n l.0 r l.1) l.2
      (taken_fits defs store t n l.0 v r l.1 f)

  -- a part that is there is of its type
  taken_is : (t : Ty) (n : ℕ) (s : Ty) (v : Value) → HasPart defs t n s → IsOf defs store t v → IsOf defs store s
      (value_part n (parts_of v))
  taken_is (ty.Tuple ts) n s v h i =
      let p = inside defs store (ty.Tuple ts) v i in
      subst (IsOf defs store s) (sym (ap (λ (x : Value). value_part n (parts_of x)) p.1 ∙ value_part_row n p.0))
      (one_of (adts.listed ts) p.0 n s p.2 h)
  taken_is (ty.Adt k) n s v h i =
      let p = inside defs store (ty.Adt k) v i in
      let same : p.0 ≡ h.0 = let f : slice_get defs k ≡ Some p.0 = p.2 in let g : slice_get defs k ≡ Some h.0 = h.1 in cc in
      subst (IsOf defs store s) (sym (ap (λ (x : Value). value_part n (parts_of x)) p.3 ∙ value_part_row n p.1))
      (one_of (parts h.0) p.1 n s (subst (λ (x : Def). AllAreOf defs store (parts x) p.1) same p.4) h.2)
  taken_is _ n s v h i = absurd h

  placed_is : (t : Ty) (n : ℕ) (s : Ty) (v w : Value) → HasPart defs t n s → IsOf defs store t v → IsOf defs store s w
      → IsOf defs store t (Parts (put_part n w (parts_of v)))
  placed_is (ty.Tuple ts) n s v w h i j =
      let p = inside defs store (ty.Tuple ts) v i in
      of_tuple ts (Parts (put_part n w (parts_of v))) (slice_set p.0 n w)
      (ap (λ (x : Value). Parts (put_part n w (parts_of x))) p.1 ∙ ap Parts (put_part_row n w p.0))
      (one_set (adts.listed ts) p.0 n s w p.2 h j)
  placed_is (ty.Adt k) n s v w h i j =
      let p = inside defs store (ty.Adt k) v i in
      let same : p.0 ≡ h.0 = let f : slice_get defs k ≡ Some p.0 = p.2 in let g : slice_get defs k ≡ Some h.0 = h.1 in cc in
      of_adt k h.0 (Parts (put_part n w (parts_of v))) (slice_set p.1 n w) h.1
      (ap (λ (x : Value). Parts (put_part n w (parts_of x))) p.3 ∙ ap Parts (put_part_row n w p.1))
      (one_set (parts h.0) p.1 n s w (subst (λ (x : Def). AllAreOf defs store (parts x) p.1) same p.4) h.2 j)
  placed_is _ n s v w h i j = absurd h

  part_is_at : (ns : List ℕ) (t u : Ty) (v : Value) → Leads defs t ns u → IsOf defs store t v → IsOf defs store u (part_at ns v)
  part_is_at [] t u v l i = subst (λ (x : Ty). IsOf defs store x v) l i
  part_is_at (n ∷ ns) t u v l i = part_is_at ns l.0 u (value_part n (parts_of v)) l.2 (taken_is t n l.0 v l.1 i)

  with_is : (ns : List ℕ) (t u : Ty) (v old : Value) → Leads defs t ns u → IsOf defs store t old → IsOf defs store u v
      → IsOf defs store t (with_part ns v old)
  with_is [] t u v old l i j = subst (λ (x : Ty). IsOf defs store x v) (sym l) j
  with_is (n ∷ ns) t u v old l i j =
      placed_is t n l.0 old (with_part ns v (value_part n (parts_of old))) l.1 i
      (with_is ns l.0 u v (value_part n (parts_of old)) l.2 (taken_is t n l.0 old l.1 i) j)

  -- an element in place of another; where there is none nothing changes
  each_set : (t : Ty) (vs : List Value) (i : ℕ) (w : Value) → EachIsOf defs store t vs
      → (IsOf defs store t (slice_index_or vs i nothing) → IsOf defs store t w) → EachIsOf defs store t (slice_set vs i w)
  each_set t [] i w a k = tt
  each_set t (v ∷ vs) zero w a k = (k a.0, a.1)
  each_set t (v ∷ vs) (suc i) w a k = (a.0, each_set t vs i w a.1 k)

  each_at : (t : Ty) (vs : List Value) (i : ℕ) → HasRoom defs t → EachIsOf defs store t vs → Fits defs store t (slice_index_or vs i nothing)
  each_at t [] i r a = zero_fits defs store t r
  each_at t (v ∷ vs) zero r a = is_fit defs store t v r a.0
  each_at t (v ∷ vs) (suc i) r a = each_at t vs i r a.1

  -- where an element stands
  element_there : (t : Ty) (p : Option Part) (i : ℤ) → Refers store (Items t) (array_named p)
      → Unless (λ (e : ℕ × ℕ). slice_get store e.0 ≡ Some (Items t)) (element_of p i)
  element_there t None i a = tt
  element_there t (Some p) i a = go (index_in p.long i)
    where
      go : (r : Result ℕ Raised) → Unless (λ (e : ℕ × ℕ). slice_get store e.0 ≡ Some (Items t))
          (with_text r >>= λ k. Ok (p.array, p.start + k))
      go (Ok k) = a
      go (Err r) = tt

  -- a string with another character
  text_put : (s : List ℕ) (k : ℕ) (z : ℤ) → AreCharacters s → AreCharacters (put_character s k (character z))
  text_put s k z a = go (k == length s)
    where
      go : (b : Bool) → AreCharacters (if b then s ++ character z ∷ [] else slice_set s k (character z))
      go true = texts.front_and_behind s (character z ∷ []) a (texts.character_is z, tt)
      go false = texts.put s k (character z) a (texts.character_is z)

  character_put : (s : List ℕ) (i z : ℤ) → AreCharacters s → Unless (IsOf defs store ty.Chars) (with_character s i z)
  character_put s i z a = go (index_in (length s + 1) i)
    where
      go : (r : Result ℕ Raised) → Unless (IsOf defs store ty.Chars)
          (with_text r >>= λ k. not_longer (put_character s k (character z)) >>= λ t. Ok (Chars t))
      go (Ok k) = unless_behind AreCharacters (IsOf defs store ty.Chars) (not_longer (put_character s k (character z))) (λ t. Ok (Chars t))
          (short_text (put_character s k (character z)) (text_put s k z a)) (λ t c. is_alone ty.Chars (Chars t) c)
      go (Err r) = tt

module _ (defs : List Def) (globals : List Ty) (store : Store) (types : List Ty) (m : Memory) (mem : MemoryIsOf defs globals store types m)
    (p : Place) (is : PlaceIs defs globals store types p) where
  -- ---- reads

  abbrev FitsRoot : Value → Type 0
  FitsRoot v = Fits defs store is.root v

  element_fits : (e : ℕ × ℕ) → slice_get store e.0 ≡ Some (Items is.root) → FitsRoot (element_value m e)
  element_fits e said = go (at m.heap e.0) refl
    where
      inner : (u : HeapValue) → Contains defs globals store (Items is.root) u → FitsRoot (slice_index_or (elements_in (Some u)) e.1 nothing)
      inner (Elements vs) c = each_at defs store is.root vs e.1 is.room c
      inner _ c = absurd c

      go : (o : Option HeapValue) → at m.heap e.0 ≡ o → FitsRoot (slice_index_or (elements_in o) e.1 nothing)
      go None f = zero_fits defs store is.root is.room
      go (Some u) f = inner u (contains_at defs globals store m.heap e.0 (Items is.root) u mem.heap said f)

  global_fits : (x : ℕ) → slice_get globals x ≡ Some is.root → FitsRoot (slice_index_or (globals_of m) x nothing)
  global_fits x said = go (at m.heap m.instance) refl
    where
      inner : (u : HeapValue) → Contains defs globals store Instances u → FitsRoot (slice_index_or (variables_in (Some u)) x nothing)
      inner (Instance vs) c =
          is_fit defs store is.root (slice_index_or vs x nothing) is.room (one_of defs store globals vs x is.root c said)
      inner _ c = absurd c

      go : (o : Option HeapValue) → at m.heap m.instance ≡ o → FitsRoot (slice_index_or (variables_in o) x nothing)
      go None f = zero_fits defs store is.root is.room
      go (Some u) f = inner u (contains_at defs globals store m.heap m.instance Instances u mem.heap mem.instance f)

  target_fits : (n k : ℕ) → is.root ≡ ty.Adt n → slice_get store k ≡ Some (Adts n) → FitsRoot (record_in (at m.heap k))
  target_fits n k e said = go (at m.heap k) refl
    where
      inner : (u : HeapValue) → Contains defs globals store (Adts n) u → FitsRoot (record_in (Some u))
      inner (Record v) c = is_fit defs store is.root v is.room (subst (λ (x : Ty). IsOf defs store x v) (sym e) c)
      inner _ c = absurd c

      go : (o : Option HeapValue) → at m.heap k ≡ o → FitsRoot (record_in o)
      go None f = zero_fits defs store is.root is.room
      go (Some u) f = inner u (contains_at defs globals store m.heap k (Adts n) u mem.heap said f)

  target_there : (n : ℕ) (r : Option ℕ) → Refers store (Adts n) r → Unless (λ (k : ℕ). slice_get store k ≡ Some (Adts n)) (target_of r)
  target_there n None a = tt
  target_there n (Some k) a = a

  root_fits : (r : Root) (vs : List Value) → Begins defs globals store types r vs is.root → Unless FitsRoot (root_value m r vs)
  root_fits (Local x) vs b =
      is_fit defs store is.root (slice_index_or m.variables x nothing) is.room
      (one_of defs store types m.variables x is.root mem.variables b)
  root_fits (Global x) vs b = global_fits x b
  root_fits Element vs b =
      unless_behind (λ (e : ℕ × ℕ). slice_get store e.0 ≡ Some (Items is.root)) FitsRoot
      (element_of (part_of (operand 0 vs)) (number_of (operand 1 vs))) (λ e. Ok (element_value m e))
      (element_there defs store is.root (part_of (operand 0 vs)) (number_of (operand 1 vs))
      (part_named defs store is.root (operand 0 vs) b)) element_fits
  root_fits Target vs b =
      unless_behind (λ (k : ℕ). slice_get store k ≡ Some (Adts b.0)) FitsRoot (target_of (name_of (operand 0 vs)))
      (λ n. Ok (record_in (at m.heap n))) (target_there b.0 (name_of (operand 0 vs)) b.2) (λ k said. target_fits b.0 k b.1 said)

  character_read : (text : List ℕ) (i : ℤ) → p.type ≡ ty.Int → Unless (Fits defs store p.type) (character_at text i)
  character_read text i e = go (character_in text i)
    where
      go : (r : Result ℤ Raised) → Unless (Fits defs store p.type) (with_text r >>= λ c. Ok (Num c))
      go (Ok c) = subst (λ (x : Ty). Fits defs store x (Num c)) (sym e) (int_fits defs store (Num c))
      go (Err r) = tt

  ended : (b : Bool) (v : Value) → Ends b is.inner p.type → Fits defs store is.inner v
      → Unless (Fits defs store p.type) (if b then character_at (text_of v) (index_of p) else Ok v)
  ended true v e f = character_read (text_of v) (index_of p) e.1
  ended false v e f = subst (λ (x : Ty). Fits defs store x v) e f

  pub read_fits : Unless (Fits defs store p.type) (read m p)
  read_fits =
      unless_behind FitsRoot (Fits defs store p.type) (root_value m p.way.root p.operands) (λ v. part_read p (part_at p.way.parts v))
      (root_fits p.way.root p.operands is.begins)
      (λ v f. ended p.way.character (part_at p.way.parts v) is.ends
      (part_fits_at defs store p.way.parts is.root is.inner v is.room is.leads f))

  -- ---- writes

  module _ (v : Value) (fit : Fits defs store p.type v) where
    abbrev IsRoot : Value → Type 0
    IsRoot w = IsOf defs store is.root w

    -- the new part, where the old one is of its type
    part_new : (b : Bool) (old : Value) → Ends b is.inner p.type
        → Unless (λ (u : Value). IsOf defs store is.inner old → IsOf defs store is.inner u)
        (if b then with_character (text_of old) (index_of p) (number_of v) else Ok (fitted defs p.type v))
    part_new false old e = λ i. subst (λ (x : Ty). IsOf defs store x (fitted defs p.type v)) (sym e) fit
    part_new true old e =
        unless_given (IsOf defs store is.inner old) (IsOf defs store is.inner) (with_character (text_of old) (index_of p) (number_of v))
        (λ i. subst (λ (x : Ty). Unless (IsOf defs store x) (with_character (text_of old) (index_of p) (number_of v))) (sym e.0)
        (character_put defs store (text_of old) (index_of p) (number_of v)
        (text_kept old (inside defs store ty.Chars old (subst (λ (x : Ty). IsOf defs store x old) e.0 i)))))

    stored_is : (old : Value) → Unless (λ (w : Value). IsRoot old → IsRoot w) (stored_at defs m p old v)
    stored_is old =
        unless_behind (λ (u : Value). IsOf defs store is.inner (part_at p.way.parts old) → IsOf defs store is.inner u)
        (λ (w : Value). IsRoot old → IsRoot w) (new_part defs m p (part_at p.way.parts old) v) (λ u. Ok (with_part p.way.parts u old))
        (part_new p.way.character (part_at p.way.parts old) is.ends)
        (λ u k i. with_is defs store p.way.parts is.root is.inner u old is.leads i
        (k (part_is_at defs store p.way.parts is.root is.inner old is.leads i)))

    abbrev Kept : Raising Memory → Type 0
    Kept r = Unless (MemoryIsOf defs globals store types) r

    -- the store says one thing of a name
    one_thing : (n : ℕ) (s s' : Standing) → slice_get store n ≡ Some s → slice_get store n ≡ Some s' → s ≡ s'
    one_thing n s s' e f = cc

    set_elements : (u : HeapValue) (i : ℕ) (new : Value) → Contains defs globals store (Items is.root) u
        → (IsRoot (slice_index_or (elements_in (Some u)) i nothing) → IsRoot new)
        → Contains defs globals store (Items is.root) (Elements (slice_set (elements_in (Some u)) i new))
    set_elements (Elements vs) i new c k = each_set defs store is.root vs i new c k
    set_elements _ i new c k = absurd c

    element_kept : (e : ℕ × ℕ) → slice_get store e.0 ≡ Some (Items is.root) → (new : Value)
        → (IsRoot (element_value m e) → IsRoot new) → MemoryIsOf defs globals store types (element_put m new e)
    element_kept e said new k =
        memory_changed defs globals store types m mem e.0 (Elements (slice_set (elements_in (at m.heap e.0)) e.1 new))
        (λ s u has there c.
        let same = one_thing e.0 (Items is.root) s said has in
        subst (λ (x : Standing). Contains defs globals store x (Elements (slice_set (elements_in (at m.heap e.0)) e.1 new))) same
        (subst (λ (o : Option HeapValue). Contains defs globals store (Items is.root) (Elements (slice_set (elements_in o) e.1 new)))
        (sym there)
        (set_elements u e.1 new (subst (λ (x : Standing). Contains defs globals store x u) (sym same) c)
        (subst (λ (o : Option HeapValue). IsRoot (slice_index_or (elements_in o) e.1 nothing) → IsRoot new) there k))))

    set_variables : (u : HeapValue) (x : ℕ) (new : Value) → slice_get globals x ≡ Some is.root → Contains defs globals store Instances u
        → (IsRoot (slice_index_or (variables_in (Some u)) x nothing) → IsRoot new)
        → Contains defs globals store Instances (Instance (slice_set (variables_in (Some u)) x new))
    set_variables (Instance vs) x new said c k =
        one_set defs store globals vs x is.root new c said (k (one_of defs store globals vs x is.root c said))
    set_variables _ x new said c k = absurd c

    global_kept : (x : ℕ) → slice_get globals x ≡ Some is.root → (new : Value)
        → (IsRoot (slice_index_or (globals_of m) x nothing) → IsRoot new) → Kept (root_put m (Global x) [] new)
    global_kept x said new k =
        memory_changed defs globals store types m mem m.instance (Instance (slice_set (globals_of m) x new))
        (λ s u has there c.
        let same = one_thing m.instance Instances s mem.instance has in
        subst (λ (y : Standing). Contains defs globals store y (Instance (slice_set (globals_of m) x new))) same
        (subst (λ (o : Option HeapValue). Contains defs globals store Instances (Instance (slice_set (variables_in o) x new)))
        (sym there)
        (set_variables u x new said (subst (λ (y : Standing). Contains defs globals store y u) (sym same) c)
        (subst (λ (o : Option HeapValue). IsRoot (slice_index_or (variables_in o) x nothing) → IsRoot new) there k))))

    set_record : (n : ℕ) (u : HeapValue) (new : Value) → is.root ≡ ty.Adt n → Contains defs globals store (Adts n) u
        → (IsRoot (record_in (Some u)) → IsRoot new) → Contains defs globals store (Adts n) (Record new)
    set_record n (Record v) new e c k =
        subst (λ (x : Ty). IsOf defs store x new) e (k (subst (λ (x : Ty). IsOf defs store x v) (sym e) c))
    set_record n _ new e c k = absurd c

    target_kept : (n i : ℕ) → is.root ≡ ty.Adt n → slice_get store i ≡ Some (Adts n) → (new : Value)
        → (IsRoot (record_in (at m.heap i)) → IsRoot new) → MemoryIsOf defs globals store types
        (with_heap m (changed m.heap i (Record new)))
    target_kept n i e said new k =
        memory_changed defs globals store types m mem i (Record new)
        (λ s u has there c.
        let same = one_thing i (Adts n) s said has in
        subst (λ (x : Standing). Contains defs globals store x (Record new)) same
        (set_record n u new e (subst (λ (x : Standing). Contains defs globals store x u) (sym same) c)
        (subst (λ (o : Option HeapValue). IsRoot (record_in o) → IsRoot new) there k)))

    -- what becomes of the old value, and then the write
    put_behind : (old : Value) (put : Value → Raising Memory) → ((new : Value) → (IsRoot old → IsRoot new) → Kept (put new))
        → Kept (stored_at defs m p old v >>= put)
    put_behind old put k =
        unless_behind (λ (w : Value). IsRoot old → IsRoot w) (MemoryIsOf defs globals store types) (stored_at defs m p old v) put
        (stored_is old) k

    root_kept : (r : Root) (vs : List Value) → Begins defs globals store types r vs is.root
        → Kept (root_value m r vs >>= λ old. stored_at defs m p old v >>= λ new. root_put m r vs new)
    root_kept (Local x) vs b =
        put_behind (slice_index_or m.variables x nothing) (λ new. root_put m (Local x) vs new)
        (λ new k. memory_written defs globals store types m mem (slice_set m.variables x new)
        (one_set defs store types m.variables x is.root new mem.variables b
        (k (one_of defs store types m.variables x is.root mem.variables b))))
    root_kept (Global x) vs b =
        put_behind (slice_index_or (globals_of m) x nothing) (λ new. root_put m (Global x) vs new) (λ new k. global_kept x b new k)
    root_kept Element vs b =
        go (element_of (part_of (operand 0 vs)) (number_of (operand 1 vs)))
        (element_there defs store is.root (part_of (operand 0 vs)) (number_of (operand 1 vs))
        (part_named defs store is.root (operand 0 vs) b))
      where
        go : (r : Raising (ℕ × ℕ)) → Unless (λ (e : ℕ × ℕ). slice_get store e.0 ≡ Some (Items is.root)) r
            → Kept ((r >>= λ e. Ok (element_value m e)) >>= λ old. stored_at defs m p old v >>= λ new.
            (r >>= λ e. Ok (element_put m new e)))
        go (Ok e) said = put_behind (element_value m e) (λ new. Ok (element_put m new e)) (λ new k. element_kept e said new k)
        go (Err text) said = tt
    root_kept Target vs b = go (target_of (name_of (operand 0 vs))) (target_there b.0 (name_of (operand 0 vs)) b.2)
      where
        go : (r : Raising ℕ) → Unless (λ (k : ℕ). slice_get store k ≡ Some (Adts b.0)) r
            → Kept ((r >>= λ n. Ok (record_in (at m.heap n)))
            >>= λ old. stored_at defs m p old v >>= λ new. (r >>= λ n. Ok (with_heap m (changed m.heap n (Record new)))))
        go (Ok n) said =
            put_behind (record_in (at m.heap n)) (λ new. Ok (with_heap m (changed m.heap n (Record new))))
            (λ new k. target_kept b.0 n b.1 said new k)
        go (Err text) said = tt

    pub written_kept : Kept (written defs m p v)
    written_kept = root_kept p.way.root p.operands is.begins

pub places_keep_types : PlacesKeepTypes
places_keep_types = record {
  reads = λ defs globals store types m mem p is v e.
      subst (Unless (Fits defs store p.type)) e (read_fits defs globals store types m mem p is);
  writes = λ defs globals store types m mem p is v fit m' e.
      subst (Unless (MemoryIsOf defs globals store types)) e (written_kept defs globals store types m mem p is v fit);
}
