-- Writes at places, and copies, make no ring.
use Rattle.std.proofs.Common.{◌≡◌, ℕ, ℤ, pos, negsuc, ◌+◌, ◌<◌, ◌⊎◌, inl, inr, Bool, true, false, List, [], length}
use Rattle.std.proofs.Common.{Option, None, Some, Ok, Err, refl, ap, subst}
use Rattle.std.specs.Prelude.{slice_get, slice_set, slice_index_or, if◌then◌else◌, Result}
use Rattle.inf_text.specs.Steps.{◌>>=◌}
use Rattle.heap_model.specs.Heap.{Heap, at, graph}
use Rattle.limbo_types.specs.Types as ty
use Rattle.limbo_types.specs.Types.{Ty}
use Rattle.limbo_layout.specs.Adts.{Def}
use Rattle.limbo_adts.specs.Reaches.{Reaches}
use Rattle.limbo_stores.proofs.Reaching.{reaches_on}
use Rattle.limbo_values.specs.Texts.{index_in, bounds_in}
use Rattle.limbo_values.specs.declared.raised.Raised.{Raised}
use Rattle.limbo_meaning.specs.Values.{Part, Value, Chars, references, references_in, fitted, text_of, number_of, part_of, name_of}
use Rattle.limbo_meaning.specs.Values.{array_named, nothing}
use Rattle.limbo_meaning.specs.Memory.{HeapValue, Elements, Record, Instance, inside, Memory, with_heap, changed}
use Rattle.limbo_meaning.specs.Memory.{elements_in, record_in, variables_in, globals_of}
use Rattle.limbo_meaning.specs.Exceptions.{Raising, with_text}
use Rattle.limbo_meaning.specs.Places.{Root, Local, Global, Element, Target, Place, operand, part_at, with_part, with_character, element_of}
use Rattle.limbo_meaning.specs.Places.{target_of, element_value, element_put, root_value, root_put, index_of, new_part, stored_at, written}
use Rattle.limbo_meaning.specs.Places.{not_longer}
use Rattle.limbo_meaning.specs.Operations.{long_of, overwritten, copied_into, copied}
use Rattle.limbo_meaning.specs.Origins.{Name}
use Rattle.limbo_meaning.proofs.Names.{none, either, in_get, in_set, in_fitted, in_with_part, in_overwritten}
use Rattle.limbo_kept.specs.Values.{Standing, Items, Adts, Instances, Store, Refers, Fits, EachIsOf}
use Rattle.limbo_kept.specs.Stores.{MemoryIsOf}
use Rattle.limbo_kept.specs.Places.{Begins, PlaceIs}
use Rattle.limbo_kept.proofs.Fitted.{part_named}
use Rattle.limbo_kept.proofs.Operating.{Unless, unless_behind}
use Rattle.limbo_kept.specs.Permitting.{holder}
use Rattle.limbo_rings.specs.Rings.{HasNoRing}
use Rattle.limbo_rings.specs.Storing.{type_of, IsAllowed, WritesMakeNoRing, CopiesMakeNoRing, FillsMakeNoRing}
use Rattle.limbo_meaning.specs.Evaluation.{element_at}
use Rattle.limbo_rings.proofs.Known.{Knows, known, each_known}
use Rattle.limbo_rings.proofs.Changing.{Apart, ringless_changed, ringless_filled, names_out}

-- whatever it comes to
unless_any : {A B : Type 0} (P : B → Type 0) (r : Raising A) (f : A → Raising B) → ((x : A) → Unless P (f x)) → Unless P (r >>= f)
unless_any P (Ok x) f k = k x
unless_any P (Err text) f k = tt

-- ---- what the value names of which something is read

elements_named : (h : Heap HeapValue) (o b : ℕ) → Name (references_in (elements_in (at h o))) b → 0 < (graph inside h).uses o b
elements_named h o b n = go (at h o) refl n
  where
    inner : (u : HeapValue) → at h o ≡ Some u → Name (references_in (elements_in (Some u))) b → 0 < (graph inside h).uses o b
    inner (Elements vs) e n = names_out h o b (Elements vs) e n
    inner _ e n = none b n

    go : (x : Option HeapValue) → at h o ≡ x → Name (references_in (elements_in x)) b → 0 < (graph inside h).uses o b
    go None e n = none b n
    go (Some u) e n = inner u e n

variables_named : (h : Heap HeapValue) (o b : ℕ) → Name (references_in (variables_in (at h o))) b → 0 < (graph inside h).uses o b
variables_named h o b n = go (at h o) refl n
  where
    inner : (u : HeapValue) → at h o ≡ Some u → Name (references_in (variables_in (Some u))) b → 0 < (graph inside h).uses o b
    inner (Instance vs) e n = names_out h o b (Instance vs) e n
    inner _ e n = none b n

    go : (x : Option HeapValue) → at h o ≡ x → Name (references_in (variables_in x)) b → 0 < (graph inside h).uses o b
    go None e n = none b n
    go (Some u) e n = inner u e n

record_named : (h : Heap HeapValue) (o b : ℕ) → Name (references (record_in (at h o))) b → 0 < (graph inside h).uses o b
record_named h o b n = go (at h o) refl n
  where
    inner : (u : HeapValue) → at h o ≡ Some u → Name (references (record_in (Some u))) b → 0 < (graph inside h).uses o b
    inner (Record v) e n = names_out h o b (Record v) e n
    inner _ e n = none b n

    go : (x : Option HeapValue) → at h o ≡ x → Name (references (record_in x)) b → 0 < (graph inside h).uses o b
    go None e n = none b n
    go (Some u) e n = inner u e n

module _ (defs : List Def) (globals : List Ty) (store : Store) (types : List Ty) (m : Memory) (mem : MemoryIsOf defs globals store types m)
    (clean : HasNoRing (graph inside m.heap)) where
  abbrev Ringless : Raising Memory → Type 0
  Ringless r = Unless (λ (m' : Memory). HasNoRing (graph inside m'.heap)) r

  abbrev IsApart : Standing → ℕ → Type 0
  IsApart so n = Apart defs globals store m.heap mem.heap so n

  -- what a value of a type names, where that doesn't reach the type of the value that changes
  apart_of : (t : Ty) (so : Standing) (n : ℕ) → Knows defs store t n → (so ≡ Instances) ⊎ (Reaches defs t (type_of so) → ⊥) → IsApart so n
  apart_of t so n k never = (
    k.stands,
    k.said,
    k.proper,
    elim never [
      | inl e ↦ inl e
      | inr f ↦ inr (λ s. f (reaches_on defs t (type_of k.stands) (type_of so) k.reached s))
    ],
  )

  module _ (p : Place) (is : PlaceIs defs globals store types p) (v : Value) (fit : Fits defs store p.type v)
    where
      abbrev Never : Standing → Type 0
      Never so = (so ≡ Instances) ⊎ (Reaches defs p.type (type_of so) → ⊥)

      new_apart : (so : Standing) → Never so → (n : ℕ) → Name (references (fitted defs p.type v)) n → IsApart so n
      new_apart so never n h =
          apart_of p.type so n (known defs store p.type (fitted defs p.type v) n fit h) never

      -- what is stored names what was there, or what the value does
      abbrev From : Value → Value → Type 0
      From old new = (n : ℕ) → Name (references new) n → Name (references (fitted defs p.type v)) n ⊎ Name (references old) n

      abbrev FromValue : Value → Type 0
      FromValue u = (n : ℕ) → Name (references u) n → Name (references (fitted defs p.type v)) n

      part_from : (b : Bool) (old : Value)
          → Unless FromValue (if b then with_character (text_of old) (index_of p) (number_of v) else Ok (fitted defs p.type v))
      part_from false old = λ n h. h
      part_from true old =
          unless_any FromValue (with_text (index_in (length (text_of old) + 1) (index_of p))) _
          (λ k. unless_any FromValue (not_longer _) (λ t. Ok (Chars t)) (λ t n h. none n h))

      stored_from : (old : Value) → Unless (From old) (stored_at defs m p old v)
      stored_from old =
          unless_behind FromValue (From old) (new_part defs m p (part_at p.way.parts old) v) (λ u. Ok (with_part p.way.parts u old))
          (part_from p.way.character (part_at p.way.parts old))
          (λ u k n h. elim (in_with_part p.way.parts u old n h) [ inl y ↦ inl (k n y) | inr y ↦ inr y ])

      put_behind : (old : Value) (put : Value → Raising Memory) → ((new : Value) → From old new → Ringless (put new))
          → Ringless (stored_at defs m p old v >>= put)
      put_behind old put k =
          unless_behind (From old) (λ (m' : Memory). HasNoRing (graph inside m'.heap)) (stored_at defs m p old v) put (stored_from old) k

      element_put_so : (e : ℕ × ℕ) → slice_get store e.0 ≡ Some (Items is.root) → Never (Items is.root) → (new : Value)
          → From (element_value m e) new → HasNoRing (graph inside (element_put m new e).heap)
      element_put_so e said never new from =
          let xs = elements_in (at m.heap e.0) in
          ringless_changed defs globals store m.heap mem.heap clean e.0 (Items is.root) (Elements (slice_set xs e.1 new)) said
          (λ b l. elim (either (references new) (references_in xs) b (in_set xs e.1 new b l)) [
            | inl x ↦ elim (from b x) [
              | inl y ↦ inr (new_apart (Items is.root) never b y)
              | inr y ↦ inl (elements_named m.heap e.0 b (in_get xs e.1 b y))
            ]
            | inr x ↦ inl (elements_named m.heap e.0 b x)
          ])

      global_put_so : (x : ℕ) (new : Value) → From (slice_index_or (globals_of m) x nothing) new → Ringless (root_put m (Global x) [] new)
      global_put_so x new from =
          let xs = globals_of m in
          ringless_changed defs globals store m.heap mem.heap clean m.instance Instances (Instance (slice_set xs x new)) mem.instance
          (λ b l. elim (either (references new) (references_in xs) b (in_set xs x new b l)) [
            | inl z ↦ elim (from b z) [
              | inl y ↦ inr (new_apart Instances (inl refl) b y)
              | inr y ↦ inl (variables_named m.heap m.instance b (in_get xs x b y))
            ]
            | inr z ↦ inl (variables_named m.heap m.instance b z)
          ])

      target_put_so : (n i : ℕ) → slice_get store i ≡ Some (Adts n) → Never (Adts n) → (new : Value) → From (record_in (at m.heap i)) new
          → HasNoRing (graph inside (changed m.heap i (Record new)))
      target_put_so n i said never new from =
          ringless_changed defs globals store m.heap mem.heap clean i (Adts n) (Record new) said
          (λ b l. elim (from b l) [
            | inl y ↦ inr (new_apart (Adts n) never b y)
            | inr y ↦ inl (record_named m.heap i b y)
          ])

      there_of : (t : Ty) (q : Option Part) (i : ℤ) → Refers store (Items t) (array_named q)
          → Unless (λ (e : ℕ × ℕ). slice_get store e.0 ≡ Some (Items t)) (element_of q i)
      there_of t None i a = tt
      there_of t (Some q) i a = unless_any (λ (e : ℕ × ℕ). slice_get store e.0 ≡ Some (Items t)) (with_text (index_in q.long i)) _ (λ k. a)

      target_there : (n : ℕ) (r : Option ℕ) → Refers store (Adts n) r → Unless (λ (k : ℕ). slice_get store k ≡ Some (Adts n)) (target_of r)
      target_there n None a = tt
      target_there n (Some k) a = a

      root_so : (r : Root) (vs : List Value) → Begins defs globals store types r vs is.root
          → ((object : Ty) → holder r is.root ≡ Some object → Reaches defs p.type object → ⊥)
          → Ringless (root_value m r vs >>= λ old. stored_at defs m p old v >>= λ new. root_put m r vs new)
      root_so (Local x) vs b allow =
          put_behind (slice_index_or m.variables x nothing) (λ new. root_put m (Local x) vs new) (λ new k. clean)
      root_so (Global x) vs b allow =
          put_behind (slice_index_or (globals_of m) x nothing) (λ new. root_put m (Global x) vs new) (λ new k. global_put_so x new k)
      root_so Element vs b allow =
          go (element_of (part_of (operand 0 vs)) (number_of (operand 1 vs)))
          (there_of is.root (part_of (operand 0 vs)) (number_of (operand 1 vs)) (part_named defs store is.root (operand 0 vs) b))
        where
          go : (r : Raising (ℕ × ℕ)) → Unless (λ (e : ℕ × ℕ). slice_get store e.0 ≡ Some (Items is.root)) r
              → Ringless ((r >>= λ e. Ok (element_value m e)) >>= λ old. stored_at defs m p old v >>= λ new.
              (r >>= λ e. Ok (element_put m new e)))
          go (Ok e) said =
              put_behind (element_value m e) (λ new. Ok (element_put m new e))
              (λ new k. element_put_so e said (inr (allow (ty.ArrayOf is.root) refl)) new k)
          go (Err text) said = tt
      root_so Target vs b allow = go (target_of (name_of (operand 0 vs))) (target_there b.0 (name_of (operand 0 vs)) b.2)
        where
          go : (r : Raising ℕ) → Unless (λ (k : ℕ). slice_get store k ≡ Some (Adts b.0)) r
              → Ringless ((r >>= λ n. Ok (record_in (at m.heap n)))
              >>= λ old. stored_at defs m p old v >>= λ new. (r >>= λ n. Ok (with_heap m (changed m.heap n (Record new)))))
          go (Ok i) said =
              put_behind (record_in (at m.heap i)) (λ new. Ok (with_heap m (changed m.heap i (Record new))))
              (λ new k. target_put_so b.0 i said (inr (allow (ty.RefAdt b.0) (ap (holder Target) b.1))) new k)
          go (Err text) said = tt

      pub written_so : IsAllowed defs is.root p → Ringless (written defs m p v)
      written_so allowed = root_so p.way.root p.operands is.begins allowed

  -- ---- copies

  module _ (t : Ty) (never : Reaches defs t (ty.ArrayOf t) → ⊥) (vs : List Value) (are : EachIsOf defs store t vs)
    where
      into_so : (a : Option Part) → Refers store (Items t) (array_named a) → (b : ℕ × ℕ)
          → HasNoRing (graph inside (copied_into m a vs b).heap)
      into_so None said b = clean
      into_so (Some q) said b =
          let xs = elements_in (at m.heap q.array) in
          ringless_changed defs globals store m.heap mem.heap clean q.array (Items t) (Elements (overwritten xs (q.start + b.0) vs)) said
          (λ n l. elim (in_overwritten xs (q.start + b.0) vs n l) [
            | inl x ↦ inl (elements_named m.heap q.array n x)
            | inr x ↦ inr (apart_of t (Items t) n (each_known defs store t vs n are x) (inr never))
          ])

      pub copied_so : (a : Option Part) → Refers store (Items t) (array_named a) → (from : ℤ) → Ringless (copied m a from vs)
      copied_so a said (pos i) =
          unless_any (λ (m' : Memory). HasNoRing (graph inside m'.heap)) (with_text (bounds_in (long_of a) (pos i) (pos (i + length vs)))) _
          (λ b. into_so a said b)
      copied_so a said (negsuc i) = tt

pub writes_make_no_ring : WritesMakeNoRing
writes_make_no_ring defs globals store types m mem p is allowed v fit m' e clean =
    subst (Unless (λ (k : Memory). HasNoRing (graph inside k.heap))) e (written_so defs globals store types m mem clean p is v fit allowed)

pub copies_make_no_ring : CopiesMakeNoRing
copies_make_no_ring defs globals store types m mem t array said never from vs are m' e clean =
    subst (Unless (λ (k : Memory). HasNoRing (graph inside k.heap))) e
    (copied_so defs globals store types m mem clean t never vs are array said from)

-- ---- initialisers

pub fills_make_no_ring : FillsMakeNoRing
fills_make_no_ring defs m t part index unnamed v other m' e clean = go (index_in part.long index) e
  where
    After : Memory → Type 0
    After k = HasNoRing (graph inside k.heap)

    put : (k : ℕ) → After (element_put m (fitted defs t v) (part.array, k))
    put k =
        let xs = elements_in (at m.heap part.array) in
        ringless_filled m.heap clean part.array (Elements (slice_set xs k (fitted defs t v))) unnamed
        (λ b l. elim (either (references (fitted defs t v)) (references_in xs) b (in_set xs k (fitted defs t v) b l)) [
          | inl x ↦ inr (λ f. other (subst (λ (n : ℕ). Name (references v) n) f (in_fitted defs t v b x)))
          | inr x ↦ inl (elements_named m.heap part.array b x)
        ])

    go : (r : Result ℕ Raised)
        → ((with_text r >>= λ k. Ok (part.array, part.start + k)) >>= λ e. Ok (element_value m e)) >>= (λ old.
        stored_at defs m (element_at t part index) old v >>= λ new.
        ((with_text r >>= λ k. Ok (part.array, part.start + k)) >>= λ e. Ok (element_put m new e))) ≡ Ok m' → After m'
    go (Ok k) f =
        let same : element_put m (fitted defs t v) (part.array, part.start + k) ≡ m' = cc in subst After same (put (part.start + k))
    go (Err r) f = absurd cc
