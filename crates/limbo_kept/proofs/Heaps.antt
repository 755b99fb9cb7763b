-- Heaps that are as a store says, and that grow or change.
use Rattle.std.proofs.Common.{◌≡◌, ℕ, zero, suc, List, [], ◌∷◌, ◌++◌, length, Option, Some, None, refl, sym, ap, subst, ◌∙◌}
use Rattle.std.proofs.Common.{arith, inl, inr, ◌⊎◌, length-append}
use Rattle.std.specs.Prelude.{slice_get, slice_set}
use Rattle.heap_model.specs.Heap.{Heap, at}
use Rattle.limbo_types.specs.Types as ty
use Rattle.limbo_types.specs.Types.{Ty}
use Rattle.limbo_layout.specs.Adts.{Def}
use Rattle.limbo_meaning.specs.Values.{Value}
use Rattle.limbo_meaning.specs.Memory.{HeapValue, Elements, Cell, Record, Channel, Instance, Memory, with_variables, with_heap, made}
use Rattle.limbo_meaning.specs.Memory.{changed, changed_to}
use Rattle.limbo_kept.specs.Values.{Standing, Items, Cells, Adts, Channels, Instances, Store, AllAreOf}
use Rattle.limbo_kept.specs.Stores.{Contains, HeapIsOf, MemoryIsOf, Grows}
use Rattle.limbo_kept.proofs.Fitted.{refers_later, is_later, all_later, each_later}

-- ---- one more

pub more_says : (store : Store) (s : Standing) → Grows store (store ++ s ∷ [])
more_says [] s n k e = absurd cc
more_says (x ∷ store) s zero k e = e
more_says (x ∷ store) s (suc n) k e = more_says store s n k e

pub last_says : (store : Store) (s : Standing) (n : ℕ) → length store ≡ n → slice_get (store ++ s ∷ []) n ≡ Some s
last_says [] s zero e = refl
last_says [] s (suc n) e = absurd (omega (arith, e))
last_says (x ∷ store) s zero e = absurd (omega (arith, e))
last_says (x ∷ store) s (suc n) e = last_says store s n (omega arith)

pub at_more : (h : Heap HeapValue) (u : HeapValue) (n : ℕ) (v : HeapValue) → at (h ++ Some u ∷ []) n ≡ Some v
    → (at h n ≡ Some v) ⊎ ((length h ≡ n) × (u ≡ v))
at_more [] u zero v e = inr (refl, cc)
at_more [] u (suc n) v e = absurd cc
at_more (o ∷ h) u zero v e = inl e
at_more (o ∷ h) u (suc n) v e = elim (at_more h u n v e) [ inl f ↦ inl f | inr f ↦ let l = f.0 in inr (omega arith, f.1) ]

module _ (defs : List Def) (globals : List Ty) (store later : Store) (grows : Grows store later) where
  pub contains_later : (s : Standing) (u : HeapValue) → Contains defs globals store s u → Contains defs globals later s u
  contains_later (Items t) (Elements vs) c = each_later defs store later grows t vs c
  contains_later (Cells t) (Cell v r) c =
      (is_later defs store later grows t v c.0, refers_later defs store later grows (Cells t) r c.1)
  contains_later (Adts n) (Record v) c = is_later defs store later grows (ty.Adt n) v c
  contains_later (Channels t) Channel c = tt
  contains_later Instances (Instance vs) c = all_later defs store later grows globals vs c
  contains_later _ _ c = absurd c

module _ (defs : List Def) (globals : List Ty) (store : Store) where
  pub heap_made : (h : Heap HeapValue) (s : Standing) (u : HeapValue) → HeapIsOf defs globals store h
      → Contains defs globals (store ++ s ∷ []) s u → HeapIsOf defs globals (store ++ s ∷ []) (h ++ Some u ∷ [])
  heap_made h s u is c = record {
    long =
        let a = length-append store (s ∷ []) in
        let b = length-append h (Some u ∷ []) in
        let e = is.long in
        omega arith;
    each = λ n v e. elim (at_more h u n v e) [
      | inl f ↦ let t = is.each n v f in record {
        stands = t.stands;
        said = more_says store s n t.stands t.said;
        contains = contains_later defs globals store (store ++ s ∷ []) (more_says store s) t.stands v t.contains;
      }
      | inr f ↦ record {
        stands = s;
        said = last_says store s n (is.long ∙ f.0);
        contains = subst (λ (x : HeapValue). Contains defs globals (store ++ s ∷ []) s x) f.1 c;
      }
    ];
  }

  -- what is there under a name is what the store says of it
  pub contains_at : (h : Heap HeapValue) (n : ℕ) (s : Standing) (u : HeapValue) → HeapIsOf defs globals store h → slice_get store n ≡ Some s
      → at h n ≡ Some u → Contains defs globals store s u
  contains_at h n s u is says e =
      let t = is.each n u e in
      let same : t.stands ≡ s = let f : slice_get store n ≡ Some t.stands = t.said in cc in
      subst (λ (x : Standing). Contains defs globals store x u) same t.contains

  set_at : (h : Heap HeapValue) (n k : ℕ) (v w : HeapValue) → at (slice_set h n (Some v)) k ≡ Some w → ((n ≡ k) × (v ≡ w)) ⊎
      (at h k ≡ Some w)
  set_at [] n k v w e = inr e
  set_at (o ∷ h) zero zero v w e = inl (refl, cc)
  set_at (o ∷ h) zero (suc k) v w e = inr e
  set_at (o ∷ h) (suc n) zero v w e = inr e
  set_at (o ∷ h) (suc n) (suc k) v w e = elim (set_at h n k v w e) [ inl f ↦ inl (ap suc f.0, f.1) | inr f ↦ inr f ]

  set_long : (h : Heap HeapValue) (n : ℕ) (o : Option HeapValue) → length (slice_set h n o) ≡ length h
  set_long [] n o = refl
  set_long (x ∷ h) zero o = refl
  set_long (x ∷ h) (suc n) o = ap suc (set_long h n o)

  -- a value of the heap in place of another, where that is what the store says
  pub heap_changed : (h : Heap HeapValue) (n : ℕ) (v : HeapValue) → HeapIsOf defs globals store h
      → ((s : Standing) (u : HeapValue) → slice_get store n ≡ Some s → at h n ≡ Some u → Contains defs globals store s u
      → Contains defs globals store s v)
      → HeapIsOf defs globals store (changed h n v)
  heap_changed h n v is k = go (at h n) refl
    where
      go : (o : Option HeapValue) → at h n ≡ o → HeapIsOf defs globals store (changed_to h n o v)
      go None e = is
      go (Some u) e = record {
        long = is.long ∙ sym (set_long h n (Some v));
        each = λ i w f. elim (set_at h n i v w f) [
          | inl g ↦ let t = is.each n u e in record {
            stands = t.stands;
            said = subst (λ (j : ℕ). slice_get store j ≡ Some t.stands) g.0 t.said;
            contains = subst (λ (x : HeapValue). Contains defs globals store t.stands x) g.1 (k t.stands u t.said e t.contains);
          }
          | inr g ↦ is.each i w g
        ];
      }

  module _ (types : List Ty) (m : Memory) (is : MemoryIsOf defs globals store types m) where
    pub memory_made : (s : Standing) (u : HeapValue) → Contains defs globals (store ++ s ∷ []) s u
        → MemoryIsOf defs globals (store ++ s ∷ []) types (made m u)
    memory_made s u c = record {
      variables = all_later defs store (store ++ s ∷ []) (more_says store s) types m.variables is.variables;
      instance = more_says store s m.instance Instances is.instance;
      heap = heap_made m.heap s u is.heap c;
    }

    pub memory_changed : (n : ℕ) (v : HeapValue)
        → ((s : Standing) (u : HeapValue) → slice_get store n ≡ Some s → at m.heap n ≡ Some u → Contains defs globals store s u
        → Contains defs globals store s v)
        → MemoryIsOf defs globals store types (with_heap m (changed m.heap n v))
    memory_changed n v k = record { variables = is.variables; instance = is.instance; heap = heap_changed m.heap n v is.heap k }

    pub memory_written : (vs : List Value) → AllAreOf defs store types vs → MemoryIsOf defs globals store types (with_variables m vs)
    memory_written vs a = record { variables = a; instance = is.instance; heap = is.heap }
