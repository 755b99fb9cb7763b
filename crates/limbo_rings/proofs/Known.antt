-- What a value of a type names is known, and its type reached.
use Rattle.std.proofs.Common.{◌≡◌, ℕ, ◌+◌, ◌<◌, ◌⊎◌, inl, inr, List, [], ◌∷◌, ◌++◌, Option, None, Some, refl, sym, subst, arith}
use Rattle.std.specs.Prelude.{slice_get}
use Rattle.limbo_types.specs.Types as ty
use Rattle.limbo_types.specs.Types.{Ty}
use Rattle.limbo_layout.specs.Adts as adts
use Rattle.limbo_layout.specs.Adts.{Def, Has, parts, tag, field_types, Variant}
use Rattle.limbo_adts.specs.Reaches as reaching
use Rattle.limbo_adts.specs.Reaches.{plain, HasField, Part, of_array, of_list, of_ref, Reaches, reaches_itself, reaches_through}
use Rattle.limbo_meaning.specs.Values.{Value, Num, Chars, Ref, Array, Parts, NoValues, array_named, references, references_in, one}
use Rattle.limbo_meaning.specs.Values.{among}
use Rattle.limbo_meaning.specs.Memory.{HeapValue, Elements, Cell, Record, Channel, Instance, inside}
use Rattle.limbo_meaning.specs.Origins.{Name}
use Rattle.limbo_meaning.proofs.Names.{none, nil_names, is_one, either, in_row}
use Rattle.limbo_kept.specs.Values.{Standing, Items, Cells, Adts, Channels, Instances, Store, Refers, IsAlone, IsOf, is_alone, of_tuple}
use Rattle.limbo_kept.specs.Values.{of_adt}
use Rattle.limbo_kept.specs.Values as kept
use Rattle.limbo_kept.specs.Values.{AllAreOf, none_of, more_of, EachIsOf}
use Rattle.limbo_kept.specs.Stores.{Contains}
use Rattle.limbo_rings.specs.Storing.{type_of}

among_join : (n : ℕ) (rs ss : List (Option ℕ)) → among n (rs ++ ss) ≡ among n rs + among n ss
among_join n [] ss = omega arith
among_join n (r ∷ rs) ss = let a = among_join n rs ss in omega arith

pub both_words : (v : Value) (r : Option ℕ) (n : ℕ) → 0 < among n (references v) + one n r → Name (references v ++ r ∷ []) n
both_words v r n h = let a = among_join n (references v) (r ∷ []) in omega arith

module _ (defs : List Def) (store : Store) where
  -- The store knows a name, which isn't an instance's, and is reached from a type.
  pub record Knows (t : Ty) (n : ℕ) : Type 0 where
    pub stands : Standing
    pub said : slice_get store n ≡ Some stands
    pub proper : stands ≡ Instances → ⊥
    pub reached : Reaches defs t (type_of stands)

  abbrev pub through : (t p : Ty) (n : ℕ) → Part defs t p → Knows p n → Knows t n
  through t p n part k = record {
    stands = k.stands;
    said = k.said;
    proper = k.proper;
    reached = reaches_through t p (type_of k.stands) part k.reached;
  }

  refers_known : (t : Ty) (s : Standing) (r : Option ℕ) (n : ℕ) → (s ≡ Instances → ⊥) → plain t ≡ plain (type_of s) → Refers store s r
      → Name (r ∷ []) n → Knows t n
  refers_known t s None n i e a h = nil_names n h
  refers_known t s (Some k) n i e a h = record {
    stands = s;
    said = subst (λ (x : ℕ). slice_get store x ≡ Some s) (sym (is_one n k h)) a;
    proper = i;
    reached = reaches_itself t (type_of s) e;
  }

  reference_known : (t : Ty) (s : Standing) (v : Value) (n : ℕ) → (s ≡ Instances → ⊥) → plain t ≡ plain (type_of s)
      → kept.IsReferenceTo store s v → Name (references v) n → Knows t n
  reference_known t s (Ref r) n i e a h = refers_known t s r n i e a h
  reference_known t s _ n i e a h = absurd a

  -- a value that is `nil`
  nil_known : (t : Ty) (v : Value) (n : ℕ) → v ≡ Ref None → Name (references v) n → Knows t n
  nil_known t v n a h = nil_names n (subst (λ (x : Value). Name (references x) n) a h)

  number_names : (k : _) (v : Value) (n : ℕ) → kept.IsNumberOf k v → Name (references v) n → ⊥
  number_names k (Num z) n a h = none n h
  number_names k _ n a h = a

  text_names : (v : Value) (n : ℕ) → kept.IsText v → Name (references v) n → ⊥
  text_names (Chars s) n a h = none n h
  text_names _ n a h = a

  nothing_names : (v : Value) (n : ℕ) → kept.IsNothing v → Name (references v) n → ⊥
  nothing_names (Parts NoValues) n a h = none n h
  nothing_names _ n a h = a

  part_known : (t : Ty) (v : Value) (n : ℕ) → kept.IsPartOf store t v → Name (references v) n → Knows (ty.ArrayOf t) n
  part_known t (Array p) n a h = refers_known (ty.ArrayOf t) (Items t) (array_named p) n (λ i. cc) refl a h
  part_known t _ n a h = absurd a

  alone_known : (t : Ty) (v : Value) (n : ℕ) → IsAlone store t v → Name (references v) n → Knows t n
  alone_known ty.Byte v n a h = absurd (number_names _ v n a h)
  alone_known ty.Int v n a h = absurd (number_names _ v n a h)
  alone_known ty.Big v n a h = absurd (number_names _ v n a h)
  alone_known ty.Chars v n a h = absurd (text_names v n a h)
  alone_known ty.Nothing v n a h = absurd (nothing_names v n a h)
  alone_known ty.Nil v n a h = nil_known ty.Nil v n a h
  alone_known (ty.ArrayOf t) v n a h = part_known t v n a h
  alone_known (ty.ListOf t) v n a h = reference_known (ty.ListOf t) (Cells t) v n (λ i. cc) refl a h
  alone_known (ty.ChanOf t) v n a h = reference_known (ty.ChanOf t) (Channels t) v n (λ i. cc) refl a h
  alone_known (ty.RefAdt k) v n a h = reference_known (ty.RefAdt k) (Adts k) v n (λ i. cc) refl a h
  alone_known (ty.RefPick k j) v n a h = reference_known (ty.RefPick k j) (Adts k) v n (λ i. cc) refl a h
  alone_known (ty.Module k) v n a h = nil_known (ty.Module k) v n a h
  alone_known _ v n a h = absurd a

  -- a part of an adt is a field, or the tag, which is an int
  field_or_tag : (picks : List Variant) (ts : List Ty) (t : Ty) → Has (tag picks ++ ts) t → (ty.Int ≡ t) ⊎ Has ts t
  field_or_tag [] ts t h = inr h
  field_or_tag (p ∷ ps) ts t h = h

  abbrev pub OneKnows : List Ty → ℕ → Type 0
  OneKnows ts n = (t : Ty) × Has ts t × Knows t n × ((t ≡ ty.Int) → ⊥)

  int_names : (v : Value) (n : ℕ) → IsOf defs store ty.Int v → Name (references v) n → ⊥
  int_names v n (is_alone _ _ a) h = number_names _ v n a h

  mutual
    pub known : (t : Ty) (v : Value) (n : ℕ) → IsOf defs store t v → Name (references v) n → Knows t n
    known t v n (is_alone _ _ a) h = alone_known t v n a h
    known t v n (of_tuple ts _ vs e all) h =
        let k = all_known (adts.listed ts) vs n all (in_row vs n (subst (λ (x : Value). Name (references x) n) e h)) in
        through (ty.Tuple ts) k.0 n (reaching.of_tuple ts k.0 k.1) k.2
    known t v n (of_adt j d _ vs at e all) h =
        let k = all_known (parts d) vs n all (in_row vs n (subst (λ (x : Value). Name (references x) n) e h)) in
        let has : Has (field_types d) k.0 =
        elim (field_or_tag d.picks (field_types d) k.0 k.1) [ inl i ↦ absurd (k.3 (sym i)) | inr f ↦ f ] in
        through (ty.Adt j) k.0 n (reaching.of_adt j k.0 (record { def = d; there = at; has = has })) k.2

    pub all_known : (ts : List Ty) (vs : List Value) (n : ℕ) → AllAreOf defs store ts vs → Name (references_in vs) n → OneKnows ts n
    all_known ts vs n none_of h = none n h
    all_known _ _ n (more_of t ts v vs a b) h = elim (either (references v) (references_in vs) n h) [
      | inl x ↦ (t, inl refl, known t v n a x, λ i. int_names v n (subst (λ (u : Ty). IsOf defs store u v) i a) x)
      | inr x ↦ let k = all_known ts vs n b x in (k.0, inr k.1, k.2, k.3)
    ]

  -- ---- values of the heap

  pub each_known : (t : Ty) (vs : List Value) (n : ℕ) → EachIsOf defs store t vs → Name (references_in vs) n → Knows t n
  each_known t [] n a h = none n h
  each_known t (v ∷ vs) n a h = elim (either (references v) (references_in vs) n h) [
    | inl x ↦ known t v n a.0 x
    | inr x ↦ each_known t vs n a.1 x
  ]

  ref_part : (j : ℕ) (p : Ty) → Part defs (ty.Adt j) p → Part defs (ty.RefAdt j) p
  ref_part j p (reaching.of_adt _ _ f) = of_ref j p f

  ref_reaches : (j : ℕ) (s : Standing) → Reaches defs (ty.Adt j) (type_of s) → Reaches defs (ty.RefAdt j) (type_of s)
  ref_reaches j s (reaches_through _ p _ a r) = reaches_through (ty.RefAdt j) p (type_of s) (ref_part j p a) r
  ref_reaches j (Items t) (reaches_itself _ _ e) = absurd cc
  ref_reaches j (Cells t) (reaches_itself _ _ e) = absurd cc
  ref_reaches j (Adts t) (reaches_itself _ _ e) = absurd cc
  ref_reaches j (Channels t) (reaches_itself _ _ e) = absurd cc
  ref_reaches j Instances (reaches_itself _ _ e) = absurd cc

  ref_known : (j n : ℕ) → Knows (ty.Adt j) n → Knows (ty.RefAdt j) n
  ref_known j n k = record {
    stands = k.stands;
    said = k.said;
    proper = k.proper;
    reached = ref_reaches j k.stands k.reached;
  }

  -- what an instance names is known too, whatever its type
  abbrev pub KnowsBy : Standing → ℕ → Type 0
  KnowsBy Instances n = (t : Ty) × Knows t n
  KnowsBy s n = Knows (type_of s) n

  pub contained : (globals : List Ty) (s : Standing) (u : HeapValue) (n : ℕ) → Contains defs globals store s u
      → 0 < inside u n → KnowsBy s n
  contained globals (Items t) (Elements vs) n c h = through (ty.ArrayOf t) t n (of_array t) (each_known t vs n c h)
  contained globals (Cells t) (Cell v r) n c h = elim (either (references v) (r ∷ []) n (both_words v r n h)) [
    | inl x ↦ through (ty.ListOf t) t n (of_list t) (known t v n c.0 x)
    | inr x ↦ refers_known (ty.ListOf t) (Cells t) r n (λ i. cc) refl c.1 x
  ]
  contained globals (Adts j) (Record v) n c h = ref_known j n (known (ty.Adt j) v n c h)
  contained globals (Channels t) Channel n c h = absurd (omega (arith, h))
  contained globals Instances (Instance vs) n c h = let k = all_known globals vs n c h in (k.0, k.2)
  contained globals _ _ n c h = absurd c
