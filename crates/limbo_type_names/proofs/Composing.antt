-- Types that are made of others.
use Rattle.std.proofs.Common.{◌≡◌, ◌<◌, ◌≤◌, ◌+◌, ◌++◌, ◌∷◌, [], ℕ, zero, suc, List, Option, Bool, length, get_or, map, take, sym, ap, subst, ◌∙◌, Vec, Global, Box, add_assoc, add-zero, zero-add, arith}
use Rattle.std.specs.List.{Contains}
use Rattle.std.proofs.lemmas.List.{map_more, map-append}
use Rattle.std.proofs.lemmas.List.Elements.{Contains-append_left, Contains-append_right}
use Rattle.inf_text.specs.declared.span.Span.{Span}
use Rattle.limbo_tree.specs.declared.types.TypeTree as code_type
use Rattle.limbo_tree.specs.declared.types.TypeTree.TheVariants as make
use Rattle.limbo_tree.specs.declared.name.Qual as code_qual
use Rattle.limbo_tree.specs.Types as tree
use Rattle.limbo_tree.proofs.Exprs.{view_type-Array, view_type-List, view_type-Chan, view_type-Ref, view_type-Named, view_type-Tuple}
use Rattle.limbo_naming.specs.Qualified.{Qualified, of_type}
use Rattle.limbo_unknown.specs.Written.{in_type, in_types}
use Rattle.limbo_type_names.specs.declared.known.Known.{Known}
use Rattle.limbo_tree.specs.View as view
use Rattle.limbo_tree.specs.View.{view_type}
use Rattle.limbo_types.specs.declared.ty.Ty as code_ty
use Rattle.limbo_types.specs.Types as ty
use Rattle.limbo_types.specs.Types.{Ty}
use Rattle.limbo_types.specs.View.{view_ty, view_tys, tys_of}
use Rattle.limbo_entries.specs.Entries.{Entry}
use Rattle.limbo_type_names.specs.declared.fault.TypeFault.{TypeFault}
use Rattle.limbo_type_names.specs.declared.fault.TypeFault.TheVariants.{NoMemory, Unknown, NotAType}
use Rattle.limbo_type_names.specs.Sizes.{size, sizes}
use Rattle.limbo_type_names.specs.Means.{Means, AllMean, no_more, and_more}
use Rattle.limbo_type_names.specs.Writes.{Writes, IsPart, of_tuple, in_part, Fails}
use Rattle.limbo_type_names.specs.Working.{FailsPart, FailsName, AreReady}

-- ---- one more part

split : (es : List Entry) (m : ℕ) (scope : Option ℕ) (t : tree.Ty) (u : Ty) (ts : tree.Tys) (us : ty.Tys)
    → AllMean es m scope (tree.MoreTys t ts) (ty.MoreTys u us) → Means es m scope t u × AllMean es m scope ts us
split es m _ _ _ _ _ (and_more scope t ts u us a b) = (a, b)

mean_push : (es : List Entry) (m : ℕ) (scope : Option ℕ) (ts : List tree.Ty) (us : List Ty) (t : tree.Ty) (u : Ty)
    → AllMean es m scope (view.tys_of ts) (tys_of us) → Means es m scope t u → AllMean es m scope (view.tys_of (ts ++ (t ∷ []))) (tys_of (us ++ (u ∷ [])))
mean_push es m scope [] [] t u a b = and_more scope t tree.NoTys u ty.NoTys b (no_more scope)
mean_push es m scope [] (v ∷ us) t u a b = elim a [ ]
mean_push es m scope (s ∷ ts) [] t u a b = elim a [ ]
mean_push es m scope (s ∷ ts) (v ∷ us) t u a b =
    let x = split es m scope s v (view.tys_of ts) (tys_of us) a in
    and_more scope s (view.tys_of (ts ++ (t ∷ []))) v (tys_of (us ++ (u ∷ []))) x.0 (mean_push es m scope ts us t u x.1 b)

sizes_push : (us : List Ty) (u : Ty) → sizes (tys_of (us ++ (u ∷ []))) ≡ sizes (tys_of us) + size u
sizes_push [] u = add-zero (size u) ∙ sym (zero-add (size u))
sizes_push (v ∷ us) u = ap (λ n. size v + n) (sizes_push us u) ∙ sym (add_assoc (size v) (sizes (tys_of us)) (size u))

pub mean_more : (es : List Entry) (m : ℕ) (scope : Option ℕ) (ts : List code_type.TypeTree) (i : ℕ) (x : code_type.TypeTree) (us : List code_ty.Ty) (u : code_ty.Ty)
    → i < length ts → x ≡ get_or ts i x → AllMean es m scope (view.tys_of (map view_type (take i ts))) (view_tys us) → Means es m scope (view_type x) (view_ty u)
    → AllMean es m scope (view.tys_of (map view_type (take (i + 1) ts))) (view_tys (us ++ (u ∷ [])))
mean_more es m scope ts i x us u l e a b =
    subst (λ (z : List tree.Ty). AllMean es m scope (view.tys_of z) (view_tys (us ++ (u ∷ []))))
    (ap (λ z. map view_type (take i ts) ++ (view_type z ∷ [])) e ∙ sym (map_more view_type ts i x l))
    (subst (λ (z : List Ty). AllMean es m scope (view.tys_of (map view_type (take i ts) ++ (view_type x ∷ []))) (tys_of z)) (sym (map-append view_ty us (u ∷ [])))
    (mean_push es m scope (map view_type (take i ts)) (map view_ty us) (view_type x) (view_ty u) a b))

pub sizes_more : (us : List code_ty.Ty) (u : code_ty.Ty) → sizes (view_tys (us ++ (u ∷ []))) ≡ sizes (view_tys us) + size (view_ty u)
sizes_more us u = ap (λ z. sizes (tys_of z)) (map-append view_ty us (u ∷ [])) ∙ sizes_push (map view_ty us) (view_ty u)

-- ---- refusals of parts

pub fails_in : (es : List Entry) (m : ℕ) (scope : Option ℕ) (t p : code_type.TypeTree) → IsPart t p → (e : TypeFault) → Fails es m scope p e → Fails es m scope t e
fails_in es m scope t p is NoMemory f = tt
fails_in es m scope t p is (Unknown at) f = record {
  name = f.name;
  behind_ref = f.behind_ref;
  writes = in_part t p f.name f.behind_ref at is f.writes;
  lacks = f.lacks;
}
fails_in es m scope t p is (NotAType at) f = record {
  name = f.name;
  behind_ref = f.behind_ref;
  writes = in_part t p f.name f.behind_ref at is f.writes;
  no_type = f.no_type;
}

pub fails_tuple : (es : List Entry) (m : ℕ) (scope : Option ℕ) (t : code_type.TypeTree) (parts : Vec code_type.TypeTree Global) (s : Span) → t ≡ make.Tuple parts s
    → (e : TypeFault) → FailsPart es m scope parts.items e → Fails es m scope t e
fails_tuple es m scope t parts s is NoMemory f = tt
fails_tuple es m scope t parts s is (Unknown at) f = fails_in es m scope t f.0 (of_tuple parts s f.0 is f.1) (Unknown at) f.2
fails_tuple es m scope t parts s is (NotAType at) f = fails_in es m scope t f.0 (of_tuple parts s f.0 is f.1) (NotAType at) f.2

pub fails_part : (es : List Entry) (m : ℕ) (scope : Option ℕ) (ts : List code_type.TypeTree) (p : code_type.TypeTree) → Contains ts p → (e : TypeFault) → Fails es m scope p e
    → FailsPart es m scope ts e
fails_part es m scope ts p h NoMemory f = tt
fails_part es m scope ts p h (Unknown at) f = (p, h, f)
fails_part es m scope ts p h (NotAType at) f = (p, h, f)

-- a refusal of a name
pub fails_name : (es : List Entry) (m : ℕ) (scope : Option ℕ) (t : code_type.TypeTree) (q : code_qual.Qual) (r : Bool) (at : Span) → Writes t q r at → (e : TypeFault)
    → FailsName es m scope (of_type (view.view_qual q)) r at e → Fails es m scope t e
fails_name es m scope t q r at w NoMemory f = tt
fails_name es m scope t q r at w (Unknown s) f = record {
  name = q;
  behind_ref = r;
  writes = subst (λ (z : Span). Writes t q r z) (sym f.0) w;
  lacks = f.1;
}
fails_name es m scope t q r at w (NotAType s) f = record {
  name = q;
  behind_ref = r;
  writes = subst (λ (z : Span). Writes t q r z) (sym f.0) w;
  no_type = f.1;
}

-- ---- what is known of the names in a type is known of those in its parts

pub ready_same : (s : Known) (scope : Option ℕ) (xs ys : List Qualified) → xs ≡ ys → AreReady s scope ys → AreReady s scope xs
ready_same s scope xs ys e r = subst (λ (z : List Qualified). AreReady s scope z) (sym e) r

pub in_array : (t x : code_type.TypeTree) (b : Box code_type.TypeTree Global) (s : Span) → t ≡ make.Array b s → x ≡ b.value → in_type (view_type x) ≡ in_type (view_type t)
in_array t x b s i e = ap (λ z. in_type (view_type z)) e ∙ sym (ap in_type (view_type-Array b s)) ∙ sym (ap (λ z. in_type (view_type z)) i)

pub in_list : (t x : code_type.TypeTree) (b : Box code_type.TypeTree Global) (s : Span) → t ≡ make.List b s → x ≡ b.value → in_type (view_type x) ≡ in_type (view_type t)
in_list t x b s i e = ap (λ z. in_type (view_type z)) e ∙ sym (ap in_type (view_type-List b s)) ∙ sym (ap (λ z. in_type (view_type z)) i)

pub in_chan : (t x : code_type.TypeTree) (b : Box code_type.TypeTree Global) (s : Span) → t ≡ make.Chan b s → x ≡ b.value → in_type (view_type x) ≡ in_type (view_type t)
in_chan t x b s i e = ap (λ z. in_type (view_type z)) e ∙ sym (ap in_type (view_type-Chan b s)) ∙ sym (ap (λ z. in_type (view_type z)) i)

pub in_ref : (t : code_type.TypeTree) (q : code_qual.Qual) (s : Span) → t ≡ make.Ref q s → of_type (view.view_qual q) ∷ [] ≡ in_type (view_type t)
in_ref t q s i = sym (ap in_type (view_type-Ref q s)) ∙ sym (ap (λ z. in_type (view_type z)) i)

pub in_named : (t : code_type.TypeTree) (q : code_qual.Qual) (s : Span) → t ≡ make.Named q s → of_type (view.view_qual q) ∷ [] ≡ in_type (view_type t)
in_named t q s i = sym (ap in_type (view_type-Named q s)) ∙ sym (ap (λ z. in_type (view_type z)) i)

pub of_parts : (t : code_type.TypeTree) (xs : List code_type.TypeTree) (ts : Vec code_type.TypeTree Global) (s : Span) → t ≡ make.Tuple ts s → xs ≡ ts.items
    → tree.Tuple (view.tys_of (map view_type xs)) ≡ view_type t
unfolding view.view_types
of_parts t xs ts s i e = ap (λ z. tree.Tuple (view.tys_of (map view_type z))) e ∙ sym (view_type-Tuple ts s) ∙ sym (ap view_type i)

pub in_tuple : (t : code_type.TypeTree) (xs : List code_type.TypeTree) (ts : Vec code_type.TypeTree Global) (s : Span) → t ≡ make.Tuple ts s → xs ≡ ts.items
    → in_types (view.tys_of (map view_type xs)) ≡ in_type (view_type t)
in_tuple t xs ts s i e = ap in_type (of_parts t xs ts s i e)

in_part_of : (ts : List code_type.TypeTree) (i : ℕ) (x : code_type.TypeTree) (q : Qualified) → i < length ts → x ≡ get_or ts i x → Contains (in_type (view_type x)) q
    → Contains (in_types (view.tys_of (map view_type ts))) q
in_part_of [] i x q l e h = absurd (omega arith)
in_part_of (t ∷ ts) zero x q l e h =
    Contains-append_left (in_type (view_type t)) (in_types (view.tys_of (map view_type ts))) q (subst (λ (z : code_type.TypeTree). Contains (in_type (view_type z)) q) e h)
in_part_of (t ∷ ts) (suc i) x q l e h =
    Contains-append_right (in_type (view_type t)) (in_types (view.tys_of (map view_type ts))) q (in_part_of ts i x q (omega arith) e h)

pub ready_part : (s : Known) (scope : Option ℕ) (ts : List code_type.TypeTree) (i : ℕ) (x : code_type.TypeTree) → i < length ts → x ≡ get_or ts i x
    → AreReady s scope (in_types (view.tys_of (map view_type ts))) → AreReady s scope (in_type (view_type x))
ready_part s scope ts i x l e r q k h d = r q k (in_part_of ts i x q l e h) d

-- ---- by what is equal

pub means_as : (es : List Entry) (m : ℕ) (scope : Option ℕ) (t w : tree.Ty) (u v : Ty) → t ≡ w → u ≡ v → Means es m scope w v → Means es m scope t u
means_as es m scope t w u v e f h = subst (λ (z : tree.Ty). Means es m scope z u) (sym e) (subst (λ (z : Ty). Means es m scope w z) (sym f) h)

-- ---- parts nest less deep

pub below_array : (t x : code_type.TypeTree) (b : Box code_type.TypeTree Global) (s : Span) → t ≡ make.Array b s → x ≡ b.value
    → tree.ty_nesting (view_type t) ≡ 1 + tree.ty_nesting (view_type x)
below_array t x b s i e = ap (λ z. tree.ty_nesting (view_type z)) i ∙ ap tree.ty_nesting (view_type-Array b s) ∙ ap (λ z. 1 + tree.ty_nesting (view_type z)) (sym e)

pub below_list : (t x : code_type.TypeTree) (b : Box code_type.TypeTree Global) (s : Span) → t ≡ make.List b s → x ≡ b.value
    → tree.ty_nesting (view_type t) ≡ 1 + tree.ty_nesting (view_type x)
below_list t x b s i e = ap (λ z. tree.ty_nesting (view_type z)) i ∙ ap tree.ty_nesting (view_type-List b s) ∙ ap (λ z. 1 + tree.ty_nesting (view_type z)) (sym e)

pub below_chan : (t x : code_type.TypeTree) (b : Box code_type.TypeTree Global) (s : Span) → t ≡ make.Chan b s → x ≡ b.value
    → tree.ty_nesting (view_type t) ≡ 1 + tree.ty_nesting (view_type x)
below_chan t x b s i e = ap (λ z. tree.ty_nesting (view_type z)) i ∙ ap tree.ty_nesting (view_type-Chan b s) ∙ ap (λ z. 1 + tree.ty_nesting (view_type z)) (sym e)

pub below_tuple : (t : code_type.TypeTree) (xs : List code_type.TypeTree) (ts : Vec code_type.TypeTree Global) (s : Span) → t ≡ make.Tuple ts s → xs ≡ ts.items
    → tree.ty_nesting (view_type t) ≡ 1 + tree.tys_nesting (view.tys_of (map view_type xs))
below_tuple t xs ts s i e = sym (ap tree.ty_nesting (of_parts t xs ts s i e))

pub below_part : (ts : List code_type.TypeTree) (i : ℕ) (x : code_type.TypeTree) → i < length ts → x ≡ get_or ts i x
    → tree.ty_nesting (view_type x) ≤ tree.tys_nesting (view.tys_of (map view_type ts))
below_part [] i x l e = absurd (omega arith)
below_part (t ∷ ts) zero x l e = let f : tree.ty_nesting (view_type x) ≡ tree.ty_nesting (view_type t) = ap (λ z. tree.ty_nesting (view_type z)) e in omega arith
below_part (t ∷ ts) (suc i) x l e = let h = below_part ts i x (omega arith) e in omega arith
