-- Parts by their names.
use Rattle.std.proofs.Common.{◌≡◌, ◌<◌, ◌≤◌, ◌+◌, ◌⊎◌, Vec, Global, ℕ, zero, suc, List, [], ◌∷◌, ◌++◌, length, map, take, get_or, Option, None, Some, true, false, refl, sym, ap, subst, ◌∙◌, arith}
use Rattle.std.specs.Prelude.{slice_get, nat_eq, Result, Ok, Err, IfOk, IfSome, IfNone}
use Rattle.std.specs.Cmp.Lexicographic.{pointwise, nat_list_eq_equiv}
use Rattle.std.proofs.lemmas.List.{length-append, length-map, map-append, take_more}
use Rattle.std.proofs.lemmas.Option.{none-some, same_Some, slice_get_within}
use Rattle.inf_text.specs.InFront.{number_after}
use Rattle.limbo_types.specs.Types.{Ty, Tys, Tuple, Adt, RefAdt, RefPick}
use Rattle.limbo_types.specs.View.{view_ty, tys_of}
use Rattle.limbo_types.specs.declared.ty.Ty as code_ty
use Rattle.limbo_types.specs.declared.ty.Ty.TheVariants as make
use Rattle.limbo_types.proofs.Forms.{HasForm, has_form}
use Rattle.limbo_layout.specs.Adts.{Field, Variant, Def, tag, types_of, variant_types, field_types, parts, listed}
use Rattle.limbo_layout.specs.View.{view_field, view_fields, view_variant}
use Rattle.limbo_layout.specs.declared.def.Variant as code_variant
use Rattle.limbo_layout.specs.declared.def.Field as code_field
use Rattle.limbo_fields.specs.Fields.{IsField, here, further, LacksField, before_common, before_own, own_fields, before_variant, IsPart, own, common}
use Rattle.limbo_fields.specs.Fields.{IsPlaceName, Names, of_adt, of_ref, of_variant, of_tuple}
use Rattle.limbo_fields.specs.Laws.{IsPartOf}

-- ---- texts and numbers

pub less_or : (p n : ℕ) → p < n + 1 → (p < n) ⊎ (p ≡ n)
less_or p n h = grind arith

-- texts that a test tells apart aren't the same
pub differs : (a b : List ℕ) → a ≡ b → false ≡ pointwise nat_eq a b → ⊥
differs a b e f =
    let g : pointwise nat_eq a b ≡ true = subst (λ (z : List ℕ). pointwise nat_eq a z ≡ true) e (nat_list_eq_equiv.refl a) in
    let h : false ≡ true = f ∙ g in
    cc

-- ---- fields

-- the first field of a name, by what stands before it
pub field_at : (fs : List code_field.Field) (k : ℕ) (f : code_field.Field) (name : List ℕ)
    → ((p : ℕ) (g : code_field.Field) → p < k → slice_get fs p ≡ Some g → g.name ≡ name → ⊥)
    → slice_get fs k ≡ Some f → f.name ≡ name → IsField (view_fields fs) name k (view_ty f.ty)
field_at [] k f name none h e = absurd (none-some f h)
field_at (g ∷ fs) zero f name none h e =
    let same = same_Some g f h in
    subst (λ (z : code_field.Field). IsField (view_fields (g ∷ fs)) name 0 (view_ty z.ty)) same
    (here (view_field g) (view_fields fs) name (ap (λ (z : code_field.Field). z.name) same ∙ e))
field_at (g ∷ fs) (suc k) f name none h e =
    further (view_field g) (view_fields fs) name k (view_ty f.ty) (λ i. none 0 g (omega arith) refl i)
    (field_at fs k f name (λ p x l i j. none (suc p) x (omega arith) i j) h e)

lacks : (fs : List code_field.Field) (gs : List Field) (name : List ℕ) → gs ≡ view_fields fs
    → ((p : ℕ) (g : code_field.Field) → p < length fs → slice_get fs p ≡ Some g → g.name ≡ name → ⊥)
    → (place : ℕ) (t : Ty) → IsField gs name place t → ⊥
lacks [] _ name e none _ _ (here f rest _ q) = absurd cc
lacks [] _ name e none _ _ (further f rest _ k t d h) = absurd cc
lacks (g ∷ fs) _ name e none _ _ (here f rest _ q) =
    let s : f ≡ view_field g = cc in none 0 g (omega arith) refl (ap (λ (z : Field). z.name) (sym s) ∙ q)
lacks (g ∷ fs) _ name e none _ _ (further f rest _ k t d h) =
    let s : rest ≡ view_fields fs = cc in lacks fs rest name s (λ p x l i j. none (suc p) x (omega arith) i j) k t h

pub lacks_all : (fs : List code_field.Field) (name : List ℕ)
    → ((p : ℕ) (g : code_field.Field) → p < length fs → slice_get fs p ≡ Some g → g.name ≡ name → ⊥) → LacksField (view_fields fs) name
lacks_all fs name none = λ place t f. lacks fs (view_fields fs) name refl none place t f

-- ---- numbers of fields

pub types_counted : (fs : List Field) → length (types_of fs) ≡ length fs
types_counted [] = refl
types_counted (f ∷ fs) = ap suc (types_counted fs)

pub one_more : (vs : List Variant) (v : Variant) → length (variant_types (vs ++ v ∷ [])) ≡ length (variant_types vs) + length v.fields
one_more [] v =
    let a = length-append (types_of v.fields) [] in
    let b = types_counted v.fields in
    omega arith
one_more (w ∷ vs) v =
    let a = length-append (types_of w.fields) (variant_types (vs ++ v ∷ [])) in
    let b = length-append (types_of w.fields) (variant_types vs) in
    let c = one_more vs v in
    omega arith

-- ---- a field has one place

pub one_field : (fs : List Field) (name : List ℕ) (j k : ℕ) (t u : Ty) → IsField fs name j t → IsField fs name k u → (j ≡ k) × (t ≡ u)
one_field _ name _ _ _ _ (here f fs _ e) (here _ _ _ i) = (refl, refl)
one_field _ name _ _ _ _ (here f fs _ e) (further _ _ _ k u i g) = absurd (i e)
one_field _ name _ _ _ _ (further f fs _ j t e g) (here _ _ _ i) = absurd (e i)
one_field _ name _ _ _ _ (further f fs _ j t e g) (further _ _ _ k u i h) =
    let same = one_field fs name j k t u g h in (ap suc same.0, same.1)

-- ---- a name is one part

module _ (d : Def) (variant : Option ℕ) (name : List ℕ) where
  one_part : (a b : ℕ) (t u : Ty) → IsPart d variant name a t → IsPart d variant name b u → (a ≡ b) × (t ≡ u)
  one_part _ _ _ _ (own j t f) (own k u g) =
      let s = one_field (own_fields d variant) name j k t u f g in (ap (λ (z : ℕ). before_variant d variant + z) s.0, s.1)
  one_part _ _ _ _ (own j t f) (common k u none g) = absurd (none j t f)
  one_part _ _ _ _ (common j t none f) (own k u g) = absurd (none k u g)
  one_part _ _ _ _ (common j t none f) (common k u other g) =
      let s = one_field d.fields name j k t u f g in (ap (λ (z : ℕ). before_common d + z) s.0, s.1)

one_place : (name : List ℕ) (a b : ℕ) → IsPlaceName name a → IsPlaceName name b → a ≡ b
one_place name a b p q =
    let s : 116 ∷ p.digits ≡ 116 ∷ q.digits = sym p.spelled ∙ q.spelled in
    let d : p.digits ≡ q.digits = cc in
    p.value ∙ ap (λ (z : List ℕ). number_after 0 z) d ∙ sym q.value

module _ (defs : List Def) (name : List ℕ) where
  by_def : (n : ℕ) (d e : Def) (variant : Option ℕ) (a b : ℕ) (t u : Ty) → slice_get defs n ≡ Some d → slice_get defs n ≡ Some e
      → IsPart d variant name a t → IsPart e variant name b u → (a ≡ b) × (t ≡ u)
  by_def n d e variant a b t u h i p q =
      let s : d ≡ e = same_Some d e (sym h ∙ i) in
      one_part e variant name a b t u (subst (λ (z : Def). IsPart z variant name a t) s p) q

  pub one : (of : Ty) (a b : ℕ) (t u : Ty) → Names defs name of a t → Names defs name of b u → (a ≡ b) × (t ≡ u)
  one _ _ _ _ _ (of_adt n d a t h p) (of_adt _ e b u i q) = by_def n d e None a b t u h i p q
  one _ _ _ _ _ (of_ref n d a t h p) (of_ref _ e b u i q) = by_def n d e None a b t u h i p q
  one _ _ _ _ _ (of_variant n v d a t h p) (of_variant _ _ e b u i q) = by_def n d e (Some v) a b t u h i p q
  one _ _ _ _ _ (of_tuple ts a t h p) (of_tuple _ b u i q) =
      let s = one_place name a b h i in
      (s, same_Some t u (sym p ∙ subst (λ (z : ℕ). slice_get (listed ts) z ≡ Some u) (sym s) q))

-- ---- a part is there

at_left : {A : Type 0} (xs ys : List A) (k : ℕ) (x : A) → slice_get xs k ≡ Some x → slice_get (xs ++ ys) k ≡ Some x
at_left [] ys k x h = absurd (none-some x h)
at_left (y ∷ xs) ys zero x h = h
at_left (y ∷ xs) ys (suc k) x h = at_left xs ys k x h

at_right : {A : Type 0} (xs ys : List A) (k n : ℕ) (x : A) → n ≡ length xs + k → slice_get ys k ≡ Some x → slice_get (xs ++ ys) n ≡ Some x
at_right [] ys k n x e h = let s : k ≡ n = omega arith in subst (λ (z : ℕ). slice_get ys z ≡ Some x) s h
at_right (y ∷ xs) ys k zero x e h = absurd (omega arith)
at_right (y ∷ xs) ys k (suc n) x e h = at_right xs ys k n x (omega arith) h

field_type : (fs : List Field) (name : List ℕ) (k : ℕ) (t : Ty) → IsField fs name k t → slice_get (types_of fs) k ≡ Some t
field_type _ name _ _ (here f fs _ e) = refl
field_type _ name _ _ (further f fs _ k t n h) = field_type fs name k t h

in_variants : (vs : List Variant) (v : ℕ) (w : Variant) (k : ℕ) (t : Ty) → slice_get vs v ≡ Some w → slice_get (types_of w.fields) k ≡ Some t
    → slice_get (variant_types vs) (length (variant_types (take v vs)) + k) ≡ Some t
in_variants [] v w k t h f = absurd (none-some w h)
in_variants (x ∷ vs) zero w k t h f =
    let s = same_Some x w h in
    at_left (types_of x.fields) (variant_types vs) (0 + k) t
    (let e : k ≡ 0 + k = omega arith in
    subst (λ (z : ℕ). slice_get (types_of x.fields) z ≡ Some t) e
    (subst (λ (z : Variant). slice_get (types_of z.fields) k ≡ Some t) (sym s) f))
in_variants (x ∷ vs) (suc v) w k t h f =
    at_right (types_of x.fields) (variant_types vs) (length (variant_types (take v vs)) + k) _ t
    (let a = length-append (types_of x.fields) (variant_types (take v vs)) in omega arith) (in_variants vs v w k t h f)

own_there : (d : Def) (v : ℕ) (w : Variant) (place : ℕ) (t : Ty) → slice_get d.picks v ≡ Some w → slice_get (types_of w.fields) place ≡ Some t
    → slice_get (parts d) (before_own d v + place) ≡ Some t
own_there d v w place t h f =
    at_right (tag d.picks) (field_types d) (length d.fields + length (variant_types (take v d.picks)) + place) (before_own d v + place) t (omega arith)
    (at_right (types_of d.fields) (variant_types d.picks) (length (variant_types (take v d.picks)) + place)
    (length d.fields + length (variant_types (take v d.picks)) + place) t
    (let a = types_counted d.fields in omega arith) (in_variants d.picks v w place t h f))

no_own : (name : List ℕ) (xs : List Field) → xs ≡ [] → (k : ℕ) (t : Ty) → IsField xs name k t → ⊥
no_own name _ e _ _ (here f fs _ q) = absurd cc
no_own name _ e _ _ (further f fs _ k t n h) = absurd cc

of_own : (d : Def) (name : List ℕ) (variant : Option ℕ) (place : ℕ) (t : Ty) → IsField (own_fields d variant) name place t
    → slice_get (parts d) (before_variant d variant + place) ≡ Some t
of_own d name None place t f = absurd (no_own name [] refl place t f)
of_own d name (Some v) place t f = go (slice_get d.picks v) refl f
  where
    go : (o : Option Variant) → slice_get d.picks v ≡ o → IsField (elim o [ None ↦ [] | Some w ↦ w.fields ]) name place t
        → slice_get (parts d) (before_own d v + place) ≡ Some t
    go None e g = absurd (no_own name [] refl place t g)
    go (Some w) e g = own_there d v w place t e (field_type w.fields name place t g)

part_there : (d : Def) (name : List ℕ) (variant : Option ℕ) (part : ℕ) (t : Ty) → IsPart d variant name part t → slice_get (parts d) part ≡ Some t
part_there d name variant _ _ (own place t f) = of_own d name variant place t f
part_there d name variant _ _ (common place t none f) =
    at_right (tag d.picks) (field_types d) place (before_common d + place) t refl
    (at_left (types_of d.fields) (variant_types d.picks) place t (field_type d.fields name place t f))

pub there : (defs : List Def) (name : List ℕ) (of : Ty) (part : ℕ) (t : Ty) → Names defs name of part t → IsPartOf defs of part t
there defs name _ _ _ (of_adt n d part t h p) = (d, h, part_there d name None part t p)
there defs name _ _ _ (of_ref n d part t h p) = (d, h, part_there d name None part t p)
there defs name _ _ _ (of_variant n v d part t h p) = (d, h, part_there d name (Some v) part t p)
there defs name _ _ _ (of_tuple ts part t h p) = p

-- ---- the code

pub counted : (vs : List code_variant.Variant) (i : ℕ) (v : code_variant.Variant) (n : ℕ) → i < length vs → v ≡ get_or vs i v
    → n ≡ length (variant_types (map view_variant (take i vs)))
    → n + length v.fields.items ≡ length (variant_types (map view_variant (take (i + 1) vs)))
counted vs i v n l e h =
    let a = one_more (map view_variant (take i vs)) (view_variant v) in
    let b : take (i + 1) vs ≡ take i vs ++ v ∷ [] = take_more vs i v l ∙ ap (λ (z : code_variant.Variant). take i vs ++ z ∷ []) (sym e) in
    let c : map view_variant (take (i + 1) vs) ≡ map view_variant (take i vs) ++ view_variant v ∷ [] =
    ap (λ (z : List code_variant.Variant). map view_variant z) b ∙ map-append view_variant (take i vs) (v ∷ []) in
    let d = ap (λ (z : List Variant). length (variant_types z)) c in
    let f = length-map v.fields.items view_field in
    omega arith

pub taken : {A B : Type 0} (f : A → B) (n : ℕ) (xs : List A) → map f (take n xs) ≡ take n (map f xs)
taken f zero xs = refl
taken f (suc n) [] = refl
taken f (suc n) (x ∷ xs) = ap (λ z. f x ∷ z) (taken f n xs)

pub one_tag : (vs : List Variant) (v : ℕ) → v < length vs → length (tag vs) ≡ 1
one_tag [] v l = absurd (omega arith)
one_tag (w ∷ vs) v l = refl

pub own_is : (d : Def) (variant : Option ℕ) (v : ℕ) (name : List ℕ) (fs : List Field) (place n before : ℕ) (t u : Ty) → variant ≡ Some v
    → fs ≡ own_fields d variant → IsField fs name place t → t ≡ u → before ≡ before_own d v → n ≡ before + place → IsPart d variant name n u
own_is d variant v name fs place n before t u e f g h i j =
    let a : IsField (own_fields d variant) name place t = subst (λ (z : List Field). IsField z name place t) f g in
    let b : before_variant d variant + place ≡ n = ap (λ (z : Option ℕ). before_variant d z + place) e ∙ ap (λ (z : ℕ). z + place) (sym i) ∙ sym j in
    subst (λ (z : ℕ). IsPart d variant name z u) b (subst (λ (z : Ty). IsPart d variant name (before_variant d variant + place) z) h (own place t a))

pub common_is : (d : Def) (variant : Option ℕ) (name : List ℕ) (fs : List Field) (place before : ℕ) (t u : Ty) → LacksField (own_fields d variant) name
    → fs ≡ d.fields → IsField fs name place t → t ≡ u → before ≡ before_common d → IsPart d variant name (before + place) u
common_is d variant name fs place before t u none f g h i =
    let a : IsField d.fields name place t = subst (λ (z : List Field). IsField z name place t) f g in
    subst (λ (z : ℕ). IsPart d variant name (z + place) u) (sym i)
    (subst (λ (z : Ty). IsPart d variant name (before_common d + place) z) h (common place t none a))

pub none_common : (d : Def) (variant : Option ℕ) (name : List ℕ) (fs : List Field) → fs ≡ d.fields → LacksField (own_fields d variant) name → LacksField fs name
    → (part : ℕ) (t : Ty) → IsPart d variant name part t → ⊥
none_common d variant name fs e f g _ _ (own place t h) = f place t h
none_common d variant name fs e f g _ _ (common place t none h) = g place t (subst (λ (z : List Field). IsField z name place t) (sym e) h)

-- ---- answers by the form of the type

pub none_at : {X : Type 0} {P : Type 0} (o : Option X) → IfNone o P → o ≡ None → P
none_at {X} {P} None p e = p
none_at {X} {P} (Some x) p e = absurd cc

pub ok_some : {X E : Type 0} (r : Result (Option X) E) (P Q : X → Type 0) → ((x : X) → P x → Q x) → IfOk r (λ o. IfSome o P) → IfOk r (λ o. IfSome o Q)
ok_some (Ok None) P Q f h = tt
ok_some (Ok (Some x)) P Q f h = f x h
ok_some (Err e) P Q f h = tt

pub ok_none : {X E : Type 0} (r : Result (Option X) E) (P Q : Type 0) → (P → Q) → IfOk r (λ o. IfNone o P) → IfOk r (λ o. IfNone o Q)
ok_none (Ok None) P Q f h = f h
ok_none (Ok (Some x)) P Q f h = tt
ok_none (Err e) P Q f h = tt

pub some_some : {X : Type 0} (o : Option X) (P Q : X → Type 0) → ((x : X) → P x → Q x) → IfSome o P → IfSome o Q
some_some None P Q f h = tt
some_some (Some x) P Q f h = f x h

pub none_none : {X : Type 0} (o : Option X) (P Q : Type 0) → (P → Q) → IfNone o P → IfNone o Q
none_none None P Q f h = f h
none_none (Some x) P Q f h = tt

module _ (defs : List Def) (name : List ℕ) where
  pub none_adt : (n : ℕ) → ((d : Def) (part : ℕ) (t : Ty) → slice_get defs n ≡ Some d → IsPart d None name part t → ⊥)
      → (part : ℕ) (t : Ty) → Names defs name (Adt n) part t → ⊥
  none_adt n f _ _ (of_adt _ d part t h p) = f d part t h p

  pub none_ref : (n : ℕ) → ((d : Def) (part : ℕ) (t : Ty) → slice_get defs n ≡ Some d → IsPart d None name part t → ⊥)
      → (part : ℕ) (t : Ty) → Names defs name (RefAdt n) part t → ⊥
  none_ref n f _ _ (of_ref _ d part t h p) = f d part t h p

  pub none_variant : (n v : ℕ) → ((d : Def) (part : ℕ) (t : Ty) → slice_get defs n ≡ Some d → IsPart d (Some v) name part t → ⊥)
      → (part : ℕ) (t : Ty) → Names defs name (RefPick n v) part t → ⊥
  none_variant n v f _ _ (of_variant _ _ d part t h p) = f d part t h p

  pub none_tuple : (ts : Tys) → ((n : ℕ) (t : Ty) → IsPlaceName name n → slice_get (listed ts) n ≡ Some t → ⊥)
      → (part : ℕ) (t : Ty) → Names defs name (Tuple ts) part t → ⊥
  none_tuple ts f _ _ (of_tuple _ part t h p) = f part t h p

pub type_at : (ts : List code_ty.Ty) (k : ℕ) (t : code_ty.Ty) → k < length ts → t ≡ get_or ts k t → slice_get (map view_ty ts) k ≡ Some (view_ty t)
type_at [] k t l e = absurd (omega arith)
type_at (u ∷ ts) zero t l e = ap (λ (z : code_ty.Ty). Some (view_ty z)) (sym e)
type_at (u ∷ ts) (suc k) t l e = type_at ts k t (omega arith) e

pub none_past : (ts : List code_ty.Ty) (k : ℕ) (t : Ty) → length ts ≤ k → slice_get (map view_ty ts) k ≡ Some t → ⊥
none_past ts k t l h =
    let a = slice_get_within (map view_ty ts) k t h in
    let b = length-map ts view_ty in
    omega arith

pub all_listed : (ts : List Ty) → listed (tys_of ts) ≡ ts
all_listed [] = refl
all_listed (t ∷ ts) = ap (λ (z : List Ty). t ∷ z) (all_listed ts)

module _ (defs : List Def) (name : List ℕ) (u : code_ty.Ty) (no_tuple : (vs : Vec code_ty.Ty Global) → u ≡ make.Tuple vs → ⊥)
    (no_adt : (n : ℕ) → u ≡ make.Adt n → ⊥) (no_ref : (n : ℕ) → u ≡ make.RefAdt n → ⊥) (no_pick : (n v : ℕ) → u ≡ make.RefPick n v → ⊥) where
  by_form : (v : Ty) → HasForm u v → (part : ℕ) (t : Ty) → Names defs name v part t → ⊥
  by_form _ h _ _ (of_adt n d part t i p) = no_adt h.0 h.1
  by_form _ h _ _ (of_ref n d part t i p) = no_ref h.0 h.1
  by_form _ h _ _ (of_variant n v d part t i p) = no_pick h.0 h.1 h.2
  by_form _ h _ _ (of_tuple ts part t i p) = no_tuple h.0 h.1

  pub none_other : (part : ℕ) (t : Ty) → Names defs name (view_ty u) part t → ⊥
  none_other part t n = by_form (view_ty u) (has_form u) part t n
