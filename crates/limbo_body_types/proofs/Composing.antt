-- Types that are made of others.
use Rattle.std.proofs.Common.{◌≡◌, ◌<◌, ◌+◌, ◌++◌, ◌∷◌, [], ℕ, List, Bool, length, get_or, map, take, sym, ap, subst, ◌∙◌, Vec, Global, Box}
use Rattle.std.specs.List.{Contains}
use Rattle.std.proofs.lemmas.List.{map_more, map-append}
use Rattle.inf_text.specs.declared.span.Span.{Span}
use Rattle.limbo_tree.specs.declared.types.TypeTree as code_type
use Rattle.limbo_tree.specs.declared.types.TypeTree.TheVariants as make
use Rattle.limbo_tree.specs.declared.name.Qual as code_qual
use Rattle.limbo_tree.specs.Types as tree
use Rattle.limbo_tree.specs.View as view
use Rattle.limbo_tree.specs.View.{view_type}
use Rattle.limbo_tree.proofs.Exprs.{view_type-Array, view_type-List, view_type-Chan, view_type-Tuple}
use Rattle.limbo_types.specs.declared.ty.Ty as code_ty
use Rattle.limbo_types.specs.declared.ty.Ty.TheVariants as make_ty
use Rattle.limbo_types.specs.Types as ty
use Rattle.limbo_types.specs.Types.{Ty}
use Rattle.limbo_types.specs.View.{view_ty, view_tys, tys_of}
use Rattle.limbo_types.proofs.View.{view_ty-Array, view_ty-List, view_ty-Chan}
use Rattle.limbo_context.specs.Context.{Context, Body}
use Rattle.limbo_body_types.specs.declared.fault.WrittenFault.{WrittenFault}
use Rattle.limbo_body_types.specs.declared.fault.WrittenFault.TheVariants.{NoMemory, Unknown, NotAType}
use Rattle.limbo_body_types.specs.Means.{Means, AllMean, array, list, chan, no_more, and_more}
use Rattle.limbo_body_types.specs.Fails.{Writes, IsPart, of_tuple, in_part, Fails}
use Rattle.limbo_body_types.specs.Found.{FailsPart, FailsName}

pub of_parts : (t : code_type.TypeTree) (xs : List code_type.TypeTree) (ts : Vec code_type.TypeTree Global) (s : Span) → t ≡ make.Tuple ts s → xs ≡ ts.items
    → tree.Tuple (view.tys_of (map view_type xs)) ≡ view_type t
unfolding view.view_types
of_parts t xs ts s i e = ap (λ z. tree.Tuple (view.tys_of (map view_type z))) e ∙ sym (view_type-Tuple ts s) ∙ sym (ap view_type i)

module _ (c : Context) (b : Body) where
  -- ---- by what is equal

  pub means_as : (t w : tree.Ty) (u v : Ty) → t ≡ w → u ≡ v → Means c b w v → Means c b t u
  means_as t w u v e f h = subst (λ (z : tree.Ty). Means c b z u) (sym e) (subst (λ (z : Ty). Means c b w z) (sym f) h)

  pub array_means : (t x : code_type.TypeTree) (e : Box code_type.TypeTree Global) (s : Span) (y : Box code_ty.Ty Global) (i : code_ty.Ty)
      → t ≡ make.Array e s → x ≡ e.value → y.value ≡ i → Means c b (view_type x) (view_ty i) → Means c b (view_type t) (view_ty (make_ty.Array y))
  array_means t x e s y i is at made h =
      means_as _ _ _ _ (ap view_type is ∙ view_type-Array e s) (view_ty-Array y)
      (array (view_type e.value) (view_ty y.value) (means_as _ _ _ _ (ap view_type (sym at)) (ap view_ty made) h))

  pub list_means : (t x : code_type.TypeTree) (e : Box code_type.TypeTree Global) (s : Span) (y : Box code_ty.Ty Global) (i : code_ty.Ty)
      → t ≡ make.List e s → x ≡ e.value → y.value ≡ i → Means c b (view_type x) (view_ty i) → Means c b (view_type t) (view_ty (make_ty.List y))
  list_means t x e s y i is at made h =
      means_as _ _ _ _ (ap view_type is ∙ view_type-List e s) (view_ty-List y)
      (list (view_type e.value) (view_ty y.value) (means_as _ _ _ _ (ap view_type (sym at)) (ap view_ty made) h))

  pub chan_means : (t x : code_type.TypeTree) (e : Box code_type.TypeTree Global) (s : Span) (y : Box code_ty.Ty Global) (i : code_ty.Ty)
      → t ≡ make.Chan e s → x ≡ e.value → y.value ≡ i → Means c b (view_type x) (view_ty i) → Means c b (view_type t) (view_ty (make_ty.Chan y))
  chan_means t x e s y i is at made h =
      means_as _ _ _ _ (ap view_type is ∙ view_type-Chan e s) (view_ty-Chan y)
      (chan (view_type e.value) (view_ty y.value) (means_as _ _ _ _ (ap view_type (sym at)) (ap view_ty made) h))

  -- ---- one more part

  split : (t : tree.Ty) (u : Ty) (ts : tree.Tys) (us : ty.Tys) → AllMean c b (tree.MoreTys t ts) (ty.MoreTys u us)
      → Means c b t u × AllMean c b ts us
  split _ _ _ _ (and_more t ts u us x y) = (x, y)

  mean_push : (ts : List tree.Ty) (us : List Ty) (t : tree.Ty) (u : Ty) → AllMean c b (view.tys_of ts) (tys_of us) → Means c b t u
      → AllMean c b (view.tys_of (ts ++ (t ∷ []))) (tys_of (us ++ (u ∷ [])))
  mean_push [] [] t u x y = and_more t tree.NoTys u ty.NoTys y no_more
  mean_push [] (v ∷ us) t u x y = elim x [ ]
  mean_push (s ∷ ts) [] t u x y = elim x [ ]
  mean_push (s ∷ ts) (v ∷ us) t u x y =
      let z = split s v (view.tys_of ts) (tys_of us) x in
      and_more s (view.tys_of (ts ++ (t ∷ []))) v (tys_of (us ++ (u ∷ []))) z.0 (mean_push ts us t u z.1 y)

  pub mean_more : (ts : List code_type.TypeTree) (i : ℕ) (x : code_type.TypeTree) (us : List code_ty.Ty) (u : code_ty.Ty)
      → i < length ts → x ≡ get_or ts i x → AllMean c b (view.tys_of (map view_type (take i ts))) (view_tys us) → Means c b (view_type x) (view_ty u)
      → AllMean c b (view.tys_of (map view_type (take (i + 1) ts))) (view_tys (us ++ (u ∷ [])))
  mean_more ts i x us u l e y z =
      subst (λ (w : List tree.Ty). AllMean c b (view.tys_of w) (view_tys (us ++ (u ∷ []))))
      (ap (λ w. map view_type (take i ts) ++ (view_type w ∷ [])) e ∙ sym (map_more view_type ts i x l))
      (subst (λ (w : List Ty). AllMean c b (view.tys_of (map view_type (take i ts) ++ (view_type x ∷ []))) (tys_of w)) (sym (map-append view_ty us (u ∷ [])))
      (mean_push (map view_type (take i ts)) (map view_ty us) (view_type x) (view_ty u) y z))

  -- ---- refusals

  pub fails_in : (t p : code_type.TypeTree) → IsPart t p → (e : WrittenFault) → Fails c b p e → Fails c b t e
  fails_in t p is NoMemory f = tt
  fails_in t p is (Unknown at) f = record
      { name = f.name; behind_ref = f.behind_ref; writes = in_part t p f.name f.behind_ref at is f.writes; lacks = f.lacks }
  fails_in t p is (NotAType at) f = record
      { name = f.name; behind_ref = f.behind_ref; writes = in_part t p f.name f.behind_ref at is f.writes; no_type = f.no_type }

  pub fails_as : (t p x : code_type.TypeTree) → IsPart t p → x ≡ p → (e : WrittenFault) → Fails c b x e → Fails c b t e
  fails_as t p x is at e f = fails_in t p is e (subst (λ (z : code_type.TypeTree). Fails c b z e) at f)

  pub fails_tuple : (t : code_type.TypeTree) (parts : Vec code_type.TypeTree Global) (s : Span) → t ≡ make.Tuple parts s
      → (e : WrittenFault) → FailsPart c b parts.items e → Fails c b t e
  fails_tuple t parts s is NoMemory f = tt
  fails_tuple t parts s is (Unknown at) f = fails_in t f.0 (of_tuple parts s f.0 is f.1) (Unknown at) f.2
  fails_tuple t parts s is (NotAType at) f = fails_in t f.0 (of_tuple parts s f.0 is f.1) (NotAType at) f.2

  pub fails_part : (ts : List code_type.TypeTree) (p : code_type.TypeTree) → Contains ts p → (e : WrittenFault) → Fails c b p e → FailsPart c b ts e
  fails_part ts p h NoMemory f = tt
  fails_part ts p h (Unknown at) f = (p, h, f)
  fails_part ts p h (NotAType at) f = (p, h, f)

  pub fails_name : (t : code_type.TypeTree) (q : code_qual.Qual) (r : Bool) (at : Span) → Writes t q r at → (e : WrittenFault)
      → FailsName c b (view.view_qual q) r at e → Fails c b t e
  fails_name t q r at w NoMemory f = tt
  fails_name t q r at w (Unknown s) f = record
      { name = q; behind_ref = r; writes = subst (λ (z : Span). Writes t q r z) (sym f.0) w; lacks = f.1 }
  fails_name t q r at w (NotAType s) f = record
      { name = q; behind_ref = r; writes = subst (λ (z : Span). Writes t q r z) (sym f.0) w; no_type = f.1 }
