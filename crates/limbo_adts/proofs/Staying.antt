-- What stays where adts are put behind those that are there.
use Rattle.std.proofs.Common.{◌≡◌, ℕ, zero, suc, ◌+◌, ◌<◌, ◌↔◌, inl, inr, List, [], ◌∷◌, ◌++◌, length, Some, None, refl, sym, ap, subst, ◌∙◌, arith}
use Rattle.std.specs.Prelude.{slice_get}
use Rattle.std.proofs.lemmas.Option.{slice_get_within}
use Rattle.limbo_types.specs.Types.{Ty, Tys, ArrayOf, ListOf, ChanOf, Tuple, Adt, RefAdt, RefPick, NoTys, MoreTys}
use Rattle.limbo_layout.specs.Adts.{Def, Has, listed, parts, field_types, Names, AllName, AreNamed, HasVariant}
use Rattle.limbo_layout.specs.Layout.{Room, Laid, AllLaid, is_alone, of_tuple, of_adt as laid_adt, none_laid, more_laid}
use Rattle.limbo_adts.specs.Reaches.{HasField, Part, of_array, of_list, of_chan, of_tuple as part_tuple, of_adt, of_ref, of_variant, Reaches, reaches_itself, reaches_through}

stays_there : (defs more : List Def) (n : ℕ) (d : Def) → slice_get defs n ≡ Some d → slice_get (defs ++ more) n ≡ Some d
stays_there [] more n d e = absurd cc
stays_there (x ∷ defs) more zero d e = e
stays_there (x ∷ defs) more (suc n) d e = stays_there defs more n d e

was_there : (defs more : List Def) (n : ℕ) → n < length defs → slice_get (defs ++ more) n ≡ slice_get defs n
was_there [] more n l = absurd (omega arith)
was_there (x ∷ defs) more zero l = refl
was_there (x ∷ defs) more (suc n) l = was_there defs more n (omega arith)

mutual
  pub layout_stays : (defs more : List Def) (t : Ty) (r : Room) → Laid defs t r → Laid (defs ++ more) t r
  layout_stays defs more _ _ (is_alone t r e) = is_alone t r e
  layout_stays defs more _ _ (of_tuple ts rs h) = of_tuple ts rs (all_stay defs more (listed ts) rs h)
  layout_stays defs more _ _ (laid_adt n d rs e h) = laid_adt n d rs (stays_there defs more n d e) (all_stay defs more (parts d) rs h)

  all_stay : (defs more : List Def) (ts : List Ty) (rs : List Room) → AllLaid defs ts rs → AllLaid (defs ++ more) ts rs
  all_stay defs more _ _ none_laid = none_laid
  all_stay defs more _ _ (more_laid t ts r rs h hs) = more_laid t ts r rs (layout_stays defs more t r h) (all_stay defs more ts rs hs)

field_stays : (defs more : List Def) (n : ℕ) (t : Ty) → HasField defs n t → HasField (defs ++ more) n t
field_stays defs more n t f = record { def = f.def; there = stays_there defs more n f.def f.there; has = f.has }

field_was : (defs more : List Def) (n : ℕ) (t : Ty) → n < length defs → HasField (defs ++ more) n t → HasField defs n t
field_was defs more n t l f = record { def = f.def; there = sym (was_there defs more n l) ∙ f.there; has = f.has }

part_stays : (defs more : List Def) (t p : Ty) → Part defs t p → Part (defs ++ more) t p
part_stays defs more _ _ (of_array t) = of_array t
part_stays defs more _ _ (of_list t) = of_list t
part_stays defs more _ _ (of_chan t) = of_chan t
part_stays defs more _ _ (part_tuple ts t h) = part_tuple ts t h
part_stays defs more _ _ (of_adt n t f) = of_adt n t (field_stays defs more n t f)
part_stays defs more _ _ (of_ref n t f) = of_ref n t (field_stays defs more n t f)
part_stays defs more _ _ (of_variant n v t f) = of_variant n v t (field_stays defs more n t f)

reach_stays : (defs more : List Def) (t u : Ty) → Reaches defs t u → Reaches (defs ++ more) t u
reach_stays defs more _ _ (reaches_itself t u e) = reaches_itself t u e
reach_stays defs more _ _ (reaches_through t p u a r) = reaches_through t p u (part_stays defs more t p a) (reach_stays defs more p u r)

one_names : (defs : List Def) (modules : ℕ) (ts : Tys) (t : Ty) → AllName defs modules ts → Has (listed ts) t → Names defs modules t
one_names defs modules NoTys t k h = absurd h
one_names defs modules (MoreTys x ts) t k (inl e) = subst (λ (z : Ty). Names defs modules z) e k.0
one_names defs modules (MoreTys x ts) t k (inr h) = one_names defs modules ts t k.1 h

field_names : (defs : List Def) (modules n : ℕ) (t : Ty) → AreNamed defs modules → HasField defs n t → Names defs modules t
field_names defs modules n t a f = a n f.def t f.there f.has

part_was : (defs more : List Def) (modules : ℕ) (t p : Ty) → AreNamed defs modules → Names defs modules t → Part (defs ++ more) t p → Part defs t p × Names defs modules p
part_was defs more modules _ _ a k (of_array t) = (of_array t, k)
part_was defs more modules _ _ a k (of_list t) = (of_list t, k)
part_was defs more modules _ _ a k (of_chan t) = (of_chan t, k)
part_was defs more modules _ _ a k (part_tuple ts t h) = (part_tuple ts t h, one_names defs modules ts t k h)
part_was defs more modules _ _ a k (of_adt n t f) = let g = field_was defs more n t k f in (of_adt n t g, field_names defs modules n t a g)
part_was defs more modules _ _ a k (of_ref n t f) = let g = field_was defs more n t k f in (of_ref n t g, field_names defs modules n t a g)
part_was defs more modules _ _ a k (of_variant n v t f) =
    let g = field_was defs more n t (slice_get_within defs n k.def k.there) f in
    (of_variant n v t g, field_names defs modules n t a g)

reach_was : (defs more : List Def) (modules : ℕ) (t u : Ty) → AreNamed defs modules → Names defs modules t → Reaches (defs ++ more) t u → Reaches defs t u
reach_was defs more modules _ _ a k (reaches_itself t u e) = reaches_itself t u e
reach_was defs more modules _ _ a k (reaches_through t p u h r) =
    let g = part_was defs more modules t p a k h in
    reaches_through t p u g.0 (reach_was defs more modules p u a g.1 r)

pub reach_both : (defs more : List Def) (modules : ℕ) (t u : Ty) → AreNamed defs modules → Names defs modules t → Reaches (defs ++ more) t u ↔ Reaches defs t u
reach_both defs more modules t u a k = (reach_was defs more modules t u a k, reach_stays defs more t u)
