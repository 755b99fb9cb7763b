-- What the lists of a context speak of stays named behind declarations.
use Rattle.std.proofs.Common.{◌≡◌, ◌≤◌, ◌⊎◌, inl, inr, ℕ, zero, suc, Bool, true, false, List, [], ◌∷◌, ◌++◌, length, map, take}
use Rattle.std.proofs.Common.{Option, None, Some, refl, sym, ap, subst, ◌∙◌, arith}
use Rattle.std.specs.Prelude.{slice_get}
use Rattle.std.proofs.lemmas.Option.{none-some, same_Some}
use Rattle.limbo_types.specs.Types.{Ty, Tys, NoTys, MoreTys, FnTy, Tuple}
use Rattle.limbo_types.specs.View.{tys_of}
use Rattle.limbo_layout.specs.Adts.{Def, Variant, Field, Has, Names, AllName, field_types, types_of, variant_types, tag, parts, listed}
use Rattle.limbo_tree.specs.Exprs as tree
use Rattle.limbo_tree.specs.Types as written
use Rattle.limbo_tree.specs.Decls as decls
use Rattle.limbo_tree.specs.Decls.{Decl, Member, VarMember, FnMember, ConMember, TypeMember, AdtMember, Members, NoMembers, MoreMembers}
use Rattle.limbo_typed.specs.Typed.{Var, Stmt, Interface, Signature, Exception}
use Rattle.limbo_typed.specs.Sound.{Each, type_of, IsSettled, AllSettled}
use Rattle.limbo_context.specs.Context.{Context, Body, Valued, Callee}
use Rattle.limbo_typed_sound.specs.limbo_written.Written.{MeansPermitted}
use Rattle.limbo_stating.specs.limbo_local.Points.{Point, with_body, enter, leave, with_variables}
use Rattle.limbo_stating.specs.limbo_local.Local.{AreConstants, with_constants, with_types, with_imports, with_exceptions}
use Rattle.limbo_stating.specs.limbo_local.Local.{argument_types, ArePermitted, IsAnswer, IsHeader}
use Rattle.limbo_stating.specs.limbo_local.Members.{Inside, beside, adt_inside, fields, changed, variants_in, named_variants, bare, showing_adt}
use Rattle.limbo_stating.specs.limbo_local.Members.{showing_module, AreFields, AreVariants, AddsToAdt, AllAddToAdt, with_adts}
use Rattle.limbo_stating.specs.limbo_local.Members.{AllMayStand, IsAdt, with_functions, with_signatures, AddsToModule, AllAddToModule}
use Rattle.limbo_stating.specs.limbo_local.Declaring.{Declares}
use Rattle.limbo_typed_sound.specs.Describing.{Begins}
use Rattle.limbo_typed_sound.proofs.Lists.{each_and, begins_with}
use Rattle.limbo_typed_sound.proofs.More.{more_names, means_settled}
use Rattle.limbo_stated_sound.specs.Named.{IsNamedIn, OfFunction, HoldsOf, IsNamedThroughout}
use Rattle.limbo_stated_sound.proofs.Lists.{begins_itself, as_long}
use Rattle.limbo_stated_sound.proofs.Leading as leads
use Rattle.limbo_stated_sound.proofs.Leading.{named_adt}
use Rattle.limbo_stated_sound.proofs.Imports.{at_the_end}
use Rattle.limbo_stated_sound.proofs.Members.{named_module}
use Rattle.limbo_stated_sound.proofs.Seen.{each_as, Grown, shaped_names}
use Rattle.limbo_stated_sound.proofs.Opening.{bare_variants, first_taken, added, complete_grows}

-- ---- what holds of types, of others

function_as : (P Q : Ty → Type 0) (f : FnTy) → ((t : Ty) → P t → Q t) → OfFunction P f → OfFunction Q f
function_as P Q f g h = (each_as P Q f.args g h.0, g f.answer h.1)

pub lists_as : (P Q : Ty → Type 0) (vs : List Var) (fs : List Callee) (is : List Interface) (es : List Exception) → ((t : Ty) → P t → Q t)
    → HoldsOf P vs fs is es → HoldsOf Q vs fs is es
lists_as P Q vs fs is es g h = record {
  globals = each_as (λ (v : Var). P v.ty) (λ (v : Var). Q v.ty) vs (λ v k. g v.ty k) h.globals;
  functions = each_as (λ (f : Callee). OfFunction P f.of) (λ (f : Callee). OfFunction Q f.of) fs
      (λ f k. function_as P Q f.of g k) h.functions;
  interfaces = each_as (λ (i : Interface). Each (λ (s : Signature). OfFunction P s.of) i.functions)
      (λ (i : Interface). Each (λ (s : Signature). OfFunction Q s.of) i.functions) is
      (λ i k. each_as (λ (s : Signature). OfFunction P s.of) (λ (s : Signature). OfFunction Q s.of) i.functions
      (λ s l. function_as P Q s.of g l) k) h.interfaces;
  exceptions = each_as (λ (e : Exception). Each P e.values) (λ (e : Exception). Each Q e.values) es (λ e k. each_as P Q e.values g k)
      h.exceptions;
}

named_more : (c d : Context) → Begins c.adts d.adts → length c.modules ≤ length d.modules → (t : Ty) → IsNamedIn c t → IsNamedIn d t
named_more c d b l t h = (more_names c.adts d.adts b (length c.modules) (length d.modules) l t h.0, h.1)

at : (p q : Point) → q ≡ p → IsNamedThroughout p.context → IsNamedThroughout q.context
at p q e h = subst (λ (z : Point). IsNamedThroughout z.context) (sym e) h

-- ---- constants, types, imported names and exceptions

constants_named : (e : tree.Expr) (k : ℕ) (ns : List (List ℕ)) (vs : List Valued) (p q : Point) → AreConstants e k ns vs p q
    → IsNamedThroughout p.context → IsNamedThroughout q.context
constants_named e k [] [] p q h n = at p q h n
constants_named e k [] (v ∷ vs) p q h n = absurd h
constants_named e k (x ∷ ns) [] p q h n = absurd h
constants_named e k (x ∷ ns) (v ∷ vs) p q h n = constants_named e (suc k) ns vs h.0 q h.2 (subst (λ
    (z : Point). IsNamedThroughout z.context) (sym h.1.goes_on) n)

with_constants_named : (ns : List (List ℕ)) (vs : List Valued) (p : Point) → IsNamedThroughout p.context
    → IsNamedThroughout (with_constants ns vs p).context
with_constants_named ns vs p n = record { modules = n.modules; fields = n.fields; lists = n.lists; types = n.types }

each_settled : (ns : List (List ℕ)) (t : Ty) → IsSettled t → Each IsSettled (map (λ n. t) ns)
each_settled [] t h = tt
each_settled (n ∷ ns) t h = (h, each_settled ns t h)

meant_settled : (p : Point) (t : written.Ty) (u : Ty) → IsNamedThroughout p.context → MeansPermitted p.context p.body t u → IsSettled u
meant_settled p t u n h = means_settled p.context n.types p.body t u h.means

meant_named : (c : Context) (b : Body) (t : written.Ty) (u : Ty) → IsNamedThroughout c → MeansPermitted c b t u → IsNamedIn c u
meant_named c b t u n h = (h.permitted.allowed.names, means_settled c n.types b t u h.means)

with_types_named : (ns : List (List ℕ)) (t : written.Ty) (u : Ty) (p : Point) → IsNamedThroughout p.context
    → MeansPermitted p.context p.body t u → IsNamedThroughout (with_types ns u p).context
with_types_named ns t u p n h = record {
  modules = n.modules;
  fields = n.fields;
  lists = n.lists;
  types = each_and IsSettled p.context.types (map (λ x. u) ns) n.types (each_settled ns u (meant_settled p t u n h));
}

-- the types of a tuple that is named
parts_named : (c : Context) (ts : Tys) → AllName c.adts (length c.modules) ts → AllSettled ts → Each (IsNamedIn c) (listed ts)
parts_named c NoTys n s = tt
parts_named c (MoreTys t ts) n s = ((n.0, s.0), parts_named c ts n.1 s.1)

each_exception : (P : Ty → Type 0) (m : List ℕ) (ns : List (List ℕ)) (ts : List Ty) → Each P ts
    → Each (λ (e : Exception). Each P e.values) (leads.exceptions_of m ns ts)
each_exception P m [] ts h = tt
each_exception P m (n ∷ ns) ts h = (h, each_exception P m ns ts h)

with_exceptions_named : (m : List ℕ) (ns : List (List ℕ)) (ts : List Ty) (p : Point) → IsNamedThroughout p.context
    → Each (IsNamedIn p.context) ts → IsNamedThroughout (with_exceptions m ns ts p).context
with_exceptions_named m ns ts p n h = record {
  modules = n.modules;
  fields = n.fields;
  lists = record {
    globals = n.lists.globals;
    functions = n.lists.functions;
    interfaces = n.lists.interfaces;
    exceptions =
        each_and (λ (e : Exception). Each (IsNamedIn p.context) e.values) p.context.exceptions (leads.exceptions_of m ns ts)
        n.lists.exceptions (each_exception (IsNamedIn p.context) m ns ts h);
  };
  types = n.types;
}

is_past : (xs : List Def) (n : ℕ) → slice_get xs n ≡ None → length xs ≤ n
is_past [] n e = omega arith
is_past (x ∷ xs) zero e = absurd (none-some x (sym e))
is_past (x ∷ xs) (suc n) e = let l = is_past xs n e in omega arith

-- ---- headers

arguments_named : (c : Context) (b : Body) (ts : List written.Ty) (us : List Ty) → IsNamedThroughout c → ArePermitted c b ts us
    → Each (IsNamedIn c) us
arguments_named c b [] [] n h = tt
arguments_named c b [] (u ∷ us) n h = absurd h
arguments_named c b (t ∷ ts) [] n h = absurd h
arguments_named c b (t ∷ ts) (u ∷ us) n h = (meant_named c b t u n h.0, arguments_named c b ts us n h.1)

answer_named : (c : Context) (b : Body) (t : Option written.Ty) (u : Ty) → IsNamedThroughout c → IsAnswer c b t u → IsNamedIn c u
answer_named c b None u n h = subst (IsNamedIn c) (sym h) (tt, tt)
answer_named c b (Some t) u n h = meant_named c b t u n h.0

header_named : (c : Context) (b : Body) (f : decls.FnType) (of : FnTy) → IsNamedThroughout c → IsHeader c b f of
    → OfFunction (IsNamedIn c) of
header_named c b f of n h =
    (arguments_named c b (argument_types f.params) of.args n h.args, answer_named c b f.answer of.answer n h.answer)

-- ---- adts

-- what holds of the types of two lists
has_either : (xs ys : List Ty) (t : Ty) → Has (xs ++ ys) t → Has xs t ⊎ Has ys t
has_either [] ys t h = inr h
has_either (x ∷ xs) ys t (inl e) = inl (inl e)
has_either (x ∷ xs) ys t (inr h) = go (has_either xs ys t h)
  where
    go : Has xs t ⊎ Has ys t → Has (x ∷ xs) t ⊎ Has ys t
    go (inl e) = inl (inr e)
    go (inr e) = inr e

has_behind : (xs ys : List Ty) (t : Ty) → Has ys t → Has (xs ++ ys) t
has_behind [] ys t h = h
has_behind (x ∷ xs) ys t h = inr (has_behind xs ys t h)

abbrev AllOf : List Ty → Type 0
AllOf ts = (t : Ty) → Has ts t → IsSettled t

both_of : (xs ys : List Ty) → AllOf xs → AllOf ys → AllOf (xs ++ ys)
both_of xs ys f g t h = go (has_either xs ys t h)
  where
    go : Has xs t ⊎ Has ys t → IsSettled t
    go (inl e) = f t e
    go (inr e) = g t e

types_and : (fs gs : List Field) → types_of (fs ++ gs) ≡ types_of fs ++ types_of gs
types_and [] gs = refl
types_and (f ∷ fs) gs = ap (λ (z : List Ty). f.ty ∷ z) (types_and fs gs)

both_fields : (fs gs : List Field) → AllOf (types_of fs) → AllOf (types_of gs) → AllOf (types_of (fs ++ gs))
both_fields fs gs f g = subst AllOf (sym (types_and fs gs)) (both_of (types_of fs) (types_of gs) f g)

named_fields : (ns : List (List ℕ)) (u : Ty) → IsSettled u → AllOf (types_of (fields ns u))
named_fields [] u h t e = absurd e
named_fields (n ∷ ns) u h t (inl e) = subst IsSettled e h
named_fields (n ∷ ns) u h t (inr e) = named_fields ns u h t e

fields_settled : (c : Context) (b : Body) (fs : List decls.Field) (gs : List Field) → IsNamedThroughout c → AreFields c b fs gs
    → AllOf (types_of gs)
fields_settled c b [] gs n h = subst (λ (z : List Field). AllOf (types_of z)) (sym h) (λ t e. absurd e)
fields_settled c b (f ∷ fs) gs n h =
    subst (λ (z : List Field). AllOf (types_of z)) (sym h.4)
    (both_fields (fields f.names h.0) h.1 (named_fields f.names h.0 (meant_named c b f.of h.0 n h.2).1)
    (fields_settled c b fs h.1 n h.3))

variants_of_names : (ns : List (List ℕ)) (gs : List Field) (us : List Variant) → AllOf (types_of gs) → AllOf (variant_types us)
    → AllOf (variant_types (named_variants ns gs ++ us))
variants_of_names [] gs us f g = g
variants_of_names (n ∷ ns) gs us f g =
    both_of (types_of gs) (variant_types (named_variants ns gs ++ us)) f (variants_of_names ns gs us f g)

variants_settled : (c : Context) (b : Body) (vs : List decls.Variant) (ws : List Variant) → IsNamedThroughout c → AreVariants c b vs ws
    → AllOf (variant_types ws)
variants_settled c b [] ws n h = subst (λ (z : List Variant). AllOf (variant_types z)) (sym h) (λ t e. absurd e)
variants_settled c b (v ∷ vs) ws n h =
    subst (λ (z : List Variant). AllOf (variant_types z)) (sym h.4)
    (variants_of_names v.names h.0 h.1 (fields_settled c b v.fields h.0 n h.2) (variants_settled c b vs h.1 n h.3))

-- No `nil` is open in what stands in an adt.
record IsSettledInside (g : Inside) : Type 0 where
  fields : AllOf (types_of g.fields)
  adts : Each (λ d. AllOf (field_types d)) g.adts

inside_at : (g h : Inside) → g ≡ h → IsSettledInside h → IsSettledInside g
inside_at g h e k = subst IsSettledInside (sym e) k

nothing_settled : (ds : List Def) → ds ≡ [] → Each (λ d. AllOf (field_types d)) ds
nothing_settled ds e = subst (Each (λ (d : Def). AllOf (field_types d))) (sym e) tt

last_one : (xs : List Def) (d x : Def) (k : ℕ) → slice_get xs k ≡ None → slice_get (xs ++ d ∷ []) k ≡ Some x → x ≡ d
last_one [] d x zero e f = sym (same_Some d x f)
last_one [] d x (suc k) e f = absurd (none-some x f)
last_one (y ∷ xs) d x zero e f = absurd (none-some y (sym e))
last_one (y ∷ xs) d x (suc k) e f = last_one xs d x k e f

abbrev bare_adt : List ℕ → List decls.Variant → Def
bare_adt n vs = record { name = n; fields = []; picks = bare vs }

open_named : (n : List ℕ) (vs : List decls.Variant) (p : Point) → IsNamedThroughout p.context
    → IsNamedThroughout (named_adt n vs p).context
open_named n vs p h =
    let c = p.context in
    let e = (named_adt n vs p).context in
    record {
      modules = h.modules;
      fields = λ k x t q i. field k x t q i (slice_get c.adts k) refl;
      lists = lists_as (IsNamedIn c) (IsNamedIn e) c.globals c.functions c.interfaces c.exceptions
          (named_more c e (begins_with c.adts (bare_adt n vs ∷ [])) (omega arith)) h.lists;
      types = h.types;
    }
  where
    field : (k : ℕ) (x : Def) (t : Ty) → slice_get (named_adt n vs p).context.adts k ≡ Some x → Has (field_types x) t → (o : Option Def)
        → slice_get p.context.adts k ≡ o → IsNamedIn (named_adt n vs p).context t
    field k x t q i (Some y) r =
        let c = p.context in
        let e = (named_adt n vs p).context in
        let a : y ≡ x = same_Some y x (sym (begins_with c.adts (bare_adt n vs ∷ []) k y r) ∙ q) in
        named_more c e (begins_with c.adts (bare_adt n vs ∷ [])) (omega arith) t
        (h.fields k x t (r ∙ ap (λ (z : Def). Some z) a) i)
    field k x t q i None r =
        let a : x ≡ bare_adt n vs = last_one p.context.adts (bare_adt n vs) x k r q in
        absurd (bare_variants vs t (subst (λ (z : Def). Has (field_types z) t) a i))

mutual
  adds_named : (o : Bool) (x : Member) (p q : Point) (g : Inside) → AddsToAdt o x p g q → IsNamedThroughout p.context
      → IsNamedThroughout q.context × IsSettledInside g
  adds_named o (VarMember ns t) p q g h n = (
    at p q h.3 n,
    inside_at g (record { fields = fields ns h.0; adts = [] }) h.2
        (record { fields = named_fields ns h.0 (meant_settled p t h.0 n h.1); adts = tt }),
  )
  adds_named o (FnMember ns f) p q g h n =
      (at p q h.4 n, inside_at g (record { fields = []; adts = [] }) h.3 (record { fields = λ t e. absurd e; adts = tt }))
  adds_named o (ConMember ns e) p q g h n = (
    at (with_constants ns h.0 h.1) q h.4 (with_constants_named ns h.0 h.1 (constants_named e 0 ns h.0 p h.1 h.2 n)),
    inside_at g (record { fields = []; adts = [] }) h.3 (record { fields = λ t e. absurd e; adts = tt }),
  )
  adds_named o (TypeMember ns t) p q g h n = (
    at (with_types ns h.0 p) q h.3 (with_types_named ns t h.0 p n h.1),
    inside_at g (record { fields = []; adts = [] }) h.2 (record { fields = λ t e. absurd e; adts = tt }),
  )
  adds_named o (AdtMember n ms pick) p q g h k =
      let a = named_adt n (variants_in pick) p in
      let r = all_adds_named o (length p.context.adts) ms (enter a) h.2 h.0 h.3 (open_named n (variants_in pick) p k) in
      let v = variants_settled h.2.context h.2.body (variants_in pick) h.1 r.0 h.4 in (
        at (leave h.2) q h.6 r.0,
        inside_at g (adt_inside n h.0 h.1) h.5
            (record { fields = λ t e. absurd e; adts = (both_of (types_of h.0.fields) (variant_types h.1) r.1.fields v, r.1.adts) }),
      )

  all_adds_named : (o : Bool) (a : ℕ) (xs : Members) (p q : Point) (g : Inside) → AllAddToAdt o a xs p g q → IsNamedThroughout p.context
      → IsNamedThroughout q.context × IsSettledInside g
  all_adds_named o a NoMembers p q g h n =
      (at p q h.1 n, inside_at g (record { fields = []; adts = [] }) h.0 (record { fields = λ t e. absurd e; adts = tt }))
  all_adds_named o a (MoreMembers x xs) p q g h n =
      let s = adds_named o x p h.2 h.0 h.3 n in
      let w = showing_adt a h.2 in
      let m : IsNamedThroughout w.context = record { modules = s.0.modules; fields = s.0.fields; lists = s.0.lists; types = s.0.types } in
      let t = all_adds_named o a xs w q h.1 h.4 m in (
        t.0,
        inside_at g (beside h.0 h.1) h.5
            (record {
              fields = both_fields h.0.fields h.1.fields s.1.fields t.1.fields;
              adts = each_and (λ (d : Def). AllOf (field_types d)) h.0.adts h.1.adts s.1.adts t.1.adts;
            }),
      )

all_name_has : (ds : List Def) (k : ℕ) (ts : List Ty) (t : Ty) → AllName ds k (tys_of ts) → Has ts t → Names ds k t
all_name_has ds k [] t h e = absurd e
all_name_has ds k (u ∷ ts) t h (inl e) = subst (Names ds k) e h.0
all_name_has ds k (u ∷ ts) t h (inr e) = all_name_has ds k ts t h.1 e

adt_named : (o : Bool) (n : List ℕ) (ms : Members) (pick : Option (List decls.Variant)) (p q : Point) → IsAdt o n ms pick p q
    → IsNamedThroughout p.context → IsNamedThroughout q.context
adt_named o n ms pick p q h k =
    let x = AdtMember n ms pick in
    let b = h.behind in
    let ds = h.inside.adts in
    let r = adds_named o x p b h.inside h.adds k in
    let w = with_adts (length p.context.adts) ds b in
    let a = added o x p b h.inside h.adds in
    let l = leads.adds_leads o x p b h.inside h.adds in
    let e : w.context.adts ≡ p.context.adts ++ ds = ap (λ (z : List Def). z ++ ds)
    (ap (λ (z : List Def). take (length p.context.adts) z) a.1 ∙ first_taken p.context.adts a.0) in
    let g = complete_grows p b ds a in
    let from_inside = λ (t : Ty) (i : IsNamedIn b.context t). shape b.context w.context g t i in
    let s : AllMayStand (length p.context.adts) w.context = subst (λ (z : Point). AllMayStand (length p.context.adts) z.context) h.goes_on
    h.stand in
    at w q h.goes_on
    (record {
      modules = r.0.modules;
      fields = λ j d t i y. field w ds e (as_long p.context.modules b.context.modules l.context.modules) s r.1.adts j d t i y
          (slice_get p.context.adts j) refl;
      lists = lists_as (IsNamedIn b.context) (IsNamedIn w.context) b.context.globals b.context.functions b.context.interfaces
          b.context.exceptions from_inside r.0.lists;
      types = r.0.types;
    })
  where
    shape : (c d : Context) → Grown c d → (t : Ty) → IsNamedIn c t → IsNamedIn d t
    shape c d g t i = (
      shaped_names c.adts d.adts (λ j x y. let z = g.adts j x y in (z.def, z.there, z.as_many)) (length c.modules) (length d.modules)
          g.modules t i.0,
      i.1,
    )

    field : (w : Point) (ds : List Def) → w.context.adts ≡ p.context.adts ++ ds → length p.context.modules ≤ length w.context.modules
        → AllMayStand (length p.context.adts) w.context → Each (λ d. AllOf (field_types d)) ds → (j : ℕ) (d : Def) (t : Ty)
        → slice_get w.context.adts j ≡ Some d → Has (field_types d) t → (o : Option Def) → slice_get p.context.adts j ≡ o
        → IsNamedIn w.context t
    field w ds e l s f j d t i y (Some z) v =
        let b : Begins p.context.adts w.context.adts = subst (λ (u : List Def). Begins p.context.adts u) (sym e)
        (begins_with p.context.adts ds) in
        let a : z ≡ d = same_Some z d (sym (b j z v) ∙ i) in
        named_more p.context w.context b l t (k.fields j d t (v ∙ ap (λ (u : Def). Some u) a) y)
    field w ds e l s f j d t i y None v =
        let m = s j d (is_past p.context.adts j v) i in (
          all_name_has w.context.adts (length w.context.modules) (parts d) t m.allowed.names (has_behind (tag d.picks) (field_types d) t y),
          at_the_end (λ (x : Def). AllOf (field_types x)) p.context.adts ds j d v (subst (λ (u : List Def). slice_get u j ≡ Some d) e i) f t
              y,
        )

-- ---- modules

each_changed : {A : Type 0} (Q : A → Type 0) (f : A → A) (i : ℕ) (xs : List A) → ((x : A) → Q x → Q (f x)) → Each Q xs
    → Each Q (changed i f xs)
each_changed Q f i [] g h = tt
each_changed Q f zero (x ∷ xs) g h = (g x h.0, h.1)
each_changed Q f (suc i) (x ∷ xs) g h = (h.0, each_changed Q f i xs g h.1)

names_and : (is : List Interface) (x : Interface) → map (λ (i : Interface). i.name) (is ++ x ∷ []) ≡ map (λ
    (i : Interface). i.name) is ++ x.name ∷ []
names_and [] x = refl
names_and (i ∷ is) x = ap (λ (ns : List (List ℕ)). i.name ∷ ns) (names_and is x)

same_names : (k : ℕ) (f : Interface → Interface) → ((x : Interface) → (f x).name ≡ x.name) → (is : List Interface)
    → map (λ (i : Interface). i.name) (changed k f is) ≡ map (λ (i : Interface). i.name) is
same_names k f g [] = refl
same_names zero f g (x ∷ xs) = ap (λ (n : List ℕ). n ∷ map (λ (i : Interface). i.name) xs) (g x)
same_names (suc k) f g (x ∷ xs) = ap (λ (ns : List (List ℕ)). x.name ∷ ns) (same_names k f g xs)

each_signature : (P : Ty → Type 0) (ns : List (List ℕ)) (of : FnTy) → OfFunction P of
    → Each (λ (s : Signature). OfFunction P s.of) (map (λ n. let s : Signature = record { name = n; of = of } in s) ns)
each_signature P [] of h = tt
each_signature P (n ∷ ns) of h = (h, each_signature P ns of h)

module_opens : (n : List ℕ) (p : Point) → IsNamedThroughout p.context → IsNamedThroughout (named_module n p).context
module_opens n p h =
    let c = p.context in
    let e = (named_module n p).context in
    let i : Interface = record { name = n; functions = [] } in
    let l = as_long c.modules e.modules (begins_with c.modules (n ∷ [])) in
    let more = named_more c e (begins_itself c.adts) l in
    let s = lists_as (IsNamedIn c) (IsNamedIn e) c.globals c.functions c.interfaces c.exceptions more h.lists in
    record {
      modules = names_and c.interfaces i ∙ ap (λ (ns : List (List ℕ)). ns ++ n ∷ []) h.modules;
      fields = λ k x t q y. more t (h.fields k x t q y);
      lists = record {
        globals = s.globals;
        functions = s.functions;
        interfaces = each_and (λ (j : Interface). Each (λ (x : Signature). OfFunction (IsNamedIn e) x.of) j.functions) c.interfaces (i ∷ [])
            s.interfaces (tt, tt);
        exceptions = s.exceptions;
      };
      types = h.types;
    }

functions_named : (i : ℕ) (ns : List (List ℕ)) (of : FnTy) (p : Point) → OfFunction (IsNamedIn p.context) of
    → IsNamedThroughout p.context → IsNamedThroughout (with_functions i ns of p).context
functions_named i ns of p f h =
    let P = IsNamedIn p.context in
    record {
      modules = same_names i (with_signatures ns of) (λ x. refl) p.context.interfaces ∙ h.modules;
      fields = h.fields;
      lists = record {
        globals = h.lists.globals;
        functions = h.lists.functions;
        interfaces =
            each_changed (λ (j : Interface). Each (λ (x : Signature). OfFunction (IsNamedIn p.context) x.of) j.functions)
            (with_signatures ns of) i p.context.interfaces
            (λ j k. each_and (λ (x : Signature). OfFunction (IsNamedIn p.context) x.of) j.functions
            (map (λ n. record { name = n; of = of }) ns) k (each_signature (IsNamedIn p.context) ns of f)) h.lists.interfaces;
        exceptions = h.lists.exceptions;
      };
      types = h.types;
    }

member_named : (i : ℕ) (x : Member) (p q : Point) → AddsToModule i x p q → IsNamedThroughout p.context → IsNamedThroughout q.context
member_named i (VarMember ns t) p q h n = at p q h.2 n
member_named i (FnMember ns f) p q h n =
    at (with_functions i ns h.0 p) q h.2 (functions_named i ns h.0 p (header_named p.context p.body f h.0 n h.1) n)
member_named i (ConMember ns e) p q h n =
    at (with_constants ns h.0 h.1) q h.3 (with_constants_named ns h.0 h.1 (constants_named e 0 ns h.0 p h.1 h.2 n))
member_named i (TypeMember ns t) p q h n = at (with_types ns h.0 p) q h.2 (with_types_named ns t h.0 p n h.1)
member_named i (AdtMember n ms pick) p q h k = adt_named true n ms pick p q h k

members_named : (i : ℕ) (xs : Members) (p q : Point) → AllAddToModule i xs p q → IsNamedThroughout p.context → IsNamedThroughout q.context
members_named i NoMembers p q h n = at p q h n
members_named i (MoreMembers x xs) p q h n =
    let s = member_named i x p h.0 h.1 n in
    members_named i xs (showing_module i h.0) q h.2 (record { modules = s.modules; fields = s.fields; lists = s.lists; types = s.types })

-- ---- declarations

pub declared_named : (m : List ℕ) (d : Decl) (p q : Point) (z : Stmt) → IsNamedThroughout p.context → Declares m d p z q
    → IsNamedThroughout q.context
declared_named m (decls.Con ns e) p q z n h =
    at (with_constants ns h.0 h.1) q h.5 (with_constants_named ns h.0 h.1 (constants_named e 0 ns h.0 p h.1 h.2 n))
declared_named m (decls.TypeName ns t) p q z n h = at (with_types ns h.0 p) q h.4 (with_types_named ns t h.0 p n h.1)
declared_named m (decls.Var ns t None) p q z n h = at (with_variables ns h.0 p) q h.4 n
declared_named m (decls.Var ns t (Some e)) p q z n h =
    at (with_variables ns h.0 h.3) q h.9 (at (with_body h.5.behind p) h.3 h.5.goes_on n)
declared_named m (decls.Define ns e) p q z n h =
    at (with_variables ns (type_of h.0) h.1) q h.6 (at (with_body h.2.behind p) h.1 h.2.goes_on n)
declared_named m (decls.Import ns x) p q z n h =
    at (with_imports ns h.2 p) q h.7 (record { modules = n.modules; fields = n.fields; lists = n.lists; types = n.types })
declared_named m (decls.Exception ns ts) p q z n h =
    let a = meant_named p.context p.body (written.Tuple ts) (Tuple h.0) n h.1 in
    at (with_exceptions m ns (listed h.0) p) q h.4 (with_exceptions_named m ns (listed h.0) p n (parts_named p.context h.0 a.0 a.1))
declared_named m (decls.Module x ms) p q z n h =
    let s = members_named (length p.context.interfaces) ms (enter (named_module x p)) h.0 h.3 (module_opens x p n) in
    at (leave h.0) q h.5 s
declared_named m (decls.Adt x ms pick) p q z n h = adt_named false x ms pick p q h.2 n
