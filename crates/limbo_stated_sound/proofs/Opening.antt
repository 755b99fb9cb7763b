-- Contexts while adts and modules are open, and where they are complete.
use Rattle.std.proofs.Common.{◌≡◌, ℕ, zero, suc, Bool, true, List, [], ◌∷◌, ◌++◌, length, map, take}
use Rattle.std.proofs.Common.{Some, refl, sym, ap, subst, ◌∙◌, arith}
use Rattle.std.specs.Prelude.{slice_get}
use Rattle.std.proofs.lemmas.Option.{none-some, same_Some}
use Rattle.limbo_types.specs.Types.{Ty, FnTy}
use Rattle.limbo_layout.specs.Adts.{Def, Variant, Field, Has, field_types, variant_types}
use Rattle.limbo_tree.specs.Exprs as tree
use Rattle.limbo_tree.specs.Decls as decls
use Rattle.limbo_tree.specs.Decls.{Decl, Member, VarMember, FnMember, ConMember, TypeMember, AdtMember, Members, NoMembers, MoreMembers}
use Rattle.limbo_typed.specs.Typed.{Interface, Signature}
use Rattle.limbo_context.specs.Context.{Context, Body, Valued}
use Rattle.limbo_stating.specs.limbo_local.Points.{Point}
use Rattle.limbo_stating.specs.limbo_local.Local.{AreConstants}
use Rattle.limbo_stating.specs.limbo_local.Local.{with_constants, with_types}
use Rattle.limbo_stating.specs.limbo_local.Members.{Inside, changed, variants_in, named_variants, bare, showing_adt}
use Rattle.limbo_stating.specs.limbo_local.Members.{showing_module, AreVariants, open_adt, AddsToAdt, AllAddToAdt, with_adts}
use Rattle.limbo_stating.specs.limbo_local.Members.{with_functions, with_signatures, AddsToModule, AllAddToModule}
use Rattle.limbo_stated_sound.specs.Growing.{LeadsTo}
use Rattle.limbo_stated_sound.proofs.Leading as leads
use Rattle.limbo_stated_sound.proofs.Seen.{Grown, GrownDef, GrownInterface}
use Rattle.limbo_stated_sound.proofs.Seen.{extended_grows, same_def, same_interface, no_more}
use Rattle.limbo_stated_sound.proofs.Members as members

-- ---- what an open adt adds: as many adts with as many variants, no fields yet

IsBare : Def → Type 0
IsBare d = (t : Ty) → Has (field_types d) t → ⊥

abbrev pub AreAlike : List Def → List Def → Type 0
AreAlike [] [] = Unit {0}
AreAlike (x ∷ xs) (y ∷ ys) = (length y.picks ≡ length x.picks) × ((t : Ty) → Has (field_types x) t → ⊥) × AreAlike xs ys
AreAlike _ _ = ⊥

alike_on : (xs ys zs ws : List Def) → AreAlike xs ys → AreAlike zs ws → AreAlike (xs ++ zs) (ys ++ ws)
alike_on [] [] zs ws h k = k
alike_on [] (y ∷ ys) zs ws h k = absurd h
alike_on (x ∷ xs) [] zs ws h k = absurd h
alike_on (x ∷ xs) (y ∷ ys) zs ws h k = (h.0, h.1, alike_on xs ys zs ws h.2 k)

alike_at : (xs ys : List Def) (n : ℕ) (x : Def) → AreAlike xs ys → slice_get xs n ≡ Some x → GrownDef ys n x
alike_at [] ys n x h e = absurd (none-some x e)
alike_at (z ∷ xs) [] n x h e = absurd h
alike_at (z ∷ xs) (y ∷ ys) zero x h e =
    let q = same_Some z x e in
    record {
      def = y;
      there = refl;
      as_many = h.0 ∙ ap (λ (w : Def). length w.picks) q;
      fields = λ t i. absurd (h.1 t (subst (λ (w : Def). Has (field_types w) t) (sym q) i));
    }
alike_at (z ∷ xs) (y ∷ ys) (suc n) x h e =
    let k = alike_at xs ys n x h.2 e in record { def = k.def; there = k.there; as_many = k.as_many; fields = k.fields }

alike_behind : (zs xs ys : List Def) (n : ℕ) (x : Def) → AreAlike xs ys → slice_get (zs ++ xs) n ≡ Some x → GrownDef (zs ++ ys) n x
alike_behind [] xs ys n x h e = alike_at xs ys n x h e
alike_behind (z ∷ zs) xs ys zero x h e = same_def (z ∷ (zs ++ ys)) zero x e
alike_behind (z ∷ zs) xs ys (suc n) x h e =
    let k = alike_behind zs xs ys n x h e in record { def = k.def; there = k.there; as_many = k.as_many; fields = k.fields }

as_many_names : (ns : List (List ℕ)) (fs gs : List Field) (us ws : List Variant) → length us ≡ length ws
    → length (named_variants ns fs ++ us) ≡ length (named_variants ns gs ++ ws)
as_many_names [] fs gs us ws e = e
as_many_names (n ∷ ns) fs gs us ws e = ap suc (as_many_names ns fs gs us ws e)

as_many_variants : (c : Context) (b : Body) (vs : List decls.Variant) (ws : List Variant) → AreVariants c b vs ws
    → length ws ≡ length (bare vs)
as_many_variants c b [] ws h = ap (λ (xs : List Variant). length xs) h
as_many_variants c b (v ∷ vs) ws h =
    ap (λ (xs : List Variant). length xs) h.4 ∙ as_many_names v.names h.0 [] h.1 (bare vs) (as_many_variants c b vs h.1 h.3)

bare_names : (ns : List (List ℕ)) (ws : List Variant) (t : Ty) → (Has (variant_types ws) t → ⊥)
    → Has (variant_types (named_variants ns [] ++ ws)) t
    → ⊥
bare_names [] ws t f h = f h
bare_names (n ∷ ns) ws t f h = bare_names ns ws t f h

pub bare_variants : (vs : List decls.Variant) (t : Ty) → Has (variant_types (bare vs)) t → ⊥
bare_variants [] t h = h
bare_variants (v ∷ vs) t h = bare_names v.names (bare vs) t (bare_variants vs t) h

-- the adts that were added, and those that stand for them
abbrev pub Added : List Def → List Def → List Def → Type 0
Added before inside behind = (more : List Def) × (behind ≡ before ++ more) × AreAlike more inside

both_more : (xs ys zs : List Def) → (xs ++ ys) ++ zs ≡ xs ++ (ys ++ zs)
both_more [] ys zs = refl
both_more (x ∷ xs) ys zs = ap (λ (z : List Def). x ∷ z) (both_more xs ys zs)

none_added : (p q : Point) (g : Inside) → g.adts ≡ [] → q.context.adts ≡ p.context.adts → Added p.context.adts g.adts q.context.adts
none_added p q g e h = ([], h ∙ no_more p.context.adts, subst (λ (xs : List Def). AreAlike [] xs) (sym e) tt)

constants_same : (e : tree.Expr) (k : ℕ) (ns : List (List ℕ)) (vs : List Valued) (p q : Point) → AreConstants e k ns vs p q
    → q.context.adts ≡ p.context.adts
constants_same e k [] [] p q h = ap (λ (z : Point). z.context.adts) h
constants_same e k [] (v ∷ vs) p q h = absurd h
constants_same e k (n ∷ ns) [] p q h = absurd h
constants_same e k (n ∷ ns) (v ∷ vs) p q h =
    constants_same e (suc k) ns vs h.0 q h.2 ∙ ap (λ (z : Point). z.context.adts) h.1.goes_on

mutual
  pub added : (o : Bool) (x : Member) (p q : Point) (g : Inside) → AddsToAdt o x p g q → Added p.context.adts g.adts q.context.adts
  added o (VarMember ns t) p q g h =
      none_added p q g (ap (λ (z : Inside). z.adts) h.2) (ap (λ (z : Point). z.context.adts) h.3)
  added o (FnMember ns t) p q g h =
      none_added p q g (ap (λ (z : Inside). z.adts) h.3) (ap (λ (z : Point). z.context.adts) h.4)
  added o (ConMember ns e) p q g h =
      none_added p q g (ap (λ (z : Inside). z.adts) h.3)
      (ap (λ (z : Point). z.context.adts) h.4 ∙ constants_same e 0 ns h.0 p h.1 h.2)
  added o (TypeMember ns t) p q g h =
      none_added p q g (ap (λ (z : Inside). z.adts) h.2) (ap (λ (z : Point). z.context.adts) h.3)
  added o (AdtMember n ms pick) p q g h =
      let d : Def = record { name = n; fields = []; picks = bare (variants_in pick) } in
      let a = all_added o (length p.context.adts) ms (open_adt n (variants_in pick) p) h.2 h.0 h.3 in (
        d ∷ a.0,
        ap (λ (z : Point). z.context.adts) h.6 ∙ a.1 ∙ both_more p.context.adts (d ∷ []) a.0,
        subst (λ (z : Inside). AreAlike (d ∷ a.0) z.adts) (sym h.5)
            (as_many_variants h.2.context h.2.body (variants_in pick) h.1 h.4, bare_variants (variants_in pick), a.2),
      )

  all_added : (o : Bool) (a : ℕ) (xs : Members) (p q : Point) (g : Inside) → AllAddToAdt o a xs p g q
      → Added p.context.adts g.adts q.context.adts
  all_added o a NoMembers p q g h = none_added p q g (ap (λ (z : Inside). z.adts) h.0) (ap (λ (z : Point). z.context.adts) h.1)
  all_added o a (MoreMembers x xs) p q g h =
      let s = added o x p h.2 h.0 h.3 in
      let t = all_added o a xs (showing_adt a h.2) q h.1 h.4 in (
        s.0 ++ t.0,
        t.1 ∙ ap (λ (z : List Def). z ++ t.0) s.1 ∙ both_more p.context.adts s.0 t.0,
        subst (λ (z : Inside). AreAlike (s.0 ++ t.0) z.adts) (sym h.5) (alike_on s.0 h.0.adts t.0 h.1.adts s.2 t.2),
      )

pub first_taken : (xs ys : List Def) → take (length xs) (xs ++ ys) ≡ xs
first_taken [] ys = refl
first_taken (x ∷ xs) ys = ap (λ (z : List Def). x ∷ z) (first_taken xs ys)

pub complete_grows : (p b : Point) (ds : List Def) → Added p.context.adts ds b.context.adts
    → Grown b.context (with_adts (length p.context.adts) ds b).context
complete_grows p b ds h = record {
  adts = λ n x e.
      let l : slice_get (p.context.adts ++ h.0) n ≡ Some x = subst (λ (z : List Def). slice_get z n ≡ Some x) h.1 e in
      let q : take (length p.context.adts) b.context.adts ++ ds ≡ p.context.adts ++ ds = ap (λ (z : List Def). z ++ ds)
      (ap (λ (z : List Def). take (length p.context.adts) z) h.1 ∙ first_taken p.context.adts h.0) in
      subst (λ (z : List Def). GrownDef z n x) (sym q) (alike_behind p.context.adts h.0 ds n x h.2 l);
  modules = omega arith;
  interfaces = λ n i e. same_interface b.context.interfaces n i e;
}

-- ---- modules

grown_on : (c d e : Context) → Grown c d → Grown d e → Grown c e
grown_on c d e g h = record {
  adts = λ n x i.
      let a = g.adts n x i in
      let b = h.adts n a.def a.there in
      record { def = b.def; there = b.there; as_many = b.as_many ∙ a.as_many; fields = λ t k. b.fields t (a.fields t k) };
  modules = let a = g.modules in let b = h.modules in omega arith;
  interfaces = λ n x i.
      let a = g.interfaces n x i in
      let b = h.interfaces n a.interface a.there in
      record {
        interface = b.interface;
        there = b.there;
        more = a.more ++ b.more;
        functions = b.functions ∙ ap (λ (z : List Signature). z ++ b.more) a.functions ∙ both x.functions a.more b.more;
      };
}
  where
    both : (xs ys zs : List Signature) → (xs ++ ys) ++ zs ≡ xs ++ (ys ++ zs)
    both [] ys zs = refl
    both (x ∷ xs) ys zs = ap (λ (z : List Signature). x ∷ z) (both xs ys zs)

signatures_grow : (i : ℕ) (ns : List (List ℕ)) (of : FnTy) (xs : List Interface) (n : ℕ) (x : Interface) → slice_get xs n ≡ Some x
    → GrownInterface (changed i (with_signatures ns of) xs) n x
signatures_grow i ns of [] n x e = absurd (none-some x e)
signatures_grow zero ns of (y ∷ ys) zero x e = record {
  interface = with_signatures ns of y;
  there = refl;
  more = map (λ n. record { name = n; of = of }) ns;
  functions = ap (λ (z : Interface). z.functions ++ map (λ n. record { name = n; of = of }) ns) (same_Some y x e);
}
signatures_grow zero ns of (y ∷ ys) (suc n) x e = same_interface (with_signatures ns of y ∷ ys) (suc n) x e
signatures_grow (suc i) ns of (y ∷ ys) zero x e = same_interface (y ∷ changed i (with_signatures ns of) ys) zero x e
signatures_grow (suc i) ns of (y ∷ ys) (suc n) x e =
    let k = signatures_grow i ns of ys n x e in
    record { interface = k.interface; there = k.there; more = k.more; functions = k.functions }

functions_grow : (i : ℕ) (ns : List (List ℕ)) (of : FnTy) (p : Point) → Grown p.context (with_functions i ns of p).context
functions_grow i ns of p = record {
  adts = λ n x e. same_def p.context.adts n x e;
  modules = omega arith;
  interfaces = λ n x e. signatures_grow i ns of p.context.interfaces n x e;
}

grown_at : (p q r : Point) → q ≡ r → Grown p.context r.context → Grown p.context q.context
grown_at p q r e g = subst (λ (z : Point). Grown p.context z.context) (sym e) g

leads_grown : (p q : Point) → LeadsTo p q → Grown p.context q.context
leads_grown p q l = extended_grows p.context q.context l.context

member_grows : (i : ℕ) (x : Member) (p q : Point) → AddsToModule i x p q → Grown p.context q.context
member_grows i (VarMember ns t) p q h = grown_at p q p h.2 (leads_grown p p (leads.leads_to_itself p))
member_grows i (FnMember ns f) p q h = grown_at p q (with_functions i ns h.0 p) h.2 (functions_grow i ns h.0 p)
member_grows i (ConMember ns e) p q h =
    grown_at p q (with_constants ns h.0 h.1) h.3
    (leads_grown p (with_constants ns h.0 h.1)
    (leads.leads_on p h.1 (with_constants ns h.0 h.1) (leads.constants_lead e 0 ns h.0 p h.1 h.2)
    (leads.with_constants_leads ns h.0 h.1)))
member_grows i (TypeMember ns t) p q h =
    grown_at p q (with_types ns h.0 p) h.2 (leads_grown p (with_types ns h.0 p) (leads.with_types_leads ns h.0 p))
member_grows i (AdtMember n ms pick) p q h = leads_grown p q (leads.adt_leads true n ms pick p q h)

pub members_grow : (i : ℕ) (xs : Members) (p q : Point) → AllAddToModule i xs p q → Grown p.context q.context
members_grow i NoMembers p q h = grown_at p q p h (leads_grown p p (leads.leads_to_itself p))
members_grow i (MoreMembers x xs) p q h =
    grown_on p.context h.0.context q.context (member_grows i x p h.0 h.1)
    (grown_on h.0.context (showing_module i h.0).context q.context
    (leads_grown h.0 (showing_module i h.0) (members.showing_module_leads i h.0)) (members_grow i xs (showing_module i h.0) q h.2))
