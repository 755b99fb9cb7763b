-- A declaration is one statement at most.
use Rattle.std.proofs.Common.{◌≡◌, refl, sym, ap, ◌∙◌, subst, ℕ, suc, Bool, true, false, List, [], ◌∷◌, ◌++◌, length, Option, None, Some}
use Rattle.std.proofs.lemmas.Option.{same_Some}
use Rattle.limbo_tree.specs.Exprs as tree
use Rattle.limbo_tree.specs.Types as written
use Rattle.limbo_tree.specs.Decls as decls
use Rattle.limbo_tree.specs.Decls.{Decl, Member, VarMember, FnMember, ConMember, TypeMember, AdtMember, Members, NoMembers, MoreMembers}
use Rattle.limbo_types.specs.Types.{Ty, Tys, Tuple, FnTy}
use Rattle.limbo_layout.specs.Adts.{Field, Variant, listed}
use Rattle.limbo_typed.specs.declared.stmt.Constant.{Constant}
use Rattle.limbo_typed.specs.Typed.{Expr, Stmt, Declare}
use Rattle.limbo_typed.specs.Sound.{type_of}
use Rattle.limbo_scope.specs.declared.meaning.Meaning.{Meaning}
use Rattle.limbo_standing.specs.Standing.{Settles}
use Rattle.limbo_standing.specs.Laws.{OneSettled}
use Rattle.limbo_context.specs.declared.context.Imported.{Imported}
use Rattle.limbo_context.specs.declared.context.Origin.{Origin}
use Rattle.limbo_context.specs.Context.{Context, Body, Valued}
use Rattle.limbo_typing.specs.limbo_body_types.Means.{module_led}
use Rattle.limbo_typing.proofs.limbo_written_lemmas.Once.{one_written}
use Rattle.limbo_typing.specs.limbo_folding.Folding.{value_of}
use Rattle.limbo_typing.specs.Laws.{OneValue}
use Rattle.limbo_local.specs.Points.{Point, ValueAt, with_body, next_numbers, with_variables, leave}
use Rattle.limbo_local.specs.Local.{counting, seeing_iota, without_iota, IsConstant, AreConstants, with_constants, with_types}
use Rattle.limbo_local.specs.Local.{origin_of, NamesModule, IsImported, AreImported, with_imports, with_exceptions, ArePermitted}
use Rattle.limbo_local.specs.Local.{IsAnswer, IsHeader, argument_types}
use Rattle.limbo_local.specs.Members.{Inside, beside, fields, adt_inside, showing_adt, showing_module, variants_in, named_variants}
use Rattle.limbo_local.specs.Members.{AreFields, AreVariants, open_adt, AddsToAdt, AllAddToAdt, with_adts, IsAdt, open_module}
use Rattle.limbo_local.specs.Members.{with_functions, AddsToModule, AllAddToModule}
use Rattle.limbo_local.specs.Declaring.{Declares}

-- ---- of equal parts

pub same_two : {A B C : Type 0} → (f : A → B → C) → (a a' : A) (b b' : B) → a ≡ a' → b ≡ b' → f a b ≡ f a' b'
same_two f a a' b b' p q = ap (λ x. f x b) p ∙ ap (f a') q

module _ (ov : OneValue) where
  pub value_once : (p : Point) (e : tree.Expr) (x y : Expr) (q r : Point) → ValueAt p e x q → ValueAt p e y r → (x ≡ y) × (q ≡ r)
  value_once p e x y q r h k =
      let a = ov p.context p.body h.behind k.behind e x y h.has k.has in
      (a.0, h.goes_on ∙ ap (λ b. with_body b p) a.1 ∙ sym k.goes_on)

  -- ---- constants

  pub one_constant : (p : Point) (e : tree.Expr) (k : ℕ) (v w : Valued) (q r : Point) → IsConstant p e k v q → IsConstant p e k w r
      → (v ≡ w) × (q ≡ r)
  one_constant p e k v w q r h i =
      let a =
      ov (counting k p.context) (seeing_iota p.context p.body) h.behind i.behind e h.value i.value h.has i.has in
      let s : v.value ≡ w.value = same_Some v.value w.value (sym h.known ∙ ap value_of a.0 ∙ i.known) in
      let t : v.ty ≡ w.ty = h.of ∙ ap type_of a.0 ∙ sym i.of in (
        same_two (λ (u : Ty) (c : Constant). let r : Valued = record { ty = u; value = c } in r) v.ty w.ty v.value w.value t s,
        h.goes_on ∙ ap (λ z. with_body (without_iota p.body z) p) a.1 ∙ sym i.goes_on,
      )

  pub one_constants : (e : tree.Expr) (k : ℕ) (ns : List (List ℕ)) (vs ws : List Valued) (p q r : Point) → AreConstants e k ns vs p q
      → AreConstants e k ns ws p r → (vs ≡ ws) × (q ≡ r)
  one_constants e k [] [] [] p q r h i = (refl, h ∙ sym i)
  one_constants e k [] [] (w ∷ ws) p q r h i = absurd i
  one_constants e k [] (v ∷ vs) ws p q r h i = absurd h
  one_constants e k (n ∷ ns) [] ws p q r h i = absurd h
  one_constants e k (n ∷ ns) (v ∷ vs) [] p q r h i = absurd i
  one_constants e k (n ∷ ns) (v ∷ vs) (w ∷ ws) p q r h i =
      let a = one_constant p e k v w h.0 i.0 h.1 i.1 in
      let l =
      one_constants e (suc k) ns vs ws h.0 q r h.2
      (subst (λ (z : Point). AreConstants e (suc k) ns ws z r) (sym a.1) i.2) in
      (same_two (λ (x : Valued) (xs : List Valued). x ∷ xs) v w vs ws a.0 l.0, l.1)

-- ---- imported names

pub one_module : (p : Point) (n : List ℕ) (o o' : Origin) (i i' : ℕ) → NamesModule p n o i → NamesModule p n o' i' → (o ≡ o') × (i ≡ i')
one_module p n o o' i i' h k =
    let s : h.means ≡ k.means = same_Some h.means k.means (sym h.is_seen ∙ k.is_seen) in (
      h.is ∙ ap origin_of s ∙ sym k.is,
      same_Some i i' (sym h.leads ∙ ap (λ m. module_led p.context p.body m) s ∙ k.leads),
    )

one_import : (c : Context) (o : Origin) (i : ℕ) (n : List ℕ) (x y : Imported) → IsImported c o i n x → IsImported c o i n y → x ≡ y
one_import c o i n x y h k =
    let s : h.0 ≡ k.0 = same_Some h.0 k.0 (sym h.1 ∙ k.1) in
    h.2 ∙ ap (λ (m : Meaning). let r : Imported = record { origin = o; interface = i; member = m } in r) s ∙ sym k.2

one_imports : (c : Context) (o : Origin) (i : ℕ) (ns : List (List ℕ)) (xs ys : List Imported) → AreImported c o i ns xs
    → AreImported c o i ns ys → xs ≡ ys
one_imports c o i [] [] [] h k = refl
one_imports c o i [] [] (y ∷ ys) h k = absurd k
one_imports c o i [] (x ∷ xs) ys h k = absurd h
one_imports c o i (n ∷ ns) [] ys h k = absurd h
one_imports c o i (n ∷ ns) (x ∷ xs) [] h k = absurd k
one_imports c o i (n ∷ ns) (x ∷ xs) (y ∷ ys) h k =
    same_two (λ (z : Imported) (zs : List Imported). z ∷ zs) x y xs ys (one_import c o i n x y h.0 k.0)
    (one_imports c o i ns xs ys h.1 k.1)

-- ---- functions

one_permitted : (c : Context) (b : Body) (ts : List written.Ty) (us vs : List Ty) → ArePermitted c b ts us → ArePermitted c b ts vs
    → us ≡ vs
one_permitted c b [] [] [] h k = refl
one_permitted c b [] [] (v ∷ vs) h k = absurd k
one_permitted c b [] (u ∷ us) vs h k = absurd h
one_permitted c b (t ∷ ts) [] vs h k = absurd h
one_permitted c b (t ∷ ts) (u ∷ us) [] h k = absurd k
one_permitted c b (t ∷ ts) (u ∷ us) (v ∷ vs) h k =
    same_two (λ (x : Ty) (xs : List Ty). x ∷ xs) u v us vs (one_written c b t u v h.0 k.0) (one_permitted c b ts us vs h.1 k.1)

one_answer : (c : Context) (b : Body) (t : Option written.Ty) (u v : Ty) → IsAnswer c b t u → IsAnswer c b t v → u ≡ v
one_answer c b None u v h k = h ∙ sym k
one_answer c b (Some t) u v h k = one_written c b t u v h.0 k.0

pub one_header : (c : Context) (b : Body) (f : decls.FnType) (g h : FnTy) → IsHeader c b f g → IsHeader c b f h → g ≡ h
one_header c b f g h x y =
    same_two (λ (ts : List Ty) (t : Ty). let r : FnTy = record { args = ts; answer = t } in r) g.args h.args g.answer h.answer
    (one_permitted c b (argument_types f.params) g.args h.args x.args y.args) (one_answer c b f.answer g.answer h.answer x.answer y.answer)

-- ---- adts and modules

module _ (c : Context) (b : Body) where
  one_fields : (fs : List decls.Field) (gs hs : List Field) → AreFields c b fs gs → AreFields c b fs hs → gs ≡ hs
  one_fields [] gs hs h k = h ∙ sym k
  one_fields (f ∷ fs) gs hs h k =
      h.4
      ∙ same_two (λ (u : Ty) (us : List Field). fields f.names u ++ us) h.0 k.0 h.1 k.1 (one_written c b f.of h.0 k.0 h.2 k.2)
      (one_fields fs h.1 k.1 h.3 k.3)
      ∙ sym k.4

  one_variants : (vs : List decls.Variant) (us ws : List Variant) → AreVariants c b vs us → AreVariants c b vs ws → us ≡ ws
  one_variants [] us ws h k = h ∙ sym k
  one_variants (v ∷ vs) us ws h k =
      h.4
      ∙ same_two (λ (gs : List Field) (xs : List Variant). named_variants v.names gs ++ xs) h.0 k.0 h.1 k.1
      (one_fields v.fields h.0 k.0 h.2 k.2) (one_variants vs h.1 k.1 h.3 k.3)
      ∙ sym k.4

module _ (ov : OneValue) where
  mutual
    pub one_in_adt : (o : Bool) (m : Member) (p : Point) (g h : Inside) (q r : Point) → AddsToAdt o m p g q → AddsToAdt o m p h r
        → (g ≡ h) × (q ≡ r)
    one_in_adt o (VarMember ns t) p g h q r x y = (
      x.2
          ∙ ap (λ u. let z : Inside = record { fields = fields ns u; adts = [] } in z) (one_written p.context p.body t x.0 y.0 x.1 y.1)
          ∙ sym y.2,
      x.3 ∙ sym y.3,
    )
    one_in_adt o (FnMember ns f) p g h q r x y = (x.3 ∙ sym y.3, x.4 ∙ sym y.4)
    one_in_adt o (ConMember ns e) p g h q r x y =
        let a = one_constants ov e 0 ns x.0 y.0 p x.1 y.1 x.2 y.2 in (
          x.3 ∙ sym y.3,
          x.4 ∙ same_two (λ (vs : List Valued) (z : Point). with_constants ns vs z) x.0 y.0 x.1 y.1 a.0 a.1 ∙ sym y.4,
        )
    one_in_adt o (TypeMember ns t) p g h q r x y =
        (x.2 ∙ sym y.2, x.3 ∙ ap (λ u. with_types ns u p) (one_written p.context p.body t x.0 y.0 x.1 y.1) ∙ sym y.3)
    one_in_adt o (AdtMember n ms pick) p g h q r x y =
        let a = all_in_adt_one o (length p.context.adts) ms (open_adt n (variants_in pick) p) x.0 y.0 x.2 y.2 x.3 y.3 in
        let l =
        one_variants x.2.context x.2.body (variants_in pick) x.1 y.1 x.4
        (subst (λ (z : Point). AreVariants z.context z.body (variants_in pick) y.1) (sym a.1) y.4) in (
          x.5 ∙ same_two (λ (i : Inside) (vs : List Variant). adt_inside n i vs) x.0 y.0 x.1 y.1 a.0 l ∙ sym y.5,
          x.6 ∙ ap leave a.1 ∙ sym y.6,
        )

    pub all_in_adt_one : (o : Bool) (a : ℕ) (ms : Members) (p : Point) (g h : Inside) (q r : Point) → AllAddToAdt o a ms p g q
        → AllAddToAdt o a ms p h r → (g ≡ h) × (q ≡ r)
    all_in_adt_one o a NoMembers p g h q r x y = (x.0 ∙ sym y.0, x.1 ∙ sym y.1)
    all_in_adt_one o a (MoreMembers m ms) p g h q r x y =
        let s = one_in_adt o m p x.0 y.0 x.2 y.2 x.3 y.3 in
        let l =
        all_in_adt_one o a ms (showing_adt a x.2) x.1 y.1 q r x.4
        (subst (λ (z : Point). AllAddToAdt o a ms (showing_adt a z) y.1 r) (sym s.1) y.4) in
        (x.5 ∙ same_two beside x.0 y.0 x.1 y.1 s.0 l.0 ∙ sym y.5, l.1)

  pub one_adt : (o : Bool) (n : List ℕ) (ms : Members) (pick : Option (List decls.Variant)) (p q r : Point) → IsAdt o n ms pick p q
      → IsAdt o n ms pick p r → q ≡ r
  one_adt o n ms pick p q r x y =
      let a = one_in_adt o (AdtMember n ms pick) p x.inside y.inside x.behind y.behind x.adds y.adds in
      x.goes_on
      ∙ same_two (λ (i : Inside) (z : Point). with_adts (length p.context.adts) i.adts z) x.inside y.inside x.behind y.behind a.0 a.1
      ∙ sym y.goes_on

  pub one_in_module : (i : ℕ) (m : Member) (p q r : Point) → AddsToModule i m p q → AddsToModule i m p r → q ≡ r
  one_in_module i (VarMember ns t) p q r h k = h.2 ∙ sym k.2
  one_in_module i (FnMember ns f) p q r h k =
      h.2 ∙ ap (λ of. with_functions i ns of p) (one_header p.context p.body f h.0 k.0 h.1 k.1) ∙ sym k.2
  one_in_module i (ConMember ns e) p q r h k =
      let a = one_constants ov e 0 ns h.0 k.0 p h.1 k.1 h.2 k.2 in
      h.3 ∙ same_two (λ (vs : List Valued) (z : Point). with_constants ns vs z) h.0 k.0 h.1 k.1 a.0 a.1 ∙ sym k.3
  one_in_module i (TypeMember ns t) p q r h k =
      h.2 ∙ ap (λ u. with_types ns u p) (one_written p.context p.body t h.0 k.0 h.1 k.1) ∙ sym k.2
  one_in_module i (AdtMember n ms pick) p q r h k = one_adt true n ms pick p q r h k

  pub all_in_module_one : (i : ℕ) (ms : Members) (p q r : Point) → AllAddToModule i ms p q → AllAddToModule i ms p r → q ≡ r
  all_in_module_one i NoMembers p q r h k = h ∙ sym k
  all_in_module_one i (MoreMembers m ms) p q r h k =
      let s = one_in_module i m p h.0 k.0 h.1 k.1 in
      all_in_module_one i ms (showing_module i h.0) q r h.2 (subst (λ (z : Point). AllAddToModule i ms (showing_module i z) r) (sym s) k.2)

-- ---- declarations

same_tuple : (ts us : Tys) → Tuple ts ≡ Tuple us → ts ≡ us
same_tuple ts us e = cc

module _ (ov : OneValue) (os : OneSettled) where
  settled_once : (t u : Ty) (x x' y y' : Expr) → t ≡ u → x ≡ x' → Settles t x y → Settles u x' y' → y ≡ y'
  settled_once t u x x' y y' p q h k =
      let a = subst (λ (z : Ty). Settles z x y) p h in os u x' y y' (subst (λ (z : Expr). Settles u z y) q a) k

  pub one_declared : (m : List ℕ) (d : Decl) (p q r : Point) (y z : Stmt) → Declares m d p y q → Declares m d p z r → (y ≡ z) × (q ≡ r)
  one_declared m (decls.Con ns e) p q r y z h k =
      let a = one_constants ov e 0 ns h.0 k.0 p h.1 k.1 h.2 k.2 in (
        h.4 ∙ sym k.4,
        h.5 ∙ same_two (λ (vs : List Valued) (w : Point). with_constants ns vs w) h.0 k.0 h.1 k.1 a.0 a.1 ∙ sym k.5,
      )
  one_declared m (decls.TypeName ns t) p q r y z h k =
      (h.3 ∙ sym k.3, h.4 ∙ ap (λ u. with_types ns u p) (one_written p.context p.body t h.0 k.0 h.1 k.1) ∙ sym k.4)
  one_declared m (decls.Var ns t None) p q r y z h k =
      (h.3 ∙ sym k.3, h.4 ∙ ap (λ u. with_variables ns u p) (one_written p.context p.body t h.0 k.0 h.1 k.1) ∙ sym k.4)
  one_declared m (decls.Var ns t (Some e)) p q r y z h k =
      let a = one_written p.context p.body t h.0 k.0 h.4 k.4 in
      let b = value_once ov p e h.1 k.1 h.3 k.3 h.5 k.5 in
      let c = settled_once h.0 k.0 h.1 k.1 h.2 k.2 a b.0 h.6 k.6 in (
        h.8
            ∙ same_two (λ (w : Point) (v : Expr). Declare (next_numbers ns w) (Some v)) h.3 k.3 h.2 k.2 b.1 c
            ∙ sym k.8,
        h.9 ∙ same_two (λ (u : Ty) (w : Point). with_variables ns u w) h.0 k.0 h.3 k.3 a b.1 ∙ sym k.9,
      )
  one_declared m (decls.Define ns e) p q r y z h k =
      let b = value_once ov p e h.0 k.0 h.1 k.1 h.2 k.2 in (
        h.5
            ∙ same_two (λ (w : Point) (v : Expr). Declare (next_numbers ns w) (Some v)) h.1 k.1 h.0 k.0 b.1 b.0
            ∙ sym k.5,
        h.6 ∙ same_two (λ (v : Expr) (w : Point). with_variables ns (type_of v) w) h.0 k.0 h.1 k.1 b.0 b.1 ∙ sym k.6,
      )
  one_declared m (decls.Import ns name) p q r y z h k =
      let a = one_module p name h.0 k.0 h.1 k.1 h.3 k.3 in
      let s = subst (λ (o : Origin). AreImported p.context o k.1 ns k.2) (sym a.0) k.4 in
      let t = subst (λ (i : ℕ). AreImported p.context h.0 i ns k.2) (sym a.1) s in
      let l = one_imports p.context h.0 h.1 ns h.2 k.2 h.4 t in
      (h.6 ∙ sym k.6, h.7 ∙ ap (λ xs. with_imports ns xs p) l ∙ sym k.7)
  one_declared m (decls.Exception ns ts) p q r y z h k =
      let a =
      same_tuple h.0 k.0 (one_written p.context p.body (written.Tuple ts) (Tuple h.0) (Tuple k.0) h.1 k.1) in
      (h.3 ∙ sym k.3, h.4 ∙ ap (λ us. with_exceptions m ns (listed us) p) a ∙ sym k.4)
  one_declared m (decls.Module n ms) p q r y z h k =
      let a = all_in_module_one ov (length p.context.interfaces) ms (open_module n p) h.0 k.0 h.3 k.3 in
      (h.4 ∙ sym k.4, h.5 ∙ ap leave a ∙ sym k.5)
  one_declared m (decls.Adt n ms pick) p q r y z h k = (h.3 ∙ sym k.3, one_adt ov false n ms pick p q r h.2 k.2)
