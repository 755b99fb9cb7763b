-- What is told of each declaration is one thing at most.
use Rattle.std.proofs.Common.{◌≡◌, ◌<◌, ◌⊎◌, inl, inr, ℕ, suc, Bool, true, false, List, [], ◌∷◌, Option, None, Some, refl, sym, ap, subst}
use Rattle.std.proofs.Common.{◌∙◌, arith}
use Rattle.limbo_tree.specs.Types as tree
use Rattle.limbo_tree.specs.Exprs.{Expr}
use Rattle.limbo_tree.specs.Decls as decls
use Rattle.limbo_types.specs.Types.{Ty, Tys, FnTy, Tuple}
use Rattle.limbo_types.specs.View.{tys_of}
use Rattle.limbo_typed.specs.Typed.{Var, Exception, Signature, Interface}
use Rattle.limbo_layout.specs.Adts.{Field, Variant, Def}
use Rattle.limbo_constant_values.specs.Values.{Comes}
use Rattle.limbo_constant_values.proofs.Meanings.{one_value, one_coming}
use Rattle.limbo_declarations.specs.Rows as rows
use Rattle.limbo_entries.specs.Entries.{Entry, IsEntry, AreOnce}
use Rattle.limbo_naming.specs.Naming.{is_variant, is_variable}
use Rattle.limbo_type_names.specs.Means as means
use Rattle.limbo_type_names.specs.Means.{Means, AllMean}
use Rattle.limbo_type_names.proofs.Unique.{one_type, one_stands}
use Rattle.limbo_headers.specs.Headers.{AnswerMeans, no_answer, an_answer, IsHeader}
use Rattle.limbo_source_adts.specs.Inside.{numbers_inside}
use Rattle.limbo_source_adts.specs.Definitions.{FieldsAre, no_fields, a_field, no_field, VariantsAre, no_variants, a_variant, no_variant}
use Rattle.limbo_source_adts.specs.Definitions.{IsAdt, AdtsAre, no_adts, an_adt, no_adt}
use Rattle.limbo_context.specs.Context.{Valued, Callee}
use Rattle.limbo_meanings.specs.Listed.{Listed, none_left, one_told, none_told}
use Rattle.limbo_exports.specs.Exports.{is_called}
use Rattle.limbo_outline.specs.Outline.{IsConstant, valued, IsType, HasType, written, inferred, type_of_constant, IsGlobal, IsFunction}
use Rattle.limbo_outline.specs.Outline.{IsException}
use Rattle.limbo_outline_members.specs.Members.{IsSignature, IsInterface}
use Rattle.limbo_source_context.specs.SourceContext.{IsFound}

pub never : {b : Bool} → b ≡ true → b ≡ false → ⊥
never t f = let z : true ≡ false = sym t ∙ f in absurd cc

-- ---- lists

module _ {A : Type 0} (test : Entry → Bool) (is or : ℕ → Entry → A → Type 0) (one : (k : ℕ) (e : Entry) (a b : A) → is k e a → or k e b →
    a ≡ b) where
  pub one_list : (k : ℕ) (es : List Entry) (xs ys : List A) → Listed test is k es xs → Listed test or k es ys → xs ≡ ys
  one_list _ _ _ _ (none_left k) (none_left _) = refl
  one_list _ _ _ _ (one_told k e a es xs t h l) (one_told _ _ b _ ys u i r) =
      ap (λ z. z ∷ xs) (one k e a b h i) ∙ ap (λ zs. b ∷ zs) (one_list (suc k) es xs ys l r)
  one_list _ _ _ _ (one_told k e a es xs t h l) (none_told _ _ _ ys u r) = absurd (never t u)
  one_list _ _ _ _ (none_told k e es xs t l) (one_told _ _ b _ ys u i r) = absurd (never u t)
  one_list _ _ _ _ (none_told k e es xs t l) (none_told _ _ _ ys u r) = one_list (suc k) es xs ys l r

-- ---- the first of a kind

apart : (a b : ℕ) → (a < b) ⊎ ((b < a) ⊎ (a ≡ b))
apart a b = grind arith

pub one_first : (test : Entry → Bool) (es : List Entry) (a b : Option ℕ) → IsFound test es a → IsFound test es b → a ≡ b
one_first test es None None f g = refl
one_first test es None (Some k) f g = absurd (never g.holds (f k g.entry g.there))
one_first test es (Some k) None f g = absurd (never f.holds (g k f.entry f.there))
one_first test es (Some k) (Some l) f g = elim (apart k l) [
  | inl y ↦ absurd (never f.holds (g.none_before k f.entry y f.there))
  | inr y ↦ elim y [
    | inl z ↦ absurd (never g.holds (f.none_before l g.entry z g.there))
    | inr z ↦ ap Some z
  ]
]

-- ---- types

tys_same : (xs ys : List Ty) → tys_of xs ≡ tys_of ys → xs ≡ ys
tys_same [] [] h = refl
tys_same [] (y ∷ ys) h = absurd cc
tys_same (x ∷ xs) [] h = absurd cc
tys_same (x ∷ xs) (y ∷ ys) h =
    let p : x ≡ y = cc in
    let q : tys_of xs ≡ tys_of ys = cc in
    ap (λ z. z ∷ xs) p ∙ ap (λ zs. y ∷ zs) (tys_same xs ys q)

same_fn : (a b : FnTy) → a.args ≡ b.args → a.answer ≡ b.answer → a ≡ b
same_fn a b p q = ap (λ (z : List Ty). let r : FnTy = record { args = z; answer = a.answer } in r) p
    ∙ ap (λ (z : Ty). let r : FnTy = record { args = b.args; answer = z } in r) q

module _ (es : List Entry) (m : ℕ) (once : AreOnce es) where
  all_one : (scope : Option ℕ) (ts : tree.Tys) (us vs : Tys) → AllMean es m scope ts us → AllMean es m scope ts vs → us ≡ vs
  all_one scope ts us vs a b =
      let p : Tuple us ≡ Tuple vs =
      one_type es m once scope (tree.Tuple ts) (Tuple us) (Tuple vs) (means.tuple scope ts us a) (means.tuple scope ts vs b) in
      cc

  one_answer : (scope : Option ℕ) (t : Option tree.Ty) (u v : Ty) → AnswerMeans es m scope t u → AnswerMeans es m scope t v → u ≡ v
  one_answer scope _ _ _ no_answer no_answer = refl
  one_answer scope _ _ _ (an_answer t u a) (an_answer _ v b) = one_type es m once scope t u v a b

  pub one_header : (scope : Option ℕ) (f : decls.FnType) (a b : FnTy) (s r : Bool) → IsHeader es m scope f a s → IsHeader es m scope f b r
      → (a ≡ b) × (s ≡ r)
  one_header scope f a b s r h i = (
    same_fn a b (tys_same a.args b.args (all_one scope _ (tys_of a.args) (tys_of b.args) h.args i.args)) (one_answer scope f.answer
        a.answer b.answer h.answer i.answer),
    h.self_is ∙ sym i.self_is,
  )

  same_function : (e : Entry) (f g : decls.FnType) → e.row.means ≡ rows.Function f → e.row.means ≡ rows.Function g → g ≡ f
  same_function e f g p q = let z : rows.Function g ≡ rows.Function f = sym q ∙ p in cc

  -- ---- constants, types and variables

  pub one_constant : (k : ℕ) (e : Entry) (a b : Valued) → IsConstant es m k e a → IsConstant es m k e b → a ≡ b
  one_constant k e a b h i = h.2 ∙ ap valued (one_value es m once k h.0 i.0 h.1 i.1) ∙ sym i.2

  pub one_name : (k : ℕ) (e : Entry) (a b : Ty) → IsType es m k e a → IsType es m k e b → a ≡ b
  one_name k e a b h i = one_stands es m once k a b h i

  pub one_has_type : (e : Entry) (t u : Ty) → HasType es m e t → HasType es m e u → t ≡ u
  one_has_type e _ _ (written t v a is w) (written s x b or z) =
      let p : rows.Variable s x ≡ rows.Variable t v = sym or ∙ is in
      let q : s ≡ t = cc in
      one_type es m once e.within t a b w (subst (λ (y : tree.Ty). Means es m e.within y b) q z)
  one_has_type e _ _ (written t v a is w) (inferred x c or z) = let p : rows.Variable t v ≡ rows.Inferred x = sym is ∙ or in absurd cc
  one_has_type e _ _ (inferred x c is w) (written s v b or z) = let p : rows.Variable s v ≡ rows.Inferred x = sym or ∙ is in absurd cc
  one_has_type e _ _ (inferred x c is w) (inferred y d or z) =
      let p : rows.Inferred y ≡ rows.Inferred x = sym or ∙ is in
      let q : y ≡ x = cc in
      ap type_of_constant (one_coming es m once e.within None x c d w (subst (λ (o : Expr). Comes es m e.within None o d) q z))

  pub one_global : (k : ℕ) (e : Entry) (a b : Var) → IsGlobal es m k e a → IsGlobal es m k e b → a ≡ b
  one_global k e a b h i =
      ap (λ (z : List ℕ). let r : Var = record { name = z; ty = a.ty } in r) (h.named ∙ sym i.named)
      ∙ ap (λ (z : Ty). let r : Var = record { name = b.name; ty = z } in r) (one_has_type e a.ty b.ty h.typed i.typed)

  -- ---- functions, exceptions and module types

  pub one_function : (k : ℕ) (e : Entry) (a b : Callee) → IsFunction es m k e a → IsFunction es m k e b → a ≡ b
  one_function k e a b h i =
      let g : i.of ≡ h.of = same_function e h.of i.of h.is i.is in
      let p = one_header e.within h.of a.of b.of a.takes_self b.takes_self h.header
      (subst (λ (z : decls.FnType). IsHeader es m e.within z b.of b.takes_self) g i.header) in
      ap (λ (z : FnTy). let r : Callee = record { of = z; owner = a.owner; takes_self = a.takes_self } in r) p.0
      ∙ ap (λ (z : Option ℕ). let r : Callee = record { of = b.of; owner = z; takes_self = a.takes_self } in r) (h.owner ∙ sym i.owner)
      ∙ ap (λ (z : Bool). let r : Callee = record { of = b.of; owner = b.owner; takes_self = z } in r) p.1

  pub one_exception : (module_name : List ℕ) (k : ℕ) (e : Entry) (a b : Exception) → IsException es m module_name k e a
      → IsException es m module_name k e b → a ≡ b
  one_exception module_name k e a b h i =
      let p : rows.Exception i.values ≡ rows.Exception h.values = sym i.is ∙ h.is in
      let q : i.values ≡ h.values = cc in
      let v : a.values ≡ b.values = tys_same a.values b.values
      (all_one e.within h.values (tys_of a.values) (tys_of b.values) h.mean
      (subst (λ (z : tree.Tys). AllMean es m e.within z (tys_of b.values)) q i.mean)) in
      ap (λ (z : List ℕ). let r : Exception = record { module_name = z; name = a.name; values = a.values } in r) (h.of_module ∙ sym
      i.of_module)
      ∙ ap (λ (z : List ℕ). let r : Exception = record { module_name = b.module_name; name = z; values = a.values } in r) (h.named ∙ sym
      i.named)
      ∙ ap (λ (z : List Ty). let r : Exception = record { module_name = b.module_name; name = b.name; values = z } in r) v

  one_signature : (k : ℕ) (e : Entry) (a b : Signature) → IsSignature es m k e a → IsSignature es m k e b → a ≡ b
  one_signature k e a b h i =
      let g : i.of ≡ h.of = same_function e h.of i.of h.is i.is in
      let p = one_header e.within h.of a.of b.of h.self_first i.self_first h.header
      (subst (λ (z : decls.FnType). IsHeader es m e.within z b.of i.self_first) g i.header) in
      ap (λ (z : List ℕ). let r : Signature = record { name = z; of = a.of } in r) (h.named ∙ sym i.named)
      ∙ ap (λ (z : FnTy). let r : Signature = record { name = b.name; of = z } in r) p.0

  pub one_interface : (system : Option ℕ) (k : ℕ) (e : Entry) (a b : Interface) → IsInterface es m system k e a → IsInterface es m system
      k e b
      → a ≡ b
  one_interface system k e a b h i =
      ap (λ (z : List ℕ). let r : Interface = record { name = z; functions = a.functions } in r) (h.named ∙ sym i.named)
      ∙ ap (λ (z : List Signature). let r : Interface = record { name = b.name; functions = z } in r)
      (one_list (is_called system (Some k)) (IsSignature es m) (IsSignature es m) one_signature 0 es a.functions b.functions h.functions
      i.functions)

  -- ---- adts

  same_entry : (k : ℕ) (a b : Entry) → IsEntry es k a → IsEntry es k b → b ≡ a
  same_entry k a b f g = cc

  one_fields : (ks : List ℕ) (fs gs : List Field) → FieldsAre es m ks fs → FieldsAre es m ks gs → fs ≡ gs
  one_fields _ _ _ no_fields no_fields = refl
  one_fields _ _ _ (a_field k e t v f ks fs at is n w l) (a_field _ d s x g _ gs there or o z r) =
      let p : d ≡ e = same_entry k e d at there in
      let q : rows.Variable s x ≡ rows.Variable t v = sym or ∙ ap (λ (y : Entry). y.row.means) p ∙ is in
      let u : s ≡ t = cc in
      let y : Means es m e.within t g.ty =
      subst (λ (y : tree.Ty). Means es m e.within y g.ty) u (subst (λ (y : Entry). Means es m y.within s g.ty) p z) in
      let a : f.name ≡ g.name = n ∙ ap (λ (y : Entry). y.row.name) (sym p) ∙ sym o in
      let b : f.ty ≡ g.ty = one_type es m once e.within t f.ty g.ty w y in
      let c : f ≡ g = ap (λ (y : List ℕ). let r : Field = record { name = y; ty = f.ty } in r) a
      ∙ ap (λ (y : Ty). let r : Field = record { name = g.name; ty = y } in r) b in
      ap (λ y. y ∷ fs) c ∙ ap (λ ys. g ∷ ys) (one_fields ks fs gs l r)
  one_fields _ _ _ (a_field k e t v f ks fs at is n w l) (no_field _ d _ gs there or r) =
      let p : d ≡ e = same_entry k e d at there in
      absurd (never (ap is_variable is) (ap (λ (y : Entry). is_variable y.row.means) (sym p) ∙ or))
  one_fields _ _ _ (no_field k e ks fs at is l) (a_field _ d s x g _ gs there or o z r) =
      let p : d ≡ e = same_entry k e d at there in
      absurd (never (ap is_variable or) (ap (λ (y : Entry). is_variable y.row.means) p ∙ is))
  one_fields _ _ _ (no_field k e ks fs at is l) (no_field _ d _ gs there or r) = one_fields ks fs gs l r

  one_variants : (ks : List ℕ) (vs ws : List Variant) → VariantsAre es m ks vs → VariantsAre es m ks ws → vs ≡ ws
  one_variants _ _ _ no_variants no_variants = refl
  one_variants _ _ _ (a_variant k e v ks vs at is n f l) (a_variant _ d w _ ws there or o g r) =
      let p : d ≡ e = same_entry k e d at there in
      let a : v.name ≡ w.name = n ∙ ap (λ (y : Entry). y.row.name) (sym p) ∙ sym o in
      let b : v.fields ≡ w.fields = one_fields (numbers_inside es k) v.fields w.fields f g in
      let c : v ≡ w = ap (λ (y : List ℕ). let r : Variant = record { name = y; fields = v.fields } in r) a
      ∙ ap (λ (y : List Field). let r : Variant = record { name = w.name; fields = y } in r) b in
      ap (λ y. y ∷ vs) c ∙ ap (λ ys. w ∷ ys) (one_variants ks vs ws l r)
  one_variants _ _ _ (a_variant k e v ks vs at is n f l) (no_variant _ d _ ws there or r) =
      let p : d ≡ e = same_entry k e d at there in
      absurd (never is (ap (λ (y : Entry). is_variant y.row.means) (sym p) ∙ or))
  one_variants _ _ _ (no_variant k e ks vs at is l) (a_variant _ d w _ ws there or o g r) =
      let p : d ≡ e = same_entry k e d at there in
      absurd (never or (ap (λ (y : Entry). is_variant y.row.means) p ∙ is))
  one_variants _ _ _ (no_variant k e ks vs at is l) (no_variant _ d _ ws there or r) = one_variants ks vs ws l r

  one_adt : (k : ℕ) (c d : Def) → IsAdt es m k c → IsAdt es m k d → c ≡ d
  one_adt k c d h i =
      let p : i.entry ≡ h.entry = same_entry k h.entry i.entry h.there i.there in
      let a : c.name ≡ d.name = h.named ∙ ap (λ (y : Entry). y.row.name) (sym p) ∙ sym i.named in
      let b : c.fields ≡ d.fields = one_fields (numbers_inside es k) c.fields d.fields h.fields i.fields in
      let v : c.picks ≡ d.picks = one_variants (numbers_inside es k) c.picks d.picks h.variants i.variants in
      ap (λ (y : List ℕ). let r : Def = record { name = y; fields = c.fields; picks = c.picks } in r) a
      ∙ ap (λ (y : List Field). let r : Def = record { name = d.name; fields = y; picks = c.picks } in r) b
      ∙ ap (λ (y : List Variant). let r : Def = record { name = d.name; fields = d.fields; picks = y } in r) v

  pub one_adts : (k : ℕ) (fs : List Entry) (cs ds : List Def) → AdtsAre es m k fs cs → AdtsAre es m k fs ds → cs ≡ ds
  one_adts _ _ _ _ (no_adts k) (no_adts _) = refl
  one_adts _ _ _ _ (an_adt k e c fs cs is h l) (an_adt _ _ d _ ds or i r) =
      ap (λ y. y ∷ cs) (one_adt k c d h i) ∙ ap (λ ys. d ∷ ys) (one_adts (suc k) fs cs ds l r)
  one_adts _ _ _ _ (an_adt k e c fs cs is h l) (no_adt _ _ _ ds or r) = absurd (never is or)
  one_adts _ _ _ _ (no_adt k e fs cs is l) (an_adt _ _ d _ ds or i r) = absurd (never or is)
  one_adts _ _ _ _ (no_adt k e fs cs is l) (no_adt _ _ _ ds or r) = one_adts (suc k) fs cs ds l r
