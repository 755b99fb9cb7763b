-- A type means at most one type, and what is no type stands for none.
use Rattle.std.proofs.Common.{◌≡◌, ℕ, List, Option, None, Some, true, false, refl, sym, ap, subst, ◌∙◌}
use Rattle.limbo_tree.specs.Types as tree
use Rattle.limbo_types.specs.Types as ty
use Rattle.limbo_types.specs.Types.{Ty, Tys}
use Rattle.limbo_declarations.specs.Rows as told
use Rattle.limbo_declarations.specs.Rows.{Declared}
use Rattle.limbo_entries.specs.Entries.{Entry, IsEntry, AreOnce}
use Rattle.limbo_naming.specs.Naming.{is_adt, is_module, is_variant}
use Rattle.limbo_naming.specs.Qualified.{Simple, Member, of_type}
use Rattle.limbo_naming.specs.Direct.{IsDeclared}
use Rattle.limbo_naming.proofs.Direct.{one_declared}
use Rattle.limbo_type_names.specs.Numbers.{number_of}
use Rattle.limbo_type_names.specs.Means as means
use Rattle.limbo_type_names.specs.Means.{Means, AllMean, Stands, RefersTo, IsVariant, IsNoType, is_type}
use Rattle.std.proofs.lemmas.Option.{slice_get_within}
use Rattle.limbo_types.specs.View.{view_ty}
use Rattle.limbo_type_names.specs.declared.counted.Counted.{Counted}
use Rattle.limbo_type_names.specs.Working.{Types, AreTypes, Settles}
use Rattle.limbo_type_names.proofs.Knowing.{one_entry}

-- ---- what a declaration is

not_both : (d : Declared) → is_adt d ≡ true → is_module d ≡ true → ⊥
not_both (told.Adt ms pick) x y = absurd cc
not_both (told.Module ms) x y = absurd cc
not_both _ x y = absurd cc

pub alias_adt : (d : Declared) (t : tree.Ty) → d ≡ told.Alias t → is_adt d ≡ true → ⊥
alias_adt d t e x = let y = subst (λ (z : Declared). is_adt z ≡ true) e x in absurd cc

pub import_adt : (d : Declared) (s : List ℕ) → d ≡ told.Imported s → is_adt d ≡ true → ⊥
import_adt d s e x = let y = subst (λ (z : Declared). is_adt z ≡ true) e x in absurd cc

pub alias_module : (d : Declared) (t : tree.Ty) → d ≡ told.Alias t → is_module d ≡ true → ⊥
alias_module d t e x = let y = subst (λ (z : Declared). is_module z ≡ true) e x in absurd cc

pub import_module : (d : Declared) (s : List ℕ) → d ≡ told.Imported s → is_module d ≡ true → ⊥
import_module d s e x = let y = subst (λ (z : Declared). is_module z ≡ true) e x in absurd cc

module _ (es : List Entry) (m : ℕ) where
  -- ---- by the form of a type

  pub from_array : (scope : Option ℕ) (t : tree.Ty) (u : Ty) → Means es m scope (tree.ArrayOf t) u → (v : Ty) × (u ≡ ty.ArrayOf v) × Means es m scope t v
  from_array _ _ _ (means.array scope t u w) = (u, refl, w)

  pub from_list : (scope : Option ℕ) (t : tree.Ty) (u : Ty) → Means es m scope (tree.ListOf t) u → (v : Ty) × (u ≡ ty.ListOf v) × Means es m scope t v
  from_list _ _ _ (means.list scope t u w) = (u, refl, w)

  pub from_chan : (scope : Option ℕ) (t : tree.Ty) (u : Ty) → Means es m scope (tree.ChanOf t) u → (v : Ty) × (u ≡ ty.ChanOf v) × Means es m scope t v
  from_chan _ _ _ (means.chan scope t u w) = (u, refl, w)

  pub from_tuple : (scope : Option ℕ) (ts : tree.Tys) (u : Ty) → Means es m scope (tree.Tuple ts) u → (us : Tys) × (u ≡ ty.Tuple us) × AllMean es m scope ts us
  from_tuple _ _ _ (means.tuple scope ts us w) = (us, refl, w)

  pub from_named : (scope : Option ℕ) (q : tree.Qual) (u : Ty) → Means es m scope (tree.Named q) u
      → (k : ℕ) × IsDeclared es m scope (of_type q) k × Stands es m k u
  from_named _ _ _ (means.named scope q k u d s) = (k, d, s)

  pub from_ref : (scope : Option ℕ) (q : tree.Qual) (u : Ty) → Means es m scope (tree.RefTo q) u
      → (k : ℕ) × IsDeclared es m scope (of_type q) k × RefersTo es m k u
  from_ref _ _ _ (means.ref_to scope q k u d s) = (k, d, s)

  from_byte : (scope : Option ℕ) (u : Ty) → Means es m scope tree.Byte u → u ≡ ty.Byte
  from_byte _ _ (means.byte scope) = refl

  from_int : (scope : Option ℕ) (u : Ty) → Means es m scope tree.Int u → u ≡ ty.Int
  from_int _ _ (means.int scope) = refl

  from_big : (scope : Option ℕ) (u : Ty) → Means es m scope tree.Big u → u ≡ ty.Big
  from_big _ _ (means.big scope) = refl

  from_chars : (scope : Option ℕ) (u : Ty) → Means es m scope tree.String u → u ≡ ty.Chars
  from_chars _ _ (means.chars scope) = refl

  from_none : (scope : Option ℕ) (us : Tys) → AllMean es m scope tree.NoTys us → us ≡ ty.NoTys
  from_none _ _ (means.no_more scope) = refl

  pub from_more : (scope : Option ℕ) (t : tree.Ty) (ts : tree.Tys) (us : Tys) → AllMean es m scope (tree.MoreTys t ts) us
      → (v : Ty) × (vs : Tys) × (us ≡ ty.MoreTys v vs) × Means es m scope t v × AllMean es m scope ts vs
  from_more _ _ _ _ (means.and_more scope t ts u us a b) = (u, us, refl, a, b)

  -- ---- by what a declaration is

  same_means : (k : ℕ) (e f : Entry) (d : Declared) → IsEntry es k e → IsEntry es k f → f.row.means ≡ d → e.row.means ≡ d
  same_means k e f d i j w = ap (λ (z : Entry). z.row.means) (one_entry es k e f i j) ∙ w

  pub from_adt : (k : ℕ) (e : Entry) (u : Ty) → IsEntry es k e → is_adt e.row.means ≡ true → Stands es m k u → u ≡ ty.Adt (number_of es k e)
  from_adt _ e _ i a (means.adt k f j b) = ap (λ z. ty.Adt (number_of es k z)) (one_entry es k f e j i)
  from_adt _ e _ i a (means.module_type k f j b) = absurd (not_both e.row.means a (subst (λ (z : Entry). is_module z.row.means ≡ true) (one_entry es k f e j i) b))
  from_adt _ e _ i a (means.by_type k f t u j b w) = absurd (alias_adt e.row.means t (same_means k e f (told.Alias t) i j b) a)
  from_adt _ e _ i a (means.imported k f source l u j b d s) = absurd (import_adt e.row.means source (same_means k e f (told.Imported source) i j b) a)

  pub from_module : (k : ℕ) (e : Entry) (u : Ty) → IsEntry es k e → is_module e.row.means ≡ true → Stands es m k u → u ≡ ty.Module (number_of es k e)
  from_module _ e _ i a (means.adt k f j b) = absurd (not_both e.row.means (subst (λ (z : Entry). is_adt z.row.means ≡ true) (one_entry es k f e j i) b) a)
  from_module _ e _ i a (means.module_type k f j b) = ap (λ z. ty.Module (number_of es k z)) (one_entry es k f e j i)
  from_module _ e _ i a (means.by_type k f t u j b w) = absurd (alias_module e.row.means t (same_means k e f (told.Alias t) i j b) a)
  from_module _ e _ i a (means.imported k f source l u j b d s) = absurd (import_module e.row.means source (same_means k e f (told.Imported source) i j b) a)

  pub from_by_type : (k : ℕ) (e : Entry) (t : tree.Ty) (u : Ty) → IsEntry es k e → e.row.means ≡ told.Alias t → Stands es m k u → Means es m e.within t u
  from_by_type _ e t _ i a (means.adt k f j b) = absurd (alias_adt f.row.means t (same_means k f e (told.Alias t) j i a) b)
  from_by_type _ e t _ i a (means.module_type k f j b) = absurd (alias_module f.row.means t (same_means k f e (told.Alias t) j i a) b)
  from_by_type _ e t _ i a (means.by_type k f v u j b w) =
      let p : told.Alias v ≡ told.Alias t = sym b ∙ same_means k f e (told.Alias t) j i a in
      let q : v ≡ t = cc in
      subst (λ (z : tree.Ty). Means es m e.within z u) q (subst (λ (z : Entry). Means es m z.within v u) (one_entry es k f e j i) w)
  from_by_type _ e t _ i a (means.imported k f source l u j b d s) =
      let p : told.Imported source ≡ told.Alias t = sym b ∙ same_means k f e (told.Alias t) j i a in
      absurd cc

  pub from_import : (k : ℕ) (e : Entry) (source : List ℕ) (u : Ty) → IsEntry es k e → e.row.means ≡ told.Imported source → Stands es m k u
      → (j : ℕ) × IsDeclared es m e.within (Member (Simple source) e.row.name) j × Stands es m j u
  from_import _ e source _ i a (means.adt k f j b) = absurd (import_adt f.row.means source (same_means k f e (told.Imported source) j i a) b)
  from_import _ e source _ i a (means.module_type k f j b) = absurd (import_module f.row.means source (same_means k f e (told.Imported source) j i a) b)
  from_import _ e source _ i a (means.by_type k f v u j b w) =
      let p : told.Alias v ≡ told.Imported source = sym b ∙ same_means k f e (told.Imported source) j i a in
      absurd cc
  from_import _ e source _ i a (means.imported k f other l u j b d s) =
      let p : told.Imported other ≡ told.Imported source = sym b ∙ same_means k f e (told.Imported source) j i a in
      let q : other ≡ source = cc in (
        l,
        subst (λ (z : List ℕ). IsDeclared es m e.within (Member (Simple z) e.row.name) l) q
            (subst (λ (z : Entry). IsDeclared es m z.within (Member (Simple other) z.row.name) l) (one_entry es k f e j i) d),
        s,
      )

  -- ---- a variant stands for nothing, and has its numbers

  pub variant_no_type : (d : Declared) → means.is_type d ≡ true → is_variant d ≡ true → ⊥
  variant_no_type (told.Case fs) x y = absurd cc
  variant_no_type (told.Adt ms pick) x y = absurd cc
  variant_no_type (told.Module ms) x y = absurd cc
  variant_no_type (told.Alias t) x y = absurd cc
  variant_no_type (told.Imported s) x y = absurd cc
  variant_no_type _ x y = absurd cc

  adt_is_type : (d : Declared) → is_adt d ≡ true → is_type d ≡ true
  adt_is_type (told.Adt ms pick) x = refl
  adt_is_type _ x = absurd cc

  module_is_type : (d : Declared) → is_module d ≡ true → is_type d ≡ true
  module_is_type (told.Module ms) x = refl
  module_is_type _ x = absurd cc

  -- what stands for a type is declared as one
  pub stands_is_type : (k : ℕ) (u : Ty) → Stands es m k u → (e : Entry) × IsEntry es k e × (is_type e.row.means ≡ true)
  stands_is_type _ _ (means.adt k e i a) = (e, i, adt_is_type e.row.means a)
  stands_is_type _ _ (means.module_type k e i a) = (e, i, module_is_type e.row.means a)
  stands_is_type _ _ (means.by_type k e t u i a w) = (e, i, ap is_type a)
  stands_is_type _ _ (means.imported k e source j u i a d s) = (e, i, ap is_type a)

  pub variant_stands : (k a v : ℕ) (u : Ty) → IsVariant es k a v → Stands es m k u → ⊥
  variant_stands k a v u w s =
      let x = stands_is_type k u s in
      variant_no_type x.0.row.means x.2 (subst (λ (z : Entry). is_variant z.row.means ≡ true) (one_entry es k w.entry x.0 w.there x.1) w.is)

  pub one_variant : (k a v b w : ℕ) → IsVariant es k a v → IsVariant es k b w → (a ≡ b) × (v ≡ w)
  one_variant k a v b w x y =
      let e : x.entry ≡ y.entry = one_entry es k x.entry y.entry x.there y.there in
      let p : Some x.place ≡ Some y.place = sym x.within ∙ ap (λ (z : Entry). z.within) e ∙ y.within in
      let q : x.place ≡ y.place = cc in
      let o : x.outer ≡ y.outer = one_entry es y.place x.outer y.outer (subst (λ (z : ℕ). IsEntry es z x.outer) q x.outer_there) y.outer_there in (
        x.adt_is ∙ ap (λ z. number_of es z x.outer) q ∙ ap (λ z. number_of es y.place z) o ∙ sym y.adt_is,
        x.variant_is ∙ ap (λ z. number_of es k z) e ∙ sym y.variant_is,
      )

  -- ---- at most one type

  module _ (once : AreOnce es) where
    mutual
      pub one_type : (scope : Option ℕ) (t : tree.Ty) (u v : Ty) → Means es m scope t u → Means es m scope t v → u ≡ v
      one_type _ _ _ v (means.byte scope) b = sym (from_byte scope v b)
      one_type _ _ _ v (means.int scope) b = sym (from_int scope v b)
      one_type _ _ _ v (means.big scope) b = sym (from_big scope v b)
      one_type _ _ _ v (means.chars scope) b = sym (from_chars scope v b)
      one_type _ _ _ v (means.array scope t u a) b = let x = from_array scope t v b in ap ty.ArrayOf (one_type scope t u x.0 a x.2) ∙ sym x.1
      one_type _ _ _ v (means.list scope t u a) b = let x = from_list scope t v b in ap ty.ListOf (one_type scope t u x.0 a x.2) ∙ sym x.1
      one_type _ _ _ v (means.chan scope t u a) b = let x = from_chan scope t v b in ap ty.ChanOf (one_type scope t u x.0 a x.2) ∙ sym x.1
      one_type _ _ _ v (means.tuple scope ts us a) b = let x = from_tuple scope ts v b in ap ty.Tuple (all_one scope ts us x.0 a x.2) ∙ sym x.1
      one_type _ _ _ v (means.named scope q k u d s) b =
          let x = from_named scope q v b in
          let p : x.0 ≡ k = one_declared es m scope once (of_type q) x.0 k x.1 d in
          one_stands k u v s (subst (λ (z : ℕ). Stands es m z v) p x.2)
      one_type _ _ _ v (means.ref_to scope q k u d s) b =
          let x = from_ref scope q v b in
          let p : x.0 ≡ k = one_declared es m scope once (of_type q) x.0 k x.1 d in
          one_ref k u v s (subst (λ (z : ℕ). RefersTo es m z v) p x.2)

      all_one : (scope : Option ℕ) (ts : tree.Tys) (us vs : Tys) → AllMean es m scope ts us → AllMean es m scope ts vs → us ≡ vs
      all_one _ _ _ vs (means.no_more scope) b = sym (from_none scope vs b)
      all_one _ _ _ vs (means.and_more scope t ts u us a c) b =
          let x = from_more scope t ts vs b in
          ap (λ z. ty.MoreTys z us) (one_type scope t u x.0 a x.3) ∙ ap (λ z. ty.MoreTys x.0 z) (all_one scope ts us x.1 c x.4) ∙ sym x.2

      pub one_stands : (k : ℕ) (u v : Ty) → Stands es m k u → Stands es m k v → u ≡ v
      one_stands _ _ v (means.adt k e i a) b = sym (from_adt k e v i a b)
      one_stands _ _ v (means.module_type k e i a) b = sym (from_module k e v i a b)
      one_stands _ _ v (means.by_type k e t u i a w) b = one_type e.within t u v w (from_by_type k e t v i a b)
      one_stands _ _ v (means.imported k e source j u i a d s) b =
          let x = from_import k e source v i a b in
          let p : x.0 ≡ j = one_declared es m e.within once (Member (Simple source) e.row.name) x.0 j x.1 d in
          one_stands j u v s (subst (λ (z : ℕ). Stands es m z v) p x.2)

      one_ref : (k : ℕ) (u v : Ty) → RefersTo es m k u → RefersTo es m k v → u ≡ v
      one_ref _ _ _ (means.of_adt k n s) (means.of_adt _ l r) =
          let e : ty.Adt n ≡ ty.Adt l = one_stands k (ty.Adt n) (ty.Adt l) s r in
          let f : n ≡ l = cc in ap ty.RefAdt f
      one_ref _ _ _ (means.of_adt k n s) (means.of_variant _ a v w) = absurd (variant_stands k a v (ty.Adt n) w s)
      one_ref _ _ _ (means.of_variant k a v w) (means.of_adt _ n s) = absurd (variant_stands k a v (ty.Adt n) w s)
      one_ref _ _ _ (means.of_variant k a v w) (means.of_variant _ b x y) =
          let e = one_variant k a v b x w y in ap (λ z. ty.RefPick z v) e.0 ∙ ap (λ z. ty.RefPick b z) e.1

    -- ---- what is no type stands for none

    pub no_type_stands : (k : ℕ) (u : Ty) → IsNoType es m k → Stands es m k u → ⊥
    no_type_stands _ u (means.other k e i a) s =
        let x = stands_is_type k u s in
        let y : is_type e.row.means ≡ true = subst (λ (z : Entry). is_type z.row.means ≡ true) (one_entry es k x.0 e x.1 i) x.2 in
        absurd (let z : true ≡ false = sym y ∙ a in cc)
    no_type_stands _ u (means.imports_other k e source j i a d w) s =
        let x = from_import k e source u i a s in
        let p : x.0 ≡ j = one_declared es m e.within once (Member (Simple source) e.row.name) x.0 j x.1 d in
        no_type_stands j u w (subst (λ (z : ℕ). Stands es m z u) p x.2)
    no_type_stands _ u (means.imports_nothing k e source i a none) s = let x = from_import k e source u i a s in none x.0 x.1
    -- ---- a name by `type` is a type

  alias_type : (k : ℕ) (e : Entry) (t : tree.Ty) → IsEntry es k e → e.row.means ≡ told.Alias t → IsNoType es m k → ⊥
  alias_type _ e t i a (means.other k f j b) =
      let y : is_type f.row.means ≡ true = ap is_type (same_means k f e (told.Alias t) j i a) in
      absurd (let z : true ≡ false = sym y ∙ b in cc)
  alias_type _ e t i a (means.imports_other k f source l j b d w) =
      let p : told.Imported source ≡ told.Alias t = sym b ∙ same_means k f e (told.Alias t) j i a in
      absurd cc
  alias_type _ e t i a (means.imports_nothing k f source j b none) =
      let p : told.Imported source ≡ told.Alias t = sym b ∙ same_means k f e (told.Alias t) j i a in
      absurd cc

  pub by_type_stands : (types : Types) (k : ℕ) (e : Entry) (t : tree.Ty) → AreTypes es m types → IsEntry es k e → e.row.means ≡ told.Alias t
      → (u : Ty) × Stands es m k u
  by_type_stands types k e t are i a = let d = are.done k (slice_get_within es k e i) in go d.found d.settles
    where
      go : (o : Option Counted) → Settles es m k o → (u : Ty) × Stands es m k u
      go None w = absurd (alias_type k e t i a w)
      go (Some c) w = (view_ty c.ty, w)
