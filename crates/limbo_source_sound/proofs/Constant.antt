-- The constants of a source's context are of their types, and so are those with which variables begin.
use Rattle.std.proofs.Common.{◌≡◌, ℕ, List, Option, None, Some, refl, sym, ap, subst, ◌∙◌}
use Rattle.limbo_tree.specs.Exprs as tree
use Rattle.limbo_tree.specs.Exprs.{Expr}
use Rattle.limbo_types.specs.Types.{Ty}
use Rattle.limbo_constants.specs.declared.constant.Constant as source
use Rattle.limbo_constants.specs.Constants.{constant_in}
use Rattle.limbo_entries.specs.Entries.{Entry, AreOnce}
use Rattle.limbo_entries.proofs.Lists.{contained}
use Rattle.limbo_constant_values.specs.Values.{Comes, comes, initial_value}
use Rattle.limbo_constant_values.proofs.Meanings.{one_coming}
use Rattle.limbo_type_names.proofs.Knowing.{one_entry}
use Rattle.limbo_typed.specs.Typed.{Var, Module}
use Rattle.limbo_typed.specs.declared.module.Initial.{Initial}
use Rattle.limbo_typed.specs.Fitting.{IsConstant}
use Rattle.limbo_typed.specs.Sound.{Each, HasVariable, SoundInitial}
use Rattle.limbo_context.specs.Context.{Context, Valued}
use Rattle.limbo_meanings.specs.declared.kind.Kind.TheVariants as kind
use Rattle.limbo_meanings.specs.Kinds.{place, has_kind}
use Rattle.limbo_outline.specs.Outline as outline
use Rattle.limbo_outline.specs.Outline.{type_of_constant, value_of_constant, valued}
use Rattle.limbo_outline.proofs.Numbers.{global_of}
use Rattle.limbo_source_context.specs.SourceContext.{IsContext}
use Rattle.limbo_source_context.specs.Beginning as beginning
use Rattle.limbo_source_context.specs.Beginning.{Begins, AreBeginnings, AllBeginSo, MayBegin}
use Rattle.limbo_stated_sound.proofs.Lists.{each_of}
use Rattle.limbo_source_sound.proofs.Listing.{listed_each}
use Rattle.limbo_source_sound.proofs.Ranged.{is_constant, value_range, comes_range}

one_constant : (es : List Entry) (m k : ℕ) (e : Entry) (v : Valued) → outline.IsConstant es m k e v → IsConstant v.ty v.value
one_constant es m k e v h = subst (λ (z : Valued). IsConstant z.ty z.value) (sym h.2) (is_constant h.0 (value_range es m k h.0 h.1))

pub constants_typed : (es : List Entry) (m : ℕ) (name : List ℕ) (c : Context) → IsContext es m name c
    → Each (λ v. IsConstant v.ty v.value) c.constants
constants_typed es m name c k =
    listed_each (has_kind es m (place kind.Constant)) (outline.IsConstant es m) (λ v. IsConstant v.ty v.value) (one_constant es m)
    0 es c.constants k.constants

-- ---- initial values

nil_comes_to_none : (es : List Entry) (m : ℕ) (scope iota : Option ℕ) (expr : Expr) (c : source.Constant) → Comes es m scope iota expr c
    → expr ≡ tree.Nil → ⊥
nil_comes_to_none es m _ _ _ _ (comes scope iota expr c meant means gives) e =
    let h : constant_in meant tree.Nil ≡ Some c = subst (λ (x : Expr). constant_in meant x ≡ Some c) e gives in
    absurd cc

one_expr : (o : Option Expr) (a b : Expr) → o ≡ Some a → o ≡ Some b → a ≡ b
one_expr o a b p q = cc

module _ (es : List Entry) (m : ℕ) (once : AreOnce es) where
  -- a variable may begin with a constant of its type alone
  of_its_type : (e : Entry) (t : Ty) (expr : Expr) (c : source.Constant) → initial_value e.row.means ≡ Some expr
      → Comes es m e.within None expr c
      → MayBegin es m e t → IsConstant t (value_of_constant c)
  of_its_type e t expr c w from (beginning.with_nothing none) = let p : None ≡ Some expr = sym none ∙ w in absurd cc
  of_its_type e t expr c w from (beginning.with_constant other d v come p) =
      let q = one_expr (initial_value e.row.means) other expr v w in
      let s = one_coming es m once e.within None expr d c (subst (λ (z : Expr). Comes es m e.within None z d) q come) from in
      subst (λ (z : Ty). IsConstant z (value_of_constant c)) (ap type_of_constant (sym s) ∙ p)
      (is_constant c (comes_range es m e.within None expr c from))
  of_its_type e t expr c w from (beginning.with_nil v n) =
      absurd (nil_comes_to_none es m e.within None expr c from (one_expr (initial_value e.row.means) expr tree.Nil w v))

  module _ (name : List ℕ) (c : Context) (is : IsContext es m name c) (so : AllBeginSo es m c.globals) where
    one_initial : (k : ℕ) (i : Initial) → Begins es m k i → (t : Ty) × HasVariable c.globals i.global t × IsConstant t i.value
    one_initial k i b =
        let g = global_of es m k i.global b.entry c.globals is.globals b.there b.is in
        let f = b.initial in
        let p = one_entry es k f.entry b.entry f.there b.there in
        let from = subst (λ (z : Entry). Comes es m z.within None f.expr b.constant) p f.comes in
        let w = ap (λ (z : Entry). initial_value z.row.means) (sym p) ∙ f.written in
        let t = of_its_type b.entry g.0.ty f.expr b.constant w from (so k i.global b.entry g.0 b.there b.is g.1) in
        (g.0.ty, (g.0, g.1, refl), subst (IsConstant g.0.ty) (sym b.value) t)

    pub initials_sound : (initials : List Initial) (checked : Module) → AreBeginnings es m initials → checked.globals ≡ c.globals
        → Each (SoundInitial checked) initials
    initials_sound initials checked are same =
        each_of (SoundInitial checked) initials (λ n i at.
        let b = are.only i (contained initials n i at) in
        let x = one_initial b.0 i b.1 in
        (x.0, subst (λ (z : List Var). HasVariable z i.global x.0) (sym same) x.1, x.2))
