-- Constants, as the code comes to them.
use Rattle.std.proofs.Common.{◌≡◌, ◌<◌, ◌++◌, ◌∷◌, [], ℕ, ℤ, pos, List, Option, None, Some, length, map, refl, sym, ap, subst, ◌∙◌}
use Rattle.std.specs.Prelude.{Result, Ok, Err, IfOk}
use Rattle.std.proofs.lemmas.List.{map-append, length-map}
use Rattle.limbo_types.specs.Types.{Ty, Int}
use Rattle.limbo_types.specs.declared.ty.Ty.TheVariants as make
use Rattle.limbo_types.specs.View.{view_ty}
use Rattle.limbo_types.proofs.View.{view_ty-Int}
use Rattle.limbo_tree.specs.Exprs as tree
use Rattle.limbo_typed.specs.declared.stmt.Constant.{Constant}
use Rattle.limbo_typed.specs.declared.stmt.Constant.TheVariants as constant
use Rattle.limbo_typed.specs.Typed.{Expr, Stmt, Empty}
use Rattle.limbo_typed.specs.View.{view_var}
use Rattle.limbo_typed.specs.Sound.{type_of}
use Rattle.limbo_scope.specs.declared.meaning.Meaning.{Meaning}
use Rattle.limbo_scope.specs.Scopes.{seen, Scope}
use Rattle.limbo_folding.specs.Folding.{value_of}
use Rattle.limbo_causes.specs.declared.fault.Cause as code
use Rattle.limbo_causes.specs.Causes.{Twice, NotConstant, FailsBy}
use Rattle.limbo_causes.proofs.Telling.{fails_weaker}
use Rattle.limbo_context.specs.declared.context.Valued as code_valued
use Rattle.limbo_context.specs.declared.body.Body as code_body
use Rattle.limbo_context.specs.Context.{Context, Body, Valued}
use Rattle.limbo_context.specs.View.{view_valued, view_body}
use Rattle.limbo_exprs.specs.limbo_typing.Failing.{FailsValue}
use Rattle.limbo_tree.specs.Decls as decls
use Rattle.limbo_scope.specs.declared.meaning.Meaning.TheVariants as meaning
use Rattle.limbo_scope.specs.Laws.{declared_all}
use Rattle.limbo_local.specs.Points.{Point, meaning_from}
use Rattle.limbo_local.specs.Local.{iota, counting, seeing_iota, seen_behind, with_constants}
use Rattle.limbo_local.specs.Failing.{FailsConstant, FailsToDeclare}
use Rattle.limbo_local.specs.Failing as failing
use Rattle.limbo_locals.specs.Named.{AreFree}
use Rattle.limbo_locals.specs.Anywhere.{at, HasValueAt, IsConstantAt, AreConstantsAt, AddsConstants, FailsConstantAt, FailsConstantsAt}
use Rattle.limbo_locals.specs.Anywhere.{DeclaresAt, FailsAt}
use Rattle.limbo_locals.proofs.Growing.{scopes_kept}

-- what is told of each
pub if_ok : {T E : Type 0} (r : Result T E) {P Q : T → Type 0} → ((x : T) → P x → Q x) → IfOk r P → IfOk r Q
if_ok (Ok x) f h = f x h
if_ok (Err e) f h = tt

-- the next constant is what `iota` counts
pub counted_more : (old pushed : List code_valued.Valued) (v : code_valued.Valued) (z : ℤ) (k : ℕ) → pushed ≡ old ++ v ∷ []
    → v.ty ≡ make.Int → v.value ≡ constant.Number z → z ≡ pos k
    → map view_valued pushed ≡ map view_valued old ++ (record { ty = Int; value = constant.Number (pos k) }) ∷ []
counted_more old pushed v z k p t w n =
    ap (map view_valued) p ∙ map-append view_valued old (v ∷ [])
    ∙ ap (λ (u : Ty). map view_valued old ++ (record { ty = u; value = v.value }) ∷ []) (ap view_ty t ∙ view_ty-Int)
    ∙ ap (λ (x : Constant). map view_valued old ++ (record { ty = Int; value = x }) ∷ []) (w ∙ ap (λ (y : ℤ). constant.Number y) n)

module _ (c : Context) (b : Body) (e : tree.Expr) (k : ℕ) where
  pub value_fails : (f : code.Cause) → FailsBy f (FailsValue (counting k c) (seeing_iota c b) e) → FailsBy f (FailsConstantAt c b e k)
  value_fails f h = fails_weaker f _ _ (λ z y n. failing.no_value z y) h

  module _ (x : Expr) (d : Body) (h : HasValueAt c b e k x d) where
    pub is_constant : (v : Valued) → value_of x ≡ Some v.value → v.ty ≡ type_of x → IsConstantAt c b e k v d
    is_constant v known of n = record {
      value = x;
      behind = h.0;
      has = h.1;
      known = known;
      of = of;
      goes_on = ap (λ (z : Body). at c z n) h.2;
    }

    pub not_constant : (f : code.Cause) → FailsBy f (λ z. (z ≡ NotConstant) × (value_of x ≡ None)) → FailsBy f (FailsConstantAt c b e k)
    not_constant f w =
        fails_weaker f _ _
        (λ z y n. subst (FailsConstant (at c b n) e k) (sym y.0) (failing.not_constant x h.0 h.1 y.1)) w

    variables_behind : (o : Option Meaning) (z : Body) → (seen_behind o z).variables ≡ z.variables
    variables_behind None z = refl
    variables_behind (Some m) z = refl

    pub scopes_same : 0 < length b.scopes → length d.variables ≡ length b.variables → d.scopes ≡ b.scopes
    scopes_same l m =
        ap (λ (z : Body). z.scopes) h.2
        ∙ scopes_kept c b k e x (seen iota b.scopes) h.0 l h.1
        (ap length (sym (variables_behind (seen iota b.scopes) h.0)) ∙ sym (ap (λ (z : Body). length z.variables) h.2) ∙ m)

-- so many variables of the code
pub as_many : (b d : code_body.Body) → length d.variables.items ≡ length b.variables.items
    → length (view_body d).variables ≡ length (view_body b).variables
as_many b d m = length-map d.variables.items view_var ∙ m ∙ sym (length-map b.variables.items view_var)

-- ---- names of constants

module _ (c : Context) (b : Body) (e : tree.Expr) (ns : List (List ℕ)) where
  pub adds_constants : (c' d' : Context) (b' d : Body) (vs : List Valued) → AreConstantsAt c b e ns vs d → d' ≡ c
      → ((n : ℕ) → at c' b' n ≡ with_constants ns vs (at d' d n)) → AddsConstants c b ns e c' b'
  adds_constants c' d' b' d vs h same w n =
      (vs, at c d n, h n, w n ∙ ap (λ (y : Context). with_constants ns vs (at y d n)) same)

  pub scopes_added : (c' d' : Context) (b' d : Body) (vs : List Valued) → d' ≡ c → d.scopes ≡ b.scopes
      → ((n : ℕ) → at c' b' n ≡ with_constants ns vs (at d' d n))
      → b'.scopes ≡ declared_all (meaning_from meaning.Constant (length c.constants) ns) b.scopes
  scopes_added c' d' b' d vs same kept w =
      ap (λ (p : Point). p.body.scopes) (w 0)
      ∙ ap (λ (y : Context). declared_all (meaning_from meaning.Constant (length y.constants) ns) d.scopes) same
      ∙ ap (λ (ss : List Scope). declared_all (meaning_from meaning.Constant (length c.constants) ns) ss) kept

  pub rows_kept : (c' d' : Context) (b' d : Body) (vs : List Valued) → d' ≡ c
      → ((n : ℕ) → at c' b' n ≡ with_constants ns vs (at d' d n)) → c'.members ≡ c.members
  rows_kept c' d' b' d vs same w = ap (λ (p : Point). p.context.members) (w 0) ∙ ap (λ (y : Context). y.members) same

  pub constants_fail : (f : code.Cause) → FailsBy f (FailsConstantsAt c b e ns) → FailsBy f (FailsAt c b (decls.Con ns e))
  constants_fail f h = fails_weaker f _ _ (λ k x n. failing.constant ns e (at c b n) k (x n)) h

  pub constants_again : (f : code.Cause) (d : Body) (vs : List Valued) → AreConstantsAt c b e ns vs d
      → FailsBy f (λ k. (k ≡ Twice) × (AreFree ns d.scopes → ⊥)) → FailsBy f (FailsAt c b (decls.Con ns e))
  constants_again f d vs h w =
      fails_weaker f _ _
      (λ k x n. subst (FailsToDeclare (decls.Con ns e) (at c b n)) (sym x.0)
      (failing.constant_again ns e (at c b n) (at c d n) vs (h n) x.1)) w

  pub constants_declare : (c' d' : Context) (b' d : Body) (vs : List Valued) (z : Stmt) → AreConstantsAt c b e ns vs d → d' ≡ c
      → AreFree ns d.scopes → ((n : ℕ) → at c' b' n ≡ with_constants ns vs (at d' d n)) → z ≡ Empty
      → DeclaresAt c b (decls.Con ns e) z c' b'
  constants_declare c' d' b' d vs z h same f w is name n =
      (vs, at c d n, h n, f, is, w n ∙ ap (λ (y : Context). with_constants ns vs (at y d n)) same)

-- so many constants of the code
pub as_many_constants : (vs : List code_valued.Valued) (ns : List (List ℕ)) (old now : List Scope)
    → now ≡ declared_all (meaning_from meaning.Constant (length (map view_valued vs)) ns) old
    → now ≡ declared_all (meaning_from meaning.Constant (length vs) ns) old
as_many_constants vs ns old now h =
    h ∙ ap (λ (n : ℕ). declared_all (meaning_from meaning.Constant n ns) old) (length-map vs view_valued)
