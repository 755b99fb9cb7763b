-- What the steps of the code hand on: a result whose refusal is put at its place, a rule applied to an outcome.
use Rattle.std.proofs.Common.{◌≡◌, ◌≢◌, ◌+ℤ◌, ◌++◌, ◌∷◌, [], ℤ, pos, List, true, false, Option, None, Some, Box, Global}
use Rattle.std.proofs.Common.{sym, subst, ◌∙◌}
use Rattle.std.specs.Prelude.{Result, Ok, Err, IfOk, IfErr, OnOk, is_some}
use Rattle.std.proofs.lemmas.Bool.{false≢true}
use Rattle.std.proofs.lemmas.List.{append-nil}
use Rattle.std.proofs.lemmas.Result.{IfOk-weaker, IfErr-weaker}
use Rattle.limbo_types.specs.Types.{Nothing}
use Rattle.limbo_tree.specs.Exprs as tree
use Rattle.limbo_typed.specs.declared.expr.TExpr as code_typed
use Rattle.limbo_typed.specs.Typed.{Expr, Optional, Absent, Present, Items}
use Rattle.limbo_typed.specs.Sound.{type_of}
use Rattle.limbo_typed.specs.View.{view_expr, view_optional, Item, items_of}
use Rattle.limbo_typed.proofs.View.{view_optional-None, view_optional-Some}
use Rattle.limbo_refusals.specs.declared.fault.ExprFault.{ExprFault}
use Rattle.limbo_refusals.specs.Refusals.{Refusal, Refuses}
use Rattle.limbo_causes.specs.declared.fault.Cause as code
use Rattle.limbo_causes.specs.declared.fault.Cause.TheVariants as told_cause
use Rattle.limbo_causes.specs.declared.fault.TypingFault.{TypingFault}
use Rattle.limbo_causes.specs.Causes.{Cause, Twice, FailsBy, ByRefusal}
use Rattle.limbo_causes.proofs.Telling.{fails_weaker, refused_by}
use Rattle.limbo_context.specs.Context.{Context, Body}
use Rattle.limbo_things.specs.declared.thing.Thing as code_thing
use Rattle.limbo_things.specs.Things.{Thing}
use Rattle.limbo_things.specs.ThingView.{view_thing}
use Rattle.limbo_permits.specs.Permits.{IsPermitted}
use Rattle.limbo_typing.specs.Typing as typing
use Rattle.limbo_typing.specs.Typing.{Denotes, HasValue, Types, Has, MayHave, Fill, is_path}
use Rattle.limbo_typing.specs.Failing as failing
use Rattle.limbo_typing.specs.Failing.{FailsValue, FailsFill}
use Rattle.limbo_exprs.specs.Parts.{Filling, FillsOne, FailsOne, IsIndex, FailsAsIndex}
use Rattle.limbo_exprs.specs.Parts as parts

abbrev pub Made : Type 0
Made = Result (Box code_typed.TExpr Global) TypingFault

abbrev pub Parted : Type 0
Parted = Result (Box code_typed.TExpr Global) ExprFault

-- ---- results

-- a refusal of parts, put at its place
pub placed_fails : {T : Type 0} (out : Parted) (res : Result T TypingFault) (P : Refusal → Type 0) (Q : Cause → Type 0)
    → IfErr out (λ g. Refuses g P) → IfErr res (λ f. (g : ExprFault) × (out ≡ Err g) × (f.cause ≡ told_cause.Refused g))
    → ((f : code.Cause) → FailsBy f (ByRefusal P) → FailsBy f Q) → IfErr res (λ f. FailsBy f.cause Q)
placed_fails out res P Q h told rule =
    IfErr-weaker res _ _
    (λ f z. rule f.cause (refused_by z.0 f.cause P z.2 (subst (λ (o : Parted). IfErr o (λ g. Refuses g P)) z.1 h))) told

-- what the parts come to
pub placed_typed : (out : Parted) (res : Made) (P : Expr → Type 0) → IfOk out (λ z. P (view_expr z.value)) → IfOk res (λ z. out ≡ Ok z)
    → IfOk res (λ z. P (view_expr z.value))
placed_typed out res P h is =
    IfOk-weaker res _ _ (λ z e. subst (λ (o : Parted). IfOk o (λ x. P (view_expr x.value))) e h) is

-- a rule for what fails
pub by_rule : {T : Type 0} (res : Result T TypingFault) {P Q : Cause → Type 0} → IfErr res (λ f. FailsBy f.cause P)
    → ((f : code.Cause) → FailsBy f P → FailsBy f Q) → IfErr res (λ f. FailsBy f.cause Q)
by_rule res h rule = IfErr-weaker res _ _ (λ f x. rule f.cause x) h

-- a rule for what is found
pub by_typing : (res : Made) (P Q : Expr → Type 0) → ((x : Expr) → P x → Q x) → IfOk res (λ z. P (view_expr z.value))
    → IfOk res (λ z. Q (view_expr z.value))
by_typing res P Q rule h = IfOk-weaker res _ _ (λ z p. rule (view_expr z.value) p) h

pub by_finding : (res : Result (Box code_thing.Thing Global) TypingFault) (P Q : Thing → Type 0) → ((t : Thing) → P t → Q t)
    → IfOk res (λ z. P (view_thing z.value)) → IfOk res (λ z. Q (view_thing z.value))
by_finding res P Q rule h = IfOk-weaker res _ _ (λ z p. rule (view_thing z.value) p) h

pub on_all : {T E : Type 0} (res : Result T E) (A B D Q : Type 0) → OnOk res A → OnOk res B → OnOk res D → (A → B → D → Q) → OnOk res Q
on_all (Ok x) A B D Q a b d f = f a b d
on_all (Err e) A B D Q a b d f = tt

-- the same tree, if it has a value, or may stand anywhere
module _ (c : Context) (b b' : Body) (e : tree.Expr) (x : Box code_typed.TExpr Global) where
  pub answered_typed : (res : Made) → Types c b e (view_expr x.value) b' → IfOk res (λ y. y ≡ x)
      → IfOk res (λ _. type_of (view_expr x.value) ≢ Nothing) → IfOk res (λ y. HasValue c b e (view_expr y.value) b')
  answered_typed (Ok y) t same h =
      subst (λ (z : Box code_typed.TExpr Global). HasValue c b e (view_expr z.value) b') (sym same)
      (typing.has_value b b' e (view_expr x.value) t h)
  answered_typed (Err f) t same h = tt

  pub permitted_typed : (res : Made) → Has c b e (view_expr x.value) b' → IfOk res (λ y. y ≡ x)
      → IfOk res (λ _. IsPermitted c (view_expr x.value)) → IfOk res (λ y. Types c b e (view_expr y.value) b')
  permitted_typed (Ok y) t same h =
      subst (λ (z : Box code_typed.TExpr Global). Types c b e (view_expr z.value) b') (sym same)
      (typing.permitted b b' e (view_expr x.value) t h)
  permitted_typed (Err f) t same h = tt

-- ---- items of arrays

-- the items with one more at an index
abbrev pub put_at : Filling → Expr → ℤ → List Item
put_at f x k = f.items ++ (record { index = k; value = x }) ∷ []

module _ (c : Context) (b : Body) (before after : Filling) where
  filled_on : (b' : Body) (is : tree.Inits) (js : Items) (last : Optional) (b'' : Body) (n : ℤ) (r : Optional) → after.next ≡ n →
      after.rest ≡ r
      → Fill c b' after.next after.rest is js last b'' → Fill c b' n r is js last b''
  filled_on b' is js last b'' n r p q h =
      subst (λ m. Fill c b' m r is js last b'') p (subst (λ (o : Optional). Fill c b' after.next o is js last b'') q h)

  failed_on : (b' : Body) (is : tree.Inits) (k : Cause) (n : ℤ) (r : Optional) → after.next ≡ n → after.rest ≡ r
      → FailsFill c b' after.next after.rest is k → FailsFill c b' n r is k
  failed_on b' is k n r p q h =
      subst (λ m. FailsFill c b' m r is k) p (subst (λ (o : Optional). FailsFill c b' after.next o is k) q h)

  pub next_fills : (b' : Body) (e : tree.Expr) (x : Expr) → HasValue c b e x b'
      → after.items ≡ before.items ++ (record { index = before.next; value = x }) ∷ [] → after.rest ≡ before.rest
      → after.next ≡ before.next +ℤ pos 1 → FillsOne c b b' before after (tree.Next e)
  next_fills b' e x v items rest next = record {
    added = (record { index = before.next; value = x }) ∷ [];
    items = items;
    fills = λ is js last b'' h.
        typing.next_item b b' b'' before.next before.rest last e is x (items_of js) v
        (filled_on b' is (items_of js) last b'' (before.next +ℤ pos 1) before.rest next rest h);
    fails = λ is k h.
        failing.behind_item b b' before.next before.rest e is x k v (failed_on b' is k (before.next +ℤ pos 1) before.rest next rest h);
  }

  pub at_fills : (b' b'' : Body) (i e : tree.Expr) (k : ℤ) (x : Expr) → IsIndex c b i k b' → HasValue c b' e x b''
      → after.items ≡ before.items ++ (record { index = k; value = x }) ∷ [] → after.rest ≡ before.rest → after.next ≡ k +ℤ pos 1
      → FillsOne c b b'' before after (tree.At i e)
  at_fills b' b'' i e k x (parts.index y v t number) w items rest next = record {
    added = (record { index = k; value = x }) ∷ [];
    items = items;
    fills = λ is js last b3 h.
        typing.item_at b b' b'' b3 before.next k before.rest last i e is y x (items_of js) v t number w
        (filled_on b'' is (items_of js) last b3 (k +ℤ pos 1) before.rest next rest h);
    fails = λ is q h.
        failing.behind_indexed b b' b'' before.next k before.rest i e is y x q v number w
        (failed_on b'' is q (k +ℤ pos 1) before.rest next rest h);
  }

  pub rest_fills : (b' : Body) (e : tree.Expr) (x : Expr) → before.rest ≡ Absent → HasValue c b e x b' → after.items ≡ before.items
      → after.rest ≡ Present x → after.next ≡ before.next → FillsOne c b b' before after (tree.Rest e)
  rest_fills b' e x none v items rest next = record {
    added = [];
    items = items ∙ sym (append-nil before.items);
    fills = λ is js last b'' h.
        subst (λ (o : Optional). Fill c b before.next o (tree.MoreInits (tree.Rest e) is) (items_of js) last b'') (sym none)
        (typing.rest_of b b' b'' before.next last e is x (items_of js) v
        (filled_on b' is (items_of js) last b'' before.next (Present x) next rest h));
    fails = λ is k h.
        subst (λ (o : Optional). FailsFill c b before.next o (tree.MoreInits (tree.Rest e) is) k) (sym none)
        (failing.behind_others b b' before.next e is x k v (failed_on b' is k before.next (Present x) next rest h));
  }

module _ (c : Context) (b : Body) (before : Filling) (f : code.Cause) where
  pub next_one_fails : (e : tree.Expr) → FailsBy f (FailsValue c b e) → FailsBy f (FailsOne c b before (tree.Next e))
  next_one_fails e h = fails_weaker f _ _ (λ k x is. failing.item b before.next before.rest e is k x) h

  index_rule : (i e : tree.Expr) (k : Cause) → FailsAsIndex c b i k → FailsOne c b before (tree.At i e) k
  index_rule i e k (parts.no_value x) is = failing.index b before.next before.rest i e is k x
  index_rule i e _ (parts.no_index b' y v (parts.no_int n)) is = failing.no_int b b' before.next before.rest i e is y v n
  index_rule i e _ (parts.no_index b' y v (parts.not_constant n)) is = failing.not_constant b b' before.next before.rest i e is y v n

  pub index_fails : (i e : tree.Expr) → FailsBy f (FailsAsIndex c b i) → FailsBy f (FailsOne c b before (tree.At i e))
  index_fails i e h = fails_weaker f _ _ (index_rule i e) h

  indexed_rule : (i e : tree.Expr) (n : ℤ) (b' : Body) → IsIndex c b i n b' → (k : Cause) → FailsValue c b' e k
      → FailsOne c b before (tree.At i e) k
  indexed_rule i e n b' (parts.index y v t number) k x is = failing.indexed b b' before.next n before.rest i e is y k v number x

  pub indexed_fails : (i e : tree.Expr) (n : ℤ) (b' : Body) → IsIndex c b i n b' → FailsBy f (FailsValue c b' e)
      → FailsBy f (FailsOne c b before (tree.At i e))
  indexed_fails i e n b' is h = fails_weaker f _ _ (indexed_rule i e n b' is) h

  rest_rule : (e : tree.Expr) → before.rest ≡ Absent → (k : Cause) → FailsValue c b e k → FailsOne c b before (tree.Rest e) k
  rest_rule e none k x is =
      subst (λ (o : Optional). FailsFill c b before.next o (tree.MoreInits (tree.Rest e) is) k) (sym none)
      (failing.all_others b before.next e is k x)

  pub rest_fails : (e : tree.Expr) → before.rest ≡ Absent → FailsBy f (FailsValue c b e) → FailsBy f (FailsOne c b before (tree.Rest e))
  rest_fails e none h = fails_weaker f _ _ (rest_rule e none) h

abbrev pub Boxed : Type 0
Boxed = Option (Box code_typed.TExpr Global)

-- a second `*`
pub second_rest : (c : Context) (b : Body) (n : ℤ) (o : Boxed) (e : tree.Expr) (is : tree.Inits) → is_some o ≡ true
    → FailsFill c b n (view_optional o) (tree.MoreInits (tree.Rest e) is) Twice
second_rest c b n None e is h = absurd (false≢true h)
second_rest c b n (Some x) e is h =
    subst (λ (r : Optional). FailsFill c b n r (tree.MoreInits (tree.Rest e) is) Twice) (sym (view_optional-Some x))
    (failing.second b n (view_expr x.value) e is)

pub no_rest : (o : Boxed) → is_some o ≡ false → view_optional o ≡ Absent
no_rest None h = view_optional-None
no_rest (Some x) h = absurd (false≢true (sym h))
