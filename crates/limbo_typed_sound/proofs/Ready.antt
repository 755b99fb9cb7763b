-- What is ready to be asked for: sound, or open with parts that are ready.
use Rattle.std.proofs.Common.{◌≡◌, ◌⊎◌, inl, inr, Bool, true, false, List, [], ◌∷◌, refl, sym, subst}
use Rattle.std.specs.Prelude.{length}
use Rattle.limbo_types.specs.Types as ty
use Rattle.limbo_types.specs.Types.{Ty, Tys, Int, ListOf, Tuple, RefAdt}
use Rattle.limbo_types.specs.View.{tys_of}
use Rattle.limbo_layout.specs.Adts.{Names, AllName, listed}
use Rattle.limbo_typed.specs.declared.operation.Operation.{Operation}
use Rattle.limbo_typed.specs.declared.operation.Operation.TheVariants as op
use Rattle.limbo_typed.specs.Typed.{Expr, Of, Node, Exprs, NoExprs, MoreExprs, Optional, Absent, Present, Items, NoItems, MoreItems}
use Rattle.limbo_typed.specs.Typed.{OpenNil, Apply, Filled, Read, Place, Module, Var}
use Rattle.limbo_typed.specs.Fitting.{Stands, AllStand, PutsBefore}
use Rattle.limbo_typed.specs.Sound.{type_of, types_of, IsSettled, AllSettled, IsNamed, NamesAll}
use Rattle.limbo_typed.specs.Sound.{SoundExpr, SoundExprs, SoundInt, SoundItems, SoundOptional}
use Rattle.limbo_forms.specs.Forms.{is_settled}
use Rattle.limbo_forms.proofs.Tests.{settled_is, not_settled}
use Rattle.limbo_standing.specs.Standing as standing
use Rattle.limbo_standing.specs.Standing.{Settles, SettlesForm, SettleEach, SettleAll, SettleItems, SettleRest}
use Rattle.limbo_standing.proofs.Settled.{settled_stands}
use Rattle.limbo_arguments.proofs.Each.{each_stand, all_stand}

-- ---- types

-- a type is settled or not
pub decides : (t : Ty) → IsSettled t ⊎ (IsSettled t → ⊥)
decides t = go (is_settled t) refl
  where
    go : (b : Bool) → is_settled t ≡ b → IsSettled t ⊎ (IsSettled t → ⊥)
    go true e = inl (settled_is t e)
    go false e = inr (not_settled t e)

-- no `ref` of an adt, for which those of its variants stand
abbrev pub IsPlain : Ty → Type 0
IsPlain (RefAdt n) = ⊥
IsPlain _ = Unit {0}

pub stands_alone : (u t : Ty) → IsPlain t → Stands u t → u ≡ t
stands_alone u t p (inl e) = e
stands_alone (ty.RefPick n v) t p (inr e) = absurd (subst IsPlain e p)
stands_alone _ t p (inr e) = absurd e

-- types of which something may be open
abbrev pub MayBeOpen : Ty → Type 0
MayBeOpen ty.Nil = Unit {0}
MayBeOpen (Tuple ts) = Unit {0}
MayBeOpen (ListOf t) = Unit {0}
MayBeOpen (ty.ArrayOf t) = Unit {0}
MayBeOpen _ = ⊥

module _ (m : Module) where
  abbrev pub HasNames : Ty → Type 0
  HasNames t = Names m.adts (length m.interfaces) t

  pub all_named : (ts : Tys) → AllName m.adts (length m.interfaces) ts → AllSettled ts → NamesAll m (listed ts)
  all_named ty.NoTys n s = tt
  all_named (ty.MoreTys t ts) n s = ((n.0, s.0), all_named ts n.1 s.1)

-- ---- expressions

module _ (m : Module) (vs : List Var) where
  abbrev mutual
    pub Ready : Expr → Type 0
    Ready (Of t n) = SoundExpr m vs (Of t n) ⊎ ((IsSettled t → ⊥) × HasNames m t × MayBeOpen t × ReadyNode n)

    pub ReadyNode : Node → Type 0
    ReadyNode OpenNil = Unit {0}
    ReadyNode (Apply o es) = ReadyEach es
    ReadyNode (Filled length is rest) = SoundOptional m vs length Int × ReadyItems is × ReadyMaybe rest
    ReadyNode _ = ⊥

    pub ReadyEach : Exprs → Type 0
    ReadyEach NoExprs = Unit {0}
    ReadyEach (MoreExprs e es) = Ready e × ReadyEach es

    pub ReadyItems : Items → Type 0
    ReadyItems NoItems = Unit {0}
    ReadyItems (MoreItems i e is) = Ready e × ReadyItems is

    pub ReadyMaybe : Optional → Type 0
    ReadyMaybe Absent = Unit {0}
    ReadyMaybe (Present e) = Ready e

  -- ---- what is sound is ready

  pub as_ready : (e : Expr) → SoundExpr m vs e → Ready e
  as_ready (Of t n) s = inl s

  pub each_ready : (es : Exprs) → SoundExprs m vs es → ReadyEach es
  each_ready NoExprs s = tt
  each_ready (MoreExprs e es) s = (as_ready e s.0, each_ready es s.1)

  items_ready : (is : Items) (t : Ty) → SoundItems m vs is t → ReadyItems is
  items_ready NoItems t s = tt
  items_ready (MoreItems i e is) t s = (as_ready e s.0, items_ready is t s.2)

  rest_ready : (o : Optional) (t : Ty) → SoundOptional m vs o t → ReadyMaybe o
  rest_ready Absent t s = tt
  rest_ready (Present e) t s = as_ready e s.0

  -- ---- what is ready, and settled, is sound

  pub sound : (e : Expr) → Ready e → IsSettled (type_of e) → SoundExpr m vs e
  sound (Of t n) (inl s) k = s
  sound (Of t n) (inr o) k = absurd (o.0 k)

  pub has_names : (e : Expr) → Ready e → HasNames m (type_of e)
  has_names (Of t n) (inl s) = s.0.0
  has_names (Of t n) (inr o) = o.1

  pub is_named : (e : Expr) → SoundExpr m vs e → IsNamed m (type_of e)
  is_named (Of t n) s = s.0

  pub sound_at : (e : Expr) (t : Ty) → Ready e → type_of e ≡ t → IsSettled t → SoundExpr m vs e
  sound_at e t r q k = sound e r (subst IsSettled (sym q) k)

  pub sound_int : (e : Expr) → Ready e → type_of e ≡ Int → SoundInt m vs e
  sound_int (Of t n) r q = let s = sound_at (Of t n) Int r q tt in (q, s.1)

  -- what stands in a place is never open
  pub sound_place : (t : Ty) (p : Place) → Ready (Of t (Read p)) → SoundExpr m vs (Of t (Read p))
  sound_place t p (inl s) = s
  sound_place t p (inr o) = absurd o.3

  pub all_sound : (es : Exprs) → ReadyEach es → AllSettled (tys_of (types_of es)) → SoundExprs m vs es
  all_sound NoExprs r s = tt
  all_sound (MoreExprs e es) r s = (sound e r.0 s.0, all_sound es r.1 s.1)

  -- ---- the parts of what is ready

  parts_applied : (t : Ty) (o : Operation) (es : Exprs) → Ready (Of t (Apply o es)) → ReadyEach es
  parts_applied t o es (inl s) = each_ready es s.1.0
  parts_applied t o es (inr k) = k.3

  parts_filled : (t : Ty) (n : Optional) (is : Items) (rest : Optional) → Ready (Of t (Filled n is rest))
      → SoundOptional m vs n Int × ReadyItems is × ReadyMaybe rest
  parts_filled t n is rest (inl s) = (s.1.2, items_ready is s.1.0 s.1.3, rest_ready rest s.1.0 s.1.4)
  parts_filled t n is rest (inr k) = k.3

  -- ---- what is ready is sound where a type is asked for

  pub puts_before : (us : List Ty) (t : Ty) → AllStand us (t ∷ ListOf t ∷ []) → PutsBefore us (ListOf t)
  puts_before (u ∷ v ∷ []) t h = (t, h.0, stands_alone v (ListOf t) tt h.1.0, refl)
  puts_before (u ∷ v ∷ w ∷ us) t h = absurd h.1.1
  puts_before (u ∷ []) t h = absurd h.1
  puts_before [] t h = absurd h

  mutual
    pub asked : (t : Ty) (e f : Expr) → Settles t e f → Ready e → IsNamed m t → SoundExpr m vs f
    asked _ _ _ (standing.itself t n) r k = sound (Of t n) r k.1
    asked _ _ _ (standing.by_form t u n e d s) r k = asked_form t u n e s r k

    asked_form : (t u : Ty) (n : Node) (f : Expr) → SettlesForm t u n f → Ready (Of u n) → IsNamed m t → SoundExpr m vs f
    asked_form _ _ _ _ (standing.nil t h) r k = (k, h)
    asked_form _ _ _ _ (standing.variant n v e) r k = sound (Of (ty.RefPick n v) e) r tt
    asked_form _ _ _ _ (standing.tuple ts u es fs s) r k = (
      k,
      (
        asked_each (listed ts) es fs s (parts_applied u op.Tuple es r) (all_named m ts k.0 k.1),
        (
          ts,
          refl,
          each_stand (listed ts) es
              fs s,
        ),
      ),
    )
    asked_form _ _ _ _ (standing.list t u es fs s) r k =
        (k, (asked_all t es fs s (parts_applied u op.List es r) k, (t, refl, all_stand t es fs s)))
    asked_form _ _ _ _ (standing.cons t u es fs s) r k = (
      k,
      (
        asked_each (t ∷ ListOf t ∷ []) es fs s (parts_applied u op.Cons es r) (k, (k, tt)),
        puts_before (types_of fs) t (each_stand (t ∷ ListOf t ∷ []) es fs s),
      ),
    )
    asked_form _ _ _ _ (standing.array t u length is js rest last s l) r k =
        let p = parts_filled u length is rest r in
        (k, (t, refl, p.0, asked_items t is js s p.1 k, asked_rest t rest last l p.2 k))

    pub asked_each : (ts : List Ty) (es fs : Exprs) → SettleEach ts es fs → ReadyEach es → NamesAll m ts → SoundExprs m vs fs
    asked_each _ _ _ standing.none_left r k = tt
    asked_each _ _ _ (standing.each t ts e f es fs s l) r k = (asked t e f s r.0 k.0, asked_each ts es fs l r.1 k.1)

    pub asked_all : (t : Ty) (es fs : Exprs) → SettleAll t es fs → ReadyEach es → IsNamed m t → SoundExprs m vs fs
    asked_all _ _ _ (standing.no_values t) r k = tt
    asked_all _ _ _ (standing.values t e f es fs s l) r k = (asked t e f s r.0 k, asked_all t es fs l r.1 k)

    pub asked_items : (t : Ty) (is js : Items) → SettleItems t is js → ReadyItems is → IsNamed m t → SoundItems m vs js t
    asked_items _ _ _ (standing.no_items t) r k = tt
    asked_items _ _ _ (standing.items t i e f is js s l) r k =
        (asked t e f s r.0 k, settled_stands t e f s, asked_items t is js l r.1 k)

    pub asked_rest : (t : Ty) (rest last : Optional) → SettleRest t rest last → ReadyMaybe rest → IsNamed m t
        → SoundOptional m vs last t
    asked_rest _ _ _ (standing.no_rest t) r k = tt
    asked_rest _ _ _ (standing.rest t e f s) r k = (asked t e f s r k, settled_stands t e f s)
