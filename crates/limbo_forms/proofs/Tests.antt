-- What the tests of types say, and what an option or two tests together do.
use Rattle.std.proofs.Common.{◌≡◌, ◌&&◌, Bool, true, false, cond, Option, Some, None, refl, sym, ap, ◌∙◌}
use Rattle.limbo_values.specs.declared.number.Kind.{Kind}
use Rattle.limbo_values.specs.declared.number.Kind.TheVariants as kind
use Rattle.limbo_types.specs.Types.{Ty, Tys, Byte, Int, Big, Nil, ArrayOf, ListOf, ChanOf, Tuple, NoTys, MoreTys}
use Rattle.limbo_typed.specs.Fitting.{of_kind}
use Rattle.limbo_typed.specs.Sound.{IsSettled, AllSettled}
use Rattle.limbo_forms.specs.Forms.{choose, kind_of, is_int, is_nil, is_settled, all_settled}

-- ---- options and tests

pub choose_some : {A B : Type 0} (o : Option A) (f : A → Option B) (y : B) → choose o None f ≡ Some y → (x : A) × (o ≡ Some x) × (f x ≡ Some y)
choose_some (Some x) f y e = (x, refl, e)
choose_some None f y e = absurd cc

pub if_some : {A : Type 0} (b : Bool) (x y : A) → cond b (Some x) None ≡ Some y → (b ≡ true) × (x ≡ y)
if_some true x y e = (refl, cc)
if_some false x y e = absurd cc

pub both_true : (a b : Bool) → (a && b) ≡ true → (a ≡ true) × (b ≡ true)
both_true true b e = (refl, e)
both_true false b e = absurd cc

-- ---- forms

pub kind_is : (t : Ty) (k : Kind) → kind_of t ≡ Some k → t ≡ of_kind k
kind_is Byte k e = let f : kind.Byte ≡ k = cc in ap of_kind f
kind_is Int k e = let f : kind.Int ≡ k = cc in ap of_kind f
kind_is Big k e = let f : kind.Big ≡ k = cc in ap of_kind f
kind_is _ k e = absurd cc

pub kind_found : (k : Kind) → kind_of (of_kind k) ≡ Some k
kind_found kind.Byte = refl
kind_found kind.Int = refl
kind_found kind.Big = refl

pub int_is : (t : Ty) → is_int t ≡ true → t ≡ Int
int_is Int e = refl
int_is _ e = absurd cc

pub nil_is : (t : Ty) → is_nil t ≡ true → t ≡ Nil
nil_is Nil e = refl
nil_is _ e = absurd cc

-- ---- settled types

mutual
  pub settled_is : (t : Ty) → is_settled t ≡ true → IsSettled t
  settled_is Nil e = absurd cc
  settled_is (ArrayOf t) e = settled_is t e
  settled_is (ListOf t) e = settled_is t e
  settled_is (ChanOf t) e = settled_is t e
  settled_is (Tuple ts) e = all_settled_are ts e
  settled_is _ e = tt

  all_settled_are : (ts : Tys) → all_settled ts ≡ true → AllSettled ts
  all_settled_are NoTys e = tt
  all_settled_are (MoreTys t ts) e =
      let p = both_true (is_settled t) (all_settled ts) e in (settled_is t p.0, all_settled_are ts p.1)

mutual
  pub settled_true : (t : Ty) → IsSettled t → is_settled t ≡ true
  settled_true Nil h = absurd h
  settled_true (ArrayOf t) h = settled_true t h
  settled_true (ListOf t) h = settled_true t h
  settled_true (ChanOf t) h = settled_true t h
  settled_true (Tuple ts) h = all_settled_true ts h
  settled_true _ h = refl

  all_settled_true : (ts : Tys) → AllSettled ts → all_settled ts ≡ true
  all_settled_true NoTys h = refl
  all_settled_true (MoreTys t ts) h = rw (settled_true t h.0) (all_settled_true ts h.1)

pub not_settled : (t : Ty) → is_settled t ≡ false → IsSettled t → ⊥
not_settled t e h = let f : true ≡ false = sym (settled_true t h) ∙ e in absurd cc

pub open_false : (t : Ty) → (IsSettled t → ⊥) → is_settled t ≡ false
open_false t h = go (is_settled t) refl
  where
    go : (b : Bool) → is_settled t ≡ b → b ≡ false
    go true e = absurd (h (settled_is t e))
    go false e = refl
