-- Patterns of handlers that carry values.
use Rattle.std.proofs.Common.{◌≡◌, refl, sym, ap, ◌∙◌, subst, ℕ, zero, suc, ◌+◌}
use Rattle.std.proofs.Common.{◌<◌, ◌≤◌, ◌⊎◌, inl, inr, List, [], ◌∷◌, length, get_or, map}
use Rattle.std.proofs.Common.{Option, Some, option_map, Vec, Global, arith}
use Rattle.std.specs.Prelude.{slice_get}
use Rattle.std.proofs.lemmas.List.{length-map}
use Rattle.std.proofs.lemmas.Option.{same_Some, slice_get-map, slice_get_read}
use Rattle.limbo_types.specs.declared.ty.Ty as code_ty
use Rattle.limbo_types.specs.declared.ty.Ty.TheVariants as make
use Rattle.limbo_types.specs.Types.{Ty, Tuple}
use Rattle.limbo_types.specs.View.{view_ty, tys_of}
use Rattle.limbo_types.proofs.View.{view_ty-Tuple, view_ty-Chars}
use Rattle.limbo_typed.specs.Typed.{Exception}
use Rattle.limbo_refusals.specs.Refusals.{NoneIs}
use Rattle.limbo_typed.specs.declared.stmt.HandlerPattern.{HandlerPattern}
use Rattle.limbo_typed.specs.declared.stmt.HandlerPattern.TheVariants as handler
use Rattle.limbo_typed.specs.Sound.{Each}
use Rattle.limbo_context.specs.Context.{Context}
use Rattle.limbo_stmt_values.specs.limbo_stating.Handlers as handlers
use Rattle.limbo_stmt_values.specs.limbo_stating.Handlers.{Carries, AllCarry, IsCaught}

module _ (c : Context) (ts : List Ty) where
  pub all_carry : (z : HandlerPattern) (zs : List HandlerPattern) → Carries c z ts → Each (λ y. Carries c y ts) zs → AllCarry c (z ∷ zs) ts
  all_carry z [] h r = h
  all_carry z (y ∷ zs) h r = (h, all_carry y zs r.0 r.1)

  pub first_carries : (z : HandlerPattern) (zs : List HandlerPattern) → AllCarry c (z ∷ zs) ts → Carries c z ts
  first_carries z [] h = h
  first_carries z (y ∷ zs) h = h.0

  pub others_carry : (z : HandlerPattern) (zs : List HandlerPattern) → AllCarry c (z ∷ zs) ts → Each (λ y. Carries c y ts) zs
  others_carry z [] h = tt
  others_carry z (y ∷ zs) h = (first_carries y zs h.1, others_carry y zs h.1)

-- ---- rows that are the same

pub same_rows : {A : Type 0} (xs ys : List A) → length xs ≡ length ys → ((k : ℕ) → k < length xs → slice_get xs k ≡ slice_get ys k)
    → xs ≡ ys
same_rows [] [] l h = refl
same_rows [] (y ∷ ys) l h = absurd (omega arith)
same_rows (x ∷ xs) [] l h = absurd (omega arith)
same_rows {A} (x ∷ xs) (y ∷ ys) l h =
    let e : x ≡ y = same_Some x y (h 0 (omega arith)) in
    let r : xs ≡ ys = same_rows xs ys (omega arith) (λ k m. h (suc k) (omega arith)) in
    ap (λ (z : A). z ∷ xs) e ∙ ap (λ (zs : List A). y ∷ zs) r

pub type_at : (ts : List code_ty.Ty) (i : ℕ) (t : code_ty.Ty) → t ≡ get_or ts i t → i < length ts
    → slice_get (map view_ty ts) i ≡ Some (view_ty t)
type_at ts i t is l = slice_get-map view_ty ts i ∙ ap (option_map view_ty) (slice_get_read ts (length ts) i t refl l is)

pub types_differ : (ts us : List code_ty.Ty) (i : ℕ) (t u : code_ty.Ty) → t ≡ get_or ts i t → u ≡ get_or us i u → i < length ts
    → i < length us → (view_ty t ≡ view_ty u → ⊥) → map view_ty ts ≡ map view_ty us → ⊥
types_differ ts us i t u is and_is l m n e =
    n (same_Some (view_ty t) (view_ty u)
    (sym (type_at ts i t is l) ∙ ap (λ (zs : List Ty). slice_get zs i) e ∙ type_at us i u and_is m))

less_or : (p n : ℕ) → p < n + 1 → (p < n) ⊎ (p ≡ n)
less_or p n h = grind arith

pub same_more : (ts us : List code_ty.Ty) (i : ℕ) (t u : code_ty.Ty) → t ≡ get_or ts i t → u ≡ get_or us i u → i < length ts
    → i < length us → view_ty t ≡ view_ty u
    → ((k : ℕ) → k < i → slice_get (map view_ty ts) k ≡ slice_get (map view_ty us) k)
    → (k : ℕ) → k < i + 1 → slice_get (map view_ty ts) k ≡ slice_get (map view_ty us) k
same_more ts us i t u is and_is l m e h k b =
    elim (less_or k i b) [
      | inl d ↦ h k d
      | inr d ↦
          ap (slice_get (map view_ty ts)) d ∙ type_at ts i t is l
          ∙ ap (λ (z : Ty). let r : Option Ty = Some z in r) e ∙ sym (type_at us i u and_is m)
          ∙ sym (ap (slice_get (map view_ty us)) d)
    ]

pub all_same : (ts us : List code_ty.Ty) (i : ℕ) → length ts ≡ length us → length ts ≤ i
    → ((k : ℕ) → k < i → slice_get (map view_ty ts) k ≡ slice_get (map view_ty us) k) → map view_ty ts ≡ map view_ty us
all_same ts us i l m h =
    let p : length (map view_ty ts) ≡ length ts = length-map ts view_ty in
    let q : length (map view_ty us) ≡ length us = length-map us view_ty in
    same_rows (map view_ty ts) (map view_ty us) (p ∙ l ∙ sym q) (λ k b. h k (omega arith))

-- ---- each of a row

pub each_from : {A : Type 0} (P : A → Type 0) (xs : List A) → ((k : ℕ) (x : A) → k < length xs → slice_get xs k ≡ Some x → P x)
    → Each P xs
each_from P [] h = tt
each_from P (x ∷ xs) h = (h 0 x (omega arith) refl, each_from P xs (λ k y l at. h (suc k) y (omega arith) at))

pub each_at : {A : Type 0} (P : A → Type 0) (xs : List A) (k : ℕ) (x : A) → slice_get xs k ≡ Some x → Each P xs → P x
each_at P [] k x at h = absurd cc
each_at P (y ∷ ys) zero x at h = let e : y ≡ x = cc in subst P e h.0
each_at P (y ∷ ys) (suc k) x at h = each_at P ys k x at h.1

pub each_more : {A : Type 0} (P : A → Type 0) (xs : List A) (i : ℕ) (x : A) → x ≡ get_or xs i x → i < length xs → P x
    → ((k : ℕ) (z : A) → k < i → slice_get xs k ≡ Some z → P z) → (k : ℕ) (z : A) → k < i + 1 → slice_get xs k ≡ Some z → P z
each_more {A} P xs i x is l p h k z b at =
    elim (less_or k i b) [
      | inl d ↦ h k z d at
      | inr d ↦
          let s : x ≡ z = same_Some x z (sym (slice_get_read xs (length xs) i x refl l is) ∙ sym (ap (slice_get xs) d) ∙ at) in
          subst P s p
    ]

-- ---- what is caught

pub caught_values : (c : Context) (zs : List HandlerPattern) (ts us : List code_ty.Ty) (v : Vec code_ty.Ty Global) → v.items ≡ us
    → map view_ty us ≡ map view_ty ts → AllCarry c zs (map view_ty ts) → IsCaught c zs (view_ty (make.Tuple v))
caught_values c zs ts us v p q h =
    subst (λ (t : Ty). IsCaught c zs t)
    (sym (view_ty-Tuple v ∙ ap (λ (ws : List Ty). Tuple (tys_of ws)) (ap (map view_ty) p ∙ q)))
    (handlers.values (map view_ty ts) h)

pub caught_text : (c : Context) (zs : List HandlerPattern) → NoneIs (AllCarry c zs) → IsCaught c zs (view_ty make.Chars)
caught_text c zs none = subst (λ (t : Ty). IsCaught c zs t) (sym view_ty-Chars) (handlers.text none)

-- ---- what all carry

one_carried : (c : Context) (z : HandlerPattern) (ts us : List Ty) → Carries c z ts → Carries c z us → ts ≡ us
one_carried c (handler.Declared n) ts us g h =
    sym g.2 ∙ ap (λ (x : Exception). x.values) (same_Some g.0 h.0 (sym g.1 ∙ h.1)) ∙ h.2
one_carried c (handler.Chars s) ts us g h = absurd g
one_carried c (handler.Prefix s) ts us g h = absurd g
one_carried c handler.Any ts us g h = absurd g

pub none_carried : (c : Context) (zs : List HandlerPattern) (z : HandlerPattern) (others : List HandlerPattern) (ts : List Ty)
    → zs ≡ z ∷ others → Carries c z ts → (Each (λ y. Carries c y ts) others → ⊥) → NoneIs (AllCarry c zs)
none_carried c zs z others ts e g none us h =
    let a : AllCarry c (z ∷ others) us = subst (λ (ws : List HandlerPattern). AllCarry c ws us) e h in
    let s : us ≡ ts = one_carried c z us ts (first_carries c us z others a) g in
    none (subst (λ (ws : List Ty). Each (λ y. Carries c y ws) others) s (others_carry c us z others a))

pub carried_all : (c : Context) (zs : List HandlerPattern) (z : HandlerPattern) (others : List HandlerPattern) (ts : List Ty)
    → zs ≡ z ∷ others → Carries c z ts → Each (λ y. Carries c y ts) others → AllCarry c zs ts
carried_all c zs z others ts e g h = subst (λ (ws : List HandlerPattern). AllCarry c ws ts) (sym e) (all_carry c ts z others g h)
