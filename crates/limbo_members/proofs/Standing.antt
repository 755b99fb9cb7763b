-- Whether adts may stand.
use Rattle.std.proofs.Common.{◌≡◌, ◌<◌, ◌≤◌, ◌++◌, ◌∷◌, [], ℕ, zero, suc, Bool, false, List, Option, Some, None}
use Rattle.std.proofs.Common.{length}
use Rattle.std.proofs.Common.{take, refl, sym, ap, subst, ◌∙◌, arith}
use Rattle.std.specs.Prelude.{slice_get}
use Rattle.limbo_fields.proofs.Named.{all_listed}
use Rattle.limbo_types.specs.Types.{Ty, Tuple, Adt}
use Rattle.limbo_types.specs.View.{tys_of}
use Rattle.limbo_tree.specs.Decls as decls
use Rattle.limbo_tree.specs.Decls.{AdtMember, Members}
use Rattle.limbo_layout.specs.Adts.{Def, listed, parts, field_types}
use Rattle.limbo_layout.specs.Layout.{Room, Laid, AllLaid, of_tuple, of_adt, is_alone, in_order, alone, Fits}
use Rattle.limbo_typed.specs.Typed.{Stmt, Empty}
use Rattle.limbo_typed.specs.Sound.{Each}
use Rattle.limbo_scope.specs.Scopes.{declared_here}
use Rattle.limbo_refusals.specs.Refusals.{TypeTooLarge}
use Rattle.limbo_declarations.specs.Names.{AreOnce}
use Rattle.limbo_declarations.specs.Scopes.{AdtIsOnce}
use Rattle.limbo_causes.specs.declared.fault.Cause as code
use Rattle.limbo_causes.specs.Causes.{Twice, Refused, FailsBy, ByRefusal}
use Rattle.limbo_causes.proofs.Telling.{fails_weaker}
use Rattle.limbo_context.specs.Context.{Context, Body}
use Rattle.limbo_locals.specs.limbo_local.Points.{AreNew}
use Rattle.limbo_locals.specs.limbo_local.Members.{Inside, IsAdt}
use Rattle.limbo_locals.specs.limbo_local.Failing as failing
use Rattle.limbo_locals.specs.limbo_local.Failing.{FailsAdt, FailsToStand, FailsToDeclare}
use Rattle.limbo_locals.specs.Anywhere.{at, DeclaresAt, FailsAt}
use Rattle.limbo_members.specs.Standing.{AreAllowed, with_adts_in}
use Rattle.limbo_members.specs.Adding.{AddsAdt, FailsMember}
use Rattle.limbo_members.proofs.Small.{AreSmall, small_member}

-- ---- what takes too much

not_alone : (ts : List Ty) (r : Room) → alone (Tuple (tys_of ts)) ≡ Some r → ⊥
not_alone ts r e = absurd cc

rooms_of : (defs : List Def) (ts : List Ty) (r : Room) → Laid defs (Tuple (tys_of ts)) r
    → (rs : List Room) × (r ≡ in_order rs) × AllLaid defs ts rs
rooms_of defs ts r h = go (Tuple (tys_of ts)) r refl h
  where
    go : (t : Ty) (s : Room) → t ≡ Tuple (tys_of ts) → Laid defs t s → (rs : List Room) × (s ≡ in_order rs) × AllLaid defs ts rs
    go _ _ e (is_alone t s a) = absurd (not_alone ts s (ap alone (sym e) ∙ a))
    go _ _ e (of_tuple us rs all) =
        let i : us ≡ tys_of ts = cc in
        (rs, refl, subst (λ (xs : List Ty). AllLaid defs xs rs) (ap listed i ∙ all_listed ts) all)
    go _ _ e (of_adt n d rs there all) = absurd cc

adt_fits : (defs : List Def) (n : ℕ) (d : Def) → slice_get defs n ≡ Some d → Fits defs (Tuple (tys_of (parts d))) → Fits defs (Adt n)
adt_fits defs n d there h =
    let w = rooms_of defs (parts d) h.0 h.1 in (h.0, subst (λ (r : Room). Laid defs (Adt n) r) (sym w.1) (of_adt n d w.0 there w.2), h.2)

there_is : {A : Type 0} (xs : List A) (n : ℕ) → n < length xs → (x : A) × (slice_get xs n ≡ Some x)
there_is [] n l = absurd (omega arith)
there_is (x ∷ xs) zero l = (x, refl)
there_is (x ∷ xs) (suc n) l = there_is xs n (omega arith)

pub too_large_stands_not : (first : ℕ) (c : Context) (f : code.Cause) (n : ℕ) → n < length c.adts → (Fits c.adts (Adt n) → ⊥)
    → FailsBy f (λ k. (k ≡ Refused TypeTooLarge) × (first ≤ n)) → FailsBy f (ByRefusal (FailsToStand first c))
too_large_stands_not first c f n l large h =
    let d = there_is c.adts n l in
    fails_weaker f _ _
    (λ k x. (
      TypeTooLarge,
      x.0,
      failing.parts_refused n d.0 TypeTooLarge x.1 d.1 (λ y. large (adt_fits c.adts n d.0 d.1 y.1)),
    )) h

-- ---- the whole

behind_front : {A : Type 0} (P : A → Type 0) (xs ys : List A) (a : ℕ) (x : A) → length xs ≤ a → slice_get (xs ++ ys) a ≡ Some x → Each P ys
    → P x
behind_front P [] [] a x l h e = absurd cc
behind_front P [] (y ∷ ys) zero x l h e = let i : y ≡ x = cc in subst P i e.0
behind_front P [] (y ∷ ys) (suc a) x l h e = behind_front P [] ys a x (omega arith) h e.1
behind_front P (z ∷ zs) ys zero x l h e = absurd (omega arith)
behind_front P (z ∷ zs) ys (suc a) x l h e = behind_front P zs ys a x (omega arith) h e

short_front : {A : Type 0} (n : ℕ) (xs : List A) → length (take n xs) ≤ n
short_front zero xs = omega arith
short_front (suc n) [] = omega arith
short_front (suc n) (x ∷ xs) = let r : length (take n xs) ≤ n = short_front n xs in omega arith

module _ (m : Bool) (name : List ℕ) (ms : Members) (pick : Option (List decls.Variant)) (c : Context) (b : Body) where
  pub member_fails : (f : code.Cause) → FailsBy f (FailsMember m (AdtMember name ms pick) c b)
      → FailsBy f (λ k. (n : ℕ) → FailsAdt m name ms pick (at c b n) k)
  member_fails f h = fails_weaker f _ _ (λ k x n. failing.in_adt k (x n)) h

  module _ (g : Inside) (d : Context) (e : Body) (adds : AddsAdt m name ms pick c b g d e) (first : ℕ) (is : first ≡ length c.adts) where
    pub stands_not : (f : code.Cause) → FailsBy f (ByRefusal (FailsToStand first (with_adts_in first g.adts d)))
        → FailsBy f (λ k. (n : ℕ) → FailsAdt m name ms pick (at c b n) k)
    stands_not f h =
        fails_weaker f _ _
        (λ k x n. subst (FailsAdt m name ms pick (at c b n)) (sym x.1)
        (failing.stands_not g (at d e n) x.0 (adds n)
        (subst (λ (i : ℕ). FailsToStand i (with_adts_in i g.adts d) x.0) is x.2))) h

    pub is_adt : (d' : Context) → d' ≡ with_adts_in first g.adts d → AreAllowed first d' → (n : ℕ)
        → IsAdt m name ms pick (at c b n) (at d' e n)
    is_adt d' made allowed n = record {
      inside = g;
      behind = at d e n;
      adds = adds n;
      goes_on = ap (λ (z : Context). at z e n) (made ∙ ap (λ (i : ℕ). with_adts_in i g.adts d) is);
      stand = λ a x l there. record {
        allowed = allowed a x (subst (λ (i : ℕ). i ≤ a) (sym is) l) there;
        small =
            behind_front (λ (y : Def). AreSmall (field_types y)) (take (length c.adts) d.adts) g.adts a x
            (let s : length (take (length c.adts) d.adts) ≤ length c.adts = short_front (length c.adts) d.adts in
            let t : length c.adts ≤ a = l in omega arith)
            (ap (λ (ds : List Def). slice_get ds a)
            (sym (ap (λ (z : Context). z.adts) (made ∙ ap (λ (i : ℕ). with_adts_in i g.adts d) is))) ∙ there)
            (small_member m (AdtMember name ms pick) (at c b 0) g (at d e 0) (adds 0)).adts;
      };
    }

-- ---- a name alone

once : (n : List ℕ) → AreOnce (n ∷ [])
once n zero zero name i j = refl
once n zero (suc k) name i j = absurd cc
once n (suc k) l name i j = absurd cc

pub is_new : (n : List ℕ) (b : Body) → declared_here n b.scopes ≡ None → AreNew (n ∷ []) b
is_new n b h = ((h, tt), once n)

-- ---- the declaration

module _ (name : List ℕ) (ms : Members) (pick : Option (List decls.Variant)) (c : Context) (b : Body) where
  pub adt_declares : (c' : Context) (b' : Body) (z : Stmt) → AdtIsOnce ms pick → AreNew (name ∷ []) b
      → ((n : ℕ) → IsAdt false name ms pick (at c b n) (at c' b' n)) → z ≡ Empty → DeclaresAt c b (decls.Adt name ms pick) z c' b'
  adt_declares c' b' z one new is stands module_name n = (one, new, is n, stands)

  pub adt_fails : (f : code.Cause) → FailsBy f (λ k. (n : ℕ) → FailsAdt false name ms pick (at c b n) k)
      → FailsBy f (FailsAt c b (decls.Adt name ms pick))
  adt_fails f h = fails_weaker f _ _ (λ k x n. failing.adt name ms pick (at c b n) k (x n)) h

  pub adt_again : (f : code.Cause) → FailsBy f (λ k. (k ≡ Twice) × (AreNew (name ∷ []) b → ⊥))
      → FailsBy f (FailsAt c b (decls.Adt name ms pick))
  adt_again f h =
      fails_weaker f _ _
      (λ k x n. subst (FailsToDeclare (decls.Adt name ms pick) (at c b n)) (sym x.0) (failing.adt_again name ms pick (at c b n) x.1)) h

  pub adt_repeats : (f : code.Cause) → FailsBy f (λ k. (k ≡ Twice) × (AdtIsOnce ms pick → ⊥))
      → FailsBy f (FailsAt c b (decls.Adt name ms pick))
  adt_repeats f h =
      fails_weaker f _ _
      (λ k x n. subst (FailsToDeclare (decls.Adt name ms pick) (at c b n)) (sym x.0) (failing.adt_repeats name ms pick (at c b n) x.1)) h
