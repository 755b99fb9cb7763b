-- The function that a definition is of.
use Rattle.std.proofs.Common.{◌≡◌, ℕ, zero, suc, true, List, [], ◌∷◌, map, Option, None, Some, slice_get, refl, sym, ap, subst, ◌∙◌}
use Rattle.std.specs.Option.{IfSome, IfNone}
use Rattle.limbo_entries.specs.Entries.{Entry, IsEntry, IsMember, AreOnce, HasNone, Finds}
use Rattle.limbo_naming.specs.Naming.{is_adt}
use Rattle.limbo_naming.proofs.Unique.{one_found}
use Rattle.limbo_scope.specs.declared.meaning.Meaning.{Meaning}
use Rattle.limbo_scope.specs.declared.meaning.Meaning.TheVariants as meaning
use Rattle.limbo_context.specs.declared.context.Callee as code_callee
use Rattle.limbo_context.specs.Context.{Callee}
use Rattle.limbo_context.specs.View.{view_callee}
use Rattle.limbo_meanings.specs.Meanings.{AreMeanings, meaning_of}
use Rattle.limbo_outline.specs.Outline.{FunctionsAre, IsFunction}
use Rattle.limbo_outline.proofs.Numbers.{function_of}
use Rattle.limbo_bodies.specs.Definitions.{IsOf, by_name, by_adt, IsOfFunction, IsUndeclared, function_in, function_at}

pub some_member : (es : List Entry) (a : ℕ) (name : List ℕ) (e : Entry) (o : Option ℕ) → IsEntry es a e → is_adt e.row.means ≡ true
    → IfSome o (λ k. IsMember es (Some a) name k)
    → IfSome o (λ k. (x : Entry) × IsEntry es a x × (is_adt x.row.means ≡ true) × IsMember es (Some a) name k)
some_member es a name e None at is h = tt
some_member es a name e (Some k) at is h = (e, at, is, h)

pub none_member : (es : List Entry) (a : ℕ) (name : List ℕ) (o : Option ℕ) → IfNone o (HasNone es (Some a) name)
    → IfNone o ((k : ℕ) (e : Entry) → IsEntry es a e → is_adt e.row.means ≡ true → IsMember es (Some a) name k → ⊥)
none_member es a name None h = λ k e at is w. h k w
none_member es a name (Some k) h = tt

module _ (es : List Entry) (m : ℕ) (name : List ℕ) (once : AreOnce es) where
  one_by_name : (part : Option (List ℕ)) (j k : ℕ) → Finds es m name None j → IsOf es m name part k → part ≡ None → j ≡ k
  one_by_name _ j _ f (by_name k g) e = one_found es m once name None j k f g
  one_by_name _ j _ f (by_adt q b o k g i is h) e = absurd cc

  one_by_adt : (part : Option (List ℕ)) (p : List ℕ) (a j k : ℕ) → Finds es m name None a → IsMember es (Some a) p j → IsOf es m name part k
      → part ≡ Some p → j ≡ k
  one_by_adt _ p a j _ f w (by_name k g) e = absurd cc
  one_by_adt _ p a j _ f w (by_adt q b o k g i is h) e =
      let x : q ≡ p = cc in
      let y : b ≡ a = one_found es m once name None b a g f in
      once (Some a) p j k w (subst (λ (z : ℕ). IsMember es (Some z) p k) y (subst (λ (z : List ℕ). IsMember es (Some b) z k) x h))

  pub one_of : (part : Option (List ℕ)) (j k : ℕ) → IsOf es m name part j → IsOf es m name part k → j ≡ k
  one_of _ _ k (by_name j f) g = one_by_name None j k f g refl
  one_of _ _ k (by_adt p a o j f i is w) g = one_by_adt (Some p) p a j k f w g refl

  pub no_member_of : (part : Option (List ℕ)) (p : List ℕ) (a : ℕ) → Finds es m name None a
      → ((k : ℕ) (e : Entry) → IsEntry es a e → is_adt e.row.means ≡ true → IsMember es (Some a) p k → ⊥) → part ≡ Some p
      → (k : ℕ) → IsOf es m name part k → ⊥
  no_member_of _ p a f none e _ (by_name k g) = absurd cc
  no_member_of _ p a f none e _ (by_adt q b o k g i is h) =
      let x : q ≡ p = cc in
      let y : b ≡ a = one_found es m once name None b a g f in
      none k o (subst (λ (z : ℕ). IsEntry es z o) y i) is
      (subst (λ (z : ℕ). IsMember es (Some z) p k) y (subst (λ (z : List ℕ). IsMember es (Some b) z k) x h))

  pub no_function : (part : Option (List ℕ)) (number : ℕ) (means : List (Option Meaning)) → AreMeanings es m means → IsOf es m name part
      number
      → function_at means number ≡ None → IsUndeclared es m name part
  no_function part number means meant is none k n e w at h =
      let p : k ≡ number = one_of part k number w is in
      let q : slice_get means k ≡ Some (meaning_of es m k e) = meant k e at in
      let r : function_at means k ≡ function_in (meaning_of es m k e) =
      ap (λ (z : Option (Option Meaning)). elim z [ None ↦ None | Some x ↦ function_in x ]) q in
      let s : function_at means k ≡ Some n = r ∙ ap function_in h in
      let t : None ≡ Some n = sym none ∙ ap (function_at means) (sym p) ∙ s in
      absurd cc

callee_at : (fs : List code_callee.Callee) (n : ℕ) (f : code_callee.Callee) → slice_get fs n ≡ Some f
    → slice_get (map view_callee fs) n ≡ Some (view_callee f)
callee_at [] n f h = absurd cc
callee_at (g ∷ fs) zero f h = let e : g ≡ f = cc in ap (λ z. Some (view_callee z)) e
callee_at (g ∷ fs) (suc n) f h = callee_at fs n f h

pub of_function : (es : List Entry) (m : ℕ) (name : List ℕ) (part : Option (List ℕ)) (fs : List code_callee.Callee) (number place : ℕ) (e
    : Entry)
    (f : code_callee.Callee) → FunctionsAre es m (map view_callee fs) → IsOf es m name part number → IsEntry es number e
    → meaning_of es m number e ≡ Some (meaning.Function place) → slice_get fs place ≡ Some f → IsOfFunction es m name part place
    (view_callee f)
of_function es m name part fs number place e f are is at means there =
    let r = function_of es m number place e (map view_callee fs) are at means in
    let w : slice_get (map view_callee fs) place ≡ Some (view_callee f) = callee_at fs place f there in
    let same : Some r.0 ≡ Some (view_callee f) = sym r.1 ∙ w in
    let s : r.0 ≡ view_callee f = cc in
    record {
      number = number;
      entry = e;
      is_of = is;
      there = at;
      means = means;
      declared = subst (λ (z : Callee). IsFunction es m number e z) s r.2;
    }

module _ (es : List Entry) (m : ℕ) (name : List ℕ) where
  pub some_of : (part : Option (List ℕ)) (p : List ℕ) (a : ℕ) (o : Option ℕ) → Finds es m name None a → part ≡ Some p
      → IfSome o (λ k. (x : Entry) × IsEntry es a x × (is_adt x.row.means ≡ true) × IsMember es (Some a) p k)
      → IfSome o (λ k. IsOf es m name part k)
  some_of part p a None f e h = tt
  some_of part p a (Some k) f e h =
      subst (λ (z : Option (List ℕ)). IsOf es m name z k) (sym e) (by_adt p a h.0 k f h.1 h.2 h.3)

  pub none_of : AreOnce es → (part : Option (List ℕ)) (p : List ℕ) (a : ℕ) (o : Option ℕ) → Finds es m name None a → part ≡ Some p
      → IfNone o ((k : ℕ) (x : Entry) → IsEntry es a x → is_adt x.row.means ≡ true → IsMember es (Some a) p k → ⊥)
      → IfNone o ((k : ℕ) → IsOf es m name part k → ⊥)
  none_of once part p a None f e h = no_member_of es m name once part p a f h e
  none_of once part p a (Some k) f e h = tt
