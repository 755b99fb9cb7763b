-- References are compared only where they may be: of two arrays one is a `nil` that is written, whose slot names nothing.
use Rattle.std.proofs.Common.{◌≡◌, ℕ, suc, ◌+◌, List, [], ◌∷◌, Some, None}
use Rattle.std.proofs.Common.{refl, sym, ap, subst, ◌∙◌, arith, inl, inr, ⊎_elim, ◌⊎◌}
use Rattle.limbo_types.specs.Types as ty
use Rattle.limbo_types.specs.Types.{Ty}
use Rattle.limbo_layout.specs.Adts.{Def}
use Rattle.limbo_typed.specs.Fitting.{IsReference, IsRefOf, Stands, AllStand, ComparesTwo, Gives}
use Rattle.limbo_typed.specs.declared.operation.Operation.{Operation}
use Rattle.limbo_typed.specs.declared.operation.Operation.TheVariants as operation
use Rattle.limbo_meaning.specs.Trees.{Nil, Operate, Term, Node, Terms, NoTerms, MoreTerms}
use Rattle.limbo_kept.specs.Trees.{Scope, WorkIs, DeclaresFor, TermIs}
use Rattle.core_code.specs.Code.{Instr, Give}
use Rattle.core_code.specs.Terms.{lower, slot_at, type_of, types_in}
use Rattle.core_typing.specs.Held.{Of, Slots, slot, put, type_held}
use Rattle.core_typing.specs.Needs.{MayBeNil, StandsAs, IsA, AreThese, IsClean}
use Rattle.core_typing.specs.Going.{HasArray, MayCompare, ComparesSo}
use Rattle.core_typing.specs.Runs.{IsArray, IsNil, ComparesNil, NodeRuns}
use Rattle.core_typing.proofs.Going.{put_same, put_other, put_long, same_place, goes_to}
use Rattle.core_typing.proofs.Telling.{gave_to}
use Rattle.core_typing.proofs.Cleaning.{put_clean}
use Rattle.core_typing.proofs.Drops.{none}
use Rattle.core_typing.proofs.Standing.{as_on, itself}
use Rattle.core_typing.proofs.Nodes.{GoesBy, GoesWith}

-- ---- arrays

is_array : (t : Ty) → ((i : Ty) × (t ≡ ty.ArrayOf i)) ⊎ ((i : Ty) → t ≡ ty.ArrayOf i → ⊥)
is_array (ty.ArrayOf i) = inl (i, refl)
is_array _ = inr (λ i e. absurd cc)

variant_of_array : (h t i : Ty) → Stands h t → t ≡ ty.ArrayOf i → h ≡ ty.ArrayOf i
variant_of_array h t i (inl e) q = e ∙ q
variant_of_array (ty.RefPick n k) t i (inr e) q = absurd cc
variant_of_array _ t i (inr e) q = absurd e

-- Only an array stands for one.
array_as : (h t i : Ty) → StandsAs h t → t ≡ ty.ArrayOf i → h ≡ ty.ArrayOf i
array_as h t i (inl a) q = variant_of_array h t i a q
array_as h t i (inr a) q = absurd (subst MayBeNil q a.1)

array_for : (t i : Ty) → StandsAs (ty.ArrayOf i) t → t ≡ ty.ArrayOf i
array_for t i (inl (inl e)) = sym e
array_for t i (inl (inr e)) = absurd e
array_for t i (inr a) = absurd (let e = a.0 in cc)

array_held : (slots : Slots) (r : ℕ) (a t i : Ty) → IsA slots r a → Stands a t → t ≡ ty.ArrayOf i → HasArray slots r
array_held slots r a t i is st q =
    (i, is.1 ∙ ap (λ (x : Ty). Some x) (array_as is.0 t i (as_on is.0 a t is.2 st) q))

array_not_held : (slots : Slots) (r : ℕ) (a t : Ty) → IsA slots r a → Stands a t → ((i : Ty) → t ≡ ty.ArrayOf i → ⊥)
    → HasArray slots r → ⊥
array_not_held slots r a t is st f h =
    let same : is.0 ≡ ty.ArrayOf h.0 = let e = is.1 in let g = h.1 in cc in
    f h.0 (array_for t h.0 (subst (λ (x : Ty). StandsAs x t) same (as_on is.0 a t is.2 st)))

-- ---- slots of a written `nil`

-- The slot of each operand that is a written `nil` names nothing.
abbrev pub NilsClean : Terms → Slots → List ℕ → Type 0
NilsClean NoTerms slots ss = Unit {0}
NilsClean (MoreTerms t ts) slots [] = Unit {0}
NilsClean (MoreTerms t ts) slots (s ∷ ss) = (IsNil t → IsClean (slot slots s)) × NilsClean ts slots ss

module _ (s : Scope) where
  two_compare : (a b : Term) (t u : Ty) (slots : Slots) (x y : ℕ) → IsReference t
      → (t ≡ u) ⊎ ((n : ℕ) × IsRefOf n t × IsRefOf n u) → Stands (type_of s.adts a) t → Stands (type_of s.adts b) u
      → IsA slots x (type_of s.adts a) → IsA slots y (type_of s.adts b)
      → (IsArray (type_of s.adts a) → IsArray (type_of s.adts b) → IsNil a ⊎ IsNil b)
      → (IsNil a → IsClean (slot slots x)) → (IsNil b → IsClean (slot slots y)) → MayCompare slots x y
  two_compare a b t u slots x y ref eq sa sb ia ib runs ca cb = elim (is_array t) [
    | inl q ↦
        let other = array_too t u q.0 q.1 eq in
        let first : IsArray (type_of s.adts a) =
        subst IsArray (sym (variant_of_array (type_of s.adts a) t q.0 sa q.1)) tt in
        let second : IsArray (type_of s.adts b) =
        subst IsArray (sym (variant_of_array (type_of s.adts b) u q.0 sb other)) tt in
        inr (
          array_held slots x (type_of s.adts a) t q.0 ia sa q.1,
          array_held slots y (type_of s.adts b) u q.0 ib sb other,
          ⊎_elim (λ (n : IsNil a). inl (ca n)) (λ (n : IsNil b). inr (cb n)) (runs first second),
        )
    | inr f ↦ inl (
      array_not_held slots x (type_of s.adts a) t ia sa f,
      array_not_held slots y (type_of s.adts b) u ib sb (none_too t u f eq),
    )
  ]
    where
      array_too : (t u i : Ty) → t ≡ ty.ArrayOf i → (t ≡ u) ⊎ ((n : ℕ) × IsRefOf n t × IsRefOf n u) → u ≡ ty.ArrayOf i
      array_too t u i q (inl e) = sym e ∙ q
      array_too t u i q (inr e) = absurd (subst (IsRefOf e.0) q e.1)

      none_too : (t u : Ty) → ((i : Ty) → t ≡ ty.ArrayOf i → ⊥) → (t ≡ u) ⊎ ((n : ℕ) × IsRefOf n t × IsRefOf n u)
          → (i : Ty) → u ≡ ty.ArrayOf i → ⊥
      none_too t u f (inl e) i q = f i (e ∙ q)
      none_too t u f (inr e) i q = absurd (subst (IsRefOf e.0) q e.2)

  may_compare : (ts : Terms) (us : List Ty) (r : Ty) (slots : Slots) (ss : List ℕ) → ComparesNil s.adts ts → ComparesTwo us r
      → AllStand (types_in s.adts ts) us → AreThese slots ss (types_in s.adts ts) → NilsClean ts slots ss
      → MayCompare slots (slot_at 0 ss) (slot_at 1 ss)
  may_compare ts [] r slots ss runs gives st is nils = absurd gives
  may_compare ts (t ∷ []) r slots ss runs gives st is nils = absurd gives
  may_compare ts (t ∷ u ∷ v ∷ us) r slots ss runs gives st is nils = absurd gives
  may_compare NoTerms (t ∷ u ∷ []) r slots ss runs gives st is nils = absurd st
  may_compare (MoreTerms a NoTerms) (t ∷ u ∷ []) r slots ss runs gives st is nils = absurd st.1
  may_compare (MoreTerms a (MoreTerms b (MoreTerms c ts))) (t ∷ u ∷ []) r slots ss runs gives st is nils = absurd st.1.1
  may_compare (MoreTerms a (MoreTerms b NoTerms)) (t ∷ u ∷ []) r slots [] runs gives st is nils = absurd is
  may_compare (MoreTerms a (MoreTerms b NoTerms)) (t ∷ u ∷ []) r slots (x ∷ []) runs gives st is nils = absurd is.1
  may_compare (MoreTerms a (MoreTerms b NoTerms)) (t ∷ u ∷ []) r slots (x ∷ y ∷ ss) runs gives st is nils =
      two_compare a b t u slots x y gives.0 gives.1 st.0 st.1.0 is.0 is.1.0 runs nils.0 nils.1.0

  pub compares_so : (o : Operation) (ts : Terms) (us : List Ty) (t : Ty) (slots : Slots) (ss : List ℕ) → NodeRuns s.adts (Operate o) ts
      → Gives s.adts o us t → AllStand (types_in s.adts ts) us → AreThese slots ss (types_in s.adts ts) → NilsClean ts slots ss
      → ComparesSo slots o ss
  compares_so operation.Identical ts us t slots ss runs gives st is nils = may_compare ts us t slots ss runs gives st is nils
  compares_so operation.Distinct ts us t slots ss runs gives st is nils = may_compare ts us t slots ss runs gives st is nils
  compares_so _ ts us t slots ss runs gives st is nils = tt

-- What is updated is no reference, so that nothing is compared.
none_compared : (t : Ty) (us : List Ty) → ComparesTwo (t ∷ us) t → ⊥
none_compared t [] c = c
none_compared t (u ∷ []) c = subst IsReference c.2 c.0
none_compared t (u ∷ v ∷ us) c = c

pub updates_so : (defs : List Def) (o : Operation) (t : Ty) (us : List Ty) (slots : Slots) (ss : List ℕ) → Gives defs o (t ∷ us) t
    → ComparesSo slots o ss
updates_so defs operation.Identical t us slots ss gives = absurd (none_compared t us gives)
updates_so defs operation.Distinct t us slots ss gives = absurd (none_compared t us gives)
updates_so defs _ t us slots ss gives = tt

module _ (s : Scope) (answer : Ty) (code : List Instr) where
  -- A written `nil` names nothing.
  nil_goes : (lo : ℕ) (t u : Ty) (us : List Ty) → WorkIs s t Nil us u
      → GoesWith s answer code (λ after. IsNil (Node t Nil NoTerms) → IsClean (slot after (lower s.adts lo (Node t Nil NoTerms)).value)) lo
      (lower s.adts lo (Node t Nil NoTerms)) t
  nil_goes lo t u us is pc slots n has fits clean k =
      let i = Of t [] in
      let give = Give t Nil lo [] in
      let last = put slots lo i in
      let g = gave_to code pc (pc + 1) lo t give (omega arith) has.0 (λ r. refl) in
      let there : slot last lo ≡ i = put_same slots lo i fits in
      let empty_there : IsClean (slot last lo) = subst IsClean (sym there) refl in
      goes_to s answer code n pc (suc pc) slots last give has.0
      ([], tt, (is.0, is.1, inl refl), clean lo (omega arith) (omega arith), tt) tt refl
      (same_place s answer code n (pc + 1) (suc pc) last (omega arith)
      (k last (record {
        long = put_long slots lo i;
        same = λ r b. put_other slots lo r i (λ e. absurd (elim b [ inl y ↦ omega (arith, y, e) | inr y ↦ omega (arith, y, e) ]));
        lets = none (λ r p q. put_clean slots lo r i (clean r p q) (λ e. refl));
        is = (t, ap type_held there, itself t);
        agrees = (t, ap type_held there, g.there);
      }) (λ e. empty_there)))

  -- What goes well goes so that its slot names nothing where it is one.
  pub with_nil : (lo : ℕ) (t : Term) (u : Ty) → TermIs s [] None t u
      → GoesBy s answer code lo (lower s.adts lo t) (type_of s.adts t)
      → GoesWith s answer code (λ after. IsNil t → IsClean (slot after (lower s.adts lo t).value)) lo (lower s.adts lo t) (type_of s.adts t)
  with_nil lo (Node t Nil NoTerms) u is go =
      ⊎_elim (λ (w : WorkIs s t Nil is.0 u). nil_goes lo t u is.0 w) (λ (d : DeclaresFor s Nil NoTerms u). absurd d) is.2
  with_nil lo t u is go = λ pc slots n has fits clean k. go pc slots n has fits clean (λ after left. k after left (λ e. absurd e))
