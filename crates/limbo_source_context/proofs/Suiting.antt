-- Which values variables begin with.
use Rattle.std.proofs.Common.{◌≡◌, ◌<◌, ◌≤◌, ◌+◌, ◌⊎◌, inl, inr, ◌↔◌, ℕ, zero, suc, Bool, true, false, IsTrue, List, [], ◌∷◌, map, Option}
use Rattle.std.proofs.Common.{None, Some, option_copied, slice_get, length, refl, sym, ap, subst, ◌∙◌, arith}
use Rattle.std.specs.Borrow.{Bor}
use Rattle.std.specs.Option.{IfSome, IfNone}
use Rattle.std.proofs.lemmas.Option.{slice_get_within}
use Rattle.limbo_tree.specs.Exprs as tree
use Rattle.limbo_tree.specs.Exprs.{Expr}
use Rattle.limbo_types.specs.Types.{Ty, Chars, Nil, ArrayOf, ListOf, ChanOf, RefAdt, RefPick, Module}
use Rattle.limbo_constants.specs.declared.constant.Constant as source
use Rattle.limbo_constants.specs.Constants.{constant_in}
use Rattle.limbo_forms.specs.Forms.{is_reference, is_text, is_nil}
use Rattle.limbo_typed.specs.Fitting.{HasNil}
use Rattle.limbo_typed.specs.Typed.{Var}
use Rattle.limbo_entries.specs.Entries.{Entry, IsEntry}
use Rattle.limbo_constant_values.specs.Values.{Comes, comes, initial_value}
use Rattle.limbo_constant_values.specs.Answers.{IsKnown}
use Rattle.limbo_constant_values.specs.Initials.{AreInitials}
use Rattle.limbo_scope.specs.declared.meaning.Meaning.TheVariants as meaning
use Rattle.limbo_scope.specs.declared.meaning.Meaning.{Meaning}
use Rattle.limbo_meanings.specs.Meanings.{meaning_of, AreMeanings}
use Rattle.limbo_imports.specs.Imports.{meaning_at}
use Rattle.limbo_outline.specs.Outline.{type_of_constant, GlobalsAre, HasType}
use Rattle.limbo_outline.proofs.Numbers.{global_of}
use Rattle.limbo_source_context.specs.Beginning.{MayBegin, with_nothing, with_constant, with_nil, BeginsSo, AllBeginSo, BeginsOtherwise}
use Rattle.limbo_source_context.specs.Beginning.{global_in}
use Rattle.limbo_source_context.proofs.Beginnings.{global_from, meant_at}

pub reference_has_nil : (t : Ty) → is_reference t ≡ true → HasNil t
reference_has_nil (ArrayOf t) e = tt
reference_has_nil (ListOf t) e = tt
reference_has_nil (ChanOf t) e = tt
reference_has_nil (RefAdt n) e = tt
reference_has_nil (RefPick n v) e = tt
reference_has_nil (Module n) e = tt
reference_has_nil _ e = absurd cc

pub text_has_nil : (t : Ty) → is_text t ≡ true → is_nil t ≡ false → HasNil t
text_has_nil Chars e f = tt
text_has_nil Nil e f = absurd cc
text_has_nil _ e f = absurd cc

pub open_has_none : (t : Ty) → is_nil t ≡ true → HasNil t → ⊥
open_has_none Nil e h = h
open_has_none _ e h = absurd cc

pub other_has_none : (t : Ty) → is_reference t ≡ false → is_text t ≡ false → HasNil t → ⊥
other_has_none Chars e f h = absurd cc
other_has_none (ArrayOf t) e f h = absurd cc
other_has_none (ListOf t) e f h = absurd cc
other_has_none (ChanOf t) e f h = absurd cc
other_has_none (RefAdt n) e f h = absurd cc
other_has_none (RefPick n v) e f h = absurd cc
other_has_none (Module n) e f h = absurd cc
other_has_none _ e f h = h

-- `nil` comes to no constant
nil_comes_to_none : (es : List Entry) (m : ℕ) (scope iota : Option ℕ) (expr : Expr) (c : source.Constant) → Comes es m scope iota expr c →
    expr ≡ tree.Nil → ⊥
nil_comes_to_none es m _ _ _ _ (comes scope iota expr c meant means gives) e =
    let h : constant_in meant tree.Nil ≡ Some c = subst (λ (x : Expr). constant_in meant x ≡ Some c) e gives in
    absurd cc

module _ (es : List Entry) (m k : ℕ) (initials : List (Option source.Constant)) (are : AreInitials es m initials) (e : Entry) (there :
    IsEntry es k e)
    (expr : Expr) (written : initial_value e.row.means ≡ Some expr) where
  comes_from : (c : source.Constant) → IsKnown initials k c → Comes es m e.within None expr c
  comes_from c h =
      let i = are.known k c h in
      let a : i.entry ≡ e = let f = i.there in cc in
      let b : Some i.expr ≡ Some expr = sym i.written ∙ ap (λ (z : Entry). initial_value z.row.means) a ∙ written in
      let d : i.expr ≡ expr = cc in
      subst (λ (z : Expr). Comes es m e.within None z c) d (subst (λ (z : Entry). Comes es m z.within None i.expr c) a i.comes)

  module _ (t : Ty) (known : Option (Bor source.Constant)) (some : IfSome known (λ c. IsKnown initials k c.now))
      (none : IfNone known ((c : source.Constant) → IsKnown initials k c → ⊥)) (b : Bool)
      (by_constant : (c : source.Constant) → option_copied known ≡ Some c → IsTrue b ↔ (type_of_constant c ≡ t))
      (by_nil : option_copied known ≡ None → IsTrue b ↔ ((expr ≡ tree.Nil) × HasNil t)) where
    pub it_may : b ≡ true → MayBegin es m e t
    it_may h = go known some by_constant by_nil
      where
        go : (o : Option (Bor source.Constant)) → IfSome o (λ c. IsKnown initials k c.now)
            → ((c : source.Constant) → option_copied o ≡ Some c → IsTrue b ↔ (type_of_constant c ≡ t))
            → (option_copied o ≡ None → IsTrue b ↔ ((expr ≡ tree.Nil) × HasNil t)) → MayBegin es m e t
        go None s f g = let r = (g refl).0 h in with_nil (written ∙ ap Some r.0) r.1
        go (Some c) s f g = with_constant expr c.now written (comes_from c.now s) ((f c.now refl).0 h)

    not_so : b ≡ false → b ≡ true → ⊥
    not_so f h = let z : false ≡ true = sym f ∙ h in absurd cc

    pub it_may_not : b ≡ false → MayBegin es m e t → ⊥
    it_may_not h (with_nothing w) = let z : None ≡ Some expr = sym w ∙ written in absurd cc
    it_may_not h (with_constant x c w from p) = go known some none by_constant
      where
        is : IsKnown initials k c
        is = are.complete k c (record { entry = e; expr = x; there = there; written = w; comes = from })

        go : (o : Option (Bor source.Constant)) → IfSome o (λ c. IsKnown initials k c.now) → IfNone o ((c : source.Constant) → IsKnown
            initials k c → ⊥)
            → ((c : source.Constant) → option_copied o ≡ Some c → IsTrue b ↔ (type_of_constant c ≡ t)) → ⊥
        go None s n f = n c is
        go (Some d) s n f =
            let same : Some (Some c) ≡ Some (Some d.now) = sym is ∙ s in
            let q : c ≡ d.now = cc in
            not_so h ((f d.now refl).1 (ap type_of_constant (sym q) ∙ p))
    it_may_not h (with_nil w p) = go known some by_nil
      where
        nil_is : expr ≡ tree.Nil
        nil_is = let z : Some expr ≡ Some tree.Nil = sym written ∙ w in cc

        go : (o : Option (Bor source.Constant)) → IfSome o (λ c. IsKnown initials k c.now)
            → (option_copied o ≡ None → IsTrue b ↔ ((expr ≡ tree.Nil) × HasNil t)) → ⊥
        go None s g = not_so h ((g refl).1 (nil_is, p))
        go (Some d) s g = nil_comes_to_none es m e.within None expr d.now (comes_from d.now s) nil_is

-- ---- at a declaration

module _ (es : List Entry) (m k : ℕ) (means : List (Option Meaning)) (meant : AreMeanings es m means) (globals : List Var) where
  pub no_global : global_in (meaning_at means k) ≡ None → BeginsSo es m globals k
  no_global none n e v at is there =
      let p : global_in (meaning_at means k) ≡ Some n = ap global_in (meant_at means k (meaning_of es m k e) (meant k e at) ∙ is) in
      let z : None ≡ Some n = sym none ∙ p in
      absurd cc

  module _ (x : Entry) (at : IsEntry es k x) where
    pub no_value : initial_value x.row.means ≡ None → BeginsSo es m globals k
    no_value none n e v i is there = let s : x ≡ e = cc in with_nothing (subst (λ (z : Entry). initial_value z.row.means ≡ None) s none)

    module _ (g : ℕ) (v : Var) (global : global_in (meaning_at means k) ≡ Some g) (there : slice_get globals g ≡ Some v) where
      pub begins_here : MayBegin es m x v.ty → BeginsSo es m globals k
      begins_here may n e w i is h =
          let s : x ≡ e = cc in
          let p : global_in (meaning_at means k) ≡ Some n = ap global_in (meant_at means k (meaning_of es m k e) (meant k e i) ∙ is) in
          let q : Some n ≡ Some g = sym p ∙ global in
          let r : n ≡ g = cc in
          let f : slice_get globals g ≡ Some w = subst (λ (z : ℕ). slice_get globals z ≡ Some w) r h in
          let o : Some v ≡ Some w = sym there ∙ f in
          let u : v ≡ w = cc in
          subst (λ (z : Entry). MayBegin es m z w.ty) s (subst (λ (z : Var). MayBegin es m x z.ty) u may)

      pub begins_otherwise : GlobalsAre es m globals → (MayBegin es m x v.ty → ⊥) → BeginsOtherwise es m k
      begins_otherwise are never =
          let is : meaning_of es m k x ≡ Some (meaning.Global g) =
          sym (meant_at means k (meaning_of es m k x) (meant k x at)) ∙ global_from (meaning_at means k) g global in
          let r = global_of es m k g x globals are at is in
          let o : Some r.0 ≡ Some v = sym r.1 ∙ there in
          let u : r.0 ≡ v = cc in
          record {
            entry = x;
            there = at;
            number = g;
            is = is;
            ty = v.ty;
            typed = subst (λ (z : Var). HasType es m x z.ty) u r.2.typed;
            otherwise = never;
          }

pub all_begin : (es : List Entry) (m n : ℕ) (globals : List Var) → length es ≤ n → ((k : ℕ) → k < n → BeginsSo es m globals k) →
    AllBeginSo es m globals
all_begin es m n globals l f k i e v at is there = let w = slice_get_within es k e at in f k (omega arith) i e v at is there

pub begin_more : (P : ℕ → Type 0) (n : ℕ) → ((k : ℕ) → k < n → P k) → P n → (k : ℕ) → k < n + 1 → P k
begin_more P n f p k l = elim (at_or k n l) [
  | inl y ↦ f k y
  | inr y ↦ subst P (sym y) p
]
  where
    at_or : (a b : ℕ) → a < b + 1 → (a < b) ⊎ (a ≡ b)
    at_or a b l = grind arith

pub mapped_at : {A B : Type 0} (f : A → B) (xs : List A) (n : ℕ) (x : A) → slice_get xs n ≡ Some x → slice_get (map f xs) n ≡ Some (f x)
mapped_at f [] n x h = absurd cc
mapped_at f (y ∷ xs) zero x h = let e : y ≡ x = cc in ap (λ z. Some (f z)) e
mapped_at f (y ∷ xs) (suc n) x h = mapped_at f xs n x h
