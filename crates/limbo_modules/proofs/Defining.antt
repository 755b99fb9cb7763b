-- Definitions of functions, one after the other.
use Rattle.std.proofs.Common.{◌≡◌, ◌<◌, ◌⊎◌, ℕ, zero, suc, List, [], ◌∷◌, ◌++◌, length, map, Option, None, Some, inl, inr, refl, sym, ap}
use Rattle.std.proofs.Common.{subst, ◌∙◌, arith, ◌≤◌, take, get_or, ◌+◌}
use Rattle.std.specs.Prelude.{slice_get}
use Rattle.limbo_tree.specs.Decls.{FnType}
use Rattle.limbo_tree.specs.Stmts.{Block}
use Rattle.limbo_tree.specs.Sources.{Top, Include, Declared, Defined}
use Rattle.limbo_tree.specs.View.{name_of, view_fn, view_block, view_top, view_decl}
use Rattle.limbo_tree.specs.declared.source.Top as code_top
use Rattle.limbo_tree.specs.declared.source.Top.TheVariants as make
use Rattle.limbo_tree.specs.Decls.{Decl}
use Rattle.std.specs.Prelude.{Box}
use Rattle.std.specs.Global.{Global}
use Rattle.limbo_tree.specs.declared.source.Function as code_function
use Rattle.limbo_top.specs.Tops.{Placed}
use Rattle.limbo_entries.specs.Entries.{Entry, IsEntry, AreOnce}
use Rattle.limbo_scope.specs.declared.meaning.Meaning.{Meaning}
use Rattle.limbo_scope.specs.declared.meaning.Meaning.TheVariants as meaning
use Rattle.limbo_meanings.specs.Meanings.{meaning_of}
use Rattle.limbo_functions.specs.limbo_bodies.Definitions.{IsOf, IsUndeclared}
use Rattle.limbo_functions.proofs.limbo_bodies_lemmas.Declaring.{one_of}
use Rattle.limbo_stmt_values.specs.limbo_stating.Functions.{Definition}
use Rattle.limbo_functions.specs.View.{own_name, definition_of}
use Rattle.limbo_modules.specs.declared.finding.Found as code_found
use Rattle.limbo_modules.specs.Definitions.{Defines, HasNone, IsDefinition, AreDefinitions}
use Rattle.limbo_modules.specs.Found.{standing, IsFound, IsNoted, AreFound, view_found}

same_Some : {A : Type 0} (x y : A) → Some x ≡ Some y → x ≡ y
same_Some x y e = cc

-- ---- rows

pub in_front : {A : Type 0} (xs ys : List A) (k : ℕ) (x : A) → slice_get xs k ≡ Some x → slice_get (xs ++ ys) k ≡ Some x
in_front [] ys k x h = absurd (let e : None ≡ Some x = h in cc)
in_front (z ∷ xs) ys zero x h = h
in_front (z ∷ xs) ys (suc k) x h = in_front xs ys k x h

at_end : {A : Type 0} (xs : List A) (z : A) → slice_get (xs ++ z ∷ []) (length xs) ≡ Some z
at_end [] z = refl
at_end (x ∷ xs) z = at_end xs z

back : {A : Type 0} (xs : List A) (z : A) (k : ℕ) (x : A) → slice_get (xs ++ z ∷ []) k ≡ Some x
    → (slice_get xs k ≡ Some x) ⊎ ((k ≡ length xs) × (x ≡ z))
back [] z zero x h = inr (refl, same_Some x z (sym h))
back [] z (suc k) x h = absurd (let e : None ≡ Some x = h in cc)
back (y ∷ xs) z zero x h = inl h
back (y ∷ xs) z (suc k) x h = elim (back xs z k x h) [
  | inl e ↦ inl e
  | inr e ↦ inr (ap suc e.0, e.1)
]

within : {A : Type 0} (xs : List A) (k : ℕ) (x : A) → slice_get xs k ≡ Some x → k < length xs
within [] k x h = absurd (let e : None ≡ Some x = h in cc)
within (y ∷ xs) zero x h = omega arith
within (y ∷ xs) (suc k) x h = let l = within xs k x h in omega (arith, l)

there : {A : Type 0} (xs : List A) (k : ℕ) → k < length xs → (x : A) × (slice_get xs k ≡ Some x)
there [] k l = absurd (omega arith)
there (x ∷ xs) zero l = (x, refl)
there (x ∷ xs) (suc k) l = there xs k (omega arith)

-- ---- one top more

module _ (es : List Entry) (m : ℕ) (tops : List Placed) (s : Placed) (n : ℕ) where
  pub grown : (d : Definition) → IsDefinition es m tops n d → IsDefinition es m (tops ++ s ∷ []) n d
  grown d h = record {
    place = h.place;
    standing = h.standing;
    there = in_front tops (s ∷ []) h.place h.standing h.there;
    defines = h.defines;
    first = λ i z x l at df.
        let k = within tops h.place h.standing h.there in
        elim (back tops s i z at) [
          | inl e ↦ h.first i z x l e df
          | inr e ↦ absurd (let p : i ≡ length tops = e.0 in omega (arith, p, l, k))
        ];
  }

  pub none_more : HasNone es m tops n → ((d : Definition) → Defines es m n s d → ⊥) → HasNone es m (tops ++ s ∷ []) n
  none_more none here i z d at df = elim (back tops s i z at) [
    | inl e ↦ none i z d e df
    | inr e ↦ here d (subst (λ (y : Placed). Defines es m n y d) e.1 df)
  ]

  pub first_here : HasNone es m tops n → (d : Definition) → Defines es m n s d → IsDefinition es m (tops ++ s ∷ []) n d
  first_here none d df = record {
    place = length tops;
    standing = s;
    there = at_end tops s;
    defines = df;
    first = λ i z x l at dg. elim (back tops s i z at) [
      | inl e ↦ none i z x e dg
      | inr e ↦ absurd (let p : i ≡ length tops = e.0 in omega (arith, p, l))
    ];
  }

-- what is found stays so where the top defines nothing
pub kept : (es : List Entry) (m : ℕ) (tops : List Placed) (s : Placed) (found : List (Option code_found.Found))
    → ((n : ℕ) (d : Definition) → Defines es m n s d → ⊥) → AreFound es m tops found → AreFound es m (tops ++ s ∷ []) found
kept es m tops s found none are n None at = none_more es m tops s n (are n None at) (none n)
kept es m tops s found none are n (Some f) at = grown es m tops s n (definition_of f.function.now) (are n (Some f) at)

-- ---- what a definition defines

-- what a definition writes
pub record Written : Type 0 where
  pub name : List ℕ
  pub part : Option (List ℕ)
  pub of : FnType
  pub block : Block

abbrev pub written : List ℕ → Option (List ℕ) → FnType → Block → Written
written n p f b = record { name = n; part = p; of = f; block = b }

pub writes : Top → Option Written
writes (Include s) = None
writes (Declared d) = None
writes (Defined n p f b) = Some (written n p f b)

pub same_written : (n m : List ℕ) (p q : Option (List ℕ)) (f g : FnType) (b c : Block) → Defined n p f b ≡ Defined m q g c
    → written n p f b ≡ written m q g c
unfolding writes
same_written n m p q f g b c e =
    let same : Some (written n p f b) ≡ Some (written m q g c) = ap writes e in
    same_Some (written n p f b) (written m q g c) same

pub not_include : (es : List Entry) (m n : ℕ) (path t : List ℕ) (d : Definition)
    → Defines es m n (record { path = path; top = Include t }) d → ⊥
unfolding writes
not_include es m n path t d h =
    let e : None ≡ Some (written h.name h.part h.of h.block) = ap writes h.is in absurd cc

pub not_declared : (es : List Entry) (m n : ℕ) (path : List ℕ) (x : Decl) (d : Definition)
    → Defines es m n (record { path = path; top = Declared x }) d → ⊥
unfolding writes
not_declared es m n path x d h =
    let e : None ≡ Some (written h.name h.part h.of h.block) = ap writes h.is in absurd cc

-- what stands there as no definition defines nothing
pub not_defined : (es : List Entry) (m n : ℕ) (path : List ℕ) (t : code_top.Top) (d : Definition)
    → ((f : Box code_function.Function Global) → t ≡ make.Define f → ⊥) → Defines es m n (record { path = path; top = view_top t }) d → ⊥
not_defined es m n path (make.Include t at) d none h = not_include es m n path t d h
not_defined es m n path (make.Declare x) d none h = not_declared es m n path (view_decl x.value) d h
not_defined es m n path (make.Define f) d none h = none f refl

module _ (es : List Entry) (m : ℕ) (once : AreOnce es) (path : List ℕ) (f : code_function.Function) where
  named : (n : ℕ) (d : Definition) (h : Defines es m n (standing path f) d)
      → written f.name.text (name_of f.part) (view_fn f.of) (view_block f.body) ≡ written h.name h.part h.of h.block
  named n d h = same_written f.name.text h.name (name_of f.part) h.part (view_fn f.of) h.of (view_block f.body) h.block h.is

  is_of : (n : ℕ) (d : Definition) (h : Defines es m n (standing path f) d) → IsOf es m f.name.text (name_of f.part) h.number
  is_of n d h =
      let e = named n d h in
      let p : h.name ≡ f.name.text = ap (λ (q : Written). q.name) (sym e) in
      let r : h.part ≡ name_of f.part = ap (λ (q : Written). q.part) (sym e) in
      subst (λ (z : Option (List ℕ)). IsOf es m f.name.text z h.number) r
      (subst (λ (z : List ℕ). IsOf es m z h.part h.number) p h.is_of)

  pub undeclared : IsUndeclared es m f.name.text (name_of f.part) → (n : ℕ) (d : Definition) → Defines es m n (standing path f) d → ⊥
  undeclared none n d h = none h.number n h.entry (is_of n d h) h.there h.means

  module _ (k number : ℕ) (e : Entry) (is : IsOf es m f.name.text (name_of f.part) k) (at : IsEntry es k e)
      (means : meaning_of es m k e ≡ Some (meaning.Function number)) where
    pub defines : Defines es m number (standing path f) (definition_of f)
    defines = record {
      name = f.name.text;
      part = name_of f.part;
      of = view_fn f.of;
      block = view_block f.body;
      is = refl;
      number = k;
      entry = e;
      is_of = is;
      there = at;
      means = means;
      gives = refl;
    }

    pub only : (n : ℕ) (d : Definition) → Defines es m n (standing path f) d → n ≡ number
    only n d h =
        let p : k ≡ h.number = one_of es m f.name.text once (name_of f.part) k h.number is (is_of n d h) in
        let q : e ≡ h.entry = same_Some e h.entry (sym at ∙ ap (slice_get es) p ∙ h.there) in
        let r : Some (meaning.Function n) ≡ Some (meaning.Function number) =
        sym h.means ∙ ap (λ (z : ℕ). meaning_of es m z h.entry) (sym p) ∙ ap (λ (z : Entry). meaning_of es m k z) (sym q) ∙ means in
        cc

    -- the definition is noted
    pub noted : (tops : List Placed) (old new : List (Option code_found.Found)) (at_path : code_found.Found)
        → at_path.function.now ≡ f
        → ((n : ℕ) (o : Option code_found.Found) → slice_get new n ≡ Some o → IsNoted old number at_path n o)
        → (slice_get new number ≡ Some None → ⊥) → AreFound es m tops old → AreFound es m (tops ++ standing path f ∷ []) new
    noted tops old new g same kept put are n None there = elim (kept n None there) [
      | inl e ↦ none_more es m tops (standing path f) n (are n None e)
          (λ d h. put (subst (λ (z : ℕ). slice_get new z ≡ Some None) (only n d h) there))
      | inr e ↦ absurd (let bad : None ≡ Some g = e.2 in cc)
    ]
    noted tops old new g same kept put are n (Some x) there = elim (kept n (Some x) there) [
      | inl e ↦ grown es m tops (standing path f) n (definition_of x.function.now) (are n (Some x) e)
      | inr e ↦
          let is_g : x ≡ g = same_Some x g e.2 in
          let fn : x.function.now ≡ f = ap (λ (z : code_found.Found). z.function.now) is_g ∙ same in
          let none : HasNone es m tops n = are n None e.1 in
          let df : Defines es m n (standing path f) (definition_of f) =
          subst (λ (z : ℕ). Defines es m z (standing path f) (definition_of f)) (sym e.0) defines in
          first_here es m tops (standing path f) n none (definition_of x.function.now)
          (subst (λ (z : code_function.Function). Defines es m n (standing path f) (definition_of z)) (sym fn) df)
    ]

-- ---- all

pub all_found : (es : List Entry) (m : ℕ) (tops : List Placed) (found : List (Option code_found.Found))
    (ds : List code_found.Found) → AreFound es m tops found → map (λ (f : code_found.Found). Some f) ds ≡ found
    → AreDefinitions es m tops (length found) (view_found ds)
all_found es m tops found ds are same = record {
  as_many = many ds ∙ sym (many_some ds) ∙ ap length same;
  each = λ n d at.
      let r = at_code ds n d at in
      let k : slice_get found n ≡ Some (Some r.0) = ap (λ (z : List (Option code_found.Found)). slice_get z n) (sym same) ∙
      some_at ds n r.0 r.1 in
      subst (λ (z : Definition). IsDefinition es m tops n z) r.2 (are n (Some r.0) k);
}
  where
    many : (xs : List code_found.Found) → length (view_found xs) ≡ length xs
    many [] = refl
    many (x ∷ xs) = ap suc (many xs)

    many_some : (xs : List code_found.Found) → length (map (λ (f : code_found.Found). Some f) xs) ≡ length xs
    many_some [] = refl
    many_some (x ∷ xs) = ap suc (many_some xs)

    at_code : (xs : List code_found.Found) (n : ℕ) (d : Definition) → slice_get (view_found xs) n ≡ Some d
        → (x : code_found.Found) × (slice_get xs n ≡ Some x) × (definition_of x.function.now ≡ d)
    at_code [] n d h = absurd (let e : None ≡ Some d = h in cc)
    at_code (x ∷ xs) zero d h = (x, refl, same_Some (definition_of x.function.now) d h)
    at_code (x ∷ xs) (suc n) d h = at_code xs n d h

    some_at : (xs : List code_found.Found) (n : ℕ) (x : code_found.Found) → slice_get xs n ≡ Some x
        → slice_get (map (λ (f : code_found.Found). Some f) xs) n ≡ Some (Some x)
    some_at [] n x h = absurd (let e : None ≡ Some x = h in cc)
    some_at (y ∷ xs) zero x h = ap Some h
    some_at (y ∷ xs) (suc n) x h = some_at xs n x h
