-- A row that has a text twice declares nothing, if the text declares something.
use Rattle.std.proofs.Common.{◌≡◌, ◌≢◌, ◌<◌, ◌+◌, ◌⊎◌, inl, inr, ℕ, List, [], ◌∷◌, ◌++◌, length, Some, true, false, refl, sym, ap, subst, ◌∙◌, append_assoc, arith}
use Rattle.std.specs.Prelude.{slice_get}
use Rattle.std.proofs.lemmas.List.{length-append}
use Rattle.std.proofs.lemmas.Option.{none-some}
use Rattle.inf_ports.specs.Outside.{Told}
use Rattle.limbo_tree.specs.Tokens.{is_some}
use Rattle.limbo_tree.specs.Decls as decls
use Rattle.limbo_tree.specs.Decls.{IsDecl}
use Rattle.limbo_tree.specs.Exprs.{Expr}
use Rattle.limbo_tree.specs.Sources.{Top, Include, Declared, Defined, IsTop, AreTops}
use Rattle.limbo_declarations.specs.Names.{AreOnce}
use Rattle.limbo_declarations.specs.Rows as rows
use Rattle.limbo_declarations.specs.Rows.{Row, rows_of_decl, each, counted}
use Rattle.limbo_entries.specs.Entries.{Entry}
use Rattle.limbo_entries.proofs.Lists.{at_left, at_right, mapped}
use Rattle.limbo_top.specs.Tops.{Placed, Definition, declared, definitions, rows_of_top, definitions_of}
use Rattle.limbo_top.specs.TopLevel.{row_names}
use Rattle.limbo_top.proofs.TopLevels.{declared_once}
use Rattle.limbo_defined.specs.Defined.{AreDefinedOnce}
use Rattle.limbo_declare.specs.Declares as scope
use Rattle.limbo_declare.specs.Declares.{names_of}
use Rattle.source_names.specs.Included.{Flattens, nothing, declaration, text, IsDoubled, is_include}

-- ---- what a declaration declares

abbrev Begins : {A : Type 0} → List A → Type 0
Begins {A} xs = (x : A) × (slice_get xs 0 ≡ Some x)

begins_each : (p : List ℕ) (ns : List (List ℕ)) (d : rows.Declared) → is_some ns ≡ true → Begins (each p ns d)
begins_each p [] d e = absurd cc
begins_each p (n ∷ ns) d e = (record { path = p; name = n; means = d }, refl)

begins_counted : (p : List ℕ) (ns : List (List ℕ)) (x : Expr) → is_some ns ≡ true → Begins (counted p 0 ns x)
begins_counted p [] x e = absurd cc
begins_counted p (n ∷ ns) x e = (record { path = p; name = n; means = rows.Constant x 0 }, refl)

begins_decl : (p : List ℕ) (d : decls.Decl) → IsDecl d → Begins (rows_of_decl p d)
begins_decl p (decls.Con ns e) is = begins_counted p ns e is.0
begins_decl p (decls.TypeName ns t) is = begins_each p ns (rows.Alias t) is.0
begins_decl p (decls.Var ns t v) is = begins_each p ns (rows.Variable t v) is.0
begins_decl p (decls.Define ns e) is = begins_each p ns (rows.Inferred e) is.0
begins_decl p (decls.Import ns m) is = begins_each p ns (rows.Imported m) is
begins_decl p (decls.Exception ns tys) is = begins_each p ns (rows.Exception tys) is.0
begins_decl p (decls.Module n ms) is = (record { path = p; name = n; means = rows.Module ms }, refl)
begins_decl p (decls.Adt n ms pick) is = (record { path = p; name = n; means = rows.Adt ms pick }, refl)

-- ---- a row's first declaration

abbrev IsFormed : List Placed → Type 0
IsFormed [] = Unit {0}
IsFormed (s ∷ ss) = IsTop s.top × (is_include s.top ≡ false) × IsFormed ss

both_formed : (xs ys : List Placed) → IsFormed xs → IsFormed ys → IsFormed (xs ++ ys)
both_formed [] ys f g = g
both_formed (x ∷ xs) ys f g = (f.0, f.1, both_formed xs ys f.2 g)

formed : (told : Told) (n : ℕ) (path : List ℕ) (tops : List Top) (row : List Placed) → Flattens told n path tops row → AreTops tops → IsFormed row
formed told n path _ _ (nothing _ _) a = tt
formed told n path _ _ (declaration _ _ top tops rest e f) a = (a.0, e, formed told n path tops rest f a.1)
formed told n path _ _ (text k _ name tree tops row rest s f g) a =
    both_formed row rest
    (formed told k _ tree.tops row f s.has.parsed.formed)
    (formed told n path tops rest g a.1)

-- the first declaration of a row declares a name, or defines a function
begins_row : (row : List Placed) → IsFormed row → row ≢ [] → Begins (declared row) ⊎ Begins (definitions row)
begins_row [] f e = absurd (e refl)
begins_row (s ∷ row) f e = at_top s.top refl f.0 f.1
  where
    at_top : (t : Top) → s.top ≡ t → IsTop s.top → is_include s.top ≡ false → Begins (declared (s ∷ row)) ⊎ Begins (definitions (s ∷ row))
    at_top (Include name) h is i = absurd (let j : is_include s.top ≡ true = ap is_include h in let k : true ≡ false = sym j ∙ i in cc)
    at_top (Declared d) h is i =
        let b = begins_decl s.path d (subst IsTop h is) in
        let r : slice_get (rows_of_top s.path s.top) 0 ≡ Some b.0 = subst (λ (z : Top). slice_get (rows_of_top s.path z) 0 ≡ Some b.0) (sym h) b.1 in
        inl (b.0, at_left (rows_of_top s.path s.top) (declared row) 0 b.0 r)
    at_top (Defined name part of body) h is i =
        let d : Definition = record { path = s.path; name = name; part = part; of = of } in
        let r : slice_get (definitions_of s.path s.top) 0 ≡ Some d = subst (λ (z : Top). slice_get (definitions_of s.path z) 0 ≡ Some d) (sym h) refl in
        inr (d, at_left (definitions_of s.path s.top) (definitions row) 0 d r)

-- ---- rows side by side

declared_both : (xs ys : List Placed) → declared (xs ++ ys) ≡ declared xs ++ declared ys
declared_both [] ys = refl
declared_both (x ∷ xs) ys =
    ap (λ (z : List Row). rows_of_top x.path x.top ++ z) (declared_both xs ys)
    ∙ sym (append_assoc (rows_of_top x.path x.top) (declared xs) (declared ys))

definitions_both : (xs ys : List Placed) → definitions (xs ++ ys) ≡ definitions xs ++ definitions ys
definitions_both [] ys = refl
definitions_both (x ∷ xs) ys =
    ap (λ (z : List Definition). definitions_of x.path x.top ++ z) (definitions_both xs ys)
    ∙ sym (append_assoc (definitions_of x.path x.top) (definitions xs) (definitions ys))

-- what stands in it twice has two places
record HasTwo {A : Type 0} (xs : List A) (x : A) : Type 0 where
  one : ℕ
  other : ℕ
  apart : one < other
  there : slice_get xs one ≡ Some x
  and_there : slice_get xs other ≡ Some x

two_places : {A : Type 0} (front inner middle back : List A) (x : A) → slice_get inner 0 ≡ Some x
    → HasTwo (front ++ inner ++ middle ++ inner ++ back) x
two_places {A} front inner middle back x h = record {
  one = length front + 0;
  other = length (front ++ inner ++ middle) + 0;
  apart =
      let l = has_some inner h in
      let a = length-append (front ++ inner) middle in
      let b = length-append front inner in
      omega arith;
  there =
      at_left (front ++ inner ++ middle ++ inner) back (length front + 0) x
      (at_left (front ++ inner ++ middle) inner (length front + 0) x
      (at_left (front ++ inner) middle (length front + 0) x (at_right front inner 0 (length front + 0) x refl h)));
  and_there =
      at_left (front ++ inner ++ middle ++ inner) back (length (front ++ inner ++ middle) + 0) x
      (at_right (front ++ inner ++ middle) inner 0 (length (front ++ inner ++ middle) + 0) x refl h);
}
  where
    has_some : (xs : List A) → slice_get xs 0 ≡ Some x → 0 < length xs
    has_some [] e = absurd (none-some x e)
    has_some (y ∷ xs) e = omega arith

five : {B : Type 0} (f : List Placed → List B) → ((xs ys : List Placed) → f (xs ++ ys) ≡ f xs ++ f ys) → (a b c d : List Placed)
    → f (a ++ b ++ c ++ b ++ d) ≡ f a ++ f b ++ f c ++ f b ++ f d
five {B} f both a b c d =
    both (a ++ b ++ c ++ b) d ∙ ap (λ (z : List B). z ++ f d)
    (both (a ++ b ++ c) b ∙ ap (λ (z : List B). z ++ f b)
    (both (a ++ b) c ∙ ap (λ (z : List B). z ++ f c) (both a b)))

pub none_doubled : (told : Told) (name : List ℕ) (row : List Placed) (es : List Entry) (m : ℕ) → scope.Declares name row es m → IsDoubled told row → ⊥
none_doubled told name row es m d x =
    elim (begins_row x.inner (formed told x.depth x.path x.tree.tops x.inner x.flat x.there.has.parsed.formed) x.declares) [
      | inl b ↦
          let t = two_places (declared x.front) (declared x.inner) (declared x.middle) (declared x.back) b.0 b.1 in
          let once = subst (λ (z : List Placed). AreOnce (row_names (declared z))) x.parts (declared_once name row (names_of d.parts) d.top) in
          let all = subst (λ (z : List Row). AreOnce (row_names z)) (five declared declared_both x.front x.inner x.middle x.back) once in
          let rs = declared x.front ++ declared x.inner ++ declared x.middle ++ declared x.inner ++ declared x.back in
          let e = all t.one t.other b.0.name (mapped (λ (r : Row). r.name) rs t.one b.0 t.there) (mapped (λ (r : Row). r.name) rs t.other b.0 t.and_there) in
          let l = t.apart in
          omega arith
      | inr b ↦
          let t = two_places (definitions x.front) (definitions x.inner) (definitions x.middle) (definitions x.back) b.0 b.1 in
          let once = subst (λ (z : List Placed). AreDefinedOnce (definitions z)) x.parts d.defined_once in
          let all = subst (λ (z : List Definition). AreDefinedOnce z) (five definitions definitions_both x.front x.inner x.middle x.back) once in
          let e = all t.one t.other b.0 b.0 t.there t.and_there refl refl in
          let l = t.apart in
          omega arith
    ]
