-- Rows of what declarations need.
use Rattle.std.proofs.Common.{◌≡◌, ◌<◌, ◌+◌, inl, inr, ℕ, List, [], ◌∷◌, ◌++◌, Option, Some, length, map, take, get_or, slice_get, refl, sym, ap, subst, ◌∙◌, append_assoc, Vec, Global, arith}
use Rattle.std.specs.List.{Contains}
use Rattle.std.proofs.lemmas.List.{append-nil, map_more}
use Rattle.std.proofs.lemmas.List.Elements.{Contains-append_left, Contains-push, Contains-push_cases}
use Rattle.limbo_tree.specs.declared.types.TypeTree as code_type
use Rattle.limbo_tree.specs.Types as tree
use Rattle.limbo_tree.specs.View.{view_type, tys_of}
use Rattle.limbo_declarations.specs.Rows as told
use Rattle.limbo_entries.specs.Entries.{Entry, IsEntry}
use Rattle.limbo_naming.specs.Qualified.{Qualified, Simple, Member}
use Rattle.limbo_naming.specs.Direct.{IsDeclared, DeclaresOf}
use Rattle.limbo_naming.specs.Told.{Knows}
use Rattle.limbo_naming.specs.declared.naming.Named.TheVariants as named
use Rattle.limbo_naming.specs.declared.naming.Naming.{Naming}
use Rattle.limbo_naming.proofs.Direct.{one_declared, lacks_declared}
use Rattle.limbo_naming.proofs.Lists.{stands_push}
use Rattle.limbo_order.specs.View.{rows}
use Rattle.limbo_unknown.specs.Written.{in_type, in_types}
use Rattle.limbo_type_names.specs.Needs.{NeedsType, of_type, of_import}
use Rattle.limbo_type_names.specs.Working.{entries_in, AreNeeds, AreNeedsOf}
use Rattle.limbo_type_names.proofs.Knowing.{one_entry, alone}

module _ (n : Naming) (scope : Option ℕ) (names : List Qualified) (row : List ℕ) (are : AreNeeds n scope names row) (q : Qualified) where
  -- one more name that names something
  need_more : (r : ℕ) → IsDeclared (entries_in n) n.implemented scope q r → ((s : ℕ) → IsDeclared (entries_in n) n.implemented scope q s → s ≡ r)
      → AreNeeds n scope (names ++ (q ∷ [])) (row ++ (r ∷ []))
  need_more r a one = record {
    sound = λ s h. elim (Contains-push_cases row r s h) [
      | inl x ↦ let y = are.sound s x in (y.0, Contains-append_left names (q ∷ []) y.0 y.1, y.2)
      | inr e ↦ (q, Contains-push names q, subst (λ (z : ℕ). IsDeclared (entries_in n) n.implemented scope q z) e a)
    ];
    complete = λ p s h b. elim (Contains-push_cases names q p h) [
      | inl x ↦ Contains-append_left row (r ∷ []) s (are.complete p s x b)
      | inr e ↦
          subst (λ (z : ℕ). Contains (row ++ (r ∷ [])) z) (sym (one s (subst (λ (z : Qualified). IsDeclared (entries_in n) n.implemented scope z s) (sym e) b)))
          (Contains-push row r)
    ];
  }

  -- one more that names nothing
  need_same : ((s : ℕ) → IsDeclared (entries_in n) n.implemented scope q s → ⊥) → AreNeeds n scope (names ++ (q ∷ [])) row
  need_same none = record {
    sound = λ s h. let y = are.sound s h in (y.0, Contains-append_left names (q ∷ []) y.0 y.1, y.2);
    complete = λ p s h b. elim (Contains-push_cases names q p h) [
      | inl x ↦ are.complete p s x b
      | inr e ↦ absurd (none s (subst (λ (z : Qualified). IsDeclared (entries_in n) n.implemented scope z s) (sym e) b))
    ];
  }

  pub need_found : Knows n → (r : ℕ) → DeclaresOf n scope q (named.Found r) → AreNeeds n scope (names ++ (q ∷ [])) (row ++ (r ∷ []))
  need_found k r d = need_more r d (λ s b. one_declared (entries_in n) n.implemented scope k.sight.once q s r b d)

  pub need_unknown : Knows n → DeclaresOf n scope q named.Unknown → AreNeeds n scope (names ++ (q ∷ [])) row
  need_unknown k d = need_same (λ s b. lacks_declared (entries_in n) n.implemented scope k.sight.once q s d b)

  pub need_nothing : DeclaresOf n scope q named.Nothing → AreNeeds n scope (names ++ (q ∷ [])) row
  need_nothing d = need_same d.1

-- ---- the names in types

in_types_push : (ts : List tree.Ty) (t : tree.Ty) → in_types (tys_of (ts ++ (t ∷ []))) ≡ in_types (tys_of ts) ++ in_type t
in_types_push [] t = append-nil (in_type t)
in_types_push (u ∷ ts) t = ap (λ xs. in_type u ++ xs) (in_types_push ts t) ∙ sym (append_assoc (in_type u) (in_types (tys_of ts)) (in_type t))

pub in_types_more : (ts : List code_type.TypeTree) (i : ℕ) (x : code_type.TypeTree) → i < length ts → x ≡ get_or ts i x
    → in_types (tys_of (map view_type (take (i + 1) ts))) ≡ in_types (tys_of (map view_type (take i ts))) ++ in_type (view_type x)
in_types_more ts i x l e =
    ap (λ ys. in_types (tys_of ys)) (map_more view_type ts i x l) ∙ in_types_push (map view_type (take i ts)) (view_type (get_or ts i x))
    ∙ ap (λ z. in_types (tys_of (map view_type (take i ts))) ++ in_type (view_type z)) (sym e)

pub none_more : (n : Naming) (scope : Option ℕ) (names none : List Qualified) (row : List ℕ) → none ≡ [] → AreNeeds n scope names row → AreNeeds n scope (names ++ none) row
none_more n scope names none row e are = subst (λ (xs : List Qualified). AreNeeds n scope xs row) (sym (append-nil names) ∙ ap (λ ys. names ++ ys) (sym e)) are

-- ---- the needs of a declaration

pub only_one : (p q : Qualified) → Contains (q ∷ []) p → p ≡ q
only_one p q h = elim (Contains-push_cases [] q p h) [
  | inl x ↦ absurd (let l = x.1 in omega arith)
  | inr e ↦ sym e
]

pub empty : (n : Naming) (scope : Option ℕ) → AreNeeds n scope [] []
empty n scope = record { sound = λ k h. absurd (let l = h.1 in omega arith); complete = λ q k h b. absurd (let l = h.1 in omega arith) }

pub by_type_from : (es : List Entry) (m k j : ℕ) (e : Entry) (t : tree.Ty) → IsEntry es k e → e.row.means ≡ told.Alias t → NeedsType es m k j
    → (q : Qualified) × Contains (in_type t) q × IsDeclared es m e.within q j
by_type_from es m k j e t there is (of_type f u q i w at d) =
    let a : f ≡ e = one_entry es k f e i there in
    let b : told.Alias u ≡ told.Alias t = sym w ∙ ap (λ (z : Entry). z.row.means) a ∙ is in
    let p : u ≡ t = cc in
    (q, subst (λ (z : tree.Ty). Contains (in_type z) q) p at, subst (λ (z : Entry). IsDeclared es m z.within q j) a d)
by_type_from es m k j e t there is (of_import f source i w d) =
    let a : f ≡ e = one_entry es k f e i there in
    let b : told.Imported source ≡ told.Alias t = sym w ∙ ap (λ (z : Entry). z.row.means) a ∙ is in
    absurd cc

pub import_from : (es : List Entry) (m k j : ℕ) (e : Entry) (source : List ℕ) → IsEntry es k e → e.row.means ≡ told.Imported source → NeedsType es m k j
    → IsDeclared es m e.within (Member (Simple source) e.row.name) j
import_from es m k j e source there is (of_type f u q i w at d) =
    let a : f ≡ e = one_entry es k f e i there in
    let b : told.Alias u ≡ told.Imported source = sym w ∙ ap (λ (z : Entry). z.row.means) a ∙ is in
    absurd cc
import_from es m k j e source there is (of_import f other i w d) =
    let a : f ≡ e = one_entry es k f e i there in
    let b : told.Imported other ≡ told.Imported source = sym w ∙ ap (λ (z : Entry). z.row.means) a ∙ is in
    let p : other ≡ source = cc in
    subst (λ (z : Entry). IsDeclared es m z.within (Member (Simple source) z.row.name) j) a
    (subst (λ (z : List ℕ). IsDeclared es m f.within (Member (Simple z) f.row.name) j) p d)

none_from : (es : List Entry) (m k j : ℕ) (e : Entry) → IsEntry es k e → ((t : tree.Ty) → e.row.means ≡ told.Alias t → ⊥)
    → ((source : List ℕ) → e.row.means ≡ told.Imported source → ⊥) → NeedsType es m k j → ⊥
none_from es m k j e there x y (of_type f u q i w at d) =
    let a : f ≡ e = one_entry es k f e i there in x u (sym (ap (λ (z : Entry). z.row.means) a) ∙ w)
none_from es m k j e there x y (of_import f source i w d) =
    let a : f ≡ e = one_entry es k f e i there in y source (sym (ap (λ (z : Entry). z.row.means) a) ∙ w)

module _ (n : Naming) (k : ℕ) (e : Entry) (there : IsEntry (entries_in n) k e) (row : List ℕ) where
  pub needs_by_type : (t : tree.Ty) → e.row.means ≡ told.Alias t
      → ((names : List Qualified) → AreNeeds n e.within names [] → AreNeeds n e.within (names ++ in_type t) row) → AreNeedsOf n k row
  needs_by_type t is more =
      let are = more [] (empty n e.within) in
      record {
        sound = λ j h. let y = are.sound j h in of_type e t y.0 there is y.1 y.2;
        complete = λ j v. let y = by_type_from (entries_in n) n.implemented k j e t there is v in are.complete y.0 j y.1 y.2;
      }

  pub needs_import : (source : List ℕ) → e.row.means ≡ told.Imported source
      → AreNeeds n e.within (Member (Simple source) e.row.name ∷ []) row → AreNeedsOf n k row
  needs_import source is are = record {
    sound = λ j h.
        let y = are.sound j h in
        of_import e source there is (subst (λ (z : Qualified). IsDeclared (entries_in n) n.implemented e.within z j) (only_one y.0 _ y.1) y.2);
    complete = λ j v. are.complete (Member (Simple source) e.row.name) j (alone (Member (Simple source) e.row.name)) (import_from (entries_in n) n.implemented k j e source there is v);
  }

pub needs_none : (n : Naming) (k : ℕ) (e : Entry) → IsEntry (entries_in n) k e → ((t : tree.Ty) → e.row.means ≡ told.Alias t → ⊥)
    → ((source : List ℕ) → e.row.means ≡ told.Imported source → ⊥) → AreNeedsOf n k []
needs_none n k e there x y = record {
  sound = λ j h. absurd (let l = h.1 in omega arith);
  complete = λ j v. absurd (none_from (entries_in n) n.implemented k j e there x y v);
}

-- ---- one row more

pub rows_pushed : (vs : List (Vec ℕ Global)) (v : Vec ℕ Global) → rows (vs ++ (v ∷ [])) ≡ rows vs ++ (v.items ∷ [])
rows_pushed [] v = refl
rows_pushed (w ∷ vs) v = ap (λ xs. w.items ∷ xs) (rows_pushed vs v)

pub rows_many : (vs : List (Vec ℕ Global)) → length (rows vs) ≡ length vs
rows_many [] = refl
rows_many (w ∷ vs) = let e = rows_many vs in omega arith

pub each_pushed : (n : Naming) (vs : List (Vec ℕ Global)) (v : Vec ℕ Global)
    → ((k : ℕ) (row : List ℕ) → slice_get (rows vs) k ≡ Some row → AreNeedsOf n k row) → AreNeedsOf n (length vs) v.items
    → (k : ℕ) (row : List ℕ) → slice_get (rows (vs ++ (v ∷ []))) k ≡ Some row → AreNeedsOf n k row
each_pushed n vs v f a k row h = elim (stands_push (rows vs) v.items k row (subst (λ (z : List (List ℕ)). slice_get z k ≡ Some row) (rows_pushed vs v) h)) [
  | inl x ↦ f k row x
  | inr x ↦
      subst (λ (z : List ℕ). AreNeedsOf n k z) x.1
      (subst (λ (z : ℕ). AreNeedsOf n z v.items) (sym (x.0 ∙ rows_many vs)) a)
]
