-- What the labels of definitions and of declarations say of them.
use Rattle.std.proofs.Common.{◌≡◌, ◌<◌, ◌≤◌, ◌+◌, ℕ, zero, suc, true, ◌⊎◌, inl, inr, List, [], ◌∷◌, length, map, take, get_or, Option}
use Rattle.std.proofs.Common.{None, Some, refl, sym, ap, subst, ◌∙◌, arith}
use Rattle.std.specs.Prelude.{slice_get, is_some}
use Rattle.std.specs.List.{Contains}
use Rattle.std.specs.BTreeMap.{BTreeMap}
use Rattle.limbo_declarations.specs.Names.{IsAt, AreOnce, IsRepeated}
use Rattle.limbo_declarations.specs.Rows.{Row}
use Rattle.limbo_top.specs.declared.tops.Definition as code_definition
use Rattle.limbo_top.specs.Tops.{Definition}
use Rattle.limbo_top.specs.View.{view_definition, definitions_of}
use Rattle.limbo_includes.proofs.Lists.{contains_taken}
use Rattle.limbo_defined.specs.Defined.{IsDeclared, IsDefined, AreDefinedOnce, AllKnown}
use Rattle.limbo_defined.specs.Labels.{label, labels, wanted_labels}
use Rattle.limbo_defined.specs.Refusals.{IsSecond}
use Rattle.limbo_defined.specs.Sets.{get_label, IsSetOf}
use Rattle.limbo_defined.specs.Wanted.{Wanted, wanted_in}
use Rattle.limbo_defined.proofs.Apart.{one_label}
use Rattle.limbo_defined.proofs.Declaring.{wanted_declared, declared_wanted}

-- ---- lists that are made one by one

pub contains_map : {A B : Type 0} (f : A → B) (xs : List A) (x : A) → Contains xs x → Contains (map f xs) (f x)
contains_map f [] x c = absurd (let l = c.1 in omega arith)
contains_map f (y ∷ xs) x (zero, l, e) = (zero, omega arith, ap f e)
contains_map f (y ∷ xs) x (suc k, l, e) = let c = contains_map f xs x (k, omega arith, e) in (suc c.0, let m = c.1 in omega arith, c.2)

pub map_contains : {A B : Type 0} (f : A → B) (xs : List A) (y : B) → Contains (map f xs) y → (x : A) × Contains xs x × (f x ≡ y)
map_contains f [] y c = absurd (let l = c.1 in omega arith)
map_contains f (x ∷ xs) y (zero, l, e) = (x, (zero, omega arith, refl), e)
map_contains f (x ∷ xs) y (suc k, l, e) =
    let r = map_contains f xs y (k, omega arith, e) in
    let c = r.1 in
    (r.0, (suc c.0, let m = c.1 in omega arith, c.2), r.2)

at_map : {A B : Type 0} (f : A → B) (xs : List A) (k : ℕ) (x : A) → slice_get xs k ≡ Some x → slice_get (map f xs) k ≡ Some (f x)
at_map f [] k x h = absurd cc
at_map f (y ∷ xs) zero x h = let e : y ≡ x = cc in ap (λ z. Some (f z)) e
at_map f (y ∷ xs) (suc k) x h = at_map f xs k x h

map_at : {A B : Type 0} (f : A → B) (xs : List A) (k : ℕ) (y : B) → slice_get (map f xs) k ≡ Some y → (x : A) × (slice_get xs k ≡ Some x)
    × (f x ≡ y)
map_at f [] k y h = absurd cc
map_at f (x ∷ xs) zero y h = (x, refl, let e : f x ≡ y = cc in e)
map_at f (x ∷ xs) (suc k) y h = map_at f xs k y h

item_at : {A : Type 0} (xs : List A) (k : ℕ) (x : A) → k < length xs → x ≡ get_or xs k x → slice_get xs k ≡ Some x
item_at [] k x l e = absurd (omega arith)
item_at (y ∷ xs) zero x l e = ap (λ z. Some z) (sym e)
item_at (y ∷ xs) (suc k) x l e = item_at xs k x (omega arith) e

pub next_taken :
    {A B : Type 0} (f : A → B) (xs : List A) (i : ℕ) (x : A) (y : B) → i < length xs → x ≡ get_or xs i x
    → Contains (map f (take (i + 1) xs)) y → Contains (map f (take i xs)) y ⊎ (f x ≡ y)
next_taken {A} {B} f xs i x y l e c =
    let z = map_contains f (take (i + 1) xs) y c in
    elim (contains_taken xs i x z.0 l e z.1) [
      | inl d ↦ inl (subst (λ (w : B). Contains (map f (take i xs)) w) z.2 (contains_map f (take i xs) z.0 d))
      | inr s ↦ inr (ap f s ∙ z.2)
    ]

pub all_taken : {A : Type 0} (xs : List A) (k : ℕ) → length xs ≤ k → take k xs ≡ xs
all_taken [] zero l = refl
all_taken [] (suc k) l = refl
all_taken (x ∷ xs) zero l = absurd (omega arith)
all_taken (x ∷ xs) (suc k) l = ap (λ ys. x ∷ ys) (all_taken xs k (omega arith))

pub still_some : (o : Option ℕ) → is_some o ≡ true → o ≡ None → ⊥
still_some None h e = absurd cc
still_some (Some k) h e = absurd cc

-- ---- definitions

abbrev label_of : Definition → List ℕ
label_of d = label d.name d.part

pub once_defined : (ds : List Definition) → AreOnce (labels ds) → AreDefinedOnce ds
once_defined ds h i j d e f g a b =
    let n : label_of d ≡ label_of e = ap (λ (z : List ℕ). label z d.part) a ∙ ap (λ (z : Option (List ℕ)). label e.name z) b in
    h i j (label_of d) (at_map label_of ds i d f) (subst (λ (z : List ℕ). IsAt (labels ds) j z) (sym n) (at_map label_of ds j e g))

pub second :
    (ds : List code_definition.Definition) (k : ℕ) (d : code_definition.Definition) → IsRepeated (labels (definitions_of ds)) k
    → k < length ds → d ≡ get_or ds k d → IsSecond ds d.path d.function.now.name.span
second ds k d r l e =
    let x = map_at label_of (definitions_of ds) r.before r.name r.and_there in
    let y = map_at view_definition ds r.before x.0 x.1 in
    let s : slice_get ds k ≡ Some d = item_at ds k d l e in
    let t : slice_get (labels (definitions_of ds)) k ≡ Some (label_of (view_definition d)) = at_map label_of (definitions_of ds) k
    (view_definition d) (at_map view_definition ds k d s) in
    let u : label_of (view_definition d) ≡ r.name = let v = r.there in cc in
    let w : label_of (view_definition y.0) ≡ label_of (view_definition d) = ap label_of y.2 ∙ x.2 ∙ sym u in
    let o = one_label (view_definition y.0).name (view_definition d).name (view_definition y.0).part (view_definition d).part w in
    record {
      first = r.before;
      second = k;
      before = r.is_before;
      one = y.0;
      other = d;
      there = y.1;
      and_there = s;
      same_name = o.0;
      same_part = o.1;
      stands = record { in_text = refl; place = refl };
    }

label_defined : (ds : List Definition) (name : List ℕ) (part : Option (List ℕ)) → Contains (labels ds) (label name part)
    → IsDefined ds name part
label_defined ds name part c =
    let d = map_contains label_of ds (label name part) c in
    let o = one_label d.0.name name d.0.part part d.2 in
    record { definition = d.0; there = d.1; named = o.0; of_part = o.1 }

pub is_defined :
    (set : BTreeMap (List ℕ) ℕ) (ds : List Definition) (name : List ℕ) (part : Option (List ℕ)) → IsSetOf set (labels ds)
    → (get_label set (label name part) ≡ None → ⊥) → IsDefined ds name part
is_defined set ds name part h f = go (get_label set (label name part)) refl
  where
    go : (o : Option ℕ) → get_label set (label name part) ≡ o → IsDefined ds name part
    go None e = absurd (f e)
    go (Some k) e = label_defined ds name part (h.found (label name part) k e)

pub not_defined :
    (set : BTreeMap (List ℕ) ℕ) (ds : List Definition) (name : List ℕ) (part : Option (List ℕ)) → IsSetOf set (labels ds)
    → get_label set (label name part) ≡ None → IsDefined ds name part → ⊥
not_defined set ds name part h e d =
    let n : label_of d.definition ≡ label name part = ap (λ (z : List ℕ). label z d.definition.part) d.named
    ∙ ap (λ (z : Option (List ℕ)). label name z) d.of_part in
    h.absent (label name part) e (subst (λ (z : List ℕ). Contains (labels ds) z) n (contains_map label_of ds d.definition d.there))

-- ---- declarations

abbrev label_for : Wanted → List ℕ
label_for w = label w.name w.part

label_declared :
    (members rows : List Row) (name : List ℕ) (part : Option (List ℕ)) → Contains (wanted_labels (wanted_in members rows)) (label name part)
    → (path : List ℕ) × IsDeclared members rows path name part
label_declared members rows name part c =
    let w = map_contains label_for (wanted_in members rows) (label name part) c in
    let o = one_label w.0.name name w.0.part part w.2 in
    let h = wanted_declared members rows w.0 w.1 in (
      w.0.path,
      subst (λ (z : List ℕ). IsDeclared members rows w.0.path z part) o.0
          (subst (λ (z : Option (List ℕ)). IsDeclared members rows w.0.path w.0.name z) o.1 h),
    )

pub is_declared :
    (set : BTreeMap (List ℕ) ℕ) (members rows : List Row) (name : List ℕ) (part : Option (List ℕ))
    → IsSetOf set (wanted_labels (wanted_in members rows))
    → (get_label set (label name part) ≡ None → ⊥) → (path : List ℕ) × IsDeclared members rows path name part
is_declared set members rows name part h f = go (get_label set (label name part)) refl
  where
    go : (o : Option ℕ) → get_label set (label name part) ≡ o → (path : List ℕ) × IsDeclared members rows path name part
    go None e = absurd (f e)
    go (Some k) e = label_declared members rows name part (h.found (label name part) k e)

pub not_declared :
    (set : BTreeMap (List ℕ) ℕ) (members rows : List Row) (path name : List ℕ) (part : Option (List ℕ))
    → IsSetOf set (wanted_labels (wanted_in members rows))
    → get_label set (label name part) ≡ None → IsDeclared members rows path name part → ⊥
not_declared set members rows path name part h e d =
    let w : Wanted = record { path = path; name = name; part = part } in
    h.absent (label name part) e (contains_map label_for (wanted_in members rows) w (declared_wanted members rows path name part d))

-- an adt's function that is defined is declared
pub all_known :
    (set : BTreeMap (List ℕ) ℕ) (members rows : List Row) (ds : List code_definition.Definition)
    → IsSetOf set (wanted_labels (wanted_in members rows))
    → ((d : code_definition.Definition) (f : List ℕ) → Contains ds d → (view_definition d).part ≡ Some f
    → get_label set (label (view_definition d).name (Some f)) ≡ None → ⊥)
    → AllKnown members rows (definitions_of ds)
all_known set members rows ds h f adt name d =
    let x = map_contains view_definition ds d.definition d.there in
    let p : (view_definition x.0).part ≡ Some name = ap (λ (z : Definition). z.part) x.2 ∙ d.of_part in
    let n : (view_definition x.0).name ≡ adt = ap (λ (z : Definition). z.name) x.2 ∙ d.named in
    is_declared set members rows adt (Some name) h
    (λ e. f x.0 name x.1 p (subst (λ (z : List ℕ). get_label set (label z (Some name)) ≡ None) (sym n) e))
