-- Tables that take an object's types and names.
use Rattle.std.proofs.Common.{◌≡◌, ℕ, zero, suc, ◌+◌, ◌<◌, ◌≤◌, ◌^◌, List, [], ◌∷◌, ◌++◌, length, map, Some, ◌⊎◌, inl, inr, refl, sym, ap}
use Rattle.std.proofs.Common.{◌∙◌, subst, arith}
use Rattle.std.specs.Prelude.{Vec, pos, slice_get, unwrap_or}
use Rattle.std.specs.Global.{Global}
use Rattle.std.proofs.lemmas.List.{map-append}
use Rattle.std.proofs.lemmas.Option.{slice_get_within}
use Rattle.dis_isa.specs.declared.inst.Inst.{Inst}
use Rattle.dis_isa.specs.declared.inst.Operand.TheVariants.{Imm}
use Rattle.dis_isa.specs.declared.op.Op.TheVariants.{Newcm}
use Rattle.dis_file.specs.declared.object.Import.{Import}
use Rattle.dis_file.specs.declared.object.Object.{Object}
use Rattle.dis_file.specs.declared.types.TypeDesc.{TypeDesc}
use Rattle.dis_meaning.specs.Step.{names}
use Rattle.dis_places.specs.declared.memory.Tables.{Tables}
use Rattle.dis_places.specs.Blocks.{names_by, names_in}
use Rattle.dis_code.specs.declared.code.Code.{Code}
use Rattle.dis_code.specs.Loaded.{HasFirst, HasPlain, HasType}
use Rattle.dis_loading.specs.Growing.{lists_of, plain_by, Extends, HasAsked, IsBegun, Grows, IsEntered}

-- ---- lists

pub get_more : {A : Type 0} (xs ys : List A) (n : ℕ) (a : A) → slice_get xs n ≡ Some a → slice_get (xs ++ ys) n ≡ Some a
get_more [] ys n a e = absurd cc
get_more (x ∷ xs) ys zero a e = e
get_more (x ∷ xs) ys (suc n) a e = get_more xs ys n a e

get_left : {A : Type 0} (xs ys : List A) (n : ℕ) → n < length xs → slice_get (xs ++ ys) n ≡ slice_get xs n
get_left [] ys n lt = absurd (omega arith)
get_left (x ∷ xs) ys zero lt = refl
get_left (x ∷ xs) ys (suc n) lt = get_left xs ys n (omega arith)

get_behind : {A : Type 0} (xs ys : List A) (n m : ℕ) (a : A) → m ≡ length xs + n → slice_get ys n ≡ Some a → slice_get (xs ++ ys) m ≡ Some a
get_behind [] ys n m a q e = let same : m ≡ n = omega arith in ap (slice_get ys) same ∙ e
get_behind (x ∷ xs) ys n zero a q e = absurd (omega arith)
get_behind (x ∷ xs) ys n (suc m) a q e = get_behind xs ys n m a (omega arith) e

get_map : {A B : Type 0} (f : A → B) (xs : List A) (n : ℕ) (a : A) → slice_get xs n ≡ Some a → slice_get (map f xs) n ≡ Some (f a)
get_map f [] n a e = absurd cc
get_map f (x ∷ xs) zero a e = let same : x ≡ a = cc in ap (λ a. Some (f a)) same
get_map f (x ∷ xs) (suc n) a e = get_map f xs n a e

map_long : {A B : Type 0} (f : A → B) (xs : List A) → length (map f xs) ≡ length xs
map_long f [] = refl
map_long f (x ∷ xs) = ap suc (map_long f xs)

long_more : {A : Type 0} (xs ys : List A) → length (xs ++ ys) ≡ length xs + length ys
long_more [] ys = omega arith
long_more (x ∷ xs) ys = omega (arith, long_more xs ys)

-- What stands in a list with one more stands in the list, or is that one.
pub one_more : {A : Type 0} (xs : List A) (x a : A) (n : ℕ) → slice_get (xs ++ x ∷ []) n ≡ Some a → (slice_get xs n ≡ Some a) ⊎ (x ≡ a)
one_more [] x a zero e = inr cc
one_more [] x a (suc n) e = absurd cc
one_more (y ∷ xs) x a zero e = inl e
one_more (y ∷ xs) x a (suc n) e = one_more xs x a n e

-- ---- names

listed : (lists : List (Vec (List ℕ) Global)) (n : ℕ) → names_in (slice_get lists n) ≡ unwrap_or (slice_get (map (λ (v : Vec (List ℕ) Global). v.items) lists) n) []
listed [] n = refl
listed (v ∷ vs) zero = refl
listed (v ∷ vs) (suc n) = listed vs n

abbrev at_list : List (List (List ℕ)) → ℕ → List (List ℕ)
at_list lists n = unwrap_or (slice_get lists n) []

-- ---- an object that is entered

pub record Enters (old new : Tables) (c : Code) : Type 0 where
  pub begun : IsBegun new
  pub grows : Grows old new
  pub entered : IsEntered new c

module _ (old new : Tables) (middle : List TypeDesc) (c : Code) (begun : IsBegun old) (types : middle ≡ old.types.items ++ c.object.types)
    (extends : Extends middle new.types.items) (asked : HasAsked new.types.items c.object.insts)
    (lists : lists_of new.names ≡ lists_of old.names ++ map names c.object.imports)
    (from : c.types ≡ length old.types.items) (named : c.names ≡ length old.names.items)
    (few_types : length new.types.items < 2 ^ 32) (few_names : length new.names.items < 2 ^ 32) where
  kept : Extends old.types.items new.types.items
  kept n desc e = extends n desc (ap (λ ts. slice_get ts n) types ∙ get_more old.types.items c.object.types n desc e)

  first : HasFirst new
  first = record {
    byte = kept 0 _ begun.first.byte;
    word = kept 1 _ begun.first.word;
    big = kept 2 _ begun.first.big;
    reference = kept 3 _ begun.first.reference;
  }

  names_kept : (n : ℕ) → n < length old.names.items → names_by new n ≡ names_by old n
  names_kept n lt =
      listed new.names.items n
      ∙ ap (λ ls. at_list ls n) lists
      ∙ ap (λ o. unwrap_or o []) (get_left (lists_of old.names) (map names c.object.imports) n
      (let long = map_long (λ (v : Vec (List ℕ) Global). v.items) old.names.items in omega (arith, long)))
      ∙ sym (listed old.names.items n)

  own_names : (n : ℕ) (imports : List Import) → slice_get c.object.imports n ≡ Some imports → names_by new (c.names + n) ≡ names imports
  own_names n imports e =
      listed new.names.items (c.names + n)
      ∙ ap (λ ls. at_list ls (c.names + n)) lists
      ∙ ap (λ o. unwrap_or o []) (get_behind (lists_of old.names) (map names c.object.imports) n (c.names + n) (names imports)
      (let long = map_long (λ (v : Vec (List ℕ) Global). v.items) old.names.items in omega (arith, long, named))
      (get_map names c.object.imports n imports e))

  within : c.names + length c.object.imports ≤ length new.names.items
  within =
      let a = map_long (λ (v : Vec (List ℕ) Global). v.items) new.names.items in
      let b = ap length lists in
      let d = long_more (lists_of old.names) (map names c.object.imports) in
      let e = map_long (λ (v : Vec (List ℕ) Global). v.items) old.names.items in
      let f = map_long names c.object.imports in
      omega (arith, a, b, d, e, f, named)

  longer : length old.names.items ≤ length new.names.items
  longer = omega (arith, within, named)

  own_types : (n : ℕ) (desc : TypeDesc) → slice_get c.object.types n ≡ Some desc → HasType new (c.types + n) desc
  own_types n desc e =
      extends (c.types + n) desc (ap (λ ts. slice_get ts (c.types + n)) types
      ∙ get_behind old.types.items c.object.types n (c.types + n) desc (omega (arith, from)) e)

  plain : (k n : ℕ) (i : Inst) → slice_get c.object.insts k ≡ Some i → i.op ≡ Newcm → i.src ≡ Imm (pos n) → HasPlain new n
  plain k n i e op src =
      let h = asked k i n e (ap (λ o. plain_by o i.src) op ∙ ap (plain_by Newcm) src) in
      record { number = h.number; there = h.there }

  pub enters : Enters old new c
  enters = record {
    begun = record { first = first; types = few_types; names = few_names };
    grows = record { types = kept; longer = longer; names = names_kept };
    entered = record {
      loaded = record {
        first = first;
        types = own_types;
        names = own_names;
        plain = plain;
        few_types = few_types;
        few_names = omega (arith, within, few_names);
      };
      within = within;
    };
  }

-- ---- an object that was entered, in tables that have grown

pub grown : (old new : Tables) (c : Code) → IsEntered old c → Grows old new → IsBegun new → IsEntered new c
grown old new c e g b = record {
  loaded = record {
    first = b.first;
    types = λ n desc there. g.types (c.types + n) desc (e.loaded.types n desc there);
    names = λ n imports there.
        g.names (c.names + n) (let lt = slice_get_within c.object.imports n imports there in omega (arith, lt, e.within)) ∙ e.loaded.names n imports there;
    plain = λ k n i there op src. let h = e.loaded.plain k n i there op src in record { number = h.number; there = g.types h.number _ h.there };
    few_types = b.types;
    few_names = e.loaded.few_names;
  };
  within = omega (arith, e.within, g.longer);
}

-- The objects so far, and one more.
pub more_entered : (old new : Tables) (codes : List (List ℕ × Code)) (code : List ℕ × Code) →
    ((k : ℕ) (c : List ℕ × Code) → slice_get codes k ≡ Some c → IsEntered old c.1) → Grows old new → IsBegun new → IsEntered new code.1 →
    (k : ℕ) (c : List ℕ × Code) → slice_get (codes ++ code ∷ []) k ≡ Some c → IsEntered new c.1
more_entered old new codes code each g b own k c there = go (one_more codes code c k there)
  where
    go : (slice_get codes k ≡ Some c) ⊎ (code ≡ c) → IsEntered new c.1
    go (inl e) = grown old new c.1 (each k c e) g b
    go (inr e) = let Entered : List ℕ × Code → Type 0 = λ c. IsEntered new c.1 in subst Entered e own

abbrev plainly : List ℕ × Code → List ℕ × Object
plainly c = (c.0, c.1.object)

pub more_same : (codes : List (List ℕ × Code)) (objects : List (List ℕ × Object)) (name : List ℕ) (code : Code) (object : Object) →
    map plainly codes ≡ objects → code.object ≡ object → map plainly (codes ++ (name, code) ∷ []) ≡ objects ++ (name, object) ∷ []
more_same codes objects name code object e o =
    map-append plainly codes ((name, code) ∷ [])
    ∙ ap (λ os. os ++ (name, code.object) ∷ []) e
    ∙ ap (λ o. objects ++ (name, o) ∷ []) o
