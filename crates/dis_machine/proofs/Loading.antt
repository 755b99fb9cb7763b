-- Tables that have what objects ask for.
use Rattle.std.proofs.Common.{◌≡◌, ℕ, zero, suc, Bool, true, false, List, [], ◌∷◌, Some, refl, sym, ap, ◌∙◌, subst, rules, tests}
use Rattle.std.specs.Prelude.{nat_eq, ◌&&◌, ◌||◌, slice_get}
use Rattle.dis_file.specs.declared.types.TypeDesc.{TypeDesc}
use Rattle.dis_memory.specs.Step.{type_of_size}
use Rattle.dis_places.specs.declared.memory.Tables.{Tables}
use Rattle.dis_code.specs.declared.code.Code.{Code}
use Rattle.dis_code.specs.Loaded.{HasPlain, IsLoaded}
use Rattle.dis_steps.specs.Stepping.{AreLoaded}
use Rattle.dis_machine.specs.Loaded.{is_empty, has_plain, Has, HaveAll}

module _ (size : ℕ) where
  nothing_in : (map : List ℕ) → is_empty map ≡ true → map ≡ []
  nothing_in [] h = refl
  nothing_in (n ∷ ns) h = absurd cc

  both : (a b : Bool) → (a && b) ≡ true → (a ≡ true) × (b ≡ true)
  both true b h = (refl, h)
  both false b h = absurd cc

  is_plain : (d : TypeDesc) → (nat_eq d.size size && is_empty d.map) ≡ true → d ≡ type_of_size size []
  is_plain d h =
      let p = both (nat_eq d.size size) (is_empty d.map) h in
      let one : nat_eq d.size size ≡ true = p.0 in
      let same : d.size ≡ size = search (rules, tests, one) in
      ap (λ n. let e : TypeDesc = record { size = n; map = d.map } in e) same
      ∙ ap (λ m. let e : TypeDesc = record { size = size; map = m } in e) (nothing_in d.map p.1)

  equal : (n : ℕ) → nat_eq n n ≡ true
  equal n = let e : n ≡ n = refl in search (rules, tests, e)

  found : (types : List TypeDesc) → has_plain types size ≡ true → (n : ℕ) × (slice_get types n ≡ Some (type_of_size size []))
  found [] h = absurd cc
  found (d ∷ ds) h = go (nat_eq d.size size && is_empty d.map) refl h (λ k. found ds k)
    where
      go : (b : Bool) → (nat_eq d.size size && is_empty d.map) ≡ b → (b || has_plain ds size) ≡ true →
          (has_plain ds size ≡ true → (n : ℕ) × (slice_get ds n ≡ Some (type_of_size size []))) →
          (n : ℕ) × (slice_get (d ∷ ds) n ≡ Some (type_of_size size []))
      go true e h later = (0, ap Some (is_plain d e))
      go false e h later = let f = later h in (suc f.0, f.1)

  stands : (types : List TypeDesc) (n : ℕ) → slice_get types n ≡ Some (type_of_size size []) → has_plain types size ≡ true
  stands [] n e = absurd cc
  stands (d ∷ ds) zero e =
      let same : d ≡ type_of_size size [] = cc in
      subst (λ (d : TypeDesc). ((nat_eq d.size size && is_empty d.map) || has_plain ds size) ≡ true) (sym same)
      (ap (λ b. (b && true) || has_plain ds size) (equal size))
  stands (d ∷ ds) (suc n) e = go (nat_eq d.size size && is_empty d.map) (stands ds n e)
    where
      go : (b : Bool) → has_plain ds size ≡ true → (b || has_plain ds size) ≡ true
      go true later = refl
      go false later = later

has_plain_type : (t : Tables) (size : ℕ) → has_plain t.types.items size ≡ true → HasPlain t size
has_plain_type t size h = let f = found size t.types.items h in record { number = f.0; there = f.1 }

is_loaded : (t : Tables) (c : Code) → Has t c → IsLoaded t c
is_loaded t c h = record {
  first = h.first;
  types = h.types;
  names = h.names;
  plain = λ k n i there op src. has_plain_type t n (h.plain k n i there op src);
  few_types = h.few_types;
  few_names = h.few_names;
}

has : (t : Tables) (c : Code) → IsLoaded t c → Has t c
has t c l = record {
  first = l.first;
  types = l.types;
  names = l.names;
  plain = λ k n i there op src. let p = l.plain k n i there op src in stands n t.types.items p.number p.there;
  few_types = l.few_types;
  few_names = l.few_names;
}

-- They are loaded, and have what is loaded.
pub are_loaded : (t : Tables) (codes : List (List ℕ × Code)) → HaveAll t codes → AreLoaded t codes
are_loaded t codes h k code there = is_loaded t code.1 (h k code there)

pub have_all : (t : Tables) (codes : List (List ℕ × Code)) → AreLoaded t codes → HaveAll t codes
have_all t codes l k code there = has t code.1 (l k code there)
