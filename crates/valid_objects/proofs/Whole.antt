-- The object of a module whose code the machine can hold is valid.
use Rattle.std.proofs.Common.{◌≡◌, ℕ, zero, suc, pos, ◌+◌, ◌*◌, ◌^◌, ◌<◌, ◌≤◌, Bool, true, false, ◌&&◌, ◌||◌, ◌==◌, List, [], ◌∷◌, ◌++◌}
use Rattle.std.proofs.Common.{length, map, Option, Some, None, refl, sym, ap, ◌∙◌, subst, arith, codes, if◌then◌else◌}
use Rattle.std.specs.Prelude.{slice_get, nat_lt, nat_le, encode_utf8_all}
use Rattle.std.specs.List.{flat_map}
use Rattle.std.specs.Str.{all_scalars, bytes_eq, IsUtf8}
use Rattle.std.proofs.Math.Bool.{or-true}
use Rattle.std.proofs.lemmas.Bool.{and_from, and_parts, lt-ltb, ltb-true, le-leb}
use Rattle.std.proofs.lemmas.List.{length-append, length-map}
use Rattle.slot_code.specs.Code.{Function, Module}
use Rattle.dis_file.specs.declared.object.Import.{Import}
use Rattle.dis_file.specs.declared.object.Item.{Item}
use Rattle.dis_file.specs.declared.object.LinkEntry.{LinkEntry}
use Rattle.dis_file.specs.declared.object.Object.{Object}
use Rattle.dis_file.specs.declared.types.TypeDesc.{TypeDesc}
use Rattle.dis_format.specs.Parts.{header_parts, body_parts, last_parts, object_parts, inst_parts, types_parts, item_parts, link_parts}
use Rattle.dis_format.specs.Parts.{import_parts, counted, no_zero, byte, name}
use Rattle.dis_format.specs.Loading.{opening, items_stand}
use Rattle.dis_format.specs.Objects.{Stands, Spells, IsValid, types_stand, links_stand}
use Rattle.dis_objects.specs.Code.{Code, Datum, globals_bytes, globals_place, data_bytes}
use Rattle.dis_objects.specs.Objects.{object_of, all_code, entry, init_of, init_links, entry_type_of, find, sys_imports, data_desc, frame_desc}
use Rattle.dis_objects.specs.Objects.{print_desc, data_size, data_place, zeros_place, functions_data, functions_code, globals_items, items_from}
use Rattle.dis_objects.specs.Objects.{string_item, globals_words, data_words, most_instructions}
use Rattle.dis_objects.specs.Spelled.{AreSpelled, IsSpelled}
use Rattle.valid_objects.specs.Writable.{IsWritable, ObjectIsValid}
use Rattle.valid_objects.proofs.Spelling.{Can, AllCan, can_both, flat_can, Each, each_both, natural_can, parts_spelled}
use Rattle.valid_objects.proofs.Places.{functions_few as few_functions, near}
use Rattle.valid_objects.proofs.Instructions.{code_holds}
use Rattle.valid_objects.proofs.Types.{types_good, types_can, types_right, data_near}
use Rattle.valid_objects.proofs.Items.{Stand, text_first, globals_stand, data_stand}
use Rattle.valid_objects.proofs.Filling.{HoldsItem, string_can, data_can, globals_can, functions_few}

-- ---- links and imports

find_by : (n : ℕ) (text : List ℕ) (f : Function) (fs : List Function) (k : ℕ) (b : Bool)
    → (find (suc n) text fs ≡ Some k → k < suc n + length fs) → (if b then Some n else find (suc n) text fs) ≡ Some k
    → k < n + length (f ∷ fs)
find_by n text f fs k true r e = let same : n ≡ k = cc in omega (arith, same)
find_by n text f fs k false r e = let l = r e in omega (arith, l)

find_within : (n : ℕ) (text : List ℕ) (fs : List Function) (k : ℕ) → find n text fs ≡ Some k → k < n + length fs
find_within n text [] k e = absurd cc
find_within n text (f ∷ fs) k e = find_by n text f fs k (bytes_eq f.name text) (find_within (suc n) text fs k) e

-- The name of a function of another module, or of this one.
abbrev is_name : List ℕ → Bool
is_name cs = all_scalars cs && no_zero cs

abbrev is_import : Import → Bool
is_import i = nat_lt i.sign (2 ^ 32) && is_name i.name

abbrev are_imports : List Import → Bool
are_imports [] = true
are_imports (i ∷ is) = is_import i && are_imports is

import_can : (i : Import) → is_import i ≡ true → AllCan (import_parts i)
unfolding import_parts
import_can i h =
    let a = and_parts (nat_lt i.sign (2 ^ 32)) (is_name i.name) h in
    (ltb-true i.sign (2 ^ 32) a.0, (and_parts (all_scalars i.name) (no_zero i.name) a.1, tt))

imports_can : (is : List Import) → are_imports is ≡ true → Each (λ i. AllCan (import_parts i)) is
imports_can [] h = tt
imports_can (i ∷ is) h = let a = and_parts (is_import i) (are_imports is) h in (import_can i a.0, imports_can is a.1)

sys_named : are_imports sys_imports ≡ true
sys_named = refl

sys_can : AllCan (flat_map import_parts sys_imports)
sys_can = flat_can import_parts sys_imports (imports_can sys_imports sys_named)

tables_can : AllCan (counted (counted import_parts) (sys_imports ∷ []))
tables_can =
    (natural_can 1 (omega arith), can_both (counted import_parts sys_imports) [] (natural_can (length sys_imports) (omega arith), sys_can) tt)

link_can : (k : ℕ) → suc k < 536870912 → AllCan (flat_map link_parts (init_links (Some k)))
unfolding link_parts
link_can k l = (natural_can 0 (omega arith), (natural_can (suc k) l, (omega arith, ((refl, refl), tt))))

module _ (m : Module) (w : IsWritable m) where
  abbrev O : Object
  O = object_of m

  types_long : length O.types ≡ suc (suc (length m.functions))
  types_long =
      let a = length-append (map (frame_desc m.functions) m.functions) (print_desc m.functions ∷ []) in
      let b = length-map m.functions (frame_desc m.functions) in
      omega (arith, a, b)

  init_within : (k : ℕ) → init_of m ≡ Some k → k < length m.functions
  init_within k e = let l = find_within 0 (codes "init") m.functions k e in omega (arith, l)

  links_can : (o : Option ℕ) → init_of m ≡ o → AllCan (flat_map link_parts (init_links o))
  links_can None e = tt
  links_can (Some k) e = let l = init_within k e in let f = few_functions m w in link_can k (omega (arith, l, f))

  entry_type : (o : Option ℕ) → init_of m ≡ o → entry_type_of m.functions o < 536870912
  entry_type None e = let f = few_functions m w in omega (arith, f)
  entry_type (Some k) e = let l = init_within k e in let f = few_functions m w in omega (arith, l, f)

  links_long : (o : Option ℕ) → length (init_links o) < 536870912
  links_long None = omega arith
  links_long (Some k) = omega arith

  some_code : (o : Option ℕ) (rest : Code) → 0 < length (entry m.functions o ++ rest)
  some_code None rest = omega arith
  some_code (Some k) rest = omega arith

  links_right : (o : Option ℕ) → init_of m ≡ o → links_stand (length O.insts) (length O.types) (init_links o) ≡ true
  links_right None e = refl
  links_right (Some k) e =
      let l = init_within k e in
      let t = types_long in
      let c : 0 < length O.insts = some_code (init_of m) (functions_code m 0 (data_place m) m.functions) in
      and_from (nat_lt 0 (length O.insts) && nat_lt (suc k) (length O.types)) true
      (and_from (nat_lt 0 (length O.insts)) (nat_lt (suc k) (length O.types)) (lt-ltb 0 (length O.insts) c)
      (lt-ltb (suc k) (length O.types) (omega (arith, l, t)))) refl

  -- ---- the items

  abbrev Ds : List Datum
  Ds = functions_data m.functions m.functions

  spelled_behind : (a b : List Item) → AreSpelled (a ++ b) → AreSpelled b
  spelled_behind [] b h = h
  spelled_behind (x ∷ a) b h = spelled_behind a b h.1

  items_right : items_stand O.types (opening (data_size m)) O.items ≡ true
  items_right =
      let all = true ∷ true ∷ (globals_words m.globals ++ data_words Ds) in
      let texts : AreSpelled (items_from (data_place m) Ds) =
      spelled_behind (globals_items globals_place m.globals) (items_from (data_place m) Ds) w.texts.1 in
      text_first O.types all (data_size m) refl (codes "$Sys")
      (globals_items globals_place m.globals ++ items_from (data_place m) Ds) (omega arith) refl (w.texts.0 refl)
      (globals_stand O.types all (data_size m) refl m.globals (data_words Ds) (items_from (data_place m) Ds) (true ∷ true ∷ []) globals_place
      refl refl (omega arith)
      (λ fs e a. data_stand O.types all (data_size m) refl fs (data_place m) Ds e a (omega arith) texts))
      (opening (data_size m)) refl refl

  items_can : Each HoldsItem O.items
  items_can =
      let n = near m w in (
        string_can 0 (codes "$Sys") (omega arith) (omega arith),
        each_both HoldsItem (globals_items globals_place m.globals) (items_from (data_place m) Ds)
            (globals_can globals_place m.globals (omega (arith, n)))
            (data_can (data_place m) Ds (functions_few m.functions m.functions w.held) (omega (arith, n))),
      )

  -- ---- the whole

  stands : Stands O
  stands =
      let d = data_near m w in
      let t = types_long in record {
        flags = refl;
        data_size = le-leb (data_size m) 268435456 (omega (arith, d));
        data_type = ap (λ b. data_size m == 0 || b) (lt-ltb 0 (length O.types) (omega (arith, t))) ∙ or-true (data_size m == 0);
        types = types_right (data_desc m) (map (frame_desc m.functions) m.functions ++ print_desc m.functions ∷ []) (types_good m w);
        items = items_right;
        links = links_right (init_of m) refl;
        imports = refl;
        catches = refl;
      }

  header_can : AllCan (header_parts O)
  unfolding header_parts
  header_can =
      let d = data_near m w in
      let t = types_long in
      let f = few_functions m w in
      let s = w.short in (
        (refl, refl),
        (
          (refl, refl),
          (
            natural_can 0 (omega arith),
            (
              natural_can (length O.insts) (omega (arith, s)),
              (
                natural_can (data_size m) (omega (arith, d)),
                (
                  natural_can (length O.types) (omega (arith, t, f)),
                  (
                    natural_can (length O.links) (links_long (init_of m)),
                    (natural_can 0 (omega arith), (natural_can O.entry_type (entry_type (init_of m) refl), tt)),
                  ),
                ),
              ),
            ),
          ),
        ),
      )

  body_can : AllCan (body_parts O)
  unfolding body_parts
  body_can =
      let t = types_long in
      let f = few_functions m w in
      can_both (flat_map inst_parts O.insts) _ (flat_can inst_parts O.insts (code_holds m w))
      (can_both (types_parts 0 O.types) _ (types_can 0 O.types (types_good m w) (omega (arith, t, f)))
      (can_both (flat_map item_parts O.items) _ (flat_can item_parts O.items items_can)
      (tt, ((w.name, w.ended), links_can (init_of m) refl))))

  last_can : AllCan (last_parts O)
  unfolding last_parts
  last_can = can_both (counted (counted import_parts) (sys_imports ∷ [])) [] tables_can tt

  valid : IsValid O
  valid =
      let all : AllCan (object_parts O) =
      can_both (header_parts O) (body_parts O ++ last_parts O) header_can (can_both (body_parts O) (last_parts O) body_can last_can) in
      let b = parts_spelled (object_parts O) all in
      (b.0, record { stands = stands; parts = b.1 })

pub object_is_valid : ObjectIsValid
object_is_valid m w = valid m w
