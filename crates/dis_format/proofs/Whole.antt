-- The two laws for the whole of an object.
use Rattle.std.proofs.Common.{◌≡◌, ℕ, Bool, true, false, cond, ltb, leb, eqb}
use Rattle.std.proofs.Common.{List, [], ◌∷◌, ◌++◌, length, Result, Ok, refl}
use Rattle.std.proofs.Common.{sym, ap, subst, ◌∙◌, append_assoc, ℤ, pos, negsuc}
use Rattle.std.specs.Prelude.{⊤, ◌&&◌, ◌||◌}
use Rattle.std.specs.List.{flat_map}
use Rattle.std.proofs.lemmas.Bool.{eqb-true}
use Rattle.std.proofs.lemmas.List.{append-nil, nil_from_length}
use Rattle.dis_file.specs.declared.object.Object.{Object}
use Rattle.dis_file.specs.declared.object.Import.{Import}
use Rattle.dis_file.specs.declared.object.Catch.{Catch}
use Rattle.dis_format.specs.declared.fault.Cause.TheVariants.{Magic, Signed, BadType, BadData, BadFlags, Trailing}
use Rattle.dis_format.specs.declared.fault.Refusal.{Refusal}
use Rattle.dis_format.specs.declared.header.Header.{Header}
use Rattle.dis_format.specs.Operands.{any, from_zero, within}
use Rattle.dis_format.specs.Parts.{Part, byte, number, name, natural, AreParts, counted, inst_parts, types_parts, item_parts}
use Rattle.dis_format.specs.Parts.{link_parts, import_parts, catch_parts, header_parts, body_parts, last_parts, object_parts}
use Rattle.dis_format.specs.Parts.{magic, signed_magic, has_imports, has_catches}
use Rattle.dis_format.specs.Loading.{opening, items_stand}
use Rattle.dis_format.specs.Objects.{flags_stand, types_stand, links_stand, Stands, Spells}
use Rattle.dis_format.specs.Reading.{Read, AreBytes, refused, operand_at, natural_at, counted_at, size, is_number}
use Rattle.dis_format.specs.Reading.{magic_at, flags_at, data_size_at, type_count_at, header_at, section_at, Body, body_at}
use Rattle.dis_format.specs.Reading.{import_at, catch_at, fields_at, object_at}
use Rattle.dis_format.proofs.Fields.{bind_ok, guard_ok, ok_is, Takes, Exact, guarded}
use Rattle.dis_format.proofs.Fields.{exact_operand, exact_natural, exact_name}
use Rattle.dis_format.proofs.Rows.{step, done, Again, first, end, exact_rows, exact_each, exact_insts, exact_types}
use Rattle.dis_format.proofs.Rows.{exact_links, exact_table, exact_catch}
use Rattle.dis_format.proofs.Data.{exact_data}

-- ---- header

number_is : (n : ℤ) (m : ℕ) → is_number n m ≡ true → n ≡ pos m
number_is (pos n) m e = ap pos (eqb-true _ _ e)
number_is (negsuc n) m e = absurd cc

exact_magic : Exact magic_at (λ u. number any (pos magic) ∷ []) (λ u. ⊤)
unfolding magic_at
exact_magic = record { takes = takes; again = again }
  where
    found : (bytes : List ℕ) (n : ℤ × List ℕ) (u : Unit {0}) (rest : List ℕ) (z : Bool) → is_number n.0 magic ≡ z
        → cond {A = Result (Unit {0} × List ℕ) Refusal} z (Ok (tt, n.1)) (cond (is_number n.0 signed_magic)
        (refused Signed bytes) (refused Magic bytes)) ≡ Ok (u, rest)
        → (n.0 ≡ pos magic) × (rest ≡ n.1)
    found bytes n u rest true is e =
        (number_is n.0 magic is, sym (ap (λ (y : Unit {0} × List ℕ). y.1) (ok_is (tt, n.1) (u, rest) e)))
    found bytes n u rest false is e = absurd (never (is_number n.0 signed_magic) e)
      where
        never : (z : Bool) → cond z (refused {A = Unit {0} × List ℕ} Signed bytes) (refused Magic bytes) ≡ Ok (u, rest) → ⊥
        never true e = cc
        never false e = cc

    takes : (bytes : List ℕ) (u : Unit {0}) (rest : List ℕ) → AreBytes bytes → magic_at bytes ≡ Ok (u, rest)
        → Takes (number any (pos magic) ∷ []) bytes rest × ⊤
    takes bytes u rest fits e =
        let b = bind_ok (operand_at bytes) (λ n. cond (is_number n.0 magic) (Ok (tt, n.1))
        (cond (is_number n.0 signed_magic) (refused Signed bytes) (refused Magic bytes))) (u, rest) e in
        let f = found bytes b.0 u rest (is_number b.0.0 magic) refl b.1.1 in
        let t = (exact_operand.takes bytes b.0.0 b.0.1 fits b.1.0).0 in (
          subst (λ (r : List ℕ). Takes (number any (pos magic) ∷ []) bytes r) (sym f.1)
              (subst (λ (z : ℤ). Takes (number any z ∷ []) bytes b.0.1) f.0 t),
          tt,
        )

    again : (u : Unit {0}) (front rest : List ℕ) → ⊤ → AreParts (number any (pos magic) ∷ []) front
        → magic_at (front ++ rest) ≡ Ok (u, rest)
    again u front rest is h = rw (exact_operand.again (pos magic) front rest tt h) refl

-- flags aren't below 0
flags_are : (n : ℤ) → (within from_zero n && flags_stand (size n)) ≡ true → (n ≡ pos (size n)) × (flags_stand (size n) ≡ true)
flags_are (pos n) e = (refl, e)
flags_are (negsuc n) e = absurd cc

exact_flags : Exact flags_at (λ n. number any (pos n) ∷ []) (λ n. flags_stand n ≡ true)
unfolding flags_at
exact_flags = record { takes = takes; again = again }
  where
    takes : (bytes : List ℕ) (a : ℕ) (rest : List ℕ) → AreBytes bytes → flags_at bytes ≡ Ok (a, rest)
        → Takes (number any (pos a) ∷ []) bytes rest × (flags_stand a ≡ true)
    takes bytes a rest fits e =
        let b = bind_ok (operand_at bytes) (λ n. cond (within from_zero n.0 && flags_stand (size n.0)) (Ok (size n.0, n.1))
        (refused BadFlags bytes)) (a, rest) e in
        let g = guard_ok (within from_zero b.0.0 && flags_stand (size b.0.0))
        (record { cause = BadFlags; left = length bytes }) (Ok (size b.0.0, b.0.1)) (a, rest) b.1.1 in
        let t = (exact_operand.takes bytes b.0.0 b.0.1 fits b.1.0).0 in
        let f = flags_are b.0.0 g.0 in
        subst (λ (x : ℕ × List ℕ). Takes (number any (pos x.0) ∷ []) bytes x.1 × (flags_stand x.0 ≡ true))
        (ok_is (size b.0.0, b.0.1) (a, rest) g.1)
        (subst (λ (z : ℤ). Takes (number any z ∷ []) bytes b.0.1) f.0 t, f.1)

    again : (a : ℕ) (front rest : List ℕ) → flags_stand a ≡ true → AreParts (number any (pos a) ∷ []) front
        → flags_at (front ++ rest) ≡ Ok (a, rest)
    again a front rest is h = rw (exact_operand.again (pos a) front rest tt h, is) refl

exact_data_size : Exact data_size_at (λ n. natural n ∷ []) (λ n. ⊤ × (leb n 268435456 ≡ true))
unfolding data_size_at
exact_data_size = guarded natural_at (λ n. natural n ∷ []) (λ n. ⊤) (λ n. leb n 268435456) BadData exact_natural

exact_type_count : (data_size : ℕ) → Exact (type_count_at data_size) (λ n. natural n ∷ [])
    (λ n. ⊤ × ((eqb data_size 0 || ltb 0 n) ≡ true))
unfolding type_count_at
exact_type_count data_size =
    guarded natural_at (λ n. natural n ∷ []) (λ n. ⊤) (λ n. eqb data_size 0 || ltb 0 n) BadType exact_natural

abbrev head_parts : Header → List Part
head_parts h =
    number any (pos magic) ∷ number any (pos h.flags) ∷ natural h.stack ∷ natural h.code ∷ natural h.data_size
    ∷ natural h.types ∷ natural h.links ∷ natural h.entry_pc ∷ natural h.entry_type ∷ []

record IsHeader (h : Header) : Type 0 where
  flags : flags_stand h.flags ≡ true
  data_size : leb h.data_size 268435456 ≡ true
  data_type : (eqb h.data_size 0 || ltb 0 h.types) ≡ true

exact_header : Exact header_at head_parts IsHeader
unfolding header_at
exact_header = exact_rows
    (step exact_magic _ (λ u is. step exact_flags _ (λ flags f. step exact_natural _ (λ stack is. step exact_natural _
    (λ code is. step exact_data_size _ (λ data_size d. step (exact_type_count data_size) _ (λ types t. step exact_natural _
    (λ links is. step exact_natural _ (λ pc is. step exact_natural _ (λ type is. done (record {
      flags = flags;
      stack = stack;
      code = code;
      data_size = data_size;
      types = types;
      links = links;
      entry_pc = pc;
      entry_type = type;
    }) refl (record { flags = f; data_size = d.1; data_type = t.1 })))))))))))
    (λ h is. first exact_magic _ tt tt (first exact_flags _ h.flags is.flags (first exact_natural _ h.stack tt
    (first exact_natural _ h.code tt (first exact_data_size _ h.data_size (tt, is.data_size)
    (first (exact_type_count h.data_size) _ h.types (tt, is.data_type) (first exact_natural _ h.links tt
    (first exact_natural _ h.entry_pc tt (first exact_natural _ h.entry_type tt end)))))))))

-- ---- code, types, data, name, links

abbrev of_body : Body → List Part
of_body b =
    flat_map inst_parts b.insts
    ++ (types_parts 0 b.types
    ++ (flat_map item_parts b.items ++ (byte 0 ∷ name b.name ∷ flat_map link_parts b.links)))

record IsBody (h : Header) (b : Body) : Type 0 where
  insts : length b.insts ≡ h.code
  types : length b.types ≡ h.types
  types_fit : types_stand h.data_size 0 b.types ≡ true
  items : items_stand b.types (opening h.data_size) b.items ≡ true
  links : length b.links ≡ h.links
  links_fit : links_stand h.code h.types b.links ≡ true

regroup : (a b c d : List Part) (e : Part) → a ++ (b ++ (c ++ (byte 0 ∷ e ∷ d)))
    ≡ ((((a ++ b) ++ (c ++ byte 0 ∷ [])) ++ e ∷ []) ++ d)
regroup a b c d e = simp append_assoc

exact_body : (h : Header) → Exact (body_at h) of_body (IsBody h)
unfolding body_at
exact_body h = exact_rows
    (step (exact_insts h.code) _ (λ insts i. step (exact_types h.data_size h.types) _ (λ types t. step
    (exact_data types h.data_size) _ (λ items d. step exact_name _ (λ chars is. step (exact_links h.code h.types h.links) _
    (λ links l. done (record { insts = insts; types = types; items = items; name = chars; links = links })
    (regroup (flat_map inst_parts insts) (types_parts 0 types) (flat_map item_parts items) (flat_map link_parts links)
    (name chars))
    (record { insts = i; types = t.0; types_fit = t.1; items = d; links = l.0; links_fit = l.1 })))))))
    (λ b is. subst (λ (ps : List Part). Again (body_at h) ps b) (again_is (flat_map inst_parts b.insts)
    (types_parts 0 b.types) (flat_map item_parts b.items) (flat_map link_parts b.links) (name b.name))
    (first (exact_insts h.code) _ b.insts is.insts (first (exact_types h.data_size h.types) _ b.types (is.types, is.types_fit)
    (first (exact_data b.types h.data_size) _ b.items is.items (first exact_name _ b.name tt
    (first (exact_links h.code h.types h.links) _ b.links (is.links, is.links_fit) end))))))
  where
    again_is : (a b c d : List Part) (e : Part) → a ++ (b ++ ((c ++ byte 0 ∷ []) ++ (e ∷ (d ++ []))))
        ≡ a ++ (b ++ (c ++ (byte 0 ∷ e ∷ d)))
    again_is a b c d e = simp (append_assoc, append-nil)

-- ---- sections behind flags

abbrev of_section : {A : Type 0} → Bool → (A → List Part) → List A → List Part
of_section there parts xs = cond there (counted parts xs) []

exact_section : {A : Type 0} (there : Bool) (item_at : List ℕ → Read A) (parts : A → List Part)
    → Exact item_at parts (λ x. ⊤)
    → Exact (section_at there item_at) (of_section there parts) (λ xs. (there || eqb (length xs) 0) ≡ true)
unfolding section_at
exact_section true item_at parts exact =
    let all = exact_each item_at parts exact in
    record {
      takes = λ bytes xs rest fits e. ((all.takes bytes xs rest fits e).0, refl);
      again = λ xs front rest is h. all.again xs front rest tt h;
    }
exact_section {A} false item_at parts exact = record {
  takes = λ bytes xs rest fits e.
      subst (λ (y : List A × List ℕ). Takes [] bytes y.1 × (eqb (length y.0) 0 ≡ true)) (ok_is ([], bytes) (xs, rest) e)
      (record { front = []; spelled = refl; whole = refl; rest_fits = fits }, refl);
  again = λ xs front rest is h. rw (h, nil_from_length xs (eqb-true _ _ is)) refl;
}

-- ---- the object

abbrev header_of : Object → Header
header_of o = record {
  flags = o.flags;
  stack = o.stack;
  code = length o.insts;
  data_size = o.data_size;
  types = length o.types;
  links = length o.links;
  entry_pc = o.entry_pc;
  entry_type = o.entry_type;
}

abbrev body_of : Object → Body
body_of o = record { insts = o.insts; types = o.types; items = o.items; name = o.module; links = o.links }

record HasHeader (h : Header) (b : Body) (imports : List (List Import)) (catches : List Catch) : Type 0 where
  head : IsHeader h
  body : IsBody h b
  imports_fit : (has_imports h.flags || eqb (length imports) 0) ≡ true
  catches_fit : (has_catches h.flags || eqb (length catches) 0) ≡ true

abbrev object_of : Header → Body → List (List Import) → List Catch → Object
object_of h b imports catches = record {
  flags = h.flags;
  stack = h.stack;
  data_size = h.data_size;
  entry_pc = h.entry_pc;
  entry_type = h.entry_type;
  insts = b.insts;
  types = b.types;
  items = b.items;
  «module» = b.name;
  links = b.links;
  imports = imports;
  catches = catches;
}

stands_of : (h : Header) (b : Body) (imports : List (List Import)) (catches : List Catch)
    → HasHeader h b imports catches → Stands (object_of h b imports catches)
stands_of h b imports catches is = record {
  flags = is.head.flags;
  data_size = is.head.data_size;
  data_type = rw is.body.types is.head.data_type;
  types = is.body.types_fit;
  items = is.body.items;
  links = rw (is.body.insts, is.body.types) is.body.links_fit;
  imports = is.imports_fit;
  catches = is.catches_fit;
}

parts_are : (h : Header) (b : Body) (imports : List (List Import)) (catches : List Catch) → IsBody h b
    → object_parts (object_of h b imports catches)
    ≡ ((head_parts h ++ of_body b) ++ of_section (has_imports h.flags) (counted import_parts) imports)
    ++ of_section (has_catches h.flags) catch_parts catches
unfolding header_parts body_parts last_parts
parts_are h b imports catches is =
    rw (is.insts, is.types, is.links) (three (head_parts h) (of_body b)
    (of_section (has_imports h.flags) (counted import_parts) imports) (of_section (has_catches h.flags) catch_parts catches))
  where
    three : (a b c d : List Part) → a ++ (b ++ (c ++ d)) ≡ ((a ++ b) ++ c) ++ d
    three a b c d = simp append_assoc

last : (o : Object) → head_parts (header_of o) ++ (of_body (body_of o) ++ (of_section (has_imports o.flags)
    (counted import_parts) o.imports ++ (of_section (has_catches o.flags) catch_parts o.catches ++ []))) ≡ object_parts o
unfolding header_parts body_parts last_parts
last o = ap (λ (x : List Part). head_parts (header_of o) ++ (of_body (body_of o) ++ (of_section (has_imports o.flags)
    (counted import_parts) o.imports ++ x))) (append-nil (of_section (has_catches o.flags) catch_parts o.catches))

exact_fields : Exact fields_at object_parts Stands
unfolding fields_at
exact_fields = exact_rows
    (step exact_header _ (λ h head. step (exact_body h) _ (λ b body. step (exact_section (has_imports h.flags)
    (counted_at import_at) (counted import_parts) exact_table) _ (λ imports i. step (exact_section (has_catches h.flags)
    catch_at catch_parts exact_catch) _ (λ catches c. done (object_of h b imports catches)
    (parts_are h b imports catches body)
    (stands_of h b imports catches (record { head = head; body = body; imports_fit = i; catches_fit = c })))))))
    (λ o is. subst (λ (ps : List Part). Again fields_at ps o) (last o) (first exact_header _ (header_of o) (record {
      flags = is.flags;
      data_size = is.data_size;
      data_type = is.data_type;
    }) (first (exact_body (header_of o)) _ (body_of o) (record {
      insts = refl;
      types = refl;
      types_fit = is.types;
      items = is.items;
      links = refl;
      links_fit = is.links;
    }) (first (exact_section (has_imports o.flags) (counted_at import_at) (counted import_parts) exact_table) _ o.imports
    is.imports (first (exact_section (has_catches o.flags) catch_at catch_parts exact_catch) _ o.catches is.catches end)))))

pub found : (o : Object) (bytes : List ℕ) → AreBytes bytes → object_at bytes ≡ Ok o → Spells o bytes
unfolding object_at
found o bytes fits e =
    let b = bind_ok (fields_at bytes) (λ x. cond (eqb (length x.1) 0) (Ok x.0) (refused Trailing x.1)) o e in
    let g = guard_ok (eqb (length b.0.1) 0) (record { cause = Trailing; left = length b.0.1 }) (Ok b.0.0) o b.1.1 in
    let same : b.0.0 ≡ o = ok_is b.0.0 o g.1 in
    let t = exact_fields.takes bytes b.0.0 b.0.1 fits b.1.0 in
    let none : b.0.1 ≡ [] = nil_from_length b.0.1 (eqb-true _ _ g.0) in
    let all : t.0.front ≡ bytes = sym (t.0.whole ∙ ap (λ (y : List ℕ). t.0.front ++ y) none ∙ append-nil t.0.front) in
    subst (λ (x : Object). Spells x bytes) same (record {
      stands = t.1;
      parts = subst (λ (y : List ℕ). AreParts (object_parts b.0.0) y) all t.0.spelled;
    })

pub only : (o : Object) (bytes : List ℕ) → Spells o bytes → object_at bytes ≡ Ok o
unfolding object_at
only o bytes is =
    let read : fields_at bytes ≡ Ok (o, []) =
    ap fields_at (sym (append-nil bytes)) ∙ exact_fields.again o bytes [] is.stands is.parts in
    rw read refl

pub one_object : (o p : Object) (bytes : List ℕ) → Spells o bytes → Spells p bytes → o ≡ p
one_object o p bytes is also = ok_is o p (sym (only o bytes is) ∙ only p bytes also)
