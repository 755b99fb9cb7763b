-- A valid object whose names and texts are plain is plain: its numbers fit their fields, and its bytes are bytes.
use Rattle.std.proofs.Common.{◌≡◌, ℕ, suc, ◌<◌, ◌^◌, Bool, true, false, cond, List, [], ◌∷◌, ◌++◌, length}
use Rattle.std.proofs.Common.{refl, subst, arith, inl, inr, ℤ, pos}
use Rattle.std.proofs.Math.Seq.{take-append_seam, drop-append_seam}
use Rattle.std.proofs.lemmas.Bool.{ltb-true, eqb-true}
use Rattle.std.specs.Prelude.{⊤, ◌||◌, ◌==◌}
use Rattle.std.specs.List.{flat_map, AllByRecursion}
use Rattle.dis_isa.specs.declared.inst.Inst.{Inst}
use Rattle.dis_isa.specs.declared.inst.Operand.{Operand}
use Rattle.dis_isa.specs.declared.inst.Operand.TheVariants as operand
use Rattle.dis_isa.specs.declared.inst.Middle.{Middle}
use Rattle.dis_isa.specs.declared.inst.Middle.TheVariants as middle
use Rattle.dis_file.specs.declared.object.Object.{Object}
use Rattle.dis_file.specs.declared.object.Item.{Item}
use Rattle.dis_file.specs.declared.object.LinkEntry.{LinkEntry}
use Rattle.dis_file.specs.declared.object.Import.{Import}
use Rattle.dis_file.specs.declared.object.Catch.{Catch}
use Rattle.dis_file.specs.declared.object.CatchArm.{CatchArm}
use Rattle.dis_file.specs.declared.types.TypeDesc.{TypeDesc}
use Rattle.dis_format.specs.Operands.{Form, one_byte, two_bytes, four_bytes, magnitude, fits_form}
use Rattle.dis_format.specs.Parts.{Part, byte, below, word, number, item, utf8, name, raw, IsPart, AreParts}
use Rattle.dis_format.specs.Parts.{middle_parts, operand_parts, inst_parts, type_parts, types_parts, item_parts, link_parts}
use Rattle.dis_format.specs.Parts.{import_parts, counted, arm_parts, catch_parts, has_imports, has_catches, header_parts}
use Rattle.dis_format.specs.Parts.{body_parts, last_parts, object_parts}
use Rattle.dis_format.specs.Objects.{Spells}
use Rattle.dis_format.specs.Reading.{AreBytes}
use Rattle.dis_format.proofs.Fields.{AreBytes-take, AreBytes-drop}
use Rattle.dis_text.specs.Shown.{Shown, of_operand, of_middle, present, AreNarrow, IsPlainText, AreByteValues}
use Rattle.dis_text.specs.Shown.{IsPlainType, IsPlainItem, IsPlainLink, IsPlainImport, IsPlainArm, IsPlainCatch, IsPlain}
use Rattle.dis_text.specs.Shown.{HasPlainTexts, HasPlainArms}

-- ---- parts that bytes spell

abbrev IsSmall : Part → Type 0
IsSmall (byte b) = ⊤
IsSmall (below limit b) = b < limit
IsSmall (word n) = n < 2 ^ 32
IsSmall (number range z) = magnitude z < 2 ^ 29
IsSmall (item kind count) = (kind < 16) × (count < 2 ^ 29)
IsSmall (utf8 chars) = ⊤
IsSmall (name chars) = ⊤
IsSmall (raw own) = AreByteValues own

abbrev AreSmall : List Part → Type 0
AreSmall parts = AllByRecursion IsSmall parts

form_small : (form : Form) (z : ℤ) → fits_form form z ≡ true → magnitude z < 2 ^ 29
form_small one_byte z h = let lt = ltb-true _ _ h in omega arith
form_small two_bytes z h = let lt = ltb-true _ _ h in omega arith
form_small four_bytes z h = ltb-true _ _ h

bytes_small : (bs : List ℕ) → AreBytes bs → AreByteValues bs
bytes_small [] h = tt
bytes_small (b ∷ bs) h = (h 0, bytes_small bs (λ i. h (suc i)))

part_small : (p : Part) (front : List ℕ) → AreBytes front → IsPart p front → IsSmall p
part_small (byte b) front h is = tt
part_small (below limit b) front h is = is.0
part_small (word n) front h is = is.0
part_small (number range z) front h is = form_small is.0 z is.1.1
part_small (item kind count) front h is = (
  is.0,
  elim is.1 [
    | inl short ↦ (let le = short.1 in omega arith)
    | inr long ↦ form_small long.0 (pos count)
        long.1.0
  ],
)
part_small (utf8 chars) front h is = tt
part_small (name chars) front h is = tt
part_small (raw own) front h is = subst AreByteValues is (bytes_small front h)

parts_small : (ps : List Part) (bytes : List ℕ) → AreBytes bytes → AreParts ps bytes → AreSmall ps
parts_small [] bytes h are = tt
parts_small (p ∷ ps) bytes h are =
    let front = are.0 in
    let rest = are.1.0 in
    let whole : bytes ≡ front ++ rest = are.1.1.2 in
    let all : AreBytes (front ++ rest) = subst AreBytes whole h in
    let before : AreBytes front = subst AreBytes (take-append_seam front rest) (AreBytes-take (length front) (front
    ++ rest) all) in
    let behind : AreBytes rest = subst AreBytes (drop-append_seam front rest) (AreBytes-drop (length front) (front ++
    rest) all) in
    (part_small p front before are.1.1.0, parts_small ps rest behind are.1.1.1)

split : (ps qs : List Part) → AreSmall (ps ++ qs) → AreSmall ps × AreSmall qs
split [] qs h = (tt, h)
split (p ∷ ps) qs h = let k = split ps qs h.1 in ((h.0, k.0), k.1)

each : {A : Type 0} (parts : A → List Part) (Q P : A → Type 0) → ((x : A) → AreSmall (parts x) → Q x → P x) → (xs : List A)
    → AreSmall (flat_map parts xs) → AllByRecursion Q xs → AllByRecursion P xs
each parts Q P f [] h q = tt
each parts Q P f (x ∷ xs) h q =
    let k = split (parts x) (flat_map parts xs) h in (f x k.0 q.0, each parts Q P f xs k.1 q.1)

each_alone : {A : Type 0} (parts : A → List Part) (P : A → Type 0) → ((x : A) → AreSmall (parts x) → P x) → (xs : List A)
    → AreSmall (flat_map parts xs) → AllByRecursion P xs
each_alone parts P f [] h = tt
each_alone parts P f (x ∷ xs) h =
    let k = split (parts x) (flat_map parts xs) h in (f x k.0, each_alone parts P f xs k.1)

-- ---- what the parts are of

narrow-append : (ss ts : List Shown) → AreNarrow ss → AreNarrow ts → AreNarrow (ss ++ ts)
narrow-append [] ts a b = b
narrow-append (s ∷ ss) ts a b = (a.0, narrow-append ss ts a.1 b)

narrow_operand : (o : Operand) → AreSmall (operand_parts o) → AreNarrow (of_operand o)
narrow_operand operand.None h = tt
narrow_operand (operand.Imm n) h = let lt = h.0 in (omega arith, tt)
narrow_operand (operand.Fp n) h = let lt = h.0 in (omega arith, tt)
narrow_operand (operand.Mp n) h = let lt = h.0 in (omega arith, tt)
narrow_operand (operand.IndFp inner outer) h =
    let lt = h.0 in let more = h.1.0 in ((omega arith, omega arith), tt)
narrow_operand (operand.IndMp inner outer) h =
    let lt = h.0 in let more = h.1.0 in ((omega arith, omega arith), tt)

narrow_middle : (m : Middle) → AreSmall (middle_parts m) → AreNarrow (of_middle m)
narrow_middle middle.None h = tt
narrow_middle (middle.Imm n) h = let lt = h.0 in (omega arith, tt)
narrow_middle (middle.Fp n) h = let lt = h.0 in (omega arith, tt)
narrow_middle (middle.Mp n) h = let lt = h.0 in (omega arith, tt)

narrow_inst : (i : Inst) → AreSmall (inst_parts i) → AreNarrow (present i)
unfolding inst_parts
narrow_inst i h =
    let k = split (middle_parts i.middle) (operand_parts i.src ++ operand_parts i.dst) h.1.1 in
    let l = split (operand_parts i.src) (operand_parts i.dst) k.1 in
    narrow-append (of_operand i.src) (of_middle i.middle ++ of_operand i.dst) (narrow_operand i.src l.0)
    (narrow-append (of_middle i.middle) (of_operand i.dst) (narrow_middle i.middle k.0) (narrow_operand i.dst l.1))

plain_types : (place : ℕ) (ts : List TypeDesc) → AreSmall (types_parts place ts) → AllByRecursion IsPlainType ts
unfolding type_parts
plain_types place [] h = tt
plain_types place (t ∷ ts) h =
    let k = split (type_parts place t) (types_parts (suc place) ts) h in
    let size = k.0.1.0 in ((omega arith, k.0.1.1.1.0), plain_types (suc place) ts k.1)

plain_item : (i : Item) → AreSmall (item_parts i) → IsPlainItem i
unfolding item_parts
plain_item i h =
    let a = h.0.0 in let b = h.0.1 in let c = h.1.0 in (omega arith, omega arith, omega arith, h.1.1.0)

plain_link : (l : LinkEntry) → AreSmall (link_parts l) → IsPlainText l.name → IsPlainLink l
unfolding link_parts
plain_link l h t = let a = h.0 in let b = h.1.0 in (omega arith, omega arith, h.1.1.0, t)

plain_import : (i : Import) → AreSmall (import_parts i) → IsPlainText i.name → IsPlainImport i
unfolding import_parts
plain_import i h t = (h.0, t)

plain_arm : (a : CatchArm) → AreSmall (arm_parts a) → IsPlainText a.text → IsPlainArm a
unfolding arm_parts
plain_arm a h t = let k = h.0 in let p = h.1.1.1.0 in (omega arith, t, omega arith)

plain_catch : (c : Catch) → AreSmall (catch_parts c) → HasPlainArms c → IsPlainCatch c
unfolding catch_parts
plain_catch c h t =
    let a = h.0 in
    let b = h.1.0 in
    let d = h.1.1.0 in (
      omega arith,
      omega arith,
      omega arith,
      each arm_parts (λ a. IsPlainText a.text) IsPlainArm plain_arm c.arms
          h.1.1.1.1 t,
    )

plain_table : (t : List Import) → AreSmall (counted import_parts t) → AllByRecursion (λ i. IsPlainText i.name) t
    → AllByRecursion IsPlainImport t
plain_table t h q = each import_parts (λ i. IsPlainText i.name) IsPlainImport plain_import t h.1 q

-- ---- the object

none_there : {A : Type 0} (P : A → Type 0) (b : Bool) (xs : List A) → b ≡ false → (b || length xs == 0) ≡ true
    → AllByRecursion P xs × (length xs < 2 ^ 64)
none_there P true xs f h = absurd cc
none_there P false [] f h = (tt, omega arith)
none_there P false (x ∷ xs) f h = let zero_is : length (x ∷ xs) ≡ 0 = eqb-true _ _ h in absurd (omega arith)

section : {A : Type 0} (P : A → Type 0) (b : Bool) (parts : List Part) (xs : List A)
    → (AreSmall parts → AllByRecursion P xs × (length xs < 2 ^ 64)) → (b || length xs == 0) ≡ true
    → AreSmall (cond b parts []) → AllByRecursion P xs × (length xs < 2 ^ 64)
section P true parts xs f there h = f h
section P false parts xs f there h = none_there P false xs refl there

plain_tables : (o : Object) → HasPlainTexts o → AreSmall (counted (counted import_parts) o.imports)
    → AllByRecursion (AllByRecursion IsPlainImport) o.imports × (length o.imports < 2 ^ 64)
plain_tables o t h =
    let count = h.0 in (
      each (counted import_parts) (AllByRecursion (λ i. IsPlainText i.name)) (AllByRecursion IsPlainImport)
          plain_table o.imports
          h.1 t.imports,
      omega arith,
    )

plain_catches : (o : Object) → HasPlainTexts o → AreSmall (counted catch_parts o.catches)
    → AllByRecursion IsPlainCatch o.catches × (length o.catches < 2 ^ 64)
plain_catches o t h =
    let count = h.0 in (each catch_parts HasPlainArms IsPlainCatch plain_catch o.catches h.1 t.catches, omega arith)

pub plain : (o : Object) (bytes : List ℕ) → AreBytes bytes → Spells o bytes → HasPlainTexts o → IsPlain o
unfolding header_parts body_parts last_parts
plain o bytes h is t =
    let all = parts_small (object_parts o) bytes h is.parts in
    let first = split (header_parts o) (body_parts o ++ last_parts o) all in
    let second = split (body_parts o) (last_parts o) first.1 in
    let head : AreSmall (header_parts o) = first.0 in
    let code = split (flat_map inst_parts o.insts)
    (types_parts 0 o.types ++ (flat_map item_parts o.items ++ (byte 0 ∷ name o.«module» ∷ flat_map link_parts o.links)))
    second.0 in
    let types = split (types_parts 0 o.types)
    (flat_map item_parts o.items ++ (byte 0 ∷ name o.«module» ∷ flat_map link_parts o.links)) code.1 in
    let items = split (flat_map item_parts o.items) (byte 0 ∷ name o.«module» ∷ flat_map link_parts o.links) types.1 in
    let last = split (cond (has_imports o.flags) (counted (counted import_parts) o.imports) [])
    (cond (has_catches o.flags) (counted catch_parts o.catches) []) second.1 in
    let imports = section (AllByRecursion IsPlainImport) (has_imports o.flags) (counted (counted import_parts)
    o.imports)
    o.imports (plain_tables o t) is.stands.imports last.0 in
    let catches = section IsPlainCatch (has_catches o.flags) (counted catch_parts o.catches) o.catches (plain_catches
    o t)
    is.stands.catches last.1 in
    let flags : o.flags < 2 ^ 29 = head.1.0 in
    let stack : o.stack < 2 ^ 29 = head.1.1.0 in
    let insts_few : length o.insts < 2 ^ 29 = head.1.1.1.0 in
    let size : o.data_size < 2 ^ 29 = head.1.1.1.1.0 in
    let types_few : length o.types < 2 ^ 29 = head.1.1.1.1.1.0 in
    let links_few : length o.links < 2 ^ 29 = head.1.1.1.1.1.1.0 in
    let entry : o.entry_pc < 2 ^ 29 = head.1.1.1.1.1.1.1.0 in
    let kind : o.entry_type < 2 ^ 29 = head.1.1.1.1.1.1.1.1.0 in
    record {
      flags = omega arith;
      stack = omega arith;
      data_size = omega arith;
      entry_pc = omega arith;
      entry_type = omega arith;
      insts = each_alone inst_parts (λ i. AreNarrow (present i)) narrow_inst o.insts code.0;
      types = plain_types 0 o.types types.0;
      items = each_alone item_parts IsPlainItem plain_item o.items items.0;
      name = t.name;
      links = each link_parts (λ l. IsPlainText l.name) IsPlainLink plain_link o.links items.1.1.1 t.links;
      imports = imports.0;
      catches = catches.0;
      insts_few = omega arith;
      types_few = omega arith;
      links_few = omega arith;
      imports_few = imports.1;
      catches_few = catches.1;
      imports_there = is.stands.imports;
      catches_there = is.stands.catches;
    }
