-- The two laws for fields one after the other, and for each row of the format.
use Rattle.std.proofs.Common.{◌≡◌, ℕ, zero, suc, ◌+◌, ◌*◌, ◌/◌, ◌%◌, ◌<◌, Bool, true, false, ltb, eqb}
use Rattle.std.proofs.Common.{List, [], ◌∷◌, ◌++◌, length, Option, Some, None, Ok, refl}
use Rattle.std.proofs.Common.{sym, ap, subst, ◌∙◌, append_assoc, arith, inl, inr}
use Rattle.std.specs.Prelude.{encode_utf8_all, ⊤, ◌&&◌}
use Rattle.std.specs.List.{flat_map, AllByRecursion}
use Rattle.std.proofs.lemmas.Bool.{cases_lt, ltb-true, lt-ltb, eqb-true, eq-eqb}
use Rattle.std.proofs.lemmas.List.{append-nil}
use Rattle.dis_isa.specs.declared.op.Op.{Op}
use Rattle.dis_isa.specs.declared.inst.Inst.{Inst}
use Rattle.dis_isa.specs.declared.inst.Operand.{Operand}
use Rattle.dis_isa.specs.declared.inst.Operand.TheVariants as operand
use Rattle.dis_isa.specs.declared.inst.Middle.{Middle}
use Rattle.dis_isa.specs.declared.inst.Middle.TheVariants as middle
use Rattle.dis_isa.specs.Opcodes.{opcode_at}
use Rattle.dis_isa.proofs.Table.{stands_at_tag, tag_is_place, none_past_table}
use Rattle.dis_file.specs.declared.object.LinkEntry.{LinkEntry}
use Rattle.dis_file.specs.declared.types.TypeDesc.{TypeDesc}
use Rattle.dis_format.specs.declared.fault.Cause.TheVariants.{BadOperand, BadType, BadLink}
use Rattle.dis_format.specs.Opcodes.{opcode_of}
use Rattle.dis_format.specs.Operands.{any, from_zero, short_number, short_offset}
use Rattle.dis_format.specs.Parts.{Part, byte, below, utf8, raw, natural, AreParts, counted}
use Rattle.dis_format.specs.Parts.{middle_mode, mode, address, middle_parts, operand_parts, inst_parts, type_parts}
use Rattle.dis_format.specs.Parts.{types_parts, link_parts, import_parts, arm_parts, catch_parts}
use Rattle.dis_format.specs.Objects.{map_stands, size_stands, types_stand, link_stands, links_stand}
use Rattle.inf_text.specs.Steps.{◌>>=◌}
use Rattle.dis_format.specs.Reading.{Read, AreBytes, byte_at, bytes_at, natural_at, many, counted_at}
use Rattle.dis_format.specs.Reading.{op_here, opcode_here, middle_at, operand_of, mode_stands, address_at, inst_at, place_at}
use Rattle.dis_format.specs.Reading.{type_size_at, map_at, type_at, types_at, linked_at, link_at, import_at, arm_at, catch_at}
use Rattle.dis_format.proofs.Fields.{bind_ok, ok_is, Takes, Takes-then, parts_split, Exact}
use Rattle.dis_format.proofs.Fields.{exact_byte, exact_below, guarded, exact_bytes, exact_word, exact_number, exact_natural}
use Rattle.dis_format.proofs.Fields.{exact_utf8, exact_name, exact_many}

-- ---- fields one after the other

-- what is read is a value whose parts are those before and those taken
pub record Rest {A : Type 0} (parts : A → List Part) (Is : A → Type 0) (before : List Part) (a : A)
    (bytes rest : List ℕ) : Type 0 where
  pub fields : List Part
  pub is : parts a ≡ before ++ fields
  pub took : Takes fields bytes rest
  pub fit : Is a

pub record Continues {A : Type 0} (parts : A → List Part) (Is : A → Type 0) (before : List Part) (read : List ℕ
    → Read A) : Type 0 where
  pub takes : (bytes : List ℕ) (a : A) (rest : List ℕ) → AreBytes bytes → read bytes ≡ Ok (a, rest)
      → Rest parts Is before a bytes rest

pub step : {A B : Type 0} {parts : A → List Part} {Is : A → Type 0} {before : List Part} {one : List ℕ → Read B}
    {own : B → List Part} {IsOne : B → Type 0} → Exact one own IsOne → (next : B → List ℕ → Read A)
    → ((b : B) → IsOne b → Continues parts Is (before ++ own b) (next b))
    → Continues parts Is before (λ bytes. one bytes >>= λ x. next x.0 x.1)
step {parts = parts} {Is = Is} {before = before} {one = one} {own = own} exact next later = record {
  takes = λ bytes a rest fits e.
      let b = bind_ok (one bytes) (λ x. next x.0 x.1) (a, rest) e in
      let t = exact.takes bytes b.0.0 b.0.1 fits b.1.0 in
      let r = (later b.0.0 t.1).takes b.0.1 a rest t.0.rest_fits b.1.1 in
      record {
        fields = own b.0.0 ++ r.fields;
        is = r.is ∙ append_assoc before (own b.0.0) r.fields;
        took = Takes-then (own b.0.0) r.fields bytes b.0.1 rest t.0 r.took;
        fit = r.fit;
      };
}

pub done : {A : Type 0} {parts : A → List Part} {Is : A → Type 0} {before : List Part} (a : A) → parts a ≡ before
    → Is a → Continues parts Is before (λ bytes. Ok (a, bytes))
done {A} {parts = parts} {Is = Is} {before = before} a is fit = record {
  takes = λ bytes x rest fits e.
      subst (λ (y : A × List ℕ). Rest parts Is before y.0 bytes y.1) (ok_is (a, bytes) (x, rest) e) (record {
        fields = [];
        is = is ∙ sym (append-nil before);
        took = record { front = []; spelled = refl; whole = refl; rest_fits = fits };
        fit = fit;
      });
}

pub record Again {A : Type 0} (read : List ℕ → Read A) (fields : List Part) (a : A) : Type 0 where
  pub again : (front rest : List ℕ) → AreParts fields front → read (front ++ rest) ≡ Ok (a, rest)

pub first : {A B : Type 0} {one : List ℕ → Read B} {own : B → List Part} {IsOne : B → Type 0} {fields : List Part} {a : A}
    → Exact one own IsOne → (next : B → List ℕ → Read A) (b : B) → IsOne b → Again (next b) fields a
    → Again (λ bytes. one bytes >>= λ x. next x.0 x.1) (own b ++ fields) a
first {one = one} {own = own} {fields = fields} {a = a} exact next b is later = record {
  again = λ front rest h.
      let s = parts_split (own b) fields front h in
      ap (λ (y : List ℕ). one y >>= λ x. next x.0 x.1)
      (ap (λ (y : List ℕ). y ++ rest) s.whole ∙ append_assoc s.front s.back rest)
      ∙ rw (exact.again b s.front (s.back ++ rest) is s.front_is) (later.again s.back rest s.back_is);
}

pub end : {A : Type 0} {a : A} → Again (λ bytes. Ok (a, bytes)) [] a
end {a = a} = record { again = λ front rest h. rw h refl }

pub exact_rows : {A : Type 0} {parts : A → List Part} {Is : A → Type 0} {read : List ℕ → Read A}
    → Continues parts Is [] read → ((a : A) → Is a → Again read (parts a) a) → Exact read parts Is
exact_rows {A} {parts = parts} {read = read} continues agains = record {
  takes = λ bytes a rest fits e.
      let r = continues.takes bytes a rest fits e in
      (subst (λ (ps : List Part). Takes ps bytes rest) (sym r.is) r.took, r.fit);
  again = λ a front rest is h. (agains a is).again front rest h;
}

-- items behind their count
pub exact_counted : {A : Type 0} (item_at : List ℕ → Read A) (parts : A → List Part) (Is : A → Type 0)
    → Exact item_at parts Is → Exact (counted_at item_at) (counted parts) (λ xs. AllByRecursion Is xs)
unfolding counted_at
exact_counted item_at parts Is exact = exact_rows
    (record {
      takes = λ bytes a rest fits e.
          let b = bind_ok (natural_at bytes) (λ n. many item_at n.0 n.1) (a, rest) e in
          let t = exact_natural.takes bytes b.0.0 b.0.1 fits b.1.0 in
          let m = (exact_many item_at parts Is b.0.0 exact).takes b.0.1 a rest t.0.rest_fits b.1.1 in
          let both = Takes-then (natural b.0.0 ∷ []) (flat_map parts a) bytes b.0.1 rest t.0 m.0 in
          record {
            fields = natural b.0.0 ∷ flat_map parts a;
            is = ap (λ (n : ℕ). natural n ∷ flat_map parts a) m.1.0;
            took = both;
            fit = m.1.1;
          };
    })
    (λ xs is. first exact_natural _ (length xs) tt (record {
      again = λ front rest h. (exact_many item_at parts Is (length xs) exact).again xs front rest (refl, is) h;
    }))

-- ---- instructions

below_table : (n : ℕ) (op : Op) → opcode_at n ≡ Some op → n < 256
below_table n op e =
    elim (cases_lt n 256) [
      | inl lt ↦ lt
      | inr le ↦ let none = (none_past_table n).1 (omega arith) in absurd (differ op (sym none ∙ e))
    ]
  where
    differ : (op : Op) → None ≡ Some op → ⊥
    differ op e = cc

opcode_small : (op : Op) → opcode_of op < 256
opcode_small op = below_table (opcode_of op) op (stands_at_tag op)

exact_opcode : Exact opcode_here (λ op. byte (opcode_of op) ∷ []) (λ op. ⊤)
unfolding opcode_here
exact_opcode = record { takes = takes; again = again }
  where
    found : (n : ℕ) (bytes : List ℕ) (all : List ℕ) (a : Op) (rest : List ℕ) (o : Option Op) → opcode_at n ≡ o
        → op_here o all bytes ≡ Ok (a, rest) → (opcode_of a ≡ n) × (rest ≡ bytes)
    found n bytes all a rest None is e = absurd cc
    found n bytes all a rest (Some op) is e =
        subst (λ (x : Op × List ℕ). (opcode_of x.0 ≡ n) × (x.1 ≡ bytes)) (ok_is (op, bytes) (a, rest) e)
        (tag_is_place n op is, refl)

    takes : (bytes : List ℕ) (a : Op) (rest : List ℕ) → AreBytes bytes → opcode_here bytes ≡ Ok (a, rest)
        → Takes (byte (opcode_of a) ∷ []) bytes rest × ⊤
    takes bytes a rest fits e =
        let b = bind_ok (byte_at bytes) (λ x. op_here (opcode_at x.0) bytes x.1) (a, rest) e in
        let t = exact_byte.takes bytes b.0.0 b.0.1 fits b.1.0 in
        let f = found b.0.0 b.0.1 bytes a rest (opcode_at b.0.0) refl b.1.1 in (
          subst (λ (n : ℕ). Takes (byte n ∷ []) bytes rest) (sym f.0)
              (subst (λ (r : List ℕ). Takes (byte b.0.0 ∷ []) bytes r) (sym f.1) t.0),
          tt,
        )

    again : (a : Op) (front rest : List ℕ) → ⊤ → AreParts (byte (opcode_of a) ∷ []) front
        → opcode_here (front ++ rest) ≡ Ok (a, rest)
    again a front rest is h =
        rw (exact_byte.again (opcode_of a) front rest (opcode_small a) h, stands_at_tag a) refl

-- the parts of a byte's address
address_whole : (b m s d : ℕ) → m ≡ b / 64 → s ≡ b / 8 % 8 → d ≡ b % 8 → 64 * m + 8 * s + d ≡ b
address_whole b m s d em es ed = omega arith

exact_address : Exact address_at (λ b. byte b ∷ []) (λ b. (b < 256)
    × (mode_stands (b / 8 % 8) && mode_stands (b % 8) ≡ true))
unfolding address_at
exact_address = guarded byte_at (λ b. byte b ∷ []) (λ b. b < 256) (λ b. mode_stands (b / 8 % 8) && mode_stands (b % 8))
    BadOperand exact_byte

-- a middle operand by its two bits
middle_continues : (m : ℕ) → m < 4 → Continues middle_parts (λ x. middle_mode x ≡ m) [] (middle_at m)
middle_continues zero lt = done middle.None refl refl
middle_continues (suc zero) lt = step (exact_number short_number) _ (λ n is. done (middle.Imm n) refl refl)
middle_continues (suc (suc zero)) lt = step (exact_number short_offset) _ (λ n is. done (middle.Fp n) refl refl)
middle_continues (suc (suc (suc zero))) lt = step (exact_number short_offset) _ (λ n is. done (middle.Mp n) refl refl)
middle_continues (suc (suc (suc (suc m)))) lt = absurd (omega arith)

middle_agains : (x : Middle) → Again (middle_at (middle_mode x)) (middle_parts x) x
middle_agains middle.None = end
middle_agains (middle.Imm n) = first (exact_number short_number) _ n tt end
middle_agains (middle.Fp n) = first (exact_number short_offset) _ n tt end
middle_agains (middle.Mp n) = first (exact_number short_offset) _ n tt end

exact_middle : (m : ℕ) → m < 4 → Exact (middle_at m) middle_parts (λ x. middle_mode x ≡ m)
exact_middle m lt = exact_rows (middle_continues m lt) (λ x is. subst (λ (k : ℕ). Again (middle_at k) (middle_parts x) x)
    is (middle_agains x))

-- a source or destination by its three bits
operand_continues : (m : ℕ) → m < 6 → Continues operand_parts (λ x. mode x ≡ m) [] (operand_of m)
operand_continues zero lt = step (exact_number from_zero) _ (λ n is. done (operand.Mp n) refl refl)
operand_continues (suc zero) lt = step (exact_number from_zero) _ (λ n is. done (operand.Fp n) refl refl)
operand_continues (suc (suc zero)) lt = step (exact_number any) _ (λ n is. done (operand.Imm n) refl refl)
operand_continues (suc (suc (suc zero))) lt = done operand.None refl refl
operand_continues (suc (suc (suc (suc zero)))) lt = step (exact_number from_zero) _ (λ i is. step (exact_number from_zero) _
    (λ o is. done (operand.IndMp i o) refl refl))
operand_continues (suc (suc (suc (suc (suc zero))))) lt = step (exact_number from_zero) _ (λ i is. step
    (exact_number from_zero) _ (λ o is. done (operand.IndFp i o) refl refl))
operand_continues (suc (suc (suc (suc (suc (suc m)))))) lt = absurd (omega arith)

operand_agains : (x : Operand) → Again (operand_of (mode x)) (operand_parts x) x
operand_agains operand.None = end
operand_agains (operand.Imm n) = first (exact_number any) _ n tt end
operand_agains (operand.Fp n) = first (exact_number from_zero) _ n tt end
operand_agains (operand.Mp n) = first (exact_number from_zero) _ n tt end
operand_agains (operand.IndFp i o) = first (exact_number from_zero) _ i tt (first (exact_number from_zero) _ o tt end)
operand_agains (operand.IndMp i o) = first (exact_number from_zero) _ i tt (first (exact_number from_zero) _ o tt end)

exact_source : (m : ℕ) → m < 6 → Exact (operand_of m) operand_parts (λ x. mode x ≡ m)
exact_source m lt = exact_rows (operand_continues m lt) (λ x is. subst (λ (k : ℕ). Again (operand_of k) (operand_parts x) x)
    is (operand_agains x))

pub both : (a b : Bool) → (a && b) ≡ true → (a ≡ true) × (b ≡ true)
both true b e = (refl, e)
both false b e = absurd cc

pub and_so : (a b : Bool) → a ≡ true → b ≡ true → (a && b) ≡ true
and_so a b p q = rw (p, q) refl

middle_small : (x : Middle) → middle_mode x < 4
middle_small middle.None = omega arith
middle_small (middle.Imm n) = omega arith
middle_small (middle.Fp n) = omega arith
middle_small (middle.Mp n) = omega arith

mode_small : (x : Operand) → mode x < 6
mode_small operand.None = omega arith
mode_small (operand.Imm n) = omega arith
mode_small (operand.Fp n) = omega arith
mode_small (operand.Mp n) = omega arith
mode_small (operand.IndFp i o) = omega arith
mode_small (operand.IndMp i o) = omega arith

inst_is : (op b : ℕ) (ms ss ds : List Part) (a : ℕ) → a ≡ b
    → byte op ∷ byte a ∷ (ms ++ (ss ++ ds)) ≡ byte op ∷ byte b ∷ ((ms ++ ss) ++ ds)
inst_is op b ms ss ds a e = rw e (ap (λ (x : List Part). byte op ∷ byte b ∷ x) (sym (append_assoc ms ss ds)))

inst_continues : Continues inst_parts (λ i. ⊤) [] inst_at
unfolding inst_at inst_parts
inst_continues = step exact_opcode _ (λ op is. step exact_address _ (λ b ok.
    let modes = both (mode_stands (b / 8 % 8)) (mode_stands (b % 8)) ok.1 in
    let below = ok.0 in
    step (exact_middle (b / 64) (omega arith)) _ (λ m em.
    step (exact_source (b / 8 % 8) (ltb-true _ _ modes.0)) _ (λ s es.
    step (exact_source (b % 8) (ltb-true _ _ modes.1)) _ (λ d ed.
    done (record { op = op; middle = m; src = s; dst = d })
    (inst_is (opcode_of op) b (middle_parts m) (operand_parts s) (operand_parts d)
    (64 * middle_mode m + 8 * mode s + mode d) (address_whole b (middle_mode m) (mode s) (mode d) em es ed)) tt)))))

inst_agains : (i : Inst) → Again inst_at (inst_parts i) i
unfolding inst_at inst_parts
inst_agains i =
    let m = middle_small i.middle in
    let s = mode_small i.src in
    let d = mode_small i.dst in
    let b = address i in
    let em : middle_mode i.middle ≡ b / 64 = omega arith in
    let es : mode i.src ≡ b / 8 % 8 = omega arith in
    let ed : mode i.dst ≡ b % 8 = omega arith in
    let small : b < 256 = omega arith in
    let middle_in : b / 64 < 4 = omega arith in
    let src_in : b / 8 % 8 < 6 = omega arith in
    let dst_in : b % 8 < 6 = omega arith in
    subst (λ (ps : List Part). Again inst_at (byte (opcode_of i.op) ∷ byte b ∷ (middle_parts i.middle
    ++ (operand_parts i.src ++ ps))) i) (append-nil (operand_parts i.dst))
    (first exact_opcode _ i.op tt
    (first exact_address _ b (small, and_so _ _ (lt-ltb _ _ src_in) (lt-ltb _ _ dst_in))
    (first (exact_middle (b / 64) middle_in) _ i.middle em
    (first (exact_source (b / 8 % 8) src_in) _ i.src es (first (exact_source (b % 8) dst_in) _ i.dst ed end)))))

pub exact_inst : Exact inst_at inst_parts (λ i. ⊤)
exact_inst = exact_rows inst_continues (λ i is. inst_agains i)

-- ---- types

exact_place : (place : ℕ) → Exact (place_at place) (λ n. natural n ∷ []) (λ n. ⊤ × (eqb n place ≡ true))
unfolding place_at
exact_place place = guarded natural_at (λ n. natural n ∷ []) (λ n. ⊤) (λ n. eqb n place) BadType exact_natural

exact_type_size : (data_size place : ℕ) → Exact (type_size_at data_size place) (λ n. natural n ∷ [])
    (λ n. ⊤ × (size_stands data_size place n ≡ true))
unfolding type_size_at
exact_type_size data_size place =
    guarded natural_at (λ n. natural n ∷ []) (λ n. ⊤) (λ n. size_stands data_size place n) BadType exact_natural

exact_map : (words count : ℕ) → Exact (map_at words count) (λ xs. raw xs ∷ []) (λ xs. (length xs ≡ count)
    × (map_stands words xs ≡ true))
unfolding map_at
exact_map words count = guarded (bytes_at count) (λ xs. raw xs ∷ []) (λ xs. length xs ≡ count) (map_stands words) BadType
    (exact_bytes count)

abbrev IsType : ℕ → ℕ → TypeDesc → Type 0
IsType data_size place t = (size_stands data_size place t.size ≡ true) × (map_stands (t.size / 4) t.map ≡ true)

type_is : (n place size len : ℕ) (map : List ℕ) → n ≡ place → length map ≡ len
    → natural place ∷ natural size ∷ natural (length map) ∷ raw map ∷ []
    ≡ natural n ∷ natural size ∷ natural len ∷ raw map ∷ []
type_is n place size len map e f = rw (e, f) refl

exact_type : (data_size place : ℕ) → Exact (type_at data_size place) (type_parts place) (IsType data_size place)
unfolding type_at type_parts
exact_type data_size place = exact_rows
    (step (exact_place place) _ (λ n is. step (exact_type_size data_size place) _ (λ size fit. step exact_natural _
    (λ len any. step (exact_map (size / 4) len) _ (λ map ok. done (record { size = size; map = map })
    (type_is n place size len map (eqb-true _ _ is.1) ok.0) (fit.1, ok.1))))))
    (λ t is. first (exact_place place) _ place (tt, eq-eqb _ _ refl) (first (exact_type_size data_size place) _ t.size
    (tt, is.0) (first exact_natural _ (length t.map) tt (first (exact_map (t.size / 4) (length t.map)) _ t.map (refl, is.1)
    end))))

types_take : (data_size : ℕ) (n place : ℕ) (bytes : List ℕ) (x : List TypeDesc × List ℕ) → AreBytes bytes
    → types_at data_size place n bytes ≡ Ok x
    → Takes (types_parts place x.0) bytes x.1 × ((length x.0 ≡ n) × (types_stand data_size place x.0 ≡ true))
unfolding types_at
types_take data_size zero place bytes x fits e =
    subst (λ (y : List TypeDesc × List ℕ). Takes (types_parts place y.0) bytes y.1 × ((length y.0 ≡ 0)
    × (types_stand data_size place y.0 ≡ true)))
    (ok_is ([], bytes) x e) (record { front = []; spelled = refl; whole = refl; rest_fits = fits }, (refl, refl))
types_take data_size (suc n) place bytes x fits e =
    let a = bind_ok (type_at data_size place bytes) (λ t. types_at data_size (suc place) n t.1 >>= λ others. Ok
    (t.0 ∷ others.0, others.1)) x e in
    let b = bind_ok (types_at data_size (suc place) n a.0.1) (λ others. Ok (a.0.0 ∷ others.0, others.1)) x a.1.1 in
    let one = (exact_type data_size place).takes bytes a.0.0 a.0.1 fits a.1.0 in
    let second = types_take data_size n (suc place) a.0.1 b.0 one.0.rest_fits b.1.0 in
    let both_taken = Takes-then (type_parts place a.0.0) (types_parts (suc place) b.0.0) bytes a.0.1 b.0.1 one.0 second.0 in
    let made : List TypeDesc × List ℕ = (a.0.0 ∷ b.0.0, b.0.1) in
    subst (λ (y : List TypeDesc × List ℕ). Takes (types_parts place y.0) bytes y.1 × ((length y.0 ≡ suc n)
    × (types_stand data_size place y.0 ≡ true))) (ok_is made x b.1.1) (
      both_taken,
      (ap suc second.1.0, and_so _ _ (and_so _ _ one.1.0 one.1.1) second.1.1),
    )

types_again : (data_size place : ℕ) (ts : List TypeDesc) (front rest : List ℕ) → types_stand data_size place ts ≡ true
    → AreParts (types_parts place ts) front → types_at data_size place (length ts) (front ++ rest) ≡ Ok (ts, rest)
unfolding types_at
types_again data_size place [] front rest is h = rw h refl
types_again data_size place (t ∷ ts) front rest is h =
    let s = parts_split (type_parts place t) (types_parts (suc place) ts) front h in
    let b = both _ _ is in
    ap (types_at data_size place (suc (length ts)))
    (ap (λ (y : List ℕ). y ++ rest) s.whole ∙ append_assoc s.front s.back rest)
    ∙ rw (
      (exact_type data_size place).again t s.front (s.back ++ rest) (both _ _ b.0) s.front_is,
      types_again data_size (suc place) ts s.back rest b.1 s.back_is,
    ) refl

pub exact_types : (data_size n : ℕ) → Exact (types_at data_size 0 n) (types_parts 0) (λ ts. (length ts ≡ n)
    × (types_stand data_size 0 ts ≡ true))
exact_types data_size n = record {
  takes = λ bytes ts rest fits e. types_take data_size n 0 bytes (ts, rest) fits e;
  again = λ ts front rest is h.
      subst (λ (k : ℕ). types_at data_size 0 k (front ++ rest) ≡ Ok (ts, rest)) is.0
      (types_again data_size 0 ts front rest is.1 h);
}

-- ---- links, imports, catches

exact_linked : (limit : ℕ) → Exact (linked_at limit) (λ n. natural n ∷ []) (λ n. ⊤ × (ltb n limit ≡ true))
unfolding linked_at
exact_linked limit = guarded natural_at (λ n. natural n ∷ []) (λ n. ⊤) (λ n. ltb n limit) BadLink exact_natural

exact_link : (code types : ℕ) → Exact (link_at code types) link_parts (λ l. link_stands code types l ≡ true)
unfolding link_at link_parts
exact_link code types = exact_rows
    (step (exact_linked code) _ (λ pc is. step (exact_linked types) _ (λ frame in_types. step exact_word _
    (λ sign any. step exact_name _ (λ name fit. done (record { pc = pc; frame = frame; sign = sign; name = name })
    refl (and_so _ _ is.1 in_types.1))))))
    (λ l is. let b = both _ _ is in first (exact_linked code) _ l.pc (tt, b.0) (first (exact_linked types) _ l.frame
    (tt, b.1) (first exact_word _ l.sign tt (first exact_name _ l.name tt end))))

links_all : (code types : ℕ) (ls : List LinkEntry) → AllByRecursion (λ l. link_stands code types l ≡ true) ls
    → links_stand code types ls ≡ true
links_all code types [] h = refl
links_all code types (l ∷ ls) h = and_so _ _ h.0 (links_all code types ls h.1)

all_links : (code types : ℕ) (ls : List LinkEntry) → links_stand code types ls ≡ true
    → AllByRecursion (λ l. link_stands code types l ≡ true) ls
all_links code types [] h = tt
all_links code types (l ∷ ls) h = let b = both _ _ h in (b.0, all_links code types ls b.1)

pub exact_links : (code types n : ℕ) → Exact (many (link_at code types) n) (flat_map link_parts) (λ ls. (length ls ≡ n)
    × (links_stand code types ls ≡ true))
exact_links code types n =
    let all = exact_many (link_at code types) link_parts (λ l. link_stands code types l ≡ true) n (exact_link code types) in
    record {
      takes = λ bytes ls rest fits e.
          let t = all.takes bytes ls rest fits e in (t.0, (t.1.0, links_all code types ls t.1.1));
      again = λ ls front rest is h. all.again ls front rest (is.0, all_links code types ls is.1) h;
    }

each : {A : Type 0} (xs : List A) → AllByRecursion (λ x. ⊤) xs
each [] = tt
each (x ∷ xs) = (tt, each xs)

pub exact_insts : (n : ℕ) → Exact (many inst_at n) (flat_map inst_parts) (λ is. length is ≡ n)
exact_insts n =
    let all = exact_many inst_at inst_parts (λ i. ⊤) n exact_inst in
    record {
      takes = λ bytes xs rest fits e. let t = all.takes bytes xs rest fits e in (t.0, t.1.0);
      again = λ xs front rest is h. all.again xs front rest (is, each xs) h;
    }

pub exact_each : {A : Type 0} (item_at : List ℕ → Read A) (parts : A → List Part) → Exact item_at parts (λ x. ⊤)
    → Exact (counted_at item_at) (counted parts) (λ xs. ⊤)
exact_each item_at parts exact =
    let all = exact_counted item_at parts (λ x. ⊤) exact in
    record {
      takes = λ bytes xs rest fits e. ((all.takes bytes xs rest fits e).0, tt);
      again = λ xs front rest is h. all.again xs front rest (each xs) h;
    }

exact_import : Exact import_at import_parts (λ i. ⊤)
unfolding import_at import_parts
exact_import = exact_rows
    (step exact_word _ (λ sign any. step exact_name _ (λ name fit. done (record { sign = sign; name = name }) refl tt)))
    (λ i is. first exact_word _ i.sign tt (first exact_name _ i.name tt end))

pub exact_table : Exact (counted_at import_at) (counted import_parts) (λ xs. ⊤)
exact_table = exact_each import_at import_parts exact_import

arm_is : (kind len pc : ℕ) (text : List ℕ) → length (encode_utf8_all text) ≡ len
    → below 4 kind ∷ natural (length (encode_utf8_all text)) ∷ utf8 text ∷ natural pc ∷ []
    ≡ below 4 kind ∷ natural len ∷ utf8 text ∷ natural pc ∷ []
arm_is kind len pc text e = rw e refl

exact_arm : Exact arm_at arm_parts (λ a. ⊤)
unfolding arm_at arm_parts
exact_arm = exact_rows
    (step (exact_below 4) _ (λ kind is. step exact_natural _ (λ len any. step (exact_utf8 len) _ (λ text fit.
    step exact_natural _ (λ pc any. done (record { kind = kind; text = text; pc = pc }) (arm_is kind len pc text fit) tt)))))
    (λ a is. first (exact_below 4) _ a.kind tt (first exact_natural _ (length (encode_utf8_all a.text)) tt (first
    (exact_utf8 (length (encode_utf8_all a.text))) _ a.text refl (first exact_natural _ a.pc tt end))))

pub exact_catch : Exact catch_at catch_parts (λ c. ⊤)
unfolding catch_at catch_parts
exact_catch = exact_rows
    (step exact_natural _ (λ f is. step exact_natural _ (λ e any. step exact_natural _ (λ offset any. step
    (exact_each arm_at arm_parts exact_arm) _ (λ arms fit. done (record { first = f; end = e; offset = offset; arms = arms })
    refl tt)))))
    (λ c is. subst (λ (ps : List Part). Again catch_at (natural c.first ∷ natural c.end ∷ natural c.offset ∷ ps) c)
    (append-nil (counted arm_parts c.arms)) (first exact_natural _ c.first tt (first exact_natural _ c.end tt
    (first exact_natural _ c.offset tt (first (exact_each arm_at arm_parts exact_arm) _ c.arms tt end)))))
