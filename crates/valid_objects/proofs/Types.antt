-- The types of an object, with their maps.
use Rattle.std.proofs.Common.{◌≡◌, ℕ, zero, suc, ◌+◌, ◌-◌, ◌*◌, ◌/◌, ◌%◌, ◌^◌, ◌<◌, ◌≤◌, Bool, true, false, not, ◌&&◌, ◌||◌, ◌==◌}
use Rattle.std.proofs.Common.{List, [], ◌∷◌, ◌++◌, length, map, drop, replicate, refl, sym, ap, ◌∙◌, subst, arith, ◌⊎◌, inl, inr}
use Rattle.std.specs.Prelude.{slice_get, Option, Some, None}
use Rattle.std.proofs.Math.Nat.{zero-mod, mul-mod_right}
use Rattle.std.proofs.Math.Bool.{or-true}
use Rattle.std.proofs.lemmas.Nat.{pow-add}
use Rattle.std.proofs.lemmas.Bool.{and_from, cases_lt, ne_eqb, le-leb, eq-eqb}
use Rattle.std.proofs.lemmas.List.{length-drop, length-append}
use Rattle.std.proofs.lemmas.List.FromFn.{length-map-range_with_len}
use Rattle.slot_code.specs.Code.{Function, GlobalVariable, Module}
use Rattle.slot_code.specs.Layout.{end_of}
use Rattle.limbo_values.specs.declared.number.Kind.{Kind}
use Rattle.limbo_values.specs.declared.number.Kind.TheVariants as kind
use Rattle.dis_file.specs.declared.types.TypeDesc.{TypeDesc}
use Rattle.dis_format.specs.Parts.{type_parts, types_parts}
use Rattle.dis_format.specs.Objects.{map_stands, size_stands, types_stand}
use Rattle.dis_objects.specs.Frames.{room_of, reference_words, whole, count, most_bytes}
use Rattle.dis_objects.specs.Code.{Datum, Text, Word, Long, data_bytes, global_bytes, globals_bytes, globals_place}
use Rattle.dis_objects.specs.Objects.{bit, bits, bytes_of, map_of, frame_desc, print_desc, data_desc, data_size, zeros_place, zeros_bytes}
use Rattle.dis_objects.specs.Objects.{data_words, global_words, globals_words, functions_data, most_of_all}
use Rattle.dis_objects.proofs.Layouts.{all_least}
use Rattle.dis_objects.proofs.Walks.{room_within, whole_grows, zeros_small, printed_small}
use Rattle.valid_objects.specs.Writable.{IsWritable}
use Rattle.valid_objects.proofs.Spelling.{AllCan, can_both, Each, each_both, natural_can}
use Rattle.valid_objects.proofs.Places.{near, functions_few}

-- ---- maps

-- A byte with so few marks has zeros below.
abbrev Even : ℕ → ℕ → Type 0
Even j x = (q : ℕ) × (x ≡ 2 ^ j * q)

mark_even : (b : Bool) (n j : ℕ) → j ≤ n → Even j (bit b n)
mark_even false n j l = (0, omega arith)
mark_even true n j l =
    let e : n ≡ j + (n - j) = omega (arith, l) in (2 ^ (n - j), ap (λ k. 2 ^ k) e ∙ pow-add 2 j (n - j))

sum_even : (j x y : ℕ) → Even j x → Even j y → Even j (x + y)
sum_even j x y a b = (a.0 + b.0, sums (2 ^ j) x y a.0 b.0 a.1 b.1)
  where
    sums : (p x y q r : ℕ) → x ≡ p * q → y ≡ p * r → x + y ≡ p * (q + r)
    sums p x y q r e f = rw (e, f) (omega arith)

bits_even : (n j : ℕ) (bs : List Bool) → length bs + j ≤ n → Even j (bits n bs)
bits_even zero j bs l = (0, omega arith)
bits_even (suc n) j [] l = (0, omega arith)
bits_even (suc n) j (b ∷ bs) l = sum_even j (bit b n) (bits n bs) (mark_even b n j (omega (arith, l))) (bits_even n j bs (omega (arith, l)))

even_rest : (j x : ℕ) → Even j x → (x % 2 ^ j == 0) ≡ true
even_rest j x h = ap (λ y. y % 2 ^ j == 0) h.1 ∙ ap (λ y. y == 0) (mul-mod_right (2 ^ j) h.0)

byte_stands : (words : ℕ) (bs : List Bool) → length bs ≤ words → (bits 8 bs % 2 ^ (8 - words) == 0) ≡ true
byte_stands words bs l = by (cases_lt words 8)
  where
    by : (words < 8) ⊎ (8 ≤ words) → (bits 8 bs % 2 ^ (8 - words) == 0) ≡ true
    by (inl less) = even_rest (8 - words) (bits 8 bs) (bits_even 8 (8 - words) bs (omega (arith, l, less)))
    by (inr more) =
        let z : 8 - words ≡ 0 = omega (arith, more) in
        let e : bits 8 bs % 1 ≡ 0 = omega arith in
        ap (λ k. bits 8 bs % 2 ^ k == 0) z ∙ ap (λ x. x == 0) e

pub map_right : (n words : ℕ) (bs : List Bool) → length bs ≤ words → map_stands words (bytes_of n bs) ≡ true
map_right zero words bs l = refl
map_right (suc n) words [] l = refl
map_right (suc n) words (b ∷ bs) l =
    and_from (bits 8 (b ∷ bs) % 2 ^ (8 - words) == 0) (map_stands (words - 8) (bytes_of n (drop 8 (b ∷ bs))))
    (byte_stands words (b ∷ bs) l)
    (map_right n (words - 8) (drop 8 (b ∷ bs)) (let d = length-drop 8 (b ∷ bs) in omega (arith, d, l)))

bytes_few : (n : ℕ) (bs : List Bool) → length (bytes_of n bs) ≤ n
bytes_few zero bs = omega arith
bytes_few (suc n) [] = omega arith
bytes_few (suc n) (b ∷ bs) = let r = bytes_few n (drop 8 (b ∷ bs)) in omega (arith, r)

-- ---- how many words are marked or not

pub data_many : (ds : List Datum) → 4 * length (data_words ds) ≡ data_bytes ds
data_many [] = refl
data_many (Text t ∷ ds) = let r = data_many ds in omega (arith, r)
data_many (Word z ∷ ds) = let r = data_many ds in omega (arith, r)
data_many (Long z ∷ ds) = let r = data_many ds in omega (arith, r)

global_many : (k : Option Kind) → 4 * length (global_words k) ≡ global_bytes k
global_many None = refl
global_many (Some kind.Byte) = refl
global_many (Some kind.Int) = refl
global_many (Some kind.Big) = refl

pub globals_many : (gs : List GlobalVariable) → 4 * length (globals_words gs) ≡ globals_bytes gs
globals_many [] = refl
globals_many (g ∷ gs) =
    let r = globals_many gs in
    let o = global_many g.kind in
    let l = length-append (global_words g.kind) (globals_words gs) in
    omega (arith, r, o, l)

-- ---- a type

-- Its numbers fit their fields, and its map marks none but its words.
pub record Good (t : TypeDesc) : Type 0 where
  pub size : t.size < 536870912
  pub long : length t.map < 536870912
  pub marks : map_stands (t.size / 4) t.map ≡ true

good_by : (size : ℕ) (bs : List Bool) → size < 536870912 → 4 * length bs ≤ size → Good (record { size = size; map = map_of bs })
good_by size bs s l = record {
  size = s;
  long = let b = bytes_few (length bs) bs in omega (arith, b, s, l);
  marks = map_right (length bs) (size / 4) bs (omega (arith, l));
}

module _ (m : Module) (w : IsWritable m) where
  pub zeros_few : zeros_bytes m.functions m.functions ≤ 65536
  zeros_few = zeros_small m.functions m.functions w.small.frames

  pub data_near : data_size m < 268435456
  data_near = let a = near m w in let b = zeros_few in omega (arith, a, b)

  data_good : Good (data_desc m)
  data_good =
      let d = functions_data m.functions m.functions in
      let a = data_near in
      let g = globals_many m.globals in
      let x = data_many d in
      let l = length-append (globals_words m.globals) (data_words d) in
      good_by (data_size m) (true ∷ true ∷ (globals_words m.globals ++ data_words d)) (omega (arith, a)) (omega (arith, g, x, l))

  frame_good : (n : ℕ) (f : Function) → slice_get m.functions n ≡ Some f → Good (frame_desc m.functions f)
  frame_good n f e =
      let s = w.small.frames n f e in
      let v = (room_within m.functions f).made in
      let g = whole_behind f in
      let l : length (reference_words f.variables) ≡ whole (end_of 32 f.variables) / 4 = length-map-range_with_len _ 0 _ in
      good_by (room_of m.functions f).size (reference_words f.variables) (omega (arith, s)) (omega (arith, l, v, g))
    where
      whole_behind : (f : Function) → whole (end_of 32 f.variables) ≤ (room_of m.functions f).made
      whole_behind f = omega arith

  print_good : Good (print_desc m.functions)
  print_good =
      let s = printed_small m.functions m.functions w.small.frames in
      let l = all_least m.functions in
      good_by (most_of_all m.functions) (replicate 8 false ++ true ∷ []) (omega (arith, s)) (omega (arith, l))

  frames_good : (fs : List Function) → ((n : ℕ) (f : Function) → slice_get fs n ≡ Some f → Good (frame_desc m.functions f))
      → Each Good (map (frame_desc m.functions) fs)
  frames_good [] h = tt
  frames_good (f ∷ fs) h = (h 0 f refl, frames_good fs (λ n g e. h (suc n) g e))

  pub types_good : Each Good (data_desc m ∷ (map (frame_desc m.functions) m.functions ++ print_desc m.functions ∷ []))
  types_good = (
    data_good,
    each_both Good (map (frame_desc m.functions) m.functions) (print_desc m.functions ∷ []) (frames_good m.functions frame_good)
        (print_good, tt),
  )

-- ---- types

pub types_can : (place : ℕ) (ts : List TypeDesc) → Each Good ts → place + length ts < 536870912 → AllCan (types_parts place ts)
unfolding type_parts
types_can place [] h l = tt
types_can place (t ∷ ts) h l = (
  natural_can place (omega (arith, l)),
  (
    natural_can t.size h.0.size,
    (natural_can (length t.map) h.0.long, (tt, types_can (suc place) ts h.1 (omega (arith, l)))),
  ),
)

later_stand : (size place : ℕ) (ts : List TypeDesc) → 0 < place → Each Good ts → types_stand size place ts ≡ true
later_stand size place [] l h = refl
later_stand size place (t ∷ ts) l h =
    let over : (place == 0) ≡ false = ne_eqb place 0 (λ e. omega (arith, e, l)) in
    and_from (size_stands size place t.size && map_stands (t.size / 4) t.map) (types_stand size (suc place) ts)
    (and_from (size_stands size place t.size) (map_stands (t.size / 4) t.map)
    (ap (λ b. not b || size == 0 || t.size == size) over) h.0.marks)
    (later_stand size (suc place) ts (omega (arith, l)) h.1)

pub types_right : (t : TypeDesc) (ts : List TypeDesc) → Each Good (t ∷ ts) → types_stand t.size 0 (t ∷ ts) ≡ true
types_right t ts h =
    and_from (size_stands t.size 0 t.size && map_stands (t.size / 4) t.map) (types_stand t.size 1 ts)
    (and_from (size_stands t.size 0 t.size) (map_stands (t.size / 4) t.map)
    (ap (λ b. not (0 == 0) || t.size == 0 || b) (eq-eqb t.size t.size refl) ∙ or-true (not (0 == 0) || t.size == 0)) h.0.marks)
    (later_stand t.size 1 ts (omega arith) h.1)
