-- What is small where code is made.
use Rattle.std.proofs.Common.{◌≡◌, ℕ, suc, ◌+◌, ◌-◌, ◌*◌, ◌<◌, ◌≤◌, List, [], ◌∷◌, ◌++◌, length, map, get_or, Option, Some, None, refl, sym}
use Rattle.std.proofs.Common.{ap, ◌∙◌, arith, length-append, subst}
use Rattle.std.specs.Prelude.{slice_get}
use Rattle.limbo_values.specs.declared.number.Kind.{Kind}
use Rattle.limbo_values.specs.declared.number.Kind.TheVariants.{Byte, Int, Big}
use Rattle.slot_code.specs.Code.{Function, Module}
use Rattle.slot_code.specs.Layout.{end_of, place_in}
use Rattle.dis_objects.specs.Frames.{Callee, Calls, Prints, Room, room_of, argument_bytes, argument_place, first_place, first_number}
use Rattle.dis_objects.specs.Frames.{parameters, most_bytes, temporary_place, count, printed_kinds}
use Rattle.dis_objects.specs.Code.{start, sizes, data_bytes, insts_code, within_word}
use Rattle.dis_objects.specs.Objects.{entry_size, base_of, function_data, functions_code, context, data_place, zeros_place}
use Rattle.dis_objects.specs.Objects.{most_instructions, entry, entry_length, begins, code_instructions, init_of}
use Rattle.dis_objects.specs.Proper.{IsProper, GoesOn}
use Rattle.dis_objects.specs.Words.{AllSmall}
use Rattle.dis_objects.specs.Sites.{functions_size, code_size, places_from}
use Rattle.dis_objects.proofs.Layouts.{place_before, place_behind_first}
use Rattle.dis_objects.proofs.Walks.{Within, room_within, whole_grows}
use Rattle.dis_generation.specs.Site.{Stands, IsReady}
use Rattle.dis_generation.proofs.Emission.{places_long, places_at, entries_long, entries_at, sizes_take, before_whole, function_within}
use Rattle.dis_generation.proofs.Emission.{AllSized, function_sized, one_each, insts_length, code_few}
use Rattle.dis_generation.proofs.Amounts.{functions_data_few}

-- ---- arguments

-- An argument stands among the bytes of all of them.
pub argument_first : (fs : List Function) (c : Callee) (n : ℕ) → first_place c ≤ argument_place fs c n
argument_first fs (Calls f) n = place_behind_first 32 (parameters fs (Calls f)) (0 + n)
argument_first fs (Prints ps) n =
    let e : 1 + n ≡ suc n = omega arith in
    subst (λ k. first_place (Prints ps) ≤ place_in 32 (parameters fs (Prints ps)) k) (sym e)
    (place_behind_first 36 (map Some (printed_kinds ps)) n)

pub argument_within : (fs : List Function) (c : Callee) (n : ℕ) → argument_place fs c n - first_place c ≤ argument_bytes fs c
argument_within fs c n =
    let a = place_before 32 (parameters fs c) (first_number c + n) in
    let w = whole_grows (end_of 32 (parameters fs c)) in
    omega (arith, a, w)

module _ (m : Module) (number : ℕ) (f : Function) (room : Room) (zeros : ℕ) (entries places : List ℕ)
    (h : Stands m number f room zeros entries places) where
  sized : AllSized [] f.code
  sized = function_sized m f h.proper

  pub code_short : length f.code ≤ 1048576
  code_short = let w = function_within m.functions number f h.there in let o = one_each [] f.code sized in let s = h.short in
      omega (arith, w, o, s)

  pub goes_within : (cs : List Callee) (pc : ℕ) → GoesOn m f cs pc → pc < length f.code
  goes_within cs pc g = g.within

  pub places_length : length places ≡ suc (length f.code)
  places_length = ap length h.places_are ∙ places_long (base_of m.functions number) f.code

  pub place_read : (pc d : ℕ) → pc ≤ length f.code → get_or places pc d ≡ base_of m.functions number + start f.code pc
  place_read pc d le = ap (λ ps. get_or ps pc d) h.places_are ∙ places_at (base_of m.functions number) f.code pc d le

  pub place_small : (pc : ℕ) → base_of m.functions number + start f.code pc ≤ 1048576
  place_small pc = let w = function_within m.functions number f h.there in let t = sizes_take pc f.code in let s = h.short in
      omega (arith, w, t, s)

  pub entries_length : length entries ≡ length m.functions
  entries_length = ap length h.entries_are ∙ entries_long (entry_size m.functions) m.functions

  pub entry_read : (k d : ℕ) → k < length m.functions → get_or entries k d ≡ base_of m.functions k
  entry_read k d lt = ap (λ es. get_or es k d) h.entries_are ∙ entries_at (entry_size m.functions) m.functions k d lt

  pub entry_small : (k : ℕ) → base_of m.functions k ≤ 1048576
  entry_small k = let w = before_whole m.functions k in let s = h.short in omega (arith, w, s)

  -- the regions of the frame
  pub within : Within m.functions f room
  within = subst (Within m.functions f) (sym h.room_is) (room_within m.functions f)

  pub room_small : room.size ≤ 65536
  room_small = let e = ap (λ (r : Room). r.size) h.room_is in let s = h.small in omega (arith, e, s)

  pub variables_small : end_of 32 f.variables ≤ 65536
  variables_small = let w = within.variables in let s = room_small in omega (arith, w, s)

  pub made_small : room.made ≤ 65536
  made_small = let w = within.made in let s = room_small in omega (arith, w, s)

  pub temporary_small : (k : Kind) (n : ℕ) → suc n ≤ count k f.code → temporary_place room k n ≤ 65536
  temporary_small Byte n le = let w = within.bytes in let s = room_small in omega (arith, w, s, le)
  temporary_small Int n le = let w = within.ints in let s = room_small in omega (arith, w, s, le)
  temporary_small Big n le = let w = within.bigs in let s = room_small in omega (arith, w, s, le)

  pub block_small : (n : ℕ) → n ≤ most_bytes m.functions [] f.code → room.arguments + n ≤ 65536
  block_small n le = let w = within.arguments in let s = room_small in omega (arith, w, s, le)

  pub most_small : most_bytes m.functions [] f.code ≤ 65536
  most_small = let b = block_small (most_bytes m.functions [] f.code) (omega arith) in omega (arith, b)

-- ---- the module

proper_code : (m : Module) → IsProper m → (n : ℕ) (f : Function) → slice_get m.functions n ≡ Some f → AllSized [] f.code
proper_code m h n f e = function_sized m f (h.functions n f e)

functions_few : (fs : List Function) → ((n : ℕ) (f : Function) → slice_get fs n ≡ Some f → 0 < sizes f.code) → length fs ≤ functions_size fs
functions_few [] h = omega arith
functions_few (f ∷ fs) h =
    let r = functions_few fs (λ n g e. h (suc n) g e) in
    let s = h 0 f refl in
    omega (arith, r, s)

-- The data end far below what places can be.
pub zeros_near : (m : Module) → IsProper m → AllSmall m → code_size m.functions ≤ most_instructions → zeros_place m ≤ 17039368
zeros_near m proper small short =
    let d = functions_data_few m.functions m.functions (proper_code m proper) in
    let g = small.globals in
    omega (arith, d, g, short)

module _ (m : Module) (zeros : ℕ) (entries : List ℕ) (h : IsReady m zeros entries) where
  pub ready_few : length m.functions ≤ most_instructions
  ready_few =
      let some : (n : ℕ) (f : Function) → slice_get m.functions n ≡ Some f → 0 < sizes f.code =
      λ n f e. let o = one_each [] f.code (proper_code m h.proper n f e) in let s = (h.proper.functions n f e).some in omega (arith, o, s) in
      let r = functions_few m.functions some in
      let s = h.short in omega (arith, r, s)

  pub ready_near : zeros ≤ 17039368
  ready_near = let n = zeros_near m h.proper h.small h.short in let e = h.zeros_are in omega (arith, n, e)

  pub ready_stands : (k : ℕ) (f : Function) (room : Room) (places : List ℕ) → slice_get m.functions k ≡ Some f →
      room ≡ room_of m.functions f → places ≡ places_from (base_of m.functions k) f.code → Stands m k f room zeros entries places
  ready_stands k f room places e r p = record {
    there = e;
    proper = h.proper.functions k f e;
    small = h.small.frames k f e;
    globals = h.small.globals;
    short = h.short;
    few = ready_few;
    entries_are = h.entries_are;
    places_are = p;
    room_is = r;
    zeros_are = h.zeros_are;
    near = let n = ready_near in omega (arith, n);
  }

  pub ready_length : length entries ≡ length m.functions
  ready_length = ap length h.entries_are ∙ entries_long (entry_size m.functions) m.functions

  pub ready_entry : (k d : ℕ) → k < length m.functions → get_or entries k d ≡ base_of m.functions k
  ready_entry k d lt = ap (λ es. get_or es k d) h.entries_are ∙ entries_at (entry_size m.functions) m.functions k d lt

  pub ready_small : (k : ℕ) → base_of m.functions k ≤ 1048576
  ready_small k = let w = before_whole m.functions k in let s = h.short in omega (arith, w, s)

  pub ready_end : (k : ℕ) (f : Function) → slice_get m.functions k ≡ Some f → base_of m.functions k + sizes f.code ≤ most_instructions
  ready_end k f e = let w = function_within m.functions k f e in let s = h.short in omega (arith, w, s)

-- ---- how long the code of a module is

functions_long : (m : Module) (n at : ℕ) (fs : List Function) → ((k : ℕ) (f : Function) → slice_get fs k ≡ Some f → AllSized [] f.code) →
    length (functions_code m n at fs) ≡ functions_size fs
functions_long m n at [] h = refl
functions_long m n at (f ∷ fs) h =
    let one = insts_length (context m n f) 0 at [] f.code (h 0 f refl) in
    let next = at + data_bytes (function_data m.functions f) in
    let r = functions_long m (suc n) next fs (λ k g e. h (suc k) g e) in
    let a = length-append (insts_code (context m n f) 0 at [] f.code) (functions_code m (suc n) next fs) in
    omega (arith, one, r, a)

entry_long : (fs : List Function) (o : Option ℕ) → length (entry fs o) ≡ entry_length o
entry_long fs None = refl
entry_long fs (Some n) = refl

-- The code of a module has as many instructions as were counted.
pub code_long : (m : Module) → IsProper m → (o : Option ℕ) → length (entry m.functions o ++ functions_code m 0 (data_place m) m.functions)
    ≡ entry_length o + functions_size m.functions
code_long m proper o =
    let e = entry_long m.functions o in
    let f = functions_long m 0 (data_place m) m.functions (proper_code m proper) in
    let a = length-append (entry m.functions o) (functions_code m 0 (data_place m) m.functions) in
    omega (arith, e, f, a)

all_few : (fs : List Function) → ((k : ℕ) (f : Function) → slice_get fs k ≡ Some f → AllSized [] f.code) →
    functions_size fs + 4 ≤ 4 * code_instructions fs
all_few [] h = omega arith
all_few (f ∷ fs) h =
    let a = code_few f.code (h 0 f refl) in
    let r = all_few fs (λ k g e. h (suc k) g e) in
    omega (arith, a, r)

entry_short : (o : Option ℕ) → entry_length o ≤ 3
entry_short None = omega arith
entry_short (Some n) = omega arith

pub is_few : (m : Module) → IsProper m → length (entry m.functions (init_of m) ++ functions_code m 0 (data_place m) m.functions)
    ≤ 4 * code_instructions m.functions
is_few m proper =
    let l = code_long m proper (init_of m) in
    let a = all_few m.functions (proper_code m proper) in
    let e = entry_short (init_of m) in
    omega (arith, l, a, e)

-- ---- the entry, and a byte in its word

pub entry_some : (fs : List Function) (o : Option ℕ) (n base : ℕ) → o ≡ Some n → base ≡ base_of fs n → begins base ≡ entry fs o
entry_some fs o n base is b = ap begins b ∙ ap (entry fs) (sym is)

pub within_few : (k : Kind) → within_word k ≤ 3
within_few Byte = omega arith
within_few Int = omega arith
within_few Big = omega arith
