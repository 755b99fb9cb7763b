-- What is small where a function stands.
use Rattle.std.proofs.Common.{◌≡◌, ℕ, zero, suc, ◌+◌, ◌-◌, ◌*◌, ◌<◌, ◌≤◌, true, List, [], ◌∷◌, length, take, Some, refl, ap, arith}
use Rattle.std.specs.Prelude.{slice_get}
use Rattle.limbo_values.specs.declared.number.Kind.{Kind}
use Rattle.limbo_values.specs.declared.number.Kind.TheVariants.{Byte, Int, Big}
use Rattle.slot_code.specs.Code.{Spot, Variable, Global, Temporary, Argument, Function, Module}
use Rattle.slot_code.specs.Layout.{end_of}
use Rattle.dis_objects.specs.Frames.{Callee, Room, room_from, room_of, whole, variable_place, temporary_place, ready_place, block_place}
use Rattle.dis_objects.specs.Frames.{argument_bytes, all_bytes, most_bytes, spot_count, count}
use Rattle.dis_objects.specs.Code.{start, within_word, global_place}
use Rattle.dis_objects.specs.Objects.{entry_size, base_of, data_place, zeros_place, init_of, most_instructions, context}
use Rattle.dis_objects.specs.Sites.{code_size, entries_from, places_from}
use Rattle.dis_objects.proofs.Layouts.{place_before, taken_few}
use Rattle.dis_objects.proofs.Walks.{Within, room_within, whole_grows}
use Rattle.dis_generation.specs.Site.{Stands, IsReady}
use Rattle.dis_generation.proofs.Ready.{code_long, zeros_near, ready_few, ready_stands, ready_small, place_small, argument_within, within_few}
use Rattle.valid_objects.specs.Writable.{IsWritable}

pub there_within : {A : Type 0} (xs : List A) (n : ℕ) (x : A) → slice_get xs n ≡ Some x → n < length xs
there_within [] n x e = absurd cc
there_within (y ∷ xs) zero x e = omega arith
there_within (y ∷ xs) (suc n) x e = let r = there_within xs n x e in omega (arith, r)

-- What is made stands behind the variables.
made_behind : (start bigs ints bytes arguments : ℕ) → start ≤ (room_from start bigs ints bytes arguments).made
made_behind start bigs ints bytes arguments = omega arith

module _ (m : Module) (w : IsWritable m) where
  pub whole_short : code_size m.functions ≤ most_instructions
  whole_short =
      let l = code_long m w.proper (init_of m) in
      let s = w.short in
      omega (arith, l, s)

  pub near : zeros_place m ≤ 17039368
  near = zeros_near m w.proper w.small whole_short

  ready : IsReady m (zeros_place m) (entries_from (entry_size m.functions) m.functions)
  ready = record {
    proper = w.proper;
    small = w.small;
    short = whole_short;
    entries_are = refl;
    zeros_are = refl;
    near = let n = near in omega (arith, n);
  }

  pub functions_few : length m.functions ≤ most_instructions
  functions_few = ready_few m (zeros_place m) (entries_from (entry_size m.functions) m.functions) ready

  pub entry_near : (k : ℕ) → base_of m.functions k ≤ 1048576
  entry_near k = ready_small m (zeros_place m) (entries_from (entry_size m.functions) m.functions) ready k

  pub global_near : (k : Kind) (x : ℕ) → global_place m.globals k x < 536870912
  global_near k x =
      let t = taken_few x m.globals in
      let s = w.small.globals in
      let f = within_few k in
      omega (arith, t, s, f)

  module _ (n : ℕ) (f : Function) (e : slice_get m.functions n ≡ Some f) where
    abbrev R : Room
    R = room_of m.functions f

    inside : Within m.functions f R
    inside = room_within m.functions f

    size_small : R.size ≤ 65536
    size_small = w.small.frames n f e

    stands : Stands m n f R (zeros_place m) (entries_from (entry_size m.functions) m.functions) (places_from (base_of m.functions n) f.code)
    stands =
        ready_stands m (zeros_place m) (entries_from (entry_size m.functions) m.functions) ready n f R (places_from (base_of m.functions n) f.code) e refl
        refl

    pub place_near : (pc : ℕ) → base_of m.functions n + start f.code pc ≤ 1048576
    place_near pc =
        place_small m n f R (zeros_place m) (entries_from (entry_size m.functions) m.functions) (places_from (base_of m.functions n) f.code)
        stands pc

    pub made_near : R.made < 65536
    made_near = let a = inside.made in let s = size_small in omega (arith, a, s)

    pub variable_near : (x : ℕ) → variable_place f x < 65536
    variable_near x =
        let b = place_before 32 f.variables x in
        let g = whole_grows (end_of 32 f.variables) in
        let a =
        made_behind (whole (end_of 32 f.variables)) (count Big f.code) (count Int f.code) (count Byte f.code) (most_bytes m.functions [] f.code)
        in
        let s = made_near in
        omega (arith, b, g, a, s)

    pub temporary_near : (k : Kind) (d : ℕ) → spot_count k (Temporary k d) ≤ count k f.code → temporary_place R k d < 65536
    temporary_near Byte d h = let a = inside.bytes in let s = size_small in omega (arith, a, s, h)
    temporary_near Int d h = let a = inside.ints in let s = size_small in omega (arith, a, s, h)
    temporary_near Big d h = let a = inside.bigs in let s = size_small in omega (arith, a, s, h)

    pub block_near : (cs : List Callee) → all_bytes m.functions cs ≤ most_bytes m.functions [] f.code → block_place m.functions R cs ≤ 65536
    block_near cs h = let a = inside.arguments in let s = size_small in omega (arith, a, s, h)

    pub ready_near : (c : Callee) (cs : List Callee) (i : ℕ) → all_bytes m.functions (c ∷ cs) ≤ most_bytes m.functions [] f.code
        → ready_place m.functions R (c ∷ cs) i ≤ 65536
    ready_near c cs i h =
        let a = inside.arguments in
        let s = size_small in
        let b = argument_within m.functions c i in
        omega (arith, a, s, b, h)
