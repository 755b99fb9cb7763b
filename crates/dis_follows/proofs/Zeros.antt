-- What is begun has zeros for its arguments.
use Rattle.std.proofs.Common.{◌≡◌, ℕ, zero, suc, ◌+◌, ◌-◌, ◌<◌, ◌≤◌, pos, ◌%◌, ◌/◌, ◌*◌, Bool, inl, inr, List, [], ◌∷◌, length, map, Option}
use Rattle.std.proofs.Common.{Some, refl, sym, ap, ◌∙◌, subst, arith, if◌then◌else◌}
use Rattle.std.specs.Prelude.{◌⊎◌, ◌==◌, slice_get, slice_index}
use Rattle.std.proofs.lemmas.Int.{ints}
use Rattle.limbo_values.specs.declared.number.Kind.{Kind}
use Rattle.limbo_values.specs.declared.number.Kind.TheVariants.{Byte, Int, Big}
use Rattle.limbo_values.specs.Numbers.{InRange}
use Rattle.limbo_typed.specs.declared.print.Piece.{Piece}
use Rattle.system_model.specs.Values.{zero_value}
use Rattle.slot_code.specs.Code.{Function, Module}
use Rattle.slot_code.specs.Layout.{number_size, size_of, place_for, place_in, end_of}
use Rattle.slot_code.specs.Machine as machine
use Rattle.slot_code.specs.Machine.{Made, no_arguments}
use Rattle.dis_meaning.specs.Words.{Word, Plain, Found, Wrong, ◌>>=◌, type_check, or_wrong, number_in}
use Rattle.dis_meaning.specs.Numbers.{bytes_of, joined, number_at}
use Rattle.dis_objects.specs.Frames.{Callee, Calls, Prints, Room, room_of, linkage_bytes, variable_place, temporary_place, block_place}
use Rattle.dis_objects.specs.Frames.{first_place, argument_bytes, all_bytes, most_bytes, printed_kinds}
use Rattle.dis_follows.specs.Numbers.{Holds, IsPlain}
use Rattle.dis_follows.specs.Stands.{HasRoom, IsGiven, ArePlain, HasNumbers}
use Rattle.dis_follows.proofs.Stores.{same_words}
use Rattle.dis_follows.proofs.Rooms.{whole_least, variable_last, temporary_outside}
use Rattle.dis_follows.proofs.Written.{holds_on}
use Rattle.dis_follows.proofs.Blocks.{lies, all_same, printed_place, get_map}
use Rattle.dis_follows.proofs.Moved.{Put}

-- ---- the number 0, of each kind

zero_byte : (n : ℕ) → n < 4 → slice_index (bytes_of (pos 0)) n ≡ 0
zero_byte zero l = refl
zero_byte (suc zero) l = refl
zero_byte (suc (suc zero)) l = refl
zero_byte (suc (suc (suc zero))) l = refl
zero_byte (suc (suc (suc (suc n)))) l = absurd (omega (arith, l))

pub is_zero : (k : Kind) (words : List Word) (at : ℕ) → ((k ≡ Byte → ⊥) → at % 4 ≡ 0)
    → ((i : ℕ) → at < 4 * i + 4 → 4 * i < at + number_size k → slice_get words i ≡ Some (Plain (pos 0)))
    → number_at k words (pos at) ≡ Found (pos 0)
is_zero Byte words at aligned h =
    ap (λ o. (or_wrong type_check o >>= number_in) >>= λ z. Found (pos (slice_index (bytes_of z) (at % 4))))
    (h (at / 4) (omega arith) (omega arith))
    ∙ ap (λ n. Found (pos n)) (zero_byte (at % 4) (omega arith))
is_zero Int words at aligned h =
    let a : at % 4 ≡ 0 = aligned (λ e. cc) in
    ap (λ n. ((if n == 0 then Found (at / 4) else Wrong type_check) >>= λ k. or_wrong type_check (slice_get words k)) >>= number_in) a
    ∙ ap (λ o. or_wrong type_check o >>= number_in) (h (at / 4) (omega arith) (omega arith))
is_zero Big words at aligned h =
    let a : at % 4 ≡ 0 = aligned (λ e. cc) in
    ap (λ n. (if n == 0 then Found (at / 4) else Wrong type_check) >>= λ k. (or_wrong type_check (slice_get words k) >>= number_in)
    >>= λ high. (or_wrong type_check (slice_get words (suc k)) >>= number_in) >>= λ low. Found (joined high low)) a
    ∙ ap (λ o. (or_wrong type_check o >>= number_in)
    >>= λ high. (or_wrong type_check (slice_get words (suc (at / 4))) >>= number_in) >>= λ low. Found (joined high low))
    (h (at / 4) (omega arith) (omega arith))
    ∙ ap (λ o. (or_wrong type_check o >>= number_in) >>= λ low. Found (joined (pos 0) low))
    (h (suc (at / 4)) (omega (arith, a)) (omega (arith, a)))

pub zero_within : (k : Kind) → InRange k (pos 0)
zero_within Byte = record { above = omega (arith, ints); below = omega (arith, ints) }
zero_within Int = record { above = omega (arith, ints); below = omega (arith, ints) }
zero_within Big = record { above = omega (arith, ints); below = omega (arith, ints) }

-- ---- numbers other than bytes begin with a word

pub for_aligned : (k : Kind) (from : ℕ) → (k ≡ Byte → ⊥) → place_for (Some k) from % 4 ≡ 0
for_aligned Byte from ne = absurd (ne refl)
for_aligned Int from ne = omega arith
for_aligned Big from ne = omega arith

pub in_aligned : (k : Kind) (from : ℕ) (ks : List (Option Kind)) (n : ℕ) → slice_get ks n ≡ Some (Some k) → (k ≡ Byte → ⊥)
    → place_in from ks n % 4 ≡ 0
in_aligned k from [] n e ne = absurd cc
in_aligned k from (j ∷ ks) zero e ne =
    let same : j ≡ Some k = cc in subst (λ i. place_for i from % 4 ≡ 0) (sym same) (for_aligned k from ne)
in_aligned k from (j ∷ ks) (suc n) e ne = in_aligned k (place_for j from + size_of j) ks n e ne

module _ (m : Module) where
  room_aligned : (c : Callee) (j : ℕ) (k : Kind) (at : ℕ) → HasRoom m c j k at → (k ≡ Byte → ⊥) → at % 4 ≡ 0
  room_aligned (Calls n) j k at h ne = ap (λ n. n % 4) h.3 ∙ in_aligned k linkage_bytes h.0.variables j h.2 ne
  room_aligned (Prints ps) j k at h ne =
      ap (λ n. n % 4) (h.1 ∙ printed_place ps j) ∙ in_aligned k 36 (map Some (printed_kinds ps)) j (get_map (printed_kinds ps) j k h.0) ne

  first_aligned : (c : Callee) → first_place c % 4 ≡ 0
  first_aligned (Calls n) = refl
  first_aligned (Prints ps) = refl

  pub bytes_aligned : (c : Callee) → argument_bytes m.functions c % 4 ≡ 0
  bytes_aligned (Calls n) = omega arith
  bytes_aligned (Prints ps) = omega arith

  all_aligned : (cs : List Callee) → all_bytes m.functions cs % 4 ≡ 0
  all_aligned [] = refl
  all_aligned (c ∷ cs) = omega (arith, bytes_aligned c, all_aligned cs)

  module _ (f : Function) where
    abbrev R : Room
    R = room_of m.functions f

    pub block_aligned : (cs : List Callee) → block_place m.functions R cs % 4 ≡ 0
    block_aligned cs = let a = all_aligned cs in omega (arith, a)

    -- ---- what is begun

    module _ (cs : List Callee) (c : Callee) (ps : List Piece) (g : machine.Frame) (words vs : List Word) (b : ℕ)
        (h : HasNumbers m f cs g words)
        (fits : all_bytes m.functions (c ∷ cs) ≤ most_bytes m.functions [] f.code) (at : block_place m.functions R cs ≡ 4 * b)
        (many : argument_bytes m.functions c ≡ 4 * length vs)
        (zeros : (i : ℕ) → i < length vs → slice_get vs i ≡ Some (Plain (pos 0))) (p : Put words b vs)
        (given : IsGiven m c (record { arguments = no_arguments; format = ps })) where
      abbrev B : ℕ
      B = block_place m.functions R cs

      -- Numbers in front of it and behind it are as they were.
      in_front : (k : Kind) (bt : ℕ) → bt + number_size k ≤ B → number_at k p.after (pos bt) ≡ number_at k words (pos bt)
      in_front k bt l = same_words k p.after words bt (λ i low high. p.others i (inl (omega (arith, l, high, at))))

      behind : (k : Kind) (bt : ℕ) → B + argument_bytes m.functions c ≤ bt → number_at k p.after (pos bt) ≡ number_at k words (pos bt)
      behind k bt l = same_words k p.after words bt (λ i low high. p.others i (inr (omega (arith, l, low, at, many))))

      -- Within it are zeros.
      zero_in : (i : ℕ) → b ≤ i → i < b + length vs → slice_get p.after i ≡ Some (Plain (pos 0))
      zero_in i l l' =
          let e : i ≡ b + (i - b) = omega (arith, l) in
          ap (slice_get p.after) e ∙ p.each (i - b) (omega (arith, l, l')) ∙ zeros (i - b) (omega (arith, l, l'))

      still : (marks : List Bool) → ArePlain marks words → ArePlain marks p.after
      still marks plain j w e unmarked = go (near j)
        where
          near : (j : ℕ) → ((j < b) ⊎ (b + length vs ≤ j)) ⊎ ((b ≤ j) × (j < b + length vs))
          near j = by (Rattle.dis_follows.proofs.Places.which j b) (Rattle.dis_follows.proofs.Places.which j (b + length vs))
            where
              by : (j ≡ b) ⊎ ((j < b) ⊎ (b < j)) → (j ≡ b + length vs) ⊎ ((j < b + length vs) ⊎ (b + length vs < j))
                  → ((j < b) ⊎ (b + length vs ≤ j)) ⊎ ((b ≤ j) × (j < b + length vs))
              by (inr (inl l)) q = inl (inl l)
              by x (inl e) = inl (inr (omega (arith, e)))
              by x (inr (inr l)) = inl (inr (omega (arith, l)))
              by (inl e) (inr (inl l)) = inr (omega (arith, e), l)
              by (inr (inr l')) (inr (inl l)) = inr (omega (arith, l'), l)

          go : ((j < b) ⊎ (b + length vs ≤ j)) ⊎ ((b ≤ j) × (j < b + length vs)) → IsPlain w
          go (inl out) = plain j w (sym (p.others j out) ∙ e) unmarked
          go (inr within) = let same : Some (Plain (pos 0)) ≡ Some w = sym (zero_in j within.0 within.1) ∙ e in
              let same' : Plain (pos 0) ≡ w = cc in subst IsPlain same' tt

      each : (j : ℕ) (k : Kind) (bt : ℕ) → HasRoom m c j k bt → Holds k p.after (B + (bt - first_place c)) zero_value
      each j k bt room =
          let l = lies m c j k bt room in
          let low = l.first in
          let high = l.last in
          record {
            number = pos 0;
            is = refl;
            range = zero_within k;
            there = is_zero k p.after (B + (bt - first_place c))
                (λ ne. let a = room_aligned c j k bt room ne in let q = first_aligned c in omega (arith, a, q, at, low))
                (λ i from upto. zero_in i (omega (arith, at, from)) (omega (arith, at, many, upto, low, high)));
          }

      pub begun : HasNumbers m f (c ∷ cs) (record g { made = (record { arguments = no_arguments; format = ps }) ∷ g.made }) p.after
      begun = record {
        long = ap (λ n. 4 * n) p.long ∙ h.long;
        plain = still _ h.plain;
        many = h.many;
        variables = λ y k e. holds_on k words p.after (variable_place f y) _
            (in_front k (variable_place f y) (omega (arith, variable_last f y k e, whole_least (end_of linkage_bytes f.variables))))
            (h.variables y k e);
        temporaries = λ k n l. holds_on k words p.after _ _ (out k n (temporary_outside m.functions f k n l)) (h.temporaries k n l);
        made = (
          record { each = each; given = given },
          all_same m words p.after R cs g.made (λ k bt a e. in_front k bt e) h.made,
        );
      }
        where
          out : (k : Kind) (n : ℕ)
              → (temporary_place R k n + number_size k ≤ R.made) ⊎ (R.arguments + most_bytes m.functions [] f.code ≤ temporary_place R k n)
              → number_at k p.after (pos (temporary_place R k n)) ≡ number_at k words (pos (temporary_place R k n))
          out k n (inl l) = in_front k (temporary_place R k n) (omega (arith, l))
          out k n (inr l) = behind k (temporary_place R k n) (omega (arith, l, fits))
