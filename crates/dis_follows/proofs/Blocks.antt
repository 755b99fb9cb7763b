-- The arguments that are being made ready, in their region of a frame.
use Rattle.std.proofs.Common.{◌≡◌, ℕ, zero, suc, ◌+◌, ◌-◌, ◌≤◌, pos, List, [], ◌∷◌, map, Some, ap, ◌∙◌, arith}
use Rattle.std.specs.Prelude.{slice_get}
use Rattle.limbo_values.specs.declared.number.Kind.{Kind}
use Rattle.limbo_typed.specs.declared.print.Piece.{Piece}
use Rattle.slot_code.specs.Code.{Module}
use Rattle.slot_code.specs.Layout.{number_size, place_in, end_of}
use Rattle.slot_code.specs.Machine.{Made}
use Rattle.dis_meaning.specs.Words.{Word}
use Rattle.dis_meaning.specs.Numbers.{number_at}
use Rattle.dis_objects.specs.Frames.{Callee, Calls, Prints, Room, whole, linkage_bytes, variable_place, block_place, first_place}
use Rattle.dis_objects.specs.Frames.{argument_bytes, all_bytes, parameters_of, print_parameters, printed_kinds}
use Rattle.dis_follows.specs.Stands.{HasRoom, AllReady}
use Rattle.dis_follows.proofs.Places.{in_least, within_end}
use Rattle.dis_follows.proofs.Rooms.{whole_least, variable_first}
use Rattle.dis_follows.proofs.Written.{holds_on}

-- Numbers between two places are as they were.
abbrev pub SameIn : (words after : List Word) (from upto : ℕ) → Type 0
SameIn words after from upto =
    (j : Kind) (bt : ℕ) → from ≤ bt → bt + number_size j ≤ upto → number_at j after (pos bt) ≡ number_at j words (pos bt)

pub get_map : (ks : List Kind) (j : ℕ) (k : Kind) → slice_get ks j ≡ Some k → slice_get (map Some ks) j ≡ Some (Some k)
get_map [] j k e = absurd cc
get_map (i ∷ ks) zero k e = let same : i ≡ k = cc in ap (λ x. Some (Some x)) same
get_map (i ∷ ks) (suc j) k e = get_map ks j k e

pub printed_place : (ps : List Piece) (j : ℕ) → place_in linkage_bytes (print_parameters ps) (1 + j)
    ≡ place_in 36 (map Some (printed_kinds ps)) j
printed_place ps j = let e : 1 + j ≡ suc j = omega arith in ap (λ n. place_in linkage_bytes (print_parameters ps) n) e

module _ (m : Module) where
  -- A number of the arguments lies between these places of the callee's frame.
  pub record Lies (c : Callee) (k : Kind) (at : ℕ) : Type 0 where
    pub first : first_place c ≤ at
    pub last : at + number_size k ≤ first_place c + argument_bytes m.functions c

  pub lies : (c : Callee) (j : ℕ) (k : Kind) (at : ℕ) → HasRoom m c j k at → Lies c k at
  lies (Calls n) j k at h =
      let f = h.0 in
      let place : at ≡ variable_place f j = h.3 in
      let first : 32 ≤ variable_place f j = variable_first f j in
      let bytes : argument_bytes m.functions (Calls n) ≡ whole (end_of linkage_bytes (parameters_of (Some f))) - 32 =
      ap (λ o. whole (end_of linkage_bytes (parameters_of o)) - 32) h.1 in
      let last = h.4 in
      record { first = omega (arith, place, first); last = omega (arith, bytes, last, place, first) }
  lies (Prints ps) j k at h =
      let e = get_map (printed_kinds ps) j k h.0 in
      let first : 36 ≤ place_in 36 (map Some (printed_kinds ps)) j = in_least 36 (map Some (printed_kinds ps)) j in
      let last = within_end 36 (map Some (printed_kinds ps)) j (Some k) e in
      let place : at ≡ place_in 36 (map Some (printed_kinds ps)) j = h.1 ∙ printed_place ps j in
      let more = whole_least (end_of 36 (map Some (printed_kinds ps))) in
      record { first = omega (arith, place, first); last = omega (arith, place, last, more, first) }

  pub all_same : (words after : List Word) (r : Room) (cs : List Callee) (mades : List Made)
      → SameIn words after r.arguments (r.arguments + all_bytes m.functions cs) → AllReady m words r cs mades → AllReady m after r cs mades
  all_same words after r [] [] same h = tt
  all_same words after r [] (made ∷ mades) same h = absurd h
  all_same words after r (c ∷ cs) [] same h = absurd h
  all_same words after r (c ∷ cs) (made ∷ mades) same h = (
    record {
      each = λ j k at room.
          let l = lies c j k at room in
          let a = l.first in
          let b = l.last in
          holds_on k words after (block_place m.functions r cs + (at - first_place c)) (made.arguments j)
          (same k (block_place m.functions r cs + (at - first_place c)) (omega arith) (omega (arith, a, b)))
          (h.0.each j k at room);
      given = h.0.given;
    },
    all_same words after r cs mades (λ j bt a b. same j bt a (omega (arith, b))) h.1,
  )
