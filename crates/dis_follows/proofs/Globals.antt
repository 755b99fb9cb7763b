-- A number is written to a variable of the module.
use Rattle.std.proofs.Common.{◌≡◌, ℕ, zero, suc, ◌+◌, ◌<◌, ◌≤◌, ℤ, pos, ◌*◌, ◌/◌, ◌%◌, Bool, true, false, List, [], ◌∷◌, length, Some, refl}
use Rattle.std.proofs.Common.{sym, ap, ◌∙◌, subst, arith, inl, inr, if◌then◌else◌}
use Rattle.std.specs.Prelude.{◌⊎◌, ◌==◌, slice_get, slice_set, slice_index_or, take}
use Rattle.std.proofs.lemmas.Option.{same_Some}
use Rattle.std.proofs.lemmas.Bool.{eqb-true}
use Rattle.limbo_values.specs.declared.number.Kind.{Kind}
use Rattle.limbo_values.specs.declared.number.Kind.TheVariants.{Byte, Int, Big}
use Rattle.limbo_values.specs.Numbers.{InRange}
use Rattle.system_model.specs.Values.{Num, zero_value}
use Rattle.typed_meaning.specs.Values.{number_of}
use Rattle.typed_meaning.specs.World as program
use Rattle.typed_meaning.specs.World.{instance_of, global_of, with_global}
use Rattle.slot_code.specs.Code.{GlobalVariable, Module}
use Rattle.slot_code.specs.Layout.{number_size}
use Rattle.dis_meaning.specs.Words.{Word, Found, Wrong, ◌>>=◌, type_check, or_wrong, word_at}
use Rattle.dis_meaning.specs.Numbers.{number_at}
use Rattle.dis_meaning.specs.World.{Content, Sys}
use Rattle.dis_objects.specs.Code as dis
use Rattle.dis_objects.specs.Code.{Datum, Text, Long, datum_bytes, data_bytes, global_place, global_bytes, globals_bytes, within_word}
use Rattle.dis_objects.specs.Objects.{data_place, functions_data}
use Rattle.dis_follows.specs.Numbers.{Holds}
use Rattle.dis_follows.specs.Stands.{Known, HasDatum, HasData, HasGlobals}
use Rattle.dis_follows.proofs.Places.{which}
use Rattle.dis_follows.proofs.Stores.{Apart}
use Rattle.dis_follows.proofs.Written.{Stored, holds_on, holds_new, holds_as}
use Rattle.dis_follows.proofs.Frames.{number_within, get_within, set_same, set_other, set_long}

-- ---- where the variables of the module stand

room_for : (k : Kind) → within_word k + number_size k ≤ global_bytes (Some k)
room_for Byte = omega arith
room_for Int = omega arith
room_for Big = omega arith

bytes_behind : (gs : List GlobalVariable) (x : ℕ) (g : GlobalVariable) → slice_get gs x ≡ Some g
    → globals_bytes (take x gs) + global_bytes g.kind ≤ globals_bytes gs
bytes_behind [] x g e = absurd cc
bytes_behind (h ∷ gs) zero g e =
    let same : h ≡ g = cc in
    subst (λ (g : GlobalVariable). 0 + global_bytes g.kind ≤ global_bytes h.kind + globals_bytes gs) same (omega arith)
bytes_behind (h ∷ gs) (suc x) g e = omega (arith, bytes_behind gs x g e)

bytes_between : (gs : List GlobalVariable) (x y : ℕ) (g : GlobalVariable) → slice_get gs x ≡ Some g → x < y
    → globals_bytes (take x gs) + global_bytes g.kind ≤ globals_bytes (take y gs)
bytes_between [] x y g e l = absurd cc
bytes_between (h ∷ gs) x zero g e l = absurd (omega (arith, l))
bytes_between (h ∷ gs) zero (suc y) g e l =
    let same : h ≡ g = cc in
    subst (λ (g : GlobalVariable). 0 + global_bytes g.kind ≤ global_bytes h.kind + globals_bytes (take y gs)) same (omega arith)
bytes_between (h ∷ gs) (suc x) (suc y) g e l = omega (arith, bytes_between gs x y g e (omega (arith, l)))

module _ (m : Module) where
  pub global_last : (x : ℕ) (k : Kind) (g : GlobalVariable) → slice_get m.globals x ≡ Some g → g.kind ≡ Some k
      → global_place m.globals k x + number_size k ≤ data_place m
  global_last x k g e kind =
      let same : global_bytes g.kind ≡ global_bytes (Some k) = ap global_bytes kind in
      omega (arith, bytes_behind m.globals x g e, same, room_for k)

  globals_apart : (x y : ℕ) (k j : Kind) (g h : GlobalVariable) → slice_get m.globals x ≡ Some g → g.kind ≡ Some k
      → slice_get m.globals y ≡ Some h → h.kind ≡ Some j → (x ≡ y → ⊥) → Apart k (global_place m.globals k x) j (global_place m.globals j y)
  globals_apart x y k j g h e kind e' kind' ne = go (which x y)
    where
      one : global_bytes g.kind ≡ global_bytes (Some k)
      one = ap global_bytes kind

      two : global_bytes h.kind ≡ global_bytes (Some j)
      two = ap global_bytes kind'

      go : (x ≡ y) ⊎ ((x < y) ⊎ (y < x)) → Apart k (global_place m.globals k x) j (global_place m.globals j y)
      go (inl q) = absurd (ne q)
      go (inr (inl l)) = inl (omega (arith, bytes_between m.globals x y g e l, one, room_for k))
      go (inr (inr l)) = inr (omega (arith, bytes_between m.globals y x h e' l, two, room_for j))

  -- ---- data behind them

  -- Words from a place on are as they were.
  abbrev pub WordsFrom : (words after : List Word) (from : ℕ) → Type 0
  WordsFrom words after from = (i : ℕ) → from ≤ 4 * i → slice_get after i ≡ slice_get words i

  word_at_same : (words after : List Word) (at : ℕ) → ((i : ℕ) → at ≡ 4 * i → slice_get after i ≡ slice_get words i)
      → word_at after (pos at) ≡ word_at words (pos at)
  word_at_same words after at h = go (at % 4 == 0) refl
    where
      go : (b : Bool) → (at % 4 == 0) ≡ b → word_at after (pos at) ≡ word_at words (pos at)
      go true e =
          let z : at % 4 ≡ 0 = eqb-true (at % 4) 0 e in
          let same : slice_get after (at / 4) ≡ slice_get words (at / 4) = h (at / 4) (omega (arith, z)) in
          ap (λ b. (if b then Found (at / 4) else Wrong type_check) >>= λ k. or_wrong type_check (slice_get after k)) e
          ∙ ap (or_wrong type_check) same
          ∙ sym (ap (λ b. (if b then Found (at / 4) else Wrong type_check) >>= λ k. or_wrong type_check (slice_get words k)) e)
      go false e =
          ap (λ b. (if b then Found (at / 4) else Wrong type_check) >>= λ k. or_wrong type_check (slice_get after k)) e
          ∙ sym (ap (λ b. (if b then Found (at / 4) else Wrong type_check) >>= λ k. or_wrong type_check (slice_get words k)) e)

  pub data_same : (words after : List Word) (at : ℕ) (ds : List Datum)
      → ((j : Kind) (bt : ℕ) → at ≤ bt → number_at j after (pos bt) ≡ number_at j words (pos bt)) → WordsFrom words after at
      → HasData m words at ds → HasData m after at ds
  data_same words after at [] same whole h = tt
  data_same words after at (d ∷ ds) same whole h = (
    datum d h.0,
    data_same words after (at + datum_bytes d) ds (λ j bt l. same j bt (omega (arith, l))) (λ i l. whole i (omega (arith, l))) h.1,
  )
    where
      datum : (d : Datum) → HasDatum m words at d → HasDatum m after at d
      datum (Text t) (serial, there, block) =
          (serial, word_at_same words after at (λ i e. whole i (omega (arith, e))) ∙ there, block)
      datum (dis.Word z) e = same Int at (omega arith) ∙ e
      datum (Long z) e = same Big at (omega arith) ∙ e

  -- ---- the variable is written

  pub global_written : (k : Known) (w : program.World) (blocks later : List Content) (words : List Word) (x : ℕ) (j : Kind)
      (g : GlobalVariable) (z : ℤ) → HasGlobals m k w blocks words → InRange j z → slice_get m.globals x ≡ Some g → g.kind ≡ Some j
      → (s : Stored j words (global_place m.globals j x) z)
      → ((n : ℕ) (names : List (List ℕ)) → slice_get blocks n ≡ Some (Sys names) → slice_get later n ≡ Some (Sys names))
      → 0 < length w.instances → HasGlobals m k (with_global w 0 x (number_of j (Num z))) later s.after
  global_written k w blocks later words x j g z h r e kind s kept some = record {
    path = s.words_stay.others 0 (inl (omega arith)) ∙ h.path;
    sys = h.sys;
    module_word = s.words_stay.others 1 (inl (omega arith)) ∙ h.module_word;
    loaded = λ q. let l = h.loaded q in (l.0, l.1, kept l.0 _ l.2);
    many = ap length instance ∙ set_long (instance_of w 0) x (number_of j (Num z)) ∙ h.many;
    variables = λ y i g' e' kind'. by_number y i g' e' kind' (which y x);
    constants = data_same words s.after (data_place m) (functions_data m.functions m.functions)
        (λ i bt l. s.others i bt (inl (omega (arith, last, l)))) (λ i l. s.words_stay.others i (inr (omega (arith, last, l)))) h.constants;
    zeros = λ i a b. s.words_stay.others i (inr (omega (arith, last, a))) ∙ h.zeros i a b;
  }
    where
      last : global_place m.globals j x + number_size j ≤ data_place m
      last = global_last x j g e kind

      instance : instance_of (with_global w 0 x (number_of j (Num z))) 0 ≡ slice_set (instance_of w 0) x (number_of j (Num z))
      instance = set_same w.instances 0 (slice_set (instance_of w 0) x (number_of j (Num z))) [] some

      value : (y : ℕ) → global_of (with_global w 0 x (number_of j (Num z))) 0 y
          ≡ slice_index_or (slice_set (instance_of w 0) x (number_of j (Num z))) y zero_value
      value y = ap (λ vs. slice_index_or vs y zero_value) instance

      there : x < length (instance_of w 0)
      there = omega (arith, h.many, get_within m.globals x g e)

      by_number : (y : ℕ) (i : Kind) (g' : GlobalVariable) → slice_get m.globals y ≡ Some g' → g'.kind ≡ Some i
          → (y ≡ x) ⊎ ((y < x) ⊎ (x < y))
          → Holds i s.after (global_place m.globals i y) (number_of i (global_of (with_global w 0 x (number_of j (Num z))) 0 y))
      by_number y i g' e' kind' (inl same) =
          let gs : g ≡ g' = same_Some g g' (sym e ∙ ap (slice_get m.globals) (sym same) ∙ e') in
          let ks : Some j ≡ Some i = sym kind ∙ ap (λ (g : GlobalVariable). g.kind) gs ∙ kind' in
          let is : j ≡ i = cc in
          subst (λ y. Holds i s.after (global_place m.globals i y) (number_of i (global_of (with_global w 0 x (number_of j (Num z))) 0 y)))
          (sym same)
          (subst (λ i. Holds i s.after (global_place m.globals i x) (number_of i (global_of (with_global w 0 x (number_of j (Num z))) 0 x)))
          is
          (holds_as j s.after (global_place m.globals j x) (Num z) _
          (sym (ap (number_of j) (value x ∙ set_same (instance_of w 0) x (number_of j (Num z)) zero_value there ∙ number_within j z r)
          ∙ number_within j z r))
          (holds_new j words (global_place m.globals j x) z r s)))
      by_number y i g' e' kind' (inr o) =
          let ne : y ≡ x → ⊥ = apart o in
          holds_as i s.after (global_place m.globals i y) _ _
          (ap (number_of i) (sym (value y ∙ set_other (instance_of w 0) x y (number_of j (Num z)) zero_value ne)))
          (holds_on i words s.after (global_place m.globals i y) _
          (s.others i (global_place m.globals i y) (globals_apart x y j i g g' e kind e' kind' (λ q. ne (sym q))))
          (h.variables y i g' e' kind'))
        where
          apart : (y < x) ⊎ (x < y) → y ≡ x → ⊥
          apart (inl l) q = omega (arith, l, q)
          apart (inr l) q = omega (arith, l, q)
