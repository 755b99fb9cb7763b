-- An argument is written for what was begun last.
use Rattle.std.proofs.Common.{◌≡◌, ℕ, zero, suc, ◌+◌, ◌-◌, ◌<◌, ◌≤◌, ℤ, ◌*◌, List, [], ◌∷◌, map, Option, Some, None, refl, sym, ap, ◌∙◌}
use Rattle.std.proofs.Common.{subst, arith, inl, inr, if◌then◌else◌}
use Rattle.std.specs.Prelude.{◌⊎◌, slice_get, nat_eq, take}
use Rattle.std.proofs.lemmas.Option.{same_Some}
use Rattle.std.proofs.lemmas.Bool.{ne_eqb}
use Rattle.limbo_values.specs.declared.number.Kind.{Kind}
use Rattle.limbo_values.specs.Numbers.{InRange}
use Rattle.system_model.specs.Values.{Value, Num, zero_value}
use Rattle.slot_code.specs.Code.{Function, Module}
use Rattle.slot_code.specs.Layout.{number_size, place_in, end_of}
use Rattle.slot_code.specs.Machine as machine
use Rattle.slot_code.specs.Machine.{Made, with_argument}
use Rattle.dis_meaning.specs.Words.{Word}
use Rattle.dis_objects.specs.Frames.{Callee, Calls, Prints, Room, room_of, linkage_bytes, variable_place, temporary_place, block_place}
use Rattle.dis_objects.specs.Frames.{ready_place, first_place, argument_place, all_bytes, most_bytes, parameters, parameters_of}
use Rattle.dis_objects.specs.Frames.{printed_kinds}
use Rattle.dis_objects.specs.Proper.{IsArgument}
use Rattle.dis_follows.specs.Numbers.{Holds}
use Rattle.dis_follows.specs.Stands.{HasRoom, IsGiven, AllReady, HasNumbers}
use Rattle.dis_follows.proofs.Places.{apart_in, which, within_end}
use Rattle.dis_follows.proofs.Rooms.{variables_apart, parameter_is, place_take, whole_least, variable_last, temporary_outside}
use Rattle.dis_follows.proofs.Stores.{Apart}
use Rattle.dis_follows.proofs.Written.{Stored, holds_on, holds_new, holds_as}
use Rattle.dis_follows.proofs.Blocks.{Lies, lies, all_same, printed_place, get_map}
use Rattle.dis_follows.proofs.Frames.{eqb-refl}

-- ---- where the argument stands

get_short : {A : Type 0} (xs : List A) (n i : ℕ) (x : A) → slice_get (take n xs) i ≡ Some x → i < n
get_short [] zero i x e = absurd cc
get_short [] (suc n) i x e = absurd cc
get_short (y ∷ xs) zero i x e = absurd cc
get_short (y ∷ xs) (suc n) zero x e = omega arith
get_short (y ∷ xs) (suc n) (suc i) x e = omega (arith, get_short xs n i x e)

module _ (m : Module) where
  -- A function that takes an argument is there.
  pub record Takes (n i : ℕ) (k : Kind) : Type 0 where
    pub function : Function
    pub found : slice_get m.functions n ≡ Some function
    pub parameter : slice_get (parameters_of (Some function)) i ≡ Some (Some k)

  pub takes : (n i : ℕ) (k : Kind) → slice_get (parameters m.functions (Calls n)) i ≡ Some (Some k) → Takes n i k
  takes n i k e = go (slice_get m.functions n) refl e
    where
      go : (o : Option Function) → slice_get m.functions n ≡ o → slice_get (parameters_of o) i ≡ Some (Some k) → Takes n i k
      go None q e = absurd cc
      go (Some f) q e = record { function = f; found = q; parameter = e }

  call_place : (n i : ℕ) (k : Kind) → (t : Takes n i k) → argument_place m.functions (Calls n) i ≡ variable_place t.function i
  call_place n i k t =
      let zero_plus : 0 + i ≡ i = omega arith in
      ap (λ o. place_in linkage_bytes (parameters_of o) (0 + i)) t.found
      ∙ ap (place_in linkage_bytes (parameters_of (Some t.function))) zero_plus
      ∙ place_take linkage_bytes t.function.variables t.function.parameters i (Some k) t.parameter

  -- So it has room.
  pub has_room : (c : Callee) (cs : List Callee) (i : ℕ) (k : Kind) → (f : Function) → IsArgument m f (c ∷ cs) k i
      → HasRoom m c i k (argument_place m.functions c i)
  has_room (Calls n) cs i k f e =
      let t = takes n i k e in
      let last = within_end linkage_bytes (parameters_of (Some t.function)) i (Some k) t.parameter in
      let place = place_take linkage_bytes t.function.variables t.function.parameters i (Some k) t.parameter in
      let more = whole_least (end_of linkage_bytes (parameters_of (Some t.function))) in
      let is = call_place n i k t in
      (t.function, t.found, parameter_is t.function i k t.parameter, is, omega (arith, last, place, more, is))
  has_room (Prints ps) cs i k f e = (e, refl)

  -- One place for each.
  pub record OneRoom (c : Callee) (i : ℕ) (k : Kind) (at : ℕ) (j : Kind) (bt : ℕ) : Type 0 where
    pub kind : k ≡ j
    pub place : at ≡ bt

  one_room : (c : Callee) (i : ℕ) (k j : Kind) (at bt : ℕ) → HasRoom m c i k at → HasRoom m c i j bt → OneRoom c i k at j bt
  one_room (Calls n) i k j at bt h h' =
      let same : h.0 ≡ h'.0 = same_Some h.0 h'.0 (sym h.1 ∙ h'.1) in
      let kinds : Some (Some k) ≡ Some (Some j) = sym h.2 ∙ ap (λ (f : Function). slice_get f.variables i) same ∙ h'.2 in
      record { kind = cc; place = h.3 ∙ ap (λ (f : Function). variable_place f i) same ∙ sym h'.3 }
  one_room (Prints ps) i k j at bt h h' =
      let kinds : Some k ≡ Some j = sym h.0 ∙ h'.0 in record { kind = cc; place = h.1 ∙ sym h'.1 }

  -- Others are apart.
  rooms_apart : (c : Callee) (i j : ℕ) (k l : Kind) (at bt : ℕ) → HasRoom m c i k at → HasRoom m c j l bt → (i ≡ j → ⊥) → Apart k at l bt
  rooms_apart (Calls n) i j k l at bt h h' ne =
      let same : h.0 ≡ h'.0 = same_Some h.0 h'.0 (sym h.1 ∙ h'.1) in
      let there : slice_get h.0.variables j ≡ Some (Some l) = ap (λ (f : Function). slice_get f.variables j) same ∙ h'.2 in
      let place : variable_place h.0 j ≡ bt = ap (λ (f : Function). variable_place f j) same ∙ sym h'.3 in
      subst (λ b. Apart k at l b) place
      (subst (λ a. Apart k a l (variable_place h.0 j)) (sym h.3) (variables_apart h.0 i j k l h.2 there ne))
  rooms_apart (Prints ps) i j k l at bt h h' ne = go (which i j)
    where
      K : List (Option Kind)
      K = map Some (printed_kinds ps)

      first : at ≡ place_in 36 K i
      first = h.1 ∙ printed_place ps i

      second : bt ≡ place_in 36 K j
      second = h'.1 ∙ printed_place ps j

      go : (i ≡ j) ⊎ ((i < j) ⊎ (j < i)) → Apart k at l bt
      go (inl e) = absurd (ne e)
      go (inr (inl less)) =
          let a : place_in 36 K i + number_size k ≤ place_in 36 K j =
          apart_in 36 K i j (Some k) (get_map (printed_kinds ps) i k h.0) less in
          inl (omega (arith, a, first, second))
      go (inr (inr less)) =
          let a : place_in 36 K j + number_size l ≤ place_in 36 K i =
          apart_in 36 K j i (Some l) (get_map (printed_kinds ps) j l h'.0) less in
          inr (omega (arith, a, first, second))

  -- ---- the argument is written

  module _ (f : Function) (c : Callee) (others : List Callee) (g : machine.Frame) (made : Made) (mades : List Made) (words : List Word)
      (h : HasNumbers m f (c ∷ others) g words) (is : g.made ≡ made ∷ mades)
      (fits : all_bytes m.functions (c ∷ others) ≤ most_bytes m.functions [] f.code) where
    abbrev R : Room
    R = room_of m.functions f

    abbrev B : ℕ
    B = block_place m.functions R others

    first : AllReady m words R (c ∷ others) (made ∷ mades)
    first = subst (AllReady m words R (c ∷ others)) is h.made

    outside : (k : Kind) (at : ℕ) → Lies m c k at → (R.arguments ≤ B + (at - first_place c))
        × (B + (at - first_place c) + number_size k ≤ R.arguments + most_bytes m.functions [] f.code)
    outside k at l = let a = l.first in let b = l.last in (omega arith, omega (arith, a, b, fits))

    before_bytes : R.arguments + most_bytes m.functions [] f.code ≤ R.bytes
    before_bytes = omega arith

    still_given : (i : ℕ) (k : Kind) (v : Value) → IsArgument m f (c ∷ others) k i → IsGiven m c made → IsGiven m c (with_argument i v made)
    still_given i k v e its = go c e its
      where
        by_call : (n : ℕ) → IsArgument m f (Calls n ∷ others) k i → IsGiven m (Calls n) made → (f' : Function)
            → slice_get m.functions n ≡ Some f'
            → (j : ℕ) → f'.parameters ≤ j → (with_argument i v made).arguments j ≡ zero_value
        by_call n e its f' found j l =
            let t = takes n i k e in
            let same : t.function ≡ f' = same_Some t.function f' (sym t.found ∙ found) in
            let short = get_short t.function.variables t.function.parameters i (Some k) t.parameter in
            let few : t.function.parameters ≡ f'.parameters = ap (λ (f : Function). f.parameters) same in
            let ne : i ≡ j → ⊥ = λ q. omega (arith, q, short, few, l) in
            ap (λ b. if b then v else made.arguments j) (ne_eqb i j ne) ∙ its f' found j l

        go : (c : Callee) → IsArgument m f (c ∷ others) k i → IsGiven m c made → IsGiven m c (with_argument i v made)
        go (Calls n) e its = by_call n e its
        go (Prints ps) e its = its

    pub argument_written : (i : ℕ) (k : Kind) (z : ℤ) → InRange k z → IsArgument m f (c ∷ others) k i
        → (s : Stored k words (ready_place m.functions R (c ∷ others) i) z)
        → HasNumbers m f (c ∷ others) (record g { made = with_argument i (Num z) made ∷ mades }) s.after
    argument_written i k z r e s = record {
      long = ap (λ n. 4 * n) s.words_stay.long ∙ h.long;
      plain = s.still _ h.plain;
      many = h.many;
      variables = λ y j e'. holds_on j words s.after (variable_place f y) _
          (s.others j (variable_place f y)
          (inr (omega (arith, variable_last f y j e', whole_least (end_of linkage_bytes f.variables), out.0))))
          (h.variables y j e');
      temporaries = λ j n l. holds_on j words s.after _ _ (s.others j _ (temporaries_apart j n (temporary_outside m.functions f j n l)))
          (h.temporaries j n l);
      made = (
        record { each = λ j l at' room'. each j l at' room'; given = still_given i k (Num z) e first.0.given },
        all_same m words s.after R others mades
            (λ j bt a b. let low = its.first in s.others j bt (inr (omega (arith, b, low)))) first.1,
      );
    }
      where
        at : ℕ
        at = argument_place m.functions c i

        P : ℕ
        P = ready_place m.functions R (c ∷ others) i

        room : HasRoom m c i k (argument_place m.functions c i)
        room = has_room c others i k f e

        its : Lies m c k (argument_place m.functions c i)
        its = lies m c i k (argument_place m.functions c i) room

        out : (R.arguments ≤ P) × (P + number_size k ≤ R.arguments + most_bytes m.functions [] f.code)
        out = outside k (argument_place m.functions c i) its

        temporaries_apart : (j : Kind) (n : ℕ)
            → (temporary_place R j n + number_size j ≤ R.made) ⊎ (R.arguments + most_bytes m.functions [] f.code ≤ temporary_place R j n)
            → Apart k P j (temporary_place R j n)
        temporaries_apart j n (inl l) = inr (omega (arith, l, out.0))
        temporaries_apart j n (inr l) = inl (omega (arith, l, out.1))

        each : (j : ℕ) (l : Kind) (at' : ℕ) → HasRoom m c j l at'
            → Holds l s.after (B + (at' - first_place c)) ((with_argument i (Num z) made).arguments j)
        each j l at' room' = go (which i j)
          where
            other : (i ≡ j → ⊥) → Holds l s.after (B + (at' - first_place c)) ((with_argument i (Num z) made).arguments j)
            other ne =
                let lies' = lies m c j l at' room' in
                let low = its.first in
                let low' = lies'.first in
                holds_as l s.after (B + (at' - first_place c)) (made.arguments j) _
                (sym (ap (λ b. if b then Num z else made.arguments j) (ne_eqb i j ne)))
                (holds_on l words s.after _ _
                (s.others l (B + (at' - first_place c))
                (shifted (rooms_apart c i j k l (argument_place m.functions c i) at' room room' ne) low low'))
                (first.0.each j l at' room'))
              where
                shifted : Apart k (argument_place m.functions c i) l at' → first_place c ≤ argument_place m.functions c i
                    → first_place c ≤ at'
                    → Apart k P l (B + (at' - first_place c))
                shifted (inl a) low low' = inl (omega (arith, a, low, low'))
                shifted (inr a) low low' = inr (omega (arith, a, low, low'))

            go : (i ≡ j) ⊎ ((i < j) ⊎ (j < i)) → Holds l s.after (B + (at' - first_place c)) ((with_argument i (Num z) made).arguments j)
            go (inl same) =
                let one = one_room c i k l (argument_place m.functions c i) at' room (subst (λ x. HasRoom m c x l at') (sym same) room') in
                subst (λ a. Holds l s.after (B + (a - first_place c)) ((with_argument i (Num z) made).arguments j)) one.place
                (subst (λ y. Holds y s.after P ((with_argument i (Num z) made).arguments j)) one.kind
                (holds_as k s.after P (Num z) _
                (sym (ap (λ x. if nat_eq i x then Num z else made.arguments x) (sym same)
                ∙ ap (λ b. if b then Num z else made.arguments i) (eqb-refl i)))
                (holds_new k words P z r s)))
            go (inr (inl less)) = other (λ q. omega (arith, q, less))
            go (inr (inr less)) = other (λ q. omega (arith, q, less))
