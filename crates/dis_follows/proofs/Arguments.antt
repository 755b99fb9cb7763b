-- A frame gets its arguments.
use Rattle.std.proofs.Common.{◌≡◌, ℕ, zero, suc, ◌+◌, ◌-◌, ◌<◌, ◌≤◌, pos, ◌*◌, inl, inr, List, [], ◌∷◌, ◌++◌, length, Some, refl, sym, ap}
use Rattle.std.proofs.Common.{◌∙◌, subst, arith}
use Rattle.std.specs.Prelude.{◌⊎◌, slice_get, slice_index_or, replicate, take}
use Rattle.limbo_values.specs.declared.number.Kind.{Kind}
use Rattle.limbo_values.specs.declared.number.Kind.TheVariants.{Byte, Int, Big}
use Rattle.system_model.specs.Values.{Value, zero_value}
use Rattle.typed_meaning.specs.Values.{number_of}
use Rattle.slot_code.specs.Code.{Function, Module}
use Rattle.slot_code.specs.Layout.{number_size, end_of}
use Rattle.slot_code.specs.Machine as machine
use Rattle.slot_code.specs.Machine.{Made, taken, entered}
use Rattle.dis_meaning.specs.Words.{Word}
use Rattle.dis_meaning.specs.Numbers.{number_at}
use Rattle.dis_objects.specs.Frames.{Calls, room_of, whole, linkage_bytes, variable_place, temporary_place, argument_bytes, parameters_of}
use Rattle.dis_objects.specs.Frames.{reference_words}
use Rattle.dis_follows.specs.Numbers.{Holds, IsPlain}
use Rattle.dis_follows.specs.Stands.{IsReady, ArePlain, HasNumbers}
use Rattle.dis_follows.proofs.Stores.{same_words}
use Rattle.dis_follows.proofs.Written.{holds_on, holds_as}
use Rattle.dis_follows.proofs.Places.{which, within_end, end_least}
use Rattle.dis_follows.proofs.Rooms.{whole_least, whole_mono, place_take}
use Rattle.dis_follows.proofs.Frames.{get_within, number_within}
use Rattle.dis_follows.proofs.Zeros.{in_aligned}
use Rattle.dis_follows.proofs.Moved.{AllPlain, Put}
use Rattle.dis_follows.proofs.Shifted.{shifted, behind_take, end_take}

-- ---- lists

get_take : {A : Type 0} (xs : List A) (n i : ℕ) (x : A) → i < n → slice_get xs i ≡ Some x → slice_get (take n xs) i ≡ Some x
get_take [] n i x l e = absurd cc
get_take (y ∷ xs) zero i x l e = absurd (omega (arith, l))
get_take (y ∷ xs) (suc n) zero x l e = e
get_take (y ∷ xs) (suc n) (suc i) x l e = get_take xs n i x (omega (arith, l)) e

taken_long : (arguments : ℕ → Value) (from n : ℕ) → length (taken arguments from n) ≡ n
taken_long arguments from zero = refl
taken_long arguments from (suc n) = ap suc (taken_long arguments (suc from) n)

replicate_long : {A : Type 0} (n : ℕ) (x : A) → length (replicate n x) ≡ n
replicate_long zero x = refl
replicate_long (suc n) x = ap suc (replicate_long n x)

both_long : {A : Type 0} (xs ys : List A) → length (xs ++ ys) ≡ length xs + length ys
both_long [] ys = omega arith
both_long (x ∷ xs) ys = let e = both_long xs ys in omega (arith, e)

index_given : (arguments : ℕ → Value) (from n : ℕ) (more : List Value) (i : ℕ) → i < n
    → slice_index_or (taken arguments from n ++ more) i zero_value ≡ arguments (from + i)
index_given arguments from zero more i l = absurd (omega (arith, l))
index_given arguments from (suc n) more zero l = ap arguments (omega arith)
index_given arguments from (suc n) more (suc i) l =
    index_given arguments (suc from) n more i (omega (arith, l)) ∙ ap arguments (let q : suc from + i ≡ from + suc i = omega arith in q)

index_zero : (n i : ℕ) → slice_index_or (replicate n zero_value) i zero_value ≡ zero_value
index_zero zero zero = refl
index_zero zero (suc i) = refl
index_zero (suc n) zero = refl
index_zero (suc n) (suc i) = index_zero n i

index_behind : (arguments : ℕ → Value) (from n more i : ℕ) → n ≤ i
    → slice_index_or (taken arguments from n ++ replicate more zero_value) i zero_value ≡ zero_value
index_behind arguments from zero more i l = index_zero more i
index_behind arguments from (suc n) more zero l = absurd (omega (arith, l))
index_behind arguments from (suc n) more (suc i) l = index_behind arguments (suc from) n more i (omega (arith, l))

-- ---- the frame

module _ (m : Module) (number : ℕ) (f : Function) (found : slice_get m.functions number ≡ Some f) (has : f.parameters ≤ length f.variables)
    (words : List Word) (h : HasNumbers m f [] (entered number 0 f []) words) (from : List Word) (block b : ℕ) (at : block ≡ 4 * b)
    (made : Made)
    (ready : IsReady m from block (Calls number) made) (vs : List Word) (many : argument_bytes m.functions (Calls number) ≡ 4 * length vs)
    (each : (i : ℕ) → i < length vs → slice_get vs i ≡ slice_get from (b + i)) (plain : AllPlain vs (length vs)) (p : Put words 8 vs) where
  abbrev W : ℕ
  W = whole (end_of linkage_bytes (parameters_of (Some f)))

  bytes : 4 * length vs ≡ W - 32
  bytes = sym many ∙ ap (λ o. whole (end_of linkage_bytes (parameters_of o)) - 32) found

  least : 32 ≤ W
  least =
      let a = end_least linkage_bytes (parameters_of (Some f)) in
      let w = whole_least (end_of linkage_bytes (parameters_of (Some f))) in omega (arith, a, w)

  abbrev G : machine.Frame
  G = entered number 0 f (taken made.arguments 0 f.parameters)

  abbrev V : List Value
  V = taken made.arguments 0 f.parameters ++ replicate (length f.variables - length (taken made.arguments 0 f.parameters)) zero_value

  -- In front of their end stand the arguments, and behind it nothing was changed.
  moved : (k : Kind) (bt : ℕ) → 32 ≤ bt → bt + number_size k ≤ W → number_at k p.after (pos bt) ≡ number_at k from (pos (block + (bt - 32)))
  moved k bt low high =
      let q = bytes in
      shifted k p.after from bt (block + (bt - 32)) 8 b (bt - 32) (omega (arith, low)) (omega (arith, at))
      (λ i l l'. p.each i (omega (arith, l', high, q, low)) ∙ each i (omega (arith, l', high, q, low)))

  stays : (k : Kind) (bt : ℕ) → W ≤ bt → number_at k p.after (pos bt) ≡ number_at k words (pos bt)
  stays k bt low =
      let q = bytes in
      let w = least in
      same_words k p.after words bt (λ i l l'. p.others i (inr (omega (arith, l, low, q, w))))

  still : ArePlain (reference_words f.variables) p.after
  still j w e free = go (which j 8) (which j (8 + length vs))
    where
      old : (j < 8) ⊎ (8 + length vs ≤ j) → IsPlain w
      old out = h.plain j w (sym (p.others j out) ∙ e) free

      new : 8 ≤ j → j < 8 + length vs → IsPlain w
      new l l' =
          let v = plain (j - 8) (omega (arith, l, l')) in
          let q : j ≡ 8 + (j - 8) = omega (arith, l) in
          let same : Some w ≡ Some v.0 = sym e ∙ ap (slice_get p.after) q ∙ p.each (j - 8) (omega (arith, l, l')) ∙ v.1 in
          let same' : w ≡ v.0 = cc in subst IsPlain (sym same') v.2

      go : (j ≡ 8) ⊎ ((j < 8) ⊎ (8 < j)) → (j ≡ 8 + length vs) ⊎ ((j < 8 + length vs) ⊎ (8 + length vs < j)) → IsPlain w
      go (inr (inl l)) q = old (inl l)
      go q (inl e) = old (inr (omega (arith, e)))
      go q (inr (inr l)) = old (inr (omega (arith, l)))
      go (inl e) (inr (inl l)) = new (omega (arith, e)) l
      go (inr (inr l')) (inr (inl l)) = new (omega (arith, l')) l

  -- What a place in front of their end has.
  argument : (x : ℕ) (k : Kind) → slice_get f.variables x ≡ Some (Some k) → variable_place f x + number_size k ≤ W
      → slice_index_or V x zero_value ≡ made.arguments x
      → Holds k p.after (variable_place f x) (number_of k (slice_index_or V x zero_value))
  argument x k e room value =
      let low : 32 ≤ variable_place f x = Rattle.dis_follows.proofs.Rooms.variable_first f x in
      let v = ready.each x k (variable_place f x) (f, found, e, refl, room) in
      let back : number_of k (slice_index_or V x zero_value) ≡ made.arguments x =
      ap (number_of k) (value ∙ v.is) ∙ number_within k v.number v.range ∙ sym v.is in
      record { number = v.number; is = back ∙ v.is; range = v.range; there = moved k (variable_place f x) low room ∙ v.there }

  -- And behind it.
  behind : (x : ℕ) (k : Kind) → slice_get f.variables x ≡ Some (Some k) → W ≤ variable_place f x → f.parameters ≤ x
      → Holds k p.after (variable_place f x) (number_of k (slice_index_or V x zero_value))
  behind x k e low l =
      let old = h.variables x k e in
      holds_as k p.after (variable_place f x) _ _
      (ap (number_of k) (index_zero (length f.variables - 0) x
      ∙ sym (index_behind made.arguments 0 f.parameters (length f.variables - length (taken made.arguments 0 f.parameters)) x l)))
      (holds_on k words p.after (variable_place f x) _ (stays k (variable_place f x) low) old)

  -- A number behind the parameters lies on one side.
  beyond : (x : ℕ) (k : Kind) → slice_get f.variables x ≡ Some (Some k) → f.parameters ≤ x → W < variable_place f x + number_size k
      → W ≤ variable_place f x
  beyond x k e l high = go k e high
    where
      far : end_of linkage_bytes (parameters_of (Some f)) ≤ variable_place f x
      far = behind_take linkage_bytes f.variables f.parameters x l (get_within f.variables x (Some k) e)

      go : (j : Kind) → slice_get f.variables x ≡ Some (Some j) → W < variable_place f x + number_size j → W ≤ variable_place f x
      go Byte e high = omega (arith, high)
      go Int e high = let a = in_aligned Int linkage_bytes f.variables x e (λ q. cc) in let l = far in omega (arith, a, l)
      go Big e high = let a = in_aligned Big linkage_bytes f.variables x e (λ q. cc) in let l = far in omega (arith, a, l)

  variables : (x : ℕ) (k : Kind) → slice_get f.variables x ≡ Some (Some k)
      → Holds k p.after (variable_place f x) (number_of k (slice_index_or V x zero_value))
  variables x k e = go (which x f.parameters)
    where
      zero_plus : 0 + x ≡ x
      zero_plus = omega arith

      given : x < f.parameters → Holds k p.after (variable_place f x) (number_of k (slice_index_or V x zero_value))
      given l =
          let e' = get_take f.variables f.parameters x (Some k) l e in
          let place = place_take linkage_bytes f.variables f.parameters x (Some k) e' in
          let end = within_end linkage_bytes (take f.parameters f.variables) x (Some k) e' in
          let w = whole_least (end_of linkage_bytes (parameters_of (Some f))) in
          argument x k e (omega (arith, place, end, w))
          (index_given made.arguments 0 f.parameters _ x l ∙ ap made.arguments zero_plus)

      none : f.parameters ≤ x → slice_index_or V x zero_value ≡ made.arguments x
      none l =
          index_behind made.arguments 0 f.parameters (length f.variables - length (taken made.arguments 0 f.parameters)) x l
          ∙ sym (ready.given f found x l)

      side : f.parameters ≤ x
          → (variable_place f x + number_size k ≡ W) ⊎ ((variable_place f x + number_size k < W) ⊎ (W < variable_place f x + number_size k))
          → Holds k p.after (variable_place f x) (number_of k (slice_index_or V x zero_value))
      side l (inr (inr high)) = behind x k e (beyond x k e l high) l
      side l (inl q) = argument x k e (omega (arith, q)) (none l)
      side l (inr (inl q)) = argument x k e (omega (arith, q)) (none l)

      go : (x ≡ f.parameters) ⊎ ((x < f.parameters) ⊎ (f.parameters < x))
          → Holds k p.after (variable_place f x) (number_of k (slice_index_or V x zero_value))
      go (inr (inl l)) = given l
      go (inl q) = side (omega (arith, q)) (which (variable_place f x + number_size k) W)
      go (inr (inr l)) = side (omega (arith, l)) (which (variable_place f x + number_size k) W)

  temporary_far : (k : Kind) (n : ℕ) → W ≤ temporary_place (room_of m.functions f) k n
  temporary_far k n =
      let a = end_take linkage_bytes f.variables f.parameters in
      let b = whole_mono (end_of linkage_bytes (parameters_of (Some f))) (end_of linkage_bytes f.variables) a in go k b
    where
      go : (k : Kind) → W ≤ whole (end_of linkage_bytes f.variables) → W ≤ temporary_place (room_of m.functions f) k n
      go Byte b = omega (arith, b)
      go Int b = omega (arith, b)
      go Big b = omega (arith, b)

  pub has_arguments : HasNumbers m f [] G p.after
  has_arguments = record {
    long = ap (λ n. 4 * n) p.long ∙ h.long;
    plain = still;
    many =
        let a = taken_long made.arguments 0 f.parameters in
        let c = both_long (taken made.arguments 0 f.parameters)
        (replicate (length f.variables - length (taken made.arguments 0 f.parameters)) zero_value) in
        let d = replicate_long (length f.variables - length (taken made.arguments 0 f.parameters)) zero_value in
        omega (arith, a, c, d, has);
    variables = variables;
    temporaries = λ k n l. holds_on k words p.after _ _ (stays k (temporary_place (room_of m.functions f) k n) (temporary_far k n))
        (h.temporaries k n l);
    made = tt;
  }
