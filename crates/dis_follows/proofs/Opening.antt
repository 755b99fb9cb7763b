-- What the module's data begin with.
use Rattle.std.proofs.Common.{◌≡◌, ℕ, zero, suc, ◌+◌, ◌-◌, ◌<◌, ◌≤◌, pos, negsuc, ℤ, ◌*◌, ◌/◌, ◌%◌, List, [], ◌∷◌, ◌++◌, length, Option}
use Rattle.std.proofs.Common.{Some, None, refl, sym, ap, ◌∙◌, subst, arith, append_assoc, length-append, if◌then◌else◌}
use Rattle.std.specs.Prelude.{◌==◌, slice_get, slice_index, take, replicate, codes}
use Rattle.std.specs.Int.{w32, to_be_bytes, cast_unsigned}
use Rattle.std.proofs.lemmas.Int.{ints}
use Rattle.std.proofs.lemmas.Nat.{be_bytes_4}
use Rattle.std.proofs.Math.ListN.{get_or}
use Rattle.limbo_values.specs.declared.number.Kind.{Kind}
use Rattle.limbo_values.specs.declared.number.Kind.TheVariants.{Byte, Int, Big}
use Rattle.limbo_values.specs.Numbers.{InRange}
use Rattle.slot_code.specs.Code.{Inst, Begin, Format, Function, GlobalVariable, Module}
use Rattle.dis_meaning.specs.Words.{Word, Plain, Refer, Found, Wrong, ◌>>=◌, type_check, or_wrong, number_in, word_at}
use Rattle.dis_meaning.specs.Numbers.{bytes_of, joined, high_part, low_part, number_at}
use Rattle.dis_meaning.proofs.ReadBack.{parts_join}
use Rattle.dis_meaning.specs.World as memory
use Rattle.dis_meaning.specs.World.{Content, Instance}
use Rattle.dis_objects.specs.Code as dis
use Rattle.dis_objects.specs.Code.{Datum, Text, Long, datum_bytes, data_bytes, global_bytes, globals_bytes, global_place, within_word}
use Rattle.dis_objects.specs.Objects.{data_place, zeros_place, zeros_bytes, callee_bytes, most_callee, functions_data}
use Rattle.dis_follows.specs.Start.{opening, opening_words, data_words, data_texts, number_words, global_words, globals_words}
use Rattle.dis_follows.specs.Stands.{HasData}
use Rattle.dis_follows.proofs.Lookups.{get_behind}

-- ---- the word at a whole place

word_is : (words : List Word) (k : ℕ) → word_at words (pos (4 * k)) ≡ or_wrong type_check (slice_get words k)
word_is words k =
    let r : (4 * k) % 4 ≡ 0 = omega arith in
    let d : (4 * k) / 4 ≡ k = omega arith in
    ap (λ n. (if n == 0 then Found ((4 * k) / 4) else Wrong type_check) >>= λ k. or_wrong type_check (slice_get words k)) r
    ∙ ap (λ k. or_wrong type_check (slice_get words k)) d

pub first_behind : {A : Type 0} (front : List A) (x : A) (rest : List A) → slice_get (front ++ x ∷ rest) (length front) ≡ Some x
first_behind front x rest = let z : length front ≡ length front + 0 = omega arith in ap (slice_get (front ++ x ∷ rest)) z
    ∙ get_behind front (x ∷ rest) 0

second_behind : {A : Type 0} (front : List A) (x y : A) (rest : List A) → slice_get (front ++ x ∷ y ∷ rest) (suc (length front)) ≡ Some y
second_behind front x y rest =
    let z : suc (length front) ≡ length front + 1 = omega arith in ap (slice_get (front ++ x ∷ y ∷ rest)) z
    ∙ get_behind front (x ∷ y ∷ rest) 1

-- ---- numbers behind other words

int_behind : (front rest : List Word) (z : ℤ) (at : ℕ) → at ≡ 4 * length front → number_at Int (front ++ Plain z ∷ rest) (pos at) ≡ Found z
int_behind front rest z at e =
    ap (λ n. word_at (front ++ Plain z ∷ rest) (pos n) >>= number_in) e
    ∙ ap (λ a. a >>= number_in) (word_is (front ++ Plain z ∷ rest) (length front))
    ∙ ap (λ o. or_wrong type_check o >>= number_in) (first_behind front (Plain z) rest)

big_behind : (front rest : List Word) (z : ℤ) (at : ℕ) → at ≡ 4 * length front
    → number_at Big (front ++ Plain (high_part z) ∷ Plain (low_part z) ∷ rest) (pos at) ≡ Found z
big_behind front rest z at e =
    let words = front ++ Plain (high_part z) ∷ Plain (low_part z) ∷ rest in
    let k = length front in
    let r : (4 * k) % 4 ≡ 0 = omega arith in
    let d : (4 * k) / 4 ≡ k = omega arith in
    ap (λ n. number_at Big words (pos n)) e
    ∙ ap (λ n. (if n == 0 then Found ((4 * k) / 4) else Wrong type_check) >>= λ k.
    (or_wrong type_check (slice_get words k) >>= number_in) >>= λ high.
    (or_wrong type_check (slice_get words (suc k)) >>= number_in) >>= λ low. Found (joined high low)) r
    ∙ ap (λ k. (or_wrong type_check (slice_get words k) >>= number_in) >>= λ high.
    (or_wrong type_check (slice_get words (suc k)) >>= number_in) >>= λ low. Found (joined high low)) d
    ∙ ap (λ o. (or_wrong type_check o >>= number_in) >>= λ high. (or_wrong type_check (slice_get words (suc k)) >>= number_in) >>= λ low.
    Found (joined high low)) (first_behind front (Plain (high_part z)) (Plain (low_part z) ∷ rest))
    ∙ ap (λ o. (or_wrong type_check o >>= number_in) >>= λ low. Found (joined (high_part z) low))
    (second_behind front (Plain (high_part z)) (Plain (low_part z)) rest)
    ∙ ap Found (parts_join z)

-- A byte is the last of its word.
last_byte : (z : ℤ) → InRange Byte z → pos (slice_index (bytes_of z) 3) ≡ z
last_byte (negsuc n) r = let above = r.above in absurd (omega (arith, ints, above))
last_byte (pos n) r =
    let below = r.below in
    let few : n < 256 = omega (arith, ints, below) in
    let same : cast_unsigned w32 (pos n) ≡ n = omega (arith, few) in
    ap (λ n. pos (slice_index (to_be_bytes w32 n) 3)) same
    ∙ ap (λ bs. pos (slice_index bs 3)) (be_bytes_4 (0 ∷ 0 ∷ 0 ∷ n ∷ []) n refl (small n few) (omega arith))
  where
    small : (n : ℕ) → n < 256 → (i : ℕ) → get_or (0 ∷ 0 ∷ 0 ∷ n ∷ []) i 0 < 256
    small n l zero = omega arith
    small n l (suc zero) = omega arith
    small n l (suc (suc zero)) = omega arith
    small n l (suc (suc (suc zero))) = l
    small n l (suc (suc (suc (suc i)))) = omega arith

byte_behind : (front rest : List Word) (z : ℤ) (at : ℕ) → InRange Byte z → at ≡ 4 * length front + 3
    → number_at Byte (front ++ Plain z ∷ rest) (pos at) ≡ Found z
byte_behind front rest z at range e =
    let r : at % 4 ≡ 3 = omega (arith, e) in
    let d : at / 4 ≡ length front = omega (arith, e) in
    ap (λ k. (or_wrong type_check (slice_get (front ++ Plain z ∷ rest) k) >>= number_in) >>= λ y.
    Found (pos (slice_index (bytes_of y) (at % 4)))) d
    ∙ ap (λ o. (or_wrong type_check o >>= number_in) >>= λ y. Found (pos (slice_index (bytes_of y) (at % 4))))
    (first_behind front (Plain z) rest)
    ∙ ap (λ n. Found (pos (slice_index (bytes_of z) n))) r
    ∙ ap Found (last_byte z range)

-- ---- the data of functions

pub more_front : {A : Type 0} (front : List A) (x : A) (rest : List A) → (front ++ x ∷ []) ++ rest ≡ front ++ x ∷ rest
more_front front x rest = append_assoc front (x ∷ []) rest

data_there : (m : Module) (ds : List Datum) (front rest : List Word) (serial at : ℕ) (blocks : List Content) → at ≡ 4 * length front
    → (opening m).blocks ≡ blocks ++ data_texts ds → length blocks ≡ serial → HasData m (front ++ (data_words serial ds ++ rest)) at ds
data_there m [] front rest serial at blocks e opened count = tt
data_there m (Text t ∷ ds) front rest serial at blocks e opened count =
    let x = Refer (Some serial) in
    let words = front ++ x ∷ (data_words (suc serial) ds ++ rest) in
    let l = length-append front (x ∷ []) in
    let l' = length-append blocks (memory.Text t ∷ []) in
    let block : slice_get (opening m).blocks serial ≡ Some (memory.Text t) =
    ap (λ bs. slice_get bs serial) opened ∙ ap (slice_get (blocks ++ memory.Text t ∷ data_texts ds)) (sym count)
    ∙ first_behind blocks (memory.Text t) (data_texts ds) in
    let here : word_at words (pos at) ≡ Found x =
    ap (λ n. word_at words (pos n)) e ∙ word_is words (length front)
    ∙ ap (or_wrong type_check) (first_behind front x (data_words (suc serial) ds ++ rest)) in
    let more = data_there m ds (front ++ x ∷ []) rest (suc serial) (at + 4) (blocks ++ memory.Text t ∷ []) (omega (arith, e, l))
    (opened ∙ sym (more_front blocks (memory.Text t) (data_texts ds))) (omega (arith, l', count)) in
    ((serial, here, block), subst (λ ws. HasData m ws (at + 4) ds) (more_front front x (data_words (suc serial) ds ++ rest)) more)
data_there m (dis.Word z ∷ ds) front rest serial at blocks e opened count =
    let x = Plain z in
    let l = length-append front (x ∷ []) in
    let more = data_there m ds (front ++ x ∷ []) rest serial (at + 4) blocks (omega (arith, e, l)) opened count in (
      int_behind front (data_words serial ds ++ rest) z at e,
      subst (λ ws. HasData m ws (at + 4) ds) (more_front front x (data_words serial ds ++ rest)) more,
    )
data_there m (Long z ∷ ds) front rest serial at blocks e opened count =
    let x = Plain (high_part z) in
    let y = Plain (low_part z) in
    let l = length-append front (x ∷ y ∷ []) in
    let more = data_there m ds (front ++ x ∷ y ∷ []) rest serial (at + 8) blocks (omega (arith, e, l)) opened count in (
      big_behind front (data_words serial ds ++ rest) z at e,
      subst (λ ws. HasData m ws (at + 8) ds) (append_assoc front (x ∷ y ∷ []) (data_words serial ds ++ rest)) more,
    )

-- ---- the variables

words_many : (k : Kind) (z : ℤ) → 4 * length (number_words k z) ≡ global_bytes (Some k)
words_many Byte z = refl
words_many Int z = refl
words_many Big z = refl

variable_many : (g : GlobalVariable) → 4 * length (global_words g) ≡ global_bytes g.kind
variable_many g = go g.kind
  where
    go : (k : Option Kind) → 4 * length {A = Word} (elim k [ None ↦ Refer None ∷ [] | Some k ↦ number_words k g.initial ]) ≡ global_bytes k
    go None = refl
    go (Some k) = words_many k g.initial

pub variables_many : (gs : List GlobalVariable) → 4 * length (globals_words gs) ≡ globals_bytes gs
variables_many [] = refl
variables_many (g ∷ gs) =
    let a = variable_many g in
    let b = variables_many gs in
    let c = length-append (global_words g) (globals_words gs) in omega (arith, a, b, c)

number_there : (k : Kind) (front rest : List Word) (z : ℤ) (at : ℕ) → InRange k z → at ≡ 4 * length front
    → number_at k (front ++ (number_words k z ++ rest)) (pos (at + within_word k)) ≡ Found z
number_there Byte front rest z at range e = byte_behind front rest z (at + 3) range (omega (arith, e))
number_there Int front rest z at range e = int_behind front rest z (at + 0) (omega (arith, e))
number_there Big front rest z at range e = big_behind front rest z (at + 0) (omega (arith, e))

variable_there : (gs : List GlobalVariable) (x : ℕ) (g : GlobalVariable) (k : Kind) (front rest : List Word) (at : ℕ)
    → slice_get gs x ≡ Some g
    → g.kind ≡ Some k → InRange k g.initial → at ≡ 4 * length front
    → number_at k (front ++ (globals_words gs ++ rest)) (pos (at + globals_bytes (take x gs) + within_word k)) ≡ Found g.initial
variable_there [] x g k front rest at h e range q = absurd cc
variable_there (g' ∷ gs) zero g k front rest at h e range q =
    let same : g' ≡ g = cc in
    let z : at + 0 + within_word k ≡ at + within_word k = omega arith in
    let its : global_words g' ≡ number_words k g.initial =
    ap (λ (g : GlobalVariable). global_words g) same ∙ ap (λ o. elim o [ None ↦ Refer None ∷ [] | Some k ↦ number_words k g.initial ]) e in
    ap (λ n. number_at k (front ++ ((global_words g' ++ globals_words gs) ++ rest)) (pos n)) z
    ∙ ap (λ ws. number_at k (front ++ ((ws ++ globals_words gs) ++ rest)) (pos (at + within_word k))) its
    ∙ ap (λ ws. number_at k (front ++ ws) (pos (at + within_word k))) (append_assoc (number_words k g.initial) (globals_words gs) rest)
    ∙ number_there k front (globals_words gs ++ rest) g.initial at range q
variable_there (g' ∷ gs) (suc x) g k front rest at h e range q =
    let many = variable_many g' in
    let l = length-append front (global_words g') in
    let place : at + globals_bytes (take (suc x) (g' ∷ gs)) + within_word k
    ≡ (at + global_bytes g'.kind) + globals_bytes (take x gs) + within_word k = omega arith in
    ap (λ n. number_at k (front ++ ((global_words g' ++ globals_words gs) ++ rest)) (pos n)) place
    ∙ ap (λ ws. number_at k ws (pos ((at + global_bytes g'.kind) + globals_bytes (take x gs) + within_word k)))
    (ap (λ ws. front ++ ws) (append_assoc (global_words g') (globals_words gs) rest)
    ∙ sym (append_assoc front (global_words g') (globals_words gs ++ rest)))
    ∙ variable_there gs x g k (front ++ global_words g') rest (at + global_bytes g'.kind) h e range (omega (arith, q, many, l))

-- ---- the zeros

get_replicate : {A : Type 0} (n i : ℕ) (x : A) → i < n → slice_get (replicate n x) i ≡ Some x
get_replicate zero i x l = absurd (omega (arith, l))
get_replicate (suc n) zero x l = refl
get_replicate (suc n) (suc i) x l = get_replicate n i x (omega (arith, l))

pub data_many : (serial : ℕ) (ds : List Datum) → 4 * length (data_words serial ds) ≡ data_bytes ds
data_many serial [] = refl
data_many serial (Text t ∷ ds) = let a = data_many (suc serial) ds in omega (arith, a)
data_many serial (dis.Word z ∷ ds) = let a = data_many serial ds in omega (arith, a)
data_many serial (Long z ∷ ds) = let a = data_many serial ds in omega (arith, a)

callee_aligned : (fs : List Function) (i : Inst) → callee_bytes fs i % 4 ≡ 0
callee_aligned fs (Begin f) = omega arith
callee_aligned fs (Format ps) = omega arith
callee_aligned fs _ = refl

most_aligned : (fs : List Function) (is : List Inst) → most_callee fs is % 4 ≡ 0
most_aligned fs [] = refl
most_aligned fs (i ∷ is) = let a = callee_aligned fs i in let b = most_aligned fs is in omega (arith, a, b)

pub zeros_aligned : (all fs : List Function) → zeros_bytes all fs % 4 ≡ 0
zeros_aligned all [] = refl
zeros_aligned all (f ∷ fs) = let a = most_aligned all f.code in let b = zeros_aligned all fs in omega (arith, a, b)

-- ---- the data of a module

module _ (m : Module) where
  abbrev DS : List Datum
  DS = functions_data m.functions m.functions

  abbrev ZS : List Word
  ZS = replicate (zeros_bytes m.functions m.functions / 4) (Plain (pos 0))

  abbrev GS : List Word
  GS = globals_words m.globals

  abbrev front : List Word
  front = Refer (Some 1) ∷ Refer None ∷ []

  pub opening_data : HasData m (opening_words m) (data_place m) DS
  opening_data =
      let many = variables_many m.globals in
      data_there m DS (Refer (Some 1) ∷ Refer None ∷ GS) ZS 2 (data_place m)
      (Instance 0 (opening_words m) ∷ memory.Text (codes "$Sys") ∷ [])
      (omega (arith, many)) refl refl

  pub opening_variable : (x : ℕ) (g : GlobalVariable) (k : Kind) → slice_get m.globals x ≡ Some g → g.kind ≡ Some k → InRange k g.initial
      → number_at k (opening_words m) (pos (global_place m.globals k x)) ≡ Found g.initial
  opening_variable x g k e kind range = variable_there m.globals x g k front (data_words 2 DS ++ ZS) 8 e kind range refl

  pub opening_zeros : (j : ℕ) → zeros_place m ≤ 4 * j → 4 * j < zeros_place m + zeros_bytes m.functions m.functions
      → slice_get (opening_words m) j ≡ Some (Plain (pos 0))
  opening_zeros j low high =
      let a = variables_many m.globals in
      let b = data_many 2 DS in
      let ws = Refer (Some 1) ∷ Refer None ∷ (GS ++ data_words 2 DS) in
      let c = length-append GS (data_words 2 DS) in
      let many : 4 * length ws ≡ zeros_place m = omega (arith, a, b, c) in
      let all : opening_words m ≡ ws ++ ZS = ap (λ l. Refer (Some 1) ∷ Refer None ∷ l) (sym (append_assoc GS (data_words 2 DS) ZS)) in
      let at : j ≡ length ws + (j - length ws) = omega (arith, many, low) in
      ap (λ l. slice_get l j) all ∙ ap (slice_get (ws ++ ZS)) at ∙ get_behind ws ZS (j - length ws)
      ∙ get_replicate (zeros_bytes m.functions m.functions / 4) (j - length ws) (Plain (pos 0)) (let d =
      zeros_aligned m.functions m.functions in omega (arith, many, low, high, d))
