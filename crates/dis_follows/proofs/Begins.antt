-- What is begun: its arguments become zeros.
use Rattle.std.proofs.Common.{◌≡◌, ℕ, zero, suc, ◌+◌, ◌<◌, ◌≤◌, pos, ◌%◌, ◌/◌, ◌*◌, Bool, true, false, inl, List, [], ◌∷◌, length, map}
use Rattle.std.proofs.Common.{Option, Some, None, refl, sym, ap, ◌∙◌, subst, arith, max, if◌then◌else◌}
use Rattle.std.specs.Prelude.{◌==◌, slice_get}
use Rattle.std.specs.List.{range_with_len}
use Rattle.process_model.specs.Process.{Went}
use Rattle.dis_isa.specs.declared.inst.Middle.{Middle}
use Rattle.dis_isa.specs.declared.inst.Operand as isa
use Rattle.dis_isa.specs.declared.inst.Operand.TheVariants as operand
use Rattle.dis_isa.specs.declared.op.Op.TheVariants as op
use Rattle.dis_file.specs.declared.object.Object.{Object}
use Rattle.limbo_values.specs.declared.number.Kind.{Kind}
use Rattle.limbo_values.specs.declared.number.Kind.TheVariants.{Byte, Int, Big}
use Rattle.limbo_typed.specs.declared.print.Piece.{Piece}
use Rattle.system_model.specs.Limits.{frames_limit}
use Rattle.typed_meaning.specs.World as program
use Rattle.slot_code.specs.Code.{Inst, Begin, Format, Function, GlobalVariable, Module}
use Rattle.slot_code.specs.Layout.{end_of}
use Rattle.slot_code.specs.Machine as machine
use Rattle.slot_code.specs.Machine.{Made, no_arguments}
use Rattle.slot_code.specs.Step as slot_step
use Rattle.dis_meaning.specs.Words.{Word, Plain, Found, Wrong, ◌>>=◌, type_check, word_number, at_least_zero}
use Rattle.dis_meaning.specs.World.{World}
use Rattle.dis_meaning.specs.Process.{Process}
use Rattle.dis_meaning.specs.Places.{data_at, Spot, Own, Data, Memory, spot, words_at, place_in, with_words_at, given_of}
use Rattle.dis_meaning.specs.Step as dis_step
use Rattle.dis_meaning.specs.Step.{next, plains, all_replaced}
use Rattle.dis_objects.specs.Frames.{Callee, Calls, Prints, Room, room_of, made_at, whole, linkage_bytes, block_place, argument_bytes}
use Rattle.dis_objects.specs.Frames.{all_bytes, most_bytes, reference_words}
use Rattle.dis_objects.specs.Code.{Context, Datum, Text, Long, place, inst, zeroed, bytes_data, data_bytes, unless_fits, fits_middle}
use Rattle.dis_objects.specs.Code.{number_middle, size, globals_bytes}
use Rattle.dis_objects.specs.Code as objects
use Rattle.dis_objects.specs.Objects.{context, object_of, zeros_place, zeros_bytes, most_callee, callee_bytes, functions_data}
use Rattle.dis_objects.specs.Proper.{IsProper, GoesOn}
use Rattle.dis_follows.specs.Stands.{Known, IsGiven, HasData, Running, begins, WorldStands}
use Rattle.dis_follows.specs.Paces as paces
use Rattle.dis_follows.proofs.Rooms.{whole_least, most_least}
use Rattle.dis_follows.proofs.Places.{end_least}
use Rattle.dis_follows.proofs.Runs.{step_is, place_on, other_step}
use Rattle.dis_follows.proofs.Operands.{data_are, at_data}
use Rattle.dis_follows.proofs.Advances.{at_slot, at_word, advanced, steps_once}
use Rattle.dis_follows.proofs.Linkage.{get_some}
use Rattle.dis_follows.proofs.Rows as rows
use Rattle.dis_follows.proofs.Decided.{Goal}
use Rattle.dis_follows.proofs.Moved.{PlainFrom, AllPlain, reads, put}
use Rattle.dis_follows.proofs.Zeros.{begun, bytes_aligned, block_aligned}

-- ---- words that are moved

pub word_is : (at : ℕ) → at % 4 ≡ 0 → word_number (pos at) ≡ Found (at / 4)
word_is at e = ap (λ n. if n == 0 then Found (at / 4) else Wrong type_check) e

pub moves_words : (limit : ℕ) (o : Object) (x : World) (r : Process) (s d : isa.Operand) (mid : Middle) (sp dp : Spot)
    (from into vs after : List Word)
    (a n b : ℕ) (t : Memory) → spot x r s ≡ Found sp → words_at x r sp ≡ Found from → word_number (place_in sp) ≡ Found a
    → given_of Int x r mid ≡ Found (pos n) → n % 4 ≡ 0 → plains from a (n / 4) ≡ Found vs → spot x r d ≡ Found dp
    → words_at x r dp ≡ Found into
    → word_number (place_in dp) ≡ Found b → all_replaced into b vs ≡ Found after → with_words_at x r dp after ≡ Found t
    → dis_step.obey limit o x r (inst op.Movm s mid d) op.Movm ≡ Found (next t)
moves_words limit o x r s d mid sp dp from into vs after a n b t e1 e2 e3 e4 e5 e6 e7 e8 e9 e10 e11 =
    ap (λ q. q >>= λ s. words_at x r s >>= λ from. word_number (place_in s) >>= λ k. given_of Int x r mid >>= at_least_zero >>= λ bytes.
    word_number (pos bytes) >>= λ count. plains from k count >>= λ vs. spot x r d >>= λ d. words_at x r d >>= λ into.
    word_number (place_in d)
    >>= λ j. all_replaced into j vs >>= with_words_at x r d >>= λ m. Found (next m)) e1
    ∙ ap (λ q. q >>= λ from. word_number (place_in sp) >>= λ k. given_of Int x r mid >>= at_least_zero >>= λ bytes.
    word_number (pos bytes) >>= λ count. plains from k count >>= λ vs. spot x r d >>= λ d. words_at x r d >>= λ into.
    word_number (place_in d)
    >>= λ j. all_replaced into j vs >>= with_words_at x r d >>= λ m. Found (next m)) e2
    ∙ ap (λ q. q >>= λ k. given_of Int x r mid >>= at_least_zero >>= λ bytes.
    word_number (pos bytes) >>= λ count. plains from k count >>= λ vs. spot x r d >>= λ d. words_at x r d >>= λ into.
    word_number (place_in d)
    >>= λ j. all_replaced into j vs >>= with_words_at x r d >>= λ m. Found (next m)) e3
    ∙ ap (λ q. q >>= at_least_zero >>= λ bytes. word_number (pos bytes) >>= λ count. plains from a count >>= λ vs. spot x r d >>= λ d.
    words_at x r d >>= λ into. word_number (place_in d) >>= λ j. all_replaced into j vs >>= with_words_at x r d >>= λ m. Found (next m)) e4
    ∙ ap (λ q. q >>= λ count. plains from a count >>= λ vs. spot x r d >>= λ d. words_at x r d >>= λ into. word_number (place_in d)
    >>= λ j. all_replaced into j vs >>= with_words_at x r d >>= λ m. Found (next m)) (word_is n e5)
    ∙ ap (λ q. q >>= λ vs. spot x r d >>= λ d. words_at x r d >>= λ into. word_number (place_in d)
    >>= λ j. all_replaced into j vs >>= with_words_at x r d >>= λ m. Found (next m)) e6
    ∙ ap (λ q. q >>= λ d. words_at x r d >>= λ into. word_number (place_in d)
    >>= λ j. all_replaced into j vs >>= with_words_at x r d >>= λ m. Found (next m)) e7
    ∙ ap (λ q. q >>= λ into. word_number (place_in dp) >>= λ j. all_replaced into j vs >>= with_words_at x r dp >>= λ m. Found (next m)) e8
    ∙ ap (λ q. q >>= λ j. all_replaced into j vs >>= with_words_at x r dp >>= λ m. Found (next m)) e9
    ∙ ap (λ q. q >>= with_words_at x r dp >>= λ m. Found (next m)) e10
    ∙ ap (λ q. q >>= λ m. Found (next m)) e11

-- ---- zeros stand at whole words, as many as any callee has

globals_aligned : (gs : List GlobalVariable) → globals_bytes gs % 4 ≡ 0
globals_aligned [] = refl
globals_aligned (g ∷ gs) = let a = globals_aligned gs in go g.kind a
  where
    go : (k : Option Kind) → globals_bytes gs % 4 ≡ 0 → (objects.global_bytes k + globals_bytes gs) % 4 ≡ 0
    go None a = omega (arith, a)
    go (Some Byte) a = omega (arith, a)
    go (Some Int) a = omega (arith, a)
    go (Some Big) a = omega (arith, a)

data_aligned : (ds : List Datum) → data_bytes ds % 4 ≡ 0
data_aligned [] = refl
data_aligned (Text t ∷ ds) = let a = data_aligned ds in omega (arith, a)
data_aligned (objects.Word z ∷ ds) = let a = data_aligned ds in omega (arith, a)
data_aligned (Long z ∷ ds) = let a = data_aligned ds in omega (arith, a)

zeros_aligned : (m : Module) → zeros_place m % 4 ≡ 0
zeros_aligned m = let a = globals_aligned m.globals in let b = data_aligned (functions_data m.functions m.functions) in omega (arith, a, b)

most_in : (fs : List Function) (is : List Inst) (pc : ℕ) (i : Inst) → slice_get is pc ≡ Some i → callee_bytes fs i ≤ most_callee fs is
most_in fs [] pc i e = absurd cc
most_in fs (j ∷ is) zero i e =
    let same : j ≡ i = cc in subst (λ j. callee_bytes fs i ≤ max (callee_bytes fs j) (most_callee fs is)) (sym same) (omega arith)
most_in fs (j ∷ is) (suc pc) i e = let l = most_in fs is pc i e in omega (arith, l)

zeros_most : (all fs : List Function) (n : ℕ) (f : Function) → slice_get fs n ≡ Some f → most_callee all f.code ≤ zeros_bytes all fs
zeros_most all [] n f e = absurd cc
zeros_most all (g ∷ fs) zero f e =
    let same : g ≡ f = cc in
    subst (λ (g : Function). most_callee all f.code ≤ max (most_callee all g.code) (zeros_bytes all fs)) (sym same) (omega arith)
zeros_most all (g ∷ fs) (suc n) f e = let l = zeros_most all fs n f e in omega (arith, l)

-- ---- behind its variables a frame refers to nothing

pub get_far : {A : Type 0} (xs : List A) (j : ℕ) → length xs ≤ j → slice_get xs j ≡ None
get_far [] j l = refl
get_far (x ∷ xs) zero l = absurd (omega (arith, l))
get_far (x ∷ xs) (suc j) l = get_far xs j (omega (arith, l))

range_long : {A : Type 0} (f : ℕ → A) (from count : ℕ) → length (map f (range_with_len from count)) ≡ count
range_long f from zero = refl
range_long f from (suc n) = ap suc (range_long f (from + 1) n)

pub unmarked : (ks : List (Option Kind)) (j : ℕ) → whole (end_of linkage_bytes ks) ≤ 4 * j → slice_get (reference_words ks) j ≡ Some true
    → ⊥
unmarked ks j l e =
    let long = range_long
    (λ w. Rattle.dis_objects.specs.Frames.is_in (4 * w) (Rattle.dis_objects.specs.Frames.reference_places linkage_bytes ks)) 0
    (whole (end_of linkage_bytes ks) / 4) in
    let none = get_far (reference_words ks) j (omega (arith, long, l)) in
    let no : Some true ≡ None = sym e ∙ none in cc

-- ---- the step

module _ (m : Module) (proper : IsProper m) (k : Known) (number : ℕ) (w : program.World) (x : World) (ws : WorldStands m k w x)
    (p : machine.Process) (r : Process) (h : Running m k p r 0 []) where
  abbrev F : Function
  F = h.frame.function

  abbrev C : Context
  C = context m p.frame.function F

  abbrev CS : List Callee
  CS = made_at F.code p.frame.pc

  abbrev R : Room
  R = room_of m.functions F

  abbrev B : ℕ
  B = block_place m.functions R CS

  -- How many bytes they are is an immediate or stands in the data.
  count_read : (n at : ℕ) → HasData m ws.words at (bytes_data n) → given_of Int x r (number_middle (fits_middle (pos n)) (pos n) at)
      ≡ Found (pos n)
  count_read n at d = go (fits_middle (pos n)) d
    where
      go : (b : Bool) → HasData m ws.words at (unless_fits b (objects.Word (pos n))) → given_of Int x r (number_middle b (pos n) at)
          ≡ Found (pos n)
      go true d = refl
      go false d = at_data m k w x ws p.frame r F CS h.frame.has h.frame.instance h.frame.first Int at (pos n) d.0

  zeros_plain : (n : ℕ) → 4 * n ≤ zeros_bytes m.functions m.functions → PlainFrom ws.words (zeros_place m / 4) n
  zeros_plain n few i l =
      let a = zeros_aligned m in
      (Plain (pos 0), ws.has.zeros (zeros_place m / 4 + i) (omega (arith, a)) (omega (arith, a, l, few)), tt)

  block_plain : (b n : ℕ) → B ≡ 4 * b → B + 4 * n ≤ R.size → PlainFrom r.frame.words b n
  block_plain b n at last i l =
      let long = h.frame.has.long in
      let s = get_some r.frame.words (b + i) (omega (arith, long, at, last, l)) in
      (s.0, s.1, h.frame.has.plain (b + i) s.0 s.1 (unmarked F.variables (b + i) (omega (arith, at))))

  begin_goes : (i : Inst) → h.frame.inst ≡ i → size i ≡ 1 → (c : Callee) (ps : List Piece) (at : ℕ)
      → HasData m ws.words at (bytes_data (argument_bytes m.functions c))
      → slice_get (object_of m).insts (place C p.frame.pc) ≡ Some (zeroed C CS c at)
      → argument_bytes m.functions c ≤ zeros_bytes m.functions m.functions
      → GoesOn m F (c ∷ CS) (suc p.frame.pc) → IsGiven m c (record { arguments = no_arguments; format = ps })
      → slot_step.obey frames_limit m.functions w p i ≡ slot_step.begins w p ps
      → Goal m proper k number w x ws p r (dis_step.step frames_limit (object_of m ∷ []) x r)
  begin_goes i e one c ps at d code few on given does =
      let n = argument_bytes m.functions c in
      let na = bytes_aligned m c in
      let ba = block_aligned m F CS in
      let b = B / 4 in
      let b_is : B ≡ 4 * b = omega (arith, ba) in
      let n_is : n ≡ 4 * (n / 4) = omega (arith, na) in
      let most = most_least m.functions [] F.code (suc p.frame.pc) (let l = on.within in omega (arith, l)) in
      let fits : all_bytes m.functions (c ∷ CS) ≤ most_bytes m.functions [] F.code =
      subst (λ cs. all_bytes m.functions cs ≤ most_bytes m.functions [] F.code) on.made most in
      let rd = reads ws.words (zeros_place m / 4) (n / 4) (zeros_plain (n / 4) (omega (arith, few))) in
      let vs = rd.found in
      let vs_many : n ≡ 4 * length vs = n_is ∙ ap (λ n. 4 * n) (sym rd.many) in
      let vs_plain : AllPlain vs (length vs) = subst (AllPlain vs) (sym rd.many) rd.plain in
      let last : B + 4 * length vs ≤ R.size = omega (arith, vs_many, fits) in
      let pt = put r.frame.words b vs (block_plain b (length vs) b_is last) vs_plain in
      let za = zeros_aligned m in
      let zeros : (i : ℕ) → i < length vs → slice_get vs i ≡ Some (Plain (pos 0)) =
      λ i l. let mn = rd.many in rd.each i (omega (arith, l, mn))
      ∙ ws.has.zeros (zeros_place m / 4 + i) (omega (arith, za)) (omega (arith, za, l, mn, few)) in
      let has = begun m F CS c ps p.frame r.frame.words vs b h.frame.has fits b_is vs_many zeros pt given in
      let first = whole_least (end_of linkage_bytes F.variables) in
      let first' = end_least linkage_bytes F.variables in
      let linkage : slice_get pt.after 4 ≡ slice_get r.frame.words 4 = pt.others 4 (inl (omega (arith, b_is, first, first'))) in
      let g = record p.frame { made = (record { arguments = no_arguments; format = ps }) ∷ p.frame.made } in
      let run = advanced m k p r 0 [] h g pt.after (suc p.frame.pc) 0 (c ∷ CS) refl refl on has linkage in
      let on' = place_on C p.frame.pc h.frame.inst h.frame.there in
      let size_is : size h.frame.inst ≡ 1 = ap size e ∙ one in
      let behind : 0 + place C (suc p.frame.pc) ≡ suc r.frame.pc = omega (arith, on', size_is, h.frame.here) in
      let run' = subst (λ n. Running m k (at_slot m k p r 0 [] h g (suc p.frame.pc)) (at_word m k p r 0 [] h pt.after n) 0 []) behind run in
      let there = rows.at_row m proper k w x ws p r 0 h (zeroed C CS c at) (place C p.frame.pc) (omega arith) code in
      let instance : data_at x r.frame.instance ≡ Found ws.words = ap (data_at x) h.frame.instance ∙ data_are m k w x ws in
      let steps : dis_step.step frames_limit (object_of m ∷ []) x r ≡ Went x (at_word m k p r 0 [] h pt.after (suc r.frame.pc)) =
      step_is m k w x r (zeroed C CS c at) (Went x (at_word m k p r 0 [] h pt.after (suc r.frame.pc))) ws h.frame.instance there
      (moves_words frames_limit (object_of m) x r (operand.Mp (pos (zeros_place m))) (operand.Fp (pos B))
      (number_middle (fits_middle (pos n)) (pos n) at)
      (Data (pos (zeros_place m))) (Own (pos B)) ws.words r.frame.words vs pt.after (zeros_place m / 4) n b _ refl instance
      (word_is (zeros_place m) za) (count_read n at d) na rd.is refl refl (word_is B ba) pt.is refl) in
      subst (Goal m proper k number w x ws p r) (sym steps)
      (steps_once m (paces.place m) k number x w p (paces.place m r) w (at_slot m k p r 0 [] h g (suc p.frame.pc)) x
      (at_word m k p r 0 [] h pt.after (suc r.frame.pc))
      (other_step m proper k w x ws p r 0 [] h ∙ ap (slot_step.obey frames_limit m.functions w p) e ∙ does) (begins run') ws)

  pub begins_goes : (n : ℕ) → h.frame.inst ≡ Begin n → Goal m proper k number w x ws p r (dis_step.step frames_limit (object_of m ∷ []) x r)
  begins_goes n e =
      let c = rows.coded_at m proper k w x ws p r 0 h (Begin n) e in
      let q = rows.proper_at m proper k w x ws p r 0 h (Begin n) e in
      let most = most_in m.functions F.code p.frame.pc h.frame.inst h.frame.there in
      let most' : argument_bytes m.functions (Calls n) ≤ most_callee m.functions F.code =
      subst (λ i. callee_bytes m.functions i ≤ most_callee m.functions F.code) e most in
      let all = zeros_most m.functions m.functions p.frame.function F h.frame.found in
      begin_goes (Begin n) e refl (Calls n) [] c.at c.constants c.code.0 (omega (arith, most', all)) q.2 (λ f there j l. refl) refl

  pub format_goes : (ps : List Piece) → h.frame.inst ≡ Format ps
      → Goal m proper k number w x ws p r (dis_step.step frames_limit (object_of m ∷ []) x r)
  format_goes ps e =
      let c = rows.coded_at m proper k w x ws p r 0 h (Format ps) e in
      let q = rows.proper_at m proper k w x ws p r 0 h (Format ps) e in
      let most = most_in m.functions F.code p.frame.pc h.frame.inst h.frame.there in
      let most' : argument_bytes m.functions (Prints ps) ≤ most_callee m.functions F.code =
      subst (λ i. callee_bytes m.functions i ≤ most_callee m.functions F.code) e most in
      let all = zeros_most m.functions m.functions p.frame.function F h.frame.found in
      begin_goes (Format ps) e refl (Prints ps) ps c.at c.constants c.code.0 (omega (arith, most', all)) q refl refl
