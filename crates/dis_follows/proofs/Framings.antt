-- A call and a print begin with a frame.
use Rattle.std.proofs.Common.{◌≡◌, ℕ, zero, suc, ◌+◌, ◌<◌, ◌≤◌, pos, ◌%◌, ◌/◌, ◌*◌, true, false, List, [], ◌∷◌, ◌++◌, length, map, Some}
use Rattle.std.proofs.Common.{None, refl, sym, ap, ◌∙◌, subst, arith, if◌then◌else◌}
use Rattle.std.specs.Prelude.{slice_get, replicate}
use Rattle.dis_isa.specs.declared.inst.Inst as code_inst
use Rattle.dis_file.specs.declared.types.TypeDesc.{TypeDesc}
use Rattle.limbo_values.specs.declared.number.Kind.{Kind}
use Rattle.system_model.specs.Limits.{frames_limit}
use Rattle.typed_meaning.specs.World as program
use Rattle.slot_code.specs.Code.{Spot, Inst, Call, Print, Format, Function, Module}
use Rattle.slot_code.specs.Machine as machine
use Rattle.slot_code.specs.Machine.{Made}
use Rattle.dis_meaning.specs.Words.{Word, Plain, Refer, blank, blank_word}
use Rattle.dis_meaning.specs.World.{World}
use Rattle.dis_meaning.specs.Process.{Process}
use Rattle.dis_meaning.specs.Step as dis_step
use Rattle.dis_meaning.specs.Step.{with_frame_made}
use Rattle.dis_objects.specs.Frames.{Callee, Calls, Prints, Room, room_of, made_at}
use Rattle.dis_objects.specs.Code.{Context, place, calling, printing, size}
use Rattle.dis_objects.specs.Objects.{context, object_of, frame_desc, print_desc, most_of_all, most_printed}
use Rattle.dis_objects.specs.Proper.{IsProper}
use Rattle.dis_follows.specs.Numbers.{IsPlain}
use Rattle.dis_follows.specs.Stands.{Known, AllReady, ArePlain, Running, Ready, framed, prints, WorldStands}
use Rattle.dis_follows.specs.Paces as paces
use Rattle.dis_follows.proofs.Marks.{marks_is}
use Rattle.dis_follows.proofs.Lookups.{HasAt}
use Rattle.dis_follows.proofs.Runs.{with_frame, more_frames}
use Rattle.dis_follows.proofs.Frames.{get_within}
use Rattle.dis_follows.proofs.Advances.{rests}
use Rattle.dis_follows.proofs.Paces.{place_is}
use Rattle.dis_follows.proofs.JumpsOn.{begin_place}
use Rattle.dis_follows.proofs.Blanks.{blank_frame, length_blanks, get_blanks, blank_plain}
use Rattle.dis_follows.proofs.Makes.{Makes, makes, more_stands, new_one, with_one}
use Rattle.dis_follows.proofs.Rows as rows
use Rattle.dis_follows.proofs.Decided.{Goal}

-- ---- types

pub get_mapped : {A B : Type 0} (f : A → B) (xs : List A) (ys : List B) (n : ℕ) (x : A) → slice_get xs n ≡ Some x
    → slice_get (map f xs ++ ys) n ≡ Some (f x)
get_mapped f [] ys n x e = absurd cc
get_mapped f (y ∷ xs) ys zero x e = let same : y ≡ x = cc in ap (λ y. Some (f y)) same
get_mapped f (y ∷ xs) ys (suc n) x e = get_mapped f xs ys n x e

get_last : {A B : Type 0} (f : A → B) (xs : List A) (y : B) → slice_get (map f xs ++ y ∷ []) (length xs) ≡ Some y
get_last f [] y = refl
get_last f (x ∷ xs) y = get_last f xs y

-- ---- what is made ready first

pub record First (m : Module) (words : List Word) (r : Room) (c : Callee) (cs : List Callee) (mades : List Made) : Type 0 where
  pub ready : Made
  pub others : List Made
  pub is : mades ≡ ready ∷ others

pub first_ready : (m : Module) (words : List Word) (r : Room) (c : Callee) (cs : List Callee) (mades : List Made)
    → AllReady m words r (c ∷ cs) mades
    → First m words r c cs mades
first_ready m words r c cs [] h = absurd h
first_ready m words r c cs (made ∷ mades) h = record { ready = made; others = mades; is = refl }

-- ---- the frames of prints are whole words

most_aligned : (is : List Inst) → most_printed is % 4 ≡ 0
most_aligned [] = refl
most_aligned (Format ps ∷ is) = let a = most_aligned is in omega (arith, a)
most_aligned (i ∷ is) = let a = most_aligned is in omega (arith, a)

all_aligned : (fs : List Function) → most_of_all fs % 4 ≡ 0
all_aligned [] = refl
all_aligned (f ∷ fs) = let a = most_aligned f.code in let b = all_aligned fs in omega (arith, a, b)

pub most_least : (fs : List Function) → 36 ≤ most_of_all fs
most_least [] = omega arith
most_least (f ∷ fs) = let l = most_least fs in omega (arith, l)

module _ (m : Module) (proper : IsProper m) (k : Known) (number : ℕ) (w : program.World) (x : World) (ws : WorldStands m k w x)
    (p : machine.Process) (r : Process) (h : Running m k p r 0 []) where
  abbrev F : Function
  F = h.frame.function

  abbrev C : Context
  C = context m p.frame.function F

  abbrev CS : List Callee
  CS = made_at F.code p.frame.pc

  abbrev P : ℕ
  P = place C p.frame.pc

  -- The other stands still, and this is one instruction further.
  further : (desc : TypeDesc) (t : Makes m proper k w x ws p r h desc) (i : Inst) → h.frame.inst ≡ i → (1 < size i) → (j : code_inst.Inst)
      → slice_get (object_of m).insts (suc P) ≡ Some j → paces.op_rank j.op r.below 1 ≡ 4
      → Ready m (with_frame k) p (with_one m proper k w x ws p r h t.words (1 + P) (new_one m proper k w x ws p r h desc ∷ []))
      → Goal m proper k number w x ws p r (dis_step.step frames_limit (object_of m ∷ []) x r)
  further desc t i e several j code rank ready =
      let r' = with_one m proper k w x ws p r h t.words (1 + P) (new_one m proper k w x ws p r h desc ∷ []) in
      let begin = begin_place m proper k p r h in
      let several' : 1 < size h.frame.inst = subst (λ i. 1 < size i) (sym e) several in
      let far = place_is m r' p.frame.function F p.frame.pc h.frame.inst 1 h.frame.found h.frame.there several' refl
      ∙ ap (λ i. paces.rank i r.below 1) (ap (slice_get (object_of m).insts) (let q : 1 + P ≡ suc P = omega arith in q) ∙ code) in
      subst (Goal m proper k number w x ws p r) (sym t.steps)
      (rests m (paces.place m) k number x w p (paces.place m r) (with_frame k) (with_frame_made x) r' (more_frames k) ready
      (more_stands m proper k w x ws p r h) (omega (arith, begin, far, rank)))

  pub call_frames : (j : Kind) (g n : ℕ) (into : Spot) → h.frame.inst ≡ Call j g n into
      → Goal m proper k number w x ws p r (dis_step.step frames_limit (object_of m ∷ []) x r)
  call_frames j g n into e =
      let i = Call j g n into in
      let c = rows.coded_at m proper k w x ws p r 0 h i e in
      let q = (rows.proper_at m proper k w x ws p r 0 h i e).0 in
      let code : HasAt (object_of m).insts P (calling C c.at g into (Calls g ∷ q.others)) =
      subst (λ cs. HasAt (object_of m).insts P (calling C c.at g into cs)) q.last c.code in
      let desc = frame_desc m.functions q.function in
      let t = makes m proper k w x ws p r h (suc g) desc
      (get_mapped (frame_desc m.functions) m.functions (print_desc m.functions ∷ []) g q.function q.there)
      code.0 in
      let ready : AllReady m r.frame.words (room_of m.functions F) (Calls g ∷ q.others) p.frame.made =
      subst (λ cs. AllReady m r.frame.words (room_of m.functions F) cs p.frame.made) q.last h.frame.has.made in
      let first = first_ready m r.frame.words (room_of m.functions F) (Calls g) q.others p.frame.made ready in
      further desc t i e (omega arith) _ code.1.0 refl
      (framed (new_one m proper k w x ws p r h desc) (record {
        making = t.making;
        kind = j;
        number = g;
        arguments = n;
        into = into;
        is = t.same ∙ e;
        callee = q.function;
        found = q.there;
        ready = first.ready;
        others = first.others;
        first = first.is;
      }) (blank_frame m q.function g))

  pub print_frames : (n : ℕ) (into : Spot) → h.frame.inst ≡ Print n into
      → Goal m proper k number w x ws p r (dis_step.step frames_limit (object_of m ∷ []) x r)
  print_frames n into e =
      let i = Print n into in
      let c = rows.coded_at m proper k w x ws p r 0 h i e in
      let q = (rows.proper_at m proper k w x ws p r 0 h i e).0 in
      let code : HasAt (object_of m).insts P (printing C c.at into (Prints q.pieces ∷ q.others)) =
      subst (λ cs. HasAt (object_of m).insts P (printing C c.at into cs)) q.last c.code in
      let desc = print_desc m.functions in
      let t = makes m proper k w x ws p r h (suc (length m.functions)) desc
      (get_last (frame_desc m.functions) m.functions (print_desc m.functions))
      code.0 in
      let ready : AllReady m r.frame.words (room_of m.functions F) (Prints q.pieces ∷ q.others) p.frame.made =
      subst (λ cs. AllReady m r.frame.words (room_of m.functions F) cs p.frame.made) q.last h.frame.has.made in
      let first = first_ready m r.frame.words (room_of m.functions F) (Prints q.pieces) q.others p.frame.made ready in
      let a = all_aligned m.functions in
      let long : 4 * (most_of_all m.functions / 4) ≡ most_of_all m.functions = omega (arith, a) in
      let count = length_blanks desc 0 (most_of_all m.functions / 4) in
      further desc t i e (omega arith) _ code.1.0 refl
      (prints (new_one m proper k w x ws p r h desc) (record {
        making = t.making;
        arguments = n;
        into = into;
        is = t.same ∙ e;
        pieces = q.pieces;
        cs = q.others;
        callee = ap (λ (f : Function). made_at f.code p.frame.pc) t.function ∙ q.last;
        ready = first.ready;
        others = first.others;
        first = first.is;
        long = ap (λ n. 4 * n) count ∙ long;
        plain = plain;
      }) refers)
    where
      refers : slice_get (blank (print_desc m.functions)) 8 ≡ Some (Refer None)
      refers =
          let least = most_least m.functions in
          get_blanks (print_desc m.functions) 0 (most_of_all m.functions / 4) 8 (omega (arith, least))
          ∙ ap (λ b. Some (if b then Refer None else Plain (pos 0))) (marks_is (replicate 8 false ++ true ∷ []) 8)

      plain : ArePlain (replicate 8 false ++ true ∷ []) (blank (print_desc m.functions))
      plain j v e free =
          let desc = print_desc m.functions in
          let l = get_within (blank desc) j v e in
          let c = length_blanks desc 0 (most_of_all m.functions / 4) in
          let zero_plus : 0 + j ≡ j = omega arith in
          let is : slice_get (blank desc) j ≡ Some (Plain (pos 0)) =
          get_blanks desc 0 (most_of_all m.functions / 4) j (omega (arith, l, c)) ∙ ap (λ j. Some (blank_word desc j)) zero_plus
          ∙ ap Some (blank_plain (replicate 8 false ++ true ∷ []) (most_of_all m.functions) j free) in
          let same : Some (Plain (pos 0)) ≡ Some v = sym is ∙ e in
          let same' : Plain (pos 0) ≡ v = cc in subst IsPlain same' tt
